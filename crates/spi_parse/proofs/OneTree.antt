-- A tree whose pieces the tokens spell is filled with its own spans, so it is the only one of its form.
use Rattle.std.proofs.Common.{◌≡◌, ℕ, ◌+◌, ◌==◌, Bool, true, false, List, [], ◌∷◌, map, Option, Some, None, refl, sym, ap, ◌∙◌}
use Rattle.std.specs.Prelude.{codes, if◌then◌else◌}
use Rattle.spi_text.specs.declared.lines.Span.{Span}
use Rattle.spi_lex.specs.declared.token.Kind.{Kind}
use Rattle.spi_lex.specs.declared.token.Kind.TheVariants as kinds
use Rattle.spi_lex.specs.declared.token.Mark.TheVariants as mark
use Rattle.spi_lex.specs.declared.token.Token.{Token}
use Rattle.spi_lex.specs.Lexing.{kinds_of}
use Rattle.spi_tree.specs.declared.tree.SWord.{SWord}
use Rattle.spi_tree.specs.Trees as t
use Rattle.spi_tree.specs.Pieces.{Piece, opens, cell, closes, kinds_in, a_token, a_number, a_mark, a_word, named_pieces, binder_pieces, Place, in_seq, at_level, level_of, below, beside_place, version_pieces, file_pieces, msg_pieces, msgs_pieces, atom_pieces, atoms_pieces, effect_pieces, ty_pieces, fields_pieces, last_pieces, proc_pieces, words_pieces, decl_pieces, decls_pieces, step_pieces, steps_pieces, written_pieces, deriv_pieces, derivs_pieces, opponent_pieces, schedule_pieces, derivation_pieces}
use Rattle.spi_parse.specs.Bare.{bare_word, bare_msg, bare_msgs, bare_atom, bare_ty, bare_fields, bare_last, bare_proc, bare_decl, bare_step, bare_written, bare_deriv, bare_derivs, bare_opponent, bare_schedule, bare_derivation, bare_file}
use Rattle.spi_parse.specs.Exact.{Spells}
use Rattle.spi_parse.specs.Formed.{IsFile, whole_file}
use Rattle.spi_parse.proofs.Filled.{FilledRest, starts, past, between, fill_word, after_msg, after_msgs, after_atom, after_atoms, after_effect, after_ty, after_fields, after_last, after_proc, after_words, after_decl, after_decls, after_step, after_steps, after_written, after_deriv, after_derivs, after_opponent, after_schedule, after_derivation, after_version, fill_msg, fill_msgs, fill_atom, fill_atoms, fill_effect, fill_ty, fill_fields, fill_last, fill_proc, fill_words, fill_decl, fill_decls, fill_step, fill_steps, fill_written, fill_deriv, fill_derivs, fill_opponent, fill_schedule, fill_derivation, fill_file}
use Rattle.spi_parse.proofs.Unique.{same_tokens}

spans : {f e : ℕ} (s : Span) → f ≡ s.from → e ≡ s.to → record { from = f; to = e } ≡ s
spans s p q = rw (p, q) refl

module _ (left : List Token) where
  -- what is left spells these pieces
  pub record Spelled (ps : List Piece) (a : FilledRest) : Type 0 where
    pub by : Spells left a.end ps a.tokens

  opened : {from : ℕ} {ps : List Piece} {a : FilledRest} → Spelled (opens from ∷ ps) a → (starts a ≡ from) × Spelled ps a
  unfolding starts
  opened {from = from} {ps = ps} {a = a} h = go a.tokens h.by
    where
      go : (ts : List Token) → Spells left a.end (opens from ∷ ps) ts → (starts (record { end = a.end; tokens = ts }) ≡ from) × Spelled ps (record { end = a.end; tokens = ts })
      go [] k = absurd k
      go (t ∷ ts) k = (k.0, record { by = k.1 })

  passed : {k : Kind} {deep : Bool} {ps : List Piece} {a : FilledRest} → Spelled (cell k deep ∷ ps) a → Spelled ps (past a)
  unfolding past
  passed {k = k} {deep = deep} {ps = ps} {a = a} h = go a.tokens h.by
    where
      go : (ts : List Token) → Spells left a.end (cell k deep ∷ ps) ts → Spelled ps (past (record { end = a.end; tokens = ts }))
      go [] j = absurd j
      go (t ∷ ts) j = record { by = j.2 }

  closed : {to : ℕ} {ps : List Piece} {a : FilledRest} → Spelled (closes to ∷ ps) a → (a.end ≡ to) × Spelled ps a
  closed h = (h.by.0, record { by = h.by.1 })

  one_word : (w : SWord) {deep : Bool} {r : List Piece} {a : FilledRest} → Spelled (a_word deep w r) a → (fill_word (bare_word w) a ≡ w) × Spelled r (past a)
  unfolding fill_word
  one_word w h =
      let o = opened h in let z = closed (passed o.1) in
      (rw (spans w.span o.0 z.0) refl, z.1)

  mutual
    pub one_msg : (x : t.Msg) (n : ℕ) (a : FilledRest) (r : List Piece) → Spelled (msg_pieces n x r) a → (fill_msg (bare_msg x) a ≡ x) × Spelled r (after_msg (bare_msg x) a)
    one_msg (t.name s w) n a r h =
        let o = opened h in let h1 = one_word w o.1 in let z = closed h1.1 in
        (rw (spans s o.0 z.0, h1.0) refl, z.1)
    one_msg (t.unit s) n a r h =
        let o = opened h in let h1 = passed o.1 in let h2 = passed h1 in let z = closed h2 in
        (rw (spans s o.0 z.0) refl, z.1)
    one_msg (t.tuple s x y xs) n a r h =
        let o = opened h in let h1 = passed o.1 in let h2 = one_msg x (n + 1) _ _ h1 in let h3 = passed h2.1 in let h4 = one_msg y (n + 1) _ _ h3 in let h5 = one_msgs xs (n + 1) _ _ h4.1 in let h6 = passed h5.1 in let z = closed h6 in
        (rw (spans s o.0 z.0, h2.0, h4.0, h5.0) refl, z.1)
    one_msg (t.inl s x) n a r h =
        let o = opened h in let h1 = passed o.1 in let h2 = one_msg x (n + 1) _ _ h1 in let z = closed h2.1 in
        (rw (spans s o.0 z.0, h2.0) refl, z.1)
    one_msg (t.inr s x) n a r h =
        let o = opened h in let h1 = passed o.1 in let h2 = one_msg x (n + 1) _ _ h1 in let z = closed h2.1 in
        (rw (spans s o.0 z.0, h2.0) refl, z.1)
    one_msg (t.enc s x y) n a r h =
        let o = opened h in let h1 = passed o.1 in let h2 = one_msg x (n + 1) _ _ h1 in let h3 = passed h2.1 in let h4 = one_msg y (n + 1) _ _ h3 in let z = closed h4.1 in
        (rw (spans s o.0 z.0, h2.0, h4.0) refl, z.1)
    one_msg (t.hash s x) n a r h =
        let o = opened h in let h1 = passed o.1 in let h2 = passed h1 in let h3 = one_msg x (n + 1) _ _ h2 in let h4 = passed h3.1 in let z = closed h4 in
        (rw (spans s o.0 z.0, h3.0) refl, z.1)
    one_msg (t.num s i) n a r h =
        let o = opened h in let h1 = passed o.1 in let h2 = passed h1 in let z = closed h2 in
        (rw (spans s o.0 z.0) refl, z.1)

    pub one_msgs : (x : t.Msgs) (n : ℕ) (a : FilledRest) (r : List Piece) → Spelled (msgs_pieces n x r) a → (fill_msgs (bare_msgs x) a ≡ x) × Spelled r (after_msgs (bare_msgs x) a)
    one_msgs t.no_msgs n a r h = (refl, h)
    one_msgs (t.more_msgs x xs) n a r h =
        let h1 = passed h in let h2 = one_msg x n _ _ h1 in let h3 = one_msgs xs n _ _ h2.1 in
        (rw (h2.0, h3.0) refl, h3.1)

  -- a word and a message behind it
  one_behind : {X : Type 0} (c : Span → t.Msg → X) (s : Span) {k : Kind} {deep : Bool} (x : t.Msg) (n : ℕ) (a : FilledRest) (r : List Piece)
      → Spelled (opens s.from ∷ cell k deep ∷ msg_pieces n x (closes s.to ∷ r)) a
      → (c (between a (after_msg (bare_msg x) (past a))) (fill_msg (bare_msg x) (past a)) ≡ c s x) × Spelled r (after_msg (bare_msg x) (past a))
  one_behind c s x n a r h =
      let o = opened h in let h1 = passed o.1 in let h2 = one_msg x n _ _ h1 in let z = closed h2.1 in
      (rw (spans s o.0 z.0, h2.0) refl, z.1)

  pub one_atom : (x : t.Atom) (n : ℕ) (a : FilledRest) (r : List Piece) → Spelled (atom_pieces n x r) a → (fill_atom (bare_atom x) a ≡ x) × Spelled r (after_atom (bare_atom x) a)
  one_atom (t.ends s x) n a r h = one_behind t.ends s x (n + 1) a r h
  one_atom (t.checks s x) n a r h = one_behind t.checks s x (n + 1) a r h
  one_atom (t.many s x) n a r h = one_behind t.many s x (n + 1) a r h

  pub one_atoms : (x : List t.Atom) (n : ℕ) (a : FilledRest) (r : List Piece) → Spelled (atoms_pieces n x r) a → (fill_atoms (map bare_atom x) a ≡ x) × Spelled r (after_atoms (map bare_atom x) a)
  one_atoms [] n a r h = (refl, h)
  one_atoms (e ∷ es) n a r h =
      let h1 = passed h in let h2 = one_atom e n _ _ h1 in let h3 = one_atoms es n _ _ h2.1 in
      (rw (h2.0, h3.0) refl, h3.1)

  pub one_effect : (x : List t.Atom) (n : ℕ) (a : FilledRest) (r : List Piece) → Spelled (effect_pieces n x r) a → (fill_effect (map bare_atom x) a ≡ x) × Spelled r (after_effect (map bare_atom x) a)
  one_effect [] n a r h =
      let h1 = passed h in let h2 = passed h1 in
      (refl, h2)
  one_effect (e ∷ es) n a r h =
      let h1 = passed h in let h2 = one_atom e n _ _ h1 in let h3 = one_atoms es n _ _ h2.1 in let h4 = passed h3.1 in
      (rw (h2.0, h3.0) refl, h4)

  mutual
    pub one_ty : (x : t.Ty) (n : ℕ) (a : FilledRest) (r : List Piece) → Spelled (ty_pieces n x r) a → (fill_ty (bare_ty x) a ≡ x) × Spelled r (after_ty (bare_ty x) a)
    one_ty (t.un s) n a r h =
        let o = opened h in let h1 = passed o.1 in let z = closed h1 in
        (rw (spans s o.0 z.0) refl, z.1)
    one_ty (t.unit_ty s) n a r h =
        let o = opened h in let h1 = passed o.1 in let h2 = passed h1 in let z = closed h2 in
        (rw (spans s o.0 z.0) refl, z.1)
    one_ty (t.tuple_ty s w x fs l) n a r h =
        let o = opened h in let h1 = passed o.1 in let h2 = one_word w h1 in let h3 = passed h2.1 in let h4 = one_ty x (n + 1) _ _ h3 in let h5 = passed h4.1 in let h6 = one_fields fs (n + 1) _ _ h5 in let h7 = one_last l (n + 1) _ _ h6.1 in let h8 = passed h7.1 in let z = closed h8 in
        (rw (spans s o.0 z.0, h2.0, h4.0, h6.0, h7.0) refl, z.1)
    one_ty (t.sum s x y) n a r h =
        let o = opened h in let h1 = passed o.1 in let h2 = one_ty x (n + 1) _ _ h1 in let h3 = passed h2.1 in let h4 = one_ty y (n + 1) _ _ h3 in let h5 = passed h4.1 in let z = closed h5 in
        (rw (spans s o.0 z.0, h2.0, h4.0) refl, z.1)
    one_ty (t.key s x) n a r h =
        let o = opened h in let h1 = passed o.1 in let h2 = passed h1 in let h3 = one_ty x (n + 1) _ _ h2 in let h4 = passed h3.1 in let z = closed h4 in
        (rw (spans s o.0 z.0, h3.0) refl, z.1)
    one_ty (t.nonce s es) n a r h =
        let o = opened h in let h1 = passed o.1 in let h2 = one_effect es (n + 1) _ _ h1 in let z = closed h2.1 in
        (rw (spans s o.0 z.0, h2.0) refl, z.1)
    one_ty (t.abbr s w) n a r h =
        let o = opened h in let h1 = one_word w o.1 in let z = closed h1.1 in
        (rw (spans s o.0 z.0, h1.0) refl, z.1)

    pub one_fields : (x : t.Fields) (n : ℕ) (a : FilledRest) (r : List Piece) → Spelled (fields_pieces n x r) a → (fill_fields (bare_fields x) a ≡ x) × Spelled r (after_fields (bare_fields x) a)
    one_fields t.no_fields n a r h = (refl, h)
    one_fields (t.more_fields w x fs) n a r h =
        let h1 = one_word w h in let h2 = passed h1.1 in let h3 = one_ty x n _ _ h2 in let h4 = passed h3.1 in let h5 = one_fields fs n _ _ h4 in
        (rw (h1.0, h3.0, h5.0) refl, h5.1)

    pub one_last : (x : t.Last) (n : ℕ) (a : FilledRest) (r : List Piece) → Spelled (last_pieces n x r) a → (fill_last (bare_last x) a ≡ x) × Spelled r (after_last (bare_last x) a)
    one_last (t.bare x) n a r h =
        let h1 = one_ty x n _ _ h in
        (rw h1.0 refl, h1.1)
    one_last (t.named w x) n a r h =
        let h1 = one_word w h in let h2 = passed h1.1 in let h3 = one_ty x n _ _ h2 in
        (rw (h1.0, h3.0) refl, h3.1)

  one_named : (w : SWord) (x : t.Ty) (a : FilledRest) (r : List Piece) → Spelled (named_pieces w x r) a → (fill_word (bare_word w) a ≡ w) × (fill_ty (bare_ty x) (past (past a)) ≡ x) × Spelled r (after_ty (bare_ty x) (past (past a)))
  one_named w x a r h =
      let h1 = one_word w h in let h2 = one_ty x 1 _ _ (passed h1.1) in
      (h1.0, h2.0, h2.1)

  one_binder : (w : SWord) (x : t.Ty) (a : FilledRest) (r : List Piece) → Spelled (binder_pieces w x r) a → (fill_word (bare_word w) (past a) ≡ w) × (fill_ty (bare_ty x) (past (past (past a))) ≡ x) × Spelled r (past (past (after_ty (bare_ty x) (past (past (past a))))))
  one_binder w x a r h =
      let h1 = one_named w x _ _ (passed h) in
      (h1.0, h1.1, passed (passed h1.2))

  pub one_proc : (x : t.Proc) (k : Place) (a : FilledRest) (r : List Piece) → Spelled (proc_pieces k x r) a → (fill_proc (bare_proc x) a ≡ x) × Spelled r (after_proc (bare_proc x) a)
  one_proc (t.par s p q) k a r h =
      let o = opened h in let h1 = one_proc p (in_seq (level_of k + 1)) _ _ o.1 in let h2 = passed h1.1 in let h3 = one_proc q (at_level (level_of k + 1)) _ _ h2 in let z = closed h3.1 in
      (rw (spans s o.0 z.0, h1.0, h3.0) refl, z.1)
  one_proc (t.out s m n) k a r h =
      let o = opened h in let h1 = passed o.1 in let h2 = one_msg m 1 _ _ h1 in let h3 = one_msg n 1 _ _ h2.1 in let z = closed h3.1 in
      (rw (spans s o.0 z.0, h2.0, h3.0) refl, z.1)
  one_proc (t.out_then s m n p) k a r h =
      let o = opened h in let h1 = passed o.1 in let h2 = one_msg m 1 _ _ h1 in let h3 = one_msg n 1 _ _ h2.1 in let h4 = passed h3.1 in let h5 = one_proc p (below k) _ _ h4 in let z = closed h5.1 in
      (rw (spans s o.0 z.0, h2.0, h3.0, h5.0) refl, z.1)
  one_proc (t.inp s m w b p) k a r h =
      let o = opened h in let h1 = passed o.1 in let h2 = one_msg m 1 _ _ h1 in let h3 = one_binder w b _ _ h2.1 in let h4 = one_proc p (below k) _ _ h3.2 in let z = closed h4.1 in
      (rw (spans s o.0 z.0, h2.0, h3.0, h3.1, h4.0) refl, z.1)
  one_proc (t.repeat s m w b p) k a r h =
      let o = opened h in let h1 = passed o.1 in let h2 = passed h1 in let h3 = one_msg m 1 _ _ h2 in let h4 = one_binder w b _ _ h3.1 in let h5 = one_proc p (below k) _ _ h4.2 in let z = closed h5.1 in
      (rw (spans s o.0 z.0, h3.0, h4.0, h4.1, h5.0) refl, z.1)
  one_proc (t.split s m w b x c p) k a r h =
      let o = opened h in let h1 = passed o.1 in let h2 = one_msg m 1 _ _ h1 in let h3 = passed h2.1 in let h4 = passed h3 in let h5 = one_named w b _ _ h4 in let h6 = passed h5.2 in let h7 = one_named x c _ _ h6 in let h8 = passed h7.2 in let h9 = passed h8 in let h10 = one_proc p (below k) _ _ h9 in let z = closed h10.1 in
      (rw (spans s o.0 z.0, h2.0, h5.0, h5.1, h7.0, h7.1, h10.0) refl, z.1)
  one_proc (t.match s m w b n x c p) k a r h =
      let o = opened h in let h1 = passed o.1 in let h2 = one_msg m 1 _ _ h1 in let h3 = passed h2.1 in let h4 = passed h3 in let h5 = one_named w b _ _ h4 in let h6 = passed h5.2 in let h7 = one_msg n 1 _ _ h6 in let h8 = passed h7.1 in let h9 = one_named x c _ _ h8 in let h10 = passed h9.2 in let h11 = passed h10 in let h12 = one_proc p (below k) _ _ h11 in let z = closed h12.1 in
      (rw (spans s o.0 z.0, h2.0, h5.0, h5.1, h7.0, h9.0, h9.1, h12.0) refl, z.1)
  one_proc (t.case s m w b p x c q) k a r h =
      let o = opened h in let h1 = passed o.1 in let h2 = one_msg m 1 _ _ h1 in let h3 = passed h2.1 in let h4 = passed h3 in let h5 = one_binder w b _ _ h4 in let h6 = one_proc p (below k) _ _ h5.2 in let h7 = passed h6.1 in let h8 = passed h7 in let h9 = one_binder x c _ _ h8 in let h10 = one_proc q (below k) _ _ h9.2 in let z = closed h10.1 in
      (rw (spans s o.0 z.0, h2.0, h5.0, h5.1, h6.0, h9.0, h9.1, h10.0) refl, z.1)
  one_proc (t.decrypt s m w b n p) k a r h =
      let o = opened h in let h1 = passed o.1 in let h2 = one_msg m 1 _ _ h1 in let h3 = passed h2.1 in let h4 = passed h3 in let h5 = one_named w b _ _ h4 in let h6 = passed h5.2 in let h7 = one_msg n 1 _ _ h6 in let h8 = passed h7.1 in let h9 = one_proc p (below k) _ _ h8 in let z = closed h9.1 in
      (rw (spans s o.0 z.0, h2.0, h5.0, h5.1, h7.0, h9.0) refl, z.1)
  one_proc (t.check s m n p) k a r h =
      let o = opened h in let h1 = passed o.1 in let h2 = one_msg m 1 _ _ h1 in let h3 = passed h2.1 in let h4 = one_msg n 1 _ _ h3 in let h5 = passed h4.1 in let h6 = one_proc p (below k) _ _ h5 in let z = closed h6.1 in
      (rw (spans s o.0 z.0, h2.0, h4.0, h6.0) refl, z.1)
  one_proc (t.begin s m p) k a r h =
      let o = opened h in let h1 = passed o.1 in let h2 = one_msg m 1 _ _ h1 in let h3 = passed h2.1 in let h4 = one_proc p (below k) _ _ h3 in let z = closed h4.1 in
      (rw (spans s o.0 z.0, h2.0, h4.0) refl, z.1)
  one_proc (t.end s m p) k a r h =
      let o = opened h in let h1 = passed o.1 in let h2 = one_msg m 1 _ _ h1 in let h3 = passed h2.1 in let h4 = one_proc p (below k) _ _ h3 in let z = closed h4.1 in
      (rw (spans s o.0 z.0, h2.0, h4.0) refl, z.1)
  one_proc (t.end_many s m p) k a r h =
      let o = opened h in let h1 = passed o.1 in let h2 = one_msg m 1 _ _ h1 in let h3 = passed h2.1 in let h4 = one_proc p (below k) _ _ h3 in let z = closed h4.1 in
      (rw (spans s o.0 z.0, h2.0, h4.0) refl, z.1)
  one_proc (t.cast s m w b p) k a r h =
      let o = opened h in let h1 = passed o.1 in let h2 = one_msg m 1 _ _ h1 in let h3 = passed h2.1 in let h4 = one_binder w b _ _ h3 in let h5 = one_proc p (below k) _ _ h4.2 in let z = closed h5.1 in
      (rw (spans s o.0 z.0, h2.0, h4.0, h4.1, h5.0) refl, z.1)
  one_proc (t.new s w b p) k a r h =
      let o = opened h in let h1 = passed o.1 in let h2 = one_binder w b _ _ h1 in let h3 = one_proc p (below k) _ _ h2.2 in let z = closed h3.1 in
      (rw (spans s o.0 z.0, h2.0, h2.1, h3.0) refl, z.1)
  one_proc (t.stop s) k a r h =
      let o = opened h in let h1 = passed o.1 in let z = closed h1 in
      (rw (spans s o.0 z.0) refl, z.1)
  one_proc (t.group s p q) k a r h =
      let o = opened h in let h1 = passed o.1 in let h2 = one_proc p (below k) _ _ h1 in let h3 = passed h2.1 in let h4 = one_proc q (beside_place k) _ _ h3 in let h5 = passed h4.1 in let z = closed h5 in
      (rw (spans s o.0 z.0, h2.0, h4.0) refl, z.1)

  pub one_words : (x : List SWord) (a : FilledRest) (r : List Piece) → Spelled (words_pieces x r) a → (fill_words (map bare_word x) a ≡ x) × Spelled r (after_words (map bare_word x) a)
  one_words [] a r h = (refl, h)
  one_words (w ∷ ws) a r h =
      let h1 = passed h in let h2 = one_word w h1 in let h3 = one_words ws _ _ h2.1 in
      (rw (h2.0, h3.0) refl, h3.1)

  pub one_decl : (x : t.Declared) (a : FilledRest) (r : List Piece) → Spelled (decl_pieces x r) a → (fill_decl (bare_decl x) a ≡ x) × Spelled r (after_decl (bare_decl x) a)
  one_decl (t.free s w ws) a r h =
      let o = opened h in let h1 = passed o.1 in let h2 = one_word w h1 in let h3 = one_words ws _ _ h2.1 in let h4 = passed h3.1 in let z = closed h4 in
      (rw (spans s o.0 z.0, h2.0, h3.0) refl, z.1)
  one_decl (t.abbreviated s w x) a r h =
      let o = opened h in let h1 = passed o.1 in let h2 = one_word w h1 in let h3 = passed h2.1 in let h4 = one_ty x 1 _ _ h3 in let h5 = passed h4.1 in let z = closed h5 in
      (rw (spans s o.0 z.0, h2.0, h4.0) refl, z.1)

  pub one_decls : (x : List t.Declared) (a : FilledRest) (r : List Piece) → Spelled (decls_pieces x r) a → (fill_decls (map bare_decl x) a ≡ x) × Spelled r (after_decls (map bare_decl x) a)
  one_decls [] a r h = (refl, h)
  one_decls (d ∷ ds) a r h =
      let h1 = one_decl d _ _ h in let h2 = one_decls ds _ _ h1.1 in
      (rw (h1.0, h2.0) refl, h2.1)

  pub one_step : (x : t.Step) (a : FilledRest) (r : List Piece) → Spelled (step_pieces x r) a → (fill_step (bare_step x) a ≡ x) × Spelled r (after_step (bare_step x) a)
  one_step (t.act s i) a r h =
      let o = opened h in let h1 = passed o.1 in let h2 = passed h1 in let h3 = passed h2 in let z = closed h3 in
      (rw (spans s o.0 z.0) refl, z.1)
  one_step (t.talk s i j) a r h =
      let o = opened h in let h1 = passed o.1 in let h2 = passed h1 in let h3 = passed h2 in let h4 = passed h3 in let z = closed h4 in
      (rw (spans s o.0 z.0) refl, z.1)

  pub one_steps : (x : List t.Step) (a : FilledRest) (r : List Piece) → Spelled (steps_pieces x r) a → (fill_steps (map bare_step x) a ≡ x) × Spelled r (after_steps (map bare_step x) a)
  one_steps [] a r h = (refl, h)
  one_steps (x ∷ xs) a r h =
      let h1 = one_step x _ _ h in let h2 = one_steps xs _ _ h1.1 in
      (rw (h1.0, h2.0) refl, h2.1)

  pub one_written : (x : Option (List t.Atom)) (a : FilledRest) (r : List Piece) → Spelled (written_pieces x r) a → (fill_written (bare_written x) a ≡ x) × Spelled r (after_written (bare_written x) a)
  one_written None a r h = (refl, h)
  one_written (Some es) a r h =
      let h1 = one_effect es 0 _ _ h in
      (rw h1.0 refl, h1.1)

  mutual
    pub one_deriv : (x : t.Deriv) (n : ℕ) (a : FilledRest) (r : List Piece) → Spelled (deriv_pieces n x r) a → (fill_deriv (bare_deriv x) a ≡ x) × Spelled r (after_deriv (bare_deriv x) a)
    one_deriv (t.rule s w es ds) n a r h =
        let o = opened h in let h1 = one_word w o.1 in let h2 = one_written es _ _ h1.1 in let h3 = one_derivs ds (n + 1) _ _ h2.1 in let z = closed h3.1 in
        (rw (spans s o.0 z.0, h1.0, h2.0, h3.0) refl, z.1)

    pub one_derivs : (x : t.Derivs) (n : ℕ) (a : FilledRest) (r : List Piece) → Spelled (derivs_pieces n x r) a → (fill_derivs (bare_derivs x) a ≡ x) × Spelled r (after_derivs (bare_derivs x) a)
    one_derivs t.no_derivs n a r h = (refl, h)
    one_derivs (t.more_derivs d ds) n a r h =
        let h1 = one_deriv d n _ _ h in let h2 = one_derivs ds n _ _ h1.1 in
        (rw (h1.0, h2.0) refl, h2.1)

  pub one_opponent : (x : Option t.Proc) (a : FilledRest) (r : List Piece) → Spelled (opponent_pieces x r) a → (fill_opponent (bare_opponent x) a ≡ x) × Spelled r (after_opponent (bare_opponent x) a)
  one_opponent None a r h = (refl, h)
  one_opponent (Some p) a r h =
      let h1 = passed h in let h2 = one_proc p (at_level 0) _ _ h1 in
      (rw h2.0 refl, h2.1)

  pub one_schedule : (x : Option (List t.Step)) (a : FilledRest) (r : List Piece) → Spelled (schedule_pieces x r) a → (fill_schedule (bare_schedule x) a ≡ x) × Spelled r (after_schedule (bare_schedule x) a)
  one_schedule None a r h = (refl, h)
  one_schedule (Some xs) a r h =
      let h1 = passed h in let h2 = one_steps xs _ _ h1 in
      (rw h2.0 refl, h2.1)

  pub one_derivation : (x : Option t.Deriv) (a : FilledRest) (r : List Piece) → Spelled (derivation_pieces x r) a → (fill_derivation (bare_derivation x) a ≡ x) × Spelled r (after_derivation (bare_derivation x) a)
  one_derivation None a r h = (refl, h)
  one_derivation (Some d) a r h =
      let h1 = passed h in let h2 = one_deriv d 1 _ _ h1 in
      (rw h2.0 refl, h2.1)

  one_version : (v : ℕ) (a : FilledRest) (r : List Piece) → Spelled (version_pieces v r) a → Spelled r (after_version v a)
  one_version v a r h = go (v == 2) h
    where
      go : (b : Bool) → Spelled (if b then a_token (kinds.Word (codes "version")) (a_number 2 (a_mark mark.Semicolon r)) else r) a → Spelled r (if b then past (past (past a)) else a)
      go true k = passed (passed (passed k))
      go false k = k

  pub one_file : (f : t.File) (a : FilledRest) (r : List Piece) → Spelled (file_pieces f r) a → fill_file (bare_file f) a ≡ f
  one_file f a r h =
      let o = opened h in let h1 = one_version f.version _ _ o.1 in let h2 = one_decls f.decls _ _ h1 in let h3 = passed h2.1 in
      let h4 = one_proc f.process (at_level 0) _ _ h3 in let h5 = one_opponent f.opponent _ _ h4.1 in let h6 = one_schedule f.schedule _ _ h5.1 in let h7 = one_derivation f.derivation _ _ h6.1 in
      let z = closed h7.1 in
      rw (spans f.span o.0 z.0, h2.0, h4.0, h5.0, h6.0, h7.0) refl

pub kinds_spelled : (e : ℕ) (ps : List Piece) (ts : List Token) → Spells [] e ps ts → kinds_in ps ≡ kinds_of ts
kinds_spelled e [] [] h = refl
kinds_spelled e [] (t ∷ ts) h = sym (ap kinds_of h)
kinds_spelled e (opens from ∷ ps) [] h = absurd h
kinds_spelled e (opens from ∷ ps) (t ∷ ts) h = kinds_spelled e ps (t ∷ ts) h.1
kinds_spelled e (cell k deep ∷ ps) [] h = absurd h
kinds_spelled e (cell k deep ∷ ps) (t ∷ ts) h =
    let rest = kinds_spelled t.span.to ps ts h.2 in
    let first = h.0 in
    cc
kinds_spelled e (closes to ∷ ps) ts h = kinds_spelled e ps ts h.1

pub filled : (f : t.File) (ts : List Token) → Spells [] 0 (whole_file f) ts → fill_file (bare_file f) (record { end = 0; tokens = ts }) ≡ f
filled f ts h = one_file [] f (record { end = 0; tokens = ts }) [] (record { by = h })

-- two trees that the same tokens spell are one
pub one_placed : (f g : t.File) (ts : List Token) → IsFile f → IsFile g → Spells [] 0 (whole_file f) ts → Spells [] 0 (whole_file g) ts → f ≡ g
one_placed f g ts hf hg sf sg =
    let bare = same_tokens f g hf hg (kinds_spelled 0 (whole_file f) ts sf ∙ sym (kinds_spelled 0 (whole_file g) ts sg)) in
    sym (filled f ts sf) ∙ ap (λ (x : t.File). fill_file x (record { end = 0; tokens = ts })) bare ∙ filled g ts sg
