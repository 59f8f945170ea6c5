-- Two benches that the same tokens spell are one: they are gone through side by side.
use Rattle.std.proofs.Common.{◌≡◌, ℕ, ◌==◌, Bool, true, false, List, [], ◌∷◌, ◌++◌, refl, sym, ap, subst, ◌∙◌, ◌⊎◌, inl, inr, if◌then◌else◌, append_assoc}
use Rattle.std.specs.List.{AllByRecursion}
use Rattle.spi_lex.specs.declared.token.Kind.{Kind}
use Rattle.spi_lex.specs.declared.token.Kind.TheVariants as K
use Rattle.spi_lex.specs.declared.token.Mark.TheVariants as mark
use Rattle.spi_lex.specs.declared.token.Token.{Token}
use Rattle.spi_lex.specs.Lexing.{kinds_of}
use Rattle.spi_text.specs.declared.lines.Span.{Span}
use Rattle.spi_tree.specs.declared.tree.SWord.{SWord}
use Rattle.spi_tree.specs.Trees as t
use Rattle.spi_tree.specs.Pieces.{Piece, opens, cell, closes, cells, kinds_in, a_token, a_number, a_word, a_mark, ty_pieces, at_level, proc_pieces, decl_pieces, version_pieces}
use Rattle.spi_tree.specs.Formed.{AreWordsFit, IsTy, IsProc, IsDeclared}
use Rattle.spi_parse.specs.Bare.{bare_ty, bare_proc, bare_decl}
use Rattle.spi_parse.specs.Exact.{Spells}
use Rattle.spi_parse.specs.Formed.{whole_process, IsWholeProcess}
use Rattle.spi_parse.proofs.Filled.{FilledRest, after_ty, after_proc, after_decl, fill_ty, fill_proc, fill_decl}
use Rattle.spi_parse.proofs.OneTree.{Spelled, one_ty, one_proc, one_decl, kinds_spelled}
use Rattle.spi_parse.proofs.Words.{fits_front, fits_drop}
use Rattle.spi_parts.proofs.Alone.{kinds_in_append, types_split, declarations_split}
use Rattle.spi_parts.proofs.Behind.{ty_behind, proc_behind, decl_behind}
use Rattle.spi_parts.proofs.Bridge.{kinds_cells, of_piece}
use Rattle.spi_parts.proofs.Processes.{processes_apart, processes_split}
use Rattle.spi_heading.specs.Headings as h
use Rattle.spi_heading.specs.Each.{each_pieces}
use Rattle.spi_heading.specs.Grammar.{shared_pieces, shared_word, IsShared}
use Rattle.spi_heading.specs.Taking.{version_word}
use Rattle.spi_heading.proofs.Each.{each_behind}
use Rattle.spi_heading.proofs.Names.{shared_behind}
use Rattle.spi_edits.specs.Edits.{Edit, puts, drops, Bench}
use Rattle.spi_edits.specs.Grammar.{edit_pieces, IsEdit, bench_pieces, placed, whole_bench, is_later_bench}
use Rattle.spi_edits.specs.Reads.{IsBenchSpelled}
use Rattle.spi_edits.proofs.EditRows.{edit_behind}
use Rattle.spi_tree.specs.Trees.{nowhere}

abbrev span_of : ℕ → ℕ → Span
span_of a b = record { from = a; to = b }

same_span : (i j : Span) → i.from ≡ j.from → i.to ≡ j.to → i ≡ j
same_span i j f e = made i.from i.to j.from j.to f e
  where
    made : (a b c d : ℕ) → a ≡ c → b ≡ d → span_of a b ≡ span_of c d
    made a b c d p q = rw (p, q) refl

abbrev word_named : List ℕ → Span → SWord
word_named a i = record { word = a; span = i }

same_word : (w x : SWord) → w.word ≡ x.word → w.span ≡ x.span → w ≡ x
same_word w x f e = made w.word x.word w.span x.span f e
  where
    made : (a b : List ℕ) (i j : Span) → a ≡ b → i ≡ j → word_named a i ≡ word_named b j
    made a b i j p q = rw (p, q) refl

abbrev shared_named_at : Span → SWord → t.Ty → h.Shared
shared_named_at i w a = record { span = i; name = w; ty = a }

same_shared : (x y : h.Shared) → x.span ≡ y.span → x.name ≡ y.name → x.ty ≡ y.ty → x ≡ y
same_shared x y f g e = made x.span y.span x.name y.name x.ty y.ty f g e
  where
    made : (i j : Span) (w u : SWord) (a b : t.Ty) → i ≡ j → w ≡ u → a ≡ b → shared_named_at i w a ≡ shared_named_at j u b
    made i j w u a b p q r = rw (p, q, r) refl

-- pieces that the same tokens spell, up to the end
pub record Both (v : Bool) (ps qs : List Piece) : Type 0 where
  pub end : ℕ
  pub tokens : List Token
  pub fit : AreWordsFit v (kinds_of tokens)
  pub left : Spells [] end ps tokens
  pub right : Spells [] end qs tokens

swapped : {v : Bool} {ps qs : List Piece} → Both v ps qs → Both v qs ps
swapped b = record { end = b.end; tokens = b.tokens; fit = b.fit; left = b.right; right = b.left }

module _ {v : Bool} {ps qs : List Piece} where
  opened : {m n : ℕ} → Both v (opens m ∷ ps) (opens n ∷ qs) → (m ≡ n) × Both v ps qs
  opened {m} {n} b = go b.tokens b.fit b.left b.right
    where
      go : (ts : List Token) → AreWordsFit v (kinds_of ts) → Spells [] b.end (opens m ∷ ps) ts → Spells [] b.end (opens n ∷ qs) ts → (m ≡ n) × Both v ps qs
      go [] f l r = absurd l
      go (t ∷ ts) f l r = (sym l.0 ∙ r.0, record { end = b.end; tokens = t ∷ ts; fit = f; left = l.1; right = r.1 })

  passed : {k l : Kind} {c d : Bool} → Both v (cell k c ∷ ps) (cell l d ∷ qs) → (k ≡ l) × Both v ps qs
  passed {k} {l} {c} {d} b = go b.tokens b.fit b.left b.right
    where
      go : (ts : List Token) → AreWordsFit v (kinds_of ts) → Spells [] b.end (cell k c ∷ ps) ts → Spells [] b.end (cell l d ∷ qs) ts → (k ≡ l) × Both v ps qs
      go [] f x y = absurd x
      go (t ∷ ts) f x y = (sym x.0 ∙ y.0, record { end = t.span.to; tokens = ts; fit = f.1; left = x.2; right = y.2 })

  closed : {m n : ℕ} → Both v (closes m ∷ ps) (closes n ∷ qs) → (m ≡ n) × Both v ps qs
  closed b = (sym b.left.0 ∙ b.right.0, record { end = b.end; tokens = b.tokens; fit = b.fit; left = b.left.1; right = b.right.1 })

one_word : {v : Bool} {ps qs : List Piece} {c d : Bool} (w x : SWord) → Both v (a_word c w ps) (a_word d x qs) → (w ≡ x) × Both v ps qs
one_word w x b =
    let o = opened b in
    let p = passed o.1 in
    let z = closed p.1 in
    let same : w.word ≡ x.word = (let k : K.Word w.word ≡ K.Word x.word = p.0 in cc) in
    (same_word w x same (same_span w.span x.span o.0 z.0), z.1)

-- nothing is spelled where a node begins
none_opens : {v : Bool} {m : ℕ} {qs : List Piece} → Both v [] (opens m ∷ qs) → ⊥
none_opens {m = m} {qs = qs} b = subst (λ (ts : List Token). Spells [] b.end (opens m ∷ qs) ts) b.left b.right

last_opens : {v : Bool} {m n : ℕ} {qs : List Piece} → Both v (closes n ∷ []) (opens m ∷ qs) → ⊥
last_opens {m = m} {qs = qs} b = subst (λ (ts : List Token). Spells [] b.end (opens m ∷ qs) ts) b.left.1 b.right

-- two parts of one kind, in front of whatever
module _ {X : Type 0} (v : Bool) (piece : X → List Piece → List Piece) (behind : (x : X) (r : List Piece) → piece x r ≡ piece x [] ++ r) (x y : X) (r s : List Piece) (b : Both v (piece x r) (piece y s)) where
  kinds_apart : (z : X) (q : List Piece) → kinds_in (piece z q) ≡ kinds_in (piece z []) ++ kinds_in q
  kinds_apart z q = ap kinds_in (behind z q) ∙ kinds_in_append (piece z []) q

  kinds_left : kinds_in (piece x []) ++ kinds_in r ≡ kinds_of b.tokens
  kinds_left = sym (kinds_apart x r) ∙ kinds_spelled b.end (piece x r) b.tokens b.left

  kinds_right : kinds_in (piece y []) ++ kinds_in s ≡ kinds_of b.tokens
  kinds_right = sym (kinds_apart y s) ∙ kinds_spelled b.end (piece y s) b.tokens b.right

  fit_left : AreWordsFit v (kinds_in (piece x []))
  fit_left = fits_front v (kinds_in (piece x [])) (kinds_in r) (subst (AreWordsFit v) (sym kinds_left) b.fit)

  fit_right : AreWordsFit v (kinds_in (piece y []))
  fit_right = fits_front v (kinds_in (piece y [])) (kinds_in s) (subst (AreWordsFit v) (sym kinds_right) b.fit)

  -- the parts are filled with the places of the same tokens
  module _ (bare : X → X) (fill : X → FilledRest → X) (after : X → FilledRest → FilledRest)
      (filled : (z : X) (a : FilledRest) (q : List Piece) → Spelled [] (piece z q) a → (fill (bare z) a ≡ z) × Spelled [] q (after (bare z) a)) (same : bare x ≡ bare y) where
    abbrev here : FilledRest
    here = record { end = b.end; tokens = b.tokens }

    one_part : (x ≡ y) × Both v r s
    one_part =
        let l = filled x here r (record { by = b.left }) in
        let e = filled y here s (record { by = b.right }) in
        let next = after (bare x) here in
        let right : Spelled [] s next = subst (λ (z : X). Spelled [] s (after z here)) (sym same) e.1 in
        let rest : AreWordsFit v (kinds_in r) = fits_drop v (kinds_in (piece x [])) (kinds_in r) (subst (AreWordsFit v) (sym kinds_left) b.fit) in (
          sym l.0 ∙ ap (λ (z : X). fill z here) same ∙ e.0,
          record { end = next.end; tokens = next.tokens; fit = subst (AreWordsFit v) (kinds_spelled next.end r next.tokens l.1.by) rest; left = l.1.by; right = right.by },
        )

module _ (v : Bool) where
  one_type : (x y : t.Ty) (r s : List Piece) → IsTy v x → IsTy v y → Both v (ty_pieces 1 x r) (ty_pieces 1 y s) → (x ≡ y) × Both v r s
  one_type x y r s hx hy b =
      let piece : t.Ty → List Piece → List Piece = ty_pieces 1 in
      let behind = ty_behind 1 in
      let same = types_split v x y (kinds_in r) (kinds_in s) (hx, fit_left v piece behind x y r s b) (hy, fit_right v piece behind x y r s b) (kinds_left v piece behind x y r s b ∙ sym (kinds_right v piece behind x y r s b)) in
      one_part v piece behind x y r s b bare_ty fill_ty after_ty (λ z a q h. one_ty [] z 1 a q h) same.0

  one_declaration : (x y : t.Declared) (r s : List Piece) → IsDeclared v x → IsDeclared v y → Both v (decl_pieces x r) (decl_pieces y s) → (x ≡ y) × Both v r s
  one_declaration x y r s hx hy b =
      let same = declarations_split v x y (kinds_in r) (kinds_in s) (hx, fit_left v decl_pieces decl_behind x y r s b) (hy, fit_right v decl_pieces decl_behind x y r s b) (kinds_left v decl_pieces decl_behind x y r s b ∙ sym (kinds_right v decl_pieces decl_behind x y r s b)) in
      one_part v decl_pieces decl_behind x y r s b bare_decl fill_decl after_decl (λ z a q h. one_decl [] z a q h) same.0

  -- a process doesn't go on with a right brace
  ends_there : (x : t.Proc) → IsWholeProcess v x → (y : t.Proc) → IsWholeProcess v y → (c : List Kind) → kinds_in (whole_process y) ≡ kinds_in (whole_process x) ++ K.Mark mark.BraceClose ∷ c → ⊥
  ends_there x hx y hy c e =
      let brace : Kind = K.Mark mark.BraceClose in
      processes_apart v (cells (whole_process x)) (cells (whole_process y)) ((brace, false) ∷ []) (of_piece whole_process (IsWholeProcess v) x hx) (of_piece whole_process (IsWholeProcess v) y hy)
      (record { token = brace; is = refl; cells = refl }) brace c [] (kinds_cells (whole_process y) ∙ e ∙ ap (λ (l : List Kind). l ++ brace ∷ c) (sym (kinds_cells (whole_process x)))) refl

  one_process : (x y : t.Proc) (r s : List Piece) → IsProc v (at_level 0) x → IsProc v (at_level 0) y
      → Both v (proc_pieces (at_level 0) x (a_mark mark.BraceClose r)) (proc_pieces (at_level 0) y (a_mark mark.BraceClose s)) → (x ≡ y) × Both v r s
  one_process x y r s hx hy b =
      let piece : t.Proc → List Piece → List Piece = proc_pieces (at_level 0) in
      let behind = proc_behind (at_level 0) in
      let ps = a_mark mark.BraceClose r in
      let qs = a_mark mark.BraceClose s in
      let left : IsWholeProcess v x = (hx, fit_left v piece behind x y ps qs b) in
      let right : IsWholeProcess v y = (hy, fit_right v piece behind x y ps qs b) in
      let same = processes_split v x y (kinds_in ps) (kinds_in qs) left right (kinds_left v piece behind x y ps qs b ∙ sym (kinds_right v piece behind x y ps qs b))
      (λ z hz c e. ends_there x left z hz c e) (λ z hz c e. ends_there y right z hz c e) in
      let p = one_part v piece behind x y ps qs b bare_proc fill_proc after_proc (λ z a q h. one_proc [] z (at_level 0) a q h) same.0 in
      (p.0, (passed p.1).1)

  one_shared : (x y : h.Shared) (r s : List Piece) → IsShared v x → IsShared v y → Both v (shared_pieces x r) (shared_pieces y s) → (x ≡ y) × Both v r s
  one_shared x y r s hx hy b =
      let o = opened b in
      let p = passed o.1 in
      let w = one_word x.name y.name p.1 in
      let a = one_type x.ty y.ty _ _ hx hy (passed w.1).1 in
      let z = closed (passed a.1).1 in
      (same_shared x y (same_span x.span y.span o.0 z.0) w.0 a.0, z.1)

  one_edit : (x y : Edit) (r s : List Piece) → IsEdit v x → IsEdit v y → Both v (edit_pieces x r) (edit_pieces y s) → (x ≡ y) × Both v r s
  one_edit (puts i w p) (puts j x q) r s hx hy b =
      let o = opened b in
      let a = one_word w x (passed o.1).1 in
      let m = one_process p q _ _ hx hy (passed a.1).1 in
      let z = closed m.1 in
      (rw (same_span i j o.0 z.0, a.0, m.0) refl, z.1)
  one_edit (puts i w p) (drops j x) r s hx hy b = let k = (passed (opened b).1).0 in absurd (cc)
  one_edit (drops i w) (puts j x q) r s hx hy b = let k = (passed (opened b).1).0 in absurd (cc)
  one_edit (drops i w) (drops j x) r s hx hy b =
      let o = opened b in
      let a = one_word w x (passed o.1).1 in
      let z = closed (passed a.1).1 in
      (rw (same_span i j o.0 z.0, a.0) refl, z.1)

  -- ---- many of one kind, in front of what begins with none of it

  module _ {X : Type 0} (piece : X → List Piece → List Piece) (Is : X → Type 0) (one : (x y : X) (r s : List Piece) → Is x → Is y → Both v (piece x r) (piece y s) → (x ≡ y) × Both v r s)
      (Tail : List Piece → Type 0) (never : (r : List Piece) → Tail r → (y : X) (s : List Piece) → Both v r (piece y s) → ⊥) where
    one_each : (xs ys : List X) (r s : List Piece) → AllByRecursion Is xs → AllByRecursion Is ys → Tail r → Tail s → Both v (each_pieces piece xs r) (each_pieces piece ys s) → (xs ≡ ys) × Both v r s
    one_each [] [] r s hx hy tr ts b = (refl, b)
    one_each [] (y ∷ ys) r s hx hy tr ts b = absurd (never r tr y (each_pieces piece ys s) b)
    one_each (x ∷ xs) [] r s hx hy tr ts b = absurd (never s ts x (each_pieces piece xs r) (swapped b))
    one_each (x ∷ xs) (y ∷ ys) r s hx hy tr ts b =
        let a = one x y (each_pieces piece xs r) (each_pieces piece ys s) hx.0 hy.0 b in
        let m = one_each xs ys r s hx.1 hy.1 tr ts a.1 in
        (rw (a.0, m.0) refl, m.1)

  -- where a bench ends
  abbrev Last : List Piece → Type 0
  Last r = (m : ℕ) × (r ≡ closes m ∷ [])

  abbrev Edits : List Piece → Type 0
  Edits r = (es : List Edit) × (u : List Piece) × Last u × (r ≡ each_pieces edit_pieces es u)

  abbrev Names : List Piece → Type 0
  Names r = (ss : List h.Shared) × (u : List Piece) × Edits u × (r ≡ each_pieces shared_pieces ss u)

  abbrev Body : List Piece → Type 0
  Body r = (ds : List t.Declared) × (u : List Piece) × Names u × (r ≡ each_pieces decl_pieces ds u)

  -- what stands at the end begins no node
  last_never : {m : ℕ} {q : List Piece} (r : List Piece) → Last r → Both v r (opens m ∷ q) → ⊥
  last_never {m} {q} r (n, e) b = last_opens (subst (λ (l : List Piece). Both v l (opens m ∷ q)) e b)

  no_edit : (r : List Piece) → Last r → (y : Edit) (s : List Piece) → Both v r (edit_pieces y s) → ⊥
  no_edit r l (puts i w p) s b = last_never r l b
  no_edit r l (drops i w) s b = last_never r l b

  -- what edits begin with
  edits_never : (k : Kind) → ((x : Edit) (u q : List Piece) (c : Bool) (m : ℕ) → Both v (edit_pieces x u) (opens m ∷ cell k c ∷ q) → ⊥) → (m : ℕ) (c : Bool) (q r : List Piece) → Edits r → Both v r (opens m ∷ cell k c ∷ q) → ⊥
  edits_never k other m c q r ([], u, l, e) b = last_never u l (subst (λ (x : List Piece). Both v x (opens m ∷ cell k c ∷ q)) e b)
  edits_never k other m c q r (x ∷ es, u, l, e) b = other x (each_pieces edit_pieces es u) q c m (subst (λ (x : List Piece). Both v x (opens m ∷ cell k c ∷ q)) e b)

  no_shared : (r : List Piece) → Edits r → (y : h.Shared) (s : List Piece) → Both v r (shared_pieces y s) → ⊥
  no_shared r l y s b = edits_never shared_word other y.span.from false _ r l b
    where
      other : (x : Edit) (u q : List Piece) (c : Bool) (m : ℕ) → Both v (edit_pieces x u) (opens m ∷ cell shared_word c ∷ q) → ⊥
      other (puts i w p) u q c m b = let k = (passed (opened b).1).0 in cc
      other (drops i w) u q c m b = let k = (passed (opened b).1).0 in cc

  no_decl : (r : List Piece) → Names r → (y : t.Declared) (s : List Piece) → Both v r (decl_pieces y s) → ⊥
  no_decl r ([], u, l, e) y s b = behind y (subst (λ (x : List Piece). Both v x (decl_pieces y s)) e b)
    where
      no_edit_there : (y : t.Declared) (x : Edit) (w : List Piece) → Both v (edit_pieces x w) (decl_pieces y s) → ⊥
      no_edit_there (t.free i w ws) (puts j x p) u b = let k = (passed (opened b).1).0 in cc
      no_edit_there (t.free i w ws) (drops j x) u b = let k = (passed (opened b).1).0 in cc
      no_edit_there (t.abbreviated i w a) (puts j x p) u b = let k = (passed (opened b).1).0 in cc
      no_edit_there (t.abbreviated i w a) (drops j x) u b = let k = (passed (opened b).1).0 in cc

      no_last : (y : t.Declared) (w : List Piece) → Last w → Both v w (decl_pieces y s) → ⊥
      no_last (t.free i w ws) u l b = last_never u l b
      no_last (t.abbreviated i w a) u l b = last_never u l b

      among : (y : t.Declared) (w : List Piece) → Edits w → Both v w (decl_pieces y s) → ⊥
      among y w ([], u, l, e) b = no_last y u l (subst (λ (x : List Piece). Both v x (decl_pieces y s)) e b)
      among y w (x ∷ es, u, l, e) b = no_edit_there y x (each_pieces edit_pieces es u) (subst (λ (x : List Piece). Both v x (decl_pieces y s)) e b)

      behind : (y : t.Declared) → Both v u (decl_pieces y s) → ⊥
      behind y b = among y u l b
  no_decl r (x ∷ ss, u, l, e) y s b = there y (subst (λ (x : List Piece). Both v x (decl_pieces y s)) e b)
    where
      there : (y : t.Declared) → Both v (shared_pieces x (each_pieces shared_pieces ss u)) (decl_pieces y s) → ⊥
      there (t.free i w ws) b = let k = (passed (opened b).1).0 in cc
      there (t.abbreviated i w a) b = let k = (passed (opened b).1).0 in cc

  -- ---- the version in front

  past_opens : {m : ℕ} {ps qs : List Piece} → Both v (opens m ∷ ps) qs → Both v ps qs
  past_opens {m} {ps} {qs} b = go b.tokens b.fit b.left b.right
    where
      go : (ts : List Token) → AreWordsFit v (kinds_of ts) → Spells [] b.end (opens m ∷ ps) ts → Spells [] b.end qs ts → Both v ps qs
      go [] f l r = absurd l
      go (t ∷ ts) f l r = record { end = b.end; tokens = t ∷ ts; fit = f; left = l.1; right = r }

  no_version : (c : Bool) (q r : List Piece) → Body r → Both v r (cell version_word c ∷ q) → ⊥
  no_version c q r (t.free i w ws ∷ ds, u, l, e) b = let k = (passed (past_opens (subst (λ (x : List Piece). Both v x (cell version_word c ∷ q)) e b))).0 in cc
  no_version c q r (t.abbreviated i w a ∷ ds, u, l, e) b = let k = (passed (past_opens (subst (λ (x : List Piece). Both v x (cell version_word c ∷ q)) e b))).0 in cc
  no_version c q r ([], u, l, e) b = names u l (subst (λ (x : List Piece). Both v x (cell version_word c ∷ q)) e b)
    where
      last : (w : List Piece) → Last w → Both v w (cell version_word c ∷ q) → ⊥
      last w (m, e) b =
          let d = subst (λ (x : List Piece). Both v x (cell version_word c ∷ q)) e b in
          subst (λ (ts : List Token). Spells [] d.end (cell version_word c ∷ q) ts) d.left.1 d.right

      edits : (w : List Piece) → Edits w → Both v w (cell version_word c ∷ q) → ⊥
      edits w ([], u, l, e) b = last u l (subst (λ (x : List Piece). Both v x (cell version_word c ∷ q)) e b)
      edits w (puts i x p ∷ es, u, l, e) b = let k = (passed (past_opens (subst (λ (x : List Piece). Both v x (cell version_word c ∷ q)) e b))).0 in cc
      edits w (drops i x ∷ es, u, l, e) b = let k = (passed (past_opens (subst (λ (x : List Piece). Both v x (cell version_word c ∷ q)) e b))).0 in cc

      names : (w : List Piece) → Names w → Both v w (cell version_word c ∷ q) → ⊥
      names w ([], u, l, e) b = edits u l (subst (λ (x : List Piece). Both v x (cell version_word c ∷ q)) e b)
      names w (x ∷ ss, u, l, e) b = let k = (passed (past_opens (subst (λ (x : List Piece). Both v x (cell version_word c ∷ q)) e b))).0 in cc

  one_version : (i j : ℕ) (r s : List Piece) → (i ≡ 1) ⊎ (i ≡ 2) → (j ≡ 1) ⊎ (j ≡ 2) → Body r → Body s → Both v (version_pieces i r) (version_pieces j s) → (i ≡ j) × Both v r s
  one_version i j r s (inl e) (inl f) br bs b = (e ∙ sym f, subst (λ (n : ℕ). Both v (version_pieces 1 r) (version_pieces n s)) f (subst (λ (n : ℕ). Both v (version_pieces n r) (version_pieces j s)) e b))
  one_version i j r s (inl e) (inr f) br bs b =
      absurd (no_version false _ r br (subst (λ (n : ℕ). Both v (version_pieces 1 r) (version_pieces n s)) f (subst (λ (n : ℕ). Both v (version_pieces n r) (version_pieces j s)) e b)))
  one_version i j r s (inr e) (inl f) br bs b =
      absurd (no_version false _ s bs (swapped (subst (λ (n : ℕ). Both v (version_pieces 2 r) (version_pieces n s)) f (subst (λ (n : ℕ). Both v (version_pieces n r) (version_pieces j s)) e b))))
  one_version i j r s (inr e) (inr f) br bs b =
      let c : Both v (version_pieces 2 r) (version_pieces 2 s) = subst (λ (n : ℕ). Both v (version_pieces 2 r) (version_pieces n s)) f (subst (λ (n : ℕ). Both v (version_pieces n r) (version_pieces j s)) e b) in
      (e ∙ sym f, (passed (passed (passed c).1).1).1)

  -- ---- the place of the whole

  unplaced : (i j : Span) (ps qs : List Piece) → (ps ≡ [] → i ≡ nowhere) → (qs ≡ [] → j ≡ nowhere) → (ts : List Token) → AreWordsFit v (kinds_of ts) → Spells [] 0 (placed i ps) ts → Spells [] 0 (placed j qs) ts
      → (i.from ≡ j.from) × Both v (ps ++ closes i.to ∷ []) (qs ++ closes j.to ∷ [])
  unplaced i j [] [] hi hj ts fit l r =
      let e = hi refl in
      let f = hj refl in
      (ap (λ (s : Span). s.from) (e ∙ sym f), record { end = 0; tokens = []; fit = tt; left = (ap (λ (s : Span). s.to) (sym e), refl); right = (ap (λ (s : Span). s.to) (sym f), refl) })
  unplaced i j [] (q ∷ qs) hi hj ts fit l r = absurd (none_opens {v = v} {m = j.from} {qs = q ∷ (qs ++ closes j.to ∷ [])} (record { end = 0; tokens = ts; fit = fit; left = l; right = r }))
  unplaced i j (p ∷ ps) [] hi hj ts fit l r = absurd (none_opens {v = v} {m = i.from} {qs = p ∷ (ps ++ closes i.to ∷ [])} (record { end = 0; tokens = ts; fit = fit; left = r; right = l }))
  unplaced i j (p ∷ ps) (q ∷ qs) hi hj ts fit l r = opened (record { end = 0; tokens = ts; fit = fit; left = l; right = r })

each_append : {X : Type 0} (piece : X → List Piece → List Piece) → ((x : X) (r : List Piece) → piece x r ≡ piece x [] ++ r) → (xs : List X) (a r : List Piece) → each_pieces piece xs a ++ r ≡ each_pieces piece xs (a ++ r)
each_append piece behind xs a r =
    ap (λ (l : List Piece). l ++ r) (each_behind piece behind xs a) ∙ append_assoc (each_pieces piece xs []) a r ∙ sym (each_behind piece behind xs (a ++ r))

-- what stands behind the version, up to the end of the whole
abbrev body_to : Bench → List Piece → List Piece
body_to b r = each_pieces decl_pieces b.decls (each_pieces shared_pieces b.shared (each_pieces edit_pieces b.edits r))

pieces_to : (b : Bench) (r : List Piece) → bench_pieces b ++ r ≡ version_pieces b.version (body_to b r)
pieces_to b r = go (b.version == 2)
  where
    body : body_to b [] ++ r ≡ body_to b r
    body =
        each_append decl_pieces decl_behind b.decls (each_pieces shared_pieces b.shared (each_pieces edit_pieces b.edits [])) r
        ∙ ap (each_pieces decl_pieces b.decls) (each_append shared_pieces shared_behind b.shared (each_pieces edit_pieces b.edits []) r ∙ ap (each_pieces shared_pieces b.shared) (each_append edit_pieces edit_behind b.edits [] r))

    go : (c : Bool) → (if c then a_token version_word (a_number 2 (a_mark mark.Semicolon (body_to b []))) else body_to b []) ++ r
        ≡ (if c then a_token version_word (a_number 2 (a_mark mark.Semicolon (body_to b r))) else body_to b r)
    go true = ap (λ (l : List Piece). a_token version_word (a_number 2 (a_mark mark.Semicolon l))) body
    go false = body

body_is : (v : Bool) (b : Bench) (m : ℕ) → Body v (body_to b (closes m ∷ []))
body_is v b m = (b.decls, _, (b.shared, _, (b.edits, _, (m, refl), refl), refl), refl)

names_are : (v : Bool) (b : Bench) (m : ℕ) → Names v (each_pieces shared_pieces b.shared (each_pieces edit_pieces b.edits (closes m ∷ [])))
names_are v b m = (b.shared, _, (b.edits, _, (m, refl), refl), refl)

edits_are : (v : Bool) (b : Bench) (m : ℕ) → Edits v (each_pieces edit_pieces b.edits (closes m ∷ []))
edits_are v b m = (b.edits, _, (m, refl), refl)

abbrev bench_made : Span → ℕ → List t.Declared → List h.Shared → List Edit → Bench
bench_made i v ds ss xs = record { span = i; version = v; decls = ds; shared = ss; edits = xs }

same_bench : (b c : Bench) → b.span ≡ c.span → b.version ≡ c.version → b.decls ≡ c.decls → b.shared ≡ c.shared → b.edits ≡ c.edits → b ≡ c
same_bench b c = made b.span c.span b.version c.version b.decls c.decls b.shared c.shared b.edits c.edits
  where
    made : (i j : Span) (v w : ℕ) (ds es : List t.Declared) (ss us : List h.Shared) (xs ys : List Edit) → i ≡ j → v ≡ w → ds ≡ es → ss ≡ us → xs ≡ ys → bench_made i v ds ss xs ≡ bench_made j w es us ys
    made i j v w ds es ss us xs ys p q r m n = rw (p, q, r, m, n) refl

pub one_spelled : (b c : Bench) (ts : List Token) → IsBenchSpelled b ts → IsBenchSpelled c ts → b ≡ c
one_spelled b c ts (hb, sb) (hc, sc) =
    let v : Bool = is_later_bench b in
    let fit : AreWordsFit v (kinds_of ts) = subst (AreWordsFit v) (kinds_spelled 0 (whole_bench b) ts sb) hb.words in
    let start = unplaced v b.span c.span (bench_pieces b) (bench_pieces c) hb.place hc.place ts fit sb sc in
    let left = pieces_to b (closes b.span.to ∷ []) in
    let right = pieces_to c (closes c.span.to ∷ []) in
    let both = subst (λ (l : List Piece). Both v l (bench_pieces c ++ closes c.span.to ∷ [])) left start.1 in
    let all = subst (λ (l : List Piece). Both v (version_pieces b.version (body_to b (closes b.span.to ∷ []))) l) right both in
    let version = one_version v b.version c.version _ _ hb.version hc.version (body_is v b b.span.to) (body_is v c c.span.to) all in
    let same : is_later_bench c ≡ v = ap (λ (n : ℕ). n == 2) (sym version.0) in
    let decls = one_each v decl_pieces (IsDeclared v) (one_declaration v) (Names v) (no_decl v) b.decls c.decls _ _ hb.decls (subst (λ (w : Bool). AllByRecursion (IsDeclared w) c.decls) same hc.decls) (names_are v b b.span.to) (names_are v c c.span.to) version.1 in
    let shared = one_each v shared_pieces (IsShared v) (one_shared v) (Edits v) (no_shared v) b.shared c.shared _ _ hb.shared (subst (λ (w : Bool). AllByRecursion (IsShared w) c.shared) same hc.shared) (edits_are v b b.span.to) (edits_are v c c.span.to) decls.1 in
    let edits = one_each v edit_pieces (IsEdit v) (one_edit v) (Last v) (no_edit v) b.edits c.edits _ _ hb.edits (subst (λ (w : Bool). AllByRecursion (IsEdit w) c.edits) same hc.edits) (b.span.to, refl) (c.span.to, refl) shared.1 in
    let last = closed edits.1 in
    same_bench b c (same_span b.span c.span start.0 last.0) version.0 decls.0 shared.0 edits.0
