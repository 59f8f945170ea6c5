-- What is spelled is read: by the flags of its tokens, or without limits.
use Rattle.std.proofs.Common.{◌≡◌, ℕ, zero, suc, ◌+◌, ◌==◌, Bool, true, false, List, [], ◌∷◌, map, Option, Some, None, IfSome, Ok, refl, sym, ap, subst, ◌∙◌, ◌⊎◌, inl, inr, arith}
use Rattle.std.specs.Prelude.{nat_lt}
use Rattle.spi_text.specs.declared.lines.Span.{Span}
use Rattle.spi_lex.specs.declared.token.Kind.TheVariants as K
use Rattle.spi_lex.specs.declared.token.Reserved.{Reserved}
use Rattle.spi_lex.specs.declared.token.Reserved.TheVariants as word
use Rattle.spi_lex.specs.declared.token.Mark.{Mark}
use Rattle.spi_lex.specs.declared.token.Mark.TheVariants as mark
use Rattle.spi_tree.specs.declared.tree.SWord.{SWord}
use Rattle.spi_tree.specs.Trees as t
use Rattle.spi_tree.specs.Pieces.{Piece, opens, cell, closes, a_mark, a_reserved, a_number, a_word, ends, message_limit, process_limit, derivation_limit, msg_pieces, msgs_pieces, atom_pieces, atoms_pieces, effect_pieces, ty_pieces, fields_pieces, last_pieces, named_pieces, binder_pieces, in_seq, at_level, proc_pieces, words_pieces, decl_pieces, decls_pieces, steps_pieces, deriv_pieces, opponent_pieces, schedule_pieces, derivation_pieces, file_pieces}
use Rattle.spi_tree.specs.Formed.{IsMsg, AreMsgs, IsAtom, AreAtoms, IsTy, AreFields, IsLast, IsProc, IsDeclared, AreDeclared, IsFormedOpponent}
use Rattle.spi_parse.specs.Rules.{arity_of, writes_effect}
use Rattle.spi_parse.specs.Bare.{bare_word, bare_msg, bare_msgs, bare_atom, bare_ty, bare_fields, bare_last, bare_proc, bare_decl, bare_step, bare_deriv, bare_opponent, bare_schedule, bare_derivation, bare_file}
use Rattle.spi_parse.specs.Tokens.{Tok, State}
use Rattle.spi_parse.specs.Table.{Body, Sym, the_mark, the_reserved, the_word, the_number, the_two, msg, msgs, atom, atoms, effect, ty, fields, fields_more, named, binder, split_head, match_head, case_head, decrypt_head, check_head, cast_head, sproc, seq, out_tail, par_tail, words, free_rest, abbr_rest, decl, decls, act_rest, talk_rest, steps, deriv, opponent_tail, schedule_tail, derivation_tail, body, file, Trees, over, par_of, file_from, rule_move, delta_paren, delta_bracket, delta_ty_paren}
use Rattle.spi_parse.specs.Reading.{◌>>=◌, Out, Mode, told, any, pass, may_pass, may_lead, read_all, go_on, behind_move, reads_step, read}
use Rattle.spi_parse.proofs.Readers.{at, read_is_step}
use Rattle.spi_parse.proofs.Spell.{IsBody, body_in, body_pieces, IsRuled, IsRuledFile}
use Rattle.spi_parse.proofs.RuleLaws.{arity_most, sub_arity}
use Rattle.spi_tree.specs.Trees.{nowhere}

-- the tokens of pieces, all at one place, with these flags
abbrev pub flat_pieces : (Bool → Bool) → List Piece → List Tok
flat_pieces φ [] = []
flat_pieces φ (opens from ∷ ps) = flat_pieces φ ps
flat_pieces φ (cell k deep ∷ ps) = record { kind = k; span = nowhere; deep = φ deep } ∷ flat_pieces φ ps
flat_pieces φ (closes to ∷ ps) = flat_pieces φ ps

-- a mode that goes on past every token with these flags
pub record FitsMode (m : Mode) (φ : Bool → Bool) : Type 1 where
  pub passes : {X : Type 0} (d : Bool) (n : ℕ) (go : Out X) → pass m d (φ d) n go ≡ go
  pub mays : {X : Type 0} (d : Bool) (n : ℕ) (go : Out X) → may_pass m d (φ d) n go ≡ go
  pub may_nots : {X : Type 0} (d : Bool) (n : ℕ) (go : Out X) → may_pass m d (φ false) n go ≡ go
  pub leads : {X : Type 0} (d l : Bool) (n : ℕ) (go : Out X) → may_lead m d (φ d) l n go ≡ go
  pub leads_on : {X : Type 0} (d : Bool) (n : ℕ) (go : Out X) → may_lead m d (φ false) d n go ≡ go

module _ (m : Mode) (φ : Bool → Bool) (fits : FitsMode m φ) where
  abbrev pub flat_at : List Piece → State
  flat_at ps = at 0 (flat_pieces φ ps)

  pass_same : {X : Type 0} (d : Bool) (n : ℕ) (go : Out X) → pass m d (φ d) n go ≡ go
  pass_same d n go = fits.passes d n go

  may_same : {X : Type 0} (d : Bool) (n : ℕ) (go : Out X) → may_pass m d (φ d) n go ≡ go
  may_same d n go = fits.mays d n go

  may_not : {X : Type 0} (d : Bool) (n : ℕ) (go : Out X) → may_pass m d (φ false) n go ≡ go
  may_not d n go = fits.may_nots d n go

  lead_same : {X : Type 0} (d l : Bool) (n : ℕ) (go : Out X) → may_lead m d (φ d) l n go ≡ go
  lead_same d l n go = fits.leads d l n go

  lead_on : {X : Type 0} (d : Bool) (n : ℕ) (go : Out X) → may_lead m d (φ false) d n go ≡ go
  lead_on d n go = fits.leads_on d n go

  mark_step : (k : Mark) (r : List Piece) → reads_step m (read m) (the_mark k) (flat_at (a_mark k r)) ≡ Ok (tt, flat_at r)
  mark_step mark.ParenOpen r = pass_same false _ _
  mark_step _ r = pass_same false _ _

  mark_c : (k : Mark) (r : List Piece) → read m (the_mark k) (flat_at (a_mark k r)) ≡ Ok (tt, flat_at r)
  mark_c k r = read_is_step m (the_mark k) (flat_at (a_mark k r)) ∙ mark_step k r

  reserved_step : (w : Reserved) (r : List Piece) → reads_step m (read m) (the_reserved w) (flat_at (a_reserved w r)) ≡ Ok (tt, flat_at r)
  reserved_step word.Free r = pass_same false _ _
  reserved_step _ r = pass_same false _ _

  reserved_c : (w : Reserved) (r : List Piece) → read m (the_reserved w) (flat_at (a_reserved w r)) ≡ Ok (tt, flat_at r)
  reserved_c w r = read_is_step m (the_reserved w) (flat_at (a_reserved w r)) ∙ reserved_step w r

  word_c : (w : SWord) (r : List Piece) → read m the_word (flat_at (a_word false w r)) ≡ Ok (bare_word w, flat_at r)
  word_c w r = rw (read_is_step, pass_same false) refl

  number_c : (i : ℕ) (r : List Piece) → read m the_number (flat_at (a_number i r)) ≡ Ok (i, flat_at r)
  number_c i r = rw (read_is_step, pass_same false) refl

  two_c : (r : List Piece) → read m the_two (flat_at (a_number 2 r)) ≡ Ok (tt, flat_at r)
  two_c r = rw (read_is_step, pass_same false) refl

  -- ---- messages

  abbrev bare_list : t.Msgs → List t.Msg
  bare_list t.no_msgs = []
  bare_list (t.more_msgs a ms) = bare_msg a ∷ bare_list ms

  bare_list_is : (ms : t.Msgs) → t.msgs_of_list (bare_list ms) ≡ bare_msgs ms
  bare_list_is t.no_msgs = refl
  bare_list_is (t.more_msgs a ms) = ap (t.more_msgs (bare_msg a)) (bare_list_is ms)

  abbrev tuple_parts : Bool → Bool → ℕ → List Sym
  tuple_parts v d n = msg v d (n + 1) ∷ the_mark mark.Comma ∷ msg v d (n + 1) ∷ msgs v d (n + 1) ∷ []

  -- no message begins with a right parenthesis
  paren_first : (x : t.Msg) (v d : Bool) (n n' : ℕ) (q : List Piece) → behind_move m (read m) (delta_paren v d n) (nowhere ∷ []) (flat_at (msg_pieces n' x q))
      ≡ ◌>>=◌ {B = t.Msg × State} (read_all (read m) (tuple_parts v d n) (flat_at (msg_pieces n' x q))) (λ xs. Ok (t.tuple (over (nowhere ∷ []) xs.1.end) xs.0.0 xs.0.1.1.0 (t.msgs_of_list xs.0.1.1.1.0.0), xs.1))
  paren_first (t.name s w) v d n n' q = refl
  paren_first _ v d n n' q = refl

  mutual
    pub msg_c : (x : t.Msg) (v d : Bool) (n : ℕ) (r : List Piece) → IsMsg v d x → read m (msg v d n) (flat_at (msg_pieces n x r)) ≡ Ok (bare_msg x, flat_at r)
    msg_c (t.name s w) v false n r h = rw (read_is_step, pass_same (nat_lt message_limit n)) refl
    msg_c (t.name s w) v true n r h = absurd cc
    msg_c (t.unit s) v d n r h = rw (read_is_step, pass_same (nat_lt message_limit n), pass_same false) refl
    msg_c (t.tuple s a b ms) v d n r h =
        let q4 = a_mark mark.ParenClose (ends s r) in
        let q3 = msgs_pieces (n + 1) ms q4 in
        let q2 = msg_pieces (n + 1) b q3 in
        let q1 = a_mark mark.Comma q2 in
        rw (read_is_step, pass_same (nat_lt message_limit n), paren_first a v d n (n + 1) q1, msg_c a v d (n + 1) q1 h.0, mark_c mark.Comma q2, msg_c b v d (n + 1) q3 h.1, msgs_c ms v d (n + 1) (ends s r) h.2, bare_list_is ms) refl
    msg_c (t.inl s a) v d n r h = rw (read_is_step, pass_same (nat_lt message_limit n), msg_c a v d (n + 1) (ends s r) h) refl
    msg_c (t.inr s a) v d n r h = rw (read_is_step, pass_same (nat_lt message_limit n), msg_c a v d (n + 1) (ends s r) h) refl
    msg_c (t.enc s a b) v d n r h =
        let q2 = msg_pieces (n + 1) b (ends s r) in
        rw (read_is_step, pass_same (nat_lt message_limit n), msg_c a v d (n + 1) (a_mark mark.BraceClose q2) h.0, mark_c mark.BraceClose q2, msg_c b v d (n + 1) (ends s r) h.1) refl
    msg_c (t.hash s a) false d n r h = absurd (let e = h.0 in cc)
    msg_c (t.hash s a) true d n r h =
        let q2 = a_mark mark.ParenClose (ends s r) in
        let q1 = msg_pieces (n + 1) a q2 in
        rw (read_is_step, pass_same (nat_lt message_limit n), mark_c mark.ParenOpen q1, msg_c a true d (n + 1) q2 h.1, mark_c mark.ParenClose (ends s r)) refl
    msg_c (t.num s i) v true n r h = rw (read_is_step, pass_same (nat_lt message_limit n), number_c i (ends s r)) refl
    msg_c (t.num s i) v false n r h = absurd cc

    pub msgs_c : (ms : t.Msgs) (v d : Bool) (n : ℕ) (r : List Piece) → AreMsgs v d ms → read m (msgs v d n) (flat_at (msgs_pieces n ms (a_mark mark.ParenClose r))) ≡ Ok ((bare_list ms, tt), flat_at r)
    msgs_c t.no_msgs v d n r h = rw (read_is_step, pass_same false) refl
    msgs_c (t.more_msgs a ms) v d n r h =
        let q1 = msgs_pieces n ms (a_mark mark.ParenClose r) in
        rw (read_is_step, pass_same false, msg_c a v d n q1 h.0, msgs_c ms v d n r h.1) refl

  -- ---- effects

  pub atom_c : (x : t.Atom) (v d : Bool) (n : ℕ) (r : List Piece) → IsAtom v d x → read m (atom v d n) (flat_at (atom_pieces n x r)) ≡ Ok (bare_atom x, flat_at r)
  atom_c (t.ends s a) v d n r h = rw (read_is_step, pass_same (nat_lt message_limit n), msg_c a v d (n + 1) (ends s r) h) refl
  atom_c (t.checks s a) v d n r h = rw (read_is_step, pass_same (nat_lt message_limit n), msg_c a v d (n + 1) (ends s r) h) refl
  atom_c (t.many s a) true d n r h = rw (read_is_step, pass_same (nat_lt message_limit n), msg_c a true d (n + 1) (ends s r) h.1) refl
  atom_c (t.many s a) false d n r h = absurd (let e = h.0 in cc)

  atoms_c : (es : List t.Atom) (v d : Bool) (n : ℕ) (r : List Piece) → AreAtoms v d es → read m (atoms v d n) (flat_at (atoms_pieces n es (a_mark mark.BracketClose r))) ≡ Ok ((map bare_atom es, tt), flat_at r)
  atoms_c [] v d n r h = rw (read_is_step, pass_same false) refl
  atoms_c (e ∷ es) v d n r h =
      let q1 = atoms_pieces n es (a_mark mark.BracketClose r) in
      rw (read_is_step, pass_same false, atom_c e v d n q1 h.0, atoms_c es v d n r h.1) refl

  -- no atom begins with a right bracket
  bracket_first : (x : t.Atom) (v d : Bool) (n n' : ℕ) (q : List Piece) → behind_move m (read m) (delta_bracket v d n) (nowhere ∷ []) (flat_at (atom_pieces n' x q))
      ≡ ◌>>=◌ {B = List t.Atom × State} (read_all (read m) (atom v d n ∷ atoms v d n ∷ []) (flat_at (atom_pieces n' x q))) (λ xs. Ok (xs.0.0 ∷ xs.0.1.0.0, xs.1))
  bracket_first (t.ends s a) v d n n' q = refl
  bracket_first (t.checks s a) v d n n' q = refl
  bracket_first (t.many s a) v d n n' q = refl

  pub effect_c : (es : List t.Atom) (v d : Bool) (n : ℕ) (r : List Piece) → AreAtoms v d es → read m (effect v d n) (flat_at (effect_pieces n es r)) ≡ Ok (map bare_atom es, flat_at r)
  effect_c [] v d n r h = rw read_is_step (pass_same false _ _ ∙ pass_same false _ _)
  effect_c (e ∷ es) v d n r h =
      let q1 = atoms_pieces n es (a_mark mark.BracketClose r) in
      rw (read_is_step, pass_same false, bracket_first e v d n n q1, atom_c e v d n q1 h.0, atoms_c es v d n r h.1) refl

  -- ---- types

  abbrev NotWord : t.Ty → Type 0
  NotWord (t.abbr s w) = ⊥
  NotWord _ = Unit {0}

  -- what is no word begins a sum
  sum_first : (x : t.Ty) (v : Bool) (n n' : ℕ) (q : List Piece) → NotWord x → behind_move m (read m) (delta_ty_paren v n) (nowhere ∷ []) (flat_at (ty_pieces n' x q))
      ≡ ◌>>=◌ {B = t.Ty × State} (read_all (read m) (ty v (n + 1) ∷ the_mark mark.Plus ∷ ty v (n + 1) ∷ the_mark mark.ParenClose ∷ []) (flat_at (ty_pieces n' x q))) (λ xs. Ok (t.sum (over (nowhere ∷ []) xs.1.end) xs.0.0 xs.0.1.1.0, xs.1))
  sum_first (t.abbr s w) v n n' q h = absurd h
  sum_first _ v n n' q h = refl

  bare_first : (x : t.Ty) (v : Bool) (n n' : ℕ) (q : List Piece) → NotWord x → reads_step m (read m) (fields v n) (flat_at (ty_pieces n' x q))
      ≡ ◌>>=◌ {B = (List t.Field × t.Last) × State} (read_all (read m) (ty v n ∷ the_mark mark.ParenClose ∷ []) (flat_at (ty_pieces n' x q))) (λ xs. Ok (([], t.bare xs.0.0), xs.1))
  bare_first (t.abbr s w) v n n' q h = absurd h
  bare_first _ v n n' q h = refl

  -- a type is read whatever follows
  abbrev TyRead : Bool → t.Ty → Type 0
  TyRead v a = (n : ℕ) (r : List Piece) → read m (ty v n) (flat_at (ty_pieces n a r)) ≡ Ok (bare_ty a, flat_at r)

  sum_other : (s : Span) (a b : t.Ty) (v : Bool) (n : ℕ) (r : List Piece) → NotWord a → TyRead v a → TyRead v b → read m (ty v n) (flat_at (ty_pieces n (t.sum s a b) r)) ≡ Ok (bare_ty (t.sum s a b), flat_at r)
  sum_other s a b v n r not ra rb =
      let q2 = a_mark mark.ParenClose (ends s r) in
      let q1 = a_mark mark.Plus (ty_pieces (n + 1) b q2) in
      rw (read_is_step, pass_same (nat_lt message_limit n), sum_first a v n (n + 1) q1 not, ra (n + 1) q1, mark_c mark.Plus (ty_pieces (n + 1) b q2), rb (n + 1) q2, mark_c mark.ParenClose (ends s r)) refl

  sum_c : (s : Span) (a b : t.Ty) (v : Bool) (n : ℕ) (r : List Piece) → TyRead v a → TyRead v b → read m (ty v n) (flat_at (ty_pieces n (t.sum s a b) r)) ≡ Ok (bare_ty (t.sum s a b), flat_at r)
  sum_c s (t.abbr s' w) b v n r ra rb =
      let q2 = a_mark mark.ParenClose (ends s r) in
      rw (read_is_step, pass_same (nat_lt message_limit n), may_same (nat_lt message_limit (n + 1)), lead_same (nat_lt message_limit (n + 1)), pass_same false, rb (n + 1) q2, mark_c mark.ParenClose (ends s r)) refl
  sum_c s (t.un s') b v n r ra rb = sum_other s (t.un s') b v n r tt ra rb
  sum_c s (t.unit_ty s') b v n r ra rb = sum_other s (t.unit_ty s') b v n r tt ra rb
  sum_c s (t.tuple_ty s' w a fs l) b v n r ra rb = sum_other s (t.tuple_ty s' w a fs l) b v n r tt ra rb
  sum_c s (t.sum s' a a') b v n r ra rb = sum_other s (t.sum s' a a') b v n r tt ra rb
  sum_c s (t.key s' a) b v n r ra rb = sum_other s (t.key s' a) b v n r tt ra rb
  sum_c s (t.nonce s' es) b v n r ra rb = sum_other s (t.nonce s' es) b v n r tt ra rb

  bare_other : (a : t.Ty) (v : Bool) (n : ℕ) (r : List Piece) → NotWord a → TyRead v a → read m (fields v n) (flat_at (ty_pieces n a (a_mark mark.ParenClose r))) ≡ Ok (([], t.bare (bare_ty a)), flat_at r)
  bare_other a v n r not ra = rw (read_is_step, bare_first a v n n (a_mark mark.ParenClose r) not, ra n (a_mark mark.ParenClose r), mark_c mark.ParenClose r) refl

  bare_c : (a : t.Ty) (v : Bool) (n : ℕ) (r : List Piece) → TyRead v a → read m (fields v n) (flat_at (ty_pieces n a (a_mark mark.ParenClose r))) ≡ Ok (([], t.bare (bare_ty a)), flat_at r)
  bare_c (t.abbr s w) v n r ra = rw (read_is_step, may_same (nat_lt message_limit n), lead_same (nat_lt message_limit n), pass_same false) refl
  bare_c (t.un s') v n r ra = bare_other (t.un s') v n r tt ra
  bare_c (t.unit_ty s') v n r ra = bare_other (t.unit_ty s') v n r tt ra
  bare_c (t.tuple_ty s' w a fs l) v n r ra = bare_other (t.tuple_ty s' w a fs l) v n r tt ra
  bare_c (t.sum s' a a') v n r ra = bare_other (t.sum s' a a') v n r tt ra
  bare_c (t.key s' a) v n r ra = bare_other (t.key s' a) v n r tt ra
  bare_c (t.nonce s' es) v n r ra = bare_other (t.nonce s' es) v n r tt ra

  more_ends : (v : Bool) (n : ℕ) (r : List Piece) → read m (fields_more v n) (flat_at (a_mark mark.ParenClose r)) ≡ Ok (None, flat_at r)
  more_ends v n r = rw (read_is_step, pass_same false) refl

  more_goes_on : (v : Bool) (n : ℕ) (q : List Piece) (x : (List t.Field × t.Last) × State) → read m (fields v n) (flat_at q) ≡ Ok x → read m (fields_more v n) (flat_at (a_mark mark.Comma q)) ≡ Ok (Some x.0, x.1)
  more_goes_on v n q x e = rw (read_is_step, pass_same false, e) refl

  abbrev bare_list_of : t.Fields → List t.Field
  bare_list_of t.no_fields = []
  bare_list_of (t.more_fields w a fs) = record { name = bare_word w; ty = bare_ty a } ∷ bare_list_of fs

  bare_list_of_is : (fs : t.Fields) → t.fields_of_list (bare_list_of fs) ≡ bare_fields fs
  bare_list_of_is t.no_fields = refl
  bare_list_of_is (t.more_fields w a fs) = ap (t.more_fields (bare_word w) (bare_ty a)) (bare_list_of_is fs)

  mutual
    pub ty_c : (x : t.Ty) (v : Bool) (n : ℕ) (r : List Piece) → IsTy v x → read m (ty v n) (flat_at (ty_pieces n x r)) ≡ Ok (bare_ty x, flat_at r)
    ty_c (t.un s) v n r h = rw (read_is_step, pass_same (nat_lt message_limit n)) refl
    ty_c (t.unit_ty s) v n r h = rw (read_is_step, pass_same (nat_lt message_limit n), pass_same false) refl
    ty_c (t.tuple_ty s w a fs l) v n r h =
        let q2 = fields_pieces (n + 1) fs (last_pieces (n + 1) l (a_mark mark.ParenClose (ends s r))) in
        let q1 = a_mark mark.Comma q2 in
        rw (read_is_step, pass_same (nat_lt message_limit n), may_not (nat_lt message_limit (n + 1)), lead_on (nat_lt message_limit (n + 1)), pass_same false, ty_c a v (n + 1) q1 h.0, mark_c mark.Comma q2, fields_c fs v (n + 1) l (ends s r) h.1 (last_c l v (n + 1) (ends s r) h.2), bare_list_of_is fs) refl
    ty_c (t.sum s a b) v n r h = sum_c s a b v n r (λ i q. ty_c a v i q h.0) (λ i q. ty_c b v i q h.1)
    ty_c (t.key s a) v n r h =
        let q2 = a_mark mark.ParenClose (ends s r) in
        let q1 = ty_pieces (n + 1) a q2 in
        rw (read_is_step, pass_same (nat_lt message_limit n), mark_c mark.ParenOpen q1, ty_c a v (n + 1) q2 h, mark_c mark.ParenClose (ends s r)) refl
    ty_c (t.nonce s es) v n r h = rw (read_is_step, pass_same (nat_lt message_limit n), effect_c es v false (n + 1) (ends s r) h) refl
    ty_c (t.abbr s w) v n r h = rw (read_is_step, pass_same (nat_lt message_limit n)) refl

    pub fields_c : (fs : t.Fields) (v : Bool) (n : ℕ) (l : t.Last) (r : List Piece) → AreFields v fs → read m (fields v n) (flat_at (last_pieces n l (a_mark mark.ParenClose r))) ≡ Ok (([], bare_last l), flat_at r)
        → read m (fields v n) (flat_at (fields_pieces n fs (last_pieces n l (a_mark mark.ParenClose r)))) ≡ Ok ((bare_list_of fs, bare_last l), flat_at r)
    fields_c t.no_fields v n l r h k = k
    fields_c (t.more_fields w a fs) v n l r h k =
        let q2 = fields_pieces n fs (last_pieces n l (a_mark mark.ParenClose r)) in
        let q1 = a_mark mark.Comma q2 in
        rw (read_is_step, may_not (nat_lt message_limit n), lead_on (nat_lt message_limit n), pass_same false, ty_c a v n q1 h.0, more_goes_on v n q2 _ (fields_c fs v n l r h.1 k)) refl

    pub last_c : (l : t.Last) (v : Bool) (n : ℕ) (r : List Piece) → IsLast v l → read m (fields v n) (flat_at (last_pieces n l (a_mark mark.ParenClose r))) ≡ Ok (([], bare_last l), flat_at r)
    last_c (t.bare a) v n r h = bare_c a v n r (λ i q. ty_c a v i q h)
    last_c (t.named w a) v n r h = rw (read_is_step, may_not (nat_lt message_limit n), lead_on (nat_lt message_limit n), pass_same false, ty_c a v n (a_mark mark.ParenClose r) h, more_ends v n r) refl

  -- ---- names with their types, and the heads of forms

  named_c : (w : SWord) (a : t.Ty) (v : Bool) (r : List Piece) → IsTy v a → read m (named v) (flat_at (named_pieces w a r)) ≡ Ok ((bare_word w, bare_ty a), flat_at r)
  named_c w a v r h =
      let q1 = ty_pieces 1 a r in
      rw (read_is_step, word_c w (a_mark mark.Colon q1), mark_c mark.Colon q1, ty_c a v 1 r h) refl

  binder_c : (w : SWord) (a : t.Ty) (v : Bool) (r : List Piece) → IsTy v a → read m (binder v) (flat_at (binder_pieces w a r)) ≡ Ok ((bare_word w, bare_ty a), flat_at r)
  binder_c w a v r h =
      let q4 = a_mark mark.Semicolon r in
      rw (read_is_step, pass_same false, named_c w a v (a_mark mark.ParenClose q4) h, mark_c mark.ParenClose q4, mark_c mark.Semicolon r) refl

  split_head_c : (w : SWord) (a : t.Ty) (x : SWord) (b : t.Ty) (v : Bool) (r : List Piece) → IsTy v a → IsTy v b
      → read m (split_head v) (flat_at (a_reserved word.Is (a_mark mark.ParenOpen (named_pieces w a (a_mark mark.Comma (named_pieces x b (a_mark mark.ParenClose (a_mark mark.Semicolon r)))))))) ≡ Ok ((bare_word w, bare_ty a, bare_word x, bare_ty b), flat_at r)
  split_head_c w a x b v r ha hb =
      let q5 = a_mark mark.Semicolon r in
      let q4 = a_mark mark.ParenClose q5 in
      let q3 = named_pieces x b q4 in
      let q2 = a_mark mark.Comma q3 in
      let q1 = named_pieces w a q2 in
      rw (read_is_step, pass_same false, mark_c mark.ParenOpen q1, named_c w a v q2 ha, mark_c mark.Comma q3, named_c x b v q4 hb, mark_c mark.ParenClose q5, mark_c mark.Semicolon r) refl

  match_head_c : (w : SWord) (a : t.Ty) (e : t.Msg) (x : SWord) (b : t.Ty) (v : Bool) (r : List Piece) → IsTy v a → IsMsg v false e → IsTy v b
      → read m (match_head v) (flat_at (a_reserved word.Is (a_mark mark.ParenOpen (named_pieces w a (a_mark mark.Equals (msg_pieces 1 e (a_mark mark.Comma (named_pieces x b (a_mark mark.ParenClose (a_mark mark.Semicolon r)))))))))) ≡ Ok ((bare_word w, bare_ty a, bare_msg e, bare_word x, bare_ty b), flat_at r)
  match_head_c w a e x b v r ha he hb =
      let q7 = a_mark mark.Semicolon r in
      let q6 = a_mark mark.ParenClose q7 in
      let q5 = named_pieces x b q6 in
      let q4 = a_mark mark.Comma q5 in
      let q3 = msg_pieces 1 e q4 in
      let q2 = a_mark mark.Equals q3 in
      let q1 = named_pieces w a q2 in
      rw (read_is_step, pass_same false, mark_c mark.ParenOpen q1, named_c w a v q2 ha, mark_c mark.Equals q3, msg_c e v false 1 q4 he, mark_c mark.Comma q5, named_c x b v q6 hb, mark_c mark.ParenClose q7, mark_c mark.Semicolon r) refl

  case_head_c : (side : Reserved) (w : SWord) (a : t.Ty) (v : Bool) (r : List Piece) → IsTy v a → read m (case_head v side) (flat_at (a_reserved word.Is (a_reserved side (binder_pieces w a r)))) ≡ Ok ((bare_word w, bare_ty a), flat_at r)
  case_head_c side w a v r h = rw (read_is_step, pass_same false, reserved_c side (binder_pieces w a r), binder_c w a v r h) refl

  decrypt_head_c : (w : SWord) (a : t.Ty) (e : t.Msg) (v : Bool) (r : List Piece) → IsTy v a → IsMsg v false e
      → read m (decrypt_head v) (flat_at (a_reserved word.Is (a_mark mark.BraceOpen (named_pieces w a (a_mark mark.BraceClose (msg_pieces 1 e (a_mark mark.Semicolon r))))))) ≡ Ok ((bare_word w, bare_ty a, bare_msg e), flat_at r)
  decrypt_head_c w a e v r ha he =
      let q4 = a_mark mark.Semicolon r in
      let q3 = msg_pieces 1 e q4 in
      let q2 = a_mark mark.BraceClose q3 in
      let q1 = named_pieces w a q2 in
      rw (read_is_step, pass_same false, mark_c mark.BraceOpen q1, named_c w a v q2 ha, mark_c mark.BraceClose q3, msg_c e v false 1 q4 he, mark_c mark.Semicolon r) refl

  check_head_c : (e : t.Msg) (v : Bool) (r : List Piece) → IsMsg v false e → read m (check_head v) (flat_at (a_reserved word.Is (msg_pieces 1 e (a_mark mark.Semicolon r)))) ≡ Ok (bare_msg e, flat_at r)
  check_head_c e v r h = rw (read_is_step, pass_same false, msg_c e v false 1 (a_mark mark.Semicolon r) h, mark_c mark.Semicolon r) refl

  cast_head_c : (w : SWord) (a : t.Ty) (v : Bool) (r : List Piece) → IsTy v a → read m (cast_head v) (flat_at (a_reserved word.Is (binder_pieces w a r))) ≡ Ok ((bare_word w, bare_ty a), flat_at r)
  cast_head_c w a v r h = rw (read_is_step, pass_same false, binder_c w a v r h) refl

  -- ---- processes

  -- what follows is no more of an output, and no more of a parallel composition
  pub record OutEnds (ts : List Tok) : Type 0 where
    pub by : (v : Bool) (n : ℕ) → read m (out_tail v n) (at 0 ts) ≡ Ok (None, at 0 ts)

  pub record ParEnds (ts : List Tok) : Type 0 where
    pub by : (v : Bool) (n : ℕ) → read m (par_tail v n) (at 0 ts) ≡ Ok (None, at 0 ts)

  pub out_ends_nil : OutEnds []
  out_ends_nil = record { by = λ v n. rw read_is_step refl }

  pub par_ends_nil : ParEnds []
  par_ends_nil = record { by = λ v n. rw read_is_step refl }

  out_ends_bar : (r : List Piece) → OutEnds (flat_pieces φ (a_mark mark.Bar r))
  out_ends_bar r = record { by = λ v n. rw read_is_step refl }

  out_ends_paren : (r : List Piece) → OutEnds (flat_pieces φ (a_mark mark.ParenClose r))
  out_ends_paren r = record { by = λ v n. rw read_is_step refl }

  par_ends_paren : (r : List Piece) → ParEnds (flat_pieces φ (a_mark mark.ParenClose r))
  par_ends_paren r = record { by = λ v n. rw read_is_step refl }

  out_ends_word : (w : Reserved) (r : List Piece) → OutEnds (flat_pieces φ (a_reserved w r))
  out_ends_word w r = record { by = λ v n. rw read_is_step refl }

  par_ends_word : (w : Reserved) (r : List Piece) → ParEnds (flat_pieces φ (a_reserved w r))
  par_ends_word w r = record { by = λ v n. rw read_is_step refl }

  abbrev SeqRead : t.Proc → Type 0
  SeqRead p = (v : Bool) (n : ℕ) (r : List Piece) → IsProc v (in_seq n) p → OutEnds (flat_pieces φ r) → read m (seq v n) (flat_at (proc_pieces (in_seq n) p r)) ≡ Ok (bare_proc p, flat_at r)

  abbrev LevelRead : t.Proc → Type 0
  LevelRead p = (v : Bool) (l : ℕ) (r : List Piece) → IsProc v (at_level l) p → OutEnds (flat_pieces φ r) → ParEnds (flat_pieces φ r) → read m (sproc v l) (flat_at (proc_pieces (at_level l) p r)) ≡ Ok (bare_proc p, flat_at r)

  semi_c : (v : Bool) (n : ℕ) (q : List Piece) (x : t.Proc × State) → read m (seq v (n + 1)) (flat_at q) ≡ Ok x → read m (out_tail v n) (flat_at (a_mark mark.Semicolon q)) ≡ Ok (Some x.0, x.1)
  semi_c v n q x e = rw (read_is_step, pass_same false, e) refl

  bar_c : (v : Bool) (n : ℕ) (q : List Piece) (x : t.Proc × State) → read m (sproc v (n + 1)) (flat_at q) ≡ Ok x → read m (par_tail v n) (flat_at (a_mark mark.Bar q)) ≡ Ok (Some x.0, x.1)
  bar_c v n q x e = rw (read_is_step, pass_same false, e) refl

  abbrev level_parts : Bool → ℕ → List Sym
  level_parts v l = seq v (l + 1) ∷ par_tail v l ∷ []

  abbrev level_rest : Bool → ℕ → List Piece → Out t.Proc
  level_rest v l q = ◌>>=◌ {A = Trees (level_parts v l) × State} {B = t.Proc × State} (read_all (read m) (level_parts v l) (flat_at q)) (λ xs. Ok (par_of (over (nowhere ∷ []) xs.1.end) xs.0.0 xs.0.1.0, xs.1))

  level_first : (p : t.Proc) (v : Bool) (l n : ℕ) (q : List Piece) → IsProc v (in_seq n) p → reads_step m (read m) (sproc v l) (flat_at (proc_pieces (in_seq n) p q)) ≡ level_rest v l (proc_pieces (in_seq n) p q)
  level_first (t.par s p p') v l n q h = absurd h
  level_first _ v l n q h = refl

  lift : (p : t.Proc) (v : Bool) (l : ℕ) (r : List Piece) → IsProc v (in_seq (l + 1)) p → SeqRead p → OutEnds (flat_pieces φ r) → ParEnds (flat_pieces φ r) → read m (sproc v l) (flat_at (proc_pieces (in_seq (l + 1)) p r)) ≡ Ok (bare_proc p, flat_at r)
  lift p v l r h rp oe pe = rw (read_is_step, level_first p v l (l + 1) r h, rp v (l + 1) r h oe, pe.by v l) refl

  many_c : (s : Span) (a : t.Msg) (p : t.Proc) (v : Bool) (n : ℕ) (r : List Piece) → IsProc v (in_seq n) (t.end_many s a p)
      → ((r' : List Piece) → IsProc v (in_seq (n + 1)) p → OutEnds (flat_pieces φ r') → read m (seq v (n + 1)) (flat_at (proc_pieces (in_seq (n + 1)) p r')) ≡ Ok (bare_proc p, flat_at r'))
      → OutEnds (flat_pieces φ r) → read m (seq v n) (flat_at (proc_pieces (in_seq n) (t.end_many s a p) r)) ≡ Ok (bare_proc (t.end_many s a p), flat_at r)
  many_c s a p false n r h ih oe = absurd (let e = h.0 in cc)
  many_c s a p true n r h ih oe =
      let q9 = proc_pieces (in_seq (n + 1)) p (ends s r) in
      rw (read_is_step, pass_same (nat_lt process_limit n), msg_c a true false 1 (a_mark mark.Semicolon q9) h.1, mark_c mark.Semicolon q9, ih (ends s r) h.2 oe) refl

  pub proc_c : (p : t.Proc) → SeqRead p × LevelRead p
  proc_c (t.par s p p') = (
    λ v n r h oe. absurd h,
    λ v l r h oe pe.
        let q2 = proc_pieces (at_level (l + 1)) p' (ends s r) in
        let q1 = a_mark mark.Bar q2 in
        rw (read_is_step, level_first p v l (l + 1) q1 h.0, (proc_c p).0 v (l + 1) q1 h.0 (out_ends_bar q2), bar_c v l q2 _ ((proc_c p').1 v (l + 1) (ends s r) h.1 oe pe)) refl,
  )
  proc_c (t.out s a b) =
      let f : SeqRead (t.out s a b) = λ v n r h oe.
      rw (read_is_step, pass_same (nat_lt process_limit n), msg_c a v false 1 (msg_pieces 1 b (ends s r)) h.0, msg_c b v false 1 (ends s r) h.1, oe.by v n) refl in
      (f, λ v l r h oe pe. lift (t.out s a b) v l r h f oe pe)
  proc_c (t.out_then s a b p) =
      let f : SeqRead (t.out_then s a b p) = λ v n r h oe.
      let q9 = proc_pieces (in_seq (n + 1)) p (ends s r) in
      let q2 = a_mark mark.Semicolon q9 in
      rw (read_is_step, pass_same (nat_lt process_limit n), msg_c a v false 1 (msg_pieces 1 b q2) h.0, msg_c b v false 1 q2 h.1, semi_c v n q9 _ ((proc_c p).0 v (n + 1) (ends s r) h.2 oe)) refl in
      (f, λ v l r h oe pe. lift (t.out_then s a b p) v l r h f oe pe)
  proc_c (t.inp s a w b p) =
      let f : SeqRead (t.inp s a w b p) = λ v n r h oe.
      let q9 = proc_pieces (in_seq (n + 1)) p (ends s r) in
      rw (read_is_step, pass_same (nat_lt process_limit n), msg_c a v false 1 (binder_pieces w b q9) h.0, binder_c w b v q9 h.1, (proc_c p).0 v (n + 1) (ends s r) h.2 oe) refl in
      (f, λ v l r h oe pe. lift (t.inp s a w b p) v l r h f oe pe)
  proc_c (t.repeat s a w b p) =
      let f : SeqRead (t.repeat s a w b p) = λ v n r h oe.
      let q9 = proc_pieces (in_seq (n + 1)) p (ends s r) in
      let q2 = binder_pieces w b q9 in
      let q1 = msg_pieces 1 a q2 in
      rw (read_is_step, pass_same (nat_lt process_limit n), reserved_c word.Inp q1, msg_c a v false 1 q2 h.0, binder_c w b v q9 h.1, (proc_c p).0 v (n + 1) (ends s r) h.2 oe) refl in
      (f, λ v l r h oe pe. lift (t.repeat s a w b p) v l r h f oe pe)
  proc_c (t.split s a w b x c p) =
      let f : SeqRead (t.split s a w b x c p) = λ v n r h oe.
      let q9 = proc_pieces (in_seq (n + 1)) p (ends s r) in
      rw (read_is_step, pass_same (nat_lt process_limit n), msg_c a v false 1 (a_reserved word.Is (a_mark mark.ParenOpen (named_pieces w b (a_mark mark.Comma (named_pieces x c (a_mark mark.ParenClose (a_mark mark.Semicolon q9))))))) h.0, split_head_c w b x c v q9 h.1 h.2, (proc_c p).0 v (n + 1) (ends s r) h.3 oe) refl in
      (f, λ v l r h oe pe. lift (t.split s a w b x c p) v l r h f oe pe)
  proc_c (t.match s a w b e x c p) =
      let f : SeqRead (t.match s a w b e x c p) = λ v n r h oe.
      let q9 = proc_pieces (in_seq (n + 1)) p (ends s r) in
      rw (read_is_step, pass_same (nat_lt process_limit n), msg_c a v false 1 (a_reserved word.Is (a_mark mark.ParenOpen (named_pieces w b (a_mark mark.Equals (msg_pieces 1 e (a_mark mark.Comma (named_pieces x c (a_mark mark.ParenClose (a_mark mark.Semicolon q9))))))))) h.0, match_head_c w b e x c v q9 h.1 h.2 h.3, (proc_c p).0 v (n + 1) (ends s r) h.4 oe) refl in
      (f, λ v l r h oe pe. lift (t.match s a w b e x c p) v l r h f oe pe)
  proc_c (t.case s a w b p x c p') =
      let f : SeqRead (t.case s a w b p x c p') = λ v n r h oe.
      let q9 = proc_pieces (in_seq (n + 1)) p' (ends s r) in
      let q3 = a_reserved word.Is (a_reserved word.Inr (binder_pieces x c q9)) in
      let q2 = proc_pieces (in_seq (n + 1)) p q3 in
      rw (read_is_step, pass_same (nat_lt process_limit n), msg_c a v false 1 (a_reserved word.Is (a_reserved word.Inl (binder_pieces w b q2))) h.0, case_head_c word.Inl w b v q2 h.1, (proc_c p).0 v (n + 1) q3 h.2 (out_ends_word word.Is (a_reserved word.Inr (binder_pieces x c q9))), case_head_c word.Inr x c v q9 h.3, (proc_c p').0 v (n + 1) (ends s r) h.4 oe) refl in
      (f, λ v l r h oe pe. lift (t.case s a w b p x c p') v l r h f oe pe)
  proc_c (t.decrypt s a w b e p) =
      let f : SeqRead (t.decrypt s a w b e p) = λ v n r h oe.
      let q9 = proc_pieces (in_seq (n + 1)) p (ends s r) in
      rw (read_is_step, pass_same (nat_lt process_limit n), msg_c a v false 1 (a_reserved word.Is (a_mark mark.BraceOpen (named_pieces w b (a_mark mark.BraceClose (msg_pieces 1 e (a_mark mark.Semicolon q9)))))) h.0, decrypt_head_c w b e v q9 h.1 h.2, (proc_c p).0 v (n + 1) (ends s r) h.3 oe) refl in
      (f, λ v l r h oe pe. lift (t.decrypt s a w b e p) v l r h f oe pe)
  proc_c (t.check s a e p) =
      let f : SeqRead (t.check s a e p) = λ v n r h oe.
      let q9 = proc_pieces (in_seq (n + 1)) p (ends s r) in
      rw (read_is_step, pass_same (nat_lt process_limit n), msg_c a v false 1 (a_reserved word.Is (msg_pieces 1 e (a_mark mark.Semicolon q9))) h.0, check_head_c e v q9 h.1, (proc_c p).0 v (n + 1) (ends s r) h.2 oe) refl in
      (f, λ v l r h oe pe. lift (t.check s a e p) v l r h f oe pe)
  proc_c (t.begin s a p) =
      let f : SeqRead (t.begin s a p) = λ v n r h oe.
      let q9 = proc_pieces (in_seq (n + 1)) p (ends s r) in
      rw (read_is_step, pass_same (nat_lt process_limit n), msg_c a v false 1 (a_mark mark.Semicolon q9) h.0, mark_c mark.Semicolon q9, (proc_c p).0 v (n + 1) (ends s r) h.1 oe) refl in
      (f, λ v l r h oe pe. lift (t.begin s a p) v l r h f oe pe)
  proc_c (t.end s a p) =
      let f : SeqRead (t.end s a p) = λ v n r h oe.
      let q9 = proc_pieces (in_seq (n + 1)) p (ends s r) in
      rw (read_is_step, pass_same (nat_lt process_limit n), msg_c a v false 1 (a_mark mark.Semicolon q9) h.0, mark_c mark.Semicolon q9, (proc_c p).0 v (n + 1) (ends s r) h.1 oe) refl in
      (f, λ v l r h oe pe. lift (t.end s a p) v l r h f oe pe)
  proc_c (t.end_many s a p) =
      let f : SeqRead (t.end_many s a p) = λ v n r h oe. many_c s a p v n r h (λ r' h'. (proc_c p).0 v (n + 1) r' h') oe in
      (f, λ v l r h oe pe. lift (t.end_many s a p) v l r h f oe pe)
  proc_c (t.cast s a w b p) =
      let f : SeqRead (t.cast s a w b p) = λ v n r h oe.
      let q9 = proc_pieces (in_seq (n + 1)) p (ends s r) in
      rw (read_is_step, pass_same (nat_lt process_limit n), msg_c a v false 1 (a_reserved word.Is (binder_pieces w b q9)) h.0, cast_head_c w b v q9 h.1, (proc_c p).0 v (n + 1) (ends s r) h.2 oe) refl in
      (f, λ v l r h oe pe. lift (t.cast s a w b p) v l r h f oe pe)
  proc_c (t.new s w b p) =
      let f : SeqRead (t.new s w b p) = λ v n r h oe.
      let q9 = proc_pieces (in_seq (n + 1)) p (ends s r) in
      rw (read_is_step, pass_same (nat_lt process_limit n), binder_c w b v q9 h.0, (proc_c p).0 v (n + 1) (ends s r) h.1 oe) refl in
      (f, λ v l r h oe pe. lift (t.new s w b p) v l r h f oe pe)
  proc_c (t.stop s) =
      let f : SeqRead (t.stop s) = λ v n r h oe. rw (read_is_step, pass_same (nat_lt process_limit n)) refl in
      (f, λ v l r h oe pe. lift (t.stop s) v l r h f oe pe)
  proc_c (t.group s p p') =
      let f : SeqRead (t.group s p p') = λ v n r h oe.
      let q3 = a_mark mark.ParenClose (ends s r) in
      let q2 = proc_pieces (at_level (n + 1)) p' q3 in
      let q1 = a_mark mark.Bar q2 in
      rw (read_is_step, pass_same (nat_lt process_limit n), (proc_c p).0 v (n + 1) q1 h.0 (out_ends_bar q2), mark_c mark.Bar q2, (proc_c p').1 v (n + 1) q3 h.1 (out_ends_paren (ends s r)) (par_ends_paren (ends s r)), mark_c mark.ParenClose (ends s r)) refl in
      (f, λ v l r h oe pe. lift (t.group s p p') v l r h f oe pe)

  -- ---- declarations

  words_c : (ws : List SWord) (r : List Piece) → read m words (flat_at (words_pieces ws (a_mark mark.Semicolon r))) ≡ Ok ((map bare_word ws, tt), flat_at r)
  words_c [] r = rw (read_is_step, pass_same false) refl
  words_c (w ∷ ws) r =
      let q1 = words_pieces ws (a_mark mark.Semicolon r) in
      rw (read_is_step, pass_same false, word_c w q1, words_c ws r) refl

  free_c : (w : SWord) (ws : List SWord) (r : List Piece) → read m free_rest (flat_at (a_word false w (words_pieces ws (a_mark mark.Semicolon r)))) ≡ Ok ((bare_word w, map bare_word ws, 0), flat_at r)
  free_c w ws r = rw (read_is_step, word_c w (words_pieces ws (a_mark mark.Semicolon r)), words_c ws r) refl

  abbr_c : (w : SWord) (a : t.Ty) (v : Bool) (r : List Piece) → IsTy v a → read m (abbr_rest v) (flat_at (a_word false w (a_mark mark.Equals (ty_pieces 1 a (a_mark mark.Semicolon r))))) ≡ Ok ((bare_word w, bare_ty a, 0), flat_at r)
  abbr_c w a v r h =
      let q2 = a_mark mark.Semicolon r in
      let q1 = ty_pieces 1 a q2 in
      rw (read_is_step, word_c w (a_mark mark.Equals q1), mark_c mark.Equals q1, ty_c a v 1 q2 h, mark_c mark.Semicolon r) refl

  pub decl_c : (d : t.Declared) (v : Bool) (r : List Piece) → IsDeclared v d → read m (decl v) (flat_at (decl_pieces d r)) ≡ Ok (bare_decl d, flat_at r)
  decl_c (t.free s w ws) v r h = rw (read_is_step, pass_same false, free_c w ws (ends s r)) refl
  decl_c (t.abbreviated s w a) v r h = rw (read_is_step, pass_same false, abbr_c w a v (ends s r) h) refl

  decls_c : (ds : List t.Declared) (v : Bool) (r : List Piece) → AreDeclared v ds → read m (decls v) (flat_at (decls_pieces ds (a_reserved word.Process r))) ≡ Ok ((map bare_decl ds, tt), flat_at r)
  decls_c [] v r h = rw (read_is_step, pass_same false) refl
  decls_c (t.free s w ws ∷ ds) v r h =
      let q1 = ends s (decls_pieces ds (a_reserved word.Process r)) in
      rw (read_is_step, pass_same false, free_c w ws q1, decls_c ds v r h.1) refl
  decls_c (t.abbreviated s w a ∷ ds) v r h =
      let q1 = ends s (decls_pieces ds (a_reserved word.Process r)) in
      rw (read_is_step, pass_same false, abbr_c w a v q1 h.0, decls_c ds v r h.1) refl

  -- ---- schedules

  act_c : (i : ℕ) (r : List Piece) → read m act_rest (flat_at (a_number i (a_mark mark.Semicolon r))) ≡ Ok ((i, 0), flat_at r)
  act_c i r = rw (read_is_step, number_c i (a_mark mark.Semicolon r), mark_c mark.Semicolon r) refl

  talk_c : (i j : ℕ) (r : List Piece) → read m talk_rest (flat_at (a_number i (a_number j (a_mark mark.Semicolon r)))) ≡ Ok ((i, j, 0), flat_at r)
  talk_c i j r = rw (read_is_step, number_c i (a_number j (a_mark mark.Semicolon r)), number_c j (a_mark mark.Semicolon r), mark_c mark.Semicolon r) refl

  abbrev StepsEnd : List Tok → Type 0
  StepsEnd ts = read m steps (at 0 ts) ≡ Ok (([], tt), at 0 ts)

  steps_c : (xs : List t.Step) (r : List Piece) → StepsEnd (flat_pieces φ r) → read m steps (flat_at (steps_pieces xs r)) ≡ Ok ((map bare_step xs, tt), flat_at r)
  steps_c [] r e = e
  steps_c (t.act s i ∷ xs) r e =
      let q1 = ends s (steps_pieces xs r) in
      rw (read_is_step, pass_same false, act_c i q1, steps_c xs r e) refl
  steps_c (t.talk s i j ∷ xs) r e =
      let q1 = ends s (steps_pieces xs r) in
      rw (read_is_step, pass_same false, talk_c i j q1, steps_c xs r e) refl

  -- ---- derivations

  -- the move of a rule's word
  rule_step : (v : Bool) (n : ℕ) (w : List ℕ) (f : Bool) (ts : List Tok) (a : Option ℕ) (b : Bool) → arity_of v w ≡ a → writes_effect w ≡ b
      → reads_step m (read m) (deriv v n) (at 0 (record { kind = K.Word w; span = nowhere; deep = f } ∷ ts)) ≡ go_on m (read m) (rule_move v n w a b) (nat_lt derivation_limit n) [] (at 0 (record { kind = K.Word w; span = nowhere; deep = f } ∷ ts))
  rule_step v n w f ts a b ea eb =
      ap (λ (c : Option ℕ). go_on m (read m) (rule_move v n w c (writes_effect w)) (nat_lt derivation_limit n) [] (at 0 (record { kind = K.Word w; span = nowhere; deep = f } ∷ ts))) ea
      ∙ ap (λ (c : Bool). go_on m (read m) (rule_move v n w a c) (nat_lt derivation_limit n) [] (at 0 (record { kind = K.Word w; span = nowhere; deep = f } ∷ ts))) eb

  pub deriv_c : (d : t.Deriv) (v : Bool) (n : ℕ) (r : List Piece) → IsRuled v d → read m (deriv v n) (flat_at (deriv_pieces n d r)) ≡ Ok (bare_deriv d, flat_at r)
  deriv_c (t.rule s w None t.no_derivs) v n r h = rw (read_is_step, rule_step v n w.word (φ (nat_lt derivation_limit n)) (flat_pieces φ (ends w.span (ends s r))) (Some zero) false h.0 h.1, pass_same (nat_lt derivation_limit n)) refl
  deriv_c (t.rule s w None (t.more_derivs a t.no_derivs)) v n r h =
      rw (read_is_step, rule_step v n w.word (φ (nat_lt derivation_limit n)) (flat_pieces φ (deriv_pieces (n + 1) a (ends s r))) (Some (suc zero)) false h.0 h.1, pass_same (nat_lt derivation_limit n), deriv_c a v (n + 1) (ends s r) h.3.0) refl
  deriv_c (t.rule s w None (t.more_derivs a (t.more_derivs b t.no_derivs))) v n r h =
      let q1 = deriv_pieces (n + 1) b (ends s r) in
      rw (read_is_step, rule_step v n w.word (φ (nat_lt derivation_limit n)) (flat_pieces φ (deriv_pieces (n + 1) a q1)) (Some (suc (suc zero))) false h.0 h.1, pass_same (nat_lt derivation_limit n), deriv_c a v (n + 1) q1 h.3.0, deriv_c b v (n + 1) (ends s r) h.3.1.0) refl
  deriv_c (t.rule s w None (t.more_derivs a (t.more_derivs b (t.more_derivs c t.no_derivs)))) v n r h =
      let q2 = deriv_pieces (n + 1) c (ends s r) in
      let q1 = deriv_pieces (n + 1) b q2 in
      rw (read_is_step, rule_step v n w.word (φ (nat_lt derivation_limit n)) (flat_pieces φ (deriv_pieces (n + 1) a q1)) (Some (suc (suc (suc zero)))) false h.0 h.1, pass_same (nat_lt derivation_limit n), deriv_c a v (n + 1) q1 h.3.0, deriv_c b v (n + 1) q2 h.3.1.0, deriv_c c v (n + 1) (ends s r) h.3.1.1.0) refl
  deriv_c (t.rule s w None (t.more_derivs a (t.more_derivs b (t.more_derivs c (t.more_derivs d ds))))) v n r h = let k = arity_most v w.word _ h.0 in absurd (omega arith)
  deriv_c (t.rule s w (Some es) t.no_derivs) v n r h = let k = sub_arity v w.word _ h.1 h.0 in absurd (omega arith)
  deriv_c (t.rule s w (Some es) (t.more_derivs a t.no_derivs)) v n r h =
      let q1 = deriv_pieces (n + 1) a (ends s r) in
      rw (read_is_step, rule_step v n w.word (φ (nat_lt derivation_limit n)) (flat_pieces φ (effect_pieces 0 es q1)) (Some (suc zero)) true h.0 h.1, pass_same (nat_lt derivation_limit n), effect_c es v true 0 q1 h.2, deriv_c a v (n + 1) (ends s r) h.3.0) refl
  deriv_c (t.rule s w (Some es) (t.more_derivs a (t.more_derivs b ds))) v n r h = let k = sub_arity v w.word _ h.1 h.0 in absurd (omega arith)

  -- ---- files

  derivation_c : (d : Option t.Deriv) (v : Bool) (to : ℕ) → IfSome d (IsRuled v) → read m (derivation_tail v) (flat_at (derivation_pieces d (closes to ∷ []))) ≡ Ok (bare_derivation d, at 0 [])
  derivation_c None v to h = rw read_is_step refl
  derivation_c (Some d) v to h = rw (read_is_step, pass_same false, deriv_c d v 1 (closes to ∷ []) h) refl

  steps_end : (d : Option t.Deriv) (to : ℕ) → StepsEnd (flat_pieces φ (derivation_pieces d (closes to ∷ [])))
  steps_end None to = rw read_is_step refl
  steps_end (Some d) to = rw read_is_step refl

  schedule_c : (x : Option (List t.Step)) (d : Option t.Deriv) (to : ℕ) → read m schedule_tail (flat_at (schedule_pieces x (derivation_pieces d (closes to ∷ [])))) ≡ Ok (bare_schedule x, flat_at (derivation_pieces d (closes to ∷ [])))
  schedule_c None None to = rw read_is_step refl
  schedule_c None (Some d) to = rw read_is_step refl
  schedule_c (Some xs) d to = rw (read_is_step, pass_same false, steps_c xs (derivation_pieces d (closes to ∷ [])) (steps_end d to)) refl

  abbrev behind_opponent : Option (List t.Step) → Option t.Deriv → ℕ → List Piece
  behind_opponent x d to = schedule_pieces x (derivation_pieces d (closes to ∷ []))

  out_ends_schedule : (x : Option (List t.Step)) (d : Option t.Deriv) (to : ℕ) → OutEnds (flat_pieces φ (behind_opponent x d to))
  out_ends_schedule None None to = out_ends_nil
  out_ends_schedule None (Some d) to = out_ends_word word.Derivation (deriv_pieces 1 d (closes to ∷ []))
  out_ends_schedule (Some xs) d to = out_ends_word word.Schedule (steps_pieces xs (derivation_pieces d (closes to ∷ [])))

  par_ends_schedule : (x : Option (List t.Step)) (d : Option t.Deriv) (to : ℕ) → ParEnds (flat_pieces φ (behind_opponent x d to))
  par_ends_schedule None None to = par_ends_nil
  par_ends_schedule None (Some d) to = par_ends_word word.Derivation (deriv_pieces 1 d (closes to ∷ []))
  par_ends_schedule (Some xs) d to = par_ends_word word.Schedule (steps_pieces xs (derivation_pieces d (closes to ∷ [])))

  opponent_c : (o : Option t.Proc) (x : Option (List t.Step)) (d : Option t.Deriv) (v : Bool) (to : ℕ) → IsFormedOpponent v o → read m (opponent_tail v) (flat_at (opponent_pieces o (behind_opponent x d to))) ≡ Ok (bare_opponent o, flat_at (behind_opponent x d to))
  opponent_c None None None v to h = rw read_is_step refl
  opponent_c None None (Some d) v to h = rw read_is_step refl
  opponent_c None (Some xs) d v to h = rw read_is_step refl
  opponent_c (Some p) x d v to h = rw (read_is_step, pass_same false, (proc_c p).1 v 0 (behind_opponent x d to) h (out_ends_schedule x d to) (par_ends_schedule x d to)) refl

  out_ends_opponent : (o : Option t.Proc) (x : Option (List t.Step)) (d : Option t.Deriv) (to : ℕ) → OutEnds (flat_pieces φ (opponent_pieces o (behind_opponent x d to)))
  out_ends_opponent None x d to = out_ends_schedule x d to
  out_ends_opponent (Some p) x d to = out_ends_word word.Opponent (proc_pieces (at_level 0) p (behind_opponent x d to))

  par_ends_opponent : (o : Option t.Proc) (x : Option (List t.Step)) (d : Option t.Deriv) (to : ℕ) → ParEnds (flat_pieces φ (opponent_pieces o (behind_opponent x d to)))
  par_ends_opponent None x d to = par_ends_schedule x d to
  par_ends_opponent (Some p) x d to = par_ends_word word.Opponent (proc_pieces (at_level 0) p (behind_opponent x d to))

  abbrev bare_body : Body → Body
  bare_body b = record { decls = map bare_decl b.decls; process = bare_proc b.process; opponent = bare_opponent b.opponent; schedule = bare_schedule b.schedule; derivation = bare_derivation b.derivation }

  abbrev body_parts : Bool → List Sym
  body_parts v = decls v ∷ sproc v 0 ∷ opponent_tail v ∷ schedule_tail ∷ derivation_tail v ∷ []

  abbrev body_rest : Bool → List Piece → Out Body
  body_rest v q = ◌>>=◌ {A = Trees (body_parts v) × State} {B = Body × State} (read_all (read m) (body_parts v) (flat_at q)) (λ xs. Ok (record { decls = xs.0.0.0; process = xs.0.1.0; opponent = xs.0.1.1.0; schedule = xs.0.1.1.1.0; derivation = xs.0.1.1.1.1.0 }, xs.1))

  body_first : (ds : List t.Declared) (v : Bool) (q : List Piece) → reads_step m (read m) (body v) (flat_at (decls_pieces ds (a_reserved word.Process q))) ≡ body_rest v (decls_pieces ds (a_reserved word.Process q))
  body_first [] v q = refl
  body_first (t.free s w ws ∷ ds) v q = refl
  body_first (t.abbreviated s w a ∷ ds) v q = refl

  body_c : (b : Body) (v : Bool) (to : ℕ) → IsBody v b → read m (body v) (flat_at (body_pieces b (closes to ∷ []))) ≡ Ok (bare_body b, at 0 [])
  body_c b v to h =
      let q2 = opponent_pieces b.opponent (behind_opponent b.schedule b.derivation to) in
      let q1 = proc_pieces (at_level 0) b.process q2 in
      rw (
        read_is_step,
        body_first b.decls v q1,
        decls_c b.decls v q1 h.0,
        (proc_c b.process).1 v 0 q2 h.1 (out_ends_opponent b.opponent b.schedule b.derivation to) (par_ends_opponent b.opponent b.schedule b.derivation to),
        opponent_c b.opponent b.schedule b.derivation v to h.2,
        schedule_c b.schedule b.derivation to,
        derivation_c b.derivation v to h.3,
      ) refl

  abbrev file_rest : List Piece → Out t.File
  file_rest q = ◌>>=◌ {A = Trees (body false ∷ []) × State} {B = t.File × State} (read_all (read m) (body false ∷ []) (flat_at q)) (λ xs. Ok (file_from 1 (over (nowhere ∷ []) xs.1.end) xs.0.0, xs.1))

  file_first : (ds : List t.Declared) (q : List Piece) → reads_step m (read m) file (flat_at (decls_pieces ds (a_reserved word.Process q))) ≡ file_rest (decls_pieces ds (a_reserved word.Process q))
  file_first [] q = refl
  file_first (t.free s w ws ∷ ds) q = refl
  file_first (t.abbreviated s w a ∷ ds) q = refl

  abbrev FileRead : t.File → Type 0
  FileRead f = read m file (flat_at (file_pieces f [])) ≡ Ok (bare_file f, at 0 [])

  first_version : (s : Span) (b : Body) → IsBody false b → FileRead (file_from 1 s b)
  first_version s b h =
      rw (read_is_step, file_first b.decls (proc_pieces (at_level 0) b.process (opponent_pieces b.opponent (behind_opponent b.schedule b.derivation s.to))), body_c b false s.to h) refl

  later_version : (s : Span) (b : Body) → IsBody true b → FileRead (file_from 2 s b)
  later_version s b h =
      let q2 = body_pieces b (closes s.to ∷ []) in
      rw (read_is_step, pass_same false, two_c (a_mark mark.Semicolon q2), mark_c mark.Semicolon q2, body_c b true s.to h) refl

  by_version : (v : ℕ) (s : Span) (b : Body) → (v ≡ 1) ⊎ (v ≡ 2) → IsBody (v == 2) b → FileRead (file_from v s b)
  by_version v s b (inl e) h = (subst (λ (i : ℕ). IsBody (i == 2) b → FileRead (file_from i s b)) (sym e) (first_version s b)) h
  by_version v s b (inr e) h = (subst (λ (i : ℕ). IsBody (i == 2) b → FileRead (file_from i s b)) (sym e) (later_version s b)) h

  pub file_c : (f : t.File) → IsRuledFile f → FileRead f
  file_c f h = by_version f.version f.span (body_in f) h.version h.body

-- the two modes
pub told_fits : FitsMode told (λ d. d)
told_fits = record {
  passes = λ d n go. passes d n go;
  mays = λ d n go. mays d n go;
  may_nots = λ d n go. may_nots d n go;
  leads = λ d l n go. leads d l n go;
  leads_on = λ d n go. leads_on d n go;
}
  where
    passes : {X : Type 0} (d : Bool) (n : ℕ) (go : Out X) → pass told d d n go ≡ go
    passes true n go = refl
    passes false n go = refl

    mays : {X : Type 0} (d : Bool) (n : ℕ) (go : Out X) → may_pass told d d n go ≡ go
    mays true n go = refl
    mays false n go = refl

    may_nots : {X : Type 0} (d : Bool) (n : ℕ) (go : Out X) → may_pass told d false n go ≡ go
    may_nots true n go = refl
    may_nots false n go = refl

    leads : {X : Type 0} (d l : Bool) (n : ℕ) (go : Out X) → may_lead told d d l n go ≡ go
    leads true true n go = refl
    leads true false n go = refl
    leads false true n go = refl
    leads false false n go = refl

    leads_on : {X : Type 0} (d : Bool) (n : ℕ) (go : Out X) → may_lead told d false d n go ≡ go
    leads_on true n go = refl
    leads_on false n go = refl

pub any_fits : FitsMode any (λ d. false)
any_fits = record {
  passes = λ d n go. refl;
  mays = λ d n go. refl;
  may_nots = λ d n go. refl;
  leads = λ d l n go. refl;
  leads_on = λ d n go. refl;
}
