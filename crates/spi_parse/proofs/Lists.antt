-- The lists of the grammar are read item by item.
use Rattle.std.proofs.Common.{◌≡◌, ℕ, suc, ◌<◌, ◌≤◌, Bool, true, false, cond, List, [], ◌∷◌, length, Option, Some, None, Ok, Err, refl, sym, ap, ◌∙◌, arith}
use Rattle.std.specs.Prelude.{nat_lt}
use Rattle.std.proofs.lemmas.Bool.{ltb-false}
use Rattle.spi_text.specs.declared.lines.Span.{Span}
use Rattle.spi_lex.specs.declared.token.Kind.{Kind}
use Rattle.spi_lex.specs.declared.token.Kind.TheVariants as K
use Rattle.spi_lex.specs.declared.token.Reserved.TheVariants as word
use Rattle.spi_lex.specs.declared.token.Mark.TheVariants as mark
use Rattle.spi_tree.specs.declared.tree.SWord.{SWord}
use Rattle.spi_tree.specs.Trees as t
use Rattle.spi_tree.specs.Pieces.{message_limit}
use Rattle.spi_parse.specs.declared.fault.Fault.TheVariants.{Syntax}
use Rattle.spi_parse.specs.Tokens.{Tok, State}
use Rattle.spi_parse.specs.Table.{ListItem, one, last, Sym, the_word, msgs_item, msgs, atoms_item, atoms, fields_item, fields_rest, fields, fields_more, words_item, words, free_rest, abbr_rest, decls_item, decls, act_rest, talk_rest, steps_item, steps, Tree, eat, skip, with_field, free_from, abbr_from, act_from, talk_from, is_act, is_talk, word_at, delta, delta_fields_word, delta_item_word}
use Rattle.spi_parse.specs.Reading.{◌>>=◌, Out, Mode, limited, pass, may_pass, with_next, go_on, read_all, reads_step, read, next_list}
use Rattle.spi_parse.proofs.Readers.{at, read_is_step, Base, TakesToken, Eats, TakesSome, no_longer, bind_ok, ok_is, all_no_longer}

abbrev tok_at : Kind → Span → Bool → Tok
tok_at k sp d = record { kind = k; span = sp; deep = d }

-- both sides of a token that a list begins with: only the mode of the code is wanted
abbrev m : Mode
m = limited

-- two symbols that are read alike at each first token, and at none, are read alike
module _ (a b : Sym) (to : Out (Tree b) → Out (Tree a))
    (none : (e : ℕ) → reads_step m (read m) a (at e []) ≡ to (reads_step m (read m) b (at e [])))
    (some : (e : ℕ) (k : Kind) (sp : Span) (d : Bool) (ts : List Tok) → reads_step m (read m) a (at e (tok_at k sp d ∷ ts)) ≡ to (reads_step m (read m) b (at e (tok_at k sp d ∷ ts)))) where
  alike_at : (e : ℕ) (ts : List Tok) → reads_step m (read m) a (at e ts) ≡ to (reads_step m (read m) b (at e ts))
  alike_at e [] = none e
  alike_at e (t ∷ ts) = some e t.kind t.span t.deep ts

  alike : (s : State) → read m a s ≡ to (read m b s)
  alike s = read_is_step m a s ∙ alike_at s.end s.rest ∙ ap to (sym (read_is_step m b s))

-- an item of one part
module _ {X Y E : Type 0} (g : Y → X) (go : State → Out (List X × E)) where
  abbrev after_one : Out Y → Out (List X × E)
  after_one r = ◌>>=◌ {A = (Y × ((List X × E) × Unit {0})) × State} {B = (List X × E) × State} (r >>= λ x. ◌>>=◌ {B = (Y × ((List X × E) × Unit {0})) × State} (◌>>=◌ {B = ((List X × E) × Unit {0}) × State} (go x.1) (λ y. Ok ((y.0, tt), y.1))) (λ ys. Ok ((x.0, ys.0), ys.1))) (λ xs. Ok ((g xs.0.0 ∷ xs.0.1.0.0, xs.0.1.0.1), xs.1))

  abbrev just_one : Out Y → Out (ListItem X E)
  just_one r = ◌>>=◌ {A = (Y × Unit {0}) × State} {B = ListItem X E × State} (r >>= λ x. Ok ((x.0, tt), x.1)) (λ xs. Ok (one (g xs.0.0), xs.1))

  one_part : (r : Out Y) → after_one r ≡ next_list (just_one r) go
  one_part (Err f) = refl
  one_part (Ok x) = inner (go x.1)
    where
      inner : (o : Out (List X × E)) → ◌>>=◌ {A = (Y × ((List X × E) × Unit {0})) × State} {B = (List X × E) × State} (◌>>=◌ {B = (Y × ((List X × E) × Unit {0})) × State} (◌>>=◌ {B = ((List X × E) × Unit {0}) × State} o (λ y. Ok ((y.0, tt), y.1))) (λ ys. Ok ((x.0, ys.0), ys.1))) (λ xs. Ok ((g xs.0.0 ∷ xs.0.1.0.0, xs.0.1.0.1), xs.1)) ≡ (o >>= λ z. Ok ((g x.0 ∷ z.0.0, z.0.1), z.1))
      inner (Err f) = refl
      inner (Ok z) = refl

msgs_at : (v : Bool) (d' : Bool) (n : ℕ) (e : ℕ) (k : Kind) (sp : Span) (d : Bool) (ts : List Tok) → reads_step m (read m) (msgs v d' n) (at e (tok_at k sp d ∷ ts)) ≡ next_list (reads_step m (read m) (msgs_item v d' n) (at e (tok_at k sp d ∷ ts))) (read m (msgs v d' n))
msgs_at v d' n e (K.Mark mark.Comma) sp d ts = one_part (λ x. x) (read m (msgs v d' n)) (read m (Sym.msg v d' n) (at sp.to ts))
msgs_at v d' n e _ sp d ts = refl

pub msgs_law : (v : Bool) (d' : Bool) (n : ℕ) (s : State) → read limited (msgs v d' n) s ≡ next_list (read limited (msgs_item v d' n) s) (read limited (msgs v d' n))
msgs_law v d' n s = alike (msgs v d' n) (msgs_item v d' n) (λ r. next_list r (read m (msgs v d' n))) (λ e. refl) (msgs_at v d' n) s

atoms_at : (v : Bool) (d' : Bool) (n : ℕ) (e : ℕ) (k : Kind) (sp : Span) (d : Bool) (ts : List Tok) → reads_step m (read m) (atoms v d' n) (at e (tok_at k sp d ∷ ts)) ≡ next_list (reads_step m (read m) (atoms_item v d' n) (at e (tok_at k sp d ∷ ts))) (read m (atoms v d' n))
atoms_at v d' n e (K.Mark mark.Comma) sp d ts = one_part (λ x. x) (read m (atoms v d' n)) (read m (Sym.atom v d' n) (at sp.to ts))
atoms_at v d' n e _ sp d ts = refl

pub atoms_law : (v : Bool) (d' : Bool) (n : ℕ) (s : State) → read limited (atoms v d' n) s ≡ next_list (read limited (atoms_item v d' n) s) (read limited (atoms v d' n))
atoms_law v d' n s = alike (atoms v d' n) (atoms_item v d' n) (λ r. next_list r (read m (atoms v d' n))) (λ e. refl) (atoms_at v d' n) s

words_at : (e : ℕ) (k : Kind) (sp : Span) (d : Bool) (ts : List Tok) → reads_step m (read m) words (at e (tok_at k sp d ∷ ts)) ≡ next_list (reads_step m (read m) words_item (at e (tok_at k sp d ∷ ts))) (read m words)
words_at e (K.Mark mark.Comma) sp d ts = one_part (λ x. x) (read m words) (read m the_word (at sp.to ts))
words_at e _ sp d ts = refl

pub words_law : (s : State) → read limited words s ≡ next_list (read limited words_item s) (read limited words)
words_law s = alike words words_item (λ r. next_list r (read m words)) (λ e. refl) words_at s

decls_at : (v : Bool) (e : ℕ) (k : Kind) (sp : Span) (d : Bool) (ts : List Tok) → reads_step m (read m) (decls v) (at e (tok_at k sp d ∷ ts)) ≡ next_list (reads_step m (read m) (decls_item v) (at e (tok_at k sp d ∷ ts))) (read m (decls v))
decls_at v e (K.Reserved word.Free) sp d ts = one_part (free_from (sp ∷ [])) (read m (decls v)) (read m free_rest (at sp.to ts))
decls_at v e (K.Reserved word.TypeWord) sp d ts = one_part (abbr_from (sp ∷ [])) (read m (decls v)) (read m (abbr_rest v) (at sp.to ts))
decls_at v e _ sp d ts = refl

pub decls_law : (v : Bool) (s : State) → read limited (decls v) s ≡ next_list (read limited (decls_item v) s) (read limited (decls v))
decls_law v s = alike (decls v) (decls_item v) (λ r. next_list r (read m (decls v))) (λ e. refl) (decls_at v) s

step_word : (e : ℕ) (w : List ℕ) (sp : Span) (d : Bool) (ts : List Tok) (a b : Bool)
    → go_on {a = steps} m (read m) (cond a (eat (act_rest ∷ steps ∷ []) (λ ss to xs. (act_from ss xs.0 ∷ xs.1.0.0, xs.1.0.1))) (cond b (eat (talk_rest ∷ steps ∷ []) (λ ss to xs. (talk_from ss xs.0 ∷ xs.1.0.0, xs.1.0.1))) (skip ([], tt)))) false [] (at e (tok_at (K.Word w) sp d ∷ ts))
    ≡ next_list (go_on {a = steps_item} m (read m) (cond a (eat (act_rest ∷ []) (λ ss to xs. one (act_from ss xs.0))) (cond b (eat (talk_rest ∷ []) (λ ss to xs. one (talk_from ss xs.0))) (skip (last tt)))) false [] (at e (tok_at (K.Word w) sp d ∷ ts))) (read m steps)
step_word e w sp d ts true b = one_part (act_from (sp ∷ [])) (read m steps) (read m act_rest (at sp.to ts))
step_word e w sp d ts false true = one_part (talk_from (sp ∷ [])) (read m steps) (read m talk_rest (at sp.to ts))
step_word e w sp d ts false false = refl

steps_at : (e : ℕ) (k : Kind) (sp : Span) (d : Bool) (ts : List Tok) → reads_step m (read m) steps (at e (tok_at k sp d ∷ ts)) ≡ next_list (reads_step m (read m) steps_item (at e (tok_at k sp d ∷ ts))) (read m steps)
steps_at e (K.Word w) sp d ts = step_word e w sp d ts (is_act w) (is_talk w)
steps_at e _ sp d ts = refl

pub steps_law : (s : State) → read limited steps s ≡ next_list (read limited steps_item s) (read limited steps)
steps_law s = alike steps steps_item (λ r. next_list r (read m steps)) (λ e. refl) steps_at s

-- the fields of a tuple: a comma goes on
abbrev after_rest : (v : Bool) (n : ℕ) → Out Bool → Out (Option (List t.Field × t.Last))
after_rest v n r = r >>= λ x. cond x.0 (Ok (None, x.1)) (read m (fields v n) x.1 >>= λ z. Ok (Some z.0, z.1))

rest_at : (v : Bool) (n e : ℕ) (k : Kind) (sp : Span) (d : Bool) (ts : List Tok) → reads_step m (read m) (fields_more v n) (at e (tok_at k sp d ∷ ts)) ≡ after_rest v n (reads_step m (read m) fields_rest (at e (tok_at k sp d ∷ ts)))
rest_at v n e (K.Mark mark.Comma) sp d ts = inner (read m (fields v n) (at sp.to ts))
  where
    inner : (o : Out (List t.Field × t.Last)) → ◌>>=◌ {B = Option (List t.Field × t.Last) × State} (◌>>=◌ {B = ((List t.Field × t.Last) × Unit {0}) × State} o (λ y. Ok ((y.0, tt), y.1))) (λ xs. Ok (Some xs.0.0, xs.1)) ≡ (o >>= λ z. Ok (Some z.0, z.1))
    inner (Err f) = refl
    inner (Ok z) = refl
rest_at v n e _ sp d ts = refl

rest_law : (v : Bool) (n : ℕ) (s : State) → read m (fields_more v n) s ≡ after_rest v n (read m fields_rest s)
rest_law v n s = alike (fields_more v n) fields_rest (after_rest v n) (λ e. refl) (rest_at v n) s

may_passes : {X E : Type 0} (may d : Bool) (left : ℕ) (a : Out (List X × E)) (b : Out (ListItem X E)) (go : State → Out (List X × E)) → a ≡ next_list b go → may_pass m may d left a ≡ next_list (may_pass m may d left b) go
may_passes true d left a b go h = refl
may_passes false d left a b go h = h

module _ (v : Bool) (n : ℕ) (w : SWord) where
  abbrev more_after : Out t.Ty → Out (List t.Field × t.Last)
  more_after r = ◌>>=◌ {A = (t.Ty × (Option (List t.Field × t.Last) × Unit {0})) × State} {B = (List t.Field × t.Last) × State} (r >>= λ x. ◌>>=◌ {B = (t.Ty × (Option (List t.Field × t.Last) × Unit {0})) × State} (◌>>=◌ {B = (Option (List t.Field × t.Last) × Unit {0}) × State} (read m (fields_more v n) x.1) (λ y. Ok ((y.0, tt), y.1))) (λ ys. Ok ((x.0, ys.0), ys.1))) (λ xs. Ok (with_field w xs.0.0 xs.0.1.0, xs.1))

  abbrev rest_after : Out t.Ty → Out (ListItem t.Field t.Last)
  rest_after r = ◌>>=◌ {A = (t.Ty × (Bool × Unit {0})) × State} {B = ListItem t.Field t.Last × State} (r >>= λ x. ◌>>=◌ {B = (t.Ty × (Bool × Unit {0})) × State} (◌>>=◌ {B = (Bool × Unit {0}) × State} (read m fields_rest x.1) (λ y. Ok ((y.0, tt), y.1))) (λ ys. Ok ((x.0, ys.0), ys.1))) (λ xs. Ok (cond xs.0.1.0 (last (t.named w xs.0.0)) (one (record { name = w; ty = xs.0.0 })), xs.1))

  one_field : (r : Out t.Ty) → more_after r ≡ next_list (rest_after r) (read m (fields v n))
  one_field (Err f) = refl
  one_field (Ok x) =
      ap (λ (o : Out (Option (List t.Field × t.Last))). ◌>>=◌ {A = (t.Ty × (Option (List t.Field × t.Last) × Unit {0})) × State} {B = (List t.Field × t.Last) × State} (◌>>=◌ {B = (t.Ty × (Option (List t.Field × t.Last) × Unit {0})) × State} (◌>>=◌ {B = (Option (List t.Field × t.Last) × Unit {0}) × State} o (λ y. Ok ((y.0, tt), y.1))) (λ ys. Ok ((x.0, ys.0), ys.1))) (λ xs. Ok (with_field w xs.0.0 xs.0.1.0, xs.1))) (rest_law v n x.1)
      ∙ inner (read m fields_rest x.1)
    where
      deepest : (s : State) (o : Out (List t.Field × t.Last)) → ◌>>=◌ {A = (t.Ty × (Option (List t.Field × t.Last) × Unit {0})) × State} {B = (List t.Field × t.Last) × State} (◌>>=◌ {B = (t.Ty × (Option (List t.Field × t.Last) × Unit {0})) × State} (◌>>=◌ {B = (Option (List t.Field × t.Last) × Unit {0}) × State} (◌>>=◌ {B = Option (List t.Field × t.Last) × State} o (λ z. Ok (Some z.0, z.1))) (λ y. Ok ((y.0, tt), y.1))) (λ ys. Ok ((x.0, ys.0), ys.1))) (λ xs. Ok (with_field w xs.0.0 xs.0.1.0, xs.1)) ≡ (o >>= λ z. Ok ((record { name = w; ty = x.0 } ∷ z.0.0, z.0.1), z.1))
      deepest s (Err f) = refl
      deepest s (Ok z) = refl

      split : (b : Bool) (s : State) → ◌>>=◌ {A = (t.Ty × (Option (List t.Field × t.Last) × Unit {0})) × State} {B = (List t.Field × t.Last) × State} (◌>>=◌ {B = (t.Ty × (Option (List t.Field × t.Last) × Unit {0})) × State} (◌>>=◌ {B = (Option (List t.Field × t.Last) × Unit {0}) × State} (after_rest v n (Ok (b, s))) (λ y. Ok ((y.0, tt), y.1))) (λ ys. Ok ((x.0, ys.0), ys.1))) (λ xs. Ok (with_field w xs.0.0 xs.0.1.0, xs.1)) ≡ next_list (Ok (cond b (last (t.named w x.0)) (one (record { name = w; ty = x.0 })), s)) (read m (fields v n))
      split true s = refl
      split false s = deepest s (read m (fields v n) s)

      inner : (o : Out Bool) → ◌>>=◌ {A = (t.Ty × (Option (List t.Field × t.Last) × Unit {0})) × State} {B = (List t.Field × t.Last) × State} (◌>>=◌ {B = (t.Ty × (Option (List t.Field × t.Last) × Unit {0})) × State} (◌>>=◌ {B = (Option (List t.Field × t.Last) × Unit {0}) × State} (after_rest v n o) (λ y. Ok ((y.0, tt), y.1))) (λ ys. Ok ((x.0, ys.0), ys.1))) (λ xs. Ok (with_field w xs.0.0 xs.0.1.0, xs.1)) ≡ next_list (◌>>=◌ {A = (t.Ty × (Bool × Unit {0})) × State} {B = ListItem t.Field t.Last × State} (◌>>=◌ {B = (t.Ty × (Bool × Unit {0})) × State} (◌>>=◌ {B = (Bool × Unit {0}) × State} o (λ y. Ok ((y.0, tt), y.1))) (λ ys. Ok ((x.0, ys.0), ys.1))) (λ xs. Ok (cond xs.0.1.0 (last (t.named w xs.0.0)) (one (record { name = w; ty = xs.0.0 })), xs.1))) (read m (fields v n))
      inner (Err f) = refl
      inner (Ok y) = split y.0 y.1

-- behind a word
field_word_at : (v : Bool) (n e : ℕ) (text : List ℕ) (sp : Span) (k : Kind) (sp' : Span) (d : Bool) (ts : List Tok) →
    go_on m (read m) (delta_fields_word v n text k) false (sp ∷ []) (at e (tok_at k sp' d ∷ ts)) ≡ next_list (go_on m (read m) (delta_item_word v n text k) false (sp ∷ []) (at e (tok_at k sp' d ∷ ts))) (read m (fields v n))
field_word_at v n e text sp (K.Mark mark.Colon) sp' d ts = (one_field v n (word_at text sp) (read m (Sym.ty v n) (at sp'.to ts)))
field_word_at v n e text sp _ sp' d ts = refl

field_word : (v : Bool) (n e : ℕ) (text : List ℕ) (sp : Span) (ts : List Tok) →
    with_next {X = Tree (fields v n)} (at e ts) (λ t' _. go_on m (read m) (delta_fields_word v n text t'.kind) false (sp ∷ []) (at e ts)) (Err (Syntax 0)) ≡ next_list (with_next (at e ts) (λ t' _. go_on m (read m) (delta_item_word v n text t'.kind) false (sp ∷ []) (at e ts)) (Err (Syntax 0))) (read m (fields v n))
field_word v n e text sp [] = refl
field_word v n e text sp (t' ∷ ts) = field_word_at v n e text sp t'.kind t'.span t'.deep ts

bare_last : (v : Bool) (n : ℕ) (r : Out (t.Ty × (Unit {0} × Unit {0}))) → (r >>= λ xs. Ok (([], t.bare xs.0.0), xs.1)) ≡ next_list (r >>= λ xs. Ok (last (t.bare xs.0.0), xs.1)) (read m (fields v n))
bare_last v n (Err f) = refl
bare_last v n (Ok x) = refl

fields_at : (v : Bool) (n e : ℕ) (k : Kind) (sp : Span) (d : Bool) (ts : List Tok) → reads_step m (read m) (fields v n) (at e (tok_at k sp d ∷ ts)) ≡ next_list (reads_step m (read m) (fields_item v n) (at e (tok_at k sp d ∷ ts))) (read m (fields v n))
fields_at v n e (K.Word text) sp d ts = may_passes (nat_lt message_limit n) d _ _ _ (read m (fields v n)) (field_word v n sp.to text sp ts)
fields_at v n e k sp d ts = bare_last v n (read_all (read m) (Sym.ty v n ∷ Sym.the_mark mark.ParenClose ∷ []) (at e (tok_at k sp d ∷ ts)))

pub fields_law : (v : Bool) (n : ℕ) (s : State) → read m (fields v n) s ≡ next_list (read m (fields_item v n) s) (read m (fields v n))
fields_law v n s = alike (fields v n) (fields_item v n) (λ r. next_list r (read m (fields v n))) (λ e. refl) (fields_at v n) s

-- ---- each item takes a token

msgs_moves : (v : Bool) (d' : Bool) (n : ℕ) (k : Kind) → TakesToken (delta (msgs_item v d' n) k)
msgs_moves v d' n (K.Mark mark.Comma) = tt
msgs_moves v d' n _ = tt

pub msgs_take : (v : Bool) (d' : Bool) (n : ℕ) → TakesSome (msgs_item v d' n)
msgs_take v d' n = record { ends = refl; moves = msgs_moves v d' n }

atoms_moves : (v : Bool) (d' : Bool) (n : ℕ) (k : Kind) → TakesToken (delta (atoms_item v d' n) k)
atoms_moves v d' n (K.Mark mark.Comma) = tt
atoms_moves v d' n _ = tt

pub atoms_take : (v : Bool) (d' : Bool) (n : ℕ) → TakesSome (atoms_item v d' n)
atoms_take v d' n = record { ends = refl; moves = atoms_moves v d' n }

words_moves : (k : Kind) → TakesToken (delta words_item k)
words_moves (K.Mark mark.Comma) = tt
words_moves _ = tt

pub words_take : TakesSome words_item
words_take = record { ends = refl; moves = words_moves }

decls_moves : (v : Bool) (k : Kind) → TakesToken (delta (decls_item v) k)
decls_moves v (K.Reserved word.Free) = tt
decls_moves v _ = tt

pub decls_take : (v : Bool) → TakesSome (decls_item v)
decls_take v = record { ends = refl; moves = decls_moves v }

ty_moves : (v : Bool) (n : ℕ) (k : Kind) → Base (delta (Sym.ty v n) k)
ty_moves v n (K.Reserved word.Un) = tt
ty_moves v n (K.Mark mark.ParenOpen) = tt
ty_moves v n _ = tt

pub ty_eats : (v : Bool) (n : ℕ) → Eats (Sym.ty v n)
ty_eats v n = record { ends = refl; moves = ty_moves v n }

fields_moves : (v : Bool) (n : ℕ) (k : Kind) → TakesToken (delta (fields_item v n) k)
fields_moves v n (K.Word w) = tt
fields_moves v n _ = ty_eats v n

pub fields_take : (v : Bool) (n : ℕ) → TakesSome (fields_item v n)
fields_take v n = record { ends = refl; moves = fields_moves v n }

-- a step takes a token, where there is one
abbrev is_one : {X E : Type 0} → ListItem X E → Bool
is_one (one x) = true
is_one (last e) = false

not_one : {X E : Type 0} (e : E) (y : X) (s s' : State) → ◌≡◌ {A = Out (ListItem X E)} (Ok (last e, s)) (Ok (one y, s')) → ⊥
not_one {X} {E} e y s s' h = let k : false ≡ true = ap (λ (z : ListItem X E × State). is_one z.0) (ok_is (last e, s) (one y, s') h) in cc

step_taken : (w : List ℕ) (e : ℕ) (sp : Span) (d : Bool) (ts : List Tok) (a b : Bool) (y : t.Step) (s : State)
    → go_on {a = steps_item} m (read m) (cond a (eat (act_rest ∷ []) (λ ss to xs. one (act_from ss xs.0))) (cond b (eat (talk_rest ∷ []) (λ ss to xs. one (talk_from ss xs.0))) (skip (last tt)))) false [] (at e (tok_at (K.Word w) sp d ∷ ts)) ≡ Ok (one y, s)
    → length s.rest ≤ length ts
step_taken w e sp d ts true b y s h =
    let p = bind_ok (read_all (read m) (act_rest ∷ []) (at sp.to ts)) (λ xs. Ok (one (act_from (sp ∷ []) xs.0.0), xs.1)) (one y, s) h in
    let k = ap (λ (z : ListItem t.Step (Unit {0}) × State). length z.1.rest) (ok_is (one (act_from (sp ∷ []) p.0.0.0), p.0.1) (one y, s) p.2) in
    let l = all_no_longer (read m) (no_longer m) (act_rest ∷ []) (at sp.to ts) p.0 p.1 in
    omega arith
step_taken w e sp d ts false true y s h =
    let p = bind_ok (read_all (read m) (talk_rest ∷ []) (at sp.to ts)) (λ xs. Ok (one (talk_from (sp ∷ []) xs.0.0), xs.1)) (one y, s) h in
    let k = ap (λ (z : ListItem t.Step (Unit {0}) × State). length z.1.rest) (ok_is (one (talk_from (sp ∷ []) p.0.0.0), p.0.1) (one y, s) p.2) in
    let l = all_no_longer (read m) (no_longer m) (talk_rest ∷ []) (at sp.to ts) p.0 p.1 in
    omega arith
step_taken w e sp d ts false false y s h = absurd (not_one tt y (at e (tok_at (K.Word w) sp d ∷ ts)) s h)

step_takes : (e : ℕ) (ts : List Tok) (y : t.Step) (s : State) → reads_step m (read m) steps_item (at e ts) ≡ Ok (one y, s) → length s.rest < length ts
step_takes e [] y s h = absurd (not_one tt y (at e []) s h)
step_takes e (u ∷ ts) y s h = by_kind u.kind u.span u.deep h
  where
    by_kind : (k : Kind) (sp : Span) (d : Bool) → reads_step m (read m) steps_item (at e (tok_at k sp d ∷ ts)) ≡ Ok (one y, s) → length s.rest < suc (length ts)
    by_kind (K.Word w) sp d h = let l = step_taken w e sp d ts (is_act w) (is_talk w) y s h in omega arith
    by_kind (K.Reserved w) sp d h = absurd (not_one tt y (at e (tok_at (K.Reserved w) sp d ∷ ts)) s h)
    by_kind (K.Number n) sp d h = absurd (not_one tt y (at e (tok_at (K.Number n) sp d ∷ ts)) s h)
    by_kind (K.Mark k) sp d h = absurd (not_one tt y (at e (tok_at (K.Mark k) sp d ∷ ts)) s h)

pub steps_take : (s : State) (y : t.Step) (s' : State) → read limited steps_item s ≡ Ok (one y, s') → length s'.rest < length s.rest
steps_take s y s' h = step_takes s.end s.rest y s' (sym (read_is_step m steps_item s) ∙ h)

-- ---- a sequence that is read is within the limit

seq_passes : {X : Type 0} (n : ℕ) (f : Bool) (left : ℕ) (go : Out X) (x : X × State) → pass limited (nat_lt 500 n) f left go ≡ Ok x → n ≤ 500
seq_passes n f left go x h = go_by (nat_lt 500 n) refl h
  where
    go_by : (b : Bool) → nat_lt 500 n ≡ b → pass limited b f left go ≡ Ok x → n ≤ 500
    go_by true e k = absurd cc
    go_by false e k = ltb-false _ _ e

seq_fits_at : (v : Bool) (n e : ℕ) (k : Kind) (sp : Span) (d : Bool) (ts : List Tok) (x : t.Proc × State) → reads_step limited (read limited) (Sym.seq v n) (at e (tok_at k sp d ∷ ts)) ≡ Ok x → n ≤ 500
seq_fits_at v n e (K.Reserved word.Out) sp d ts x h = seq_passes n d _ _ x h
seq_fits_at v n e (K.Reserved word.Inp) sp d ts x h = seq_passes n d _ _ x h
seq_fits_at v n e (K.Reserved word.Repeat) sp d ts x h = seq_passes n d _ _ x h
seq_fits_at v n e (K.Reserved word.Split) sp d ts x h = seq_passes n d _ _ x h
seq_fits_at v n e (K.Reserved word.Match) sp d ts x h = seq_passes n d _ _ x h
seq_fits_at v n e (K.Reserved word.Case) sp d ts x h = seq_passes n d _ _ x h
seq_fits_at v n e (K.Reserved word.Decrypt) sp d ts x h = seq_passes n d _ _ x h
seq_fits_at v n e (K.Reserved word.Check) sp d ts x h = seq_passes n d _ _ x h
seq_fits_at v n e (K.Reserved word.Begin) sp d ts x h = seq_passes n d _ _ x h
seq_fits_at v n e (K.Reserved word.End) sp d ts x h = seq_passes n d _ _ x h
seq_fits_at v n e (K.Reserved word.Cast) sp d ts x h = seq_passes n d _ _ x h
seq_fits_at v n e (K.Reserved word.New) sp d ts x h = seq_passes n d _ _ x h
seq_fits_at v n e (K.Reserved word.Stop) sp d ts x h = seq_passes n d _ _ x h
seq_fits_at true n e (K.Reserved word.EndMany) sp d ts x h = seq_passes n d _ _ x h
seq_fits_at false n e (K.Reserved word.EndMany) sp d ts x h = absurd cc
seq_fits_at v n e (K.Mark mark.ParenOpen) sp d ts x h = seq_passes n d _ _ x h
seq_fits_at v n e _ sp d ts x h = absurd cc

seq_fits_state : (v : Bool) (n e : ℕ) (ts : List Tok) (x : t.Proc × State) → reads_step limited (read limited) (Sym.seq v n) (at e ts) ≡ Ok x → n ≤ 500
seq_fits_state v n e [] x h = absurd cc
seq_fits_state v n e (t ∷ ts) x h = seq_fits_at v n e t.kind t.span t.deep ts x h

pub seq_fits : (v : Bool) (n : ℕ) (s : State) (x : t.Proc × State) → read limited (Sym.seq v n) s ≡ Ok x → n ≤ 500
seq_fits v n s x h = seq_fits_state v n s.end s.rest x (sym (read_is_step limited (Sym.seq v n) s) ∙ h)
