-- What a cursor is as a state, and what stands between the table and the code.
use Rattle.std.specs.Prelude.{◌≡◌, Bool, ℕ, ◌+◌, ◌≤◌, List, [], ◌∷◌, length, map, drop, Option, Some, None, Result, Ok, Err}
use denote.Ref.{Bor}
use Rattle.spi_text.specs.declared.lines.Span.{Span}
use Rattle.spi_lex.specs.declared.token.Kind.TheVariants as K
use Rattle.spi_lex.specs.declared.token.Reserved.TheVariants as word
use Rattle.spi_lex.specs.declared.token.Mark.TheVariants as mark
use Rattle.spi_tree.specs.declared.tree.STy.{STy}
use Rattle.spi_tree.specs.declared.tree.SWord.{SWord}
use Rattle.spi_tree.specs.Trees as t
use Rattle.spi_tree.specs.Views.{ty_of, field_of, last_of}
use Rattle.spi_parse.specs.declared.types.FieldOrLast.{FieldOrLast}
use Rattle.spi_parse.specs.declared.types.FieldOrLast.TheVariants as items
use Rattle.spi_parse.specs.declared.forms.Form.TheVariants as forms
use Rattle.spi_parse.specs.declared.forms.Talk.TheVariants as talks
use Rattle.spi_parse.specs.declared.forms.Open.TheVariants as opens
use Rattle.spi_parse.specs.declared.forms.Event.TheVariants as events
use Rattle.spi_parse.specs.declared.forms.Plain.TheVariants as plains
use Rattle.spi_parse.specs.declared.fault.Fault.TheVariants.{Syntax}
use Rattle.spi_parse.specs.declared.fault.Stop.{Stop}
use Rattle.spi_parse.specs.Tokens.{Tok, State, tok}
use Rattle.spi_lex.specs.declared.token.Token.{Token}
use Rattle.spi_lex.specs.declared.reader.Words.{Words}
use Rattle.spi_lex.specs.Reader.{seen_kind, tokens_from, tokens_behind}
use Rattle.spi_parse.specs.declared.cursor.Reader.{Reader}
use Rattle.spi_parse.specs.Table.{ListItem, one, last, Sym, the_mark, msg, msgs, atom, atoms, effect, ty, seq, Tree, Build, TableMove, eat, stay, over, delta, delta_ty_word, form_move}
use Rattle.spi_parse.specs.Reading.{◌>>=◌, Gives, Out, read, limited, read_all}

-- the tokens behind the next one
abbrev pub behind_next : Option (Bor (List Token)) → Words → List Token
behind_next None words = tokens_behind words
behind_next (Some tokens) words = tokens.now

abbrev pub behind : Reader → List Tok
behind r = map tok (behind_next r.list r.words)

-- the tokens that are left, the next one first
abbrev pub tokens_in : Reader → List Token
tokens_in r =
    tokens_from (seen_kind r.words.kind) (record { from = r.words.from; to = r.words.to })
    (behind_next r.list r.words)

-- these tokens are those from some number on that isn't before this one
abbrev pub IsBehind : List Token → ℕ → List Token → Type 0
IsBehind all from left = (n : ℕ) × (from ≤ n) × (n ≤ length all) × (left ≡ drop n all)

abbrev pub state_of : Reader → State
state_of r = record { end = r.end; rest = map tok (tokens_in r) }

-- the state behind the next token
abbrev pub past : State → List Tok → State
past s rest = elim (s.rest) [ [] ↦ s | t ∷ ts ↦ record { end = t.span.to; rest = rest } ]

-- what a function returned is what reading gives, unless memory ran out: a part by its view, with the state behind it
abbrev pub GivesPart : {X Y : Type 0} → (X → Y) → Result X Stop → State → Out Y → Type 0
GivesPart view result after answer = Gives (λ x. (view x, after)) result answer

-- the same of a part in a place of its own
abbrev pub GivesPlaced : {X Y : Type 0} → (X → Y) → Result (Bor X) Stop → State → Out Y → Type 0
GivesPlaced view result after answer = Gives (λ x. (view x.now, after)) result answer

-- the same of a name with its type
abbrev pub GivesName : Result (SWord × STy) Stop → State → Out (SWord × t.Ty) → Type 0
GivesName result after answer = Gives (λ x. ((x.0, ty_of x.1), after)) result answer

-- the same of the place alone
abbrev pub GivesPlace : Result (Unit {0}) Stop → State → Out (Unit {0}) → Type 0
GivesPlace result after answer = Gives (λ x. (tt, after)) result answer

abbrev pub field_item : FieldOrLast → ListItem t.Field t.Last
field_item (items.Field f) = one (field_of f)
field_item (items.Last l) = last (last_of l)

-- the parts behind tokens that were eaten
abbrev pub parts : (a : Sym) (l : List Sym) → Build a l → List Span → State → Out (Tree a)
parts a l b ss s = read_all (read limited) l s >>= λ xs. Ok (b ss xs.1.end xs.0, xs.1)

-- the parts of a move of the table, behind the tokens that it ate
abbrev pub parts_by : {a : Sym} {ate : Bool} → TableMove a ate → List Span → State → Out (Tree a)
parts_by {a = a} (eat l b) = parts a l b
parts_by {a = a} (stay l low b) = parts a l b
parts_by _ = λ ss s. Err (Syntax 0)

abbrev pub tuple_form : (v : Bool) (d : Bool) (n : ℕ) → List Span → State → Out (Tree (msg v d n))
tuple_form v d n =
    parts (msg v d n) (msg v d (n + 1) ∷ the_mark mark.Comma ∷ msg v d (n + 1) ∷ msgs v d (n + 1) ∷ [])
    (λ ss to (a, (comma, (b, ((more, close), rest)))). t.tuple (over ss to) a b (t.msgs_of_list more))

abbrev pub enc_form : (v : Bool) (d : Bool) (n : ℕ) → List Span → State → Out (Tree (msg v d n))
enc_form v d n = parts_by (delta (msg v d n) (K.Mark mark.BraceOpen))

abbrev pub inl_form : (v : Bool) (d : Bool) (n : ℕ) → List Span → State → Out (Tree (msg v d n))
inl_form v d n = parts_by (delta (msg v d n) (K.Reserved word.Inl))

abbrev pub inr_form : (v : Bool) (d : Bool) (n : ℕ) → List Span → State → Out (Tree (msg v d n))
inr_form v d n = parts_by (delta (msg v d n) (K.Reserved word.Inr))

abbrev pub hash_form : (v : Bool) (d : Bool) (n : ℕ) → List Span → State → Out (Tree (msg v d n))
hash_form v d n =
    parts (msg v d n) (the_mark mark.ParenOpen ∷ msg v d (n + 1) ∷ the_mark mark.ParenClose ∷ [])
    (λ ss to (opening, (m, rest)). t.hash (over ss to) m)

abbrev pub sum_form : (v : Bool) (n : ℕ) → List Span → State → Out (Tree (ty v n))
sum_form v n =
    parts (ty v n) (ty v (n + 1) ∷ the_mark mark.Plus ∷ ty v (n + 1) ∷ the_mark mark.ParenClose ∷ [])
    (λ ss to (a, (plus, (b, rest))). t.sum (over ss to) a b)

abbrev pub key_form : (v : Bool) (n : ℕ) → List Span → State → Out (Tree (ty v n))
key_form v n = parts_by (delta (ty v n) (K.Reserved word.Key))

abbrev pub out_form : (v : Bool) (n : ℕ) → List Span → State → Out (Tree (seq v n))
out_form v n = parts_by (form_move v n (forms.Talk talks.Out))

abbrev pub inp_form : (v : Bool) (n : ℕ) → List Span → State → Out (Tree (seq v n))
inp_form v n = parts_by (form_move v n (forms.Talk talks.Inp))

abbrev pub repeat_form : (v : Bool) (n : ℕ) → List Span → State → Out (Tree (seq v n))
repeat_form v n = parts_by (form_move v n (forms.Talk talks.Repeat))

abbrev pub split_form : (v : Bool) (n : ℕ) → List Span → State → Out (Tree (seq v n))
split_form v n = parts_by (form_move v n (forms.Open opens.Split))

abbrev pub match_form : (v : Bool) (n : ℕ) → List Span → State → Out (Tree (seq v n))
match_form v n = parts_by (form_move v n (forms.Open opens.Match))

abbrev pub case_form : (v : Bool) (n : ℕ) → List Span → State → Out (Tree (seq v n))
case_form v n = parts_by (form_move v n (forms.Open opens.Case))

abbrev pub decrypt_form : (v : Bool) (n : ℕ) → List Span → State → Out (Tree (seq v n))
decrypt_form v n = parts_by (form_move v n (forms.Open opens.Decrypt))

abbrev pub check_form : (v : Bool) (n : ℕ) → List Span → State → Out (Tree (seq v n))
check_form v n = parts_by (form_move v n (forms.Event events.Check))

abbrev pub begin_form : (v : Bool) (n : ℕ) → List Span → State → Out (Tree (seq v n))
begin_form v n = parts_by (form_move v n (forms.Event events.Begin))

abbrev pub end_form : (v : Bool) (n : ℕ) → List Span → State → Out (Tree (seq v n))
end_form v n = parts_by (form_move v n (forms.Event events.End))

abbrev pub end_many_form : (v : Bool) (n : ℕ) → List Span → State → Out (Tree (seq v n))
end_many_form v n = parts_by (form_move v n (forms.Event events.EndMany))

abbrev pub cast_form : (v : Bool) (n : ℕ) → List Span → State → Out (Tree (seq v n))
cast_form v n = parts_by (form_move v n (forms.Plain plains.Cast))

abbrev pub new_form : (v : Bool) (n : ℕ) → List Span → State → Out (Tree (seq v n))
new_form v n = parts_by (form_move v n (forms.Plain plains.New))

abbrev pub group_form : (v : Bool) (n : ℕ) → List Span → State → Out (Tree (seq v n))
group_form v n = parts_by (form_move v n (forms.Plain plains.Group))

abbrev pub tuple_ty_form : (v : Bool) (n : ℕ) → List ℕ → List Span → State → Out t.Ty
tuple_ty_form v n w = parts_by (delta_ty_word v n w (K.Mark mark.Colon))

abbrev pub sum_word_form : (v : Bool) (n : ℕ) → List ℕ → List Span → State → Out t.Ty
sum_word_form v n w = parts_by (delta_ty_word v n w (K.Mark mark.Plus))

abbrev pub effect_form : (v : Bool) (d : Bool) (n : ℕ) → List Span → State → Out (List t.Atom)
effect_form v d n =
    parts (effect v d n) (atom v d n ∷ atoms v d n ∷ []) (λ ss to (f, ((fs, end), rest)). f ∷ fs)

abbrev pub nonce_form : (v : Bool) (n : ℕ) → List Span → State → Out t.Ty
nonce_form v n = parts_by (delta (ty v n) (K.Reserved word.Nonce))
