-- Which alternative a token begins.
use Rattle.std.specs.Prelude.{ℕ, zero, suc, ◌+◌, Bool, true, false, nat_lt, ◌&&◌, T, ◌==◌, if◌then◌else◌, List, [], ◌∷◌, Option, Some, None, codes}
use Rattle.std.specs.Str.{bytes_eq}
use Rattle.spi_text.specs.declared.lines.Span.{Span}
use Rattle.spi_lex.specs.declared.token.Kind.{Kind}
use Rattle.spi_lex.specs.declared.token.Kind.TheVariants as K
use Rattle.spi_lex.specs.declared.token.Reserved.{Reserved}
use Rattle.spi_lex.specs.declared.token.Reserved.TheVariants as word
use Rattle.spi_lex.specs.declared.token.Mark.{Mark}
use Rattle.spi_lex.specs.declared.token.Mark.TheVariants as mark
use Rattle.spi_tree.specs.declared.tree.SWord.{SWord}
use Rattle.spi_tree.specs.Trees as t
use Rattle.spi_tree.specs.Pieces.{message_limit, process_limit, derivation_limit}
use Rattle.spi_parse.specs.declared.forms.Form.{Form}
use Rattle.spi_parse.specs.declared.forms.Form.TheVariants as forms
use Rattle.spi_parse.specs.declared.forms.Talk.TheVariants as talks
use Rattle.spi_parse.specs.declared.forms.Open.TheVariants as opens
use Rattle.spi_parse.specs.declared.forms.Event.TheVariants as events
use Rattle.spi_parse.specs.declared.forms.Plain.TheVariants as plains
use Rattle.spi_parse.specs.Rules.{arity_of, writes_effect}
use Rattle.spi_parse.specs.Forms.{form_of}

-- an item of a list, or what ends the list
pub data ListItem (X E : Type 0) : Type 0 where
  one : X → ListItem X E
  last : E → ListItem X E

-- the parts of a file behind its version
pub record Body : Type 0 where
  pub decls : List t.Declared
  pub process : t.Proc
  pub opponent : Option t.Proc
  pub schedule : Option (List t.Step)
  pub derivation : Option t.Deriv

-- The first argument is whether the version is 2, and the second, of messages, whether numbers stand in the place of names.
pub data Sym : Type 0 where
  the_mark : Mark → Sym
  the_reserved : Reserved → Sym
  the_word : Sym
  the_number : Sym
  the_two : Sym
  -- a message, and the messages of a tuple after the second with the parenthesis
  msg : Bool → Bool → ℕ → Sym
  msgs_item : Bool → Bool → ℕ → Sym
  msgs : Bool → Bool → ℕ → Sym
  -- an atom, the atoms of an effect after the first with the bracket, and an effect
  atom : Bool → Bool → ℕ → Sym
  atoms_item : Bool → Bool → ℕ → Sym
  atoms : Bool → Bool → ℕ → Sym
  effect : Bool → Bool → ℕ → Sym
  -- a type, and the parts of a tuple after the first comma with the parenthesis
  ty : Bool → ℕ → Sym
  fields_item : Bool → ℕ → Sym
  fields_rest : Sym
  fields : Bool → ℕ → Sym
  fields_more : Bool → ℕ → Sym
  -- a name with its type, and the same in parentheses with the semicolon
  named : Bool → Sym
  binder : Bool → Sym
  -- what stands from the word `is` on, up to the semicolon
  split_head : Bool → Sym
  match_head : Bool → Sym
  case_head : Bool → Reserved → Sym
  decrypt_head : Bool → Sym
  check_head : Bool → Sym
  cast_head : Bool → Sym
  -- a process, what follows an output, and what follows the first part of a parallel composition
  sproc : Bool → ℕ → Sym
  seq : Bool → ℕ → Sym
  out_tail : Bool → ℕ → Sym
  par_tail : Bool → ℕ → Sym
  -- the words of a declaration after the first with the semicolon, what follows the first word of a declaration, a
  -- declaration, and all of them with the word `process`
  words_item : Sym
  words : Sym
  free_rest : Sym
  abbr_rest : Bool → Sym
  decl : Bool → Sym
  decls_item : Bool → Sym
  decls : Bool → Sym
  -- what follows the first word of a step, and the steps of a schedule
  act_rest : Sym
  talk_rest : Sym
  steps_item : Sym
  steps : Sym
  deriv : Bool → ℕ → Sym
  -- the parts of a file that may be absent
  opponent_tail : Bool → Sym
  schedule_tail : Sym
  derivation_tail : Bool → Sym
  body : Bool → Sym
  file : Sym

abbrev pub Tree : Sym → Type 0
Tree (the_mark m) = Unit {0}
Tree (the_reserved w) = Unit {0}
Tree the_word = SWord
Tree the_number = ℕ
Tree the_two = Unit {0}
Tree (msg v d n) = t.Msg
Tree (msgs_item v d n) = ListItem t.Msg (Unit {0})
Tree (msgs v d n) = List t.Msg × Unit {0}
Tree (atom v d n) = t.Atom
Tree (atoms_item v d n) = ListItem t.Atom (Unit {0})
Tree (atoms v d n) = List t.Atom × Unit {0}
Tree (effect v d n) = List t.Atom
Tree (ty v n) = t.Ty
Tree (fields_item v n) = ListItem t.Field t.Last
Tree fields_rest = Bool
Tree (fields v n) = List t.Field × t.Last
Tree (fields_more v n) = Option (List t.Field × t.Last)
Tree (named v) = SWord × t.Ty
Tree (binder v) = SWord × t.Ty
Tree (split_head v) = SWord × t.Ty × SWord × t.Ty
Tree (match_head v) = SWord × t.Ty × t.Msg × SWord × t.Ty
Tree (case_head v w) = SWord × t.Ty
Tree (decrypt_head v) = SWord × t.Ty × t.Msg
Tree (check_head v) = t.Msg
Tree (cast_head v) = SWord × t.Ty
Tree (sproc v n) = t.Proc
Tree (seq v n) = t.Proc
Tree (out_tail v n) = Option t.Proc
Tree (par_tail v n) = Option t.Proc
Tree words_item = ListItem SWord (Unit {0})
Tree words = List SWord × Unit {0}
Tree free_rest = SWord × List SWord × ℕ
Tree (abbr_rest v) = SWord × t.Ty × ℕ
Tree (decl v) = t.Declared
Tree (decls_item v) = ListItem t.Declared (Unit {0})
Tree (decls v) = List t.Declared × Unit {0}
Tree act_rest = ℕ × ℕ
Tree talk_rest = ℕ × ℕ × ℕ
Tree steps_item = ListItem t.Step (Unit {0})
Tree steps = List t.Step × Unit {0}
Tree (deriv v n) = t.Deriv
Tree (opponent_tail v) = Option t.Proc
Tree schedule_tail = Option (List t.Step)
Tree (derivation_tail v) = Option t.Deriv
Tree (body v) = Body
Tree file = t.File

abbrev pub Trees : List Sym → Type 0
Trees [] = Unit {0}
Trees (a ∷ l) = Tree a × Trees l

-- the spans of the tokens that a move ate, with the token at which its parts begin if they stay, where the last token of
-- the whole ends, and the parts
abbrev pub Build : Sym → List Sym → Type 0
Build a l = List Span → ℕ → Trees l → Tree a

-- a symbol whose parts may begin at its own first token is higher than they are
abbrev pub high : Sym → ℕ
high (fields_item v n) = 1
high (fields v n) = 1
high (named v) = 1
high (sproc v n) = 1
high free_rest = 1
high (abbr_rest v) = 1
high act_rest = 1
high talk_rest = 1
high (body v) = 2
high file = 3
high _ = 0

abbrev pub all_below : ℕ → List Sym → Bool
all_below n [] = true
all_below n (a ∷ l) = nat_lt (high a) n && all_below n l

abbrev pub may_stay : Bool → Sym → List Sym → Bool
may_stay true a l = true
may_stay false a l = all_below (high a) l

-- What a token begins: the index says whether a token was eaten before it.
pub data TableMove (a : Sym) : Bool → Type 0 where
  eat : {ate : Bool} → (l : List Sym) → Build a l → TableMove a ate
  look : {ate : Bool} → (Kind → TableMove a true) → TableMove a ate
  fail : {ate : Bool} → TableMove a ate
  -- the parts begin at this very token
  stay : {ate : Bool} → (l : List Sym) → T (may_stay ate a l) → Build a l → TableMove a ate
  -- a node above a limit may start at the token
  may_look : {ate : Bool} → Bool → (Kind → TableMove a true) → TableMove a ate
  -- the symbol has no tokens here
  skip : Tree a → TableMove a false

abbrev pub from_of : List Span → ℕ
from_of [] = 0
from_of (s ∷ ss) = s.from

-- from the first token that was eaten to the end
abbrev pub over : List Span → ℕ → Span
over ss to = record { from = from_of ss; to = to }

abbrev pub first : List Span → Span
first [] = record { from = 0; to = 0 }
first (s ∷ ss) = s

abbrev pub second : List Span → Span
second [] = record { from = 0; to = 0 }
second (s ∷ []) = record { from = 0; to = 0 }
second (s ∷ s' ∷ ss) = s'

abbrev pub word_at : List ℕ → Span → SWord
word_at w s = record { word = w; span = s }

-- whether a node of the symbol is above its limit
abbrev pub deep_here : Sym → Bool
deep_here (msg v d n) = nat_lt message_limit n
deep_here (atom v d n) = nat_lt message_limit n
deep_here (ty v n) = nat_lt message_limit n
deep_here (seq v n) = nat_lt process_limit n
deep_here (deriv v n) = nat_lt derivation_limit n
deep_here _ = false

abbrev pub reserved_number : Reserved → ℕ
reserved_number word.Free = 0
reserved_number word.TypeWord = 1
reserved_number word.Process = 2
reserved_number word.Opponent = 3
reserved_number word.Schedule = 4
reserved_number word.Derivation = 5
reserved_number word.Out = 6
reserved_number word.Inp = 7
reserved_number word.Repeat = 8
reserved_number word.Split = 9
reserved_number word.Match = 10
reserved_number word.Case = 11
reserved_number word.Decrypt = 12
reserved_number word.Check = 13
reserved_number word.Begin = 14
reserved_number word.End = 15
reserved_number word.Cast = 16
reserved_number word.New = 17
reserved_number word.Stop = 18
reserved_number word.Is = 19
reserved_number word.Inl = 20
reserved_number word.Inr = 21
reserved_number word.Un = 22
reserved_number word.Key = 23
reserved_number word.Nonce = 24
reserved_number word.Hash = 25
reserved_number word.EndMany = 26
reserved_number word.Many = 27

abbrev pub mark_number : Mark → ℕ
mark_number mark.ParenOpen = 0
mark_number mark.ParenClose = 1
mark_number mark.BracketOpen = 2
mark_number mark.BracketClose = 3
mark_number mark.BraceOpen = 4
mark_number mark.BraceClose = 5
mark_number mark.Comma = 6
mark_number mark.Semicolon = 7
mark_number mark.Colon = 8
mark_number mark.Equals = 9
mark_number mark.Bar = 10
mark_number mark.Plus = 11
mark_number mark.NumberSign = 12

abbrev pub is_mark : Mark → Kind → Bool
is_mark m (K.Word w) = false
is_mark m (K.Reserved r) = false
is_mark m (K.Number n) = false
is_mark m (K.Mark found) = mark_number found == mark_number m

abbrev pub is_reserved : Reserved → Kind → Bool
is_reserved w (K.Word name) = false
is_reserved w (K.Reserved found) = reserved_number found == reserved_number w
is_reserved w (K.Number n) = false
is_reserved w (K.Mark m) = false

-- behind the left parenthesis of a message
abbrev pub delta_paren : (v d : Bool) (n : ℕ) → Kind → TableMove (msg v d n) true
delta_paren v d n (K.Mark mark.ParenClose) = eat [] (λ ss to xs. t.unit (over ss to))
delta_paren v d n _ =
    stay (msg v d (n + 1) ∷ the_mark mark.Comma ∷ msg v d (n + 1) ∷ msgs v d (n + 1) ∷ []) tt
    (λ ss to (m, (comma, (m', ((ms, end), rest)))). t.tuple (over ss to) m m' (t.msgs_of_list ms))

-- behind the bracket of an effect
abbrev pub delta_bracket : (v d : Bool) (n : ℕ) → Kind → TableMove (effect v d n) true
delta_bracket v d n (K.Mark mark.BracketClose) = eat [] (λ ss to xs. [])
delta_bracket v d n _ = stay (atom v d n ∷ atoms v d n ∷ []) tt (λ ss to (f, ((fs, end), rest)). f ∷ fs)

-- behind the left parenthesis of a type and a word
abbrev pub delta_ty_word : (v : Bool) (n : ℕ) → List ℕ → Kind → TableMove (ty v n) true
delta_ty_word v n w (K.Mark mark.Colon) =
    eat (ty v (n + 1) ∷ the_mark mark.Comma ∷ fields v (n + 1) ∷ [])
    (λ ss to (a, (comma, ((more, l), rest))). t.tuple_ty (over ss to) (word_at w (second ss)) a
    (t.fields_of_list more) l)
delta_ty_word v n w (K.Mark mark.Plus) =
    eat (ty v (n + 1) ∷ the_mark mark.ParenClose ∷ [])
    (λ ss to (a, rest). t.sum (over ss to) (t.abbr (second ss) (word_at w (second ss))) a)
delta_ty_word v n w _ = fail

-- behind the left parenthesis of a type
abbrev pub delta_ty_paren : (v : Bool) (n : ℕ) → Kind → TableMove (ty v n) true
delta_ty_paren v n (K.Mark mark.ParenClose) = eat [] (λ ss to xs. t.unit_ty (over ss to))
delta_ty_paren v n (K.Word w) = may_look (nat_lt message_limit (n + 1)) (delta_ty_word v n w)
delta_ty_paren v n _ =
    stay (ty v (n + 1) ∷ the_mark mark.Plus ∷ ty v (n + 1) ∷ the_mark mark.ParenClose ∷ []) tt
    (λ ss to (a, (plus, (b, rest))). t.sum (over ss to) a b)

-- behind a word among the parts of a tuple
abbrev pub delta_item_word : (v : Bool) (n : ℕ) → List ℕ → Kind → TableMove (fields_item v n) true
delta_item_word v n w (K.Mark mark.Colon) =
    eat (ty v n ∷ fields_rest ∷ [])
    (λ ss to (a, (ends, rest)). if ends then last (t.named (word_at w (first ss)) a) else one
    (record { name = word_at w (first ss); ty = a }))
delta_item_word v n w (K.Mark mark.ParenClose) =
    eat [] (λ ss to xs. last (t.bare (t.abbr (first ss) (word_at w (first ss)))))
delta_item_word v n w _ = fail

abbrev pub with_field : SWord → t.Ty → Option (List t.Field × t.Last) → List t.Field × t.Last
with_field w a None = ([], t.named w a)
with_field w a (Some r) = (record { name = w; ty = a } ∷ r.0, r.1)

abbrev pub delta_fields_word : (v : Bool) (n : ℕ) → List ℕ → Kind → TableMove (fields v n) true
delta_fields_word v n w (K.Mark mark.Colon) =
    eat (ty v n ∷ fields_more v n ∷ []) (λ ss to (a, (more, rest)). with_field (word_at w (first ss)) a more)
delta_fields_word v n w (K.Mark mark.ParenClose) =
    eat [] (λ ss to xs. ([], t.bare (t.abbr (first ss) (word_at w (first ss)))))
delta_fields_word v n w _ = fail

abbrev pub par_of : Span → t.Proc → Option t.Proc → t.Proc
par_of s p None = p
par_of s p (Some q) = t.par s p q

abbrev pub out_of : Span → t.Msg → t.Msg → Option t.Proc → t.Proc
out_of s m n None = t.out s m n
out_of s m n (Some p) = t.out_then s m n p

-- a form of a process behind its first token
abbrev pub form_move : (v : Bool) (n : ℕ) → Form → TableMove (seq v n) false
form_move v n (forms.Talk talks.Out) =
    eat (msg v false 1 ∷ msg v false 1 ∷ out_tail v n ∷ [])
    (λ ss to (m, (m', (q, rest))). out_of (over ss to) m m' q)
form_move v n (forms.Talk talks.Inp) =
    eat (msg v false 1 ∷ binder v ∷ seq v (n + 1) ∷ [])
    (λ ss to (m, ((x, a), (p, rest))). t.inp (over ss to) m x a p)
form_move v n (forms.Talk talks.Repeat) =
    eat (the_reserved word.Inp ∷ msg v false 1 ∷ binder v ∷ seq v (n + 1) ∷ [])
    (λ ss to (keyword, (m, ((x, a), (p, rest)))). t.repeat (over ss to) m x a p)
form_move v n (forms.Open opens.Split) =
    eat (msg v false 1 ∷ split_head v ∷ seq v (n + 1) ∷ [])
    (λ ss to (m, ((x, a, y, b), (p, rest))). t.split (over ss to) m x a y b p)
form_move v n (forms.Open opens.Match) =
    eat (msg v false 1 ∷ match_head v ∷ seq v (n + 1) ∷ [])
    (λ ss to (m, ((x, a, m', y, b), (p, rest))). t.match (over ss to) m x a m' y b p)
form_move v n (forms.Open opens.Case) =
    eat (msg v false 1 ∷ case_head v word.Inl ∷ seq v (n + 1) ∷ case_head v word.Inr ∷ seq v (n + 1) ∷ [])
    (λ ss to (m, ((x, a), (p, ((y, b), (q, rest))))). t.case (over ss to) m x a p y b q)
form_move v n (forms.Open opens.Decrypt) =
    eat (msg v false 1 ∷ decrypt_head v ∷ seq v (n + 1) ∷ [])
    (λ ss to (m, ((x, a, k), (p, rest))). t.decrypt (over ss to) m x a k p)
form_move v n (forms.Event events.Check) =
    eat (msg v false 1 ∷ check_head v ∷ seq v (n + 1) ∷ [])
    (λ ss to (m, (m', (p, rest))). t.check (over ss to) m m' p)
form_move v n (forms.Event events.Begin) =
    eat (msg v false 1 ∷ the_mark mark.Semicolon ∷ seq v (n + 1) ∷ [])
    (λ ss to (m, (semicolon, (p, rest))). t.begin (over ss to) m p)
form_move v n (forms.Event events.End) =
    eat (msg v false 1 ∷ the_mark mark.Semicolon ∷ seq v (n + 1) ∷ [])
    (λ ss to (m, (semicolon, (p, rest))). t.end (over ss to) m p)
form_move v n (forms.Event events.EndMany) =
    eat (msg v false 1 ∷ the_mark mark.Semicolon ∷ seq v (n + 1) ∷ [])
    (λ ss to (m, (semicolon, (p, rest))). t.end_many (over ss to) m p)
form_move v n (forms.Plain plains.Cast) =
    eat (msg v false 1 ∷ cast_head v ∷ seq v (n + 1) ∷ [])
    (λ ss to (m, ((x, a), (p, rest))). t.cast (over ss to) m x a p)
form_move v n (forms.Plain plains.New) =
    eat (binder v ∷ seq v (n + 1) ∷ []) (λ ss to ((x, a), (p, rest)). t.new (over ss to) x a p)
form_move v n (forms.Plain plains.Stop) = eat [] (λ ss to xs. t.stop (over ss to))
form_move v n (forms.Plain plains.Group) =
    eat (seq v (n + 1) ∷ the_mark mark.Bar ∷ sproc v (n + 1) ∷ the_mark mark.ParenClose ∷ [])
    (λ ss to (p, (bar, (q, rest))). t.group (over ss to) p q)
form_move v n forms.NoForm = fail

abbrev pub free_from : List Span → SWord × List SWord × ℕ → t.Declared
free_from ss y = t.free (over ss y.2) y.0 y.1

abbrev pub abbr_from : List Span → SWord × t.Ty × ℕ → t.Declared
abbr_from ss y = t.abbreviated (over ss y.2) y.0 y.1

abbrev pub act_from : List Span → ℕ × ℕ → t.Step
act_from ss y = t.act (over ss y.1) y.0

abbrev pub talk_from : List Span → ℕ × ℕ × ℕ → t.Step
talk_from ss y = t.talk (over ss y.2) y.0 y.1

abbrev pub is_act : List ℕ → Bool
is_act w = bytes_eq w (codes "act")

abbrev pub is_talk : List ℕ → Bool
is_talk w = bytes_eq w (codes "talk")

-- the rule of a word, by its premises and whether it writes its effect
abbrev pub rule_move : (v : Bool) (n : ℕ) → List ℕ → Option ℕ → Bool → TableMove (deriv v n) false
rule_move v n w None writes = fail
rule_move v n w (Some zero) false =
    eat [] (λ ss to xs. t.rule (over ss to) (word_at w (first ss)) None t.no_derivs)
rule_move v n w (Some (suc zero)) false =
    eat (deriv v (n + 1) ∷ [])
    (λ ss to (d, rest). t.rule (over ss to) (word_at w (first ss)) None (t.derivs_of_list (d ∷ [])))
rule_move v n w (Some (suc (suc zero))) false =
    eat (deriv v (n + 1) ∷ deriv v (n + 1) ∷ [])
    (λ ss to (d, (d', rest)). t.rule (over ss to) (word_at w (first ss)) None
    (t.derivs_of_list (d ∷ d' ∷ [])))
rule_move v n w (Some (suc (suc (suc zero)))) false =
    eat (deriv v (n + 1) ∷ deriv v (n + 1) ∷ deriv v (n + 1) ∷ [])
    (λ ss to (d, (d', (d'', rest))). t.rule (over ss to) (word_at w (first ss)) None
    (t.derivs_of_list (d ∷ d' ∷ d'' ∷ [])))
rule_move v n w (Some (suc (suc (suc (suc k))))) false = fail
rule_move v n w (Some (suc zero)) true =
    eat (effect v true 0 ∷ deriv v (n + 1) ∷ [])
    (λ ss to (es, (d, rest)). t.rule (over ss to) (word_at w (first ss)) (Some es)
    (t.derivs_of_list (d ∷ [])))
rule_move v n w (Some zero) true = fail
rule_move v n w (Some (suc (suc k))) true = fail

abbrev pub file_from : ℕ → Span → Body → t.File
file_from v s b =
    record {
      span = s;
      version = v;
      decls = b.decls;
      process = b.process;
      opponent = b.opponent;
      schedule = b.schedule;
      derivation = b.derivation;
    }

abbrev pub is_version_word : List ℕ → Bool
is_version_word w = bytes_eq w (codes "version")

-- the alternative that a token begins
abbrev pub delta : (a : Sym) → Kind → TableMove a false
delta (the_mark m) k = if is_mark m k then eat [] (λ ss to xs. tt) else fail
delta (the_reserved w) k = if is_reserved w k then eat [] (λ ss to xs. tt) else fail
delta the_word (K.Word w) = eat [] (λ ss to xs. word_at w (first ss))
delta the_number (K.Number n) = eat [] (λ ss to xs. n)
delta the_two (K.Number n) = if n == 2 then eat [] (λ ss to xs. tt) else fail
delta (msg v d n) (K.Word w) =
    if d then fail else eat [] (λ ss to xs. t.name (over ss to) (word_at w (first ss)))
delta (msg v d n) (K.Mark mark.ParenOpen) = look (delta_paren v d n)
delta (msg v d n) (K.Mark mark.BraceOpen) =
    eat (msg v d (n + 1) ∷ the_mark mark.BraceClose ∷ msg v d (n + 1) ∷ [])
    (λ ss to (m, (close, (m', rest))). t.enc (over ss to) m m')
delta (msg v d n) (K.Mark mark.NumberSign) =
    if d then eat (the_number ∷ []) (λ ss to (i, rest). t.num (over ss to) i) else fail
delta (msg v d n) (K.Reserved word.Inl) =
    eat (msg v d (n + 1) ∷ []) (λ ss to (m, rest). t.inl (over ss to) m)
delta (msg v d n) (K.Reserved word.Inr) =
    eat (msg v d (n + 1) ∷ []) (λ ss to (m, rest). t.inr (over ss to) m)
delta (msg v d n) (K.Reserved word.Hash) =
    if v then eat (the_mark mark.ParenOpen ∷ msg v d (n + 1) ∷ the_mark mark.ParenClose ∷ [])
    (λ ss to (opening, (m, rest)). t.hash (over ss to) m) else fail
delta (msgs_item v d n) (K.Mark mark.Comma) = eat (msg v d n ∷ []) (λ ss to (m, rest). one m)
delta (msgs_item v d n) (K.Mark mark.ParenClose) = eat [] (λ ss to xs. last tt)
delta (msgs v d n) (K.Mark mark.Comma) =
    eat (msg v d n ∷ msgs v d n ∷ []) (λ ss to (m, ((ms, end), rest)). (m ∷ ms, end))
delta (msgs v d n) (K.Mark mark.ParenClose) = eat [] (λ ss to xs. ([], tt))
delta (atom v d n) (K.Reserved word.End) =
    eat (msg v d (n + 1) ∷ []) (λ ss to (m, rest). t.ends (over ss to) m)
delta (atom v d n) (K.Reserved word.Check) =
    eat (msg v d (n + 1) ∷ []) (λ ss to (m, rest). t.checks (over ss to) m)
delta (atom v d n) (K.Reserved word.Many) =
    if v then eat (msg v d (n + 1) ∷ []) (λ ss to (m, rest). t.many (over ss to) m) else fail
delta (atoms_item v d n) (K.Mark mark.Comma) = eat (atom v d n ∷ []) (λ ss to (f, rest). one f)
delta (atoms_item v d n) (K.Mark mark.BracketClose) = eat [] (λ ss to xs. last tt)
delta (atoms v d n) (K.Mark mark.Comma) =
    eat (atom v d n ∷ atoms v d n ∷ []) (λ ss to (f, ((fs, end), rest)). (f ∷ fs, end))
delta (atoms v d n) (K.Mark mark.BracketClose) = eat [] (λ ss to xs. ([], tt))
delta (effect v d n) (K.Mark mark.BracketOpen) = look (delta_bracket v d n)
delta (ty v n) (K.Word w) = eat [] (λ ss to xs. t.abbr (over ss to) (word_at w (first ss)))
delta (ty v n) (K.Reserved word.Un) = eat [] (λ ss to xs. t.un (over ss to))
delta (ty v n) (K.Reserved word.Key) =
    eat (the_mark mark.ParenOpen ∷ ty v (n + 1) ∷ the_mark mark.ParenClose ∷ [])
    (λ ss to (opening, (a, rest)). t.key (over ss to) a)
delta (ty v n) (K.Reserved word.Nonce) =
    eat (effect v false (n + 1) ∷ []) (λ ss to (es, rest). t.nonce (over ss to) es)
delta (ty v n) (K.Mark mark.ParenOpen) = look (delta_ty_paren v n)
delta (fields_item v n) (K.Word w) = may_look (nat_lt message_limit n) (delta_item_word v n w)
delta (fields_item v n) _ =
    stay (ty v n ∷ the_mark mark.ParenClose ∷ []) tt (λ ss to (a, rest). last (t.bare a))
-- a comma, or the parenthesis
delta fields_rest (K.Mark mark.Comma) = eat [] (λ ss to xs. false)
delta fields_rest (K.Mark mark.ParenClose) = eat [] (λ ss to xs. true)
delta (fields v n) (K.Word w) = may_look (nat_lt message_limit n) (delta_fields_word v n w)
delta (fields v n) _ = stay (ty v n ∷ the_mark mark.ParenClose ∷ []) tt (λ ss to (a, rest). ([], t.bare a))
delta (fields_more v n) (K.Mark mark.Comma) = eat (fields v n ∷ []) (λ ss to (fs, rest). Some fs)
delta (fields_more v n) (K.Mark mark.ParenClose) = eat [] (λ ss to xs. None)
delta (named v) _ =
    stay (the_word ∷ the_mark mark.Colon ∷ ty v 1 ∷ []) tt (λ ss to (x, (colon, (a, rest))). (x, a))
delta (binder v) (K.Mark mark.ParenOpen) =
    eat (named v ∷ the_mark mark.ParenClose ∷ the_mark mark.Semicolon ∷ []) (λ ss to (b, rest). b)
delta (split_head v) (K.Reserved word.Is) =
    eat (the_mark mark.ParenOpen ∷ named v ∷ the_mark mark.Comma ∷ named v ∷ the_mark mark.ParenClose
    ∷ the_mark mark.Semicolon ∷ []) (λ ss to (opening, ((x, a), (comma, ((y, b), rest)))). (x, a, y, b))
delta (match_head v) (K.Reserved word.Is) =
    eat (the_mark mark.ParenOpen ∷ named v ∷ the_mark mark.Equals ∷ msg v false 1 ∷ the_mark mark.Comma
    ∷ named v ∷ the_mark mark.ParenClose ∷ the_mark mark.Semicolon ∷ [])
    (λ ss to (opening, ((x, a), (equals, (m, (comma, ((y, b), rest)))))). (x, a, m, y, b))
delta (case_head v w) (K.Reserved word.Is) =
    eat (the_reserved w ∷ binder v ∷ []) (λ ss to (keyword, (b, rest)). b)
delta (decrypt_head v) (K.Reserved word.Is) =
    eat (the_mark mark.BraceOpen ∷ named v ∷ the_mark mark.BraceClose ∷ msg v false 1
    ∷ the_mark mark.Semicolon ∷ []) (λ ss to (opening, ((x, a), (close, (m, rest)))). (x, a, m))
delta (check_head v) (K.Reserved word.Is) =
    eat (msg v false 1 ∷ the_mark mark.Semicolon ∷ []) (λ ss to (m, rest). m)
delta (cast_head v) (K.Reserved word.Is) = eat (binder v ∷ []) (λ ss to (b, rest). b)
delta (sproc v n) _ =
    stay (seq v (n + 1) ∷ par_tail v n ∷ []) tt (λ ss to (p, (q, rest)). par_of (over ss to) p q)
delta (seq v n) k = form_move v n (form_of v k)
delta (out_tail v n) (K.Mark mark.Semicolon) = eat (seq v (n + 1) ∷ []) (λ ss to (p, rest). Some p)
delta (out_tail v n) _ = skip None
delta (par_tail v n) (K.Mark mark.Bar) = eat (sproc v (n + 1) ∷ []) (λ ss to (p, rest). Some p)
delta (par_tail v n) _ = skip None
delta words_item (K.Mark mark.Comma) = eat (the_word ∷ []) (λ ss to (x, rest). one x)
delta words_item (K.Mark mark.Semicolon) = eat [] (λ ss to xs. last tt)
delta words (K.Mark mark.Comma) = eat (the_word ∷ words ∷ []) (λ ss to (x, ((xs, end), rest)). (x ∷ xs, end))
delta words (K.Mark mark.Semicolon) = eat [] (λ ss to xs. ([], tt))
delta free_rest _ = stay (the_word ∷ words ∷ []) tt (λ ss to (x, ((xs, end), rest)). (x, xs, to))
delta (abbr_rest v) _ =
    stay (the_word ∷ the_mark mark.Equals ∷ ty v 1 ∷ the_mark mark.Semicolon ∷ []) tt
    (λ ss to (x, (equals, (a, rest))). (x, a, to))
delta (decl v) (K.Reserved word.Free) = eat (free_rest ∷ []) (λ ss to (free, rest). free_from ss free)
delta (decl v) (K.Reserved word.TypeWord) = eat (abbr_rest v ∷ []) (λ ss to (abbr, rest). abbr_from ss abbr)
delta (decls_item v) (K.Reserved word.Free) =
    eat (free_rest ∷ []) (λ ss to (free, rest). one (free_from ss free))
delta (decls_item v) (K.Reserved word.TypeWord) =
    eat (abbr_rest v ∷ []) (λ ss to (abbr, rest). one (abbr_from ss abbr))
delta (decls_item v) (K.Reserved word.Process) = eat [] (λ ss to xs. last tt)
delta (decls v) (K.Reserved word.Free) =
    eat (free_rest ∷ decls v ∷ []) (λ ss to (free, ((ds, end), rest)). (free_from ss free ∷ ds, end))
delta (decls v) (K.Reserved word.TypeWord) =
    eat (abbr_rest v ∷ decls v ∷ []) (λ ss to (abbr, ((ds, end), rest)). (abbr_from ss abbr ∷ ds, end))
delta (decls v) (K.Reserved word.Process) = eat [] (λ ss to xs. ([], tt))
delta act_rest _ = stay (the_number ∷ the_mark mark.Semicolon ∷ []) tt (λ ss to (i, rest). (i, to))
delta talk_rest _ =
    stay (the_number ∷ the_number ∷ the_mark mark.Semicolon ∷ []) tt (λ ss to (i, (j, rest)). (i, j, to))
delta steps_item (K.Word w) =
    if is_act w then eat (act_rest ∷ []) (λ ss to (step, rest). one (act_from ss step)) else
    (if is_talk w then eat (talk_rest ∷ []) (λ ss to (step, rest). one (talk_from ss step))
    else skip (last tt))
delta steps_item _ = skip (last tt)
delta steps (K.Word w) =
    if is_act w then eat (act_rest ∷ steps ∷ [])
    (λ ss to (step, ((more, end), rest)). (act_from ss step ∷ more, end)) else
    (if is_talk w then eat (talk_rest ∷ steps ∷ [])
    (λ ss to (step, ((more, end), rest)). (talk_from ss step ∷ more, end)) else skip ([], tt))
delta steps _ = skip ([], tt)
delta (deriv v n) (K.Word w) = rule_move v n w (arity_of v w) (writes_effect w)
delta (opponent_tail v) (K.Reserved word.Opponent) = eat (sproc v 0 ∷ []) (λ ss to (p, rest). Some p)
delta (opponent_tail v) _ = skip None
delta schedule_tail (K.Reserved word.Schedule) = eat (steps ∷ []) (λ ss to ((more, end), rest). Some more)
delta schedule_tail _ = skip None
delta (derivation_tail v) (K.Reserved word.Derivation) = eat (deriv v 1 ∷ []) (λ ss to (d, rest). Some d)
delta (derivation_tail v) _ = skip None
delta (body v) _ = stay (decls v ∷ sproc v 0 ∷ opponent_tail v ∷ schedule_tail ∷ derivation_tail v ∷ []) tt
    (λ ss to ((ds, end), (p, (opponent, (schedule, (derivation, rest))))). record {
      decls = ds;
      process = p;
      opponent = opponent;
      schedule = schedule;
      derivation = derivation;
    })
delta file (K.Word w) =
    if is_version_word w then eat (the_two ∷ the_mark mark.Semicolon ∷ body true ∷ [])
    (λ ss to (two, (semicolon, (whole, rest))). file_from 2 (over ss to) whole) else fail
delta file _ = stay (body false ∷ []) tt (λ ss to (whole, rest). file_from 1 (over ss to) whole)
delta _ _ = fail

-- what stands for the symbol at the end of the tokens
abbrev pub at_end : (a : Sym) → Option (Tree a)
at_end (out_tail v n) = Some None
at_end (par_tail v n) = Some None
at_end steps_item = Some (last tt)
at_end steps = Some ([], tt)
at_end (opponent_tail v) = Some None
at_end schedule_tail = Some None
at_end (derivation_tail v) = Some None
at_end _ = None
