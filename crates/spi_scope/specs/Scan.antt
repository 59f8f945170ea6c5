-- The tokens of a tree as they are read, and right behind each token the points that stand at it. Where several stand at
-- one token, the fault with the lower number comes first.
use Rattle.std.specs.Prelude.{ℕ, ◌+◌, ◌==◌, List, [], ◌∷◌, ◌++◌, length, map, Option, Some, None, codes, if◌then◌else◌}
use Rattle.spi_text.specs.declared.lines.Span.{Span}
use Rattle.spi_lex.specs.declared.token.Kind.{Kind}
use Rattle.spi_lex.specs.declared.token.Kind.TheVariants as kinds
use Rattle.spi_lex.specs.declared.token.Reserved.{Reserved}
use Rattle.spi_lex.specs.declared.token.Reserved.TheVariants as word
use Rattle.spi_lex.specs.declared.token.Mark.{Mark}
use Rattle.spi_lex.specs.declared.token.Mark.TheVariants as mark
use Rattle.spi_tree.specs.declared.tree.SWord.{SWord}
use Rattle.spi_tree.specs.Trees as t
use Rattle.spi_tree.specs.Pieces.{kinds_in, msg_pieces}
use Rattle.spi_term.specs.Term.{message_size}
use Rattle.spi_scope.specs.Scope.{Names, Abbreviations}
use Rattle.spi_scope.specs.Meaning.{behind}
use Rattle.spi_scope.specs.Parts.{numbered_message}
use Rattle.spi_scope.specs.Points.{Point, uses_name, uses_type, declares_name, declares_type, ends_message, ends_type, adds, starts_step, msg_nodes, type_nodes, msg_span, ty_span, names_behind, types_behind, all_names, all_types}

pub data ScanItem : Type 0 where
  token : Kind → ScanItem
  point : Point → ScanItem

abbrev pub Scan : Type 0
Scan = List ScanItem

abbrev pub kinds_in_scan : Scan → List Kind
kinds_in_scan [] = []
kinds_in_scan (token k ∷ s) = k ∷ kinds_in_scan s
kinds_in_scan (point p ∷ s) = kinds_in_scan s

abbrev pub points_in_scan : Scan → List Point
points_in_scan [] = []
points_in_scan (token k ∷ s) = points_in_scan s
points_in_scan (point p ∷ s) = p ∷ points_in_scan s

-- one behind the other
infixr 5 ◌▸◌
abbrev pub ◌▸◌ : Scan → Scan → Scan
a ▸ b = a ++ b

-- one token, and one point
abbrev pub scan_token : Kind → Scan
scan_token k = token k ∷ []

abbrev pub scan_mark : Mark → Scan
scan_mark m = scan_token (kinds.Mark m)

abbrev pub scan_reserved : Reserved → Scan
scan_reserved w = scan_token (kinds.Reserved w)

abbrev pub scan_number : ℕ → Scan
scan_number n = scan_token (kinds.Number n)

abbrev pub scan_word : SWord → Scan
scan_word w = scan_token (kinds.Word w.word)

abbrev pub here : Point → Scan
here p = point p ∷ []

-- a message: at each identifier, is the name known?
abbrev mutual
  pub message_scan : Names → t.Msg → Scan
  message_scan xs (t.name s w) = scan_word w ▸ here (uses_name xs w)
  message_scan xs (t.unit s) = scan_mark mark.ParenOpen ▸ scan_mark mark.ParenClose
  message_scan xs (t.tuple s a b ms) =
      scan_mark mark.ParenOpen ▸ message_scan xs a ▸ scan_mark mark.Comma ▸ message_scan xs b
      ▸ messages_scan xs ms ▸ scan_mark mark.ParenClose
  message_scan xs (t.inl s a) = scan_reserved word.Inl ▸ message_scan xs a
  message_scan xs (t.inr s a) = scan_reserved word.Inr ▸ message_scan xs a
  message_scan xs (t.enc s a b) =
      scan_mark mark.BraceOpen ▸ message_scan xs a ▸ scan_mark mark.BraceClose ▸ message_scan xs b
  message_scan xs (t.hash s a) =
      scan_reserved word.Hash ▸ scan_mark mark.ParenOpen ▸ message_scan xs a ▸ scan_mark mark.ParenClose
  message_scan xs (t.num s i) = scan_mark mark.NumberSign ▸ scan_number i

  pub messages_scan : Names → t.Msgs → Scan
  messages_scan xs t.no_msgs = []
  messages_scan xs (t.more_msgs m ms) = scan_mark mark.Comma ▸ message_scan xs m ▸ messages_scan xs ms

-- the last token of an outermost message, or of an atom's message: is the message too large?
abbrev pub whole_scan : Names → t.Msg → Scan
whole_scan xs m = message_scan xs m ▸ here (ends_message (msg_nodes xs m) (msg_span m))

-- the last token of an outermost message of a process: the message is added to the count
abbrev pub part_scan : Names → t.Msg → Scan
part_scan xs m = whole_scan xs m ▸ here (adds (msg_nodes xs m) (msg_span m))

abbrev pub atom_scan : Names → t.Atom → Scan
atom_scan xs (t.ends s m) = scan_reserved word.End ▸ whole_scan xs m
atom_scan xs (t.checks s m) = scan_reserved word.Check ▸ whole_scan xs m
atom_scan xs (t.many s m) = scan_reserved word.Many ▸ whole_scan xs m

abbrev pub atoms_scan : Names → List t.Atom → Scan
atoms_scan xs [] = []
atoms_scan xs (e ∷ es) = scan_mark mark.Comma ▸ atom_scan xs e ▸ atoms_scan xs es

abbrev pub effect_scan : Names → List t.Atom → Scan
effect_scan xs [] = scan_mark mark.BracketOpen ▸ scan_mark mark.BracketClose
effect_scan xs (e ∷ es) =
    scan_mark mark.BracketOpen ▸ atom_scan xs e ▸ atoms_scan xs es ▸ scan_mark mark.BracketClose

-- a type: at each identifier that stands for one, is it known? The names that a tuple binds have no point
abbrev mutual
  pub type_scan : Abbreviations → Names → t.Ty → Scan
  type_scan ts xs (t.un s) = scan_reserved word.Un
  type_scan ts xs (t.unit_ty s) = scan_mark mark.ParenOpen ▸ scan_mark mark.ParenClose
  type_scan ts xs (t.tuple_ty s w a fs l) =
      scan_mark mark.ParenOpen ▸ scan_word w ▸ scan_mark mark.Colon ▸ type_scan ts xs a
      ▸ scan_mark mark.Comma ▸ fields_scan ts (w.word ∷ xs) fs ▸ last_scan ts (behind (w.word ∷ xs) fs) l
      ▸ scan_mark mark.ParenClose
  type_scan ts xs (t.sum s a b) =
      scan_mark mark.ParenOpen ▸ type_scan ts xs a ▸ scan_mark mark.Plus ▸ type_scan ts xs b
      ▸ scan_mark mark.ParenClose
  type_scan ts xs (t.key s a) =
      scan_reserved word.Key ▸ scan_mark mark.ParenOpen ▸ type_scan ts xs a ▸ scan_mark mark.ParenClose
  type_scan ts xs (t.nonce s es) = scan_reserved word.Nonce ▸ effect_scan xs es
  type_scan ts xs (t.abbr s w) = scan_word w ▸ here (uses_type ts w)

  pub fields_scan : Abbreviations → Names → t.Fields → Scan
  fields_scan ts xs t.no_fields = []
  fields_scan ts xs (t.more_fields w a fs) =
      scan_word w ▸ scan_mark mark.Colon ▸ type_scan ts xs a ▸ scan_mark mark.Comma
      ▸ fields_scan ts (w.word ∷ xs) fs

  pub last_scan : Abbreviations → Names → t.Last → Scan
  last_scan ts xs (t.bare a) = type_scan ts xs a
  last_scan ts xs (t.named w a) = scan_word w ▸ scan_mark mark.Colon ▸ type_scan ts xs a

-- the last token of an annotation, or of an abbreviation's type: is the type too large?
abbrev pub bounded_scan : Abbreviations → Names → t.Ty → Scan
bounded_scan ts xs a = type_scan ts xs a ▸ here (ends_type (type_nodes ts xs a) (ty_span a))

-- and the type is added to the count
abbrev pub whole_type_scan : Abbreviations → Names → t.Ty → Scan
whole_type_scan ts xs a = bounded_scan ts xs a ▸ here (adds (type_nodes ts xs a) (ty_span a))

-- a name with its annotation
abbrev pub named_scan : Abbreviations → Names → SWord → t.Ty → Scan
named_scan ts xs w a = scan_word w ▸ scan_mark mark.Colon ▸ whole_type_scan ts xs a

abbrev pub binder_scan : Abbreviations → Names → SWord → t.Ty → Scan
binder_scan ts xs w a =
    scan_mark mark.ParenOpen ▸ named_scan ts xs w a ▸ scan_mark mark.ParenClose ▸ scan_mark mark.Semicolon

-- the first token of a process form: the form adds 1
abbrev pub scan_form : Span → Reserved → Scan
scan_form s w = scan_reserved w ▸ here (adds 1 s)

-- the `|` of a parallel composition, or the `;` of `out M N; P`: the composition adds 1
abbrev pub composition : Span → Mark → Scan
composition s m = scan_mark m ▸ here (adds 1 s)

abbrev pub process_scan : Abbreviations → Names → t.Proc → Scan
process_scan ts xs (t.par s p q) = process_scan ts xs p ▸ composition s mark.Bar ▸ process_scan ts xs q
process_scan ts xs (t.out s m n) = scan_form s word.Out ▸ part_scan xs m ▸ part_scan xs n
process_scan ts xs (t.out_then s m n p) =
    scan_form s word.Out ▸ part_scan xs m ▸ part_scan xs n ▸ composition s mark.Semicolon
    ▸ process_scan ts xs p
process_scan ts xs (t.inp s m x a p) =
    scan_form s word.Inp ▸ part_scan xs m ▸ binder_scan ts xs x a ▸ process_scan ts (x.word ∷ xs) p
process_scan ts xs (t.repeat s m x a p) =
    scan_form s word.Repeat ▸ scan_reserved word.Inp ▸ part_scan xs m ▸ binder_scan ts xs x a
    ▸ process_scan ts (x.word ∷ xs) p
process_scan ts xs (t.split s m x a y c p) =
    scan_form s word.Split ▸ part_scan xs m ▸ scan_reserved word.Is ▸ scan_mark mark.ParenOpen
    ▸ named_scan ts xs x a ▸ scan_mark mark.Comma ▸ named_scan ts (x.word ∷ xs) y c
    ▸ scan_mark mark.ParenClose ▸ scan_mark mark.Semicolon ▸ process_scan ts (y.word ∷ x.word ∷ xs) p
process_scan ts xs (t.match s m x a n y c p) =
    scan_form s word.Match ▸ part_scan xs m ▸ scan_reserved word.Is ▸ scan_mark mark.ParenOpen
    ▸ named_scan ts xs x a ▸ scan_mark mark.Equals ▸ part_scan xs n ▸ scan_mark mark.Comma
    ▸ named_scan ts (x.word ∷ xs) y c ▸ scan_mark mark.ParenClose ▸ scan_mark mark.Semicolon
    ▸ process_scan ts (y.word ∷ xs) p
process_scan ts xs (t.case s m x a p y c q) =
    scan_form s word.Case ▸ part_scan xs m ▸ scan_reserved word.Is ▸ scan_reserved word.Inl
    ▸ binder_scan ts xs x a ▸ process_scan ts (x.word ∷ xs) p ▸ scan_reserved word.Is
    ▸ scan_reserved word.Inr ▸ binder_scan ts xs y c ▸ process_scan ts (y.word ∷ xs) q
process_scan ts xs (t.decrypt s m x a n p) =
    scan_form s word.Decrypt ▸ part_scan xs m ▸ scan_reserved word.Is ▸ scan_mark mark.BraceOpen
    ▸ named_scan ts xs x a ▸ scan_mark mark.BraceClose ▸ part_scan xs n ▸ scan_mark mark.Semicolon
    ▸ process_scan ts (x.word ∷ xs) p
process_scan ts xs (t.check s m n p) =
    scan_form s word.Check ▸ part_scan xs m ▸ scan_reserved word.Is ▸ part_scan xs n
    ▸ scan_mark mark.Semicolon ▸ process_scan ts xs p
process_scan ts xs (t.begin s m p) =
    scan_form s word.Begin ▸ part_scan xs m ▸ scan_mark mark.Semicolon ▸ process_scan ts xs p
process_scan ts xs (t.end s m p) =
    scan_form s word.End ▸ part_scan xs m ▸ scan_mark mark.Semicolon ▸ process_scan ts xs p
process_scan ts xs (t.end_many s m p) =
    scan_form s word.EndMany ▸ part_scan xs m ▸ scan_mark mark.Semicolon ▸ process_scan ts xs p
process_scan ts xs (t.cast s m x a p) =
    scan_form s word.Cast ▸ part_scan xs m ▸ scan_reserved word.Is ▸ binder_scan ts xs x a
    ▸ process_scan ts (x.word ∷ xs) p
process_scan ts xs (t.new s x a p) =
    scan_form s word.New ▸ binder_scan ts xs x a ▸ process_scan ts (x.word ∷ xs) p
process_scan ts xs (t.stop s) = scan_form s word.Stop
process_scan ts xs (t.group s p q) =
    scan_mark mark.ParenOpen ▸ process_scan ts xs p ▸ composition s mark.Bar ▸ process_scan ts xs q
    ▸ scan_mark mark.ParenClose

-- the identifier of a free name: was it declared before? It adds 1
abbrev pub free_scan : Names → SWord → Scan
free_scan xs w = scan_word w ▸ here (declares_name xs w) ▸ here (adds 1 w.span)

abbrev pub frees_scan : Names → List SWord → Scan
frees_scan xs [] = []
frees_scan xs (w ∷ ws) = scan_mark mark.Comma ▸ free_scan xs w ▸ frees_scan (w.word ∷ xs) ws

-- and the identifier of an abbreviation: was it declared before?
abbrev pub decl_scan : Abbreviations → Names → t.Declared → Scan
decl_scan ts xs (t.free s w ws) =
    scan_reserved word.Free ▸ free_scan xs w ▸ frees_scan (w.word ∷ xs) ws ▸ scan_mark mark.Semicolon
decl_scan ts xs (t.abbreviated s w a) =
    scan_reserved word.TypeWord ▸ scan_word w ▸ here (declares_type ts w) ▸ scan_mark mark.Equals
    ▸ whole_type_scan ts xs a ▸ scan_mark mark.Semicolon

abbrev pub decls_scan : Abbreviations → Names → List t.Declared → Scan
decls_scan ts xs [] = []
decls_scan ts xs (d ∷ ds) = decl_scan ts xs d ▸ decls_scan (types_behind ts xs d) (names_behind xs d) ds

-- the first token of the step with the number i, of n steps: are there too many?
abbrev pub step_scan : ℕ → ℕ → t.Step → Scan
step_scan i n (t.act s k) =
    scan_token (kinds.Word (codes "act")) ▸ here (starts_step i n s) ▸ scan_number k
    ▸ scan_mark mark.Semicolon
step_scan i n (t.talk s k l) =
    scan_token (kinds.Word (codes "talk")) ▸ here (starts_step i n s) ▸ scan_number k ▸ scan_number l
    ▸ scan_mark mark.Semicolon

abbrev pub steps_scan : ℕ → ℕ → List t.Step → Scan
steps_scan i n [] = []
steps_scan i n (x ∷ xs) = step_scan i n x ▸ steps_scan (i + 1) n xs

-- a message of a derivation: at its last token, is it too large? It isn't counted
abbrev pub numbered_scan : t.Msg → Scan
numbered_scan m =
    map token (kinds_in (msg_pieces 1 m []))
    ▸ here (ends_message (message_size (numbered_message m)) (msg_span m))

abbrev pub numbered_atom_scan : t.Atom → Scan
numbered_atom_scan (t.ends s m) = scan_reserved word.End ▸ numbered_scan m
numbered_atom_scan (t.checks s m) = scan_reserved word.Check ▸ numbered_scan m
numbered_atom_scan (t.many s m) = scan_reserved word.Many ▸ numbered_scan m

abbrev pub numbered_atoms_scan : List t.Atom → Scan
numbered_atoms_scan [] = []
numbered_atoms_scan (e ∷ es) = scan_mark mark.Comma ▸ numbered_atom_scan e ▸ numbered_atoms_scan es

abbrev pub written_scan : Option (List t.Atom) → Scan
written_scan None = []
written_scan (Some []) = scan_mark mark.BracketOpen ▸ scan_mark mark.BracketClose
written_scan (Some (e ∷ es)) =
    scan_mark mark.BracketOpen ▸ numbered_atom_scan e ▸ numbered_atoms_scan es
    ▸ scan_mark mark.BracketClose

abbrev mutual
  pub deriv_scan : t.Deriv → Scan
  deriv_scan (t.rule s w es ds) = scan_word w ▸ written_scan es ▸ derivs_scan ds

  pub derivs_scan : t.Derivs → Scan
  derivs_scan t.no_derivs = []
  derivs_scan (t.more_derivs d ds) = deriv_scan d ▸ derivs_scan ds

-- the parts of a file, each present or absent
abbrev pub version_scan : ℕ → Scan
version_scan v =
    if v == 2
    then scan_token (kinds.Word (codes "version")) ▸ scan_number 2 ▸ scan_mark mark.Semicolon
    else []

abbrev pub opponent_scan : Abbreviations → Names → Option t.Proc → Scan
opponent_scan ts xs None = []
opponent_scan ts xs (Some p) = scan_reserved word.Opponent ▸ process_scan ts xs p

abbrev pub schedule_scan : Option (List t.Step) → Scan
schedule_scan None = []
schedule_scan (Some xs) = scan_reserved word.Schedule ▸ steps_scan 1 (length xs) xs

abbrev pub derivation_scan : Option t.Deriv → Scan
derivation_scan None = []
derivation_scan (Some d) = scan_reserved word.Derivation ▸ deriv_scan d

abbrev pub body_scan : Abbreviations → Names → t.File → Scan
body_scan ts xs f =
    scan_reserved word.Process ▸ process_scan ts xs f.process ▸ opponent_scan ts xs f.opponent
    ▸ schedule_scan f.schedule ▸ derivation_scan f.derivation

abbrev pub file_scan : t.File → Scan
file_scan f =
    version_scan f.version ▸ decls_scan [] [] f.decls
    ▸ body_scan (all_types [] [] f.decls) (all_names [] f.decls) f
