-- The tokens of each kind of tree, as lists that are put one behind another. No public clause names them: a law says
-- that they are the tokens among the tree's pieces.
use Rattle.std.specs.Prelude.{ℕ, ◌==◌, List, [], ◌∷◌, ◌++◌, Option, Some, None, codes, if◌then◌else◌}
use Rattle.spi_lex.specs.declared.token.Kind.{Kind}
use Rattle.spi_lex.specs.declared.token.Kind.TheVariants as kinds
use Rattle.spi_lex.specs.declared.token.Reserved.{Reserved}
use Rattle.spi_lex.specs.declared.token.Reserved.TheVariants as word
use Rattle.spi_lex.specs.declared.token.Mark.{Mark}
use Rattle.spi_lex.specs.declared.token.Mark.TheVariants as mark
use Rattle.spi_tree.specs.declared.tree.SWord.{SWord}
use Rattle.spi_tree.specs.Trees as t

abbrev pub mark_list : Mark → List Kind
mark_list m = kinds.Mark m ∷ []

abbrev pub reserved_list : Reserved → List Kind
reserved_list w = kinds.Reserved w ∷ []

abbrev pub number_list : ℕ → List Kind
number_list n = kinds.Number n ∷ []

abbrev pub word_list : SWord → List Kind
word_list w = kinds.Word w.word ∷ []

-- two parentheses with nothing between
abbrev pub parens_list : List Kind
parens_list = mark_list mark.ParenOpen ++ mark_list mark.ParenClose

-- a name by its number
abbrev pub numbered_list : ℕ → List Kind
numbered_list n = mark_list mark.NumberSign ++ number_list n

-- a word that the grammar asks for by its spelling
abbrev pub literal_list : List ℕ → List Kind
literal_list name = kinds.Word name ∷ []

-- the lists of the items, one behind another
abbrev pub joined : {X : Type 0} → (X → List Kind) → List X → List Kind
joined f [] = []
joined f (x ∷ xs) = f x ++ joined f xs

abbrev mutual
  pub msg_list : t.Msg → List Kind
  msg_list (t.name s w) = word_list w
  msg_list (t.unit s) = parens_list
  msg_list (t.tuple s a b ms) =
      mark_list mark.ParenOpen ++ msg_list a ++ mark_list mark.Comma ++ msg_list b ++ msgs_list ms
      ++ mark_list mark.ParenClose
  msg_list (t.inl s a) = reserved_list word.Inl ++ msg_list a
  msg_list (t.inr s a) = reserved_list word.Inr ++ msg_list a
  msg_list (t.enc s a b) = mark_list mark.BraceOpen ++ msg_list a ++ mark_list mark.BraceClose ++ msg_list b
  msg_list (t.hash s a) =
      reserved_list word.Hash ++ mark_list mark.ParenOpen ++ msg_list a ++ mark_list mark.ParenClose
  msg_list (t.num s i) = numbered_list i

  pub msgs_list : t.Msgs → List Kind
  msgs_list t.no_msgs = []
  msgs_list (t.more_msgs m ms) = mark_list mark.Comma ++ msg_list m ++ msgs_list ms

abbrev pub more_list : t.Msg → List Kind
more_list m = mark_list mark.Comma ++ msg_list m

abbrev pub atom_list : t.Atom → List Kind
atom_list (t.ends s m) = reserved_list word.End ++ msg_list m
atom_list (t.checks s m) = reserved_list word.Check ++ msg_list m
atom_list (t.many s m) = reserved_list word.Many ++ msg_list m

abbrev pub more_atom_list : t.Atom → List Kind
more_atom_list e = mark_list mark.Comma ++ atom_list e

abbrev pub effect_list : List t.Atom → List Kind
effect_list [] = mark_list mark.BracketOpen ++ mark_list mark.BracketClose
effect_list (e ∷ es) =
    mark_list mark.BracketOpen ++ atom_list e ++ joined more_atom_list es ++ mark_list mark.BracketClose

abbrev mutual
  pub ty_list : t.Ty → List Kind
  ty_list (t.un s) = reserved_list word.Un
  ty_list (t.unit_ty s) = parens_list
  ty_list (t.tuple_ty s w a fs l) =
      mark_list mark.ParenOpen ++ word_list w ++ mark_list mark.Colon ++ ty_list a ++ mark_list mark.Comma
      ++ fields_list fs ++ last_list l ++ mark_list mark.ParenClose
  ty_list (t.sum s a b) =
      mark_list mark.ParenOpen ++ ty_list a ++ mark_list mark.Plus ++ ty_list b ++ mark_list mark.ParenClose
  ty_list (t.key s a) =
      reserved_list word.Key ++ mark_list mark.ParenOpen ++ ty_list a ++ mark_list mark.ParenClose
  ty_list (t.nonce s es) = reserved_list word.Nonce ++ effect_list es
  ty_list (t.abbr s w) = word_list w

  pub fields_list : t.Fields → List Kind
  fields_list t.no_fields = []
  fields_list (t.more_fields w a fs) =
      word_list w ++ mark_list mark.Colon ++ ty_list a ++ mark_list mark.Comma ++ fields_list fs

  pub last_list : t.Last → List Kind
  last_list (t.bare a) = ty_list a
  last_list (t.named w a) = word_list w ++ mark_list mark.Colon ++ ty_list a

abbrev pub field_list : t.Field → List Kind
field_list f = word_list f.name ++ mark_list mark.Colon ++ ty_list f.ty ++ mark_list mark.Comma

abbrev pub tuple_ty_list : SWord → t.Ty → List t.Field → t.Last → List Kind
tuple_ty_list w a fs l =
    mark_list mark.ParenOpen ++ word_list w ++ mark_list mark.Colon ++ ty_list a ++ mark_list mark.Comma
    ++ joined field_list fs ++ last_list l ++ mark_list mark.ParenClose

abbrev pub named_list : SWord → t.Ty → List Kind
named_list w a = word_list w ++ mark_list mark.Colon ++ ty_list a

abbrev pub binder_list : SWord → t.Ty → List Kind
binder_list w a =
    mark_list mark.ParenOpen ++ named_list w a ++ mark_list mark.ParenClose ++ mark_list mark.Semicolon

abbrev pub second_list : SWord → t.Ty → List Kind
second_list x b =
    mark_list mark.Comma ++ named_list x b ++ mark_list mark.ParenClose ++ mark_list mark.Semicolon

abbrev pub first_list : SWord → t.Ty → List Kind
first_list w a = reserved_list word.Is ++ mark_list mark.ParenOpen ++ named_list w a

-- two names with their types, and those of a pair whose first part is a given message
abbrev pub both_list : SWord → t.Ty → SWord → t.Ty → List Kind
both_list w b x c = first_list w b ++ second_list x c

abbrev pub matched_list : SWord → t.Ty → t.Msg → SWord → t.Ty → List Kind
matched_list w b n x c = first_list w b ++ mark_list mark.Equals ++ msg_list n ++ second_list x c

abbrev pub side_list : Reserved → SWord → t.Ty → List Kind
side_list side w a = reserved_list word.Is ++ reserved_list side ++ binder_list w a

-- the part of an opened message, and the key
abbrev pub open_list : SWord → t.Ty → t.Msg → List Kind
open_list w a n =
    reserved_list word.Is ++ mark_list mark.BraceOpen ++ named_list w a ++ mark_list mark.BraceClose
    ++ msg_list n ++ mark_list mark.Semicolon

-- a word and the message that it is about
abbrev pub about_list : Reserved → t.Msg → List Kind
about_list w m = reserved_list w ++ msg_list m

-- a message and the semicolon
abbrev pub ended_list : t.Msg → List Kind
ended_list m = msg_list m ++ mark_list mark.Semicolon

-- what a process begins with: a word, and the message that it is about
abbrev pub opening_list : t.Proc → List Kind
opening_list (t.par s p q) = []
opening_list (t.out s m n) = about_list word.Out m
opening_list (t.out_then s m n p) = about_list word.Out m
opening_list (t.inp s m w b p) = about_list word.Inp m
opening_list (t.repeat s m w b p) = reserved_list word.Repeat ++ about_list word.Inp m
opening_list (t.split s m w b x c p) = about_list word.Split m
opening_list (t.match s m w b n x c p) = about_list word.Match m
opening_list (t.case s m w b p x c q) = about_list word.Case m
opening_list (t.decrypt s m w b n p) = about_list word.Decrypt m
opening_list (t.check s m n p) = about_list word.Check m
opening_list (t.begin s m p) = about_list word.Begin m
opening_list (t.end s m p) = about_list word.End m
opening_list (t.end_many s m p) = about_list word.EndMany m
opening_list (t.cast s m w b p) = about_list word.Cast m
opening_list (t.new s w b p) = reserved_list word.New
opening_list (t.stop s) = reserved_list word.Stop
opening_list (t.group s p q) = mark_list mark.ParenOpen

-- what stands behind that, up to the first process
abbrev pub binding_list : t.Proc → List Kind
binding_list (t.par s p q) = []
binding_list (t.out s m n) = msg_list n
binding_list (t.out_then s m n p) = ended_list n
binding_list (t.inp s m w b p) = binder_list w b
binding_list (t.repeat s m w b p) = binder_list w b
binding_list (t.split s m w b x c p) = both_list w b x c
binding_list (t.match s m w b n x c p) = matched_list w b n x c
binding_list (t.case s m w b p x c q) = side_list word.Inl w b
binding_list (t.decrypt s m w b n p) = open_list w b n
binding_list (t.check s m n p) = reserved_list word.Is ++ ended_list n
binding_list (t.begin s m p) = mark_list mark.Semicolon
binding_list (t.end s m p) = mark_list mark.Semicolon
binding_list (t.end_many s m p) = mark_list mark.Semicolon
binding_list (t.cast s m w b p) = reserved_list word.Is ++ binder_list w b
binding_list (t.new s w b p) = binder_list w b
binding_list (t.stop s) = []
binding_list (t.group s p q) = []

-- what stands in front of the first process within a process
abbrev pub leading_list : t.Proc → List Kind
leading_list p = opening_list p ++ binding_list p

abbrev pub proc_list : t.Proc → List Kind
proc_list (t.par s p q) = proc_list p ++ mark_list mark.Bar ++ proc_list q
proc_list (t.out s m n) = leading_list (t.out s m n)
proc_list (t.out_then s m n p) = leading_list (t.out_then s m n p) ++ proc_list p
proc_list (t.inp s m w b p) = leading_list (t.inp s m w b p) ++ proc_list p
proc_list (t.repeat s m w b p) = leading_list (t.repeat s m w b p) ++ proc_list p
proc_list (t.split s m w b x c p) = leading_list (t.split s m w b x c p) ++ proc_list p
proc_list (t.match s m w b n x c p) = leading_list (t.match s m w b n x c p) ++ proc_list p
proc_list (t.case s m w b p x c q) =
    leading_list (t.case s m w b p x c q) ++ proc_list p ++ side_list word.Inr x c ++ proc_list q
proc_list (t.decrypt s m w b n p) = leading_list (t.decrypt s m w b n p) ++ proc_list p
proc_list (t.check s m n p) = leading_list (t.check s m n p) ++ proc_list p
proc_list (t.begin s m p) = leading_list (t.begin s m p) ++ proc_list p
proc_list (t.end s m p) = leading_list (t.end s m p) ++ proc_list p
proc_list (t.end_many s m p) = leading_list (t.end_many s m p) ++ proc_list p
proc_list (t.cast s m w b p) = leading_list (t.cast s m w b p) ++ proc_list p
proc_list (t.new s w b p) = leading_list (t.new s w b p) ++ proc_list p
proc_list (t.stop s) = leading_list (t.stop s)
proc_list (t.group s p q) =
    leading_list (t.group s p q) ++ proc_list p ++ mark_list mark.Bar ++ proc_list q
    ++ mark_list mark.ParenClose

abbrev pub more_word_list : SWord → List Kind
more_word_list w = mark_list mark.Comma ++ word_list w

abbrev pub decl_list : t.Declared → List Kind
decl_list (t.free s w ws) =
    reserved_list word.Free ++ word_list w ++ joined more_word_list ws ++ mark_list mark.Semicolon
decl_list (t.abbreviated s w a) =
    reserved_list word.TypeWord ++ word_list w ++ mark_list mark.Equals ++ ty_list a
    ++ mark_list mark.Semicolon

abbrev pub step_list : t.Step → List Kind
step_list (t.act s i) = literal_list (codes "act") ++ number_list i ++ mark_list mark.Semicolon
step_list (t.talk s i j) =
    literal_list (codes "talk") ++ number_list i ++ number_list j ++ mark_list mark.Semicolon

abbrev pub written_list : Option (List t.Atom) → List Kind
written_list None = []
written_list (Some es) = effect_list es

abbrev mutual
  pub deriv_list : t.Deriv → List Kind
  deriv_list (t.rule s w es ds) = word_list w ++ written_list es ++ derivs_list ds

  pub derivs_list : t.Derivs → List Kind
  derivs_list t.no_derivs = []
  derivs_list (t.more_derivs d ds) = deriv_list d ++ derivs_list ds

abbrev pub version_list : ℕ → List Kind
version_list v =
    if v == 2 then literal_list (codes "version") ++ number_list 2 ++ mark_list mark.Semicolon else []

abbrev pub opponent_list : Option t.Proc → List Kind
opponent_list None = []
opponent_list (Some p) = reserved_list word.Opponent ++ proc_list p

abbrev pub schedule_list : Option (List t.Step) → List Kind
schedule_list None = []
schedule_list (Some xs) = reserved_list word.Schedule ++ joined step_list xs

abbrev pub derivation_list : Option t.Deriv → List Kind
derivation_list None = []
derivation_list (Some d) = reserved_list word.Derivation ++ deriv_list d

abbrev pub file_list : t.File → List Kind
file_list f =
    version_list f.version ++ joined decl_list f.decls ++ reserved_list word.Process ++ proc_list f.process
    ++ opponent_list f.opponent ++ schedule_list f.schedule ++ derivation_list f.derivation
