-- The grammar: for each kind of tree its tokens in their order, where its nodes and words begin and end, and at which
-- tokens a node above a nesting limit starts. Each function is given what follows the tree.
use Rattle.std.specs.Prelude.{ℕ, ◌+◌, ◌==◌, Bool, false, nat_lt, List, [], ◌∷◌, Option, Some, None, codes, if◌then◌else◌}
use Rattle.spi_text.specs.declared.lines.Span.{Span}
use Rattle.spi_lex.specs.declared.token.Kind.{Kind}
use Rattle.spi_lex.specs.declared.token.Kind.TheVariants as kinds
use Rattle.spi_lex.specs.declared.token.Reserved.{Reserved}
use Rattle.spi_lex.specs.declared.token.Reserved.TheVariants as word
use Rattle.spi_lex.specs.declared.token.Mark.{Mark}
use Rattle.spi_lex.specs.declared.token.Mark.TheVariants as mark
use Rattle.spi_tree.specs.declared.tree.SWord.{SWord}
use Rattle.spi_tree.specs.Trees as t

-- A piece is where a node or a word begins, a token, or where one ends. A token says whether a node above a limit
-- starts at it.
pub data Piece : Type 0 where
  opens : ℕ → Piece
  cell : Kind → Bool → Piece
  closes : ℕ → Piece

-- the greatest nesting of a message, a type or a rule, and of a process
abbrev pub message_limit : ℕ
message_limit = 1000

abbrev pub process_limit : ℕ
process_limit = 500

abbrev pub derivation_limit : ℕ
derivation_limit = 1000

-- a token at which no node starts
abbrev pub a_token : Kind → List Piece → List Piece
a_token k r = cell k false ∷ r

abbrev pub a_mark : Mark → List Piece → List Piece
a_mark m r = a_token (kinds.Mark m) r

abbrev pub a_reserved : Reserved → List Piece → List Piece
a_reserved w r = a_token (kinds.Reserved w) r

abbrev pub a_number : ℕ → List Piece → List Piece
a_number n r = a_token (kinds.Number n) r

-- a node whose first token is this, and its end
abbrev pub begins : Span → Kind → Bool → List Piece → List Piece
begins s k deep r = opens s.from ∷ cell k deep ∷ r

abbrev pub ends : Span → List Piece → List Piece
ends s r = closes s.to ∷ r

-- a word, at which a node above a limit starts or not
abbrev pub a_word : Bool → SWord → List Piece → List Piece
a_word deep w r = begins w.span (kinds.Word w.word) deep (ends w.span r)

-- the first token of a message, a type or an atom nested so deep
abbrev pub msg_begins : ℕ → Span → Kind → List Piece → List Piece
msg_begins n s k r = begins s k (nat_lt message_limit n) r

-- a message of this nesting
abbrev mutual
  pub msg_pieces : ℕ → t.Msg → List Piece → List Piece
  msg_pieces n (t.name s w) r = opens s.from ∷ a_word (nat_lt message_limit n) w (ends s r)
  msg_pieces n (t.unit s) r = msg_begins n s (kinds.Mark mark.ParenOpen) (a_mark mark.ParenClose (ends s r))
  msg_pieces n (t.tuple s a b ms) r =
      msg_begins n s (kinds.Mark mark.ParenOpen)
      (msg_pieces (n + 1) a
      (a_mark mark.Comma (msg_pieces (n + 1) b (msgs_pieces (n + 1) ms (a_mark mark.ParenClose (ends s r))))))
  msg_pieces n (t.inl s a) r = msg_begins n s (kinds.Reserved word.Inl) (msg_pieces (n + 1) a (ends s r))
  msg_pieces n (t.inr s a) r = msg_begins n s (kinds.Reserved word.Inr) (msg_pieces (n + 1) a (ends s r))
  msg_pieces n (t.enc s a b) r =
      msg_begins n s (kinds.Mark mark.BraceOpen)
      (msg_pieces (n + 1) a (a_mark mark.BraceClose (msg_pieces (n + 1) b (ends s r))))
  msg_pieces n (t.hash s a) r =
      msg_begins n s (kinds.Reserved word.Hash)
      (a_mark mark.ParenOpen (msg_pieces (n + 1) a (a_mark mark.ParenClose (ends s r))))
  msg_pieces n (t.num s i) r = msg_begins n s (kinds.Mark mark.NumberSign) (a_number i (ends s r))

  pub msgs_pieces : ℕ → t.Msgs → List Piece → List Piece
  msgs_pieces n t.no_msgs r = r
  msgs_pieces n (t.more_msgs m ms) r = a_mark mark.Comma (msg_pieces n m (msgs_pieces n ms r))

-- an atom of this nesting, or of nesting 0 where it counts as none
abbrev pub atom_pieces : ℕ → t.Atom → List Piece → List Piece
atom_pieces n (t.ends s m) r = msg_begins n s (kinds.Reserved word.End) (msg_pieces (n + 1) m (ends s r))
atom_pieces n (t.checks s m) r = msg_begins n s (kinds.Reserved word.Check) (msg_pieces (n + 1) m (ends s r))
atom_pieces n (t.many s m) r = msg_begins n s (kinds.Reserved word.Many) (msg_pieces (n + 1) m (ends s r))

abbrev pub atoms_pieces : ℕ → List t.Atom → List Piece → List Piece
atoms_pieces n [] r = r
atoms_pieces n (e ∷ es) r = a_mark mark.Comma (atom_pieces n e (atoms_pieces n es r))

-- an effect, whose atoms have this nesting
abbrev pub effect_pieces : ℕ → List t.Atom → List Piece → List Piece
effect_pieces n [] r = a_mark mark.BracketOpen (a_mark mark.BracketClose r)
effect_pieces n (e ∷ es) r =
    a_mark mark.BracketOpen (atom_pieces n e (atoms_pieces n es (a_mark mark.BracketClose r)))

-- a type of this nesting
abbrev mutual
  pub ty_pieces : ℕ → t.Ty → List Piece → List Piece
  ty_pieces n (t.un s) r = msg_begins n s (kinds.Reserved word.Un) (ends s r)
  ty_pieces n (t.unit_ty s) r = msg_begins n s (kinds.Mark mark.ParenOpen) (a_mark mark.ParenClose (ends s r))
  ty_pieces n (t.tuple_ty s w a fs l) r =
      msg_begins n s (kinds.Mark mark.ParenOpen)
      (a_word false w
      (a_mark mark.Colon
      (ty_pieces (n + 1) a
      (a_mark mark.Comma
      (fields_pieces (n + 1) fs (last_pieces (n + 1) l (a_mark mark.ParenClose (ends s r))))))))
  ty_pieces n (t.sum s a b) r =
      msg_begins n s (kinds.Mark mark.ParenOpen)
      (ty_pieces (n + 1) a (a_mark mark.Plus (ty_pieces (n + 1) b (a_mark mark.ParenClose (ends s r)))))
  ty_pieces n (t.key s a) r =
      msg_begins n s (kinds.Reserved word.Key)
      (a_mark mark.ParenOpen (ty_pieces (n + 1) a (a_mark mark.ParenClose (ends s r))))
  ty_pieces n (t.nonce s es) r =
      msg_begins n s (kinds.Reserved word.Nonce) (effect_pieces (n + 1) es (ends s r))
  ty_pieces n (t.abbr s w) r = opens s.from ∷ a_word (nat_lt message_limit n) w (ends s r)

  pub fields_pieces : ℕ → t.Fields → List Piece → List Piece
  fields_pieces n t.no_fields r = r
  fields_pieces n (t.more_fields w a fs) r =
      a_word false w (a_mark mark.Colon (ty_pieces n a (a_mark mark.Comma (fields_pieces n fs r))))

  pub last_pieces : ℕ → t.Last → List Piece → List Piece
  last_pieces n (t.bare a) r = ty_pieces n a r
  last_pieces n (t.named w a) r = a_word false w (a_mark mark.Colon (ty_pieces n a r))

-- a name with its type
abbrev pub named_pieces : SWord → t.Ty → List Piece → List Piece
named_pieces w a r = a_word false w (a_mark mark.Colon (ty_pieces 1 a r))

-- a name with its type in parentheses, and the semicolon
abbrev pub binder_pieces : SWord → t.Ty → List Piece → List Piece
binder_pieces w a r =
    a_mark mark.ParenOpen (named_pieces w a (a_mark mark.ParenClose (a_mark mark.Semicolon r)))

-- the first of two names with its type, and the second with the rest of the head
abbrev pub first_name_pieces : SWord → t.Ty → List Piece → List Piece
first_name_pieces w a r = a_reserved word.Is (a_mark mark.ParenOpen (named_pieces w a r))

abbrev pub second_name_pieces : SWord → t.Ty → List Piece → List Piece
second_name_pieces w a r =
    a_mark mark.Comma (named_pieces w a (a_mark mark.ParenClose (a_mark mark.Semicolon r)))

-- where a process stands: in the place of a `Seq` of a nesting, or of an `SProc` of a level
pub data Place : Type 0 where
  in_seq : ℕ → Place
  at_level : ℕ → Place

abbrev pub nesting_of : Place → ℕ
nesting_of (in_seq n) = n
nesting_of (at_level m) = m + 1

abbrev pub level_of : Place → ℕ
level_of (in_seq n) = n
level_of (at_level m) = m

abbrev pub proc_begins : Place → Span → Kind → List Piece → List Piece
proc_begins a s k r = begins s k (nat_lt process_limit (nesting_of a)) r

-- the `Seq` behind the form at this place, and the process behind its bar
abbrev pub below : Place → Place
below a = in_seq (nesting_of a + 1)

abbrev pub beside_place : Place → Place
beside_place a = at_level (nesting_of a + 1)

abbrev pub proc_pieces : Place → t.Proc → List Piece → List Piece
proc_pieces a (t.par s p q) r =
    opens s.from ∷ proc_pieces (in_seq (level_of a + 1)) p
    (a_mark mark.Bar (proc_pieces (at_level (level_of a + 1)) q (ends s r)))
proc_pieces a (t.out s m n) r =
    proc_begins a s (kinds.Reserved word.Out) (msg_pieces 1 m (msg_pieces 1 n (ends s r)))
proc_pieces a (t.out_then s m n p) r =
    proc_begins a s (kinds.Reserved word.Out)
    (msg_pieces 1 m (msg_pieces 1 n (a_mark mark.Semicolon (proc_pieces (below a) p (ends s r)))))
proc_pieces a (t.inp s m w b p) r =
    proc_begins a s (kinds.Reserved word.Inp)
    (msg_pieces 1 m (binder_pieces w b (proc_pieces (below a) p (ends s r))))
proc_pieces a (t.repeat s m w b p) r =
    proc_begins a s (kinds.Reserved word.Repeat)
    (a_reserved word.Inp (msg_pieces 1 m (binder_pieces w b (proc_pieces (below a) p (ends s r)))))
proc_pieces a (t.split s m w b x c p) r =
    proc_begins a s (kinds.Reserved word.Split)
    (msg_pieces 1 m (first_name_pieces w b (second_name_pieces x c (proc_pieces (below a) p (ends s r)))))
proc_pieces a (t.match s m w b n x c p) r =
    proc_begins a s (kinds.Reserved word.Match)
    (msg_pieces 1 m
    (first_name_pieces w b
    (a_mark mark.Equals
    (msg_pieces 1 n (second_name_pieces x c (proc_pieces (below a) p (ends s r)))))))
proc_pieces a (t.case s m w b p x c q) r =
    proc_begins a s (kinds.Reserved word.Case)
    (msg_pieces 1 m
    (a_reserved word.Is
    (a_reserved word.Inl
    (binder_pieces w b
    (proc_pieces (below a) p
    (a_reserved word.Is (a_reserved word.Inr (binder_pieces x c (proc_pieces (below a) q (ends s r))))))))))
proc_pieces a (t.decrypt s m w b n p) r =
    proc_begins a s (kinds.Reserved word.Decrypt)
    (msg_pieces 1 m
    (a_reserved word.Is
    (a_mark mark.BraceOpen
    (named_pieces w b
    (a_mark mark.BraceClose (msg_pieces 1 n (a_mark mark.Semicolon (proc_pieces (below a) p (ends s r)))))))))
proc_pieces a (t.check s m n p) r =
    proc_begins a s (kinds.Reserved word.Check)
    (msg_pieces 1 m
    (a_reserved word.Is (msg_pieces 1 n (a_mark mark.Semicolon (proc_pieces (below a) p (ends s r))))))
proc_pieces a (t.begin s m p) r =
    proc_begins a s (kinds.Reserved word.Begin)
    (msg_pieces 1 m (a_mark mark.Semicolon (proc_pieces (below a) p (ends s r))))
proc_pieces a (t.end s m p) r =
    proc_begins a s (kinds.Reserved word.End)
    (msg_pieces 1 m (a_mark mark.Semicolon (proc_pieces (below a) p (ends s r))))
proc_pieces a (t.end_many s m p) r =
    proc_begins a s (kinds.Reserved word.EndMany)
    (msg_pieces 1 m (a_mark mark.Semicolon (proc_pieces (below a) p (ends s r))))
proc_pieces a (t.cast s m w b p) r =
    proc_begins a s (kinds.Reserved word.Cast)
    (msg_pieces 1 m (a_reserved word.Is (binder_pieces w b (proc_pieces (below a) p (ends s r)))))
proc_pieces a (t.new s w b p) r =
    proc_begins a s (kinds.Reserved word.New) (binder_pieces w b (proc_pieces (below a) p (ends s r)))
proc_pieces a (t.stop s) r = proc_begins a s (kinds.Reserved word.Stop) (ends s r)
proc_pieces a (t.group s p q) r =
    proc_begins a s (kinds.Mark mark.ParenOpen)
    (proc_pieces (below a) p (a_mark mark.Bar
    (proc_pieces (beside_place a) q (a_mark mark.ParenClose (ends s r)))))

abbrev pub words_pieces : List SWord → List Piece → List Piece
words_pieces [] r = r
words_pieces (w ∷ ws) r = a_mark mark.Comma (a_word false w (words_pieces ws r))

abbrev pub decl_pieces : t.Declared → List Piece → List Piece
decl_pieces (t.free s w ws) r =
    begins s (kinds.Reserved word.Free) false
    (a_word false w (words_pieces ws (a_mark mark.Semicolon (ends s r))))
decl_pieces (t.abbreviated s w a) r =
    begins s (kinds.Reserved word.TypeWord) false
    (a_word false w (a_mark mark.Equals (ty_pieces 1 a (a_mark mark.Semicolon (ends s r)))))

abbrev pub decls_pieces : List t.Declared → List Piece → List Piece
decls_pieces [] r = r
decls_pieces (d ∷ ds) r = decl_pieces d (decls_pieces ds r)

abbrev pub step_pieces : t.Step → List Piece → List Piece
step_pieces (t.act s i) r =
    begins s (kinds.Word (codes "act")) false (a_number i (a_mark mark.Semicolon (ends s r)))
step_pieces (t.talk s i j) r =
    begins s (kinds.Word (codes "talk")) false (a_number i (a_number j (a_mark mark.Semicolon (ends s r))))

abbrev pub steps_pieces : List t.Step → List Piece → List Piece
steps_pieces [] r = r
steps_pieces (x ∷ xs) r = step_pieces x (steps_pieces xs r)

-- the effect that a rule writes, whose atoms have no nesting
abbrev pub written_pieces : Option (List t.Atom) → List Piece → List Piece
written_pieces None r = r
written_pieces (Some es) r = effect_pieces 0 es r

abbrev mutual
  pub deriv_pieces : ℕ → t.Deriv → List Piece → List Piece
  deriv_pieces n (t.rule s w es ds) r =
      opens s.from ∷ a_word (nat_lt derivation_limit n) w
      (written_pieces es (derivs_pieces (n + 1) ds (ends s r)))

  pub derivs_pieces : ℕ → t.Derivs → List Piece → List Piece
  derivs_pieces n t.no_derivs r = r
  derivs_pieces n (t.more_derivs d ds) r = deriv_pieces n d (derivs_pieces n ds r)

-- the parts of a file, each present or absent
abbrev pub version_pieces : ℕ → List Piece → List Piece
version_pieces v r =
    if v == 2 then a_token (kinds.Word (codes "version")) (a_number 2 (a_mark mark.Semicolon r)) else r

abbrev pub opponent_pieces : Option t.Proc → List Piece → List Piece
opponent_pieces None r = r
opponent_pieces (Some p) r = a_reserved word.Opponent (proc_pieces (at_level 0) p r)

abbrev pub schedule_pieces : Option (List t.Step) → List Piece → List Piece
schedule_pieces None r = r
schedule_pieces (Some xs) r = a_reserved word.Schedule (steps_pieces xs r)

abbrev pub derivation_pieces : Option t.Deriv → List Piece → List Piece
derivation_pieces None r = r
derivation_pieces (Some d) r = a_reserved word.Derivation (deriv_pieces 1 d r)

abbrev pub file_pieces : t.File → List Piece → List Piece
file_pieces f r =
    opens f.span.from
    ∷ version_pieces f.version
    (decls_pieces f.decls
    (a_reserved word.Process
    (proc_pieces (at_level 0) f.process
    (opponent_pieces f.opponent
    (schedule_pieces f.schedule (derivation_pieces f.derivation (ends f.span r)))))))

-- the tokens among the pieces, and which of them start a node above a limit
abbrev pub cells : List Piece → List (Kind × Bool)
cells [] = []
cells (opens from ∷ ps) = cells ps
cells (cell k deep ∷ ps) = (k, deep) ∷ cells ps
cells (closes to ∷ ps) = cells ps

abbrev pub kinds_in : List Piece → List Kind
kinds_in [] = []
kinds_in (opens from ∷ ps) = kinds_in ps
kinds_in (cell k deep ∷ ps) = k ∷ kinds_in ps
kinds_in (closes to ∷ ps) = kinds_in ps

-- the tokens of a file
abbrev pub tokens_of : t.File → List Kind
tokens_of f = kinds_in (file_pieces f [])
