-- Which trees are formed, with the rules of their derivations, and which parts of trees are.
use Rattle.std.specs.Prelude.{◌≡◌, ℕ, suc, Bool, true, false, List, [], Option, Some, None, IfSome}
use Rattle.spi_tree.specs.Trees as t
use Rattle.spi_tree.specs.Pieces.{Piece, at_level, kinds_in, msg_pieces, ty_pieces, decl_pieces, proc_pieces, file_pieces}
use Rattle.spi_tree.specs.Formed.{AreWordsFit, IsMsg, IsTy, IsDeclared, IsProc, IsFormed, is_later}
use Rattle.spi_parse.specs.Rules.{arity_of, writes_effect}

abbrev pub count_derivs : t.Derivs → ℕ
count_derivs t.no_derivs = 0
count_derivs (t.more_derivs d ds) = suc (count_derivs ds)

abbrev pub is_written : Option (List t.Atom) → Bool
is_written None = false
is_written (Some es) = true

-- each rule is one of the version, has its arity, and writes an effect where it is `ProcSub` and nowhere else
abbrev mutual
  pub HasRules : Bool → t.Deriv → Type 0
  HasRules later (t.rule s w es ds) = (arity_of later w.word ≡ Some (count_derivs ds))
      × (writes_effect w.word ≡ is_written es) × HaveRules later ds

  pub HaveRules : Bool → t.Derivs → Type 0
  HaveRules later t.no_derivs = Unit {0}
  HaveRules later (t.more_derivs d ds) = HasRules later d × HaveRules later ds

abbrev pub IsFormedDerived : Bool → Option t.Deriv → Type 0
IsFormedDerived later o = IfSome o (HasRules later)

-- a formed file
pub record IsFile (f : t.File) : Type 0 where
  pub formed : IsFormed f
  pub rules : IsFormedDerived (is_later f) f.derivation

abbrev pub whole_file : t.File → List Piece
whole_file f = file_pieces f []

-- the parts that stand alone, each outermost: their pieces, and which are formed
abbrev pub whole_decl : t.Declared → List Piece
whole_decl d = decl_pieces d []

abbrev pub whole_type : t.Ty → List Piece
whole_type a = ty_pieces 1 a []

abbrev pub whole_message : t.Msg → List Piece
whole_message m = msg_pieces 1 m []

abbrev pub whole_process : t.Proc → List Piece
whole_process p = proc_pieces (at_level 0) p []

abbrev pub IsWholeDecl : Bool → t.Declared → Type 0
IsWholeDecl later d = IsDeclared later d × AreWordsFit later (kinds_in (whole_decl d))

abbrev pub IsWholeType : Bool → t.Ty → Type 0
IsWholeType later a = IsTy later a × AreWordsFit later (kinds_in (whole_type a))

abbrev pub IsWholeMessage : Bool → t.Msg → Type 0
IsWholeMessage later m = IsMsg later false m × AreWordsFit later (kinds_in (whole_message m))

abbrev pub IsWholeProcess : Bool → t.Proc → Type 0
IsWholeProcess later p = IsProc later (at_level 0) p × AreWordsFit later (kinds_in (whole_process p))
