-- Which trees are formed. What a tree may hold depends on the version, and in the effects of a derivation messages have
-- numbers in the place of names.
use Rattle.std.specs.Prelude.{◌≡◌, ◌+◌, ◌==◌, Bool, true, false, List, [], ◌∷◌, Option, Some, None, ◌⊎◌}
use Rattle.std.specs.List.{AllByRecursion}
use Rattle.spi_lex.specs.declared.token.Kind.{Kind}
use Rattle.spi_lex.specs.declared.token.Kind.TheVariants as kinds
use Rattle.spi_lex.specs.Words.{words_of}
use Rattle.spi_lex.specs.Writing.{IsKind}
use Rattle.spi_tree.specs.Trees as t
use Rattle.spi_tree.specs.Pieces.{Place, in_seq, at_level, below, beside_place, tokens_of}

-- a token that is a Word has a spelling of at most 255 bytes that isn't reserved in the version
abbrev pub IsWordFit : Bool → Kind → Type 0
IsWordFit later (kinds.Word name) = IsKind (words_of later) (kinds.Word name)
IsWordFit later (kinds.Reserved word) = Unit {0}
IsWordFit later (kinds.Number value) = Unit {0}
IsWordFit later (kinds.Mark m) = Unit {0}

abbrev pub AreWordsFit : Bool → List Kind → Type 0
AreWordsFit later ks = AllByRecursion (IsWordFit later) ks

-- a message of version 2 or 1, with numbers in the place of names or not
abbrev mutual
  pub IsMsg : (later numbered : Bool) → t.Msg → Type 0
  IsMsg later numbered (t.name s w) = numbered ≡ false
  IsMsg later numbered (t.unit s) = Unit {0}
  IsMsg later numbered (t.tuple s a b ms) = IsMsg later numbered a × IsMsg later numbered b
      × AreMsgs later numbered ms
  IsMsg later numbered (t.inl s a) = IsMsg later numbered a
  IsMsg later numbered (t.inr s a) = IsMsg later numbered a
  IsMsg later numbered (t.enc s a b) = IsMsg later numbered a × IsMsg later numbered b
  IsMsg later numbered (t.hash s a) = (later ≡ true) × IsMsg later numbered a
  IsMsg later numbered (t.num s i) = numbered ≡ true

  pub AreMsgs : (later numbered : Bool) → t.Msgs → Type 0
  AreMsgs later numbered t.no_msgs = Unit {0}
  AreMsgs later numbered (t.more_msgs m ms) = IsMsg later numbered m × AreMsgs later numbered ms

abbrev pub IsAtom : (later numbered : Bool) → t.Atom → Type 0
IsAtom later numbered (t.ends s m) = IsMsg later numbered m
IsAtom later numbered (t.checks s m) = IsMsg later numbered m
IsAtom later numbered (t.many s m) = (later ≡ true) × IsMsg later numbered m

abbrev pub AreAtoms : (later numbered : Bool) → List t.Atom → Type 0
AreAtoms later numbered [] = Unit {0}
AreAtoms later numbered (e ∷ es) = IsAtom later numbered e × AreAtoms later numbered es

abbrev mutual
  pub IsTy : Bool → t.Ty → Type 0
  IsTy later (t.un s) = Unit {0}
  IsTy later (t.unit_ty s) = Unit {0}
  IsTy later (t.tuple_ty s w a fs l) = IsTy later a × AreFields later fs × IsLast later l
  IsTy later (t.sum s a b) = IsTy later a × IsTy later b
  IsTy later (t.key s a) = IsTy later a
  IsTy later (t.nonce s es) = AreAtoms later false es
  IsTy later (t.abbr s w) = Unit {0}

  pub AreFields : Bool → t.Fields → Type 0
  AreFields later t.no_fields = Unit {0}
  AreFields later (t.more_fields w a fs) = IsTy later a × AreFields later fs

  pub IsLast : Bool → t.Last → Type 0
  IsLast later (t.bare a) = IsTy later a
  IsLast later (t.named w a) = IsTy later a

-- a process at a place: no parallel composition stands in the place of a `Seq`
abbrev pub IsProc : Bool → Place → t.Proc → Type 0
IsProc later (in_seq n) (t.par s p q) = ⊥
IsProc later (at_level n) (t.par s p q) = IsProc later (in_seq (n + 1)) p × IsProc later (at_level (n + 1)) q
IsProc later a (t.out s m n) = IsMsg later false m × IsMsg later false n
IsProc later a (t.out_then s m n p) = IsMsg later false m × IsMsg later false n × IsProc later (below a) p
IsProc later a (t.inp s m w b p) = IsMsg later false m × IsTy later b × IsProc later (below a) p
IsProc later a (t.repeat s m w b p) = IsMsg later false m × IsTy later b × IsProc later (below a) p
IsProc later a (t.split s m w b x c p) = IsMsg later false m × IsTy later b × IsTy later c
    × IsProc later (below a) p
IsProc later a (t.match s m w b n x c p) = IsMsg later false m × IsTy later b × IsMsg later false n
    × IsTy later c × IsProc later (below a) p
IsProc later a (t.case s m w b p x c q) = IsMsg later false m × IsTy later b × IsProc later (below a) p
    × IsTy later c × IsProc later (below a) q
IsProc later a (t.decrypt s m w b n p) = IsMsg later false m × IsTy later b × IsMsg later false n
    × IsProc later (below a) p
IsProc later a (t.check s m n p) = IsMsg later false m × IsMsg later false n × IsProc later (below a) p
IsProc later a (t.begin s m p) = IsMsg later false m × IsProc later (below a) p
IsProc later a (t.end s m p) = IsMsg later false m × IsProc later (below a) p
IsProc later a (t.end_many s m p) = (later ≡ true) × IsMsg later false m × IsProc later (below a) p
IsProc later a (t.cast s m w b p) = IsMsg later false m × IsTy later b × IsProc later (below a) p
IsProc later a (t.new s w b p) = IsTy later b × IsProc later (below a) p
IsProc later a (t.stop s) = Unit {0}
IsProc later a (t.group s p q) = IsProc later (below a) p × IsProc later (beside_place a) q

abbrev pub IsDeclared : Bool → t.Declared → Type 0
IsDeclared later (t.free s w ws) = Unit {0}
IsDeclared later (t.abbreviated s w a) = IsTy later a

abbrev pub AreDeclared : Bool → List t.Declared → Type 0
AreDeclared later [] = Unit {0}
AreDeclared later (d ∷ ds) = IsDeclared later d × AreDeclared later ds

abbrev pub IsWritten : Bool → Option (List t.Atom) → Type 0
IsWritten later None = Unit {0}
IsWritten later (Some es) = AreAtoms later true es

abbrev mutual
  pub IsDeriv : Bool → t.Deriv → Type 0
  IsDeriv later (t.rule s w es ds) = IsWritten later es × AreDerivs later ds

  pub AreDerivs : Bool → t.Derivs → Type 0
  AreDerivs later t.no_derivs = Unit {0}
  AreDerivs later (t.more_derivs d ds) = IsDeriv later d × AreDerivs later ds

abbrev pub IsFormedOpponent : Bool → Option t.Proc → Type 0
IsFormedOpponent later None = Unit {0}
IsFormedOpponent later (Some p) = IsProc later (at_level 0) p

abbrev pub IsDerivation : Bool → Option t.Deriv → Type 0
IsDerivation later None = Unit {0}
IsDerivation later (Some d) = IsDeriv later d

abbrev pub is_later : t.File → Bool
is_later f = f.version == 2

-- a formed file, but for its rules, of which the crates that know the rules speak
pub record IsFormed (f : t.File) : Type 0 where
  pub version : (f.version ≡ 1) ⊎ (f.version ≡ 2)
  pub decls : AreDeclared (is_later f) f.decls
  pub process : IsProc (is_later f) (at_level 0) f.process
  pub opponent : IsFormedOpponent (is_later f) f.opponent
  pub derivation : IsDerivation (is_later f) f.derivation
  pub words : AreWordsFit (is_later f) (tokens_of f)
