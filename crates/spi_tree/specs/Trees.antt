-- Trees without where they lie in memory: a kind of tree for each place of the grammar, and a constructor for each
-- alternative, with its parts in their order. A tree can't hold lists of itself, so each such list is data of its own.
use Rattle.std.specs.Prelude.{ℕ, List, [], ◌∷◌, Option}
use Rattle.spi_text.specs.declared.lines.Span.{Span}
use Rattle.spi_tree.specs.declared.tree.SWord.{SWord}

mutual
  pub data Msg : Type 0 where
    name : Span → SWord → Msg
    unit : Span → Msg
    tuple : Span → Msg → Msg → Msgs → Msg
    inl : Span → Msg → Msg
    inr : Span → Msg → Msg
    enc : Span → Msg → Msg → Msg
    hash : Span → Msg → Msg
    num : Span → ℕ → Msg

  pub data Msgs : Type 0 where
    no_msgs : Msgs
    more_msgs : Msg → Msgs → Msgs

pub data Atom : Type 0 where
  ends : Span → Msg → Atom
  checks : Span → Msg → Atom
  many : Span → Msg → Atom

mutual
  pub data Ty : Type 0 where
    un : Span → Ty
    unit_ty : Span → Ty
    tuple_ty : Span → SWord → Ty → Fields → Last → Ty
    sum : Span → Ty → Ty → Ty
    key : Span → Ty → Ty
    nonce : Span → List Atom → Ty
    abbr : Span → SWord → Ty

  pub data Fields : Type 0 where
    no_fields : Fields
    more_fields : SWord → Ty → Fields → Fields

  pub data Last : Type 0 where
    bare : Ty → Last
    named : SWord → Ty → Last

pub data Proc : Type 0 where
  par : Span → Proc → Proc → Proc
  out : Span → Msg → Msg → Proc
  out_then : Span → Msg → Msg → Proc → Proc
  inp : Span → Msg → SWord → Ty → Proc → Proc
  repeat : Span → Msg → SWord → Ty → Proc → Proc
  split : Span → Msg → SWord → Ty → SWord → Ty → Proc → Proc
  match : Span → Msg → SWord → Ty → Msg → SWord → Ty → Proc → Proc
  case : Span → Msg → SWord → Ty → Proc → SWord → Ty → Proc → Proc
  decrypt : Span → Msg → SWord → Ty → Msg → Proc → Proc
  check : Span → Msg → Msg → Proc → Proc
  begin : Span → Msg → Proc → Proc
  end : Span → Msg → Proc → Proc
  end_many : Span → Msg → Proc → Proc
  cast : Span → Msg → SWord → Ty → Proc → Proc
  new : Span → SWord → Ty → Proc → Proc
  stop : Span → Proc
  group : Span → Proc → Proc → Proc

pub data Declared : Type 0 where
  free : Span → SWord → List SWord → Declared
  abbreviated : Span → SWord → Ty → Declared

pub data Step : Type 0 where
  act : Span → ℕ → Step
  talk : Span → ℕ → ℕ → Step

mutual
  pub data Deriv : Type 0 where
    rule : Span → SWord → Option (List Atom) → Derivs → Deriv

  pub data Derivs : Type 0 where
    no_derivs : Derivs
    more_derivs : Deriv → Derivs → Derivs

pub record File : Type 0 where
  pub span : Span
  pub version : ℕ
  pub decls : List Declared
  pub process : Proc
  pub opponent : Option Proc
  pub schedule : Option (List Step)
  pub derivation : Option Deriv

abbrev pub msgs_of_list : List Msg → Msgs
msgs_of_list [] = no_msgs
msgs_of_list (m ∷ ms) = more_msgs m (msgs_of_list ms)

pub record Field : Type 0 where
  pub name : SWord
  pub ty : Ty

abbrev pub fields_of_list : List Field → Fields
fields_of_list [] = no_fields
fields_of_list (f ∷ fs) = more_fields f.name f.ty (fields_of_list fs)

abbrev pub derivs_of_list : List Deriv → Derivs
derivs_of_list [] = no_derivs
derivs_of_list (d ∷ ds) = more_derivs d (derivs_of_list ds)

-- the span of what stands in no file
abbrev pub nowhere : Span
nowhere = record { from = 0; to = 0 }
