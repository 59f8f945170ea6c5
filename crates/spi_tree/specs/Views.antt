-- What a declared tree is as a tree without places in memory.
use Rattle.std.specs.Prelude.{ℕ, ◌-◌, List, length, map, Option, Some, None}
use Rattle.std.specs.Global.{Vec}
use denote.Ref.{Bor}
use Rattle.spi_text.specs.declared.lines.Span.{Span}
use Rattle.spi_tree.specs.declared.tree.SWord.{SWord}
use Rattle.spi_tree.specs.declared.tree.SMsg.{SMsg, Row_of-SMsg, end_of-SMsg, more_of-SMsg}
use Rattle.spi_tree.specs.declared.tree.SMsg.TheVariants as smsg
use Rattle.spi_tree.specs.declared.tree.SAtom.{SAtom}
use Rattle.spi_tree.specs.declared.tree.SAtom.TheVariants as satom
use Rattle.spi_tree.specs.declared.tree.SEffect.{SEffect}
use Rattle.spi_tree.specs.declared.tree.STy.{STy}
use Rattle.spi_tree.specs.declared.tree.TyParts.{TyParts, TyParts', Row_of-SField, end_of-SField, more_of-SField}
use Rattle.spi_tree.specs.declared.tree.STy.TheVariants as sty
use Rattle.spi_tree.specs.declared.tree.SField.{SField}
use Rattle.spi_tree.specs.declared.tree.Last.{Last}
use Rattle.spi_tree.specs.declared.tree.Last.TheVariants as slast
use Rattle.spi_tree.specs.declared.tree.SProc.{SProc}
use Rattle.spi_tree.specs.declared.tree.SProc.TheVariants as sproc
use Rattle.spi_tree.specs.declared.tree.Decl.{Decl}
use Rattle.spi_tree.specs.declared.tree.Decl.TheVariants as sdecl
use Rattle.spi_tree.specs.declared.tree.SStep.{SStep}
use Rattle.spi_tree.specs.declared.tree.SStep.TheVariants as sstep
use Rattle.spi_tree.specs.declared.tree.SDeriv.{SDeriv, SDeriv', Row_of-SDeriv, end_of-SDeriv, more_of-SDeriv}
use Rattle.spi_tree.specs.declared.tree.Tree.{Tree}
use Rattle.spi_tree.specs.Trees as t

-- a word that ends at this offset, with as many bytes before it as it has
abbrev pub word_to : ℕ → List ℕ → SWord
word_to to word = record { word = word; span = record { from = to - length word; to = to } }

abbrev mutual
  pub msg_of : SMsg → t.Msg
  msg_of (smsg.Name to w) = t.name (word_to to w).span (word_to to w)
  msg_of (smsg.Placed w) = t.name w.now.span w.now
  msg_of (smsg.Unit s) = t.unit s
  msg_of (smsg.Tuple' p a b q shape row s) = t.tuple s (msg_of a) (msg_of b) (msgs_of_row row)
  msg_of (smsg.Inl' p a s) = t.inl s (msg_of a)
  msg_of (smsg.Inr' p a s) = t.inr s (msg_of a)
  msg_of (smsg.Enc' p a b s) = t.enc s (msg_of a) (msg_of b)
  msg_of (smsg.Hash' p a s) = t.hash s (msg_of a)
  msg_of (smsg.Num n s) = t.num s n

  pub msgs_of_row : {n : _} → Row_of-SMsg n → t.Msgs
  msgs_of_row end_of-SMsg = t.no_msgs
  msgs_of_row (more_of-SMsg m rest) = t.more_msgs (msg_of m) (msgs_of_row rest)

abbrev pub atom_of : SAtom → t.Atom
atom_of (satom.End m s) = t.ends s (msg_of m)
atom_of (satom.Check m s) = t.checks s (msg_of m)
atom_of (satom.Many m s) = t.many s (msg_of m)

abbrev mutual
  pub ty_of : STy → t.Ty
  ty_of (sty.Un s) = t.un s
  ty_of (sty.Unit s) = t.unit_ty s
  ty_of (sty.Tuple' p parts s) = tuple_of s parts
  ty_of (sty.Sum' p a b s) = t.sum s (ty_of a) (ty_of b)
  ty_of (sty.Key' p a s) = t.key s (ty_of a)
  ty_of (sty.Nonce es s) = t.nonce s (map atom_of es.now.atoms.now)
  ty_of (sty.Abbr to w) = t.abbr (word_to to w).span (word_to to w)
  ty_of (sty.Placed w) = t.abbr w.now.span w.now

  pub tuple_of : Span → TyParts → t.Ty
  tuple_of s (TyParts' w a p shape more last) = t.tuple_ty s w (ty_of a) (fields_of_row more) (last_of last)

  pub fields_of_row : {n : _} → Row_of-SField n → t.Fields
  fields_of_row end_of-SField = t.no_fields
  fields_of_row (more_of-SField w a rest) = t.more_fields w (ty_of a) (fields_of_row rest)

  pub last_of : Last → t.Last
  last_of (slast.Bare a) = t.bare (ty_of a)
  last_of (slast.Named w a) = t.named w.now (ty_of a)

abbrev pub field_of : SField → t.Field
field_of f = record { name = f.name; ty = ty_of f.ty }

abbrev pub proc_of : SProc → t.Proc
proc_of (sproc.Par' p a b s) = t.par s (proc_of a) (proc_of b)
proc_of (sproc.Out p s) = t.out s (msg_of p.value.channel) (msg_of p.value.datum)
proc_of (sproc.OutThen' p m n a s) = t.out_then s (msg_of m) (msg_of n) (proc_of a)
proc_of (sproc.Inp' p m x a b s) = t.inp s (msg_of m) x (ty_of a) (proc_of b)
proc_of (sproc.Repeat' p m x a b s) = t.repeat s (msg_of m) x (ty_of a) (proc_of b)
proc_of (sproc.Split' p m x a y b q s) = t.split s (msg_of m) x (ty_of a) y (ty_of b) (proc_of q)
proc_of (sproc.Match' p m x a n y b q s) = t.match s (msg_of m) x (ty_of a) (msg_of n) y (ty_of b) (proc_of q)
proc_of (sproc.Case' p m x a b y c d s) =
    t.case s (msg_of m) x (ty_of a) (proc_of b) y (ty_of c) (proc_of d)
proc_of (sproc.Decrypt' p m x a n b s) = t.decrypt s (msg_of m) x (ty_of a) (msg_of n) (proc_of b)
proc_of (sproc.Check' p m n a s) = t.check s (msg_of m) (msg_of n) (proc_of a)
proc_of (sproc.Begin' p m a s) = t.begin s (msg_of m) (proc_of a)
proc_of (sproc.End' p m a s) = t.end s (msg_of m) (proc_of a)
proc_of (sproc.EndMany' p m a s) = t.end_many s (msg_of m) (proc_of a)
proc_of (sproc.Cast' p m x a b s) = t.cast s (msg_of m) x (ty_of a) (proc_of b)
proc_of (sproc.New' p x a b s) = t.new s x (ty_of a) (proc_of b)
proc_of (sproc.Stop s) = t.stop s
proc_of (sproc.Group' p a b s) = t.group s (proc_of a) (proc_of b)

abbrev pub decl_of : Decl → t.Declared
decl_of (sdecl.Free w ws s) = t.free s w ws.items
decl_of (sdecl.Abbr w a s) = t.abbreviated s w (ty_of a)

abbrev pub step_of : SStep → t.Step
step_of (sstep.Act i s) = t.act s i
step_of (sstep.Talk i j s) = t.talk s i j

abbrev pub tree_effect : Option (Bor SEffect) → Option (List t.Atom)
tree_effect None = None
tree_effect (Some es) = Some (map atom_of es.now.atoms.now)

abbrev mutual
  pub deriv_of : SDeriv → t.Deriv
  deriv_of (SDeriv' w es shape ds s) = t.rule s w (tree_effect es) (derivs_of_row ds)

  pub derivs_of_row : {n : _} → Row_of-SDeriv n → t.Derivs
  derivs_of_row end_of-SDeriv = t.no_derivs
  derivs_of_row (more_of-SDeriv d rest) = t.more_derivs (deriv_of d) (derivs_of_row rest)

abbrev pub opponent_of : Option SProc → Option t.Proc
opponent_of None = None
opponent_of (Some p) = Some (proc_of p)

abbrev pub schedule_of : Option (Vec SStep) → Option (List t.Step)
schedule_of None = None
schedule_of (Some steps) = Some (map step_of steps.items)

abbrev pub derivation_of : Option SDeriv → Option t.Deriv
derivation_of None = None
derivation_of (Some d) = Some (deriv_of d)

abbrev pub file_of : Tree → t.File
file_of f = record {
  span = f.span;
  version = f.version;
  decls = map decl_of f.decls.items;
  process = proc_of f.process;
  opponent = opponent_of f.opponent;
  schedule = schedule_of f.schedule;
  derivation = derivation_of f.derivation;
}
