-- Trees up to spans: each span is put at one place.
use Rattle.std.specs.Prelude.{List, map, Option}
use Rattle.std.specs.Option.{option_map}
use Rattle.spi_tree.specs.declared.tree.SWord.{SWord}
use Rattle.spi_tree.specs.Trees as t
use Rattle.spi_tree.specs.Trees.{nowhere}

abbrev pub bare_word : SWord → SWord
bare_word w = record { word = w.word; span = nowhere }

abbrev mutual
  pub bare_msg : t.Msg → t.Msg
  bare_msg (t.name s w) = t.name nowhere (bare_word w)
  bare_msg (t.unit s) = t.unit nowhere
  bare_msg (t.tuple s a b ms) = t.tuple nowhere (bare_msg a) (bare_msg b) (bare_msgs ms)
  bare_msg (t.inl s a) = t.inl nowhere (bare_msg a)
  bare_msg (t.inr s a) = t.inr nowhere (bare_msg a)
  bare_msg (t.enc s a b) = t.enc nowhere (bare_msg a) (bare_msg b)
  bare_msg (t.hash s a) = t.hash nowhere (bare_msg a)
  bare_msg (t.num s i) = t.num nowhere i

  pub bare_msgs : t.Msgs → t.Msgs
  bare_msgs t.no_msgs = t.no_msgs
  bare_msgs (t.more_msgs m ms) = t.more_msgs (bare_msg m) (bare_msgs ms)

abbrev pub bare_atom : t.Atom → t.Atom
bare_atom (t.ends s m) = t.ends nowhere (bare_msg m)
bare_atom (t.checks s m) = t.checks nowhere (bare_msg m)
bare_atom (t.many s m) = t.many nowhere (bare_msg m)

abbrev mutual
  pub bare_ty : t.Ty → t.Ty
  bare_ty (t.un s) = t.un nowhere
  bare_ty (t.unit_ty s) = t.unit_ty nowhere
  bare_ty (t.tuple_ty s w a fs l) =
      t.tuple_ty nowhere (bare_word w) (bare_ty a) (bare_fields fs) (bare_last l)
  bare_ty (t.sum s a b) = t.sum nowhere (bare_ty a) (bare_ty b)
  bare_ty (t.key s a) = t.key nowhere (bare_ty a)
  bare_ty (t.nonce s es) = t.nonce nowhere (map bare_atom es)
  bare_ty (t.abbr s w) = t.abbr nowhere (bare_word w)

  pub bare_fields : t.Fields → t.Fields
  bare_fields t.no_fields = t.no_fields
  bare_fields (t.more_fields w a fs) = t.more_fields (bare_word w) (bare_ty a) (bare_fields fs)

  pub bare_last : t.Last → t.Last
  bare_last (t.bare a) = t.bare (bare_ty a)
  bare_last (t.named w a) = t.named (bare_word w) (bare_ty a)

abbrev pub bare_proc : t.Proc → t.Proc
bare_proc (t.par s p q) = t.par nowhere (bare_proc p) (bare_proc q)
bare_proc (t.out s m n) = t.out nowhere (bare_msg m) (bare_msg n)
bare_proc (t.out_then s m n p) = t.out_then nowhere (bare_msg m) (bare_msg n) (bare_proc p)
bare_proc (t.inp s m w b p) = t.inp nowhere (bare_msg m) (bare_word w) (bare_ty b) (bare_proc p)
bare_proc (t.repeat s m w b p) = t.repeat nowhere (bare_msg m) (bare_word w) (bare_ty b) (bare_proc p)
bare_proc (t.split s m w b x c p) =
    t.split nowhere (bare_msg m) (bare_word w) (bare_ty b) (bare_word x) (bare_ty c) (bare_proc p)
bare_proc (t.match s m w b n x c p) =
    t.match nowhere (bare_msg m) (bare_word w) (bare_ty b) (bare_msg n) (bare_word x) (bare_ty c)
    (bare_proc p)
bare_proc (t.case s m w b p x c q) =
    t.case nowhere (bare_msg m) (bare_word w) (bare_ty b) (bare_proc p) (bare_word x) (bare_ty c)
    (bare_proc q)
bare_proc (t.decrypt s m w b n p) =
    t.decrypt nowhere (bare_msg m) (bare_word w) (bare_ty b) (bare_msg n) (bare_proc p)
bare_proc (t.check s m n p) = t.check nowhere (bare_msg m) (bare_msg n) (bare_proc p)
bare_proc (t.begin s m p) = t.begin nowhere (bare_msg m) (bare_proc p)
bare_proc (t.end s m p) = t.end nowhere (bare_msg m) (bare_proc p)
bare_proc (t.end_many s m p) = t.end_many nowhere (bare_msg m) (bare_proc p)
bare_proc (t.cast s m w b p) = t.cast nowhere (bare_msg m) (bare_word w) (bare_ty b) (bare_proc p)
bare_proc (t.new s w b p) = t.new nowhere (bare_word w) (bare_ty b) (bare_proc p)
bare_proc (t.stop s) = t.stop nowhere
bare_proc (t.group s p q) = t.group nowhere (bare_proc p) (bare_proc q)

abbrev pub bare_decl : t.Declared → t.Declared
bare_decl (t.free s w ws) = t.free nowhere (bare_word w) (map bare_word ws)
bare_decl (t.abbreviated s w a) = t.abbreviated nowhere (bare_word w) (bare_ty a)

abbrev pub bare_step : t.Step → t.Step
bare_step (t.act s i) = t.act nowhere i
bare_step (t.talk s i j) = t.talk nowhere i j

abbrev pub bare_written : Option (List t.Atom) → Option (List t.Atom)
bare_written = option_map (map bare_atom)

abbrev mutual
  pub bare_deriv : t.Deriv → t.Deriv
  bare_deriv (t.rule s w es ds) = t.rule nowhere (bare_word w) (bare_written es) (bare_derivs ds)

  pub bare_derivs : t.Derivs → t.Derivs
  bare_derivs t.no_derivs = t.no_derivs
  bare_derivs (t.more_derivs d ds) = t.more_derivs (bare_deriv d) (bare_derivs ds)

abbrev pub bare_opponent : Option t.Proc → Option t.Proc
bare_opponent = option_map bare_proc

abbrev pub bare_schedule : Option (List t.Step) → Option (List t.Step)
bare_schedule = option_map (map bare_step)

abbrev pub bare_derivation : Option t.Deriv → Option t.Deriv
bare_derivation = option_map bare_deriv

abbrev pub bare_file : t.File → t.File
bare_file f = record {
  span = nowhere;
  version = f.version;
  decls = map bare_decl f.decls;
  process = bare_proc f.process;
  opponent = bare_opponent f.opponent;
  schedule = bare_schedule f.schedule;
  derivation = bare_derivation f.derivation;
}
