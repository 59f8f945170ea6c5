-- The spans that tokens give a tree: a tree of the same form is filled with them from left to right.
use Rattle.std.specs.Prelude.{ℕ, ◌==◌, List, [], ◌∷◌, Option, Some, None, if◌then◌else◌}
use Rattle.spi_text.specs.declared.lines.Span.{Span}
use Rattle.spi_lex.specs.declared.token.Token.{Token}
use Rattle.spi_tree.specs.declared.tree.SWord.{SWord}
use Rattle.spi_tree.specs.Trees as t

-- the tokens that are left, and where the token before them ends
pub record FilledRest : Type 0 where
  pub end : ℕ
  pub tokens : List Token

unfoldable pub starts : FilledRest → ℕ
starts a = elim (a.tokens) [ [] ↦ 0 | t ∷ ts ↦ t.span.from ]

unfoldable pub past : FilledRest → FilledRest
past a = elim (a.tokens) [ [] ↦ a | t ∷ ts ↦ record { end = t.span.to; tokens = ts } ]

abbrev pub between : FilledRest → FilledRest → Span
between a b = record { from = starts a; to = b.end }

unfoldable pub fill_word : SWord → FilledRest → SWord
fill_word w a = record { word = w.word; span = between a (past a) }

-- what is left behind a tree of each kind
abbrev mutual
  pub after_msg : t.Msg → FilledRest → FilledRest
  after_msg (t.name s w) a = past a
  after_msg (t.unit s) a = past (past a)
  after_msg (t.tuple s x y xs) a = past (after_msgs xs (after_msg y (past (after_msg x (past a)))))
  after_msg (t.inl s x) a = after_msg x (past a)
  after_msg (t.inr s x) a = after_msg x (past a)
  after_msg (t.enc s x y) a = after_msg y (past (after_msg x (past a)))
  after_msg (t.hash s x) a = past (after_msg x (past (past a)))
  after_msg (t.num s i) a = past (past a)

  pub after_msgs : t.Msgs → FilledRest → FilledRest
  after_msgs t.no_msgs a = a
  after_msgs (t.more_msgs x xs) a = after_msgs xs (after_msg x (past a))

abbrev pub after_atom : t.Atom → FilledRest → FilledRest
after_atom (t.ends s x) a = after_msg x (past a)
after_atom (t.checks s x) a = after_msg x (past a)
after_atom (t.many s x) a = after_msg x (past a)

abbrev pub after_atoms : List t.Atom → FilledRest → FilledRest
after_atoms [] a = a
after_atoms (e ∷ es) a = after_atoms es (after_atom e (past a))

abbrev pub after_effect : List t.Atom → FilledRest → FilledRest
after_effect [] a = past (past a)
after_effect (e ∷ es) a = past (after_atoms es (after_atom e (past a)))

abbrev mutual
  pub after_ty : t.Ty → FilledRest → FilledRest
  after_ty (t.un s) a = past a
  after_ty (t.unit_ty s) a = past (past a)
  after_ty (t.tuple_ty s w x fs l) a = past (after_last l (after_fields fs (past (after_ty x (past (past (past a)))))))
  after_ty (t.sum s x y) a = past (after_ty y (past (after_ty x (past a))))
  after_ty (t.key s x) a = past (after_ty x (past (past a)))
  after_ty (t.nonce s es) a = after_effect es (past a)
  after_ty (t.abbr s w) a = past a

  pub after_fields : t.Fields → FilledRest → FilledRest
  after_fields t.no_fields a = a
  after_fields (t.more_fields w x fs) a = after_fields fs (past (after_ty x (past (past a))))

  pub after_last : t.Last → FilledRest → FilledRest
  after_last (t.bare x) a = after_ty x a
  after_last (t.named w x) a = after_ty x (past (past a))

abbrev pub after_proc : t.Proc → FilledRest → FilledRest
after_proc (t.par s p q) a = after_proc q (past (after_proc p a))
after_proc (t.out s m n) a = after_msg n (after_msg m (past a))
after_proc (t.out_then s m n p) a = after_proc p (past (after_msg n (after_msg m (past a))))
after_proc (t.inp s m w b p) a = after_proc p (past (past (after_ty b (past (past (past (after_msg m (past a))))))))
after_proc (t.repeat s m w b p) a = after_proc p (past (past (after_ty b (past (past (past (after_msg m (past (past a)))))))))
after_proc (t.split s m w b x c p) a = after_proc p (past (past (after_ty c (past (past (past (after_ty b (past (past (past (past (after_msg m (past a)))))))))))))
after_proc (t.match s m w b n x c p) a = after_proc p (past (past (after_ty c (past (past (past (after_msg n (past (after_ty b (past (past (past (past (after_msg m (past a)))))))))))))))
after_proc (t.case s m w b p x c q) a = after_proc q (past (past (after_ty c (past (past (past (past (past (after_proc p (past (past (after_ty b (past (past (past (past (past (after_msg m (past a)))))))))))))))))))
after_proc (t.decrypt s m w b n p) a = after_proc p (past (after_msg n (past (after_ty b (past (past (past (past (after_msg m (past a))))))))))
after_proc (t.check s m n p) a = after_proc p (past (after_msg n (past (after_msg m (past a)))))
after_proc (t.begin s m p) a = after_proc p (past (after_msg m (past a)))
after_proc (t.end s m p) a = after_proc p (past (after_msg m (past a)))
after_proc (t.end_many s m p) a = after_proc p (past (after_msg m (past a)))
after_proc (t.cast s m w b p) a = after_proc p (past (past (after_ty b (past (past (past (past (after_msg m (past a)))))))))
after_proc (t.new s w b p) a = after_proc p (past (past (after_ty b (past (past (past (past a)))))))
after_proc (t.stop s) a = past a
after_proc (t.group s p q) a = past (after_proc q (past (after_proc p (past a))))

abbrev pub after_words : List SWord → FilledRest → FilledRest
after_words [] a = a
after_words (w ∷ ws) a = after_words ws (past (past a))

abbrev pub after_decl : t.Declared → FilledRest → FilledRest
after_decl (t.free s w ws) a = past (after_words ws (past (past a)))
after_decl (t.abbreviated s w x) a = past (after_ty x (past (past (past a))))

abbrev pub after_decls : List t.Declared → FilledRest → FilledRest
after_decls [] a = a
after_decls (d ∷ ds) a = after_decls ds (after_decl d a)

abbrev pub after_step : t.Step → FilledRest → FilledRest
after_step (t.act s i) a = past (past (past a))
after_step (t.talk s i j) a = past (past (past (past a)))

abbrev pub after_steps : List t.Step → FilledRest → FilledRest
after_steps [] a = a
after_steps (x ∷ xs) a = after_steps xs (after_step x a)

abbrev pub after_written : Option (List t.Atom) → FilledRest → FilledRest
after_written None a = a
after_written (Some es) a = after_effect es a

abbrev mutual
  pub after_deriv : t.Deriv → FilledRest → FilledRest
  after_deriv (t.rule s w es ds) a = after_derivs ds (after_written es (past a))

  pub after_derivs : t.Derivs → FilledRest → FilledRest
  after_derivs t.no_derivs a = a
  after_derivs (t.more_derivs d ds) a = after_derivs ds (after_deriv d a)

abbrev pub after_opponent : Option t.Proc → FilledRest → FilledRest
after_opponent None a = a
after_opponent (Some p) a = after_proc p (past a)

abbrev pub after_schedule : Option (List t.Step) → FilledRest → FilledRest
after_schedule None a = a
after_schedule (Some xs) a = after_steps xs (past a)

abbrev pub after_derivation : Option t.Deriv → FilledRest → FilledRest
after_derivation None a = a
after_derivation (Some d) a = after_deriv d (past a)

abbrev pub after_version : ℕ → FilledRest → FilledRest
after_version v a = if v == 2 then past (past (past a)) else a

-- a tree of each kind, with the spans of the tokens that are left
abbrev mutual
  pub fill_msg : t.Msg → FilledRest → t.Msg
  fill_msg (t.name s w) a = let a1 = past a in t.name (between a a1) (fill_word w a)
  fill_msg (t.unit s) a =
      let a1 = past a in let a2 = past a1 in
      t.unit (between a a2)
  fill_msg (t.tuple s x y xs) a =
      let a1 = past a in let a2 = after_msg x a1 in let a3 = past a2 in let a4 = after_msg y a3 in let a5 = after_msgs xs a4 in let a6 = past a5 in
      t.tuple (between a a6) (fill_msg x a1) (fill_msg y a3) (fill_msgs xs a4)
  fill_msg (t.inl s x) a = t.inl (between a (after_msg x (past a))) (fill_msg x (past a))
  fill_msg (t.inr s x) a = t.inr (between a (after_msg x (past a))) (fill_msg x (past a))
  fill_msg (t.enc s x y) a =
      let a1 = past a in let a2 = after_msg x a1 in let a3 = past a2 in let a4 = after_msg y a3 in
      t.enc (between a a4) (fill_msg x a1) (fill_msg y a3)
  fill_msg (t.hash s x) a =
      let a1 = past a in let a2 = past a1 in let a3 = after_msg x a2 in let a4 = past a3 in
      t.hash (between a a4) (fill_msg x a2)
  fill_msg (t.num s i) a =
      let a1 = past a in let a2 = past a1 in
      t.num (between a a2) i

  pub fill_msgs : t.Msgs → FilledRest → t.Msgs
  fill_msgs t.no_msgs a = t.no_msgs
  fill_msgs (t.more_msgs x xs) a =
      let a1 = past a in let a2 = after_msg x a1 in
      t.more_msgs (fill_msg x a1) (fill_msgs xs a2)

abbrev pub fill_atom : t.Atom → FilledRest → t.Atom
fill_atom (t.ends s x) a = t.ends (between a (after_msg x (past a))) (fill_msg x (past a))
fill_atom (t.checks s x) a = t.checks (between a (after_msg x (past a))) (fill_msg x (past a))
fill_atom (t.many s x) a = t.many (between a (after_msg x (past a))) (fill_msg x (past a))

abbrev pub fill_atoms : List t.Atom → FilledRest → List t.Atom
fill_atoms [] a = []
fill_atoms (e ∷ es) a =
    let a1 = past a in let a2 = after_atom e a1 in
    (fill_atom e a1) ∷ (fill_atoms es a2)

abbrev pub fill_effect : List t.Atom → FilledRest → List t.Atom
fill_effect [] a = []
fill_effect (e ∷ es) a =
    let a1 = past a in let a2 = after_atom e a1 in
    (fill_atom e a1) ∷ (fill_atoms es a2)

abbrev mutual
  pub fill_ty : t.Ty → FilledRest → t.Ty
  fill_ty (t.un s) a = let a1 = past a in t.un (between a a1)
  fill_ty (t.unit_ty s) a =
      let a1 = past a in let a2 = past a1 in
      t.unit_ty (between a a2)
  fill_ty (t.tuple_ty s w x fs l) a =
      let a1 = past a in let a2 = past a1 in let a3 = past a2 in let a4 = after_ty x a3 in let a5 = past a4 in let a6 = after_fields fs a5 in let a7 = after_last l a6 in let a8 = past a7 in
      t.tuple_ty (between a a8) (fill_word w a1) (fill_ty x a3) (fill_fields fs a5) (fill_last l a6)
  fill_ty (t.sum s x y) a =
      let a1 = past a in let a2 = after_ty x a1 in let a3 = past a2 in let a4 = after_ty y a3 in let a5 = past a4 in
      t.sum (between a a5) (fill_ty x a1) (fill_ty y a3)
  fill_ty (t.key s x) a =
      let a1 = past a in let a2 = past a1 in let a3 = after_ty x a2 in let a4 = past a3 in
      t.key (between a a4) (fill_ty x a2)
  fill_ty (t.nonce s es) a =
      let a1 = past a in let a2 = after_effect es a1 in
      t.nonce (between a a2) (fill_effect es a1)
  fill_ty (t.abbr s w) a = let a1 = past a in t.abbr (between a a1) (fill_word w a)

  pub fill_fields : t.Fields → FilledRest → t.Fields
  fill_fields t.no_fields a = t.no_fields
  fill_fields (t.more_fields w x fs) a =
      let a1 = past a in let a2 = past a1 in let a3 = after_ty x a2 in let a4 = past a3 in
      t.more_fields (fill_word w a) (fill_ty x a2) (fill_fields fs a4)

  pub fill_last : t.Last → FilledRest → t.Last
  fill_last (t.bare x) a = t.bare (fill_ty x a)
  fill_last (t.named w x) a =
      let a1 = past a in let a2 = past a1 in
      t.named (fill_word w a) (fill_ty x a2)

abbrev pub fill_proc : t.Proc → FilledRest → t.Proc
fill_proc (t.par s p q) a =
    let a1 = after_proc p a in let a2 = past a1 in let a3 = after_proc q a2 in
    t.par (between a a3) (fill_proc p a) (fill_proc q a2)
fill_proc (t.out s m n) a =
    let a1 = past a in let a2 = after_msg m a1 in let a3 = after_msg n a2 in
    t.out (between a a3) (fill_msg m a1) (fill_msg n a2)
fill_proc (t.out_then s m n p) a =
    let a1 = past a in let a2 = after_msg m a1 in let a3 = after_msg n a2 in let a4 = past a3 in let a5 = after_proc p a4 in
    t.out_then (between a a5) (fill_msg m a1) (fill_msg n a2) (fill_proc p a4)
fill_proc (t.inp s m w b p) a =
    let a1 = past a in let a2 = after_msg m a1 in let a3 = past a2 in let a4 = past a3 in let a5 = past a4 in let a6 = after_ty b a5 in let a7 = past a6 in let a8 = past a7 in let a9 = after_proc p a8 in
    t.inp (between a a9) (fill_msg m a1) (fill_word w a3) (fill_ty b a5) (fill_proc p a8)
fill_proc (t.repeat s m w b p) a =
    let a1 = past a in let a2 = past a1 in let a3 = after_msg m a2 in let a4 = past a3 in let a5 = past a4 in let a6 = past a5 in let a7 = after_ty b a6 in let a8 = past a7 in let a9 = past a8 in let a10 = after_proc p a9 in
    t.repeat (between a a10) (fill_msg m a2) (fill_word w a4) (fill_ty b a6) (fill_proc p a9)
fill_proc (t.split s m w b x c p) a =
    let a1 = past a in let a2 = after_msg m a1 in let a3 = past a2 in let a4 = past a3 in let a5 = past a4 in let a6 = past a5 in let a7 = after_ty b a6 in let a8 = past a7 in let a9 = past a8 in let a10 = past a9 in let a11 = after_ty c a10 in let a12 = past a11 in let a13 = past a12 in let a14 = after_proc p a13 in
    t.split (between a a14) (fill_msg m a1) (fill_word w a4) (fill_ty b a6) (fill_word x a8) (fill_ty c a10) (fill_proc p a13)
fill_proc (t.match s m w b n x c p) a =
    let a1 = past a in let a2 = after_msg m a1 in let a3 = past a2 in let a4 = past a3 in let a5 = past a4 in let a6 = past a5 in let a7 = after_ty b a6 in let a8 = past a7 in let a9 = after_msg n a8 in let a10 = past a9 in let a11 = past a10 in let a12 = past a11 in let a13 = after_ty c a12 in let a14 = past a13 in let a15 = past a14 in let a16 = after_proc p a15 in
    t.match (between a a16) (fill_msg m a1) (fill_word w a4) (fill_ty b a6) (fill_msg n a8) (fill_word x a10) (fill_ty c a12) (fill_proc p a15)
fill_proc (t.case s m w b p x c q) a =
    let a1 = past a in let a2 = after_msg m a1 in let a3 = past a2 in let a4 = past a3 in let a5 = past a4 in let a6 = past a5 in let a7 = past a6 in let a8 = after_ty b a7 in let a9 = past a8 in let a10 = past a9 in let a11 = after_proc p a10 in let a12 = past a11 in let a13 = past a12 in let a14 = past a13 in let a15 = past a14 in let a16 = past a15 in let a17 = after_ty c a16 in let a18 = past a17 in let a19 = past a18 in let a20 = after_proc q a19 in
    t.case (between a a20) (fill_msg m a1) (fill_word w a5) (fill_ty b a7) (fill_proc p a10) (fill_word x a14) (fill_ty c a16) (fill_proc q a19)
fill_proc (t.decrypt s m w b n p) a =
    let a1 = past a in let a2 = after_msg m a1 in let a3 = past a2 in let a4 = past a3 in let a5 = past a4 in let a6 = past a5 in let a7 = after_ty b a6 in let a8 = past a7 in let a9 = after_msg n a8 in let a10 = past a9 in let a11 = after_proc p a10 in
    t.decrypt (between a a11) (fill_msg m a1) (fill_word w a4) (fill_ty b a6) (fill_msg n a8) (fill_proc p a10)
fill_proc (t.check s m n p) a =
    let a1 = past a in let a2 = after_msg m a1 in let a3 = past a2 in let a4 = after_msg n a3 in let a5 = past a4 in let a6 = after_proc p a5 in
    t.check (between a a6) (fill_msg m a1) (fill_msg n a3) (fill_proc p a5)
fill_proc (t.begin s m p) a =
    let a1 = past a in let a2 = after_msg m a1 in let a3 = past a2 in let a4 = after_proc p a3 in
    t.begin (between a a4) (fill_msg m a1) (fill_proc p a3)
fill_proc (t.end s m p) a =
    let a1 = past a in let a2 = after_msg m a1 in let a3 = past a2 in let a4 = after_proc p a3 in
    t.end (between a a4) (fill_msg m a1) (fill_proc p a3)
fill_proc (t.end_many s m p) a =
    let a1 = past a in let a2 = after_msg m a1 in let a3 = past a2 in let a4 = after_proc p a3 in
    t.end_many (between a a4) (fill_msg m a1) (fill_proc p a3)
fill_proc (t.cast s m w b p) a =
    let a1 = past a in let a2 = after_msg m a1 in let a3 = past a2 in let a4 = past a3 in let a5 = past a4 in let a6 = past a5 in let a7 = after_ty b a6 in let a8 = past a7 in let a9 = past a8 in let a10 = after_proc p a9 in
    t.cast (between a a10) (fill_msg m a1) (fill_word w a4) (fill_ty b a6) (fill_proc p a9)
fill_proc (t.new s w b p) a =
    let a1 = past a in let a2 = past a1 in let a3 = past a2 in let a4 = past a3 in let a5 = after_ty b a4 in let a6 = past a5 in let a7 = past a6 in let a8 = after_proc p a7 in
    t.new (between a a8) (fill_word w a2) (fill_ty b a4) (fill_proc p a7)
fill_proc (t.stop s) a = let a1 = past a in t.stop (between a a1)
fill_proc (t.group s p q) a =
    let a1 = past a in let a2 = after_proc p a1 in let a3 = past a2 in let a4 = after_proc q a3 in let a5 = past a4 in
    t.group (between a a5) (fill_proc p a1) (fill_proc q a3)

abbrev pub fill_words : List SWord → FilledRest → List SWord
fill_words [] a = []
fill_words (w ∷ ws) a =
    let a1 = past a in let a2 = past a1 in
    (fill_word w a1) ∷ (fill_words ws a2)

abbrev pub fill_decl : t.Declared → FilledRest → t.Declared
fill_decl (t.free s w ws) a =
    let a1 = past a in let a2 = past a1 in let a3 = after_words ws a2 in let a4 = past a3 in
    t.free (between a a4) (fill_word w a1) (fill_words ws a2)
fill_decl (t.abbreviated s w x) a =
    let a1 = past a in let a2 = past a1 in let a3 = past a2 in let a4 = after_ty x a3 in let a5 = past a4 in
    t.abbreviated (between a a5) (fill_word w a1) (fill_ty x a3)

abbrev pub fill_decls : List t.Declared → FilledRest → List t.Declared
fill_decls [] a = []
fill_decls (d ∷ ds) a = let a1 = after_decl d a in (fill_decl d a) ∷ (fill_decls ds a1)

abbrev pub fill_step : t.Step → FilledRest → t.Step
fill_step (t.act s i) a =
    let a1 = past a in let a2 = past a1 in let a3 = past a2 in
    t.act (between a a3) i
fill_step (t.talk s i j) a =
    let a1 = past a in let a2 = past a1 in let a3 = past a2 in let a4 = past a3 in
    t.talk (between a a4) i j

abbrev pub fill_steps : List t.Step → FilledRest → List t.Step
fill_steps [] a = []
fill_steps (x ∷ xs) a = let a1 = after_step x a in (fill_step x a) ∷ (fill_steps xs a1)

abbrev pub fill_written : Option (List t.Atom) → FilledRest → Option (List t.Atom)
fill_written None a = None
fill_written (Some es) a = Some (fill_effect es a)

abbrev mutual
  pub fill_deriv : t.Deriv → FilledRest → t.Deriv
  fill_deriv (t.rule s w es ds) a =
      let a1 = past a in let a2 = after_written es a1 in let a3 = after_derivs ds a2 in
      t.rule (between a a3) (fill_word w a) (fill_written es a1) (fill_derivs ds a2)

  pub fill_derivs : t.Derivs → FilledRest → t.Derivs
  fill_derivs t.no_derivs a = t.no_derivs
  fill_derivs (t.more_derivs d ds) a = let a1 = after_deriv d a in t.more_derivs (fill_deriv d a) (fill_derivs ds a1)

abbrev pub fill_opponent : Option t.Proc → FilledRest → Option t.Proc
fill_opponent None a = None
fill_opponent (Some p) a = let a1 = past a in Some (fill_proc p a1)

abbrev pub fill_schedule : Option (List t.Step) → FilledRest → Option (List t.Step)
fill_schedule None a = None
fill_schedule (Some xs) a = let a1 = past a in Some (fill_steps xs a1)

abbrev pub fill_derivation : Option t.Deriv → FilledRest → Option t.Deriv
fill_derivation None a = None
fill_derivation (Some d) a = let a1 = past a in Some (fill_deriv d a1)

abbrev pub fill_file : t.File → FilledRest → t.File
fill_file f a =
    let a1 = after_version f.version a in let a2 = past (after_decls f.decls a1) in let a3 = after_proc f.process a2 in let a4 = after_opponent f.opponent a3 in let a5 = after_schedule f.schedule a4 in
    record {
      span = between a (after_derivation f.derivation a5);
      version = f.version;
      decls = fill_decls f.decls a1;
      process = fill_proc f.process a2;
      opponent = fill_opponent f.opponent a3;
      schedule = fill_schedule f.schedule a4;
      derivation = fill_derivation f.derivation a5;
    }
