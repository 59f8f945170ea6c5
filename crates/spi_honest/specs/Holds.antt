-- What the process of a place holds: the meaning of a tree, with messages for the names bound outside it. No public clause
-- names it.
use Rattle.std.specs.Prelude.{◌≡◌, ℕ, suc, [], ◌∷◌, Option, Some, None, if◌then◌else◌}
use Rattle.std.specs.Str.{bytes_eq}
use Rattle.spi_tree.specs.Trees as t
use Rattle.spi_term.specs.Term.{Message, bound, Ty, Process, send, recv, serve, split, select, decrypt, check, begin, end, end_many, cast, fresh, branch, par, stop}
use Rattle.spi_replay.specs.Holding.{IsClosed}
use Rattle.spi_scope.specs.Scope.{Word, Names}
use Rattle.spi_honest.specs.Reading.{valued}

-- a message for each word: that of its binder, where it is bound by one of these, and else its own
abbrev pub deeper : Option ℕ → Option ℕ
deeper None = None
deeper (Some i) = Some (suc i)

abbrev pub index_of : Names → Word → Option ℕ
index_of [] w = None
index_of (x ∷ xs) w = if bytes_eq x w then Some 0 else deeper (index_of xs w)

abbrev pub or_bound_at : Option ℕ → Message → Message
or_bound_at None m = m
or_bound_at (Some i) m = bound i

abbrev pub under_names : Names → (Word → Message) → Word → Message
under_names bs f w = or_bound_at (index_of bs w) (f w)

-- a message at one word more
abbrev pub with : Word → Message → (Word → Message) → Word → Message
with x a f w = if bytes_eq x w then a else f w

-- The process is the meaning of the tree, below binders with these names, with a message for each other word. Types are
-- any
abbrev pub Holds : t.Proc → Names → (Word → Message) → Process → Type 0
Holds (t.par s p q) bs f r = (x y : Process) × (r ≡ par x y) × Holds p bs f x × Holds q bs f y
Holds (t.out s m n) bs f r = r ≡ send (valued (under_names bs f) m) (valued (under_names bs f) n)
Holds (t.out_then s m n p) bs f r = (x : Process)
    × (r ≡ par (send (valued (under_names bs f) m) (valued (under_names bs f) n)) x) × Holds p bs f x
Holds (t.inp s m w a p) bs f r = (u : Ty) × (x : Process) × (r ≡ recv (valued (under_names bs f) m) u x)
    × Holds p (w.word ∷ bs) f x
Holds (t.repeat s m w a p) bs f r = (u : Ty) × (x : Process) × (r ≡ serve (valued (under_names bs f) m) u x)
    × Holds p (w.word ∷ bs) f x
Holds (t.split s m w a y c p) bs f r =
    (u v : Ty) × (x : Process) × (r ≡ split (valued (under_names bs f) m) u v x)
    × Holds p (y.word ∷ w.word ∷ bs) f x
Holds (t.match s m w a n y c p) bs f r = (u v : Ty) × (x : Process)
    × (r ≡ select (valued (under_names bs f) m) u (valued (under_names bs f) n) v x)
    × Holds p (y.word ∷ bs) f x
Holds (t.case s m w a p y c q) bs f r = (u v : Ty) × (x z : Process)
    × (r ≡ branch (valued (under_names bs f) m) u x v z) × Holds p (w.word ∷ bs) f x
    × Holds q (y.word ∷ bs) f z
Holds (t.decrypt s m w a n p) bs f r = (u : Ty) × (x : Process)
    × (r ≡ decrypt (valued (under_names bs f) m) u (valued (under_names bs f) n) x)
    × Holds p (w.word ∷ bs) f x
Holds (t.check s m n p) bs f r =
    (x : Process) × (r ≡ check (valued (under_names bs f) m) (valued (under_names bs f) n) x)
    × Holds p bs f x
Holds (t.begin s m p) bs f r = (x : Process) × (r ≡ begin (valued (under_names bs f) m) x) × Holds p bs f x
Holds (t.end s m p) bs f r = (x : Process) × (r ≡ end (valued (under_names bs f) m) x) × Holds p bs f x
Holds (t.end_many s m p) bs f r =
    (x : Process) × (r ≡ end_many (valued (under_names bs f) m) x) × Holds p bs f x
Holds (t.cast s m w a p) bs f r = (u : Ty) × (x : Process) × (r ≡ cast (valued (under_names bs f) m) u x)
    × Holds p (w.word ∷ bs) f x
Holds (t.new s w a p) bs f r = (u : Ty) × (x : Process) × (r ≡ fresh u x) × Holds p (w.word ∷ bs) f x
Holds (t.stop s) bs f r = r ≡ stop
Holds (t.group s p q) bs f r = (x y : Process) × (r ≡ par x y) × Holds p bs f x × Holds q bs f y

pub record AreClosed (f : Word → Message) : Type 0 where
  pub each : (w : Word) → IsClosed (f w)
