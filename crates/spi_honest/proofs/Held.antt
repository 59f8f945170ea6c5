-- What a process of a narration's file holds: the meaning of a tree, with messages for the names bound outside it.
use Rattle.std.proofs.Common.{◌≡◌, ℕ, suc, ◌+◌, ◌<◌, Bool, true, false, List, [], ◌∷◌, ◌++◌, length, refl, sym, ap, ◌∙◌, subst, arith, Option, Some, None}
use Rattle.std.specs.Prelude.{if◌then◌else◌, ◌==◌}
use Rattle.std.specs.Str.{bytes_eq}
use Rattle.std.proofs.lemmas.Bool.{ne_eqb}
use Rattle.spi_tree.specs.Trees as t
use Rattle.spi_term.specs.Term.{Message, bound, pair, in_left, in_right, enc, hash, Process, send, recv, serve, split, select, decrypt, check, begin, end, end_many, cast, branch, par}
use Rattle.spi_term.specs.Substitution.{ty_map, process_map, process_put, process_put_two, put}
use Rattle.spi_term.proofs.Terms.{put_here}
use Rattle.spi_replay.specs.Holding.{IsClosed}
use Rattle.spi_replay.proofs.Opening.{put_closed}
use Rattle.spi_scope.specs.Scope.{Word, Names}
use Rattle.spi_scope.specs.Meaning.{nested}
use Rattle.spi_honest.specs.Holds.{deeper, index_of, or_bound_at, under_names, with, Holds, AreClosed}
use Rattle.spi_honest.specs.Reading.{valued, all_valued}

-- a message put in is one word more
abbrev pub all_put : Message → ℕ → List Message → List Message
all_put a k [] = []
all_put a k (m ∷ ms) = put a k m ∷ all_put a k ms

nested_put : (a : Message) (k : ℕ) (m : Message) (ms : List Message) → put a k (nested m ms) ≡ nested (put a k m) (all_put a k ms)
nested_put a k m [] = refl
nested_put a k m (n ∷ ns) = ap (pair (put a k m)) (nested_put a k n ns)

mutual
  pub valued_put : (a : Message) (k : ℕ) (f : Word → Message) (m : t.Msg) → put a k (valued f m) ≡ valued (λ w. put a k (f w)) m
  valued_put a k f (t.name s w) = refl
  valued_put a k f (t.unit s) = refl
  valued_put a k f (t.tuple s m n ms) =
      nested_put a k (valued f m) (valued f n ∷ all_valued f ms)
      ∙ (λ i. nested (valued_put a k f m i) (valued_put a k f n i ∷ all_valued_put a k f ms i))
  valued_put a k f (t.inl s m) = ap in_left (valued_put a k f m)
  valued_put a k f (t.inr s m) = ap in_right (valued_put a k f m)
  valued_put a k f (t.enc s m n) = λ i. enc (valued_put a k f m i) (valued_put a k f n i)
  valued_put a k f (t.hash s m) = ap hash (valued_put a k f m)
  valued_put a k f (t.num s i) = refl

  all_valued_put : (a : Message) (k : ℕ) (f : Word → Message) (ms : t.Msgs) → all_put a k (all_valued f ms) ≡ all_valued (λ w. put a k (f w)) ms
  all_valued_put a k f t.no_msgs = refl
  all_valued_put a k f (t.more_msgs m ms) = λ i. valued_put a k f m i ∷ all_valued_put a k f ms i

-- where a word is bound, with one binder more outside
abbrev pub or_last : Option ℕ → Bool → ℕ → Option ℕ
or_last (Some i) b k = Some i
or_last None true k = Some k
or_last None false k = None

deeper_last : (o : Option ℕ) (b : Bool) (k : ℕ) → deeper (or_last o b k) ≡ or_last (deeper o) b (suc k)
deeper_last (Some i) b k = refl
deeper_last None true k = refl
deeper_last None false k = refl

first_last : (b : Bool) → (if b then Some 0 else deeper None) ≡ or_last None b 0
first_last true = refl
first_last false = refl

step_last : (b c : Bool) (o : Option ℕ) (k : ℕ) → (if b then Some 0 else deeper (or_last o c k)) ≡ or_last (if b then Some 0 else deeper o) c (suc k)
step_last true c o k = refl
step_last false c o k = deeper_last o c k

pub index_last : (ds : Names) (x w : Word) → index_of (ds ++ x ∷ []) w ≡ or_last (index_of ds w) (bytes_eq x w) (length ds)
index_last [] x w = first_last (bytes_eq x w)
index_last (d ∷ ds) x w = ap (λ o. if bytes_eq d w then Some 0 else deeper o) (index_last ds x w) ∙ step_last (bytes_eq d w) (bytes_eq x w) (index_of ds w) (length ds)

-- an index is one of the binders
abbrev pub IsWithinSome : ℕ → Option ℕ → Type 0
IsWithinSome k None = Rattle.std.specs.Prelude.⊤
IsWithinSome k (Some i) = i < k

deeper_within : (k : ℕ) (o : Option ℕ) → IsWithinSome k o → IsWithinSome (suc k) (deeper o)
deeper_within k None h = tt
deeper_within k (Some i) h = omega arith

if_within : (k : ℕ) (b : Bool) (o : Option ℕ) → IsWithinSome k o → IsWithinSome (suc k) (if b then Some 0 else deeper o)
if_within k true o h = omega arith
if_within k false o h = deeper_within k o h

pub index_within : (ds : Names) (w : Word) → IsWithinSome (length ds) (index_of ds w)
index_within [] w = tt
index_within (d ∷ ds) w = if_within (length ds) (bytes_eq d w) (index_of ds w) (index_within ds w)

put_other : (a : Message) (k i : ℕ) → i < k → put a k (bound i) ≡ bound i
put_other a k i h = let e : (i == k) ≡ false = ne_eqb i k (λ e. omega (arith, e)) in rw e

put_last : (a : Message) (k : ℕ) (o : Option ℕ) (b : Bool) (m : Message) → IsWithinSome k o → IsClosed m → put a k (or_bound_at (or_last o b k) m) ≡ or_bound_at o (if b then a else m)
put_last a k (Some i) b m h c = put_other a k i h
put_last a k None true m h c = put_here a k
put_last a k None false m h c = put_closed a k m c

pub under_put : (a : Message) (k : ℕ) (ds : Names) (x : Word) (f : Word → Message) (w : Word) → k ≡ length ds → IsClosed (f w) → put a k (under_names (ds ++ x ∷ []) f w) ≡ under_names ds (with x a f) w
under_put a k ds x f w e c =
    ap (λ o. put a k (or_bound_at o (f w))) (index_last ds x w ∙ ap (or_last (index_of ds w) (bytes_eq x w)) (sym e))
    ∙ put_last a k (index_of ds w) (bytes_eq x w) (f w) (subst (λ n. IsWithinSome n (index_of ds w)) (sym e) (index_within ds w)) c

pub message_put : (a : Message) (k : ℕ) (ds : Names) (x : Word) (f : Word → Message) → k ≡ length ds → AreClosed f → (m : t.Msg) → put a k (valued (under_names (ds ++ x ∷ []) f) m) ≡ valued (under_names ds (with x a f)) m
message_put a k ds x f e c m = valued_put a k (under_names (ds ++ x ∷ []) f) m ∙ (λ i. valued (λ w. under_put a k ds x f w e (c.each w) i) m)

-- a binder opened: the outermost binder's name has the message
pub holds_put : (p : t.Proc) (a : Message) (k : ℕ) (ds : Names) (x : Word) (f : Word → Message) (r : Process) → k ≡ length ds → AreClosed f → Holds p (ds ++ x ∷ []) f r → Holds p ds (with x a f) (process_map (put a) k r)
holds_put (t.par s p q) a k ds x f r e c h =
    let g : k + 0 ≡ length ds = omega (arith, e) in
    (_, _, ap (process_map (put a) k) h.2, holds_put p a (k + 0) ds x f h.0 g c h.3, holds_put q a (k + 0) ds x f h.1 g c h.4)
holds_put (t.group s p q) a k ds x f r e c h =
    let g : k + 0 ≡ length ds = omega (arith, e) in
    (_, _, ap (process_map (put a) k) h.2, holds_put p a (k + 0) ds x f h.0 g c h.3, holds_put q a (k + 0) ds x f h.1 g c h.4)
holds_put (t.out s m n) a k ds x f r e c h = ap (process_map (put a) k) h ∙ (λ i. send (message_put a k ds x f e c m i) (message_put a k ds x f e c n i))
holds_put (t.out_then s m n p) a k ds x f r e c h =
    let g : k + 0 ≡ length ds = omega (arith, e) in
    (_, ap (process_map (put a) k) h.1 ∙ (λ i. par (send (message_put a (k + 0) ds x f g c m i) (message_put a (k + 0) ds x f g c n i)) (process_map (put a) (k + 0) h.0)), holds_put p a (k + 0) ds x f h.0 g c h.2)
holds_put (t.inp s m w b p) a k ds x f r e c h =
    let g : k + 1 ≡ length (w.word ∷ ds) = omega (arith, e) in
    (_, _, ap (process_map (put a) k) h.2 ∙ (λ i. recv (message_put a k ds x f e c m i) (ty_map (put a) k h.0) (process_map (put a) (k + 1) h.1)), holds_put p a (k + 1) (w.word ∷ ds) x f h.1 g c h.3)
holds_put (t.repeat s m w b p) a k ds x f r e c h =
    let g : k + 1 ≡ length (w.word ∷ ds) = omega (arith, e) in
    (_, _, ap (process_map (put a) k) h.2 ∙ (λ i. serve (message_put a k ds x f e c m i) (ty_map (put a) k h.0) (process_map (put a) (k + 1) h.1)), holds_put p a (k + 1) (w.word ∷ ds) x f h.1 g c h.3)
holds_put (t.split s m w b y d p) a k ds x f r e c h =
    let g : k + 2 ≡ length (y.word ∷ w.word ∷ ds) = omega (arith, e) in
    (_, _, _, ap (process_map (put a) k) h.3 ∙ (λ i. split (message_put a k ds x f e c m i) (ty_map (put a) k h.0) (ty_map (put a) (suc k) h.1) (process_map (put a) (k + 2) h.2)), holds_put p a (k + 2) (y.word ∷ w.word ∷ ds) x f h.2 g c h.4)
holds_put (t.match s m w b n y d p) a k ds x f r e c h =
    let g : k + 1 ≡ length (y.word ∷ ds) = omega (arith, e) in
    (_, _, _, ap (process_map (put a) k) h.3 ∙ (λ i. select (message_put a k ds x f e c m i) (ty_map (put a) k h.0) (message_put a k ds x f e c n i) (ty_map (put a) (suc k) h.1) (process_map (put a) (k + 1) h.2)), holds_put p a (k + 1) (y.word ∷ ds) x f h.2 g c h.4)
holds_put (t.case s m w b p y d q) a k ds x f r e c h =
    let g : k + 1 ≡ length (w.word ∷ ds) = omega (arith, e) in
    let g' : k + 1 ≡ length (y.word ∷ ds) = omega (arith, e) in
    (_, _, _, _, ap (process_map (put a) k) h.4 ∙ (λ i. branch (message_put a k ds x f e c m i) (ty_map (put a) k h.0) (process_map (put a) (k + 1) h.2) (ty_map (put a) k h.1) (process_map (put a) (k + 1) h.3)), holds_put p a (k + 1) (w.word ∷ ds) x f h.2 g c h.5, holds_put q a (k + 1) (y.word ∷ ds) x f h.3 g' c h.6)
holds_put (t.decrypt s m w b n p) a k ds x f r e c h =
    let g : k + 1 ≡ length (w.word ∷ ds) = omega (arith, e) in
    (_, _, ap (process_map (put a) k) h.2 ∙ (λ i. decrypt (message_put a k ds x f e c m i) (ty_map (put a) k h.0) (message_put a k ds x f e c n i) (process_map (put a) (k + 1) h.1)), holds_put p a (k + 1) (w.word ∷ ds) x f h.1 g c h.3)
holds_put (t.check s m n p) a k ds x f r e c h =
    let g : k + 0 ≡ length ds = omega (arith, e) in
    (_, ap (process_map (put a) k) h.1 ∙ (λ i. check (message_put a k ds x f e c m i) (message_put a k ds x f e c n i) (process_map (put a) (k + 0) h.0)), holds_put p a (k + 0) ds x f h.0 g c h.2)
holds_put (t.begin s m p) a k ds x f r e c h =
    let g : k + 0 ≡ length ds = omega (arith, e) in
    (_, ap (process_map (put a) k) h.1 ∙ (λ i. begin (message_put a k ds x f e c m i) (process_map (put a) (k + 0) h.0)), holds_put p a (k + 0) ds x f h.0 g c h.2)
holds_put (t.end s m p) a k ds x f r e c h =
    let g : k + 0 ≡ length ds = omega (arith, e) in
    (_, ap (process_map (put a) k) h.1 ∙ (λ i. end (message_put a k ds x f e c m i) (process_map (put a) (k + 0) h.0)), holds_put p a (k + 0) ds x f h.0 g c h.2)
holds_put (t.end_many s m p) a k ds x f r e c h =
    let g : k + 0 ≡ length ds = omega (arith, e) in
    (_, ap (process_map (put a) k) h.1 ∙ (λ i. end_many (message_put a k ds x f e c m i) (process_map (put a) (k + 0) h.0)), holds_put p a (k + 0) ds x f h.0 g c h.2)
holds_put (t.cast s m w b p) a k ds x f r e c h =
    let g : k + 1 ≡ length (w.word ∷ ds) = omega (arith, e) in
    (_, _, ap (process_map (put a) k) h.2 ∙ (λ i. cast (message_put a k ds x f e c m i) (ty_map (put a) k h.0) (process_map (put a) (k + 1) h.1)), holds_put p a (k + 1) (w.word ∷ ds) x f h.1 g c h.3)
holds_put (t.new s w b p) a k ds x f r e c h =
    let g : k + 1 ≡ length (w.word ∷ ds) = omega (arith, e) in
    (_, _, ap (process_map (put a) k) h.2, holds_put p a (k + 1) (w.word ∷ ds) x f h.1 g c h.3)
holds_put (t.stop s) a k ds x f r e c h = ap (process_map (put a) k) h

-- one name, and the two of a split
pub holds_one : (p : t.Proc) (a : Message) (x : Word) (f : Word → Message) (r : Process) → AreClosed f → Holds p (x ∷ []) f r → Holds p [] (with x a f) (process_put a r)
holds_one p a x f r c h = holds_put p a 0 [] x f r refl c h

with_closed : (x : Word) (a : Message) (f : Word → Message) → IsClosed a → AreClosed f → AreClosed (with x a f)
with_closed x a f h c = record { each = λ w. by w (bytes_eq x w) }
  where
    by : (w : Word) (b : Bool) → IsClosed (if b then a else f w)
    by w true = h
    by w false = c.each w

pub holds_two : (p : t.Proc) (a b : Message) (x y : Word) (f : Word → Message) (r : Process) → AreClosed f → IsClosed a → Holds p (y ∷ x ∷ []) f r → Holds p [] (with y b (with x a f)) (process_put_two a b r)
holds_two p a b x y f r c h g = holds_put p b 0 [] y (with x a f) _ refl (with_closed x a f h c) (holds_put p a 1 (y ∷ []) x f r refl c g)
