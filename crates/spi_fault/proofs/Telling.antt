-- What is told of a node: where its processes stand, what their least effects are, and which atom is shown.
use Rattle.std.proofs.Common.{◌≡◌, refl, sym, subst, subst₂, ℕ, ◌+◌, ◌^◌, ◌<◌, List, [], ◌∷◌, length, Option, Some, None, Result, Ok, Err, IfOk, arith}
use Rattle.spi_term.specs.declared.term.Effect as Declared
use Rattle.spi_term.specs.Lists.{In}
use Rattle.spi_term.specs.Names.{ProcessOver}
use Rattle.spi_term.specs.Spelling.{IsSmall}
use Rattle.spi_term.specs.Term.{name, Atom, checks, Effect, Process, process_size}
use Rattle.spi_term.specs.View as View
use Rattle.spi_effect.specs.Effect.{IsDifference}
use Rattle.spi_rules.specs.Environment.{Env, untrusted}
use Rattle.spi_rules.specs.Least.{Least}
use Rattle.spi_rules.specs.Blocking.{Child, NodeOf, node_root, node_below, HasSome, BlocksAt}
use Rattle.spi_rules.proofs.Typing.{length_untrusted}
use Rattle.spi_infer.specs.Inferring.{IsLeast, IsLeastAt}
use Rattle.spi_infer.proofs.Nodes.{reached_of}
use Rattle.spi_infer.proofs.Blocked.{reach_within}
use Rattle.spi_infer.proofs.Located.{over_reached}
use Rattle.spi_infer.proofs.Descending.{one_node}
use Rattle.spi_fault.specs.declared.deciding.Found.{Found}
use Rattle.spi_fault.specs.declared.least.Kind.TheVariants as K
use Rattle.spi_fault.specs.Checks as C
use Rattle.spi_fault.specs.Checks.{Check, process_of}
use Rattle.spi_fault.specs.Passing.{HasLeastBehind, Passes, Spoils, not_many, escapes, unchecked}
use Rattle.spi_fault.specs.Faults.{Thing, IsLeastText, Shows, shows_subject, shows_atom, subject_checked}
use Rattle.spi_fault.specs.Trying.{IsOf, IsAskedOf, TellsFailure, TellsAtom}
use Rattle.spi_fault.proofs.Decided.{spoils_served, spoils_stays, spoils_made}

-- nodes
pub node_within : {e e' : Env} {p q : Process} {i : ℕ} → NodeOf e p i e' q → i < process_size p
node_within n = reach_within (reached_of n)

at_index : {e e' : Env} {p q : Process} {i j : ℕ} → i ≡ j → NodeOf e p i e' q → NodeOf e p j e' q
at_index {e} {e'} {p} {q} h n = subst (λ i. NodeOf e p i e' q) h n

pub node_more : {e e' e'' : Env} {p q r : Process} {i j : ℕ} → NodeOf e p i e' q → Child e' q j e'' r → NodeOf e p (i + j) e'' r
node_more {j = j} node_root c = at_index (let z : j + 0 ≡ 0 + j = omega arith in z) (node_below c node_root)
node_more {j = j} (node_below {i = i} {j = m} d n) c = at_index (let z : i + (m + j) ≡ (i + m) + j = omega arith in z) (node_below d (node_more n c))

-- a process that stands in a node's process
abbrev pub StandsInNode : Env → Process → ℕ → Type 0
StandsInNode e q i = (e' : Env) × (r : Process) × Child e q i e' r

pub fits_more : (k : ℕ) {p q : Process} {e : Env} {id i : ℕ} → IsSmall k p → NodeOf (untrusted k) p id e q → StandsInNode e q i → id + i < 2 ^ 32
fits_more k small n c = omega (arith, node_within (node_more n c.2), small.few_nodes)

pub some_more : (k : ℕ) {p q : Process} {e : Env} {id i : ℕ} → NodeOf (untrusted k) p id e q → BlocksAt e q → StandsInNode e q i → (f : Env) × (r : Process) × NodeOf (untrusted k) p (id + i) f r × HasSome f r
some_more k n b c = (c.0, c.1, node_more n c.2, b.children _ c.0 c.1 c.2)

pub over_node : (k : ℕ) {p q : Process} {i : ℕ} {e : Env} → ProcessOver k p → NodeOf (untrusted k) p i e q → ProcessOver (length e) q
over_node k {p = p} over n = over_reached (reached_of n) (subst (λ k. ProcessOver k p) (sym (length_untrusted k)) over)

-- the least effect at a node
pub least_there : (k : ℕ) {node : ℕ} {p q : Process} {e : Env} (r : Option Declared.Effect) → IsLeastAt k p node r → NodeOf (untrusted k) p node e q → IsLeast e q r
least_there k {q = q} {e = e} r at n =
    let same = one_node at.2 n in
    subst (λ q. IsLeast e q r) same.1 (subst (λ e. IsLeast e at.1 r) same.0 at.3)

pub none_there : (k : ℕ) {node : ℕ} {p q : Process} {e : Env} → ProcessOver k p → IsLeastAt k p node None → NodeOf (untrusted k) p node e q → HasSome e q → ⊥
none_there k over at n some = least_there k None at n some.0 (record { over = over_node k over n; has = some.1 })

abbrev pub TellsLeast : (ℕ → List (List ℕ)) → ℕ → Process → ℕ → (Atom → Type 0) → Option Found → Type 0
TellsLeast s k p node P r = (e : Env) (q : Process) → NodeOf (untrusted k) p node e q → (es : Effect) × Least e q es × TellsAtom s node P es r

pub told_least : {E : Type 0} (s : ℕ → List (List ℕ)) (k : ℕ) (p : Process) (node : ℕ) (P : Atom → Type 0) (f : Declared.Effect) (result : Result (Option Found) E) → IsLeastAt k p node (Some f) → IfOk result (λ r. TellsAtom s node P (View.effect f) r) → IfOk result (TellsLeast s k p node P)
told_least s k p node P f (Ok r) at h = λ e q n. (View.effect f, least_there k (Some f) at n, h)
told_least s k p node P f (Err x) at h = tt

abbrev pub TellsLess : (ℕ → List (List ℕ)) → ℕ → Process → ℕ → ℕ → Option Found → Type 0
TellsLess s k p node x r =
    (e : Env) (q : Process) → NodeOf (untrusted k) p node e q
    → (es ds : Effect) × Least e q es × IsDifference ds es (checks (name x) ∷ []) × TellsAtom s node (IsOf (K.Naming x 1)) ds r

pub told_less : {E : Type 0} (s : ℕ → List (List ℕ)) (k : ℕ) (p : Process) (node x : ℕ) (f d : Declared.Effect) (result : Result (Option Found) E) → IsLeastAt k p node (Some f) → IsDifference (View.effect d) (View.effect f) (checks (name x) ∷ []) → IfOk result (λ r. TellsAtom s node (IsOf (K.Naming x 1)) (View.effect d) r) → IfOk result (TellsLess s k p node x)
told_less s k p node x f d (Ok r) at off h = λ e q n. (View.effect f, View.effect d, least_there k (Some f) at n, off, h)
told_less s k p node x f d (Err y) at off h = tt

-- a check of effects: the atoms of this kind are those for which it fails
module _ (s : ℕ → List (List ℕ)) (id at : ℕ) (env : Env) (q : Process) (c : Check) (es : Effect) (P : Atom → Type 0) (is : process_of c ≡ Some at) (pass_is : Passes env q c → (a : Atom) → Spoils env q c a → ⊥) (pass_of : ((a : Atom) → Spoils env q c a → ⊥) → Passes env q c) (to : (a : Atom) → In a es → P a → Spoils env q c a) (from : (a : Atom) → Spoils env q c a → In a es × P a) where
  outcome : (r : Option Found) → TellsAtom s (id + at) P es r → TellsFailure s id env q c r
  outcome None h = pass_of (λ a z. let w = from a z in h a w.0 w.1)
  outcome (Some f) (place, (a, shown, least)) =
      let all : IsLeastText (s (id + at)) (Spoils env q c) a
      = record { is = to a least.is.0 least.is.1; least = λ b z. least.least b (from b z) } in (
        λ pass. pass_is pass a (to a least.is.0 least.is.1),
        subst₂ (λ n t. Shows s id env q c n t) (sym place) (sym shown) (shows_atom is all),
      )

-- the three of them
module _ (s : ℕ → List (List ℕ)) (k : ℕ) (p : Process) (id : ℕ) (env : Env) (q : Process) (n : NodeOf (untrusted k) p id env q) where
  abbrev pub TellsHere : Check → Option Found → Type 0
  TellsHere c r = (q : Process) → NodeOf (untrusted k) p id env q → TellsFailure s id env q c r

  here : (c : Check) (r : Option Found) → TellsFailure s id env q c r → TellsHere c r
  here c r h = λ q' m. subst (λ q. TellsFailure s id env q c r) (one_node n m).1 h

  pub told_served : {E : Type 0} (i : ℕ) (result : Result (Option Found) E) → IsAskedOf env q (C.served i) → IfOk result (TellsLeast s k p (id + i) (IsOf K.NotMany)) → IfOk result (TellsHere (C.served i))
  told_served i (Ok r) (e, w, c) h =
      let l = h e w (node_more n c) in
      let f : HasLeastBehind env q i l.0 = record { inner = e; process = w; child = c; least = l.1 } in
      here (C.served i) r (outcome s id i env q (C.served i) l.0 (IsOf K.NotMany) refl (λ g. g) (λ g. g) (λ a x y. not_many f x y) (λ a z. spoils_served f z) r l.2)
  told_served i (Err x) a h = tt

  pub told_stays : {E : Type 0} (m i : ℕ) (result : Result (Option Found) E) → IsAskedOf env q (C.stays m i) → IfOk result (TellsLeast s k p (id + i) (IsOf (K.Naming (length env) m))) → IfOk result (TellsHere (C.stays m i))
  told_stays m i (Ok r) (e, w, c) h =
      let l = h e w (node_more n c) in
      let f : HasLeastBehind env q i l.0 = record { inner = e; process = w; child = c; least = l.1 } in
      here (C.stays m i) r (outcome s id i env q (C.stays m i) l.0 (IsOf (K.Naming (length env) m)) refl (λ g. g) (λ g. g) (λ a x y. escapes f x y) (λ a z. spoils_stays f z) r l.2)
  told_stays m i (Err x) a h = tt

  pub told_made : {E : Type 0} (i : ℕ) (result : Result (Option Found) E) → IsAskedOf env q (C.made i) → IfOk result (TellsLess s k p (id + i) (length env)) → IfOk result (TellsHere (C.made i))
  told_made i (Ok r) (e, w, c) h =
      let l = h e w (node_more n c) in
      let f : HasLeastBehind env q i l.0 = record { inner = e; process = w; child = c; least = l.2 } in
      here (C.made i) r (outcome s id i env q (C.made i) l.1 (IsOf (K.Naming (length env) 1)) refl (λ g. g) (λ g. g) (λ a x y. unchecked f l.3 x y) (λ a z. spoils_made f l.3 z) r l.4)
  told_made i (Err x) a h = tt

-- a check that asks about no effect
pub shows_here : (s : ℕ → List (List ℕ)) (id : ℕ) (env : Env) (q : Process) (c : Check) (t : Thing) → t ≡ subject_checked c → process_of c ≡ None → Shows s id env q c id t
shows_here s id env q c t shown none = subst (λ t. Shows s id env q c id t) (sym shown) (shows_subject none)
