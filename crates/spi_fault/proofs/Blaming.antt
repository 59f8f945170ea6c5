-- The first check that fails is found by trying them one after another.
use Rattle.std.proofs.Common.{◌≡◌, ◌↔◌, ⊎_elim, refl, sym, ap, ◌∙◌, subst, subst₂, ℕ, zero, suc, ◌+◌, ◌<◌, ◌≤◌, List, [], ◌∷◌, ◌++◌, length, take, drop, map, get_or, Option, Some, None, Result, Ok, Err, IfOk, IsNone, arith}
use Rattle.std.specs.Prelude.{slice_get}
use Rattle.std.proofs.lemmas.List.{take_all, length-map}
use Rattle.std.proofs.lemmas.Option.{slice_get-get_or}
use Rattle.spi_term.specs.Lists.{In, in_first}
use Rattle.spi_term.proofs.Lists.{in_append, in_none, in_one, get_in, get_map, take_get}
use Rattle.spi_term.specs.Names.{ProcessOver}
use Rattle.spi_term.specs.Term as Term
use Rattle.spi_term.specs.Term.{Effect, Process, process_size}
use Rattle.spi_effect.proofs.Laws.{within_in}
use Rattle.spi_rules.specs.Environment.{Env, untrusted}
use Rattle.spi_rules.specs.Derivations.{Derivable}
use Rattle.spi_rules.specs.Least.{Least}
use Rattle.spi_rules.specs.Blocking.{NodeOf, BlocksAt}
use Rattle.spi_infer.specs.Inferring.{IsReached}
use Rattle.spi_infer.proofs.Deriving.{blocked}
use Rattle.spi_infer.proofs.Descending.{one_node}
use Rattle.spi_term.specs.Spelling.{Shape, spelled}
use Rattle.spi_fault.specs.Checks.{Check, checks, reason_of, shape_checks}
use Rattle.spi_fault.specs.Passing.{Passes}
use Rattle.spi_fault.specs.declared.deciding.Found.{Found}
use Rattle.spi_fault.specs.declared.check.Check as Declared
use Rattle.spi_fault.specs.declared.fault.Fault.{Fault}
use Rattle.spi_fault.specs.declared.fault.Reason.{Reason}
use Rattle.spi_fault.specs.declared.fault.Reason.TheVariants.{Unpaid}
use Rattle.spi_fault.specs.declared.least.Kind.TheVariants as K
use Rattle.spi_fault.specs.Faults.{thing, FirstBlocks, FailsFirst, IsLeastText, IsFault, unpaid, fails as fails_at, IsUnpaid, unpaid_at_root, TellsUnpaid, ToldFault, told, Explains}
use Rattle.spi_fault.specs.Trying.{check, IsOf, IsAskedOf, TellsFailure, TellsAtom, IsBlamed}
use Rattle.spi_fault.proofs.Passed.{all_pass}
use Rattle.spi_fault.proofs.Heads.{asked, checks_at}
use Rattle.spi_fault.proofs.Telling.{node_within, over_node}

pub blocks_within : (k : ℕ) {n : ℕ} {p : Process} → FirstBlocks (untrusted k) p n → n < process_size p
blocks_within k f = node_within f.blocks.1.1.0

pub blocks_here : (k : ℕ) {n : ℕ} {p q : Process} {e : Env} → FirstBlocks (untrusted k) p n → NodeOf (untrusted k) p n e q → BlocksAt e q
blocks_here k {q = q} {e = e} f n =
    let same = one_node f.blocks.1.1.0 n in
    subst (λ q. BlocksAt e q) same.1 (subst (λ e. BlocksAt e f.blocks.1.0) same.0 f.blocks.1.1.1)

-- lists
split_at : {A : Type 0} (xs : List A) (i : ℕ) (x : A) → slice_get xs i ≡ Some x → xs ≡ take i xs ++ x ∷ drop (suc i) xs
split_at [] i x h = absurd (cc)
split_at (y ∷ xs) zero x h = let e : y ≡ x = cc in ap (λ z. z ∷ xs) e
split_at (y ∷ xs) (suc i) x h = ap (λ l. y ∷ l) (split_at xs i x h)

-- the checks so far pass
abbrev pub PassTo : Env → Process → List Check → ℕ → Type 0
PassTo env q cs i = (d : Check) → In d (take i cs) → Passes env q d

pub pass_none : (env : Env) (q : Process) (cs : List Check) → PassTo env q cs 0
pass_none env q cs = λ d i. absurd (in_none i)

pub pass_more : (env : Env) (q : Process) (cs : List Check) (i : ℕ) (c : Check) → slice_get cs i ≡ Some c → PassTo env q cs i → Passes env q c → PassTo env q cs (i + 1)
pass_more env q cs i c at before now d z =
    ⊎_elim (λ (w : In d (take i cs)). before d w) (λ (w : In d (c ∷ [])). subst (λ d. Passes env q d) (sym (in_one w)) now) (in_append (take i cs) (subst (λ l. In d l) (ap (λ n. take n cs) (let e : i + 1 ≡ suc i = omega arith in e) ∙ take_get cs i c at) z))

-- this one is the first that fails
pub fails_here : (env : Env) (q : Process) (cs : List Check) (i : ℕ) (c : Check) → cs ≡ checks q → slice_get cs i ≡ Some c → PassTo env q cs i → (Passes env q c → ⊥) → FailsFirst env q c
fails_here env q cs i c is at before fails = record {
  before = take i cs;
  after = drop (suc i) cs;
  all = sym is ∙ split_at cs i c at;
  pass = before;
  fails = fails;
}

-- an effect without an atom
none_left : (es : Effect) → ((a : Term.Atom) → In a es → ⊥) → es ≡ []
none_left [] h = refl
none_left (a ∷ es) h = absurd (h a in_first)

pub nothing_unpaid : (s : ℕ → List (List ℕ)) (es : Effect) → TellsAtom s 0 (IsOf K.Any) es None → es ≡ []
nothing_unpaid s es h = none_left es (λ a i. h a i tt)

pub atom_unpaid : (s : ℕ → List (List ℕ)) (es : Effect) (f : Found) → TellsAtom s 0 (IsOf K.Any) es (Some f) → IsUnpaid s es (record { reason = Unpaid; node = 0; scope_of = 0; shown = thing f.shown })
atom_unpaid s es f (place, (a, shown, least)) =
    let all : IsLeastText (s 0) (λ b. In b es) a = record { is = least.is.0; least = λ b i. least.least b (i, tt) } in
    subst (λ t. IsUnpaid s es (record { reason = Unpaid; node = 0; scope_of = 0; shown = t })) (sym shown) (unpaid_at_root all)

-- the fault of the least effect is that of the process
least_fault : (s : ℕ → List (List ℕ)) (k : ℕ) (p : Process) (es : Effect) (t : ToldFault) → Least (untrusted k) p es → IsUnpaid s es t → IsFault s k p t
least_fault s k p es t l (unpaid_at_root least) = unpaid l least

pub left_over : {E : Type 0} (s : ℕ → List (List ℕ)) (k : ℕ) (p : Process) (es : Effect) (result : Result (Option Fault) E) → Least (untrusted k) p es → IfOk result (TellsUnpaid s es) → IfOk result (Explains s k p)
left_over s k p es (Ok None) l h = subst (λ es. Derivable (untrusted k) p es) h l.derivable
left_over s k p es (Ok (Some f)) l h = least_fault s k p es (told f) l h
left_over s k p es (Err e) l h = tt

-- the checks are gone through one by one
module _ (k : ℕ) (p : Process) (id : ℕ) (env : Env) (checks' : List Declared.Check) where
  abbrev pub Node : Process → Type 0
  Node q = NodeOf (untrusted k) p id env q

  abbrev pub PassedTo : ℕ → Type 0
  PassedTo i = (q : Process) → Node q → PassTo env q (map check checks') i

  pub passed_none : PassedTo 0
  passed_none = λ q n d i. absurd (in_none i)

  at_check : (i : ℕ) (c : Declared.Check) → i < length checks' → c ≡ get_or checks' i c → slice_get (map check checks') i ≡ Some (check c)
  at_check i c l at =
      let g : slice_get checks' i ≡ Some c = slice_get-get_or checks' i c l ∙ ap Some (sym at) in
      get_map check checks' i g

  pub passed_more : (i : ℕ) (c : Declared.Check) → i < length checks' → c ≡ get_or checks' i c → PassedTo i → ((q : Process) → Node q → Passes env q (check c)) → PassedTo (i + 1)
  passed_more i c l at before now = λ q n. pass_more env q (map check checks') i (check c) (at_check i c l at) (before q n) (now q n)

  pub in_checks : (i : ℕ) (c : Declared.Check) → i < length checks' → c ≡ get_or checks' i c → In (check c) (map check checks')
  in_checks i c l at = get_in (map check checks') i (check c) (at_check i c l at)

  -- one of all processes at the node has these checks, so each has
  abbrev pub Given : Type 0
  Given = (q : Process) × Node q × BlocksAt env q × (map check checks' ≡ checks q)

  given_at : Given → (q : Process) → Node q → map check checks' ≡ checks q
  given_at (q', m, b, is) q n = subst (λ q. map check checks' ≡ checks q) (one_node m n).1 is

  pub can_ask : (i : ℕ) (c : Declared.Check) → i < length checks' → c ≡ get_or checks' i c → Given → (q : Process) × Node q × BlocksAt env q × IsAskedOf env q (check c)
  can_ask i c l at (q, n, b, is) = (q, n, b, asked env q (check c) (subst (λ cs. In (check c) cs) is (in_checks i c l at)))

  pub blamed : (s : ℕ → List (List ℕ)) (i : ℕ) (c : Declared.Check) (f : Found) (r : Reason) → i < length checks' → c ≡ get_or checks' i c → Given → PassedTo i → ((q : Process) → Node q → TellsFailure s id env q (check c) (Some f)) → r ≡ reason_of (check c)
      → (q : Process) → Node q → IsBlamed s id env q (Some (record { reason = r; node = id; scope_of = f.scope_of; shown = f.shown }))
  blamed s i c f r l at given before tells reason q n =
      let t = tells q n in (
        check c,
        fails_here env q (map check checks') i (check c) (given_at given q n) (at_check i c l at) (before q n) t.0,
        t.1,
        refl,
        reason,
      )

  pub all_passed : (i : ℕ) → length checks' ≤ i → Given → PassedTo i → (q : Process) → Node q → (d : Check) → In d (checks q) → Passes env q d
  all_passed i l given before q n d z =
      before q n d (subst (λ cs. In d cs) (sym (take_all i (map check checks') (omega (arith, l, length-map checks' check)))) (subst (λ cs. In d cs) (sym (given_at given q n)) z))

-- the node that blocks first
pub never_none : (k : ℕ) {n : ℕ} {p q : Process} {e : Env} → ProcessOver k p → FirstBlocks (untrusted k) p n → NodeOf (untrusted k) p n e q → ((d : Check) → In d (checks q) → Passes e q d) → ⊥
never_none k {q = q} {e = e} over f n pass = let b = blocks_here k f n in b.none (all_pass e q (over_node k over n) b.children pass)

pub blames : (s : ℕ → List (List ℕ)) (k id : ℕ) (p : Process) (e : Env) (f : Fault) → FirstBlocks (untrusted k) p id → IsReached k p id e → ((q : Process) → NodeOf (untrusted k) p id e q → IsBlamed s id e q (Some f)) → IsFault s k p (told f)
blames s k id p e f first at h =
    let (c, fails, shows, node, reason) = h at.0 at.1 in
    let is : IsFault s k p (record { reason = reason_of c; node = id; scope_of = f.scope_of; shown = thing f.shown }) = fails_at first at.1 fails shows in
    subst₂ (λ n r. IsFault s k p (record { reason = r; node = n; scope_of = f.scope_of; shown = thing f.shown })) (sym node) (sym reason) is

pub given_here : (k id : ℕ) (p : Process) (e : Env) (x : Shape) (cs : List Declared.Check) → FirstBlocks (untrusted k) p id → IsReached k p id e → slice_get (spelled k p) id ≡ Some x → map check cs ≡ shape_checks id x → Given k p id e cs
given_here k id p e x cs first at there is = (at.0, at.1, blocks_here k first at.1, is ∙ checks_at k p id e at.0 x at.1 there)

-- a process with a fault is not derivable with the empty effect
no_fault : (s : ℕ → List (List ℕ)) (k : ℕ) (p : Process) (t : ToldFault) → IsFault s k p t → Derivable (untrusted k) p [] → ⊥
no_fault s k p _ (unpaid l least) d = in_none (within_in (l.least [] d) least.is)
no_fault s k p _ (fails_at first at c shows) d = (blocked (untrusted k) p d.over).1 (_, first.blocks) [] d

pub exactly : {E : Type 0} (s : ℕ → List (List ℕ)) (k : ℕ) (p : Process) (result : Result (Option Fault) E) → IfOk result (Explains s k p) → IfOk result (λ r. IsNone r ↔ Derivable (untrusted k) p [])
exactly s k p (Ok None) h = (λ e. h, λ d. refl)
exactly s k p (Ok (Some f)) h = (λ e. absurd (cc e), λ d. absurd (no_fault s k p (told f) h d))
exactly s k p (Err e) h = tt
