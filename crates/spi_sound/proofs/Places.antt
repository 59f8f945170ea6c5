-- Places that pay, one after another.
use Rattle.std.proofs.Common.{◌≡◌, refl, ◌∙◌, ap, ℕ, suc, ◌≤◌, List, [], ◌∷◌, ◌++◌, length, arith, slice_set, Option, Some, None}
use Rattle.std.specs.Prelude.{⊤}
use Rattle.spi_term.specs.Lists.{At, at_first, at_later, In}
use Rattle.spi_term.specs.Term.{checks, Effect, Ty, Process, check}
use Rattle.spi_term.specs.Names.{MessageOver, EffectOver, ProcessOver}
use Rattle.spi_term.proofs.Terms.{over_more_process}
use Rattle.spi_effect.specs.Effect.{Within}
use Rattle.spi_effect.proofs.Laws.{tally_append, within_refl, within_trans, within_append, within_tally, OfEffect_within, difference_within}
use Rattle.spi_rules.specs.Environment.{Env}
use Rattle.spi_rules.specs.Messages.{Cast}
use Rattle.spi_run.specs.Safety.{AllOver}
use Rattle.spi_rules.specs.Processes.{HasEffect, proc_check, proc_check_un, proc_sub}
use Rattle.spi_rules.proofs.Paying.{Pays, pays_check, pays_check_un, pays_more, has_pays, flip, sum_within}
use Rattle.spi_sound.specs.Balance.{released}
use Rattle.spi_sound.proofs.Weakening.{Bounded, pays_lifted}

-- the places pay, and what they pay with adds up to at most fs
pub data PlacesPay (cs : List Cast) (env : Env) : List Process → Effect → Type 0 where
  pay_none : {fs : Effect} → PlacesPay cs env [] fs
  pay_one : {p : Process} {ps : List Process} {es gs fs : Effect} → Pays cs env p es → PlacesPay cs env ps gs → Within (es ++ gs) fs → PlacesPay cs env (p ∷ ps) fs

-- what the typing of a process that pays releases at once, and that of each place
abbrev pub paid_released : {cs : List Cast} {env : Env} {p : Process} {es : Effect} → Pays cs env p es → Option Effect
paid_released (pays_check {gs = gs} h n d v w) = Some gs
paid_released _ = None

abbrev pub all_paid : {cs : List Cast} {env : Env} {ps : List Process} {es : Effect} → PlacesPay cs env ps es → List (Option Effect)
all_paid pay_none = []
all_paid (pay_one d ds w) = paid_released d ∷ all_paid ds

-- nothing is released but at a check
abbrev IsCheck : Process → Type 0
IsCheck (check m n p) = ⊤
IsCheck _ = ⊥

none_released : {cs : List Cast} {env : Env} {p : Process} {es : Effect} (d : Pays cs env p es) → (IsCheck p → ⊥) → paid_released d ≡ None
none_released (pays_check h n d v w) f = absurd (f tt)
none_released _ f = refl

-- to pay with more releases the same, and a process pays as it is typed
released_more : {cs : List Cast} {env : Env} {p : Process} {es fs : Effect} (d : Pays cs env p es) → Within es fs → (e : Pays cs env p fs) × (paid_released e ≡ paid_released d)
released_more (pays_check h n d v u) w = (pays_check h n d v (within_trans u w), refl)
released_more (pays_check_un h k d u) w = (pays_check_un h k d (within_trans u w), refl)
released_more d w = (pays_more d w, none_released (pays_more d w) (λ f. f))

pub released_pays : {cs : List Cast} {env : Env} {p : Process} {es : Effect} (d : HasEffect cs env p es) → (e : Pays cs env p es) × (paid_released e ≡ released d)
released_pays (proc_check {m = m} {ds = ds} h d n s r) =
    (pays_check h n (has_pays d) (difference_within s) (within_trans (flip ds (checks m ∷ [])) (sum_within r)), refl)
released_pays (proc_check_un {es = es} h k d) = (pays_check_un h k (has_pays d) (within_refl es), refl)
released_pays (proc_sub d w g) =
    let (e, f) = released_pays d in let (e', f') = released_more e w in (e', f' ∙ f)
released_pays d = (has_pays d, none_released (has_pays d) (λ f. f))

pub places_more : {cs : List Cast} {env : Env} {ps : List Process} {fs gs : Effect} → PlacesPay cs env ps fs → Within fs gs → PlacesPay cs env ps gs
places_more pay_none w = pay_none
places_more (pay_one d ds v) w = pay_one d ds (within_trans v w)

-- a part of a sum is within it
within_left : (es fs : Effect) → Within es (es ++ fs)
within_left es fs = within_tally (λ a. omega (arith, tally_append a es fs))

within_right : (es fs : Effect) → Within fs (es ++ fs)
within_right es fs = within_tally (λ a. omega (arith, tally_append a es fs))

-- the first two of three change places
within_swap : (es fs gs : Effect) → Within (es ++ (fs ++ gs)) (fs ++ (es ++ gs))
within_swap es fs gs = within_tally (λ a. omega (arith, tally_append a es (fs ++ gs), tally_append a fs gs, tally_append a fs (es ++ gs), tally_append a es gs))

within_regroup : (es fs gs : Effect) → Within ((es ++ fs) ++ gs) (es ++ (fs ++ gs))
within_regroup es fs gs = within_tally (λ a. omega (arith, tally_append a (es ++ fs) gs, tally_append a es fs, tally_append a es (fs ++ gs), tally_append a fs gs))

pub places_append : {cs : List Cast} {env : Env} {ps qs : List Process} {fs gs : Effect} → PlacesPay cs env ps fs → PlacesPay cs env qs gs → PlacesPay cs env (ps ++ qs) (fs ++ gs)
places_append {fs = fs} {gs = gs} pay_none d = places_more d (within_right fs gs)
places_append {gs = gs} (pay_one {es = es} {gs = hs} d ds w) e = pay_one d (places_append ds e) (within_trans (within_back es hs gs) (within_append w (within_refl gs)))
  where
    within_back : (a b c : Effect) → Within (a ++ (b ++ c)) ((a ++ b) ++ c)
    within_back a b c = within_tally (λ x. omega (arith, tally_append x (a ++ b) c, tally_append x a b, tally_append x a (b ++ c), tally_append x b c))

-- one place is taken out
pub places_out : {cs : List Cast} {env : Env} (pre : List Process) (p : Process) (post : List Process) {fs : Effect} → PlacesPay cs env (pre ++ p ∷ post) fs → (es : Effect) × (rest : Effect) × Pays cs env p es × PlacesPay cs env (pre ++ post) rest × Within (es ++ rest) fs
places_out [] p post (pay_one {es = es} {gs = gs} d ds w) = (es, gs, d, ds, w)
places_out (q ∷ pre) p post (pay_one {es = es} {gs = gs} d ds w) =
    let (fs', rest, e, others, v) = places_out pre p post ds in
    (fs', es ++ rest, e, pay_one d others (within_refl (es ++ rest)), within_trans (within_swap fs' es rest) (within_trans (within_append (within_refl es) v) w))

-- what its typing releases stands at its place
pub out_released : {cs : List Cast} {env : Env} (pre : List Process) (p : Process) (post : List Process) {fs : Effect} (h : PlacesPay cs env (pre ++ p ∷ post) fs) → At (all_paid h) (length pre) (paid_released (places_out pre p post h).2)
unfolding places_out
out_released [] p post (pay_one d ds w) = at_first
out_released (q ∷ pre) p post (pay_one d ds w) = at_later (out_released pre p post ds)

-- and put in
pub places_in : {cs : List Cast} {env : Env} (pre : List Process) (p : Process) (post : List Process) {es rest : Effect} → Pays cs env p es → PlacesPay cs env (pre ++ post) rest → PlacesPay cs env (pre ++ p ∷ post) (es ++ rest)
places_in [] p post {es} {rest} d ds = pay_one d ds (within_refl (es ++ rest))
places_in (q ∷ pre) p post {es} d (pay_one {es = fs} {gs = gs} e ds w) =
    pay_one e (places_in pre p post d ds) (within_trans (within_swap fs es gs) (within_append (within_refl es) w))

-- in more names, and with more casts
pub places_lifted : {cs cs' : List Cast} {env env' : Env} {fs : Effect} (ps : List Process) → Bounded cs env → ((c : Cast) → In c cs → In c cs') → ((x : ℕ) (t : Ty) → At env x t → At env' x t) → length env ≤ length env' → AllOver (length env) ps → EffectOver (length env) fs → PlacesPay cs env ps fs → PlacesPay cs' env' ps fs
places_lifted [] sc sub more le op oe pay_none = pay_none
places_lifted {env = env} (p ∷ ps) sc sub more le op oe (pay_one {es = es} {gs = gs} d ds w) =
    let o = OfEffect_within (MessageOver (length env) 0) w oe in
    pay_one
    (pays_lifted sc sub more le op.0 (OfEffect_within (MessageOver (length env) 0) (within_left es gs) o) d)
    (places_lifted ps sc sub more le op.1 (OfEffect_within (MessageOver (length env) 0) (within_right es gs) o) ds)
    w

-- the list about a place
pub place_split : {ps : List Process} {i : ℕ} {p : Process} → At ps i p → (pre : List Process) × (post : List Process) × (ps ≡ pre ++ p ∷ post) × ((q : Process) → slice_set ps i q ≡ pre ++ q ∷ post) × (length pre ≡ i)
place_split (at_first {xs = post}) = ([], post, refl, λ q. refl, refl)
place_split (at_later {y = r} i) = let (pre, post, e, f, l) = place_split i in (r ∷ pre, post, ap (λ l. r ∷ l) e, λ q. ap (λ l. r ∷ l) (f q), ap suc l)

pub at_split : {ps : List Process} {i : ℕ} {p : Process} → At ps i p → (pre : List Process) × (post : List Process) × (ps ≡ pre ++ p ∷ post) × ((q : Process) → slice_set ps i q ≡ pre ++ q ∷ post)
at_split b = let (pre, post, e, f, l) = place_split b in (pre, post, e, f)

pub all_over_out : (n : ℕ) (pre : List Process) (p : Process) (post : List Process) → AllOver n (pre ++ p ∷ post) → ProcessOver n p × AllOver n (pre ++ post)
all_over_out n [] p post h = (h.0, h.1)
all_over_out n (q ∷ pre) p post h = let r = all_over_out n pre p post h.1 in (r.0, (h.0, r.1))

pub all_over_in : (n : ℕ) (pre : List Process) (p : Process) (post : List Process) → ProcessOver n p → AllOver n (pre ++ post) → AllOver n (pre ++ p ∷ post)
all_over_in n [] p post o h = (o, h)
all_over_in n (q ∷ pre) p post o h = (h.0, all_over_in n pre p post o h.1)

pub all_over_append : (n : ℕ) (ps qs : List Process) → AllOver n ps → AllOver n qs → AllOver n (ps ++ qs)
all_over_append n [] qs h k = k
all_over_append n (p ∷ ps) qs h k = (h.0, all_over_append n ps qs h.1 k)

pub all_over_more : (n n' : ℕ) → n ≤ n' → (ps : List Process) → AllOver n ps → AllOver n' ps
all_over_more n n' le [] h = tt
all_over_more n n' le (p ∷ ps) h = (over_more_process n n' le 0 p h.0, all_over_more n n' le ps h.1)
