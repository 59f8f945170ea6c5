-- Judgements of the same uses agree: on the effects up to equal counts, on where a use doesn't fit, and on which doesn't pay.
use Rattle.std.proofs.Common.{◌≡◌, refl, sym, ap, ◌∙◌, subst, ℕ, zero, suc, ◌+◌, List, [], ◌∷◌, ◌++◌, length, arith}
use Rattle.spi_term.specs.Term.{Message, Effect}
use Rattle.spi_term.specs.Counts.{SameEffect}
use Rattle.spi_term.specs.Names.{Avoids, EffectAvoids}
use Rattle.spi_effect.specs.Effect.{IsDifference}
use Rattle.spi_effect.proofs.Laws.{same_refl, same_sym, same_within, within_trans, OfEffect_within, AllMany_within, sum_one, difference_one, greater_one}
use Rattle.spi_rules.specs.Environment.{Env}
use Rattle.spi_rules.specs.Processes.{IsNonce}
use Rattle.spi_rules.specs.Derivations.{RuleUse}
use Rattle.spi_rules.proofs.Determined.{nonce_one}
use Rattle.spi_audit.specs.Fits.{Subject, Fits}
use Rattle.spi_audit.specs.Paying.{GivesEffects, gives_message, gives_stop, gives_out, gives_in, gives_repeat, gives_split, gives_split_un, gives_match, gives_match_un, gives_case, gives_case_un, gives_decrypt, gives_decrypt_un, gives_check, gives_check_un, gives_begin, gives_end, gives_end_many, gives_cast, gives_cast_un, gives_new, gives_par, gives_sub, PaysByUse, pays_message, pays_stop, pays_out, pays_in, pays_repeat, pays_split, pays_split_un, pays_match, pays_match_un, pays_case, pays_case_un, pays_decrypt, pays_decrypt_un, pays_check, pays_check_un, pays_begin, pays_end, pays_end_many, pays_cast, pays_cast_un, pays_new, pays_par, pays_sub}
use Rattle.spi_audit.specs.Audit.{MisfitAt, misfit_here, misfit_later, Judged, judged_none, judged_use, AllPay, FirstUnpaid}
use Rattle.spi_audit.proofs.Fitted.{fits_one}

-- effects with equal counts, one by one
pub data AllSame : List Effect → List Effect → Type 0 where
  same_none : AllSame [] []
  same_next : {e f : Effect} {es fs : List Effect} → SameEffect e f → AllSame es fs → AllSame (e ∷ es) (f ∷ fs)

pub record SameParts (es fs gs hs : List Effect) : Type 0 where
  pub front : AllSame es fs
  pub rest : AllSame gs hs

pub all_split : (es fs : List Effect) {gs hs : List Effect} → length es ≡ length fs → AllSame (es ++ gs) (fs ++ hs) → SameParts es fs gs hs
all_split [] [] l a = record { front = same_none; rest = a }
all_split [] (f ∷ fs) l a = absurd (omega (arith, l))
all_split (e ∷ es) [] l a = absurd (omega (arith, l))
all_split (e ∷ es) (f ∷ fs) l (same_next h a) =
    let r = all_split es fs (omega (arith, l)) a in
    record { front = same_next h r.front; rest = r.rest }

pub all_sym : {es fs : List Effect} → AllSame es fs → AllSame fs es
all_sym same_none = same_none
all_sym (same_next h a) = same_next (same_sym h) (all_sym a)

-- equal counts from equal counts
difference_same : {rs es es' fs : Effect} → IsDifference rs es fs → SameEffect es es' → IsDifference rs es' fs
difference_same s e = record { at = λ a. omega (arith, s.at a, e.at a) }

nonce_same : {env : Env} {m : Message} {fs gs : Effect} → IsNonce [] env m fs → IsNonce [] env m gs → SameEffect fs gs
nonce_same {fs = fs} n o = subst (λ gs. SameEffect fs gs) (nonce_one n o) (same_refl fs)

pub gives_one : {u : RuleUse} {s : Subject} {es es' : List Effect} {e e' : Effect} → GivesEffects u s es e → GivesEffects u s es' e' → AllSame es es' → SameEffect e e'
gives_one gives_message gives_message a = same_refl []
gives_one gives_stop gives_stop a = same_refl []
gives_one gives_out gives_out a = same_refl []
gives_one gives_in gives_in (same_next h (same_next k same_none)) = k
gives_one gives_repeat gives_repeat (same_next h (same_next k same_none)) = k
gives_one gives_split gives_split (same_next h (same_next k same_none)) = k
gives_one gives_split_un gives_split_un (same_next h (same_next k same_none)) = k
gives_one gives_match gives_match (same_next h (same_next i (same_next k same_none))) = k
gives_one gives_match_un gives_match_un (same_next h (same_next i (same_next k same_none))) = k
gives_one (gives_case r) (gives_case s) (same_next h (same_next i (same_next k same_none))) = greater_one r s i k
gives_one (gives_case_un r) (gives_case_un s) (same_next h (same_next i (same_next k same_none))) = greater_one r s i k
gives_one gives_decrypt gives_decrypt (same_next h (same_next i (same_next k same_none))) = k
gives_one gives_decrypt_un gives_decrypt_un (same_next h (same_next i (same_next k same_none))) = k
gives_one (gives_check {m = m} n d r) (gives_check o e s) (same_next h (same_next k same_none)) = sum_one r s (difference_one d e k (nonce_same n o)) (same_refl _)
gives_one gives_check_un gives_check_un (same_next h (same_next i (same_next k same_none))) = k
gives_one (gives_begin r) (gives_begin s) (same_next k same_none) = difference_one r s k (same_refl _)
gives_one (gives_end r) (gives_end s) (same_next k same_none) = sum_one r s k (same_refl _)
gives_one (gives_end_many r) (gives_end_many s) (same_next k same_none) = sum_one r s k (same_refl _)
gives_one (gives_cast {fs = fs} r) (gives_cast s) (same_next h (same_next k same_none)) = sum_one r s k (same_refl fs)
gives_one gives_cast_un gives_cast_un (same_next h (same_next k same_none)) = k
gives_one (gives_new r) (gives_new s) (same_next k same_none) = difference_one r s k (same_refl _)
gives_one (gives_par r) (gives_par s) (same_next h (same_next k same_none)) = sum_one r s h k
gives_one (gives_sub {fs = fs}) gives_sub a = same_refl fs

pub avoids_same : (x : ℕ) {es fs : Effect} → SameEffect es fs → EffectAvoids x es → EffectAvoids x fs
avoids_same x h a = OfEffect_within (Avoids x) (same_within (same_sym h)) a

pub pays_same : {u : RuleUse} {s : Subject} {es es' : List Effect} → PaysByUse u s es → AllSame es es' → PaysByUse u s es'
pays_same (pays_in {env = env} a) (same_next h (same_next k same_none)) = pays_in (avoids_same (length env) k a)
pays_same (pays_repeat {env = env} m a) (same_next h (same_next k same_none)) = pays_repeat (AllMany_within (same_within (same_sym k)) m) (avoids_same (length env) k a)
pays_same (pays_split {env = env} a b) (same_next h (same_next k same_none)) = pays_split (avoids_same (length env) k a) (avoids_same (suc (length env)) k b)
pays_same (pays_split_un {env = env} a b) (same_next h (same_next k same_none)) = pays_split_un (avoids_same (length env) k a) (avoids_same (suc (length env)) k b)
pays_same (pays_match {env = env} a) (same_next h (same_next i (same_next k same_none))) = pays_match (avoids_same (length env) k a)
pays_same (pays_match_un {env = env} a) (same_next h (same_next i (same_next k same_none))) = pays_match_un (avoids_same (length env) k a)
pays_same (pays_case {env = env} a b) (same_next h (same_next i (same_next k same_none))) = pays_case (avoids_same (length env) i a) (avoids_same (length env) k b)
pays_same (pays_case_un {env = env} a b) (same_next h (same_next i (same_next k same_none))) = pays_case_un (avoids_same (length env) i a) (avoids_same (length env) k b)
pays_same (pays_decrypt {env = env} a) (same_next h (same_next i (same_next k same_none))) = pays_decrypt (avoids_same (length env) k a)
pays_same (pays_decrypt_un {env = env} a) (same_next h (same_next i (same_next k same_none))) = pays_decrypt_un (avoids_same (length env) k a)
pays_same (pays_cast {env = env} a) (same_next h (same_next k same_none)) = pays_cast (avoids_same (length env) k a)
pays_same (pays_cast_un {env = env} a) (same_next h (same_next k same_none)) = pays_cast_un (avoids_same (length env) k a)
pays_same (pays_new r a) (same_next k same_none) = pays_new (difference_same r k) a
pays_same (pays_sub w) (same_next k same_none) = pays_sub (within_trans (same_within (same_sym k)) w)
pays_same pays_message a = pays_message
pays_same pays_stop a = pays_stop
pays_same pays_out a = pays_out
pays_same pays_check a = pays_check
pays_same pays_check_un a = pays_check_un
pays_same pays_begin a = pays_begin
pays_same pays_end a = pays_end
pays_same pays_end_many a = pays_end_many
pays_same pays_par a = pays_par

-- the first subject, and the others
first_is : {s t : Subject} {ss ts : List Subject} → s ∷ ss ≡ t ∷ ts → s ≡ t
first_is e = cc

others_are : {s t : Subject} {ss ts : List Subject} → s ∷ ss ≡ t ∷ ts → ss ≡ ts
others_are e = cc

-- the premises of one use, whichever way it was seen to fit
premises_are : {u : RuleUse} {s t : Subject} {ps qs ss ts : List Subject} → s ∷ ss ≡ t ∷ ts → Fits u s ps → Fits u t qs → ps ≡ qs
premises_are {u} {ps = ps} {qs = qs} e f g = fits_one f (subst (λ s. Fits u s qs) (sym (first_is e)) g)

behind_are : {u : RuleUse} {s t : Subject} {ps qs ss ts : List Subject} → s ∷ ss ≡ t ∷ ts → Fits u s ps → Fits u t qs → ps ++ ss ≡ qs ++ ts
behind_are {qs = qs} {ss = ss} {ts = ts} e f g = ap (λ l. l ++ ss) (premises_are e f g) ∙ ap (λ l. qs ++ l) (others_are e)

as_many : (es es' : List Effect) {ps qs : List Subject} → length es ≡ length ps → length es' ≡ length qs → ps ≡ qs → length es ≡ length es'
as_many es es' l k e = l ∙ (ap length e ∙ sym k)

pub judged_same : {ss ts : List Subject} {us : List RuleUse} {es fs : List Effect} → ss ≡ ts → Judged ss us es → Judged ts us fs → AllSame es fs
judged_same e judged_none judged_none = same_none
judged_same e (judged_use {u} {s} {ps} {es = es} {e = x} f j l g) (judged_use {s = t} {ps = qs} {es = es'} {e = y} f' j' l' g') =
    let r = all_split es es' (as_many es es' l l' (premises_are e f f')) (judged_same (behind_are e f f') j j') in
    same_next (gives_one g (subst (λ s. GivesEffects u s es' y) (sym (first_is e)) g') r.front) r.rest

-- the effects of the premises, and of what stands behind them
behind_same : {u : RuleUse} {s t : Subject} {ps qs ss ts : List Subject} {us : List RuleUse} {es es' fs fs' : List Effect} → s ∷ ss ≡ t ∷ ts
    → Fits u s ps → Judged (ps ++ ss) us (es ++ fs) → length es ≡ length ps
    → Fits u t qs → Judged (qs ++ ts) us (es' ++ fs') → length es' ≡ length qs → SameParts es es' fs fs'
behind_same {es = es} {es' = es'} e f j l f' j' l' = all_split es es' (as_many es es' l l' (premises_are e f f')) (judged_same (behind_are e f f') j j')

-- where all pay, none is the first that doesn't
pub none_unpaid : {ss ts : List Subject} {us : List RuleUse} {es fs : List Effect} (i : ℕ) → ss ≡ ts → (j : Judged ss us es) (k : Judged ts us fs) → AllPay j → FirstUnpaid k i → ⊥
none_unpaid i e judged_none judged_none a h = h
none_unpaid zero e (judged_use {u} {s} {es = es} f j l g) (judged_use {s = t} {es = es'} f' j' l' g') a h =
    h (subst (λ s. PaysByUse u s es') (first_is e) (pays_same a.0 (behind_same e f j l f' j' l').front))
none_unpaid (suc i) e (judged_use f j l g) (judged_use f' j' l' g') a h = none_unpaid i (behind_are e f f') j j' a.1 h.1

pub unpaid_one : {ss ts : List Subject} {us : List RuleUse} {es fs : List Effect} (i n : ℕ) → ss ≡ ts → (j : Judged ss us es) (k : Judged ts us fs) → FirstUnpaid j i → FirstUnpaid k n → i ≡ n
unpaid_one i n e judged_none judged_none h k = absurd h
unpaid_one zero zero e (judged_use f j l g) (judged_use f' j' l' g') h k = refl
unpaid_one zero (suc n) e (judged_use {u} {s} {es = es} f j l g) (judged_use {s = t} {es = es'} f' j' l' g') h k =
    absurd (h (subst (λ s. PaysByUse u s es) (sym (first_is e)) (pays_same k.0 (all_sym (behind_same e f j l f' j' l').front))))
unpaid_one (suc i) zero e (judged_use {u} {s} {es = es} f j l g) (judged_use {s = t} {es = es'} f' j' l' g') h k =
    absurd (k (subst (λ s. PaysByUse u s es') (first_is e) (pays_same h.0 (behind_same e f j l f' j' l').front)))
unpaid_one (suc i) (suc n) e (judged_use f j l g) (judged_use f' j' l' g') h k = ap suc (unpaid_one i n (behind_are e f f') j j' h.1 k.1)

-- uses that all fit have none that doesn't, and there is one first that doesn't
pub misfit_judged : {ss ts : List Subject} {us : List RuleUse} {es : List Effect} {i : ℕ} → ss ≡ ts → MisfitAt ss us i → Judged ts us es → ⊥
misfit_judged e (misfit_here {u = u} h) (judged_use {ps = ps} f j l g) = h ps (subst (λ s. Fits u s ps) (sym (first_is e)) f)
misfit_judged e (misfit_later f m) (judged_use f' j l g) = misfit_judged (behind_are e f f') m j

pub misfit_one : {ss ts : List Subject} {us : List RuleUse} {i n : ℕ} → ss ≡ ts → MisfitAt ss us i → MisfitAt ts us n → i ≡ n
misfit_one e (misfit_here h) (misfit_here k) = refl
misfit_one e (misfit_here {u = u} h) (misfit_later {ps = ps} f m) = absurd (h ps (subst (λ s. Fits u s ps) (sym (first_is e)) f))
misfit_one e (misfit_later {u = u} {ps = ps} f m) (misfit_here h) = absurd (h ps (subst (λ s. Fits u s ps) (first_is e) f))
misfit_one e (misfit_later f m) (misfit_later f' m') = ap suc (misfit_one (behind_are e f f') m m')
