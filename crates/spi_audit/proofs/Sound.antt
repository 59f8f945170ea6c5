-- Uses that all fit and pay are the uses of typings.
use Rattle.std.proofs.Common.{◌≡◌, refl, sym, ap, ◌∙◌, subst, List, [], ◌∷◌, ◌++◌, length, arith, append-nil, append_assoc}
use Rattle.spi_term.specs.Term.{Effect}
use Rattle.spi_effect.specs.Effect.{IsDifference}
use Rattle.spi_term.specs.Counts.{SameEffect}
use Rattle.spi_rules.specs.Messages.{HasType, msg_name, msg_unit, msg_unit_un, msg_pair, msg_pair_un, msg_inl, msg_inl_un, msg_inr, msg_inr_un, msg_enc, msg_enc_un, msg_hash}
use Rattle.spi_rules.specs.Processes.{HasEffect, proc_stop, proc_out, proc_in, proc_repeat, proc_split, proc_split_un, proc_match, proc_match_un, proc_case, proc_case_un, proc_decrypt, proc_decrypt_un, proc_check, proc_check_un, proc_begin, proc_end, proc_end_many, proc_cast, proc_cast_un, proc_new, proc_par, proc_sub}
use Rattle.spi_rules.specs.Derivations.{RuleUse, type_uses, effect_uses}
use Rattle.spi_audit.specs.Fits.{Subject, of_message, of_process, Fits, fits_name, fits_unit, fits_unit_un, fits_pair, fits_pair_un, fits_inl, fits_inl_un, fits_inr, fits_inr_un, fits_enc, fits_enc_un, fits_hash, fits_stop, fits_out, fits_in, fits_repeat, fits_split, fits_split_un, fits_match, fits_match_un, fits_case, fits_case_un, fits_decrypt, fits_decrypt_un, fits_check, fits_check_un, fits_begin, fits_end, fits_end_many, fits_cast, fits_cast_un, fits_new, fits_par, fits_sub}
use Rattle.spi_audit.specs.Paying.{GivesEffects, gives_stop, gives_out, gives_in, gives_repeat, gives_split, gives_split_un, gives_match, gives_match_un, gives_case, gives_case_un, gives_decrypt, gives_decrypt_un, gives_check, gives_check_un, gives_begin, gives_end, gives_end_many, gives_cast, gives_cast_un, gives_new, gives_par, gives_sub, PaysByUse, pays_stop, pays_out, pays_in, pays_repeat, pays_split, pays_split_un, pays_match, pays_match_un, pays_case, pays_case_un, pays_decrypt, pays_decrypt_un, pays_check, pays_check_un, pays_begin, pays_end, pays_end_many, pays_cast, pays_cast_un, pays_new, pays_par, pays_sub}
use Rattle.spi_audit.specs.Audit.{Judged, judged_none, judged_use, AllPay}
use Rattle.spi_audit.proofs.Agreeing.{avoids_same}

-- the uses are those of a typing
abbrev pub Typed : Subject → Effect → List RuleUse → Type 0
Typed (of_message env m t) e us = (h : HasType [] env m t) × (type_uses h ≡ us)
Typed (of_process env p) e us = (h : HasEffect [] env p e) × (effect_uses h ≡ us)

pub data AllTyped : List Subject → List Effect → List RuleUse → Type 0 where
  typed_none : AllTyped [] [] []
  typed_next : {s : Subject} {e : Effect} (us : List RuleUse) {vs : List RuleUse} {ss : List Subject} {es : List Effect}
      → Typed s e us → AllTyped ss es vs → AllTyped (s ∷ ss) (e ∷ es) (us ++ vs)

record Parted (ps ss : List Subject) (es fs : List Effect) (us : List RuleUse) : Type 0 where
  front : List RuleUse
  rest : List RuleUse
  of_front : AllTyped ps es front
  of_rest : AllTyped ss fs rest
  are : us ≡ front ++ rest

part : (ps : List Subject) {ss : List Subject} (es : List Effect) {fs : List Effect} {us : List RuleUse} → length es ≡ length ps → AllTyped (ps ++ ss) (es ++ fs) us → Parted ps ss es fs us
part [] [] {us = us} l t = record { front = []; rest = us; of_front = typed_none; of_rest = t; are = refl }
part [] (e ∷ es) l t = absurd (omega (arith, l))
part (p ∷ ps) [] l t = absurd (omega (arith, l))
part (p ∷ ps) (e ∷ es) l (typed_next us h t) =
    let r = part ps es (omega (arith, l)) t in
    record { front = us ++ r.front; rest = r.rest; of_front = typed_next us h r.of_front; of_rest = r.of_rest; are = ap (λ l. us ++ l) r.are ∙ sym (append_assoc us r.front r.rest) }

-- the uses of one, two and three premises
one : {u : RuleUse} {xs us : List RuleUse} → xs ≡ us → u ∷ xs ≡ u ∷ (us ++ [])
one {u} {us = us} e = ap (λ l. u ∷ l) (e ∙ sym (append-nil us))

two : {u : RuleUse} {xs us bs vs : List RuleUse} → xs ≡ us → bs ≡ vs → u ∷ (xs ++ bs) ≡ u ∷ (us ++ (vs ++ []))
two {u} {us = us} {bs = bs} {vs = vs} e f = ap (λ l. u ∷ (l ++ bs)) e ∙ ap (λ l. u ∷ (us ++ l)) (f ∙ sym (append-nil vs))

three : {u : RuleUse} {xs us bs vs cs ws : List RuleUse} → xs ≡ us → bs ≡ vs → cs ≡ ws → u ∷ (xs ++ (bs ++ cs)) ≡ u ∷ (us ++ (vs ++ (ws ++ [])))
three {u} {us = us} {bs = bs} {vs = vs} {cs = cs} {ws = ws} e f g = ap (λ l. u ∷ (l ++ (bs ++ cs))) e ∙ ap (λ l. u ∷ (us ++ (l ++ cs))) f ∙ ap (λ l. u ∷ (us ++ (vs ++ l))) (g ∙ sym (append-nil ws))

difference_is : {rs ds es fs : Effect} → IsDifference rs es fs → IsDifference ds es fs → SameEffect rs ds
difference_is r s = record { at = λ a. r.at a ∙ sym (s.at a) }

typed_by : {u : RuleUse} {s : Subject} {ps : List Subject} {es : List Effect} {e : Effect} {us : List RuleUse} → Fits u s ps → AllTyped ps es us → GivesEffects u s es e → PaysByUse u s es → Typed s e (u ∷ us)
typed_by (fits_name a q) typed_none g w = (msg_name a q, refl)
typed_by fits_unit typed_none g w = (msg_unit, refl)
typed_by fits_unit_un typed_none g w = (msg_unit_un, refl)
typed_by fits_pair (typed_next _ h (typed_next _ k typed_none)) g w = (msg_pair h.0 k.0, two h.1 k.1)
typed_by fits_pair_un (typed_next _ h (typed_next _ k typed_none)) g w = (msg_pair_un h.0 k.0, two h.1 k.1)
typed_by fits_inl (typed_next _ h typed_none) g w = (msg_inl h.0, one h.1)
typed_by fits_inl_un (typed_next _ h typed_none) g w = (msg_inl_un h.0, one h.1)
typed_by fits_inr (typed_next _ h typed_none) g w = (msg_inr h.0, one h.1)
typed_by fits_inr_un (typed_next _ h typed_none) g w = (msg_inr_un h.0, one h.1)
typed_by (fits_enc a) (typed_next _ h typed_none) g w = (msg_enc h.0 a, one h.1)
typed_by fits_enc_un (typed_next _ h (typed_next _ k typed_none)) g w = (msg_enc_un h.0 k.0, two h.1 k.1)
typed_by (fits_hash l) typed_none g w = (msg_hash l, refl)
typed_by fits_stop typed_none gives_stop pays_stop = (proc_stop, refl)
typed_by fits_out (typed_next _ h (typed_next _ k typed_none)) gives_out pays_out = (proc_out h.0 k.0, two h.1 k.1)
typed_by fits_in (typed_next _ h (typed_next _ k typed_none)) gives_in (pays_in a) = (proc_in h.0 k.0 a, two h.1 k.1)
typed_by fits_repeat (typed_next _ h (typed_next _ k typed_none)) gives_repeat (pays_repeat m a) = (proc_repeat h.0 k.0 m a, two h.1 k.1)
typed_by (fits_split g) (typed_next _ h (typed_next _ k typed_none)) gives_split (pays_split a b) = (proc_split h.0 k.0 g a b, two h.1 k.1)
typed_by fits_split_un (typed_next _ h (typed_next _ k typed_none)) gives_split_un (pays_split_un a b) = (proc_split_un h.0 k.0 a b, two h.1 k.1)
typed_by (fits_match g) (typed_next _ h (typed_next _ k (typed_next _ d typed_none))) gives_match (pays_match a) = (proc_match h.0 k.0 d.0 g a, three h.1 k.1 d.1)
typed_by fits_match_un (typed_next _ h (typed_next _ k (typed_next _ d typed_none))) gives_match_un (pays_match_un a) = (proc_match_un h.0 k.0 d.0 a, three h.1 k.1 d.1)
typed_by (fits_case g j) (typed_next _ h (typed_next _ k (typed_next _ d typed_none))) (gives_case r) (pays_case a b) = (proc_case h.0 k.0 d.0 g j a b r, three h.1 k.1 d.1)
typed_by fits_case_un (typed_next _ h (typed_next _ k (typed_next _ d typed_none))) (gives_case_un r) (pays_case_un a b) = (proc_case_un h.0 k.0 d.0 a b r, three h.1 k.1 d.1)
typed_by (fits_decrypt g) (typed_next _ h (typed_next _ k (typed_next _ d typed_none))) gives_decrypt (pays_decrypt a) = (proc_decrypt h.0 k.0 d.0 g a, three h.1 k.1 d.1)
typed_by fits_decrypt_un (typed_next _ h (typed_next _ k (typed_next _ d typed_none))) gives_decrypt_un (pays_decrypt_un a) = (proc_decrypt_un h.0 k.0 d.0 a, three h.1 k.1 d.1)
typed_by (fits_check n) (typed_next _ h (typed_next _ k typed_none)) (gives_check o s r) pays_check = (proc_check h.0 k.0 o s r, two h.1 k.1)
typed_by fits_check_un (typed_next _ h (typed_next _ k (typed_next _ d typed_none))) gives_check_un pays_check_un = (proc_check_un h.0 k.0 d.0, three h.1 k.1 d.1)
typed_by (fits_begin l) (typed_next _ h typed_none) (gives_begin r) pays_begin = (proc_begin h.0 l r, one h.1)
typed_by (fits_end l) (typed_next _ h typed_none) (gives_end r) pays_end = (proc_end h.0 l r, one h.1)
typed_by (fits_end_many l) (typed_next _ h typed_none) (gives_end_many r) pays_end_many = (proc_end_many h.0 l r, one h.1)
typed_by (fits_cast g) (typed_next _ h (typed_next _ k typed_none)) (gives_cast r) (pays_cast a) = (proc_cast h.0 k.0 g a r, two h.1 k.1)
typed_by fits_cast_un (typed_next _ h (typed_next _ k typed_none)) gives_cast_un (pays_cast_un a) = (proc_cast_un h.0 k.0 a, two h.1 k.1)
typed_by (fits_new {env = env} i g) (typed_next _ h typed_none) (gives_new r) (pays_new s a) = (proc_new h.0 i g r (avoids_same (length env) (difference_is s r) a), one h.1)
typed_by fits_par (typed_next _ h (typed_next _ k typed_none)) (gives_par r) pays_par = (proc_par h.0 k.0 r, two h.1 k.1)
typed_by (fits_sub g) (typed_next _ h typed_none) gives_sub (pays_sub w) = (proc_sub h.0 w g, one h.1)

pub sound : {ss : List Subject} {us : List RuleUse} {es : List Effect} (j : Judged ss us es) → AllPay j → AllTyped ss es us
sound judged_none a = typed_none
sound (judged_use {u} {s} {ps} {ss} {es = es} {fs = fs} {e = e} f j l g) a =
    let r = part ps es l (sound j a.1) in
    subst (λ l. AllTyped (s ∷ ss) (e ∷ fs) (u ∷ l)) (sym r.are) (typed_next (u ∷ r.front) (typed_by f r.of_front g a.0) r.of_rest)

-- one subject has its typing
alone : {s : Subject} {e : Effect} {us : List RuleUse} → AllTyped (s ∷ []) (e ∷ []) us → Typed s e us
alone {s} {e} (typed_next us h typed_none) = subst (Typed s e) (sym (append-nil us)) h

pub sound_one : {s : Subject} {e : Effect} {us : List RuleUse} (j : Judged (s ∷ []) us (e ∷ [])) → AllPay j → Typed s e us
sound_one j a = alone (sound j a)
