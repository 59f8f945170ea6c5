-- The uses of a typing all fit and pay.
use Rattle.std.proofs.Common.{◌≡◌, refl, sym, ap, ◌∙◌, subst, List, [], ◌∷◌, ◌++◌, length, append-nil, append_assoc}
use Rattle.spi_term.specs.Term.{Message, Effect, Ty, Process}
use Rattle.spi_rules.specs.Environment.{Env}
use Rattle.spi_rules.specs.Messages.{HasType, msg_name, msg_unit, msg_unit_un, msg_pair, msg_pair_un, msg_inl, msg_inl_un, msg_inr, msg_inr_un, msg_enc, msg_enc_un, msg_hash, msg_cast}
use Rattle.spi_rules.specs.Processes.{HasEffect, proc_stop, proc_out, proc_in, proc_repeat, proc_split, proc_split_un, proc_match, proc_match_un, proc_case, proc_case_un, proc_decrypt, proc_decrypt_un, proc_check, proc_check_un, proc_begin, proc_end, proc_end_many, proc_cast, proc_cast_un, proc_new, proc_par, proc_sub}
use Rattle.spi_rules.specs.Derivations.{RuleUse, type_uses, effect_uses, Proves}
use Rattle.spi_audit.specs.Fits.{Subject, of_message, of_process, Fits, fits_name, fits_unit, fits_unit_un, fits_pair, fits_pair_un, fits_inl, fits_inl_un, fits_inr, fits_inr_un, fits_enc, fits_enc_un, fits_hash, fits_stop, fits_out, fits_in, fits_repeat, fits_split, fits_split_un, fits_match, fits_match_un, fits_case, fits_case_un, fits_decrypt, fits_decrypt_un, fits_check, fits_check_un, fits_begin, fits_end, fits_end_many, fits_cast, fits_cast_un, fits_new, fits_par, fits_sub}
use Rattle.spi_audit.specs.Paying.{GivesEffects, gives_message, gives_stop, gives_out, gives_in, gives_repeat, gives_split, gives_split_un, gives_match, gives_match_un, gives_case, gives_case_un, gives_decrypt, gives_decrypt_un, gives_check, gives_check_un, gives_begin, gives_end, gives_end_many, gives_cast, gives_cast_un, gives_new, gives_par, gives_sub, PaysByUse, pays_message, pays_stop, pays_out, pays_in, pays_repeat, pays_split, pays_split_un, pays_match, pays_match_un, pays_case, pays_case_un, pays_decrypt, pays_decrypt_un, pays_check, pays_check_un, pays_begin, pays_end, pays_end_many, pays_cast, pays_cast_un, pays_new, pays_par, pays_sub}
use Rattle.spi_audit.specs.Audit.{Judged, judged_none, judged_use, AllPay}

-- each use fits and pays
abbrev pub Clear : List Subject → List RuleUse → List Effect → Type 0
Clear ss us es = (j : Judged ss us es) × AllPay j

clear_use : {u : RuleUse} {s : Subject} {ps ss : List Subject} {us : List RuleUse} {fs : List Effect} {e : Effect} (es : List Effect) → Fits u s ps → Clear (ps ++ ss) us (es ++ fs) → length es ≡ length ps → GivesEffects u s es e → PaysByUse u s es → Clear (s ∷ ss) (u ∷ us) (e ∷ fs)
clear_use es f c l g w = (judged_use f c.0 l g, (w, c.1))

-- the uses of two and of three premises before others
two : (s : List Subject) (e : List Effect) (u : RuleUse) (xs ys us : List RuleUse) → Clear s (u ∷ (xs ++ (ys ++ us))) e → Clear s (u ∷ ((xs ++ ys) ++ us)) e
two s e u xs ys us c = subst (λ l. Clear s (u ∷ l) e) (sym (append_assoc xs ys us)) c

three : (s : List Subject) (e : List Effect) (u : RuleUse) (xs ys zs us : List RuleUse) → Clear s (u ∷ (xs ++ (ys ++ (zs ++ us)))) e → Clear s (u ∷ ((xs ++ (ys ++ zs)) ++ us)) e
three s e u xs ys zs us c = subst (λ l. Clear s (u ∷ l) e) (sym (append_assoc xs (ys ++ zs) us ∙ ap (λ l. xs ++ l) (append_assoc ys zs us))) c

complete_type : {env : Env} {m : Message} {t : Ty} {ss : List Subject} {us : List RuleUse} {fs : List Effect} (h : HasType [] env m t) → Clear ss us fs → Clear (of_message env m t ∷ ss) (type_uses h ++ us) ([] ∷ fs)
complete_type (msg_name a q) c = clear_use [] (fits_name a q) c refl gives_message pays_message
complete_type msg_unit c = clear_use [] fits_unit c refl gives_message pays_message
complete_type msg_unit_un c = clear_use [] fits_unit_un c refl gives_message pays_message
complete_type (msg_pair h k) c = two _ _ _ (type_uses h) (type_uses k) _ (clear_use ([] ∷ [] ∷ []) fits_pair (complete_type h (complete_type k c)) refl gives_message pays_message)
complete_type (msg_pair_un h k) c = two _ _ _ (type_uses h) (type_uses k) _ (clear_use ([] ∷ [] ∷ []) fits_pair_un (complete_type h (complete_type k c)) refl gives_message pays_message)
complete_type (msg_inl h) c = clear_use ([] ∷ []) fits_inl (complete_type h c) refl gives_message pays_message
complete_type (msg_inl_un h) c = clear_use ([] ∷ []) fits_inl_un (complete_type h c) refl gives_message pays_message
complete_type (msg_inr h) c = clear_use ([] ∷ []) fits_inr (complete_type h c) refl gives_message pays_message
complete_type (msg_inr_un h) c = clear_use ([] ∷ []) fits_inr_un (complete_type h c) refl gives_message pays_message
complete_type (msg_enc h a) c = clear_use ([] ∷ []) (fits_enc a) (complete_type h c) refl gives_message pays_message
complete_type (msg_enc_un h k) c = two _ _ _ (type_uses h) (type_uses k) _ (clear_use ([] ∷ [] ∷ []) fits_enc_un (complete_type h (complete_type k c)) refl gives_message pays_message)
complete_type (msg_hash l) c = clear_use [] (fits_hash l) c refl gives_message pays_message
complete_type (msg_cast i s) c = elim i [ ]

pub complete : {env : Env} {p : Process} {es : Effect} {ss : List Subject} {us : List RuleUse} {fs : List Effect} (d : HasEffect [] env p es) → Clear ss us fs → Clear (of_process env p ∷ ss) (effect_uses d ++ us) (es ∷ fs)
complete proc_stop c = clear_use [] fits_stop c refl gives_stop pays_stop
complete (proc_out h k) c = two _ _ _ (type_uses h) (type_uses k) _ (clear_use ([] ∷ [] ∷ []) fits_out (complete_type h (complete_type k c)) refl gives_out pays_out)
complete (proc_in {es = es} h d a) c = two _ _ _ (type_uses h) (effect_uses d) _ (clear_use ([] ∷ es ∷ []) fits_in (complete_type h (complete d c)) refl gives_in (pays_in a))
complete (proc_repeat {es = es} h d m a) c = two _ _ _ (type_uses h) (effect_uses d) _ (clear_use ([] ∷ es ∷ []) fits_repeat (complete_type h (complete d c)) refl gives_repeat (pays_repeat m a))
complete (proc_split {es = es} h d g a b) c = two _ _ _ (type_uses h) (effect_uses d) _ (clear_use ([] ∷ es ∷ []) (fits_split g) (complete_type h (complete d c)) refl gives_split (pays_split a b))
complete (proc_split_un {es = es} h d a b) c = two _ _ _ (type_uses h) (effect_uses d) _ (clear_use ([] ∷ es ∷ []) fits_split_un (complete_type h (complete d c)) refl gives_split_un (pays_split_un a b))
complete (proc_match {es = es} h k d g a) c = three _ _ _ (type_uses h) (type_uses k) (effect_uses d) _ (clear_use ([] ∷ [] ∷ es ∷ []) (fits_match g) (complete_type h (complete_type k (complete d c))) refl gives_match (pays_match a))
complete (proc_match_un {es = es} h k d a) c = three _ _ _ (type_uses h) (type_uses k) (effect_uses d) _ (clear_use ([] ∷ [] ∷ es ∷ []) fits_match_un (complete_type h (complete_type k (complete d c))) refl gives_match_un (pays_match_un a))
complete (proc_case {es = es} {fs = fs} h d e g k a b r) c = three _ _ _ (type_uses h) (effect_uses d) (effect_uses e) _ (clear_use ([] ∷ es ∷ fs ∷ []) (fits_case g k) (complete_type h (complete d (complete e c))) refl (gives_case r) (pays_case a b))
complete (proc_case_un {es = es} {fs = fs} h d e a b r) c = three _ _ _ (type_uses h) (effect_uses d) (effect_uses e) _ (clear_use ([] ∷ es ∷ fs ∷ []) fits_case_un (complete_type h (complete d (complete e c))) refl (gives_case_un r) (pays_case_un a b))
complete (proc_decrypt {es = es} h k d g a) c = three _ _ _ (type_uses h) (type_uses k) (effect_uses d) _ (clear_use ([] ∷ [] ∷ es ∷ []) (fits_decrypt g) (complete_type h (complete_type k (complete d c))) refl gives_decrypt (pays_decrypt a))
complete (proc_decrypt_un {es = es} h k d a) c = three _ _ _ (type_uses h) (type_uses k) (effect_uses d) _ (clear_use ([] ∷ [] ∷ es ∷ []) fits_decrypt_un (complete_type h (complete_type k (complete d c))) refl gives_decrypt_un (pays_decrypt_un a))
complete (proc_check {es = es} h d n s r) c = two _ _ _ (type_uses h) (effect_uses d) _ (clear_use ([] ∷ es ∷ []) (fits_check n) (complete_type h (complete d c)) refl (gives_check n s r) pays_check)
complete (proc_check_un {es = es} h k d) c = three _ _ _ (type_uses h) (type_uses k) (effect_uses d) _ (clear_use ([] ∷ [] ∷ es ∷ []) fits_check_un (complete_type h (complete_type k (complete d c))) refl gives_check_un pays_check_un)
complete (proc_begin {es = es} d l r) c = clear_use (es ∷ []) (fits_begin l) (complete d c) refl (gives_begin r) pays_begin
complete (proc_end {es = es} d l r) c = clear_use (es ∷ []) (fits_end l) (complete d c) refl (gives_end r) pays_end
complete (proc_end_many {es = es} d l r) c = clear_use (es ∷ []) (fits_end_many l) (complete d c) refl (gives_end_many r) pays_end_many
complete (proc_cast {es = es} h d g a r) c = two _ _ _ (type_uses h) (effect_uses d) _ (clear_use ([] ∷ es ∷ []) (fits_cast g) (complete_type h (complete d c)) refl (gives_cast r) (pays_cast a))
complete (proc_cast_un {es = es} h d a) c = two _ _ _ (type_uses h) (effect_uses d) _ (clear_use ([] ∷ es ∷ []) fits_cast_un (complete_type h (complete d c)) refl gives_cast_un (pays_cast_un a))
complete (proc_new {es = es} d i g r a) c = clear_use (es ∷ []) (fits_new i g) (complete d c) refl (gives_new r) (pays_new r a)
complete (proc_par {es = es} {fs = fs} d e r) c = two _ _ _ (effect_uses d) (effect_uses e) _ (clear_use (es ∷ fs ∷ []) fits_par (complete d (complete e c)) refl (gives_par r) pays_par)
complete (proc_sub {es = es} d w g) c = clear_use (es ∷ []) (fits_sub g) (complete d c) refl gives_sub (pays_sub w)

-- what a list of uses proves is judged so
pub proves_clear : {us : List RuleUse} {env : Env} {p : Process} {es : Effect} → (h : Proves us env p es) → Clear (of_process env p ∷ []) us (h.effect ∷ [])
proves_clear {env = env} {p = p} h =
    let c : Clear [] [] [] = (judged_none, tt) in
    subst (λ us. Clear (of_process env p ∷ []) us (h.effect ∷ [])) (append-nil (effect_uses h.has) ∙ h.are) (complete h.has c)
