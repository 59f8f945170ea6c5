-- A process that pays has a canonical typing, of an effect within what it pays with.
use Rattle.std.proofs.Common.{◌≡◌, suc, Bool, true, false, [], ◌∷◌, ◌++◌, length, refl, sym, ◌∙◌, arith}
use Rattle.std.proofs.lemmas.Bool.{false≢true}
use Rattle.spi_term.specs.Term.{Message, name, ends, checks, many, Effect, Ty, un, pair_ty, sum_ty, key, Process, split, select, branch, decrypt, check}
use Rattle.spi_term.specs.Names.{Avoids, EffectAvoids}
use Rattle.spi_effect.specs.Effect.{Within, IsGreater}
use Rattle.spi_effect.proofs.Laws.{within_refl, within_trans, within_append, within_tally, within_difference, greater_within, sum_append, OfEffect_within, AllMany_within}
use Rattle.spi_effect.specs.Made.{minus, greater}
use Rattle.spi_effect.proofs.Made.{minus_difference, greater_is}
use Rattle.spi_rules.specs.Environment.{Env, extended, opened, opened_two}
use Rattle.spi_rules.specs.Messages.{HasType}
use Rattle.spi_rules.specs.Good.{good_un, good_pair}
use Rattle.spi_rules.specs.Processes.{HasEffect, IsNonce, proc_stop, proc_out, proc_in, proc_repeat, proc_split, proc_split_un, proc_match, proc_match_un, proc_case, proc_case_un, proc_decrypt, proc_decrypt_un, proc_check, proc_check_un, proc_begin, proc_end, proc_end_many, proc_cast, proc_cast_un, proc_new, proc_par, proc_sub}
use Rattle.spi_rules.proofs.Paying.{Pays, pays_stop, pays_out, pays_in, pays_repeat, pays_split, pays_split_un, pays_match, pays_match_un, pays_case, pays_case_un, pays_decrypt, pays_decrypt_un, pays_check, pays_check_un, pays_begin, pays_end, pays_end_many, pays_cast, pays_cast_un, pays_new, pays_par, flip}
use Rattle.spi_message.specs.Tests.{typed}
use Rattle.spi_message.proofs.Deciding.{typed_true, typed_from}
use Rattle.spi_deriv.specs.Canonical.{IsTypedProcess, HasNoTyped, IsCanonical}
use Rattle.spi_deriv.proofs.Written.{every, key_or_un, nonce_or_un}

-- a canonical typing, of an effect within fs
abbrev pub IsChosenEffect : Env → Process → Effect → Type 0
IsChosenEffect e p fs = (es : Effect) × (d : HasEffect [] e p es) × Within es fs × IsCanonical d

-- what a typed rule asks, where its Un form is there too
pub split_typed : {e : Env} {m : Message} {t u : Ty} {p : Process} {es : Effect} (d : HasEffect [] e (split m t u p) es) → IsTypedProcess d → HasType [] e m (pair_ty t u)
split_typed (proc_split h d g a b) i = h
split_typed (proc_split_un h d a b) i = absurd i
split_typed (proc_sub d w g) i = absurd i

pub select_typed : {e : Env} {m n : Message} {t u : Ty} {p : Process} {es : Effect} (d : HasEffect [] e (select m t n u p) es) → IsTypedProcess d → HasType [] e m (pair_ty t u)
select_typed (proc_match h k d g a) i = h
select_typed (proc_match_un h k d a) i = absurd i
select_typed (proc_sub d w g) i = absurd i

pub branch_typed : {e : Env} {m : Message} {t u : Ty} {p q : Process} {es : Effect} (d : HasEffect [] e (branch m t p u q) es) → IsTypedProcess d → HasType [] e m (sum_ty t u)
branch_typed (proc_case h d f g k a b r) i = h
branch_typed (proc_case_un h d f a b r) i = absurd i
branch_typed (proc_sub d w g) i = absurd i

decrypt_typed : {e : Env} {m n : Message} {t : Ty} {p : Process} {es : Effect} (d : HasEffect [] e (decrypt m t n p) es) → IsTypedProcess d → HasType [] e n (key t)
decrypt_typed (proc_decrypt h k d g a) i = k
decrypt_typed (proc_decrypt_un h k d a) i = absurd i
decrypt_typed (proc_sub d w g) i = absurd i

check_typed : {e : Env} {m n : Message} {p : Process} {es : Effect} (d : HasEffect [] e (check m n p) es) → IsTypedProcess d → (fs : Effect) × IsNonce [] e n fs
check_typed (proc_check {fs = fs} h d n s r) i = (fs, n)
check_typed (proc_check_un h k d) i = absurd i
check_typed (proc_sub d w g) i = absurd i

no_split : {e : Env} {m : Message} {p : Process} → typed m e (pair_ty un un) ≡ false → HasNoTyped e (split m un un p)
no_split q = λ es d i. false≢true (sym q ∙ typed_from (split_typed d i))

no_select : {e : Env} {m n : Message} {p : Process} → typed m e (pair_ty un un) ≡ false → HasNoTyped e (select m un n un p)
no_select q = λ es d i. false≢true (sym q ∙ typed_from (select_typed d i))

no_branch : {e : Env} {m : Message} {p q : Process} → typed m e (sum_ty un un) ≡ false → HasNoTyped e (branch m un p un q)
no_branch q = λ es d i. false≢true (sym q ∙ typed_from (branch_typed d i))

no_decrypt : {e : Env} {m n : Message} {p : Process} → HasType [] e n un → HasNoTyped e (decrypt m un n p)
no_decrypt k = λ es d i. key_or_un (decrypt_typed d i) k

no_check : {e : Env} {m n : Message} {p : Process} → HasType [] e n un → HasNoTyped e (check m n p)
no_check k = λ es d i. nonce_or_un (check_typed d i).1 k

-- the typed rule where it is there, else its Un form
split_chosen : {e : Env} {m : Message} {p : Process} {es fs : Effect} (b : Bool) → typed m e (pair_ty un un) ≡ b → HasType [] e m un → (d : HasEffect [] (extended (extended e un) un) (opened_two e p) es) → IsCanonical d → EffectAvoids (length e) es → EffectAvoids (suc (length e)) es → Within es fs → IsChosenEffect e (split m un un p) fs
split_chosen {e} {m} {p} {es} true q h d c a b w = let k = typed_true m e (pair_ty un un) q in (es, proc_split k d (good_pair good_un good_un) a b, w, (every k, c))
split_chosen {e} {m} {p} {es} false q h d c a b w = (es, proc_split_un h d a b, w, (no_split q, every h, c))

select_chosen : {e : Env} {m n : Message} {p : Process} {es fs : Effect} (b : Bool) → typed m e (pair_ty un un) ≡ b → HasType [] e m un → HasType [] e n un → (d : HasEffect [] (extended e un) (opened e p) es) → IsCanonical d → EffectAvoids (length e) es → Within es fs → IsChosenEffect e (select m un n un p) fs
select_chosen {e} {m} {n} {p} {es} true q h k d c a w = let l = typed_true m e (pair_ty un un) q in (es, proc_match l k d (good_pair good_un good_un) a, w, (every l, every k, c))
select_chosen {e} {m} {n} {p} {es} false q h k d c a w = (es, proc_match_un h k d a, w, (no_select q, every h, every k, c))

branch_chosen : {e : Env} {m : Message} {p q : Process} {es gs rs fs : Effect} (b : Bool) → typed m e (sum_ty un un) ≡ b → HasType [] e m un → (d : HasEffect [] (extended e un) (opened e p) es) → IsCanonical d → (f : HasEffect [] (extended e un) (opened e q) gs) → IsCanonical f → EffectAvoids (length e) es → EffectAvoids (length e) gs → IsGreater rs es gs → Within rs fs → IsChosenEffect e (branch m un p un q) fs
branch_chosen {e} {m} {p} {q} {es} {gs} {rs} true o h d c f k a b r w = let l = typed_true m e (sum_ty un un) o in (rs, proc_case l d f good_un good_un a b r, w, (every l, c, k))
branch_chosen {e} {m} {p} {q} {es} {gs} {rs} false o h d c f k a b r w = (rs, proc_case_un h d f a b r, w, (no_branch o, every h, c, k))

pub chosen : {e : Env} {p : Process} {fs : Effect} → Pays [] e p fs → IsChosenEffect e p fs
chosen pays_stop = ([], proc_stop, within_tally (λ a. omega arith), tt)
chosen (pays_out h k) = ([], proc_out h k, within_tally (λ a. omega arith), (every h, every k))
chosen {e} (pays_in h d a w) = let (xs, f, v, c) = chosen d in (xs, proc_in h f (OfEffect_within (Avoids (length e)) v a), within_trans v w, (every h, c))
chosen {e} (pays_repeat h d m a w) = let (xs, f, v, c) = chosen d in (xs, proc_repeat h f (AllMany_within v m) (OfEffect_within (Avoids (length e)) v a), within_trans v w, (every h, c))
chosen {e} (pays_split h d g a b w) = let (xs, f, v, c) = chosen d in (xs, proc_split h f g (OfEffect_within (Avoids (length e)) v a) (OfEffect_within (Avoids (suc (length e))) v b), within_trans v w, (every h, c))
chosen {e} (pays_split_un {m = m} h d a b w) = let (xs, f, v, c) = chosen d in split_chosen (typed m e (pair_ty un un)) refl h f c (OfEffect_within (Avoids (length e)) v a) (OfEffect_within (Avoids (suc (length e))) v b) (within_trans v w)
chosen {e} (pays_match h k d g a w) = let (xs, f, v, c) = chosen d in (xs, proc_match h k f g (OfEffect_within (Avoids (length e)) v a), within_trans v w, (every h, every k, c))
chosen {e} (pays_match_un {m = m} h k d a w) = let (xs, f, v, c) = chosen d in select_chosen (typed m e (pair_ty un un)) refl h k f c (OfEffect_within (Avoids (length e)) v a) (within_trans v w)
chosen {e} (pays_case h d d' g k a b w z) =
    let (xs, f, v, c) = chosen d in
    let (ys, l, u, i) = chosen d' in
    (greater xs ys, proc_case h f l g k (OfEffect_within (Avoids (length e)) v a) (OfEffect_within (Avoids (length e)) u b) (greater_is xs ys), greater_within (greater_is xs ys) (within_trans v w) (within_trans u z), (every h, c, i))
chosen {e} (pays_case_un {m = m} h d d' a b w z) =
    let (xs, f, v, c) = chosen d in
    let (ys, l, u, i) = chosen d' in
    branch_chosen (typed m e (sum_ty un un)) refl h f c l i (OfEffect_within (Avoids (length e)) v a) (OfEffect_within (Avoids (length e)) u b) (greater_is xs ys) (greater_within (greater_is xs ys) (within_trans v w) (within_trans u z))
chosen {e} (pays_decrypt h k d g a w) = let (xs, f, v, c) = chosen d in (xs, proc_decrypt h k f g (OfEffect_within (Avoids (length e)) v a), within_trans v w, (every h, every k, c))
chosen {e} (pays_decrypt_un h k d a w) = let (xs, f, v, c) = chosen d in (xs, proc_decrypt_un h k f (OfEffect_within (Avoids (length e)) v a), within_trans v w, (no_decrypt k, every h, every k, c))
chosen (pays_check {m = m} {gs = gs} {rest = rest} h i d z w) =
    let (xs, f, v, c) = chosen d in
    let ds = minus xs gs in
    let u : Within ds rest = within_difference (minus_difference xs gs) (within_trans v z) in
    (ds ++ checks m ∷ [], proc_check h f i (minus_difference xs gs) (sum_append ds (checks m ∷ [])), within_trans (flip (checks m ∷ []) ds) (within_trans (within_append (within_refl (checks m ∷ [])) u) w), (every h, c))
chosen (pays_check_un h k d w) = let (xs, f, v, c) = chosen d in (xs, proc_check_un h k f, within_trans v w, (no_check k, every h, every k, c))
chosen (pays_begin {m = m} d l w) =
    let (xs, f, v, c) = chosen d in
    (minus xs (ends m ∷ many m ∷ []), proc_begin f l (minus_difference xs (ends m ∷ many m ∷ [])), within_difference (minus_difference xs (ends m ∷ many m ∷ [])) (within_trans v w), c)
chosen (pays_end {m = m} d l w) =
    let (xs, f, v, c) = chosen d in
    (xs ++ ends m ∷ [], proc_end f l (sum_append xs (ends m ∷ [])), within_trans (flip (ends m ∷ []) xs) (within_trans (within_append (within_refl (ends m ∷ [])) v) w), c)
chosen (pays_end_many {m = m} d l w) =
    let (xs, f, v, c) = chosen d in
    (xs ++ many m ∷ [], proc_end_many f l (sum_append xs (many m ∷ [])), within_trans (flip (many m ∷ []) xs) (within_trans (within_append (within_refl (many m ∷ [])) v) w), c)
chosen {e} (pays_cast {gs = gs} h d g a w) =
    let (xs, f, v, c) = chosen d in
    (xs ++ gs, proc_cast h f g (OfEffect_within (Avoids (length e)) v a) (sum_append xs gs), within_trans (flip gs xs) (within_trans (within_append (within_refl gs) v) w), (every h, c))
chosen {e} (pays_cast_un h d a w) = let (xs, f, v, c) = chosen d in (xs, proc_cast_un h f (OfEffect_within (Avoids (length e)) v a), within_trans v w, (every h, c))
chosen {e} (pays_new d i g z a w) =
    let (xs, f, v, k) = chosen d in
    let c = checks (name (length e)) ∷ [] in
    let u = within_difference (minus_difference xs c) (within_trans v z) in
    (minus xs c, proc_new f i g (minus_difference xs c) (OfEffect_within (Avoids (length e)) u a), within_trans u w, k)
chosen (pays_par d d' w) =
    let (xs, f, v, c) = chosen d in
    let (ys, l, u, k) = chosen d' in
    (xs ++ ys, proc_par f l (sum_append xs ys), within_trans (within_append v u) w, (c, k))
