-- The rule uses of a typing are one tree, and with the effects written at ProcSub they determine its effect.
use Rattle.std.proofs.Common.{◌≡◌, ℕ, ◌+◌, List, [], ◌∷◌, ◌++◌, Some, subst, sym, ap, ◌∙◌, refl, arith}
use Rattle.spi_term.proofs.Lists.{at_unique}
use Rattle.spi_term.specs.Term.{Message, Effect, Ty, nonce, Process}
use Rattle.spi_term.specs.Counts.{SameEffect}
use Rattle.spi_effect.proofs.Laws.{same_refl, sum_one, difference_one, greater_one}
use Rattle.spi_rules.specs.declared.rule.Rule.{Rule}
use Rattle.spi_rules.specs.declared.rule.Rule.TheVariants.{MsgName, MsgUnit, MsgUnitUn, MsgPair, MsgPairUn, MsgInl, MsgInlUn, MsgInr, MsgInrUn, MsgEnc, MsgEncUn, MsgHash, ProcStop, ProcOut, ProcIn, ProcRepeat, ProcSplit, ProcSplitUn, ProcMatch, ProcMatchUn, ProcCase, ProcCaseUn, ProcDecrypt, ProcDecryptUn, ProcCheck, ProcCheckUn, ProcBegin, ProcEnd, ProcEndMany, ProcCast, ProcCastUn, ProcNew, ProcPar}
use Rattle.spi_rules.specs.Environment.{Env}
use Rattle.spi_rules.specs.Messages.{HasType, msg_name, msg_unit, msg_unit_un, msg_pair, msg_pair_un, msg_inl, msg_inl_un, msg_inr, msg_inr_un, msg_enc, msg_enc_un, msg_hash, msg_cast}
use Rattle.spi_rules.specs.Processes.{IsNonce, nonce_name, nonce_cast, HasEffect, proc_stop, proc_out, proc_in, proc_repeat, proc_split, proc_split_un, proc_match, proc_match_un, proc_case, proc_case_un, proc_decrypt, proc_decrypt_un, proc_check, proc_check_un, proc_begin, proc_end, proc_end_many, proc_cast, proc_cast_un, proc_new, proc_par, proc_sub}
use Rattle.spi_rules.specs.Rule.{arity}
use Rattle.spi_rules.specs.Derivations.{RuleUse, type_uses, effect_uses}
use Rattle.spi_rules.specs.Deriv.{sub_use, other_use, AreTrees, no_tree, tree}

-- trees behind trees
trees_join : {m n : ℕ} {xs ys : List RuleUse} → AreTrees m xs → AreTrees n ys → AreTrees (m + n) (xs ++ ys)
trees_join {n = n} {ys = ys} no_tree t = subst (λ (k : ℕ). AreTrees k ys) (omega arith) t
trees_join {n = n} {ys = ys} (tree {n = k} {u} {us} h s) t =
    subst (λ (j : ℕ). AreTrees j (u ∷ (us ++ ys))) (omega arith) (tree {n = k + n} h (subst (λ (j : ℕ). AreTrees j (us ++ ys)) (omega arith) (trees_join s t)))

tail_of : {u v : RuleUse} {us vs : List RuleUse} → u ∷ us ≡ v ∷ vs → us ≡ vs
tail_of e = cc

head_of : {u v : RuleUse} {us vs : List RuleUse} → u ∷ us ≡ v ∷ vs → u ≡ v
head_of e = cc

-- two rows of xs many trees, at the front of one list, are one
split_front : {n : ℕ} (xs ys cs ds : List RuleUse) → AreTrees n xs → AreTrees n ys → xs ++ cs ≡ ys ++ ds → (xs ≡ ys) × (cs ≡ ds)
split_front xs ys cs ds no_tree no_tree e = (refl, e)
split_front xs ys cs ds (tree {n = k} {u} {us} h s) (tree {u = v} {us = vs} h' t) e =
    let q : u ≡ v = head_of e in
    let r = split_front us vs cs ds s (subst (λ (w : RuleUse). AreTrees (arity w.rule + k) vs) (sym q) t) (tail_of e) in
    (ap (λ w. w ∷ us) q ∙ ap (λ l. v ∷ l) r.0, r.1)

-- the rule uses of a typing are one tree
pub type_tree : {env : Env} {m : Message} {t : Ty} (h : HasType [] env m t) → AreTrees 1 (type_uses h)
type_tree (msg_name a0 a1) = tree (other_use MsgName (λ e. cc)) no_tree
type_tree msg_unit = tree (other_use MsgUnit (λ e. cc)) no_tree
type_tree msg_unit_un = tree (other_use MsgUnitUn (λ e. cc)) no_tree
type_tree (msg_pair a0 a1) = tree (other_use MsgPair (λ e. cc)) (trees_join (type_tree a0) (type_tree a1))
type_tree (msg_pair_un a0 a1) = tree (other_use MsgPairUn (λ e. cc)) (trees_join (type_tree a0) (type_tree a1))
type_tree (msg_inl a0) = tree (other_use MsgInl (λ e. cc)) ((type_tree a0))
type_tree (msg_inl_un a0) = tree (other_use MsgInlUn (λ e. cc)) ((type_tree a0))
type_tree (msg_inr a0) = tree (other_use MsgInr (λ e. cc)) ((type_tree a0))
type_tree (msg_inr_un a0) = tree (other_use MsgInrUn (λ e. cc)) ((type_tree a0))
type_tree (msg_enc a0 a1) = tree (other_use MsgEnc (λ e. cc)) ((type_tree a0))
type_tree (msg_enc_un a0 a1) = tree (other_use MsgEncUn (λ e. cc)) (trees_join (type_tree a0) (type_tree a1))
type_tree (msg_hash a0) = tree (other_use MsgHash (λ e. cc)) no_tree
type_tree (msg_cast i s) = elim i [ ]

pub effect_tree : {env : Env} {p : Process} {es : Effect} (d : HasEffect [] env p es) → AreTrees 1 (effect_uses d)
effect_tree proc_stop = tree (other_use ProcStop (λ e. cc)) no_tree
effect_tree (proc_out a0 a1) = tree (other_use ProcOut (λ e. cc)) (trees_join (type_tree a0) (type_tree a1))
effect_tree (proc_in a0 a1 a2) = tree (other_use ProcIn (λ e. cc)) (trees_join (type_tree a0) (effect_tree a1))
effect_tree (proc_repeat a0 a1 a2 a3) = tree (other_use ProcRepeat (λ e. cc)) (trees_join (type_tree a0) (effect_tree a1))
effect_tree (proc_split a0 a1 a2 a3 a4) = tree (other_use ProcSplit (λ e. cc)) (trees_join (type_tree a0) (effect_tree a1))
effect_tree (proc_split_un a0 a1 a2 a3) = tree (other_use ProcSplitUn (λ e. cc)) (trees_join (type_tree a0) (effect_tree a1))
effect_tree (proc_match a0 a1 a2 a3 a4) = tree (other_use ProcMatch (λ e. cc)) (trees_join (type_tree a0) (trees_join (type_tree a1) (effect_tree a2)))
effect_tree (proc_match_un a0 a1 a2 a3) = tree (other_use ProcMatchUn (λ e. cc)) (trees_join (type_tree a0) (trees_join (type_tree a1) (effect_tree a2)))
effect_tree (proc_case a0 a1 a2 a3 a4 a5 a6 a7) = tree (other_use ProcCase (λ e. cc)) (trees_join (type_tree a0) (trees_join (effect_tree a1) (effect_tree a2)))
effect_tree (proc_case_un a0 a1 a2 a3 a4 a5) = tree (other_use ProcCaseUn (λ e. cc)) (trees_join (type_tree a0) (trees_join (effect_tree a1) (effect_tree a2)))
effect_tree (proc_decrypt a0 a1 a2 a3 a4) = tree (other_use ProcDecrypt (λ e. cc)) (trees_join (type_tree a0) (trees_join (type_tree a1) (effect_tree a2)))
effect_tree (proc_decrypt_un a0 a1 a2 a3) = tree (other_use ProcDecryptUn (λ e. cc)) (trees_join (type_tree a0) (trees_join (type_tree a1) (effect_tree a2)))
effect_tree (proc_check a0 a1 a2 a3 a4) = tree (other_use ProcCheck (λ e. cc)) (trees_join (type_tree a0) (effect_tree a1))
effect_tree (proc_check_un a0 a1 a2) = tree (other_use ProcCheckUn (λ e. cc)) (trees_join (type_tree a0) (trees_join (type_tree a1) (effect_tree a2)))
effect_tree (proc_begin a0 a1 a2) = tree (other_use ProcBegin (λ e. cc)) ((effect_tree a0))
effect_tree (proc_end a0 a1 a2) = tree (other_use ProcEnd (λ e. cc)) ((effect_tree a0))
effect_tree (proc_end_many a0 a1 a2) = tree (other_use ProcEndMany (λ e. cc)) ((effect_tree a0))
effect_tree (proc_cast a0 a1 a2 a3 a4) = tree (other_use ProcCast (λ e. cc)) (trees_join (type_tree a0) (effect_tree a1))
effect_tree (proc_cast_un a0 a1 a2) = tree (other_use ProcCastUn (λ e. cc)) (trees_join (type_tree a0) (effect_tree a1))
effect_tree (proc_new a0 a1 a2 a3 a4) = tree (other_use ProcNew (λ e. cc)) ((effect_tree a0))
effect_tree (proc_par a0 a1 a2) = tree (other_use ProcPar (λ e. cc)) (trees_join (effect_tree a0) (effect_tree a1))
effect_tree (proc_sub {fs = fs} a0 a1 a2) = tree (sub_use fs) (effect_tree a0)

abbrev first_rule : List RuleUse → Rule
first_rule [] = MsgUnit
first_rule (u ∷ us) = u.rule

pub nonce_one : {env : Env} {m : Message} {fs gs : Effect} → IsNonce [] env m fs → IsNonce [] env m gs → fs ≡ gs
nonce_one (nonce_name {fs = fs} a) (nonce_name {fs = gs} b) = let e : nonce fs ≡ nonce gs = at_unique a b in cc
nonce_one (nonce_name a) (nonce_cast i) = elim i [ ]
nonce_one (nonce_cast i) b = elim i [ ]

behind_type : {env : Env} {m : Message} {t u : Ty} (h : HasType [] env m t) (k : HasType [] env m u) {cs ds : List RuleUse} → type_uses h ++ cs ≡ type_uses k ++ ds → cs ≡ ds
behind_type h k {cs} {ds} e = (split_front (type_uses h) (type_uses k) cs ds (type_tree h) (type_tree k) e).1

pub same_effect : {env : Env} {p : Process} {es fs : Effect} (d : HasEffect [] env p es) (e : HasEffect [] env p fs) → effect_uses d ≡ effect_uses e → SameEffect es fs
same_effect proc_stop proc_stop q = same_refl []
same_effect (proc_out a0 a1) (proc_out b0 b1) q = same_refl []
same_effect (proc_in a0 a1 a2) (proc_in b0 b1 b2) q = same_effect a1 b1 (behind_type a0 b0 (tail_of q))
same_effect (proc_repeat a0 a1 a2 a3) (proc_repeat b0 b1 b2 b3) q = same_effect a1 b1 (behind_type a0 b0 (tail_of q))
same_effect (proc_split a0 a1 a2 a3 a4) (proc_split b0 b1 b2 b3 b4) q = same_effect a1 b1 (behind_type a0 b0 (tail_of q))
same_effect (proc_split_un a0 a1 a2 a3) (proc_split_un b0 b1 b2 b3) q = same_effect a1 b1 (behind_type a0 b0 (tail_of q))
same_effect (proc_match a0 a1 a2 a3 a4) (proc_match b0 b1 b2 b3 b4) q = same_effect a2 b2 (behind_type a1 b1 (behind_type a0 b0 (tail_of q)))
same_effect (proc_match_un a0 a1 a2 a3) (proc_match_un b0 b1 b2 b3) q = same_effect a2 b2 (behind_type a1 b1 (behind_type a0 b0 (tail_of q)))
same_effect (proc_case a0 a1 a2 a3 a4 a5 a6 a7) (proc_case b0 b1 b2 b3 b4 b5 b6 b7) q =
    let s = split_front (effect_uses a1) (effect_uses b1) (effect_uses a2) (effect_uses b2) (effect_tree a1) (effect_tree b1) (behind_type a0 b0 (tail_of q)) in
    greater_one a7 b7 (same_effect a1 b1 s.0) (same_effect a2 b2 s.1)
same_effect (proc_case_un a0 a1 a2 a3 a4 a5) (proc_case_un b0 b1 b2 b3 b4 b5) q =
    let s = split_front (effect_uses a1) (effect_uses b1) (effect_uses a2) (effect_uses b2) (effect_tree a1) (effect_tree b1) (behind_type a0 b0 (tail_of q)) in
    greater_one a5 b5 (same_effect a1 b1 s.0) (same_effect a2 b2 s.1)
same_effect (proc_decrypt a0 a1 a2 a3 a4) (proc_decrypt b0 b1 b2 b3 b4) q = same_effect a2 b2 (behind_type a1 b1 (behind_type a0 b0 (tail_of q)))
same_effect (proc_decrypt_un a0 a1 a2 a3) (proc_decrypt_un b0 b1 b2 b3) q = same_effect a2 b2 (behind_type a1 b1 (behind_type a0 b0 (tail_of q)))
same_effect (proc_check {fs = gs} a0 a1 a2 a3 a4) (proc_check b0 b1 b2 b3 b4) q = sum_one a4 b4 (difference_one a3 b3 (same_effect a1 b1 (behind_type a0 b0 (tail_of q))) (subst (λ hs. SameEffect gs hs) (nonce_one a2 b2) (same_refl gs))) (same_refl _)
same_effect (proc_check_un a0 a1 a2) (proc_check_un b0 b1 b2) q = same_effect a2 b2 (behind_type a1 b1 (behind_type a0 b0 (tail_of q)))
same_effect (proc_begin a0 a1 a2) (proc_begin b0 b1 b2) q = difference_one a2 b2 (same_effect a0 b0 (tail_of q)) (same_refl _)
same_effect (proc_end a0 a1 a2) (proc_end b0 b1 b2) q = sum_one a2 b2 (same_effect a0 b0 (tail_of q)) (same_refl _)
same_effect (proc_end_many a0 a1 a2) (proc_end_many b0 b1 b2) q = sum_one a2 b2 (same_effect a0 b0 (tail_of q)) (same_refl _)
same_effect (proc_cast a0 a1 a2 a3 a4) (proc_cast b0 b1 b2 b3 b4) q = sum_one a4 b4 (same_effect a1 b1 (behind_type a0 b0 (tail_of q))) (same_refl _)
same_effect (proc_cast_un a0 a1 a2) (proc_cast_un b0 b1 b2) q = same_effect a1 b1 (behind_type a0 b0 (tail_of q))
same_effect (proc_new a0 a1 a2 a3 a4) (proc_new b0 b1 b2 b3 b4) q = difference_one a3 b3 (same_effect a0 b0 (tail_of q)) (same_refl _)
same_effect (proc_par a0 a1 a2) (proc_par b0 b1 b2) q =
    let s = split_front (effect_uses a0) (effect_uses b0) (effect_uses a1) (effect_uses b1) (effect_tree a0) (effect_tree b0) (tail_of q) in
    sum_one a2 b2 (same_effect a0 b0 s.0) (same_effect a1 b1 s.1)
same_effect (proc_sub {fs = fs} a0 a1 a2) (proc_sub {fs = gs} b0 b1 b2) q = let e = head_of q in let t : Some fs ≡ Some gs = ap (λ u. u.taken) e in let s : fs ≡ gs = cc in subst (λ gs. SameEffect fs gs) s (same_refl fs)
same_effect _ _ q = let e = ap first_rule q in absurd (cc)
