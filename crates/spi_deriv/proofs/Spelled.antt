-- The rule uses of each canonical typing of a process are those that its nodes give.
use Rattle.std.proofs.Common.{◌≡◌, ℕ, List, [], ◌∷◌, ◌++◌, length, map, refl, sym, ap, ◌∙◌, subst, append-nil, append_assoc}
use Rattle.spi_term.specs.Term.{Message, name, Effect, Ty, un, pair_ty, nonce, Leaf, Sends, Stops, Prefix, Recvs, Serves, Splits, Selects, Decrypts, Checks, Begins, Ends, EndManys, Casts, Freshes, Fork, Branches, Pars, Process, leaf, prefix, fork, binds, fork_binds}
use Rattle.spi_term.specs.Substitution.{put, ty_put}
use Rattle.spi_term.specs.Spelling.{numbered}
use Rattle.spi_rules.specs.Environment.{Env, untrusted}
use Rattle.spi_rules.specs.Good.{good_un, good_pair}
use Rattle.spi_rules.specs.Processes.{HasEffect, proc_stop, proc_out, proc_in, proc_repeat, proc_split, proc_split_un, proc_match, proc_match_un, proc_case, proc_case_un, proc_decrypt, proc_decrypt_un, proc_check, proc_check_un, proc_begin, proc_end, proc_end_many, proc_cast, proc_cast_un, proc_new, proc_par, proc_sub}
use Rattle.spi_rules.specs.Derivations.{RuleUse, uses, type_uses, effect_uses}
use Rattle.spi_rules.specs.declared.rule.Rule.{Rule}
use Rattle.spi_rules.specs.declared.rule.Rule.TheVariants.{MsgName, ProcOut, ProcIn, ProcRepeat, ProcSplit, ProcSplitUn, ProcMatch, ProcMatchUn, ProcCase, ProcCaseUn, ProcDecrypt, ProcDecryptUn, ProcCheck, ProcCheckUn, ProcCast, ProcCastUn}
use Rattle.spi_message.specs.Forms.{is_nonce, enter, more, on_first, on_rest}
use Rattle.spi_message.proofs.Opened.{numbered_prefix, numbered_fork, numbered_leaf}
use Rattle.spi_deriv.specs.Canonical.{Canonical, IsCanonical}
use Rattle.spi_deriv.specs.Uses.{message_uses, split_uses, select_uses, decrypt_uses, check_uses, branch_uses, leaf_uses, prefix_uses, fork_uses, binding, process_uses}
use Rattle.spi_deriv.proofs.Heads.{bare_type, bare_map, Alike, alike_more}
use Rattle.spi_deriv.proofs.Written.{un_no_key, un_no_nonce, un_no_pair, un_no_sum, pair_is_pair, sum_is_sum, key_is_key, nonce_is_nonce, uses_are}

abbrev pub uses_in : Env → Process → List Ty → List RuleUse
uses_in e p f = process_uses (numbered [] (length e) p) f

-- a form from its processes
at_leaf : (e : Env) (l : Leaf) (f : List Ty) (us : List RuleUse) → us ≡ leaf_uses f l → us ≡ uses_in e (leaf l) f
at_leaf e l f us h = h ∙ ap (λ q. process_uses q f) (sym (numbered_leaf (length e) l))

at_prefix : (e : Env) (s : Prefix) (p : Process) (f : List Ty) (us vs : List RuleUse) → us ≡ prefix_uses f s → vs ≡ uses_in (e ++ more e s) (enter (binds s) (length e) p) (f ++ binding s) → us ++ vs ≡ uses_in e (prefix s p) f
at_prefix e s p f us vs h k =
    ap (λ us. us ++ vs) h ∙ ap (λ vs. prefix_uses f s ++ vs) k ∙ ap (λ q. process_uses q f) (sym (numbered_prefix e s p))

at_fork : (e : Env) (g : Fork) (p q : Process) (f : List Ty) (us vs ws : List RuleUse) → us ≡ fork_uses f g → vs ≡ uses_in (e ++ on_first g) (enter (fork_binds g) (length e) p) (f ++ on_first g) → ws ≡ uses_in (e ++ on_rest g) (enter (fork_binds g) (length e) q) (f ++ on_rest g) → us ++ (vs ++ ws) ≡ uses_in e (fork g p q) f
at_fork e g p q f us vs ws h k l =
    let a = uses_in (e ++ on_first g) (enter (fork_binds g) (length e) p) (f ++ on_first g) in
    ap (λ us. us ++ (vs ++ ws)) h
    ∙ ap (λ vs. fork_uses f g ++ (vs ++ ws)) k
    ∙ ap (λ ws. fork_uses f g ++ (a ++ ws)) l
    ∙ ap (λ q. process_uses q f) (sym (numbered_fork e g p q))

-- no names bound
no_more : (e : Env) (p : Process) (f : List Ty) (us : List RuleUse) → us ≡ uses_in e p f → us ≡ uses_in (e ++ []) p (f ++ [])
no_more e p f us h = h ∙ ap (λ e. uses_in e p f) (sym (append-nil e)) ∙ ap (uses_in (e ++ []) p) (sym (append-nil f))

-- a form with two messages
at_two : (e : Env) (s : Prefix) (p : Process) (f : List Ty) (us us' vs vs' : List RuleUse) (r : Rule) (ws : List RuleUse) → uses r (us' ++ vs') ≡ prefix_uses f s → us ≡ us' → vs ≡ vs' → ws ≡ uses_in (e ++ more e s) (enter (binds s) (length e) p) (f ++ binding s) → uses r (us ++ (vs ++ ws)) ≡ uses_in e (prefix s p) f
at_two e s p f us us' vs vs' r ws h k l w =
    ap (uses r) (ap (λ us. us ++ (vs ++ ws)) k ∙ ap (λ vs. us' ++ (vs ++ ws)) l ∙ sym (append_assoc us' vs' ws)) ∙ at_prefix e s p f (uses r (us' ++ vs')) ws h w

-- the process in a split, and in a select
split_body : (e : Env) (f : List Ty) → Alike f e → (t u : Ty) (p : Process) (us : List RuleUse) → ((g : List Ty) → Alike g ((e ++ t ∷ []) ++ ty_put (name (length e)) u ∷ []) → us ≡ uses_in ((e ++ t ∷ []) ++ ty_put (name (length e)) u ∷ []) (enter 2 (length e) p) g) → us ≡ uses_in (e ++ t ∷ (ty_put (name (length e)) u ∷ [])) (enter 2 (length e) p) (f ++ t ∷ (u ∷ []))
split_body e f a t u p us ih =
    let v = ty_put (name (length e)) u in
    let z = append_assoc e (t ∷ []) (v ∷ []) in
    let g = f ++ t ∷ (u ∷ []) in
    let same : map bare_type (t ∷ (u ∷ [])) ≡ map bare_type (t ∷ (v ∷ [])) = ap (λ x. bare_type t ∷ (x ∷ [])) (sym (bare_map (put (name (length e))) 0 u)) in
    let b = subst (λ e. Alike g e) (sym z) (alike_more f e (t ∷ (u ∷ [])) (t ∷ (v ∷ [])) a same) in
    ih g b ∙ ap (λ e'. uses_in e' (enter 2 (length e) p) g) z

select_body : (e : Env) (f : List Ty) → Alike f e → (n : Message) (u : Ty) (p : Process) (us : List RuleUse) → ((g : List Ty) → Alike g (e ++ ty_put n u ∷ []) → us ≡ uses_in (e ++ ty_put n u ∷ []) (enter 1 (length e) p) g) → us ≡ uses_in (e ++ ty_put n u ∷ []) (enter 1 (length e) p) (f ++ u ∷ [])
select_body e f a n u p us ih =
    let same : map bare_type (u ∷ []) ≡ map bare_type (ty_put n u ∷ []) = ap (λ x. x ∷ []) (sym (bare_map (put n) 0 u)) in
    ih (f ++ u ∷ []) (alike_more f e (u ∷ []) (ty_put n u ∷ []) a same)

pub spelled_are : {e : Env} {p : Process} {es : Effect} (f : List Ty) → Alike f e → (d : HasEffect [] e p es) → IsCanonical d → effect_uses d ≡ uses_in e p f
spelled_are {e} f a proc_stop c = at_leaf e Stops f _ refl
spelled_are {e} f a (proc_out {m = m} {n = n} h k) c =
    let p = uses_are f a h in
    let q = uses_are f a k in
    at_leaf e (Sends m n) f (uses ProcOut (type_uses h ++ type_uses k)) (λ i. uses ProcOut (p i ++ q i))
spelled_are {e} f a (proc_in {m = m} {p = p} h d g) c =
    at_prefix e (Recvs m un) p f (uses ProcIn (type_uses h)) (effect_uses d) (ap (uses ProcIn) (uses_are f a h)) (spelled_are (f ++ un ∷ []) (alike_more f e (un ∷ []) (un ∷ []) a refl) d c.1)
spelled_are {e} f a (proc_repeat {m = m} {p = p} h d l g) c =
    at_prefix e (Serves m un) p f (uses ProcRepeat (type_uses h)) (effect_uses d) (ap (uses ProcRepeat) (uses_are f a h)) (spelled_are (f ++ un ∷ []) (alike_more f e (un ∷ []) (un ∷ []) a refl) d c.1)
spelled_are {e} f a (proc_split {m = m} {t = t} {u = u} {p = p} h d g x y) c =
    at_prefix e (Splits m t u) p f (uses ProcSplit (type_uses h)) (effect_uses d) (ap (uses ProcSplit) (uses_are f a h) ∙ ap (λ b. split_uses b f m t u) (sym (pair_is_pair f a h))) (split_body e f a t u p (effect_uses d) (λ f b. spelled_are f b d c.1))
spelled_are {e} f a (proc_split_un {m = m} {p = p} h d x y) c =
    at_prefix e (Splits m un un) p f (uses ProcSplitUn (type_uses h)) (effect_uses d) (ap (uses ProcSplitUn) (uses_are f a h) ∙ ap (λ b. split_uses b f m un un) (sym (un_no_pair f a h (λ k. c.0 _ (proc_split k d (good_pair good_un good_un) x y) tt)))) (split_body e f a un un p (effect_uses d) (λ f b. spelled_are f b d c.2))
spelled_are {e} f a (proc_match {m = m} {n = n} {t = t} {u = u} {p = p} h k d g x) c =
    at_two e (Selects m t n u) p f (type_uses h) (message_uses m f (pair_ty t u)) (type_uses k) (message_uses n f t) ProcMatch (effect_uses d) (ap (λ b. select_uses b f m t n u) (sym (pair_is_pair f a h))) (uses_are f a h) (uses_are f a k) (select_body e f a n u p (effect_uses d) (λ f b. spelled_are f b d c.2))
spelled_are {e} f a (proc_match_un {m = m} {n = n} {p = p} h k d x) c =
    at_two e (Selects m un n un) p f (type_uses h) (message_uses m f un) (type_uses k) (message_uses n f un) ProcMatchUn (effect_uses d) (ap (λ b. select_uses b f m un n un) (sym (un_no_pair f a h (λ l. c.0 _ (proc_match l k d (good_pair good_un good_un) x) tt)))) (uses_are f a h) (uses_are f a k) (select_body e f a n un p (effect_uses d) (λ f b. spelled_are f b d c.3))
spelled_are {e} f a (proc_case {m = m} {t = t} {u = u} {p = p} {q = q} h d d' g k x y r) c =
    at_fork e (Branches m t u) p q f (uses ProcCase (type_uses h)) (effect_uses d) (effect_uses d') (ap (uses ProcCase) (uses_are f a h) ∙ ap (λ b. branch_uses b f m t u) (sym (sum_is_sum f a h))) (spelled_are (f ++ t ∷ []) (alike_more f e (t ∷ []) (t ∷ []) a refl) d c.1) (spelled_are (f ++ u ∷ []) (alike_more f e (u ∷ []) (u ∷ []) a refl) d' c.2)
spelled_are {e} f a (proc_case_un {m = m} {p = p} {q = q} h d d' x y r) c =
    at_fork e (Branches m un un) p q f (uses ProcCaseUn (type_uses h)) (effect_uses d) (effect_uses d') (ap (uses ProcCaseUn) (uses_are f a h) ∙ ap (λ b. branch_uses b f m un un) (sym (un_no_sum f a h (λ l. c.0 _ (proc_case l d d' good_un good_un x y r) tt)))) (spelled_are (f ++ un ∷ []) (alike_more f e (un ∷ []) (un ∷ []) a refl) d c.2) (spelled_are (f ++ un ∷ []) (alike_more f e (un ∷ []) (un ∷ []) a refl) d' c.3)
spelled_are {e} f a (proc_decrypt {m = m} {n = n} {t = t} {p = p} h k d g x) c =
    let w = key_is_key f a k in
    at_two e (Decrypts m t n) p f (type_uses h) (message_uses m f un) (type_uses k) (uses MsgName []) ProcDecrypt (effect_uses d) (ap (λ o. decrypt_uses o f m n) (sym w.0.1)) (uses_are f a h) w.1 (spelled_are (f ++ t ∷ []) (alike_more f e (t ∷ []) (t ∷ []) a refl) d c.2)
spelled_are {e} f a (proc_decrypt_un {m = m} {n = n} {p = p} h k d x) c =
    at_two e (Decrypts m un n) p f (type_uses h) (message_uses m f un) (type_uses k) (message_uses n f un) ProcDecryptUn (effect_uses d) (ap (λ o. decrypt_uses o f m n) (sym (un_no_key f a k))) (uses_are f a h) (uses_are f a k) (spelled_are (f ++ un ∷ []) (alike_more f e (un ∷ []) (un ∷ []) a refl) d c.3)
spelled_are {e} f a (proc_check {m = m} {n = n} {p = p} h d o s r) c =
    let w = nonce_is_nonce f a o in
    at_prefix e (Checks m n) p f (uses ProcCheck (type_uses h)) (effect_uses d) (ap (uses ProcCheck) (uses_are f a h) ∙ ap (λ o. check_uses (is_nonce o) f m n) (sym w.1)) (no_more e p f (effect_uses d) (spelled_are f a d c.1))
spelled_are {e} f a (proc_check_un {m = m} {n = n} {p = p} h k d) c =
    at_two e (Checks m n) p f (type_uses h) (message_uses m f un) (type_uses k) (message_uses n f un) ProcCheckUn (effect_uses d) (ap (λ o. check_uses (is_nonce o) f m n) (sym (un_no_nonce f a k))) (uses_are f a h) (uses_are f a k) (no_more e p f (effect_uses d) (spelled_are f a d c.3))
spelled_are {e} f a (proc_begin {m = m} {p = p} d l r) c = at_prefix e (Begins m) p f _ (effect_uses d) refl (no_more e p f (effect_uses d) (spelled_are f a d c))
spelled_are {e} f a (proc_end {m = m} {p = p} d l r) c = at_prefix e (Ends m) p f _ (effect_uses d) refl (no_more e p f (effect_uses d) (spelled_are f a d c))
spelled_are {e} f a (proc_end_many {m = m} {p = p} d l r) c = at_prefix e (EndManys m) p f _ (effect_uses d) refl (no_more e p f (effect_uses d) (spelled_are f a d c))
spelled_are {e} f a (proc_cast {m = m} {p = p} {fs = fs} h d g x r) c =
    at_prefix e (Casts m (nonce fs)) p f (uses ProcCast (type_uses h)) (effect_uses d) (ap (uses ProcCast) (uses_are f a h)) (spelled_are (f ++ nonce fs ∷ []) (alike_more f e (nonce fs ∷ []) (nonce fs ∷ []) a refl) d c.1)
spelled_are {e} f a (proc_cast_un {m = m} {p = p} h d x) c =
    at_prefix e (Casts m un) p f (uses ProcCastUn (type_uses h)) (effect_uses d) (ap (uses ProcCastUn) (uses_are f a h)) (spelled_are (f ++ un ∷ []) (alike_more f e (un ∷ []) (un ∷ []) a refl) d c.1)
spelled_are {e} f a (proc_new {t = t} {p = p} d i g r x) c = at_prefix e (Freshes t) p f _ (effect_uses d) refl (spelled_are (f ++ t ∷ []) (alike_more f e (t ∷ []) (t ∷ []) a refl) d c)
spelled_are {e} f a (proc_par {p = p} {q = q} d d' r) c =
    at_fork e Pars p q f _ (effect_uses d) (effect_uses d') refl (no_more e p f (effect_uses d) (spelled_are f a d c.0)) (no_more e q f (effect_uses d') (spelled_are f a d' c.1))
spelled_are f a (proc_sub d w g) c = absurd c

-- a process has one canonical derivation at most
pub canonical_is : {k : ℕ} {p : Process} {d : List RuleUse} → Canonical d k p → d ≡ uses_in (untrusted k) p (untrusted k)
canonical_is {k} c = sym c.are ∙ spelled_are (untrusted k) refl c.has c.canonical
