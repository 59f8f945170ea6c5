-- Where each check of a form passes, and each process in it has an effect, it has an effect.
use Rattle.std.proofs.Common.{◌≡◌, ⊎_elim, sym, ◌∙◌, subst, ℕ, suc, ◌+◌, ◌<◌, ◌≤◌, true, false, [], ◌∷◌, ◌++◌, length, arith}
use Rattle.std.proofs.lemmas.Bool.{cases_Bool, false≢true}
use Rattle.spi_term.specs.Lists.{In, in_first, in_later}
use Rattle.spi_term.specs.Names.{OfAtom, Avoids, EffectAvoids, ProcessOver}
use Rattle.spi_term.specs.Substitution.{ty_put, process_put, process_put_two}
use Rattle.spi_term.specs.Term.{Message, name, Atom, ends, checks, many, Effect, Ty, un, pair_ty, sum_ty, key, nonce, Sends, Stops, Recvs, Serves, Splits, Selects, Decrypts, Checks, Begins, Ends, EndManys, Casts, Freshes, Branches, Pars, Process, leaf, prefix, fork, recv, serve, split, select, branch, decrypt, check, begin, end, end_many, cast, fresh, par, process_size}
use Rattle.spi_term.specs.Tests.{is_free}
use Rattle.spi_term.proofs.Freeness.{avoids_sound, avoids_complete}
use Rattle.spi_effect.specs.Effect.{IsMany, AllMany, IsDifference}
use Rattle.spi_effect.specs.Made.{minus, greater}
use Rattle.spi_effect.proofs.Laws.{OfEffect_of, AllMany_of, sum_append}
use Rattle.spi_effect.proofs.Made.{minus_difference, greater_is}
use Rattle.spi_rules.specs.Environment.{Env, extended}
use Rattle.spi_rules.specs.Messages.{HasType}
use Rattle.spi_rules.specs.Processes.{HasEffect, IsNonce, proc_stop, proc_out, proc_in, proc_repeat, proc_split, proc_split_un, proc_match, proc_match_un, proc_case, proc_case_un, proc_decrypt, proc_decrypt_un, proc_check, proc_check_un, proc_begin, proc_end, proc_end_many, proc_cast, proc_cast_un, proc_new, proc_par}
use Rattle.spi_rules.specs.Least.{Least}
use Rattle.spi_rules.specs.Blocking.{Child, child_recv, child_serve, child_split, child_select, child_left, child_right, child_decrypt, child_check, child_begin, child_end, child_end_many, child_cast, child_fresh, child_first, child_rest, HasSome}
use Rattle.spi_fault.specs.Checks as C
use Rattle.spi_fault.specs.Passing.{HasLeastBehind, HasBoundName, Passes, not_many, escapes, unchecked}
use Rattle.spi_fault.proofs.Children.{has_least}

-- what no atom is kept from
avoids_message : (x : ℕ) (m : Message) → ((Avoids x m → ⊥) → ⊥) → Avoids x m
avoids_message x m h =
    ⊎_elim (λ (f : is_free x m ≡ true). absurd (h (λ a. false≢true (sym (avoids_complete x m a) ∙ f)))) (λ (f : is_free x m ≡ false). avoids_sound x m f) (cases_Bool (is_free x m))

pub avoids_atom : (x : ℕ) (a : Atom) → ((OfAtom (Avoids x) a → ⊥) → ⊥) → OfAtom (Avoids x) a
avoids_atom x (ends m) h = avoids_message x m h
avoids_atom x (checks m) h = avoids_message x m h
avoids_atom x (many m) h = avoids_message x m h

pub avoids_when : (x : ℕ) (es : Effect) → ((a : Atom) → In a es → (OfAtom (Avoids x) a → ⊥) → ⊥) → EffectAvoids x es
avoids_when x es h = OfEffect_of (Avoids x) es (λ a i. avoids_atom x a (h a i))

many_atom : (a : Atom) → ((IsMany a → ⊥) → ⊥) → IsMany a
many_atom (ends m) h = h (λ b. b)
many_atom (checks m) h = h (λ b. b)
many_atom (many m) h = tt

pub many_when : (es : Effect) → ((a : Atom) → In a es → (IsMany a → ⊥) → ⊥) → AllMany es
many_when es h = AllMany_of es (λ a i. many_atom a (h a i))

-- names that stay out of an effect
pub bound_at : (n k x : ℕ) (a : Atom) → n ≤ x → x < n + k → (OfAtom (Avoids x) a → ⊥) → HasBoundName n k a
bound_at n k x a low high f = (x, low, high, f)

pub stays_out : {env : Env} {p : Process} {k at : ℕ} {es : Effect} → HasLeastBehind env p at es → Passes env p (C.stays k at) → (x : ℕ) → length env ≤ x → x < length env + k → EffectAvoids x es
stays_out {env = env} {k = k} {es = es} f s x low high = avoids_when x es (λ a i g. s a (escapes f i (bound_at (length env) k x a low high g)))

-- the name that is made stays out of what is left of an effect
pub made_out : {env : Env} {p : Process} {at : ℕ} {es ds : Effect} → HasLeastBehind env p at es → IsDifference ds es (checks (name (length env)) ∷ []) → Passes env p (C.made at) → (x : ℕ) → length env ≤ x → x < length env + 1 → EffectAvoids x ds
made_out {env = env} {ds = ds} f d s x low high = avoids_when x ds (λ a i g. s a (unchecked f d i (bound_at (length env) 1 x a low high g)))

abbrev pub Inner : Env → Process → Type 0
Inner env p = (i : ℕ) (env' : Env) (p' : Process) → Child env p i env' p' → HasSome env' p'

abbrev pub AllPass : Env → Process → Type 0
AllPass env p = (c : C.Check) → In c (C.checks p) → Passes env p c

module _ (env : Env) where
  abbrev n : ℕ
  n = length env

  at_once : n ≤ n
  at_once = omega arith

  next : n < n + 1
  next = omega arith

  -- the least effect of a process in the node
  following : {p : Process} {i : ℕ} {inner : Env} {q : Process} → ProcessOver n p → Inner env p → Child env p i inner q → (es : Effect) × Least inner q es × HasLeastBehind env p i es
  following {i = i} {inner = inner} {q = q} over kids k =
      let l = has_least over k (kids i inner q k) in
      (l.0, l.1, record { inner = inner; process = q; child = k; least = l.1 })

  some_recv : (m : Message) (t : Ty) (p : Process) → ProcessOver n (recv m t p) → Inner env (recv m t p) → AllPass env (recv m t p) → HasSome env (recv m t p)
  some_recv m t p over kids h =
      let l = following over kids child_recv in
      let c = h (C.channel m) in_first in
      let u = h (C.untrusted t) (in_later in_first) in
      let a = stays_out l.2 (h (C.stays 1 1) (in_later (in_later in_first))) n at_once next in
      (l.0, subst (λ t. HasEffect [] (extended env t) (process_put (name n) p) l.0 → HasEffect [] env (recv m t p) l.0) (sym u) (λ d. proc_in c d a) l.1.derivable.has)

  some_serve : (m : Message) (t : Ty) (p : Process) → ProcessOver n (serve m t p) → Inner env (serve m t p) → AllPass env (serve m t p) → HasSome env (serve m t p)
  some_serve m t p over kids h =
      let l = following over kids child_serve in
      let c = h (C.channel m) in_first in
      let u = h (C.untrusted t) (in_later in_first) in
      let s = h (C.served 1) (in_later (in_later in_first)) in
      let all = many_when l.0 (λ a i g. s a (not_many l.2 i g)) in
      let a = stays_out l.2 (h (C.stays 1 1) (in_later (in_later (in_later in_first)))) n at_once next in
      (l.0, subst (λ t. HasEffect [] (extended env t) (process_put (name n) p) l.0 → HasEffect [] env (serve m t p) l.0) (sym u) (λ d. proc_repeat c d all a) l.1.derivable.has)

  some_split : (m : Message) (t u : Ty) (p : Process) → ProcessOver n (split m t u p) → Inner env (split m t u p) → AllPass env (split m t u p) → HasSome env (split m t u p)
  some_split m t u p over kids h =
      let q = process_put_two (name n) (name (suc n)) p in
      let l = following over kids child_split in
      let g = h (C.good (pair_ty t u)) in_first in
      let s = h (C.stays 2 1) (in_later (in_later in_first)) in
      let a = stays_out l.2 s n at_once (let z : n < n + 2 = omega arith in z) in
      let b = stays_out l.2 s (suc n) (let z : n ≤ suc n = omega arith in z) (let z : suc n < n + 2 = omega arith in z) in
      let untrusted : HasType [] env m un × (t ≡ un) × (u ≡ un) → HasEffect [] (extended (extended env t) (ty_put (name n) u)) q l.0 → HasEffect [] env (split m t u p) l.0
      = λ k. subst (λ t. HasEffect [] (extended (extended env t) (ty_put (name n) u)) q l.0 → HasEffect [] env (split m t u p) l.0) (sym k.1) (subst (λ u. HasEffect [] (extended (extended env un) (ty_put (name n) u)) q l.0 → HasEffect [] env (split m un u p) l.0) (sym k.2) (λ d. proc_split_un k.0 d a b)) in
      (l.0, ⊎_elim (λ (z : HasType [] env m (pair_ty t u)). proc_split z l.1.derivable.has g a b) (λ (k : HasType [] env m un × (t ≡ un) × (u ≡ un)). untrusted k l.1.derivable.has) (h (C.scrutinee m (pair_ty t u) t u) (in_later in_first)))

  some_select : (m : Message) (t : Ty) (r : Message) (u : Ty) (p : Process) → ProcessOver n (select m t r u p) → Inner env (select m t r u p) → AllPass env (select m t r u p) → HasSome env (select m t r u p)
  some_select m t r u p over kids h =
      let q = process_put (name n) p in
      let l = following over kids child_select in
      let g = h (C.good (pair_ty t u)) in_first in
      let e = h (C.first r t) (in_later (in_later in_first)) in
      let a = stays_out l.2 (h (C.stays 1 1) (in_later (in_later (in_later in_first)))) n at_once next in
      let untrusted : HasType [] env m un × (t ≡ un) × (u ≡ un) → HasEffect [] (extended env (ty_put r u)) q l.0 → HasEffect [] env (select m t r u p) l.0
      = λ k. subst (λ t. HasType [] env r t → HasEffect [] (extended env (ty_put r u)) q l.0 → HasEffect [] env (select m t r u p) l.0) (sym k.1) (λ e. subst (λ u. HasEffect [] (extended env (ty_put r u)) q l.0 → HasEffect [] env (select m un r u p) l.0) (sym k.2) (λ d. proc_match_un k.0 e d a)) e in
      (l.0, ⊎_elim (λ (z : HasType [] env m (pair_ty t u)). proc_match z e l.1.derivable.has g a) (λ (k : HasType [] env m un × (t ≡ un) × (u ≡ un)). untrusted k l.1.derivable.has) (h (C.scrutinee m (pair_ty t u) t u) (in_later in_first)))

  some_branch : (m : Message) (t : Ty) (p : Process) (u : Ty) (q : Process) → ProcessOver n (branch m t p u q) → Inner env (branch m t p u q) → AllPass env (branch m t p u q) → HasSome env (branch m t p u q)
  some_branch m t p u q over kids h =
      let p' = process_put (name n) p in
      let q' = process_put (name n) q in
      let l = following over kids child_left in
      let r = following over kids child_right in
      let a = stays_out l.2 (h (C.stays 1 1) (in_later (in_later (in_later in_first)))) n at_once next in
      let b = stays_out r.2 (h (C.stays 1 (suc (process_size p))) (in_later (in_later (in_later (in_later in_first))))) n at_once next in
      let most = greater_is l.0 r.0 in
      let untrusted : HasType [] env m un × (t ≡ un) × (u ≡ un) → HasEffect [] (extended env t) p' l.0 → HasEffect [] (extended env u) q' r.0 → HasEffect [] env (branch m t p u q) (greater l.0 r.0)
      = λ k. subst (λ t. HasEffect [] (extended env t) p' l.0 → HasEffect [] (extended env u) q' r.0 → HasEffect [] env (branch m t p u q) (greater l.0 r.0)) (sym k.1) (subst (λ u. HasEffect [] (extended env un) p' l.0 → HasEffect [] (extended env u) q' r.0 → HasEffect [] env (branch m un p u q) (greater l.0 r.0)) (sym k.2) (λ d e. proc_case_un k.0 d e a b most)) in
      (greater l.0 r.0, ⊎_elim (λ (z : HasType [] env m (sum_ty t u)). proc_case z l.1.derivable.has r.1.derivable.has (h (C.good t) in_first) (h (C.good u) (in_later in_first)) a b most) (λ (k : HasType [] env m un × (t ≡ un) × (u ≡ un)). untrusted k l.1.derivable.has r.1.derivable.has) (h (C.scrutinee m (sum_ty t u) t u) (in_later (in_later in_first))))

  some_decrypt : (m : Message) (t : Ty) (k : Message) (p : Process) → ProcessOver n (decrypt m t k p) → Inner env (decrypt m t k p) → AllPass env (decrypt m t k p) → HasSome env (decrypt m t k p)
  some_decrypt m t r p over kids h =
      let q = process_put (name n) p in
      let l = following over kids child_decrypt in
      let g = h (C.good t) in_first in
      let s = h (C.sealed m) (in_later in_first) in
      let a = stays_out l.2 (h (C.stays 1 1) (in_later (in_later (in_later in_first)))) n at_once next in
      let untrusted : HasType [] env r un × (t ≡ un) → HasEffect [] (extended env t) q l.0 → HasEffect [] env (decrypt m t r p) l.0
      = λ k. subst (λ t. HasEffect [] (extended env t) q l.0 → HasEffect [] env (decrypt m t r p) l.0) (sym k.1) (λ d. proc_decrypt_un s k.0 d a) in
      (l.0, ⊎_elim (λ (k : HasType [] env r (key t)). proc_decrypt s k l.1.derivable.has g a) (λ (k : HasType [] env r un × (t ≡ un)). untrusted k l.1.derivable.has) (h (C.key_of r t) (in_later (in_later in_first))))

  some_check : (m k : Message) (p : Process) → Inner env (check m k p) → AllPass env (check m k p) → HasSome env (check m k p)
  some_check m k p kids h =
      let d = kids 1 _ _ child_check in
      let s = h (C.sealed m) in_first in
      let paid : (fs : Effect) × IsNonce [] env k fs → HasSome env (check m k p)
      = λ z. (minus d.0 z.0 ++ checks m ∷ [], proc_check s d.1 z.1 (minus_difference d.0 z.0) (sum_append (minus d.0 z.0) (checks m ∷ []))) in
      ⊎_elim paid (λ (z : HasType [] env k un). (d.0, proc_check_un s z d.1)) (h (C.nonce_of k) (in_later in_first))

  some_begin : (m : Message) (p : Process) → Inner env (begin m p) → AllPass env (begin m p) → HasSome env (begin m p)
  some_begin m p kids h =
      let d = kids 1 _ _ child_begin in
      (minus d.0 (ends m ∷ many m ∷ []), proc_begin d.1 (h (C.label m) in_first) (minus_difference d.0 (ends m ∷ many m ∷ [])))

  some_end : (m : Message) (p : Process) → Inner env (end m p) → AllPass env (end m p) → HasSome env (end m p)
  some_end m p kids h =
      let d = kids 1 _ _ child_end in
      (d.0 ++ ends m ∷ [], proc_end d.1 (h (C.label m) in_first) (sum_append d.0 (ends m ∷ [])))

  some_end_many : (m : Message) (p : Process) → Inner env (end_many m p) → AllPass env (end_many m p) → HasSome env (end_many m p)
  some_end_many m p kids h =
      let d = kids 1 _ _ child_end_many in
      (d.0 ++ many m ∷ [], proc_end_many d.1 (h (C.label m) in_first) (sum_append d.0 (many m ∷ [])))

  some_cast : (m : Message) (t : Ty) (p : Process) → ProcessOver n (cast m t p) → Inner env (cast m t p) → AllPass env (cast m t p) → HasSome env (cast m t p)
  some_cast m un p over kids h =
      let l = following over kids child_cast in
      let a = stays_out l.2 (h (C.stays 1 1) (in_later (in_later (in_later in_first)))) n at_once next in
      (l.0, proc_cast_un (h (C.sealed m) (in_later (in_later in_first))) l.1.derivable.has a)
  some_cast m (nonce fs) p over kids h =
      let l = following over kids child_cast in
      let a = stays_out l.2 (h (C.stays 1 1) (in_later (in_later (in_later in_first)))) n at_once next in
      (l.0 ++ fs, proc_cast (h (C.sealed m) (in_later (in_later in_first))) l.1.derivable.has (h (C.good (nonce fs)) (in_later in_first)) a (sum_append l.0 fs))
  some_cast m t p over kids h = absurd (h (C.castable t) in_first)

  some_fresh : (t : Ty) (p : Process) → ProcessOver n (fresh t p) → Inner env (fresh t p) → AllPass env (fresh t p) → HasSome env (fresh t p)
  some_fresh t p over kids h =
      let l = following over kids child_fresh in
      let made = h (C.made 1) (in_later (in_later in_first)) in
      let off = minus_difference l.0 (checks (name n) ∷ []) in
      let a = made_out l.2 off made n at_once next in
      (minus l.0 (checks (name n) ∷ []), proc_new l.1.derivable.has (h (C.generative t) in_first) (h (C.good t) (in_later in_first)) off a)

  some_par : (p q : Process) → Inner env (par p q) → HasSome env (par p q)
  some_par p q kids =
      let d = kids 1 _ _ child_first in
      let e = kids (suc (process_size p)) _ _ child_rest in
      (d.0 ++ e.0, proc_par d.1 e.1 (sum_append d.0 e.0))

pub all_pass : (env : Env) (p : Process) → ProcessOver (length env) p → Inner env p → AllPass env p → HasSome env p
all_pass env (leaf (Sends m n)) over kids h = ([], proc_out (h (C.channel m) in_first) (h (C.datum n) (in_later in_first)))
all_pass env (leaf Stops) over kids h = ([], proc_stop)
all_pass env (prefix (Recvs m t) p) over kids h = some_recv env m t p over kids h
all_pass env (prefix (Serves m t) p) over kids h = some_serve env m t p over kids h
all_pass env (prefix (Splits m t u) p) over kids h = some_split env m t u p over kids h
all_pass env (prefix (Selects m t n u) p) over kids h = some_select env m t n u p over kids h
all_pass env (prefix (Decrypts m t n) p) over kids h = some_decrypt env m t n p over kids h
all_pass env (prefix (Checks m n) p) over kids h = some_check env m n p kids h
all_pass env (prefix (Begins m) p) over kids h = some_begin env m p kids h
all_pass env (prefix (Ends m) p) over kids h = some_end env m p kids h
all_pass env (prefix (EndManys m) p) over kids h = some_end_many env m p kids h
all_pass env (prefix (Casts m t) p) over kids h = some_cast env m t p over kids h
all_pass env (prefix (Freshes t) p) over kids h = some_fresh env t p over kids h
all_pass env (fork (Branches m t u) p q) over kids h = some_branch env m t p u q over kids h
all_pass env (fork Pars p q) over kids h = some_par env p q kids
