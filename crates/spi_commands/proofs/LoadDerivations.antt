-- Sessions of the nonce handshake have a canonical derivation, of 31 rules for each but the first, which has 30.
use Rattle.std.proofs.Common.{◌≡◌, refl, ℕ, ◌+◌, ◌-◌, ◌*◌, ◌≤◌, List, [], ◌∷◌, ◌++◌, length, length-append, ⊎_elim, arith}
use Rattle.spi_term.specs.Lists.{At, at_first, at_later}
use Rattle.spi_term.specs.Term.{Message, name, pair, Atom, ends, checks, Effect, Ty, un, key, Process}
use Rattle.spi_term.specs.Substitution.{process_put}
use Rattle.spi_term.specs.Names.{EffectAvoids, ProcessOver}
use Rattle.spi_term.specs.SameTy.{same_un}
use Rattle.spi_effect.specs.Effect.{IsDifference}
use Rattle.spi_effect.proofs.Laws.{cut_cases, sum_append, same_ty_refl}
use Rattle.spi_effect.proofs.Rests.{difference_start}
use Rattle.spi_rules.specs.Environment.{Env, extended, untrusted}
use Rattle.spi_rules.specs.Messages.{HasType, msg_name, msg_pair, msg_enc, IsLabel, label_name, label_pair}
use Rattle.spi_rules.specs.Good.{good_none, good_ends, GoodTy, good_un, good_pair, good_nonce, good_key}
use Rattle.spi_rules.specs.Processes.{HasEffect, nonce_name, proc_stop, proc_out, proc_in, proc_split, proc_decrypt, proc_check, proc_begin, proc_end, proc_cast, proc_new, proc_par}
use Rattle.spi_rules.specs.Derivations.{RuleUse, Derivable, uses, effect_uses}
use Rattle.spi_rules.specs.declared.rule.Rule.{Rule}
use Rattle.spi_rules.specs.declared.rule.Rule.TheVariants.{MsgName, MsgPair, MsgEnc, ProcStop, ProcOut, ProcIn, ProcSplit, ProcDecrypt, ProcCheck, ProcBegin, ProcEnd, ProcCast, ProcNew, ProcPar}
use Rattle.spi_deriv.specs.Canonical.{IsCanonical, Canonical}
use Rattle.spi_commands.proofs.LoadProcesses.{answer_type, answering_process, asking_process, handshake_process, AreSessions, one_session, two_halves}

-- the rules of the two parts of a session, and of a session
abbrev pub answering_uses : List RuleUse
answering_uses =
    uses ProcIn (uses MsgName (uses ProcNew (uses ProcBegin (uses ProcCast (uses MsgName (uses ProcOut (uses MsgName (
    uses MsgEnc (uses MsgPair (uses MsgName (uses MsgName [])))))))))))

abbrev pub asking_uses : List RuleUse
asking_uses =
    uses ProcNew (uses ProcPar (uses ProcOut (uses MsgName (uses MsgName (uses ProcIn (uses MsgName (
    uses ProcDecrypt (uses MsgName (uses MsgName (uses ProcSplit (uses MsgName (uses ProcCheck (uses MsgName (
    uses ProcEnd (uses ProcStop [])))))))))))))))

abbrev pub handshake_uses : List RuleUse
handshake_uses = uses ProcNew (uses ProcPar (answering_uses ++ asking_uses))

-- one atom, less itself and others, leaves nothing
one_less : (a : Atom) (fs : Effect) → IsDifference [] (a ∷ []) (a ∷ fs)
one_less a fs = record {
  at = λ b. ⊎_elim (λ c. omega arith) (λ c. omega arith) (cut_cases b);
}

-- a lookup, by place
at0 : {t : Ty} {e : Env} → At (t ∷ e) 0 t
at0 = at_first

at1 : {a t : Ty} {e : Env} → At (a ∷ t ∷ e) 1 t
at1 = at_later at0

at2 : {a b t : Ty} {e : Env} → At (a ∷ b ∷ t ∷ e) 2 t
at2 = at_later at1

at3 : {a b c t : Ty} {e : Env} → At (a ∷ b ∷ c ∷ t ∷ e) 3 t
at3 = at_later at2

at4 : {a b c d t : Ty} {e : Env} → At (a ∷ b ∷ c ∷ d ∷ t ∷ e) 4 t
at4 = at_later at3

at5 : {a b c d f t : Ty} {e : Env} → At (a ∷ b ∷ c ∷ d ∷ f ∷ t ∷ e) 5 t
at5 = at_later at4

at6 : {a b c d f g t : Ty} {e : Env} → At (a ∷ b ∷ c ∷ d ∷ f ∷ g ∷ t ∷ e) 6 t
at6 = at_later at5

at7 : {a b c d f g h t : Ty} {e : Env} → At (a ∷ b ∷ c ∷ d ∷ f ∷ g ∷ h ∷ t ∷ e) 7 t
at7 = at_later at6

at8 : {a b c d f g h i t : Ty} {e : Env} → At (a ∷ b ∷ c ∷ d ∷ f ∷ g ∷ h ∷ i ∷ t ∷ e) 8 t
at8 = at_later at7

abbrev is_un_name : {env : Env} {x : ℕ} → At env x un → HasType [] env (name x) un
is_un_name a = msg_name a same_un

-- (a, b, m) with this name for m
abbrev labelled : ℕ → Message
labelled x = pair (name 0) (pair (name 1) (name x))

is_label : {a b t : Ty} {e : Env} {x : ℕ} → At (a ∷ b ∷ e) x t → IsLabel [] (a ∷ b ∷ e) (labelled x)
is_label c = label_pair (label_name at0) (label_pair (label_name at1) (label_name c))

-- the type of an answer is good
good_answer : {a b : Ty} (e : Env) → At (extended (a ∷ b ∷ e) un) (length (a ∷ b ∷ e)) un → GoodTy [] (a ∷ b ∷ e) answer_type
good_answer e c = good_pair good_un (good_nonce (good_ends (is_label c) good_none))

-- the names behind name 4 aren't in the effect that checks it
others : (x : ℕ) → EffectAvoids (5 + x) (checks (name 4) ∷ [])
others x = (λ e. omega arith, tt)

-- a, b, net and the key
abbrev keyed_env : Env
keyed_env = un ∷ un ∷ un ∷ key answer_type ∷ []

-- the first part's typing, the second part's, and the session's
abbrev answering_has : HasEffect [] keyed_env (process_put (name 3) answering_process) []
answering_has =
    proc_in (is_un_name at2)
    (proc_new {es = []}
    (proc_begin {es = ends (labelled 5) ∷ []}
    (proc_cast {es = []} (is_un_name at4)
    (proc_out (is_un_name at2) (msg_enc (msg_pair (is_un_name at5) (msg_name at6 (same_ty_refl _))) at3))
    (good_nonce (good_ends (is_label at5) good_none)) tt (sum_append [] _))
    (is_label at5) (one_less _ _))
    tt good_un (difference_start _) tt)
    tt

abbrev asking_has : HasEffect [] keyed_env (process_put (name 3) asking_process) []
asking_has =
    proc_new {es = checks (name 4) ∷ []}
    (proc_par {es = []} {fs = checks (name 4) ∷ []} (proc_out (is_un_name at2) (is_un_name at4))
    (proc_in (is_un_name at2)
    (proc_decrypt (is_un_name at5) (msg_name at3 (same_ty_refl _))
    (proc_split (msg_name at6 (same_ty_refl _))
    (proc_check {es = ends (labelled 7) ∷ []} {ds = []} (is_un_name at4)
    (proc_end {es = []} proc_stop (is_label at7) (sum_append [] _))
    (nonce_name at8) (one_less _ _) (sum_append [] _))
    (good_answer _ at7) (others 2) (others 3))
    (good_answer _ at6) (others 1))
    (others 0))
    (sum_append [] _))
    tt good_un (one_less _ _) tt

abbrev handshake_has : HasEffect [] (untrusted 3) handshake_process []
handshake_has =
    proc_new {es = []} (proc_par answering_has asking_has (sum_append [] [])) tt
    (good_key (good_answer _ at3))
    (difference_start _) tt

-- a session's typing is canonical
pub handshake_canonical : (d : HasEffect [] (untrusted 3) handshake_process []) × IsCanonical d × (effect_uses d ≡ handshake_uses)
handshake_canonical = (handshake_has, ((tt, (tt, (tt, (tt, tt)))), ((tt, tt), (tt, (tt, tt, (tt, (tt, tt)))))), refl)

-- a rule before the uses of two processes
length_both : (r : Rule) (ds es : List RuleUse) → length (uses r (ds ++ es)) ≡ 1 + (length ds + length es)
length_both r ds es = let e = length-append ds es in omega arith

-- there is a session
pub sessions_some : {n : ℕ} {p : Process} → AreSessions n p → 1 ≤ n
sessions_some one_session = omega arith
sessions_some (two_halves le e s t) = omega arith

handshake_over : ProcessOver 3 handshake_process
handshake_over = omega arith

-- the canonical derivation of so many sessions, and its length
pub sessions_canonical : {n : ℕ} {p : Process} → AreSessions n p → (d : List RuleUse) × Canonical d 3 p × (length d ≡ 31 * n - 1)
sessions_canonical one_session =
    let (d, c, e) = handshake_canonical in
    (handshake_uses, record { over = handshake_over; has = d; canonical = c; are = e }, refl)
sessions_canonical (two_halves {n} {m} le e s t) =
    let (ds, c, k) = sessions_canonical s in
    let (fs, d, l) = sessions_canonical t in
    let i = sessions_some s in
    let j = sessions_some t in (
      uses ProcPar (ds ++ fs),
      record { over = (tt, c.over, d.over); has = proc_par c.has d.has (sum_append [] []); canonical = (c.canonical, d.canonical); are = rw (c.are, d.are) refl },
      (let b = length_both ProcPar ds fs in omega arith),
    )

pub sessions_derivable : {n : ℕ} {p : Process} → AreSessions n p → Derivable (untrusted 3) p []
sessions_derivable s = let (d, c, e) = sessions_canonical s in record { over = c.over; has = c.has }
