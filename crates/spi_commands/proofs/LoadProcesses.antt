-- The processes of sessions of the nonce handshake, over the names a, b and net.
use Rattle.std.proofs.Common.{◌≡◌, ℕ, ◌+◌, ◌-◌, ◌/◌, ◌≤◌, [], ◌∷◌}
use Rattle.spi_term.specs.Term.{Message, bound, name, pair, enc, ends, Ty, un, pair_ty, key, nonce, Process, send, stop, recv, split, decrypt, check, begin, end, cast, fresh, par}

-- (a, b, m), where m is the binder with this index
abbrev pub session_label : ℕ → Message
session_label i = pair (name 0) (pair (name 1) (bound i))

-- (m: Un, n: Nonce [end (a, b, m)])
abbrev pub answer_type : Ty
answer_type = pair_ty un (nonce (ends (session_label 0) ∷ []))

-- inp net (q: Un); new (m: Un); begin (a, b, m); cast q is (p: Nonce [end (a, b, m)]); out net {(m, p)}k
abbrev pub answering_process : Process
answering_process = recv (name 2) un (fresh un (begin (session_label 0) (cast (bound 1) (nonce (ends (session_label 0) ∷ [])) (send (name 2) (enc (pair (bound 1) (bound 0)) (bound 3))))))

-- split x is (m: Un, p: Nonce [end (a, b, m)]); check n is p; end (a, b, m); stop
abbrev pub checking_process : Process
checking_process = split (bound 0) un (nonce (ends (session_label 0) ∷ [])) (check (bound 4) (bound 0) (end (session_label 1) stop))

-- new (n: Un); out net n; inp net (c: Un); decrypt c is {x: (m: Un, n: Nonce [end (a, b, m)])}k; split ..
abbrev pub asking_process : Process
asking_process = fresh un (par (send (name 2) (bound 0)) (recv (name 2) un (decrypt (bound 0) answer_type (bound 2) checking_process)))

abbrev pub handshake_process : Process
handshake_process = fresh (key answer_type) (par answering_process asking_process)

-- n of them beside one another: one alone, or one half, rounded up, beside the other
pub data AreSessions : ℕ → Process → Type 0 where
  one_session : AreSessions 1 handshake_process
  two_halves : {n m : ℕ} {p q : Process} → 2 ≤ n → m ≡ (n + 1) / 2 → AreSessions m p → AreSessions (n - m) q → AreSessions n (par p q)
