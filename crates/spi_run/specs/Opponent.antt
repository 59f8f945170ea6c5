-- Opponents.
use Rattle.std.specs.Prelude.{⊤}
use Rattle.spi_term.specs.Term.{Ty, un, unit_ty, pair_ty, sum_ty, key, nonce, Process, send, recv, serve, split, select, branch, decrypt, check, begin, end, end_many, cast, fresh, par, stop}

-- Un and nothing else
abbrev pub IsUn : Ty → Type 0
IsUn un = ⊤
IsUn unit_ty = ⊥
IsUn (pair_ty t u) = ⊥
IsUn (sum_ty t u) = ⊥
IsUn (key t) = ⊥
IsUn (nonce es) = ⊥

-- a process without begin, end and endmany, with Un for each annotation
abbrev pub IsOpponent : Process → Type 0
IsOpponent (send m n) = ⊤
IsOpponent (recv m t p) = IsUn t × IsOpponent p
IsOpponent (serve m t p) = IsUn t × IsOpponent p
IsOpponent (split m t u p) = IsUn t × IsUn u × IsOpponent p
IsOpponent (select m t n u p) = IsUn t × IsUn u × IsOpponent p
IsOpponent (branch m t p u q) = IsUn t × IsOpponent p × IsUn u × IsOpponent q
IsOpponent (decrypt m t n p) = IsUn t × IsOpponent p
IsOpponent (check m n p) = IsOpponent p
IsOpponent (begin m p) = ⊥
IsOpponent (end m p) = ⊥
IsOpponent (end_many m p) = ⊥
IsOpponent (cast m t p) = IsUn t × IsOpponent p
IsOpponent (fresh t p) = IsUn t × IsOpponent p
IsOpponent (par p q) = IsOpponent p × IsOpponent q
IsOpponent stop = ⊤
