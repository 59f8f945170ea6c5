-- How much of a process is left to read.
use Rattle.std.proofs.Common.{ℕ, suc, ◌+◌}
use Rattle.spi_tree.specs.Trees as t

abbrev pub process_weight : t.Proc → ℕ
process_weight (t.par s p q) = suc (process_weight p + process_weight q)
process_weight (t.out s m n) = 1
process_weight (t.out_then s m n p) = suc (process_weight p)
process_weight (t.inp s m x a p) = suc (process_weight p)
process_weight (t.repeat s m x a p) = suc (process_weight p)
process_weight (t.split s m x a y c p) = suc (process_weight p)
process_weight (t.match s m x a n y c p) = suc (process_weight p)
process_weight (t.case s m x a p y c q) = suc (process_weight p + process_weight q)
process_weight (t.decrypt s m x a n p) = suc (process_weight p)
process_weight (t.check s m n p) = suc (process_weight p)
process_weight (t.begin s m p) = suc (process_weight p)
process_weight (t.end s m p) = suc (process_weight p)
process_weight (t.end_many s m p) = suc (process_weight p)
process_weight (t.cast s m x a p) = suc (process_weight p)
process_weight (t.new s x a p) = suc (process_weight p)
process_weight (t.stop s) = 1
process_weight (t.group s p q) = suc (process_weight p + process_weight q)
