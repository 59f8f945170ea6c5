use Rattle.std.proofs.Common.{suc, ◌+◌}
use Rattle.spi_tree.specs.Views.{proc_of}
use Rattle.spi_scope.proofs.Weights.{process_weight}
use Rattle.spi_scope.proofs.processes.+processes.Given as goal

-- three times the weight of what is left, and one more for each call on the way to a smaller process
abbrev pub decreases-read_process : goal.decreases-read_process
decreases-read_process l = suc (process_weight (proc_of l.p.now) + process_weight (proc_of l.p.now) + process_weight (proc_of l.p.now))

abbrev pub decreases-read_messages_form : goal.decreases-read_messages_form
decreases-read_messages_form l = process_weight (proc_of l.p.now) + process_weight (proc_of l.p.now) + process_weight (proc_of l.p.now)

abbrev pub decreases-read_typed_form : goal.decreases-read_typed_form
decreases-read_typed_form l = process_weight (proc_of l.p.now) + process_weight (proc_of l.p.now) + process_weight (proc_of l.p.now)

abbrev pub decreases-read_opening_form : goal.decreases-read_opening_form
decreases-read_opening_form l = process_weight (proc_of l.p.now) + process_weight (proc_of l.p.now) + process_weight (proc_of l.p.now)

abbrev pub decreases-read_pair_form : goal.decreases-read_pair_form
decreases-read_pair_form l = process_weight (proc_of l.p.now) + process_weight (proc_of l.p.now) + process_weight (proc_of l.p.now)

abbrev pub decreases-read_under : goal.decreases-read_under
decreases-read_under l = suc (suc (process_weight (proc_of l.p.now) + process_weight (proc_of l.p.now) + process_weight (proc_of l.p.now)))

abbrev pub decreases-send_then : goal.decreases-send_then
decreases-send_then l = suc (suc (process_weight (proc_of l.then.now) + process_weight (proc_of l.then.now) + process_weight (proc_of l.then.now)))

abbrev pub decreases-branch : goal.decreases-branch
decreases-branch l = suc (suc (suc ((process_weight (proc_of l.first.now) + process_weight (proc_of l.first.now) + process_weight (proc_of l.first.now)) + (process_weight (proc_of l.second.now) + process_weight (proc_of l.second.now) + process_weight (proc_of l.second.now)))))

abbrev pub decreases-compose : goal.decreases-compose
decreases-compose l = suc (suc ((process_weight (proc_of l.first.now) + process_weight (proc_of l.first.now) + process_weight (proc_of l.first.now)) + (process_weight (proc_of l.rest.now) + process_weight (proc_of l.rest.now) + process_weight (proc_of l.rest.now))))
