use Rattle.std.proofs.Common.{reverse, arith}
use Rattle.spi_scope.specs.Chains.{chain_at}
use Rattle.spi_fault.proofs.Telling.{fits_more, some_more, told_served, told_stays, told_made}
use Rattle.spi_fault.proofs.deciding.failing.Goals as goal

pub overflow_add-id : goal.overflow_add-id
overflow_add-id c = omega (arith, fits_more _ c.len.ensures.small c.requires.node.1 (rw c.in-Served.is at c.requires.node.3))

pub spoiled-requires-clause-there : goal.spoiled-requires-clause-there
spoiled-requires-clause-there c = some_more _ c.requires.node.1 c.requires.node.2 (rw c.in-Served.is at c.requires.node.3)

pub overflow_add-id-in-Stays : goal.overflow_add-id-in-Stays
overflow_add-id-in-Stays c = omega (arith, fits_more _ c.len.ensures.small c.requires.node.1 (rw c.in-Stays.is at c.requires.node.3))

pub spoiled-requires-in-Stays-clause-there : goal.spoiled-requires-in-Stays-clause-there
spoiled-requires-in-Stays-clause-there c = some_more _ c.requires.node.1 c.requires.node.2 (rw c.in-Stays.is at c.requires.node.3)

pub overflow_add-id-in-Made : goal.overflow_add-id-in-Made
overflow_add-id-in-Made c = omega (arith, fits_more _ c.len.ensures.small c.requires.node.1 (rw c.in-Made.is at c.requires.node.3))

pub unchecked-requires-clause-there : goal.unchecked-requires-clause-there
unchecked-requires-clause-there c = some_more _ c.requires.node.1 c.requires.node.2 (rw c.in-Made.is at c.requires.node.3)

pub returns-in-Served : goal.returns-in-Served
returns-in-Served c =
    rw c.in-Served.is (told_served (λ i. reverse (chain_at c.args.file.now.marks.scopes i)) _ _ _ _ _ c.requires.node.1 c.in-Served.at c.spoiled.result (rw c.in-Served.is at c.requires.node.3) c.spoiled.ensures)

pub returns-in-Stays : goal.returns-in-Stays
returns-in-Stays c =
    rw c.in-Stays.is (told_stays (λ i. reverse (chain_at c.args.file.now.marks.scopes i)) _ _ _ _ _ c.requires.node.1 c.in-Stays.names c.in-Stays.at c.spoiled-in-Stays.result (rw c.in-Stays.is at c.requires.node.3) (rw c.len-n.ensures at c.spoiled-in-Stays.ensures))

pub returns-in-Made : goal.returns-in-Made
returns-in-Made c =
    rw c.in-Made.is (told_made (λ i. reverse (chain_at c.args.file.now.marks.scopes i)) _ _ _ _ _ c.requires.node.1 c.in-Made.at c.unchecked.result (rw c.in-Made.is at c.requires.node.3) (rw c.len-n.ensures at c.unchecked.ensures))
