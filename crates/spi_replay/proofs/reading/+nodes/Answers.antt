use Rattle.std.proofs.Common.{inl, inr, arith}
use Rattle.spi_replay.proofs.Smaller.{of_no_part, of_one, of_two, first_less_twice, second_less_twice, part_less_twice}
use Rattle.spi_replay.proofs.reading.+nodes.Goals as goal

pub nodes_after-nodes_after-requires : goal.nodes_after-nodes_after-requires
nodes_after-nodes_after-requires t c = part_less_twice c.decreases (of_one c.args.store.now.messages c.args.id c.part.ensures c.requires c.in-Inl.is).1

pub nodes_after-nodes_after_part-first-requires : goal.nodes_after-nodes_after_part-first-requires
nodes_after-nodes_after_part-first-requires t c = first_less_twice c.decreases (of_two c.args.store.now.messages c.args.id c.part.ensures c.requires c.in-Pair.is).1

pub nodes_after-nodes_after_part-requires : goal.nodes_after-nodes_after_part-requires
nodes_after-nodes_after_part-requires t c = second_less_twice c.decreases (of_two c.args.store.now.messages c.args.id c.part.ensures c.requires c.in-Pair.is).1

pub nodes_after-returns-in-Inl : goal.nodes_after-returns-in-Inl
nodes_after-returns-in-Inl t c = let (f, w) = of_one c.args.store.now.messages c.args.id c.part.ensures c.requires c.in-Inl.is in omega (arith, w.size)

pub nodes_after-returns-in-Pair : goal.nodes_after-returns-in-Pair
nodes_after-returns-in-Pair t c = let (f, w) = of_two c.args.store.now.messages c.args.id c.part.ensures c.requires c.in-Pair.is in omega (arith, w.size)

pub nodes_after-returns-in-Bound : goal.nodes_after-returns-in-Bound
nodes_after-returns-in-Bound t c = let e = of_no_part c.args.store.now.messages c.args.id c.part.ensures c.requires c.in-Bound.is in omega (arith, e)

pub nodes_after_part-returns-in-Name : goal.nodes_after_part-returns-in-Name
nodes_after_part-returns-in-Name t c = let e = of_no_part c.args.store.now.messages c.args.id c.part.ensures c.requires (inr (inl (c.in-Name.field-0, c.in-Name.is))) in omega (arith, e)
