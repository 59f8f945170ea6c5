use Rattle.std.proofs.Common.{arith}
use Rattle.spi_term.specs.Spelling.{spelled}
use Rattle.spi_scope.specs.Files.{meant}
use Rattle.spi_workbench.proofs.Starting.{small_types, enough, few_names, many_types, are_over, is_first}
use Rattle.spi_workbench.proofs.bench.first_bench.Goals as goal

pub types_before-requires : goal.types_before-requires
types_before-requires c =
    let s = c.requires.stands in record { some = enough s.0 s.1 (meant c.args.file.now) s.2 c.args.news s.3 }

pub new-requires-clause-names : goal.new-requires-clause-names
new-requires-clause-names c =
    let s = c.requires.stands in
    let f = meant c.args.file.now in
    omega (arith, c.names.ensures, many_types s.0 s.1 f s.2 c.args.news s.3 c.in_ok-types.types.items c.in_ok-types.ensures, few_names s.0 s.1 f s.2 c.args.news s.3)

pub new-requires-clause-over : goal.new-requires-clause-over
new-requires-clause-over c =
    let s = c.requires.stands in
    are_over s.0 s.1 (meant c.args.file.now) s.2 c.args.news s.3 c.in_ok-types.types.items c.in_ok-types.ensures c.names.result c.names.ensures

pub new-requires-clause-small : goal.new-requires-clause-small
new-requires-clause-small c =
    small_types c.in_ok-types.types.items (spelled c.args.file.now.process.names c.args.file.now.process.process) c.args.news c.in_ok-types.ensures c.len-nodes.ensures.small.parts

pub returns : goal.returns
returns c b p s n =
    is_first b p (meant c.args.file.now) s c.args.news n c.in_ok-types.types.items c.in_ok-types.ensures c.names.result c.in_ok-bench.bench c.names.ensures c.in_ok-bench.ensures
