use Rattle.std.proofs.Common.{arith, map}
use Rattle.std.proofs.lemmas.List.{map_push}
use Rattle.std.proofs.lemmas.Result.{err_from_is_err_and}
use Rattle.spi_parse.specs.Places.{state_of}
use Rattle.spi_parse.specs.Reading.{read, limited}
use Rattle.spi_parse.proofs.Fronts.{goes_on, is_done, gives_up}
use Rattle.spi_tree.specs.Views.{decl_of}
use Rattle.spi_parse.specs.Table.{decls, decls_item}
use Rattle.spi_parse.proofs.Readers.{takes_some}
use Rattle.spi_parse.proofs.Lists.{decls_law, decls_take}
use Rattle.spi_parse.proofs.declarations.all_declarations.Goals as goal

pub items-smaller : goal.items-smaller
items-smaller c =
    let k = takes_some limited (decls_item c.args.later) (state_of c.items.at) _ (decls_take c.args.later) c.in_ok-item.ensures in
    omega arith

pub items-preserved : goal.items-preserved
items-preserved c =
    let e = rw c.in-Some.is at c.in_ok-item.ensures in
    rw (c.in_ok-push-in-Some.ensures.items, map_push decl_of c.items.more.items c.in-Some.part)
    (goes_on (read limited (decls_item c.args.later)) (read limited (decls c.args.later)) (decls_law c.args.later) (map decl_of c.items.more.items) (decl_of c.in-Some.part) (state_of c.items.at) (state_of c.next_declaration.new.at) _ e c.items.invariant)

pub returns-in_err-item : goal.returns-in_err-item
returns-in_err-item c =
    let p = err_from_is_err_and c.from_residual.result c.from_residual.ensures.1 in
    rw (p.1, p.2) (gives_up (read limited (decls_item c.args.later)) (read limited (decls c.args.later)) (decls_law c.args.later) (map decl_of c.items.more.items) c.in_err-item.field-0.0 (state_of c.items.at) _ c.in_err-item.ensures c.items.invariant)

pub returns-in-None : goal.returns-in-None
returns-in-None c =
    let e = rw c.in-None.is at c.in_ok-item.ensures in
    is_done (read limited (decls_item c.args.later)) (read limited (decls c.args.later)) (decls_law c.args.later) (map decl_of c.items.more.items) tt (state_of c.items.at) (state_of c.next_declaration.new.at) _ e c.items.invariant
