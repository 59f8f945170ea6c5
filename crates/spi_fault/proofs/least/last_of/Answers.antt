use Rattle.std.proofs.Common.{◌-◌, ◌<◌, ap, sym, ◌∙◌, Some, length}
use Rattle.std.proofs.lemmas.Option.{slice_get-get_or}
use Rattle.spi_fault.specs.Trying.{IsOf}
use Rattle.spi_fault.proofs.Texts.{best_last, some_place}
use Rattle.spi_fault.proofs.least.last_of.Goals as goal

pub returns : goal.returns
returns c =
    let l : length c.args.atoms.now - 1 < length c.args.atoms.now = some_place c.args.atoms.now c.is_empty.result c.is_empty.ensures c.if-is_empty.false in
    best_last c.args.names.now (IsOf c.args.kind) c.args.atoms.now (length c.args.atoms.now - 1) c.index-atoms-i.result c.in_ok-text.text
    (slice_get-get_or c.args.atoms.now _ c.index-atoms-i.result l ∙ ap Some (sym c.index-atoms-i.is)) (c.is_of.ensures.0 c.if-not-is_of.false) c.in_ok-text.ensures
