use Rattle.std.proofs.Common.{◌++◌, reverse, sym, ap, ◌∙◌, append-nil}
use Rattle.std.proofs.lemmas.List.{drop_all}
use Rattle.spi_scope.specs.Table.{Naming, spellings}
use Rattle.spi_scope.proofs.Tables.{reverse_twice}
use Rattle.spi_scope.proofs.names.Names.texts.Goals as goal

pub returns : goal.returns
returns c =
    let texts = c.loop-held.texts.items in
    let e = drop_all c.loop-held.held-index c.deref-held-items.result.now c.loop-held-test.false in
    sym (append-nil texts) ∙ ap (λ l. texts ++ spellings l) (sym e) ∙ c.loop-held.invariant
    ∙ ap spellings c.deref-held-items.ensures.value ∙ sym (reverse_twice c.self.inside.hidden.items) ∙ ap (λ (s : Naming). reverse s.names) c.self.view_is
