use Rattle.std.proofs.Common.{◌≡◌, sym, ap, ◌∙◌, [], None}
use Rattle.spi_count.specs.Counts.{IsNothing}
use Rattle.spi_count.specs.Sums.{counts_of, entries_of}
use Rattle.spi_count.specs.declared.sum.AtomKind.{AtomKind}
use Rattle.spi_count.specs.declared.sum.AtomKind.TheVariants.{End, Check, Many}
use Rattle.spi_count.specs.declared.sum.Counted.{Counted}
use Rattle.spi_count.proofs.Merging.{no_entries}
use Rattle.spi_count.proofs.sum.Sum.take_counted.Goals as goal

none_yet : (c : Counted) → IsNothing c.ends.counts → IsNothing c.checks.counts → IsNothing c.lasting.counts
    → (kind : AtomKind) → (counts_of kind c).entries ≡ []
none_yet c e k l End = no_entries c.ends.counts c.ends.positive e
none_yet c e k l Check = no_entries c.checks.counts c.checks.positive k
none_yet c e k l Many = no_entries c.lasting.counts c.lasting.positive l

pub returns-in_ok-new-in-None : goal.returns-in_ok-new-in-None
returns-in_ok-new-in-None c kind =
    let none : c.args.self.now.counted ≡ None = sym c.take.ensures.value ∙ c.in-None.is in
    ap (λ b. (counts_of kind b).entries) c.in_ok-new-in-None.ensures.ok
    ∙ none_yet c.new.result c.new.ensures.ends c.new.ensures.checks c.new.ensures.lasting kind
    ∙ sym (ap (entries_of kind) none)
