use Rattle.std.proofs.Common.{sym, ap, subst, ◌∙◌, ◌-◌, ℕ, List, slice_get, length, map, arith}
use Rattle.spi_term.specs.View.{message}
use Rattle.spi_know.specs.Numbered.{StartsWith}
use Rattle.spi_horn.specs.Leading.{StartsWithin}
use Rattle.spi_know.proofs.Starting.{starts_kept, starts_within, length_from, length_nodes}
use Rattle.spi_know.proofs.deciding.decide.Goals as goal

pub decide_numbers-requires-clause-start : goal.decide_numbers-requires-clause-start
decide_numbers-requires-clause-start c =
    let ms = c.message.new.self.messages in
    let from = map message c.args.sent.now in
    let starts = starts_kept _ ms from _ c.in_ok-id.ensures.kept.messages c.in_ok-start.ensures.starts in
    subst (λ (ns : List ℕ). StartsWithin (length ms) ns) (sym c.deref.ensures.value) (starts_within ms from _ starts)

pub decide_numbers-requires-clause-few : goal.decide_numbers-requires-clause-few
decide_numbers-requires-clause-few c =
    let first = c.in_ok-start.ensures.few in
    let more = c.in_ok-id.ensures.few in
    let all = c.requires in
    omega (arith, first, more, all)

pub overflow_cast-count : goal.overflow_cast-count
overflow_cast-count c =
    let few = length_nodes c.args.sent.now in
    let all = c.requires in
    omega (arith, few, all)

pub returns : goal.returns
returns c =
    let ms = c.message.new.self.messages in
    let from = map message c.args.sent.now in
    let starts = starts_kept _ ms from _ c.in_ok-id.ensures.kept.messages c.in_ok-start.ensures.starts in
    c.in_ok-knowledge.ensures from _ (subst (λ (ns : List ℕ). StartsWith ms from ns) (sym c.deref.ensures.value) starts)
    (length_from c.args.sent.now) (ap (slice_get ms) c.place.ensures ∙ c.in_ok-id.ensures.at)
