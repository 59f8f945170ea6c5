use Rattle.std.proofs.Common.{◌∙◌, ap, sym, ◌-◌}
use Rattle.spi_origin.proofs.Marks.{first_listed, none_first}
use Rattle.spi_origin.proofs.gathering.first_list.Goals as goal
use Rattle.spi_origin.proofs.gathering.first_list.Goals.{in-Some, in-None}

pub returns : goal.returns
returns c l ls h =
    let len = c.len.ensures in
    elim c.match-last.branch [
      | in-Some w ↦
          first_listed c.args.marks.now c.args.found.items c.reverse.new.self.items c.truncate.new.self.items l ls w.in-Some.mark.now c.saturating_sub-length.result (sym w.in-Some.ensures.value) c.reverse.ensures.items (c.saturating_sub-length.ensures ∙ ap (λ n. c.len.result - n) w.mark-is ∙ ap (λ n. n - w.in-Some.mark.now) (c.len.ensures ∙ c.args.found.ok.0)) c.truncate.ensures.items h
      | in-None w ↦ absurd (none_first c.args.marks.now c.args.found.items l ls (sym w.in-None.ensures.value) h)
    ]
