use Rattle.std.proofs.Common.{ap, sym, subst, map}
use Rattle.spi_run.specs.View.{step}
use Rattle.spi_scope.specs.Files.{meant}
use Rattle.spi_spell.specs.Joined.{with_schedule}
use Rattle.spi_narrate.specs.Views.{narration_of}
use Rattle.spi_narrator.specs.declared.answer.Refusal.TheVariants.{TooLarge}
use Rattle.spi_narrator.specs.Answers.{LineIn, RefusesNarration}
use Rattle.spi_narrator.proofs.Told.{refused_line, refused_large}
use Rattle.spi_narrator.proofs.telling.scheduled.Goals as goal

pub returns-in-Ok : goal.returns-in-Ok
returns-in-Ok c = record {
  file = meant c.args.file;
  honest = c.in-Ok.honest;
  channels = c.requires.channels;
  stands = c.requires.file;
  is = c.in-Ok.ensures.honest;
  same = ap (λ v. with_schedule (meant c.args.file) (map step v.items)) c.replace.ensures.value;
}

pub returns-in-Err-LineNotReady : goal.returns-in-Err-LineNotReady
returns-in-Err-LineNotReady c =
    refused_line (narration_of c.args.n.now) (meant c.args.file) c.in-Err-LineNotReady.line c.span_at.result c.in-Err-LineNotReady.field-0 c.in-Err-LineNotReady.field-0-is
    c.requires.channels c.requires.file c.in-Err-LineNotReady.ensures.fault (subst (λ i. LineIn (narration_of c.args.n.now).lines i c.span_at.result) c.in-Err-LineNotReady.line-is (rw c.deref.ensures.value at c.span_at.ensures))

pub returns-in-Err-NarratedTooLarge : goal.returns-in-Err-NarratedTooLarge
returns-in-Err-NarratedTooLarge c =
    subst (λ k. RefusesNarration (narration_of c.args.n.now) (TooLarge c.span_at-in-Err-NarratedTooLarge.result k)) (sym c.in-Err-NarratedTooLarge.nodes-is)
    (refused_large (narration_of c.args.n.now) (meant c.args.file) c.in-Err-NarratedTooLarge.line c.in-Err-NarratedTooLarge.nodes c.span_at-in-Err-NarratedTooLarge.result c.in-Err-NarratedTooLarge.field-0 c.in-Err-NarratedTooLarge.field-0-is
    c.requires.channels c.requires.file c.in-Err-NarratedTooLarge.ensures.fault (subst (λ i. LineIn (narration_of c.args.n.now).lines i c.span_at-in-Err-NarratedTooLarge.result) c.in-Err-NarratedTooLarge.line-is (rw c.deref-in-Err-NarratedTooLarge.ensures.value at c.span_at-in-Err-NarratedTooLarge.ensures)))
