use Rattle.std.proofs.Common.{refl}
use Rattle.spi_run.specs.View.{step}
use Rattle.spi_replay.specs.Stepping.{event_in}
use Rattle.spi_course.proofs.Told.{hands}
use Rattle.spi_course.proofs.course.take_one.Goals as goal

pub returns-clause-ok : goal.returns-clause-ok
returns-clause-ok c = (
  event_in c.in_ok-shown.shown,
  record {
    takes = c.in_ok-shown.ensures.ok;
    datum = hands c.args.pool.now.configuration c.step.new.self.configuration (step c.args.step) (event_in c.in_ok-shown.shown) c.in_ok-datum.datum c.in_ok-shown.ensures.ok.takes c.in_ok-datum.ensures;
    event = c.in_ok-event.ensures.number;
    made = rw (c.grown.ensures, c.names-names.ensures, c.names.ensures) refl;
    added = rw (c.grown-2.ensures, c.places-places.ensures, c.places.ensures) refl;
  },
  c.in_ok-event.ensures.events,
)
