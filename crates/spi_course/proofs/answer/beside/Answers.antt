use Rattle.std.proofs.Common.{map, ap, arith, subst}
use Rattle.std.proofs.lemmas.List.{length-map}
use Rattle.spi_run.specs.View.{step}
use Rattle.spi_replay.specs.Stepping.{Pooled}
use Rattle.spi_course.specs.Courses.{IsCourse}
use Rattle.spi_course.proofs.Told.{course_few, starts}
use Rattle.spi_course.proofs.answer.beside.Goals as goal

pub take_all-requires : goal.take_all-requires
take_all-requires c =
    let names = ap (λ (p : Pooled). p.configuration.names) (starts c.args.file.now.process c.args.opponent.now c.in_ok-pool.pool c.in_ok-pool.ensures.configuration c.in_ok-pool.ensures.most) in
    let less = c.requires.few in
    omega (arith, names, less)

pub written-requires-clause-few : goal.written-requires-clause-few
written-requires-clause-few c =
    let few = course_few c.in_ok-course.ensures in
    let each = length-map c.args.steps.now step in
    let less = c.requires.few in
    omega (arith, few, each, less)

pub returns-clause-course : goal.returns-clause-course
returns-clause-course c = (
  c.take_all.new.pool,
  subst (λ (p : Pooled). IsCourse p (map step c.args.steps.now) c.in_ok-course.course c.take_all.new.pool)
      (starts c.args.file.now.process c.args.opponent.now c.in_ok-pool.pool c.in_ok-pool.ensures.configuration c.in_ok-pool.ensures.most)
      c.in_ok-course.ensures,
)

pub returns-clause-few : goal.returns-clause-few
returns-clause-few c =
    let few = course_few c.in_ok-course.ensures in
    let each = length-map c.args.steps.now step in
    let less = c.requires.few in
    omega (arith, few, each, less)
