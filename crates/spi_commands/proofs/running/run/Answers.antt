use Rattle.spi_commands.proofs.RunEnds.{headline, many_to_one, promise, complete}
use Rattle.spi_commands.proofs.running.run.Goals as goal

pub returns-clause-headline : goal.returns-clause-headline
returns-clause-headline g c =
    let e = c.run_for.ensures in
    headline _ _ _ _ _ _ _ _ _ _ _ e.read_fault e.write_fault c.answers_keep_promises.ensures _ e.within e.answer

pub returns-clause-many_to_one : goal.returns-clause-many_to_one
returns-clause-many_to_one g c =
    many_to_one c.one_file.ensures c.derivable_is_many_safe.ensures _ _ _ _ _ _ _ c.run_for.ensures.answer

pub returns-clause-promise : goal.returns-clause-promise
returns-clause-promise g c =
    let e = c.run_for.ensures in
    promise _ _ _ _ _ _ _ _ _ _ _ e.read_fault e.write_fault c.answers_keep_promises.ensures _ e.within e.answer

pub returns-clause-complete : goal.returns-clause-complete
returns-clause-complete g c =
    let e = c.run_for.ensures in
    complete _ _ _ _ _ _ _ _ _ _ _ e.read_fault e.write_fault e.answer
