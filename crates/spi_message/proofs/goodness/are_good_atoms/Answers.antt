use Rattle.std.proofs.Common.{arith}
use Rattle.std.proofs.lemmas.Option.{slice_get-get_or}
use Rattle.std.proofs.lemmas.List.{drop_all}
use Rattle.spi_intern.proofs.Meanings.{terms_same, terms_more}
use Rattle.spi_message.proofs.Fills.{all_below_keeps}
use Rattle.spi_message.proofs.FillsTypes.{atoms_below_keep}
use Rattle.spi_message.proofs.Standing.{environment_keeps}
use Rattle.spi_message.proofs.Goods.{same_start, same_next, same_stop, same_end, drop_one, drop_next}
use Rattle.spi_message.proofs.Examining.{no_atoms, next_atom, in_got}
use Rattle.spi_message.proofs.goodness.are_good_atoms.Goals as goal

pub loop-a-init : goal.loop-a-init
loop-a-init c = record { kept = terms_same c.args.store.now; same = same_start c.args.atoms.now; gives = no_atoms }

pub is_good_atom-requires-clause-atom : goal.is_good_atom-requires-clause-atom
is_good_atom-requires-clause-atom c = (atoms_below_keep c.loop-a.invariant.kept.messages c.requires.atoms).at c.loop-a.a-index _ (slice_get-get_or c.args.atoms.now c.loop-a.a-index _ c.loop-a-test.true)

pub is_good_atom-requires-clause-names : goal.is_good_atom-requires-clause-names
is_good_atom-requires-clause-names c = environment_keeps c.loop-a.invariant.kept c.requires.names

pub is_good_atom-requires-clause-values : goal.is_good_atom-requires-clause-values
is_good_atom-requires-clause-values c = all_below_keeps c.loop-a.invariant.kept.messages c.requires.values

pub returns-then-not-branch-clause-answer : goal.returns-then-not-branch-clause-answer
returns-then-not-branch-clause-answer c =
    same_stop c.loop-a.invariant.same (drop_one c.args.atoms.now c.loop-a.a-index _ c.loop-a-test.true) c.loop-a.invariant.kept (c.requires.atoms.at c.loop-a.a-index _ (slice_get-get_or c.args.atoms.now c.loop-a.a-index _ c.loop-a-test.true)) c.requires.values c.in_ok-is_good_atom.ensures.answer c.if-not-branch.true

pub loop-a-preserved : goal.loop-a-preserved
loop-a-preserved c =
    record {
      kept = terms_more c.loop-a.invariant.kept c.in_ok-is_good_atom.ensures.kept;
      same = same_next c.loop-a.invariant.same (drop_next c.args.atoms.now c.loop-a.a-index _ c.loop-a-test.true) c.loop-a.invariant.kept (c.requires.atoms.at c.loop-a.a-index _ (slice_get-get_or c.args.atoms.now c.loop-a.a-index _ c.loop-a-test.true)) c.requires.values c.in_ok-is_good_atom.ensures.answer c.if-not-branch.false;
      gives = next_atom _ c.loop-a.invariant.gives c.loop-a.invariant.kept c.requires.values (c.requires.atoms.at c.loop-a.a-index _ (slice_get-get_or c.args.atoms.now c.loop-a.a-index _ c.loop-a-test.true)) (in_got c.args.atoms.now c.loop-a.a-index _ c.loop-a-test.true) c.in_ok-is_good_atom.ensures.adds;
    }

pub returns-clause-answer : goal.returns-clause-answer
returns-clause-answer c = same_end c.loop-a.invariant.same (drop_all c.loop-a.a-index c.args.atoms.now (omega (arith, c.loop-a-test.false)))

pub returns-clause-adds : goal.returns-clause-adds
returns-clause-adds c = c.loop-a.invariant.gives

pub returns-then-not-branch-clause-adds : goal.returns-then-not-branch-clause-adds
returns-then-not-branch-clause-adds c = next_atom _ c.loop-a.invariant.gives c.loop-a.invariant.kept c.requires.values (c.requires.atoms.at c.loop-a.a-index _ (slice_get-get_or c.args.atoms.now c.loop-a.a-index _ c.loop-a-test.true)) (in_got c.args.atoms.now c.loop-a.a-index _ c.loop-a-test.true) c.in_ok-is_good_atom.ensures.adds
