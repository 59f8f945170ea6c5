use Rattle.std.proofs.Common.{◌≤◌, map, take, length, ap, subst, arith}
use Rattle.std.proofs.lemmas.List.{take_all}
use Rattle.spi_term.specs.Term.{Effect}
use Rattle.spi_term.specs.View.{atom}
use Rattle.spi_intern.proofs.Meanings.{map_more}
use Rattle.spi_count.specs.Keeping.{HaveKeys}
use Rattle.spi_message.proofs.Tested.{kept_same, kept_more}
use Rattle.spi_count.proofs.Kept.{have_none, have_more, have_keys_keep, grows_same, grows_more}
use Rattle.spi_count.proofs.keeping.keep_atoms.Goals as goal

pub loop-a-init : goal.loop-a-init
loop-a-init c = record {
  at = have_none c.args.judge.now.store c.args.keys.now;
  grows = grows_same c.args.judge.now.store c.args.keys.now c.requires;
  kept = kept_same c.args.judge.now;
}

pub keep_atom-requires : goal.keep_atom-requires
keep_atom-requires c = c.loop-a.invariant.grows.are

pub loop-a-preserved : goal.loop-a-preserved
loop-a-preserved c =
    let more = map_more atom c.args.e.now.atoms.items _ c.loop-a.a-index c.a-item.result c.deref-a-items.ensures.value c.loop-a-test.true c.a-item.is in
    let es = map atom (take c.loop-a.a-index c.args.e.now.atoms.items) in
    record {
      at = subst (λ (es : Effect). HaveKeys c.keep_atom.new.judge.store c.keep_atom.new.keys es) more (have_more c.keep_atom.new.judge.store c.keep_atom.new.keys es (atom c.a-item.result) (have_keys_keep {s = c.loop-a.judge.store} {r = c.keep_atom.new.judge.store} {ks = c.loop-a.keys} {ls = c.keep_atom.new.keys} es c.in_ok-keep_atom.ensures.grows c.loop-a.invariant.at) c.in_ok-keep_atom.ensures.at);
      grows = grows_more c.loop-a.invariant.grows c.in_ok-keep_atom.ensures.grows;
      kept = kept_more c.loop-a.invariant.kept c.in_ok-keep_atom.ensures.kept;
    }

pub returns-clause-at : goal.returns-clause-at
returns-clause-at c =
    let l : length c.args.e.now.atoms.items ≤ c.loop-a.a-index = omega (arith, c.loop-a-test.false, ap length c.deref-a-items.ensures.value) in
    subst (λ (es : Effect). HaveKeys c.loop-a.judge.store c.loop-a.keys es) (ap (map atom) (take_all c.loop-a.a-index c.args.e.now.atoms.items l)) c.loop-a.invariant.at
