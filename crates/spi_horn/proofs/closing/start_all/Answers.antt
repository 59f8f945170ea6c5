use Rattle.std.proofs.Common.{◌≡◌, refl, ◌∙◌, sym, ◌<◌, ◌+◌, Some, slice_get, get_or, length, subst, arith, ℕ, below_more}
use Rattle.std.proofs.lemmas.Option.{slice_get-get_or, slice_get_within}
use Rattle.spi_horn.specs.declared.rules.Why.TheVariants.{Start}
use Rattle.spi_horn.specs.Leading.{HasSomePlace}
use Rattle.spi_horn.proofs.Placing.{good_first, good_add, added_stands, added_keeps}
use Rattle.spi_horn.proofs.closing.start_all.Goals as goal

pub loop-j-init : goal.loop-j-init
loop-j-init c = record {
  good = λ rules. good_first _ _ _ _ c.requires.order c.requires.places;
  started = λ j n lt e. absurd (omega arith);
  count = refl;
}

pub add-requires : goal.add-requires
add-requires c =
    let lt : c.loop-j.j < length c.args.start.now = omega arith in
    let below = c.requires.within c.loop-j.j _ (slice_get-get_or c.args.start.now c.loop-j.j 0 lt) in
    let count = c.loop-j.invariant.count in
    omega (arith, below, count)

pub loop-j-preserved : goal.loop-j-preserved
loop-j-preserved c =
    let i = c.loop-j.invariant in
    let j = c.loop-j.j in
    let lt : j < length c.args.start.now = omega arith in
    let n = get_or c.args.start.now j 0 in
    let at : slice_get c.args.start.now j ≡ Some n = slice_get-get_or c.args.start.now j 0 lt in
    let a = c.in_ok-add.ensures in
    let k = added_keeps _ _ _ _ n (Start j) a in
    let P : ℕ → Type 0 = λ s. (m : ℕ) → slice_get c.args.start.now s ≡ Some m → HasSomePlace c.add.new.closure.places.items m in
    let go : (s : ℕ) → s < j + 1 → P s = below_more P j
    (λ s less m e. let (t, f) = i.started s m less e in (t, k.1 m t f))
    (λ m e. let f : Some n ≡ Some m = sym at ∙ e in let g : n ≡ m = cc in subst (λ x. HasSomePlace c.add.new.closure.places.items x) g (added_stands _ _ _ _ n (Start j) a)) in
    record {
      good = λ rules. good_add _ _ _ _ _ _ _ _ _ n (Start j) at a (i.good rules);
      started = λ s m less e. go s less m e;
      count = k.0 ∙ i.count;
    }

pub returns-clause-started : goal.returns-clause-started
returns-clause-started c = λ j n e. let lt = slice_get_within c.args.start.now j n e in c.loop-j.invariant.started j n (omega (arith, lt)) e
