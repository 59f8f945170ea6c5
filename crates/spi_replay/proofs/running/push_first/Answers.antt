use Rattle.std.proofs.Common.{◌≡◌, ℕ, List, [], ◌∷◌, ◌++◌, refl, subst}
use Rattle.spi_replay.specs.declared.names.Link.{Link}
use Rattle.spi_replay.specs.Standing.{StandsAt}
use Rattle.spi_replay.proofs.Stepped.{root_can, root_enters}
use Rattle.std.proofs.lemmas.Result.{on_ok_weaker}
use Rattle.spi_replay.proofs.running.push_first.Goals as goal

pub entered-requires : goal.entered-requires
entered-requires c = root_can c.args.source.now c.len.ensures.over

pub returns-clause-pushed : goal.returns-clause-pushed
returns-clause-pushed c =
    let p = c.in_ok-first.first in
    let a = c.args.source.now in
    let s = subst (λ (ls : List Link). StandsAt c.entered.new.store.messages ls a 0 [] p) c.deref.ensures.value (c.in_ok-first.ensures.at.at [] (root_enters a c.len.ensures.over)) in
    on_ok_weaker {P = c.push.new.self.places.items ≡ c.args.state.now.index.places.items ++ p ∷ []} c.push.result (λ e. record { first = p; stands = s; added = e; kept = c.entered.ensures.kept.messages; links = refl {A = List Link}; names = refl {A = ℕ}; most = refl {A = ℕ} }) c.push.ensures.pushed
