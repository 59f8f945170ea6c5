-- A pool's state when it starts.
use Rattle.std.proofs.Common.{◌≡◌, ℕ, ◌-◌, ◌^◌, ◌<◌, ◌≤◌, List, [], ◌∷◌, ◌++◌, length, sym, ap, ◌∙◌, subst, arith}
use Rattle.spi_term.specs.Names.{ProcessOver}
use Rattle.spi_term.specs.Spelling.{Spelling}
use Rattle.spi_intern.proofs.Tables.{keeps_same}
use Rattle.spi_run.specs.Safety.{beside}
use Rattle.spi_replay.specs.declared.places.Place.{Place}
use Rattle.spi_replay.specs.declared.running.State.{State}
use Rattle.spi_replay.specs.Standing.{StandsAt, ArePlaces}
use Rattle.spi_replay.specs.Pools.{pooled, IsState}
use Rattle.spi_replay.specs.Started.{HasFirstPlace}
use Rattle.spi_replay.proofs.Does.{stands_kept}
use Rattle.spi_replay.proofs.Stepped.{start_pool, two_places}

-- two places were added, at the first nodes of a and b
module _ {s t u : State} (a b : Spelling) (g : HasFirstPlace a s t) (h : HasFirstPlace b t u) (empty : s.index.places.items ≡ []) where
  both : u.index.places.items ≡ g.first ∷ (h.first ∷ [])
  both = h.added ∙ ap (λ (xs : List Place). xs ++ h.first ∷ []) (g.added ∙ ap (λ (xs : List Place). xs ++ g.first ∷ []) empty)

  stands : StandsAt u.store.messages u.links.items a 0 [] g.first
  stands = stands_kept h.kept (keeps_same (sym h.links)) g.stands

  pub started : (most : ℕ) → s.names ≡ a.names → s.most ≡ most → ProcessOver a.names a.process → ProcessOver b.names b.process → pooled u ≡ record { configuration = beside a.names a.process b.process; most = most }
  started most e f o p =
      let n : u.names ≡ a.names = h.names ∙ (g.names ∙ e) in
      start_pool a b g.first h.first u.names a.names u.most both n (sym n) o p stands h.stands ∙ (λ i. record { configuration = beside a.names a.process b.process; most = (h.most ∙ (g.most ∙ f)) i })

  pub started_is : (most : ℕ) → s.most ≡ most → 2 ≤ most → most < 2 ^ 32 - 1 → IsState u
  started_is most f few l = record {
    places = subst (λ (xs : List Place). ArePlaces u.store.messages u.links.items xs) (sym both) (two_places stands.is h.stands.is);
    few = omega (arith, ap length both, h.most, g.most, f);
    most = omega (arith, h.most, g.most, f);
  }
