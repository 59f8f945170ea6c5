-- The top of the stack of counts, of which no atom waits any more.
use Rattle.std.proofs.Common.{◌≡◌, refl, sym, ap, subst, ℕ, Bool, false, List, [], ◌∷◌, ◌++◌, reverse, Option, Some, None}
use Rattle.spi_term.specs.Term.{Atom, Effect}
use Rattle.spi_intern.specs.declared.store.Store.{Store}
use Rattle.spi_count.specs.Counts.{count_of}
use Rattle.spi_count.specs.Sums.{part}
use Rattle.spi_count.specs.Piles.{piled}
use Rattle.spi_count.specs.Keeping.{with_keys}
use Rattle.spi_count.specs.Adding.{SumOf}
use Rattle.spi_count.specs.declared.keys.Keys.{Keys}
use Rattle.spi_count.specs.declared.pile.Pile.{Pile}
use Rattle.spi_count.specs.declared.sum.AtomKind.{AtomKind}
use Rattle.spi_count.proofs.Standing.{pile_of_sum, pile_settled}
use Rattle.spi_count.proofs.Waiting.{settled_same}
use Rattle.spi_infer.specs.Accounts.{Tops}
use Rattle.spi_infer.specs.Own.{TopsStand}
use Rattle.spi_infer.proofs.Accounted.{tops_push, tops_top}
use Rattle.spi_origin.specs.Gathering.{has_left, top_sum}

module _ (s : Store) (keys : Keys) (os rest : List (Option Pile)) (st : List (Option Effect)) (t : Tops s keys os st) where
  -- the effect on top has counts
  module _ (pile settled : Pile) (pop : os ≡ rest ++ Some pile ∷ []) (same : (kind : AtomKind) (q : ℕ) → count_of (part kind settled.sum) q ≡ piled kind pile q) (none : settled.late.items ≡ []) where
    pub settled_tops : (new : List (Option Pile)) → new ≡ rest ++ Some settled ∷ [] → Tops s keys new st
    settled_tops new e = go st (tops_top (with_keys s keys) os rest (Some pile) st pop t)
      where
        go : (st : List (Option Effect)) → TopsStand (with_keys s keys) (Some pile ∷ reverse rest) st → Tops s keys new st
        go [] h = absurd h
        go (None ∷ st) h = absurd h.0
        go (Some es ∷ st) h =
            tops_push (with_keys s keys) rest new (Some settled) (Some es) st e (pile_of_sum (λ kind q. settled_same kind settled _ q refl none) (pile_settled same h.0)) h.1

    pub settled_left : (a : Atom) (b : Bool) → ((es : Effect) → SumOf s keys settled.sum es → b ≡ has_left a (Some es)) → b ≡ has_left a (top_sum st)
    settled_left a b f = go st (tops_top (with_keys s keys) os rest (Some pile) st pop t)
      where
        go : (st : List (Option Effect)) → TopsStand (with_keys s keys) (Some pile ∷ reverse rest) st → b ≡ has_left a (top_sum st)
        go [] h = absurd h
        go (None ∷ st) h = absurd h.0
        go (Some es ∷ st) h = f es (pile_settled same h.0)

  -- there is none
  pub none_left_there : (a : Atom) → os ≡ rest ++ None ∷ [] → false ≡ has_left a (top_sum st)
  none_left_there a pop = go st (tops_top (with_keys s keys) os rest None st pop t)
    where
      go : (st : List (Option Effect)) → TopsStand (with_keys s keys) (None ∷ reverse rest) st → false ≡ has_left a (top_sum st)
      go [] h = absurd h
      go (None ∷ st) h = refl
      go (Some es ∷ st) h = absurd h.0

pub none_left_at_all : (s : Store) (keys : Keys) (os : List (Option Pile)) (st : List (Option Effect)) → os ≡ [] → Tops s keys os st → (a : Atom) → false ≡ has_left a (top_sum st)
none_left_at_all s keys os st e t a = ap (λ st. has_left a (top_sum st)) (sym (subst (λ os. Tops s keys os st) e t))
