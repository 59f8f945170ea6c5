use Rattle.std.proofs.Common.{ap}
use Rattle.spi_intern.proofs.Meanings.{means_keeps, un_node, unit_node, nonce_node, made}
use Rattle.spi_intern.proofs.Adding.{adds_un, adds_unit, adds_pair, adds_sum, adds_key, adds_nonce, put_node}
use Rattle.spi_intern.proofs.store.Store.+intern_parts.Goals as goal

pub pair_over-requires-clause-first : goal.pair_over-requires-clause-first
pair_over-requires-clause-first t c = record { type = _; means = means_keeps c.in_ok-second-in-Pair.ensures.kept c.in_ok-first-in-Pair.ensures.at }

pub pair_over-requires-clause-second : goal.pair_over-requires-clause-second
pair_over-requires-clause-second t c = record { type = _; means = c.in_ok-second-in-Pair.ensures.at }

pub sum_over-requires-clause-left : goal.sum_over-requires-clause-left
sum_over-requires-clause-left t c = record { type = _; means = means_keeps c.in_ok-second-in-Sum.ensures.kept c.in_ok-first-in-Sum.ensures.at }

pub sum_over-requires-clause-right : goal.sum_over-requires-clause-right
sum_over-requires-clause-right t c = record { type = _; means = c.in_ok-second-in-Sum.ensures.at }

pub key_over-requires : goal.key_over-requires
key_over-requires t c = record { type = _; means = c.in_ok-part-in-Key.ensures.at }

pub returns-in_ok-id-in-Un-clause-at : goal.returns-in_ok-id-in-Un-clause-at
returns-in_ok-id-in-Un-clause-at t c = rw c.in-Un.is (made c.in_ok-id-in-Un.ensures.kept un_node c.in_ok-id-in-Un.ensures.at)

pub returns-in_ok-id-in-Unit-clause-at : goal.returns-in_ok-id-in-Unit-clause-at
returns-in_ok-id-in-Unit-clause-at t c = rw c.in-Unit.is (made c.in_ok-id-in-Unit.ensures.kept unit_node c.in_ok-id-in-Unit.ensures.at)

pub returns-in_ok-id-in-Pair-clause-at : goal.returns-in_ok-id-in-Pair-clause-at
returns-in_ok-id-in-Pair-clause-at t c = rw (c.in-Pair.is, ← ap (λ v. v.first) c.deref.ensures, ← ap (λ v. v.second) c.deref-in-Pair.ensures) (c.in_ok-id-in-Pair.ensures.at _ _ (means_keeps c.in_ok-second-in-Pair.ensures.kept c.in_ok-first-in-Pair.ensures.at) c.in_ok-second-in-Pair.ensures.at)

pub returns-in_ok-id-in-Sum-clause-at : goal.returns-in_ok-id-in-Sum-clause-at
returns-in_ok-id-in-Sum-clause-at t c = rw (c.in-Sum.is, ← ap (λ v. v.first) c.deref-in-Sum.ensures, ← ap (λ v. v.second) c.deref-in-Sum-2.ensures) (c.in_ok-id-in-Sum.ensures.at _ _ (means_keeps c.in_ok-second-in-Sum.ensures.kept c.in_ok-first-in-Sum.ensures.at) c.in_ok-second-in-Sum.ensures.at)

pub returns-in_ok-id-in-Key-clause-at : goal.returns-in_ok-id-in-Key-clause-at
returns-in_ok-id-in-Key-clause-at t c = rw (c.in-Key.is, ← c.deref-in-Key.ensures) (c.in_ok-id-in-Key.ensures.at _ c.in_ok-part-in-Key.ensures.at)

pub returns-in_ok-id-in-Nonce-clause-at : goal.returns-in_ok-id-in-Nonce-clause-at
returns-in_ok-id-in-Nonce-clause-at t c =
    let e = c.in_ok-place-in-Nonce.ensures.at in
    rw (c.in-Nonce.is, ← c.deref-in-Nonce.ensures) (made c.in_ok-id-in-Nonce.ensures.kept (nonce_node e.1 e.2) c.in_ok-id-in-Nonce.ensures.at)

pub returns-in_ok-id-in-Un-clause-adds : goal.returns-in_ok-id-in-Un-clause-adds
returns-in_ok-id-in-Un-clause-adds t c =
    let p = c.in_ok-id-in-Un.ensures in
    rw c.in-Un.is (adds_un p.messages (put_node _ p.kept un_node p.at p.grows))

pub returns-in_ok-id-in-Unit-clause-adds : goal.returns-in_ok-id-in-Unit-clause-adds
returns-in_ok-id-in-Unit-clause-adds t c =
    let p = c.in_ok-id-in-Unit.ensures in
    rw c.in-Unit.is (adds_unit p.messages (put_node _ p.kept unit_node p.at p.grows))

pub returns-in_ok-id-in-Pair-clause-adds : goal.returns-in_ok-id-in-Pair-clause-adds
returns-in_ok-id-in-Pair-clause-adds t c =
    let a = c.in_ok-first-in-Pair.ensures in
    let b = c.in_ok-second-in-Pair.ensures in
    let p = c.in_ok-id-in-Pair.ensures in
    rw (c.in-Pair.is, ← ap (λ v. v.first) c.deref.ensures, ← ap (λ v. v.second) c.deref-in-Pair.ensures) (adds_pair a.adds b.kept b.adds p.kept (p.adds _ _ (means_keeps b.kept a.at) b.at))

pub returns-in_ok-id-in-Sum-clause-adds : goal.returns-in_ok-id-in-Sum-clause-adds
returns-in_ok-id-in-Sum-clause-adds t c =
    let a = c.in_ok-first-in-Sum.ensures in
    let b = c.in_ok-second-in-Sum.ensures in
    let p = c.in_ok-id-in-Sum.ensures in
    rw (c.in-Sum.is, ← ap (λ v. v.first) c.deref-in-Sum.ensures, ← ap (λ v. v.second) c.deref-in-Sum-2.ensures) (adds_sum a.adds b.kept b.adds p.kept (p.adds _ _ (means_keeps b.kept a.at) b.at))

pub returns-in_ok-id-in-Key-clause-adds : goal.returns-in_ok-id-in-Key-clause-adds
returns-in_ok-id-in-Key-clause-adds t c =
    let a = c.in_ok-part-in-Key.ensures in
    let p = c.in_ok-id-in-Key.ensures in
    rw (c.in-Key.is, ← c.deref-in-Key.ensures) (adds_key a.adds p.kept (p.adds _ a.at))

pub returns-in_ok-id-in-Nonce-clause-adds : goal.returns-in_ok-id-in-Nonce-clause-adds
returns-in_ok-id-in-Nonce-clause-adds t c =
    let e = c.in_ok-place-in-Nonce.ensures in
    let p = c.in_ok-id-in-Nonce.ensures in
    rw (c.in-Nonce.is, ← c.deref-in-Nonce.ensures) (adds_nonce e.adds e.types p.kept p.messages (put_node _ p.kept (nonce_node e.at.1 e.at.2) p.at p.grows))
