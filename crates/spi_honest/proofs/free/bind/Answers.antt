use Rattle.std.proofs.Common.{ℕ, List, ◌∷◌, subst, arith}
use Rattle.spi_honest.proofs.Named.{Finds, one_found}
use Rattle.spi_honest.proofs.free.bind.Goals as goal

pub returns : goal.returns
returns c xs k = record {
  count = omega (arith, k.count);
  finds = subst (λ (x : List ℕ). Finds c.insert.new.self (x ∷ xs)) c.as_str.ensures (one_found c.args.names.now.numbers c.insert.new.self xs c.as_str.result.now c.args.names.now.count c.in_ok-insert.ensures.updates k.count k.finds);
}
