-- A form counts at least the names that it binds.
use Rattle.std.proofs.Common.{◌≤◌, arith}
use Rattle.spi_term.specs.Term.{Prefix, Recvs, Serves, Splits, Selects, Decrypts, Checks, Begins, Ends, EndManys, Casts, Freshes, binds}
use Rattle.spi_term.proofs.Sizes.{some_message}
use Rattle.spi_spell.proofs.Printable.{prefix_nodes}

pub binds_few : (s : Prefix) → binds s ≤ prefix_nodes s
binds_few (Recvs m a) = omega arith
binds_few (Serves m a) = omega arith
binds_few (Splits m a b) = omega (arith, some_message m)
binds_few (Selects m a k b) = omega arith
binds_few (Decrypts m a k) = omega arith
binds_few (Checks m k) = omega arith
binds_few (Begins m) = omega arith
binds_few (Ends m) = omega arith
binds_few (EndManys m) = omega arith
binds_few (Casts m a) = omega arith
binds_few (Freshes a) = omega arith
