-- Each message, and each process, has a node at least.
use Rattle.std.proofs.Common.{◌≤◌, arith}
use Rattle.spi_term.specs.Term.{Message, bound, name, unit, pair, in_left, in_right, enc, hash, message_size, Process, leaf, prefix, fork, process_size}

pub some_message : (m : Message) → 1 ≤ message_size m
some_message (bound i) = omega arith
some_message (name x) = omega arith
some_message unit = omega arith
some_message (pair a b) = omega arith
some_message (in_left a) = omega arith
some_message (in_right a) = omega arith
some_message (enc a b) = omega arith
some_message (hash a) = omega arith

pub some_process : (p : Process) → 1 ≤ process_size p
some_process (leaf l) = omega arith
some_process (prefix s p) = omega arith
some_process (fork f p q) = omega arith
