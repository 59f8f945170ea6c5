use Rattle.std.proofs.Common.{◌≡◌, ◌++◌, drop}
use Rattle.spi_commands.specs.Certificate.{known_text, certificate_lines}
use Rattle.spi_commands.proofs.certificate.show_known.Given as goal

-- what is written, and the lines to come
abbrev pub invariant-loop-k : goal.invariant-loop-k
invariant-loop-k l = record {
  whole : l.out.items ++ certificate_lines l.names l.k (drop l.k l.cert.lines.items) ≡ known_text l.names l.fn.name l.cert.lines.items;
}
