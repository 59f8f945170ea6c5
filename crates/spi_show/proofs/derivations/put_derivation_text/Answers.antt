use Rattle.std.proofs.Common.{List, ℕ, ◌++◌, map, codes, ap, ◌∙◌, append_assoc}
use Rattle.spi_rules.specs.Deriv.{rule_use}
use Rattle.spi_show.specs.Derivations.{uses_text}
use Rattle.spi_show.proofs.derivations.put_derivation_text.Goals as goal

pub returns : goal.returns
returns c =
    let uses = uses_text (map rule_use c.deref.result.now) in
    rw c.deref.ensures.value at (c.in_ok-put_uses.ensures ∙ ap (λ (l : List ℕ). l ++ uses) c.in_ok-extend_from_slice.ensures.items ∙ append_assoc c.args.out.now.items (codes "derivation\n") uses)
