-- A tuple of a derivation is read by its components.
use Rattle.std.proofs.Common.{◌≡◌, ℕ, ◌+◌, ◌≤◌, List, ◌∷◌, ap, ◌∙◌, arith}
use Rattle.spi_text.specs.declared.lines.Span.{Span}
use Rattle.spi_tree.specs.Trees as t
use Rattle.spi_term.specs.Term.{Message, message_size}
use Rattle.spi_term.specs.Spelling.{stopped}
use Rattle.spi_scope.specs.Meaning.{nested}
use Rattle.spi_scope.specs.Parts.{numbered_message, numbered_messages}
use Rattle.spi_scope.specs.State.{row_nodes}
use Rattle.spi_scope.proofs.Tuples.{nested_nodes}

module _ (spent n0 n1 n2 n3 : ℕ) (s : Span) (a b : t.Msg) (ms : t.Msgs)
    (e1 : n1 ≡ stopped (spent + message_size (numbered_message a))) (e0 : n0 ≡ stopped (n1 + 1)) (e2 : n2 ≡ stopped (n0 + message_size (numbered_message b))) (e3 : n3 ≡ stopped (n2 + row_nodes (numbered_messages ms))) where
  pub tuple_total : n3 ≡ stopped (spent + message_size (numbered_message (t.tuple s a b ms)))
  tuple_total = omega (arith, e1, e0, e2, e3, nested_nodes (numbered_message a) (numbered_message b ∷ numbered_messages ms))

  pub tuple_read : (x y : Message) (zs : List Message) (whole : Message) → (n1 ≤ 1000 → x ≡ numbered_message a) → (n2 ≤ 1000 → y ≡ numbered_message b) → (n3 ≤ 1000 → zs ≡ numbered_messages ms) → (n3 ≤ 1000 → whole ≡ nested x (y ∷ zs))
      → n3 ≤ 1000 → whole ≡ numbered_message (t.tuple s a b ms)
  tuple_read x y zs whole f g h w few =
      let l2 : n2 ≤ 1000 = omega (arith, few, e3) in
      let l1 : n1 ≤ 1000 = omega (arith, l2, e2, e0) in
      w few ∙ ap (λ r. nested r (y ∷ zs)) (f l1) ∙ ap (λ r. nested (numbered_message a) (r ∷ zs)) (g l2) ∙ ap (λ r. nested (numbered_message a) (numbered_message b ∷ r)) (h few)
