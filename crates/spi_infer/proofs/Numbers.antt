-- The numbers of a form's terms stay theirs.
use Rattle.std.proofs.Common.{Option, Some, None}
use Rattle.std.specs.Prelude.{IfSome}
use Rattle.spi_intern.specs.Meaning.{Keeps}
use Rattle.spi_intern.proofs.Meanings.{means_keeps}
use Rattle.spi_message.specs.Judging.{Numbered}
use Rattle.spi_infer.specs.declared.terms.Terms.{Terms}
use Rattle.spi_infer.specs.Terms.{FormTerms, AreNumbers}

some_as : {A : Type 0} {P Q : A → Type 0} (o : Option A) → ((a : A) → P a → Q a) → IfSome o P → IfSome o Q
some_as (Some a) g h = g a h
some_as None g h = tt

pub numbers_keep : {j k : Numbered} (form : FormTerms) (numbers : Terms) → Keeps j.store k.store → AreNumbers j form numbers → AreNumbers k form numbers
numbers_keep form numbers k h = record {
  un = means_keeps k h.un;
  message = some_as form.message (λ x a. k.messages.at numbers.message.place x a) h.message;
  other = some_as form.other (λ x a. k.messages.at numbers.other.place x a) h.other;
  ty = some_as form.ty (λ x w. means_keeps k w) h.ty;
  second = some_as form.second (λ x w. means_keeps k w) h.second;
}
