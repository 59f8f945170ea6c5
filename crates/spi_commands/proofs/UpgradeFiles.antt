-- A file that can be printed can be printed when it is upgraded.
use Rattle.std.proofs.Common.{◌≡◌, ℕ, ◌==◌, Bool, true, false, length, inl, inr, sym, ap, ◌∙◌, subst, arith, Option, Some, None}
use Rattle.std.specs.List.{AllByRecursion}
use Rattle.spi_lex.specs.declared.token.Kind.TheVariants as kinds
use Rattle.spi_lex.specs.Words.{words_of}
use Rattle.spi_lex.specs.Writing.{IsKind}
use Rattle.spi_tree.specs.Trees as t
use Rattle.spi_term.specs.Spelling.{Spelling}
use Rattle.spi_scope.specs.StandsFor.{Meant}
use Rattle.spi_spell.proofs.Printable.{IsPrintablePart, IsOpponentPart, AreSteps, process_nodes, opponent_nodes, is_later_file, IsDerivationOf, IsPrintable}
use Rattle.spi_spell.proofs.Standing.{part_of, opponent_of}
use Rattle.spi_commands.specs.Upgrading.{IsVersion2, AreRespelled, IsUpgrade}
use Rattle.spi_commands.proofs.UpgradeVersions.{process_later, derivation_later, rules_later, derivation_kinds_later}
use Rattle.spi_commands.proofs.UpgradeNames.{respelled_fit, as_many, respelled_distinct}

part_later : (k : ℕ) (p : Spelling) → IsPrintablePart false k p → IsPrintablePart true k p
part_later k p h = record { names = h.names; over = h.over; fits = process_later p.process h.fits; nests = h.nests }

opponent_later : (k : ℕ) (o : Option Spelling) → IsOpponentPart false k o → IsOpponentPart true k o
opponent_later k None h = tt
opponent_later k (Some p) h = part_later k p h

derivation_of : (f g : Meant) (d : Option t.Deriv) → g.derivation ≡ f.derivation → IsDerivationOf false f.derivation d → IsDerivationOf true g.derivation d
derivation_of f g d e h = record {
  uses = e ∙ h.uses;
  formed = derivation_later d h.formed;
  rules = rules_later d h.rules;
  within = h.within;
  kinds = derivation_kinds_later d h.formed h.rules h.kinds;
  small = h.small;
}

from_first : (f g : Meant) (d : Option t.Deriv) → IsPrintable f d → f.version ≡ 1 → IsVersion2 f g → AreRespelled f.names f.names g.names → IsPrintable g d
from_first f g d h one v r =
    let old : is_later_file f ≡ false = ap (λ (n : ℕ). n == 2) one in
    let new : is_later_file g ≡ true = ap (λ (n : ℕ). n == 2) v.version in
    let n : length g.names ≡ length f.names = as_many f.names r in
    let words : AllByRecursion (λ w. IsKind (words_of false) (kinds.Word w)) f.names = subst (λ (l : Bool). AllByRecursion (λ w. IsKind (words_of l) (kinds.Word w)) f.names) old h.words in
    let process : IsPrintablePart false (length f.names) f.process = subst (λ (l : Bool). IsPrintablePart l (length f.names) f.process) old h.process in
    let opponent : IsOpponentPart false (length f.names) f.opponent = subst (λ (l : Bool). IsOpponentPart l (length f.names) f.opponent) old h.opponent in
    let p : process_nodes g.process.process ≡ process_nodes f.process.process = ap (λ (s : Spelling). process_nodes s.process) v.process in
    let o : opponent_nodes g.opponent ≡ opponent_nodes f.opponent = ap opponent_nodes v.opponent in
    record {
      version = inr v.version;
      words = subst (λ (l : Bool). AllByRecursion (λ w. IsKind (words_of l) (kinds.Word w)) g.names) (sym new) (respelled_fit f.names words r);
      distinct = respelled_distinct f.names g.names h.distinct r;
      process = part_of new n v.process (part_later (length f.names) f.process process);
      opponent = opponent_of new n v.opponent (opponent_later (length f.names) f.opponent opponent);
      few = omega (arith, n, p, o, h.few);
      schedule = subst AreSteps (sym v.schedule) h.schedule;
      derivation = subst (λ (l : Bool). IsDerivationOf l g.derivation d) (sym new) (derivation_of f g d v.derivation (subst (λ (l : Bool). IsDerivationOf l f.derivation d) old h.derivation));
    }

pub upgraded_printable : (f : Meant) (d : Option t.Deriv) → IsPrintable f d → (g : Meant) → IsUpgrade f g → IsPrintable g d
upgraded_printable f d h g (inl u) = from_first f g d h u.0 u.1 u.2
upgraded_printable f d h g (inr u) = subst (λ (x : Meant). IsPrintable x d) (sym u.1) h
