use Rattle.std.proofs.Common.{rules, arith, List, ◌++◌, map, ap, ◌∙◌}
use Rattle.std.proofs.lemmas.Grind.{common_steps}
use Rattle.spi_tree.specs.Trees.{derivs_of_list}
use Rattle.spi_tree.specs.Views.{tree_effect, deriv_of}
use Rattle.spi_tree.specs.declared.tree.SDeriv.{SDeriv, out-SDeriv}
use Rattle.spi_rules.specs.Derivations.{RuleUse}
use Rattle.spi_rules.specs.Deriv.{rule_use}
use Rattle.spi_scope.specs.Parts.{rule_named, numbered_effect, all_uses_in}
use Rattle.spi_scope.proofs.Premises.{deriv_is, used}
use Rattle.spi_scope.proofs.derivations.+uses.Goals as goal

pub read_derivation-returns-in_err-taken-clause-gives : goal.read_derivation-returns-in_err-taken-clause-gives
read_derivation-returns-in_err-taken-clause-gives t c = rw (deriv_is c.args.d.now) (search rules)

pub read_derivation-returns-in_err-read_premises-clause-gives : goal.read_derivation-returns-in_err-read_premises-clause-gives
read_derivation-returns-in_err-read_premises-clause-gives t c = rw (deriv_is c.args.d.now) (search rules)

pub read_derivation-returns-clause-gives : goal.read_derivation-returns-clause-gives
read_derivation-returns-clause-gives t c = rw (deriv_is c.args.d.now) (search rules)

pub read_derivation-returns-clause-uses : goal.read_derivation-returns-clause-uses
read_derivation-returns-clause-uses t c =
    let d = c.args.d.now in
    let us : List SDeriv → List RuleUse = λ l. all_uses_in (derivs_of_list (map deriv_of l)) in
    rw (deriv_is d)
    (used c.args.uses.now.uses.items c.push.new.self.items c.read_premises.new.uses.uses.items (record { rule = c.rule_of-rule.result; taken = c.in_ok-taken.taken })
    (rule_named (out-SDeriv d).rule.word) (numbered_effect (tree_effect (out-SDeriv d).effect)) (us (out-SDeriv d).premises.items)
    c.in_ok-push.ensures.items
    (c.in_ok-read_premises.ensures.uses ∙ ap (λ l. map rule_use c.push.new.self.items ++ us l) c.deref.ensures.value)
    (c.rule_of-rule.ensures ∙ ap rule_named c.as_str.ensures) c.in_ok-taken.ensures.1)

pub read_derivation-returns-clause-places : goal.read_derivation-returns-clause-places
read_derivation-returns-clause-places t c = rw (deriv_is c.args.d.now) (grind (arith, common_steps))
