-- The premises of a rule use inside a derivation are seen as their list.
use Rattle.std.proofs.Common.{◌≡◌, List, [], ◌∷◌, ◌++◌, map, sym, ap, ◌∙◌, append_assoc}
use Rattle.std.specs.Prelude.{Option}
use Rattle.std.proofs.lemmas.List.{map_push}
use Rattle.spi_term.specs.Term.{Effect}
use Rattle.spi_rules.specs.declared.rule.Rule.{Rule}
use Rattle.spi_rules.specs.declared.deriv.RuleUse as declared
use Rattle.spi_rules.specs.Derivations.{RuleUse}
use Rattle.spi_rules.specs.Deriv.{effect_written, rule_use}
use Rattle.spi_tree.specs.declared.tree.SDeriv.{SDeriv, SDeriv', out-SDeriv, items_shown-the_row-SDeriv-0}
use Rattle.spi_tree.specs.Trees as t
use Rattle.spi_tree.specs.Views.{tree_effect, deriv_of}
use Rattle.spi_tree.proofs.Rows.{row_of_derivs}

pub deriv_is : (d : SDeriv) → deriv_of d ≡ t.rule (out-SDeriv d).span (out-SDeriv d).rule (tree_effect (out-SDeriv d).effect) (t.derivs_of_list (map deriv_of (out-SDeriv d).premises.items))
unfolding out-SDeriv denote.Hole.Carrier.out
deriv_is (SDeriv' w es shape row s) =
    ap (λ l. t.rule s w (tree_effect es) l) (sym (row_of_derivs _ row) ∙ ap (λ l. t.derivs_of_list (map deriv_of l)) (sym (items_shown-the_row-SDeriv-0 shape row)))

-- a use behind others, and the uses of its premises
pub used : (old mid new : List declared.RuleUse) (x : declared.RuleUse) (r : Rule) (f : Option Effect) (us : List RuleUse)
    → mid ≡ old ++ x ∷ [] → map rule_use new ≡ map rule_use mid ++ us → x.rule ≡ r → effect_written x.taken ≡ f → map rule_use new ≡ map rule_use old ++ record { rule = r; taken = f } ∷ us
used old mid new x r f us e1 e2 e3 e4 =
    let made : Rule → Option Effect → RuleUse = λ a b. record { rule = a; taken = b } in
    e2 ∙ ap (λ l. map rule_use l ++ us) e1 ∙ ap (λ l. l ++ us) (map_push rule_use old x) ∙ append_assoc (map rule_use old) (rule_use x ∷ []) us
    ∙ ap (λ a. map rule_use old ++ made a (effect_written x.taken) ∷ us) e3 ∙ ap (λ b. map rule_use old ++ made r b ∷ us) e4
