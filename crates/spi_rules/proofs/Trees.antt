-- Lists of rule uses that are trees in preorder, a use at a time.
use Rattle.std.proofs.Common.{◌≡◌, ℕ, zero, suc, ◌+◌, ◌-◌, ◌<◌, ◌≤◌, ◌↔◌, List, [], ◌∷◌, length, map, drop, get_or, subst, sym, ap, ◌∙◌, refl, arith}
use Rattle.std.specs.Prelude.{Some, None, Bool, true, false, not, IsTrue}
use Rattle.std.proofs.lemmas.List.{drop_more, drop_all}
use Rattle.spi_term.specs.Term as Term
use Rattle.spi_term.specs.View.{effect}
use Rattle.spi_term.specs.declared.term.Effect.{Effect}
use Rattle.spi_rules.specs.declared.rule.Rule.{Rule}
use Rattle.spi_rules.specs.declared.rule.Rule.TheVariants.{ProcSub}
use Rattle.spi_rules.specs.declared.deriv.RuleUse as declared
use Rattle.spi_rules.specs.Derivations.{RuleUse}
use Rattle.spi_rules.specs.Rule.{arity}
use Rattle.spi_rules.specs.Deriv.{effect_written, rule_use, IsUse, sub_use, other_use, AreTrees, no_tree, tree}

sub_only : {r : Rule} {fs : Term.Effect} → IsUse (record { rule = r; taken = Some fs }) → r ≡ ProcSub
sub_only (sub_use fs) = refl

not_sub : {r : Rule} → IsUse (record { rule = r; taken = None }) → r ≡ ProcSub → ⊥
not_sub (other_use r d) = d

-- where an effect is written, and where none is
pub use_some : (u : declared.RuleUse) (e : Effect) → u.taken ≡ Some e → IsUse (rule_use u) ↔ (u.rule ≡ ProcSub)
use_some u e q =
    subst (λ t. IsUse (record { rule = u.rule; taken = effect_written t }) ↔ (u.rule ≡ ProcSub)) (sym q)
    ((λ h. sub_only h), (λ p. subst (λ r. IsUse (record { rule = r; taken = Some (effect e) })) (sym p) (sub_use (effect e))))

pub use_none : (u : declared.RuleUse) → u.taken ≡ None → IsUse (rule_use u) ↔ (u.rule ≡ ProcSub → ⊥)
use_none u q =
    subst (λ t. IsUse (record { rule = u.rule; taken = effect_written t }) ↔ (u.rule ≡ ProcSub → ⊥)) (sym q)
    ((λ h. not_sub h), (λ d. other_use u.rule d))

-- the first use, and what it leaves
pub first_use : {n : ℕ} {u : RuleUse} {us : List RuleUse} → AreTrees n (u ∷ us) → IsUse u × (0 < n) × AreTrees (n - 1 + arity u.rule) us
first_use (tree {n} {u} {us} h t) = (h, omega arith, subst (λ (k : ℕ). AreTrees k us) (omega arith) t)

pub tree_on : (n : ℕ) {u : RuleUse} {us : List RuleUse} → 0 < n → IsUse u → AreTrees (n - 1 + arity u.rule) us → AreTrees n (u ∷ us)
tree_on zero p h t = absurd (omega (arith, p))
tree_on (suc n) {u} {us} p h t = tree h (subst (λ (k : ℕ). AreTrees k us) (omega arith) t)

no_more : {n : ℕ} → AreTrees n [] → n ≡ 0
no_more no_tree = refl

pub rest_is : (us : List declared.RuleUse) (i : ℕ) (u : declared.RuleUse) → i < length us → u ≡ get_or us i u
    → map rule_use (drop i us) ≡ rule_use u ∷ map rule_use (drop (i + 1) us)
rest_is us i u p e = ap (map rule_use) (drop_more us i u p) ∙ ap (λ v. rule_use v ∷ map rule_use (drop (i + 1) us)) (sym e)

-- n trees stand from place i on: then one use stands there, and the trees after it
pub use_at : (us : List declared.RuleUse) (i n : ℕ) (u : declared.RuleUse) → i < length us → u ≡ get_or us i u
    → AreTrees n (map rule_use (drop i us)) → IsUse (rule_use u) × (0 < n) × AreTrees (n - 1 + arity u.rule) (map rule_use (drop (i + 1) us))
use_at us i n u p e t = first_use (subst (λ l. AreTrees n l) (rest_is us i u p e) t)

pub trees_at : (us : List declared.RuleUse) (i n : ℕ) (u : declared.RuleUse) → i < length us → u ≡ get_or us i u
    → 0 < n → IsUse (rule_use u) → AreTrees (n - 1 + arity u.rule) (map rule_use (drop (i + 1) us)) → AreTrees n (map rule_use (drop i us))
trees_at us i n u p e q h t = subst (λ l. AreTrees n l) (sym (rest_is us i u p e)) (tree_on n q h t)

-- and at the end of the list
pub trees_end : (us : List declared.RuleUse) (i n : ℕ) → length us ≤ i → AreTrees n (map rule_use (drop i us)) ↔ (n ≡ 0)
trees_end us i n p =
    subst (λ l. AreTrees n (map rule_use l) ↔ (n ≡ 0)) (sym (drop_all i us p))
    ((λ t. no_more t), (λ q. subst (λ (k : ℕ). AreTrees k []) (sym q) no_tree))

-- b is false
pub not_both : (b : Bool) → IsTrue (not b) → IsTrue b → ⊥
not_both true h k = absurd (cc)
not_both false h k = absurd (cc)

pub not_from : (b : Bool) → (IsTrue b → ⊥) → IsTrue (not b)
not_from true h = absurd (h refl)
not_from false h = refl
