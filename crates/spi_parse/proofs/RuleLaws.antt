-- What the rules of a version say of arities.
use Rattle.std.proofs.Common.{◌≡◌, ℕ, ◌≤◌, Bool, true, false, not, ◌&&◌, cond, List, [], ◌∷◌, Option, Some, None, refl, sym, ap, ◌∙◌, arith, lit≤}
use Rattle.std.specs.Str.{bytes_eq}
use Rattle.std.proofs.lemmas.Slice.Eq.{bytes_eq-Decides}
use Rattle.spi_rules.specs.declared.rule.Rule.{Rule}
use Rattle.spi_rules.specs.declared.rule.Rule.TheVariants.{MsgName, ProcSub}
use Rattle.spi_rules.specs.Rule.{arity, rule_spelled, named}
use Rattle.spi_parse.specs.Rules.{rules_of, arity_by, arity_of, writes_effect, is_late}

few : (r : Rule) → arity r ≤ 3
few MsgName = lit≤ tt
few _ = lit≤ tt

by_few : (o : Option Rule) (k : ℕ) → arity_by o ≡ Some k → k ≤ 3
by_few None k e = absurd cc
by_few (Some r) k e = let same : arity r ≡ k = cc in let f = few r in omega arith

pub arity_most : (v : Bool) (w : List ℕ) (k : ℕ) → arity_of v w ≡ Some k → k ≤ 3
arity_most v w k e = by_few (named (rules_of v) w) k e

sub_row : (v : Bool) → arity_of v (rule_spelled ProcSub) ≡ Some 1
sub_row true = refl
sub_row false = refl

pub sub_arity : (v : Bool) (w : List ℕ) (k : ℕ) → writes_effect w ≡ true → arity_of v w ≡ Some k → 1 ≡ k
sub_arity v w k h e =
    let same = (bytes_eq-Decides (rule_spelled ProcSub) w).0 h in
    let both : Some 1 ≡ Some k = sym (sub_row v) ∙ ap (arity_of v) same ∙ e in cc

-- the rule of a word
abbrev pub arity_in : Bool → Rule → Option ℕ
arity_in later r = cond (is_late r && not later) None (Some (arity r))

row : (v : Bool) (r : Rule) → arity_of v (rule_spelled r) ≡ arity_in v r
row true MsgName = refl
row false MsgName = refl
row _ _ = refl

pub arity_found : (v : Bool) (r : Rule) (w : List ℕ) → rule_spelled r ≡ w → arity_of v w ≡ arity_in v r
arity_found v r w e = ap (arity_of v) (sym e) ∙ row v r

none_named : (l : List Rule) (w : List ℕ) → ((r : Rule) → rule_spelled r ≡ w → ⊥) → named l w ≡ None
none_named [] w h = refl
none_named (r ∷ l) w h = go (none_named l w h) (bytes_eq (rule_spelled r) w) refl
  where
    go : named l w ≡ None → (b : Bool) → bytes_eq (rule_spelled r) w ≡ b → cond b (Some r) (named l w) ≡ None
    go ih true e = absurd (h r ((bytes_eq-Decides (rule_spelled r) w).0 e))
    go ih false e = ih

pub arity_none : (v : Bool) (w : List ℕ) → ((r : Rule) → rule_spelled r ≡ w → ⊥) → arity_of v w ≡ None
arity_none v w h = ap arity_by (none_named (rules_of v) w h)
