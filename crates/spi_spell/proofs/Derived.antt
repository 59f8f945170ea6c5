-- The tree of a derivation without effects, read from the tokens of its rules.
use Rattle.std.proofs.Common.{◌≡◌, ℕ, suc, ◌+◌, ◌≤◌, Bool, true, false, not, ◌&&◌, List, [], ◌∷◌, ◌++◌, map, Some, None, inl, inr, refl, sym, ◌∙◌, ap, append_assoc, append-nil}
use Rattle.std.specs.Prelude.{nat_lt}
use Rattle.std.proofs.lemmas.Bool.{cases_Bool, le-ltb, cond-false}
use Rattle.std.proofs.lemmas.List.{map-append}
use Rattle.std.proofs.lemmas.Slice.Eq.{bytes_eq-Decides}
use Rattle.spi_lex.specs.declared.token.Token.{Token}
use Rattle.spi_lex.specs.declared.token.Kind.{Kind}
use Rattle.spi_lex.specs.declared.token.Kind.TheVariants as kinds
use Rattle.spi_lex.specs.Lexing.{kinds_of}
use Rattle.spi_tree.specs.declared.tree.SWord.{SWord}
use Rattle.spi_tree.specs.Trees as t
use Rattle.spi_tree.specs.Pieces.{closes, derivation_limit, deriv_pieces, derivs_pieces}
use Rattle.spi_parse.specs.Formed.{count_derivs}
use Rattle.spi_parse.specs.Rules.{arity_of, writes_effect, is_late}
use Rattle.spi_parse.specs.Shapes.{is_sub}
use Rattle.spi_parse.proofs.RuleLaws.{arity_found}
use Rattle.spi_parse.proofs.Spell.{IsRuled, AreRuled}
use Rattle.spi_rules.specs.declared.rule.Rule.{Rule}
use Rattle.spi_rules.specs.declared.rule.Rule.TheVariants.{ProcSub}
use Rattle.spi_rules.specs.Derivations.{RuleUse, uses}
use Rattle.spi_rules.specs.Rule.{arity, rule_spelled, named}
use Rattle.spi_rules.proofs.Named.{rules, each_named}
use Rattle.spi_scope.specs.Parts.{uses_in, all_uses_in}
use Rattle.spi_scope.specs.Points.{Point, in_order, deriv_points, derivs_points}
use Rattle.spi_scope.proofs.Rules.{rule_found}
use Rattle.spi_spell.proofs.Reading.{ReadsTree}

-- the tokens of rule uses that write no effect
abbrev pub rule_words : List RuleUse → List Kind
rule_words us = map (λ (u : RuleUse). kinds.Word (rule_spelled u.rule)) us

-- no use writes an effect
abbrev pub WriteNoEffect : List RuleUse → Type 0
WriteNoEffect [] = Unit {0}
WriteNoEffect (u ∷ us) = (u.taken ≡ None) × WriteNoEffect us

plain_join : (us vs : List RuleUse) → WriteNoEffect us → WriteNoEffect vs → WriteNoEffect (us ++ vs)
plain_join [] vs h k = k
plain_join (u ∷ us) vs h k = (h.0, plain_join us vs h.1 k)

-- a tree that follows its rules and has no point
abbrev pub FollowsRules : Bool → t.Deriv → Type 0
FollowsRules later d = IsRuled later d × (in_order (deriv_points d) ≡ [])

-- k such trees
abbrev pub AreDerivTrees : Bool → ℕ → t.Derivs → Type 0
AreDerivTrees later k ds = AreRuled later ds × (in_order (derivs_points ds) ≡ []) × (count_derivs ds ≡ k)

-- the uses are one tree, and k trees, wherever their tokens stand
pub record Derives (later : Bool) (n : ℕ) (us : List RuleUse) : Type 0 where
  pub plain : WriteNoEffect us
  pub read : (e : ℕ) (ts : List Token) (ks : List Kind) → kinds_of ts ≡ rule_words us ++ ks → ReadsTree (FollowsRules later) uses_in (deriv_pieces n) us e ts ks

pub record DeriveAll (later : Bool) (n k : ℕ) (us : List RuleUse) : Type 0 where
  pub plain : WriteNoEffect us
  pub read : (e : ℕ) (ts : List Token) (ks : List Kind) → kinds_of ts ≡ rule_words us ++ ks → ReadsTree (AreDerivTrees later k) all_uses_in (derivs_pieces n) us e ts ks

pub no_premise : (later : Bool) (n : ℕ) → DeriveAll later n 0 []
no_premise later n = record {
  plain = tt;
  read = λ e ts ks is. record {
    read = t.no_derivs;
    is = (tt, refl, refl);
    are = refl;
    rest = record { end = e; tokens = ts; left = is };
    spells = λ after r h. h;
  };
}

pub last_premise : {later : Bool} {n : ℕ} {us : List RuleUse} → Derives later n us → DeriveAll later n 1 us
last_premise {us = us} d = record {
  plain = d.plain;
  read = λ e ts ks is.
      let x = d.read e ts ks is in
      record {
        read = t.more_derivs x.read t.no_derivs;
        is = ((x.is.0, tt), append-nil (in_order (deriv_points x.read)) ∙ x.is.1, refl);
        are = append-nil (uses_in x.read) ∙ x.are;
        rest = x.rest;
        spells = x.spells;
      };
}

pub premise : {later : Bool} {n k : ℕ} {us vs : List RuleUse} → Derives later n us → DeriveAll later n k vs → DeriveAll later n (suc k) (us ++ vs)
premise {n = n} {us = us} {vs = vs} d ds = record {
  plain = plain_join us vs d.plain ds.plain;
  read = λ e ts ks is.
      let split : rule_words (us ++ vs) ++ ks ≡ rule_words us ++ (rule_words vs ++ ks) = ap (λ (l : List Kind). l ++ ks) (map-append (λ (u : RuleUse). kinds.Word (rule_spelled u.rule)) us vs) ∙ append_assoc (rule_words us) (rule_words vs) ks in
      let x = d.read e ts (rule_words vs ++ ks) (is ∙ split) in
      let y = ds.read x.rest.end x.rest.tokens ks x.rest.left in
      record {
        read = t.more_derivs x.read y.read;
        is = ((x.is.0, y.is.0), ap (λ (l : List Point). l ++ in_order (derivs_points y.read)) x.is.1 ∙ y.is.1, ap suc y.is.2);
        are = ap (λ (l : List RuleUse). l ++ all_uses_in y.read) x.are ∙ ap (λ (l : List RuleUse). us ++ l) y.are;
        rest = y.rest;
        spells = λ after r h. x.spells after (derivs_pieces n y.read r) (y.spells after r h);
      };
}

-- a rule with its premises
writes_none : (r : Rule) → is_sub r ≡ false → writes_effect (rule_spelled r) ≡ false
writes_none r plain = elim (cases_Bool (writes_effect (rule_spelled r))) [
  | inl writes ↦ (
      let same : rule_spelled ProcSub ≡ rule_spelled r = (bytes_eq-Decides (rule_spelled ProcSub) (rule_spelled r)).0 writes in
      let both : Some ProcSub ≡ Some r = sym (each_named ProcSub) ∙ (ap (λ (w : List ℕ). named rules w) same ∙ each_named r) in
      let one : ProcSub ≡ r = cc in
      let sub : true ≡ false = ap is_sub one ∙ plain in
      absurd cc)
  | inr none ↦ none
]

has_arity : (later : Bool) (r : Rule) → (is_late r && not later) ≡ false → arity_of later (rule_spelled r) ≡ Some (arity r)
has_arity later r h = arity_found later r (rule_spelled r) refl ∙ cond-false (is_late r && not later) None (Some (arity r)) h

pub rule : {later : Bool} {n : ℕ} {us : List RuleUse} (r : Rule) → is_sub r ≡ false → (is_late r && not later) ≡ false → n ≤ 1000 → DeriveAll later (n + 1) (arity r) us → Derives later n (uses r us)
rule {later = later} {n = n} {us = us} r plain early low ds = record {
  plain = (refl, ds.plain);
  read = go;
}
  where
    go : (e : ℕ) (ts : List Token) (ks : List Kind) → kinds_of ts ≡ rule_words (uses r us) ++ ks → ReadsTree (FollowsRules later) uses_in (deriv_pieces n) (uses r us) e ts ks
    go e [] ks is = absurd cc
    go e (token ∷ ts) ks is =
        let kind : token.kind ≡ kinds.Word (rule_spelled r) = cc in
        let behind : kinds_of ts ≡ rule_words us ++ ks = cc in
        let y = ds.read token.span.to ts ks behind in
        let not_deep : nat_lt derivation_limit n ≡ false = le-ltb derivation_limit n low in
        let w : SWord = record { word = rule_spelled r; span = token.span } in
        record {
          read = t.rule (record { from = token.span.from; to = y.rest.end }) w None y.read;
          is = ((has_arity later r early ∙ ap Some (sym y.is.2), writes_none r plain, tt, y.is.0), y.is.1);
          are = ap (λ (x : Rule). record { rule = x; taken = None } ∷ all_uses_in y.read) (sym (rule_found r (rule_spelled r) refl)) ∙ ap (λ (l : List RuleUse). record { rule = r; taken = None } ∷ l) y.are;
          rest = y.rest;
          spells = λ after p h. (refl, (refl, (kind, not_deep, (refl, y.spells after (closes y.rest.end ∷ p) (refl, h)))));
        }
