-- What `Types` has to know of its nodes.
use Rattle.std.proofs.Common.{◌≡◌, Bool, true, false, List, [], refl, sym, ap, subst, ◌∙◌, true≢false}
use Rattle.std.proofs.lemmas.Bool.{eqb-true, eq-eqb}
use Rattle.spi_term.proofs.Counting.{and_true}
use Rattle.spi_intern.specs.Table.{KeepsAll, AllDiffer, IsTable, tells_none}
use Rattle.spi_intern.specs.Kinds.{Kind, pair, sum, key, same_kind, kind_discrete}
use Rattle.spi_intern.specs.Typed.{SaysKind, says_un, says_unit, says_pair, says_sum, says_key, says_nonce, said_kind, or_un}
use Rattle.spi_intern.specs.declared.types.TyId.{TyId}
use Rattle.spi_intern.specs.declared.types.TyNode.{TyNode}
use Rattle.spi_intern.specs.declared.types.TyNode.TheVariants.{Un, Unit as NoParts, Pair, Sum, Key, Nonce}
use Rattle.spi_intern.specs.contracts.types.TyIdPartialEq.TheImpl.{eq-value as eq_of_ids}
use Rattle.spi_intern.specs.contracts.types.TyNodePartialEq.TheImpl.{eq-value as eq_of_nodes}
use Rattle.spi_intern.proofs.MessageLaws.{both_are}
use Rattle.spi_intern.proofs.Tables.{Laws}

abbrev pub ty_id_eq : TyId → TyId → Bool
ty_id_eq = eq_of_ids.it

abbrev pub node_eq : TyNode → TyNode → Bool
node_eq = eq_of_nodes.it

id_true : (a b : TyId) → ty_id_eq a b ≡ true → a ≡ b
id_true a b h = let e : a.place ≡ b.place = eqb-true a.place b.place h in λ i. record { place = e i }

id_self : (a : TyId) → ty_id_eq a a ≡ true
id_self a = eq-eqb a.place a.place refl

same_id : {a b : TyId} → a.place ≡ b.place → a ≡ b
same_id e = λ i. record { place = e i }

pub node_true : (p q : TyNode) → node_eq p q ≡ true → p ≡ q
node_true Un Un h = refl
node_true NoParts NoParts h = refl
node_true (Pair a b) (Pair c d) h = let e = and_true (ty_id_eq a c) (ty_id_eq b d) h in λ i. Pair (id_true a c e.0 i) (id_true b d e.1 i)
node_true (Sum a b) (Sum c d) h = let e = and_true (ty_id_eq a c) (ty_id_eq b d) h in λ i. Sum (id_true a c e.0 i) (id_true b d e.1 i)
node_true (Key a) (Key b) h = ap Key (id_true a b h)
node_true (Nonce a) (Nonce b) h = ap Nonce (eqb-true a b h)
node_true p q h = absurd (true≢false (sym h))

node_self : (p : TyNode) → node_eq p p ≡ true
node_self Un = refl
node_self NoParts = refl
node_self (Pair a b) = both_are (ty_id_eq a a) (ty_id_eq b b) (id_self a) (id_self b)
node_self (Sum a b) = both_are (ty_id_eq a a) (ty_id_eq b b) (id_self a) (id_self b)
node_self (Key a) = id_self a
node_self (Nonce e) = eq-eqb e e refl

kind_true : (m n : Kind) → same_kind m n ≡ true → m ≡ n
kind_true m n = elim (kind_discrete m n) as (λ d. (elim d as (λ _. Bool) [ yes e ↦ true | no f ↦ false ]) ≡ true → m ≡ n) [ yes e ↦ (λ _. e) | no f ↦ (λ h. absurd (true≢false (sym h))) ]

kind_self : (m : Kind) → same_kind m m ≡ true
kind_self m = elim (kind_discrete m m) as (λ d. (elim d as (λ _. Bool) [ yes e ↦ true | no f ↦ false ]) ≡ true) [ yes e ↦ refl | no f ↦ absurd (f refl) ]

says_keeps : (ms ns : List Kind) (p : TyNode) (m : Kind) → KeepsAll ms ns → SaysKind ms p m → SaysKind ns p m
says_keeps ms ns p m k says_un = says_un
says_keeps ms ns p m k says_unit = says_unit
says_keeps ms ns p m k (says_pair a b) = says_pair (k.at _ _ a) (k.at _ _ b)
says_keeps ms ns p m k (says_sum a b) = says_sum (k.at _ _ a) (k.at _ _ b)
says_keeps ms ns p m k (says_key a) = says_key (k.at _ _ a)
says_keeps ms ns p m k says_nonce = says_nonce

pub says_said : (ms : List Kind) (p : TyNode) (m : Kind) → SaysKind ms p m → said_kind ms p ≡ m
says_said ms p m says_un = refl
says_said ms p m says_unit = refl
says_said ms p m (says_pair a b) = λ i. pair (or_un (a i)) (or_un (b i))
says_said ms p m (says_sum a b) = λ i. sum (or_un (a i)) (or_un (b i))
says_said ms p m (says_key a) = λ i. key (or_un (a i))
says_said ms p m says_nonce = refl

says_apart : (ms : List Kind) (p q : TyNode) (m : Kind) → AllDiffer ms → SaysKind ms p m → SaysKind ms q m → p ≡ q
says_apart ms p q m d says_un says_un = refl
says_apart ms p q m d says_unit says_unit = refl
says_apart ms p q m d (says_pair a b) (says_pair a' b') = λ i. Pair (same_id (d.one _ _ _ a a') i) (same_id (d.one _ _ _ b b') i)
says_apart ms p q m d (says_sum a b) (says_sum a' b') = λ i. Sum (same_id (d.one _ _ _ a a') i) (same_id (d.one _ _ _ b b') i)
says_apart ms p q m d (says_key a) (says_key a') = λ i. Key (same_id (d.one _ _ _ a a') i)
says_apart ms p q m d says_nonce says_nonce = refl

pub says_it : {ms : List Kind} {p : TyNode} {m : Kind} → SaysKind ms p m → SaysKind ms p (said_kind ms p)
says_it {ms} {p} {m} s = subst (SaysKind ms p) (sym (says_said ms p m s)) s

pub kind_laws : Laws SaysKind said_kind same_kind node_eq
kind_laws = record { same_true = kind_true; same_self = kind_self; kept = says_keeps; says_said = says_said; respects = λ ms p q m e s. subst (λ r. SaysKind ms r m) (node_true p q e) s; alike = λ ms p q m d s t. ap (node_eq p) (sym (says_apart ms p q m d s t)) ∙ node_self p }

pub no_types : IsTable SaysKind [] []
no_types = record { tells = tells_none; distinct = record { one = λ i j m a b. absurd cc } }
