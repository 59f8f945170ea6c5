-- What `Effects` has to know of its lists.
use Rattle.std.proofs.Common.{◌≡◌, ℕ, Bool, true, List, [], ◌∷◌, Some, slice_get, length, get_or, refl, sym, ap, subst, ◌∙◌, true≢false, arith}
use lib.Pointwise.{pointwise}
use Rattle.std.proofs.lemmas.Bool.{eqb-true, eq-eqb}
use Rattle.spi_term.proofs.Counting.{and_true}
use Rattle.spi_intern.specs.Table.{IsTable, tells_none, told_each}
use Rattle.spi_intern.specs.Atoms.{same_id_atom, same_atoms, AtomVec, SaysList, said_list}
use Rattle.spi_intern.specs.declared.messages.MsgId.{MsgId}
use Rattle.spi_intern.specs.declared.atoms.AtomId.{AtomId}
use Rattle.spi_intern.specs.declared.atoms.AtomId.TheVariants.{End, Check, Many}
use Rattle.spi_intern.specs.contracts.atoms.AtomIdPartialEq.TheImpl.{eq-value}
use Rattle.spi_intern.proofs.MessageLaws.{both_are}
use Rattle.spi_intern.proofs.Tables.{Laws, tells_at}

abbrev pub atom_eq : AtomId → AtomId → Bool
atom_eq = eq-value.it

abbrev pub vec_eq : AtomVec → AtomVec → Bool
vec_eq v w = pointwise atom_eq v.items w.items

pub id_of : (a b : MsgId) → a.place ≡ b.place → a ≡ b
id_of a b e = λ i. record { place = e i }

pub atom_true : (a b : AtomId) → atom_eq a b ≡ true → a ≡ b
atom_true (End a) (End b) h = ap End (id_of a b (eqb-true a.place b.place h))
atom_true (Check a) (Check b) h = ap Check (id_of a b (eqb-true a.place b.place h))
atom_true (Many a) (Many b) h = ap Many (id_of a b (eqb-true a.place b.place h))
atom_true a b h = absurd (true≢false (sym h))

atom_self : (a : AtomId) → atom_eq a a ≡ true
atom_self (End a) = eq-eqb a.place a.place refl
atom_self (Check a) = eq-eqb a.place a.place refl
atom_self (Many a) = eq-eqb a.place a.place refl

pub atom_same : (a b : AtomId) → same_id_atom a b ≡ true → a ≡ b
atom_same (End a) (End b) h = ap End (id_of a b (eqb-true a.place b.place h))
atom_same (Check a) (Check b) h = ap Check (id_of a b (eqb-true a.place b.place h))
atom_same (Many a) (Many b) h = ap Many (id_of a b (eqb-true a.place b.place h))
atom_same a b h = absurd (true≢false (sym h))

pub same_of : (a : AtomId) → same_id_atom a a ≡ true
same_of (End a) = eq-eqb a.place a.place refl
same_of (Check a) = eq-eqb a.place a.place refl
same_of (Many a) = eq-eqb a.place a.place refl

list_true : (xs ys : List AtomId) → same_atoms xs ys ≡ true → xs ≡ ys
list_true [] [] h = refl
list_true [] (y ∷ ys) h = absurd (true≢false (sym h))
list_true (x ∷ xs) [] h = absurd (true≢false (sym h))
list_true (x ∷ xs) (y ∷ ys) h = let e = and_true (same_id_atom x y) (same_atoms xs ys) h in λ i. atom_same x y e.0 i ∷ list_true xs ys e.1 i

list_self : (xs : List AtomId) → same_atoms xs xs ≡ true
list_self [] = refl
list_self (x ∷ xs) = both_are (same_id_atom x x) (same_atoms xs xs) (same_of x) (list_self xs)

items_true : (xs ys : List AtomId) → pointwise atom_eq xs ys ≡ true → xs ≡ ys
items_true [] [] h = refl
items_true [] (y ∷ ys) h = absurd (true≢false (sym h))
items_true (x ∷ xs) [] h = absurd (true≢false (sym h))
items_true (x ∷ xs) (y ∷ ys) h = let e = and_true (atom_eq x y) (pointwise atom_eq xs ys) h in λ i. atom_true x y e.0 i ∷ items_true xs ys e.1 i

items_self : (xs : List AtomId) → pointwise atom_eq xs xs ≡ true
items_self [] = refl
items_self (x ∷ xs) = both_are (atom_eq x x) (pointwise atom_eq xs xs) (atom_self x) (items_self xs)

pub list_laws : Laws SaysList said_list same_atoms vec_eq
list_laws = record {
  same_true = list_true;
  same_self = list_self;
  kept = λ ms ns p m k s. s;
  says_said = λ ms p m s. s;
  respects = λ ms p q m e s. sym (items_true p.items q.items e) ∙ s;
  alike = λ ms p q m d s t. ap (pointwise atom_eq p.items) (t ∙ sym s) ∙ items_self p.items;
}

pub no_lists : IsTable SaysList [] []
no_lists = record { tells = tells_none; distinct = record { one = λ i j m a b. absurd cc } }

-- what stands in a place that was noted
pub list_noted : (ps : List AtomVec) (ls : List (List AtomId)) (i : ℕ) (q : AtomVec) (xs : List AtomId) → told_each said_list ps ≡ ls → IsTable SaysList ps (told_each said_list ps) → slice_get ps i ≡ Some q → q.items ≡ xs → slice_get ls i ≡ Some xs
list_noted ps ls i q xs v t at e =
    let w = tells_at t.tells i q at in
    subst (λ ns. slice_get ns i ≡ Some xs) v (w.1 ∙ ap Some (sym w.2 ∙ e))

-- a list of one
pub one_item : {A : Type 0} (xs : List A) (d a : A) → length xs ≡ 1 → get_or xs 0 d ≡ a → xs ≡ a ∷ []
one_item [] d a h e = absurd (omega arith)
one_item (x ∷ []) d a h e = ap (λ y. y ∷ []) e
one_item (x ∷ (y ∷ ys)) d a h e = absurd (omega arith)
