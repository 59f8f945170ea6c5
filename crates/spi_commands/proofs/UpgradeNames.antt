-- The names of an upgraded file: each is a word of version 2, and no two are the same.
use Rattle.std.proofs.Common.{◌≡◌, ◌≢◌, ℕ, suc, List, [], ◌∷◌, length, codes, inl, inr, refl, sym, ap, ◌∙◌, subst, arith}
use Rattle.std.specs.Fmt.{decimal}
use Rattle.std.specs.List.{AllByRecursion}
use Rattle.spi_lex.specs.declared.token.Kind.TheVariants as kinds
use Rattle.spi_lex.specs.Words.{version_1, version_2}
use Rattle.spi_lex.specs.Writing.{IsKind}
use Rattle.spi_spell.proofs.Plain.{plain_identifier, decimal_short, decimal_plain}
use Rattle.spi_spell.proofs.Printable.{AreDistinct}
use Rattle.spi_commands.specs.Upgrading.{IsNewWord, IsSpelled, numbered_word, IsRespelled, AreRespelled, none_respelled, one_respelled}
use Rattle.spi_commands.proofs.UpgradeVersions.{kind_later}

-- ---- a new word with a number is no word that is reserved

hash_fit : (n : ℕ) → IsKind version_2 (kinds.Word (numbered_word (codes "hash") n))
hash_fit n = (plain_identifier 104 (97 ∷ 115 ∷ 104 ∷ 95 ∷ decimal n) (omega arith) refl (refl, (refl, (refl, (refl, (refl, decimal_plain n))))), omega (arith, decimal_short n), refl)

end_many_fit : (n : ℕ) → IsKind version_2 (kinds.Word (numbered_word (codes "endmany") n))
end_many_fit n = (plain_identifier 101 (110 ∷ 100 ∷ 109 ∷ 97 ∷ 110 ∷ 121 ∷ 95 ∷ decimal n) (omega arith) refl (refl, (refl, (refl, (refl, (refl, (refl, (refl, (refl, decimal_plain n)))))))), omega (arith, decimal_short n), refl)

many_fit : (n : ℕ) → IsKind version_2 (kinds.Word (numbered_word (codes "many") n))
many_fit n = (plain_identifier 109 (97 ∷ 110 ∷ 121 ∷ 95 ∷ decimal n) (omega arith) refl (refl, (refl, (refl, (refl, (refl, decimal_plain n))))), omega (arith, decimal_short n), refl)

new_fit : (old : List ℕ) (n : ℕ) → IsNewWord old → IsKind version_2 (kinds.Word (numbered_word old n))
new_fit old n (inl e) = subst (λ (w : List ℕ). IsKind version_2 (kinds.Word (numbered_word w n))) (sym e) (hash_fit n)
new_fit old n (inr (inl e)) = subst (λ (w : List ℕ). IsKind version_2 (kinds.Word (numbered_word w n))) (sym e) (end_many_fit n)
new_fit old n (inr (inr e)) = subst (λ (w : List ℕ). IsKind version_2 (kinds.Word (numbered_word w n))) (sym e) (many_fit n)

one_fit : (names : List (List ℕ)) (old new : List ℕ) → IsKind version_1 (kinds.Word old) → IsRespelled names old new → IsKind version_2 (kinds.Word new)
one_fit names old new h (inl r) = subst (λ (w : List ℕ). IsKind version_2 (kinds.Word w)) (sym r.1.spelled) (new_fit old r.1.number r.0)
one_fit names old new h (inr r) = subst (λ (w : List ℕ). IsKind version_2 (kinds.Word w)) (sym r.1) (kind_later (kinds.Word old) r.0 h)

pub respelled_fit : (names : List (List ℕ)) {olds news : List (List ℕ)} → AllByRecursion (λ w. IsKind version_1 (kinds.Word w)) olds → AreRespelled names olds news → AllByRecursion (λ w. IsKind version_2 (kinds.Word w)) news
respelled_fit names h none_respelled = tt
respelled_fit names h (one_respelled {old = old} {new = new} r rs) = (one_fit names old new h.0 r, respelled_fit names h.1 rs)

pub as_many : (names : List (List ℕ)) {olds news : List (List ℕ)} → AreRespelled names olds news → length news ≡ length olds
as_many names none_respelled = refl
as_many names (one_respelled r rs) = ap suc (as_many names rs)

-- ---- the names differ

abbrev head_of : List ℕ → ℕ
head_of [] = 0
head_of (b ∷ bs) = b

heads : (a b : List ℕ) (n m : ℕ) (x y : List ℕ) → x ≡ a → y ≡ b → numbered_word x n ≡ numbered_word y m → head_of (numbered_word a n) ≡ head_of (numbered_word b m)
heads a b n m x y e f same = sym (ap (λ (w : List ℕ). head_of (numbered_word w n)) e) ∙ (ap head_of same ∙ ap (λ (w : List ℕ). head_of (numbered_word w m)) f)

new_differ : (x y : List ℕ) (n m : ℕ) → IsNewWord x → IsNewWord y → x ≢ y → numbered_word x n ≡ numbered_word y m → ⊥
new_differ x y n m (inl e) (inl f) d same = d (e ∙ sym f)
new_differ x y n m (inl e) (inr (inl f)) d same = (let z : 104 ≡ 101 = heads (codes "hash") (codes "endmany") n m x y e f same in omega (arith, z))
new_differ x y n m (inl e) (inr (inr f)) d same = (let z : 104 ≡ 109 = heads (codes "hash") (codes "many") n m x y e f same in omega (arith, z))
new_differ x y n m (inr (inl e)) (inl f) d same = (let z : 101 ≡ 104 = heads (codes "endmany") (codes "hash") n m x y e f same in omega (arith, z))
new_differ x y n m (inr (inl e)) (inr (inl f)) d same = d (e ∙ sym f)
new_differ x y n m (inr (inl e)) (inr (inr f)) d same = (let z : 101 ≡ 109 = heads (codes "endmany") (codes "many") n m x y e f same in omega (arith, z))
new_differ x y n m (inr (inr e)) (inl f) d same = (let z : 109 ≡ 104 = heads (codes "many") (codes "hash") n m x y e f same in omega (arith, z))
new_differ x y n m (inr (inr e)) (inr (inl f)) d same = (let z : 109 ≡ 101 = heads (codes "many") (codes "endmany") n m x y e f same in omega (arith, z))
new_differ x y n m (inr (inr e)) (inr (inr f)) d same = d (e ∙ sym f)

module _ (names : List (List ℕ)) where
  two_differ : (x y u v : List ℕ) → IsSpelled names x → IsSpelled names y → x ≢ y → IsRespelled names x u → IsRespelled names y v → u ≢ v
  two_differ x y u v s p d (inl a) (inl b) = λ (e : u ≡ v). new_differ x y a.1.number b.1.number a.0 b.0 d (sym a.1.spelled ∙ (e ∙ b.1.spelled))
  two_differ x y u v s p d (inl a) (inr b) = λ (e : u ≡ v). a.1.free (subst (λ (w : List ℕ). IsSpelled names w) (sym (sym a.1.spelled ∙ (e ∙ b.1))) p)
  two_differ x y u v s p d (inr a) (inl b) = λ (e : u ≡ v). b.1.free (subst (λ (w : List ℕ). IsSpelled names w) (sym a.1 ∙ (e ∙ b.1.spelled)) s)
  two_differ x y u v s p d (inr a) (inr b) = λ (e : u ≡ v). d (sym a.1 ∙ (e ∙ b.1))

  rest_differ : (x u : List ℕ) → IsSpelled names x → IsRespelled names x u → {olds news : List (List ℕ)} → AllByRecursion (IsSpelled names) olds → AllByRecursion (λ y. x ≢ y) olds → AreRespelled names olds news → AllByRecursion (λ v. u ≢ v) news
  rest_differ x u s r p d none_respelled = tt
  rest_differ x u s r p d (one_respelled {old = old} {new = new} q rs) = (two_differ x old u new s p.0 d.0 r q, rest_differ x u s r p.1 d.1 rs)

  all_differ : {olds news : List (List ℕ)} → AllByRecursion (IsSpelled names) olds → AreDistinct olds → AreRespelled names olds news → AreDistinct news
  all_differ p d none_respelled = tt
  all_differ p d (one_respelled {old = old} {new = new} q rs) = (rest_differ old new p.0 q p.1 d.0 rs, all_differ p.1 d.1 rs)

-- each name is one of the names
spelled_on : (x : List ℕ) (names ws : List (List ℕ)) → AllByRecursion (IsSpelled names) ws → AllByRecursion (IsSpelled (x ∷ names)) ws
spelled_on x names [] h = tt
spelled_on x names (w ∷ ws) h = ((suc h.0.0, h.0.1), spelled_on x names ws h.1)

all_spelled : (names : List (List ℕ)) → AllByRecursion (IsSpelled names) names
all_spelled [] = tt
all_spelled (x ∷ names) = ((0, refl), spelled_on x names names (all_spelled names))

pub respelled_distinct : (names news : List (List ℕ)) → AreDistinct names → AreRespelled names names news → AreDistinct news
respelled_distinct names news d r = all_differ names (all_spelled names) d r
