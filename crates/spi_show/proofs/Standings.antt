-- How a form of which the front was seen stands to a text.
use Rattle.std.proofs.Common.{◌≡◌, ◌↔◌, Bool, true, false, not, ◌==◌, IsTrue, Bor, ◌-◌, refl, sym, ap, ◌∙◌, ℕ, zero, suc, ◌<◌, ◌≤◌, List, [], ◌∷◌, ◌++◌, length, get_or, take, drop, append_assoc, append-nil, arith}
use Rattle.std.proofs.lemmas.Bool.{false≢true}
use Rattle.std.proofs.lemmas.Bool.Decides.{nat_tests}
use Rattle.std.proofs.lemmas.List.{take_rest}
use Rattle.std.specs.Cmp.Lexicographic.{slice_cmp}
use Rattle.std.specs.Ordering.{nat_cmp, ordering_then}
use Rattle.std.specs.declared.cmp.Ordering.{Ordering}
use Rattle.std.specs.declared.cmp.Ordering.TheVariants.{Less, Equal, Greater}
use Rattle.spi_show.specs.declared.below.Standing.{Standing}
use Rattle.spi_show.specs.declared.below.Standing.TheVariants.{On, Before, Behind}
use Rattle.spi_show.specs.Standing.{compared, Passes}

cmp_same : (x : ℕ) → nat_cmp x x ≡ Equal
cmp_same x = grind (arith, nat_tests)

cmp_less : (x y : ℕ) → x < y → nat_cmp x y ≡ Less
cmp_less x y l = grind (arith, nat_tests)

cmp_greater : (x y : ℕ) → y < x → nat_cmp x y ≡ Greater
cmp_greater x y l = grind (arith, nat_tests)

-- the first bytes are the same
behind_first : (x y : ℕ) (o : Ordering) → x ≡ y → ordering_then (nat_cmp x y) o ≡ o
behind_first x y o e = ap (λ r. ordering_then r o) (ap (nat_cmp x) (sym e) ∙ cmp_same x)

first_byte : {x y : ℕ} {xs ys : List ℕ} → x ∷ xs ≡ y ∷ ys → x ≡ y
first_byte e = cc

further_bytes : {x y : ℕ} {xs ys : List ℕ} → x ∷ xs ≡ y ∷ ys → xs ≡ ys
further_bytes e = cc

-- The first i bytes are the same, and then the next ones decide.
decided : (xs ys more : List ℕ) (i d e : ℕ) → i < length xs → i < length ys → take i xs ≡ take i ys
    → slice_cmp nat_cmp xs (ys ++ more)
    ≡ ordering_then (nat_cmp (get_or xs i d) (get_or ys i e)) (slice_cmp nat_cmp (drop (suc i) xs) (drop (suc i) ys ++ more))
decided [] ys more i d e l k h = absurd (omega (arith, l))
decided (x ∷ xs) [] more i d e l k h = absurd (omega (arith, k))
decided (x ∷ xs) (y ∷ ys) more zero d e l k h = refl
decided (x ∷ xs) (y ∷ ys) more (suc i) d e l k h =
    behind_first x y (slice_cmp nat_cmp xs (ys ++ more)) (first_byte h)
    ∙ decided xs ys more i d e (omega (arith, l)) (omega (arith, k)) (further_bytes h)

pub text_less : (xs ys : List ℕ) (i d e : ℕ) → i < length xs → i < length ys → take i xs ≡ take i ys
    → get_or xs i d < get_or ys i e → (more : List ℕ) → slice_cmp nat_cmp xs (ys ++ more) ≡ Less
text_less xs ys i d e l k h b more =
    decided xs ys more i d e l k h
    ∙ ap (λ r. ordering_then r (slice_cmp nat_cmp (drop (suc i) xs) (drop (suc i) ys ++ more))) (cmp_less _ _ b)

pub text_greater : (xs ys : List ℕ) (i d e : ℕ) → i < length xs → i < length ys → take i xs ≡ take i ys
    → get_or ys i e < get_or xs i d → (more : List ℕ) → slice_cmp nat_cmp xs (ys ++ more) ≡ Greater
text_greater xs ys i d e l k h b more =
    decided xs ys more i d e l k h
    ∙ ap (λ r. ordering_then r (slice_cmp nat_cmp (drop (suc i) xs) (drop (suc i) ys ++ more))) (cmp_greater _ _ b)

-- the text ends before the piece
pub text_ends : (xs ys : List ℕ) (i : ℕ) → length xs ≤ i → i < length ys → take i xs ≡ take i ys
    → (more : List ℕ) → slice_cmp nat_cmp xs (ys ++ more) ≡ Less
text_ends xs [] i l k h more = absurd (omega (arith, k))
text_ends [] (y ∷ ys) i l k h more = refl
text_ends (x ∷ xs) (y ∷ ys) zero l k h more = absurd (omega (arith, l))
text_ends (x ∷ xs) (y ∷ ys) (suc i) l k h more =
    behind_first x y (slice_cmp nat_cmp xs (ys ++ more)) (first_byte h)
    ∙ text_ends xs ys i (omega (arith, l)) (omega (arith, k)) (further_bytes h) more

-- the text has the whole piece
text_drops : (xs ys : List ℕ) → length ys ≤ length xs → take (length ys) xs ≡ take (length ys) ys
    → (more : List ℕ) → slice_cmp nat_cmp xs (ys ++ more) ≡ slice_cmp nat_cmp (drop (length ys) xs) more
text_drops xs [] l h more = refl
text_drops [] (y ∷ ys) l h more = absurd (omega (arith, l))
text_drops (x ∷ xs) (y ∷ ys) l h more =
    behind_first x y (slice_cmp nat_cmp xs (ys ++ more)) (first_byte h)
    ∙ text_drops xs ys (omega (arith, l)) (further_bytes h) more

pub text_has : (xs ys : List ℕ) → length ys ≤ length xs → take (length ys) xs ≡ take (length ys) ys
    → (more : List ℕ)
    → slice_cmp nat_cmp xs (ys ++ more) ≡ slice_cmp nat_cmp (take (length xs - length ys) (drop (length ys) xs)) more
text_has xs ys l h more =
    text_drops xs ys l h more ∙ ap (λ l. slice_cmp nat_cmp l more) (sym (take_rest xs (length ys)))

-- one piece and then another
pub passes_both : (a b c : Standing) (p q : List ℕ) → Passes a p b → Passes b q c → Passes a (p ++ q) c
passes_both a b c p q f g = λ more. ap (compared a) (append_assoc p q more) ∙ f (q ++ more) ∙ g more

-- the whole form was seen
compared_whole : (text : Bor (List ℕ)) (p : List ℕ) (r : Standing) → Passes (On text) p r → slice_cmp nat_cmp text.now p ≡ compared r []
compared_whole text p r f = ap (slice_cmp nat_cmp text.now) (sym (append-nil p)) ∙ f []

pub told_before : (text : Bor (List ℕ)) (p : List ℕ) (r : Standing) → Passes (On text) p r → r ≡ Before
    → IsTrue true ↔ (slice_cmp nat_cmp text.now p ≡ Greater)
told_before text p r f e = (λ _. compared_whole text p r f ∙ ap (λ r. compared r []) e, λ _. refl)

pub told_behind : (text : Bor (List ℕ)) (p : List ℕ) (r : Standing) → Passes (On text) p r → r ≡ Behind
    → IsTrue false ↔ (slice_cmp nat_cmp text.now p ≡ Greater)
told_behind text p r f e =
    (λ t. absurd (false≢true t), λ g. let k : Less ≡ Greater = sym (compared_whole text p r f ∙ ap (λ r. compared r []) e) ∙ g in absurd (cc))

rest_is_some : (xs : List ℕ) (b : Bool) → b ≡ (length xs == 0) → IsTrue (not b) ↔ (slice_cmp nat_cmp xs [] ≡ Greater)
rest_is_some [] b e = (λ t. let k : false ≡ true = ap not (sym e) ∙ t in absurd (cc), λ g. absurd (cc))
rest_is_some (x ∷ xs) b e =
    let f : (length (x ∷ xs) == 0) ≡ false = grind (arith, nat_tests) in
    (λ t. refl, λ g. ap not (e ∙ f))

pub told_on : (text rest : Bor (List ℕ)) (p : List ℕ) (r : Standing) (b : Bool) → Passes (On text) p r → r ≡ On rest → b ≡ (length rest.now == 0)
    → IsTrue (not b) ↔ (slice_cmp nat_cmp text.now p ≡ Greater)
told_on text rest p r b f e h =
    let k : slice_cmp nat_cmp text.now p ≡ slice_cmp nat_cmp rest.now [] = compared_whole text p r f ∙ ap (λ r. compared r []) e in
    let (a, z) = rest_is_some rest.now b h in
    (λ t. k ∙ a t, λ g. z (sym k ∙ g))
