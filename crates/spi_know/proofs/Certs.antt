-- What a certificate says is known.
use Rattle.std.proofs.Common.{◌≡◌, refl, sym, ap, subst, ◌∙◌, ◌↔◌, Bool, IsTrue, ℕ, zero, suc, ◌-◌, ◌<◌, List, [], ◌∷◌, Some, slice_get, get_or, length, map, take, arith}
use Rattle.std.proofs.lemmas.Option.{slice_get-map, slice_get_within}
use Rattle.std.specs.Option.{option_map}
use Rattle.spi_horn.proofs.Lookups.{get_read}
use Rattle.spi_term.specs.Lists.{In, in_first, in_later}
use Rattle.spi_term.specs.Term.{Message}
use Rattle.spi_run.specs.Knowledge.{Knows, knows_sent, knows_unit, knows_pair, knows_first, knows_second, knows_inl, knows_inr, knows_from_inl, knows_from_inr, knows_enc, knows_opened, knows_hash}
use Rattle.spi_know.specs.Cert.{message_said, Follows, Certifies}
use Rattle.spi_know.specs.declared.cert.CertLine.{CertLine}
use Rattle.spi_know.specs.declared.cert.By.{By}
use Rattle.spi_know.specs.declared.cert.By.TheVariants.{Sent, MakeUnit, MakePair, First, Second, MakeInl, MakeInr, TakeInl, TakeInr, MakeEnc, Open, MakeHash}

pub get_in : {A : Type 0} (xs : List A) (i : ℕ) {x : A} → slice_get xs i ≡ Some x → In x xs
get_in [] i e = cc
get_in (y ∷ xs) zero {x} e = let f : y ≡ x = cc in subst (λ z. In z (y ∷ xs)) f in_first
get_in (y ∷ xs) (suc i) e = in_later (get_in xs i e)

pub in_get : {A : Type 0} {x : A} {xs : List A} → In x xs → (k : ℕ) × (slice_get xs k ≡ Some x)
in_get in_first = (0, refl)
in_get (in_later i) = let (k, e) = in_get i in (suc k, e)

-- what is read of a list with one entry for each of so many
pub read_below : {A : Type 0} (xs : List A) (count n i : ℕ) (x : A) → length xs ≡ count → count ≡ n → i < n → x ≡ get_or xs i x → slice_get xs i ≡ Some x
read_below xs count n i x all same below e = get_read xs i x (omega (arith, all, same, below)) e

-- what follows from known messages is known
follows_known : (sent before : List Message) (b : By) (m : Message) → ((i : ℕ) (n : Message) → slice_get before i ≡ Some n → Knows sent n) → Follows sent before b m → Knows sent m
follows_known sent before (Sent i) m f e = knows_sent (get_in sent i e)
follows_known sent before MakeUnit m f e = subst (λ n. Knows sent n) (sym e) knows_unit
follows_known sent before (MakePair i j) m f (a, b, e, g, h) = subst (λ n. Knows sent n) (sym e) (knows_pair (f i a g) (f j b h))
follows_known sent before (First i) m f (b, g) = knows_first (f i _ g)
follows_known sent before (Second i) m f (a, g) = knows_second (f i _ g)
follows_known sent before (MakeInl i) m f (a, e, g) = subst (λ n. Knows sent n) (sym e) (knows_inl (f i a g))
follows_known sent before (MakeInr i) m f (a, e, g) = subst (λ n. Knows sent n) (sym e) (knows_inr (f i a g))
follows_known sent before (TakeInl i) m f g = knows_from_inl (f i _ g)
follows_known sent before (TakeInr i) m f g = knows_from_inr (f i _ g)
follows_known sent before (MakeEnc i j) m f (a, b, e, g, h) = subst (λ n. Knows sent n) (sym e) (knows_enc (f i a g) (f j b h))
follows_known sent before (Open i j) m f (b, g, h) = knows_opened (f i _ g) (f j b h)
follows_known sent before (MakeHash i) m f (a, e, g) = subst (λ n. Knows sent n) (sym e) (knows_hash (f i a g))

-- what a line before the line number k says
before_line : (lines : List CertLine) (k i : ℕ) (n : Message) → slice_get (map message_said (take k lines)) i ≡ Some n → (l : CertLine) × (i < k) × (slice_get lines i ≡ Some l) × (message_said l ≡ n)
before_line [] zero i n e = cc
before_line (x ∷ xs) zero i n e = cc
before_line [] (suc k) i n e = cc
before_line (x ∷ xs) (suc k) zero n e = (x, omega arith, refl, cc)
before_line (x ∷ xs) (suc k) (suc i) n e = let (l, lt, g, s) = before_line xs k i n e in (l, omega arith, g, s)

below_known : (sent : List Message) (lines : List CertLine) (target : Message) → Certifies sent lines target → (n k : ℕ) (l : CertLine) → k < n → slice_get lines k ≡ Some l → Knows sent (message_said l)
below_known sent lines target c zero k l lt e = absurd (omega arith)
below_known sent lines target c (suc n) k l lt e = follows_known sent (map message_said (take k lines)) l.by (message_said l)
    (λ i m g. let (b, less, h, s) = before_line lines k i m g in subst (λ a. Knows sent a) s (below_known sent lines target c n i b (omega arith) h))
    (c.each k l e)

-- a line that a lookup by message finds
mapped_line : (lines : List CertLine) (k : ℕ) (n : Message) → slice_get (map message_said lines) k ≡ Some n → (l : CertLine) × (slice_get lines k ≡ Some l) × (message_said l ≡ n)
mapped_line [] k n e = cc
mapped_line (x ∷ xs) zero n e = (x, refl, cc)
mapped_line (x ∷ xs) (suc k) n e = mapped_line xs k n e

pub cert_known : (sent : List Message) (lines : List CertLine) (target : Message) → Certifies sent lines target → Knows sent target
cert_known sent lines target c =
    let (k, s, e) = c.last in
    let (l, g, h) = mapped_line lines k target e in
    subst (λ a. Knows sent a) h (below_known sent lines target c (suc k) k l (omega arith) g)

-- the certificate is right where each line follows, by its last line
pub certified : (sent : List Message) (lines : List CertLine) (target : Message) (l : CertLine) (b : Bool) → Some l ≡ slice_get lines (length lines - 1) → ((j : ℕ) (line : CertLine) → j < length lines → slice_get lines j ≡ Some line → Follows sent (map message_said (take j lines)) line.by (message_said line)) → (IsTrue b ↔ message_said l ≡ target) → IsTrue b ↔ Certifies sent lines target
certified sent lines target l b e each (f, g) =
    let w = slice_get_within lines (length lines - 1) l (sym e) in (
      λ t. record {
        each = λ k line h. each k line (slice_get_within lines k line h) h;
        last = (length lines - 1, omega (arith, w), slice_get-map message_said lines (length lines - 1) ∙ (ap (option_map message_said) (sym e) ∙ ap (λ n. Some n) (f t)));
      },
      λ c. let (k, s, h) = c.last in
          let q : length lines - 1 ≡ k = omega arith in
          let p : Some (message_said l) ≡ Some target = ap (option_map message_said) e ∙ (sym (slice_get-map message_said lines (length lines - 1)) ∙ (ap (slice_get (map message_said lines)) q ∙ h)) in
          let r : message_said l ≡ target = cc in
          g r,
    )
