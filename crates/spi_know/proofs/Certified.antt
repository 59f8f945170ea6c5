-- The lines of a number, as a certificate.
use Rattle.std.proofs.Common.{◌≡◌, ◌≤◌, sym, ap, subst, ◌∙◌, ℕ, zero, suc, ◌+◌, ◌<◌, ◌^◌, ◌⊎◌, ⊎_elim, List, [], ◌∷◌, ◌++◌, Some, slice_get, length, map, take, arith}
use Rattle.std.proofs.lemmas.List.{length_push}
use Rattle.std.proofs.lemmas.Option.{slice_get-map, slice_get_within}
use Rattle.std.specs.Option.{option_map}
use Rattle.spi_term.specs.Term.{Message, pair, in_left, in_right, enc}
use Rattle.spi_term.proofs.Lists.{some_is, get_some}
use Rattle.spi_horn.specs.declared.rules.Rule.{Rule}
use Rattle.spi_horn.specs.declared.tracing.Line.{Line}
use Rattle.spi_horn.specs.declared.tracing.Ground.{Ground}
use Rattle.spi_horn.specs.declared.tracing.Ground.TheVariants.{Start, ByRule}
use Rattle.spi_horn.specs.Leading.{StartsWithin}
use Rattle.spi_horn.specs.Lines.{SaysBefore, HoldsOfLine, NamesLine, ProvesTarget}
use Rattle.spi_intern.proofs.Lists.{get_push}
use Rattle.spi_intern.proofs.Tables.{tells_at}
use Rattle.spi_know.specs.declared.cert.CertLine.{CertLine}
use Rattle.spi_know.specs.declared.cert.By.{By}
use Rattle.spi_know.specs.declared.clauses.Way.{Way}
use Rattle.spi_know.specs.declared.clauses.Way.TheVariants.{MakePair, First, Second, MakeInl, MakeInr, TakeInl, TakeInr, MakeEnc, Open, MakeHash}
use Rattle.spi_know.specs.Cert.{message_said, Follows, Certifies, Uses, AllUsed}
use Rattle.spi_know.specs.Numbered.{HasNumber, Suits, AreClauses, StartsWith}
use Rattle.spi_know.proofs.Clausal.{clauses_within}
use Rattle.spi_know.specs.Spelled.{named_by, IsSmallGround, SaysBy, IsCertLineOf, AreLines, CanBeSpelled}

-- a clause, by the lines of its premises
follows_by : (ms sent before : List Message) (r : Rule) (w : Way) (a b : ℕ) (m : Message) → Suits ms r w → ((n : Message) → HasNumber ms r.first n → slice_get before a ≡ Some n) → ((n : Message) → HasNumber ms r.second n → slice_get before b ≡ Some n) → HasNumber ms r.gives m → Follows sent before (named_by w a b) m
follows_by ms sent before r MakePair a b m (x, y, (e, f, h)) p q g = (x, y, some_is (sym g ∙ h), p x e, q y f)
follows_by ms sent before r First a b m (x, y, (e, h, s)) p q g = let v : x ≡ m = some_is (sym h ∙ g) in (y, p (pair m y) (e ∙ ap (λ z. Some (pair z y)) v))
follows_by ms sent before r Second a b m (x, y, (e, h, s)) p q g = let v : y ≡ m = some_is (sym h ∙ g) in (x, p (pair x m) (e ∙ ap (λ z. Some (pair x z)) v))
follows_by ms sent before r MakeInl a b m (x, (e, h, s)) p q g = (x, some_is (sym g ∙ h), p x e)
follows_by ms sent before r MakeInr a b m (x, (e, h, s)) p q g = (x, some_is (sym g ∙ h), p x e)
follows_by ms sent before r TakeInl a b m (x, (e, h, s)) p q g = let v : x ≡ m = some_is (sym h ∙ g) in p (in_left m) (e ∙ ap (λ z. Some (in_left z)) v)
follows_by ms sent before r TakeInr a b m (x, (e, h, s)) p q g = let v : x ≡ m = some_is (sym h ∙ g) in p (in_right m) (e ∙ ap (λ z. Some (in_right z)) v)
follows_by ms sent before r MakeEnc a b m (x, y, (e, f, h)) p q g = (x, y, some_is (sym g ∙ h), p x e, q y f)
follows_by ms sent before r Open a b m (x, y, (e, f, h)) p q g = let v : x ≡ m = some_is (sym h ∙ g) in (y, p (enc m y) (e ∙ ap (λ z. Some (enc z y)) v), q y f)
follows_by ms sent before r MakeHash a b m (x, (e, h, s)) p q g = (x, some_is (sym g ∙ h), p x e)

-- a line that names a premise's line uses it
uses_by : (ms : List Message) (r : Rule) (w : Way) (a b k : ℕ) → Suits ms r w → (r.first ≡ r.second → a ≡ b) → (a ≡ k) ⊎ (b ≡ k) → Uses (named_by w a b) k
uses_by ms r MakePair a b k s f u = u
uses_by ms r First a b k (x, y, (e, h, s)) f u = ⊎_elim (λ v. v) (λ v. f (sym s) ∙ v) u
uses_by ms r Second a b k (x, y, (e, h, s)) f u = ⊎_elim (λ v. v) (λ v. f (sym s) ∙ v) u
uses_by ms r MakeInl a b k (x, (e, h, s)) f u = ⊎_elim (λ v. v) (λ v. f (sym s) ∙ v) u
uses_by ms r MakeInr a b k (x, (e, h, s)) f u = ⊎_elim (λ v. v) (λ v. f (sym s) ∙ v) u
uses_by ms r TakeInl a b k (x, (e, h, s)) f u = ⊎_elim (λ v. v) (λ v. f (sym s) ∙ v) u
uses_by ms r TakeInr a b k (x, (e, h, s)) f u = ⊎_elim (λ v. v) (λ v. f (sym s) ∙ v) u
uses_by ms r MakeEnc a b k s f u = u
uses_by ms r Open a b k s f u = u
uses_by ms r MakeHash a b k (x, (e, h, s)) f u = ⊎_elim (λ v. v) (λ v. f (sym s) ∙ v) u

-- a line before another one, by its message
taken_line : (cert : List CertLine) (k i : ℕ) (c : CertLine) → i < k → slice_get cert i ≡ Some c → slice_get (map message_said (take k cert)) i ≡ Some (message_said c)
taken_line [] k i c lt e = cc
taken_line (x ∷ xs) zero i c lt e = absurd (omega (arith, lt))
taken_line (x ∷ xs) (suc k) zero c lt e = ap (λ (z : CertLine). Some (message_said z)) (some_is e)
taken_line (x ∷ xs) (suc k) (suc i) c lt e = taken_line xs k i c (omega (arith, lt)) e

-- what stands at the same place of a list that is as long
same_place : {A B : Type 0} (xs : List A) (ys : List B) (i : ℕ) (x : A) → length xs ≤ length ys → slice_get xs i ≡ Some x → (y : B) × (slice_get ys i ≡ Some y)
same_place xs ys i x le e = let lt = slice_get_within xs i x e in get_some ys i (omega (arith, le, lt))

module _ (ms from : List Message) (rules : List Rule) (ways : List Way) (start : List ℕ) (lines : List Line) (cert : List CertLine) (target : ℕ) (m : Message) (n : ℕ) (cl : AreClauses ms n rules ways) (st : StartsWith ms from start) (pr : ProvesTarget rules start lines target) (ar : AreLines ms (length from) ways lines (length lines) cert) (at : HasNumber ms target m) where
  -- the line with this index
  line_of : (i : ℕ) (l : Line) → slice_get lines i ≡ Some l → (c : CertLine) × (slice_get cert i ≡ Some c) × IsCertLineOf ms (length from) ways l c
  line_of i l e =
      let count = ar.count in
      let (c, f) = same_place lines cert i l (omega (arith, count)) e in
      (c, f, ar.each i l c e f)

  of_line : (i : ℕ) (c : CertLine) → slice_get cert i ≡ Some c → (l : Line) × (slice_get lines i ≡ Some l) × IsCertLineOf ms (length from) ways l c
  of_line i c e =
      let count = ar.count in
      let (l, f) = same_place cert lines i c (omega (arith, count)) e in
      (l, f, ar.each i l c f e)

  premise_said : (i a x : ℕ) → SaysBefore lines i a x → (v : Message) → HasNumber ms x v → slice_get (map message_said (take i cert)) a ≡ Some v
  premise_said i a x (l, lt, e, same) v f =
      let (c, g, (h, b)) = line_of a l e in
      let q : message_said c ≡ v = some_is (sym h ∙ (ap (slice_get ms) same ∙ f)) in
      taken_line cert i a c lt g ∙ ap (λ z. Some z) q

  follows_ground : (i x : ℕ) (g : Ground) (b : By) (v : Message) → HasNumber ms x v → HoldsOfLine rules start lines i x g → SaysBy (length from) ways g b → Follows from (map message_said (take i cert)) b v
  follows_ground i x (Start j) b v f h s = ⊎_elim
      (λ (lt, e).
      let (y, k) = get_some from j lt in
      let (z, p, q) = st.sent_at j y k in
      let w : z ≡ x = some_is (sym p ∙ h) in
      let u : y ≡ v = some_is (sym q ∙ (ap (slice_get ms) w ∙ f)) in
      subst (λ c. Follows from (map message_said (take i cert)) c v) (sym e) (k ∙ ap (λ c. Some c) u))
      (λ (le, e).
      let count = st.count in
      let lt = slice_get_within start j x h in
      let w : length from ≡ j = omega (arith, count, le, lt) in
      let u = st.unit_at x (ap (slice_get start) w ∙ h) in
      subst (λ c. Follows from (map message_said (take i cert)) c v) (sym e) (some_is (sym f ∙ u)))
      s
  follows_ground i x (ByRule k p q) b v f (r, e, g, first, second, same) (w, wk, bw) =
      let (w', wk', su) = tells_at cl.suit k r e in
      let ww : w' ≡ w = some_is (sym wk' ∙ wk) in
      let suits : Suits ms r w = subst (λ z. Suits ms r z) ww su in
      subst (λ c. Follows from (map message_said (take i cert)) c v) (sym bw)
      (follows_by ms from (map message_said (take i cert)) r w p q v suits (premise_said i p r.first first) (premise_said i q r.second second) (ap (slice_get ms) g ∙ f))

  uses_ground : (i x k : ℕ) (g : Ground) (b : By) → HoldsOfLine rules start lines i x g → SaysBy (length from) ways g b → NamesLine g k → Uses b k
  uses_ground i x k (Start j) b h s u = absurd u
  uses_ground i x k (ByRule j p q) b (r, e, g, first, second, same) (w, wk, bw) u =
      let (w', wk', su) = tells_at cl.suit j r e in
      let ww : w' ≡ w = some_is (sym wk' ∙ wk) in
      let suits : Suits ms r w = subst (λ z. Suits ms r z) ww su in
      subst (λ c. Uses c k) (sym bw) (uses_by ms r w p q k suits same u)

  pub certifies : Certifies from cert m
  certifies = record {
    each = λ i c e. let (l, f, (h, b)) = of_line i c e in follows_ground i l.number l.ground c.by (message_said c) h (pr.each i l f) b;
    last =
        let (i, l, e, f, g) = pr.last in
        let count = ar.count in
        let (c, h, (a, b)) = line_of i l f in
        let q : message_said c ≡ m = some_is (sym a ∙ (ap (slice_get ms) g ∙ at)) in
        (i, omega (arith, e, count), slice_get-map message_said cert i ∙ (ap (option_map message_said) h ∙ ap (λ z. Some z) q));
  }

  pub all_used : AllUsed cert
  all_used k lt =
      let count = ar.count in
      let (j, l, less, e, u) = pr.used k (omega (arith, count, lt)) in
      let (c, f, (h, b)) = line_of j l e in
      (j, c, less, f, uses_ground j l.number k l.ground c.by (pr.each j l e) b u)

-- lines that are spelled
pub lines_none : (ms : List Message) (n : ℕ) (ways : List Way) (lines : List Line) (cert : List CertLine) → cert ≡ [] → AreLines ms n ways lines 0 cert
lines_none ms n ways lines cert e = record {
  count = ap length e;
  each = λ j l c f g. let h : slice_get [] j ≡ Some c = ap (λ x. slice_get x j) (sym e) ∙ g in cc;
}

pub lines_step : (ms : List Message) (n : ℕ) (ways : List Way) (lines : List Line) (i : ℕ) (cert cert' : List CertLine) (l : Line) (c : CertLine) → slice_get lines i ≡ Some l → cert' ≡ cert ++ c ∷ [] → IsCertLineOf ms n ways l c → AreLines ms n ways lines i cert → AreLines ms n ways lines (i + 1) cert'
lines_step ms n ways lines i cert cert' l c e f is a =
    let count = a.count in
    let push : length (cert ++ c ∷ []) ≡ length cert + 1 = length_push cert c in
    let len : length cert' ≡ length (cert ++ c ∷ []) = ap length f in
    record {
      count = omega (arith, count, push, len);
      each = λ j k d g h. ⊎_elim
          (λ p. a.each j k d g p)
          (λ (p, q).
          let w : k ≡ l = some_is (sym g ∙ (ap (slice_get lines) (p ∙ count) ∙ e)) in
          let P : Line → Type 0 = λ x. IsCertLineOf ms n ways x d in
          let Q : CertLine → Type 0 = λ x. IsCertLineOf ms n ways l x in
          subst P (sym w) (subst Q (sym q) is))
          (get_push cert c j d (ap (λ x. slice_get x j) (sym f) ∙ h));
    }

-- lines that hold can be spelled
small_ground : (ms : List Message) (rules : List Rule) (ways : List Way) (start : List ℕ) (lines : List Line) (n i x : ℕ) (g : Ground) → AreClauses ms n rules ways → HoldsOfLine rules start lines i x g → i < 2 ^ 32 → IsSmallGround ways g
small_ground ms rules ways start lines n i x (Start j) cl h lt = tt
small_ground ms rules ways start lines n i x (ByRule k a b) cl (r, e, g, (la, p, ea, na), (lb, q, eb, nb), same) lt =
    let (w, f, s) = tells_at cl.suit k r e in (slice_get_within ways k w f, omega (arith, p, lt), omega (arith, q, lt))

number_within : (ms : List Message) (rules : List Rule) (ways : List Way) (start : List ℕ) (lines : List Line) (n i x : ℕ) (g : Ground) → AreClauses ms n rules ways → StartsWithin (length ms) start → HoldsOfLine rules start lines i x g → x < length ms
number_within ms rules ways start lines n i x (Start j) cl sw h = sw j x h
number_within ms rules ways start lines n i x (ByRule k a b) cl sw (r, e, g, first, second, same) =
    let (p, q, lt) = clauses_within ms n rules ways cl k r e in subst (λ y. y < length ms) g lt

pub small_lines : (ms : List Message) (rules : List Rule) (ways : List Way) (start : List ℕ) (lines : List Line) (n target : ℕ) → AreClauses ms n rules ways → StartsWithin (length ms) start → ProvesTarget rules start lines target → length lines < 2 ^ 32 + 1 → CanBeSpelled (length ms) ways lines
small_lines ms rules ways start lines n target cl sw pr few i l e =
    let lt = slice_get_within lines i l e in
    let h = pr.each i l e in (
      number_within ms rules ways start lines n i l.number l.ground cl sw h,
      small_ground ms rules ways start lines n i l.number l.ground cl h (omega (arith, lt, few)),
    )
