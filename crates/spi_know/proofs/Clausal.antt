-- The clauses at the messages of a store.
use Rattle.std.proofs.Common.{◌≡◌, refl, sym, subst, ◌∙◌, ℕ, zero, suc, ◌+◌, ◌<◌, List, [], ◌∷◌, ◌++◌, length, below_more, arith}
use Rattle.std.proofs.lemmas.Option.{slice_get_within}
use Rattle.spi_term.specs.Term as Term
use Rattle.spi_term.specs.Term.{Message, bound, name, pair, in_left, in_right, enc, hash}
use Rattle.spi_term.proofs.Lists.{some_is}
use Rattle.spi_horn.specs.declared.rules.Rule.{Rule}
use Rattle.spi_horn.specs.Leading.{SpeaksBelow}
use Rattle.spi_intern.specs.Table.{TellsAll, tells_none, tells_next}
use Rattle.spi_intern.specs.Messages.{Says, says_bound, says_name, says_unit, says_pair, says_left, says_right, says_enc, says_hash}
use Rattle.spi_intern.specs.declared.messages.MsgPart.{MsgPart}
use Rattle.spi_term.proofs.Lists.{get_append}
use Rattle.spi_intern.proofs.Tables.{tells_at}
use Rattle.spi_know.specs.declared.clauses.Way.{Way}
use Rattle.spi_know.specs.declared.clauses.Way.TheVariants.{MakePair, First, Second, MakeInl, MakeInr, TakeInl, TakeInr, MakeEnc, Open, MakeHash}
use Rattle.spi_know.specs.Numbered.{rule, rules_of_part, ways_of, HasNumber, Suits, HasRule, HasClauses, AreClauses}

tells_append : {P M : Type 0} {S : P → M → Type 0} {ps qs : List P} {ms ns : List M} → TellsAll S ps ms → TellsAll S qs ns → TellsAll S (ps ++ qs) (ms ++ ns)
tells_append tells_none t = t
tells_append (tells_next s r) t = tells_next s (tells_append r t)

-- the clauses at one message suit it
suits_of : (ms : List Message) (j : ℕ) (p : MsgPart) (m : Message) → HasNumber ms j m → Says ms p m → TellsAll (Suits ms) (rules_of_part j p) (ways_of p)
suits_of ms j p m at says_bound = tells_none
suits_of ms j p m at says_name = tells_none
suits_of ms j p m at says_unit = tells_none
suits_of ms j p v at (says_pair {m = m} {n = n} e f) = tells_next (m, n, (e, f, at)) (tells_next (m, n, (at, e, refl)) (tells_next (m, n, (at, f, refl)) tells_none))
suits_of ms j p v at (says_left {m = m} e) = tells_next (m, (e, at, refl)) (tells_next (m, (at, e, refl)) tells_none)
suits_of ms j p v at (says_right {m = m} e) = tells_next (m, (e, at, refl)) (tells_next (m, (at, e, refl)) tells_none)
suits_of ms j p v at (says_enc {m = m} {n = n} e f) = tells_next (m, n, (e, f, at)) (tells_next (m, n, (at, f, e)) tells_none)
suits_of ms j p v at (says_hash {m = m} e) = tells_next (m, (e, at, refl)) tells_none

has_left : (xs ys : List Rule) (a b c : ℕ) → HasRule xs a b c → HasRule (xs ++ ys) a b c
has_left xs ys a b c (k, e) = (k, get_append xs ys k (rule a b c) e)

has_right : (xs ys : List Rule) (a b c : ℕ) → HasRule ys a b c → HasRule (xs ++ ys) a b c
has_right [] ys a b c h = h
has_right (x ∷ xs) ys a b c h = let (k, e) = has_right xs ys a b c h in (suc k, e)

-- and they are all there
clauses_here : (ms : List Message) (xs : List Rule) (j : ℕ) (p : MsgPart) (m : Message) → Says ms p m → HasClauses ms (xs ++ rules_of_part j p) j m
clauses_here ms xs j p m says_bound = tt
clauses_here ms xs j p m says_name = tt
clauses_here ms xs j p m says_unit = tt
clauses_here ms xs j p v (says_pair {a} {b} {m} {n} e f) =
    let rs = rule a.place b.place j ∷ rule j j a.place ∷ rule j j b.place ∷ [] in
    (a.place, b.place, e, f, has_right xs rs a.place b.place j (zero, refl), has_right xs rs j j a.place (suc zero, refl), has_right xs rs j j b.place (suc (suc zero), refl))
clauses_here ms xs j p v (says_left {a} {m} e) =
    let rs = rule a.place a.place j ∷ rule j j a.place ∷ [] in
    (a.place, e, has_right xs rs a.place a.place j (zero, refl), has_right xs rs j j a.place (suc zero, refl))
clauses_here ms xs j p v (says_right {a} {m} e) =
    let rs = rule a.place a.place j ∷ rule j j a.place ∷ [] in
    (a.place, e, has_right xs rs a.place a.place j (zero, refl), has_right xs rs j j a.place (suc zero, refl))
clauses_here ms xs j p v (says_enc {a} {b} {m} {n} e f) =
    let rs = rule a.place b.place j ∷ rule j b.place a.place ∷ [] in
    (a.place, b.place, e, f, has_right xs rs a.place b.place j (zero, refl), has_right xs rs j b.place a.place (suc zero, refl))
clauses_here ms xs j p v (says_hash {a} {m} e) = (a.place, e, has_right xs (rule a.place a.place j ∷ []) a.place a.place j (zero, refl))

clauses_more : (ms : List Message) (xs ys : List Rule) (j : ℕ) (m : Message) → HasClauses ms xs j m → HasClauses ms (xs ++ ys) j m
clauses_more ms xs ys j (bound i) h = tt
clauses_more ms xs ys j (name x) h = tt
clauses_more ms xs ys j Term.unit h = tt
clauses_more ms xs ys j (pair a b) (i, k, e, f, r, s, t) = (i, k, e, f, has_left xs ys i k j r, has_left xs ys j j i s, has_left xs ys j j k t)
clauses_more ms xs ys j (in_left a) (i, e, r, s) = (i, e, has_left xs ys i i j r, has_left xs ys j j i s)
clauses_more ms xs ys j (in_right a) (i, e, r, s) = (i, e, has_left xs ys i i j r, has_left xs ys j j i s)
clauses_more ms xs ys j (enc a b) (i, k, e, f, r, s) = (i, k, e, f, has_left xs ys i k j r, has_left xs ys j k i s)
clauses_more ms xs ys j (hash a) (i, e, r) = (i, e, has_left xs ys i i j r)

pub clauses_none : (ms : List Message) (rules : List Rule) (ways : List Way) → rules ≡ [] → ways ≡ [] → AreClauses ms 0 rules ways
clauses_none ms rules ways e f =
    let P : List Rule → Type 0 = λ x. TellsAll (Suits ms) x ways in
    let Q : List Way → Type 0 = λ x. TellsAll (Suits ms) [] x in
    record {
      suit = subst P (sym e) (subst Q (sym f) tells_none);
      all = λ j m lt h. absurd (omega (arith, lt));
    }

pub clauses_step : (ms : List Message) (n : ℕ) (rules rules' : List Rule) (ways ways' : List Way) (p : MsgPart) (m : Message) → HasNumber ms n m → Says ms p m → rules' ≡ rules ++ rules_of_part n p → ways' ≡ ways ++ ways_of p → AreClauses ms n rules ways → AreClauses ms (n + 1) rules' ways'
clauses_step ms n rules rules' ways ways' p m at s e f c =
    let P : List Rule → Type 0 = λ x. TellsAll (Suits ms) x ways' in
    let Q : List Way → Type 0 = λ x. TellsAll (Suits ms) (rules ++ rules_of_part n p) x in
    let H : ℕ → Type 0 = λ j. (v : Message) → HasNumber ms j v → HasClauses ms rules' j v in
    let R : List Rule → Type 0 = λ x. HasClauses ms x n m in
    let here : HasClauses ms rules' n m = subst R (sym e) (clauses_here ms rules n p m s) in
    let all : (j : ℕ) → j < n + 1 → H j = below_more H n
    (λ j lt v h. subst (λ x. HasClauses ms x j v) (sym e) (clauses_more ms rules (rules_of_part n p) j v (c.all j v lt h)))
    (λ v h. let q : m ≡ v = some_is (sym at ∙ h) in subst (λ x. HasClauses ms rules' n x) q here) in
    record {
      suit = subst P (sym e) (subst Q (sym f) (tells_append c.suit (suits_of ms n p m at s)));
      all = λ j v lt h. all j lt v h;
    }

two_within : (ms : List Message) (r : Rule) (a b c : Message) → HasNumber ms r.first a × HasNumber ms r.second b × HasNumber ms r.gives c → (r.first < length ms) × (r.second < length ms) × (r.gives < length ms)
two_within ms r a b c (e, f, g) = (slice_get_within ms r.first a e, slice_get_within ms r.second b f, slice_get_within ms r.gives c g)

one_within : (ms : List Message) (r : Rule) (a b : Message) → HasNumber ms r.first a × HasNumber ms r.gives b × (r.second ≡ r.first) → (r.first < length ms) × (r.second < length ms) × (r.gives < length ms)
one_within ms r a b (e, f, g) = let h = slice_get_within ms r.first a e in (h, omega (arith, h, g), slice_get_within ms r.gives b f)

suits_within : (ms : List Message) (r : Rule) (w : Way) → Suits ms r w → (r.first < length ms) × (r.second < length ms) × (r.gives < length ms)
suits_within ms r MakePair (a, b, h) = two_within ms r a b (pair a b) h
suits_within ms r First (a, b, h) = one_within ms r (pair a b) a h
suits_within ms r Second (a, b, h) = one_within ms r (pair a b) b h
suits_within ms r MakeInl (a, h) = one_within ms r a (in_left a) h
suits_within ms r MakeInr (a, h) = one_within ms r a (in_right a) h
suits_within ms r TakeInl (a, h) = one_within ms r (in_left a) a h
suits_within ms r TakeInr (a, h) = one_within ms r (in_right a) a h
suits_within ms r MakeEnc (a, b, h) = two_within ms r a b (enc a b) h
suits_within ms r Open (a, b, h) = two_within ms r (enc a b) b a h
suits_within ms r MakeHash (a, h) = one_within ms r a (hash a) h

-- rules of clauses are rules over the numbers
pub clauses_within : (ms : List Message) (n : ℕ) (rules : List Rule) (ways : List Way) → AreClauses ms n rules ways → SpeaksBelow (length ms) rules
clauses_within ms n rules ways c k r e = let (w, f, s) = tells_at c.suit k r e in suits_within ms r w s
