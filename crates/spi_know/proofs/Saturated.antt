-- What the clauses lead to is all that is known of the messages of a store.
use Rattle.std.proofs.Common.{◌≡◌, sym, subst, ◌∙◌, ℕ, List, Option, Some, None, slice_get, length, arith}
use Rattle.std.proofs.lemmas.Option.{slice_get_within}
use Rattle.spi_term.specs.Lists.{In}
use Rattle.spi_term.specs.Term.{Message, pair, in_left, in_right, enc, hash}
use Rattle.spi_term.proofs.Lists.{get_some}
use Rattle.spi_run.specs.Knowledge.{Knows}
use Rattle.spi_horn.specs.declared.rules.Rule.{Rule}
use Rattle.spi_horn.specs.Leading.{HasSomePlace, IsLeastModel}
use Rattle.spi_intern.specs.Table.{AllDiffer}
use Rattle.spi_know.specs.declared.clauses.Way.{Way}
use Rattle.spi_know.specs.Numbered.{rule, HasNumber, AreClauses, StartsWith}
use Rattle.spi_know.specs.Reached.{HaveTheirParts, IsSaturated}
use Rattle.spi_know.proofs.Local.{known_local}
use Rattle.spi_know.proofs.Certs.{in_get}

-- the message has a number; and one with a place
abbrev pub All : List Message → Message → Type 0
All ms m = (i : ℕ) × HasNumber ms i m

abbrev pub IsFoundMessage : List Message → List (Option ℕ) → Message → Type 0
IsFoundMessage ms places m = (i : ℕ) × HasNumber ms i m × HasSomePlace places i

module _ (ms sent : List Message) (rules : List Rule) (ways : List Way) (start : List ℕ) (places : List (Option ℕ)) (d : AllDiffer ms) (c : AreClauses ms (length ms) rules ways) (s : StartsWith ms sent start) (l : IsLeastModel rules start places) where
  all_parts : HaveTheirParts (All ms)
  all_parts = record {
    pairs = λ {m} {n} (j, e). let (i, k, x, y, r, t, u) = c.all j (pair m n) (slice_get_within ms j (pair m n) e) e in ((i, x), (k, y));
    lefts = λ {m} (j, e). let (i, x, r, t) = c.all j (in_left m) (slice_get_within ms j (in_left m) e) e in (i, x);
    rights = λ {m} (j, e). let (i, x, r, t) = c.all j (in_right m) (slice_get_within ms j (in_right m) e) e in (i, x);
    encs = λ {m} {n} (j, e). let (i, k, x, y, r, t) = c.all j (enc m n) (slice_get_within ms j (enc m n) e) e in ((i, x), (k, y));
    hashes = λ {m} (j, e). let (i, x, r) = c.all j (hash m) (slice_get_within ms j (hash m) e) e in (i, x);
  }

  -- one message has one number
  moved : (m : Message) (i j : ℕ) → HasNumber ms i m → HasNumber ms j m → HasSomePlace places i → HasSomePlace places j
  moved m i j e f h = subst (λ x. HasSomePlace places x) (d.one i j m e f) h

  unit_start : (i : ℕ) × (slice_get start (length sent) ≡ Some i)
  unit_start = let n = s.count in get_some start (length sent) (omega (arith, n))

  saturated : IsSaturated (All ms) (IsFoundMessage ms places)
  saturated = record {
    units = λ (j, e). let (i, f) = unit_start in (i, s.unit_at i f, l.started (length sent) i f);
    pairs = λ {m} {n} (j, e) (i1, e1, s1) (i2, e2, s2). let (i, k, x, y, (q, r), t, u) = c.all j (pair m n) (slice_get_within ms j (pair m n) e) e in
        (j, e, l.closed q (rule i k j) r (moved m i1 i e1 x s1) (moved n i2 k e2 y s2));
    first = λ {m} {n} (j, e, h). let (i, k, x, y, r, (q, t), u) = c.all j (pair m n) (slice_get_within ms j (pair m n) e) e in
        (i, x, l.closed q (rule j j i) t h h);
    second = λ {m} {n} (j, e, h). let (i, k, x, y, r, t, (q, u)) = c.all j (pair m n) (slice_get_within ms j (pair m n) e) e in
        (k, y, l.closed q (rule j j k) u h h);
    lefts = λ {m} (j, e) (i1, e1, s1). let (i, x, (q, r), t) = c.all j (in_left m) (slice_get_within ms j (in_left m) e) e in
        let h = moved m i1 i e1 x s1 in (j, e, l.closed q (rule i i j) r h h);
    rights = λ {m} (j, e) (i1, e1, s1). let (i, x, (q, r), t) = c.all j (in_right m) (slice_get_within ms j (in_right m) e) e in
        let h = moved m i1 i e1 x s1 in (j, e, l.closed q (rule i i j) r h h);
    from_left = λ {m} (j, e, h). let (i, x, r, (q, t)) = c.all j (in_left m) (slice_get_within ms j (in_left m) e) e in
        (i, x, l.closed q (rule j j i) t h h);
    from_right = λ {m} (j, e, h). let (i, x, r, (q, t)) = c.all j (in_right m) (slice_get_within ms j (in_right m) e) e in
        (i, x, l.closed q (rule j j i) t h h);
    encs = λ {m} {n} (j, e) (i1, e1, s1) (i2, e2, s2). let (i, k, x, y, (q, r), t) = c.all j (enc m n) (slice_get_within ms j (enc m n) e) e in
        (j, e, l.closed q (rule i k j) r (moved m i1 i e1 x s1) (moved n i2 k e2 y s2));
    opened = λ {m} {n} (j, e, h) (i2, e2, s2). let (i, k, x, y, r, (q, t)) = c.all j (enc m n) (slice_get_within ms j (enc m n) e) e in
        (i, x, l.closed q (rule j k i) t h (moved n i2 k e2 y s2));
    hashes = λ {m} (j, e) (i1, e1, s1). let (i, x, (q, r)) = c.all j (hash m) (slice_get_within ms j (hash m) e) e in
        let h = moved m i1 i e1 x s1 in (j, e, l.closed q (rule i i j) r h h);
  }

  sent_found : (m : Message) → In m sent → IsFoundMessage ms places m
  sent_found m i = let (j, e) = in_get i in let (x, f, g) = s.sent_at j m e in (x, g, l.started j x f)

  pub known_stands : (target : ℕ) (m : Message) → HasNumber ms target m → Knows sent m → HasSomePlace places target
  known_stands target m e k =
      let (i, f, h) = known_local all_parts saturated sent_found (λ n (x, b, t). (x, b)) (target, e) k in moved m i target f e h

  pub unknown : (target : ℕ) (m : Message) → HasNumber ms target m → slice_get places target ≡ Some None → Knows sent m → ⊥
  unknown target m e none k = let (t, f) = known_stands target m e k in let p : Some None ≡ Some (Some t) = sym none ∙ f in cc
