-- Numbers of the messages sent.
use Rattle.std.proofs.Common.{◌≡◌, refl, sym, ap, subst, ◌∙◌, ℕ, suc, ◌+◌, ◌<◌, ◌≤◌, ⊎_elim, List, [], ◌∷◌, ◌++◌, Some, slice_get, get_or, length, map, drop, below_more, arith}
use Rattle.std.proofs.lemmas.Bool.{cases_lt}
use Rattle.std.proofs.lemmas.List.{length_push, drop_more}
use Rattle.std.proofs.lemmas.Option.{slice_get-map, slice_get_read, get_or_from_slice_get, slice_get_within}
use Rattle.std.specs.Option.{option_map}
use Rattle.spi_term.specs.Term as Term
use Rattle.spi_term.specs.Term.{Message, message_size}
use Rattle.spi_term.specs.View.{message}
use Rattle.spi_term.specs.declared.term.Msg.{Msg}
use Rattle.spi_term.proofs.Lists.{some_is, get_some, get_last, get_append}
use Rattle.spi_horn.specs.Leading.{StartsWithin}
use Rattle.spi_intern.specs.Table.{KeepsAll}
use Rattle.spi_term.proofs.Sizes.{some_message}
use Rattle.spi_know.specs.Numbered.{HasNumber, AreFirstNumbers, StartsWith, nodes_in}

pub numbers_none : (ms sent : List Message) (numbers : List ℕ) → numbers ≡ [] → AreFirstNumbers ms sent 0 numbers
numbers_none ms sent numbers e = record { count = ap length e; at = λ j m lt f. absurd (omega (arith, lt)) }

pub numbers_kept : (ms ms' sent : List Message) (n : ℕ) (numbers : List ℕ) → KeepsAll ms ms' → AreFirstNumbers ms sent n numbers → AreFirstNumbers ms' sent n numbers
numbers_kept ms ms' sent n numbers k a = record { count = a.count; at = λ j m lt e. let (i, f, g) = a.at j m lt e in (i, f, k.at i m g) }

pub numbers_step : (ms ms' sent : List Message) (n id : ℕ) (numbers numbers' : List ℕ) (m : Message) → KeepsAll ms ms' → numbers' ≡ numbers ++ id ∷ [] → HasNumber ms' id m → slice_get sent n ≡ Some m → AreFirstNumbers ms sent n numbers → AreFirstNumbers ms' sent (n + 1) numbers'
numbers_step ms ms' sent n id numbers numbers' m k e at is a =
    let P : ℕ → Type 0 = λ j. (x : Message) → slice_get sent j ≡ Some x → (i : ℕ) × (slice_get numbers' j ≡ Some i) × HasNumber ms' i x in
    let count = a.count in
    let push = length_push numbers id in
    let len : length numbers' ≡ length (numbers ++ id ∷ []) = ap length e in
    let last : slice_get numbers' n ≡ Some id = ap (slice_get numbers') (sym count) ∙ (ap (λ l. slice_get l (length numbers)) e ∙ get_last numbers id) in
    let go : (j : ℕ) → j < n + 1 → P j = below_more P n
    (λ j lt x f. let (i, g, h) = a.at j x lt f in (i, ap (λ l. slice_get l j) e ∙ get_append numbers (id ∷ []) j i g, k.at i x h))
    (λ x f. let q : m ≡ x = some_is (sym is ∙ f) in (id, last, at ∙ ap (λ z. Some z) q)) in
    record { count = omega (arith, count, push, len); at = λ j x lt f. go j lt x f }

pub nodes_more : (xs : List Message) (i : ℕ) (m : Message) → slice_get xs i ≡ Some m → nodes_in (drop i xs) ≡ message_size m + nodes_in (drop (i + 1) xs)
nodes_more xs i m e =
    ap nodes_in (drop_more xs i m (slice_get_within xs i m e))
    ∙ ap (λ z. message_size z + nodes_in (drop (i + 1) xs)) (get_or_from_slice_get xs i m m e)

pub got_message : (sent : List Msg) (k : ℕ) (v : Msg) → k < length sent → v ≡ get_or sent k v → slice_get (map message sent) k ≡ Some (message v)
got_message sent k v lt e = slice_get-map message sent k ∙ ap (option_map message) (slice_get_read sent (length sent) k v refl lt e)

pub length_from : (sent : List Msg) → length (map message sent) ≡ length sent
length_from [] = refl
length_from (x ∷ xs) = ap suc (length_from xs)

-- and then that of unit
pub starts_all : (ms ms' sent : List Message) (n unit : ℕ) (numbers numbers' : List ℕ) → n ≡ length sent → KeepsAll ms ms' → numbers' ≡ numbers ++ unit ∷ [] → HasNumber ms' unit Term.unit → AreFirstNumbers ms sent n numbers → StartsWith ms' sent numbers'
starts_all ms ms' sent n unit numbers numbers' is k e at a =
    let count = a.count in
    let push = length_push numbers unit in
    let len : length numbers' ≡ length (numbers ++ unit ∷ []) = ap length e in
    let end : length sent ≡ length numbers = omega (arith, is, count) in
    let last : slice_get numbers' (length sent) ≡ Some unit = ap (slice_get numbers') end ∙ (ap (λ l. slice_get l (length numbers)) e ∙ get_last numbers unit) in
    record {
      count = omega (arith, push, len, end);
      sent_at = λ j m f.
          let lt = slice_get_within sent j m f in
          let (i, g, h) = a.at j m (omega (arith, lt, is)) f in
          (i, ap (λ l. slice_get l j) e ∙ get_append numbers (unit ∷ []) j i g, k.at i m h);
      unit_at = λ i f. let q : unit ≡ i = some_is (sym last ∙ f) in subst (λ x. HasNumber ms' x Term.unit) q at;
    }

pub starts_kept : (ms ms' sent : List Message) (start : List ℕ) → KeepsAll ms ms' → StartsWith ms sent start → StartsWith ms' sent start
starts_kept ms ms' sent start k s = record {
  count = s.count;
  sent_at = λ j m e. let (i, f, g) = s.sent_at j m e in (i, f, k.at i m g);
  unit_at = λ i e. k.at i Term.unit (s.unit_at i e);
}

pub starts_within : (ms sent : List Message) (start : List ℕ) → StartsWith ms sent start → StartsWithin (length ms) start
starts_within ms sent start s j x e =
    let count = s.count in
    let lt = slice_get_within start j x e in
    ⊎_elim
    (λ less.
    let (m, f) = get_some sent j less in
    let (i, g, h) = s.sent_at j m f in
    let q : i ≡ x = some_is (sym g ∙ e) in
    slice_get_within ms x m (subst (λ y. HasNumber ms y m) q h))
    (λ le.
    let w : length sent ≡ j = omega (arith, count, lt, le) in
    slice_get_within ms x Term.unit (s.unit_at x (ap (slice_get start) w ∙ e)))
    (cases_lt j (length sent))

pub length_nodes : (sent : List Msg) → length sent ≤ nodes_in (map message sent)
length_nodes [] = omega arith
length_nodes (x ∷ xs) = let h = length_nodes xs in let n = some_message (message x) in omega (arith, h, n)
