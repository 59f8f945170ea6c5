-- Roles by their numbers.
use Rattle.std.proofs.Common.{◌≡◌, ℕ, ◌+◌, ◌<◌, ◌≤◌, true, false, List, [], ◌∷◌, ◌++◌, length, take, get_or, slice_get, refl, sym, ap, ◌∙◌, subst, Some, ⊎_elim}
use Rattle.std.proofs.lemmas.List.{take_all}
use Rattle.std.proofs.lemmas.Option.{slice_get_read}
use Rattle.std.specs.Str.{bytes_eq}
use Rattle.std.proofs.lemmas.Slice.Eq.{bytes_eq-Decides}
use Rattle.spi_tree.specs.declared.tree.SWord.{SWord}
use Rattle.spi_term.specs.Lists.{In}
use Rattle.spi_term.proofs.Lists.{in_cases, in_append}
use Rattle.spi_scope.specs.Scope.{Word}
use Rattle.spi_honest.specs.Roles.{IsRole}
use Rattle.spi_honest.specs.Stages.{IsRoleAt}
use Rattle.spi_honest.proofs.Playing.{taken, one_more}

pub role_found : (first : SWord) (more : List SWord) (i : ℕ) (r : SWord) (w : Word) → r ≡ get_or more i r → i < length more → bytes_eq r.word w ≡ true → IsRoleAt (first ∷ more) w (i + 1)
role_found first more i r w e h f =
    (r, subst (λ j. slice_get (first ∷ more) j ≡ Some r) (one_more i) (slice_get_read more (length more) i r refl h e), (bytes_eq-Decides r.word w).0 f)

pub role_not : (more : List SWord) (i : ℕ) (r : SWord) (w : Word) → r ≡ get_or more i r → i < length more → bytes_eq r.word w ≡ false → ((q : SWord) → In q (take i more) → q.word ≡ w → ⊥) → (q : SWord) → In q (take (i + 1) more) → q.word ≡ w → ⊥
role_not more i r w e h f g q m v =
    let t : take (i + 1) more ≡ take i more ++ r ∷ [] = ap (λ j. take j more) (sym (one_more i)) ∙ taken more i (slice_get_read more (length more) i r refl h e) in
    ⊎_elim (λ a. g q a v) (λ a. ⊎_elim (λ b. Rattle.std.proofs.Common.true≢false (sym ((bytes_eq-Decides r.word w).1 (ap (λ z. z.word) (sym b) ∙ v)) ∙ f)) (λ b. elim b [ ]) (in_cases a)) (in_append (take i more) (subst (λ l. In q l) t m))

pub role_first : (first : SWord) (more : List SWord) (i : ℕ) (w : Word) → IsRole (first ∷ more) w → length more ≤ i → ((q : SWord) → In q (take i more) → q.word ≡ w → ⊥) → IsRoleAt (first ∷ more) w 0
role_first first more i w k h g =
    (first, refl, ⊎_elim (λ e. ap (λ z. z.word) (sym e) ∙ k.word) (λ a. absurd (g k.role (subst (λ l. In k.role l) (sym (take_all i more h)) a) k.word)) (in_cases k.is))
