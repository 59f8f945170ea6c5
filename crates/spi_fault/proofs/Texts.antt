-- The atom whose report form is least, as the atoms are gone through.
use Rattle.std.proofs.Common.{◌≡◌, ◌≢◌, ◌==◌, Bool, false, ◌-◌, ◌<◌, ◌⊎◌, inl, inr, ⊎_elim, refl, sym, ap, ◌∙◌, subst, ℕ, zero, suc, ◌+◌, ◌≤◌, List, [], ◌∷◌, ◌++◌, length, take, map, Option, Some, None, arith}
use Rattle.std.specs.Prelude.{slice_get}
use Rattle.std.specs.Global.{Vec}
use Rattle.std.specs.Cmp.Lexicographic.{slice_cmp}
use Rattle.std.specs.Ordering.{nat_cmp, ordering_reverse}
use Rattle.std.specs.declared.cmp.Ordering.{Ordering}
use Rattle.std.specs.declared.cmp.Ordering.TheVariants.{Less, Equal, Greater}
use Rattle.std.proofs.lemmas.Cmp.{nat_list_cmp_total}
use Rattle.spi_term.specs.Lists.{In}
use Rattle.spi_term.proofs.Lists.{in_append, in_none, in_one, get_in, get_map}
use Rattle.spi_term.specs.declared.term.Atom as Declared
use Rattle.spi_term.specs.Term.{Atom, Effect}
use Rattle.spi_term.specs.View.{atom}
use Rattle.spi_show.specs.Report.{reported_atom}
use Rattle.spi_fault.specs.Trying.{IsBest, IsBetter, IsPlaceOfLeast, tried_place}

-- the order of texts
abbrev text_cmp : List ℕ → List ℕ → Ordering
text_cmp xs ys = slice_cmp nat_cmp xs ys

greater_less : (xs ys : List ℕ) → text_cmp xs ys ≡ Greater → text_cmp ys xs ≡ Less
greater_less xs ys h = nat_list_cmp_total.antisymm ys xs ∙ ap ordering_reverse h

less_not : (xs ys : List ℕ) → text_cmp xs ys ≡ Less → text_cmp xs ys ≢ Greater
less_not xs ys h g = let e : Less ≡ Greater = sym h ∙ g in cc

self_not : (xs : List ℕ) → text_cmp xs xs ≢ Greater
self_not xs g = let e : Greater ≡ Less = sym g ∙ greater_less xs xs g in cc

-- below what is not above the third is not above the third
below : (xs ys zs : List ℕ) → text_cmp ys xs ≡ Greater → text_cmp ys zs ≢ Greater → text_cmp xs zs ≢ Greater
below xs ys zs h g = by (text_cmp ys zs) refl
  where
    first : text_cmp xs ys ≡ Less
    first = greater_less ys xs h

    by : (r : Ordering) → text_cmp ys zs ≡ r → text_cmp xs zs ≢ Greater
    by Less e = less_not xs zs (nat_list_cmp_total.trans xs ys zs first e)
    by Greater e = absurd (g e)
    by Equal e = λ k.
        let a : text_cmp zs xs ≡ Less = greater_less xs zs k in
        let b : text_cmp ys xs ≡ text_cmp zs xs = nat_list_cmp_total.congr ys zs xs e in
        let c : Greater ≡ Less = sym h ∙ b ∙ a in
        cc

module _ (names : List (List ℕ)) (P : Atom → Type 0) (all es : List Atom) (a : Atom) where
  more : {b : Atom} → In b (es ++ a ∷ []) → In b es ⊎ (b ≡ a)
  more i = ⊎_elim (λ (i : In _ es). inl i) (λ (i : In _ (a ∷ [])). inr (in_one i)) (in_append es i)

  abbrev Above : Atom → Type 0
  Above x = (b : Atom) → In b (es ++ a ∷ []) → P b → slice_cmp nat_cmp (reported_atom names x) (reported_atom names b) ≢ Greater

  above_itself : ((b : Atom) → In b es → P b → slice_cmp nat_cmp (reported_atom names a) (reported_atom names b) ≢ Greater) → Above a
  above_itself h b i p =
      ⊎_elim (λ (i : In b es). h b i p) (λ (e : b ≡ a). subst (λ b. slice_cmp nat_cmp (reported_atom names a) (reported_atom names b) ≢ Greater) (sym e) (self_not (reported_atom names a))) (more i)

  -- one that is not better changes nothing
  pub best_keeps : (o : Option (ℕ × Vec ℕ)) → (IsBetter names P o a → ⊥) → IsBest names P all es o → IsBest names P all (es ++ a ∷ []) o
  best_keeps None n h = λ b i p. ⊎_elim (λ (i : In b es). h b i p) (λ (e : b ≡ a). n (subst P e p)) (more i)
  best_keeps (Some (j, text)) n (x, at, is, t, least) =
      (x, at, is, t, λ b i p. ⊎_elim (λ (i : In b es). least b i p) (λ (e : b ≡ a). subst (λ b. text_cmp (reported_atom names x) (reported_atom names b) ≢ Greater) (sym e) (λ k. n (subst P e p, ap (λ l. text_cmp l (reported_atom names a)) t ∙ k))) (more i))

  -- a better one is the best
  pub best_takes : (i : ℕ) (text : Vec ℕ) (o : Option (ℕ × Vec ℕ)) → IsBetter names P o a → slice_get all i ≡ Some a → text.items ≡ reported_atom names a → IsBest names P all es o → IsBest names P all (es ++ a ∷ []) (Some (i, text))
  best_takes i text None is at t h = (a, at, is, t, above_itself (λ b i p. absurd (h b i p)))
  best_takes i text (Some (j, old)) (is, g) at t (x, place, was, u, least) =
      (a, at, is, t, above_itself (λ b i p. below (reported_atom names a) (reported_atom names x) (reported_atom names b) (ap (λ l. text_cmp l (reported_atom names a)) (sym u) ∙ g) (least b i p)))

pub best_place : (names : List (List ℕ)) (P : Atom → Type 0) (es : List Atom) (o : Option (ℕ × Vec ℕ)) → IsBest names P es es o → IsPlaceOfLeast names P es (tried_place o)
best_place names P es None h = h
best_place names P es (Some (j, text)) (x, at, is, t, least) = (x, at, record { is = (get_in es j x at, is); least = λ b z. least b z.0 z.1 })

-- where no atom was looked at, each is the best
pub best_none : (names : List (List ℕ)) (P : Atom → Type 0) (all : List Atom) → IsBest names P all [] None
best_none names P all = λ b i p. in_none i

pub best_last : (names : List (List ℕ)) (P : Atom → Type 0) (atoms : List Declared.Atom) (i : ℕ) (a : Declared.Atom) (text : Vec ℕ) → slice_get atoms i ≡ Some a → P (atom a) → text.items ≡ reported_atom names (atom a) → IsBest names P (map atom atoms) [] (Some (i, text))
best_last names P atoms i a text at is t = (atom a, get_map atom atoms i at, is, t, λ b k p. absurd (in_none k))

-- a list that is not empty has a last place
pub some_place : {A : Type 0} (xs : List A) (b : Bool) → b ≡ (length xs == 0) → b ≡ false → length xs - 1 < length xs
some_place [] b e f = absurd (cc)
some_place (x ∷ xs) b e f = omega arith

take_more : {A B : Type 0} (f : A → B) (xs : List A) (i : ℕ) (x : A) → slice_get xs i ≡ Some x → take (i + 1) (map f xs) ≡ take i (map f xs) ++ f x ∷ []
take_more f [] i x h = absurd (cc)
take_more f (y ∷ xs) zero x h = let e : y ≡ x = cc in ap (λ y. f y ∷ []) e
take_more f (y ∷ xs) (suc i) x h =
    let z : suc i + 1 ≡ suc (i + 1) = omega arith in
    ap (λ n. take n (map f (y ∷ xs))) z ∙ ap (λ l. f y ∷ l) (take_more f xs i x h)

take_whole : {A B : Type 0} (f : A → B) (xs : List A) (i : ℕ) → length xs ≤ i → take i (map f xs) ≡ map f xs
take_whole f [] zero l = refl
take_whole f [] (suc i) l = refl
take_whole f (x ∷ xs) zero l = absurd (omega (arith, l))
take_whole f (x ∷ xs) (suc i) l = ap (λ l. f x ∷ l) (take_whole f xs i (omega (arith, l)))

module _ (names : List (List ℕ)) (P : Atom → Type 0) (atoms : List Declared.Atom) (i : ℕ) where
  abbrev pub BestTo : ℕ → Option (ℕ × Vec ℕ) → Type 0
  BestTo n o = IsBest names P (map atom atoms) (take n (map atom atoms)) o

  -- one more atom is gone through
  pub best_next : (a : Declared.Atom) (o r : Option (ℕ × Vec ℕ)) → slice_get atoms i ≡ Some a → BestTo i o → ((all es : Effect) → slice_get all i ≡ Some (atom a) → IsBest names P all es o → IsBest names P all (es ++ atom a ∷ []) r) → BestTo (i + 1) r
  best_next a o r at so next =
      subst (λ es. IsBest names P (map atom atoms) es r) (sym (take_more atom atoms i a at)) (next (map atom atoms) (take i (map atom atoms)) (get_map atom atoms i at) so)

  pub best_end : (o : Option (ℕ × Vec ℕ)) → length atoms ≤ i → BestTo i o → IsPlaceOfLeast names P (map atom atoms) (tried_place o)
  best_end o l so = best_place names P (map atom atoms) o (subst (λ es. IsBest names P (map atom atoms) es o) (take_whole atom atoms i l) so)
