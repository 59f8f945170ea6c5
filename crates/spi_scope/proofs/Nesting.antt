-- Tuples: nesting to the right, and rows of components.
use Rattle.std.proofs.Common.{◌≡◌, ℕ, zero, suc, List, [], ◌∷◌, ◌++◌, length, map, Bool, true, false, cond, refl, sym, ap, ◌∙◌, subst, arith, append_assoc, add-zero}
use Rattle.std.proofs.lemmas.List.{map_push}
use Rattle.spi_term.specs.Term.{Message, pair, Ty, pair_ty}
use Rattle.spi_term.specs.View.{message, ty}
use Rattle.spi_term.specs.declared.term.Msg.{Msg}
use Rattle.spi_term.specs.declared.term.Ty as declared
use Rattle.std.specs.Prelude.{slice_set, Option, Some, None, Ok, Err}
use Rattle.std.specs.Str.{bytes_eq}
use Rattle.std.specs.Map.{lookup}
use Rattle.std.specs.Option.{option_map}
use denote.Ref.{Bor}
use Rattle.spi_tree.specs.declared.tree.SWord.{SWord}
use Rattle.spi_scope.specs.declared.scope.Abbr.{Abbr}
use Rattle.spi_scope.specs.declared.fault.ScopeFault.{ScopeFault}
use Rattle.spi_scope.specs.declared.fault.ScopeFault.TheVariants.{UnknownType, TypeTwice}
use Rattle.spi_scope.specs.Scope.{Word, Abbreviations, type_of}
use Rattle.spi_scope.specs.Meaning.{nested, nested_types}
use Rattle.spi_scope.specs.Points.{one, uses_type, declares_type}
use Rattle.spi_scope.specs.Gives.{Ran, after, FailsWith, run}
use Rattle.spi_scope.specs.State.{abbreviation}

nested_last : (a : Message) (ms : List Message) (m n : Message) → nested a (ms ++ m ∷ n ∷ []) ≡ nested a (ms ++ pair m n ∷ [])
nested_last a [] m n = refl
nested_last a (b ∷ ms) m n = ap (pair a) (nested_last b ms m n)

-- a part that was popped goes into the last one
pub popped : (a : Message) (old new : List Msg) (part : Msg) (last : Message) → old ≡ new ++ part ∷ [] → nested a (map message old ++ last ∷ []) ≡ nested a (map message new ++ pair (message part) last ∷ [])
popped a old new part last e =
    ap (λ l. nested a (map message l ++ last ∷ [])) e
    ∙ ap (λ l. nested a (l ++ last ∷ [])) (map_push message new part)
    ∙ ap (nested a) (append_assoc (map message new) (message part ∷ []) (last ∷ []))
    ∙ nested_last a (map message new) (message part) last

nested_types_last : (bs : List Ty) (a z : Ty) → nested_types (bs ++ a ∷ []) z ≡ nested_types bs (pair_ty a z)
nested_types_last [] a z = refl
nested_types_last (b ∷ bs) a z = ap (pair_ty b) (nested_types_last bs a z)

pub popped_type : (old new : List declared.Ty) (part : declared.Ty) (z : Ty) → old ≡ new ++ part ∷ [] → nested_types (map ty new) (pair_ty (ty part) z) ≡ nested_types (map ty old) z
popped_type old new part z e =
    sym (nested_types_last (map ty new) (ty part) z)
    ∙ ap (λ l. nested_types l z) (sym (map_push ty new part))
    ∙ ap (λ l. nested_types (map ty l) z) (sym e)

pub none_left : {A : Type 0} (xs : List A) → length xs ≡ 0 → xs ≡ []
none_left [] e = refl
none_left (x ∷ xs) e = absurd (omega arith)

-- an abbreviation by its spelling
pub type_is_found : (es : List (Bor (List ℕ) × Abbr)) (w : Word) → type_of (map abbreviation es) w ≡ option_map (λ a. ty a.ty) (lookup (λ k. bytes_eq w k.now) es)
type_is_found [] w = refl
type_is_found (e ∷ es) w = by (bytes_eq w e.0.now) (type_is_found es w)
  where
    by : (b : Bool) → type_of (map abbreviation es) w ≡ option_map (λ a. ty a.ty) (lookup (λ k. bytes_eq w k.now) es) → cond b (Some (ty e.1.ty)) (type_of (map abbreviation es) w) ≡ option_map (λ a. ty a.ty) (cond b (Some e.1) (lookup (λ k. bytes_eq w k.now) es))
    by true h = refl
    by false h = h

-- what a table has at a spelling is what stands there at the word that is spelled so
pub looked_up : (es : List (Bor (List ℕ) × Abbr)) (x w : Word) (o : Option Abbr) → x ≡ w → o ≡ lookup (λ k. bytes_eq x k.now) es → type_of (map abbreviation es) w ≡ option_map (λ a. ty a.ty) o
looked_up es x w o e h = ap (type_of (map abbreviation es)) (sym e) ∙ type_is_found es x ∙ ap (option_map (λ (a : Abbr). ty a.ty)) (sym h)

pub unknown_type : (ts : Abbreviations) (w : SWord) (c : ℕ) → type_of ts w.word ≡ None → run (one (uses_type ts w)) c ≡ Err (UnknownType w.span w.word)
unknown_type ts w c e = rw e refl

pub known_type : (ts : Abbreviations) (w : SWord) (c : ℕ) (k : Ty) → type_of ts w.word ≡ Some k → run (one (uses_type ts w)) c ≡ Ok c
known_type ts w c k e = rw (e, add-zero) refl

pub new_type : (ts : Abbreviations) (w : SWord) (c : ℕ) → type_of ts w.word ≡ None → run (one (declares_type ts w)) c ≡ Ok c
new_type ts w c e = rw (e, add-zero) refl

pub type_again : (ts : Abbreviations) (w : SWord) (c : ℕ) (k : Ty) → type_of ts w.word ≡ Some k → run (one (declares_type ts w)) c ≡ Err (TypeTwice w.span w.word)
type_again ts w c k e = rw e refl

pub fails_behind : (e : ScopeFault) (r : Ran) (c : ℕ) (go : ℕ → Ran) → r ≡ Ok c → FailsWith e (go c) → FailsWith e (after r go)
fails_behind e r c go h f = subst (λ (x : Ran). FailsWith e (after x go)) (sym h) f

pub map_set : {A B : Type 0} (f : A → B) (xs : List A) (i : ℕ) (y : A) → map f (slice_set xs i y) ≡ slice_set (map f xs) i (f y)
map_set f [] i y = refl
map_set f (x ∷ xs) zero y = refl
map_set f (x ∷ xs) (suc i) y = ap (λ l. f x ∷ l) (map_set f xs i y)
