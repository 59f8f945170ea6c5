-- The texts of types, and of names with their types, write the tokens of their trees.
use Rattle.std.proofs.Common.{ℕ, suc, ◌+◌, ◌<◌, ◌≤◌, Bool, IsTrue, List, ◌∷◌, ◌++◌, codes, refl, arith}
use Rattle.spi_lex.specs.declared.token.Kind.{Kind}
use Rattle.spi_lex.specs.declared.token.Kind.TheVariants as kinds
use Rattle.spi_lex.specs.declared.token.Reserved.TheVariants as word
use Rattle.spi_lex.specs.declared.token.Mark.TheVariants as mark
use Rattle.spi_lex.specs.Words.{words_of}
use Rattle.spi_lex.specs.Writing.{is_apart, IsKind}
use Rattle.spi_tree.specs.Pieces.{Piece, kinds_in, msg_pieces, effect_pieces, ty_pieces, fields_pieces, last_pieces}
use Rattle.spi_term.specs.Term.{Message, Effect, Ty, un, unit_ty, pair_ty, sum_ty, key, nonce}
use Rattle.spi_term.specs.Names.{MessageOver, OfEffect, OfTy}
use Rattle.spi_term.specs.Spelling.{ty_nodes}
use Rattle.spi_show.specs.Terms.{message_text, effect_text, typed_text, type_text, tuple_type_text}
use Rattle.spi_spell.proofs.Printed.{twice, spelled_name, message_tree, atom_trees, type_tree, field_trees, last_tree}
use Rattle.spi_spell.proofs.Printable.{HasVersion, EffectFits, PartsFit}
use Rattle.spi_spell.proofs.Prints as prints
use Rattle.spi_spell.proofs.Prints.{Prints}
use Rattle.spi_spell.proofs.PrintsTerms as terms
use Rattle.spi_spell.proofs.PrintsTerms.{PrintsInScope, effect_in}

-- one more bound name
pub inner : {top k d n : ℕ} → PrintsInScope top k d n → n < top → PrintsInScope top k (suc d) (suc n)
inner s lt = (let b = s.bound in record { free = s.free; bound = omega arith; all = lt })

-- numbers below top are spelled by words of the version
module _ (later : Bool) (top : ℕ) (spell : ℕ → List ℕ) (fit : (i : ℕ) → i < top → IsKind (words_of later) (kinds.Word (spell i))) where
  pub message : (k d n c : ℕ) (m : Message) → PrintsInScope top k d n → MessageOver k d m → HasVersion later m → (r : List Piece) (more : List ℕ)
      → IsTrue (is_apart more) → Prints later (kinds_in r) more → Prints later (kinds_in (msg_pieces c (message_tree (spelled_name spell) n m) r)) (message_text spell n m ++ more)
  message = terms.message later top (spelled_name spell) spell (λ i low c r more apart p. prints.spelling (spell i) (fit i low) apart p)

  pub typed : {ks : List Kind} (n : ℕ) (ty more : List ℕ) → n < top → Prints later ks (ty ++ more) → Prints later (kinds.Word (spell n) ∷ kinds.Mark mark.Colon ∷ ks) (typed_text spell n ty ++ more)
  typed n ty more low p = prints.part (spell n) (codes ": " ++ ty) more (prints.spelling (spell n) (fit n low) refl (prints.mark mark.Colon (prints.space p)))

  effect : (k d n c : ℕ) (es : Effect) → PrintsInScope top k d n → OfEffect (MessageOver k d) es → EffectFits later es → (r : List Piece) (more : List ℕ)
      → Prints later (kinds_in r) more → Prints later (kinds_in (effect_pieces c (atom_trees (spelled_name spell) n es) r)) (effect_text spell n es ++ more)
  effect k d n c es scope o v = terms.effect later top (spelled_name spell) spell (λ i low c r more apart p. prints.spelling (spell i) (fit i low) apart p) k d n c es scope o (effect_in later es v)

  -- the type, and its text behind the first component of a tuple
  both : (k d n c : ℕ) (a : Ty) → PrintsInScope top k d n → n + ty_nodes a ≤ top → OfTy (MessageOver k) d a → PartsFit later a → (r : List Piece) (more : List ℕ)
      → IsTrue (is_apart more) → Prints later (kinds_in r) more
      → Prints later (kinds_in (ty_pieces c (type_tree spell n a) r)) (type_text spell n a ++ more)
      × Prints later (kinds_in (fields_pieces c (field_trees spell n a) (last_pieces c (last_tree spell n a) r))) (tuple_type_text spell n a ++ more)
  both k d n c un scope few o v r more apart p = twice (prints.keyword word.Un refl apart p)
  both k d n c unit_ty scope few o v r more apart p = twice (prints.mark mark.ParenOpen (prints.mark mark.ParenClose p))
  both k d n c (pair_ty a b) scope few o v r more apart p = (
    prints.mark mark.ParenOpen (prints.part (typed_text spell n (type_text spell n a)) _ more (typed n (type_text spell n a) _ (omega arith) ((both k d n (c + 1) a scope (omega arith) o.0 v.0 _ _ refl
        (prints.mark mark.Comma (prints.space (prints.part (tuple_type_text spell (suc n) b) _ more
        ((both k (suc d) (suc n) (c + 1) b (inner scope (omega arith)) (omega arith) o.1 v.1 _ _ refl (prints.mark mark.ParenClose p)).1))))).0))),
    prints.part (typed_text spell n (type_text spell n a)) _ more (typed n (type_text spell n a) _ (omega arith) ((both k d n c a scope (omega arith) o.0 v.0 _ _ refl
        (prints.mark mark.Comma (prints.space ((both k (suc d) (suc n) c b (inner scope (omega arith)) (omega arith) o.1 v.1 r more apart p).1)))).0)),
  )
  both k d n c (sum_ty a b) scope few o v r more apart p =
      twice (prints.mark mark.ParenOpen (prints.part (type_text spell n a) _ more ((both k d n (c + 1) a scope (omega arith) o.0 v.0 _ _ refl
      (prints.space (prints.mark mark.Plus (prints.space (prints.part (type_text spell n b) _ more ((both k d n (c + 1) b scope (omega arith) o.1 v.1 _ _ refl (prints.mark mark.ParenClose p)).0)))))).0)))
  both k d n c (key a) scope few o v r more apart p =
      twice (prints.keyword word.Key refl refl (prints.mark mark.ParenOpen (prints.part (type_text spell n a) _ more ((both k d n (c + 1) a scope (omega arith) o v _ _ refl (prints.mark mark.ParenClose p)).0))))
  both k d n c (nonce es) scope few o v r more apart p = twice (prints.keyword word.Nonce refl refl (prints.space (effect k d n (c + 1) es scope o v _ more p)))

  pub type : (k d n c : ℕ) (a : Ty) → PrintsInScope top k d n → n + ty_nodes a ≤ top → OfTy (MessageOver k) d a → PartsFit later a → (r : List Piece) (more : List ℕ)
      → IsTrue (is_apart more) → Prints later (kinds_in r) more → Prints later (kinds_in (ty_pieces c (type_tree spell n a) r)) (type_text spell n a ++ more)
  type k d n c a scope few o v r more apart p = (both k d n c a scope few o v r more apart p).0
