-- The stack of counts against the stack of effects.
use Rattle.std.proofs.Common.{◌≡◌, refl, sym, ap, ◌∙◌, subst, ℕ, Bool, true, false, List, [], ◌∷◌, ◌++◌, reverse, Option, Some, None}
use Rattle.std.specs.Prelude.{is_none}
use Rattle.std.proofs.lemmas.List.{reverse-append}
use Rattle.spi_term.specs.Term.{Message, Effect}
use Rattle.spi_term.specs.Spelling.{Shape, leaf_at, prefix_at, fork_at}
use Rattle.spi_intern.specs.declared.store.Store.{Store}
use Rattle.spi_count.specs.Piles.{piled, StandsForPile}
use Rattle.spi_count.specs.declared.sum.AtomKind.{AtomKind}
use Rattle.spi_count.specs.declared.pile.Pile.{Pile}
use Rattle.spi_count.proofs.Standing.{piles_none}
use Rattle.spi_count.specs.declared.keys.Keys.{Keys}
use Rattle.spi_infer.specs.declared.own.OwnNote.{OwnNote}
use Rattle.spi_count.specs.Keeping.{with_keys, IsKeyed}
use Rattle.spi_infer.specs.Own.{PileFor, TopsStand}
use Rattle.spi_infer.specs.Forms.{by_effects, keep}
use Rattle.spi_infer.specs.Passes.{Note, act_by, stuck_top_by, stuck_two_by, after_shape, both_shape}
use Rattle.spi_infer.specs.Accounts.{BelowIn, MayBelowIn, Behind, AfterForm, BothForm, Tops, IsBeforeNode}
use Rattle.spi_count.proofs.Summed.{numbers}
use Rattle.spi_infer.proofs.Formed.{kept_keep}

pub tops_push : (At : ℕ → Message → Type 0) (os ns : List (Option Pile)) (o : Option Pile) (e : Option Effect) (st : List (Option Effect)) → ns ≡ os ++ o ∷ [] → PileFor At o e → TopsStand At (reverse os) st → TopsStand At (reverse ns) (e ∷ st)
tops_push At os ns o e st n h t = subst (λ l. TopsStand At l (e ∷ st)) (sym (ap reverse n ∙ reverse-append os (o ∷ []))) (h, t)

pub tops_top : (At : ℕ → Message → Type 0) (os rest : List (Option Pile)) (o : Option Pile) (st : List (Option Effect)) → os ≡ rest ++ o ∷ [] → TopsStand At (reverse os) st → TopsStand At (o ∷ reverse rest) st
tops_top At os rest o st n t = subst (λ l. TopsStand At l st) (ap reverse n ∙ reverse-append rest (o ∷ [])) t

pub nothing_stands : (s : Store) (keys : Keys) (pile : Pile) (fine : Bool) → IsKeyed s keys → ((kind : AtomKind) (q : ℕ) → piled kind pile q ≡ 0) → fine ≡ true → PileFor (with_keys s keys) (Some pile) (keep fine (Some []))
nothing_stands s keys pile true k h e = piles_none (with_keys s keys) (numbers k) h
nothing_stands s keys pile false k h e = absurd (cc)

pub pile_is_none : (At : ℕ → Message → Type 0) (r : Option Pile) (o : Option Effect) → PileFor At r o → is_none r ≡ is_none o
pile_is_none At None None t = refl
pile_is_none At None (Some es) t = absurd t
pile_is_none At (Some s) None t = absurd t
pile_is_none At (Some s) (Some es) t = refl

pub two_acts : (s : Store) (keys : Keys) (x : Shape) (fine : Bool) (a b : Pile) (next : Option Pile) (e f : Option Effect) → fine ≡ true → IsKeyed s keys → BothForm x a b next
    → PileFor (with_keys s keys) (Some a) e → PileFor (with_keys s keys) (Some b) f → MayBelowIn x e → MayBelowIn x f → PileFor (with_keys s keys) next (keep fine (by_effects (both_shape x) e f))
two_acts s keys x fine a b next None f q k h t u v w = absurd t
two_acts s keys x fine a b next (Some es) None q k h t u v w = absurd u
two_acts s keys x fine a b next (Some es) (Some fs) q k h t u v w = kept_keep (with_keys s keys) next fine (both_shape x es fs) q (h s keys es fs k t u v w)

pub two_stuck : (s : Store) (keys : Keys) (x : Shape) (fine : Bool) (a b : Pile) (next : Option Pile) (e f : Option Effect) → fine ≡ true → IsKeyed s keys → BothForm x a b next
    → PileFor (with_keys s keys) (Some a) e → PileFor (with_keys s keys) (Some b) f → MayBelowIn x e → MayBelowIn x f → is_none next ≡ stuck_two_by (both_shape x) fine e f
two_stuck s keys x false a b next e f q k h t u v w = absurd (cc)
two_stuck s keys x true a b next None f q k h t u v w = absurd t
two_stuck s keys x true a b next (Some es) None q k h t u v w = absurd u
two_stuck s keys x true a b next (Some es) (Some fs) q k h t u v w = pile_is_none (with_keys s keys) next (both_shape x es fs) (h s keys es fs k t u v w)

behind_top : (x : Shape) (es : Effect) (st : List (Option Effect)) → Behind x (Some es ∷ st) → BelowIn x es
behind_top (leaf_at k l) es st b = tt
behind_top (prefix_at k p j) es st b = b
behind_top (fork_at k f a r) es [] b = b
behind_top (fork_at k f a r) es (o ∷ st) b = b.0

keep_none : (b : Bool) (o : Option Effect) → b ≡ true → is_none o ≡ is_none (keep b o)
keep_none true o e = refl
keep_none false o e = absurd (cc)

module _ (s : Store) (keys : Keys) (x : Shape) (o : OwnNote) (os rest : List (Option Pile)) (n : Note) (st : List (Option Effect)) (b : IsBeforeNode s keys x o os n st) (fine : o.fine ≡ true) (pile : Pile) (next : Option Pile)
    (pop : os ≡ rest ++ Some pile ∷ []) (h : AfterForm s keys x o.own pile next) where
  n_fine : n.fine ≡ true
  n_fine = sym b.noted.0 ∙ fine

  after : (es : Effect) (st : List (Option Effect)) → Behind x (Some es ∷ st) → StandsForPile (with_keys s keys) pile es → PileFor (with_keys s keys) next (after_shape x n.paid es)
  after es st l t = h n.paid es b.keyed (b.noted.1 n_fine) t (behind_top x es st l)

  pub one_acts : (new : List (Option Pile)) → new ≡ rest ++ next ∷ [] → Tops s keys new (act_by (after_shape x n.paid) n.fine st)
  one_acts new e = go st b.behind (tops_top (with_keys s keys) os rest (Some pile) st pop b.tops)
    where
      go : (st : List (Option Effect)) → Behind x st → TopsStand (with_keys s keys) (Some pile ∷ reverse rest) st → Tops s keys new (act_by (after_shape x n.paid) n.fine st)
      go [] l t = absurd t
      go (None ∷ st) l t = absurd t.0
      go (Some es ∷ st) l t =
          tops_push (with_keys s keys) rest new next (keep n.fine (after_shape x n.paid es)) st e
          (kept_keep (with_keys s keys) next n.fine (after_shape x n.paid es) n_fine (after es st l t.0)) t.1

  pub one_stuck : is_none next ≡ stuck_top_by (after_shape x n.paid) n.fine st
  one_stuck = go st b.behind (tops_top (with_keys s keys) os rest (Some pile) st pop b.tops)
    where
      go : (st : List (Option Effect)) → Behind x st → TopsStand (with_keys s keys) (Some pile ∷ reverse rest) st → is_none next ≡ stuck_top_by (after_shape x n.paid) n.fine st
      go [] l t = absurd t
      go (None ∷ st) l t = absurd t.0
      go (Some es ∷ st) l t =
          pile_is_none (with_keys s keys) next (after_shape x n.paid es) (after es st l t.0)
          ∙ keep_none n.fine (after_shape x n.paid es) n_fine
