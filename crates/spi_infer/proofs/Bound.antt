-- Names that are bound in a judge and taken away.
use Rattle.std.proofs.Common.{◌≡◌, ℕ, ◌+◌, ◌-◌, ◌≤◌, eqb, List, [], ◌∷◌, ◌++◌, length, take, refl, sym, ap, subst, ◌∙◌, arith, append_assoc, append-nil, length-append, eq-eqb, Result, Ok, Err}
use Rattle.std.specs.Prelude.{if◌then◌else◌, OnOk, OnErr}
use Rattle.std.proofs.lemmas.List.{take-append-le, take_all, length_push}
use Rattle.std.proofs.Math.Seq.{take-append-add}
use Rattle.spi_term.specs.Term.{name, Ty}
use Rattle.spi_term.specs.Substitution.{ty_put}
use Rattle.spi_term.specs.Spelling.{Shape}
use Rattle.spi_rules.specs.Environment.{Env}
use Rattle.spi_intern.specs.Meaning.{Means, Keeps}
use Rattle.spi_intern.specs.declared.types.TyId.{TyId}
use Rattle.spi_intern.proofs.Meanings.{terms_same, terms_more}
use Rattle.spi_message.specs.Judging.{Numbered, StandFor, IsKept}
use Rattle.spi_message.proofs.Standing.{stand_push, stand_length}
use Rattle.spi_infer.specs.Passes.{Wait, wait, entered, settled, IsCalm}
use Rattle.spi_message.specs.Tested.{Turns}
use Rattle.spi_infer.specs.Walking.{IsAbove}
use Rattle.spi_infer.specs.Waiting.{ReachesUpTo}
use Rattle.spi_message.proofs.Tested.{stands_kept}
use Rattle.spi_infer.proofs.Scanning.{calm_settled, due_settled}
use Rattle.spi_message.proofs.Cut.{same_store}

-- what stays
pub above_kept : {a b : Numbered} → IsKept a b → IsAbove a b
above_kept {a} h = record { store = h.store; free = h.free; more = []; types = h.types ∙ sym (append-nil a.types) }

pub above_more : {a b c : Numbered} → IsAbove a b → IsAbove b c → IsAbove a c
above_more {a} g h = record {
  store = terms_more g.store h.store;
  free = h.free ∙ g.free;
  more = g.more ++ h.more;
  types = h.types ∙ ap (λ l. l ++ h.more) g.types ∙ append_assoc a.types g.more h.more;
}

pub above_same : (a : Numbered) → IsAbove a a
above_same a = record { store = terms_same a.store; free = refl; more = []; types = sym (append-nil a.types) }

pub above_bind : {A E : Type 0} (a b : Numbered) (t : TyId) → b.store ≡ a.store → b.free ≡ a.free → (r : Result A E) → OnOk r (b.types ≡ a.types ++ t ∷ []) → OnErr r (b.types ≡ a.types) → IsAbove a b
above_bind a b t s f (Ok x) g h = record { store = same_store s; free = f; more = t ∷ []; types = g }
above_bind a b t s f (Err x) g h = record { store = same_store s; free = f; more = []; types = h ∙ sym (append-nil a.types) }

-- environments
pub turns_same : (j : Numbered) → Turns j j (λ e. e)
turns_same j = record { at = λ e s. s }

pub turns_nil : (j : Numbered) → Turns j j (λ e. e ++ [])
turns_nil j = record { at = λ e s. subst (λ e. StandFor j.store j.types e) (sym (append-nil e)) s }

pub turns_bound : (j k l : Numbered) (i : TyId) (t : Ty) → IsKept j k → Means k.store i.place t → l.store ≡ k.store → l.types ≡ k.types ++ i ∷ [] → Turns j l (λ e. e ++ t ∷ [])
turns_bound j k l i t h m q g = record {
  at = λ e s.
      let w = stand_push (stands_kept {j = j} {k = k} h s) m in
      subst (λ ids. StandFor l.store ids (e ++ t ∷ [])) (sym g) (subst (λ r. StandFor r (k.types ++ i ∷ []) (e ++ t ∷ [])) (sym q) w);
}

pub turns_bind_all : {A E : Type 0} (j k l : Numbered) (i : TyId) → IsKept j k → l.store ≡ k.store → (r : Result A E) → OnOk r (l.types ≡ k.types ++ i ∷ []) → OnOk r ((t : Ty) → Means k.store i.place t → Turns j l (λ e. e ++ t ∷ []))
turns_bind_all j k l i h q (Ok x) g = λ t m. turns_bound j k l i t h m q g
turns_bind_all j k l i h q (Err x) g = tt

pub more_bind : {A E : Type 0} (j k l : Numbered) (i : TyId) → IsKept j k → (r : Result A E) → OnOk r (l.types ≡ k.types ++ i ∷ []) → OnOk r (length l.types ≡ length j.types + 1)
more_bind j k l i h (Ok x) g =
    ap length g ∙ length_push k.types i ∙ ap (λ ids. length ids + 1) h.types
more_bind j k l i h (Err x) g = tt

pub turns_later : (j k l : Numbered) (f : Env → Env) → Turns j k f → IsKept k l → Turns j l f
turns_later j k l f t h = record { at = λ e s. stands_kept {j = k} {k = l} h (t.at e s) }

pub turns_split : (j k l : Numbered) (t u : Ty) (n : ℕ) → n ≡ length j.types → Turns j k (λ e. e ++ t ∷ []) → Turns k l (λ e. e ++ ty_put (name n) u ∷ []) → Turns j l (λ e. e ++ t ∷ (ty_put (name (length e)) u ∷ []))
turns_split j k l t u n q f g = record {
  at = λ e s.
      let w = g.at (e ++ t ∷ []) (f.at e s) in
      let p : (e ++ t ∷ []) ++ ty_put (name n) u ∷ [] ≡ e ++ t ∷ (ty_put (name (length e)) u ∷ [])
      = append_assoc e (t ∷ []) (ty_put (name n) u ∷ []) ∙ ap (λ m. e ++ t ∷ (ty_put (name m) u ∷ [])) (q ∙ stand_length s) in
      subst (λ e. StandFor l.store l.types e) p w;
}

-- what a form binds, where the form is known
pub entered_as : {A E : Type 0} (j k : Numbered) {x y : Shape} → x ≡ y → (r : Result A E) → OnOk r (Turns j k (λ e. entered e y)) → OnOk r (Turns j k (λ e. entered e x))
entered_as j k q r = subst (λ x. OnOk r (Turns j k (λ e. entered e x))) (sym q)

-- fewer names
take_over : {A : Type 0} (n : ℕ) (xs ys : List A) → length xs ≤ n → take n (xs ++ ys) ≡ xs ++ take (n - length xs) ys
take_over n xs ys h =
    let e : n ≡ length xs + (n - length xs) = omega arith in
    ap (λ n. take n (xs ++ ys)) e ∙ take-append-add xs ys (n - length xs)

pub above_cut : (a j k : Numbered) (n : ℕ) → IsAbove a j → length a.types ≤ n → k.types ≡ take n j.types → k.store ≡ j.store → k.free ≡ j.free → IsAbove a k
above_cut a j k n h l t q f = record {
  store = subst (λ r. Keeps a.store r) (sym q) h.store;
  free = f ∙ h.free;
  more = take (n - length a.types) h.more;
  types = t ∙ ap (take n) h.types ∙ take_over n a.types h.more l;
}

pub kept_cut : (a j k : Numbered) → IsAbove a j → k.types ≡ take (length a.types) j.types → k.store ≡ j.store → k.free ≡ j.free → IsKept a k
kept_cut a j k h t q f = record {
  store = subst (λ r. Keeps a.store r) (sym q) h.store;
  free = f ∙ h.free;
  types = t ∙ ap (take (length a.types)) h.types ∙ take-append-le (length a.types) a.types h.more (omega arith) ∙ take_all (length a.types) a.types (omega arith);
}

-- back to a node's scope
pub reaches_calm : (base i k : ℕ) (ws : List Wait) → IsCalm i ws → ReachesUpTo base i k ws → base ≤ k
reaches_calm base i k [] c h = h
reaches_calm base i k (wait r u ∷ ws) c h = subst (λ b. base ≤ (if b then k - 1 else k)) c h

pub reaches_due : (base i k : ℕ) (u : Ty) (ws : List Wait) → ReachesUpTo base i k (wait i u ∷ ws) → base ≤ k - 1
reaches_due base i k u ws h = subst (λ b. base ≤ (if b then k - 1 else k)) (eq-eqb i i refl) h

pub turns_calm : (j k : Numbered) (i n : ℕ) (ws : List Wait) → IsCalm i ws → Turns j k (λ e. take n e) → Turns j k (λ e. settled i n e ws)
turns_calm j k i n ws c h = record { at = λ e s. subst (λ e. StandFor k.store k.types e) (sym (calm_settled i n e ws c)) (h.at e s) }

pub turns_due : (j k l : Numbered) (i n m : ℕ) (u : Ty) (ws vs : List Wait) → m ≡ n - 1 → vs ≡ wait i u ∷ ws → Turns j k (λ e. take m e) → Turns k l (λ e. e ++ u ∷ []) → Turns j l (λ e. settled i n e vs)
turns_due j k l i n m u ws vs q v h g = record {
  at = λ e s.
      let w = g.at (take m e) (h.at e s) in
      let p : take m e ++ u ∷ [] ≡ settled i n e vs
      = ap (λ m. take m e ++ u ∷ []) q ∙ sym (due_settled i n e u ws) ∙ ap (settled i n e) (sym v) in
      subst (λ e. StandFor l.store l.types e) p w;
}

pub few_bind : {A E : Type 0} (k l : Numbered) (i : TyId) (r : Result A E) → OnOk r (l.types ≡ k.types ++ i ∷ []) → length k.types ≤ 300000 → OnOk r (length l.types ≤ 300001)
few_bind k l i (Ok x) g h = omega (arith, ap length g, length-append k.types (i ∷ []))
few_bind k l i (Err x) g h = tt

pub reaches_less : (a b i k : ℕ) (ws : List Wait) → b ≤ a → ReachesUpTo a i k ws → ReachesUpTo b i k ws
reaches_less a b i k [] l h = omega arith
reaches_less a b i k (wait r u ∷ ws) l h = go (if eqb r i then k - 1 else k) h
  where
    go : (n : ℕ) → a ≤ n → b ≤ n
    go n h = omega arith
