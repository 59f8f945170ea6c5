-- The backward pass over all uses.
use Rattle.std.proofs.Common.{◌≡◌, refl, sym, ap, ◌∙◌, subst, ℕ, suc, Bool, true, false, List, [], ◌∷◌, ◌++◌, reverse, length, Option, Some, None}
use Rattle.std.specs.Prelude.{if◌then◌else◌}
use Rattle.std.proofs.lemmas.List.{append-nil, append_assoc}
use Rattle.spi_term.specs.Term.{Effect}
use Rattle.spi_term.proofs.Lists.{length_more}
use Rattle.spi_intern.specs.declared.store.Store.{Store}
use Rattle.spi_count.specs.declared.keys.Keys.{Keys}
use Rattle.spi_audit.specs.declared.accounts.Account.{Account}
use Rattle.spi_audit.specs.declared.notes.Note.{Note}
use Rattle.spi_count.specs.Keeping.{IsKeyed}
use Rattle.spi_audit.specs.Accounts.{Held, HoldsEffects, holds_none, holds_next}
use Rattle.spi_audit.specs.Changes.{Change, before, effects_after, pays, top_effect, run_changes, first_unpaid_change, AreScoped, scoped_none, scoped_next}
use Rattle.spi_audit.specs.Notes.{NotedAs, AreNoted, are_noted_none, are_noted_next, ChangesAll, IsBeforeChange, IsSmallNote, AreSmallNotes}
use Rattle.spi_audit.proofs.Turning.{holds_names, holds_top, holds_empty, some_held}

pub record Passed (s : Store) (keys : Keys) (cs : List Change) (rest : List Note) (stack : List Account) (unpaid : Option ℕ) : Type 0 where
  pub front : List Change
  pub back : List Change
  pub whole : cs ≡ front ++ back
  pub noted : AreNoted s keys front rest
  pub holds : (ns : List ℕ) → AreScoped ns back → HoldsEffects s keys ns (reverse stack) (run_changes back)
  pub first : (ns : List ℕ) → AreScoped ns back → unpaid ≡ first_unpaid_change (length front) back

scoped_empty : (s : Store) (keys : Keys) (ns : List ℕ) → AreScoped ns [] → HoldsEffects s keys ns [] []
scoped_empty s keys _ scoped_none = holds_none

pub passed_start : (s : Store) (keys : Keys) (cs : List Change) (os : List Note) (stack : List Account) → stack ≡ [] → AreNoted s keys cs os → Passed s keys cs os stack None
passed_start s keys cs os stack e n = record {
  front = cs;
  back = [];
  whole = sym (append-nil cs);
  noted = n;
  holds = λ ns h. subst (λ l. HoldsEffects s keys ns (reverse l) []) (sym e) (scoped_empty s keys ns h);
  first = λ ns h. refl;
}

-- the last use of those that are left
record Last (s : Store) (keys : Keys) (front : List Change) (rest : List Note) (o : Note) : Type 0 where
  pub others : List Change
  pub change : Change
  pub all : front ≡ others ++ change ∷ []
  pub noted : AreNoted s keys others rest
  pub is : NotedAs s keys change o

last_noted : {s : Store} {keys : Keys} {front : List Change} (rest : List Note) {o : Note} → AreNoted s keys front (rest ++ o ∷ []) → Last s keys front rest o
last_noted [] (are_noted_next {c = c} w are_noted_none) = record { others = []; change = c; all = refl; noted = are_noted_none; is = w }
last_noted (x ∷ rest) (are_noted_next {c = c} w t) =
    let l = last_noted rest t in
    record { others = c ∷ l.others; change = l.change; all = ap (λ xs. c ∷ xs) l.all; noted = are_noted_next w l.noted; is = l.is }

last_of : {s : Store} {keys : Keys} {front : List Change} {all : List Note} (rest : List Note) (o : Note) → all ≡ rest ++ o ∷ [] → AreNoted s keys front all → Last s keys front rest o
last_of {s} {keys} {front} rest o e n = last_noted rest (subst (λ os. AreNoted s keys front os) e n)

noted_length : {s : Store} {keys : Keys} {cs : List Change} {os : List Note} → AreNoted s keys cs os → length cs ≡ length os
noted_length are_noted_none = refl
noted_length (are_noted_next w t) = ap suc (noted_length t)

next_first : (b pay : Bool) (m n i j : ℕ) (old new : Option ℕ) (back : List Change) → b ≡ pay → new ≡ (if b then old else Some m) → m ≡ n → i ≡ suc n → old ≡ first_unpaid_change i back → new ≡ (if pay then first_unpaid_change (suc n) back else Some n)
next_first true pay m n i j old new back e f g h k = subst (λ p. new ≡ (if p then first_unpaid_change (suc n) back else Some n)) e (f ∙ (k ∙ ap (λ i. first_unpaid_change i back) h))
next_first false pay m n i j old new back e f g h k = subst (λ p. new ≡ (if p then first_unpaid_change (suc n) back else Some n)) e (f ∙ ap Some g)

pub passed_next : {s : Store} {keys : Keys} {cs : List Change} {all : List Note} {old : List Account} {unpaid : Option ℕ} → Passed s keys cs all old unpaid → (rest : List Note) (o : Note) (new : List Account) (b : Bool) (next : Option ℕ) → all ≡ rest ++ o ∷ [] → ChangesAll s keys o old b new → next ≡ (if b then unpaid else Some (length rest)) → Passed s keys cs rest new next
passed_next {s} {keys} {cs} {all} {old} {unpaid} p rest o new b next e changes f = record {
  front = last.others;
  back = last.change ∷ p.back;
  whole = p.whole ∙ (ap (λ xs. xs ++ p.back) last.all ∙ append_assoc last.others (last.change ∷ []) p.back);
  noted = last.noted;
  holds = λ ns h. (turned ns h).0;
  first = λ ns h. (turned ns h).1;
}
  where
    last : Last s keys p.front rest o
    last = last_of rest o e p.noted

    turned : (ns : List ℕ) → AreScoped ns (last.change ∷ p.back) → HoldsEffects s keys ns (reverse new) (effects_after last.change (run_changes p.back)) × (next ≡ first_unpaid_change (length last.others) (last.change ∷ p.back))
    turned ns (scoped_next ms sc q r) =
        let t = changes.at last.change ms (run_changes p.back) last.is sc (p.holds (before last.change ++ ms) r) in
        (holds_names (sym q) t.0, next_first b (pays last.change (run_changes p.back)) (length rest) (length last.others) (length p.front) 0 unpaid next p.back t.1 f (sym (noted_length last.noted)) (ap length last.all ∙ length_more last.others last.change) (p.first (before last.change ++ ms) r))

scoped_later : (front : List Change) {back : List Change} {ns : List ℕ} → AreScoped ns (front ++ back) → (ms : List ℕ) × AreScoped ms back
scoped_later [] {ns = ns} h = (ns, h)
scoped_later (c ∷ front) (scoped_next ms sc e r) = scoped_later front r

pub passed_before : {s : Store} {keys : Keys} {cs : List Change} {all : List Note} {old : List Account} {unpaid : Option ℕ} → IsKeyed s keys → Passed s keys cs all old unpaid → (n : ℕ) → AreScoped (n ∷ []) cs → (rest : List Note) (o : Note) → all ≡ rest ++ o ∷ [] → IsBeforeChange s keys o old
passed_before {s} {keys} {cs} {all} {old} {unpaid} kd p n h rest o e = go r.0 r.1
  where
    last : Last s keys p.front rest o
    last = last_of rest o e p.noted

    r : (ms : List ℕ) × AreScoped ms (last.change ∷ p.back)
    r = scoped_later last.others (subst (λ xs. AreScoped (n ∷ []) xs) (p.whole ∙ (ap (λ xs. xs ++ p.back) last.all ∙ append_assoc last.others (last.change ∷ []) p.back)) h)

    go : (ms : List ℕ) → AreScoped ms (last.change ∷ p.back) → IsBeforeChange s keys o old
    go ms (scoped_next ns sc q t) = record {
      keyed = kd;
      change = last.change;
      scopes = ns;
      effects = run_changes p.back;
      noted = last.is;
      scoped = sc;
      holds = p.holds (before last.change ++ ns) t;
    }

none_left : {s : Store} {keys : Keys} {front : List Change} → AreNoted s keys front [] → front ≡ []
none_left are_noted_none = refl

module _ {s : Store} {keys : Keys} {cs : List Change} {all : List Note} {stack : List Account} {unpaid : Option ℕ} (p : Passed s keys cs all stack unpaid) (none : all ≡ []) (n : ℕ) (h : AreScoped (n ∷ []) cs) where
  here : p.front ≡ []
  here = none_left (subst (λ os. AreNoted s keys p.front os) none p.noted)

  back_is : cs ≡ p.back
  back_is = p.whole ∙ ap (λ xs. xs ++ p.back) here

  held : HoldsEffects s keys (n ∷ []) (reverse stack) (run_changes p.back)
  held = p.holds (n ∷ []) (subst (λ xs. AreScoped (n ∷ []) xs) back_is h)

  pub passed_root : (rest : List Account) (root : Account) → stack ≡ rest ++ root ∷ [] → Held s keys n root (top_effect (run_changes cs))
  passed_root rest root e = subst (λ xs. Held s keys n root (top_effect (run_changes xs))) (sym back_is) (go (holds_top stack rest root e held))
    where
      go : {st : List Effect} → HoldsEffects s keys (n ∷ []) (root ∷ reverse rest) st → Held s keys n root (top_effect st)
      go (holds_next t r) = t

  pub passed_first : unpaid ≡ first_unpaid_change 0 cs
  passed_first = p.first (n ∷ []) (subst (λ xs. AreScoped (n ∷ []) xs) back_is h) ∙ (ap (λ xs. first_unpaid_change (length xs) p.back) here ∙ ap (first_unpaid_change 0) (sym back_is))

  pub passed_some : stack ≡ [] → ⊥
  passed_some e = some_held (holds_empty stack e held)

pub small_last : (rest : List Note) (o : Note) {all : List Note} → all ≡ rest ++ o ∷ [] → AreSmallNotes all → AreSmallNotes rest × IsSmallNote o
small_last rest o e h = go rest (subst AreSmallNotes e h)
  where
    go : (rest : List Note) → AreSmallNotes (rest ++ o ∷ []) → AreSmallNotes rest × IsSmallNote o
    go [] h = (tt, h.0)
    go (x ∷ rest) h = let r = go rest h.1 in ((h.0, r.0), r.1)

pub shorter : {A : Type 0} (all rest : List A) (o : A) → all ≡ rest ++ o ∷ [] → length all ≡ suc (length rest)
shorter all rest o e = ap length e ∙ length_more rest o
