-- The forward pass, use by use.
use Rattle.std.proofs.Common.{◌≡◌, refl, sym, ap, ◌∙◌, subst, ℕ, zero, suc, ◌+◌, ◌<◌, ◌≤◌, List, [], ◌∷◌, ◌++◌, length, take, drop, reverse, map, get_or, arith, length-append}
use Rattle.std.proofs.lemmas.List.{append-nil, take_all, length-replicate, take-append-drop, length-take}
use Rattle.std.proofs.Math.ListN.{drop_of_length-le}
use Rattle.spi_term.specs.Term.{Message, un, Process}
use Rattle.spi_term.specs.Spelling.{Shape, flat, numbered, spelled}
use Rattle.spi_rules.specs.Environment.{untrusted}
use Rattle.spi_rules.specs.Derivations.{RuleUse}
use Rattle.spi_rules.specs.Deriv.{AreTrees, tree, IsTree, IsUse}
use Rattle.spi_rules.specs.Rule.{arity}
use Rattle.spi_intern.specs.declared.store.Store.{Store}
use Rattle.spi_intern.specs.declared.atoms.AtomId.{AtomId}
use Rattle.spi_intern.specs.Atoms.{SaysAtom, says_end, says_check, says_many}
use Rattle.spi_intern.specs.Meaning.{Keeps}
use Rattle.spi_intern.proofs.Meanings.{means_keeps}
use Rattle.spi_intern.proofs.Tables.{tells_map}
use Rattle.spi_message.specs.Judging.{Numbered, Stands}
use Rattle.spi_message.proofs.Standing.{stand_length}
use Rattle.spi_count.specs.declared.keys.Keys.{Keys}
use Rattle.spi_audit.specs.declared.notes.Note.{Note}
use Rattle.spi_audit.specs.declared.asked.Binding.TheVariants.{Nothing}
use Rattle.spi_audit.specs.declared.asked.Asked.{Asked}
use Rattle.spi_audit.specs.declared.asked.Asked.TheVariants as A
use Rattle.spi_audit.specs.Fits.{Subject, of_process}
use Rattle.spi_audit.specs.Audit.{MisfitAt}
use Rattle.spi_audit.specs.Asked.{bound_none, Located}
use Rattle.spi_count.specs.Keeping.{with_keys, GrowsTo}
use Rattle.spi_audit.specs.Changes.{Change, change_of}
use Rattle.spi_audit.specs.Notes.{NotedAs, noted_nothing, noted_empty, noted_same, noted_one, noted_two, noted_serve, noted_branch, noted_check, noted_begin, noted_end, noted_many, noted_cast, noted_make, noted_both, noted_taken, AreNoted, are_noted_none, are_noted_next, IsSmallNote, AreSmallNotes}
use Rattle.spi_audit.specs.Walking.{Trace, Led, led_none, later_none, later_next, Opens, opens_later, IsWalkState, IsLed, Misfits, Steps}
use Rattle.spi_count.proofs.Kept.{key_keeps, have_keys_keep}
use Rattle.spi_audit.proofs.Leading.{led_next, led_misfit, led_trace}
use Rattle.spi_audit.proofs.Fitted.{fits_arity}

-- what is kept stands for what it stood for, as the store and the keys grow
atom_keeps : {s r : Store} → Keeps s r → (i : AtomId) (a : _) → SaysAtom s.messages i a → SaysAtom r.messages i a
atom_keeps k i a (says_end e) = says_end (k.messages.at _ _ e)
atom_keeps k i a (says_check e) = says_check (k.messages.at _ _ e)
atom_keeps k i a (says_many e) = says_many (k.messages.at _ _ e)

module _ {s r : Store} {ks ls : Keys} (g : GrowsTo s ks r ls) where
  key_kept : {i : ℕ} {m : Message} → with_keys s ks i m → with_keys r ls i m
  key_kept h = key_keeps {s = s} {r = r} {ks = ks} {ls = ls} g h

  noted_keeps : {c : Change} {o : Note} → NotedAs s ks c o → NotedAs r ls c o
  noted_keeps noted_nothing = noted_nothing
  noted_keeps noted_empty = noted_empty
  noted_keeps noted_same = noted_same
  noted_keeps noted_one = noted_one
  noted_keeps noted_two = noted_two
  noted_keeps noted_serve = noted_serve
  noted_keeps noted_branch = noted_branch
  noted_keeps (noted_check h m) = noted_check (key_kept h) (means_keeps g.store m)
  noted_keeps (noted_begin h) = noted_begin (g.store.messages.at _ _ h)
  noted_keeps (noted_end h) = noted_end (key_kept h)
  noted_keeps (noted_many h) = noted_many (key_kept h)
  noted_keeps (noted_cast {fs = fs} m h) = noted_cast (means_keeps g.store m) (have_keys_keep {s = s} {r = r} {ks = ks} {ls = ls} fs g h)
  noted_keeps (noted_make h) = noted_make (g.store.messages.at _ _ h)
  noted_keeps noted_both = noted_both
  noted_keeps (noted_taken {fs = fs} t h) = noted_taken (tells_map (atom_keeps {s = s} {r = r} g.store) t) (have_keys_keep {s = s} {r = r} {ks = ks} {ls = ls} fs g h)

  are_noted_keep : {cs : List Change} {os : List Note} → AreNoted s ks cs os → AreNoted r ls cs os
  are_noted_keep are_noted_none = are_noted_none
  are_noted_keep (are_noted_next n a) = are_noted_next (noted_keeps n) (are_noted_keep a)

noted_push : {s : Store} {ks : Keys} {cs : List Change} {os : List Note} {c : Change} {o : Note} → AreNoted s ks cs os → NotedAs s ks c o → AreNoted s ks (cs ++ c ∷ []) (os ++ o ∷ [])
noted_push are_noted_none n = are_noted_next n are_noted_none
noted_push (are_noted_next m a) n = are_noted_next m (noted_push a n)

-- at most 300,000 names are in scope at each
pub small_push : (os : List Note) (o : Note) → AreSmallNotes os → IsSmallNote o → AreSmallNotes (os ++ o ∷ [])
small_push [] o h k = (k, tt)
small_push (p ∷ os) o h k = (h.0, small_push os o h.1 k)

-- the process itself is asked first
root_located : (k n : ℕ) (p : Process) → n ≡ k → Located (spelled k p) 0 (untrusted k) p
root_located k n p e = record { rest = []; is = ap (λ n. flat 0 n (numbered [] n p)) (sym (length-replicate k un)) ∙ sym (append-nil (flat 0 (length (untrusted k)) (numbered [] (length (untrusted k)) p))) }

module _ (j : Numbered) (ks : Keys) (k : ℕ) (p : Process) (few : k ≤ 100000) (stands : Stands j (untrusted k)) (free : j.free ≡ k) where
  names : length (untrusted k) ≡ k
  names = length-replicate k un

  root_opens : (n : ℕ) → n ≡ length j.types → Opens j.store (spelled k p) j.free (untrusted k) (A.Process 0 n Nothing ∷ []) (of_process (untrusted k) p ∷ [])
  root_opens n e =
      let l : n ≡ length (untrusted k) = e ∙ stand_length stands in
      opens_later (later_next (omega (arith, l, names, free)) (omega (arith, l)) (omega (arith, l, names, few)) bound_none
      (sym (ap (λ e. e ++ []) (take_all n (untrusted k) (omega (arith, l))) ∙ append-nil (untrusted k))) (root_located k k p refl) later_none)

  pub led_start : (n : ℕ) (us : List RuleUse) (asked : List Asked) (os : List Note) → n ≡ length j.types → asked ≡ A.Process 0 n Nothing ∷ [] → os ≡ [] → IsTree us → IsLed j ks (spelled k p) (of_process (untrusted k) p) [] us asked os
  led_start n us asked os e q r t = record {
    subjects = of_process (untrusted k) p ∷ [];
    state = record {
      env = untrusted k;
      stands = stands;
      enough = omega (arith, names, free);
      opens = subst (λ (qs : List Asked). Opens j.store (spelled k p) j.free (untrusted k) (reverse qs) (of_process (untrusted k) p ∷ [])) (sym q) (root_opens n e);
    };
    changes = [];
    led = led_none;
    noted = subst (λ (os : List Note). AreNoted j.store ks [] os) (sym r) are_noted_none;
    trees = t;
  }

-- one use more
module _ (old : Numbered) (ls : Keys) (ss : List Shape) (root : Subject) (us : List RuleUse) (u : RuleUse) (vs : List RuleUse) (qs : List Asked) (os : List Note) (l : IsLed old ls ss root us (u ∷ vs) qs os) where
  tree_some : (n : ℕ) → AreTrees n (u ∷ vs) → 0 < n
  tree_some n (tree w t) = omega arith

  tree_use : (n : ℕ) → AreTrees n (u ∷ vs) → IsUse u
  tree_use n (tree w t) = w

  tree_rest : (n : ℕ) → AreTrees (suc n) (u ∷ vs) → AreTrees (arity u.rule + n) vs
  tree_rest n (tree w t) = t

  pub led_some : 0 < length l.subjects
  led_some = tree_some (length l.subjects) l.trees

  pub led_is_use : IsUse u
  led_is_use = tree_use (length l.subjects) l.trees

  pub led_stuck : Misfits u l.subjects → MisfitAt (root ∷ []) (us ++ u ∷ vs) (length us)
  led_stuck m = led_misfit u vs l.led m

  module _ (new : Numbered) (ks : Keys) (rs : List Asked) (o : Note) (g : GrowsTo old.store ls new.store ks) where
    pub led_more : Steps new ks ss u rs l.subjects o → IsLed new ks ss root (us ++ u ∷ []) vs rs (os ++ o ∷ [])
    led_more h = go l.subjects l.led l.trees h
      where
        go : (ts : List Subject) → Led (root ∷ []) us l.changes ts → AreTrees (length ts) (u ∷ vs) → Steps new ks ss u rs ts o → IsLed new ks ss root (us ++ u ∷ []) vs rs (os ++ o ∷ [])
        go [] d t h = absurd h
        go (t ∷ ts) d w h = record {
          subjects = h.0 ++ ts;
          state = h.2;
          changes = l.changes ++ change_of u t ∷ [];
          led = led_next d h.1;
          noted = noted_push (are_noted_keep g l.noted) h.3;
          trees = subst (λ n. AreTrees n vs) (ap (λ n. n + length ts) (sym (fits_arity h.1)) ∙ sym (length-append h.0 ts)) (tree_rest (length ts) w);
        }

-- the uses from one on, and those up to it
pub drop_at : {A B : Type 0} (f : A → B) (xs : List A) (i : ℕ) (x : A) → x ≡ get_or xs i x → i < length xs → drop i (map f xs) ≡ f x ∷ drop (i + 1) (map f xs)
drop_at f [] i x e h = absurd (omega arith)
drop_at f (y ∷ xs) zero x e h = ap (λ y. f y ∷ map f xs) (sym e)
drop_at f (y ∷ xs) (suc i) x e h = let n : suc (i + 1) ≡ suc i + 1 = omega arith in drop_at f xs i x e (omega arith) ∙ ap (λ n. f x ∷ drop n (f y ∷ map f xs)) n

pub take_at : {A B : Type 0} (f : A → B) (xs : List A) (i : ℕ) (x : A) → x ≡ get_or xs i x → i < length xs → take i (map f xs) ++ f x ∷ [] ≡ take (i + 1) (map f xs)
take_at f [] i x e h = absurd (omega arith)
take_at f (y ∷ xs) zero x e h = ap (λ y. f y ∷ []) e
take_at f (y ∷ xs) (suc i) x e h = let n : suc (i + 1) ≡ suc i + 1 = omega arith in ap (λ l. f y ∷ l) (take_at f xs i x e (omega arith)) ∙ ap (λ n. take n (f y ∷ map f xs)) n

-- use number i of them all
module _ (j : Numbered) (ks : Keys) (ss : List Shape) (root : Subject) (rs : List RuleUse) (i : ℕ) (qs : List Asked) (os : List Note) (l : IsLed j ks ss root (take i rs) (drop i rs) qs os) (u : RuleUse) (at : drop i rs ≡ u ∷ drop (i + 1) rs) where
  led_at : IsLed j ks ss root (take i rs) (u ∷ drop (i + 1) rs) qs os
  led_at = subst (λ vs. IsLed j ks ss root (take i rs) vs qs os) at l

  pub at_use : IsUse u
  at_use = led_is_use j ks ss root (take i rs) u (drop (i + 1) rs) qs os led_at

  pub at_state : (ts : List Subject) × IsWalkState j ss qs ts × (0 < length ts)
  at_state = (led_at.subjects, led_at.state, led_some j ks ss root (take i rs) u (drop (i + 1) rs) qs os led_at)

  pub at_misfit : i ≤ length rs → ((ts : List Subject) → IsWalkState j ss qs ts → Misfits u ts) → MisfitAt (root ∷ []) rs i
  at_misfit h m =
      let w = led_stuck j ks ss root (take i rs) u (drop (i + 1) rs) qs os led_at (m led_at.subjects led_at.state) in
      let n : length (take i rs) ≡ i = omega (arith, length-take i rs, h) in
      subst (λ n. MisfitAt (root ∷ []) rs n) n (subst (λ us. MisfitAt (root ∷ []) us (length (take i rs))) (ap (λ vs. take i rs ++ vs) (sym at) ∙ take-append-drop i rs) w)

  pub at_fit : (new : Numbered) (ls : Keys) (more : List Asked) (o : Note) (ps : List Note) → GrowsTo j.store ks new.store ls → ((ts : List Subject) → IsWalkState j ss qs ts → Steps new ls ss u more ts o) → take i rs ++ u ∷ [] ≡ take (i + 1) rs → ps ≡ os ++ o ∷ [] → IsLed new ls ss root (take (i + 1) rs) (drop (i + 1) rs) more ps
  at_fit new ls more o ps g f e q =
      subst (λ ps. IsLed new ls ss root (take (i + 1) rs) (drop (i + 1) rs) more ps) (sym q)
      (subst (λ us. IsLed new ls ss root us (drop (i + 1) rs) more (os ++ o ∷ [])) e (led_more j ks ss root (take i rs) u (drop (i + 1) rs) qs os led_at new ls more o g (f led_at.subjects led_at.state)))

-- all uses are held
pub led_all : (j : Numbered) (ks : Keys) (ss : List Shape) (root : Subject) (rs : List RuleUse) (i : ℕ) (qs : List Asked) (os : List Note) (l : IsLed j ks ss root (take i rs) (drop i rs) qs os) → length rs ≤ i → Trace (root ∷ []) rs l.changes × AreNoted j.store ks l.changes os
led_all j ks ss root rs i qs os l h = go (take i rs) (drop i rs) l.subjects (take_all i rs h) (drop_of_length-le rs h) l.led l.trees
  where
    go : (us vs : List RuleUse) (ts : List Subject) → us ≡ rs → vs ≡ [] → Led (root ∷ []) us l.changes ts → AreTrees (length ts) vs → Trace (root ∷ []) rs l.changes × AreNoted j.store ks l.changes os
    go us vs ts e q d t = (subst (λ us. Trace (root ∷ []) us l.changes) e (none us ts d (subst (λ vs. AreTrees (length ts) vs) q t)), l.noted)
      where
        none : (us : List RuleUse) (ts : List Subject) → Led (root ∷ []) us l.changes ts → AreTrees (length ts) [] → Trace (root ∷ []) us l.changes
        none us [] d t = led_trace d
        none us (t ∷ ts) d w = elim w [ ]
