-- A new node says a value that is new, and a node that is there says one that is there.
use Rattle.std.proofs.Common.{◌≡◌, ℕ, zero, suc, Bool, true, false, List, [], ◌∷◌, ◌++◌, Option, Some, None, slice_get, length, if◌then◌else◌, refl, sym, ap, subst, ◌∙◌, true≢false, ⊎_elim}
use Rattle.std.specs.List.{list_any}
use Rattle.std.proofs.lemmas.List.Sums.{fold-append}
use Rattle.spi_term.proofs.Lists.{some_is, get_append}
use Rattle.spi_term.proofs.Choices.{truths}
use Rattle.indexmap.specs.IndexSet.{insert_key}
use Rattle.spi_intern.specs.Table.{KeepsAll, AllDiffer, TellsAll, tells_none, tells_next, with_value, next_told, told_each, IsTable}
use Rattle.spi_intern.proofs.Lists.{any_at, any_from, get_push}

pub keeps_same : {M : Type 0} {ms ns : List M} → ms ≡ ns → KeepsAll ms ns
keeps_same e = record { at = λ i m at. ap (λ xs. slice_get xs i) (sym e) ∙ at }

pub keeps_more : {M : Type 0} {ls ms ns : List M} → KeepsAll ls ms → KeepsAll ms ns → KeepsAll ls ns
keeps_more k l = record { at = λ i m at. l.at i m (k.at i m at) }

pub keeps_append : {M : Type 0} (ms ns : List M) → KeepsAll ms (ms ++ ns)
keeps_append ms ns = record { at = λ i m at. get_append ms ns i m at }

pub keeps_with : {M : Type 0} (same : M → M → Bool) (ms : List M) (m : M) → KeepsAll ms (with_value same ms m)
keeps_with same ms m = by (list_any (same m) ms)
  where
    by : (b : Bool) → KeepsAll ms (if b then ms else ms ++ m ∷ [])
    by true = keeps_same refl
    by false = keeps_append ms (m ∷ [])

pub tells_push : {P M : Type 0} {S : P → M → Type 0} {ps : List P} {ns : List M} {p : P} {m : M} → TellsAll S ps ns → S p m → TellsAll S (ps ++ p ∷ []) (ns ++ m ∷ [])
tells_push tells_none s = tells_next s tells_none
tells_push (tells_next s t) u = tells_next s (tells_push t u)

pub tells_map : {P M : Type 0} {S T : P → M → Type 0} {ps : List P} {ns : List M} → ((p : P) (m : M) → S p m → T p m) → TellsAll S ps ns → TellsAll T ps ns
tells_map f tells_none = tells_none
tells_map f (tells_next {p = p} {m = m} s t) = tells_next (f p m s) (tells_map f t)

-- the value at the place of a node
pub tells_at : {P M : Type 0} {S : P → M → Type 0} {ps : List P} {ns : List M} → TellsAll S ps ns → (i : ℕ) (p : P) → slice_get ps i ≡ Some p → (m : M) × (slice_get ns i ≡ Some m) × S p m
tells_at tells_none i p e = absurd cc
tells_at {S = S} (tells_next {p = q} {m = m} s t) zero p e = (m, refl, subst (λ r. S r m) (some_is e) s)
tells_at (tells_next s t) (suc i) p e = tells_at t i p e

-- and the node at the place of a value
pub tells_back : {P M : Type 0} {S : P → M → Type 0} {ps : List P} {ns : List M} → TellsAll S ps ns → (i : ℕ) (m : M) → slice_get ns i ≡ Some m → (p : P) × (slice_get ps i ≡ Some p) × S p m
tells_back tells_none i m e = absurd cc
tells_back {S = S} (tells_next {p = p} {m = n} s t) zero m e = (p, refl, subst (λ r. S p r) (some_is e) s)
tells_back (tells_next s t) (suc i) m e = tells_back t i m e

pub tells_length : {P M : Type 0} {S : P → M → Type 0} {ps : List P} {ns : List M} → TellsAll S ps ns → length ps ≡ length ns
tells_length tells_none = refl
tells_length (tells_next s t) = ap suc (tells_length t)

-- what has to be known of the values and of the nodes
pub record Laws {P M : Type 0} (Says : List M → P → M → Type 0) (said : List M → P → M) (same : M → M → Bool) (eq : P → P → Bool) : Type 0 where
  pub same_true : (m n : M) → same m n ≡ true → m ≡ n
  pub same_self : (m : M) → same m m ≡ true
  pub kept : (ms ns : List M) (p : P) (m : M) → KeepsAll ms ns → Says ms p m → Says ns p m
  pub says_said : (ms : List M) (p : P) (m : M) → Says ms p m → said ms p ≡ m
  -- equal nodes say one value, and nodes that say one value are equal
  pub respects : (ms : List M) (p q : P) (m : M) → eq p q ≡ true → Says ms p m → Says ms q m
  pub alike : (ms : List M) (p q : P) (m : M) → AllDiffer ms → Says ms p m → Says ms q m → eq p q ≡ true

-- a node that is put: the nodes before and after, and the values before
pub record PutsNode {P M : Type 0} (Says : List M → P → M → Type 0) (said : List M → P → M) (eq : P → P → Bool) (ps qs : List P) (ms : List M) (p : P) : Type 0 where
  pub view : told_each said ps ≡ ms
  pub table : IsTable Says ps (told_each said ps)
  pub says : Says ms p (said ms p)
  pub keys : qs ≡ insert_key eq ps p

-- what is known then: the nodes after, and the values before
pub record IsPut {P M : Type 0} (Says : List M → P → M → Type 0) (said : List M → P → M) (same : M → M → Bool) (eq : P → P → Bool) (qs : List P) (ms : List M) (p : P) : Type 0 where
  pub grows : told_each said qs ≡ with_value same ms (said ms p)
  pub table : IsTable Says qs (told_each said qs)
  pub kept : KeepsAll ms (told_each said qs)
  pub at : (i : ℕ) → (q : P) × (slice_get qs i ≡ Some q) × (eq p q ≡ true) → slice_get (told_each said qs) i ≡ Some (said ms p)

module _ {P M : Type 0} (Says : List M → P → M → Type 0) (said : List M → P → M) (same : M → M → Bool) (eq : P → P → Bool) (laws : Laws Says said same eq) where
  distinct_push : (ms : List M) (m : M) → AllDiffer ms → list_any (same m) ms ≡ false → AllDiffer (ms ++ m ∷ [])
  distinct_push ms m d e = record { one = λ i j n a b. ⊎_elim (λ f. ⊎_elim (λ g. d.one i j n f g) (λ g. absurd (away i n f g.1)) (get_push ms m j n b)) (λ f. ⊎_elim (λ g. absurd (away j n g f.1)) (λ g. f.0 ∙ sym g.0) (get_push ms m j n b)) (get_push ms m i n a) }
    where
      away : (i : ℕ) (n : M) → slice_get ms i ≡ Some n → n ≡ m → ⊥
      away i n at h = true≢false (sym (any_from (same m) ms i n at (ap (same m) h ∙ laws.same_self m)) ∙ e)

  -- a node is there just where what it says is
  found : (ms : List M) (ps : List P) (p : P) (m : M) → TellsAll (Says ms) ps ms → AllDiffer ms → Says ms p m → list_any (eq p) ps ≡ list_any (same m) ms
  found ms ps p m t d s = truths _ _ there back
    where
      there : list_any (eq p) ps ≡ true → list_any (same m) ms ≡ true
      there h =
          let r = any_at (eq p) ps h in
          let w = tells_at t r.0 r.1 r.2 in
          let e : w.0 ≡ m = sym (laws.says_said _ _ _ w.2) ∙ laws.says_said _ _ _ (laws.respects _ _ _ _ r.3 s) in
          any_from (same m) ms r.0 w.0 w.1 (ap (same m) e ∙ laws.same_self m)

      back : list_any (same m) ms ≡ true → list_any (eq p) ps ≡ true
      back h =
          let r = any_at (same m) ms h in
          let w = tells_back t r.0 r.1 r.2 in
          any_from (eq p) ps r.0 w.0 w.1 (laws.alike _ _ _ _ d s (subst (λ n. Says ms w.0 n) (sym (laws.same_true _ _ r.3)) w.2))

  told_push : (ps : List P) (p : P) → told_each said (ps ++ p ∷ []) ≡ told_each said ps ++ said (told_each said ps) p ∷ []
  told_push ps p = fold-append (next_told said) [] ps (p ∷ [])

  told_insert : (ps : List P) (p : P) → IsTable Says ps (told_each said ps) → Says (told_each said ps) p (said (told_each said ps) p) → told_each said (insert_key eq ps p) ≡ with_value same (told_each said ps) (said (told_each said ps) p)
  told_insert ps p h s = by (list_any (eq p) ps) refl
    where
      by : (b : Bool) → list_any (eq p) ps ≡ b → told_each said (if list_any (eq p) ps then ps else ps ++ p ∷ []) ≡ (if list_any (same (said (told_each said ps) p)) (told_each said ps) then told_each said ps else told_each said ps ++ said (told_each said ps) p ∷ [])
      by true e =
          ap (λ b. told_each said (if b then ps else ps ++ p ∷ [])) e
          ∙ ap (λ b. if b then told_each said ps else told_each said ps ++ said (told_each said ps) p ∷ []) (sym e ∙ found _ _ _ _ h.tells h.distinct s)
      by false e =
          ap (λ b. told_each said (if b then ps else ps ++ p ∷ [])) e
          ∙ told_push ps p
          ∙ ap (λ b. if b then told_each said ps else told_each said ps ++ said (told_each said ps) p ∷ []) (sym e ∙ found _ _ _ _ h.tells h.distinct s)

  table_insert : (ps : List P) (p : P) → IsTable Says ps (told_each said ps) → Says (told_each said ps) p (said (told_each said ps) p) → IsTable Says (insert_key eq ps p) (told_each said (insert_key eq ps p))
  table_insert ps p h s = by (list_any (eq p) ps) refl
    where
      by : (b : Bool) → list_any (eq p) ps ≡ b → IsTable Says (if list_any (eq p) ps then ps else ps ++ p ∷ []) (told_each said (if list_any (eq p) ps then ps else ps ++ p ∷ []))
      by true e = subst (λ b. IsTable Says (if b then ps else ps ++ p ∷ []) (told_each said (if b then ps else ps ++ p ∷ []))) (sym e) h
      by false e =
          let k = keeps_append (told_each said ps) (said (told_each said ps) p ∷ []) in
          let d = distinct_push (told_each said ps) (said (told_each said ps) p) h.distinct (sym (found _ _ _ _ h.tells h.distinct s) ∙ e) in
          let w : IsTable Says (ps ++ p ∷ []) (told_each said ps ++ said (told_each said ps) p ∷ []) = record { tells = tells_push (tells_map (λ q m t. laws.kept _ _ q m k t) h.tells) (laws.kept _ _ _ _ k s); distinct = d } in
          subst (λ b. IsTable Says (if b then ps else ps ++ p ∷ []) (told_each said (if b then ps else ps ++ p ∷ []))) (sym e) (subst (IsTable Says (ps ++ p ∷ [])) (sym (told_push ps p)) w)

  says_here : (ps qs : List P) (ms : List M) (p : P) → PutsNode Says said eq ps qs ms p → Says (told_each said ps) p (said (told_each said ps) p)
  says_here ps qs ms p h = subst (λ xs. Says xs p (said xs p)) (sym h.view) h.says

  put_grows : (ps qs : List P) (ms : List M) (p : P) → PutsNode Says said eq ps qs ms p → told_each said qs ≡ with_value same ms (said ms p)
  put_grows ps qs ms p h =
      ap (told_each said) h.keys ∙ told_insert ps p h.table (says_here ps qs ms p h) ∙ ap (λ xs. with_value same xs (said xs p)) h.view

  put_table : (ps qs : List P) (ms : List M) (p : P) → PutsNode Says said eq ps qs ms p → IsTable Says qs (told_each said qs)
  put_table ps qs ms p h =
      subst (λ xs. IsTable Says xs (told_each said xs)) (sym h.keys) (table_insert ps p h.table (says_here ps qs ms p h))

  put_keeps : (ps qs : List P) (ms : List M) (p : P) → PutsNode Says said eq ps qs ms p → KeepsAll ms (told_each said qs)
  put_keeps ps qs ms p h = subst (KeepsAll ms) (sym (put_grows ps qs ms p h)) (keeps_with same ms (said ms p))

  put_at : (ps qs : List P) (ms : List M) (p : P) → PutsNode Says said eq ps qs ms p → (i : ℕ) (q : P) → slice_get qs i ≡ Some q → eq p q ≡ true → slice_get (told_each said qs) i ≡ Some (said ms p)
  put_at ps qs ms p h i q at e =
      let w = tells_at (put_table ps qs ms p h).tells i q at in
      let s : Says (told_each said qs) q (said ms p) = laws.respects _ p q _ e (laws.kept _ _ _ _ (put_keeps ps qs ms p h) h.says) in
      w.1 ∙ ap Some (sym (laws.says_said _ _ _ w.2) ∙ laws.says_said _ _ _ s)

  -- the node at the place of a value says it
  pub says_there : (ps : List P) (ms : List M) → told_each said ps ≡ ms → IsTable Says ps (told_each said ps) → (i : ℕ) (o : Option P) (n : M) → o ≡ slice_get ps i → slice_get ms i ≡ Some n → (p : P) × (o ≡ Some p) × Says ms p n
  says_there ps ms v h i o n e at =
      let w = tells_back h.tells i n (ap (λ xs. slice_get xs i) v ∙ at) in
      (w.0, e ∙ w.1, subst (λ xs. Says xs w.0 n) v w.2)

  pub says_some : (ps : List P) (ms : List M) → told_each said ps ≡ ms → IsTable Says ps (told_each said ps) → (i : ℕ) (q : P) (n : M) → Some q ≡ slice_get ps i → slice_get ms i ≡ Some n → Says ms q n
  says_some ps ms v h i q n e at =
      let w = says_there ps ms v h i (Some q) n e at in
      let f : w.0 ≡ q = some_is (sym w.1) in
      subst (λ p. Says ms p n) f w.2

  pub says_none : (ps : List P) (ms : List M) → told_each said ps ≡ ms → IsTable Says ps (told_each said ps) → (i : ℕ) (n : M) → None ≡ slice_get ps i → slice_get ms i ≡ Some n → ⊥
  says_none ps ms v h i n e at =
      let w = says_there ps ms v h i None n e at in
      let f : None ≡ Some w.0 = w.1 in
      cc

pub is_put : {P M : Type 0} {Says : List M → P → M → Type 0} {said : List M → P → M} {same : M → M → Bool} {eq : P → P → Bool} → Laws Says said same eq → (ps qs : List P) (ms : List M) (p : P) → PutsNode Says said eq ps qs ms p → IsPut Says said same eq qs ms p
is_put {Says = Says} {said = said} {same = same} {eq = eq} laws ps qs ms p h = record {
  grows = put_grows Says said same eq laws ps qs ms p h;
  table = put_table Says said same eq laws ps qs ms p h;
  kept = put_keeps Says said same eq laws ps qs ms p h;
  at = λ i s. put_at Says said same eq laws ps qs ms p h i s.0 s.1 s.2;
}

-- what stands in a place that was noted
pub is_noted : {P M : Type 0} {Says : List M → P → M → Type 0} {said : List M → P → M} {same : M → M → Bool} {eq : P → P → Bool} → Laws Says said same eq → (ps : List P) (ms : List M) (i : ℕ) (p q : P) → told_each said ps ≡ ms → IsTable Says ps (told_each said ps) → slice_get ps i ≡ Some q → q ≡ p → slice_get ms i ≡ Some (said ms p)
is_noted {Says = Says} {said = said} laws ps ms i p q v t at e =
    let w = tells_at t.tells i q at in
    let n : said (told_each said ps) p ≡ w.0 = laws.says_said _ p w.0 (subst (λ r. Says (told_each said ps) r w.0) e w.2) in
    subst (λ ns. slice_get ns i ≡ Some (said ns p)) v (w.1 ∙ ap Some (sym n))

-- nothing is added where it stands
pub is_there : {P M : Type 0} {Says : List M → P → M → Type 0} {said : List M → P → M} {same : M → M → Bool} {eq : P → P → Bool} → Laws Says said same eq → (ms : List M) (i : ℕ) (m : M) → slice_get ms i ≡ Some m → ms ≡ with_value same ms m
is_there {same = same} laws ms i m at = sym (ap (λ b. if b then ms else ms ++ m ∷ []) (any_from (same m) ms i m at (laws.same_self m)))
