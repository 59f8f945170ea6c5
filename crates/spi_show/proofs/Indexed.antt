-- The text of a process in which bound names are numbers is that of the process with indices.
use Rattle.std.proofs.Common.{◌≡◌, ℕ, suc, ◌+◌, ◌-◌, ◌<◌, ◌≤◌, List, [], ◌∷◌, ◌++◌, refl, ap, ◌∙◌, subst, arith, ⊎_elim}
use Rattle.std.specs.Prelude.{codes, if◌then◌else◌}
use Rattle.std.proofs.lemmas.Bool.{cases_lt}
use Rattle.spi_term.specs.Term.{Message, bound, name, unit, pair, in_left, in_right, enc, hash, Atom, ends, checks, many, Effect, Ty, un, unit_ty, pair_ty, sum_ty, key, nonce, Leaf, Sends, Stops, Prefix, Recvs, Serves, Splits, Selects, Decrypts, Checks, Begins, Ends, EndManys, Casts, Freshes, Branches, Pars, Process, leaf, prefix, fork, binds}
use Rattle.spi_term.specs.Substitution.{atom_map, effect_map, ty_map, leaf_map, prefix_map}
use Rattle.spi_term.specs.Names.{MessageOver, OfAtom, OfEffect, OfTy, OfLeaf, OfPrefix, OfProcess, ProcessOver}
use Rattle.spi_term.specs.Spelling.{under, name_message, numbered}
use Rattle.spi_term.proofs.Numbers.{downto, name_outer, name_inner, under_more}
use Rattle.spi_term.proofs.Terms.{binds_map}
use Rattle.spi_show.specs.Terms.{message_text, tuple_text, atom_text, more_text, effect_text, typed_text, type_text, tuple_type_text}
use Rattle.spi_show.specs.Processes.{leaf_text, prefix_text, left_text, right_text, Standing, alone, sequel, is_output, process_text}

module _ (spell : ℕ → List ℕ) (k n s : ℕ) (e : s ≡ k + n) where
  abbrev number : ℕ → Message → Message
  number = name_message (downto k n)

  abbrev Same : ℕ → Message → Message → Type 0
  Same c m l = (message_text spell c m ≡ message_text spell c l) × (tuple_text spell c m ≡ tuple_text spell c l)

  same_bound : (d c b i : ℕ) → c ≡ s + d → b ≡ d + n → i < b → Same c (number d (bound i)) (bound i)
  same_bound d c b i g h l = ⊎_elim inner outer (cases_lt i d)
    where
      inner : i < d → Same c (number d (bound i)) (bound i)
      inner j =
          let w = name_inner (downto k n) d i j in
          (ap (message_text spell c) w, ap (tuple_text spell c) w)

      outer : d ≤ i → Same c (number d (bound i)) (bound i)
      outer j =
          let w = name_outer k n d i j (omega arith) in
          let z : k + (n - suc (i - d)) ≡ c - suc i = omega arith in
          (ap (message_text spell c) w ∙ ap spell z, ap (tuple_text spell c) w ∙ ap spell z)

  -- d names are bound in a type
  same_message : (d c b : ℕ) → c ≡ s + d → b ≡ d + n → (m : Message) → MessageOver k b m → Same c (number d m) m
  same_message d c b g h (bound i) o = same_bound d c b i g h o
  same_message d c b g h (name x) o = (refl, refl)
  same_message d c b g h unit o = (refl, refl)
  same_message d c b g h (pair a m) o =
      let x = same_message d c b g h a o.0 in
      let y = same_message d c b g h m o.1 in
      (λ i. codes "(" ++ (x.0 i ++ (codes ", " ++ (y.1 i ++ codes ")"))), λ i. x.0 i ++ (codes ", " ++ y.1 i))
  same_message d c b g h (in_left a) o = let x = same_message d c b g h a o in (λ i. codes "inl " ++ x.0 i, λ i. codes "inl " ++ x.0 i)
  same_message d c b g h (in_right a) o = let x = same_message d c b g h a o in (λ i. codes "inr " ++ x.0 i, λ i. codes "inr " ++ x.0 i)
  same_message d c b g h (enc a m) o =
      let x = same_message d c b g h a o.0 in
      let y = same_message d c b g h m o.1 in
      (λ i. codes "{" ++ (x.0 i ++ (codes "}" ++ y.0 i)), λ i. codes "{" ++ (x.0 i ++ (codes "}" ++ y.0 i)))
  same_message d c b g h (hash a) o =
      let x = same_message d c b g h a o in
      (λ i. codes "hash(" ++ (x.0 i ++ codes ")"), λ i. codes "hash(" ++ (x.0 i ++ codes ")"))

  same_atom : (d c b : ℕ) → c ≡ s + d → b ≡ d + n → (a : Atom) → OfAtom (MessageOver k b) a → atom_text spell c (atom_map (number d) a) ≡ atom_text spell c a
  same_atom d c b g h (ends m) o = ap (λ l. codes "end " ++ l) (same_message d c b g h m o).0
  same_atom d c b g h (checks m) o = ap (λ l. codes "check " ++ l) (same_message d c b g h m o).0
  same_atom d c b g h (many m) o = ap (λ l. codes "many " ++ l) (same_message d c b g h m o).0

  same_more : (d c b : ℕ) → c ≡ s + d → b ≡ d + n → (es : Effect) → OfEffect (MessageOver k b) es → more_text spell c (effect_map (number d) es) ≡ more_text spell c es
  same_more d c b g h [] o = refl
  same_more d c b g h (a ∷ es) o =
      let x = same_atom d c b g h a o.0 in
      let y = same_more d c b g h es o.1 in
      λ i. codes ", " ++ (x i ++ y i)

  same_effect : (d c b : ℕ) → c ≡ s + d → b ≡ d + n → (es : Effect) → OfEffect (MessageOver k b) es → effect_text spell c (effect_map (number d) es) ≡ effect_text spell c es
  same_effect d c b g h [] o = refl
  same_effect d c b g h (a ∷ es) o =
      let x = same_atom d c b g h a o.0 in
      let y = same_more d c b g h es o.1 in
      λ i. codes "[" ++ (x i ++ (y i ++ codes "]"))

  abbrev SameType : ℕ → Ty → Ty → Type 0
  SameType c t u = (type_text spell c t ≡ type_text spell c u) × (tuple_type_text spell c t ≡ tuple_type_text spell c u)

  same_type : (d c b : ℕ) → c ≡ s + d → b ≡ d + n → (t : Ty) → OfTy (MessageOver k) b t → SameType c (ty_map number d t) t
  same_type d c b g h un o = (refl, refl)
  same_type d c b g h unit_ty o = (refl, refl)
  same_type d c b g h (pair_ty t u) o =
      let x = same_type d c b g h t o.0 in
      let y = same_type (suc d) (suc c) (suc b) (omega arith) (omega arith) u o.1 in
      (λ i. codes "(" ++ (typed_text spell c (x.0 i) ++ (codes ", " ++ (y.1 i ++ codes ")"))), λ i. typed_text spell c (x.0 i) ++ (codes ", " ++ y.1 i))
  same_type d c b g h (sum_ty t u) o =
      let x = same_type d c b g h t o.0 in
      let y = same_type d c b g h u o.1 in
      (λ i. codes "(" ++ (x.0 i ++ (codes " + " ++ (y.0 i ++ codes ")"))), λ i. codes "(" ++ (x.0 i ++ (codes " + " ++ (y.0 i ++ codes ")"))))
  same_type d c b g h (key t) o =
      let x = same_type d c b g h t o in
      (λ i. codes "Key(" ++ (x.0 i ++ codes ")"), λ i. codes "Key(" ++ (x.0 i ++ codes ")"))
  same_type d c b g h (nonce es) o =
      let x = same_effect d c b g h es o in
      (λ i. codes "Nonce " ++ x i, λ i. codes "Nonce " ++ x i)

  -- at a node
  own : s ≡ s + 0
  own = omega arith

  said : (m : Message) → MessageOver k n m → message_text spell s (number 0 m) ≡ message_text spell s m
  said m o = (same_message 0 s n own (omega arith) m o).0

  typed : (t : Ty) → OfTy (MessageOver k) n t → type_text spell s (ty_map number 0 t) ≡ type_text spell s t
  typed t o = (same_type 0 s n own (omega arith) t o).0

  typed_under : (t : Ty) → OfTy (MessageOver k) (suc n) t → type_text spell (suc s) (ty_map number 1 t) ≡ type_text spell (suc s) t
  typed_under t o = (same_type 1 (suc s) (suc n) (omega arith) (omega arith) t o).0

  same_leaf : (l : Leaf) → OfLeaf (MessageOver k) n l → leaf_text spell s (leaf_map number 0 l) ≡ leaf_text spell s l
  same_leaf (Sends a b) o =
      let x = said a o.0 in
      let y = said b o.1 in
      λ i. codes "out " ++ (x i ++ (codes " " ++ y i))
  same_leaf Stops o = refl

  same_prefix : (p : Prefix) → OfPrefix (MessageOver k) n p → prefix_text spell s (prefix_map number 0 p) ≡ prefix_text spell s p
  same_prefix (Recvs m t) o =
      let x = said m o.0 in
      let y = typed t o.1 in
      λ i. codes "inp " ++ (x i ++ (codes " (" ++ (typed_text spell s (y i) ++ codes "); ")))
  same_prefix (Serves m t) o =
      let x = said m o.0 in
      let y = typed t o.1 in
      λ i. codes "repeat inp " ++ (x i ++ (codes " (" ++ (typed_text spell s (y i) ++ codes "); ")))
  same_prefix (Splits m t u) o =
      let x = said m o.0 in
      let y = typed t o.1 in
      let z = typed_under u o.2 in
      λ i. codes "split " ++ (x i ++ (codes " is (" ++ (typed_text spell s (y i) ++ (codes ", " ++ (typed_text spell (suc s) (z i) ++ codes "); ")))))
  same_prefix (Selects m t l u) o =
      let x = said m o.0 in
      let y = typed t o.1 in
      let w = said l o.2 in
      let z = typed_under u o.3 in
      λ i. codes "match " ++ (x i ++ (codes " is (" ++ (typed_text spell s (y i) ++ (codes " = " ++ (w i ++ (codes ", " ++ (typed_text spell s (z i) ++ codes "); ")))))))
  same_prefix (Decrypts m t l) o =
      let x = said m o.0 in
      let y = typed t o.1 in
      let w = said l o.2 in
      λ i. codes "decrypt " ++ (x i ++ (codes " is {" ++ (typed_text spell s (y i) ++ (codes "}" ++ (w i ++ codes "; ")))))
  same_prefix (Checks m l) o =
      let x = said m o.0 in
      let y = said l o.1 in
      λ i. codes "check " ++ (x i ++ (codes " is " ++ (y i ++ codes "; ")))
  same_prefix (Begins m) o = ap (λ l. codes "begin " ++ (l ++ codes "; ")) (said m o)
  same_prefix (Ends m) o = ap (λ l. codes "end " ++ (l ++ codes "; ")) (said m o)
  same_prefix (EndManys m) o = ap (λ l. codes "endmany " ++ (l ++ codes "; ")) (said m o)
  same_prefix (Casts m t) o =
      let x = said m o.0 in
      let y = typed t o.1 in
      λ i. codes "cast " ++ (x i ++ (codes " is (" ++ (typed_text spell s (y i) ++ codes "); ")))
  same_prefix (Freshes t) o = ap (λ l. codes "new (" ++ (typed_text spell s l ++ codes "); ")) (typed t o)

same_output : (names : List ℕ) (k : ℕ) (p : Process) → is_output (numbered names k p) ≡ is_output p
same_output names k (leaf (Sends a b)) = refl
same_output names k (leaf Stops) = refl
same_output names k (prefix s p) = refl
same_output names k (fork f p q) = refl

-- n names are bound above the process
same_process : (spell : ℕ → List ℕ) (k n s : ℕ) → s ≡ k + n → (p : Process) → OfProcess (MessageOver k) n p → (at : Standing) → process_text spell at s (numbered (downto k n) s p) ≡ process_text spell at s p
same_process spell k n s e (leaf l) h at = same_leaf spell k n s e l h
same_process spell k n s e (prefix t p) h at =
    let m = binds t in
    let x = same_prefix spell k n s e t h.0 in
    let a = ap (λ b. process_text spell sequel (s + b) (numbered (under m s (downto k n)) (s + m) p)) (binds_map (name_message (downto k n)) 0 t) in
    let b = ap (λ l. process_text spell sequel (s + m) (numbered l (s + m) p)) (under_more k n s m e) in
    let y = a ∙ b ∙ same_process spell k (n + m) (s + m) (omega arith) p h.1 sequel in
    λ i. x i ++ y i
same_process spell k n s e (fork (Branches m t u) p q) h at =
    let x = said spell k n s e m h.0.0 in
    let y = typed spell k n s e t h.0.1 in
    let z = typed spell k n s e u h.0.2 in
    let v = ap (λ l. process_text spell sequel (s + 1) (numbered l (s + 1) p)) (under_more k n s 1 e) ∙ same_process spell k (n + 1) (s + 1) (omega arith) p h.1 sequel in
    let w = ap (λ l. process_text spell sequel (s + 1) (numbered l (s + 1) q)) (under_more k n s 1 e) ∙ same_process spell k (n + 1) (s + 1) (omega arith) q h.2 sequel in
    λ i. left_text spell s (x i) (y i) ++ (v i ++ (right_text spell s (z i) ++ w i))
same_process spell k n s e (fork Pars p q) h alone =
    let a : s + 0 ≡ s = omega arith in
    let b : n + 0 ≡ n = omega arith in
    let v = ap (λ z. process_text spell sequel s (numbered (downto k n) z p)) a ∙ same_process spell k n s e p (subst (λ z. OfProcess (MessageOver k) z p) b h.1) sequel in
    let w = ap (λ z. process_text spell alone s (numbered (downto k n) z q)) a ∙ same_process spell k n s e q (subst (λ z. OfProcess (MessageOver k) z q) b h.2) alone in
    λ i. v i ++ (codes " | " ++ w i)
same_process spell k n s e (fork Pars p q) h sequel =
    let a : s + 0 ≡ s = omega arith in
    let b : n + 0 ≡ n = omega arith in
    let g = subst (λ z. OfProcess (MessageOver k) z p) b h.1 in
    let f = subst (λ z. OfProcess (MessageOver k) z q) b h.2 in
    let o = same_output (downto k n) (s + 0) p in
    let v = ap (λ z. process_text spell sequel s (numbered (downto k n) z p)) a ∙ same_process spell k n s e p g sequel in
    let w = ap (λ z. process_text spell sequel s (numbered (downto k n) z q)) a ∙ same_process spell k n s e q f sequel in
    let u = ap (λ z. process_text spell alone s (numbered (downto k n) z q)) a ∙ same_process spell k n s e q f alone in
    λ i. if o i then v i ++ (codes "; " ++ w i) else codes "(" ++ (v i ++ (codes " | " ++ (u i ++ codes ")")))

pub text_numbered : (spell : ℕ → List ℕ) (k : ℕ) (p : Process) → ProcessOver k p → process_text spell alone k (numbered [] k p) ≡ process_text spell alone k p
text_numbered spell k p h = same_process spell k 0 k (omega arith) p h alone
