-- The table of names after a name comes into scope or goes out of it.
use Rattle.std.proofs.Common.{◌≡◌, ℕ, zero, suc, drop, ◌-◌, ◌+◌, ◌^◌, ◌<◌, List, [], ◌∷◌, ◌++◌, length, reverse, Bool, true, false, cond, refl, sym, ap, ◌∙◌, subst, arith}
use Rattle.std.specs.Prelude.{Option, Some, None, slice_get, IfSome, Result, Ok, Err, OnOk, OnErr}
use Rattle.std.specs.declared.alloc.AllocError.{AllocError}
use Rattle.spi_scope.specs.Chains.{chain_at, found_names}
use Rattle.std.specs.Str.{bytes_eq}
use Rattle.std.proofs.lemmas.List.{reverse-append, reverse-reverse, length-reverse, length-map, length-append}
use Rattle.std.proofs.lemmas.Slice.Eq.{bytes_eq-Decides}
use Rattle.std.proofs.lemmas.Option.{slice_get_within, none-some}
use Rattle.std.specs.Option.{option_flatten}
use Rattle.std.specs.List.{position_or_len}
use Rattle.std.specs.Map.{keys_of}
use Rattle.std.specs.Cmp.Lexicographic.{nat_list_eq_equiv}
use Rattle.indexmap.specs.IndexMap.{IndexMap, get, Updates, IsUnique, insert_entry, insert_index, index_map_len, with_value_at}
use Rattle.indexmap.proofs.CallerLemmas.{keys-with_value_at, updates-with_value_at}
use Rattle.spi_term.proofs.Lists.{get_append, some_is}
use Rattle.spi_scope.specs.Scope.{Word, Names, number_of, outer_names}
use Rattle.spi_scope.specs.declared.names.Held.{Held}
use Rattle.spi_scope.specs.Table.{spellings, slots, Hide, HaveSlots, KeepsTable, Begin, top, IsPushed, IsPopped}

pub reverse_push : (es : List Held) (e : Held) → reverse (es ++ e ∷ []) ≡ e ∷ reverse es
reverse_push es e = reverse-append es (e ∷ [])

pub many_names : (es : List Held) → length (spellings (reverse es)) ≡ length es
many_names es = length-map (reverse es) (λ e. e.word.now) ∙ length-reverse es

abbrev pub Table : Type 0 → Type 0
Table S = IndexMap Word (Option ℕ) S

abbrev pub TableChanges : {S : Type 0} → Table S → Table S → Word → Option ℕ → Type 0
TableChanges m n x v = Updates bytes_eq m n x (Some v)

flat_cond : (b : Bool) (v : Option ℕ) (o : Option (Option ℕ)) → option_flatten (cond b (Some v) o) ≡ cond b v (option_flatten o)
flat_cond true v o = refl
flat_cond false v o = refl

changed : {S : Type 0} (m n : Table S) (x : Word) (v : Option ℕ) → TableChanges m n x v → (w : Word) → option_flatten (get bytes_eq n w) ≡ cond (bytes_eq x w) v (option_flatten (get bytes_eq m w))
changed m n x v u w = ap option_flatten (u.0 w) ∙ flat_cond (bytes_eq x w) v _

abbrev Entries : Type 0
Entries = List (Word × Option ℕ)

abbrev words : Entries → Names
words es = keys_of es

-- a spelling keeps its slot when another is put into the table
slot_stays : (es : Entries) (k : Word) (v : Option ℕ) (i : ℕ) (w : Word) → slice_get (words es) i ≡ Some w → slice_get (words (insert_entry bytes_eq es k v)) i ≡ Some w
slot_stays [] k v i w h = absurd (none-some w h)
slot_stays (e ∷ es) k v zero w h = by (bytes_eq k e.0)
  where
    by : (b : Bool) → slice_get (words (cond b ((e.0, v) ∷ es) (e ∷ insert_entry bytes_eq es k v))) zero ≡ Some w
    by true = h
    by false = h
slot_stays (e ∷ es) k v (suc i) w h = by (bytes_eq k e.0) (slot_stays es k v i w h)
  where
    by : (b : Bool) → slice_get (words (insert_entry bytes_eq es k v)) i ≡ Some w → slice_get (words (cond b ((e.0, v) ∷ es) (e ∷ insert_entry bytes_eq es k v))) (suc i) ≡ Some w
    by true there = h
    by false there = there

-- and that which is put there has its slot
slot_made : (es : Entries) (k : Word) (v : Option ℕ) → slice_get (words (insert_entry bytes_eq es k v)) (position_or_len (bytes_eq k) (keys_of es)) ≡ Some k
slot_made [] k v = refl
slot_made (e ∷ es) k v = by (bytes_eq k e.0) refl (slot_made es k v)
  where
    next : 1 + position_or_len (bytes_eq k) (keys_of es) ≡ suc (position_or_len (bytes_eq k) (keys_of es))
    next = omega arith

    by : (b : Bool) → bytes_eq k e.0 ≡ b → slice_get (words (insert_entry bytes_eq es k v)) (position_or_len (bytes_eq k) (keys_of es)) ≡ Some k
        → slice_get (words (insert_entry bytes_eq (e ∷ es) k v)) (position_or_len (bytes_eq k) (keys_of (e ∷ es))) ≡ Some k
    by true q there = rw q (ap Some (sym ((bytes_eq-Decides k e.0).0 q)))
    by false q there = rw q (ap (slice_get (e.0 ∷ words (insert_entry bytes_eq es k v))) next ∙ there)

slots_stay : (old : Entries) (k : Word) (v : Option ℕ) (es : List Held) → HaveSlots (words old) es → HaveSlots (words (insert_entry bytes_eq old k v)) es
slots_stay old k v [] h = tt
slots_stay old k v (e ∷ es) h = (slot_stays old k v e.slot e.word.now h.0, slots_stay old k v es h.1)

-- the entry with a spelling's slot
stored_at : (es : Entries) (i : ℕ) (w : Word) → slice_get (words es) i ≡ Some w → (e : Word × Option ℕ) × (slice_get es i ≡ Some e) × (e.0 ≡ w)
stored_at [] i w h = absurd (none-some w h)
stored_at (e ∷ es) zero w h = (e, refl, some_is h)
stored_at (e ∷ es) (suc i) w h = stored_at es i w h

entered_word : {S : Type 0} (m n : Table S) (es : List Held) (e : Held) (number : ℕ) → KeepsTable m es → TableChanges m n e.word.now (Some number) → n.entries ≡ insert_entry bytes_eq m.entries e.word.now (Some number) → e.slot ≡ insert_index bytes_eq m e.word.now → e.before ≡ number_of (spellings (reverse es)) e.word.now → number ≡ length es → length es + 1 < 2 ^ 32 → KeepsTable n (es ++ e ∷ [])
entered_word m n es e number k u i s h p few = record {
  finds = λ w.
      changed m n e.word.now (Some number) u w
      ∙ ap (λ a. cond (bytes_eq e.word.now w) (Some number) a) (k.finds w)
      ∙ ap (λ a. cond (bytes_eq e.word.now w) (Some a) (number_of (spellings (reverse es)) w)) (p ∙ sym (many_names es))
      ∙ ap (λ r. number_of (spellings r) w) (sym (reverse_push es e));
  hide = subst Hide (sym (reverse_push es e)) (h, k.hide);
  have_slots = subst (HaveSlots (slots n)) (sym (reverse_push es e))
      (subst (λ (l : Entries). HaveSlots (words l) (e ∷ reverse es)) (sym i)
      (ap (slice_get (words (insert_entry bytes_eq m.entries e.word.now (Some number)))) s ∙ slot_made m.entries e.word.now (Some number), slots_stay m.entries e.word.now (Some number) (reverse es) k.have_slots));
  few = omega (arith, length-append es (e ∷ []));
}

-- the same where the key is known to be the name's spelling
pub entered : {S : Type 0} (m n : Table S) (es : List Held) (e : Held) (number : ℕ) (w : Word) → w ≡ e.word.now → KeepsTable m es → TableChanges m n w (Some number) → n.entries ≡ insert_entry bytes_eq m.entries w (Some number) → e.slot ≡ insert_index bytes_eq m w → e.before ≡ number_of (spellings (reverse es)) w → number ≡ length es → length es + 1 < 2 ^ 32 → KeepsTable n (es ++ e ∷ [])
entered m n es e number w is k u i s h p few =
    let all = subst (λ (w : Word). TableChanges m n w (Some number) × (n.entries ≡ insert_entry bytes_eq m.entries w (Some number)) × (e.slot ≡ insert_index bytes_eq m w) × (e.before ≡ number_of (spellings (reverse es)) w)) is (u, i, s, h) in
    entered_word m n es e number k all.0 all.1 all.2 all.3 p few

key_at : (es : Entries) (i : ℕ) (e : Word × Option ℕ) → slice_get es i ≡ Some e → slice_get (words es) i ≡ Some e.0
key_at [] i e h = absurd (none-some e h)
key_at (d ∷ es) zero e h = ap (λ (x : Word × Option ℕ). Some x.0) (some_is h)
key_at (d ∷ es) (suc i) e h = key_at es i e h

-- the same where the slot is known, with what stands there
pub entered_at : {S : Type 0} (m : Table S) (es : List Held) (e : Held) (number : ℕ) → KeepsTable m es → IsUnique bytes_eq m → slice_get m.entries e.slot ≡ Some (e.word.now, e.before) → get bytes_eq m e.word.now ≡ Some e.before → number ≡ length es → length es + 1 < 2 ^ 32 → KeepsTable (with_value_at m e.slot (Some number)) (es ++ e ∷ [])
entered_at m es e number k unique at found p few = record {
  finds = λ w.
      changed m (with_value_at m e.slot (Some number)) e.word.now (Some number) (updates-with_value_at m e.slot (Some number) nat_list_eq_equiv unique e.word.now e.before at) w
      ∙ ap (λ a. cond (bytes_eq e.word.now w) (Some number) a) (k.finds w)
      ∙ ap (λ a. cond (bytes_eq e.word.now w) (Some a) (number_of (spellings (reverse es)) w)) (p ∙ sym (many_names es))
      ∙ ap (λ r. number_of (spellings r) w) (sym (reverse_push es e));
  hide = subst Hide (sym (reverse_push es e)) (sym (ap option_flatten found) ∙ k.finds e.word.now, k.hide);
  have_slots = subst (HaveSlots (slots (with_value_at m e.slot (Some number)))) (sym (reverse_push es e))
      (subst (λ (l : Names). HaveSlots l (e ∷ reverse es)) (sym (keys-with_value_at m e.slot (Some number))) (key_at m.entries e.slot (e.word.now, e.before) at, k.have_slots));
  few = omega (arith, length-append es (e ∷ []));
}

hidden_is : {S : Type 0} (m : Table S) (es : List Held) (e : Held) → KeepsTable m (es ++ e ∷ []) → e.before ≡ number_of (spellings (reverse es)) e.word.now
hidden_is m es e k = (subst Hide (reverse_push es e) k.hide).0

its_slot : {S : Type 0} (m : Table S) (es : List Held) (e : Held) → KeepsTable m (es ++ e ∷ []) → slice_get (slots m) e.slot ≡ Some e.word.now
its_slot m es e k = (subst (HaveSlots (slots m)) (reverse_push es e) k.have_slots).0

pub slot_within : {S : Type 0} (m : Table S) (es : List Held) (e : Held) → KeepsTable m (es ++ e ∷ []) → e.slot < index_map_len m
slot_within m es e k = let a = stored_at m.entries e.slot e.word.now (its_slot m es e k) in slice_get_within m.entries e.slot a.0 a.1

written : {S : Type 0} (m : Table S) (es : List Held) (e : Held) → IsUnique bytes_eq m → KeepsTable m (es ++ e ∷ []) → TableChanges m (with_value_at m e.slot e.before) e.word.now e.before
written m es e unique k =
    let a = stored_at m.entries e.slot e.word.now (its_slot m es e k) in
    subst (λ (w : Word). TableChanges m (with_value_at m e.slot e.before) w e.before) a.2 (updates-with_value_at m e.slot e.before nat_list_eq_equiv unique a.0.0 a.0.1 a.1)

pub left : {S : Type 0} (m : Table S) (es : List Held) (e : Held) → IsUnique bytes_eq m → KeepsTable m (es ++ e ∷ []) → KeepsTable (with_value_at m e.slot e.before) es
left m es e unique k = record {
  finds = λ w. changed m (with_value_at m e.slot e.before) e.word.now e.before (written m es e unique k) w ∙ ap (λ a. cond (bytes_eq e.word.now w) e.before a) (before w) ∙ shown w (bytes_eq e.word.now w) refl;
  hide = (subst Hide (reverse_push es e) k.hide).1;
  have_slots = subst (λ (l : Names). HaveSlots l (reverse es)) (sym (keys-with_value_at m e.slot e.before)) (subst (HaveSlots (slots m)) (reverse_push es e) k.have_slots).1;
  few = omega (arith, k.few, length-append es (e ∷ []));
}
  where
    before : (w : Word) → option_flatten (get bytes_eq m w) ≡ cond (bytes_eq e.word.now w) (Some (length (spellings (reverse es)))) (number_of (spellings (reverse es)) w)
    before w = k.finds w ∙ ap (λ r. number_of (spellings r) w) (reverse_push es e)

    shown : (w : Word) (b : Bool) → bytes_eq e.word.now w ≡ b → cond (bytes_eq e.word.now w) e.before (cond (bytes_eq e.word.now w) (Some (length (spellings (reverse es)))) (number_of (spellings (reverse es)) w)) ≡ number_of (spellings (reverse es)) w
    shown w true q =
        let same : e.word.now ≡ w = (bytes_eq-Decides e.word.now w).0 q in
        rw q (hidden_is m es e k ∙ ap (number_of (spellings (reverse es))) same)
    shown w false q = rw q refl

pub number_below : (xs : Names) (w : Word) → IfSome (number_of xs w) (λ n. n < length xs)
number_below [] w = tt
number_below (x ∷ xs) w = by (bytes_eq x w) (number_of xs w) (number_below xs w)
  where
    by : (b : Bool) (o : Option ℕ) → IfSome o (λ n. n < length xs) → IfSome (cond b (Some (length xs)) o) (λ n. n < length (x ∷ xs))
    by true o h = omega arith
    by false None h = tt
    by false (Some n) h = omega arith

-- what was put at the end, and what was taken away
pub pushed_names : (old new : List Held) (w : Word) (chain : ℕ) → IsPushed old new w chain → spellings (reverse new) ≡ w ∷ spellings (reverse old)
pushed_names old new w chain p =
    ap (λ l. spellings (reverse l)) p.is ∙ ap spellings (reverse_push old p.held) ∙ ap (λ x. x ∷ spellings (reverse old)) p.word

pub popped_names : (old new : List Held) → IsPopped old new → spellings (reverse new) ≡ outer_names (spellings (reverse old))
popped_names old new p = sym (ap (λ l. outer_names (spellings (reverse l))) p.is ∙ ap (λ l. outer_names (spellings l)) (reverse_push new p.held))

pub get_last : {A : Type 0} (xs : List A) (x : A) (i : ℕ) → i ≡ length xs → slice_get (xs ++ x ∷ []) i ≡ Some x
get_last [] x i e = ap (slice_get (x ∷ [])) e
get_last (y ∷ xs) x i e = ap (slice_get ((y ∷ xs) ++ x ∷ [])) e ∙ get_last xs x (length xs) refl

pub begin_more : (cs ds : List Names) (es : List Held) → Begin cs es → Begin (cs ++ ds) es
begin_more cs ds [] h = get_append cs ds 0 [] h
begin_more cs ds (e ∷ es) h = (get_append cs ds e.chain (spellings (e ∷ es)) h.0, begin_more cs ds es h.1)

-- the chain of all names
pub top_is : (cs : List Names) (es : List Held) → Begin cs es → slice_get cs (top es) ≡ Some (spellings es)
top_is cs [] h = h
top_is cs (e ∷ es) h = h.0

pub begin_pushed : (cs : List Names) (old new : List Held) (w : Word) (chain : ℕ) → Begin cs (reverse old) → IsPushed old new w chain → chain ≡ length cs → Begin (cs ++ (w ∷ spellings (reverse old)) ∷ []) (reverse new)
begin_pushed cs old new w chain b p e =
    let xs = spellings (reverse old) in
    let g : slice_get (cs ++ (w ∷ xs) ∷ []) p.held.chain ≡ Some (p.held.word.now ∷ xs) =
    get_last cs (w ∷ xs) p.held.chain (p.its_chain ∙ e) ∙ ap (λ x. Some (x ∷ xs)) (sym p.word) in
    subst (Begin (cs ++ (w ∷ xs) ∷ [])) (sym (ap reverse p.is ∙ reverse_push old p.held)) (g, begin_more cs ((w ∷ xs) ∷ []) (reverse old) b)

pub begin_popped : (cs : List Names) (old new : List Held) → Begin cs (reverse old) → IsPopped old new → Begin cs (reverse new)
begin_popped cs old new b p = (subst (Begin cs) (ap reverse p.is ∙ reverse_push new p.held) b).1

pub cut_more : (xs : Names) (n : ℕ) → n < length xs → drop (length (outer_names xs) - n) (outer_names xs) ≡ drop (length xs - n) xs
cut_more [] n h = absurd (omega arith)
cut_more (x ∷ xs) n h =
    let e : suc (length xs - n) ≡ length (x ∷ xs) - n = omega arith in
    ap (λ m. drop m (x ∷ xs)) e

pub begin_bound : {X : Type 0} (cs ds : List Names) (old new : List Held) (w : Word) (chain outer : ℕ) (r : Result X AllocError) → Begin cs (reverse old) → outer ≡ top (reverse old) → ds ≡ cs ++ (w ∷ chain_at cs outer) ∷ [] → chain ≡ length cs → OnOk r (IsPushed old new w chain) → OnErr r (new ≡ old) → Begin ds (reverse new)
begin_bound {X} cs ds old new w chain outer r b eo ed ec ok err =
    let xs = spellings (reverse old) in
    let x : chain_at cs outer ≡ xs = ap (chain_at cs) eo ∙ ap found_names (top_is cs (reverse old) b) in
    let d : ds ≡ cs ++ (w ∷ xs) ∷ [] = ed ∙ ap (λ l. cs ++ (w ∷ l) ∷ []) x in
    subst (λ l. Begin l (reverse new)) (sym d) (by r ok err)
  where
    by : (r : Result X AllocError) → OnOk r (IsPushed old new w chain) → OnErr r (new ≡ old) → Begin (cs ++ (w ∷ spellings (reverse old)) ∷ []) (reverse new)
    by (Ok u) ok err = begin_pushed cs old new w chain b ok ec
    by (Err e) ok err = subst (λ l. Begin (cs ++ (w ∷ spellings (reverse old)) ∷ []) (reverse l)) (sym err) (begin_more cs ((w ∷ spellings (reverse old)) ∷ []) (reverse old) b)

pub top_within : (cs : List Names) (es : List Held) → Begin cs es → top es < length cs
top_within cs es b = slice_get_within cs (top es) (spellings es) (top_is cs es b)

spellings_push : (es : List Held) (e : Held) → spellings (es ++ e ∷ []) ≡ spellings es ++ e.word.now ∷ []
spellings_push [] e = refl
spellings_push (d ∷ es) e = ap (λ l. d.word.now ∷ l) (spellings_push es e)

reverse_spellings : (es : List Held) → reverse (spellings es) ≡ spellings (reverse es)
reverse_spellings [] = refl
reverse_spellings (e ∷ es) =
    reverse-append (e.word.now ∷ []) (spellings es) ∙ ap (λ l. l ++ e.word.now ∷ []) (reverse_spellings es) ∙ sym (spellings_push (reverse es) e)
    ∙ ap spellings (sym (reverse-append (e ∷ []) es))

pub reverse_twice : (es : List Held) → reverse (spellings (reverse es)) ≡ spellings es
reverse_twice es = reverse_spellings (reverse es) ∙ ap spellings (reverse-reverse es)
