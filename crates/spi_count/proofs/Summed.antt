-- What the changes of counts by the keys of messages do to effects.
use Rattle.std.proofs.Common.{◌≡◌, refl, sym, ap, ◌∙◌, subst, ℕ, zero, suc, ◌+◌, ◌-◌, ◌<◌, List, [], ◌∷◌, ◌++◌, length, take, get_or, Option, Some, None, arith, append-nil, append_assoc}
use Rattle.std.specs.Prelude.{slice_get, nat_eq, ⊤}
use denote.Ref.{Bor}
use Rattle.indexmap.specs.IndexMap.{get}
use Rattle.spi_term.specs.Term.{Message, Atom, ends, checks, many, Effect, Ty}
use Rattle.spi_term.specs.Counts.{count, cut}
use Rattle.spi_term.specs.Lists.{In}
use Rattle.spi_term.proofs.Lists.{some_is, in_end, in_left}
use Rattle.spi_effect.specs.Made.{less_one, minus}
use Rattle.spi_effect.proofs.Made.{minus_difference}
use Rattle.spi_effect.proofs.Laws.{sum_append, same_within, within_in}
use Rattle.spi_intern.specs.declared.store.Store.{Store}
use Rattle.spi_intern.specs.declared.messages.MsgId.{MsgId}
use Rattle.spi_intern.specs.declared.atoms.AtomId.{AtomId}
use Rattle.spi_intern.specs.declared.atoms.AtomId.TheVariants.{End, Check, Many}
use Rattle.spi_intern.specs.declared.store.TyPart.{TyPart}
use Rattle.spi_intern.specs.declared.store.TyPart.TheVariants as P
use Rattle.spi_intern.specs.Lent.{SaysTy, says_un, says_unit, says_pair, says_sum, says_key, says_nonce}
use Rattle.spi_intern.specs.Table.{TellsAll, tells_none, tells_next}
use Rattle.spi_intern.specs.Atoms.{SaysAtom, says_end, says_check, says_many}
use Rattle.spi_count.specs.Counts.{count_of}
use Rattle.spi_count.specs.Sums.{name_bound, key_of, kind_of_atom, part, one_more, Puts, AreNumbers}
use Rattle.spi_count.specs.declared.sum.AtomKind.{AtomKind}
use Rattle.spi_count.specs.declared.sum.AtomKind.TheVariants as K
use Rattle.spi_count.specs.declared.sum.Sum.{Sum}
use Rattle.spi_count.proofs.Standing.{stands_more, stands_less, stands_absent, stands_same}
use Rattle.spi_count.specs.declared.keys.Keys.{Keys}
use Rattle.spi_message.specs.Forms.{cast_effect_of}
use Rattle.spi_count.specs.Keeping.{with_keys, IsKeyed, HasKey, HaveKeys}
use Rattle.spi_count.specs.Adding.{SumOf, AddsAtom, TakesAtom, AddsAll, TakesAll}
use Rattle.spi_intern.specs.Parts.{message_of}

-- messages with keys have their numbers
module _ {s : Store} {keys : Keys} (k : IsKeyed s keys) where
  small_at : {i : ℕ} {m : Message} → with_keys s keys i m → i < 4294967296
  small_at h = h.small

  pub place_is : {i j : ℕ} {m : Message} → slice_get s.messages i ≡ Some m → slice_get s.messages j ≡ Some m → i ≡ j
  place_is {i} {j} {m} g h = k.once.messages.one i j m g h

  differ_at : {i j : ℕ} {m : Message} → with_keys s keys i m → with_keys s keys j m → i ≡ j
  differ_at g h = place_is g.at h.at

  one_at : {i : ℕ} {m n : Message} → with_keys s keys i m → with_keys s keys i n → m ≡ n
  one_at g h = some_is (sym g.at ∙ h.at)

  pub numbers : AreNumbers (with_keys s keys)
  numbers = record { small = small_at; differ = differ_at; one = one_at }

  -- a key that is kept
  pub found : (i key : ℕ) (m : Message) → get nat_eq keys.keys i ≡ Some key → slice_get s.messages i ≡ Some m → with_keys s keys i m × (key ≡ key_of (name_bound m) i)
  found i key m g at =
      let (n, h) = k.keyed.keyed i key g in
      let e : n ≡ m = some_is (sym h.at ∙ at) in
      let w = subst (λ n. with_keys s keys i n) e h in
      (w, some_is (sym g ∙ w.key))

  -- the key of a message that has one
  pub kept_at : (i : ℕ) (m : Message) → slice_get s.messages i ≡ Some m → HasKey s keys m → with_keys s keys i m
  kept_at i m at h = subst (λ i. with_keys s keys i m) (place_is h.1.at at) h.1

  adds_at : {old new : Sum} (i : ℕ) (b : Atom) (es : Effect)
      → ((q : ℕ) → get nat_eq keys.keys i ≡ Some q → Puts (kind_of_atom b) old new q (one_more (kind_of_atom b) (count_of (part (kind_of_atom b) old) q)))
      → slice_get s.messages i ≡ Some (message_of b) → HasKey s keys (message_of b) → SumOf s keys old es → SumOf s keys new (es ++ b ∷ [])
  adds_at {old} {new} i b es p at h t =
      let w = kept_at i (message_of b) at h in
      stands_more (with_keys s keys) numbers b i t w (p (key_of (name_bound (message_of b)) i) w.key)

  takes_at : {old new : Sum} (i : ℕ) (b : Atom) (es : Effect)
      → ((q : ℕ) → get nat_eq keys.keys i ≡ Some q → Puts (kind_of_atom b) old new q (count_of (part (kind_of_atom b) old) q - 1))
      → (get nat_eq keys.keys i ≡ None → new ≡ old)
      → slice_get s.messages i ≡ Some (message_of b) → SumOf s keys old es → SumOf s keys new (minus es (b ∷ []))
  takes_at {old} {new} i b es p n at t = go (get nat_eq keys.keys i) refl
    where
      absent : get nat_eq keys.keys i ≡ None → In b es → ⊥
      absent g z =
          let (j, h) = t.known b z in
          let e : j ≡ i = place_is h.at at in
          let f : get nat_eq keys.keys i ≡ Some (key_of (name_bound (message_of b)) j) = ap (get nat_eq keys.keys) (sym e) ∙ h.key in
          cc

      go : (o : Option ℕ) → get nat_eq keys.keys i ≡ o → SumOf s keys new (minus es (b ∷ []))
      go (Some q) g =
          let (w, e) = found i q (message_of b) g at in
          stands_less (with_keys s keys) numbers b i t w (subst (λ q. Puts (kind_of_atom b) old new q (count_of (part (kind_of_atom b) old) q - 1)) e (p q g))
      go None g = subst (λ z. SumOf s keys z (minus es (b ∷ []))) (sym (n g)) (stands_absent (with_keys s keys) numbers b t (absent g))

-- by the kind of the atom
abbrev pub PutsMore : Keys → AtomKind → MsgId → Sum → Sum → Type 0
PutsMore keys kind id old new = (q : ℕ) → get nat_eq keys.keys id.place ≡ Some q → Puts kind old new q (one_more kind (count_of (part kind old) q))

abbrev pub PutsLess : Keys → AtomKind → MsgId → Sum → Sum → Type 0
PutsLess keys kind id old new = (q : ℕ) → get nat_eq keys.keys id.place ≡ Some q → Puts kind old new q (count_of (part kind old) q - 1)

pub adds_end : (keys : Keys) (id : MsgId) (old new : Sum) → PutsMore keys K.End id old new → AddsAtom keys (End id) old new
adds_end keys id old new p s _ es k (says_end {m = m} e) h t = adds_at k id.place (ends m) es p e h t

pub adds_check : (keys : Keys) (id : MsgId) (old new : Sum) → PutsMore keys K.Check id old new → AddsAtom keys (Check id) old new
adds_check keys id old new p s _ es k (says_check {m = m} e) h t = adds_at k id.place (checks m) es p e h t

pub adds_many : (keys : Keys) (id : MsgId) (old new : Sum) → PutsMore keys K.Many id old new → AddsAtom keys (Many id) old new
adds_many keys id old new p s _ es k (says_many {m = m} e) h t = adds_at k id.place (many m) es p e h t

pub takes_end : (keys : Keys) (id : MsgId) (old new : Sum) → PutsLess keys K.End id old new → (get nat_eq keys.keys id.place ≡ None → new ≡ old) → TakesAtom keys (End id) old new
takes_end keys id old new p n s _ es k (says_end {m = m} e) t = takes_at k id.place (ends m) es p n e t

pub takes_check : (keys : Keys) (id : MsgId) (old new : Sum) → PutsLess keys K.Check id old new → (get nat_eq keys.keys id.place ≡ None → new ≡ old) → TakesAtom keys (Check id) old new
takes_check keys id old new p n s _ es k (says_check {m = m} e) t = takes_at k id.place (checks m) es p n e t

pub takes_many : (keys : Keys) (id : MsgId) (old new : Sum) → PutsLess keys K.Many id old new → (get nat_eq keys.keys id.place ≡ None → new ≡ old) → TakesAtom keys (Many id) old new
takes_many keys id old new p n s _ es k (says_many {m = m} e) t = takes_at k id.place (many m) es p n e t

-- lists
pub take_step : {A : Type 0} (xs : List A) (i : ℕ) (d : A) → i < length xs → take (i + 1) xs ≡ take i xs ++ get_or xs i d ∷ []
take_step [] i d h = absurd (omega arith)
take_step (y ∷ xs) zero d h =
    let z : zero + 1 ≡ suc zero = omega arith in
    ap (λ n. take n (y ∷ xs)) z
take_step (y ∷ xs) (suc i) d h =
    let z : suc i + 1 ≡ suc (i + 1) = omega arith in
    ap (λ n. take n (y ∷ xs)) z ∙ ap (λ l. y ∷ l) (take_step xs i d (omega arith))

pub record EndedSum {P M : Type 0} (S : P → M → Type 0) (ps : List P) (p : P) (ms : List M) : Type 0 where
  pub front : List M
  pub last : M
  pub is : ms ≡ front ++ last ∷ []
  pub tells : TellsAll S ps front
  pub says : S p last

tells_end : {P M : Type 0} {S : P → M → Type 0} (ps : List P) (p : P) (ms : List M) → TellsAll S (ps ++ p ∷ []) ms → EndedSum S ps p ms
tells_end [] p _ (tells_next {m = m} h tells_none) = record { front = []; last = m; is = refl; tells = tells_none; says = h }
tells_end (q ∷ ps) p _ (tells_next {m = m} {ms = ms} h t) =
    let e = tells_end ps p ms t in
    record { front = m ∷ e.front; last = e.last; is = ap (λ l. m ∷ l) e.is; tells = tells_next h e.tells; says = e.says }

pub minus_append : (es fs gs : Effect) → minus es (fs ++ gs) ≡ minus (minus es fs) gs
minus_append es [] gs = refl
minus_append es (f ∷ fs) gs = minus_append (less_one f es) fs gs

-- atoms of a list, where X stands for effects as Of says
module _ {X : Type 0} (Of : Store → Keys → X → Effect → Type 0) where
  abbrev pub OneIn : Keys → AtomId → X → X → Type 0
  OneIn keys a old new =
      (s : Store) (b : Atom) (es : Effect) → IsKeyed s keys → SaysAtom s.messages a b
      → HasKey s keys (message_of b) → Of s keys old es → Of s keys new (es ++ b ∷ [])

  abbrev pub OneOut : Keys → AtomId → X → X → Type 0
  OneOut keys a old new =
      (s : Store) (b : Atom) (es : Effect) → IsKeyed s keys → SaysAtom s.messages a b → Of s keys old es
      → Of s keys new (minus es (b ∷ []))

  abbrev pub AllIn : Keys → List AtomId → X → X → Type 0
  AllIn keys ids old new =
      (s : Store) (fs es : Effect) → IsKeyed s keys → TellsAll (SaysAtom s.messages) ids fs → HaveKeys s keys fs
      → Of s keys old es → Of s keys new (es ++ fs)

  abbrev pub AllOut : Keys → List AtomId → X → X → Type 0
  AllOut keys ids old new =
      (s : Store) (fs es : Effect) → IsKeyed s keys → TellsAll (SaysAtom s.messages) ids fs
      → Of s keys old es → Of s keys new (minus es fs)

  pub adds_none : (keys : Keys) (x : X) → AllIn keys [] x x
  adds_none keys x s _ es k tells_none h t = subst (Of s keys x) (sym (append-nil es)) t

  pub takes_none : (keys : Keys) (x : X) → AllOut keys [] x x
  takes_none keys x s _ es k tells_none t = t

  pub adds_more : (keys : Keys) (ids js : List AtomId) (a : AtomId) (old mid new : X) → js ≡ ids ++ a ∷ [] → AllIn keys ids old mid → OneIn keys a mid new → AllIn keys js old new
  adds_more keys ids js a old mid new e p q = subst (λ js. AllIn keys js old new) (sym e) go
    where
      go : AllIn keys (ids ++ a ∷ []) old new
      go s fs es k t h st =
          let x = tells_end ids a fs t in
          let y = p s x.front es k x.tells (λ c n. h c (subst (In c) (sym x.is) (in_left (x.last ∷ []) n))) st in
          let z = q s x.last (es ++ x.front) k x.says (h x.last (subst (In x.last) (sym x.is) (in_end x.front x.last))) y in
          subst (λ fs. Of s keys new (es ++ fs)) (sym x.is) (subst (Of s keys new) (append_assoc es x.front (x.last ∷ [])) z)

  pub takes_more : (keys : Keys) (ids js : List AtomId) (a : AtomId) (old mid new : X) → js ≡ ids ++ a ∷ [] → AllOut keys ids old mid → OneOut keys a mid new → AllOut keys js old new
  takes_more keys ids js a old mid new e p q = subst (λ js. AllOut keys js old new) (sym e) go
    where
      go : AllOut keys (ids ++ a ∷ []) old new
      go s fs es k t st =
          let x = tells_end ids a fs t in
          let y = p s x.front es k x.tells st in
          let z = q s x.last (minus es x.front) k x.says y in
          subst (λ fs. Of s keys new (minus es fs)) (sym x.is) (subst (Of s keys new) (sym (minus_append es x.front (x.last ∷ []))) z)

  -- no atom
  pub adds_quiet : (s : Store) (keys : Keys) (x : X) (es fs : Effect) → fs ≡ [] → Of s keys x es → Of s keys x (es ++ fs)
  adds_quiet s keys x es fs e t = subst (λ fs. Of s keys x (es ++ fs)) (sym e) (subst (Of s keys x) (sym (append-nil es)) t)

  pub takes_quiet : (s : Store) (keys : Keys) (x : X) (es fs : Effect) → fs ≡ [] → Of s keys x es → Of s keys x (minus es fs)
  takes_quiet s keys x es fs e t = subst (λ fs. Of s keys x (minus es fs)) (sym e) t

-- the effect of a type that the store lends
abbrev pub HasNoEffect : TyPart → Type 0
HasNoEffect P.Un = ⊤
HasNoEffect P.Unit = ⊤
HasNoEffect (P.Pair a b) = ⊤
HasNoEffect (P.Sum a b) = ⊤
HasNoEffect (P.Key a) = ⊤
HasNoEffect (P.Nonce ids) = ⊥

pub no_effect : {s : Store} (p : TyPart) (u : Ty) → HasNoEffect p → SaysTy s p u → cast_effect_of u ≡ []
no_effect _ _ q says_un = refl
no_effect _ _ q says_unit = refl
no_effect _ _ q (says_pair g h) = refl
no_effect _ _ q (says_sum g h) = refl
no_effect _ _ q (says_key g) = refl
no_effect _ _ q (says_nonce m) = absurd q

pub adds_said : {s : Store} {keys : Keys} (ids : Bor (List AtomId)) (old new : Sum) (u : Ty) (es : Effect) → IsKeyed s keys → SaysTy s (P.Nonce ids) u → AddsAll keys ids.now old new → HaveKeys s keys (cast_effect_of u) → SumOf s keys old es → SumOf s keys new (es ++ cast_effect_of u)
adds_said {s} {keys} ids old new _ es k (says_nonce {es = fs} m) p h t =
    let y = p s m.told es k m.each (λ a n. h a (within_in (same_within m.same) n)) t in
    stands_same (with_keys s keys) (numbers k) y (λ a. (sum_append es m.told).at a ∙ ap (λ n. cut a (count a es + n)) (m.same.at a) ∙ sym ((sum_append es fs).at a))

pub takes_said : {s : Store} {keys : Keys} (ids : Bor (List AtomId)) (old new : Sum) (u : Ty) (es : Effect) → IsKeyed s keys → SaysTy s (P.Nonce ids) u → TakesAll keys ids.now old new → SumOf s keys old es → SumOf s keys new (minus es (cast_effect_of u))
takes_said {s} {keys} ids old new _ es k (says_nonce {es = fs} m) p t =
    let y = p s m.told es k m.each t in
    stands_same (with_keys s keys) (numbers k) y (λ a. (minus_difference es m.told).at a ∙ ap (λ n. count a es - n) (m.same.at a) ∙ sym ((minus_difference es fs).at a))
