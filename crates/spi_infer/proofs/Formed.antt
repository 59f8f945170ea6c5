-- What forms do to counts against what they do to effects.
use Rattle.std.proofs.Common.{◌≡◌, refl, sym, ◌∙◌, subst, ℕ, zero, suc, ◌+◌, ◌-◌, ◌*◌, ◌<◌, ◌≤◌, Bool, true, false, ◌||◌, [], ◌∷◌, ◌++◌, Option, Some, None, ◌⊎◌, inl, inr, ⊎_elim, arith}
use Rattle.std.specs.Prelude.{slice_get, max, not}
use Rattle.std.proofs.lemmas.Bool.{or_left, or_right}
use Rattle.spi_term.specs.Term.{Message, name, ends, checks, many, Effect, Ty, nonce, Casts, Pars}
use Rattle.spi_term.specs.Spelling.{prefix_at, fork_at}
use Rattle.spi_term.proofs.Lists.{some_is}
use Rattle.spi_effect.specs.Made.{are_many, mentions, minus, greater}
use Rattle.spi_effect.proofs.Made.{both_false}
use Rattle.spi_intern.specs.declared.store.Store.{Store}
use Rattle.spi_intern.specs.declared.messages.MsgId.{MsgId}
use Rattle.spi_intern.specs.declared.types.TyId.{TyId}
use Rattle.spi_intern.specs.declared.atoms.AtomId.TheVariants as A
use Rattle.spi_intern.specs.Atoms.{says_end, says_check, says_many}
use Rattle.spi_intern.specs.Meaning.{Means}
use Rattle.spi_count.specs.Counts.{count_of, IsNothing}
use Rattle.spi_count.specs.Sums.{name_bound, key_of, kind_of_atom, part, both_counts}
use Rattle.spi_count.specs.declared.sum.AtomKind.{AtomKind}
use Rattle.spi_count.specs.declared.sum.AtomKind.TheVariants as K
use Rattle.spi_count.specs.Piles.{piled, StandsForPile}
use Rattle.spi_count.specs.declared.pile.Pile.{Pile}
use Rattle.spi_count.proofs.Waiting.{settled_same, both_turned}
use Rattle.spi_count.proofs.Standing.{pile_unreached, pile_reached, below_mentions, in_mentions, stands_many, many_stands, stands_greatest, piles_joined, pile_settled, pile_of_sum}
use Rattle.spi_count.specs.declared.keys.Keys.{Keys}
use Rattle.spi_infer.specs.declared.own.Own.{Own}
use Rattle.spi_infer.specs.declared.own.Own.TheVariants.{Label}
use Rattle.spi_count.specs.Keeping.{with_keys, IsKeyed, HaveKeys}
use Rattle.spi_infer.specs.Own.{PileFor}
use Rattle.spi_infer.specs.Forms.{unless_blocked, keep}
use Rattle.spi_message.specs.Forms.{cast_effect_of}
use Rattle.spi_count.specs.Adding.{PileOf, TakesFrom, AddsTo}
use Rattle.spi_infer.specs.Accounts.{kept_if, AfterOne, AfterTwo, AfterServe, AfterMake, AfterCheck, AfterForm, AfterCast, OwnCast, OwnBegin, OwnEnd, OwnMany, BothPiles, BothForm}
use Rattle.spi_count.proofs.Summed.{numbers}
use Rattle.spi_count.proofs.Below.{in_minus, below_more}
use Rattle.spi_intern.specs.Parts.{message_of}

-- counts for an effect that stands where a test says so
pub kept_unless : (At : ℕ → Message → Type 0) (sum : Pile) (b : Bool) (es : Effect) → b ≡ false → StandsForPile At sum es → PileFor At (Some sum) (unless_blocked b es)
kept_unless At sum true es e t = absurd (cc)
kept_unless At sum false es e t = t

pub gone_unless : (At : ℕ → Message → Type 0) (b : Bool) (es : Effect) → b ≡ true → PileFor At None (unless_blocked b es)
gone_unless At true es e = tt
gone_unless At false es e = absurd (cc)

pub unless_some : (At : ℕ → Message → Type 0) (sum : Pile) (b : Bool) (es : Effect) → PileFor At (Some sum) (unless_blocked b es) → (b ≡ false) × StandsForPile At sum es
unless_some At sum true es t = absurd t
unless_some At sum false es t = (refl, t)

pub kept_keep : (At : ℕ → Message → Type 0) (r : Option Pile) (b : Bool) (o : Option Effect) → b ≡ true → PileFor At r o → PileFor At r (keep b o)
kept_keep At r true o e t = t
kept_keep At r false o e t = absurd (cc)

gone_keep : (At : ℕ → Message → Type 0) (b : Bool) (o : Option Effect) → (b ≡ true → ⊥) → PileFor At None (keep b o)
gone_keep At true o e = absurd (e refl)
gone_keep At false o e = tt

abbrev pub Unreached : ℕ → Pile → Type 0
Unreached k p = (kind : AtomKind) (q : ℕ) → 0 < piled kind p q → q < (k + 1) * 4294967296

abbrev pub PileReached : ℕ → Pile → Type 0
PileReached k p = (kind : AtomKind) × (q : ℕ) × (0 < piled kind p q) × ((k + 1) * 4294967296 ≤ q)

-- where as many stand in another
abbrev pub IsAs : Pile → Pile → Type 0
IsAs old new = (kind : AtomKind) (q : ℕ) → piled kind new q ≡ piled kind old q

pub stands_as : {At : ℕ → Message → Type 0} {old new : Pile} {es : Effect} → IsAs old new → StandsForPile At old es → StandsForPile At new es
stands_as e h = record {
  counted = λ a i g. e (kind_of_atom a) (key_of (name_bound (message_of a)) i) ∙ h.counted a i g;
  known = h.known;
  kept = λ kind k g. h.kept kind k (subst (λ n. 0 < n) (e kind k) g);
}

pub one_stays : (k : ℕ) (old new : Pile) → IsAs old new → Unreached k old → AfterOne k old (Some new)
one_stays k old new e u s keys es kd t b =
    let l = pile_unreached (with_keys s keys) (numbers kd) t k u in
    kept_unless (with_keys s keys) new (mentions k es) es (below_mentions k es l) (stands_as e t)

pub two_stay : (k : ℕ) (old new : Pile) → IsAs old new → Unreached k old → AfterTwo k old (Some new)
two_stay k old new e u s keys es kd t b =
    let l = pile_unreached (with_keys s keys) (numbers kd) t k u in
    let m = below_more k (suc k) es (omega arith) l in
    kept_unless (with_keys s keys) new (mentions k es || mentions (suc k) es) es (both_false (below_mentions k es l) (below_mentions (suc k) es m)) (stands_as e t)

one_or_next : (n k : ℕ) → k + 1 ≤ n → n ≤ k + 2 → (n ≡ suc k) ⊎ (n ≡ suc (suc k))
one_or_next n k h l = go (n - (k + 1)) refl
  where
    go : (d : ℕ) → n - (k + 1) ≡ d → (n ≡ suc k) ⊎ (n ≡ suc (suc k))
    go zero e = inl (omega (arith, e, h, l))
    go (suc d) e = inr (omega (arith, e, h, l))

pub one_goes : (k : ℕ) (sum : Pile) → PileReached k sum → AfterOne k sum None
one_goes k sum r s keys es kd t b =
    let (kind, q, p, l) = r in
    let (a, i, o) = pile_reached (with_keys s keys) (numbers kd) t k kind q p l in
    let m = b a i in
    gone_unless (with_keys s keys) (mentions k es) es (in_mentions k a es i (omega (arith, o, m)))

pub two_go : (k : ℕ) (sum : Pile) → PileReached k sum → AfterTwo k sum None
two_go k sum r s keys es kd t b =
    let (kind, q, p, l) = r in
    let (a, i, o) = pile_reached (with_keys s keys) (numbers kd) t k kind q p l in
    gone_unless (with_keys s keys) (mentions k es || mentions (suc k) es) es
    (⊎_elim (λ e. or_left (mentions k es) (mentions (suc k) es) (in_mentions k a es i e)) (λ e. or_right (mentions k es) (mentions (suc k) es) (in_mentions (suc k) a es i e)) (one_or_next (name_bound (message_of a)) k o (b a i)))

pub one_told : (k : ℕ) (old new : Pile) (b : Bool) → IsAs old new → (b ≡ true → PileReached k old) → (b ≡ false → Unreached k old) → AfterOne k old (kept_if (not b) new)
one_told k old new true e r u = one_goes k old (r refl)
one_told k old new false e r u = one_stays k old new e (u refl)

pub two_told : (k : ℕ) (old new : Pile) (b : Bool) → IsAs old new → (b ≡ true → PileReached k old) → (b ≡ false → Unreached k old) → AfterTwo k old (kept_if (not b) new)
two_told k old new true e r u = two_go k old (r refl)
two_told k old new false e r u = two_stay k old new e (u refl)

module _ (k : ℕ) (old mid : Pile) (e : (kind : AtomKind) (q : ℕ) → count_of (part kind mid.sum) q ≡ piled kind old q) (z : mid.late.items ≡ []) where
  pub serve_stays : (r : Option Pile) → IsNothing (part K.End mid.sum) × IsNothing (part K.Check mid.sum) → AfterOne k mid r → AfterServe k old r
  serve_stays r n h s keys es kd t b =
      let u = pile_settled {s = mid.sum} e t in
      let v : PileOf s keys mid es = pile_of_sum (λ kind q. settled_same kind mid _ q refl z) u in
      kept_keep (with_keys s keys) r (are_many es) (unless_blocked (mentions k es) es) (stands_many (with_keys s keys) (numbers kd) u n.0 n.1) (h s keys es kd v b)

  pub serve_goes : (IsNothing (part K.End mid.sum) × IsNothing (part K.Check mid.sum) → ⊥) → AfterServe k old None
  serve_goes n s keys es kd t b =
      gone_keep (with_keys s keys) (are_many es) (unless_blocked (mentions k es) es) (λ m. n (many_stands (with_keys s keys) (numbers kd) (pile_settled {s = mid.sum} e t) m))

pub make_is : (k : ℕ) (s : Store) (keys : Keys) (id : MsgId) (sum mid : Pile) (r : Option Pile) → slice_get s.messages id.place ≡ Some (name k) → TakesFrom keys (A.Check id) sum mid → AfterOne k mid r → AfterMake k s keys sum r
make_is k s keys id sum mid r e p h es kd t b =
    h s keys (minus es (checks (name k) ∷ [])) kd (p s (checks (name k)) es kd (says_check e) t) (λ a n. b a (in_minus a es (checks (name k) ∷ []) n))

pub check_none : (s : Store) (keys : Keys) (id : MsgId) (sum : Pile) → AfterCheck s keys id None sum (Some sum)
check_none s keys id sum m None es kd w f t = t
check_none s keys id sum m (Some fs) es kd w f t = absurd f

pub check_some : (s : Store) (keys : Keys) (id : MsgId) (t : TyId) (sum mid new : Pile)
    → ((u : Ty) (es : Effect) → IsKeyed s keys → Means s t.place u → PileOf s keys sum es → PileOf s keys mid (minus es (cast_effect_of u)))
    → AddsTo keys (A.Check id) mid new → AfterCheck s keys id (Some t) sum (Some new)
check_some s keys id t sum mid new p q m None es kd w f st = absurd f
check_some s keys id t sum mid new p q m (Some fs) es kd w f st =
    q s (checks m) (minus es fs) kd (says_check w.at) (id.place, w) (p (nonce fs) es kd f st)

-- a cast
pub cast_none : (k : ℕ) (s : Store) (keys : Keys) (t : TyId) (old : Pile) → AfterOne k old None → AfterCast k s keys t old None
cast_none k s keys t old h u es kd m w f b = go (mentions k es) (h s keys es kd f b)
  where
    go : (b : Bool) → PileFor (with_keys s keys) None (unless_blocked b es) → PileFor (with_keys s keys) None (unless_blocked b (es ++ cast_effect_of u))
    go true r = r
    go false r = absurd r

pub cast_some : (k : ℕ) (s : Store) (keys : Keys) (t : TyId) (old mid new : Pile) → AfterOne k old (Some mid)
    → ((u : Ty) (es : Effect) → IsKeyed s keys → Means s t.place u → HaveKeys s keys (cast_effect_of u) → PileOf s keys mid es → PileOf s keys new (es ++ cast_effect_of u))
    → AfterCast k s keys t old (Some new)
cast_some k s keys t old mid new h p u es kd m w f b =
    let (e, v) = unless_some (with_keys s keys) mid (mentions k es) es (h s keys es kd f b) in
    kept_unless (with_keys s keys) new (mentions k es) (es ++ cast_effect_of u) e (p u es kd m w v)

-- the label that is kept is the node's
label_at : (P : ℕ → Type 0) {own : Own} {label id : MsgId} → ((id : MsgId) → own ≡ Label id → Some label ≡ Some id) → own ≡ Label id → P id.place → P label.place
label_at P {label = label} {id = id} f e g = let i : label ≡ id = some_is (f id e) in subst (λ (i : MsgId). P i.place) (sym i) g

pub begin_is : (keys : Keys) (own : Own) (label : MsgId) (old mid new : Pile) → ((id : MsgId) → own ≡ Label id → Some label ≡ Some id)
    → TakesFrom keys (A.End label) old mid → TakesFrom keys (A.Many label) mid new → OwnBegin keys own old (Some new)
begin_is keys own label old mid new f p q s id m es e kd g t =
    let h = label_at (λ i. slice_get s.messages i ≡ Some m) f e g in
    q s (many m) (minus es (ends m ∷ [])) kd (says_many h) (p s (ends m) es kd (says_end h) t)

pub end_is : (keys : Keys) (own : Own) (label : MsgId) (old new : Pile) → ((id : MsgId) → own ≡ Label id → Some label ≡ Some id)
    → AddsTo keys (A.End label) old new → OwnEnd keys own old (Some new)
end_is keys own label old new f p s id m es e kd g t =
    let h = label_at (λ i. with_keys s keys i m) f e g in
    p s (ends m) es kd (says_end h.at) (label.place, h) t

pub many_is : (keys : Keys) (own : Own) (label : MsgId) (old new : Pile) → ((id : MsgId) → own ≡ Label id → Some label ≡ Some id)
    → AddsTo keys (A.Many label) old new → OwnMany keys own old (Some new)
many_is keys own label old new f p s id m es e kd g t =
    let h = label_at (λ i. with_keys s keys i m) f e g in
    p s (many m) es kd (says_many h.at) (label.place, h) t

pub cast_form : (s : Store) (keys : Keys) (k b : ℕ) (m : Message) (u : Ty) (own : Own) (sum : Pile) (r : Option Pile) → OwnCast k s keys own sum r → AfterForm s keys (prefix_at k (Casts m u) b) own sum r
cast_form s keys k b m u own sum r h paid es kd f t l = h f.0 f.1 u es kd f.2 f.3 t l

pub par_form : (k a r : ℕ) (x y z : Pile) → ((kind : AtomKind) (q : ℕ) → piled kind z q ≡ both_counts kind (piled kind y q) (piled kind x q)) → BothForm (fork_at k Pars a r) x y (Some z)
par_form k a r x y z g s keys es fs kd t u b c = piles_joined (with_keys s keys) (numbers kd) t u (λ kind q. g kind q ∙ both_turned kind (piled kind y q) (piled kind x q))

-- two sides of a case
pub sides_first : (k : ℕ) (a b : Pile) → AfterOne k a None → BothPiles k a b None
sides_first k a b h s keys es fs kd t u v w = go (mentions k es) (mentions k fs) (h s keys es kd t v)
  where
    go : (m n : Bool) → PileFor (with_keys s keys) None (unless_blocked m es) → PileFor (with_keys s keys) None (unless_blocked (m || n) (greater es fs))
    go true n r = r
    go false n r = absurd r

pub sides_second : (k : ℕ) (a b : Pile) → AfterOne k b None → BothPiles k a b None
sides_second k a b h s keys es fs kd t u v w = go (mentions k es) (mentions k fs) (h s keys fs kd u w)
  where
    go : (m n : Bool) → PileFor (with_keys s keys) None (unless_blocked n fs) → PileFor (with_keys s keys) None (unless_blocked (m || n) (greater es fs))
    go true true r = r
    go false true r = r
    go m false r = absurd r

pub sides_both : (k : ℕ) (a b a' b' a'' b'' new : Pile) → AfterOne k a (Some a') → AfterOne k b (Some b')
    → ((kind : AtomKind) (q : ℕ) → count_of (part kind a''.sum) q ≡ piled kind a' q) → ((kind : AtomKind) (q : ℕ) → count_of (part kind b''.sum) q ≡ piled kind b' q)
    → ((kind : AtomKind) (q : ℕ) → count_of (part kind new.sum) q ≡ max (count_of (part kind b''.sum) q) (count_of (part kind a''.sum) q))
    → new.late.items ≡ [] → BothPiles k a b (Some new)
sides_both k a b a' b' a'' b'' new h j e f g z s keys es fs kd t u v w =
    let (m, x) = unless_some (with_keys s keys) a' (mentions k es) es (h s keys es kd t v) in
    let (n, y) = unless_some (with_keys s keys) b' (mentions k fs) fs (j s keys fs kd u w) in
    kept_unless (with_keys s keys) new (mentions k es || mentions k fs) (greater es fs) (both_false m n)
    (pile_of_sum {s = new.sum} (λ kind q. settled_same kind new _ q refl z)
    (stands_greatest (with_keys s keys) (numbers kd) (pile_settled {s = a''.sum} e x) (pile_settled {s = b''.sum} f y)
    (λ kind q. let d = g kind q in omega (arith, d))))
