-- Lines that are written.
use Rattle.std.proofs.Common.{◌≡◌, refl, sym, ap, subst, ◌∙◌, ℕ, suc, ◌+◌, ◌<◌, Bool, true, ◌⊎◌, inl, inr, ⊎_elim, List, [], ◌∷◌, ◌++◌, Option, Some, slice_get, length, arith}
use Rattle.std.proofs.lemmas.List.{length_push}
use Rattle.std.proofs.lemmas.Option.{slice_get_within}
use Rattle.spi_horn.specs.declared.rules.Rule.{Rule}
use Rattle.spi_horn.specs.declared.rules.Reached.{Reached}
use Rattle.spi_horn.specs.declared.rules.Why.{Why}
use Rattle.spi_horn.specs.declared.rules.Why.TheVariants.{Start, ByRule}
use Rattle.spi_horn.specs.declared.tracing.Line.{Line}
use Rattle.spi_horn.specs.declared.tracing.Ground.{Ground}
use Rattle.spi_horn.specs.Leading.{IsPlacedAt, IsReason, IsOrder}
use Rattle.spi_horn.specs.Needs.{IsMarked, IsSpread, SaysWhy, AreMarkedWritten}
use Rattle.spi_horn.specs.Lines.{SaysBefore, HoldsOfLine, NamesLine, ProvesTarget}
use Rattle.spi_horn.proofs.Lookups.{get_append, get_end, get_cases, get_some}
use Rattle.spi_horn.proofs.Trying.{same_or_less}
use Rattle.spi_horn.proofs.Spreading.{one_place, use_before}

says_kept : (rules : List Rule) (places : List (Option ℕ)) (line_at : List ℕ) (l : ℕ) (w : Why) (g : Ground) → SaysWhy rules places line_at w g → SaysWhy rules places (line_at ++ l ∷ []) w g
says_kept rules places line_at l (Start j) g e = e
says_kept rules places line_at l (ByRule k) g (a, b, e, f, h) =
    (a, b, e, λ r s i j. get_append line_at (l ∷ []) s a (f r s i j), λ r s i j. get_append line_at (l ∷ []) s b (h r s i j))

pub written_none : (rules : List Rule) (order : List Reached) (places : List (Option ℕ)) (marks : List Bool) (lines : List Line) (line_at : List ℕ) → lines ≡ [] → line_at ≡ [] → AreMarkedWritten rules order places marks 0 lines line_at
written_none rules order places marks lines line_at e f =
    let gone : (s l : ℕ) → slice_get line_at s ≡ Some l → ⊥ = λ s l h. let i : slice_get [] s ≡ Some l = ap (λ x. slice_get x s) (sym f) ∙ h in cc in
    record {
      count = ap length f;
      few = let l : length lines ≡ 0 = ap length e in omega (arith, l);
      within = λ s l h. absurd (gone s l h);
      below = λ s l h. absurd (gone s l h);
      marked = λ s l h. absurd (gone s l h);
      from = λ l y h. let i : slice_get [] l ≡ Some y = ap (λ x. slice_get x l) (sym e) ∙ h in cc;
      up = λ s u l m lt i h. absurd (gone s l h);
    }

-- line numbers grow, also at the next place
up_more : (marks : List Bool) (lines : List Line) (line_at : List ℕ) → ((s l : ℕ) → slice_get line_at s ≡ Some l → IsMarked marks s → l < length lines) → ((s u l m : ℕ) → s < u → IsMarked marks s → slice_get line_at s ≡ Some l → slice_get line_at u ≡ Some m → l < m) → (s u l m : ℕ) → s < u → IsMarked marks s → slice_get (line_at ++ length lines ∷ []) s ≡ Some l → slice_get (line_at ++ length lines ∷ []) u ≡ Some m → l < m
up_more marks lines line_at below up s u l m lt i f g = ⊎_elim
    (λ (a, b). ⊎_elim
    (λ (c, d). absurd (omega (arith, a, c, lt)))
    (λ c. let w = slice_get_within line_at u m c in absurd (omega (arith, a, w, lt)))
    (get_cases line_at (length lines) u m g))
    (λ a. ⊎_elim
    (λ (c, d). let w = below s l a i in omega (arith, w, d))
    (λ c. up s u l m lt i a c)
    (get_cases line_at (length lines) u m g))
    (get_cases line_at (length lines) s l f)

-- the next place has no line
pub written_skip : (rules : List Rule) (order : List Reached) (places : List (Option ℕ)) (marks : List Bool) (t : ℕ) (lines : List Line) (line_at line_at' : List ℕ) → line_at' ≡ line_at ++ length lines ∷ [] → (IsMarked marks t → ⊥) → AreMarkedWritten rules order places marks t lines line_at → AreMarkedWritten rules order places marks (t + 1) lines line_at'
written_skip rules order places marks t lines line_at line_at' same none w =
    let l0 = length lines in
    let count = w.count in
    let len = length_push line_at l0 in
    let few = w.few in
    let at : AreMarkedWritten rules order places marks (t + 1) lines (line_at ++ l0 ∷ []) = record {
      count = omega (arith, len, count);
      few = omega (arith, few);
      within = λ s l e. ⊎_elim (λ (a, b). omega (arith, b)) (λ a. w.within s l a) (get_cases line_at l0 s l e);
      below = λ s l e m. ⊎_elim (λ (a, b). absurd (none (subst (λ x. IsMarked marks x) (a ∙ count) m))) (λ a. w.below s l a m) (get_cases line_at l0 s l e);
      marked = λ s l e m x f. ⊎_elim
          (λ (a, b). absurd (none (subst (λ x. IsMarked marks x) (a ∙ count) m)))
          (λ a. let (y, g, h, i) = w.marked s l a m x f in (y, g, h, says_kept rules places line_at l0 x.why y.ground i))
          (get_cases line_at l0 s l e);
      from = λ l y e. let (s, m, f) = w.from l y e in (s, m, get_append line_at (l0 ∷ []) s l f);
      up = up_more marks lines line_at w.below w.up;
    } in
    subst (λ x. AreMarkedWritten rules order places marks (t + 1) lines x) (sym same) at

-- or it has the next line
pub written_more : (rules : List Rule) (order : List Reached) (places : List (Option ℕ)) (marks : List Bool) (t : ℕ) (lines lines' : List Line) (line_at line_at' : List ℕ) (x : Reached) (y : Line) → line_at' ≡ line_at ++ length lines ∷ [] → lines' ≡ lines ++ y ∷ [] → IsMarked marks t → slice_get order t ≡ Some x → y.number ≡ x.number → SaysWhy rules places line_at' x.why y.ground → AreMarkedWritten rules order places marks t lines line_at → AreMarkedWritten rules order places marks (t + 1) lines' line_at'
written_more rules order places marks t lines lines' line_at line_at' x y same new mt ox num says w =
    let l0 = length lines in
    let count = w.count in
    let len = length_push line_at l0 in
    let more = length_push lines y in
    let few = w.few in
    let says' : SaysWhy rules places (line_at ++ l0 ∷ []) x.why y.ground = subst (λ z. SaysWhy rules places z x.why y.ground) same says in
    let at : AreMarkedWritten rules order places marks (t + 1) (lines ++ y ∷ []) (line_at ++ l0 ∷ []) = record {
      count = omega (arith, len, count);
      few = omega (arith, few, more);
      within = λ s l e. ⊎_elim (λ (a, b). omega (arith, b, more)) (λ a. let v = w.within s l a in omega (arith, v, more)) (get_cases line_at l0 s l e);
      below = λ s l e m. ⊎_elim (λ (a, b). omega (arith, b, more)) (λ a. let v = w.below s l a m in omega (arith, v, more)) (get_cases line_at l0 s l e);
      marked = λ s l e m z f. ⊎_elim
          (λ (a, b).
          let p : Some z ≡ Some x = sym f ∙ (ap (slice_get order) (a ∙ count) ∙ ox) in
          let q : x ≡ z = cc in
          (y, ap (slice_get (lines ++ y ∷ [])) b ∙ get_end lines y, num ∙ ap (λ v. v.number) q, subst (λ v. SaysWhy rules places (line_at ++ l0 ∷ []) v.why y.ground) q says'))
          (λ a. let (v, g, h, i) = w.marked s l a m z f in (v, get_append lines (y ∷ []) l v g, h, says_kept rules places line_at l0 z.why v.ground i))
          (get_cases line_at l0 s l e);
      from = λ l v e. ⊎_elim
          (λ (a, b). (t, mt, ap (slice_get (line_at ++ l0 ∷ [])) (sym count) ∙ (get_end line_at l0 ∙ ap (λ z. Some z) (sym a))))
          (λ a. let (s, m, f) = w.from l v a in (s, m, get_append line_at (l0 ∷ []) s l f))
          (get_cases lines y l v e);
      up = up_more marks lines line_at w.below w.up;
    } in
    let P : List Line → Type 0 = λ z. AreMarkedWritten rules order places marks (t + 1) z line_at' in
    subst P (sym new) (subst (λ z. AreMarkedWritten rules order places marks (t + 1) (lines ++ y ∷ []) z) (sym same) at)

-- what is written of marks that go to premises leads to the goal's number
record Written (rules : List Rule) (start : List ℕ) (order : List Reached) (places : List (Option ℕ)) (goal : ℕ) (marks : List Bool) (lines : List Line) (line_at : List ℕ) : Type 0 where
  ordered : IsOrder rules start order places
  spread : IsSpread rules order places goal 0 marks
  count : length marks ≡ goal + 1
  long : goal < length order
  written : AreMarkedWritten rules order places marks (length marks) lines line_at

premise_says : {rules : List Rule} {start : List ℕ} {order : List Reached} {places : List (Option ℕ)} {goal : ℕ} {marks : List Bool} {lines : List Line} {line_at : List ℕ} (n u s a l : ℕ) → Written rules start order places goal marks lines line_at → IsPlacedAt places n u → u < s → IsMarked marks u → slice_get line_at u ≡ Some a → slice_get line_at s ≡ Some l → SaysBefore lines l a n
premise_says n u s a l w st lt m at at' =
    let (x, e, f) = w.ordered.placed n u st in
    let (y, g, h, i) = w.written.marked u a at m x e in
    (y, w.written.up u s a l lt m at at', g, h ∙ f)

holds : {rules : List Rule} {start : List ℕ} {order : List Reached} {places : List (Option ℕ)} {goal : ℕ} {marks : List Bool} {lines : List Line} {line_at : List ℕ} (l s : ℕ) (x : Reached) (w : Why) (g : Ground) → Written rules start order places goal marks lines line_at → slice_get order s ≡ Some x → x.why ≡ w → IsMarked marks s → slice_get line_at s ≡ Some l → IsReason rules start places s x.number w → SaysWhy rules places line_at w g → HoldsOfLine rules start lines l x.number g
holds {rules} {start} {order} {places} {goal} {marks} {lines} {line_at} l s x (Start j) g w e q m at is says = subst (λ z. HoldsOfLine rules start lines l x.number z) (sym says) is
holds {rules} {start} {order} {places} {goal} {marks} {lines} {line_at} l s x (ByRule k) g w e q m at (r, f, gives, (u, lu, su), (v, lv, sv)) (a, b, eg, fa, fb) =
    let mu = w.spread.closed u s (omega arith) m (x, k, r, e, q, f, inl su) in
    let mv = w.spread.closed v s (omega arith) m (x, k, r, e, q, f, inr sv) in
    let P : Ground → Type 0 = λ z. HoldsOfLine rules start lines l x.number z in
    subst P (sym eg) (
      r,
      f,
      gives,
      premise_says r.first u s a l w su lu mu (fa r u f su) at,
      premise_says r.second v s b l w sv lv mv (fb r v f sv) at,
      λ same. let sv' : IsPlacedAt places r.first v = ap (slice_get places) same ∙ sv in
          let uv = one_place places r.first u v su sv' in
          let p : Some a ≡ Some b = sym (fa r u f su) ∙ (ap (slice_get line_at) uv ∙ fb r v f sv) in cc,
    )

-- the goal's line is the last
last_line : {rules : List Rule} {start : List ℕ} {order : List Reached} {places : List (Option ℕ)} {goal : ℕ} {marks : List Bool} {lines : List Line} {line_at : List ℕ} (l : ℕ) → Written rules start order places goal marks lines line_at → slice_get line_at goal ≡ Some l → suc l ≡ length lines
last_line {goal = goal} {marks = marks} {lines = lines} {line_at = line_at} l w at =
    let below = w.written.below goal l at w.spread.target in
    ⊎_elim (λ e. e)
    (λ lt. let (y, e) = get_some lines (suc l) lt in
    let (s, m, f) = w.written.from (suc l) y e in
    let sw = slice_get_within marks s true m in
    let count = w.count in
    ⊎_elim
    (λ q. let p : Some (suc l) ≡ Some l = sym f ∙ (ap (slice_get line_at) q ∙ at) in let c : suc l ≡ l = cc in absurd (omega (arith, c)))
    (λ q. let c = w.written.up s goal (suc l) l q m f at in absurd (omega (arith, c)))
    (same_or_less s goal (omega (arith, sw, count))))
    (same_or_less (suc l) (length lines) below)

-- a line that is a premise's is named
names_use : (rules : List Rule) (places : List (Option ℕ)) (line_at : List ℕ) (w : Why) (g : Ground) (k s l : ℕ) (r : Rule) → w ≡ ByRule k → slice_get rules k ≡ Some r → IsPlacedAt places r.first s ⊎ IsPlacedAt places r.second s → slice_get line_at s ≡ Some l → SaysWhy rules places line_at w g → NamesLine g l
names_use rules places line_at (Start j) g k s l r e f st at says = cc
names_use rules places line_at (ByRule k') g k s l r e f st at (a, b, eg, fa, fb) =
    let kk : k ≡ k' = cc in
    let f' : slice_get rules k' ≡ Some r = ap (slice_get rules) (sym kk) ∙ f in
    let P : Ground → Type 0 = λ z. NamesLine z l in
    subst P (sym eg) (⊎_elim
    (λ x. let p : Some a ≡ Some l = sym (fa r s f' x) ∙ at in let q : a ≡ l = cc in inl q)
    (λ x. let p : Some b ≡ Some l = sym (fb r s f' x) ∙ at in let q : b ≡ l = cc in inr q)
    st)

pub proves : (rules : List Rule) (start : List ℕ) (order : List Reached) (places : List (Option ℕ)) (goal target : ℕ) (marks : List Bool) (lines : List Line) (line_at : List ℕ) → IsOrder rules start order places → IsSpread rules order places goal 0 marks → length marks ≡ goal + 1 → AreMarkedWritten rules order places marks (length marks) lines line_at → IsPlacedAt places target goal → ProvesTarget rules start lines target
proves rules start order places goal target marks lines line_at o sp count wr st =
    let (xg, eg, ng) = o.placed target goal st in
    let long = slice_get_within order goal xg eg in
    let w : Written rules start order places goal marks lines line_at = record { ordered = o; spread = sp; count = count; long = long; written = wr } in
    let wc = wr.count in
    let (lg, atg) = get_some line_at goal (omega (arith, wc, count)) in
    let lastg = last_line lg w atg in
    record {
      each = λ l y e.
          let (s, m, at) = wr.from l y e in
          let sw = slice_get_within marks s true m in
          let (x, ox) = get_some order s (omega (arith, sw, count, long)) in
          let (y', e', num, says) = wr.marked s l at m x ox in
          let p : Some y' ≡ Some y = sym e' ∙ e in
          let q : y' ≡ y = cc in
          let P : Line → Type 0 = λ z. HoldsOfLine rules start lines l z.number z.ground in
          let Q : ℕ → Type 0 = λ n. HoldsOfLine rules start lines l n y'.ground in
          subst P q (subst Q (sym num) (holds l s x x.why y'.ground w ox refl m at (o.reasons s x ox) says));
      last = let (y, e, num, says) = wr.marked goal lg atg sp.target xg eg in (lg, y, lastg, e, num ∙ ng);
      used = λ l lt.
          let (y, e) = get_some lines l (omega (arith, lt)) in
          let (s, m, at) = wr.from l y e in
          ⊎_elim
          (λ q. let p : Some l ≡ Some lg = sym at ∙ (ap (slice_get line_at) q ∙ atg) in let c : l ≡ lg = cc in absurd (omega (arith, c, lastg, lt)))
          (λ (u, mu, us).
          let (x, k, r, ox, why, f, p) = us in
          let uw = slice_get_within marks u true mu in
          let (n, atu) = get_some line_at u (omega (arith, uw, wc)) in
          let (yu, eu, num, says) = wr.marked u n atu mu x ox in
          (n, yu, wr.up s u l n (use_before rules start order places s u o us) m at atu, eu, names_use rules places line_at x.why yu.ground k s l r why f p at says))
          (sp.used s m);
    }
