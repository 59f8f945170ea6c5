-- The words after `on`, line by line.
use Rattle.std.proofs.Common.{◌≡◌, ℕ, zero, suc, ◌+◌, ◌<◌, List, [], ◌∷◌, ◌++◌, length, map, take, get_or, slice_get, Some, refl, sym, ap, ◌∙◌, subst}
use Rattle.spi_term.proofs.Lookup.{map_take_more}
use Rattle.spi_term.proofs.Lists.{some_is}
use Rattle.spi_text.specs.declared.lines.Span.{Span}
use Rattle.spi_tree.specs.declared.tree.SWord.{SWord}
use Rattle.spi_scope.specs.Scope.{Names}
use Rattle.spi_narrate.specs.Narrations as n
use Rattle.spi_narrate.proofs.Testing.{cut_at}
use Rattle.spi_honest.specs.Roles.{HasChannel, HaveChannels}
use Rattle.spi_narrator.specs.Answers.{line_span, LineIn, IsFirstNotFree}
use Rattle.spi_narrator.specs.Free.{IsStrange}

-- ---- lists by their items

-- the line with a number
pub line_in : {A : Type 0} (f : A → n.Line) (xs : List A) (i : ℕ) (x : A) (s : Span) → slice_get xs i ≡ Some x → s ≡ line_span (f x) → LineIn (map f xs) i s
line_in f [] i x s e h = absurd (let z = e in cc)
line_in f (y ∷ ys) zero x s e h = (f y, refl, h ∙ ap (λ z. line_span (f z)) (sym (some_is e)))
line_in f (y ∷ ys) (suc i) x s e h = line_in f ys i x s e h

-- ---- lines

have_both : (free : Names) (ls ms : List n.Line) → HaveChannels free ls → HaveChannels free ms → HaveChannels free (ls ++ ms)
have_both free [] ms h g = g
have_both free (l ∷ ls) ms h g = (h.0, have_both free ls ms h.1 g)

pub have_more : {A : Type 0} (f : A → n.Line) (free : Names) (xs : List A) (i : ℕ) (x : A) → x ≡ get_or xs i x → i < length xs → HasChannel free (f x) → HaveChannels free (map f (take i xs)) → HaveChannels free (map f (take (i + 1) xs))
have_more f free xs i x e l h g = subst (HaveChannels free) (sym (map_take_more f xs i x l e)) (have_both free (map f (take i xs)) (f x ∷ []) g (h, tt))

first_at : (free : Names) (ls before after : List n.Line) (l : n.Line) (w : SWord) → ls ≡ before ++ l ∷ after → HaveChannels free before → IsStrange free l w → IsFirstNotFree free ls w
first_at free ls before after (n.local s r f) w e h g = absurd g
first_at free ls before after (n.pass s from to c m x) w e h g = record {
  before = before;
  span = s;
  from = from;
  to = to;
  message = m;
  name = x;
  after = after;
  cut = e ∙ ap (λ (z : SWord). before ++ n.pass s from to z m x ∷ after) g.0;
  are = h;
  strange = g.1;
}

pub first_strange : {A : Type 0} (f : A → n.Line) (free : Names) (xs : List A) (i : ℕ) (x : A) (w : SWord) → x ≡ get_or xs i x → i < length xs → IsStrange free (f x) w → HaveChannels free (map f (take i xs)) → IsFirstNotFree free (map f xs) w
first_strange f free xs i x w e l g h = let c = cut_at f xs i x e l in first_at free (map f xs) (map f (take i xs)) c.0 (f x) w c.1 h g
