-- A process behind `new`s, and another one in its place.
use Rattle.std.proofs.Common.{◌≡◌, ℕ, ◌+◌, List, [], ◌∷◌, ◌++◌, length, map, refl, sym, ap, ◌∙◌, arith}
use Rattle.std.proofs.lemmas.List.{map_push}
use Rattle.spi_text.specs.declared.lines.Span.{Span}
use Rattle.spi_tree.specs.declared.tree.SWord.{SWord}
use Rattle.spi_tree.specs.declared.tree.NewParts.{NewParts}
use Rattle.spi_tree.specs.declared.tree.SProc.{SProc}
use Rattle.spi_tree.specs.declared.tree.SProc.TheVariants as sproc
use Rattle.spi_tree.specs.Trees as t
use Rattle.spi_tree.specs.Views.{proc_of}
use Rattle.spi_heading.specs.Headings as h
use Rattle.spi_heading.specs.declared.shared.Shared.{Shared}
use Rattle.spi_heading.specs.Views.{shared_of}
use Rattle.std.specs.Global.{Box}
use Rattle.spi_workbench.specs.Reading.{behind_shared}

behind_last : (ss : List h.Shared) (s : h.Shared) (p : t.Proc) → behind_shared (ss ++ s ∷ []) p ≡ behind_shared ss (t.new s.span s.name s.ty p)
behind_last [] s p = refl
behind_last (r ∷ ss) s p = ap (t.new r.span r.name r.ty) (behind_last ss s p)

-- the last shared name goes before the process
pub popped : (old new : List Shared) (s : Shared) (p q : t.Proc) → old ≡ new ++ s ∷ [] → q ≡ t.new (shared_of s).span (shared_of s).name (shared_of s).ty p → behind_shared (map shared_of new) q ≡ behind_shared (map shared_of old) p
popped old new s p q e f =
    ap (behind_shared (map shared_of new)) f
    ∙ sym (behind_last (map shared_of new) (shared_of s) p)
    ∙ ap (λ l. behind_shared l p) (sym (map_push shared_of new s))
    ∙ ap (λ l. behind_shared (map shared_of l) p) (sym e)

pub none_left : (ss : List Shared) (p : t.Proc) → length ss ≡ 0 → behind_shared (map shared_of ss) p ≡ p
none_left [] p e = refl
none_left (s ∷ ss) p e = absurd (omega (arith, e))

-- the place behind one `new` and behind more
pub placed_behind : (s : Span) (x : SWord) (a : t.Ty) (q r part : t.Proc) (n m : ℕ) → n ≡ m + 1
    → ((ss : List h.Shared) (p : t.Proc) → length ss ≡ m → q ≡ behind_shared ss p → r ≡ behind_shared ss part)
    → (ss : List h.Shared) (p : t.Proc) → length ss ≡ n → t.new s x a q ≡ behind_shared ss p → t.new s x a r ≡ behind_shared ss part
placed_behind s x a q r part n m e ih [] p l h = absurd (omega (arith, e, l))
placed_behind s x a q r part n m e ih (y ∷ ss) p l h =
    let f : q ≡ behind_shared ss p = cc in
    let g : r ≡ behind_shared ss part = ih ss p (omega (arith, e, l)) f in
    cc

pub not_behind : (r : SProc) (n : ℕ) → (n ≡ 0 → ⊥) → ((b : Box NewParts) → (s : Span) → r ≡ sproc.New b s → ⊥)
    → (ss : List h.Shared) (p : t.Proc) → length ss ≡ n → proc_of r ≡ behind_shared ss p → ⊥
not_behind r n z other [] p l h = z (sym l)
not_behind (sproc.Par' _ _ _ _) n z other (y ∷ ss) p l h = cc
not_behind (sproc.Out _ _) n z other (y ∷ ss) p l h = cc
not_behind (sproc.OutThen' _ _ _ _ _) n z other (y ∷ ss) p l h = cc
not_behind (sproc.Inp' _ _ _ _ _ _) n z other (y ∷ ss) p l h = cc
not_behind (sproc.Repeat' _ _ _ _ _ _) n z other (y ∷ ss) p l h = cc
not_behind (sproc.Split' _ _ _ _ _ _ _ _) n z other (y ∷ ss) p l h = cc
not_behind (sproc.Match' _ _ _ _ _ _ _ _ _) n z other (y ∷ ss) p l h = cc
not_behind (sproc.Case' _ _ _ _ _ _ _ _ _) n z other (y ∷ ss) p l h = cc
not_behind (sproc.Decrypt' _ _ _ _ _ _ _) n z other (y ∷ ss) p l h = cc
not_behind (sproc.Check' _ _ _ _ _) n z other (y ∷ ss) p l h = cc
not_behind (sproc.Begin' _ _ _ _) n z other (y ∷ ss) p l h = cc
not_behind (sproc.End' _ _ _ _) n z other (y ∷ ss) p l h = cc
not_behind (sproc.EndMany' _ _ _ _) n z other (y ∷ ss) p l h = cc
not_behind (sproc.Cast' _ _ _ _ _ _) n z other (y ∷ ss) p l h = cc
not_behind (sproc.New' b x a c s) n z other (y ∷ ss) p l h = other (record { ptr = b.ptr; alloc = b.alloc; value = record { name = x; ty = a; then = c } }) s refl
not_behind (sproc.Stop _) n z other (y ∷ ss) p l h = cc
not_behind (sproc.Group' _ _ _ _) n z other (y ∷ ss) p l h = cc
