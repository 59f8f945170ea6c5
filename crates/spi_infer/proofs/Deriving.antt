-- What is derivable at all, and where a node blocks.
use Rattle.std.proofs.Common.{◌≡◌, ◌⊎◌, ◌↔◌, inl, inr, refl, sym, ap, ◌∙◌, ℕ, [], ◌++◌, length, Option, Some, None}
use Rattle.spi_term.specs.Term.{Effect, Prefix, Fork, Process, prefix, fork, binds, fork_binds}
use Rattle.spi_term.specs.Names.{ProcessOver}
use Rattle.spi_term.specs.Spelling.{numbered}
use Rattle.spi_rules.specs.Environment.{Env}
use Rattle.spi_rules.specs.Derivations.{Derivable}
use Rattle.spi_rules.specs.Least.{Least}
use Rattle.spi_rules.specs.Blocking.{Blocks}
use Rattle.spi_rules.proofs.Paying.{has_pays}
use Rattle.spi_rules.proofs.Least.{least_of}
use Rattle.spi_message.specs.Forms.{enter, more, on_first, on_rest}
use Rattle.spi_infer.specs.Forms.{prefix_ok, fork_ok, paid_by, by_effect, by_effects, after_prefix, both, effect_of}
use Rattle.spi_message.proofs.Opened.{numbered_prefix, numbered_fork}
use Rattle.spi_infer.proofs.Least.{sound, keep_some, after_some, both_some}
use Rattle.spi_infer.proofs.Reach.{ReachesNode, reach_root, reach_prefix, reach_first, reach_rest}
use Rattle.spi_infer.proofs.Blocked.{Found, none_blocks, one_blocks, found, has_none}
use Rattle.spi_infer.proofs.Nodes.{first_blocks, reached_of}

abbrev least_effect_in : Env → Process → Option Effect
least_effect_in e p = effect_of (numbered [] (length e) p) e

abbrev IsComputed : Env → Process → Type 0
IsComputed e p = (es : Effect) × (least_effect_in e p ≡ Some es)

-- where something is computed of a form, it is of each process in it
in_prefix : (e : Env) (s : Prefix) (p : Process) → IsComputed e (prefix s p) → IsComputed (e ++ more e s) (enter (binds s) (length e) p)
in_prefix e s p c =
    let f = after_prefix (length e) (paid_by e s) s in
    let o = least_effect_in (e ++ more e s) (enter (binds s) (length e) p) in
    let a = keep_some (prefix_ok e s) (by_effect f o) c.0 (ap (λ q. effect_of q e) (sym (numbered_prefix e s p)) ∙ c.1) in
    let b = after_some f o c.0 a.1 in
    (b.0, b.1)

in_fork : (e : Env) (f : Fork) (p q : Process) → IsComputed e (fork f p q) → IsComputed (e ++ on_first f) (enter (fork_binds f) (length e) p) × IsComputed (e ++ on_rest f) (enter (fork_binds f) (length e) q)
in_fork e f p q c =
    let g = both (length e) f in
    let o = least_effect_in (e ++ on_first f) (enter (fork_binds f) (length e) p) in
    let o' = least_effect_in (e ++ on_rest f) (enter (fork_binds f) (length e) q) in
    let a = keep_some (fork_ok e f) (by_effects g o o') c.0 (ap (λ q. effect_of q e) (sym (numbered_fork e f p q)) ∙ c.1) in
    let b = both_some g o o' c.0 a.1 in
    ((b.0, b.2), (b.1, b.3))

in_node : {e e' : Env} {p p' : Process} {i : ℕ} → ReachesNode e p i e' p' → IsComputed e p → IsComputed e' p'
in_node reach_root c = c
in_node {e = e} (reach_prefix {s = s} {p = p} r) c = in_node r (in_prefix e s p c)
in_node {e = e} (reach_first {f = f} {p = p} {q = q} r) c = in_node r (in_fork e f p q c).0
in_node {e = e} (reach_rest {f = f} {p = p} {q = q} r g) c = in_node r (in_fork e f p q c).1

-- a least effect, or nothing is derivable
least_or : (e : Env) (p : Process) (o : Option Effect) → ProcessOver (length e) p → least_effect_in e p ≡ o → ((es : Effect) × Least e p es) ⊎ ((es : Effect) → Derivable e p es → ⊥)
least_or e p None over h = inr (λ es d. has_none e p h es (has_pays d.has))
least_or e p (Some es) over h = inl (es, least_of over (sound h))

pub least_or_none : (e : Env) (p : Process) → ProcessOver (length e) p → ((es : Effect) × Least e p es) ⊎ ((es : Effect) → Derivable e p es → ⊥)
least_or_none e p over = least_or e p (least_effect_in e p) over refl

-- a node that blocks is there where nothing is derivable, and nowhere else
some_block : (e : Env) (p : Process) (a : Option ℕ) (o : Option Effect) → Found e p 0 a o → o ≡ None → (i : ℕ) × Blocks e p i
some_block e p _ _ (none_blocks nb) h = absurd (cc)
some_block e p _ _ (one_blocks {j = j} f fb) h = (j, (first_blocks fb).0)

none_derivable : (e : Env) (p : Process) (o : Option Effect) → ProcessOver (length e) p → least_effect_in e p ≡ o → ((es : Effect) → Derivable e p es → ⊥) → o ≡ None
none_derivable e p None over h n = refl
none_derivable e p (Some es) over h n = absurd (n es (least_of over (sound h)).derivable)

no_derivation : (e : Env) (p : Process) (o : Option Effect) → least_effect_in e p ≡ o → ((i : ℕ) × Blocks e p i) → (es : Effect) → Derivable e p es → ⊥
no_derivation e p None h b es d = has_none e p h es (has_pays d.has)
no_derivation e p (Some fs) h (i, (e', (p', (at, blocks)))) es d =
    let c = in_node (reached_of at) (fs, h) in
    blocks.none (c.0, (sound c.1).has)

pub blocked : (e : Env) (p : Process) → ProcessOver (length e) p → ((es : Effect) → Derivable e p es → ⊥) ↔ ((i : ℕ) × Blocks e p i)
blocked e p over =
    (λ none. some_block e p _ _ (found p e) (none_derivable e p (least_effect_in e p) over refl none), λ b. no_derivation e p (least_effect_in e p) refl b)
