-- The nodes that block are those that are gathered so.
use Rattle.std.proofs.Common.{◌≡◌, refl, ap, ◌∙◌, ℕ, Bool, true, false, not, [], length, Some}
use Rattle.spi_infer.proofs.Blocked.{has_none, has_effect, root_yes, root_no, fork_yes, fork_no}
use Rattle.spi_infer.proofs.Nodes.{node_of, reached_of, blocks_of, stops_of}
use Rattle.spi_infer.proofs.Reach.{ReachesNode, reach_root, reach_prefix, reach_first, reach_rest, StopsPaying}
use Rattle.spi_infer.specs.Forms.{leaf_ok, keep, effect_of}
use Rattle.spi_message.proofs.Opened.{numbered_leaf}
use Rattle.spi_origin.proofs.Chosen.{computed_of, is_own, Chosen, chosen_here, chosen_prefix, chosen_first, chosen_rest}
use Rattle.spi_origin.specs.Gathering.{all_blocking}
use Rattle.spi_rules.specs.Blocking.{Blocks}
use Rattle.spi_rules.specs.Environment.{Env}
use Rattle.spi_term.specs.Term.{Leaf, Process, leaf, prefix, fork}

leaf_effect : (e : Env) (l : Leaf) (b : Bool) → leaf_ok e l ≡ b → computed_of e (leaf l) ≡ keep b (Some [])
leaf_effect e l b h = ap (λ q. effect_of q e) (numbered_leaf (length e) l) ∙ ap (λ b. keep b (Some [])) h

own_stops : (e : Env) (p : Process) → is_own all_blocking e p ≡ true → StopsPaying e p
own_stops e (leaf l) h = has_none e (leaf l) (leaf_effect e l false (not_true (leaf_ok e l) h))
  where
    not_true : (b : Bool) → not b ≡ true → b ≡ false
    not_true true h = absurd (cc h)
    not_true false h = refl
own_stops e (prefix s p) h = root_yes e s p _ refl h
own_stops e (fork f p q) h = fork_yes e f p q _ _ refl refl h

by_false : (b : Bool) → (b ≡ false → ⊥) → b ≡ true
by_false true f = refl
by_false false f = absurd (f refl)

stops_own : (e : Env) (p : Process) → StopsPaying e p → is_own all_blocking e p ≡ true
stops_own e (leaf l) h = by (leaf_ok e l) refl
  where
    by : (b : Bool) → leaf_ok e l ≡ b → not (leaf_ok e l) ≡ true
    by false f = ap not f
    by true f = absurd (h [] (has_effect e (leaf l) [] (leaf_effect e l true f)))
stops_own e (prefix s p) h = by_false _ (λ f. root_no e s p _ refl f h)
stops_own e (fork f p q) h = by_false _ (λ g. fork_no e f p q _ _ refl refl g h)

pub data StopsAt (e : Env) (p : Process) (i : ℕ) : Type 0 where
  stops_at : {e' : Env} {p' : Process} → ReachesNode e p i e' p' → StopsPaying e' p' → StopsAt e p i

chosen_stops : {e : Env} {p : Process} {i : ℕ} → Chosen all_blocking e p i → StopsAt e p i
chosen_stops {p = p} (chosen_here {e = e} k o) = stops_at reach_root (own_stops e p o)
chosen_stops (chosen_prefix {s = s} k c) = elim (chosen_stops c) [ stops_at r b ↦ stops_at (reach_prefix {s = s} r) b ]
chosen_stops (chosen_first {f = f} k c) = elim (chosen_stops c) [ stops_at r b ↦ stops_at (reach_first {f = f} r) b ]
chosen_stops (chosen_rest {f = f} k c h) = elim (chosen_stops c) [ stops_at r b ↦ stops_at (reach_rest {f = f} r h) b ]

reached_chosen : {e e' : Env} {p p' : Process} {i : ℕ} → ReachesNode e p i e' p' → StopsPaying e' p' → Chosen all_blocking e p i
reached_chosen {e = e} {p = p} reach_root b = chosen_here refl (stops_own e p b)
reached_chosen (reach_prefix r) b = chosen_prefix refl (reached_chosen r b)
reached_chosen (reach_first r) b = chosen_first refl (reached_chosen r b)
reached_chosen (reach_rest r h) b = chosen_rest refl (reached_chosen r b) h

pub chosen_blocks : {e : Env} {p : Process} {i : ℕ} → Chosen all_blocking e p i → Blocks e p i
chosen_blocks c = elim (chosen_stops c) [ stops_at {e' = e'} {p' = p'} r b ↦ (e', (p', (node_of r, blocks_of b))) ]

pub blocks_chosen : {e : Env} {p : Process} {i : ℕ} → Blocks e p i → Chosen all_blocking e p i
blocks_chosen b = reached_chosen (reached_of b.1.1.0) (stops_of b.1.0 b.1.1.1)
