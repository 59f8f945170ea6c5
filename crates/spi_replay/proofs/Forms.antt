-- What the process at a node does is what its form waits for.
use Rattle.std.proofs.Common.{◌≡◌, ℕ, suc, ◌+◌, Bool, true, false, List, [], ◌∷◌, length, Option, Some, None, refl, sym, ap, ◌∙◌, subst, arith, true≢false}
use Rattle.std.specs.Prelude.{if◌then◌else◌, ⊤}
use Rattle.spi_term.specs.Term.{Message, name, pair, in_left, in_right, enc, same_message, Ty, Leaf, Sends, Stops, Prefix, Recvs, Serves, Splits, Selects, Decrypts, Checks, Begins, Ends, EndManys, Casts, Freshes, Fork, Branches, Pars, Process, leaf, prefix, fork, binds, fork_binds, send, stop, recv, serve, split, select, decrypt, check, begin, end, end_many, cast, branch, par}
use Rattle.spi_term.specs.Substitution.{ty_map, process_put, replace}
use Rattle.spi_term.specs.Names.{MessageOver, OfLeaf, OfPrefix, OfFork}
use Rattle.spi_term.specs.Spelling.{Shape, leaf_at, prefix_at, fork_at}
use Rattle.spi_term.specs.Arena.{scope_of}
use Rattle.spi_intern.proofs.MessageLaws.{same_true}
use Rattle.spi_replay.proofs.Same.{same_of}
use Rattle.spi_run.specs.Reduction.{Event, Acts, acts_split, acts_select, acts_inl, acts_inr, acts_decrypt, acts_check, acts_begin, acts_end, acts_end_many, acts_cast, acts_fresh, acts_par}
use Rattle.spi_replay.specs.Stepping.{bound_here}
use Rattle.spi_replay.specs.Holding.{value, held_message, held, subtree, held_at, IsClosed, AllClosed}
use Rattle.spi_replay.specs.Moves.{event_of, Move, stays, puts, takes, takes_again, binds_one, binds_two, goes_on, shows, makes, forks, split_move, select_move, decrypt_move, branch_move, check_move, move_of}
use Rattle.spi_replay.specs.declared.waits.Kind.{Kind}
use Rattle.spi_replay.specs.declared.waits.Kind.TheVariants.{Begin, End, EndMany}
use Rattle.spi_replay.proofs.Opening.{closed_replace, closed_value, held_here, put_one, put_two}
use Rattle.spi_replay.proofs.Subtrees.{FollowsNode, IsNode, node_leaf, node_prefix, node_fork}

-- no output and no input
abbrev pub IsQuiet : Process → Type 0
IsQuiet (send m n) = ⊥
IsQuiet (recv m t p) = ⊥
IsQuiet (serve m t p) = ⊥
IsQuiet p = ⊤

-- no step alone
pub record IsStill (p : Process) : Type 0 where
  pub still : (n : ℕ) (e : Option Event) (n' : ℕ) (p' : Process) (more : List Process) → Acts n p e n' p' more → ⊥

-- an input's body, opened with a message, is the process at a node with the message
pub record OpensByForm (k : ℕ) (ss : List Shape) (vs : List Message) (q : Process) (i : ℕ) : Type 0 where
  pub opens : (m : Message) → process_put m q ≡ held_at k (m ∷ vs) ss i
  pub follows : (m : Message) → FollowsNode ss i (k + length (m ∷ vs))

-- one step alone
pub record LeadsByOne (n : ℕ) (p : Process) (e : Option Event) (n' : ℕ) (q : Process) (more : List Process) (bs : List Message) : Type 0 where
  pub acts : Acts n p e n' q more
  pub binds : bound_here n p ≡ bs

-- a process does what a move says, and goes on at its nodes
pub data MovesByForm (k : ℕ) (ss : List Shape) (vs : List Message) (p : Process) : Move → Type 0 where
  moves_stays : IsQuiet p → IsStill p → MovesByForm k ss vs p stays
  moves_puts : {a b : Message} → p ≡ send a b → IsClosed b → MovesByForm k ss vs p (puts a b)
  moves_takes : {a : Message} {t : Ty} {q : Process} {i : ℕ} → p ≡ recv a t q → OpensByForm k ss vs q i → MovesByForm k ss vs p (takes a i)
  moves_takes_again : {a : Message} {t : Ty} {q : Process} {i : ℕ} → p ≡ serve a t q → OpensByForm k ss vs q i → MovesByForm k ss vs p (takes_again a i)
  moves_one : {a : Message} {i : ℕ} → IsQuiet p → IsClosed a → ((n : ℕ) → LeadsByOne n p None n (held_at k (a ∷ vs) ss i) [] (a ∷ [])) → FollowsNode ss i (k + length (a ∷ vs)) → MovesByForm k ss vs p (binds_one a i)
  moves_two : {a b : Message} {i : ℕ} → IsQuiet p → IsClosed a → IsClosed b → ((n : ℕ) → LeadsByOne n p None n (held_at k (b ∷ (a ∷ vs)) ss i) [] (a ∷ (b ∷ []))) → FollowsNode ss i (k + length (b ∷ (a ∷ vs))) → MovesByForm k ss vs p (binds_two a b i)
  moves_on : {i : ℕ} → IsQuiet p → ((n : ℕ) → LeadsByOne n p None n (held_at k vs ss i) [] []) → FollowsNode ss i (k + length vs) → MovesByForm k ss vs p (goes_on i)
  moves_shows : {e : Kind} {a : Message} {i : ℕ} → IsQuiet p → ((n : ℕ) → LeadsByOne n p (Some (event_of e a)) n (held_at k vs ss i) [] (a ∷ [])) → FollowsNode ss i (k + length vs) → MovesByForm k ss vs p (shows e a i)
  moves_makes : {i : ℕ} → IsQuiet p → ((n : ℕ) → LeadsByOne n p None (suc n) (held_at k (name n ∷ vs) ss i) [] (name n ∷ [])) → ((n : ℕ) → FollowsNode ss i (k + length (name n ∷ vs))) → MovesByForm k ss vs p (makes i)
  moves_forks : {i j : ℕ} → IsQuiet p → ((n : ℕ) → LeadsByOne n p None n (held_at k vs ss i) (held_at k vs ss j ∷ []) []) → FollowsNode ss i (k + length vs) → FollowsNode ss j (k + length vs) → MovesByForm k ss vs p (forks i j)

not_same : {a b : Message} → same_message a b ≡ false → a ≡ b → ⊥
not_same f e = true≢false (sym (same_of e) ∙ f)

match_same : {n n' : ℕ} {a b c : Message} {t u : Ty} {p p' : Process} {e : Option Event} {more : List Process} → Acts n (select (pair a b) t c u p) e n' p' more → a ≡ c
match_same (acts_select e) = e

decrypt_same : {n n' : ℕ} {a k c : Message} {t : Ty} {p p' : Process} {e : Option Event} {more : List Process} → Acts n (decrypt (enc a k) t c p) e n' p' more → k ≡ c
decrypt_same (acts_decrypt e) = e

check_same : {n n' : ℕ} {a c : Message} {p p' : Process} {e : Option Event} {more : List Process} → Acts n (check a c p) e n' p' more → a ≡ c
check_same (acts_check e) = e

acts_to : {n n' : ℕ} {p q q' : Process} {e : Option Event} {more : List Process} → q ≡ q' → Acts n p e n' q more → Acts n p e n' q' more
acts_to {n} {n'} {p} {q} {q'} {e} {more} f a = subst (λ r. Acts n p e n' r more) f a

module _ (k : ℕ) (ss : List Shape) (vs : List Message) (closed : AllClosed vs) where
  -- the body under b binders
  abbrev body : ℕ → ℕ → Process
  body b i = held (value k vs) (k + length vs) (k + length vs + b) (subtree ss i)

  scope_to : {i s s' : ℕ} → s ≡ s' → FollowsNode ss i s → FollowsNode ss i s'
  scope_to {i} e f = subst (FollowsNode ss i) e f

  one_more : (m : Message) {i : ℕ} → FollowsNode ss i (k + length vs + 1) → FollowsNode ss i (k + length (m ∷ vs))
  one_more m f = scope_to (let e : k + length vs + 1 ≡ k + suc (length vs) = omega arith in e) f

  two_more : (m d : Message) {i : ℕ} → FollowsNode ss i (k + length vs + 2) → FollowsNode ss i (k + length (d ∷ (m ∷ vs)))
  two_more m d f = scope_to (let e : k + length vs + 2 ≡ k + suc (suc (length vs)) = omega arith in e) f

  none_more : {i : ℕ} → FollowsNode ss i (k + length vs + 0) → FollowsNode ss i (k + length vs)
  none_more f = scope_to (let e : k + length vs + 0 ≡ k + length vs = omega arith in e) f

  opened : (i : ℕ) → FollowsNode ss i (k + length vs + 1) → (m : Message) → process_put m (body 1 i) ≡ held_at k (m ∷ vs) ss i
  opened i f m = put_one k vs closed m (subtree ss i) f.within

  same_body : (i : ℕ) → body 0 i ≡ held_at k vs ss i
  same_body i = let e : k + length vs + 0 ≡ k + length vs = omega arith in ap (λ s. held (value k vs) (k + length vs) s (subtree ss i)) e

  split_moves : (w : Message) (t u : Ty) (i : ℕ) → IsClosed w → FollowsNode ss i (k + length vs + 2) → MovesByForm k ss vs (split w t u (body 2 i)) (split_move w i)
  split_moves (pair a b) t u i c f =
      moves_two tt c.0 c.1 (λ n. record { acts = acts_to (put_two k vs closed a b c.0 (subtree ss i) f.within) acts_split; binds = refl }) (two_more a b f)
  split_moves w t u i c f = moves_stays tt (record { still = λ n e n' p' more a. elim a [ ] })

  select_moves : (w d : Message) (t u : Ty) (i : ℕ) → IsClosed w → FollowsNode ss i (k + length vs + 1) → MovesByForm k ss vs (select w t d u (body 1 i)) (select_move w d i)
  select_moves (pair a b) d t u i c f = by (same_message a d) refl
    where
      by : (z : Bool) → same_message a d ≡ z → MovesByForm k ss vs (select (pair a b) t d u (body 1 i)) (if z then binds_one b i else stays)
      by true e = moves_one tt c.1 (λ n. record { acts = acts_to (opened i f b) (acts_select (same_true a d e)); binds = refl }) (one_more b f)
      by false e = moves_stays tt (record { still = λ n e' n' p' more x. not_same e (match_same x) })
  select_moves w d t u i c f = moves_stays tt (record { still = λ n e n' p' more a. elim a [ ] })

  decrypt_moves : (w d : Message) (t : Ty) (i : ℕ) → IsClosed w → FollowsNode ss i (k + length vs + 1) → MovesByForm k ss vs (decrypt w t d (body 1 i)) (decrypt_move w d i)
  decrypt_moves (enc a b) d t i c f = by (same_message b d) refl
    where
      by : (z : Bool) → same_message b d ≡ z → MovesByForm k ss vs (decrypt (enc a b) t d (body 1 i)) (if z then binds_one a i else stays)
      by true e = moves_one tt c.0 (λ n. record { acts = acts_to (opened i f a) (acts_decrypt (same_true b d e)); binds = refl }) (one_more a f)
      by false e = moves_stays tt (record { still = λ n e' n' p' more x. not_same e (decrypt_same x) })
  decrypt_moves w d t i c f = moves_stays tt (record { still = λ n e n' p' more a. elim a [ ] })

  branch_moves : (w : Message) (t u : Ty) (i j : ℕ) → IsClosed w → FollowsNode ss i (k + length vs + 1) → FollowsNode ss j (k + length vs + 1) → MovesByForm k ss vs (branch w t (body 1 i) u (body 1 j)) (branch_move w i j)
  branch_moves (in_left a) t u i j c f g =
      moves_one tt c (λ n. record { acts = acts_to (opened i f a) acts_inl; binds = refl }) (one_more a f)
  branch_moves (in_right a) t u i j c f g =
      moves_one tt c (λ n. record { acts = acts_to (opened j g a) acts_inr; binds = refl }) (one_more a g)
  branch_moves w t u i j c f g = moves_stays tt (record { still = λ n e n' p' more a. elim a [ ] })

  check_moves : (w d : Message) (i : ℕ) → FollowsNode ss i (k + length vs + 0) → MovesByForm k ss vs (check w d (body 0 i)) (check_move w d i)
  check_moves w d i f = by (same_message w d) refl
    where
      by : (z : Bool) → same_message w d ≡ z → MovesByForm k ss vs (check w d (body 0 i)) (if z then goes_on i else stays)
      by true e = moves_on tt (λ n. record { acts = acts_to (same_body i) (acts_check (same_true w d e)); binds = refl }) (none_more f)
      by false e = moves_stays tt (record { still = λ n e' n' p' more x. not_same e (check_same x) })

  here : (m : Message) → MessageOver (k + length vs) 0 m → held_message (value k vs) (k + length vs) (k + length vs) 0 m ≡ replace (value k vs) m
  here m h = held_here (value k vs) (k + length vs) m h

  shut : (m : Message) → MessageOver (k + length vs) 0 m → IsClosed (replace (value k vs) m)
  shut m h = closed_replace (value k vs) (closed_value k vs closed) (k + length vs) m h

  abbrev ty_here : ℕ → Ty → Ty
  ty_here d t = ty_map (held_message (value k vs) (k + length vs) (k + length vs)) d t

  takes_one : (i : ℕ) → FollowsNode ss i (k + length vs + 1) → OpensByForm k ss vs (body 1 i) i
  takes_one i f = record { opens = opened i f; follows = λ m. one_more m f }

  leaf_moves : (s : ℕ) (l : Leaf) → OfLeaf (MessageOver (k + length vs)) 0 l → MovesByForm k ss vs (held (value k vs) (k + length vs) (k + length vs) (leaf l)) (move_of (value k vs) (leaf_at s l))
  leaf_moves s (Sends m d) h = moves_puts (λ i. send (here m h.0 i) (here d h.1 i)) (shut d h.1)
  leaf_moves s Stops h = moves_stays tt (record { still = λ n e n' p' more a. elim a [ ] })

  prefix_moves : (s : ℕ) (x : Prefix) (i : ℕ) → OfPrefix (MessageOver (k + length vs)) 0 x → FollowsNode ss i (k + length vs + binds x) → MovesByForm k ss vs (held (value k vs) (k + length vs) (k + length vs) (prefix x (subtree ss i))) (move_of (value k vs) (prefix_at s x i))
  prefix_moves s (Recvs m t) i h f = moves_takes (ap (λ w. recv w (ty_here 0 t) (body 1 i)) (here m h.0)) (takes_one i f)
  prefix_moves s (Serves m t) i h f = moves_takes_again (ap (λ w. serve w (ty_here 0 t) (body 1 i)) (here m h.0)) (takes_one i f)
  prefix_moves s (Splits m t u) i h f =
      subst (λ w. MovesByForm k ss vs (split w (ty_here 0 t) (ty_here 1 u) (body 2 i)) (split_move (replace (value k vs) m) i)) (sym (here m h.0)) (split_moves (replace (value k vs) m) (ty_here 0 t) (ty_here 1 u) i (shut m h.0) f)
  prefix_moves s (Selects m t d u) i h f =
      let w' = replace (value k vs) m in
      let d' = replace (value k vs) d in
      subst (λ d0. MovesByForm k ss vs (select (held_message (value k vs) (k + length vs) (k + length vs) 0 m) (ty_here 0 t) d0 (ty_here 1 u) (body 1 i)) (select_move w' d' i)) (sym (here d h.2)) (subst (λ w. MovesByForm k ss vs (select w (ty_here 0 t) d' (ty_here 1 u) (body 1 i)) (select_move w' d' i)) (sym (here m h.0)) (select_moves w' d' (ty_here 0 t) (ty_here 1 u) i (shut m h.0) f))
  prefix_moves s (Decrypts m t d) i h f =
      let w' = replace (value k vs) m in
      let d' = replace (value k vs) d in
      subst (λ d0. MovesByForm k ss vs (decrypt (held_message (value k vs) (k + length vs) (k + length vs) 0 m) (ty_here 0 t) d0 (body 1 i)) (decrypt_move w' d' i)) (sym (here d h.2)) (subst (λ w. MovesByForm k ss vs (decrypt w (ty_here 0 t) d' (body 1 i)) (decrypt_move w' d' i)) (sym (here m h.0)) (decrypt_moves w' d' (ty_here 0 t) i (shut m h.0) f))
  prefix_moves s (Checks m d) i h f =
      let w' = replace (value k vs) m in
      let d' = replace (value k vs) d in
      subst (λ d0. MovesByForm k ss vs (check (held_message (value k vs) (k + length vs) (k + length vs) 0 m) d0 (body 0 i)) (check_move w' d' i)) (sym (here d h.1)) (subst (λ w. MovesByForm k ss vs (check w d' (body 0 i)) (check_move w' d' i)) (sym (here m h.0)) (check_moves w' d' i f))
  prefix_moves s (Begins m) i h f =
      subst (λ w. MovesByForm k ss vs (begin w (body 0 i)) (shows Begin (replace (value k vs) m) i)) (sym (here m h)) (moves_shows tt (λ n. record { acts = acts_to (same_body i) acts_begin; binds = refl }) (none_more f))
  prefix_moves s (Ends m) i h f =
      subst (λ w. MovesByForm k ss vs (end w (body 0 i)) (shows End (replace (value k vs) m) i)) (sym (here m h)) (moves_shows tt (λ n. record { acts = acts_to (same_body i) acts_end; binds = refl }) (none_more f))
  prefix_moves s (EndManys m) i h f =
      subst (λ w. MovesByForm k ss vs (end_many w (body 0 i)) (shows EndMany (replace (value k vs) m) i)) (sym (here m h)) (moves_shows tt (λ n. record { acts = acts_to (same_body i) acts_end_many; binds = refl }) (none_more f))
  prefix_moves s (Casts m t) i h f =
      let w' = replace (value k vs) m in
      subst (λ w. MovesByForm k ss vs (cast w (ty_here 0 t) (body 1 i)) (binds_one w' i)) (sym (here m h.0)) (moves_one tt (shut m h.0) (λ n. record { acts = acts_to (opened i f w') acts_cast; binds = refl }) (one_more w' f))
  prefix_moves s (Freshes t) i h f = moves_makes tt (λ n. record { acts = acts_to (opened i f (name n)) acts_fresh; binds = refl }) (λ n. one_more (name n) f)

  fork_moves : (s : ℕ) (x : Fork) (i j : ℕ) → OfFork (MessageOver (k + length vs)) 0 x → FollowsNode ss i (k + length vs + fork_binds x) → FollowsNode ss j (k + length vs + fork_binds x) → MovesByForm k ss vs (held (value k vs) (k + length vs) (k + length vs) (fork x (subtree ss i) (subtree ss j))) (move_of (value k vs) (fork_at s x i j))
  fork_moves s (Branches m t u) i j h f g =
      subst (λ w. MovesByForm k ss vs (branch w (ty_here 0 t) (body 1 i) (ty_here 0 u) (body 1 j)) (branch_move (replace (value k vs) m) i j)) (sym (here m h.0)) (branch_moves (replace (value k vs) m) (ty_here 0 t) (ty_here 0 u) i j (shut m h.0) f g)
  fork_moves s Pars i j h f g =
      moves_forks tt (λ n. record { acts = subst (λ q. Acts n (par (body 0 i) (body 0 j)) None n (held_at k vs ss i) (q ∷ [])) (same_body j) (acts_to (same_body i) acts_par); binds = refl }) (none_more f) (none_more g)

  pub node_moves : (i : ℕ) (x : Shape) → IsNode ss i x → scope_of x ≡ k + length vs → MovesByForm k ss vs (held_at k vs ss i) (move_of (value k vs) x)
  node_moves i _ (node_leaf {s} {l} h t) e =
      subst (λ q. MovesByForm k ss vs (held (value k vs) (k + length vs) (k + length vs) q) (move_of (value k vs) (leaf_at s l))) (sym t) (leaf_moves s l (subst (λ n. OfLeaf (MessageOver n) 0 l) e h))
  node_moves i _ (node_prefix {s} {b} {t = x} h t f) e =
      subst (λ q. MovesByForm k ss vs (held (value k vs) (k + length vs) (k + length vs) q) (move_of (value k vs) (prefix_at s x b))) (sym t) (prefix_moves s x b (subst (λ n. OfPrefix (MessageOver n) 0 x) e h) (subst (λ n. FollowsNode ss b (n + binds x)) e f))
  node_moves i _ (node_fork {s} {a} {r} {f = x} h t f g) e =
      subst (λ q. MovesByForm k ss vs (held (value k vs) (k + length vs) (k + length vs) q) (move_of (value k vs) (fork_at s x a r))) (sym t) (fork_moves s x a r (subst (λ n. OfFork (MessageOver n) 0 x) e h) (subst (λ n. FollowsNode ss a (n + fork_binds x)) e f) (subst (λ n. FollowsNode ss r (n + fork_binds x)) e g))

-- a place that is done
pub done_moves : (k : ℕ) (ss : List Shape) (vs : List Message) (z : Bool) (p : Process) (v : Move) → MovesByForm k ss vs p v → MovesByForm k ss vs (if z then stop else p) (if z then stays else v)
done_moves k ss vs true p v m = moves_stays tt (record { still = λ n e n' p' more a. elim a [ ] })
done_moves k ss vs false p v m = m
