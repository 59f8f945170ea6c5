-- A form and its processes, read off its node.
use Rattle.std.proofs.Common.{◌≡◌, sym, ap, ◌∙◌, subst, ℕ, zero, suc, ◌+◌, List, [], ◌∷◌, ◌++◌, length, drop, Option, Some, arith, append_assoc, length-append, Result, IfOk}
use Rattle.std.specs.Prelude.{slice_get}
use Rattle.std.proofs.lemmas.Result.{IfOk-weaker}
use Rattle.spi_term.specs.Term.{Leaf, Prefix, Fork, Process, leaf, prefix, fork, binds, fork_binds, process_size}
use Rattle.spi_term.proofs.Rows.{length_flat}
use Rattle.spi_term.specs.Spelling.{Shape, leaf_at, prefix_at, fork_at, flat, numbered}
use Rattle.spi_rules.specs.Environment.{Env}
use Rattle.spi_rules.specs.declared.rule.Rule.{Rule}
use Rattle.spi_message.specs.Judging.{Numbered}
use Rattle.spi_audit.specs.declared.asked.Premises.{Premises}
use Rattle.spi_audit.specs.Fits.{plain}
use Rattle.spi_message.specs.Forms.{enter, more, on_first, on_rest}
use Rattle.spi_audit.specs.Asked.{Located, Answered, AnswersLeaf, AnswersPrefix, AnswersFork, AnswersNode}
use Rattle.spi_message.proofs.Opened.{numbered_leaf, numbered_prefix, numbered_fork, length_more, length_first, length_rest}

-- what stands from a place on
drop_first : {A : Type 0} (xs : List A) (i : ℕ) (x y : A) (ys : List A) → drop i xs ≡ x ∷ ys → slice_get xs i ≡ Some y → x ≡ y
drop_first [] i x y ys d g = absurd cc
drop_first (z ∷ xs) zero x y ys d g = cc
drop_first (z ∷ xs) (suc i) x y ys d g = drop_first xs i x y ys d g

drop_second : {A : Type 0} (xs : List A) (i : ℕ) (x : A) (ys : List A) → drop i xs ≡ x ∷ ys → drop (suc i) xs ≡ ys
drop_second [] zero x ys d = absurd cc
drop_second [] (suc i) x ys d = absurd cc
drop_second (z ∷ xs) zero x ys d = cc
drop_second (z ∷ xs) (suc i) x ys d = drop_second xs i x ys d

drop_behind : {A : Type 0} (xs : List A) (i : ℕ) (ys zs : List A) → drop i xs ≡ ys ++ zs → drop (i + length ys) xs ≡ zs
drop_behind xs i [] zs d = let e : i + 0 ≡ i = omega arith in ap (λ n. drop n xs) e ∙ d
drop_behind xs i (y ∷ ys) zs d =
    let e : i + suc (length ys) ≡ suc i + length ys = omega arith in
    ap (λ n. drop n xs) e ∙ drop_behind xs (suc i) ys zs (drop_second xs i y (ys ++ zs) d)

-- the processes of a form as they stand, their binders opened
abbrev body_below : Env → Prefix → Process → Process
body_below e s p = numbered [] (length (e ++ more e s)) (enter (binds s) (length e) p)

abbrev first_child : Env → Fork → Process → Process
first_child e f p = numbered [] (length (e ++ on_first f)) (enter (fork_binds f) (length e) p)

abbrev rest_of : Env → Fork → Process → Process
rest_of e f q = numbered [] (length (e ++ on_rest f)) (enter (fork_binds f) (length e) q)

module _ (ss : List Shape) (i : ℕ) (e : Env) where
  at_leaf : (l : Leaf) (h : Located ss i e (leaf l)) → drop i ss ≡ leaf_at (length e) l ∷ h.rest
  at_leaf l h = h.is ∙ ap (λ q. flat i (length e) q ++ h.rest) (numbered_leaf (length e) l)

  at_prefix : (s : Prefix) (p : Process) (h : Located ss i e (prefix s p)) → drop i ss ≡ prefix_at (length e) s (suc i) ∷ (flat (suc i) (length e + binds s) (body_below e s p) ++ h.rest)
  at_prefix s p h = h.is ∙ ap (λ q. flat i (length e) q ++ h.rest) (numbered_prefix e s p)

  at_fork : (f : Fork) (p q : Process) (h : Located ss i e (fork f p q)) → drop i ss ≡ fork_at (length e) f (suc i) (suc i + process_size (first_child e f p)) ∷ ((flat (suc i) (length e + fork_binds f) (first_child e f p) ++ flat (suc i + process_size (first_child e f p)) (length e + fork_binds f) (rest_of e f q)) ++ h.rest)
  at_fork f p q h = h.is ∙ ap (λ q. flat i (length e) q ++ h.rest) (numbered_fork e f p q)

  body_there : (s : Prefix) (p : Process) → Located ss i e (prefix s p) → Located ss (suc i) (e ++ more e s) (enter (binds s) (length e) p)
  body_there s p h =
      let n : length e + binds s ≡ length (e ++ more e s) = omega (arith, length-append e (more e s), length_more e s) in
      record {
        rest = h.rest;
        is = drop_second ss i (prefix_at (length e) s (suc i)) (flat (suc i) (length e + binds s) (body_below e s p) ++ h.rest) (at_prefix s p h) ∙ ap (λ k. flat (suc i) k (body_below e s p) ++ h.rest) n;
      }

  module _ (f : Fork) (p q : Process) (h : Located ss i e (fork f p q)) where
    both_there : drop (suc i) ss ≡ flat (suc i) (length e + fork_binds f) (first_child e f p) ++ (flat (suc i + process_size (first_child e f p)) (length e + fork_binds f) (rest_of e f q) ++ h.rest)
    both_there =
        let a = flat (suc i) (length e + fork_binds f) (first_child e f p) in
        let b = flat (suc i + process_size (first_child e f p)) (length e + fork_binds f) (rest_of e f q) in
        drop_second ss i (fork_at (length e) f (suc i) (suc i + process_size (first_child e f p))) ((a ++ b) ++ h.rest) (at_fork f p q h) ∙ append_assoc a b h.rest

    first_there : Located ss (suc i) (e ++ on_first f) (enter (fork_binds f) (length e) p)
    first_there =
        let n : length e + fork_binds f ≡ length (e ++ on_first f) = omega (arith, length-append e (on_first f), length_first f) in
        let b = flat (suc i + process_size (first_child e f p)) (length e + fork_binds f) (rest_of e f q) in
        record { rest = b ++ h.rest; is = both_there ∙ ap (λ k. flat (suc i) k (first_child e f p) ++ (b ++ h.rest)) n }

    rest_there : Located ss (suc i + process_size (first_child e f p)) (e ++ on_rest f) (enter (fork_binds f) (length e) q)
    rest_there =
        let m = suc i + process_size (first_child e f p) in
        let a = flat (suc i) (length e + fork_binds f) (first_child e f p) in
        let n : length e + fork_binds f ≡ length (e ++ on_rest f) = omega (arith, length-append e (on_rest f), length_rest f) in
        let d = drop_behind ss (suc i) a (flat m (length e + fork_binds f) (rest_of e f q) ++ h.rest) both_there in
        let w : suc i + length a ≡ m = ap (λ n. suc i + n) (length_flat (first_child e f p) (suc i) (length e + fork_binds f)) in
        record { rest = h.rest; is = ap (λ n. drop n ss) (sym w) ∙ d ∙ ap (λ k. flat m k (rest_of e f q) ++ h.rest) n }

-- the form at a node
record LeafThere (l : Leaf) (q : Process) : Type 0 where
  pub is : q ≡ leaf l

record PrefixThere (ss : List Shape) (e : Env) (s : Prefix) (b : ℕ) (q : Process) : Type 0 where
  pub process : Process
  pub is : q ≡ prefix s process
  pub body : Located ss b (e ++ more e s) (enter (binds s) (length e) process)

record ForkThere (ss : List Shape) (e : Env) (f : Fork) (a b : ℕ) (q : Process) : Type 0 where
  pub left : Process
  pub right : Process
  pub is : q ≡ fork f left right
  pub first : Located ss a (e ++ on_first f) (enter (fork_binds f) (length e) left)
  pub rest : Located ss b (e ++ on_rest f) (enter (fork_binds f) (length e) right)

module _ (ss : List Shape) (i : ℕ) (e : Env) where
  leaf_is : (l : Leaf) (x : Shape) → Located ss i e (leaf l) → slice_get ss i ≡ Some x → leaf_at (length e) l ≡ x
  leaf_is l x h g = drop_first ss i (leaf_at (length e) l) x h.rest (at_leaf ss i e l h) g

  prefix_is : (s : Prefix) (p : Process) (x : Shape) → Located ss i e (prefix s p) → slice_get ss i ≡ Some x → prefix_at (length e) s (suc i) ≡ x
  prefix_is s p x h g =
      drop_first ss i (prefix_at (length e) s (suc i)) x (flat (suc i) (length e + binds s) (body_below e s p) ++ h.rest) (at_prefix ss i e s p h) g

  fork_is : (f : Fork) (p q : Process) (x : Shape) → Located ss i e (fork f p q) → slice_get ss i ≡ Some x → fork_at (length e) f (suc i) (suc i + process_size (first_child e f p)) ≡ x
  fork_is f p q x h g =
      drop_first ss i (fork_at (length e) f (suc i) (suc i + process_size (first_child e f p))) x ((flat (suc i) (length e + fork_binds f) (first_child e f p) ++ flat (suc i + process_size (first_child e f p)) (length e + fork_binds f) (rest_of e f q)) ++ h.rest) (at_fork ss i e f p q h) g

  leaf_node : (q : Process) (n : ℕ) (l : Leaf) → Located ss i e q → slice_get ss i ≡ Some (leaf_at n l) → LeafThere l q
  leaf_node (leaf m) n l h g = record { is = same (leaf_is m (leaf_at n l) h g) }
    where
      same : leaf_at (length e) m ≡ leaf_at n l → leaf m ≡ leaf l
      same w = cc
  leaf_node (prefix s p) n l h g = absurd (cc (prefix_is s p (leaf_at n l) h g))
  leaf_node (fork f p q) n l h g = absurd (cc (fork_is f p q (leaf_at n l) h g))

  prefix_node : (q : Process) (n : ℕ) (s : Prefix) (b : ℕ) → Located ss i e q → slice_get ss i ≡ Some (prefix_at n s b) → PrefixThere ss e s b q
  prefix_node (leaf m) n s b h g = absurd (cc (leaf_is m (prefix_at n s b) h g))
  prefix_node (prefix t p) n s b h g =
      let w = prefix_is t p (prefix_at n s b) h g in
      let v : t ≡ s = cc w in
      let u : suc i ≡ b = cc w in
      record {
        process = p;
        is = ap (λ s. prefix s p) v;
        body = subst (λ s. Located ss b (e ++ more e s) (enter (binds s) (length e) p)) v (subst (λ b. Located ss b (e ++ more e t) (enter (binds t) (length e) p)) u (body_there ss i e t p h));
      }
  prefix_node (fork f p q) n s b h g = absurd (cc (fork_is f p q (prefix_at n s b) h g))

  fork_node : (q : Process) (n : ℕ) (f : Fork) (a b : ℕ) → Located ss i e q → slice_get ss i ≡ Some (fork_at n f a b) → ForkThere ss e f a b q
  fork_node (leaf m) n f a b h g = absurd (cc (leaf_is m (fork_at n f a b) h g))
  fork_node (prefix s p) n f a b h g = absurd (cc (prefix_is s p (fork_at n f a b) h g))
  fork_node (fork t p q) n f a b h g =
      let w = fork_is t p q (fork_at n f a b) h g in
      let v : t ≡ f = cc w in
      let u : suc i ≡ a = cc w in
      let z : suc i + process_size (first_child e t p) ≡ b = cc w in
      record {
        left = p;
        right = q;
        is = ap (λ f. fork f p q) v;
        first = subst (λ f. Located ss a (e ++ on_first f) (enter (fork_binds f) (length e) p)) v (subst (λ a. Located ss a (e ++ on_first t) (enter (fork_binds t) (length e) p)) u (first_there ss i e t p q h));
        rest = subst (λ f. Located ss b (e ++ on_rest f) (enter (fork_binds f) (length e) q)) v (subst (λ b. Located ss b (e ++ on_rest t) (enter (fork_binds t) (length e) q)) z (rest_there ss i e t p q h));
      }

-- what is answered of a form is answered of its node
module _ (j k : Numbered) (rule : Rule) (n : ℕ) where
  pub leaf_answer : (l : Leaf) (x : Shape) (r : Option Premises) → x ≡ leaf_at n l → AnswersLeaf j k rule l r → AnswersNode j k (plain rule) x r
  leaf_answer l x r q h = subst (λ x. AnswersNode j k (plain rule) x r) (sym q) (record {
    at = λ ss i e p s g w.
        let t = leaf_node ss i e p n l w g in subst (λ p. Answered k.store ss e (plain rule) p r) (sym t.is) (h.at ss e s);
  })

  prefix_answer : (s : Prefix) (b : ℕ) (x : Shape) (r : Option Premises) → x ≡ prefix_at n s b → AnswersPrefix j k rule s b r → AnswersNode j k (plain rule) x r
  prefix_answer s b x r q h = subst (λ x. AnswersNode j k (plain rule) x r) (sym q) (record {
    at = λ ss i e p w g l.
        let t = prefix_node ss i e p n s b l g in
        subst (λ p. Answered k.store ss e (plain rule) p r) (sym t.is) (h.at ss e t.process w t.body);
  })

  pub fork_answer : (f : Fork) (a b : ℕ) (x : Shape) (r : Option Premises) → x ≡ fork_at n f a b → AnswersFork j k rule f a b r → AnswersNode j k (plain rule) x r
  fork_answer f a b x r q h = subst (λ x. AnswersNode j k (plain rule) x r) (sym q) (record {
    at = λ ss i e p w g l.
        let t = fork_node ss i e p n f a b l g in
        subst (λ p. Answered k.store ss e (plain rule) p r) (sym t.is) (h.at ss e t.left t.right w t.first t.rest);
  })

  pub leaf_answers : {E : Type 0} (l : Leaf) (x : Shape) (r : Result (Option Premises) E) → x ≡ leaf_at n l → IfOk r (AnswersLeaf j k rule l) → IfOk r (AnswersNode j k (plain rule) x)
  leaf_answers l x r q h = IfOk-weaker r (AnswersLeaf j k rule l) (AnswersNode j k (plain rule) x) (λ o. leaf_answer l x o q) h

  pub prefix_answers : {E : Type 0} (s : Prefix) (b : ℕ) (x : Shape) (r : Result (Option Premises) E) → x ≡ prefix_at n s b → IfOk r (AnswersPrefix j k rule s b) → IfOk r (AnswersNode j k (plain rule) x)
  prefix_answers s b x r q h = IfOk-weaker r (AnswersPrefix j k rule s b) (AnswersNode j k (plain rule) x) (λ o. prefix_answer s b x o q) h

  pub fork_answers : {E : Type 0} (f : Fork) (a b : ℕ) (x : Shape) (r : Result (Option Premises) E) → x ≡ fork_at n f a b → IfOk r (AnswersFork j k rule f a b) → IfOk r (AnswersNode j k (plain rule) x)
  fork_answers f a b x r q h = IfOk-weaker r (AnswersFork j k rule f a b) (AnswersNode j k (plain rule) x) (λ o. fork_answer f a b x o q) h
