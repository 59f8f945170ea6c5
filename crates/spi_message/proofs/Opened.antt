-- A binder that is opened with its number.
use Rattle.std.proofs.Common.{◌≡◌, ℕ, zero, suc, ◌+◌, ◌-◌, ◌<◌, ◌≤◌, Bool, true, false, List, [], ◌∷◌, ◌++◌, length, Some, refl, sym, ap, ◌∙◌, arith, ⊎_elim, eq-eqb, length-append}
use Rattle.std.specs.Prelude.{slice_get, if◌then◌else◌, nat_lt, ⊤}
use Rattle.std.proofs.lemmas.Bool.{cases_lt, cases_eq, lt-ltb, le-ltb, ne_eqb}
use Rattle.spi_term.specs.Term.{Message, bound, name, unit, pair, in_left, in_right, enc, hash, Leaf, Prefix, Recvs, Serves, Splits, Selects, Decrypts, Checks, Begins, Ends, EndManys, Casts, Freshes, Fork, Branches, Pars, Process, leaf, prefix, fork, binds, fork_binds, process_size}
use Rattle.spi_term.specs.Substitution.{process_map, leaf_map, prefix_map, fork_map, put}
use Rattle.spi_term.specs.Spelling.{under, name_or_index, name_message, numbered}
use Rattle.spi_term.specs.Names.{MessageOver, OfProcess, ProcessOver}
use Rattle.spi_term.proofs.Terms.{binds_map, fork_binds_map, over_put_process}
use Rattle.spi_term.proofs.Maps.{fixed_leaf, fixed_prefix, fixed_fork, each_leaf, each_prefix, each_fork, joined_leaf, joined_prefix, joined_fork}
use Rattle.spi_term.proofs.Choices.{if_yes, if_no}
use Rattle.spi_rules.specs.Environment.{Env}
use Rattle.spi_message.specs.Forms.{enter, more, on_first, on_rest}
use Rattle.spi_message.proofs.Typings.{stays_mapped}

if_both : {A : Type 0} (b : Bool) (x : A) → (if b then x else x) ≡ x
if_both true x = refl
if_both false x = refl

-- no numbers
name_none_message : (d : ℕ) (m : Message) → name_message [] d m ≡ m
name_none_message d m = stays_mapped (λ i. if nat_lt i d then bound i else name_or_index i (slice_get [] (i - d))) (λ i. if_both (nat_lt i d) (bound i)) m

pub name_none_leaf : (l : Leaf) → leaf_map (name_message []) 0 l ≡ l
name_none_leaf l = fixed_leaf (name_message []) name_none_message 0 l

pub name_none_prefix : (s : Prefix) → prefix_map (name_message []) 0 s ≡ s
name_none_prefix s = fixed_prefix (name_message []) name_none_message 0 s

pub name_none_fork : (f : Fork) → fork_map (name_message []) 0 f ≡ f
name_none_fork f = fixed_fork (name_message []) name_none_message 0 f

-- one more number, for the outermost index
get_last : (names : List ℕ) (j : ℕ) → slice_get (names ++ j ∷ []) (length names) ≡ Some j
get_last [] j = refl
get_last (x ∷ names) j = get_last names j

get_other : (names : List ℕ) (j i : ℕ) → (i ≡ length names → ⊥) → slice_get (names ++ j ∷ []) i ≡ slice_get names i
get_other [] j zero h = absurd (h refl)
get_other [] j (suc i) h = refl
get_other (x ∷ names) j zero h = refl
get_other (x ∷ names) j (suc i) h = get_other names j i (λ e. h (ap suc e))

module _ (names : List ℕ) (j : ℕ) where
  put_index : (c d i : ℕ) → d ≡ c + length names → name_message names c (put (name j) d (bound i)) ≡ name_message (names ++ j ∷ []) c (bound i)
  put_index c d i e = ⊎_elim here there (cases_eq i d)
    where
      here : i ≡ d → name_message names c (put (name j) d (bound i)) ≡ name_message (names ++ j ∷ []) c (bound i)
      here f =
          let g : i - c ≡ length names = omega arith in
          let l : c ≤ i = omega arith in
          ap (name_message names c) (if_yes (name j) (bound i) (eq-eqb i d f)) ∙ sym (if_no (bound i) (name_or_index i (slice_get (names ++ j ∷ []) (i - c))) (le-ltb i c l) ∙ ap (λ n. name_or_index i (slice_get (names ++ j ∷ []) n)) g ∙ ap (name_or_index i) (get_last names j))

      there : (i ≡ d → ⊥) → name_message names c (put (name j) d (bound i)) ≡ name_message (names ++ j ∷ []) c (bound i)
      there f = ap (name_message names c) (if_no (name j) (bound i) (ne_eqb i d f)) ∙ ⊎_elim low high (cases_lt i c)
        where
          low : i < c → name_message names c (bound i) ≡ name_message (names ++ j ∷ []) c (bound i)
          low l = if_yes (bound i) (name_or_index i (slice_get names (i - c))) (lt-ltb i c l) ∙ sym (if_yes (bound i) (name_or_index i (slice_get (names ++ j ∷ []) (i - c))) (lt-ltb i c l))

          high : c ≤ i → name_message names c (bound i) ≡ name_message (names ++ j ∷ []) c (bound i)
          high l =
              if_no (bound i) (name_or_index i (slice_get names (i - c))) (le-ltb i c l) ∙ ap (name_or_index i) (sym (get_other names j (i - c) (λ g. f (omega arith)))) ∙ sym (if_no (bound i) (name_or_index i (slice_get (names ++ j ∷ []) (i - c))) (le-ltb i c l))

  name_put_message : (c d : ℕ) → d ≡ c + length names → (m : Message) → name_message names c (put (name j) d m) ≡ name_message (names ++ j ∷ []) c m
  name_put_message c d e (bound i) = put_index c d i e
  name_put_message c d e (name x) = refl
  name_put_message c d e unit = refl
  name_put_message c d e (pair a b) = λ i. pair (name_put_message c d e a i) (name_put_message c d e b i)
  name_put_message c d e (in_left m) = ap in_left (name_put_message c d e m)
  name_put_message c d e (in_right m) = ap in_right (name_put_message c d e m)
  name_put_message c d e (enc a b) = λ i. enc (name_put_message c d e a i) (name_put_message c d e b i)
  name_put_message c d e (hash m) = ap hash (name_put_message c d e m)

  here_too : (d c e : ℕ) → c ≡ d + length names → e ≡ d + 0 → (m : Message) → ⊤ → name_message names d (put (name j) c m) ≡ name_message (names ++ j ∷ []) d m
  here_too d c e p q m h = name_put_message d c p m

  name_put_leaf : (d : ℕ) → d ≡ length names → (b : Leaf) → leaf_map (name_message names) 0 (leaf_map (put (name j)) d b) ≡ leaf_map (name_message (names ++ j ∷ [])) 0 b
  name_put_leaf d e b =
      joined_leaf (name_message names) (put (name j)) (name_message (names ++ j ∷ [])) (λ d m. ⊤) (length names) 0 here_too 0 d 0 (omega arith) refl b (each_leaf (λ d m. ⊤) (λ d m. tt) 0 b)

  name_put_prefix : (d : ℕ) → d ≡ length names → (b : Prefix) → prefix_map (name_message names) 0 (prefix_map (put (name j)) d b) ≡ prefix_map (name_message (names ++ j ∷ [])) 0 b
  name_put_prefix d e b =
      joined_prefix (name_message names) (put (name j)) (name_message (names ++ j ∷ [])) (λ d m. ⊤) (length names) 0 here_too 0 d 0 (omega arith) refl b (each_prefix (λ d m. ⊤) (λ d m. tt) 0 b)

  name_put_fork : (d : ℕ) → d ≡ length names → (b : Fork) → fork_map (name_message names) 0 (fork_map (put (name j)) d b) ≡ fork_map (name_message (names ++ j ∷ [])) 0 b
  name_put_fork d e b =
      joined_fork (name_message names) (put (name j)) (name_message (names ++ j ∷ [])) (λ d m. ⊤) (length names) 0 here_too 0 d 0 (omega arith) refl b (each_fork (λ d m. ⊤) (λ d m. tt) 0 b)

under_snoc : (b k : ℕ) (names : List ℕ) (j : ℕ) → under b k (names ++ j ∷ []) ≡ under b k names ++ j ∷ []
under_snoc zero k names j = refl
under_snoc (suc b) k names j = under_snoc b (suc k) (k ∷ names) j

length_under : (b k : ℕ) (names : List ℕ) → length (under b k names) ≡ length names + b
length_under zero k names = omega arith
length_under (suc b) k names = omega (arith, length_under b (suc k) (k ∷ names))

pub numbered_put : (p : Process) (names : List ℕ) (k d j : ℕ) → d ≡ length names → numbered names k (process_map (put (name j)) d p) ≡ numbered (names ++ j ∷ []) k p
numbered_put (leaf l) names k d j e = ap leaf (name_put_leaf names j d e l)
numbered_put (prefix s p) names k d j e =
    let b = binds s in
    let x = process_map (put (name j)) (d + b) p in
    let n : d + b ≡ length (under b k names) = omega (arith, length_under b k names) in
    let a : numbered (under (binds (prefix_map (put (name j)) d s)) k names) (k + binds (prefix_map (put (name j)) d s)) x ≡ numbered (under b k (names ++ j ∷ [])) (k + b) p
    = ap (λ b. numbered (under b k names) (k + b) x) (binds_map (put (name j)) d s) ∙ numbered_put p (under b k names) (k + b) (d + b) j n ∙ ap (λ l. numbered l (k + b) p) (sym (under_snoc b k names j)) in
    λ i. prefix (name_put_prefix names j d e s i) (a i)
numbered_put (fork f p q) names k d j e =
    let b = fork_binds f in
    let n : d + b ≡ length (under b k names) = omega (arith, length_under b k names) in
    let go = λ (p : Process) (ih : numbered (under b k names) (k + b) (process_map (put (name j)) (d + b) p) ≡ numbered (under b k names ++ j ∷ []) (k + b) p). ap (λ b'. numbered (under b' k names) (k + b') (process_map (put (name j)) (d + b) p)) (fork_binds_map (put (name j)) d f) ∙ ih ∙ ap (λ l. numbered l (k + b) p) (sym (under_snoc b k names j)) in
    let x = go p (numbered_put p (under b k names) (k + b) (d + b) j n) in
    let y = go q (numbered_put q (under b k names) (k + b) (d + b) j n) in
    λ i. fork (name_put_fork names j d e f i) (x i) (y i)

pub numbered_enter : (b k s : ℕ) (p : Process) → numbered [] s (enter b k p) ≡ numbered (under b k []) s p
numbered_enter zero k s p = refl
numbered_enter (suc b) k s p =
    numbered_enter b (suc k) s (process_map (put (name k)) b p)
    ∙ numbered_put p (under b (suc k) []) s b k (omega (arith, length_under b (suc k) []))
    ∙ ap (λ l. numbered l s p) (sym (under_snoc b (suc k) [] k))

size_put : (p : Process) (d : ℕ) (n : Message) → process_size (process_map (put n) d p) ≡ process_size p
size_put (leaf l) d n = refl
size_put (prefix s p) d n = ap suc (size_put p (d + binds s) n)
size_put (fork f p q) d n = omega (arith, size_put p (d + fork_binds f) n, size_put q (d + fork_binds f) n)

pub size_enter : (b k : ℕ) (p : Process) → process_size (enter b k p) ≡ process_size p
size_enter zero k p = refl
size_enter (suc b) k p = size_enter b (suc k) (process_map (put (name k)) b p) ∙ size_put p b (name k)

pub over_enter : (b k n : ℕ) (p : Process) → k + b ≤ n → OfProcess (MessageOver n) b p → ProcessOver n (enter b k p)
over_enter zero k n p l o = o
over_enter (suc b) k n p l o =
    let low : k < n = omega (arith, l) in
    over_enter b (suc k) n (process_map (put (name k)) b p) (omega (arith, l)) (over_put_process n (name k) low b p o)

pub length_more : (e : Env) (s : Prefix) → length (more e s) ≡ binds s
length_more e (Recvs m t) = refl
length_more e (Serves m t) = refl
length_more e (Selects m t n u) = refl
length_more e (Decrypts m t n) = refl
length_more e (Checks m n) = refl
length_more e (Casts m t) = refl
length_more e (Splits m t u) = refl
length_more e (Begins m) = refl
length_more e (Ends m) = refl
length_more e (EndManys m) = refl
length_more e (Freshes t) = refl

-- a form with one process, its binders opened with the next numbers
pub numbered_prefix : (e : Env) (s : Prefix) (p : Process) → numbered [] (length e) (prefix s p) ≡ prefix s (numbered [] (length (e ++ more e s)) (enter (binds s) (length e) p))
numbered_prefix e s p =
    let k = length e in
    let n : k + binds s ≡ length (e ++ more e s) = omega (arith, length-append e (more e s), length_more e s) in
    let a : numbered (under (binds s) k []) (k + binds s) p ≡ numbered [] (length (e ++ more e s)) (enter (binds s) k p)
    = sym (numbered_enter (binds s) k (k + binds s) p) ∙ ap (λ m. numbered [] m (enter (binds s) k p)) n in
    λ i. prefix (name_none_prefix s i) (a i)

pub length_first : (f : Fork) → length (on_first f) ≡ fork_binds f
length_first Pars = refl
length_first (Branches m t u) = refl

pub length_rest : (f : Fork) → length (on_rest f) ≡ fork_binds f
length_rest Pars = refl
length_rest (Branches m t u) = refl

numbered_child : (e g : Env) (b : ℕ) (p : Process) → length g ≡ b → numbered (under b (length e) []) (length e + b) p ≡ numbered [] (length (e ++ g)) (enter b (length e) p)
numbered_child e g b p h =
    let n : length e + b ≡ length (e ++ g) = omega (arith, length-append e g, h) in
    sym (numbered_enter b (length e) (length e + b) p) ∙ ap (λ m. numbered [] m (enter b (length e) p)) n

pub numbered_fork : (e : Env) (f : Fork) (p q : Process) → numbered [] (length e) (fork f p q) ≡ fork f (numbered [] (length (e ++ on_first f)) (enter (fork_binds f) (length e) p)) (numbered [] (length (e ++ on_rest f)) (enter (fork_binds f) (length e) q))
numbered_fork e f p q =
    let a = numbered_child e (on_first f) (fork_binds f) p (length_first f) in
    let b = numbered_child e (on_rest f) (fork_binds f) q (length_rest f) in
    λ i. fork (name_none_fork f i) (a i) (b i)

pub numbered_leaf : (k : ℕ) (l : Leaf) → numbered [] k (leaf l) ≡ leaf l
numbered_leaf k l = ap leaf (name_none_leaf l)
