-- The blamed part by its place alone: the parts of a message by their paths, and which path is left of which.
use Rattle.std.specs.Prelude.{ℕ, ◌<◌, List, [], ◌∷◌}
use Rattle.spi_blame.specs.Blaming.{Question, AnswersYes, Asks, IsMisfit}
use Rattle.spi_rules.specs.Environment.{Env}
use Rattle.spi_term.specs.Lists.{At}
use Rattle.spi_term.specs.Term.{Message, pair, in_left, in_right, enc, hash}

-- Reaches env q path r: to type what q asks, the rules ask r, at the end of the path
pub data Reaches (env : Env) : Question → List ℕ → Question → Type 0 where
  reaches_itself : {q : Question} → Reaches env q [] q
  reaches_inside : {q r s : Question} {qs : List Question} {i : ℕ} {path : List ℕ}
      → Asks env q qs → At qs i r → Reaches env r path s → Reaches env q (i ∷ path) s

-- the first path turns off to the left of the second
pub data IsLeftOf : List ℕ → List ℕ → Type 0 where
  turns_here : {i j : ℕ} {p q : List ℕ} → i < j → IsLeftOf (i ∷ p) (j ∷ q)
  turns_further : {i : ℕ} {p q : List ℕ} → IsLeftOf p q → IsLeftOf (i ∷ p) (i ∷ q)

-- r is asked at the end of the path, no rule is for it, and all that is asked to its left holds
pub record IsFirstMisfit (env : Env) (q : Question) (path : List ℕ) (r : Question) : Type 0 where
  pub reached : Reaches env q path r
  pub misfit : IsMisfit env r
  pub before : (o : List ℕ) (s : Question) → Reaches env q o s → IsLeftOf o path → AnswersYes env s

-- part number i of a message: of {M}N the key N is part 0, and M is part 1
pub data ChildAt : Message → ℕ → Message → Type 0 where
  child_first : {m n : Message} → ChildAt (pair m n) 0 m
  child_second : {m n : Message} → ChildAt (pair m n) 1 n
  child_left : {m : Message} → ChildAt (in_left m) 0 m
  child_right : {m : Message} → ChildAt (in_right m) 0 m
  child_key : {m n : Message} → ChildAt (enc m n) 0 n
  child_body : {m n : Message} → ChildAt (enc m n) 1 m
  child_hash : {m : Message} → ChildAt (hash m) 0 m

-- the part at the end of a path
pub data PartAt : Message → List ℕ → Message → Type 0 where
  part_whole : {m : Message} → PartAt m [] m
  part_inside : {m n p : Message} {i : ℕ} {path : List ℕ}
      → ChildAt m i n → PartAt n path p → PartAt m (i ∷ path) p
