-- What a certificate says.
use Rattle.std.specs.Prelude.{◌≡◌, ℕ, suc, ◌<◌, ◌⊎◌, List, Some, slice_get, length, map, take}
use Rattle.spi_term.specs.Term as Term
use Rattle.spi_term.specs.Term.{Message, hash, pair, in_left, in_right, enc}
use Rattle.spi_term.specs.View.{message}
use Rattle.spi_know.specs.declared.cert.CertLine.{CertLine}
use Rattle.spi_know.specs.declared.cert.By.{By}
use Rattle.spi_know.specs.declared.cert.By.TheVariants.{Sent, MakeUnit, MakePair, First, Second, MakeInl, MakeInr, TakeInl, TakeInr, MakeEnc, Open, MakeHash}

abbrev pub message_said : CertLine → Message
message_said l = message l.message

-- a message follows, by a clause of knowledge, from those of the lines before it
abbrev pub Follows : List Message → List Message → By → Message → Type 0
Follows sent before (Sent i) m = slice_get sent i ≡ Some m
Follows sent before MakeUnit m = m ≡ Term.unit
Follows sent before (MakePair i j) m = (a : Message) × (b : Message) × (m ≡ pair a b)
    × (slice_get before i ≡ Some a) × (slice_get before j ≡ Some b)
Follows sent before (First i) m = (b : Message) × (slice_get before i ≡ Some (pair m b))
Follows sent before (Second i) m = (a : Message) × (slice_get before i ≡ Some (pair a m))
Follows sent before (MakeInl i) m = (a : Message) × (m ≡ in_left a) × (slice_get before i ≡ Some a)
Follows sent before (MakeInr i) m = (a : Message) × (m ≡ in_right a) × (slice_get before i ≡ Some a)
Follows sent before (TakeInl i) m = slice_get before i ≡ Some (in_left m)
Follows sent before (TakeInr i) m = slice_get before i ≡ Some (in_right m)
Follows sent before (MakeEnc i j) m = (a : Message) × (b : Message) × (m ≡ enc a b)
    × (slice_get before i ≡ Some a) × (slice_get before j ≡ Some b)
Follows sent before (Open i j) m = (b : Message) × (slice_get before i ≡ Some (enc m b))
    × (slice_get before j ≡ Some b)
Follows sent before (MakeHash i) m = (a : Message) × (m ≡ hash a) × (slice_get before i ≡ Some a)

-- each line follows from the lines before it, and the last says the target
pub record Certifies (sent : List Message) (lines : List CertLine) (target : Message) : Type 0 where
  pub each : (k : ℕ) (l : CertLine) → slice_get lines k ≡ Some l
      → Follows sent (map message_said (take k lines)) l.by (message_said l)
  pub last : (k : ℕ) × (suc k ≡ length lines) × (slice_get (map message_said lines) k ≡ Some target)

-- a line by this clause names the line k
abbrev pub Uses : By → ℕ → Type 0
Uses (Sent i) k = ⊥
Uses MakeUnit k = ⊥
Uses (MakePair i j) k = (i ≡ k) ⊎ (j ≡ k)
Uses (First i) k = i ≡ k
Uses (Second i) k = i ≡ k
Uses (MakeInl i) k = i ≡ k
Uses (MakeInr i) k = i ≡ k
Uses (TakeInl i) k = i ≡ k
Uses (TakeInr i) k = i ≡ k
Uses (MakeEnc i j) k = (i ≡ k) ⊎ (j ≡ k)
Uses (Open i j) k = (i ≡ k) ⊎ (j ≡ k)
Uses (MakeHash i) k = i ≡ k

-- each line but the last is used by a later one
abbrev pub AllUsed : List CertLine → Type 0
AllUsed lines = (k : ℕ) → suc k < length lines
    → (j : ℕ) × (l : CertLine) × (k < j) × (slice_get lines j ≡ Some l) × Uses l.by k
