-- The clauses of knowledge, as rules over the numbers of messages.
use Rattle.std.specs.Prelude.{◌≡◌, ℕ, ◌<◌, ◌+◌, List, [], ◌∷◌, Some, slice_get, length, ⊤}
use Rattle.spi_term.specs.Term as Term
use Rattle.spi_term.specs.Term.{Message, pair, in_left, in_right, enc, hash, message_size}
use Rattle.spi_horn.specs.declared.rules.Rule.{Rule}
use Rattle.spi_intern.specs.Table.{TellsAll}
use Rattle.spi_intern.specs.declared.messages.MsgPart.{MsgPart}
use Rattle.spi_intern.specs.declared.messages.MsgPart.TheVariants as P
use Rattle.spi_know.specs.declared.clauses.Way.{Way}
use Rattle.spi_know.specs.declared.clauses.Way.TheVariants.{MakePair, First, Second, MakeInl, MakeInr, TakeInl, TakeInr, MakeEnc, Open, MakeHash}

abbrev pub rule : ℕ → ℕ → ℕ → Rule
rule a b c = record { first = a; second = b; gives = c }

-- the clauses that make the message with the number j of its parts, or take it apart
abbrev pub rules_of_part : ℕ → MsgPart → List Rule
rules_of_part j (P.Pair a b) = rule a.place b.place j ∷ rule j j a.place ∷ rule j j b.place ∷ []
rules_of_part j (P.Inl a) = rule a.place a.place j ∷ rule j j a.place ∷ []
rules_of_part j (P.Inr a) = rule a.place a.place j ∷ rule j j a.place ∷ []
rules_of_part j (P.Enc a k) = rule a.place k.place j ∷ rule j k.place a.place ∷ []
rules_of_part j (P.Hash a) = rule a.place a.place j ∷ []
rules_of_part j (P.Bound i) = []
rules_of_part j (P.Name x) = []
rules_of_part j P.Unit = []

abbrev pub ways_of : MsgPart → List Way
ways_of (P.Pair a b) = MakePair ∷ First ∷ Second ∷ []
ways_of (P.Inl a) = MakeInl ∷ TakeInl ∷ []
ways_of (P.Inr a) = MakeInr ∷ TakeInr ∷ []
ways_of (P.Enc a k) = MakeEnc ∷ Open ∷ []
ways_of (P.Hash a) = MakeHash ∷ []
ways_of (P.Bound i) = []
ways_of (P.Name x) = []
ways_of P.Unit = []

-- the number i is that of m
abbrev pub HasNumber : List Message → ℕ → Message → Type 0
HasNumber ms i m = slice_get ms i ≡ Some m

-- two numbers, a rule that gives the first from the second twice
abbrev pub FromOne : List Message → Rule → Message → Message → Type 0
FromOne ms r a b = HasNumber ms r.first a × HasNumber ms r.gives b × (r.second ≡ r.first)

abbrev pub FromTwo : List Message → Rule → Message → Message → Message → Type 0
FromTwo ms r a b c = HasNumber ms r.first a × HasNumber ms r.second b × HasNumber ms r.gives c

-- the rule is an instance of the clause
abbrev pub Suits : List Message → Rule → Way → Type 0
Suits ms r MakePair = (a : Message) × (b : Message) × FromTwo ms r a b (pair a b)
Suits ms r First = (a : Message) × (b : Message) × FromOne ms r (pair a b) a
Suits ms r Second = (a : Message) × (b : Message) × FromOne ms r (pair a b) b
Suits ms r MakeInl = (a : Message) × FromOne ms r a (in_left a)
Suits ms r MakeInr = (a : Message) × FromOne ms r a (in_right a)
Suits ms r TakeInl = (a : Message) × FromOne ms r (in_left a) a
Suits ms r TakeInr = (a : Message) × FromOne ms r (in_right a) a
Suits ms r MakeEnc = (a : Message) × (b : Message) × FromTwo ms r a b (enc a b)
Suits ms r Open = (a : Message) × (b : Message) × FromTwo ms r (enc a b) b a
Suits ms r MakeHash = (a : Message) × FromOne ms r a (hash a)

abbrev pub HasRule : List Rule → ℕ → ℕ → ℕ → Type 0
HasRule rules a b c = (k : ℕ) × (slice_get rules k ≡ Some (rule a b c))

-- the rules have each clause that makes m, which has the number j, or takes it apart
abbrev pub HasClauses : List Message → List Rule → ℕ → Message → Type 0
HasClauses ms rules j (pair a b) = (i : ℕ) × (k : ℕ) × HasNumber ms i a × HasNumber ms k b
    × HasRule rules i k j
    × HasRule rules j j i × HasRule rules j j k
HasClauses ms rules j (in_left a) = (i : ℕ) × HasNumber ms i a × HasRule rules i i j × HasRule rules j j i
HasClauses ms rules j (in_right a) = (i : ℕ) × HasNumber ms i a × HasRule rules i i j × HasRule rules j j i
HasClauses ms rules j (enc a b) = (i : ℕ) × (k : ℕ) × HasNumber ms i a × HasNumber ms k b
    × HasRule rules i k j
    × HasRule rules j k i
HasClauses ms rules j (hash a) = (i : ℕ) × HasNumber ms i a × HasRule rules i i j
HasClauses ms rules j m = ⊤

-- the rules are the clauses at the messages with numbers below n
pub record AreClauses (ms : List Message) (n : ℕ) (rules : List Rule) (ways : List Way) : Type 0 where
  pub suit : TellsAll (Suits ms) rules ways
  pub all : (j : ℕ) (m : Message) → j < n → HasNumber ms j m → HasClauses ms rules j m

-- the first n messages have these numbers in turn
pub record AreFirstNumbers (ms sent : List Message) (n : ℕ) (numbers : List ℕ) : Type 0 where
  pub count : length numbers ≡ n
  pub at : (j : ℕ) (m : Message) → j < n → slice_get sent j ≡ Some m
      → (i : ℕ) × (slice_get numbers j ≡ Some i) × HasNumber ms i m

-- the start has the numbers of the messages sent in turn, and then that of unit
pub record StartsWith (ms sent : List Message) (start : List ℕ) : Type 0 where
  pub count : length start ≡ length sent + 1
  pub sent_at : (j : ℕ) (m : Message) → slice_get sent j ≡ Some m
      → (i : ℕ) × (slice_get start j ≡ Some i) × HasNumber ms i m
  pub unit_at : (i : ℕ) → slice_get start (length sent) ≡ Some i → HasNumber ms i Term.unit

-- how many nodes messages have
abbrev pub nodes_in : List Message → ℕ
nodes_in [] = 0
nodes_in (m ∷ ms) = message_size m + nodes_in ms
