-- The texts of messages, effects and types write the tokens of their trees.
use Rattle.std.proofs.Common.{ℕ, suc, ◌+◌, ◌-◌, ◌<◌, ◌≤◌, Bool, IsTrue, List, [], ◌∷◌, ◌++◌, codes, refl, arith}
use Rattle.spi_lex.specs.declared.token.Reserved.TheVariants as word
use Rattle.spi_lex.specs.declared.token.Mark.TheVariants.{ParenOpen, ParenClose, BraceOpen, BraceClose, BracketOpen, BracketClose, Comma}
use Rattle.spi_lex.specs.Writing.{is_apart}
use Rattle.spi_tree.specs.Trees as t
use Rattle.spi_tree.specs.Pieces.{Piece, kinds_in, msg_pieces, msgs_pieces, atom_pieces, atoms_pieces, effect_pieces}
use Rattle.spi_term.specs.Term.{Message, bound, name, unit, pair, in_left, in_right, enc, hash, Atom, ends, checks, many, Effect}
use Rattle.spi_term.specs.Names.{MessageOver, OfAtom, OfEffect}
use Rattle.spi_show.specs.Terms.{message_text, tuple_text, atom_text, more_text, effect_text}
use Rattle.spi_spell.proofs.Printed.{message_tree, second_tree, rest_trees, twice, atom_tree, atom_trees}
use Rattle.spi_spell.proofs.Printable.{HasVersion, IsAtomOf, IsEffectOf, EffectFits}
use Rattle.spi_spell.proofs.Prints.{Prints, part, space, mark, keyword, late_keyword}

-- no hash and no `many` in version 1
abbrev pub IsAtomIn : Bool → Atom → Type 0
IsAtomIn later a = IsAtomOf later (HasVersion later) a

abbrev pub IsEffectIn : Bool → Effect → Type 0
IsEffectIn later es = IsEffectOf later (HasVersion later) es

pub effect_in : (later : Bool) (es : Effect) → EffectFits later es → IsEffectIn later es
effect_in later [] h = tt
effect_in later (ends m ∷ es) h = (h.0.1, effect_in later es h.1)
effect_in later (checks m ∷ es) h = (h.0.1, effect_in later es h.1)
effect_in later (many m ∷ es) h = ((h.0.0, h.0.1.1), effect_in later es h.1)

-- k free names and d bound ones, where n names are in scope and numbers are below top
pub record PrintsInScope (top k d n : ℕ) : Type 0 where
  pub free : k ≤ top
  pub bound : d ≤ n
  pub all : n ≤ top

-- The name with number i is `of i`, is spelled `spell i`, and writes that name's tokens. A message writes its own before what
-- follows, which begins with no letter or digit.
module _ (later : Bool) (top : ℕ) (of : ℕ → t.Msg) (spell : ℕ → List ℕ)
    (names : (i : ℕ) → i < top → (c : ℕ) (r : List Piece) (more : List ℕ) → IsTrue (is_apart more) → Prints later (kinds_in r) more → Prints later (kinds_in (msg_pieces c (of i) r)) (spell i ++ more)) where
  -- the message, and its text behind the first component of a tuple
  both : (k d n c : ℕ) (m : Message) → PrintsInScope top k d n → MessageOver k d m → HasVersion later m → (r : List Piece) (more : List ℕ) → IsTrue (is_apart more) → Prints later (kinds_in r) more
      → Prints later (kinds_in (msg_pieces c (message_tree of n m) r)) (message_text spell n m ++ more)
      × Prints later (kinds_in (msg_pieces c (second_tree of n m) (msgs_pieces c (rest_trees of n m) r))) (tuple_text spell n m ++ more)
  both k d n c (bound i) scope o v r more apart p = twice (let b = scope.bound in let a = scope.all in names (n - suc i) (omega arith) c r more apart p)
  both k d n c (name x) scope o v r more apart p = twice (let f = scope.free in names x (omega arith) c r more apart p)
  both k d n c unit scope o v r more apart p = twice (mark ParenOpen (mark ParenClose p))
  both k d n c (pair a b) scope o v r more apart p = (
    mark ParenOpen (part (message_text spell n a) _ more ((both k d n (c + 1) a scope o.0 v.0 _ _ refl
        (mark Comma (space (part (tuple_text spell n b) _ more ((both k d n (c + 1) b scope o.1 v.1 _ _ refl (mark ParenClose p)).1))))).0)),
    part (message_text spell n a) _ more ((both k d n c a scope o.0 v.0 _ _ refl (mark Comma (space ((both k d n c b scope o.1 v.1 r more apart p).1)))).0),
  )
  both k d n c (in_left a) scope o v r more apart p = twice (keyword word.Inl refl refl (space ((both k d n (c + 1) a scope o v _ more apart p).0)))
  both k d n c (in_right a) scope o v r more apart p = twice (keyword word.Inr refl refl (space ((both k d n (c + 1) a scope o v _ more apart p).0)))
  both k d n c (enc a b) scope o v r more apart p =
      twice (mark BraceOpen (part (message_text spell n a) _ more ((both k d n (c + 1) a scope o.0 v.0 _ _ refl (mark BraceClose ((both k d n (c + 1) b scope o.1 v.1 _ more apart p).0))).0)))
  both k d n c (hash a) scope o v r more apart p =
      twice (late_keyword word.Hash refl v.0 refl (mark ParenOpen (part (message_text spell n a) _ more ((both k d n (c + 1) a scope o v.1 _ _ refl (mark ParenClose p)).0))))

  pub message : (k d n c : ℕ) (m : Message) → PrintsInScope top k d n → MessageOver k d m → HasVersion later m → (r : List Piece) (more : List ℕ)
      → IsTrue (is_apart more) → Prints later (kinds_in r) more → Prints later (kinds_in (msg_pieces c (message_tree of n m) r)) (message_text spell n m ++ more)
  message k d n c m scope o v r more apart p = (both k d n c m scope o v r more apart p).0

  pub atom : (k d n c : ℕ) (a : Atom) → PrintsInScope top k d n → OfAtom (MessageOver k d) a → IsAtomIn later a → (r : List Piece) (more : List ℕ)
      → IsTrue (is_apart more) → Prints later (kinds_in r) more → Prints later (kinds_in (atom_pieces c (atom_tree of n a) r)) (atom_text spell n a ++ more)
  atom k d n c (ends m) scope o v r more apart p = keyword word.End refl refl (space (message k d n (c + 1) m scope o v _ more apart p))
  atom k d n c (checks m) scope o v r more apart p = keyword word.Check refl refl (space (message k d n (c + 1) m scope o v _ more apart p))
  atom k d n c (many m) scope o v r more apart p = late_keyword word.Many refl v.0 refl (space (message k d n (c + 1) m scope o v.1 _ more apart p))

  more_apart : (n : ℕ) (es : Effect) (more : List ℕ) → IsTrue (is_apart more) → IsTrue (is_apart (more_text spell n es ++ more))
  more_apart n [] more apart = apart
  more_apart n (a ∷ es) more apart = refl

  bracket_apart : (n : ℕ) (es : Effect) (more : List ℕ) → IsTrue (is_apart ((more_text spell n es ++ codes "]") ++ more))
  bracket_apart n [] more = refl
  bracket_apart n (a ∷ es) more = refl

  atoms : (k d n c : ℕ) (es : Effect) → PrintsInScope top k d n → OfEffect (MessageOver k d) es → IsEffectIn later es → (r : List Piece) (more : List ℕ)
      → IsTrue (is_apart more) → Prints later (kinds_in r) more → Prints later (kinds_in (atoms_pieces c (atom_trees of n es) r)) (more_text spell n es ++ more)
  atoms k d n c [] scope o v r more apart p = p
  atoms k d n c (a ∷ es) scope o v r more apart p =
      mark Comma (space (part (atom_text spell n a) _ more (atom k d n c a scope o.0 v.0 _ _ (more_apart n es more apart) (atoms k d n c es scope o.1 v.1 r more apart p))))

  pub effect : (k d n c : ℕ) (es : Effect) → PrintsInScope top k d n → OfEffect (MessageOver k d) es → IsEffectIn later es → (r : List Piece) (more : List ℕ)
      → Prints later (kinds_in r) more → Prints later (kinds_in (effect_pieces c (atom_trees of n es) r)) (effect_text spell n es ++ more)
  effect k d n c [] scope o v r more p = mark BracketOpen (mark BracketClose p)
  effect k d n c (a ∷ es) scope o v r more p =
      mark BracketOpen (part (atom_text spell n a) _ more (atom k d n c a scope o.0 v.0 _ _ (bracket_apart n es more)
      (part (more_text spell n es) (codes "]") more (atoms k d n c es scope o.1 v.1 _ _ refl (mark BracketClose p)))))
