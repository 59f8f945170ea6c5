-- The canonical texts of messages, effects and types, where a name with number i is spelled `spell i` and n names are in
-- scope. Pairs and pair types that nest to the right are written as one tuple.
use Rattle.std.specs.Prelude.{ℕ, suc, ◌-◌, List, [], ◌∷◌, ◌++◌, codes}
use Rattle.spi_term.specs.Term.{Message, bound, name, unit, pair, in_left, in_right, enc, hash, Atom, ends, checks, many, Effect, Ty, un, unit_ty, pair_ty, sum_ty, key, nonce}

abbrev mutual
  pub message_text : (ℕ → List ℕ) → ℕ → Message → List ℕ
  message_text spell n (bound i) = spell (n - suc i)
  message_text spell n (name x) = spell x
  message_text spell n unit = codes "()"
  message_text spell n (pair a b) =
      codes "(" ++ (message_text spell n a ++ (codes ", " ++ (tuple_text spell n b ++ codes ")")))
  message_text spell n (in_left a) = codes "inl " ++ message_text spell n a
  message_text spell n (in_right a) = codes "inr " ++ message_text spell n a
  message_text spell n (enc a b) =
      codes "{" ++ (message_text spell n a ++ (codes "}" ++ message_text spell n b))
  message_text spell n (hash a) = codes "hash(" ++ (message_text spell n a ++ codes ")")

  -- the parts of a tuple behind its first
  pub tuple_text : (ℕ → List ℕ) → ℕ → Message → List ℕ
  tuple_text spell n (bound i) = spell (n - suc i)
  tuple_text spell n (name x) = spell x
  tuple_text spell n unit = codes "()"
  tuple_text spell n (pair a b) = message_text spell n a ++ (codes ", " ++ tuple_text spell n b)
  tuple_text spell n (in_left a) = codes "inl " ++ message_text spell n a
  tuple_text spell n (in_right a) = codes "inr " ++ message_text spell n a
  tuple_text spell n (enc a b) =
      codes "{" ++ (message_text spell n a ++ (codes "}" ++ message_text spell n b))
  tuple_text spell n (hash a) = codes "hash(" ++ (message_text spell n a ++ codes ")")

abbrev pub atom_text : (ℕ → List ℕ) → ℕ → Atom → List ℕ
atom_text spell n (ends m) = codes "end " ++ message_text spell n m
atom_text spell n (checks m) = codes "check " ++ message_text spell n m
atom_text spell n (many m) = codes "many " ++ message_text spell n m

-- the further atoms of an effect, each behind a comma
abbrev pub more_text : (ℕ → List ℕ) → ℕ → Effect → List ℕ
more_text spell n [] = []
more_text spell n (a ∷ es) = codes ", " ++ (atom_text spell n a ++ more_text spell n es)

abbrev pub effect_text : (ℕ → List ℕ) → ℕ → Effect → List ℕ
effect_text spell n [] = codes "[]"
effect_text spell n (a ∷ es) = codes "[" ++ (atom_text spell n a ++ (more_text spell n es ++ codes "]"))

-- a name with its type
abbrev pub typed_text : (ℕ → List ℕ) → ℕ → List ℕ → List ℕ
typed_text spell n ty = spell n ++ (codes ": " ++ ty)

abbrev mutual
  pub type_text : (ℕ → List ℕ) → ℕ → Ty → List ℕ
  type_text spell n un = codes "Un"
  type_text spell n unit_ty = codes "()"
  type_text spell n (pair_ty t u) =
      codes "(" ++ (typed_text spell n (type_text spell n t)
      ++ (codes ", " ++ (tuple_type_text spell (suc n) u ++ codes ")")))
  type_text spell n (sum_ty t u) =
      codes "(" ++ (type_text spell n t ++ (codes " + " ++ (type_text spell n u ++ codes ")")))
  type_text spell n (key t) = codes "Key(" ++ (type_text spell n t ++ codes ")")
  type_text spell n (nonce es) = codes "Nonce " ++ effect_text spell n es

  -- the parts of a tuple type behind its first, the last without a name
  pub tuple_type_text : (ℕ → List ℕ) → ℕ → Ty → List ℕ
  tuple_type_text spell n un = codes "Un"
  tuple_type_text spell n unit_ty = codes "()"
  tuple_type_text spell n (pair_ty t u) =
      typed_text spell n (type_text spell n t) ++ (codes ", " ++ tuple_type_text spell (suc n) u)
  tuple_type_text spell n (sum_ty t u) =
      codes "(" ++ (type_text spell n t ++ (codes " + " ++ (type_text spell n u ++ codes ")")))
  tuple_type_text spell n (key t) = codes "Key(" ++ (type_text spell n t ++ codes ")")
  tuple_type_text spell n (nonce es) = codes "Nonce " ++ effect_text spell n es
