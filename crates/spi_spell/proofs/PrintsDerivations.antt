-- The texts of derivations and schedules write the tokens of their trees.
use Rattle.std.specs.Prelude.{⊤}
use Rattle.std.proofs.Common.{◌≡◌, ℕ, ◌+◌, ◌<◌, ◌^◌, Bool, true, IsTrue, List, [], ◌∷◌, ◌++◌, map, codes, Option, Some, None, refl, sym, ◌∙◌, ap, arith, append_assoc}
use Rattle.std.specs.List.{AllByRecursion}
use Rattle.spi_lex.specs.declared.token.Kind.TheVariants as kinds
use Rattle.spi_lex.specs.declared.token.Mark.TheVariants as mark
use Rattle.spi_lex.specs.Words.{words_of}
use Rattle.spi_lex.specs.Writing.{is_apart, IsKind}
use Rattle.spi_tree.specs.Trees as t
use Rattle.spi_tree.specs.Pieces.{Piece, kinds_in, msg_pieces, msgs_pieces, atom_pieces, atoms_pieces, effect_pieces, deriv_pieces, derivs_pieces}
use Rattle.spi_tree.specs.Formed.{IsMsg, AreMsgs, IsAtom, AreAtoms, IsDeriv, AreDerivs}
use Rattle.spi_parse.specs.Rules.{arity_by, arity_of, rules_of}
use Rattle.spi_parse.specs.Formed.{HasRules, HaveRules}
use Rattle.spi_term.specs.Term.{Message, Atom, Effect}
use Rattle.spi_term.specs.Names.{MessageOver, OfAtom, OfEffect}
use Rattle.spi_rules.specs.declared.rule.Rule.{Rule}
use Rattle.spi_rules.specs.Rule.{rule_spelled, named}
use Rattle.spi_rules.specs.Derivations.{RuleUse}
use Rattle.spi_rules.proofs.Named.{named_spelled}
use Rattle.spi_scope.specs.Parts.{numbered_message, numbered_messages, numbered_atom, rule_named, uses_in, all_uses_in}
use Rattle.spi_scope.specs.Meaning.{nested}
use Rattle.spi_scope.proofs.Rules.{rule_found}
use Rattle.spi_show.specs.Spelled.{numbered_text}
use Rattle.spi_show.specs.Terms.{effect_text}
use Rattle.spi_show.specs.Derivations.{uses_text}
use Rattle.spi_spell.proofs.Printed.{numbered_name, atom_trees, deriv_tree, deriv_trees}
use Rattle.spi_spell.proofs.Printable.{HasVersion}
use Rattle.spi_spell.proofs.Prints as prints
use Rattle.spi_spell.proofs.Prints.{Prints}
use Rattle.spi_spell.proofs.PrintsTerms as terms
use Rattle.spi_spell.proofs.PrintsTerms.{IsAtomIn, IsEffectIn}

-- ---- the numbers of names in a derivation are small, as its tokens are those of the version

abbrev FitPieces : Bool → List Piece → Type 0
FitPieces later r = AllByRecursion (IsKind (words_of later)) (kinds_in r)

abbrev Low : Bool → Message → Type 0
Low later m = MessageOver (2 ^ 32) 0 m × HasVersion later m

abbrev LowAll : Bool → List Message → Type 0
LowAll later [] = ⊤
LowAll later (m ∷ ms) = Low later m × LowAll later ms

nested_low : (later : Bool) (m : Message) (ms : List Message) → Low later m → LowAll later ms → Low later (nested m ms)
nested_low later m [] h k = h
nested_low later m (n ∷ ns) h k = (let x = nested_low later n ns k.0 k.1 in ((h.0, x.0), (h.1, x.1)))

mutual
  message_low : (later : Bool) (c : ℕ) (m : t.Msg) (r : List Piece) → IsMsg later true m → FitPieces later (msg_pieces c m r) → Low later (numbered_message m) × FitPieces later r
  message_low later c (t.name s w) r is h = absurd cc
  message_low later c (t.unit s) r is h = ((tt, tt), h.1.1)
  message_low later c (t.tuple s a b ms) r is h =
      let x = message_low later (c + 1) a _ is.0 h.1 in
      let y = message_low later (c + 1) b _ is.1 x.1.1 in
      let z = messages_low later (c + 1) ms _ is.2 y.1 in
      (nested_low later (numbered_message a) (numbered_message b ∷ numbered_messages ms) x.0 (y.0, z.0), z.1.1)
  message_low later c (t.inl s a) r is h = message_low later (c + 1) a _ is h.1
  message_low later c (t.inr s a) r is h = message_low later (c + 1) a _ is h.1
  message_low later c (t.enc s a b) r is h =
      let x = message_low later (c + 1) a _ is.0 h.1 in
      let y = message_low later (c + 1) b _ is.1 x.1.1 in
      (((x.0.0, y.0.0), (x.0.1, y.0.1)), y.1)
  message_low later c (t.hash s a) r is h = (let x = message_low later (c + 1) a _ is.1 h.1.1 in ((x.0.0, (is.0, x.0.1)), x.1.1))
  message_low later c (t.num s i) r is h = ((h.1.0, tt), h.1.1)

  messages_low : (later : Bool) (c : ℕ) (ms : t.Msgs) (r : List Piece) → AreMsgs later true ms → FitPieces later (msgs_pieces c ms r) → LowAll later (numbered_messages ms) × FitPieces later r
  messages_low later c t.no_msgs r is h = (tt, h)
  messages_low later c (t.more_msgs m ms) r is h =
      let x = message_low later c m _ is.0 h.1 in
      let y = messages_low later c ms r is.1 x.1 in
      ((x.0, y.0), y.1)

abbrev AtomLow : Bool → Atom → Type 0
AtomLow later a = OfAtom (MessageOver (2 ^ 32) 0) a × IsAtomIn later a

abbrev EffectLow : Bool → Effect → Type 0
EffectLow later es = OfEffect (MessageOver (2 ^ 32) 0) es × IsEffectIn later es

atom_low : (later : Bool) (c : ℕ) (a : t.Atom) (r : List Piece) → IsAtom later true a → FitPieces later (atom_pieces c a r) → AtomLow later (numbered_atom a) × FitPieces later r
atom_low later c (t.ends s m) r is h = message_low later (c + 1) m _ is h.1
atom_low later c (t.checks s m) r is h = message_low later (c + 1) m _ is h.1
atom_low later c (t.many s m) r is h = (let x = message_low later (c + 1) m _ is.1 h.1 in ((x.0.0, (is.0, x.0.1)), x.1))

atoms_low : (later : Bool) (c : ℕ) (es : List t.Atom) (r : List Piece) → AreAtoms later true es → FitPieces later (atoms_pieces c es r) → EffectLow later (map numbered_atom es) × FitPieces later r
atoms_low later c [] r is h = ((tt, tt), h)
atoms_low later c (a ∷ es) r is h =
    let x = atom_low later c a _ is.0 h.1 in
    let y = atoms_low later c es r is.1 x.1 in
    (((x.0.0, y.0.0), (x.0.1, y.0.1)), y.1)

effect_low : (later : Bool) (c : ℕ) (es : List t.Atom) (r : List Piece) → AreAtoms later true es → FitPieces later (effect_pieces c es r) → EffectLow later (map numbered_atom es) × FitPieces later r
effect_low later c [] r is h = ((tt, tt), h.1.1)
effect_low later c (a ∷ es) r is h =
    let x = atom_low later c a _ is.0 h.1 in
    let y = atoms_low later c es _ is.1 x.1 in
    (((x.0.0, y.0.0), (x.0.1, y.0.1)), y.1.1)

-- each rule is known, its word fits, and the effect that it writes has small numbers
abbrev IsLow : Bool → Option (List t.Atom) → Type 0
IsLow later None = ⊤
IsLow later (Some es) = EffectLow later (map numbered_atom es)

abbrev mutual
  pub Printable : Bool → t.Deriv → Type 0
  Printable later (t.rule s w es ds) = (rule_spelled (rule_named w.word) ≡ w.word) × IsKind (words_of later) (kinds.Word w.word) × IsLow later es × AllPrintable later ds

  AllPrintable : Bool → t.Derivs → Type 0
  AllPrintable later t.no_derivs = ⊤
  AllPrintable later (t.more_derivs d ds) = Printable later d × AllPrintable later ds

known : (later : Bool) (w : List ℕ) (n : ℕ) → arity_of later w ≡ Some n → rule_spelled (rule_named w) ≡ w
known later w n e = go (named (rules_of later) w) refl e
  where
    go : (o : Option Rule) → named (rules_of later) w ≡ o → arity_by o ≡ Some n → rule_spelled (rule_named w) ≡ w
    go None is f = absurd cc
    go (Some r) is f =
        let same = named_spelled (rules_of later) w r is in
        sym (ap rule_spelled (rule_found r w same)) ∙ same

mutual
  pub deriv_low : (later : Bool) (c : ℕ) (d : t.Deriv) (r : List Piece) → IsDeriv later d → HasRules later d → FitPieces later (deriv_pieces c d r) → Printable later d × FitPieces later r
  deriv_low later c (t.rule s w None ds) r is has h =
      let y = derivs_low later (c + 1) ds _ is.1 has.2 h.1 in
      ((known later w.word _ has.0, h.0, tt, y.0), y.1)
  deriv_low later c (t.rule s w (Some es) ds) r is has h =
      let x = effect_low later 0 es _ is.0 h.1 in
      let y = derivs_low later (c + 1) ds _ is.1 has.2 x.1 in
      ((known later w.word _ has.0, h.0, x.0, y.0), y.1)

  derivs_low : (later : Bool) (c : ℕ) (ds : t.Derivs) (r : List Piece) → AreDerivs later ds → HaveRules later ds → FitPieces later (derivs_pieces c ds r) → AllPrintable later ds × FitPieces later r
  derivs_low later c t.no_derivs r is has h = (tt, h)
  derivs_low later c (t.more_derivs d ds) r is has h =
      let x = deriv_low later c d _ is.0 has.0 h in
      let y = derivs_low later c ds r is.1 has.1 x.1 in
      ((x.0, y.0), y.1)

-- ---- their texts

numbered : (later : Bool) (i : ℕ) → i < 2 ^ 32 → (c : ℕ) (r : List Piece) (more : List ℕ) → IsTrue (is_apart more) → Prints later (kinds_in r) more
    → Prints later (kinds_in (msg_pieces c (numbered_name i) r)) (numbered_text i ++ more)
numbered later i low c r more apart p = prints.mark mark.NumberSign (prints.number i low apart p)

effect : (later : Bool) (es : Effect) → EffectLow later es → (r : List Piece) (more : List ℕ) → Prints later (kinds_in r) more
    → Prints later (kinds_in (effect_pieces 0 (atom_trees numbered_name 0 es) r)) (effect_text numbered_text 0 es ++ more)
effect later es h r more p =
    terms.effect later (2 ^ 32) numbered_name numbered_text (numbered later) (2 ^ 32) 0 0 0 es (record { free = omega arith; bound = omega arith; all = omega arith }) h.0 h.1 r more p

mutual
  pub deriv : (later : Bool) (c : ℕ) (d : t.Deriv) → Printable later d → (r : List Piece) (us : List RuleUse) → Prints later (kinds_in r) (uses_text us)
      → Prints later (kinds_in (deriv_pieces c (deriv_tree d) r)) (uses_text (uses_in d ++ us))
  deriv later c (t.rule s w None ds) h r us p =
      let rest : List ℕ = uses_text (all_uses_in ds ++ us) in
      prints.part (rule_spelled (rule_named w.word)) (codes "\n") rest (prints.rewritten (w.word ++ (10 ∷ rest)) (rule_spelled (rule_named w.word) ++ (10 ∷ rest)) (ap (λ (x : List ℕ). x ++ (10 ∷ rest)) (sym h.0))
      (prints.spelling w.word h.1 refl (prints.line (derivs later (c + 1) ds h.3 _ us p))))
  deriv later c (t.rule s w (Some es) ds) h r us p =
      let rest : List ℕ = uses_text (all_uses_in ds ++ us) in
      let written : List ℕ = effect_text numbered_text 0 (map numbered_atom es) in
      let after : List ℕ = 32 ∷ ((written ++ codes "\n") ++ rest) in
      prints.part (rule_spelled (rule_named w.word)) (32 ∷ (written ++ codes "\n")) rest (prints.rewritten (w.word ++ after) (rule_spelled (rule_named w.word) ++ after) (ap (λ (x : List ℕ). x ++ after) (sym h.0))
      (prints.spelling w.word h.1 refl (prints.space (prints.part written (codes "\n") rest (effect later (map numbered_atom es) h.2 _ _ (prints.line (derivs later (c + 1) ds h.3 _ us p)))))))

  derivs : (later : Bool) (c : ℕ) (ds : t.Derivs) → AllPrintable later ds → (r : List Piece) (us : List RuleUse) → Prints later (kinds_in r) (uses_text us)
      → Prints later (kinds_in (derivs_pieces c (deriv_trees ds) r)) (uses_text (all_uses_in ds ++ us))
  derivs later c t.no_derivs h r us p = p
  derivs later c (t.more_derivs d ds) h r us p =
      prints.rewritten (uses_text (uses_in d ++ (all_uses_in ds ++ us))) (uses_text ((uses_in d ++ all_uses_in ds) ++ us)) (ap uses_text (sym (append_assoc (uses_in d) (all_uses_in ds) us)))
      (deriv later c d h.0 _ (all_uses_in ds ++ us) (derivs later c ds h.1 r us p))
