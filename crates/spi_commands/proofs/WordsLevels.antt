-- What clap makes of the words of one command, word by word.
use Rattle.std.proofs.Common.{◌≡◌, ◌∙◌, ℕ, Bool, true, false, true≢false, cond, refl, ap, ap₂, List, [], ◌∷◌, Option, None}
use Rattle.std.specs.Prelude.{codes}
use Rattle.std.specs.List.{fold}
use Rattle.std.specs.Str.{bytes_eq}
use Rattle.clap.specs.Lexer.{long_of}
use Rattle.clap.specs.Kinds.{Kinds, or_else}
use Rattle.clap.specs.Faults.{check_fault, defaults_fault, settle_fault, step_fault, turn_fault, walk_fault}
use Rattle.clap.specs.Walk.{Held, Names, Row, Step, Text, Waiting, Walk, after_step, finished, long_or_other, plain_word, settled, subcommand_met, trailing, walked}
use Rattle.clap.specs.Simple.{Shape}
use Rattle.clap.specs.declared.error.kind.ErrorKind.{ErrorKind}
use Rattle.clap.specs.declared.error.kind.ErrorKind.TheVariants.{UnknownArgument}
use Rattle.clap.proofs.OnLiterals.{clap_on_literals}
use Rattle.spi_commands.specs.declared.asked.Command.{Command}
use Rattle.spi_commands.proofs.WordsKinds.{IsDashed, IsPlainValue, hold}

-- what is read of the rows, where there is no fault
abbrev pub level_answer : (List Row → Option Command) → Kinds → List Row → Option Command
level_answer read [] rows = read rows
level_answer read (k ∷ ks) rows = None

abbrev no_kinds : Kinds → Bool
no_kinds [] = true
no_kinds (k ∷ ks) = false

abbrev pub waiting_walk : Waiting → ℕ → List Row → Option (Text × List Text) → Walk
waiting_walk waiting position rows pending = record { held = hold rows pending; waiting = waiting; position = position; is_trailing = false; stopped = None }

module _ (s : Shape) (read : List Row → Option Command) where
  -- what is read at the end, and behind words
  abbrev pub at_end : Held → Option Command
  at_end end = level_answer read (or_else (settle_fault s.rules s.args_override_self end)
      (or_else (defaults_fault (settled s.rules end).rows s.rules) (check_fault s (finished s.rules end) false))) (finished s.rules end)

  abbrev pub behind_fault : Kinds → Held → Option Command
  behind_fault ks end = level_answer read (or_else ks (or_else [] (or_else (settle_fault s.rules s.args_override_self end)
      (or_else (defaults_fault (settled s.rules end).rows s.rules) (check_fault s (finished s.rules end) false))))) (finished s.rules end)

  abbrev pub after : Walk → List Text → Option Command
  after w words = behind_fault (walk_fault s [] w words) (fold (walked s.rules []) w words).held

  failed : (t : Kinds) (k : ErrorKind) (ks a : Kinds) (end : Held) → t ≡ k ∷ ks → None ≡ behind_fault (or_else t a) end
  failed [] k ks a end e = absurd (true≢false (ap no_kinds e))
  failed (x ∷ xs) k ks a end e = refl

  pub stops : (w : Walk) (word : Text) (rest : List Text) (k : ErrorKind) (ks : Kinds) → turn_fault s [] w word ≡ k ∷ ks → None ≡ after w (word ∷ rest)
  unfolding clap_on_literals
  stops w word rest k ks e = failed (turn_fault s [] w word) k ks (walk_fault s [] (walked s.rules [] w word) rest) (fold (walked s.rules []) (walked s.rules [] w word) rest).held e

  pub goes : (w next : Walk) (word : Text) (rest : List Text) → turn_fault s [] w word ≡ [] → walked s.rules [] w word ≡ next → after w (word ∷ rest) ≡ after next rest
  unfolding clap_on_literals
  goes w next word rest e is =
      ap (λ t. behind_fault (or_else t (walk_fault s [] (walked s.rules [] w word) rest)) (fold (walked s.rules []) (walked s.rules [] w word) rest).held) e
      ∙ ap (λ v. after v rest) is

-- a word that names no option of the command and no command
module _ (s : Shape) (names : Names) (waiting : Waiting) (position : ℕ) (rows : List Row) (pending : Option (Text × List Text)) (word : Text)
    (free : subcommand_met names waiting word ≡ None) (differs : bytes_eq word (codes "--") ≡ false) where
  refused_kinds : (b : Bool) (f g : Kinds) → b ≡ false → f ≡ UnknownArgument ∷ [] → or_else (cond b [] f) g ≡ UnknownArgument ∷ []
  refused_kinds b f g e is = rw (e, is) refl

  passed_kinds : (b : Bool) (f : Kinds) → b ≡ false → f ≡ [] → cond b [] f ≡ []
  passed_kinds b f e is = rw (e, is) refl

  pub dashed_turn : IsDashed s.rules word → turn_fault s names (waiting_walk waiting position rows pending) word ≡ UnknownArgument ∷ []
  dashed_turn h =
      let met = Rattle.clap.specs.Walk.word_met s.rules names false waiting position word (hold rows pending) in
      ap (λ o. or_else (Rattle.clap.specs.Faults.other_fault s o word (hold rows pending)) (step_fault s position met.0 met.1)) free
      ∙ refused_kinds (bytes_eq word (codes "--")) _ _ differs (h.fails s.args_override_self rows pending)

  pub plain_met : IsPlainValue s.rules word → Rattle.clap.specs.Walk.word_met s.rules names false waiting position word (hold rows pending) ≡ plain_word s.rules waiting word (hold rows pending)
  plain_met h =
      ap (λ o. Rattle.clap.specs.Walk.subcommand_or_other s.rules o waiting position word (hold rows pending)) free
      ∙ ap (λ b. cond b (hold rows pending, trailing position) (long_or_other s.rules waiting word (long_of word) (hold rows pending))) differs
      ∙ h.value waiting rows pending

  pub plain_turn : IsPlainValue s.rules word → turn_fault s names (waiting_walk waiting position rows pending) word
      ≡ step_fault s position (plain_word s.rules waiting word (hold rows pending)).0 (plain_word s.rules waiting word (hold rows pending)).1
  plain_turn h =
      let quiet : Rattle.clap.specs.Faults.word_fault s names false waiting word (hold rows pending) ≡ [] =
      ap (λ o. Rattle.clap.specs.Faults.other_fault s o word (hold rows pending)) free
      ∙ passed_kinds (bytes_eq word (codes "--")) _ differs (h.passes s.args_override_self rows pending) in
      ap₂ (λ (k : Kinds) (m : Held × Step). or_else k (step_fault s position m.0 m.1)) quiet (plain_met h)

  pub plain_walked : IsPlainValue s.rules word → walked s.rules names (waiting_walk waiting position rows pending) word
      ≡ after_step s.rules word (waiting_walk waiting position rows pending) (plain_word s.rules waiting word (hold rows pending)).0 (plain_word s.rules waiting word (hold rows pending)).1
  unfolding walked
  plain_walked h = ap (λ (m : Held × Step). after_step s.rules word (waiting_walk waiting position rows pending) m.0 m.1) (plain_met h)
