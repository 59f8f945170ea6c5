-- How clap reads a word.
use Rattle.std.proofs.Common.{◌≡◌, ◌==◌, ◌∙◌, ◌+◌, ℕ, suc, Bool, true, false, true≢false, not, cond, refl, sym, ap, arith, List, [], ◌∷◌, ◌++◌, length, take, drop, Option, Some, None, inl, inr, ◌⊎◌, ◌||◌}
use Rattle.std.specs.Prelude.{option_and_then, slice_get, nat_lt}
use Rattle.std.specs.List.{list_any, before_first, after_first, position_or_len}
use Rattle.std.specs.Option.{unwrap_or}
use Rattle.std.specs.Str.{chars}
use Rattle.std.proofs.lemmas.Bool.Decides.{nat_tests}
use Rattle.clap.specs.Lexer.{long_of, long_of_rest, short_of, short_of_rest, strip_byte}
use Rattle.clap.specs.Faults.{flag_word_fault}
use Rattle.clap.specs.Walk.{Held, Row, Rule, Text, Waiting, arg_by_long, arg_by_short, long_or_other, plain_word}
use Rattle.clap.specs.declared.error.kind.ErrorKind.TheVariants.{UnknownArgument}
use Rattle.clap.proofs.OnLiterals.{clap_on_literals}
use Rattle.spi_commands.specs.Number.{number_below}

-- ---- the name and the value of `--NAME=VALUE`

cut : (t : Text) → list_any (λ x. x == 61) t ≡ true → t ≡ before_first (λ x. x == 61) t ++ 61 ∷ after_first (λ x. x == 61) t
cut [] e = absurd (true≢false (sym e))
cut (x ∷ xs) e = by (x == 61) refl (cut xs) e
  where
    by : (b : Bool) → (x == 61) ≡ b → (list_any (λ x. x == 61) xs ≡ true → xs ≡ before_first (λ x. x == 61) xs ++ 61 ∷ after_first (λ x. x == 61) xs)
        → (b || list_any (λ x. x == 61) xs) ≡ true
        → x ∷ xs ≡ take (cond (not b) (1 + position_or_len (λ x. x == 61) xs) 0) (x ∷ xs) ++ 61 ∷ drop (cond (not b) (1 + position_or_len (λ x. x == 61) xs) 0 + 1) (x ∷ xs)
    by true is rest some = let same : x ≡ 61 = grind (arith, nat_tests) in ap (λ y. y ∷ xs) same
    by false is rest some =
        let n = position_or_len (λ x. x == 61) xs in
        let on : 1 + n ≡ suc n = omega arith in
        let past : suc n + 1 ≡ suc (n + 1) = omega arith in
        rw (on) (rw (past) (ap (λ l. x ∷ l) (rest some)))

uncut : (t : Text) → list_any (λ x. x == 61) t ≡ false → t ≡ before_first (λ x. x == 61) t
uncut [] e = refl
uncut (x ∷ xs) e = by (x == 61) (uncut xs) e
  where
    by : (b : Bool) → (list_any (λ x. x == 61) xs ≡ false → xs ≡ before_first (λ x. x == 61) xs) → (b || list_any (λ x. x == 61) xs) ≡ false
        → x ∷ xs ≡ take (cond (not b) (1 + position_or_len (λ x. x == 61) xs) 0) (x ∷ xs)
    by true rest none = absurd (true≢false none)
    by false rest none =
        let on : 1 + position_or_len (λ x. x == 61) xs ≡ suc (position_or_len (λ x. x == 61) xs) = omega arith in
        rw (on) (ap (λ l. x ∷ l) (rest none))

-- what stands behind the name
abbrev pub behind_kind : Option Text → Text
behind_kind None = []
behind_kind (Some v) = 61 ∷ v

none≢some : {X : Type 0} (x : X) → None ≡ Some x → ⊥
none≢some x e = true≢false (ap (λ o. Rattle.std.specs.Option.is_none o) e)

append_nothing : (t : Text) → t ++ [] ≡ t
append_nothing [] = refl
append_nothing (x ∷ xs) = ap (λ l. x ∷ l) (append_nothing xs)

-- a word that clap reads as an option
pub long_word_is : (word : Text) (p : Text × Option Text) → long_of word ≡ Some p → word ≡ 45 ∷ 45 ∷ (p.0 ++ behind_kind p.1)
long_word_is [] p e = absurd (none≢some p e)
long_word_is (x ∷ xs) p e = by (x == 45) refl xs e
  where
    parts : (t : Text) (b : Bool) → list_any (λ x. x == 61) t ≡ b → t ≡ before_first (λ x. x == 61) t ++ behind_kind (cond b (Some (after_first (λ x. x == 61) t)) None)
    parts t true h = cut t h
    parts t false h = uncut t h ∙ sym (append_nothing (before_first (λ x. x == 61) t))

    second : (y : ℕ) (c : Bool) → (y == 45) ≡ c → (ys : Text) → x ≡ 45 → option_and_then long_of_rest (cond c (Some ys) None) ≡ Some p → x ∷ y ∷ ys ≡ 45 ∷ 45 ∷ (p.0 ++ behind_kind p.1)
    second y false isy ys is45 e = absurd (none≢some p e)
    second y true isy [] is45 e = absurd (none≢some p e)
    second y true isy (z ∷ zs) is45 e =
        let also : y ≡ 45 = grind (arith, nat_tests) in
        let same = ap (λ o. unwrap_or o p) e in
        (λ i. is45 i ∷ also i ∷ parts (z ∷ zs) (list_any (λ x. x == 61) (z ∷ zs)) refl i) ∙ ap (λ (q : Text × Option Text). 45 ∷ 45 ∷ (q.0 ++ behind_kind q.1)) same

    by : (b : Bool) → (x == 45) ≡ b → (xs : Text) → option_and_then long_of_rest (option_and_then (strip_byte 45) (cond b (Some xs) None)) ≡ Some p → x ∷ xs ≡ 45 ∷ 45 ∷ (p.0 ++ behind_kind p.1)
    by false isx xs e = absurd (none≢some p e)
    by true isx [] e = absurd (none≢some p e)
    by true isx (y ∷ ys) e = let is45 : x ≡ 45 = grind (arith, nat_tests) in second y (y == 45) refl ys is45 e

-- a word that clap reads as flags of one letter
pub short_word_is : (word flags : Text) → short_of word ≡ Some flags → word ≡ 45 ∷ flags
short_word_is [] flags e = absurd (none≢some flags e)
short_word_is (x ∷ xs) flags e = by (x == 45) refl xs e
  where
    by : (b : Bool) → (x == 45) ≡ b → (xs : Text) → option_and_then short_of_rest (cond b (Some xs) None) ≡ Some flags → x ∷ xs ≡ 45 ∷ flags
    by false is xs e = absurd (none≢some flags e)
    by true is [] e = absurd (none≢some flags e)
    by true is (y ∷ ys) e = let same : x ≡ 45 = grind (arith, nat_tests) in more (y == 45) same e
      where
        more : (c : Bool) → x ≡ 45 → cond c None (Some (y ∷ ys)) ≡ Some flags → x ∷ y ∷ ys ≡ 45 ∷ flags
        more true same e = absurd (none≢some flags e)
        more false same e = λ i. same i ∷ ap (λ o. unwrap_or o flags) e i

-- such a word is no number
pub no_number : (word t : Text) → word ≡ 45 ∷ t → (most : ℕ) → number_below most word ≡ None
no_number word t is most = ap (number_below most) is ∙ by (nat_lt (length t) 9)
  where
    by : (b : Bool) → Rattle.spi_commands.specs.Number.below_limit most (cond b None None) ≡ None
    by true = refl
    by false = refl

-- ---- a word that names no option

abbrev pub hold : List Row → Option (Text × List Text) → Held
hold rows pending = record { rows = rows; pending = pending; skip = 0 }

-- clap refuses it, and it is no number
pub record IsDashed (c : List Rule) (word : Text) : Type 0 where
  pub fails : (again : Bool) (rows : List Row) (pending : Option (Text × List Text)) → flag_word_fault c again (long_of word) word (hold rows pending) ≡ UnknownArgument ∷ []
  pub number : (most : ℕ) → number_below most word ≡ None

-- clap takes it as a value
pub record IsPlainValue (c : List Rule) (word : Text) : Type 0 where
  pub passes : (again : Bool) (rows : List Row) (pending : Option (Text × List Text)) → flag_word_fault c again (long_of word) word (hold rows pending) ≡ []
  pub value : (waiting : Waiting) (rows : List Row) (pending : Option (Text × List Text))
      → long_or_other c waiting word (long_of word) (hold rows pending) ≡ plain_word c waiting word (hold rows pending)

module _ (c : List Rule) (word : Text) (short : (x : ℕ) → arg_by_short c x ≡ None) where
  flags_fail : (flags : Text) (o : Option ℕ) → slice_get (chars flags) 0 ≡ o → long_of word ≡ None → short_of word ≡ Some flags → IsDashed c word ⊎ IsPlainValue c word
  unfolding clap_on_literals
  flags_fail [] o is long e = inr (record {
    passes = λ again rows pending. rw (long, e) refl;
    value = λ waiting rows pending. rw (long, e) refl;
  })
  flags_fail (y ∷ ys) None is long e = inr (record {
    passes = λ again rows pending. rw (long, e, is) refl;
    value = λ waiting rows pending. rw (long, e, is) refl;
  })
  flags_fail (y ∷ ys) (Some x) is long e = inl (record {
    fails = λ again rows pending. rw (long, e, is, short x) refl;
    number = no_number word (y ∷ ys) (short_word_is word (y ∷ ys) e);
  })

  by_short : (o : Option Text) → long_of word ≡ None → short_of word ≡ o → IsDashed c word ⊎ IsPlainValue c word
  by_short None long e = inr (record {
    passes = λ again rows pending. rw (long, e) refl;
    value = λ waiting rows pending. rw (long, e) refl;
  })
  by_short (Some flags) long e = flags_fail flags (slice_get (chars flags) 0) refl long e

  by_long : (o : Option (Text × Option Text)) → long_of word ≡ o → ((p : Text × Option Text) → o ≡ Some p → arg_by_long c p.0 ≡ None) → IsDashed c word ⊎ IsPlainValue c word
  by_long None e none = by_short (short_of word) e refl
  by_long (Some p) e none = inl (record {
    fails = λ again rows pending. rw (e, none p refl) refl;
    number = no_number word (45 ∷ (p.0 ++ behind_kind p.1)) (long_word_is word p e);
  })

  pub dashed_or_plain : ((p : Text × Option Text) → long_of word ≡ Some p → arg_by_long c p.0 ≡ None) → IsDashed c word ⊎ IsPlainValue c word
  dashed_or_plain = by_long (long_of word) refl
