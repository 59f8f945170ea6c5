-- Branches that such proofs go wrong at, each a lemma of its own.
use Rattle.std.proofs.Common.{◌≡◌, ℕ, Bool, true, false, [], ◌∷◌, ◌++◌, ◌+◌, ◌≤◌, List, length, refl, arith}
use Rattle.spi_term.specs.Lists.{In}
use Rattle.spi_term.specs.Term.{Message, name, pair, Effect, checks, many, Atom}
use Rattle.spi_term.specs.Counts.{tally}
use Rattle.spi_effect.proofs.Laws.{tally_append}
use Rattle.spi_rules.specs.Messages.{Cast, cast_of}
use Rattle.spi_sound.specs.Account.{Account, credit, live, set_flag, with_begun, all_ends, all_many, all_checks}
use Rattle.spi_sound.proofs.Accounts.{set_flag_same, live_out, credit_checks}

-- several live casts of one name: the effect of each is held
several_live_casts : (u : ℕ → Bool) (x : ℕ) (fs gs : Effect) (cs : List Cast) → u x ≡ true
    → live u (cast_of (name x) fs ∷ cast_of (name x) gs ∷ cs) ≡ fs ++ (gs ++ live u cs)
several_live_casts u x fs gs cs h = rw (h) refl

-- a second cast after the check: it isn't live
cast_after_check : (u : ℕ → Bool) (x : ℕ) (fs : Effect) (cs : List Cast)
    → live (set_flag u x false) (cast_of (name x) fs ∷ cs) ≡ live (set_flag u x false) cs
cast_after_check u x fs cs = rw (set_flag_same u x false) refl

-- a check that releases one of several casts of its name: of the two live ones, one is released and none is live then
check_releases_one : (u : ℕ → Bool) (x : ℕ) (fs gs : Effect) (cs : List Cast) → u x ≡ true → (a : Atom)
    → In (cast_of (name x) gs) (cast_of (name x) fs ∷ cast_of (name x) gs ∷ cs)
    → tally a gs + tally a (live (set_flag u x false) (cast_of (name x) fs ∷ cast_of (name x) gs ∷ cs)) ≤ tally a (live u (cast_of (name x) fs ∷ cast_of (name x) gs ∷ cs))
check_releases_one u x fs gs cs h a i = live_out u x gs (cast_of (name x) fs ∷ cast_of (name x) gs ∷ cs) i h a

-- a check of a compound message: no account pays for it
compound_check : (a : Account) (m n : Message) → In (checks (pair m n)) (credit a) → ⊥
compound_check a m n i = let (x, e, lt, up) = credit_checks a (pair m n) i in cc

-- `many` atoms outlive their begin: their credit doesn't depend on which labels are begun and not yet ended
many_outlives : (a : Account) (m : Message) (ms : List Message) → tally (many m) (credit (with_begun a ms)) ≡ tally (many m) (credit a)
many_outlives a m ms =
    let rest = all_many a.ever ++ all_checks a.unchecked (length a.types) in
    omega (arith, tally_append (many m) (all_ends ms) rest, tally_append (many m) (all_ends a.begun) rest, none ms, none a.begun)
  where
    none : (ls : List Message) → tally (many m) (all_ends ls) ≡ 0
    none [] = refl
    none (l ∷ ls) = omega (arith, none ls)
