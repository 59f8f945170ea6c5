-- A node above its limit is seen at its first token, and what may be absent begins with a token that it eats.
use Rattle.std.proofs.Common.{◌≡◌, ℕ, zero, suc, Bool, true, false, cond, List, Option, Some, None, refl}
use Rattle.spi_lex.specs.declared.token.Kind.{Kind}
use Rattle.spi_lex.specs.declared.token.Kind.TheVariants as K
use Rattle.spi_lex.specs.declared.token.Reserved.TheVariants as word
use Rattle.spi_lex.specs.declared.token.Mark.TheVariants as mark
use Rattle.spi_parse.specs.Rules.{arity_of, writes_effect}
use Rattle.spi_parse.specs.Table.{Sym, msg, atom, ty, seq, out_tail, par_tail, steps_item, steps, deriv, opponent_tail, schedule_tail, derivation_tail, Tree, Build, eat, skip, deep_here, delta, at_end, is_act, is_talk, rule_move}
use Rattle.spi_parse.proofs.Local.{Flags, MoveOpens, TableFlags}

rule_flags : (v : Bool) (n : ℕ) (w : List ℕ) (a : Option ℕ) (b : Bool) → Flags (rule_move v n w a b)
rule_flags v n w None b = tt
rule_flags v n w (Some zero) false = tt
rule_flags v n w (Some (suc zero)) false = tt
rule_flags v n w (Some (suc (suc zero))) false = tt
rule_flags v n w (Some (suc (suc (suc zero)))) false = tt
rule_flags v n w (Some (suc (suc (suc (suc k))))) false = tt
rule_flags v n w (Some (suc zero)) true = tt
rule_flags v n w (Some zero) true = tt
rule_flags v n w (Some (suc (suc k))) true = tt

flags : (a : Sym) (k : Kind) → deep_here a ≡ true → Flags (delta a k)
flags (msg v true n) (K.Word w) e = tt
flags (msg v d n) (K.Mark mark.ParenOpen) e = tt
flags (msg true d n) (K.Reserved word.Hash) e = tt
flags (msg false d n) (K.Reserved word.Hash) e = tt
flags (msg v d n) _ e = tt
flags (atom true d n) (K.Reserved word.Many) e = tt
flags (atom false d n) (K.Reserved word.Many) e = tt
flags (atom v d n) _ e = tt
flags (ty v n) (K.Reserved word.Un) e = tt
flags (ty v n) (K.Mark mark.ParenOpen) e = tt
flags (ty v n) _ e = tt
flags (seq true n) (K.Reserved word.EndMany) e = tt
flags (seq false n) (K.Reserved word.EndMany) e = tt
flags (seq v n) (K.Mark mark.ParenOpen) e = tt
flags (seq v n) _ e = tt
flags (deriv v n) (K.Word w) e = rule_flags v n w (arity_of v w) (writes_effect w)
flags (deriv v n) _ e = tt
flags _ k e = absurd cc

deep_ends : (a : Sym) → deep_here a ≡ true → at_end a ≡ None
deep_ends (msg v d n) e = refl
deep_ends (atom v d n) e = refl
deep_ends (ty v n) e = refl
deep_ends (seq v n) e = refl
deep_ends (deriv v n) e = refl
deep_ends _ e = absurd cc

-- a step that is told by two words, or none
skips_open : (a : Sym) (l l' : List Sym) (b : Build a l) (b' : Build a l') (x : Tree a) (c c' : Bool) → MoveOpens {a = a} (cond c (eat l b) (cond c' (eat l' b') (skip x)))
skips_open a l l' b b' x true c' = tt
skips_open a l l' b b' x false true = tt
skips_open a l l' b b' x false false = tt

tails : (a : Sym) (k : Kind) (x : Tree a) → at_end a ≡ Some x → MoveOpens (delta a k) × (deep_here a ≡ false)
tails (out_tail v n) (K.Mark mark.Semicolon) x e = (tt, refl)
tails (out_tail v n) _ x e = (tt, refl)
tails (par_tail v n) (K.Mark mark.Bar) x e = (tt, refl)
tails (par_tail v n) _ x e = (tt, refl)
tails steps_item (K.Word w) x e = (skips_open steps_item _ _ _ _ _ (is_act w) (is_talk w), refl)
tails steps_item _ x e = (tt, refl)
tails steps (K.Word w) x e = (skips_open steps _ _ _ _ _ (is_act w) (is_talk w), refl)
tails steps _ x e = (tt, refl)
tails (opponent_tail v) (K.Reserved word.Opponent) x e = (tt, refl)
tails (opponent_tail v) _ x e = (tt, refl)
tails schedule_tail (K.Reserved word.Schedule) x e = (tt, refl)
tails schedule_tail _ x e = (tt, refl)
tails (derivation_tail v) (K.Reserved word.Derivation) x e = (tt, refl)
tails (derivation_tail v) _ x e = (tt, refl)
tails _ k x e = absurd cc

pub table_flags : TableFlags
table_flags = record { moves = flags; ends = deep_ends; tails = tails }
