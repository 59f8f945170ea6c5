-- Each move of the table builds what it eats.
use Rattle.std.proofs.Common.{◌≡◌, ℕ, zero, suc, ◌+◌, Bool, true, false, cond, eqb, ◌==◌, List, [], ◌∷◌, Option, Some, None, codes, refl, sym, ap, ◌⊎◌, inl, inr}
use Rattle.std.specs.Prelude.{nat_lt}
use Rattle.std.proofs.lemmas.Bool.{eqb-true}
use Rattle.spi_text.specs.declared.lines.Span.{Span}
use Rattle.spi_lex.specs.declared.token.Kind.{Kind}
use Rattle.spi_lex.specs.declared.token.Kind.TheVariants as K
use Rattle.spi_lex.specs.declared.token.Reserved.{Reserved}
use Rattle.spi_lex.specs.declared.token.Reserved.TheVariants as word
use Rattle.spi_lex.specs.declared.token.Mark.{Mark}
use Rattle.spi_lex.specs.declared.token.Mark.TheVariants as mark
use Rattle.spi_lex.proofs.Lexed.{same_bytes}
use Rattle.spi_tree.specs.declared.tree.SWord.{SWord}
use Rattle.spi_tree.specs.Trees as t
use Rattle.spi_tree.specs.Pieces.{Piece, opens, cell, closes, message_limit, derivation_limit, in_seq, at_level, proc_pieces, steps_pieces}
use Rattle.spi_tree.specs.Formed.{IsMsg, IsTy, IsProc}
use Rattle.spi_parse.specs.Rules.{arity_of, writes_effect}
use Rattle.spi_parse.specs.Table.{one, last, Sym, the_mark, the_reserved, the_word, the_number, the_two, msg, msgs_item, msgs, atom, atoms_item, atoms, effect, ty, fields_item, fields_rest, fields, fields_more, named, binder, split_head, match_head, case_head, decrypt_head, check_head, cast_head, sproc, seq, out_tail, par_tail, words_item, words, free_rest, abbr_rest, decl, decls_item, decls, act_rest, talk_rest, steps_item, steps, deriv, opponent_tail, schedule_tail, derivation_tail, body, file, Tree, eat, skip, fail, deep_here, delta, at_end, mark_number, reserved_number, over, word_at, with_field, par_of, out_of, act_from, talk_from, file_from, is_act, is_talk, is_version_word, rule_move, delta_paren, delta_bracket, delta_ty_paren, delta_ty_word, delta_item_word, delta_fields_word}
use Rattle.spi_parse.proofs.Spell.{spell, IsFieldItem, AreParts, AreMoreParts, Formed}
use Rattle.spi_parse.proofs.Sound.{IsMoveSpelled, word_front, MoveOk, TableOk}
use Rattle.spi_parse.proofs.Numbers.{same_mark, same_reserved}

mark_case : (m found : Mark) (s : Span) (b : Bool) → eqb (mark_number found) (mark_number m) ≡ b → MoveOk {a = the_mark m} {ate = false} (cond b (eat [] (λ ss to xs. tt)) fail) false [] s.from (λ q. q) (K.Mark found) s
mark_case m found s false e = tt
mark_case m found s true e = let same = same_mark found m (eqb-true _ _ e) in (0, λ to xs h. (tt, (0, 0, λ r. ap (λ (k : Mark). cell (K.Mark k) false ∷ r) (sym same))))

reserved_case : (w found : Reserved) (s : Span) (b : Bool) → eqb (reserved_number found) (reserved_number w) ≡ b → MoveOk {a = the_reserved w} {ate = false} (cond b (eat [] (λ ss to xs. tt)) fail) false [] s.from (λ q. q) (K.Reserved found) s
reserved_case w found s false e = tt
reserved_case w found s true e = let same = same_reserved found w (eqb-true _ _ e) in (0, λ to xs h. (tt, (0, 0, λ r. ap (λ (k : Reserved). cell (K.Reserved k) false ∷ r) (sym same))))

two_case : (n : ℕ) (s : Span) (b : Bool) → (n == 2) ≡ b → MoveOk {a = the_two} {ate = false} (cond b (eat [] (λ ss to xs. tt)) fail) false [] s.from (λ q. q) (K.Number n) s
two_case n s false e = tt
two_case n s true e = let same = eqb-true n 2 e in (0, λ to xs h. (tt, (0, 0, λ r. ap (λ (i : ℕ). cell (K.Number i) false ∷ r) (sym same))))

paren_ok : (v d : Bool) (n : ℕ) (s : Span) (k' : Kind) (s' : Span) → MoveOk (delta_paren v d n k') false (s ∷ []) s.from (λ q. cell (K.Mark mark.ParenOpen) (nat_lt message_limit n) ∷ q) k' s'
paren_ok v d n s (K.Mark mark.ParenClose) s' = (0, λ to xs h. (tt, (1, 1, λ r. refl)))
paren_ok v d n s _ s' = λ to xs h. ((h.0, h.1.1.0, h.1.1.1.0), (1, 1, λ r. refl))

bracket_ok : (v d : Bool) (n : ℕ) (s : Span) (k' : Kind) (s' : Span) → MoveOk (delta_bracket v d n k') false (s ∷ []) s.from (λ q. cell (K.Mark mark.BracketOpen) false ∷ q) k' s'
bracket_ok v d n s (K.Mark mark.BracketClose) s' = (0, λ to xs h. (tt, (0, 0, λ r. refl)))
bracket_ok v d n s _ s' = λ to xs h. ((h.0, h.1.0), (0, 0, λ r. refl))

ty_word_ok : (v : Bool) (n : ℕ) (s : Span) (w : List ℕ) (s' : Span) (k'' : Kind) (s'' : Span) →
    MoveOk (delta_ty_word v n w k'') false (s ∷ s' ∷ []) s.from (λ q. cell (K.Mark mark.ParenOpen) (nat_lt message_limit n) ∷ word_front false (K.Word w) s' false q) k'' s''
    ⊎ MoveOk (delta_ty_word v n w k'') false (s ∷ s' ∷ []) s.from (λ q. cell (K.Mark mark.ParenOpen) (nat_lt message_limit n) ∷ word_front true (K.Word w) s' (nat_lt message_limit (n + 1)) q) k'' s''
ty_word_ok v n s w s' (K.Mark mark.Colon) s'' = inl (0, λ to xs h. ((h.0, h.1.1.0.0, h.1.1.0.1), (1, 1, λ r. refl)))
ty_word_ok v n s w s' (K.Mark mark.Plus) s'' = inr (0, λ to xs h. ((tt, h.0), (1, 1, λ r. refl)))
ty_word_ok v n s w s' _ s'' = inl tt

ty_paren_ok : (v : Bool) (n : ℕ) (s : Span) (k' : Kind) (s' : Span) → MoveOk (delta_ty_paren v n k') false (s ∷ []) s.from (λ q. cell (K.Mark mark.ParenOpen) (nat_lt message_limit n) ∷ q) k' s'
ty_paren_ok v n s (K.Mark mark.ParenClose) s' = (0, λ to xs h. (tt, (1, 1, λ r. refl)))
ty_paren_ok v n s (K.Word w) s' = λ k'' s''. ty_word_ok v n s w s' k'' s''
ty_paren_ok v n s _ s' = λ to xs h. ((h.0, h.1.1.0), (1, 1, λ r. refl))

item_formed : (v : Bool) (w : SWord) (a : t.Ty) (b : Bool) → IsTy v a → IsFieldItem v (cond b (last (t.named w a)) (one (record { name = w; ty = a })))
item_formed v w a true h = h
item_formed v w a false h = h

item_case : (v : Bool) (n : ℕ) (w : SWord) (a : t.Ty) (b : Bool) (r : List Piece) → spell (fields_item v n) (cond b (last (t.named w a)) (one (record { name = w; ty = a }))) r ≡ opens w.span.from ∷ cell (K.Word w.word) false ∷ closes w.span.to ∷ cell (K.Mark mark.Colon) false ∷ spell (ty v n) a (spell fields_rest b r)
item_case v n w a true r = refl
item_case v n w a false r = refl

item_word_ok : (v : Bool) (n : ℕ) (w : List ℕ) (s : Span) (k' : Kind) (s' : Span) →
    MoveOk (delta_item_word v n w k') false (s ∷ []) s.from (λ q. word_front false (K.Word w) s false q) k' s'
    ⊎ MoveOk (delta_item_word v n w k') false (s ∷ []) s.from (λ q. word_front true (K.Word w) s (nat_lt message_limit n) q) k' s'
item_word_ok v n w s (K.Mark mark.Colon) s' = inl (0, λ to xs h. (item_formed v (word_at w s) xs.0 xs.1.0 h.0, (0, 0, λ r. item_case v n (word_at w s) xs.0 xs.1.0 r)))
item_word_ok v n w s (K.Mark mark.ParenClose) s' = inr (0, λ to xs h. (tt, (0, 0, λ r. refl)))
item_word_ok v n w s _ s' = inl tt

field_formed : (v : Bool) (w : SWord) (a : t.Ty) (o : Option (List t.Field × t.Last)) → IsTy v a → AreMoreParts v o → AreParts v (with_field w a o)
field_formed v w a None h k = (tt, h)
field_formed v w a (Some x) h k = ((h, k.0), k.1)

field_case : (v : Bool) (n : ℕ) (w : SWord) (a : t.Ty) (o : Option (List t.Field × t.Last)) (r : List Piece) → spell (fields v n) (with_field w a o) r ≡ opens w.span.from ∷ cell (K.Word w.word) false ∷ closes w.span.to ∷ cell (K.Mark mark.Colon) false ∷ spell (ty v n) a (spell (fields_more v n) o r)
field_case v n w a None r = refl
field_case v n w a (Some x) r = refl

fields_word_ok : (v : Bool) (n : ℕ) (w : List ℕ) (s : Span) (k' : Kind) (s' : Span) →
    MoveOk (delta_fields_word v n w k') false (s ∷ []) s.from (λ q. word_front false (K.Word w) s false q) k' s'
    ⊎ MoveOk (delta_fields_word v n w k') false (s ∷ []) s.from (λ q. word_front true (K.Word w) s (nat_lt message_limit n) q) k' s'
fields_word_ok v n w s (K.Mark mark.Colon) s' = inl (0, λ to xs h. (field_formed v (word_at w s) xs.0 xs.1.0 h.0 h.1.0, (0, 0, λ r. field_case v n (word_at w s) xs.0 xs.1.0 r)))
fields_word_ok v n w s (K.Mark mark.ParenClose) s' = inr (0, λ to xs h. ((tt, tt), (0, 0, λ r. refl)))
fields_word_ok v n w s _ s' = inl tt

-- a sequence is a process of the level below
pub seq_is_proc : (v : Bool) (n : ℕ) (p : t.Proc) → IsProc v (in_seq (n + 1)) p → IsProc v (at_level n) p
seq_is_proc v n (t.par s p q) h = absurd h
seq_is_proc v n _ h = h

pub seq_as_proc : (v : Bool) (n : ℕ) (p : t.Proc) (r : List Piece) → IsProc v (in_seq (n + 1)) p → proc_pieces (at_level n) p r ≡ proc_pieces (in_seq (n + 1)) p r
seq_as_proc v n (t.par s p q) r h = absurd h
seq_as_proc v n _ r h = refl

par_case : (v : Bool) (n : ℕ) (s : Span) (to : ℕ) (p : t.Proc) (o : Option t.Proc) → IsProc v (in_seq (n + 1)) p → Formed (par_tail v n) o
    → IsProc v (at_level n) (par_of (record { from = s.from; to = to }) p o) × IsMoveSpelled (sproc v n) (seq v (n + 1) ∷ par_tail v n ∷ []) s.from (λ q. q) to (par_of (record { from = s.from; to = to }) p o) (p, (o, tt))
par_case v n s to p None h k = (seq_is_proc v n p h, (0, 0, λ r. seq_as_proc v n p r h))
par_case v n s to p (Some q) h k = ((h, k), (1, 1, λ r. refl))

out_case : (v : Bool) (n : ℕ) (s : Span) (to : ℕ) (a b : t.Msg) (o : Option t.Proc) → IsMsg v false a → IsMsg v false b → Formed (out_tail v n) o
    → IsProc v (in_seq n) (out_of (record { from = s.from; to = to }) a b o) × IsMoveSpelled (seq v n) (msg v false 1 ∷ msg v false 1 ∷ out_tail v n ∷ []) s.from (λ q. cell (K.Reserved word.Out) (deep_here (seq v n)) ∷ q) to (out_of (record { from = s.from; to = to }) a b o) (a, (b, (o, tt)))
out_case v n s to a b None ha hb h = ((ha, hb), (1, 1, λ r. refl))
out_case v n s to a b (Some p) ha hb h = ((ha, hb, h), (1, 1, λ r. refl))

item_step_ok : (w : List ℕ) (s : Span) (a b : Bool) → is_act w ≡ a → is_talk w ≡ b
    → MoveOk {a = steps_item} {ate = false} (cond a (eat (act_rest ∷ []) (λ ss to xs. one (act_from ss xs.0))) (cond b (eat (talk_rest ∷ []) (λ ss to xs. one (talk_from ss xs.0))) (skip (last tt)))) false [] s.from (λ q. q) (K.Word w) s
item_step_ok w s true b e f = let same = same_bytes w (codes "act") e in (0, λ to xs h. (tt, (1, 0, λ r. ap (λ (z : List ℕ). opens s.from ∷ cell (K.Word z) false ∷ spell act_rest xs.0 r) (sym same))))
item_step_ok w s false true e f = let same = same_bytes w (codes "talk") f in (0, λ to xs h. (tt, (1, 0, λ r. ap (λ (z : List ℕ). opens s.from ∷ cell (K.Word z) false ∷ spell talk_rest xs.0 r) (sym same))))
item_step_ok w s false false e f = (tt, λ r. refl)

more_steps_ok : (w : List ℕ) (s : Span) (a b : Bool) → is_act w ≡ a → is_talk w ≡ b
    → MoveOk {a = steps} {ate = false} (cond a (eat (act_rest ∷ steps ∷ []) (λ ss to xs. (act_from ss xs.0 ∷ xs.1.0.0, xs.1.0.1))) (cond b (eat (talk_rest ∷ steps ∷ []) (λ ss to xs. (talk_from ss xs.0 ∷ xs.1.0.0, xs.1.0.1))) (skip ([], tt)))) false [] s.from (λ q. q) (K.Word w) s
more_steps_ok w s true b e f = let same = same_bytes w (codes "act") e in (0, λ to xs h. (tt, (1, 0, λ r. ap (λ (z : List ℕ). opens s.from ∷ cell (K.Word z) false ∷ spell act_rest xs.0 (spell steps xs.1.0 r)) (sym same))))
more_steps_ok w s false true e f = let same = same_bytes w (codes "talk") f in (0, λ to xs h. (tt, (1, 0, λ r. ap (λ (z : List ℕ). opens s.from ∷ cell (K.Word z) false ∷ spell talk_rest xs.0 (spell steps xs.1.0 r)) (sym same))))
more_steps_ok w s false false e f = (tt, λ r. refl)

rule_ok : (v : Bool) (n : ℕ) (w : List ℕ) (s : Span) (a : Option ℕ) (b : Bool) → arity_of v w ≡ a → writes_effect w ≡ b → MoveOk (rule_move v n w a b) (nat_lt derivation_limit n) [] s.from (λ q. q) (K.Word w) s
rule_ok v n w s None b e f = tt
rule_ok v n w s (Some zero) false e f = (1, λ to xs h. ((e, f, tt, tt), (2, 1, λ r. refl)))
rule_ok v n w s (Some (suc zero)) false e f = (1, λ to xs h. ((e, f, tt, (h.0, tt)), (2, 1, λ r. refl)))
rule_ok v n w s (Some (suc (suc zero))) false e f = (1, λ to xs h. ((e, f, tt, (h.0, (h.1.0, tt))), (2, 1, λ r. refl)))
rule_ok v n w s (Some (suc (suc (suc zero)))) false e f = (1, λ to xs h. ((e, f, tt, (h.0, (h.1.0, (h.1.1.0, tt)))), (2, 1, λ r. refl)))
rule_ok v n w s (Some (suc (suc (suc (suc k))))) false e f = tt
rule_ok v n w s (Some (suc zero)) true e f = (1, λ to xs h. ((e, f, h.0, (h.1.0, tt)), (2, 1, λ r. refl)))
rule_ok v n w s (Some zero) true e f = tt
rule_ok v n w s (Some (suc (suc k))) true e f = tt

file_case : (w : List ℕ) (s : Span) (b : Bool) → is_version_word w ≡ b
    → MoveOk {a = file} {ate = false} (cond b (eat (the_two ∷ the_mark mark.Semicolon ∷ body true ∷ []) (λ ss to xs. file_from 2 (over ss to) xs.1.1.0)) fail) false [] s.from (λ q. q) (K.Word w) s
file_case w s false e = tt
file_case w s true e = let same = same_bytes w (codes "version") e in
    (0, λ to xs h. (record { version = inr refl; body = h.1.1.0 }, (1, 1, λ r. ap (λ (z : List ℕ). opens s.from ∷ cell (K.Word z) false ∷ spell the_two tt (spell (the_mark mark.Semicolon) tt (spell (body true) xs.1.1.0 (closes to ∷ r)))) (sym same))))

moves_ok : (a : Sym) (k : Kind) (s : Span) → MoveOk (delta a k) (deep_here a) [] s.from (λ q. q) k s
moves_ok (the_mark m) (K.Mark found) s = mark_case m found s (eqb (mark_number found) (mark_number m)) refl
moves_ok (the_reserved w) (K.Reserved found) s = reserved_case w found s (eqb (reserved_number found) (reserved_number w)) refl
moves_ok the_word (K.Word w) s = (1, λ to xs h. (tt, (1, 0, λ r. refl)))
moves_ok the_number (K.Number i) s = (0, λ to xs h. (tt, (0, 0, λ r. refl)))
moves_ok the_two (K.Number n) s = two_case n s (n == 2) refl
moves_ok (msg v false n) (K.Word w) s = (1, λ to xs h. (refl, (2, 1, λ r. refl)))
moves_ok (msg v d n) (K.Mark mark.ParenOpen) s = λ k' s'. paren_ok v d n s k' s'
moves_ok (msg v d n) (K.Mark mark.BraceOpen) s = (0, λ to xs h. ((h.0, h.1.1.0), (1, 1, λ r. refl)))
moves_ok (msg v true n) (K.Mark mark.NumberSign) s = (0, λ to xs h. (refl, (1, 1, λ r. refl)))
moves_ok (msg v d n) (K.Reserved word.Inl) s = (0, λ to xs h. (h.0, (1, 1, λ r. refl)))
moves_ok (msg v d n) (K.Reserved word.Inr) s = (0, λ to xs h. (h.0, (1, 1, λ r. refl)))
moves_ok (msg true d n) (K.Reserved word.Hash) s = (0, λ to xs h. ((refl, h.1.0), (1, 1, λ r. refl)))
moves_ok (msgs_item v d n) (K.Mark mark.Comma) s = (0, λ to xs h. (h.0, (0, 0, λ r. refl)))
moves_ok (msgs_item v d n) (K.Mark mark.ParenClose) s = (0, λ to xs h. (tt, (0, 0, λ r. refl)))
moves_ok (msgs v d n) (K.Mark mark.Comma) s = (0, λ to xs h. ((h.0, h.1.0), (0, 0, λ r. refl)))
moves_ok (msgs v d n) (K.Mark mark.ParenClose) s = (0, λ to xs h. (tt, (0, 0, λ r. refl)))
moves_ok (atom v d n) (K.Reserved word.End) s = (0, λ to xs h. (h.0, (1, 1, λ r. refl)))
moves_ok (atom v d n) (K.Reserved word.Check) s = (0, λ to xs h. (h.0, (1, 1, λ r. refl)))
moves_ok (atom true d n) (K.Reserved word.Many) s = (0, λ to xs h. ((refl, h.0), (1, 1, λ r. refl)))
moves_ok (atoms_item v d n) (K.Mark mark.Comma) s = (0, λ to xs h. (h.0, (0, 0, λ r. refl)))
moves_ok (atoms_item v d n) (K.Mark mark.BracketClose) s = (0, λ to xs h. (tt, (0, 0, λ r. refl)))
moves_ok (atoms v d n) (K.Mark mark.Comma) s = (0, λ to xs h. ((h.0, h.1.0), (0, 0, λ r. refl)))
moves_ok (atoms v d n) (K.Mark mark.BracketClose) s = (0, λ to xs h. (tt, (0, 0, λ r. refl)))
moves_ok (effect v d n) (K.Mark mark.BracketOpen) s = λ k' s'. bracket_ok v d n s k' s'
moves_ok (ty v n) (K.Word w) s = (1, λ to xs h. (tt, (2, 1, λ r. refl)))
moves_ok (ty v n) (K.Reserved word.Un) s = (0, λ to xs h. (tt, (1, 1, λ r. refl)))
moves_ok (ty v n) (K.Reserved word.Key) s = (0, λ to xs h. (h.1.0, (1, 1, λ r. refl)))
moves_ok (ty v n) (K.Reserved word.Nonce) s = (0, λ to xs h. (h.0, (1, 1, λ r. refl)))
moves_ok (ty v n) (K.Mark mark.ParenOpen) s = λ k' s'. ty_paren_ok v n s k' s'
moves_ok (fields_item v n) (K.Word w) s = λ k' s'. item_word_ok v n w s k' s'
moves_ok (fields_item v n) _ s = λ to xs h. (h.0, (0, 0, λ r. refl))
moves_ok fields_rest (K.Mark mark.Comma) s = (0, λ to xs h. (tt, (0, 0, λ r. refl)))
moves_ok fields_rest (K.Mark mark.ParenClose) s = (0, λ to xs h. (tt, (0, 0, λ r. refl)))
moves_ok (fields v n) (K.Word w) s = λ k' s'. fields_word_ok v n w s k' s'
moves_ok (fields v n) _ s = λ to xs h. ((tt, h.0), (0, 0, λ r. refl))
moves_ok (fields_more v n) (K.Mark mark.Comma) s = (0, λ to xs h. (h.0, (0, 0, λ r. refl)))
moves_ok (fields_more v n) (K.Mark mark.ParenClose) s = (0, λ to xs h. (tt, (0, 0, λ r. refl)))
moves_ok (named v) k s = λ to xs h. (h.1.1.0, (0, 0, λ r. refl))
moves_ok (binder v) (K.Mark mark.ParenOpen) s = (0, λ to xs h. (h.0, (0, 0, λ r. refl)))
moves_ok (split_head v) (K.Reserved word.Is) s = (0, λ to xs h. ((h.1.0, h.1.1.1.0), (0, 0, λ r. refl)))
moves_ok (match_head v) (K.Reserved word.Is) s = (0, λ to xs h. ((h.1.0, h.1.1.1.0, h.1.1.1.1.1.0), (0, 0, λ r. refl)))
moves_ok (case_head v w) (K.Reserved word.Is) s = (0, λ to xs h. (h.1.0, (0, 0, λ r. refl)))
moves_ok (decrypt_head v) (K.Reserved word.Is) s = (0, λ to xs h. ((h.1.0, h.1.1.1.0), (0, 0, λ r. refl)))
moves_ok (check_head v) (K.Reserved word.Is) s = (0, λ to xs h. (h.0, (0, 0, λ r. refl)))
moves_ok (cast_head v) (K.Reserved word.Is) s = (0, λ to xs h. (h.0, (0, 0, λ r. refl)))
moves_ok (sproc v n) k s = λ to xs h. par_case v n s to xs.0 xs.1.0 h.0 h.1.0
moves_ok (seq v n) (K.Reserved word.Out) s = (0, λ to xs h. out_case v n s to xs.0 xs.1.0 xs.1.1.0 h.0 h.1.0 h.1.1.0)
moves_ok (seq v n) (K.Reserved word.Inp) s = (0, λ to xs h. ((h.0, h.1.0, h.1.1.0), (1, 1, λ r. refl)))
moves_ok (seq v n) (K.Reserved word.Repeat) s = (0, λ to xs h. ((h.1.0, h.1.1.0, h.1.1.1.0), (1, 1, λ r. refl)))
moves_ok (seq v n) (K.Reserved word.Split) s = (0, λ to xs h. ((h.0, h.1.0.0, h.1.0.1, h.1.1.0), (1, 1, λ r. refl)))
moves_ok (seq v n) (K.Reserved word.Match) s = (0, λ to xs h. ((h.0, h.1.0.0, h.1.0.1, h.1.0.2, h.1.1.0), (1, 1, λ r. refl)))
moves_ok (seq v n) (K.Reserved word.Case) s = (0, λ to xs h. ((h.0, h.1.0, h.1.1.0, h.1.1.1.0, h.1.1.1.1.0), (1, 1, λ r. refl)))
moves_ok (seq v n) (K.Reserved word.Decrypt) s = (0, λ to xs h. ((h.0, h.1.0.0, h.1.0.1, h.1.1.0), (1, 1, λ r. refl)))
moves_ok (seq v n) (K.Reserved word.Check) s = (0, λ to xs h. ((h.0, h.1.0, h.1.1.0), (1, 1, λ r. refl)))
moves_ok (seq v n) (K.Reserved word.Begin) s = (0, λ to xs h. ((h.0, h.1.1.0), (1, 1, λ r. refl)))
moves_ok (seq v n) (K.Reserved word.End) s = (0, λ to xs h. ((h.0, h.1.1.0), (1, 1, λ r. refl)))
moves_ok (seq true n) (K.Reserved word.EndMany) s = (0, λ to xs h. ((refl, h.0, h.1.1.0), (1, 1, λ r. refl)))
moves_ok (seq v n) (K.Reserved word.Cast) s = (0, λ to xs h. ((h.0, h.1.0, h.1.1.0), (1, 1, λ r. refl)))
moves_ok (seq v n) (K.Reserved word.New) s = (0, λ to xs h. ((h.0, h.1.0), (1, 1, λ r. refl)))
moves_ok (seq v n) (K.Reserved word.Stop) s = (0, λ to xs h. (tt, (1, 1, λ r. refl)))
moves_ok (seq v n) (K.Mark mark.ParenOpen) s = (0, λ to xs h. ((h.0, h.1.1.0), (1, 1, λ r. refl)))
moves_ok (out_tail v n) (K.Mark mark.Semicolon) s = (0, λ to xs h. (h.0, (0, 0, λ r. refl)))
moves_ok (out_tail v n) _ s = (tt, λ r. refl)
moves_ok (par_tail v n) (K.Mark mark.Bar) s = (0, λ to xs h. (h.0, (0, 0, λ r. refl)))
moves_ok (par_tail v n) _ s = (tt, λ r. refl)
moves_ok words_item (K.Mark mark.Comma) s = (0, λ to xs h. (tt, (0, 0, λ r. refl)))
moves_ok words_item (K.Mark mark.Semicolon) s = (0, λ to xs h. (tt, (0, 0, λ r. refl)))
moves_ok words (K.Mark mark.Comma) s = (0, λ to xs h. (tt, (0, 0, λ r. refl)))
moves_ok words (K.Mark mark.Semicolon) s = (0, λ to xs h. (tt, (0, 0, λ r. refl)))
moves_ok free_rest k s = λ to xs h. (tt, (0, 1, λ r. refl))
moves_ok (abbr_rest v) k s = λ to xs h. (h.1.1.0, (0, 1, λ r. refl))
moves_ok (decl v) (K.Reserved word.Free) s = (0, λ to xs h. (tt, (1, 0, λ r. refl)))
moves_ok (decl v) (K.Reserved word.TypeWord) s = (0, λ to xs h. (h.0, (1, 0, λ r. refl)))
moves_ok (decls_item v) (K.Reserved word.Free) s = (0, λ to xs h. (tt, (1, 0, λ r. refl)))
moves_ok (decls_item v) (K.Reserved word.TypeWord) s = (0, λ to xs h. (h.0, (1, 0, λ r. refl)))
moves_ok (decls_item v) (K.Reserved word.Process) s = (0, λ to xs h. (tt, (0, 0, λ r. refl)))
moves_ok (decls v) (K.Reserved word.Free) s = (0, λ to xs h. ((tt, h.1.0), (1, 0, λ r. refl)))
moves_ok (decls v) (K.Reserved word.TypeWord) s = (0, λ to xs h. ((h.0, h.1.0), (1, 0, λ r. refl)))
moves_ok (decls v) (K.Reserved word.Process) s = (0, λ to xs h. (tt, (0, 0, λ r. refl)))
moves_ok act_rest k s = λ to xs h. (tt, (0, 1, λ r. refl))
moves_ok talk_rest k s = λ to xs h. (tt, (0, 1, λ r. refl))
moves_ok steps_item (K.Word w) s = item_step_ok w s (is_act w) (is_talk w) refl refl
moves_ok steps_item _ s = (tt, λ r. refl)
moves_ok steps (K.Word w) s = more_steps_ok w s (is_act w) (is_talk w) refl refl
moves_ok steps _ s = (tt, λ r. refl)
moves_ok (deriv v n) (K.Word w) s = rule_ok v n w s (arity_of v w) (writes_effect w) refl refl
moves_ok (opponent_tail v) (K.Reserved word.Opponent) s = (0, λ to xs h. (h.0, (0, 0, λ r. refl)))
moves_ok (opponent_tail v) _ s = (tt, λ r. refl)
moves_ok schedule_tail (K.Reserved word.Schedule) s = (0, λ to xs h. (tt, (0, 0, λ r. refl)))
moves_ok schedule_tail _ s = (tt, λ r. refl)
moves_ok (derivation_tail v) (K.Reserved word.Derivation) s = (0, λ to xs h. (h.0, (0, 0, λ r. refl)))
moves_ok (derivation_tail v) _ s = (tt, λ r. refl)
moves_ok (body v) k s = λ to xs h. ((h.0, h.1.0, h.1.1.0, h.1.1.1.1.0), (0, 0, λ r. refl))
moves_ok file (K.Word w) s = file_case w s (is_version_word w) refl
moves_ok file _ s = λ to xs h. (record { version = inl refl; body = h.0 }, (1, 1, λ r. refl))
moves_ok _ _ s = tt

ends_ok : (a : Sym) (x : Tree a) → at_end a ≡ Some x → Formed a x × ((r : List Piece) → spell a x r ≡ r)
ends_ok (out_tail v n) None e = (tt, λ r. refl)
ends_ok (out_tail v n) (Some p) e = absurd cc
ends_ok (par_tail v n) None e = (tt, λ r. refl)
ends_ok (par_tail v n) (Some p) e = absurd cc
ends_ok steps_item (last x) e = (tt, λ r. refl)
ends_ok steps_item (one x) e = absurd cc
ends_ok steps x e = (tt, λ r. let same : [] ≡ x.0 = some_steps x e in ap (λ (l : List t.Step). steps_pieces l r) (sym same))
  where
    some_steps : (x : List t.Step × Unit {0}) → ◌≡◌ {A = Option (List t.Step × Unit {0})} (Some ([], tt)) (Some x) → [] ≡ x.0
    some_steps x e = ap (λ (o : Option (List t.Step × Unit {0})). elim o [ None ↦ [] | Some y ↦ y.0 ]) e
ends_ok (opponent_tail v) None e = (tt, λ r. refl)
ends_ok (opponent_tail v) (Some p) e = absurd cc
ends_ok schedule_tail None e = (tt, λ r. refl)
ends_ok schedule_tail (Some p) e = absurd cc
ends_ok (derivation_tail v) None e = (tt, λ r. refl)
ends_ok (derivation_tail v) (Some p) e = absurd cc
ends_ok _ x e = absurd cc

pub table_ok : TableOk
table_ok = record { moves = moves_ok; ends = ends_ok }
