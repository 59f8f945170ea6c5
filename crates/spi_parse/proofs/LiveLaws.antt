-- Each look of the table leads somewhere, and each symbol has a tree.
use Rattle.std.proofs.Common.{ℕ, zero, suc, Bool, true, false, cond, ◌==◌, List, [], ◌∷◌, Option, Some, None, codes, refl, inl, lit≤}
use Rattle.spi_text.specs.declared.lines.Span.{Span}
use Rattle.spi_lex.specs.declared.token.Kind.{Kind}
use Rattle.spi_lex.specs.declared.token.Kind.TheVariants as K
use Rattle.spi_lex.specs.declared.token.Reserved.TheVariants as word
use Rattle.spi_lex.specs.declared.token.Mark.TheVariants as mark
use Rattle.spi_tree.specs.declared.tree.SWord.{SWord}
use Rattle.spi_tree.specs.Trees as t
use Rattle.spi_tree.specs.Pieces.{Piece, cell, cells}
use Rattle.spi_tree.specs.Formed.{IsWordFit}
use Rattle.spi_parse.specs.Rules.{arity_of, writes_effect}
use Rattle.spi_parse.specs.Table.{last, Sym, the_mark, the_reserved, the_word, the_number, the_two, msg, msgs_item, msgs, atom, atoms_item, atoms, effect, ty, fields_item, fields_rest, fields, fields_more, named, binder, split_head, match_head, case_head, decrypt_head, check_head, cast_head, sproc, seq, out_tail, par_tail, words_item, words, free_rest, abbr_rest, decl, decls_item, decls, act_rest, talk_rest, steps_item, steps, deriv, opponent_tail, schedule_tail, derivation_tail, body, file, Tree, Build, eat, skip, fail, deep_here, delta, file_from, is_mark, is_reserved, is_act, is_talk, is_version_word, rule_move, delta_paren, delta_bracket, delta_ty_paren, delta_ty_word, delta_item_word, delta_fields_word}
use Rattle.spi_parse.proofs.Spell.{spell, Formed}
use Rattle.spi_parse.proofs.Sound.{FrontOfMove}
use Rattle.spi_parse.proofs.Viable.{Live, AreSpare, TableLive}
use Rattle.spi_lex.proofs.Writing.{letters_identifier}
use Rattle.spi_tree.specs.Trees.{nowhere}

-- a move by a test is live where it looks no further
eats_live : (a : Sym) (l : List Sym) (b : Build a l) (c deep : Bool) (ss : List Span) (from : ℕ) (fr : FrontOfMove) (k : Kind) (s : Span) → Live {a = a} {ate = false} (cond c (eat l b) fail) deep ss from fr k s
eats_live a l b true deep ss from fr k s = tt
eats_live a l b false deep ss from fr k s = tt

-- so is one by two tests, the second behind the first
skips_live : (a : Sym) (l l' : List Sym) (b : Build a l) (b' : Build a l') (x : Tree a) (c c' deep : Bool) (ss : List Span) (from : ℕ) (fr : FrontOfMove) (k : Kind) (s : Span) → Live {a = a} {ate = false} (cond c (eat l b) (cond c' (eat l' b') (skip x))) deep ss from fr k s
skips_live a l l' b b' x true c' deep ss from fr k s = tt
skips_live a l l' b b' x false true deep ss from fr k s = tt
skips_live a l l' b b' x false false deep ss from fr k s = tt

-- words of trees that aren't given
abbrev spare_word : SWord
spare_word = record { word = codes "x"; span = nowhere }

abbrev leaf_word : SWord
leaf_word = record { word = codes "ProcStop"; span = nowhere }

spare_fit : IsWordFit true (K.Word (codes "x"))
spare_fit = (letters_identifier (codes "x") refl (lit≤ tt), lit≤ tt, refl)

pub version_fit : IsWordFit true (K.Word (codes "version"))
version_fit = (letters_identifier (codes "version") refl (lit≤ tt), lit≤ tt, refl)

leaf_fit : IsWordFit true (K.Word (codes "ProcStop"))
leaf_fit = (letters_identifier (codes "ProcStop") refl (lit≤ tt), lit≤ tt, refl)

paren_live : (v d : Bool) (n : ℕ) (ss : List Span) (from : ℕ) (fr : FrontOfMove) (k : Kind) (s : Span) → Live (delta_paren v d n k) false ss from fr k s
paren_live v d n ss from fr (K.Mark mark.ParenClose) s = tt
paren_live v d n ss from fr _ s = tt

bracket_live : (v d : Bool) (n : ℕ) (ss : List Span) (from : ℕ) (fr : FrontOfMove) (k : Kind) (s : Span) → Live (delta_bracket v d n k) false ss from fr k s
bracket_live v d n ss from fr (K.Mark mark.BracketClose) s = tt
bracket_live v d n ss from fr _ s = tt

ty_word_live : (v : Bool) (n : ℕ) (w : List ℕ) (ss : List Span) (from : ℕ) (fr : FrontOfMove) (k : Kind) (s : Span) → Live (delta_ty_word v n w k) false ss from fr k s
ty_word_live v n w ss from fr (K.Mark mark.Colon) s = tt
ty_word_live v n w ss from fr _ s = tt

ty_paren_live : (v : Bool) (n : ℕ) (s : Span) (k : Kind) (s' : Span) → Live (delta_ty_paren v n k) false (s ∷ []) s.from (λ q. cell (K.Mark mark.ParenOpen) (deep_here (ty v n)) ∷ q) k s'
ty_paren_live v n s (K.Mark mark.ParenClose) s' = tt
ty_paren_live v n s (K.Word w) s' = ((K.Mark mark.Plus, tt, tt, λ s''. (0, λ to xs h. ((tt, h.0), (1, 1, λ r. refl)))), λ k'' s'' fr'. ty_word_live v n w _ _ fr' k'' s'')
ty_paren_live v n s _ s' = tt

item_word_live : (v : Bool) (n : ℕ) (w : List ℕ) (ss : List Span) (from : ℕ) (fr : FrontOfMove) (k : Kind) (s : Span) → Live (delta_item_word v n w k) false ss from fr k s
item_word_live v n w ss from fr (K.Mark mark.Colon) s = tt
item_word_live v n w ss from fr _ s = tt

fields_word_live : (v : Bool) (n : ℕ) (w : List ℕ) (ss : List Span) (from : ℕ) (fr : FrontOfMove) (k : Kind) (s : Span) → Live (delta_fields_word v n w k) false ss from fr k s
fields_word_live v n w ss from fr (K.Mark mark.Colon) s = tt
fields_word_live v n w ss from fr _ s = tt

rule_live : (v : Bool) (n : ℕ) (w : List ℕ) (s : Span) (a : Option ℕ) (b : Bool) → Live (rule_move v n w a b) (deep_here (deriv v n)) [] s.from (λ q. q) (K.Word w) s
rule_live v n w s None b = tt
rule_live v n w s (Some zero) false = tt
rule_live v n w s (Some (suc zero)) false = tt
rule_live v n w s (Some (suc (suc zero))) false = tt
rule_live v n w s (Some (suc (suc (suc zero)))) false = tt
rule_live v n w s (Some (suc (suc (suc (suc k))))) false = tt
rule_live v n w s (Some (suc zero)) true = tt
rule_live v n w s (Some zero) true = tt
rule_live v n w s (Some (suc (suc k))) true = tt

-- A clause names a token where the moves of its symbol have to be told apart, and the last is for all others.
moves_live : (a : Sym) (k : Kind) (s : Span) → Live (delta a k) (deep_here a) [] s.from (λ q. q) k s
moves_live (the_mark m) k s = eats_live (the_mark m) _ _ (is_mark m k) _ _ _ _ _ _
moves_live (the_reserved w) k s = eats_live (the_reserved w) _ _ (is_reserved w k) _ _ _ _ _ _
moves_live the_word (K.Word w) s = tt
moves_live the_number (K.Number n) s = tt
moves_live the_two (K.Number n) s = eats_live the_two _ _ (n == 2) _ _ _ _ _ _
moves_live (msg v true n) (K.Word w) s = tt
moves_live (msg v d n) (K.Mark mark.ParenOpen) s = ((K.Mark mark.ParenClose, tt, tt), λ k' s'. paren_live v d n _ _ _ k' s')
moves_live (msg true d n) (K.Reserved word.Hash) s = tt
moves_live (msg false d n) (K.Reserved word.Hash) s = tt
moves_live (msgs_item v d n) (K.Mark mark.Comma) s = tt
moves_live (msgs v d n) (K.Mark mark.Comma) s = tt
moves_live (atom true d n) (K.Reserved word.Many) s = tt
moves_live (atom false d n) (K.Reserved word.Many) s = tt
moves_live (atoms_item v d n) (K.Mark mark.Comma) s = tt
moves_live (atoms v d n) (K.Mark mark.Comma) s = tt
moves_live (effect v d n) (K.Mark mark.BracketOpen) s = ((K.Mark mark.BracketClose, tt, tt), λ k' s'. bracket_live v d n _ _ _ k' s')
moves_live (ty v n) (K.Reserved word.Un) s = tt
moves_live (ty v n) (K.Mark mark.ParenOpen) s = ((K.Mark mark.ParenClose, tt, tt), λ k' s'. ty_paren_live v n s k' s')
moves_live (fields_item v n) (K.Word w) s = ((K.Mark mark.ParenClose, tt, tt, λ s'. (0, λ to xs h. (tt, (0, 0, λ r. refl)))), λ k' s' fr'. item_word_live v n w _ _ fr' k' s')
moves_live fields_rest (K.Mark mark.Comma) s = tt
moves_live (fields v n) (K.Word w) s = ((K.Mark mark.ParenClose, tt, tt, λ s'. (0, λ to xs h. ((tt, tt), (0, 0, λ r. refl)))), λ k' s' fr'. fields_word_live v n w _ _ fr' k' s')
moves_live (fields_more v n) (K.Mark mark.Comma) s = tt
moves_live (binder v) (K.Mark mark.ParenOpen) s = tt
moves_live (split_head v) (K.Reserved word.Is) s = tt
moves_live (match_head v) (K.Reserved word.Is) s = tt
moves_live (case_head v w) (K.Reserved word.Is) s = tt
moves_live (decrypt_head v) (K.Reserved word.Is) s = tt
moves_live (check_head v) (K.Reserved word.Is) s = tt
moves_live (cast_head v) (K.Reserved word.Is) s = tt
moves_live (seq true n) (K.Reserved word.EndMany) s = tt
moves_live (seq false n) (K.Reserved word.EndMany) s = tt
moves_live (seq v n) (K.Mark mark.ParenOpen) s = tt
moves_live (out_tail v n) (K.Mark mark.Semicolon) s = tt
moves_live (par_tail v n) (K.Mark mark.Bar) s = tt
moves_live words_item (K.Mark mark.Comma) s = tt
moves_live words (K.Mark mark.Comma) s = tt
moves_live (decl v) (K.Reserved word.Free) s = tt
moves_live (decls_item v) (K.Reserved word.Free) s = tt
moves_live (decls v) (K.Reserved word.Free) s = tt
moves_live steps_item (K.Word w) s = skips_live steps_item _ _ _ _ _ (is_act w) (is_talk w) _ _ _ _ _ _
moves_live steps (K.Word w) s = skips_live steps _ _ _ _ _ (is_act w) (is_talk w) _ _ _ _ _ _
moves_live (deriv v n) (K.Word w) s = rule_live v n w s (arity_of v w) (writes_effect w)
moves_live (opponent_tail v) (K.Reserved word.Opponent) s = tt
moves_live schedule_tail (K.Reserved word.Schedule) s = tt
moves_live (derivation_tail v) (K.Reserved word.Derivation) s = tt
moves_live file (K.Word w) s = eats_live file _ _ (is_version_word w) _ _ _ _ _ _
moves_live _ _ s = tt

some_tree : (a : Sym) → Tree a
some_tree (the_mark m) = tt
some_tree (the_reserved w) = tt
some_tree the_word = spare_word
some_tree the_number = 0
some_tree the_two = tt
some_tree (msg v d n) = t.unit nowhere
some_tree (msgs_item v d n) = last tt
some_tree (msgs v d n) = ([], tt)
some_tree (atom v d n) = t.ends nowhere (t.unit nowhere)
some_tree (atoms_item v d n) = last tt
some_tree (atoms v d n) = ([], tt)
some_tree (effect v d n) = []
some_tree (ty v n) = t.un nowhere
some_tree (fields_item v n) = last (t.bare (t.un nowhere))
some_tree fields_rest = true
some_tree (fields v n) = ([], t.bare (t.un nowhere))
some_tree (fields_more v n) = None
some_tree (named v) = (spare_word, t.un nowhere)
some_tree (binder v) = (spare_word, t.un nowhere)
some_tree (split_head v) = (spare_word, t.un nowhere, spare_word, t.un nowhere)
some_tree (match_head v) = (spare_word, t.un nowhere, t.unit nowhere, spare_word, t.un nowhere)
some_tree (case_head v w) = (spare_word, t.un nowhere)
some_tree (decrypt_head v) = (spare_word, t.un nowhere, t.unit nowhere)
some_tree (check_head v) = t.unit nowhere
some_tree (cast_head v) = (spare_word, t.un nowhere)
some_tree (sproc v n) = t.stop nowhere
some_tree (seq v n) = t.stop nowhere
some_tree (out_tail v n) = None
some_tree (par_tail v n) = None
some_tree words_item = last tt
some_tree words = ([], tt)
some_tree free_rest = (spare_word, [], 0)
some_tree (abbr_rest v) = (spare_word, t.un nowhere, 0)
some_tree (decl v) = t.abbreviated nowhere spare_word (t.un nowhere)
some_tree (decls_item v) = last tt
some_tree (decls v) = ([], tt)
some_tree act_rest = (0, 0)
some_tree talk_rest = (0, 0, 0)
some_tree steps_item = last tt
some_tree steps = ([], tt)
some_tree (deriv v n) = t.rule nowhere leaf_word None t.no_derivs
some_tree (opponent_tail v) = None
some_tree schedule_tail = None
some_tree (derivation_tail v) = None
some_tree (body v) = record { decls = []; process = t.stop nowhere; opponent = None; schedule = None; derivation = None }
some_tree file = file_from 1 nowhere (record { decls = []; process = t.stop nowhere; opponent = None; schedule = None; derivation = None })

some_formed : (a : Sym) → Formed a (some_tree a)
unfolding some_tree
some_formed (fields v n) = (tt, tt)
some_formed (split_head v) = (tt, tt)
some_formed (match_head v) = (tt, tt, tt)
some_formed (decrypt_head v) = (tt, tt)
some_formed (deriv true n) = (refl, refl, tt, tt)
some_formed (deriv false n) = (refl, refl, tt, tt)
some_formed (body v) = (tt, tt, tt, tt)
some_formed file = record { version = inl refl; body = (tt, tt, tt, tt) }
some_formed _ = tt

some_spare : (a : Sym) (q : List Piece) → AreSpare (cells q) → AreSpare (cells (spell a (some_tree a) q))
unfolding some_tree
some_spare the_word q h = (spare_fit, h)
some_spare (msg v d n) q h = (tt, (tt, h))
some_spare (atom v d n) q h = (tt, (tt, (tt, h)))
some_spare (effect v d n) q h = (tt, (tt, h))
some_spare (fields_item v n) q h = (tt, (tt, h))
some_spare (fields v n) q h = (tt, (tt, h))
some_spare (named v) q h = (spare_fit, (tt, (tt, h)))
some_spare (binder v) q h = (tt, (spare_fit, (tt, (tt, (tt, (tt, h))))))
some_spare (split_head v) q h = (tt, (tt, (spare_fit, (tt, (tt, (tt, (spare_fit, (tt, (tt, (tt, (tt, h)))))))))))
some_spare (match_head v) q h = (tt, (tt, (spare_fit, (tt, (tt, (tt, (tt, (tt, (tt, (spare_fit, (tt, (tt, (tt, (tt, h))))))))))))))
some_spare (case_head v w) q h = (tt, (tt, (tt, (spare_fit, (tt, (tt, (tt, (tt, h))))))))
some_spare (decrypt_head v) q h = (tt, (tt, (spare_fit, (tt, (tt, (tt, (tt, (tt, (tt, h)))))))))
some_spare (check_head v) q h = (tt, (tt, (tt, (tt, h))))
some_spare (cast_head v) q h = (tt, (tt, (spare_fit, (tt, (tt, (tt, (tt, h)))))))
some_spare (out_tail v n) q h = h
some_spare (par_tail v n) q h = h
some_spare free_rest q h = (spare_fit, (tt, h))
some_spare (abbr_rest v) q h = (spare_fit, (tt, (tt, (tt, h))))
some_spare (decl v) q h = (tt, (spare_fit, (tt, (tt, (tt, h)))))
some_spare act_rest q h = (tt, (tt, h))
some_spare talk_rest q h = (tt, (tt, (tt, h)))
some_spare steps_item q h = h
some_spare steps q h = h
some_spare (deriv v n) q h = (leaf_fit, h)
some_spare (opponent_tail v) q h = h
some_spare schedule_tail q h = h
some_spare (derivation_tail v) q h = h
some_spare (body v) q h = (tt, (tt, h))
some_spare file q h = (tt, (tt, h))
some_spare _ q h = (tt, h)

pub table_live : TableLive
table_live = record { moves = moves_live; some = some_tree; formed = some_formed; spare = some_spare }
