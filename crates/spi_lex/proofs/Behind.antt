-- What stands behind the last token of a text.
use Rattle.std.proofs.Common.{◌≡◌, ℕ, ◌+◌, ◌-◌, ◌≤◌, Bool, true, false, List, [], ◌∷◌, length, drop, map, Ok, refl, sym, ◌∙◌, ap, subst, arith, drop-drop}
use Rattle.std.proofs.lemmas.Bool.{cond-true, cond-false}
use Rattle.std.specs.Str.{IsUtf8}
use Rattle.spi_lex.specs.declared.token.Token.{Token}
use Rattle.spi_lex.specs.declared.token.Reserved.{Reserved}
use Rattle.spi_lex.specs.Words.{version_1, version_2}
use Rattle.spi_lex.specs.Lexing.{LexPiece, Leads, here, past_gap, past_piece, token_of, tokens_lexed, kinds_of, is_version_2, Lexes, to_tokens}
use Rattle.spi_lex.specs.Left.{tokens_in, OnlyGaps, end_of}
use Rattle.spi_lex.proofs.Gaps.{gaps_from}
use Rattle.spi_lex.proofs.Unique.{at_end}
use Rattle.spi_lex.proofs.Taken.{all_left, way}

-- where the last of the pieces ends, and so far where there are none
abbrev piece_end : ℕ → List LexPiece → ℕ
piece_end so_far [] = so_far
piece_end so_far (p ∷ ps) = piece_end p.to ps

tokens_end : (words : List Reserved) (so_far : ℕ) (ps : List LexPiece) → end_of so_far (map (token_of words) ps) ≡ piece_end so_far ps
tokens_end words so_far [] = refl
tokens_end words so_far (p ∷ ps) = tokens_end words p.to ps

by_version : (ps : List LexPiece) (v : Bool) → is_version_2 (kinds_of (map (token_of version_1) ps)) ≡ v → end_of 0 (tokens_lexed ps) ≡ piece_end 0 ps
by_version ps false e = ap (end_of 0) (cond-false _ _ (map (token_of version_1) ps) e) ∙ tokens_end version_1 0 ps
by_version [] true e = cc
by_version (a ∷ []) true e = cc
by_version (a ∷ b ∷ []) true e = cc
by_version (a ∷ b ∷ c ∷ ps) true e = ap (end_of 0) (cond-true _ _ (map (token_of version_1) (a ∷ b ∷ c ∷ ps)) e) ∙ tokens_end version_2 c.to ps

-- the pieces of a text end in order, and where gaps alone stand behind the last one the text ends
pieces_rise : {at to : ℕ} {text rest : List ℕ} {ps : List LexPiece} → Leads at text ps to rest → at ≤ piece_end at ps
pieces_rise here = omega arith
pieces_rise {ps = []} (past_gap n l g h) = omega arith
pieces_rise {ps = p ∷ ps} (past_gap n l g h) = (let rises = pieces_rise h in omega arith)
pieces_rise (past_piece n lexeme l s a h) = (let rises = pieces_rise h in omega arith)

abbrev Whole : ℕ → List ℕ → Type 0
Whole at text = (ps : List LexPiece) × (to : ℕ) × Leads at text ps to []

alone : (at : ℕ) (text : List ℕ) → OnlyGaps (drop (at - at) text) → Whole at text
alone at text gaps =
    let none : at - at ≡ 0 = omega arith in
    let g = gaps_from text at (subst (λ (i : ℕ). OnlyGaps (drop i text)) none gaps) in
    ([], g.0, g.1)

further : (at n end : ℕ) (text : List ℕ) → at + n ≤ end → OnlyGaps (drop (end - at) text) → OnlyGaps (drop (end - (at + n)) (drop n text))
further at n end text le gaps =
    let same : end - at ≡ n + (end - (at + n)) = omega arith in
    subst OnlyGaps (ap (λ (i : ℕ). drop i text) same ∙ sym (drop-drop (end - (at + n)) n text)) gaps

ends : {at to : ℕ} {text rest : List ℕ} {ps : List LexPiece} → Leads at text ps to rest → OnlyGaps (drop (piece_end at ps - at) text) → Whole at text
ends {at = at} {text = text} here gaps = alone at text gaps
ends {at = at} {text = text} {ps = []} (past_gap n l g h) gaps = alone at text gaps
ends {at = at} {text = text} {ps = p ∷ ps} (past_gap n l g h) gaps =
    let on = ends h (further at n (piece_end p.to ps) text (pieces_rise h) gaps) in
    (on.0, on.1, past_gap n l g on.2)
ends {at = at} {text = text} (past_piece n lexeme l s a h) gaps =
    let on = ends h (further at n _ text (pieces_rise h) gaps) in
    (record { lexeme = lexeme; from = at; to = at + n } ∷ on.0, on.1, past_piece n lexeme l s a on.2)

pub ends_there : (text : List ℕ) (at : ℕ) → IsUtf8 text → at ≡ end_of 0 (tokens_in text) → OnlyGaps (drop at text) → Lexes text (Ok (tokens_in text))
ends_there text at u is gaps =
    let w = way (length text) 0 text (omega arith) u in
    let last : at ≡ piece_end 0 w.0 = is ∙ ap (end_of 0) (all_left u w.3 w.4) ∙ by_version w.0 _ refl in
    let none : piece_end 0 w.0 - 0 ≡ piece_end 0 w.0 = omega arith in
    let whole = ends w.3 (subst (λ (i : ℕ). OnlyGaps (drop i text)) (last ∙ sym none) gaps) in
    subst (λ (ts : List Token). Lexes text (Ok ts)) (sym (all_left u whole.2 at_end)) (to_tokens u whole.2)
