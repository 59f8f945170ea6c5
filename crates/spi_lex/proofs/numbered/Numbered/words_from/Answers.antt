use Rattle.std.proofs.Common.{◌≡◌, ◌+◌, ◌*◌, ◌/◌, ◌%◌, ℕ, List, Some, drop, length, slice_get, ap, sym, refl, ◌∙◌, subst, arith, drop-drop}
use Rattle.std.proofs.lemmas.Bool.{ltb-true}
use Rattle.std.proofs.lemmas.Option.{slice_get_read}
use Rattle.spi_lex.specs.Left.{left_of, tokens_in}
use Rattle.spi_lex.proofs.numbered.Numbered.words_from.Goals as goal

pub split_at-requires : goal.split_at-requires
split_at-requires c =
    let found = c.in-Some.ensures.lookup in
    let list = c.deref.result.now in
    let there : slice_get list (c.args.at / 8) ≡ Some c.in-Some.place.now = slice_get_read list (length list) (c.args.at / 8) c.in-Some.place.now refl (ltb-true _ _ (sym found.0)) found.1 in
    (c.args.self.now.kept (c.args.at / 8) c.in-Some.place.now (subst (λ (ps : List ℕ). slice_get ps (c.args.at / 8) ≡ Some c.in-Some.place.now) c.deref.ensures.value there)).0

pub returns-in-Some : goal.returns-in-Some
returns-in-Some c =
    let text = c.args.self.now.text.now in
    let place = c.in-Some.place.now in
    let found = c.in-Some.ensures.lookup in
    let list = c.deref.result.now in
    let at_place : slice_get list (c.args.at / 8) ≡ Some place = slice_get_read list (length list) (c.args.at / 8) place refl (ltb-true _ _ (sym found.0)) found.1 in
    let there = c.args.self.now.kept (c.args.at / 8) place (subst (λ (ps : List ℕ). slice_get ps (c.args.at / 8) ≡ Some place) c.deref.ensures.value at_place) in
    let parts : 8 * (c.args.at / 8) + c.args.at % 8 ≡ c.args.at = omega arith in
    c.past.ensures ∙ ap (drop (c.args.at % 8)) (c.behind.ensures ∙ ap (left_of c.args.self.now.later place) c.split_at.ensures.back ∙ there.1)
    ∙ drop-drop (c.args.at % 8) (8 * (c.args.at / 8)) (tokens_in text) ∙ ap (λ (n : ℕ). drop n (tokens_in text)) parts
