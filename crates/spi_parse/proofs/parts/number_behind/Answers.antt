use Rattle.std.proofs.Common.{◌≡◌, ◌-◌, ◌≤◌, ℕ, List, length, drop, ap, ◌∙◌, subst, arith, length-drop}
use Rattle.spi_lex.specs.declared.token.Token.{Token}
use Rattle.spi_lex.specs.Left.{tokens_in}
use Rattle.spi_lex.specs.Numbered.{listed}
use Rattle.spi_lex.specs.Places.{start_of}
use Rattle.spi_parse.specs.Places.{tokens_in as left_in}
use Rattle.spi_parse.proofs.parts.number_behind.Goals as goal

pub returns-in-Text : goal.returns-in-Text
returns-in-Text c =
    let all = listed c.args.tokens.now in
    let text = c.in-Text.text.text.now in
    let behind = c.requires.behind in
    let same : all ≡ tokens_in text = ap listed c.in-Text.is in
    let few : behind.0 ≤ length (tokens_in text) = subst (λ (ts : List Token). behind.0 ≤ length ts) same behind.2 in
    let there : c.start.result ≡ start_of (drop behind.0 (tokens_in text)) = c.start.ensures ∙ ap start_of behind.3 ∙ ap (λ (ts : List Token). start_of (drop behind.0 ts)) same in
    let number = c.number_of.ensures behind.0 behind.1 few there in
    let within = behind.2 in
    let len : length (left_in c.args.at.now) ≡ length all - behind.0 = ap length behind.3 ∙ length-drop behind.0 all in
    omega arith
