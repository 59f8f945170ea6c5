use Rattle.std.proofs.Common.{◌≡◌, ◌==◌, sym, ◌∙◌}
use Rattle.spi_lex.specs.Numbered.{listed}
use Rattle.std.proofs.lemmas.Bool.{eqb-true}
use Rattle.spi_lex.specs.declared.token.Reserved.TheVariants as word
use Rattle.spi_narrate.specs.Narrations as n
use Rattle.spi_narrate.specs.Grammar.{IsPrefix}
use Rattle.spi_narrate.specs.Views.{prefix_of}
use Rattle.spi_narrate.proofs.Prefixes.{first_word, no_prefix, no_prefix_word}
use Rattle.spi_narrate.proofs.forms.prefix_at.Goals as goal

pub returns-in_default : goal.returns-in_default
returns-in_default c = no_prefix (c.args.version == 2) (listed c.args.tokens.now) c.args.at prefix_of (λ x h there. c.in_default.ensures (first_word x) there)

pub returns-else-version-eq2 : goal.returns-else-version-eq2
returns-else-version-eq2 c = no_prefix_word (c.args.version == 2) (listed c.args.tokens.now) c.args.at prefix_of c.in-Some.word c.in-Some.ensures (λ x h e. go x h (e ∙ c.in-EndMany.is))
  where
    go : (x : n.Prefix) → IsPrefix (c.args.version == 2) x → first_word x ≡ word.EndMany → ⊥
    go (n.end_many s m) h e = c.if-version-eq2.false (eqb-true c.args.version 2 h.0)
    go x h e = cc

pub returns-in_default-word : goal.returns-in_default-word
returns-in_default-word c = no_prefix_word (c.args.version == 2) (listed c.args.tokens.now) c.args.at prefix_of c.in-Some.word c.in-Some.ensures (λ x h e. go x (sym e))
  where
    go : (x : n.Prefix) → c.in-Some.word ≡ first_word x → ⊥
    go (n.split s m x a y b) e = c.in_default-word.not-Split e
    go (n.match s m x a k y b) e = c.in_default-word.not-Match e
    go (n.decrypt s m x a k) e = c.in_default-word.not-Decrypt e
    go (n.check s m k) e = c.in_default-word.not-Check e
    go (n.begin s m) e = c.in_default-word.not-Begin e
    go (n.end s m) e = c.in_default-word.not-End e
    go (n.end_many s m) e = c.in_default-word.not-EndMany e
    go (n.cast s m x a) e = c.in_default-word.not-Cast e
    go (n.new s x a) e = c.in_default-word.not-New e
