use Rattle.std.proofs.Common.{sym, ap₂, ◌∙◌, length}
use Rattle.std.proofs.lemmas.Bool.{le-leb}
use Rattle.std.specs.Str.{bytes_eq}
use Rattle.spi_scope.proofs.Spellings.{short_same}
use Rattle.spi_scope.proofs.spelling.SpellingPartialEq.eq.Goals as goal

pub returns-then-self-le8 : goal.returns-then-self-le8
returns-then-self-le8 c =
    let s = c.self.inside in
    let o = c.other.inside in
    let same = short_same s.word.now o.word.now s.front o.front c.if-alike.true c.if-self-le8.true
    c.self.invariant.0 c.other.invariant.0 c.self.invariant.1 c.other.invariant.1 in
    le-leb (length s.word.now) 8 c.if-self-le8.true ∙ sym same ∙ ap₂ bytes_eq c.self.view_is c.other.view_is
