use Rattle.std.proofs.Common.{sym, subst, ℕ, List, length, arith}
use Rattle.spi_term.proofs.Lists.{get_some}
use Rattle.spi_horn.specs.declared.tracing.Line.{Line}
use Rattle.spi_know.specs.Spelled.{CanBeSpelled, AreLines}
use Rattle.spi_know.proofs.Certified.{small_lines, certifies, all_used}
use Rattle.spi_know.proofs.deciding.certify.Goals as goal

pub spell-requires : goal.spell-requires
spell-requires c =
    let (start, o, sw) = c.requires.order in
    let (x, e) = get_some c.args.closure.now.order.items c.args.place c.requires.within in
    let proof = c.in_ok-lines.ensures.proves start x.number o (o.stands c.args.place x e) in
    let few = c.in_ok-lines.ensures.few in
    let within = c.requires.within in
    let short = c.requires.few in
    let small = small_lines _ _ _ start _ _ x.number c.requires.clauses sw proof (omega (arith, few, within, short)) in
    subst (λ (ls : List Line). CanBeSpelled (length c.args.store.now.messages) c.args.ways.now ls) (sym c.deref.ensures.value) small

pub returns : goal.returns
returns c = λ start from target m o st len at n.
    let proof = c.in_ok-lines.ensures.proves start target o at in
    let P : List Line → Type 0 = λ ls. AreLines c.args.store.now.messages c.args.sent c.args.ways.now ls (length ls) c.in_ok-cert.cert.items in
    let a = subst P c.deref.ensures.value c.in_ok-cert.ensures in
    let Q : ℕ → Type 0 = λ k. AreLines c.args.store.now.messages k c.args.ways.now c.in_ok-lines.lines.items (length c.in_ok-lines.lines.items) c.in_ok-cert.cert.items in
    let b = subst Q (sym len) a in (
      certifies _ from _ _ start _ _ target m _ c.requires.clauses st proof b n,
      all_used _ from _ _ start _ _ target m _ c.requires.clauses st proof b n,
    )
