use Rattle.std.proofs.Common.{◌≡◌, map, Option, ap}
use Rattle.std.specs.Global.{Vec}
use denote.Ref.{Bor}
use Rattle.spi_text.specs.declared.lines.Span.{Span}
use Rattle.spi_tree.specs.declared.tree.SWord.{SWord}
use Rattle.spi_tree.specs.declared.tree.SEffect.{SEffect}
use Rattle.spi_tree.specs.declared.tree.SDeriv.{SDeriv, roll-SDeriv}
use Rattle.spi_tree.specs.Trees.{rule, derivs_of_list}
use Rattle.spi_tree.specs.Views.{deriv_of, tree_effect}
use Rattle.spi_tree.proofs.Rows.{deriv_row_is}
use Rattle.spi_parse.proofs.derivations.make_use.Goals as goal

use_is : (w : SWord) (es : Option (Bor SEffect)) (v : Vec SDeriv) (s : Span) → deriv_of (roll-SDeriv (record { rule = w; effect = es; premises = v; span = s })) ≡ rule s w (tree_effect es) (derivs_of_list (map deriv_of v.items))
unfolding roll-SDeriv denote.Hole.Carrier.roll
use_is w es v s = ap (rule s w (tree_effect es)) (deriv_row_is v)

pub returns : goal.returns
returns c = use_is c.args.rule c.args.effect c.args.premises c.args.span
