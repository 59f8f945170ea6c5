-- What a file of the program means, and what it tells of its tree.
use Rattle.std.specs.Prelude.{List, [], map, Option, Some, None}
use Rattle.spi_text.specs.declared.lines.Span.{Span}
use Rattle.spi_tree.specs.Trees as t
use Rattle.std.specs.Global.{Vec}
use Rattle.spi_run.specs.Reduction as Reduction
use Rattle.spi_run.specs.View.{step}
use Rattle.spi_run.specs.declared.step.Step.{Step}
use Rattle.spi_rules.specs.Derivations.{RuleUse}
use Rattle.spi_rules.specs.Deriv.{rule_uses}
use Rattle.spi_rules.specs.declared.deriv.Deriv.{Deriv}
use Rattle.spi_scope.specs.declared.file.File.{File}
use Rattle.spi_scope.specs.Scope.{Names}
use Rattle.spi_scope.specs.Marks.{places, scopes}
use Rattle.spi_scope.specs.Parts.{step_span, use_places}
use Rattle.spi_scope.specs.Points.{all_names}
use Rattle.spi_scope.specs.StandsFor.{Meant}

abbrev pub steps_in : Option (Vec Step) → Option (List Reduction.Step)
steps_in None = None
steps_in (Some v) = Some (map step v.items)

abbrev pub uses_of : Option Deriv → Option (List RuleUse)
uses_of None = None
uses_of (Some d) = Some (rule_uses d)

abbrev pub meant : File → Meant
meant f = record {
  version = f.version;
  names = f.names.items;
  process = f.process;
  opponent = f.opponent;
  schedule = steps_in f.schedule;
  derivation = uses_of f.derivation;
}

-- where the nodes of the process and the opponent, the steps and the rule uses stand, and which names are in scope at
-- each node of the process
pub record Marked : Type 0 where
  pub process : List Span
  pub opponent : List Span
  pub steps : List Span
  pub rules : List Span
  pub scopes : List Names

abbrev pub marked : File → Marked
marked f = record {
  process = f.marks.process.items;
  opponent = f.marks.opponent.items;
  steps = f.marks.steps.items;
  rules = f.marks.rules.items;
  scopes = f.marks.scopes;
}

abbrev pub opponent_places : Option t.Proc → List Span
opponent_places None = []
opponent_places (Some p) = places p

abbrev pub step_places : Option (List t.Step) → List Span
step_places None = []
step_places (Some xs) = map step_span xs

abbrev pub rule_places : Option t.Deriv → List Span
rule_places None = []
rule_places (Some d) = use_places d

abbrev pub marks_of : t.File → Marked
marks_of tree = record {
  process = places tree.process;
  opponent = opponent_places tree.opponent;
  steps = step_places tree.schedule;
  rules = rule_places tree.derivation;
  scopes = scopes (all_names [] tree.decls) tree.process;
}
