-- What a tree stands for has at most as many nodes as its points add to the running count.
use Rattle.std.proofs.Common.{◌≡◌, ℕ, ◌+◌, ◌≤◌, ◌∷◌, length, arith, ◌∙◌, Option, Some, None}
use Rattle.std.specs.Prelude.{Ok}
use Rattle.spi_text.specs.declared.lines.Span.{Span}
use Rattle.spi_tree.specs.declared.tree.SWord.{SWord}
use Rattle.spi_tree.specs.Trees as t
use Rattle.spi_term.specs.Term.{message_size}
use Rattle.spi_term.specs.Spelling.{ty_nodes}
use Rattle.spi_scope.specs.Scope.{Names, Abbreviations}
use Rattle.spi_scope.specs.Meaning.{message_in, type_in, process_in}
use Rattle.spi_scope.specs.Points.{Points, in_order, part, whole_type, message_head, messages_head, typed_head, new_head, tested_head, split_head, match_head, process_points, opponent_points}
use Rattle.spi_scope.specs.First.{Clean, count_points}
use Rattle.spi_scope.specs.Gives.{run}
use Rattle.spi_scope.specs.StandsFor.{opponent_over}
use Rattle.spi_scope.proofs.Counting.{weight}
use Rattle.spi_scope.proofs.Firsts.{run_in_order, clean_run}
use Rattle.spi_scope.proofs.Sizes.{message_sized, type_sized}
use Rattle.spi_spell.proofs.Printable.{process_nodes, opponent_nodes}

module _ (k : ℕ) where
  part_weighs : (xs : Names) (m : t.Msg) → message_size (message_in k xs m) ≤ weight (part xs m)
  unfolding part
  part_weighs xs m = omega (arith, message_sized k xs m)

  type_weighs : (ts : Abbreviations) (xs : Names) (a : t.Ty) → ty_nodes (type_in k ts xs a) ≤ weight (whole_type ts xs a)
  unfolding whole_type
  type_weighs ts xs a = omega (arith, type_sized k ts xs a)

  message_weighs : (xs : Names) (s : Span) (m : t.Msg) → 1 + message_size (message_in k xs m) ≤ weight (message_head xs s m)
  unfolding message_head
  message_weighs xs s m = omega (arith, part_weighs xs m)

  messages_weigh : (xs : Names) (s : Span) (m n : t.Msg) → 1 + (message_size (message_in k xs m) + message_size (message_in k xs n)) ≤ weight (messages_head xs s m n)
  unfolding messages_head
  messages_weigh xs s m n = omega (arith, part_weighs xs m, part_weighs xs n)

  typed_weighs : (ts : Abbreviations) (xs : Names) (s : Span) (m : t.Msg) (a : t.Ty) → 1 + (message_size (message_in k xs m) + ty_nodes (type_in k ts xs a)) ≤ weight (typed_head ts xs s m a)
  unfolding typed_head
  typed_weighs ts xs s m a = omega (arith, part_weighs xs m, type_weighs ts xs a)

  new_weighs : (ts : Abbreviations) (xs : Names) (s : Span) (a : t.Ty) → 1 + ty_nodes (type_in k ts xs a) ≤ weight (new_head ts xs s a)
  unfolding new_head
  new_weighs ts xs s a = omega (arith, type_weighs ts xs a)

  tested_weighs : (ts : Abbreviations) (xs : Names) (s : Span) (m : t.Msg) (a : t.Ty) (n : t.Msg)
      → 1 + (message_size (message_in k xs m) + (ty_nodes (type_in k ts xs a) + message_size (message_in k xs n))) ≤ weight (tested_head ts xs s m a n)
  unfolding tested_head
  tested_weighs ts xs s m a n = omega (arith, part_weighs xs m, type_weighs ts xs a, part_weighs xs n)

  split_weighs : (ts : Abbreviations) (xs : Names) (s : Span) (m : t.Msg) (x : SWord) (a c : t.Ty)
      → 1 + (message_size (message_in k xs m) + (ty_nodes (type_in k ts xs a) + ty_nodes (type_in k ts (x.word ∷ xs) c))) ≤ weight (split_head ts xs s m x a c)
  unfolding split_head
  split_weighs ts xs s m x a c = omega (arith, part_weighs xs m, type_weighs ts xs a, type_weighs ts (x.word ∷ xs) c)

  match_weighs : (ts : Abbreviations) (xs : Names) (s : Span) (m : t.Msg) (x : SWord) (a : t.Ty) (n : t.Msg) (c : t.Ty)
      → 1 + (message_size (message_in k xs m) + (ty_nodes (type_in k ts xs a) + (message_size (message_in k xs n) + ty_nodes (type_in k ts (x.word ∷ xs) c)))) ≤ weight (match_head ts xs s m x a n c)
  unfolding match_head
  match_weighs ts xs s m x a n c = omega (arith, tested_weighs ts xs s m a n, type_weighs ts (x.word ∷ xs) c)

  pub nodes_weigh : (ts : Abbreviations) (xs : Names) (p : t.Proc) → process_nodes (process_in (λ s. k) ts xs p) ≤ weight (process_points ts xs p)
  nodes_weigh ts xs (t.par s p q) = omega (arith, nodes_weigh ts xs p, nodes_weigh ts xs q)
  nodes_weigh ts xs (t.group s p q) = omega (arith, nodes_weigh ts xs p, nodes_weigh ts xs q)
  nodes_weigh ts xs (t.out s m n) = messages_weigh xs s m n
  nodes_weigh ts xs (t.out_then s m n p) = omega (arith, messages_weigh xs s m n, nodes_weigh ts xs p)
  nodes_weigh ts xs (t.inp s m x a p) = omega (arith, typed_weighs ts xs s m a, nodes_weigh ts (x.word ∷ xs) p)
  nodes_weigh ts xs (t.repeat s m x a p) = omega (arith, typed_weighs ts xs s m a, nodes_weigh ts (x.word ∷ xs) p)
  nodes_weigh ts xs (t.split s m x a y c p) = omega (arith, split_weighs ts xs s m x a c, nodes_weigh ts (y.word ∷ x.word ∷ xs) p)
  nodes_weigh ts xs (t.match s m x a n y c p) = omega (arith, match_weighs ts xs s m x a n c, nodes_weigh ts (y.word ∷ xs) p)
  nodes_weigh ts xs (t.case s m x a p y c q) =
      omega (arith, typed_weighs ts xs s m a, type_weighs ts xs c, nodes_weigh ts (x.word ∷ xs) p, nodes_weigh ts (y.word ∷ xs) q)
  nodes_weigh ts xs (t.decrypt s m x a n p) = omega (arith, tested_weighs ts xs s m a n, nodes_weigh ts (x.word ∷ xs) p)
  nodes_weigh ts xs (t.check s m n p) = omega (arith, messages_weigh xs s m n, nodes_weigh ts xs p)
  nodes_weigh ts xs (t.begin s m p) = omega (arith, message_weighs xs s m, nodes_weigh ts xs p)
  nodes_weigh ts xs (t.end s m p) = omega (arith, message_weighs xs s m, nodes_weigh ts xs p)
  nodes_weigh ts xs (t.end_many s m p) = omega (arith, message_weighs xs s m, nodes_weigh ts xs p)
  nodes_weigh ts xs (t.cast s m x a p) = omega (arith, typed_weighs ts xs s m a, nodes_weigh ts (x.word ∷ xs) p)
  nodes_weigh ts xs (t.new s x a p) = omega (arith, new_weighs ts xs s a, nodes_weigh ts (x.word ∷ xs) p)
  nodes_weigh ts xs (t.stop s) = omega arith

pub opponent_weighs : (ts : Abbreviations) (xs : Names) (o : Option t.Proc) → opponent_nodes (opponent_over ts xs o) ≤ weight (opponent_points ts xs o)
opponent_weighs ts xs None = omega arith
opponent_weighs ts xs (Some p) = nodes_weigh (length xs) ts xs p

-- the points run
pub runs : (ps : Points) → Clean 0 (in_order ps) → run ps 0 ≡ Ok (0 + count_points (in_order ps))
runs ps h = run_in_order ps 0 ∙ clean_run (in_order ps) 0 h
