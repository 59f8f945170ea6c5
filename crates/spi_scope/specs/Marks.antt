-- Where the nodes of a process stand in the file, and which names are in scope at each.
use Rattle.std.specs.Prelude.{List, [], ◌∷◌, ◌++◌}
use Rattle.spi_text.specs.declared.lines.Span.{Span}
use Rattle.spi_tree.specs.Trees as t
use Rattle.spi_scope.specs.Scope.{Names}

-- the nodes in preorder. Of `out M N; P` the composition and the output stand at the same place
abbrev pub places : t.Proc → List Span
places (t.par s p q) = s ∷ (places p ++ places q)
places (t.out s m n) = s ∷ []
places (t.out_then s m n p) = s ∷ s ∷ places p
places (t.inp s m x a p) = s ∷ places p
places (t.repeat s m x a p) = s ∷ places p
places (t.split s m x a y c p) = s ∷ places p
places (t.match s m x a n y c p) = s ∷ places p
places (t.case s m x a p y c q) = s ∷ (places p ++ places q)
places (t.decrypt s m x a n p) = s ∷ places p
places (t.check s m n p) = s ∷ places p
places (t.begin s m p) = s ∷ places p
places (t.end s m p) = s ∷ places p
places (t.end_many s m p) = s ∷ places p
places (t.cast s m x a p) = s ∷ places p
places (t.new s x a p) = s ∷ places p
places (t.stop s) = s ∷ []
places (t.group s p q) = s ∷ (places p ++ places q)

-- the names in scope at each node, the innermost first
abbrev pub scopes : Names → t.Proc → List Names
scopes xs (t.par s p q) = xs ∷ (scopes xs p ++ scopes xs q)
scopes xs (t.out s m n) = xs ∷ []
scopes xs (t.out_then s m n p) = xs ∷ xs ∷ scopes xs p
scopes xs (t.inp s m x a p) = xs ∷ scopes (x.word ∷ xs) p
scopes xs (t.repeat s m x a p) = xs ∷ scopes (x.word ∷ xs) p
scopes xs (t.split s m x a y c p) = xs ∷ scopes (y.word ∷ x.word ∷ xs) p
scopes xs (t.match s m x a n y c p) = xs ∷ scopes (y.word ∷ xs) p
scopes xs (t.case s m x a p y c q) = xs ∷ (scopes (x.word ∷ xs) p ++ scopes (y.word ∷ xs) q)
scopes xs (t.decrypt s m x a n p) = xs ∷ scopes (x.word ∷ xs) p
scopes xs (t.check s m n p) = xs ∷ scopes xs p
scopes xs (t.begin s m p) = xs ∷ scopes xs p
scopes xs (t.end s m p) = xs ∷ scopes xs p
scopes xs (t.end_many s m p) = xs ∷ scopes xs p
scopes xs (t.cast s m x a p) = xs ∷ scopes (x.word ∷ xs) p
scopes xs (t.new s x a p) = xs ∷ scopes (x.word ∷ xs) p
scopes xs (t.stop s) = xs ∷ []
scopes xs (t.group s p q) = xs ∷ (scopes xs p ++ scopes xs q)
