use Rattle.std.proofs.Common.{◌≡◌, ◌++◌, map, take}
use Rattle.spi_tree.specs.Views.{decl_of}
use Rattle.spi_tree.specs.Listed.{joined, decl_list}
use Rattle.spi_tree.proofs.tokens.put_declarations.Given as goal

abbrev pub invariant-loop-declaration : goal.invariant-loop-declaration
invariant-loop-declaration l = l.out.items ≡ l.fn.out.items ++ joined decl_list (map decl_of (take l.declaration-index l.decls))
