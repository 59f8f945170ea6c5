-- The canonical text of a file is read as that file.
use Rattle.std.proofs.Common.{ℕ, ◌≤◌, List, [], length, Option, sym, subst, arith}
use Rattle.spi_lex.specs.Writing.{AreKinds}
use Rattle.spi_lex.proofs.Lexed.{lexed}
use Rattle.spi_lex.proofs.Writing.{reads_back}
use Rattle.spi_tree.specs.Trees as t
use Rattle.spi_tree.specs.Pieces.{tokens_of}
use Rattle.spi_parse.specs.Exact.{IsWithin}
use Rattle.spi_parse.specs.Formed.{IsFile, whole_file}
use Rattle.spi_parse.proofs.Spelled.{tokens_spelled, spelled_within}
use Rattle.spi_scope.specs.StandsFor.{Meant, StandsFor}
use Rattle.spi_show.specs.Files.{IsCanonicalText, file_text}
use Rattle.spi_spell.specs.Spelled.{limit, SpellsFile}
use Rattle.spi_spell.proofs.Printed.{file_tree}
use Rattle.spi_spell.proofs.Printable.{IsPrintable}
use Rattle.spi_spell.proofs.Names.{shift_low}
use Rattle.spi_spell.proofs.PrintsFiles.{file_writes, file_kinds, file_words}
use Rattle.spi_spell.proofs.Forming.{tree_formed}
use Rattle.spi_spell.proofs.Depths.{tree_within}
use Rattle.spi_spell.proofs.Placed.{placed}
use Rattle.spi_spell.proofs.Bared.{same_meaning}
use Rattle.spi_spell.proofs.Stands.{tree_stands}
use Rattle.spi_spell.proofs.Standing.{printable}
use Rattle.spi_spell.proofs.Versioned.{tree_fit}

pub printed_reads_back : (file : Meant) (d : Option t.Deriv) (text : List ℕ) → IsPrintable file d → IsCanonicalText file text → length text ≤ limit → SpellsFile text file
printed_reads_back file d text is canonical short =
    let s : ℕ = canonical.0 in
    let low = shift_low file.names s canonical.1 (omega (arith, is.few)) in
    let tree : t.File = file_tree s file d in
    let lexed = reads_back (tokens_of tree) (file_text s file) (file_writes s file d is low) (file_kinds s file d is low) in
    let g = placed tree lexed.0 (tree_formed s file d is (file_words s file d is low)) (tree_within s file d is) lexed.2 in
    let stands = same_meaning tree g.0 file g.1 (tree_stands s file d is canonical.1.apart low) in
    subst (λ (bytes : List ℕ). SpellsFile bytes file) (sym canonical.2)
    (g.0, record { within = subst (λ (bytes : List ℕ). length bytes ≤ limit) canonical.2 short; tokens = lexed.0; lexed = lexed.1; formed = g.2; spelled = g.3 }, stands)

-- that of a file that a tree stands for, and that of a file that bytes spell
pub tree_reads_back : (tree : t.File) (file : Meant) (text : List ℕ) → IsFile tree → IsWithin (whole_file tree) → AreKinds (tokens_of tree) → StandsFor tree file
    → IsCanonicalText file text → length text ≤ limit → SpellsFile text file
tree_reads_back tree file text formed within are stands canonical short =
    printed_reads_back file tree.derivation text (printable tree file formed within (tree_fit tree are) stands) canonical short

-- a file that bytes spell can be printed
pub spelled_printable : (bytes : List ℕ) (file : Meant) → SpellsFile bytes file → (d : Option t.Deriv) × IsPrintable file d
spelled_printable bytes file spells =
    let tree : t.File = spells.0 in
    let is = spells.1 in
    let are = subst AreKinds (sym (tokens_spelled tree is.tokens is.spelled)) (lexed bytes is.tokens is.lexed).0 in
    (tree.derivation, printable tree file is.formed (spelled_within [] 0 (whole_file tree) is.tokens is.spelled) (tree_fit tree are) spells.2)

pub canonical_reads_back : (bytes text : List ℕ) (file : Meant) → SpellsFile bytes file → IsCanonicalText file text → length text ≤ limit → SpellsFile text file
canonical_reads_back bytes text file spells canonical short =
    let p = spelled_printable bytes file spells in
    printed_reads_back file p.0 text p.1 canonical short
