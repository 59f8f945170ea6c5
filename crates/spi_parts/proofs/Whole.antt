-- Files: one answer, and one depth.
use Rattle.std.proofs.Common.{ℕ, List, [], Result, Ok, Err, refl, sym, ap, inl, inr}
use Rattle.spi_lex.specs.declared.token.Token.{Token}
use Rattle.spi_lex.specs.Lexing.{kinds_of, is_version_2}
use Rattle.spi_tree.specs.Trees as t
use Rattle.spi_tree.specs.Pieces.{kinds_in}
use Rattle.spi_tree.specs.Formed.{AreWordsFit}
use Rattle.spi_parse.specs.declared.fault.ParseFault.{ParseFault}
use Rattle.spi_parse.specs.declared.fault.ParseFault.TheVariants as faults
use Rattle.spi_parse.specs.Table.{file}
use Rattle.spi_parse.specs.Bare.{bare_file}
use Rattle.spi_parse.specs.Reading.{told}
use Rattle.spi_parse.specs.Exact.{Parses}
use Rattle.spi_parse.specs.Formed.{IsFile, whole_file}
use Rattle.spi_parse.proofs.Complete.{told_fits, file_c}
use Rattle.spi_parse.proofs.OneTree.{one_placed, kinds_spelled}
use Rattle.spi_parse.proofs.Words.{file_ruled, file_made}
use Rattle.spi_parse.proofs.Versions.{tokens_fit}
use Rattle.spi_parse.proofs.Spelled.{spelled_within}
use Rattle.spi_parts.specs.Determined.{AreOne, AgreesOnDepth}
use Rattle.spi_parts.proofs.Alone.{agree_by}
use Rattle.spi_parts.proofs.Answers.{one_syntax, not_both, one_deep, no_syntax, no_deep}

pub files_agree : AgreesOnDepth whole_file IsFile
files_agree = agree_by file bare_file IsFile file_ruled (λ f h. file_c told (λ d. d) told_fits f h) (λ ks. AreWordsFit (is_version_2 ks) ks)
    (λ ks fit f h pre rest c split is spare. file_made ks fit f h pre rest c split is spare) (λ f h. tokens_fit f (kinds_in (whole_file f)) h refl)

module _ (ts : List Token) where
  tree_and_fault : (f : t.File) → IsFile f → (b : ParseFault) → Parses (λ (g : t.File). g) (Ok f) ts → Parses (λ (g : t.File). g) (Err b) ts → AreOne (Ok f) (Err b)
  tree_and_fault f pf (faults.Syntax j) ha hb = absurd (no_syntax whole_file IsFile f pf (kinds_of ts) (kinds_spelled 0 (whole_file f) ts ha.1) j hb)
  tree_and_fault f pf (faults.TooDeep j) ha hb = absurd (no_deep whole_file IsFile f pf (kinds_of ts) (kinds_spelled 0 (whole_file f) ts ha.1) j (spelled_within [] 0 (whole_file f) ts ha.1) hb)
  tree_and_fault f pf faults.NoMemory ha hb = inr (inr refl)

swapped : {V : Type 0} (a b : Result V ParseFault) → AreOne a b → AreOne b a
swapped a b (inl e) = inl (sym e)
swapped a b (inr (inl e)) = inr (inr e)
swapped a b (inr (inr e)) = inr (inl e)

pub one_file_answer : (a b : Result t.File ParseFault) (ts : List Token) → Parses (λ f. f) a ts → Parses (λ f. f) b ts → AreOne a b
one_file_answer (Ok f) (Ok g) ts ha hb = inl (ap (λ (x : t.File). Ok x) (one_placed f g ts ha.0 hb.0 ha.1 hb.1))
one_file_answer (Ok f) (Err b) ts ha hb = tree_and_fault ts f ha.0 b ha hb
one_file_answer (Err a) (Ok g) ts ha hb = swapped (Ok g) (Err a) (tree_and_fault ts g hb.0 a hb ha)
one_file_answer (Err (faults.Syntax i)) (Err (faults.Syntax j)) ts ha hb = inl (ap (λ (n : ℕ). Err (faults.Syntax n)) (one_syntax whole_file IsFile (kinds_of ts) i j ha hb))
one_file_answer (Err (faults.Syntax i)) (Err (faults.TooDeep j)) ts ha hb = absurd (not_both whole_file IsFile (kinds_of ts) i j ha hb)
one_file_answer (Err (faults.TooDeep i)) (Err (faults.Syntax j)) ts ha hb = absurd (not_both whole_file IsFile (kinds_of ts) j i hb ha)
one_file_answer (Err (faults.TooDeep i)) (Err (faults.TooDeep j)) ts ha hb = inl (ap (λ (n : ℕ). Err (faults.TooDeep n)) (one_deep whole_file IsFile (kinds_of ts) i j ha hb))
one_file_answer (Err faults.NoMemory) b ts ha hb = inr (inl refl)
one_file_answer (Err (faults.Syntax i)) (Err faults.NoMemory) ts ha hb = inr (inr refl)
one_file_answer (Err (faults.TooDeep i)) (Err faults.NoMemory) ts ha hb = inr (inr refl)
