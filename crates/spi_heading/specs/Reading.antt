-- What reading the heading of a text answers.
use Rattle.std.specs.Prelude.{ℕ, ◌≤◌, ◌==◌, List, length, map, Result, Ok, Err}
use Rattle.spi_lex.specs.declared.token.Token.{Token}
use Rattle.spi_tree.specs.Trees.{Declared}
use Rattle.spi_tree.specs.Pieces.{decl_pieces}
use Rattle.spi_tree.specs.Formed.{IsDeclared}
use Rattle.spi_tree.specs.Views.{decl_of}
use Rattle.spi_parse.specs.declared.fault.ParseFault.{ParseFault}
use Rattle.spi_heading.specs.declared.heading.Heading.{Heading}
use Rattle.spi_heading.specs.Each.{EachAt}
use Rattle.spi_heading.specs.Grammar.{shared_pieces, IsShared, BeginsDecl, BeginsShared}
use Rattle.spi_heading.specs.Headings.{Shared}
use Rattle.spi_heading.specs.Repeated.{declared_kind, shared_kind, ReadsParts}
use Rattle.spi_heading.specs.Taking.{ReadsVersion}
use Rattle.spi_heading.specs.Views.{shared_of}

-- the version, and the number of the token behind it
pub record VersionAt (version : ℕ) (ts : List Token) (i : ℕ) : Type 0 where
  pub read : ReadsVersion (Ok (version, i)) ts
  pub within : i ≤ length ts

-- the version, and all declarations behind it, up to number j
pub record DeclaredAt (version : ℕ) (ds : List Declared) (ts : List Token) (j : ℕ) : Type 0 where
  pub start : ℕ
  pub front : VersionAt version ts start
  pub decls : EachAt decl_pieces (IsDeclared (version == 2)) ds ts start j × (BeginsDecl ts j → ⊥)

-- and all shared names behind those, up to number k
pub record HeadingAt (version : ℕ) (ds : List Declared) (ss : List Shared) (ts : List Token) (k : ℕ)
    : Type 0 where
  pub start : ℕ
  pub front : DeclaredAt version ds ts start
  pub shared : EachAt shared_pieces (IsShared (version == 2)) ss ts start k × (BeginsShared ts k → ⊥)

-- the fault is that of the version, of a declaration behind it, or of a shared name behind the declarations
pub data FailsHeading (f : ParseFault) (ts : List Token) : Type 0 where
  no_version : ReadsVersion (Err f) ts → FailsHeading f ts
  no_declared : (version i : ℕ) → VersionAt version ts i
      → ReadsParts declared_kind (version == 2) (Err f) ts i
      → FailsHeading f ts
  no_shared : (version : ℕ) (ds : List Declared) (j : ℕ) → DeclaredAt version ds ts j
      → ReadsParts shared_kind (version == 2) (Err f) ts j → FailsHeading f ts

abbrev pub ReadsHeading : Result (Heading × ℕ) ParseFault → List Token → Type 0
ReadsHeading (Ok r) ts =
    HeadingAt r.0.version (map decl_of r.0.decls.items) (map shared_of r.0.shared.items) ts r.1
ReadsHeading (Err f) ts = FailsHeading f ts
