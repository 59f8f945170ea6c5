-- The tokens of narrations, as spi_tree's Pieces has those of trees, and which narrations are formed.
use Rattle.std.specs.Prelude.{◌≡◌, ℕ, ◌⊎◌, ◌==◌, Bool, true, false, List, [], ◌∷◌, codes}
use Rattle.std.specs.List.{AllByRecursion}
use Rattle.spi_lex.specs.declared.token.Kind.TheVariants as kinds
use Rattle.spi_lex.specs.declared.token.Reserved.TheVariants as word
use Rattle.spi_lex.specs.declared.token.Mark.TheVariants as mark
use Rattle.spi_tree.specs.declared.tree.SWord.{SWord}
use Rattle.spi_tree.specs.Pieces.{Piece, opens, begins, ends, a_token, a_word, a_mark, a_reserved, msg_pieces, named_pieces, decl_pieces, version_pieces, kinds_in}
use Rattle.spi_tree.specs.Formed.{IsMsg, IsTy, IsDeclared, AreWordsFit}
use Rattle.spi_heading.specs.Each.{each_pieces}
use Rattle.spi_heading.specs.Grammar.{shared_pieces, IsShared}
use Rattle.spi_narrate.specs.Narrations as n

abbrev pub asked_word : List ℕ → List Piece → List Piece
asked_word spelling r = a_token (kinds.Word spelling) r

abbrev pub prefix_pieces : n.Prefix → List Piece → List Piece
prefix_pieces (n.split s m x a y b) r =
    begins s (kinds.Reserved word.Split) false
    (msg_pieces 1 m
    (a_reserved word.Is
    (a_mark mark.ParenOpen
    (named_pieces x a (a_mark mark.Comma (named_pieces y b (a_mark mark.ParenClose (ends s r))))))))
prefix_pieces (n.match s m x a k y b) r =
    begins s (kinds.Reserved word.Match) false
    (msg_pieces 1 m
    (a_reserved word.Is
    (a_mark mark.ParenOpen
    (named_pieces x a
    (a_mark mark.Equals
    (msg_pieces 1 k (a_mark mark.Comma (named_pieces y b (a_mark mark.ParenClose (ends s r))))))))))
prefix_pieces (n.decrypt s m x a k) r =
    begins s (kinds.Reserved word.Decrypt) false
    (msg_pieces 1 m
    (a_reserved word.Is
    (a_mark mark.BraceOpen (named_pieces x a (a_mark mark.BraceClose (msg_pieces 1 k (ends s r)))))))
prefix_pieces (n.check s m k) r =
    begins s (kinds.Reserved word.Check) false
    (msg_pieces 1 m (a_reserved word.Is (msg_pieces 1 k (ends s r))))
prefix_pieces (n.begin s m) r = begins s (kinds.Reserved word.Begin) false (msg_pieces 1 m (ends s r))
prefix_pieces (n.end s m) r = begins s (kinds.Reserved word.End) false (msg_pieces 1 m (ends s r))
prefix_pieces (n.end_many s m) r = begins s (kinds.Reserved word.EndMany) false (msg_pieces 1 m (ends s r))
prefix_pieces (n.cast s m x a) r =
    begins s (kinds.Reserved word.Cast) false
    (msg_pieces 1 m
    (a_reserved word.Is (a_mark mark.ParenOpen (named_pieces x a (a_mark mark.ParenClose (ends s r))))))
prefix_pieces (n.new s x a) r =
    begins s (kinds.Reserved word.New) false
    (a_mark mark.ParenOpen (named_pieces x a (a_mark mark.ParenClose (ends s r))))

abbrev pub line_pieces : n.Line → List Piece → List Piece
line_pieces (n.local s role x) r =
    opens s.from ∷ a_word false role (a_mark mark.Colon (prefix_pieces x (a_mark mark.Semicolon (ends s r))))
line_pieces (n.pass s from to channel m x) r =
    opens s.from ∷ a_word false from
    (asked_word (codes "to")
    (a_word false to
    (asked_word (codes "on")
    (a_word false channel
    (a_mark mark.Colon
    (msg_pieces 1 m (asked_word (codes "as") (a_word false x (a_mark mark.Semicolon (ends s r))))))))))

-- a word behind a comma
abbrev pub comma_pieces : SWord → List Piece → List Piece
comma_pieces w r = a_mark mark.Comma (a_word false w r)

-- a formed narration has a first role
abbrev pub roles_pieces : List SWord → List Piece → List Piece
roles_pieces [] r = r
roles_pieces (w ∷ ws) r =
    asked_word (codes "roles") (a_word false w (each_pieces comma_pieces ws (a_mark mark.Semicolon r)))

abbrev pub narration_pieces : n.Narration → List Piece → List Piece
narration_pieces x r =
    opens x.span.from
    ∷ version_pieces x.version
    (each_pieces decl_pieces x.decls
    (each_pieces shared_pieces x.shared
    (roles_pieces x.roles (each_pieces line_pieces x.lines (ends x.span r)))))

-- ---- which are formed

abbrev pub IsPrefix : Bool → n.Prefix → Type 0
IsPrefix later (n.split s m x a y b) = IsMsg later false m × IsTy later a × IsTy later b
IsPrefix later (n.match s m x a k y b) = IsMsg later false m × IsTy later a × IsMsg later false k
    × IsTy later b
IsPrefix later (n.decrypt s m x a k) = IsMsg later false m × IsTy later a × IsMsg later false k
IsPrefix later (n.check s m k) = IsMsg later false m × IsMsg later false k
IsPrefix later (n.begin s m) = IsMsg later false m
IsPrefix later (n.end s m) = IsMsg later false m
IsPrefix later (n.end_many s m) = (later ≡ true) × IsMsg later false m
IsPrefix later (n.cast s m x a) = IsMsg later false m × IsTy later a
IsPrefix later (n.new s x a) = IsTy later a

abbrev pub IsLine : Bool → n.Line → Type 0
IsLine later (n.local s role x) = IsPrefix later x
IsLine later (n.pass s from to channel m x) = IsMsg later false m

abbrev pub IsAnyWord : SWord → Type 0
IsAnyWord w = Unit {0}

abbrev pub HasRole : List SWord → Type 0
HasRole ws = (w : SWord) × (more : List SWord) × (ws ≡ w ∷ more)

abbrev pub whole_narration : n.Narration → List Piece
whole_narration x = narration_pieces x []

abbrev pub is_later_narration : n.Narration → Bool
is_later_narration x = x.version == 2

-- a formed narration
pub record IsNarration (x : n.Narration) : Type 0 where
  pub version : (x.version ≡ 1) ⊎ (x.version ≡ 2)
  pub decls : AllByRecursion (IsDeclared (is_later_narration x)) x.decls
  pub shared : AllByRecursion (IsShared (is_later_narration x)) x.shared
  pub roles : HasRole x.roles
  pub lines : AllByRecursion (IsLine (is_later_narration x)) x.lines
  pub words : AreWordsFit (is_later_narration x) (kinds_in (whole_narration x))

-- ---- the parts that stand alone, and the roles with their semicolon

abbrev pub whole_prefix : n.Prefix → List Piece
whole_prefix x = prefix_pieces x []

abbrev pub whole_line : n.Line → List Piece
whole_line x = line_pieces x []

abbrev pub whole_roles : List SWord → List Piece
whole_roles ws = roles_pieces ws []

abbrev pub IsWholePrefix : Bool → n.Prefix → Type 0
IsWholePrefix later x = IsPrefix later x × AreWordsFit later (kinds_in (whole_prefix x))

abbrev pub IsWholeLine : Bool → n.Line → Type 0
IsWholeLine later x = IsLine later x × AreWordsFit later (kinds_in (whole_line x))

abbrev pub AreWholeRoles : Bool → List SWord → Type 0
AreWholeRoles later ws = HasRole ws × AreWordsFit later (kinds_in (whole_roles ws))
