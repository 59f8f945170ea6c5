-- The file that a narration is woven into.
use Rattle.std.specs.Prelude.{Bool, true, false, List, [], ◌∷◌, Some, None}
use Rattle.std.specs.Str.{bytes_eq}
use Rattle.spi_text.specs.declared.lines.Span.{Span}
use Rattle.spi_tree.specs.declared.tree.SWord.{SWord}
use Rattle.spi_tree.specs.Trees as t
use Rattle.spi_heading.specs.Headings.{Shared}
use Rattle.spi_narrate.specs.Narrations as n

-- the form that a line makes of a prefix, before the process that follows. It stands where the line does
abbrev pub prefixed : Span → n.Prefix → t.Proc → t.Proc
prefixed s (n.split at m x a y c) p = t.split s m x a y c p
prefixed s (n.match at m x a k y c) p = t.match s m x a k y c p
prefixed s (n.decrypt at m x a k) p = t.decrypt s m x a k p
prefixed s (n.check at m k) p = t.check s m k p
prefixed s (n.begin at m) p = t.begin s m p
prefixed s (n.end at m) p = t.end s m p
prefixed s (n.end_many at m) p = t.end_many s m p
prefixed s (n.cast at m x a) p = t.cast s m x a p
prefixed s (n.new at x a) p = t.new s x a p

-- the message of a word
abbrev pub name_spelled : SWord → t.Msg
name_spelled w = t.name w.span w

-- what the sender does in `A to B on c: M as x`, and what the receiver does, where they are these
abbrev pub sent : Bool → Span → SWord → t.Msg → t.Proc → t.Proc
sent true s c m p = t.out_then s (name_spelled c) m p
sent false s c m p = p

abbrev pub received : Bool → Span → SWord → SWord → t.Proc → t.Proc
received true s c x p = t.inp s (name_spelled c) x (t.un x.span) p
received false s c x p = p

-- what a role does in a line of its own
abbrev pub woven_prefix : Bool → Span → n.Prefix → t.Proc → t.Proc
woven_prefix true s f p = prefixed s f p
woven_prefix false s f p = p

abbrev pub is_word : SWord → SWord → Bool
is_word v w = bytes_eq v.word w.word

-- what a role does in a line, before the process that follows
abbrev pub role_part : SWord → n.Line → t.Proc → t.Proc
role_part r (n.local s who f) p = woven_prefix (is_word who r) s f p
role_part r (n.pass s from to c m x) p = sent (is_word from r) s c m (received (is_word to r) s c x p)

-- a role does its lines in order
abbrev pub role_process : SWord → List n.Line → t.Proc
role_process r [] = t.stop r.span
role_process r (l ∷ ls) = role_part r l (role_process r ls)

-- one role and more, beside one another
abbrev pub roles_beside : List n.Line → SWord → List SWord → t.Proc
roles_beside ls r [] = role_process r ls
roles_beside ls r (q ∷ rs) = t.par r.span (role_process r ls) (roles_beside ls q rs)

-- the same in the place of a Seq
abbrev pub roles_together : List n.Line → List SWord → t.Proc
roles_together ls [] = t.stop (record { from = 0; to = 0 })
roles_together ls (r ∷ []) = role_process r ls
roles_together ls (r ∷ q ∷ rs) = t.group r.span (role_process r ls) (roles_beside ls q rs)

-- a `new` for each shared name
abbrev pub sharing : List Shared → t.Proc → t.Proc
sharing [] p = p
sharing (x ∷ xs) p = t.new x.span x.name x.ty (sharing xs p)

-- where the word of the last role stands
abbrev pub last_span : Span → List SWord → Span
last_span s [] = s
last_span s (r ∷ rs) = last_span r.span rs

abbrev pub woven : n.Narration → t.File
woven x = record {
  span = x.span;
  version = x.version;
  decls = x.decls;
  process = sharing x.shared (roles_together x.lines x.roles);
  opponent = Some (t.stop (last_span (record { from = 0; to = 0 }) x.roles));
  schedule = None;
  derivation = None;
}
