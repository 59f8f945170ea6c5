-- The lines of a narration by their numbers.
use Rattle.std.proofs.Common.{◌≡◌, ℕ, zero, suc, ◌<◌, List, [], ◌∷◌, length, get_or, slice_get, refl, sym, ap, ◌∙◌, subst, Some}
use Rattle.std.proofs.lemmas.Option.{slice_get_read}
use Rattle.spi_term.proofs.Lists.{get_map}
use Rattle.spi_text.specs.declared.lines.Span.{Span}
use Rattle.spi_tree.specs.declared.tree.SWord.{SWord}
use Rattle.spi_tree.specs.declared.tree.SMsg.{SMsg}
use Rattle.spi_tree.specs.Views.{msg_of}
use Rattle.spi_narrate.specs.declared.tree.Line.{Line}
use Rattle.spi_narrate.specs.declared.tree.Line.TheVariants as line
use Rattle.spi_narrate.specs.declared.tree.Prefix.{Prefix}
use Rattle.spi_narrate.specs.declared.tree.Narration.{Narration}
use Rattle.spi_narrate.specs.Views.{prefix_of, line_of, narration_of}
use Rattle.spi_narrate.specs.Narrations as n
use Rattle.spi_scope.specs.Scope.{Names, number_of}
use Rattle.spi_honest.specs.Narrated.{free_of}
use Rattle.spi_honest.specs.Roles.{IsRole, HasRoles, HaveRoles, HasChannel, HaveChannels}
use Rattle.spi_honest.specs.Stages.{IsRoleAt, IsLocalAt, IsPassAt}

roles_have : (roles : List SWord) (ls : List n.Line) (i : ℕ) {l : n.Line} → slice_get ls i ≡ Some l → HaveRoles roles ls → HasRoles roles l
roles_have roles [] i e h = absurd cc
roles_have roles (k ∷ ks) zero {l} e h = let g : k ≡ l = cc in subst (HasRoles roles) g h.0
roles_have roles (k ∷ ks) (suc i) e h = roles_have roles ks i e h.1

channels_have : (free : Names) (ls : List n.Line) (i : ℕ) {l : n.Line} → slice_get ls i ≡ Some l → HaveChannels free ls → HasChannel free l
channels_have free [] i e h = absurd cc
channels_have free (k ∷ ks) zero {l} e h = let g : k ≡ l = cc in subst (HasChannel free) g h.0
channels_have free (k ∷ ks) (suc i) e h = channels_have free ks i e h.1

-- the line that is read
module _ (x : Narration) (at : ℕ) (l : Line) (read : l ≡ get_or x.lines.items at l) (below : at < length x.lines.items) where
  line_here : {m : Line} → l ≡ m → slice_get (narration_of x).lines at ≡ Some (line_of m)
  line_here e = get_map line_of x.lines.items at (slice_get_read x.lines.items (length x.lines.items) at l refl below read) ∙ ap (λ z. Some (line_of z)) e

  module _ (who : SWord) (f : Prefix) (s : Span) (is : l ≡ line.Local who f s) (known : HaveRoles (narration_of x).roles (narration_of x).lines) (more : List SWord) (all : more ≡ x.more.items) where
    pub local_role : IsRole (x.first ∷ more) who.word
    local_role = subst (λ rs. IsRole (x.first ∷ rs) who.word) (sym all) (roles_have (narration_of x).roles (narration_of x).lines at (line_here is) known)

    pub local_is : (j : ℕ) → IsRoleAt (x.first ∷ more) who.word j → IsLocalAt (narration_of x) at j
    local_is j r = record { span = s; who = who; prefix = prefix_of f; here = line_here is; role = subst (λ rs. IsRoleAt (x.first ∷ rs) who.word j) all r }

  module _ (from to c : SWord) (m : SMsg) (w : SWord) (s : Span) (is : l ≡ line.Pass from to c m w s) (known : HaveRoles (narration_of x).roles (narration_of x).lines) where
    pub pass_roles : IsRole (narration_of x).roles from.word × IsRole (narration_of x).roles to.word
    pass_roles = roles_have (narration_of x).roles (narration_of x).lines at (line_here is) known

    pub pass_channel : HaveChannels (free_of (narration_of x)) (narration_of x).lines → (i : ℕ) × (number_of (free_of (narration_of x)) c.word ≡ Some i)
    pass_channel h = channels_have (free_of (narration_of x)) (narration_of x).lines at (line_here is) h

    pub pass_is : (j k i : ℕ) → IsRoleAt (narration_of x).roles from.word j → IsRoleAt (narration_of x).roles to.word k → number_of (free_of (narration_of x)) c.word ≡ Some i → IsPassAt (narration_of x) at j k i
    pass_is j k i a b e = record { span = s; from = from; to = to; channel = c; datum = msg_of m; name = w; here = line_here is; sender = a; receiver = b; number = e }
