-- The refusals of lines.
use Rattle.std.proofs.Common.{◌≡◌, ◌⊎◌, ℕ, inl, inr, subst}
use Rattle.spi_text.specs.declared.lines.Span.{Span}
use Rattle.spi_scope.specs.declared.fault.ScopeFault.{ScopeFault}
use Rattle.spi_scope.specs.declared.fault.ScopeFault.TheVariants.{NoMemory as OutOfMemory}
use Rattle.spi_scope.specs.First.{HasFirst}
use Rattle.spi_scope.specs.StandsFor.{Meant, StandsFor}
use Rattle.spi_tree.specs.Trees as t
use Rattle.spi_narrate.specs.Narrations as n
use Rattle.spi_weave.specs.Woven.{woven}
use Rattle.spi_honest.specs.declared.fault.HonestFault.{HonestFault}
use Rattle.spi_honest.specs.declared.fault.HonestFault.TheVariants.{LineNotReady, NarratedTooLarge, NoMemory}
use Rattle.spi_honest.specs.Narrated.{free_of}
use Rattle.spi_honest.specs.Roles.{HaveChannels}
use Rattle.spi_honest.specs.Honest.{HasHonestFault}
use Rattle.spi_narrator.specs.declared.answer.Refusal.TheVariants.{Scope, NotReady, TooLarge}
use Rattle.spi_narrator.specs.Answers.{LineIn, RefusesNarration, out_of_scope, not_ready, too_large}

not_ready_at : (x : n.Narration) (file : Meant) (i : ℕ) (s : Span) → HaveChannels (free_of x) x.lines → StandsFor (woven x) file
    → (LineNotReady i ≡ NoMemory) ⊎ HasHonestFault x (LineNotReady i) → LineIn x.lines i s → RefusesNarration x (NotReady s)
not_ready_at x file i s h st (inl e) l = absurd cc
not_ready_at x file i s h st (inr f) l = not_ready h st f l

too_large_at : (x : n.Narration) (file : Meant) (i nodes : ℕ) (s : Span) → HaveChannels (free_of x) x.lines → StandsFor (woven x) file
    → (NarratedTooLarge i nodes ≡ NoMemory) ⊎ HasHonestFault x (NarratedTooLarge i nodes) → LineIn x.lines i s → RefusesNarration x (TooLarge s nodes)
too_large_at x file i nodes s h st (inl e) l = absurd cc
too_large_at x file i nodes s h st (inr f) l = too_large h st f l

pub refused_line : (x : n.Narration) (file : Meant) (i : ℕ) (s : Span) (e : HonestFault) → e ≡ LineNotReady i → HaveChannels (free_of x) x.lines → StandsFor (woven x) file
    → (e ≡ NoMemory) ⊎ HasHonestFault x e → LineIn x.lines i s → RefusesNarration x (NotReady s)
refused_line x file i s e is h st f l = not_ready_at x file i s h st (subst (λ (z : HonestFault). (z ≡ NoMemory) ⊎ HasHonestFault x z) is f) l

pub refused_large : (x : n.Narration) (file : Meant) (i nodes : ℕ) (s : Span) (e : HonestFault) → e ≡ NarratedTooLarge i nodes → HaveChannels (free_of x) x.lines → StandsFor (woven x) file
    → (e ≡ NoMemory) ⊎ HasHonestFault x e → LineIn x.lines i s → RefusesNarration x (TooLarge s nodes)
refused_large x file i nodes s e is h st f l = too_large_at x file i nodes s h st (subst (λ (z : HonestFault). (z ≡ NoMemory) ⊎ HasHonestFault x z) is f) l

pub scope_fault : (x : n.Narration) (f : ScopeFault) (tree : t.File) → tree ≡ woven x → HaveChannels (free_of x) x.lines
    → (f ≡ OutOfMemory → ⊥) → (f ≡ OutOfMemory) ⊎ HasFirst tree f → RefusesNarration x (Scope f)
scope_fault x f tree e h differs (inl m) = absurd (differs m)
scope_fault x f tree e h differs (inr is) = out_of_scope h (subst (λ (z : t.File). HasFirst z f) e is)
