-- What reading bytes answers on a tree with a fault.
use Rattle.std.proofs.Common.{◌≡◌, ◌⊎◌, inl, inr, ℕ, ◌+◌, Bool, true, false, List, Some, None, if◌then◌else◌, ap, ◌∙◌}
use Rattle.std.specs.Prelude.{nat_lt, is_some}
use Rattle.spi_tree.specs.Trees as t
use Rattle.spi_scope.specs.declared.fault.ScopeFault.{ScopeFault}
use Rattle.spi_scope.specs.declared.fault.ScopeFault.TheVariants as scope
use Rattle.spi_scope.specs.Scope.{number_of, type_of}
use Rattle.spi_scope.specs.Points.{Point, uses_name, uses_type, declares_name, declares_type, ends_message, ends_type, adds, starts_step, fault_at}
use Rattle.spi_scope.specs.First.{HasFirst}
use Rattle.spi_scope.specs.FaultPlaces.{span_from}
use Rattle.spi_commands.specs.declared.reading.Unread.{Unread}
use Rattle.spi_commands.specs.declared.reading.Unread.TheVariants as unread
use Rattle.spi_commands.specs.Reading.{IsUnread, TellsRefusal}
use Rattle.spi_commands.specs.Spelled.{IsTreeOf}
use Rattle.spi_commands.specs.Refusals.{Refuses, scope_number, scope_shown, out_of_scope}
use Rattle.spi_commands.proofs.FileRefusals.{unread_as}

-- what is wrong at a point is never a want of memory
chosen : (b : Bool) (fault : ScopeFault) → ¬ (fault ≡ scope.NoMemory) → ¬ ((if b then None else Some fault) ≡ Some scope.NoMemory)
chosen true fault other e = absurd (cc)
chosen false fault other e = other (cc)

taken : (b : Bool) (fault : ScopeFault) → ¬ (fault ≡ scope.NoMemory) → ¬ ((if b then Some fault else None) ≡ Some scope.NoMemory)
taken true fault other e = other (cc)
taken false fault other e = absurd (cc)

never_wanting : (c : ℕ) (p : Point) → ¬ (fault_at c p ≡ Some scope.NoMemory)
never_wanting c (uses_name xs w) = chosen (is_some (number_of xs w.word)) _ (λ e. cc)
never_wanting c (uses_type ts w) = chosen (is_some (type_of ts w.word)) _ (λ e. cc)
never_wanting c (declares_name xs w) = taken (is_some (number_of xs w.word)) _ (λ e. cc)
never_wanting c (declares_type ts w) = taken (is_some (type_of ts w.word)) _ (λ e. cc)
never_wanting c (ends_message n s) = taken (nat_lt 200 n) _ (λ e. cc)
never_wanting c (ends_type n s) = taken (nat_lt 1000 n) _ (λ e. cc)
never_wanting c (adds n s) = taken (nat_lt 100000 (c + n)) _ (λ e. cc)
never_wanting c (starts_step i n s) = taken (nat_lt 10000 i) _ (λ e. cc)

pub first_is_fault : (tree : t.File) (fault : ScopeFault) → HasFirst tree fault → ¬ (fault ≡ scope.NoMemory)
first_is_fault tree fault first e = never_wanting _ first.at (first.wrong ∙ ap Some e)

-- the refusal of a fault of scopes is one of the bytes
pub unscoped : (bytes : List ℕ) (tree : t.File) (fault : ScopeFault) (u : Unread) → IsTreeOf bytes tree → (fault ≡ scope.NoMemory) ⊎ HasFirst tree fault
    → (fault ≡ scope.NoMemory → u ≡ unread.NoMemory) → TellsRefusal (scope_number fault) (span_from fault) (scope_shown fault) u → IsUnread bytes u
unscoped bytes tree fault u is (inl wanting) memory tells = rw (memory wanting) tt
unscoped bytes tree fault u is (inr first) memory tells = unread_as (Refuses bytes) (scope_number fault) (span_from fault) (scope_shown fault) u (inr (inr (tree, is, out_of_scope first))) tells
