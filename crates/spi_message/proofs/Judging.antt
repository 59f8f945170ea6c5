-- A test over two lists of names, of which the second is empty, decides what it decides in the environment.
use Rattle.std.proofs.Common.{◌≡◌, ◌↔◌, Bool, true, List, [], sym, ap, ◌∙◌, Result, Ok, Err, IfOk}
use Rattle.spi_term.specs.declared.term.Ty.{Ty}
use Rattle.spi_rules.specs.Environment.{Env}
use Rattle.spi_message.specs.Tests.{env_of, scope_of_types}
use Rattle.spi_message.proofs.Types.{scope_none}

pub judged : {E : Type 0} (test : Env → Bool) (J : Env → Type 0) → ((e : Env) → test e ≡ true ↔ J e) → (ts us : List Ty) (e : Env) → env_of ts ≡ e → us ≡ [] → (r : Result Bool E) → IfOk r (λ b. b ≡ test (scope_of_types ts us)) → IfOk r (λ b. b ≡ true ↔ J e)
judged test J exact ts us e v n (Ok b) h =
    let f : b ≡ test e = h ∙ ap test (ap (scope_of_types ts) n ∙ scope_none ts ∙ v) in
    ((λ t. (exact e).0 (sym f ∙ t)), (λ j. f ∙ (exact e).1 j))
judged test J exact ts us e v n (Err x) h = tt
