-- One node of the forward pass.
use Rattle.std.proofs.Common.{◌≡◌, ℕ, suc, ◌+◌, ◌-◌, List, [], ◌∷◌, ◌++◌, take, drop, Some, sym, ap, ◌∙◌, refl, arith, append_assoc, eq-eqb}
use Rattle.std.specs.Prelude.{slice_get, if◌then◌else◌}
use Rattle.spi_term.specs.Term.{Ty}
use Rattle.spi_term.specs.Spelling.{Shape}
use Rattle.spi_term.specs.Arena.{scope_of}
use Rattle.spi_term.proofs.Lists.{drop_get}
use Rattle.spi_rules.specs.Environment.{Env}
use Rattle.spi_infer.specs.Passes.{Note, note_of, entered, Wait, wait, waiting, settled, left_waiting, IsCalm, scan}

pub calm_settled : (i k : ℕ) (e : Env) (ws : List Wait) → IsCalm i ws → settled i k e ws ≡ take k e
calm_settled i k e [] h = refl
calm_settled i k e (wait r u ∷ ws) h = ap (λ b. if b then (take (k - 1) e ++ u ∷ []) else take k e) h

pub calm_left : (i : ℕ) (ws : List Wait) → IsCalm i ws → left_waiting i ws ≡ ws
calm_left i [] h = refl
calm_left i (wait r u ∷ ws) h = ap (λ b. if b then ws else (wait r u ∷ ws)) h

pub due_settled : (i k : ℕ) (e : Env) (u : Ty) (ws : List Wait) → settled i k e (wait i u ∷ ws) ≡ take (k - 1) e ++ u ∷ []
due_settled i k e u ws = ap (λ b. if b then (take (k - 1) e ++ u ∷ []) else take k e) (eq-eqb i i refl)

pub due_left : (i : ℕ) (u : Ty) (ws : List Wait) → left_waiting i (wait i u ∷ ws) ≡ ws
due_left i u ws = ap (λ b. if b then ws else (wait i u ∷ ws)) (eq-eqb i i refl)

-- one more node of the forward pass
pub scan_more : (ns : List Note) (e cut e' : Env) (ws ws' : List Wait) (ss : List Shape) (i : ℕ) (x : Shape) (n : Note) → slice_get ss i ≡ Some x → cut ≡ settled i (scope_of x) e ws → n ≡ note_of cut x → e' ≡ entered cut x → ws' ≡ waiting (left_waiting i ws) x → (ns ++ n ∷ []) ++ scan (i + 1) e' ws' (drop (i + 1) ss) ≡ ns ++ scan i e ws (drop i ss)
scan_more ns e cut e' ws ws' ss i x n g c h v w =
    let z : i + 1 ≡ suc i = omega arith in
    append_assoc ns (n ∷ []) (scan (i + 1) e' ws' (drop (i + 1) ss))
    ∙ ap (λ n. ns ++ n ∷ scan (i + 1) e' ws' (drop (i + 1) ss)) h
    ∙ ap (λ f. ns ++ note_of cut x ∷ scan (i + 1) f ws' (drop (i + 1) ss)) v
    ∙ ap (λ f. ns ++ note_of f x ∷ scan (i + 1) (entered f x) ws' (drop (i + 1) ss)) c
    ∙ ap (λ w. ns ++ note_of (settled i (scope_of x) e ws) x ∷ scan (i + 1) (entered (settled i (scope_of x) e ws) x) w (drop (i + 1) ss)) w
    ∙ ap (λ j. ns ++ note_of (settled i (scope_of x) e ws) x ∷ scan j (entered (settled i (scope_of x) e ws) x) (waiting (left_waiting i ws) x) (drop j ss)) z
    ∙ ap (λ l. ns ++ scan i e ws l) (sym (drop_get ss i x g))
