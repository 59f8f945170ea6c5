use Rattle.std.proofs.Common.{◌≡◌, [], map, reverse, ap, ◌∙◌}
use Rattle.std.proofs.lemmas.Result.{err_from_is_err_and}
use Rattle.spi_tree.specs.Views.{file_of}
use Rattle.spi_scope.specs.Scope.{Names, Abbreviations}
use Rattle.spi_scope.specs.Points.{all_names, all_types}
use Rattle.spi_scope.specs.StandsFor.{over_free, opponent_over}
use Rattle.spi_scope.specs.State.{abbreviation, abbreviations}
use Rattle.spi_scope.proofs.Made.{few_names, types_over}
use Rattle.spi_scope.proofs.Resolved.{declared_fails, resolved_clean, resolved_fails}
use Rattle.spi_scope.proofs.resolution.resolve.Goals as goal

pub read_body-requires-clause-names : goal.read_body-requires-clause-names
read_body-requires-clause-names c =
    let n : c.new.result.names ≡ [] = c.new.ensures.names in
    let y : abbreviations c.new-2.result ≡ [] = ap (map abbreviation) c.new-2.ensures.empty in
    let d = c.in_ok-declare_all.ensures in
    few_names (file_of c.args.tree.now).decls c.declare_all.new.scope.count c.declare_all.new.scope.held.names
    (rw (n, y, c.deref.ensures.value) at d.gives) d.few (rw (n, c.deref.ensures.value) at d.names)

pub read_body-requires-clause-over : goal.read_body-requires-clause-over
read_body-requires-clause-over c =
    let n : c.new.result.names ≡ [] = c.new.ensures.names in
    let y : abbreviations c.new-2.result ≡ [] = ap (map abbreviation) c.new-2.ensures.empty in
    let d = c.in_ok-declare_all.ensures in
    types_over (file_of c.args.tree.now).decls (abbreviations c.declare_all.new.scope.types) c.declare_all.new.scope.held.names
    (rw (n, y, c.deref.ensures.value) at d.types) (rw (n, c.deref.ensures.value) at d.names)

pub returns-in_err-declare_all-clause-fault : goal.returns-in_err-declare_all-clause-fault
returns-in_err-declare_all-clause-fault c =
    let n : c.new.result.names ≡ [] = c.new.ensures.names in
    let y : abbreviations c.new-2.result ≡ [] = ap (map abbreviation) c.new-2.ensures.empty in
    let p = err_from_is_err_and c.from_residual.result c.from_residual.ensures.1 in
    rw (p.1, p.2) (declared_fails (file_of c.args.tree.now) _ (rw (n, y, c.deref.ensures.value) at c.in_err-declare_all.ensures.gives))

pub returns-in_err-file-clause-fault : goal.returns-in_err-file-clause-fault
returns-in_err-file-clause-fault c =
    let n : c.new.result.names ≡ [] = c.new.ensures.names in
    let y : abbreviations c.new-2.result ≡ [] = ap (map abbreviation) c.new-2.ensures.empty in
    let d = c.in_ok-declare_all.ensures in
    let s = c.declare_all.new.scope in
    let p = err_from_is_err_and c.from_residual-in_err-file.result c.from_residual-in_err-file.ensures.1 in
    rw (p.1, p.2)
    (resolved_fails (file_of c.args.tree.now) s.count (abbreviations s.types) s.held.names
    (rw (n, y, c.deref.ensures.value) at d.gives) (rw (n, y, c.deref.ensures.value) at d.types) (rw (n, c.deref.ensures.value) at d.names) _ c.in_err-file.ensures.gives)

pub returns-clause-stands : goal.returns-clause-stands
returns-clause-stands c =
    let n : c.new.result.names ≡ [] = c.new.ensures.names in
    let y : abbreviations c.new-2.result ≡ [] = ap (map abbreviation) c.new-2.ensures.empty in
    let d = c.in_ok-declare_all.ensures in
    let s = c.declare_all.new.scope in
    let tree = file_of c.args.tree.now in
    let r = c.in_ok-file.ensures in
    let e : abbreviations s.types ≡ all_types [] [] tree.decls = rw (n, y, c.deref.ensures.value) at d.types in
    let f : s.held.names ≡ all_names [] tree.decls = rw (n, c.deref.ensures.value) at d.names in
    record {
      clean = resolved_clean tree s.count (abbreviations s.types) s.held.names (rw (n, y, c.deref.ensures.value) at d.gives) e f _ r.gives;
      version = r.version;
      names = r.names ∙ ap reverse f;
      process = r.process ∙ ap (λ (us : Abbreviations). over_free us s.held.names tree.process) e ∙ ap (λ (ys : Names). over_free (all_types [] [] tree.decls) ys tree.process) f;
      opponent = r.opponent ∙ ap (λ (us : Abbreviations). opponent_over us s.held.names tree.opponent) e ∙ ap (λ (ys : Names). opponent_over (all_types [] [] tree.decls) ys tree.opponent) f;
      schedule = r.schedule;
      derivation = r.derivation;
    }
