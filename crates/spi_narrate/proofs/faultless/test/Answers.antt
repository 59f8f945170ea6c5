use Rattle.std.proofs.Common.{[], ◌∷◌, ◌++◌, length, map}
use Rattle.spi_heading.specs.Views.{shared_of}
use Rattle.spi_narrate.specs.Faults.{shared_items, role_items, line_items}
use Rattle.spi_narrate.specs.Views.{line_of}
use Rattle.spi_narrate.proofs.Testing.{tested_front, tested_behind, whole}
use Rattle.spi_narrate.proofs.faultless.test.Goals as goal

pub returns-in_err-test_shared : goal.returns-in_err-test_shared
returns-in_err-test_shared c =
    let x = c.args.n.now in
    let roles = x.first ∷ x.more.items in
    let r = c.from_residual.result in
    whole r x (tested_front r c.in_err-test_shared.field-0.0 (shared_items 0 (length x.shared.items) (map shared_of x.shared.items))
    (role_items 0 (length roles) [] roles ++ line_items 0 (length x.lines.items) roles (map line_of x.lines.items)) c.from_residual.ensures.1 (rw c.deref.ensures.value at c.in_err-test_shared.ensures))

pub returns-in_err-test_roles : goal.returns-in_err-test_roles
returns-in_err-test_roles c =
    let x = c.args.n.now in
    let roles = x.first ∷ x.more.items in
    let r = c.from_residual-in_err-test_roles.result in
    let lines = line_items 0 (length x.lines.items) roles (map line_of x.lines.items) in
    whole r x (tested_behind r (shared_items 0 (length x.shared.items) (map shared_of x.shared.items)) (role_items 0 (length roles) [] roles ++ lines) (rw c.deref.ensures.value at c.in_ok-test_shared.ensures)
    (tested_front r c.in_err-test_roles.field-0.0 (role_items 0 (length roles) [] roles) lines c.from_residual-in_err-test_roles.ensures.1 (rw c.deref-2.ensures.value at c.in_err-test_roles.ensures)))

pub returns : goal.returns
returns c =
    let x = c.args.n.now in
    let roles = x.first ∷ x.more.items in
    let r = c.test_lines.result in
    let lines = line_items 0 (length x.lines.items) roles (map line_of x.lines.items) in
    whole r x (tested_behind r (shared_items 0 (length x.shared.items) (map shared_of x.shared.items)) (role_items 0 (length roles) [] roles ++ lines) (rw c.deref.ensures.value at c.in_ok-test_shared.ensures)
    (tested_behind r (role_items 0 (length roles) [] roles) lines (rw c.deref-2.ensures.value at c.in_ok-test_roles.ensures)
    (rw c.deref-4.ensures.value at (rw c.deref-3.ensures.value at c.test_lines.ensures))))
