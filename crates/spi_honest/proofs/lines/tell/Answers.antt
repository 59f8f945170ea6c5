use Rattle.std.proofs.Common.{◌∷◌, sym, subst}
use Rattle.spi_narrate.specs.Views.{narration_of}
use Rattle.spi_honest.specs.Narrated.{free_of}
use Rattle.spi_honest.specs.Roles.{IsRole}
use Rattle.spi_honest.specs.Stages.{IsRoleAt}
use Rattle.spi_honest.proofs.Lined.{local_role, local_is, pass_roles, pass_channel, pass_is}
use Rattle.spi_honest.proofs.lines.tell.Goals as goal

pub role_number-role-requires : goal.role_number-role-requires
role_number-role-requires c = local_role c.args.n.now c.args.at c.index.result.now c.index.ensures c.requires.at c.in-Local.role c.in-Local.prefix c.in-Local.span c.in-Local.is c.requires.tellable.known c.deref.result.now c.deref.ensures.value

pub local-requires-clause-line : goal.local-requires-clause-line
local-requires-clause-line c = local_is c.args.n.now c.args.at c.index.result.now c.index.ensures c.requires.at c.in-Local.role c.in-Local.prefix c.in-Local.span c.in-Local.is c.requires.tellable.known c.deref.result.now c.deref.ensures.value c.role_number-role.result c.role_number-role.ensures

pub role_number-from-requires : goal.role_number-from-requires
role_number-from-requires c = subst (λ rs. IsRole (c.args.n.now.first ∷ rs) c.in-Pass.from.word) (sym c.deref-in-Pass.ensures.value) (pass_roles c.args.n.now c.args.at c.index.result.now c.index.ensures c.requires.at c.in-Pass.from c.in-Pass.to c.in-Pass.channel c.in-Pass.datum c.in-Pass.name c.in-Pass.span c.in-Pass.is c.requires.tellable.known).0

pub role_number-to-requires : goal.role_number-to-requires
role_number-to-requires c = subst (λ rs. IsRole (c.args.n.now.first ∷ rs) c.in-Pass.to.word) (sym c.deref-in-Pass-2.ensures.value) (pass_roles c.args.n.now c.args.at c.index.result.now c.index.ensures c.requires.at c.in-Pass.from c.in-Pass.to c.in-Pass.channel c.in-Pass.datum c.in-Pass.name c.in-Pass.span c.in-Pass.is c.requires.tellable.known).1

pub name_number-channel-requires : goal.name_number-channel-requires
name_number-channel-requires c =
    let z = pass_channel c.args.n.now c.args.at c.index.result.now c.index.ensures c.requires.at c.in-Pass.from c.in-Pass.to c.in-Pass.channel c.in-Pass.datum c.in-Pass.name c.in-Pass.span c.in-Pass.is c.requires.tellable.known c.requires.channels in
    (free_of (narration_of c.args.n.now), z.0, c.requires.names, z.1)

pub part-requires-clause-line : goal.part-requires-clause-line
part-requires-clause-line c =
    pass_is c.args.n.now c.args.at c.index.result.now c.index.ensures c.requires.at c.in-Pass.from c.in-Pass.to c.in-Pass.channel c.in-Pass.datum c.in-Pass.name c.in-Pass.span c.in-Pass.is c.requires.tellable.known c.role_number-from.result c.role_number-to.result c.name_number-channel.result
    (subst (λ rs. IsRoleAt (c.args.n.now.first ∷ rs) c.in-Pass.from.word c.role_number-from.result) c.deref-in-Pass.ensures.value c.role_number-from.ensures)
    (subst (λ rs. IsRoleAt (c.args.n.now.first ∷ rs) c.in-Pass.to.word c.role_number-to.result) c.deref-in-Pass-2.ensures.value c.role_number-to.ensures)
    (c.name_number-channel.ensures (free_of (narration_of c.args.n.now)) c.requires.names)
