use Rattle.std.proofs.Common.{refl, subst}
use Rattle.type_ports.specs.Representable.{Representable}
use Rattle.rule_parts.proofs.Ports.{scalars_are_bits}
use Rattle.rule_parts.proofs.named.is_of_values.Goals as goal

pub returns-in-Unsigned : goal.returns-in-Unsigned
returns-in-Unsigned c =
    (λ h. subst (Representable c.args.datas.now) c.ty.view_is (scalars_are_bits c.args.datas.now c.ty.inside.node c.in-Unsigned.is), λ r. refl)

pub returns-in-Unsigned-2 : goal.returns-in-Unsigned-2
returns-in-Unsigned-2 c =
    (λ h. subst (Representable c.args.datas.now) c.ty.view_is (scalars_are_bits c.args.datas.now c.ty.inside.node c.in-Unsigned.is), λ r. refl)

pub returns-in-Unsigned-3 : goal.returns-in-Unsigned-3
returns-in-Unsigned-3 c =
    (λ h. subst (Representable c.args.datas.now) c.ty.view_is (scalars_are_bits c.args.datas.now c.ty.inside.node c.in-Unsigned.is), λ r. refl)
