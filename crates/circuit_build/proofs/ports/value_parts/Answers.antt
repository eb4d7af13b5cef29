use Rattle.std.proofs.Common.{◌∙◌, ◌++◌, ◌∷◌, [], ap, sym, subst}
use Rattle.chw_terms.specs.declared.scene.Sort.TheVariants.{Value}
use Rattle.net_built.specs.Data.{HasParts, value_part}
use Rattle.circuit_build.proofs.PortParts.{value_measured}
use Rattle.circuit_build.proofs.ports.value_parts.Goals as goal

pub width-requires : goal.width-requires
width-requires c = value_measured c.requires.parts.1

pub returns-clause-parts : goal.returns-clause-parts
returns-clause-parts c =
    let w = c.in_ok-width.width in
    subst (HasParts c.args.base.now.datas Value c.args.t.now)
    (sym (c.in_ok-push.ensures.items ∙ ap (λ ws. ws ++ w ∷ []) c.new-widths.ensures.items))
    (value_part c.in_ok-width.ensures.width)
