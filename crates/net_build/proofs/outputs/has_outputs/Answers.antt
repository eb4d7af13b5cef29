use Rattle.std.proofs.Common.{◌∙◌, ap, refl, sym, subst}
use Rattle.net_built.specs.Data.{HasParts}
use Rattle.net_built.specs.Wires.{wire_count}
use Rattle.net_build.proofs.OutputMarks.{output_marked}
use Rattle.net_build.proofs.outputs.has_outputs.Goals as goal

pub parts_of-requires : goal.parts_of-requires
parts_of-requires c =
    let it = c.args.it.now in
    let has = c.requires.result in
    record { parts = (has.widths, subst (λ t. HasParts c.args.base.now.datas it.sort t has.widths) (sym c.result_of.ensures) has.parts) }

pub returns-clause-mark : goal.returns-clause-mark
returns-clause-mark c =
    output_marked c.args.base.now.datas c.args.it.now c.result_of.result.now c.in_ok-widths.widths.items c.in_ok-count.count _ c.result_of.ensures
    c.in_ok-widths.ensures.parts (c.in_ok-count.ensures ∙ ap wire_count c.deref.ensures.value) refl
