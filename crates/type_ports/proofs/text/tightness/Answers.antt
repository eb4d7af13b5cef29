use Rattle.std.proofs.Common.{sym, ap, ◌∙◌}
use Rattle.chw_types.specs.TypeView.{tree_of}
use Rattle.type_ports.proofs.TypeTexts.{with_arguments}
use Rattle.type_ports.proofs.text.tightness.Goals as goal

pub returns-else-is_empty : goal.returns-else-is_empty
returns-else-is_empty c =
    with_arguments c.in-DataOf.field-0.number _ c.in-DataOf.args.items c.args.t.now (ap tree_of (sym c.in-DataOf.is) ∙ c.t.view_is) c.in-DataOf.args.ok.0 (sym c.is_empty.ensures ∙ c.if-is_empty.false)
