use Rattle.std.proofs.Common.{◌∙◌, ap, sym, length}
use Rattle.value_build.proofs.Measures.{widths_count}
use Rattle.value_build.proofs.fields.cut_fields.Goals as goal

pub enter_fields-requires : goal.enter_fields-requires
enter_fields-requires c =
    widths_count c.args.base.now.datas c.args.types.now c.in_ok-widths.widths.items c.in_ok-widths.ensures.widths
    ∙ ap length (sym c.deref-2.ensures.value)
