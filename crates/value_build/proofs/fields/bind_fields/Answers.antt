use Rattle.std.proofs.Common.{◌∙◌, sym, subst}
use Rattle.net_built.proofs.Parts.{pattern_once}
use Rattle.value_build.specs.ReadyParts.{AreMeasured}
use Rattle.value_build.proofs.fields.bind_fields.Goals as goal

pub pattern_fields-requires : goal.pattern_fields-requires
pattern_fields-requires c = (c.requires.fields, c.requires.binds)

pub cut_fields-bound-requires : goal.cut_fields-bound-requires
cut_fields-bound-requires c =
    subst (AreMeasured c.args.base.now.datas) (pattern_once c.requires.binds c.in_ok-types.ensures ∙ sym c.deref.ensures.value) c.requires.are
