use Rattle.std.proofs.Common.{◌∙◌, sym, subst}
use Rattle.chw_types.specs.Arguments.{arguments}
use Rattle.chw_types.specs.TypeView.{trees_of}
use Rattle.value_build.specs.ReadyParts.{FieldsMeasured}
use Rattle.value_build.proofs.constructors.fields_width_at.Goals as goal

pub fields_width-width-requires : goal.fields_width-width-requires
fields_width-width-requires c =
    subst (λ ts. FieldsMeasured c.args.base.now.datas c.args.fields.now (arguments (trees_of ts)))
    (sym (c.deref.ensures.value ∙ c.in_ok-types.ensures)) c.requires
