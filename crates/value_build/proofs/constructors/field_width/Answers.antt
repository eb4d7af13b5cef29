use Rattle.std.proofs.Common.{sym, subst}
use Rattle.value_build.specs.ReadyParts.{IsMeasured}
use Rattle.value_build.proofs.constructors.field_width.Goals as goal

pub width-width-requires : goal.width-width-requires
width-width-requires c = subst (IsMeasured c.args.base.now.datas) (sym c.in_ok-t.ensures.is) c.requires
