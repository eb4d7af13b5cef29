use Rattle.std.proofs.Common.{sym, subst}
use Rattle.net_built.specs.Circuits.{Ground}
use Rattle.value_build.specs.ReadyParts.{IsMeasured}
use Rattle.value_build.proofs.base.Base.width.Goals as goal

pub width_of-requires : goal.width_of-requires
width_of-requires c = subst (λ (g : Ground). IsMeasured g.datas c.args.t.now) (sym c.self.view_is) c.requires
