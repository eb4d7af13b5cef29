use Rattle.std.proofs.Common.{◌∙◌, sym, subst, arith}
use Rattle.chw_layout.specs.Measured.{HasWidth}
use Rattle.net_built.specs.Circuits.{Ground}
use Rattle.value_build.proofs.Measures.{widths_grown, widths_whole}
use Rattle.value_build.specs.ReadyParts.{IsMeasured}
use Rattle.value_build.proofs.Ready.{width_at}
use Rattle.value_build.proofs.fields.widths_of.Goals as goal

pub loop-t-preserved : goal.loop-t-preserved
loop-t-preserved c =
    let same = c.loop-t.invariant.1 in
    let t = c.t-item.result in
    let w = c.in_ok-width.field-0 in (
      widths_grown c.args.base.now.datas c.args.types.now c.loop-t.t-index w t c.loop-t.widths.items c.push.new.self.items
          c.loop-t-test.true c.t-item.is (subst (λ (g : Ground). HasWidth g.datas t w) same c.in_ok-width.ensures.width)
          c.in_ok-push.ensures.items c.loop-t.invariant.0,
      c.width.ensures.same ∙ same,
    )

pub returns-clause-widths : goal.returns-clause-widths
returns-clause-widths c =
    widths_whole c.args.base.now.datas c.args.types.now c.loop-t.t-index c.loop-t.widths.items (omega (arith, c.loop-t-test.false)) c.loop-t.invariant.0

pub width-requires : goal.width-requires
width-requires c =
    let t = c.t-item.result in
    subst (λ (g : Ground). IsMeasured g.datas t) (sym c.loop-t.invariant.1)
    (width_at c.args.types.now c.loop-t.t-index t c.requires.0 c.requires.1 c.loop-t-test.true c.t-item.is)
