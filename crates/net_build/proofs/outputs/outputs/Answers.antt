use Rattle.std.proofs.Common.{◌∙◌, subst, sym, refl, length, arith}
use Rattle.std.proofs.lemmas.Option.{slice_get_read}
use Rattle.net_built.specs.Circuits.{Ground}
use Rattle.net_ready.specs.Ready.{ModuleReady}
use Rattle.net_build.specs.Outputs.{IsOutputMark}
use Rattle.net_build.proofs.OutputMarks.{marks_grown, marks_whole}
use Rattle.net_build.proofs.outputs.outputs.Goals as goal

pub has_outputs-requires : goal.has_outputs-requires
has_outputs-requires c =
    let made = c.args.made.now in
    let it = c.it-item.result in
    subst (λ (g : Ground). ModuleReady g.datas it) (sym c.loop-it.invariant.1)
    (c.requires c.loop-it.it-index it (slice_get_read made (length made) c.loop-it.it-index it refl c.loop-it-test.true c.it-item.is))

pub loop-it-preserved : goal.loop-it-preserved
loop-it-preserved c =
    let same = c.loop-it.invariant.1 in
    let it = c.it-item.result in
    let b = c.in_ok-has_outputs.field-0 in (
      marks_grown c.args.base.now.datas c.args.made.now c.loop-it.it-index it b c.loop-it.has.items c.push.new.self.items
          c.loop-it-test.true c.it-item.is (subst (λ (g : Ground). IsOutputMark g.datas it b) same c.in_ok-has_outputs.ensures.mark)
          c.in_ok-push.ensures.items c.loop-it.invariant.0,
      c.has_outputs.ensures.same ∙ same,
    )

pub returns-clause-marks : goal.returns-clause-marks
returns-clause-marks c =
    marks_whole c.args.base.now.datas c.args.made.now c.loop-it.it-index c.loop-it.has.items (omega (arith, c.loop-it-test.false)) c.loop-it.invariant.0
