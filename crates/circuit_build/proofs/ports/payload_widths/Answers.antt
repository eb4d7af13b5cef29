use Rattle.std.proofs.Common.{◌∙◌, sym, subst, arith}
use Rattle.chw_layout.specs.Measured.{HasWidth}
use Rattle.net_built.specs.Circuits.{Ground}
use Rattle.value_build.specs.ReadyParts.{IsMeasured}
use Rattle.circuit_build.proofs.PortParts.{payload_at, payloads_grown, payloads_whole}
use Rattle.circuit_build.proofs.ports.payload_widths.Goals as goal

pub width-requires : goal.width-requires
width-requires c =
    let leaf = c.leaf-item.result in
    subst (λ (g : Ground). IsMeasured g.datas leaf.payload) (sym c.loop-leaf.invariant.1)
    (payload_at c.args.leaves.now c.loop-leaf.leaf-index leaf c.requires.measured.0 c.requires.measured.1 c.loop-leaf-test.true c.leaf-item.is)

pub loop-leaf-preserved : goal.loop-leaf-preserved
loop-leaf-preserved c =
    let same = c.loop-leaf.invariant.1 in
    let leaf = c.leaf-item.result in
    let w = c.in_ok-width.field-0 in (
      payloads_grown c.args.base.now.datas c.args.leaves.now c.loop-leaf.leaf-index w leaf c.loop-leaf.widths.items c.push.new.self.items
          c.loop-leaf-test.true c.leaf-item.is (subst (λ (g : Ground). HasWidth g.datas leaf.payload w) same c.in_ok-width.ensures.width)
          c.in_ok-push.ensures.items c.loop-leaf.invariant.0,
      c.width.ensures.same ∙ same,
    )

pub returns-clause-widths : goal.returns-clause-widths
returns-clause-widths c =
    payloads_whole c.args.base.now.datas c.args.leaves.now c.loop-leaf.leaf-index c.loop-leaf.widths.items (omega (arith, c.loop-leaf-test.false)) c.loop-leaf.invariant.0
