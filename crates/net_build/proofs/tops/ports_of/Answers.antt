use Rattle.std.proofs.Common.{◌∙◌, subst, arith, refl, sym, length}
use Rattle.std.proofs.lemmas.Option.{slice_get_read}
use Rattle.net_built.specs.Circuits.{Ground}
use Rattle.net_build.specs.Ports.{AddsPort}
use Rattle.chw_layout.specs.Measured.{HasWidth}
use Rattle.net_build.proofs.Ports.{ports_grown, ports_whole, names_many, leaf_measured}
use Rattle.net_build.proofs.tops.ports_of.Goals as goal

pub bounds-names-i : goal.bounds-names-i
bounds-names-i c = omega (arith, c.loop-i-test.true, names_many c.requires.1)

pub push_port-requires : goal.push_port-requires
push_port-requires c =
    let leaves = c.args.leaves.now in
    let i = c.loop-i.i in
    let leaf = c.index-leaves-i.result in
    let measured = leaf_measured i leaf c.requires.1 (slice_get_read leaves (length leaves) i leaf refl c.loop-i-test.true c.index-leaves-i.is) in
    (measured.0, subst (λ (g : Ground). HasWidth g.datas leaf.payload measured.0) (sym c.loop-i.invariant.1) measured.1)

pub loop-i-preserved : goal.loop-i-preserved
loop-i-preserved c =
    let same = c.loop-i.invariant.1 in
    let leaf = c.index-leaves-i.result in
    let name = c.index-names-i.result in (
      ports_grown c.args.base.now.datas c.args.leaves.now c.args.names.now c.loop-i.i leaf name c.loop-i.ports.items c.push_port.new.ports.items
          c.loop-i-test.true c.index-leaves-i.is (omega (arith, c.loop-i-test.true, names_many c.requires.1)) c.index-names-i.is
          (subst (λ (g : Ground). AddsPort g.datas leaf name c.loop-i.ports.items c.push_port.new.ports.items) same c.in_ok-push_port.ensures.port)
          c.loop-i.invariant.0,
      c.push_port.ensures.same ∙ same,
    )

pub returns-clause-ports : goal.returns-clause-ports
returns-clause-ports c =
    ports_whole c.args.base.now.datas c.args.leaves.now c.args.names.now c.loop-i.i c.loop-i.ports.items
    (omega (arith, c.loop-i-test.false)) (names_many c.requires.1) c.loop-i.invariant.0
