use Rattle.std.proofs.Common.{◌∙◌, ◌∷◌, [], List, ℕ, sym, subst, arith}
use Rattle.net_built.specs.Circuits.{Ground}
use Rattle.chw_terms.specs.declared.scene.Sort.TheVariants.{Circuit}
use Rattle.net_built.specs.Data.{HasParts}
use Rattle.circuit_build.specs.Projections.{AreCounts}
use Rattle.circuit_build.proofs.FieldWires.{counts_grown, counts_whole}
use Rattle.circuit_build.proofs.ProjectionParts.{parts_at}
use Rattle.circuit_build.proofs.projections.wires_of_ports.Goals as goal

pub wires_of_port-requires : goal.wires_of_port-requires
wires_of_port-requires c =
    let t = c.t-item.result in
    record {
      port = subst (λ (g : Ground). (ws : List ℕ) × HasParts g.datas Circuit t ws) (sym c.loop-t.invariant.1)
          (parts_at c.args.base.now.datas c.args.types.now c.requires.ports.0 c.loop-t.t-index t c.loop-t-test.true c.t-item.is c.requires.ports.1);
    }

pub loop-t-preserved : goal.loop-t-preserved
loop-t-preserved c =
    let same = c.loop-t.invariant.1 in
    let t = c.t-item.result in
    let n = c.in_ok-wires_of_port.field-0 in (
      counts_grown c.args.base.now.datas c.args.types.now c.loop-t.t-index n t c.loop-t.counts.items c.push.new.self.items
          c.loop-t-test.true c.t-item.is (subst (λ (g : Ground). AreCounts g.datas (t ∷ []) (n ∷ [])) same c.in_ok-wires_of_port.ensures.count)
          c.in_ok-push.ensures.items c.loop-t.invariant.0,
      c.wires_of_port.ensures.same ∙ same,
    )

pub returns-clause-counts : goal.returns-clause-counts
returns-clause-counts c =
    counts_whole c.args.base.now.datas c.args.types.now c.loop-t.t-index c.loop-t.counts.items (omega (arith, c.loop-t-test.false)) c.loop-t.invariant.0
