use Rattle.std.proofs.Common.{◌≡◌, ◌-◌}
use Rattle.std.proofs.lemmas.Result.{IfOk-weaker}
use Rattle.chw_types.specs.TypeTree.{TypeTree}
use Rattle.chw_terms.specs.declared.scene.Sort.TheVariants.{Circuit}
use Rattle.net_built.specs.Bodies.{SideBuilt}
use Rattle.net_built.specs.Data.{HasParts}
use Rattle.net_built.specs.Wires.{wire_count, wires_from}
use Rattle.value_build.specs.Added.{Adds, next}
use Rattle.value_build.specs.InScope.{in_scope}
use Rattle.circuit_build.proofs.CircuitSides.{side_made}
use Rattle.circuit_build.proofs.circuits.side_of.Goals as goal

pub returns-clause-built : goal.returns-clause-built
returns-clause-built c =
    let ground = c.args.base.now in
    let scope = in_scope c.args.scope.now in
    let s = c.args.into.now in
    let u = c.circuit_cells.new.into in
    let widths = c.args.widths.now in
    IfOk-weaker c.last_wires.result (λ ws. ws ≡ wires_from (next u - wire_count widths) (wire_count widths))
    (λ ws. (t : TypeTree) → HasParts ground.datas Circuit t widths → Adds (λ p. SideBuilt ground Circuit scope (next s) t c.args.e.now p ws) s u)
    (λ ws is t parts. side_made ground scope t c.args.e.now widths ws s u parts is c.in_ok-circuit_cells.ensures.cells)
    c.last_wires.ensures
