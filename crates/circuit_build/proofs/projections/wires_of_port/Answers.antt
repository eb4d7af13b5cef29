use Rattle.std.proofs.Common.{◌≡◌, ◌∙◌, ◌∷◌, [], ap}
use Rattle.std.proofs.lemmas.Result.{IfOk-weaker}
use Rattle.net_built.specs.Wires.{wire_count}
use Rattle.circuit_build.specs.Projections.{AreCounts}
use Rattle.circuit_build.proofs.FieldWires.{one_count}
use Rattle.circuit_build.proofs.projections.wires_of_port.Goals as goal

pub returns-clause-count : goal.returns-clause-count
returns-clause-count c =
    let datas = c.args.base.now.datas in
    let t = c.args.t.now in
    IfOk-weaker c.count_wires.result (λ n. n ≡ wire_count c.deref.result.now) (λ n. AreCounts datas (t ∷ []) (n ∷ []))
    (λ n is. one_count datas t c.in_ok-widths.widths.items n c.in_ok-widths.ensures.parts (is ∙ ap wire_count c.deref.ensures.value))
    c.count_wires.ensures
