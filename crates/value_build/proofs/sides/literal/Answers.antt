use Rattle.std.proofs.Common.{◌∙◌}
use Rattle.std.proofs.lemmas.Result.{on_ok_weaker}
use Rattle.netlist.specs.declared.net.Cell.TheVariants.{Const}
use Rattle.net_built.specs.Wires.{wire, one, ◌▸◌}
use Rattle.value_build.specs.Added.{next}
use Rattle.value_build.proofs.sides.literal.Goals as goal

pub returns : goal.returns
returns c =
    let s = c.args.into.now in
    on_ok_weaker c.constant.result (λ is. is ∙ (λ i. s ▸ one c.args.w (Const (wire (next s)) (c.in_ok-bits.ensures i)))) c.constant.ensures
