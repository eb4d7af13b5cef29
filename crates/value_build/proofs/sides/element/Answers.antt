use Rattle.std.proofs.Common.{◌∙◌}
use Rattle.std.proofs.lemmas.Result.{on_ok_weaker}
use Rattle.net_built.specs.Vectors.{element}
use Rattle.net_built.specs.Wires.{◌▸◌}
use Rattle.value_build.specs.Added.{next}
use Rattle.value_build.specs.InScope.{in_scope}
use Rattle.value_build.proofs.Heads.{element_added}
use Rattle.value_build.proofs.sides.element.Goals as goal

pub returns : goal.returns
returns c =
    let s = c.args.into.now in
    on_ok_weaker c.element.result
    (λ is ground. element_added ground (in_scope c.args.scope.now) c.args.w c.args.args.now s c.element.new.into c.requires
    (is ∙ (λ i. s ▸ element c.args.w (c.number_at-behind.ensures i) (next s) (c.operand_at.ensures i))))
    c.element.ensures
