use Rattle.std.proofs.Common.{◌∙◌}
use Rattle.std.proofs.lemmas.Result.{on_ok_weaker}
use Rattle.net_built.specs.Vectors.{element_at}
use Rattle.net_built.specs.Wires.{◌▸◌}
use Rattle.value_build.specs.Added.{next}
use Rattle.value_build.specs.InScope.{in_scope}
use Rattle.value_build.proofs.Heads.{element_at_added}
use Rattle.value_build.proofs.sides.element_at.Goals as goal

pub returns : goal.returns
returns c =
    let s = c.args.into.now in
    on_ok_weaker c.element_at.result
    (λ is ground. element_at_added ground (in_scope c.args.scope.now) c.args.w c.args.args.now s c.element_at.new.into c.requires
    (is ∙ (λ i. s ▸ element_at c.args.w (c.number_at-n.ensures i) (c.number_at-k.ensures i) (next s) (c.operand_at-v.ensures i) (c.operand_at-i.ensures i))))
    c.element_at.ensures
