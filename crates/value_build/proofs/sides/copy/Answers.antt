use Rattle.std.proofs.Common.{◌∙◌, ◌∷◌, []}
use Rattle.std.proofs.lemmas.Result.{on_ok_weaker}
use Rattle.chw_terms.specs.TermTree.{var}
use Rattle.net_built.specs.Bodies.{ValueCells, value_variable}
use Rattle.net_built.specs.Terms.{wires_at}
use Rattle.net_built.specs.Wires.{copies, ◌▸◌}
use Rattle.value_build.specs.Added.{next}
use Rattle.value_build.specs.InScope.{in_scope}
use Rattle.value_build.proofs.Behind.{adds_one}
use Rattle.value_build.proofs.sides.copy.Goals as goal

pub returns : goal.returns
returns c =
    let s = c.args.into.now in
    let scope = in_scope c.args.scope.now in
    let w = c.args.w in
    let x = c.args.x.number in
    on_ok_weaker c.copies.result
    (λ is ground. adds_one (ValueCells ground scope (next s) w (var x) [] []) s c.copies.new.into (copies (next s) (wires_at scope x) (w ∷ []))
    (is ∙ (λ i. s ▸ copies (next s) (c.wires_at.ensures i) (w ∷ []))) value_variable)
    c.copies.ensures
