use Rattle.std.proofs.Common.{◌≡◌, ◌∙◌, [], ap, sym}
use Rattle.std.proofs.lemmas.Result.{on_ok_weaker}
use Rattle.chw_terms.specs.TermTree.{vec_lit}
use Rattle.chw_terms.specs.TermView.{terms_of}
use Rattle.netlist.specs.declared.net.Cell.TheVariants.{Join}
use Rattle.net_built.specs.Bodies.{ValueCells, value_vector}
use Rattle.net_built.specs.Terms.{list_of, wires_of_all}
use Rattle.net_built.specs.Wires.{wire, one, ◌▸◌}
use Rattle.value_build.specs.Added.{next}
use Rattle.value_build.specs.InScope.{in_scope}
use Rattle.value_build.proofs.Behind.{adds_one}
use Rattle.value_build.proofs.Operands.{list_back}
use Rattle.value_build.proofs.sides.vector.Goals as goal

pub returns : goal.returns
returns c =
    let s = c.args.into.now in
    let scope = in_scope c.args.scope.now in
    let es = c.args.elements.now in
    let wires : c.from.result ≡ wires_of_all scope (list_of (terms_of es)) =
    c.from.ensures ∙ c.in_ok-wires.ensures ∙ ap (wires_of_all scope) (sym (list_back es)) in
    on_ok_weaker c.one.result
    (λ is ground t. adds_one (ValueCells ground scope (next s) c.args.w (vec_lit t (terms_of es)) [] []) s c.one.new.self
    (one c.args.w (Join (wire (next s)) (wires_of_all scope (list_of (terms_of es)))))
    (is ∙ (λ i. s ▸ one c.args.w (Join (c.next_wire-wire.ensures i) (wires i)))) value_vector)
    c.one.ensures
