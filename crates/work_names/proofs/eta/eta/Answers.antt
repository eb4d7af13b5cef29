use Rattle.std.proofs.Common.{◌∙◌, ap}
use Rattle.chw_prims.specs.declared.prim.Primitive.TheVariants.{Fmap}
use Rattle.chw_terms.specs.TermTree.{TermTree, prim}
use Rattle.chw_terms.specs.TermView.{applied}
use Rattle.rewriting.specs.Origins.{origins_of}
use Rattle.rewriting.specs.Spots.{spot_of}
use Rattle.rewriting.specs.Shapes.{fmap_of}
use Rattle.work_names.specs.Functions.{LacksLambdas}
use Rattle.work_names.proofs.Lacking.{none_lack, lambdas_lack}
use Rattle.work_names.proofs.Seen.{lambdas_made, no_circuit, no_lifted, no_lambda}
use Rattle.work_names.proofs.eta.eta.Goals as goal

pub returns-then-not-is_of_circuit : goal.returns-then-not-is_of_circuit
returns-then-not-is_of_circuit c = λ e' m.
    no_circuit (λ k. let yes = c.is_of_circuit.ensures.1 k in let no = c.if-not-is_of_circuit.true in absurd cc) m

pub returns-in_default : goal.returns-in_default
returns-in_default c = λ e' m. no_lifted c.args.args.now c.in_default.ensures m

pub returns-in_default-2 : goal.returns-in_default-2
returns-in_default-2 c = λ e' m.
    let o = origins_of c.args.scene.now in
    let at = spot_of c.args.place.now in
    let it = c.in-Some.at in
    no_lambda it.dom.now it.from.now it.to.now it.function.now it.signal.now (ap (applied (prim Fmap)) c.in-Some.ensures)
    (none_lack (λ ts. ts.items) o at it.function.now c.in_ok-params.field-0 c.in_default-2.not-Some c.in_ok-params.ensures) m

pub returns : goal.returns
returns c =
    let o = origins_of c.args.scene.now in
    let at = spot_of c.args.place.now in
    let it = c.in-Some.at in
    let params = c.in-Some-2.params in
    let lacks : LacksLambdas o at it.function.now params.items = lambdas_lack (λ ts. ts.items) o at it.function.now c.in_ok-params.field-0 params c.in-Some-2.is c.in_ok-params.ensures in
    lambdas_made o at it.dom.now it.from.now it.to.now it.function.now it.signal.now params.items (applied (prim Fmap) c.args.args.now) c.in_ok-lifting.field-0
    (c.is_of_circuit.ensures.0 c.if-not-is_of_circuit.false) (ap (applied (prim Fmap)) c.in-Some.ensures) lacks
    (c.in_ok-lifting.ensures ∙ ap (λ (f : TermTree). fmap_of it.dom.now it.from.now it.to.now f it.signal.now) c.in_ok-function.ensures)
