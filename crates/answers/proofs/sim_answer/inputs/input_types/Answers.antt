use Rattle.std.proofs.Common.{◌≡◌, ◌∙◌, Some, length, refl, sym, subst}
use Rattle.std.specs.List.{slice_get}
use Rattle.std.proofs.lemmas.Bool.{ltb-true}
use Rattle.std.proofs.lemmas.Option.{slice_get_read}
use Rattle.std.proofs.lemmas.Result.{IfOk-weaker}
use Rattle.answers.specs.SimAnswer.Types.{AreInputs, AreParameters, LeadsFromMeasured}
use Rattle.answers.proofs.SimAnswer.Parameters.{are_inputs, top_measured}
use Rattle.answers.proofs.sim_answer.inputs.input_types.Goals as goal

pub parameters-types-requires : goal.parameters-types-requires
parameters-types-requires c =
    let p = c.args.program.now in
    let it = c.in-Some.it.now in
    let defs = c.as_slice.result.now in
    let n = p.top.«def».number in
    let read : slice_get p.defs n ≡ Some it =
    subst (λ ds. slice_get ds n ≡ Some it) c.as_slice.ensures
    (slice_get_read defs (length defs) n it refl (ltb-true _ _ (sym c.in-Some.ensures.lookup.0)) c.in-Some.ensures.lookup.1) in
    record {
      leads = subst (λ ds. LeadsFromMeasured ds it.ty) (sym (c.of-widths.ensures ∙ c.as_slice-2.ensures)) (top_measured it c.requires.ports.1 read);
    }

pub returns : goal.returns
returns c =
    let p = c.args.program.now in
    let it = c.in-Some.it.now in
    let defs = c.as_slice.result.now in
    let n = p.top.«def».number in
    let read : slice_get p.defs n ≡ Some it =
    subst (λ ds. slice_get ds n ≡ Some it) c.as_slice.ensures
    (slice_get_read defs (length defs) n it refl (ltb-true _ _ (sym c.in-Some.ensures.lookup.0)) c.in-Some.ensures.lookup.1) in
    IfOk-weaker c.parameters-types.result (λ types. AreParameters c.of-widths.result it.ty types.items) (λ types. AreInputs p types.items)
    (λ types a. are_inputs it types.items read
    (subst (λ ds. AreParameters ds it.ty types.items) (c.of-widths.ensures ∙ c.as_slice-2.ensures) a)) c.parameters-types.ensures
