use Rattle.std.proofs.Common.{◌∙◌, ◌++◌, ap}
use Rattle.std.proofs.lemmas.Result.{IfOk-weaker}
use Rattle.chw_terms.specs.FreeVariables.{occurrences}
use Rattle.free_variables.specs.Gathered.{numbers_of}
use Rattle.letrec_runs.proofs.Occurring.{keeps_by}
use Rattle.letrec_runs.proofs.keeping.keeps.Goals as goal

pub returns : goal.returns
returns c =
    let old = c.args.old.now in
    let new = c.args.new.now in
    IfOk-weaker c.are_among.result _ _
    (λ yes among t. keeps_by old new c.as_slice.result.now c.as_slice-2.result.now
    (ap numbers_of c.as_slice.ensures.value ∙ c.in_ok-occurring_in.ensures ∙ ap (λ vs. numbers_of vs ++ occurrences old) c.new-before.ensures.items)
    (ap numbers_of c.as_slice-2.ensures.value ∙ c.in_ok-occurring_in-2.ensures ∙ ap (λ vs. numbers_of vs ++ occurrences new) c.new-after.ensures.items)
    (among t))
    c.are_among.ensures
