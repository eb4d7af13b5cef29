use Rattle.std.proofs.Common.{◌∙◌, ◌++◌, ap}
use Rattle.std.proofs.lemmas.Result.{on_ok_weaker}
use Rattle.chw_terms.specs.FreeVariables.{occurrences}
use Rattle.free_variables.specs.Gathered.{numbers_of}
use Rattle.letrec_runs.proofs.Reached.{looked_at}
use Rattle.letrec_runs.proofs.reaching.look_at.Goals as goal

pub returns : goal.returns
returns c =
    let term = c.args.term.now in
    on_ok_weaker c.note_all.result
    (λ k. looked_at term c.as_slice.result.now c.args.search.now c.note_all.new.search
    (ap numbers_of c.as_slice.ensures.value ∙ c.in_ok-occurring_in.ensures ∙ ap (λ vs. numbers_of vs ++ occurrences term) c.new-found.ensures.items) k)
    c.note_all.ensures
