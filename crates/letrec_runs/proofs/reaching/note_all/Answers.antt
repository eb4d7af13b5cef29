use Rattle.letrec_runs.proofs.Reached.{contains_number}
use Rattle.letrec_runs.proofs.reaching.note_all.Goals as goal

pub loop-variable-preserved : goal.loop-variable-preserved
loop-variable-preserved c = λ g e r s.
    c.in_ok-note.ensures g e
    (r _ (contains_number c.args.found.now c.loop-variable.variable-index _ c.loop-variable-test.true))
    (c.loop-variable.invariant g e r s)
