use Rattle.std.proofs.Common.{◌∙◌, sym}
use Rattle.letrec_runs.proofs.Occurring.{contained_more}
use Rattle.letrec_runs.proofs.keeping.are_in.Goals as goal

pub loop-variable-preserved : goal.loop-variable-preserved
loop-variable-preserved c =
    contained_more c.args.found.now c.loop-variable.variable-index _ c.args.set.now.keys c.loop-variable-test.true
    (sym c.contains.ensures ∙ c.if-not-contains.false) c.loop-variable.invariant
