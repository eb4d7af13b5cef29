use Rattle.std.proofs.Common.{◌≡◌, ◌∙◌, IfOk, ap, subst, nat_eq, arith}
use Rattle.std.proofs.lemmas.List.{take_all}
use Rattle.indexmap.specs.IndexSet.{insert_all}
use Rattle.free_variables.specs.Gathered.{numbers_of}
use Rattle.free_variables.proofs.FreeParts.{set_next, set_of_firsts}
use Rattle.free_variables.proofs.free.gathered_in.Goals as goal

pub loop-variable-preserved : goal.loop-variable-preserved
loop-variable-preserved c =
    set_next c.args.variables.now c.args.seen.now.keys c.loop-variable.seen.keys c.insert.new.self.keys c.loop-variable.variable-index _
    c.loop-variable-test.true c.loop-variable.invariant c.in_ok-insert.ensures.keys

pub returns : goal.returns
returns c =
    subst (λ xs. IfOk c.listed.result (λ vs. numbers_of vs.items ≡ xs))
    (c.as_slice.ensures.keys ∙ c.loop-variable.invariant
    ∙ ap (λ vs. insert_all nat_eq c.args.seen.now.keys (numbers_of vs)) (take_all c.loop-variable.variable-index c.args.variables.now (omega (arith, c.loop-variable-test.false)))
    ∙ set_of_firsts (numbers_of c.args.variables.now) c.args.seen.now.keys c.requires)
    c.listed.ensures
