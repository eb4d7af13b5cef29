use Rattle.std.proofs.Common.{◌≡◌, ◌∙◌, ap, subst, nat_eq, arith, Contains}
use Rattle.std.proofs.lemmas.List.{take_all}
use Rattle.chw_terms.specs.FreeVariables.{firsts}
use Rattle.indexmap.specs.IndexSet.{insert_all}
use Rattle.free_variables.specs.Gathered.{numbers_of}
use Rattle.free_variables.proofs.FreeParts.{set_next, set_of_firsts}
use Rattle.letrec_runs.proofs.Occurring.{in_firsts}
use Rattle.letrec_runs.proofs.keeping.are_among_by.Goals as goal

pub loop-variable-preserved : goal.loop-variable-preserved
loop-variable-preserved c =
    set_next c.args.those.now c.args.set.now.keys c.loop-variable.set.keys c.insert.new.self.keys c.loop-variable.variable-index _
    c.loop-variable-test.true c.loop-variable.invariant c.in_ok-insert.ensures.keys

pub returns : goal.returns
returns c = λ yes x m.
    let those = numbers_of c.args.those.now in
    let all : c.loop-variable.set.keys ≡ firsts those =
    c.loop-variable.invariant
    ∙ ap (λ vs. insert_all nat_eq c.args.set.now.keys (numbers_of vs)) (take_all c.loop-variable.variable-index c.args.those.now (omega (arith, c.loop-variable-test.false)))
    ∙ set_of_firsts those c.args.set.now.keys c.requires in
    in_firsts those x (subst (λ ks. Contains ks x) all (c.are_in.ensures yes x m))
