use Rattle.std.proofs.Common.{[], ◌∷◌, ◌++◌, take, sym, subst, ap, refl, ◌∙◌}
use Rattle.std.proofs.lemmas.List.{take_more}
use Rattle.answers.specs.SimAnswer.Types.{AddsTypes}
use Rattle.answers.proofs.SimAnswer.Parameters.{adds_more, adds_none}
use Rattle.answers.proofs.sim_answer.inputs.put_types.Goals as goal

pub loop-leaf-init : goal.loop-leaf-init
loop-leaf-init c = record { same = refl; adds = adds_none c.args.types.now.items c.args.types.now.items refl }

pub loop-leaf-preserved : goal.loop-leaf-preserved
loop-leaf-preserved c =
    let l = c.loop-leaf in
    let leaves = c.args.leaves.now in
    let one = take_more leaves l.leaf-index c.leaf-item.result c.loop-leaf-test.true
    ∙ ap (λ leaf. take l.leaf-index leaves ++ leaf ∷ []) (sym c.leaf-item.is) in
    let same = l.invariant.same in
    let leaf = c.leaf-item.result in
    let old = l.types.items in
    let new = c.put_type.new.types.items in
    record {
      same = c.put_type.ensures.same ∙ same;
      adds = adds_more leaves l.leaf-index leaf c.args.types.now.items old new one l.invariant.adds
          (subst (λ ds. AddsTypes ds (leaf ∷ []) old new) same c.in_ok-put_type.ensures.put);
    }
