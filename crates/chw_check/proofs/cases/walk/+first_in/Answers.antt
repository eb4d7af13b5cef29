use Rattle.chw_terms.specs.TermView.{tree_of}
use Rattle.chw_check.proofs.CaseItems.{told_next}
use Rattle.chw_check.proofs.CaseLists.{elements, bindings, alternatives}
use Rattle.chw_check.proofs.CaseSpines.{found_none, head_found, arg_found, none_found}
use Rattle.chw_check.proofs.cases.walk.+first_in.Goals as goal

pub first_in-returns-in-Some : goal.first_in-returns-in-Some
first_in-returns-in-Some t c =
    head_found c.args.constructors.now c.args.sought (tree_of c.t.inside.head) c.args.t.now c.t.inside.args.items c.in_ok-lacks.field-0 c.in-Some.lacks c.t.view_is c.in-Some.is c.in_ok-lacks.ensures

pub first_in-returns-in-Some-2 : goal.first_in-returns-in-Some-2
first_in-returns-in-Some-2 t c =
    arg_found c.args.constructors.now c.args.sought (tree_of c.t.inside.head) c.args.t.now c.t.inside.args.items c.deref-arg-items.result.now c.loop-arg.arg-index c.arg-item.result _ c.in_ok-lacks.field-0 c.in_ok-lacks-2.field-0 c.in-Some-2.lacks
    c.t.view_is c.deref-arg-items.ensures.value c.in_default.is c.in_ok-lacks.ensures c.loop-arg-test.true c.arg-item.is c.loop-arg.invariant c.in-Some-2.is c.in_ok-lacks-2.ensures

pub first_in-returns : goal.first_in-returns
first_in-returns t c =
    none_found c.args.constructors.now c.args.sought (tree_of c.t.inside.head) c.args.t.now c.t.inside.args.items c.deref-arg-items.result.now c.loop-arg.arg-index c.in_ok-lacks.field-0
    c.t.view_is c.deref-arg-items.ensures.value c.in_default.is c.in_ok-lacks.ensures c.loop-arg-test.false c.loop-arg.invariant

pub first_in_head-loop-binding-preserved : goal.first_in_head-loop-binding-preserved
first_in_head-loop-binding-preserved t c =
    let datas = c.args.constructors.now in
    let b = c.binding-item.result in
    told_next (bindings datas c.args.sought) c.deref-binding-items.result.now c.loop-binding.binding-index b _ c.loop-binding-test.true c.binding-item.is c.loop-binding.invariant
    (found_none datas c.args.sought b.body c.in_ok-lacks-in-LetRec.field-0 c.in_default.is c.in_ok-lacks-in-LetRec.ensures)

pub first_in_head-loop-element-preserved : goal.first_in_head-loop-element-preserved
first_in_head-loop-element-preserved t c =
    let datas = c.args.constructors.now in
    let e = c.element-item.result in
    told_next (elements datas c.args.sought) c.deref-element-items.result.now c.loop-element.element-index e _ c.loop-element-test.true c.element-item.is c.loop-element.invariant
    (found_none datas c.args.sought e c.in_ok-lacks-in-VecLit.field-0 c.in_default-2.is c.in_ok-lacks-in-VecLit.ensures)

pub first_in_head-loop-alternative-preserved : goal.first_in_head-loop-alternative-preserved
first_in_head-loop-alternative-preserved t c =
    let datas = c.args.constructors.now in
    let a = c.alternative-item.result in
    told_next (alternatives datas c.args.sought) c.deref-alternative-items.result.now c.loop-alternative.alternative-index a _ c.loop-alternative-test.true c.alternative-item.is c.loop-alternative.invariant
    (found_none datas c.args.sought a.body c.in_ok-lacks-in-Case-3.field-0 c.in_default-5.is c.in_ok-lacks-in-Case-3.ensures)
