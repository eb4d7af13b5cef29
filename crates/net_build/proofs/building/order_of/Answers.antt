use Rattle.std.proofs.Common.{◌∙◌, ap, sym, subst, length, List, Bool}
use Rattle.std.proofs.lemmas.Result.{IfOk-weaker}
use Rattle.chw_types.specs.declared.declarations.Data.{Data}
use Rattle.net_built.specs.Modules.{IsOrderOfModules}
use Rattle.net_build.specs.Outputs.{AreOutputMarks}
use Rattle.net_build.proofs.OutputMarks.{marks_many}
use Rattle.net_build.proofs.building.order_of.Goals as goal

pub order_of_modules-requires-clause-marks : goal.order_of_modules-requires-clause-marks
order_of_modules-requires-clause-marks c =
    ap length c.deref.ensures.value ∙ marks_many c.args.base.now.datas c.args.made.now c.in_ok-has.has.items c.in_ok-has.ensures.marks

pub returns-clause-order : goal.returns-clause-order
returns-clause-order c =
    let datas = c.args.base.now.datas in
    let made = c.args.made.now in
    let has = c.deref.result.now in
    let marks : AreOutputMarks datas made has = subst (λ (bs : List Bool). AreOutputMarks datas made bs) (sym c.deref.ensures.value) c.in_ok-has.ensures.marks in
    IfOk-weaker c.order_of_modules.result
    (λ order. (ds : List Data) → AreOutputMarks ds made has → IsOrderOfModules ds made order.items)
    (λ order. IsOrderOfModules datas made order.items)
    (λ order so. so datas marks)
    c.order_of_modules.ensures.order
