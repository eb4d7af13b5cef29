use Rattle.std.proofs.Common.{◌<◌, IfSome, [], length, sym, subst}
use Rattle.std.specs.Option.{option_map}
use Rattle.chw_typing.specs.Finding.{Finds}
use Rattle.rewriting.specs.Origins.{origins_of, setting_at}
use Rattle.rewriting.specs.Spots.{spot_of}
use Rattle.rewriting.specs.Shapes.{leading_lambdas}
use Rattle.work_names.specs.Functions.{AnswersParameters, IsOfValues}
use Rattle.work_names.proofs.Lacking.{no_params, params_are, lacks_other, lacks_no_lambda, lacks_some}
use Rattle.work_names.proofs.eta.parameters_without_lambdas.Goals as goal

pub returns-in_default-2 : goal.returns-in_default-2
returns-in_default-2 c =
    let o = origins_of c.args.scene.now in
    let at = spot_of c.args.place.now in
    let g = c.args.function.now in
    let t = c.in-Some.ty in
    let r = c.in_ok-params.field-0 in
    let found : Finds (setting_at o) [] at.vars g t = subst (λ r. IfSome r (λ t. Finds (setting_at o) [] at.vars g t)) c.in-Some.is c.in_ok-ty.ensures.some in
    let answer : AnswersParameters o.program.datas t (option_map (λ ts. ts.items) r) = subst (λ datas. AnswersParameters datas t (option_map (λ ts. ts.items) r)) c.as_slice-datas.ensures c.in_ok-params.ensures in
    lacks_other o at g t c.one_found.ensures found (no_params (λ ts. ts.items) o.program.datas t r c.in_default-2.not-Some answer)

pub returns-then-lacks_lambdas : goal.returns-then-lacks_lambdas
returns-then-lacks_lambdas c =
    let o = origins_of c.args.scene.now in
    let at = spot_of c.args.place.now in
    let g = c.args.function.now in
    let t = c.in-Some.ty in
    let r = c.in_ok-params.field-0 in
    let ps = c.in-Some-2.params in
    let found : Finds (setting_at o) [] at.vars g t = subst (λ r. IfSome r (λ t. Finds (setting_at o) [] at.vars g t)) c.in-Some.is c.in_ok-ty.ensures.some in
    let answer : AnswersParameters o.program.datas t (option_map (λ ts. ts.items) r) = subst (λ datas. AnswersParameters datas t (option_map (λ ts. ts.items) r)) c.as_slice-datas.ensures c.in_ok-params.ensures in
    let values : IsOfValues o.program.datas t ps.items = params_are (λ ts. ts.items) o.program.datas t r ps c.in-Some-2.is answer in
    let less : leading_lambdas g < length ps.items = subst (λ ts. leading_lambdas g < length ts) c.as_slice.ensures.value (c.lacks_lambdas.ensures.0 c.if-lacks_lambdas.true) in
    lacks_some o at g t ps.items (c.in_ok-is_closed.ensures.0 c.if-not-branch.false)
    (λ m. let yes = c.is_made.ensures.1 m in let no = c.if-is_made.false in absurd cc) found values less

pub returns : goal.returns
returns c =
    let o = origins_of c.args.scene.now in
    let at = spot_of c.args.place.now in
    let g = c.args.function.now in
    let t = c.in-Some.ty in
    let r = c.in_ok-params.field-0 in
    let ps = c.in-Some-2.params in
    let found : Finds (setting_at o) [] at.vars g t = subst (λ r. IfSome r (λ t. Finds (setting_at o) [] at.vars g t)) c.in-Some.is c.in_ok-ty.ensures.some in
    let answer : AnswersParameters o.program.datas t (option_map (λ ts. ts.items) r) = subst (λ datas. AnswersParameters datas t (option_map (λ ts. ts.items) r)) c.as_slice-datas.ensures c.in_ok-params.ensures in
    let values : IsOfValues o.program.datas t ps.items = params_are (λ ts. ts.items) o.program.datas t r ps c.in-Some-2.is answer in
    lacks_no_lambda o at g t ps.items c.one_found.ensures found values
    (λ less. let yes = c.lacks_lambdas.ensures.1 (subst (λ ts. leading_lambdas g < length ts) (sym c.as_slice.ensures.value) less) in let no = c.if-lacks_lambdas.false in absurd cc)
