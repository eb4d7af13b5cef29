use Rattle.std.proofs.Common.{◌≡◌, ◌∙◌, sym, ap, subst, map, IfOk}
use Rattle.chw_types.specs.Arguments.{arguments}
use Rattle.chw_types.specs.TypeMoves.{sub}
use Rattle.chw_types.specs.TypeView.{tree_of, trees_of}
use Rattle.chw_terms.specs.declared.term.Pattern.TheVariants.{OfCon}
use Rattle.chw_typing.specs.HeadTypes.{PatternOf}
use Rattle.active_parts.specs.Below.{HasFields}
use Rattle.active_parts.proofs.Fields.{constructor_pattern}
use Rattle.active_parts.proofs.Options.{ok_more}
use Rattle.active_parts.proofs.cases.field_types.Goals as goal

pub returns-in-DataOf : goal.returns-in-DataOf
returns-in-DataOf c =
    let datas = c.args.signature.now.constructors in
    let u = c.args.of.now in
    let at = c.in-OfCon.at in
    let n = c.in-OfCon.field-1 in
    let con = c.in-Some.con in
    let args = c.in-DataOf.args in
    let has : HasFields datas u (OfCon at n) = subst (HasFields datas u) c.in-OfCon.is c.requires in
    let is = sym (ap tree_of (sym c.in-DataOf.is) ∙ c.of.view_is) in
    let fields = c.as_slice.ensures in
    let types = c.deref.ensures.value in
    let made : map (λ f. sub f (arguments (trees_of c.deref.result.now))) c.as_slice.result.now ≡ map (λ f. sub f (arguments (trees_of args.items))) con.decl.now.fields =
    λ i. map (λ f. sub f (arguments (trees_of (types i)))) (fields i) in
    subst (λ q. IfOk c.fields_at.result (λ r. PatternOf datas u q r.items)) (sym c.in-OfCon.is)
    (ok_more c.fields_at.result _ _
    (λ r h. constructor_pattern datas u at n con c.in-DataOf.field-0.number (trees_of args.items) r.items has c.in-Some.ensures is (h ∙ made))
    c.fields_at.ensures)
