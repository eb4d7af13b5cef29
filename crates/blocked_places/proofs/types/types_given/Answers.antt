use Rattle.std.proofs.Common.{◌≡◌, ◌∙◌, ◌++◌, ◌∷◌, [], length, sym, ap, subst, arith, slice_get, Some}
use Rattle.chw_types.specs.TypeTree.{for_all}
use Rattle.chw_types.specs.TypeView.{tree_of}
use Rattle.chw_terms.specs.declared.term.Arg.TheVariants.{OfType}
use Rattle.normal_forms.specs.Blocked.{types_asked}
use Rattle.blocked_places.proofs.Given.{AreGivenSoFar, given_at_start, given_next, given_in_all, none_given, asks_none}
use Rattle.blocked_places.proofs.types.types_given.Goals as goal

pub loop-rest-init : goal.loop-rest-init
loop-rest-init c =
    let schema = c.args.schema.now in
    let args = c.args.args.now in
    subst (AreGivenSoFar schema schema args) (sym c.new-types.ensures.items) (given_at_start schema args)

pub loop-rest-preserved : goal.loop-rest-preserved
loop-rest-preserved c =
    let schema = c.args.schema.now in
    let args = c.args.args.now in
    let rest = c.loop-rest.rest.now in
    let types = c.loop-rest.types.items in
    let k = c.in-Forall.field-0 in
    let to = c.in-Forall.to.value in
    let t = c.in-Some.ty.now in
    let form : rest ≡ for_all k to = sym c.rest.view_is ∙ ap tree_of c.in-Forall.is in
    let count : c.len.result ≡ length types = omega (arith, c.len.ensures, c.loop-rest.types.ok.0) in
    let at = subst (λ i. slice_get args i ≡ Some (OfType t)) count c.in-Some.ensures in
    let new : c.push.new.self.items ≡ types ++ t ∷ [] = c.in_ok-push.ensures.items ∙ ap (λ u. types ++ u ∷ []) c.in_ok-copy.ensures in
    subst (λ r. AreGivenSoFar schema r args c.push.new.self.items) (sym c.deref-rest.ensures)
    (subst (AreGivenSoFar schema to args) (sym new) (given_next schema rest to k args types t form c.loop-rest.invariant at))

pub returns-in_default-type_at : goal.returns-in_default-type_at
returns-in_default-type_at c others g =
    let schema = c.args.schema.now in
    let args = c.args.args.now in
    let rest = c.loop-rest.rest.now in
    let types = c.loop-rest.types.items in
    let k = c.in-Forall.field-0 in
    let to = c.in-Forall.to.value in
    let form : rest ≡ for_all k to = sym c.rest.view_is ∙ ap tree_of c.in-Forall.is in
    let count : length types ≡ c.len.result = omega (arith, c.len.ensures, c.loop-rest.types.ok.0) in
    none_given schema rest to k args types form c.loop-rest.invariant
    (λ t at. c.in_default-type_at.ensures t (subst (λ i. slice_get args i ≡ Some (OfType t)) count at)) others g

pub returns : goal.returns
returns c =
    let none = ap types_asked (sym c.rest.view_is) ∙ asks_none c.rest.inside.node c.in_default.not-Forall in
    given_in_all c.args.schema.now c.loop-rest.rest.now c.args.args.now c.loop-rest.types.items none c.loop-rest.invariant
