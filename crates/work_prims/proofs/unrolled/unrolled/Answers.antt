use Rattle.std.proofs.Common.{◌≡◌, ◌∙◌, sym, ap, subst, List, MatchOption}
use Rattle.std.proofs.lemmas.Result.{IfOk-weaker}
use Rattle.chw_terms.specs.TermTree.{TermTree}
use Rattle.chw_terms.specs.Unrolled.{CanUnroll, body_of}
use Rattle.rewriting.specs.Origins.{origins_of}
use Rattle.rewriting.specs.Spots.{spot_of}
use Rattle.work_prims.specs.Given.{types_in, as_args}
use Rattle.work_prims.specs.Unnamed.{IsWrittenOut}
use Rattle.work_prims.proofs.Taking.{wrong}
use Rattle.work_prims.proofs.WrittenOut.{unroll_answer, formless_answer, named_answer}
use Rattle.work_prims.proofs.unrolled.unrolled.Goals as goal

pub returns-then-not-has_form : goal.returns-then-not-has_form
returns-then-not-has_form c =
    formless_answer (origins_of c.args.scene.now) (spot_of c.args.place.now) c.args.p c.args.args.now
    (λ types. ap (λ row. body_of row types) (sym c.of.ensures) ∙ c.has_form.ensures c.if-not-has_form.true types)

pub returns-then-not-branch : goal.returns-then-not-branch
returns-then-not-branch c =
    named_answer (origins_of c.args.scene.now) (spot_of c.args.place.now) c.args.p c.args.args.now c.in_ok-types.rest.now
    (λ f. wrong (sym c.if-not-branch.true ∙ c.in_ok-may_unroll.ensures.1 f)) (sym c.in_ok-types.ensures.1)

pub returns : goal.returns
returns c =
    let p = c.args.p in
    let args = c.args.args.now in
    let rest = c.in_ok-types.rest.now in
    let types : c.deref.result.now ≡ types_in args = c.deref.ensures.value ∙ c.in_ok-types.ensures.0 in
    IfOk-weaker c.on_args.result _ _
    (λ r h. unroll_answer (origins_of c.args.scene.now) (spot_of c.args.place.now) p args rest r (c.in_ok-may_unroll.ensures.0 c.if-not-branch.false) (sym c.in_ok-types.ensures.1)
    (subst (λ ts. MatchOption r ((es : List TermTree) → rest ≡ as_args es → CanUnroll p ts es → ⊥) (λ e. IsWrittenOut p ts rest e)) types h))
    c.on_args.ensures
