use Rattle.std.proofs.Common.{◌≡◌, ◌∙◌, sym, ap, subst, map, IfOk}
use Rattle.chw_terms.specs.TermMoves.{shift}
use Rattle.chw_terms.specs.Unrolled.{named}
use Rattle.rewriting.specs.Shapes.{or_body, with_fields}
use Rattle.flow_cases.specs.Given.{types_in, terms_in}
use Rattle.flow_cases.specs.Moves.{fields_put}
use Rattle.flow_cases.proofs.constructors.with_fields.Goals as goal

pub returns-in-OfCon : goal.returns-in-OfCon
returns-in-OfCon c count =
    let args = c.args.args.now in
    let alt = c.args.alt.now in
    let ts = fields_put c.args.fields.now (types_in args) in
    let es = terms_in args in
    let group =
    c.in_ok-group.ensures ∙ ap (λ n. named ts (map (λ e. shift e 0 n) es)) (sym count) in
    subst (λ y. IfOk c.or_body.result (λ e. e ≡ y))
    ((λ i. or_body (group i) (c.in_ok-body.ensures i))
    ∙ ap (λ q. with_fields q ts es alt.body) (sym c.in-OfCon.is))
    c.or_body.ensures
