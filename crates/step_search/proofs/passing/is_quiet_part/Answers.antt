use Rattle.std.proofs.Common.{◌≡◌, ◌∙◌, [], length, refl, sym, ap, arith}
use Rattle.std.proofs.lemmas.Bool.{eqb-true, ltb-true}
use Rattle.std.proofs.lemmas.Option.{slice_get_read}
use Rattle.chw_terms.specs.TermTree.{letrec}
use Rattle.chw_terms.specs.TermView.{tree_of, applied, group_of}
use Rattle.trials.specs.Trials.{built}
use Rattle.step_search.proofs.Quiet.{quiet_is_passed, without_items}
use Rattle.step_search.proofs.passing.is_quiet_part.Goals as goal

pub returns : goal.returns
returns c is from =
    let args = c.at.inside.args.items in
    let n = c.args.number in
    let bs = c.deref.result.now in
    let e = c.in-LetRec.field-1.value in
    let b = c.in-Some.binding.now in
    let empty = eqb-true _ _ (sym c.is_empty.ensures ∙ c.if-not-is_empty.false) in
    let none : args ≡ [] = without_items args (omega (arith, empty, c.at.inside.args.ok.0)) in
    let whole : letrec (group_of bs) e ≡ c.args.at.now =
    ap (λ xs. letrec (group_of xs) e) c.deref.ensures.value ∙ ap tree_of (sym c.in-LetRec.is)
    ∙ ap (applied (tree_of c.at.inside.head)) (sym none) ∙ c.at.view_is in
    let there = c.in-Some.ensures.lookup in
    let item = slice_get_read bs (length bs) n b refl (ltb-true _ _ (sym there.0)) there.1 in
    quiet_is_passed c.quiet_sides_have_no_step.ensures.side built c.args.at.now bs e n b from whole item
    (c.is_quiet.ensures.0 is)
