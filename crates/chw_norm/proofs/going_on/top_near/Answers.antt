use Rattle.std.proofs.Common.{◌≡◌, ◌∙◌, ap, IfSome, length, refl, subst, sym, Some}
use Rattle.std.specs.List.{slice_get}
use Rattle.std.proofs.lemmas.Bool.{ltb-true}
use Rattle.std.proofs.lemmas.Option.{slice_get_read}
use Rattle.rewriting.specs.Origins.{setting_at}
use Rattle.rewriting.specs.Steps.{origins_in}
use Rattle.chw_norm.specs.GoingOn.{IsTopOf}
use Rattle.chw_norm.proofs.RanOn.{at_top, leads_there, TopTypes}
use Rattle.chw_norm.proofs.going_on.top_near.Goals as goal

pub top_of-requires : goal.top_of-requires
top_of-requires c =
    let r = c.args.run.now in
    let n = c.args.finder.now.made.number in
    let types : TopTypes = record {
      top = c.places_below_tops.ensures.typed;
      states = c.steps_keep.ensures.origins;
    } in
    let there = c.in-Some.ensures.lookup in
    let listed = c.list.result.now in
    let is : slice_get r.made n ≡ Some c.in-Some.it.now =
    ap (λ ms. slice_get ms n) (sym c.list.ensures)
    ∙ slice_get_read listed (length listed) n c.in-Some.it.now refl (ltb-true _ _ (sym there.0)) there.1 in
    record {
      typed = (
        setting_at (origins_in r.program.now r.made),
        leads_there types r.program.now r.made n c.in-Some.it.now c.requires.between.typed is,
      );
    }

pub returns : goal.returns
returns c =
    let r = c.args.run.now in
    let n = c.args.finder.now.made.number in
    let types : TopTypes = record {
      top = c.places_below_tops.ensures.typed;
      states = c.steps_keep.ensures.origins;
    } in
    let there = c.in-Some.ensures.lookup in
    let listed = c.list.result.now in
    let is : slice_get r.made n ≡ Some c.in-Some.it.now =
    ap (λ ms. slice_get ms n) (sym c.list.ensures)
    ∙ slice_get_read listed (length listed) n c.in-Some.it.now refl (ltb-true _ _ (sym there.0)) there.1 in
    at_top types c.searches_from_tops.ensures.before r c.args.finder.now c.in-Some.it.now
    c.in-Some-2.top.place c.in-Some-2.top.path.items c.requires.between c.requires.suits is
    (subst (λ o. IfSome o (λ t. IsTopOf c.in-Some.it.now t.place t.path.items)) c.in-Some-2.is
    c.in_ok-top.ensures)
