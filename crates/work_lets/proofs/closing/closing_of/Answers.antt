use Rattle.std.proofs.Common.{◌∙◌, sym, ap, [], ◌∷◌, map, reverse}
use Rattle.std.proofs.lemmas.List.{map-append}
use Rattle.std.proofs.lemmas.Iterator.Adapters.{YieldsList-from_rev_slice}
use Rattle.std.proofs.lemmas.Iterator.Consumers.{YieldsList-end}
use Rattle.work_lets.proofs.Closed.{places_from, left_from, places_next, left_next, closes_up}
use Rattle.work_lets.proofs.closing.closing_of.Goals as goal

pub loop-mark-preserved : goal.loop-mark-preserved
loop-mark-preserved c =
    let now = c.loop-mark.closing in
    let seen = map (λ m. m.now) c.loop-mark.yielded in
    let one = sym (map-append (λ m. m.now) c.loop-mark.yielded (c.in-Some.mark ∷ [])) in (
      places_next now.places.items c.push.new.self.items now.left seen c.in-Some.mark.now c.loop-mark.invariant.0 c.loop-mark.invariant.1 c.in_ok-push.ensures.items ∙ ap (places_from 0) one,
      left_next now.left c.in_ok-closing.field-0 seen c.in-Some.mark.now c.loop-mark.invariant.1 c.in_ok-closing.ensures ∙ ap (left_from 0) one,
    )

pub returns : goal.returns
returns c =
    let now = c.loop-mark.closing in
    let all = YieldsList-end (YieldsList-from_rev_slice c.args.marks.now cc) c.loop-mark.yielded _ c.loop-mark.yielded_by _ _ c.in-None.is c.next.ensures.steps in
    closes_up now.places.items now.left (reverse c.args.marks.now) (c.loop-mark.invariant.0 ∙ ap (places_from 0) all.0) (c.loop-mark.invariant.1 ∙ ap (left_from 0) all.0)
