use Rattle.std.proofs.Common.{◌≡◌, ◌++◌, [], ◌⊎◌, inl, inr, ap, ◌∙◌, subst, arith}
use Rattle.std.proofs.lemmas.List.{nil_from_length}
use Rattle.chw_types.specs.NormalSums.{IsAscending}
use Rattle.chw_types.proofs.FactorsInOrder.{gone_left, gone_right, left_over}
use Rattle.chw_types.proofs.polynomial.times.Goals as goal
use Rattle.chw_types.proofs.polynomial.times.Goals.{in_default, in_default-2}

pub loop-x-preserved-in_ok-push : goal.loop-x-preserved-in_ok-push
loop-x-preserved-in_ok-push c = record {
  first = (subst IsAscending c.in-Some-Some.ensures.cases.0 c.loop-x.invariant.first).1;
  second = c.loop-x.invariant.second;
  made = gone_left c.loop-x.first.now c.loop-x.second.now c.in-Some-Some.xs.now c.in-Some-Some.ys.now c.loop-x.done.items c.push.new.self.items _ c.in-Some-Some.x.now c.in-Some-Some.y.now
      c.in-Some-Some.ensures.cases.0 c.in-Some-Some.ensures'.cases.0 (omega arith) c.loop-x.invariant.first c.loop-x.invariant.second c.in_ok-push.ensures.items c.loop-x.invariant.made;
}

pub loop-x-preserved : goal.loop-x-preserved
loop-x-preserved c = record {
  first = c.loop-x.invariant.first;
  second = (subst IsAscending c.in-Some-Some.ensures'.cases.0 c.loop-x.invariant.second).1;
  made = gone_right c.loop-x.first.now c.loop-x.second.now c.in-Some-Some.xs.now c.in-Some-Some.ys.now c.loop-x.done.items c.push-else-x-y.new.self.items _ c.in-Some-Some.x.now c.in-Some-Some.y.now
      c.in-Some-Some.ensures.cases.0 c.in-Some-Some.ensures'.cases.0 (omega arith) c.loop-x.invariant.first c.in_ok-push-2.ensures.items c.loop-x.invariant.made;
}

pub returns : goal.returns
returns c =
    let none : (c.loop-x.first.now ≡ []) ⊎ (c.loop-x.second.now ≡ []) = elim c.match-split_first.branch [ in_default w ↦ inr (nil_from_length _ w.in_default.ensures'.cases) | in_default-2 w ↦ inl (nil_from_length _ w.in_default.ensures.cases) ] in
    c.in_ok-extend_from_slice-2.ensures.items
    ∙ ap (λ d. d ++ c.loop-x.second.now) c.in_ok-extend_from_slice.ensures.items
    ∙ left_over c.loop-x.first.now c.loop-x.second.now c.loop-x.done.items _ none c.loop-x.invariant.first c.loop-x.invariant.made
