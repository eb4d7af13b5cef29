use Rattle.std.proofs.Common.{◌≡◌, ◌∙◌, ◌++◌, length, sym, ap, refl, Some}
use Rattle.std.specs.Prelude.{option_to_list}
use Rattle.std.specs.List.{slice_get}
use Rattle.std.proofs.lemmas.Option.{slice_get_read}
use Rattle.std.proofs.lemmas.Bool.{ltb-true}
use Rattle.chw_terms.specs.TermView.{group_of}
use Rattle.letrec_runs.proofs.Reached.{bound_at, from_a_side, taken}
use Rattle.letrec_runs.proofs.reaching.all_reached.Goals as goal

pub loop-preserved : goal.loop-preserved
loop-preserved c =
    let bs = c.args.group.now in
    let g = group_of bs in
    let e = c.args.body.now in
    let place = c.in-Some.place in
    let b = c.in-Some-get.binding.now in
    let read : slice_get bs place ≡ Some b = slice_get_read bs (length bs) place b refl (ltb-true _ _ (sym c.in-Some-get.ensures.lookup.0)) c.in-Some-get.ensures.lookup.1 in
    let some = c.pop.ensures.items ∙ ap (λ o. c.pop.new.self.items ++ option_to_list o) c.in-Some.is in
    let left = taken c.loop.search (record { marks = c.loop.search.marks; waiting = c.pop.new.self }) g e place refl some c.loop.invariant in
    c.in_ok-look_at.ensures g e (from_a_side g e place (b.ty, b.body) left.1 (bound_at bs place b read)) left.0
