use Rattle.std.proofs.Common.{◌∙◌, sym, ap, refl, replicate, false, arith}
use Rattle.std.proofs.lemmas.List.{nil_from_length}
use Rattle.chw_terms.specs.TermView.{group_of}
use Rattle.chw_terms.proofs.TermLists.{size_of_group}
use Rattle.work_lets.proofs.Searched.{searches_first, searches_next, searches_less, searched, place_within, binding_of_group, found_at}
use Rattle.work_lets.proofs.reached.reached.Goals as goal

pub loop-place-init : goal.loop-place-init
loop-place-init c =
    let bs = c.args.bindings.now in
    let marks = c.in_ok-vec.ensures.items_if_clones_equal (λ y e. e) ∙ ap (λ n. replicate n false) (sym (size_of_group bs)) in
    searches_first (group_of bs) c.args.body.now (record { marks = c.in_ok-vec.field-0; waiting = c.new.result }) c.look_at.new.search marks c.new.ensures.items c.in_ok-look_at.ensures

pub look_into-requires : goal.look_into-requires
look_into-requires c =
    let bs = c.args.bindings.now in
    let within = place_within (group_of bs) c.args.body.now c.loop-place.search c.pop.new.self.items c.in-Some.place c.loop-place.invariant c.in-Some.ensures.items in
    omega (arith, within, size_of_group bs)

pub loop-place-preserved : goal.loop-place-preserved
loop-place-preserved c =
    let bs = c.args.bindings.now in
    let s = c.loop-place.search in
    let within = place_within (group_of bs) c.args.body.now s c.pop.new.self.items c.in-Some.place c.loop-place.invariant c.in-Some.ensures.items in
    let b = found_at bs c.in-Some.place (omega (arith, within, size_of_group bs)) in
    searches_next (group_of bs) c.args.body.now s (record { marks = s.marks; waiting = c.pop.new.self }) c.look_into.new.search c.in-Some.place (b.0.ty, b.0.body)
    c.loop-place.invariant refl c.in-Some.ensures.items (binding_of_group bs c.in-Some.place b.0 b.1) (c.in_ok-look_into.ensures b.0 b.1)

pub loop-place-smaller : goal.loop-place-smaller
loop-place-smaller c =
    let bs = c.args.bindings.now in
    let s = c.loop-place.search in
    let within = place_within (group_of bs) c.args.body.now s c.pop.new.self.items c.in-Some.place c.loop-place.invariant c.in-Some.ensures.items in
    let b = found_at bs c.in-Some.place (omega (arith, within, size_of_group bs)) in
    searches_less s (record { marks = s.marks; waiting = c.pop.new.self }) c.look_into.new.search c.in-Some.place _ refl c.in-Some.ensures.items (c.in_ok-look_into.ensures b.0 b.1)

pub returns : goal.returns
returns c =
    searched (group_of c.args.bindings.now) c.args.body.now c.loop-place.search c.loop-place.invariant
    (nil_from_length c.loop-place.search.waiting.items (omega (arith, c.in_default.ensures.cases.0, c.loop-place.search.waiting.ok.0)))
