use Rattle.std.proofs.Common.{refl, arith}
use Rattle.std.proofs.lemmas.Result.{err_from_is_err_and}
use Rattle.chw_norm.proofs.Grown.{grown_bounds, grown_spine, not_grown}
use Rattle.chw_norm.proofs.Puts.{IsMade, put_between}
use Rattle.chw_norm.proofs.Puts.{put_is_deep, put_is_few, put_is_shallow, put_is_step}
use Rattle.chw_norm.proofs.Between.{spine_there}
use Rattle.chw_norm.proofs.Joined.{made_there}
use Rattle.chw_norm.proofs.Places.{SpineLaws}
use Rattle.chw_norm.proofs.progress.Progress.advance.Goals as goal

pub grow-requires : goal.grow-requires
grow-requires c = record { fresh = c.requires.next.added.fresh }

pub make_change-requires-clause-spine : goal.make_change-requires-clause-spine
make_change-requires-clause-spine c =
    let r = c.args.self.now in
    let f = c.args.found in
    grown_spine f.definition r c.grow.new.self f.at c.in_ok-added.ensures.0
    (spine_there (record {
      part = c.spines_are_parts.ensures;
      behind = c.spines_of_parts.ensures;
      argument = c.spines_below_spines.ensures.arguments;
    })
    r.program.now r.made f.at c.requires.next.new c.requires.next.is_first)

pub make_change-requires-clause-one_each : goal.make_change-requires-clause-one_each
make_change-requires-clause-one_each c =
    (grown_bounds c.args.found.definition c.args.self.now c.grow.new.self c.requires.between
    c.in_ok-added.ensures.0).each_one

pub returns-in_err-added : goal.returns-in_err-added
returns-in_err-added c =
    let p = err_from_is_err_and c.from_residual.result
    c.from_residual.ensures.1 in
    rw (p.1, p.2)
    (not_grown c.args.found c.args.trace.now.items c.args.self.now c.grow.new.self c.grow.new.self
    c.args.found.definition c.requires.next refl c.in_err-added.field-0.0 c.in_err-added.ensures)

pub returns-then-most : goal.returns-then-most
returns-then-most c =
    let r = c.args.self.now in
    let f = c.args.found in
    let g = c.grow.new.self in
    let q = c.make_change.new.self in
    let bound = c.in_ok-bound.bound in
    let laws : SpineLaws = record {
      part = c.spines_are_parts.ensures;
      behind = c.spines_of_parts.ensures;
      argument = c.spines_below_spines.ensures.arguments;
    } in
    let there = made_there laws r.program.now r.made g.made f c.requires.next
    c.in_ok-added.ensures.0.made in
    let made : IsMade f r g q bound = record {
      between = c.requires.between;
      next = c.requires.next;
      grown = c.in_ok-added.ensures.0;
      put = c.in_ok-bound.ensures c.requires.next.new there;
    } in
    let depths = c.in_ok-added.ensures.1 in
    let shallow = put_is_shallow f r g q bound made
    (omega (arith, depths, c.max-most.ensures, c.if-most.true))
    (omega (arith, c.max-most.ensures, c.if-most.true)) in (
      put_is_step f c.args.trace.now.items c.push.new.self.items r g q bound made
          c.in_ok-push.ensures.items,
      record { shallow = shallow; few = put_is_few f r g q bound made },
      put_between c.states_stay_typed.ensures.steps f r g q bound made shallow,
    )

pub returns-else-most : goal.returns-else-most
returns-else-most c =
    let r = c.args.self.now in
    let f = c.args.found in
    let g = c.grow.new.self in
    let q = c.make_change.new.self in
    let bound = c.in_ok-bound.bound in
    let laws : SpineLaws = record {
      part = c.spines_are_parts.ensures;
      behind = c.spines_of_parts.ensures;
      argument = c.spines_below_spines.ensures.arguments;
    } in
    let there = made_there laws r.program.now r.made g.made f c.requires.next
    c.in_ok-added.ensures.0.made in
    let made : IsMade f r g q bound = record {
      between = c.requires.between;
      next = c.requires.next;
      grown = c.in_ok-added.ensures.0;
      put = c.in_ok-bound.ensures c.requires.next.new there;
    } in
    let depths = c.in_ok-added.ensures.1 in (
      put_is_step f c.args.trace.now.items c.push.new.self.items r g q bound made
          c.in_ok-push.ensures.items,
      put_is_few f r g q bound made,
      put_is_deep f r g q bound made (omega (arith, depths, c.max-most.ensures, c.if-most.false)),
    )
