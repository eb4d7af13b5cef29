use Rattle.std.proofs.Common.{◌≡◌, ◌≤◌, ℕ, arith, subst}
use Rattle.bit_laws.specs.Blast.{choices}
use Rattle.bit_nodes.specs.Standing.{name_of}
use Rattle.bit_blast.specs.Adding.{Adds}
use Rattle.bit_blast.specs.Names.{by_places, names_of}
use Rattle.bit_blast.specs.Shifts.{moved_bit}
use Rattle.bit_blast.proofs.Adding.{nothing_added}
use Rattle.bit_blast.proofs.ShiftStages.{end_below, stage_more}
use Rattle.bit_blast.proofs.shifts.stage.Goals as goal

pub loop-place-init : goal.loop-place-init
loop-place-init c = λ flat. nothing_added flat c.args.nodes.now.items

pub at-own-requires : goal.at-own-requires
at-own-requires c =
    let le : c.loop-place.place ≤ c.args.moved.width = omega arith in
    end_below c.args.bits c.loop-place.place c.args.moved.width le c.requires.bits

pub at-out-requires : goal.at-out-requires
at-out-requires c =
    let le : c.loop-place.place ≤ c.args.moved.width = omega arith in
    end_below c.args.outs c.loop-place.place c.args.moved.width le c.requires.outs

pub loop-place-preserved : goal.loop-place-preserved
loop-place-preserved c = λ flat.
    stage_more flat c.args.nodes.now.items c.loop-place.nodes.items c.push.new.self.items c.args.by c.args.outs c.args.bits c.args.moved
    c.loop-place.place _ _ _ (c.loop-place.invariant flat) c.in_ok-push.ensures.items c.moved_at-came.ensures c.at-own.ensures c.at-out.ensures

pub returns : goal.returns
returns c = λ flat.
    let same : c.loop-place.place ≡ c.args.moved.width = omega arith in
    subst (λ (n : ℕ). Adds flat c.args.nodes.now.items c.loop-place.nodes.items
    (choices (name_of flat c.args.by) (names_of flat c.args.outs n) (by_places (λ j. name_of flat (moved_bit c.args.moved c.args.bits j)) n)
    (names_of flat c.args.bits n))) same (c.loop-place.invariant flat)
