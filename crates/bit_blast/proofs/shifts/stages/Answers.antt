use Rattle.std.proofs.Common.{◌≡◌, ◌^◌, ℕ, ◌∙◌, refl, arith, subst}
use Rattle.bit_laws.specs.BitNames.{further, wire_name}
use Rattle.bit_laws.specs.Blast.{shift_nodes, shifted_names}
use Rattle.bit_blast.specs.Adding.{Adds}
use Rattle.bit_blast.specs.Names.{lowest, names_of}
use Rattle.bit_blast.specs.Shifts.{mover}
use Rattle.bit_blast.proofs.Adding.{added_as, both_added, nothing_added}
use Rattle.bit_blast.proofs.Places.{lowest_names}
use Rattle.bit_blast.proofs.ShiftStages.{number_more, places_more, shifted_more, stages_more}
use Rattle.bit_blast.proofs.shifts.stages.Goals as goal

pub loop-turn-init : goal.loop-turn-init
loop-turn-init c =
    let some = c.requires.some in
    let within = c.requires.within in
    let one : 2 ^ 0 ≡ 1 = refl in
    record {
      made = λ flat. nothing_added flat c.args.nodes.now.items;
      named = λ flat. lowest_names flat c.args.a c.args.width;
      places = omega (arith, one);
      number = omega arith;
      small = omega arith;
      ends = omega arith;
    }

pub stage-requires-clause-places : goal.stage-requires-clause-places
stage-requires-clause-places c = let places = c.loop-turn.invariant.places in omega arith

pub stage-requires-clause-outs : goal.stage-requires-clause-outs
stage-requires-clause-outs c =
    let within = c.requires.within in
    let amount = c.requires.amount in
    let below = c.loop-turn-test.true in
    let small = c.loop-turn.invariant.small in
    omega arith

pub stage-requires-clause-bits : goal.stage-requires-clause-bits
stage-requires-clause-bits c =
    let amount = c.requires.amount in
    let below = c.loop-turn-test.true in
    let ends = c.loop-turn.invariant.ends in
    omega arith

pub loop-turn-preserved : goal.loop-turn-preserved
loop-turn-preserved c =
    let w = c.args.w in
    let n = c.args.width in
    let t = c.loop-turn.turn in
    let within = c.requires.within in
    let small = c.loop-turn.invariant.small in
    record {
      made = λ flat.
          added_as flat c.args.nodes.now.items c.stage.new.nodes.items _ _
          (stages_more flat w c.args.way (wire_name flat.ports c.args.a.number) (wire_name flat.ports c.args.b.number) n t c.loop-turn.number
          c.loop-turn.places c.loop-turn.bits c.loop-turn.invariant.number c.loop-turn.invariant.places (c.loop-turn.invariant.named flat))
          (both_added flat c.args.nodes.now.items c.loop-turn.nodes.items c.stage.new.nodes.items _ _ (c.loop-turn.invariant.made flat)
          (c.in_ok-stage.ensures flat));
      named = λ flat.
          shifted_more flat w (wire_name flat.ports c.args.a.number) (wire_name flat.ports c.args.b.number) n t c.loop-turn.number
          c.loop-turn.invariant.number;
      places = c.min-places.ensures ∙ places_more c.loop-turn.places t n c.loop-turn.invariant.places;
      number = number_more c.loop-turn.number t n c.loop-turn.invariant.number;
      small = omega arith;
      ends = omega arith;
    }

pub returns-clause-made : goal.returns-clause-made
returns-clause-made c = λ flat.
    let same : c.loop-turn.turn ≡ c.args.amount = omega arith in
    let k = c.args.w.number in
    subst (λ (t : ℕ). Adds flat c.args.nodes.now.items c.loop-turn.nodes.items
    (shift_nodes (mover c.args.way (further k 0)) k (lowest flat c.args.a.number c.args.width) (lowest flat c.args.b.number t))) same
    (c.loop-turn.invariant.made flat)

pub returns-clause-named : goal.returns-clause-named
returns-clause-named c = λ flat.
    let same : c.loop-turn.turn ≡ c.args.amount = omega arith in
    subst (λ (t : ℕ). names_of flat c.loop-turn.bits c.args.width
    ≡ shifted_names c.args.w.number (lowest flat c.args.a.number c.args.width) (lowest flat c.args.b.number t)) same (c.loop-turn.invariant.named flat)

pub returns-clause-small : goal.returns-clause-small
returns-clause-small c =
    let amount = c.requires.amount in
    let within = c.loop-turn.auto.turn-end in
    let ends = c.loop-turn.invariant.ends in
    omega arith
