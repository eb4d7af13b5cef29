use Rattle.chw_types.specs.TypeTree.{TypeTree}
use Rattle.rewriting.specs.Origins.{origins_of}
use Rattle.rewriting.specs.Spots.{spot_of}
use Rattle.seen_types.proofs.Matched.{of_none, of_some, not_true}
use Rattle.specialise.specs.declared.numbers.Seed.{Seed}
use Rattle.specialise.specs.Seeds.{HasLambdas}
use Rattle.specialise.proofs.Numbering.{IsLiftedSeed, none_special, lifted_in, none_lifted, lifted_done}
use Rattle.specialise.proofs.trial.special_lifted.Goals as goal

pub returns-then-not-is_of_circuit : goal.returns-then-not-is_of_circuit
returns-then-not-is_of_circuit c =
    none_special c.args.scene.now.program.now c.args.scene.now.made.now c.args.table.now
    (spot_of c.args.place.now) _ c.requires.same
    (λ e' i. not_true c.is_of_circuit.result c.if-not-is_of_circuit.true
    (c.is_of_circuit.ensures.1 (lifted_in c.args.own.now c.args.rest.now c.requires.five i).circuit))

pub returns-in_default : goal.returns-in_default
returns-in_default c =
    none_special c.args.scene.now.program.now c.args.scene.now.made.now c.args.table.now
    (spot_of c.args.place.now) _ c.requires.same
    (λ e' i. let l = lifted_in c.args.own.now c.args.rest.now c.requires.five i in
    c.in_default.ensures l.dom l.from l.to l.function l.signal l.are)

pub returns-in_default-2 : goal.returns-in_default-2
returns-in_default-2 c =
    let o = origins_of c.args.scene.now in
    let at = spot_of c.args.place.now in
    let it = c.in-Some.at in
    let none = of_none ((t : TypeTree) → HasLambdas o at it.function.now t → ⊥)
    (λ (s : Seed). IsLiftedSeed o at it.function.now s) c.in_ok-seed.field-0 c.in_default-2.not-Some
    c.in_ok-seed.ensures in
    none_special c.args.scene.now.program.now c.args.scene.now.made.now c.args.table.now at _
    c.requires.same
    (λ e' i. none_lifted it.dom.now it.from.now it.to.now it.function.now it.signal.now
    c.in-Some.ensures none (lifted_in c.args.own.now c.args.rest.now c.requires.five i))

pub returns : goal.returns
returns c =
    let scene = c.args.scene.now in
    let o = origins_of scene in
    let at = spot_of c.args.place.now in
    let it = c.in-Some.at in
    let g = it.function.now in
    let seed = c.in-Some-2.seed in
    let is : IsLiftedSeed o at g seed =
    of_some ((t : TypeTree) → HasLambdas o at g t → ⊥) (λ (s : Seed). IsLiftedSeed o at g s)
    c.in_ok-seed.field-0 seed c.in-Some-2.is c.in_ok-seed.ensures in
    let done = c.in_ok-lifted_with.ensures in
    lifted_done scene.program.now scene.made.now c.args.table.now at it.dom.now it.from.now
    it.to.now g it.signal.now c.args.own.now c.args.rest.now seed done.0 _ c.requires.same
    (c.is_of_circuit.ensures.0 c.if-not-is_of_circuit.false) c.requires.typed c.in-Some.ensures
    is done.1 done.2
