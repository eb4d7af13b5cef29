use Rattle.std.proofs.Common.{subst}
use Rattle.rewriting.specs.Origins.{origins_of}
use Rattle.rewriting.specs.Spots.{spot_of}
use Rattle.rewriting.specs.Operands.{NeedsName}
use Rattle.seen_types.proofs.Matched.{of_none}
use Rattle.work_operands.specs.Firsts.{AnswersName, NeedsNameOf}
use Rattle.work_operands.proofs.Searching.{item, no_element_more, first_element}
use Rattle.work_operands.proofs.finding.first_element.Goals as goal

pub name_needed-requires-clause-typed : goal.name_needed-requires-clause-typed
name_needed-requires-clause-typed c =
    let n = c.loop-number.number in
    let e = c.index-elements-number.result in
    c.requires.typed n e
    (item c.args.elements.now n e c.loop-number-test.true c.index-elements-number.is)

pub returns-in-Some : goal.returns-in-Some
returns-in-Some c =
    let o = origins_of c.args.scene.now in
    let at = spot_of c.args.place.now in
    let e = c.index-elements-number.result in
    first_element c.args.elements.now c.loop-number.number e c.in-Some.ty c.loop-number-test.true
    c.index-elements-number.is c.loop-number.invariant
    (subst (AnswersName o at e) c.in-Some.is c.in_ok-ty.ensures)

pub loop-number-preserved : goal.loop-number-preserved
loop-number-preserved c =
    let o = origins_of c.args.scene.now in
    let at = spot_of c.args.place.now in
    let e = c.index-elements-number.result in
    no_element_more c.args.elements.now c.loop-number.number e c.loop-number-test.true
    c.index-elements-number.is c.loop-number.invariant
    (of_none (NeedsName o at e → ⊥) (NeedsNameOf o at e) c.in_ok-ty.field-0 c.in_default.not-Some
    c.in_ok-ty.ensures)
