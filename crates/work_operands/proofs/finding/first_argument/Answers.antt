use Rattle.std.proofs.Common.{◌≡◌, ◌∙◌, Some, ap, subst}
use Rattle.chw_terms.specs.declared.term.Arg.TheVariants.{OfTerm}
use Rattle.chw_terms.specs.TermTree.{TermTree}
use Rattle.rewriting.specs.Origins.{origins_of}
use Rattle.rewriting.specs.Spots.{spot_of}
use Rattle.rewriting.specs.Operands.{NeedsName}
use Rattle.seen_types.proofs.Matched.{of_none}
use Rattle.work_operands.specs.Firsts.{IsAmong, IsNamedPart, AnswersArg}
use Rattle.work_operands.proofs.Searching.{item, none_more, first_arg}
use Rattle.work_operands.proofs.finding.first_argument.Goals as goal

pub argument_named-requires-clause-typed : goal.argument_named-requires-clause-typed
argument_named-requires-clause-typed c x is =
    let n = c.loop-number.number in
    let arg = c.index-args-number.result in
    c.requires.typed n x
    (item c.args.args.now n arg c.loop-number-test.true c.index-args-number.is
    ∙ ap (λ a. Some a) is)

pub returns-in-Some : goal.returns-in-Some
returns-in-Some c =
    let o = origins_of c.args.scene.now in
    let at = spot_of c.args.place.now in
    let n = c.loop-number.number in
    let arg = c.index-args-number.result in
    first_arg c.args.args.now n arg c.in-Some.named c.loop-number-test.true c.index-args-number.is
    c.loop-number.invariant
    (subst (AnswersArg o at c.args.among n arg) c.in-Some.is c.in_ok-found.ensures)

pub loop-number-preserved : goal.loop-number-preserved
loop-number-preserved c =
    let o = origins_of c.args.scene.now in
    let at = spot_of c.args.place.now in
    let n = c.loop-number.number in
    let arg = c.index-args-number.result in
    none_more c.args.among c.args.args.now n arg c.loop-number-test.true c.index-args-number.is
    c.loop-number.invariant
    (of_none ((x : TermTree) → IsAmong c.args.among n → arg ≡ OfTerm x → NeedsName o at x → ⊥)
    (λ it. IsNamedPart o at c.args.among n arg it) c.in_ok-found.found c.in_default.not-Some
    c.in_ok-found.ensures)
