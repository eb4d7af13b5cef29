use Rattle.std.proofs.Common.{subst}
use Rattle.std.proofs.lemmas.Result.{IfOk-weaker}
use Rattle.rewriting.specs.Origins.{origins_of}
use Rattle.rewriting.specs.Spots.{spot_of}
use Rattle.work_operands.proofs.Parted.{IsFirstAmong, AnswersAmong, among_these, named_front}
use Rattle.work_operands.proofs.arguments.name_argument.Goals as goal

pub with_named_among-requires-clause-fits : goal.with_named_among-requires-clause-fits
with_named_among-requires-clause-fits c =
    let o = origins_of c.args.scene.now in
    let at = spot_of c.args.place.now in
    let first : IsFirstAmong o at c.args.among c.args.args.now c.args.count c.in-Some.named =
    subst (AnswersAmong o at c.args.among c.args.args.now c.args.count) c.in-Some.is
    c.in_ok-named.ensures in
    first.0

pub with_named_among-requires-clause-within : goal.with_named_among-requires-clause-within
with_named_among-requires-clause-within c =
    let o = origins_of c.args.scene.now in
    let at = spot_of c.args.place.now in
    let args = c.args.args.now in
    among_these o at c.args.among args c.args.count c.in-Some.named
    (subst (AnswersAmong o at c.args.among args c.args.count) c.in-Some.is
    c.in_ok-named.ensures)

pub returns-in-Some : goal.returns-in-Some
returns-in-Some c =
    let o = origins_of c.args.scene.now in
    let at = spot_of c.args.place.now in
    let args = c.args.args.now in
    let n = c.args.count in
    let it = c.in-Some.named in
    let first : IsFirstAmong o at c.args.among args n it =
    subst (AnswersAmong o at c.args.among args n) c.in-Some.is c.in_ok-named.ensures in
    IfOk-weaker c.with_named_among.result _ _
    (λ r is. named_front o at c.args.among c.args.of args n it r first is)
    c.with_named_among.ensures

pub returns-in-None : goal.returns-in-None
returns-in-None c =
    subst
    (AnswersAmong (origins_of c.args.scene.now) (spot_of c.args.place.now) c.args.among
    c.args.args.now c.args.count)
    c.in-None.is c.in_ok-named.ensures
