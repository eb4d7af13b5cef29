use Rattle.std.proofs.Common.{◌≡◌, ◌∙◌, sym, arith, ◌≤◌, ◌++◌, length}
use Rattle.std.proofs.lemmas.List.{take-append-drop}
use Rattle.std.proofs.lemmas.Result.{IfOk-weaker}
use Rattle.rewriting.specs.Origins.{origins_of}
use Rattle.rewriting.specs.Spots.{spot_of}
use Rattle.work_operands.proofs.Parted.{too_few, among_front}
use Rattle.work_operands.proofs.Typed.{front_typed}
use Rattle.work_operands.proofs.arguments.first_among.Goals as goal

pub returns-then-args-count : goal.returns-then-args-count
returns-then-args-count c =
    too_few (origins_of c.args.scene.now) (spot_of c.args.place.now) c.args.among c.args.args.now
    c.args.count c.if-args-count.true

pub first_argument-requires-clause-typed : goal.first_argument-requires-clause-typed
first_argument-requires-clause-typed c =
    let args = c.args.args.now in
    let given = c.split_at.result.0.now in
    let rest = c.split_at.result.1.now in
    let parts : args ≡ given ++ rest =
    sym (take-append-drop c.args.count args)
    ∙ (λ i. sym c.split_at.ensures.front i ++ sym c.split_at.ensures.back i) in
    front_typed (origins_of c.args.scene.now) (spot_of c.args.place.now) args given rest parts
    c.requires.typed

pub returns : goal.returns
returns c =
    let args = c.args.args.now in
    let given = c.split_at.result.0.now in
    let rest = c.split_at.result.1.now in
    let parts : args ≡ given ++ rest =
    sym (take-append-drop c.args.count args)
    ∙ (λ i. sym c.split_at.ensures.front i ++ sym c.split_at.ensures.back i) in
    let fits : c.args.count ≤ length args = omega (arith, c.if-args-count.false) in
    IfOk-weaker c.first_argument.result _ _
    (λ r is.
    among_front (origins_of c.args.scene.now) (spot_of c.args.place.now) c.args.among args given rest
    c.args.count r fits parts c.split_at.ensures.front_len c.split_at.ensures.front is)
    c.first_argument.ensures
