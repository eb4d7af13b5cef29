use Rattle.std.proofs.Common.{◌≡◌, ◌∙◌, Some, None, sym, subst}
use Rattle.chw_terms.specs.Constructors.{con_at}
use Rattle.chw_terms.specs.TermTree.{con}
use Rattle.con_places.specs.Constructing.{constructor_of}
use Rattle.rewriting.specs.Origins.{origins_of}
use Rattle.rewriting.specs.Spots.{spot_of}
use Rattle.seen_types.proofs.Matched.{not_true}
use Rattle.work_operands.proofs.Heads.{con_answers, con_stays}
use Rattle.call_types.proofs.Arguments.{arguments_typed}
use Rattle.work_operands.proofs.trial.name_of_con.Goals as goal

pub name_argument-requires-clause-typed : goal.name_argument-requires-clause-typed
name_argument-requires-clause-typed c =
    arguments_typed (origins_of c.args.scene.now) (spot_of c.args.place.now)
    (con c.args.which.number) c.args.args.now c.requires.typed

pub returns-then-not-has_lets : goal.returns-then-not-has_lets
returns-then-not-has_lets c =
    con_stays (origins_of c.args.scene.now) (spot_of c.args.place.now) c.args.which.number
    c.args.args.now
    (λ it m k. not_true c.has_lets.result c.if-not-has_lets.true (c.has_lets.ensures.1 m))

pub returns-in_default : goal.returns-in_default
returns-in_default c =
    let n = c.args.which.number in
    let none : con_at c.args.scene.now.program.now.datas n ≡ None =
    subst (λ datas. con_at datas n ≡ None) c.requires.table.constructors c.in_default.ensures in
    con_stays (origins_of c.args.scene.now) (spot_of c.args.place.now) n c.args.args.now
    (λ it m k. let both : None ≡ Some it = sym none ∙ k in absurd cc)

pub returns : goal.returns
returns c =
    let n = c.args.which.number in
    let it = constructor_of c.in-Some.it in
    let is : con_at c.args.scene.now.program.now.datas n ≡ Some it =
    subst (λ datas. con_at datas n ≡ Some it) c.requires.table.constructors c.in-Some.ensures.is in
    let lets = c.has_lets.ensures.0 c.if-not-has_lets.false in
    con_answers (origins_of c.args.scene.now) (spot_of c.args.place.now) n it c.args.args.now
    c.con-of.result c.asked_for_of-count.result c.name_argument.result lets is c.con-of.ensures
    c.asked_for_of-count.ensures c.name_argument.ensures
