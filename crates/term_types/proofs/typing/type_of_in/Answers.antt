use Rattle.std.proofs.Common.{subst, reverse, IfOk, IfSome, IfNone}
use Rattle.chw_typing.specs.Scopes.{setting_in}
use Rattle.chw_typing.specs.Finding.{Finds}
use Rattle.term_types.specs.Answers.{HasNoType}
use Rattle.term_types.proofs.Scoped.{IsPart, outside_inside}
use Rattle.term_types.proofs.typing.type_of_in.Goals as goal

pub type_within-requires-clause-ready : goal.type_within-requires-clause-ready
type_within-requires-clause-ready c =
    let part : IsPart (setting_in c.args.scene.now) (reverse c.args.kinds.now) c.args.vars.now c.outside-bound.result c.none-none.result c.with_bound-inner.result = record { types = c.outside-bound.ensures.types; by_form = c.outside-bound.ensures.kinds; vars = c.with_bound-inner.ensures.types; all = c.with_bound-inner.ensures.kinds } in
    (outside_inside (setting_in c.args.scene.now) (reverse c.args.kinds.now) c.args.vars.now c.outside-bound.result c.none-none.result c.with_bound-inner.result
    c.requires.ready c.none-none.ensures.types c.none-none.ensures.kinds part).set

pub returns-clause-some : goal.returns-clause-some
returns-clause-some c =
    let s = setting_in c.args.scene.now in
    let kinds = reverse c.args.kinds.now in
    let part : IsPart (setting_in c.args.scene.now) (reverse c.args.kinds.now) c.args.vars.now c.outside-bound.result c.none-none.result c.with_bound-inner.result = record { types = c.outside-bound.ensures.types; by_form = c.outside-bound.ensures.kinds; vars = c.with_bound-inner.ensures.types; all = c.with_bound-inner.ensures.kinds } in
    let inside = outside_inside s kinds c.args.vars.now c.outside-bound.result c.none-none.result c.with_bound-inner.result
    c.requires.ready c.none-none.ensures.types c.none-none.ensures.kinds part in
    subst (λ vars. IfOk c.type_within.result (λ r. IfSome r (λ t. Finds s kinds vars c.args.term.now t))) inside.vars c.type_within.ensures.some

pub returns-clause-none : goal.returns-clause-none
returns-clause-none c =
    let s = setting_in c.args.scene.now in
    let kinds = reverse c.args.kinds.now in
    let part : IsPart (setting_in c.args.scene.now) (reverse c.args.kinds.now) c.args.vars.now c.outside-bound.result c.none-none.result c.with_bound-inner.result = record { types = c.outside-bound.ensures.types; by_form = c.outside-bound.ensures.kinds; vars = c.with_bound-inner.ensures.types; all = c.with_bound-inner.ensures.kinds } in
    let inside = outside_inside s kinds c.args.vars.now c.outside-bound.result c.none-none.result c.with_bound-inner.result
    c.requires.ready c.none-none.ensures.types c.none-none.ensures.kinds part in
    subst (λ vars. IfOk c.type_within.result (λ r. IfNone r (HasNoType s kinds vars c.args.term.now))) inside.vars c.type_within.ensures.none
