use Rattle.std.proofs.Common.{subst, [], IfOk, IfSome, IfNone}
use Rattle.chw_typing.specs.Scopes.{setting_in}
use Rattle.chw_typing.specs.Finding.{Finds}
use Rattle.term_types.specs.Answers.{HasNoType}
use Rattle.term_types.proofs.Scoped.{IsPart, IsScope, parts_inside}
use Rattle.term_types.proofs.typing.type_in_scope.Goals as goal
use Rattle.term_types.proofs.typing.type_in_scope.Goals.{After-inner-1, Joined-first}

-- the scope is that of these types
before : (c : After-inner-1) → IsScope (setting_in c.args.scene.now) [] c.args.vars.now c.with_bound-inner.result
before c =
    let s = setting_in c.args.scene.now in
    let first : IsPart s [] c.parts.result.0.now c.outside-first.result c.none-none.result c.with_bound-outer.result =
    record { types = c.outside-first.ensures.types; by_form = c.outside-first.ensures.kinds; vars = c.with_bound-outer.ensures.types; all = c.with_bound-outer.ensures.kinds } in
    let second : IsPart s [] c.parts.result.1.now c.outside-second.result c.with_bound-outer.result c.with_bound-middle.result =
    record { types = c.outside-second.ensures.types; by_form = c.outside-second.ensures.kinds; vars = c.with_bound-middle.ensures.types; all = c.with_bound-middle.ensures.kinds } in
    let third : IsPart s [] c.parts.result.2.now c.outside-third.result c.with_bound-middle.result c.with_bound-inner.result =
    record { types = c.outside-third.ensures.types; by_form = c.outside-third.ensures.kinds; vars = c.with_bound-inner.ensures.types; all = c.with_bound-inner.ensures.kinds } in
    parts_inside s [] c.parts.result.0.now c.parts.result.1.now c.parts.result.2.now c.args.vars.now
    c.outside-first.result c.outside-second.result c.outside-third.result
    c.none-none.result c.with_bound-outer.result c.with_bound-middle.result c.with_bound-inner.result
    c.parts.ensures c.requires.ready c.none-none.ensures.types c.none-none.ensures.kinds first second third

after : (c : Joined-first) → IsScope (setting_in c.args.scene.now) [] c.args.vars.now c.with_bound-inner.result
after c =
    let s = setting_in c.args.scene.now in
    let first : IsPart s [] c.parts.result.0.now c.outside-first.result c.none-none.result c.with_bound-outer.result =
    record { types = c.outside-first.ensures.types; by_form = c.outside-first.ensures.kinds; vars = c.with_bound-outer.ensures.types; all = c.with_bound-outer.ensures.kinds } in
    let second : IsPart s [] c.parts.result.1.now c.outside-second.result c.with_bound-outer.result c.with_bound-middle.result =
    record { types = c.outside-second.ensures.types; by_form = c.outside-second.ensures.kinds; vars = c.with_bound-middle.ensures.types; all = c.with_bound-middle.ensures.kinds } in
    let third : IsPart s [] c.parts.result.2.now c.outside-third.result c.with_bound-middle.result c.with_bound-inner.result =
    record { types = c.outside-third.ensures.types; by_form = c.outside-third.ensures.kinds; vars = c.with_bound-inner.ensures.types; all = c.with_bound-inner.ensures.kinds } in
    parts_inside s [] c.parts.result.0.now c.parts.result.1.now c.parts.result.2.now c.args.vars.now
    c.outside-first.result c.outside-second.result c.outside-third.result
    c.none-none.result c.with_bound-outer.result c.with_bound-middle.result c.with_bound-inner.result
    c.parts.ensures c.requires.ready c.none-none.ensures.types c.none-none.ensures.kinds first second third

pub type_within-requires-clause-ready : goal.type_within-requires-clause-ready
type_within-requires-clause-ready c = (before c).set

pub returns-clause-some : goal.returns-clause-some
returns-clause-some c =
    subst (λ vars. IfOk c.type_within.result (λ r. IfSome r (λ t. Finds (setting_in c.args.scene.now) [] vars c.args.term.now t))) (after c).vars c.type_within.ensures.some

pub returns-clause-none : goal.returns-clause-none
returns-clause-none c =
    subst (λ vars. IfOk c.type_within.result (λ r. IfNone r (HasNoType (setting_in c.args.scene.now) [] vars c.args.term.now))) (after c).vars c.type_within.ensures.none
