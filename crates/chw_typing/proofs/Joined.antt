-- Two groups as one, typed.
use Rattle.std.proofs.Common.{List}
use Rattle.chw_types.specs.declared.kind.Kind.{Kind}
use Rattle.chw_types.specs.TypeTree.{TypeTree}
use Rattle.chw_terms.specs.TermTree.{Group, no_bindings, bind}
use Rattle.chw_typing.specs.Scopes.{Setting}
use Rattle.chw_typing.specs.Typing.{AreBound, none_bound, bound_and}
use Rattle.chw_typing.specs.Groups.{joined}

pub join_bound : {s : Setting} {kinds : List Kind} {vars : List TypeTree} {k : Kind} {g h : Group} → AreBound s kinds vars k g → AreBound s kinds vars k h → AreBound s kinds vars k (joined g h)
join_bound none_bound r = r
join_bound (bound_and j f d x bs) r = bound_and j f d x (join_bound bs r)

pub first_bound : {s : Setting} {kinds : List Kind} {vars : List TypeTree} {k : Kind} (g h : Group) → AreBound s kinds vars k (joined g h) → AreBound s kinds vars k g
first_bound no_bindings h r = none_bound
first_bound (bind t e g) h (bound_and j f d x bs) = bound_and j f d x (first_bound g h bs)

pub second_bound : {s : Setting} {kinds : List Kind} {vars : List TypeTree} {k : Kind} (g h : Group) → AreBound s kinds vars k (joined g h) → AreBound s kinds vars k h
second_bound no_bindings h r = r
second_bound (bind t e g) h (bound_and j f d x bs) = second_bound g h bs
