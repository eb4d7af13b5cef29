use Rattle.std.proofs.lemmas.Result.{on_ok_weaker}
use Rattle.net_ready.specs.Ready.{types_on}
use Rattle.value_build.specs.InScope.{in_scope, as_variable}
use Rattle.circuit_build.proofs.FieldWires.{projection_made}
use Rattle.circuit_build.proofs.ProjectionParts.{one_alternative, only_gives, only_pattern, only_fields, only_held}
use Rattle.circuit_build.proofs.projections.projection.Goals as goal

pub name_of-x-requires : goal.name_of-x-requires
name_of-x-requires c = (c.requires.ready.0, c.requires.ready.1)

pub one_alternative-only-requires : goal.one_alternative-only-requires
one_alternative-only-requires c = one_alternative c.args.base.now.datas (types_on (in_scope c.args.scope.now)) c.requires.ready.0 c.args.alts.now c.requires.ready.2

pub name_of-z-requires : goal.name_of-z-requires
name_of-z-requires c = only_gives c.args.base.now.datas (types_on (in_scope c.args.scope.now)) c.requires.ready.0 c.args.alts.now c.one_alternative-only.result.now c.one_alternative-only.ensures c.requires.ready.2

pub variable_at-requires : goal.variable_at-requires
variable_at-requires c =
    only_held c.args.base.now.datas c.args.scope.now c.requires.ready.0 c.name_of-x.result.number c.args.on.now c.args.alts.now c.one_alternative-only.result.now
    c.requires.ready.1 c.name_of-x.ensures c.one_alternative-only.ensures c.requires.ready.2

pub projected-copied-requires-clause-form : goal.projected-copied-requires-clause-form
projected-copied-requires-clause-form c = only_pattern c.args.base.now.datas (types_on (in_scope c.args.scope.now)) c.requires.ready.0 c.args.alts.now c.one_alternative-only.result.now c.one_alternative-only.ensures c.requires.ready.2

pub projected-copied-requires-clause-fields : goal.projected-copied-requires-clause-fields
projected-copied-requires-clause-fields c =
    only_fields c.args.base.now.datas (in_scope c.args.scope.now) c.requires.ready.0 c.name_of-x.result.number c.args.on.now c.args.alts.now c.one_alternative-only.result.now (as_variable c.in_ok-it.it)
    c.requires.ready.1 c.name_of-x.ensures c.one_alternative-only.ensures c.in_ok-it.ensures c.requires.ready.2

pub returns-clause-cells : goal.returns-clause-cells
returns-clause-cells c =
    on_ok_weaker c.projected-copied.result
    (λ is. projection_made c.args.base.now (in_scope c.args.scope.now) (as_variable c.in_ok-it.it) c.name_of-x.result.number c.name_of-z.result.number c.args.widths.now
    c.args.on.now c.one_alternative-only.result.now c.args.alts.now c.args.into.now c.projected-copied.new.into
    c.name_of-x.ensures c.one_alternative-only.ensures c.name_of-z.ensures c.in_ok-it.ensures is)
    c.projected-copied.ensures.projected
