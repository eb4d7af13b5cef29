use Rattle.std.proofs.Common.{◌∙◌, ap, arith}
use Rattle.std.specs.List.{flat_map}
use Rattle.chw_names.specs.Unknowns.{constructor_unknowns, type_unknowns}
use Rattle.chw_names.specs.Words.{least_of}
use Rattle.chw_names.proofs.Walking.{walks_more, walks_all}
use Rattle.chw_names.proofs.unknowns.within_constructors.Goals as goal

pub loop-constructor-preserved : goal.loop-constructor-preserved
loop-constructor-preserved c =
    walks_more (constructor_unknowns c.args.globals.now) c.args.constructors.now c.loop-constructor.constructor-index c.constructor-item.result c.loop-constructor-test.true c.constructor-item.is c.loop-constructor.invariant
    (record { scope = c.in_ok-each_ty.ensures.scope; least = c.in_ok-each_ty.ensures.least ∙ ap (λ ts. least_of c.loop-constructor.least (flat_map (type_unknowns c.args.globals.now c.loop-constructor.types) ts)) c.as_slice.ensures })

pub returns : goal.returns
returns c = walks_all (constructor_unknowns c.args.globals.now c.args.types.now) c.args.constructors.now c.loop-constructor.constructor-index (omega (arith, c.loop-constructor-test.false)) c.loop-constructor.invariant
