use Rattle.std.proofs.Common.{arith}
use Rattle.chw_names.specs.Twices.{declaration_twices}
use Rattle.chw_names.proofs.Steps.{meets_more, meets_all}
use Rattle.chw_names.proofs.twices.within_declarations.Goals as goal

pub loop-declaration-preserved : goal.loop-declaration-preserved
loop-declaration-preserved c =
    meets_more declaration_twices c.args.declarations.now c.loop-declaration.declaration-index c.declaration-item.result c.loop-declaration-test.true c.declaration-item.is c.loop-declaration.invariant c.in_ok-within_declaration.ensures

pub returns : goal.returns
returns c = meets_all declaration_twices c.args.declarations.now c.loop-declaration.declaration-index (omega (arith, c.loop-declaration-test.false)) c.loop-declaration.invariant
