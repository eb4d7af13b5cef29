use Rattle.std.proofs.Common.{arith}
use Rattle.chw_names.specs.Globals.{words_in}
use Rattle.chw_names.proofs.Steps.{declares_more, declares_all}
use Rattle.chw_names.proofs.space.declare_space.Goals as goal

pub loop-declaration-preserved : goal.loop-declaration-preserved
loop-declaration-preserved c = declares_more (words_in c.args.space) c.args.declarations.now c.loop-declaration.declaration-index c.declaration-item.result c.loop-declaration-test.true c.declaration-item.is c.loop-declaration.invariant c.in_ok-declare_in.ensures

pub returns : goal.returns
returns c = declares_all (words_in c.args.space) c.args.declarations.now c.loop-declaration.declaration-index (omega (arith, c.loop-declaration-test.false)) c.loop-declaration.invariant
