use Rattle.std.proofs.Common.{arith}
use Rattle.chw_resolve.proofs.Resets.{next_left, all_listed}
use Rattle.chw_resolve.proofs.programs.resets_in.Goals as goal

pub loop-declaration-preserved : goal.loop-declaration-preserved
loop-declaration-preserved c =
    let ds = c.args.declarations.now in
    let l = c.loop-declaration in
    next_left ds l.declaration-index c.declaration-item.result l.resets.items _ l.number _ c.loop-declaration-test.true c.declaration-item.is c.in_ok-number.ensures l.invariant

pub returns : goal.returns
returns c = all_listed c.args.declarations.now c.loop-declaration.declaration-index c.loop-declaration.resets.items c.loop-declaration.number (omega (arith, c.loop-declaration-test.false)) c.loop-declaration.invariant
