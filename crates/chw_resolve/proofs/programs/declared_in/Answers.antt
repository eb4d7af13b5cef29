use Rattle.std.proofs.Common.{[], arith}
use Rattle.chw_types.specs.BuiltIn.{built_in}
use Rattle.chw_resolve.specs.Programs.{domains_in, datas_in, defs_in}
use Rattle.chw_resolve.proofs.ProgramMade.{declared_more, all_declared}
use Rattle.chw_resolve.proofs.programs.declared_in.Goals as goal

pub loop-declaration-preserved : goal.loop-declaration-preserved
loop-declaration-preserved c =
    let g = c.args.globals.now in
    let ds = c.args.declarations.now in
    let i = c.loop-declaration.declaration-index in
    let d = c.declaration-item.result in
    record {
      domains = declared_more domains_in ds i d [] c.loop-declaration-test.true c.declaration-item.is c.loop-declaration.invariant.domains c.in_ok-add.ensures.domains;
      datas = declared_more (datas_in g) ds i d built_in c.loop-declaration-test.true c.declaration-item.is c.loop-declaration.invariant.datas c.in_ok-add.ensures.datas;
      defs = declared_more (defs_in g) ds i d [] c.loop-declaration-test.true c.declaration-item.is c.loop-declaration.invariant.defs c.in_ok-add.ensures.defs;
    }

pub returns : goal.returns
returns c = all_declared c.args.globals.now c.args.declarations.now c.loop-declaration.declaration-index c.loop-declaration.declared (omega (arith, c.loop-declaration-test.false)) c.loop-declaration.invariant
