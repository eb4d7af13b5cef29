use Rattle.std.proofs.Common.{[], ◌∷◌, ◌++◌, ap, ◌∙◌}
use Rattle.verilog_names.proofs.ModuleRules.{earlier_more, named_more, resolved_more}
use Rattle.verilog_names.proofs.modules.resolve_earlier.Goals as goal

pub loop-i-preserved : goal.loop-i-preserved
loop-i-preserved c =
    let ms = c.args.earlier.now in
    let i = c.loop-i.i in
    let m = c.index-earlier-i.result in
    let lt = c.loop-i-test.true in
    let is = c.index-earlier-i.is in
    record {
      names = named_more ms i m _ _ _ lt is c.loop-i.invariant.names c.in_ok-add.ensures;
      modules =
          resolved_more c.args.clocks.now ms i m _ c.loop-i.made.items _ _ lt is
          (c.in_ok-push.ensures.items ∙ ap (λ r. c.loop-i.made.items ++ r ∷ []) c.in_ok-module.ensures.module) c.loop-i.invariant.modules;
      checks =
          λ last same. earlier_more c.args.clocks.now last ms i m _ _ _ _ _ lt is (c.in_ok-check_same_signals.ensures last same) c.in_ok-module.ensures.checks (c.loop-i.invariant.checks last same);
    }
