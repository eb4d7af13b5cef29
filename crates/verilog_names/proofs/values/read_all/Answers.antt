use Rattle.std.proofs.Common.{[], ◌∷◌, ◌++◌, map, refl, ap, ◌∙◌, arith}
use Rattle.verilog_names.proofs.Grown.{grown_all, grown_more}
use Rattle.verilog_checks.proofs.Steps.{check_taken, checks_taken}
use Rattle.verilog_rules.specs.NameRules.{operand_check}
use Rattle.verilog_rules.specs.Resolving.{operand}
use Rattle.verilog_names.proofs.values.read_all.Goals as goal

pub loop-name-preserved : goal.loop-name-preserved
loop-name-preserved c =
    let names = c.args.names.now in
    let wires = c.args.wires.now in
    let l = c.loop-name in (
      grown_more (map (operand wires)) names l.name-index _ _ _ _ _ (λ y ys. refl) c.loop-name-test.true refl
          (c.in_ok-push.ensures.items ∙ ap (λ o. l.operands.items ++ o ∷ []) c.read-operand.ensures.operand) l.invariant.0,
      check_taken (operand_check wires) names l.name-index _ _ _ _ _ c.loop-name-test.true refl c.read-operand.ensures.check l.invariant.1,
    )

pub returns : goal.returns
returns c =
    let l = c.loop-name in
    record {
      operands = grown_all (map (operand c.args.wires.now)) c.args.names.now l.name-index _ _ refl (omega (arith, c.loop-name-test.false)) l.invariant.0;
      checks = checks_taken (operand_check c.args.wires.now) c.args.names.now l.name-index _ _ (omega (arith, c.loop-name-test.false)) l.invariant.1;
    }
