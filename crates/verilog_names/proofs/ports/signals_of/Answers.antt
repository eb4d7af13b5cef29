use Rattle.std.proofs.Common.{refl, sym, ap, ◌∙◌, arith, ◌++◌, [], ◌∷◌}
use Rattle.verilog_names.proofs.Grown.{grown_all, grown_more}
use Rattle.verilog_names.proofs.Sorted.{signals_split}
use Rattle.verilog_rules.specs.Declarations.{signals_of}
use Rattle.verilog_names.proofs.ports.signals_of.Goals as goal

pub loop-port-init : goal.loop-port-init
loop-port-init c =
    let first = c.args.m.now.first in
    let others = c.as_slice-port-items.result.now in
    ap (λ l. l ++ signals_of others) (c.in_ok-add_signal.ensures ∙ ap (λ l. l ++ signals_of (first ∷ [])) c.new-signals.ensures.items)
    ∙ ap (λ ps. signals_of (first ∷ []) ++ signals_of ps) c.as_slice-port-items.ensures ∙ sym (signals_split first c.args.m.now.others)

pub loop-port-preserved : goal.loop-port-preserved
loop-port-preserved c =
    grown_more signals_of c.as_slice-port-items.result.now c.loop-port.port-index _ _ _ _ _ signals_split c.loop-port-test.true refl c.in_ok-add_signal-2.ensures c.loop-port.invariant

pub returns : goal.returns
returns c = grown_all signals_of c.as_slice-port-items.result.now c.loop-port.port-index _ _ refl (omega (arith, c.loop-port-test.false)) c.loop-port.invariant
