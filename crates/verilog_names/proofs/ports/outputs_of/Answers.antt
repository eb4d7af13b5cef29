use Rattle.std.proofs.Common.{refl, sym, ap, ◌∙◌, arith, ◌++◌, [], ◌∷◌}
use Rattle.verilog_names.proofs.Grown.{grown_all, grown_more}
use Rattle.verilog_names.proofs.Sorted.{outputs_split}
use Rattle.verilog_rules.specs.Declarations.{outputs_of}
use Rattle.verilog_names.proofs.ports.outputs_of.Goals as goal

pub loop-port-init : goal.loop-port-init
loop-port-init c =
    let first = c.args.m.now.first in
    let others = c.as_slice-port-items.result.now in
    ap (λ l. l ++ outputs_of others) (c.in_ok-add_output.ensures ∙ ap (λ l. l ++ outputs_of (first ∷ [])) c.new-outputs.ensures.items)
    ∙ ap (λ ps. outputs_of (first ∷ []) ++ outputs_of ps) c.as_slice-port-items.ensures ∙ sym (outputs_split first c.args.m.now.others)

pub loop-port-preserved : goal.loop-port-preserved
loop-port-preserved c =
    grown_more outputs_of c.as_slice-port-items.result.now c.loop-port.port-index _ _ _ _ _ outputs_split c.loop-port-test.true refl c.in_ok-add_output-2.ensures c.loop-port.invariant

pub returns : goal.returns
returns c = grown_all outputs_of c.as_slice-port-items.result.now c.loop-port.port-index _ _ refl (omega (arith, c.loop-port-test.false)) c.loop-port.invariant
