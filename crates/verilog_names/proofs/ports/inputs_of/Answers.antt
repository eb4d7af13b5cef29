use Rattle.std.proofs.Common.{refl, sym, ap, ◌∙◌, arith, ◌++◌, [], ◌∷◌}
use Rattle.verilog_names.proofs.Grown.{grown_all, grown_more}
use Rattle.verilog_names.proofs.Sorted.{inputs_split}
use Rattle.verilog_rules.specs.Declarations.{inputs_of}
use Rattle.verilog_names.proofs.ports.inputs_of.Goals as goal

pub loop-port-init : goal.loop-port-init
loop-port-init c =
    let first = c.args.m.now.first in
    let others = c.as_slice-port-items.result.now in
    ap (λ l. l ++ inputs_of others) (c.in_ok-add_input.ensures ∙ ap (λ l. l ++ inputs_of (first ∷ [])) c.new-inputs.ensures.items)
    ∙ ap (λ ps. inputs_of (first ∷ []) ++ inputs_of ps) c.as_slice-port-items.ensures ∙ sym (inputs_split first c.args.m.now.others)

pub loop-port-preserved : goal.loop-port-preserved
loop-port-preserved c =
    grown_more inputs_of c.as_slice-port-items.result.now c.loop-port.port-index _ _ _ _ _ inputs_split c.loop-port-test.true refl c.in_ok-add_input-2.ensures c.loop-port.invariant

pub returns : goal.returns
returns c = grown_all inputs_of c.as_slice-port-items.result.now c.loop-port.port-index _ _ refl (omega (arith, c.loop-port-test.false)) c.loop-port.invariant
