use Rattle.std.proofs.Common.{[], ◌∷◌, arith, refl, subst}
use Rattle.verilog_names.proofs.OnceNames.{declares_all, declares_more, declares_none, port_words_are}
use Rattle.verilog_names.specs.Declares.{Declares}
use Rattle.verilog_rules.specs.Declarations.{port_word}
use Rattle.verilog_tree.specs.declared.module.Port.{Port}
use Rattle.verilog_names.proofs.once.declare_ports.Goals as goal

pub loop-port-init : goal.loop-port-init
loop-port-init c = declares_none

pub loop-port-preserved : goal.loop-port-preserved
loop-port-preserved c =
    declares_more (λ (p : Port). port_word p ∷ []) c.args.ports.now c.loop-port.port-index _ _ c.loop-port-test.true refl c.loop-port.invariant c.in_ok-declare_port.ensures

pub returns : goal.returns
returns c =
    subst (λ ws. Declares c.args.known.now c.loop-port.known c.args.least.now c.loop-port.least ws) (port_words_are c.args.ports.now)
    (declares_all (λ (p : Port). port_word p ∷ []) c.args.ports.now c.loop-port.port-index (omega (arith, c.loop-port-test.false)) c.loop-port.invariant)
