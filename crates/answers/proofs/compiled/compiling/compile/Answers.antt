use Rattle.std.proofs.Common.{sym, subst}
use Rattle.net_rules.specs.WellFormed.{WellFormed}
use Rattle.netlist.specs.declared.net.Net.{Net}
use Rattle.answers.specs.Compilation.Compiling.{HasCircuit, HasCounts, HasNet}
use Rattle.answers.specs.Compilation.Compiling.IsCompileFault.{no_circuit}
use Rattle.answers.proofs.Compilation.Ends.{built_means, fault_weaker, on_ok_three}
use Rattle.answers.proofs.compiled.compiling.compile.Goals as goal

pub returns-clause-compiled : goal.returns-clause-compiled
returns-clause-compiled c =
    let net = c.in_ok-counted.counted.net in
    let p = c.args.program.now in
    let budget = c.args.budget in
    on_ok_three c.circuit_of.result
    (λ made of steps definitions.
    let back = sym of.same in
    record {
      counts = subst (λ n. HasCounts p budget n made.definitions) (sym steps)
          (subst (HasCounts p budget c.in_ok-counted.counted.steps) (sym definitions) c.in_ok-counted.ensures.counts);
      compiles = record {
        net_is = subst (HasNet p budget) back c.in_ok-counted.ensures.net;
        circuit = subst (λ (n : Net). HasCircuit n made.flat) back of.circuit;
      };
      well_formed = subst WellFormed back c.in_ok-counted.ensures.well_formed;
      means = built_means c.built_nets_mean.ensures c.requires.tidy c.requires.typed c.in_ok-counted.ensures.net
          c.in_ok-counted.ensures.well_formed of.circuit.is of.sound of.order;
      sound = of.sound;
      order = of.order;
    })
    c.circuit_of.ensures.circuit c.circuit_of.ensures.steps c.circuit_of.ensures.definitions

pub returns-clause-fault : goal.returns-clause-fault
returns-clause-fault c =
    fault_weaker c.circuit_of.result _ _ (λ fault wrong. no_circuit c.in_ok-counted.counted.net fault c.in_ok-counted.ensures.net wrong)
    c.circuit_of.ensures.fault
