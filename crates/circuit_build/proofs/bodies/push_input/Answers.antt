use Rattle.std.proofs.Common.{◌∙◌, ◌++◌, ◌∷◌, [], ap}
use Rattle.std.proofs.lemmas.Result.{on_ok_weaker}
use Rattle.net_built.specs.Terms.{variable}
use Rattle.net_built.specs.Wires.{new_wires, present}
use Rattle.value_build.specs.InScope.{as_variables}
use Rattle.circuit_build.proofs.bodies.push_input.Goals as goal

pub returns-clause-input : goal.returns-clause-input
returns-clause-input c =
    let ws = c.in_ok-widths.widths.items in
    on_ok_weaker c.push_widths.result
    (λ is. record {
      widths = ws;
      parts = c.in_ok-widths.ensures.parts;
      inputs = is ∙ ap (λ vs. c.args.inputs.now.items ++ present vs) c.deref-2.ensures.value;
      bound = c.in_ok-push_port.ensures
          ∙ (λ i. as_variables c.args.scope.now.items ++ variable c.args.t.now (new_wires ((c.in_ok-number.ensures.narrow ∙ c.len.ensures ∙ c.args.inputs.now.ok.0) i) (c.deref.ensures.value i)) ∷ []);
    })
    c.push_widths.ensures
