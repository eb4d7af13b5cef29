use Rattle.std.proofs.Common.{◌∙◌, ◌++◌, ◌∷◌, [], ap, ℕ}
use Rattle.std.proofs.lemmas.Result.{on_ok_weaker}
use Rattle.net_built.specs.Data.{value_part}
use Rattle.net_built.specs.Terms.{variable}
use Rattle.net_built.specs.Wires.{new_wires}
use Rattle.value_build.specs.InScope.{as_variables}
use Rattle.value_build.proofs.bodies.push_input.Goals as goal

pub returns-clause-input : goal.returns-clause-input
returns-clause-input c =
    on_ok_weaker c.push_present.result
    (λ is. record {
      widths = c.in_ok-width.width ∷ [];
      parts = value_part c.in_ok-width.ensures.width;
      inputs = is;
      bound = c.in_ok-push_part.ensures
          ∙ ap (λ (n : ℕ). as_variables c.args.scope.now.items ++ variable c.args.t.now (new_wires n (c.in_ok-width.width ∷ [])) ∷ [])
          (c.in_ok-number.ensures.narrow ∙ c.len.ensures ∙ c.args.inputs.now.ok.0);
    })
    c.push_present.ensures
