use Rattle.std.proofs.Common.{◌∙◌, ◌++◌, ◌∷◌, [], ap, ℕ}
use Rattle.std.proofs.lemmas.Result.{on_ok_weaker}
use Rattle.net_built.specs.Terms.{variable}
use Rattle.net_built.specs.Wires.{wires_from}
use Rattle.value_build.specs.InScope.{as_variables}
use Rattle.circuit_build.proofs.bodies.push_port.Goals as goal

pub returns : goal.returns
returns c =
    on_ok_weaker c.push.result
    (λ is. is ∙ ap (λ ws. as_variables c.args.scope.now.items ++ variable c.args.t.now ws ∷ [])
    (c.as_slice.ensures ∙ c.in_ok-wires.ensures ∙ ap (λ (n : ℕ). wires_from c.args.number n) c.in_ok-count.ensures))
    c.push.ensures
