use Rattle.std.proofs.Common.{◌∙◌, sym, Some}
use Rattle.net_built.specs.Terms.{variable}
use Rattle.value_build.proofs.Scopes.{held_at}
use Rattle.value_build.proofs.scope.variable_at.Goals as goal

pub returns : goal.returns
returns c =
    let at = c.index-scope-scope in
    held_at c.args.scope.now c.args.x.number at.result c.requires at.is
    ∙ (λ i. Some (variable (sym c.in_ok-ty.ensures i) (sym (c.in_ok-wires.ensures ∙ c.as_slice.ensures) i)))
