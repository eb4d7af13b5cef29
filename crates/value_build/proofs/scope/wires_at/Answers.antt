use Rattle.std.proofs.Common.{◌∙◌, ap, sym, arith}
use Rattle.value_build.specs.declared.scope.Variable.{Variable as Held}
use Rattle.value_build.proofs.Scopes.{wires_held, wires_past}
use Rattle.value_build.proofs.scope.wires_at.Goals as goal

pub returns-then-scope-number : goal.returns-then-scope-number
returns-then-scope-number c = sym (wires_past c.args.scope.now c.args.x.number (omega (arith, c.if-scope-number.true)))

pub returns : goal.returns
returns c =
    c.as_slice.ensures
    ∙ ap (λ (v : Held). v.wires) (sym c.index-scope-scope.is)
    ∙ sym (wires_held c.args.scope.now c.args.x.number c.index-scope-scope.result (omega (arith, c.if-scope-number.false)) c.index-scope-scope.is)
