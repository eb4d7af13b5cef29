use Rattle.std.proofs.Common.{◌∙◌, ◌+◌, ◌++◌, ap, arith, ℕ, sym}
use Rattle.std.specs.List.{slice_index}
use Rattle.std.proofs.lemmas.Grind.{get_or_default_zero}
use Rattle.net_built.specs.Data.{variables_from}
use Rattle.value_build.specs.InScope.{as_variables}
use Rattle.value_build.proofs.Measures.{variables_grown, variables_whole, one_wire_count}
use Rattle.value_build.proofs.fields.enter_fields.Goals as goal

pub loop-i-preserved : goal.loop-i-preserved
loop-i-preserved c =
    variables_grown c.args.types.now c.args.widths.now c.loop-i.i c.loop-i.number c.in_ok-number.number (slice_index c.args.widths.now c.loop-i.i) c.index-types-i.result
    (as_variables c.loop-i.scope.items) (as_variables c.push_part.new.scope.items)
    (as_variables c.args.scope.now.items ++ variables_from c.args.first c.args.types.now c.args.widths.now)
    c.loop-i-test.true (omega (arith, c.requires, c.loop-i-test.true)) c.index-types-i.is
    (sym (get_or_default_zero c.args.widths.now c.loop-i.i (slice_index c.args.widths.now c.loop-i.i) (omega (arith, c.requires, c.loop-i-test.true))))
    c.in_ok-push_part.ensures (c.in_ok-number.ensures ∙ ap (λ (n : ℕ). c.loop-i.number + n) (c.min.ensures ∙ sym (one_wire_count (slice_index c.args.widths.now c.loop-i.i))))
    c.loop-i.invariant

pub returns : goal.returns
returns c =
    variables_whole c.args.types.now c.args.widths.now c.loop-i.i c.loop-i.number (as_variables c.loop-i.scope.items)
    (as_variables c.args.scope.now.items ++ variables_from c.args.first c.args.types.now c.args.widths.now)
    (omega (arith, c.loop-i-test.false)) c.loop-i.invariant
