use Rattle.std.proofs.Common.{◌+◌, ◌*◌, ◌≤◌}
use Rattle.chw_types.specs.Polynomials.{greatest}
use Rattle.chw_types.specs.TypeSize.{tree_size}
use Rattle.chw_layout.specs.Outcomes.{AreRight}
use Rattle.chw_layout.specs.Sizes.{fields_size, cons_size, datas_size}
use Rattle.chw_layout.proofs.Loops.{FieldsLeft, ConsLeft, ArgumentsCome}
use Rattle.chw_layout.proofs.measuring.+measuring.Given as goal

abbrev pub decreases-outcome_of : goal.decreases-outcome_of
decreases-outcome_of l = l.left * datas_size l.datas.now + (tree_size l.t.now + 1)

abbrev pub decreases-data_outcome : goal.decreases-data_outcome
decreases-data_outcome l = l.left * datas_size l.datas.now + 1

abbrev pub decreases-new_outcome : goal.decreases-new_outcome
decreases-new_outcome l = l.left * datas_size l.datas.now

abbrev pub decreases-cons_outcome : goal.decreases-cons_outcome
decreases-cons_outcome l = l.left * datas_size l.datas.now + cons_size l.cons.now

abbrev pub decreases-fields_outcome : goal.decreases-fields_outcome
decreases-fields_outcome l = l.left * datas_size l.datas.now + fields_size l.fields.now

abbrev pub invariant-outcome_of-loop-arg : goal.invariant-outcome_of-loop-arg
invariant-outcome_of-loop-arg l = AreRight l.datas l.known.items × ArgumentsCome l.datas l.env l.arg-items l.arg-index l.outs.items

abbrev pub invariant-cons_outcome-loop-con : goal.invariant-cons_outcome-loop-con
invariant-cons_outcome-loop-con l = AreRight l.datas l.known.items × ConsLeft l.datas l.env l.cons l.con-index l.widest

abbrev pub invariant-fields_outcome-loop-field : goal.invariant-fields_outcome-loop-field
invariant-fields_outcome-loop-field l = AreRight l.datas l.known.items × FieldsLeft l.datas l.env l.fields l.field-index l.sum × (l.sum ≤ greatest)
