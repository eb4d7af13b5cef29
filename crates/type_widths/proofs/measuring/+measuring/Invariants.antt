-- what the loops keep, and what falls from call to call: the data types to come, and then the parts that are measured
use Rattle.std.proofs.Common.{◌≡◌, ◌+◌, ◌*◌, take, drop}
use Rattle.std.specs.List.{AllZip}
use Rattle.chw_types.specs.TypeSize.{tree_size}
use Rattle.chw_layout.specs.Sizes.{fields_size, cons_size, datas_size}
use Rattle.type_widths.specs.Outcomes.{ComesUnder, FieldsCome, ConsCome}
use Rattle.type_widths.proofs.measuring.+measuring.Given as goal

abbrev pub decreases-outcome_of : goal.decreases-outcome_of
decreases-outcome_of l = l.left * datas_size l.widths.now + (tree_size l.t.now + 1)

abbrev pub decreases-outcomes_of : goal.decreases-outcomes_of
decreases-outcomes_of l = l.left * datas_size l.widths.now + fields_size l.types.now

abbrev pub decreases-data_outcome : goal.decreases-data_outcome
decreases-data_outcome l = l.left * datas_size l.widths.now + 1

abbrev pub decreases-new_outcome : goal.decreases-new_outcome
decreases-new_outcome l = l.left * datas_size l.widths.now

abbrev pub decreases-cons_outcome : goal.decreases-cons_outcome
decreases-cons_outcome l = l.left * datas_size l.widths.now + cons_size l.cons.now

abbrev pub decreases-fields_outcome : goal.decreases-fields_outcome
decreases-fields_outcome l = l.left * datas_size l.widths.now + fields_size l.fields.now

abbrev pub invariant-outcomes_of-loop-t : goal.invariant-outcomes_of-loop-t
invariant-outcomes_of-loop-t l = (l.widths ≡ l.fn.widths) × AllZip (ComesUnder l.fn.widths l.env) (take l.t-index l.types) l.outs.items

abbrev pub invariant-cons_outcome-loop-i : goal.invariant-cons_outcome-loop-i
invariant-cons_outcome-loop-i l = (l.widths ≡ l.fn.widths) × ConsCome l.fn.widths l.env (drop l.i l.cons) l.widest

abbrev pub invariant-fields_outcome-loop-i : goal.invariant-fields_outcome-loop-i
invariant-fields_outcome-loop-i l = (l.widths ≡ l.fn.widths) × FieldsCome l.fn.widths l.env (drop l.i l.fields) l.whole
