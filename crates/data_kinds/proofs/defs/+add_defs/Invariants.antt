-- what is added, with what is left, is all
use Rattle.std.proofs.Common.{◌≡◌, ◌++◌, drop, flat_map}
use Rattle.chw_terms.specs.TermView.{terms_of, group_of, alts_of}
use Rattle.data_kinds.specs.Named.{arg_defs, defs_in_all, defs_in_group, defs_in_alts}
use Rattle.data_kinds.proofs.defs.+add_defs.Given as goal

abbrev pub invariant-add_defs-loop-arg : goal.invariant-add_defs-loop-arg
invariant-add_defs-loop-arg l = l.found.items ++ flat_map arg_defs (drop l.arg-index l.arg-items) ≡ l.initial.found.items ++ flat_map arg_defs l.arg-items

abbrev pub invariant-add_head_defs-loop-binding : goal.invariant-add_head_defs-loop-binding
invariant-add_head_defs-loop-binding l = l.found.items ++ defs_in_group (group_of (drop l.binding-index l.binding-items)) ≡ l.initial.found.items ++ defs_in_group (group_of l.binding-items)

abbrev pub invariant-add_head_defs-loop-element : goal.invariant-add_head_defs-loop-element
invariant-add_head_defs-loop-element l = l.found.items ++ defs_in_all (terms_of (drop l.element-index l.element-items)) ≡ l.initial.found.items ++ defs_in_all (terms_of l.element-items)

abbrev pub invariant-add_head_defs-loop-alternative : goal.invariant-add_head_defs-loop-alternative
invariant-add_head_defs-loop-alternative l = l.found.items ++ defs_in_alts (alts_of (drop l.alternative-index l.alternative-items)) ≡ l.initial.found.items ++ defs_in_alts (alts_of l.alternative-items)
