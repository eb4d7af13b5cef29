-- what is added, with what is left, is all
use Rattle.std.proofs.Common.{◌≡◌, ◌++◌, drop, flat_map}
use Rattle.chw_terms.specs.TermView.{terms_of, group_of, alts_of}
use Rattle.normal_form.specs.MadeIn.{arg_made, made_in_all, made_in_group, made_in_alts}
use Rattle.normal_form.proofs.uses.+add_made.Given as goal

abbrev pub invariant-add_made-loop-arg : goal.invariant-add_made-loop-arg
invariant-add_made-loop-arg l = l.found.items ++ flat_map arg_made (drop l.arg-index l.arg-items) ≡ l.initial.found.items ++ flat_map arg_made l.arg-items

abbrev pub invariant-add_head_made-loop-binding : goal.invariant-add_head_made-loop-binding
invariant-add_head_made-loop-binding l = l.found.items ++ made_in_group (group_of (drop l.binding-index l.binding-items)) ≡ l.initial.found.items ++ made_in_group (group_of l.binding-items)

abbrev pub invariant-add_head_made-loop-element : goal.invariant-add_head_made-loop-element
invariant-add_head_made-loop-element l = l.found.items ++ made_in_all (terms_of (drop l.element-index l.element-items)) ≡ l.initial.found.items ++ made_in_all (terms_of l.element-items)

abbrev pub invariant-add_head_made-loop-alternative : goal.invariant-add_head_made-loop-alternative
invariant-add_head_made-loop-alternative l = l.found.items ++ made_in_alts (alts_of (drop l.alternative-index l.alternative-items)) ≡ l.initial.found.items ++ made_in_alts (alts_of l.alternative-items)
