-- what is added so far, what is left, and what the calls go into
use Rattle.std.proofs.Common.{◌≡◌, ◌+◌, ◌*◌, drop}
use Rattle.chw_types.specs.Arguments.{arguments}
use Rattle.chw_types.specs.TypeView.{trees_of}
use Rattle.chw_terms.specs.TermSize.{tree_size, terms_size, args_size}
use Rattle.chw_terms.specs.TermView.{terms_of}
use Rattle.value_build.specs.Arguments.{terms_in}
use Rattle.circuit_build.specs.Constants.{FieldsHaveBits}
use Rattle.circuit_build.proofs.ConstantBits.{ElementsSoFar, FieldsSoFar}
use Rattle.circuit_build.proofs.constants.+constants.Given as goal

abbrev pub invariant-add_elements-loop-element : goal.invariant-add_elements-loop-element
invariant-add_elements-loop-element l =
    ElementsSoFar l.initial.base.datas l.t l.elements l.element-index l.initial.into.items l.into.items × (l.base ≡ l.initial.base)

abbrev pub invariant-add_fields-loop-arg : goal.invariant-add_fields-loop-arg
invariant-add_fields-loop-arg l =
    FieldsSoFar l.initial.base.datas l.fields (arguments (trees_of l.types)) l.args l.arg-index l.next l.initial.into.items l.into.items
    × FieldsHaveBits l.initial.base.datas (drop l.next l.fields) (arguments (trees_of l.types)) (terms_in (drop l.arg-index l.args))
    × (l.base ≡ l.initial.base)

abbrev pub decreases-add_bits : goal.decreases-add_bits
decreases-add_bits l = 4 * tree_size l.e.now + 3

abbrev pub decreases-add_elements : goal.decreases-add_elements
decreases-add_elements l = 4 * terms_size (terms_of l.elements.now) + 3

abbrev pub decreases-add_data : goal.decreases-add_data
decreases-add_data l = 4 * args_size l.args.now + 4

abbrev pub decreases-add_fields : goal.decreases-add_fields
decreases-add_fields l = 4 * args_size l.args.now + 3

abbrev pub decreases-add_field : goal.decreases-add_field
decreases-add_field l = 4 * tree_size l.e.now + 4
