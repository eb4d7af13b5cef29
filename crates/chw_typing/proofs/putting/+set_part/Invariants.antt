use Rattle.std.proofs.Common.{◌+◌, ◌*◌, length}
use Rattle.chw_typing.proofs.putting.+set_part.Given as goal

-- the calls go from a term to its head or an argument of it, from there to a list of parts, and from each of these to a part, behind
-- one more number of the path
abbrev pub decreases-set_part : goal.decreases-set_part
decreases-set_part l = 3 * length l.path.now

abbrev pub decreases-set_in_arg : goal.decreases-set_in_arg
decreases-set_in_arg l = 3 * length l.rest.now + 2

abbrev pub decreases-set_in_head : goal.decreases-set_in_head
decreases-set_in_head l = 3 * length l.rest.now + 2

abbrev pub decreases-set_in_group : goal.decreases-set_in_group
decreases-set_in_group l = 3 * length l.rest.now + 1

abbrev pub decreases-set_in_elements : goal.decreases-set_in_elements
decreases-set_in_elements l = 3 * length l.rest.now + 1

abbrev pub decreases-set_in_case : goal.decreases-set_in_case
decreases-set_in_case l = 3 * length l.rest.now + 1

abbrev pub decreases-set_in_term : goal.decreases-set_in_term
decreases-set_in_term l = 3 * length l.rest.now + 1

abbrev pub decreases-set_in_body : goal.decreases-set_in_body
decreases-set_in_body l = 3 * length l.rest.now + 1
