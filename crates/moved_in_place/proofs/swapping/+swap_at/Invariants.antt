use Rattle.std.proofs.Common.{◌+◌, ◌*◌, length}
use Rattle.moved_in_place.proofs.swapping.+swap_at.Given as goal

-- the calls go from a term to its head or an argument of it, from there to a list of parts, and from each of these to a part, behind
-- one more number of the path
abbrev pub decreases-swap_at : goal.decreases-swap_at
decreases-swap_at l = 3 * length l.path.now

abbrev pub decreases-swap_in_arg : goal.decreases-swap_in_arg
decreases-swap_in_arg l = 3 * length l.rest.now + 2

abbrev pub decreases-swap_in_head : goal.decreases-swap_in_head
decreases-swap_in_head l = 3 * length l.rest.now + 2

abbrev pub decreases-swap_in_group : goal.decreases-swap_in_group
decreases-swap_in_group l = 3 * length l.rest.now + 1

abbrev pub decreases-swap_in_elements : goal.decreases-swap_in_elements
decreases-swap_in_elements l = 3 * length l.rest.now + 1

abbrev pub decreases-swap_in_case : goal.decreases-swap_in_case
decreases-swap_in_case l = 3 * length l.rest.now + 1

abbrev pub decreases-swap_in_term : goal.decreases-swap_in_term
decreases-swap_in_term l = 3 * length l.rest.now + 1

abbrev pub decreases-swap_in_body : goal.decreases-swap_in_body
decreases-swap_in_body l = 3 * length l.rest.now + 1
