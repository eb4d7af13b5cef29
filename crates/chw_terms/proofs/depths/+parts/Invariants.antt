use Rattle.std.proofs.Common.{◌≡◌, drop, max}
use Rattle.chw_types.specs.Polynomials.{ended}
use Rattle.chw_terms.specs.Depth.{depth}
use Rattle.chw_terms.specs.Deepest.{arg_depth, binding_depth, alt_depth, deepest_of}
use Rattle.chw_terms.proofs.depths.+parts.Given as goal

-- in each loop the deepest of those so far and of what is left is the deepest of all
abbrev pub invariant-parts-loop-a : goal.invariant-parts-loop-a
invariant-parts-loop-a l = max l.deepest (ended (deepest_of arg_depth (drop l.a-index l.a-items))) ≡ max l.initial.deepest (ended (deepest_of arg_depth l.a-items))

abbrev pub invariant-parts_of_head-loop-b : goal.invariant-parts_of_head-loop-b
invariant-parts_of_head-loop-b l = max l.deepest (ended (deepest_of binding_depth (drop l.b-index l.b-items))) ≡ ended (deepest_of binding_depth l.b-items)

abbrev pub invariant-parts_of_head-loop-e : goal.invariant-parts_of_head-loop-e
invariant-parts_of_head-loop-e l = max l.deepest (ended (deepest_of depth (drop l.e-index l.e-items))) ≡ ended (deepest_of depth l.e-items)

abbrev pub invariant-parts_of_head-loop-a : goal.invariant-parts_of_head-loop-a
invariant-parts_of_head-loop-a l = max l.deepest (ended (deepest_of alt_depth (drop l.a-index l.a-items))) ≡ ended (deepest_of alt_depth l.a-items)
