use Rattle.std.proofs.Common.{◌≡◌, drop, max}
use Rattle.chw_types.specs.Polynomials.{ended}
use Rattle.chw_terms.specs.Depth.{type_depth}
use Rattle.chw_terms.specs.Deepest.{deepest_of}
use Rattle.chw_terms.proofs.depths.+type_depth.Given as goal

-- the deepest of those so far and of what is left is the deepest of all
abbrev pub invariant-loop-arg : goal.invariant-loop-arg
invariant-loop-arg l = max l.deepest (ended (deepest_of type_depth (drop l.arg-index l.arg-items))) ≡ ended (deepest_of type_depth l.arg-items)
