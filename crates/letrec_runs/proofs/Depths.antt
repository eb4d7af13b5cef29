-- How deep a letrec with another right side is.
use Rattle.std.proofs.Common.{◌≤◌, ◌<◌, ℕ, zero, suc, arith}
use Rattle.chw_types.specs.TypeTree.{TypeTree}
use Rattle.chw_terms.specs.Depth.{depth, parts_depth, group_depth}
use Rattle.chw_terms.specs.TermTree.{TermTree, letrec, Group, no_bindings, bind}
use Rattle.chw_typing.specs.Groups.{joined}

group_put : (front back : Group) (t : TypeTree) (x y : TermTree) (m : ℕ) → group_depth (joined front (bind t x back)) ≤ m → suc (parts_depth y) ≤ m → group_depth (joined front (bind t y back)) ≤ m
unfolding parts_depth
group_put no_bindings back t x y m h k = omega (arith, h, k)
group_put (bind u z front) back t x y m h k =
    let rest : group_depth (joined front (bind t y back)) ≤ m = group_put front back t x y m (omega (arith, h)) k in
    omega (arith, h, rest)

pub depth_put : (front back : Group) (t : TypeTree) (x y e : TermTree) (m : ℕ) → depth (letrec (joined front (bind t x back)) e) ≤ m → depth y < m → depth (letrec (joined front (bind t y back)) e) ≤ m
unfolding parts_depth
depth_put front back t x y e zero h k = absurd (omega (arith, k))
depth_put front back t x y e (suc m) h k =
    let g : group_depth (joined front (bind t y back)) ≤ m = group_put front back t x y m (omega (arith, h)) (omega (arith, k)) in
    omega (arith, h, g)
