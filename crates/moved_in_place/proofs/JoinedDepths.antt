-- A letrec that joined makes no term deeper.
use Rattle.std.proofs.Common.{◌≡◌, ◌≤◌, suc, max, refl, arith, List, [], ◌∷◌}
use Rattle.chw_types.specs.TypeMoves.{raised}
use Rattle.chw_types.specs.TypeTree.{TypeTree}
use Rattle.chw_terms.specs.declared.rule.Rule.{Rule}
use Rattle.chw_terms.specs.declared.rule.Rule.TheVariants.{Flat}
use Rattle.chw_terms.specs.declared.term.Arg.{Arg}
use Rattle.chw_terms.specs.declared.term.Arg.TheVariants.{OfTerm, OfType}
use Rattle.chw_terms.specs.Depth.{depth, in_spine, parts_depth, group_depth}
use Rattle.chw_terms.specs.TermMoves.{rename, rename_group, exchanged}
use Rattle.chw_terms.specs.TermTree.{TermTree, app, ty_app, letrec, Group, no_bindings, bind, size_of}
use Rattle.chw_terms.specs.TermView.{applied}
use Rattle.chw_typing.specs.Groups.{joined}
use Rattle.rewriting.specs.Origins.{Origins}
use Rattle.rewriting.specs.Spots.{Spot}
use Rattle.rewriting.specs.Instances.{HasInstance, on_core, on_whole}
use Rattle.rewriting.specs.Lets.{OfLets, flat_side, flat_body, dead, inline, side_joined}
use Rattle.rewriting.specs.Shapes.{shift_group}
use Rattle.moved_in_place.proofs.Depths.{parts_renamed, group_renamed}

-- two groups that became one
group_joined : (g h : Group) → group_depth (joined g h) ≡ max (group_depth g) (group_depth h)
unfolding parts_depth
group_joined no_bindings h = omega arith
group_joined (bind t e g) h = let rest = group_joined g h in omega (arith, rest)

-- a right side that joined
side_no_deeper : (front : Group) (t : TypeTree) (cs : Group) (x : TermTree) (back : Group) → group_depth (side_joined front t cs x back) ≤ group_depth (joined front (bind t (letrec cs x) back))
unfolding parts_depth
side_no_deeper front t cs x back =
    let n = suc (size_of back) in
    let m = size_of cs in
    let front' = shift_group front n m in
    let cs' = rename_group cs (exchanged m n) in
    let x' = rename x (exchanged m n) in
    let back' = shift_group back n m in
    omega (
      arith,
      group_joined front' (joined cs' (bind t x' back')),
      group_joined cs' (bind t x' back'),
      group_joined front (bind t (letrec cs x) back),
      group_renamed front (raised n m),
      group_renamed cs (exchanged m n),
      parts_renamed x (exchanged m n),
      group_renamed back (raised n m),
    )

-- alone and as the head of a spine
record IsNoDeeper (e e' : TermTree) : Type 0 where
  parts : parts_depth e' ≤ parts_depth e
  spine : in_spine e' (parts_depth e') ≤ in_spine e (parts_depth e)

made_no_deeper : {o : Origins} {at : Spot} {r : Rule} {e e' : TermTree} → OfLets o at r e e' → r ≡ Flat → IsNoDeeper e e'
unfolding parts_depth
made_no_deeper (flat_side front t cs x back {e = e} h n) q =
    let n = suc (size_of back) in
    let m = size_of cs in
    let g = side_no_deeper front t cs x back in
    let b = parts_renamed e (raised n m) in
    record { parts = omega (arith, g, b); spine = omega (arith, g, b) }
made_no_deeper (flat_body {g = g} {cs = cs} {x = x} h n) q =
    let whole = group_joined (shift_group g 0 (size_of cs)) cs in
    let room = group_renamed g (raised 0 (size_of cs)) in
    record { parts = omega (arith, whole, room); spine = omega (arith, whole, room) }
made_no_deeper (dead h m d) q = absurd cc
made_no_deeper (inline front t x back h n d s) q = absurd cc

-- with arguments behind
applied_no_deeper : (args : List Arg) (e e' : TermTree) → IsNoDeeper e e' → parts_depth (applied e' args) ≤ parts_depth (applied e args)
unfolding parts_depth
applied_no_deeper [] e e' h = h.parts
applied_no_deeper (OfTerm a ∷ args) e e' h =
    let s = h.spine in
    let one : parts_depth (app e' a) ≤ parts_depth (app e a) = omega (arith, s) in
    applied_no_deeper args (app e a) (app e' a) (record { parts = one; spine = one })
applied_no_deeper (OfType t ∷ args) e e' h =
    let s = h.spine in
    let one : parts_depth (ty_app e' t) ≤ parts_depth (ty_app e t) = omega (arith, s) in
    applied_no_deeper args (ty_app e t) (ty_app e' t) (record { parts = one; spine = one })

pub instance_no_deeper : {o : Origins} {at : Spot} {e new : TermTree} → HasInstance o at Flat e new → depth new ≤ depth e
instance_no_deeper (on_core core core' rest m typed) = let h = applied_no_deeper rest core core' (made_no_deeper m refl) in omega (arith, h)
instance_no_deeper (on_whole w typed) = elim w [ ]
