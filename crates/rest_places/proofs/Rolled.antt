-- At rest no primitive that is unrolled has all its arguments.
use Rattle.std.proofs.Common.{◌≡◌, refl, List, Some, None}
use Rattle.std.specs.Prelude.{Option, IsSome, option_map}
use Rattle.chw_types.specs.TypeTree.{TypeTree}
use Rattle.chw_prims.specs.declared.prim.Primitive.{Primitive as Prim}
use Rattle.chw_prims.specs.declared.prim.Primitive.TheVariants.{VAt}
use Rattle.chw_prims.specs.Schemas.{row_of}
use Rattle.chw_terms.specs.declared.rule.Rule.TheVariants.{Unroll}
use Rattle.chw_terms.specs.declared.term.Arg.{Arg}
use Rattle.chw_terms.specs.TermTree.{TermTree, prim}
use Rattle.chw_terms.specs.TermView.{applied}
use Rattle.chw_typing.specs.Given.{types_then}
use Rattle.rewriting.specs.Origins.{Origins, setting_at}
use Rattle.rewriting.specs.Primitives.{HasUnnamedVector, unroll}
use Rattle.rewriting.specs.Spots.{Spot}
use Rattle.rest_places.specs.PrimLaws.{IsRowUnrolled}
use Rattle.rest_places.specs.Rest.{IsRestPlace}
use Rattle.rest_places.specs.Spines.{PrimGiven}
use Rattle.rest_places.proofs.Steps.{no_core}
use Rattle.rest_places.proofs.Unrolled.{can_unroll}

some_mapped : {X Y : Type 0} (f : X → Y) (x : Option X) → IsSome x → (y : Y) × (option_map f x ≡ Some y)
some_mapped f (Some x) h = (f x, refl)
some_mapped f None h = absurd cc

pub no_unrolled : (o : Origins) (at : Spot) (p : Prim) (types : List TypeTree) (es : List TermTree) (more : List Arg) (t : TypeTree) → IsRowUnrolled (row_of p) → (p ≡ VAt → HasUnnamedVector o at es) → PrimGiven (setting_at o) at.vars p types es more t → IsRestPlace o at (applied (applied (prim p) (types_then types es)) more) t → ⊥
no_unrolled o at p types es more t on unnamed given rest =
    let can = can_unroll o at p types es more t on given rest in
    let is = some_mapped _ _ can.on_types in
    no_core Unroll (applied (prim p) (types_then types es)) is.0 more (unroll can unnamed is.1) rest
