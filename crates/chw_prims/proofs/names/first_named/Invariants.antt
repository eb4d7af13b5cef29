-- none of the primitives so far has the name
use Rattle.std.proofs.Common.{◌≡◌, ℕ, ◌<◌, get_or}
use Rattle.chw_prims.specs.declared.prim.Primitive.TheVariants.{AddU}
use Rattle.chw_prims.specs.Names.{name_of}
use Rattle.chw_prims.proofs.names.first_named.Given as goal

abbrev pub invariant-loop-primitive : goal.invariant-loop-primitive
invariant-loop-primitive l = (k : ℕ) → k < l.primitive-index → name_of (get_or l.primitives k AddU) ≡ l.sought → ⊥
