-- What makes the parts of a term places.
use Rattle.std.specs.Prelude.{◌≡◌, ◌⊎◌, ◌<◌, ◌≤◌, ℕ}
use Rattle.std.specs.Prelude.{List, [], length, Some, slice_get}
use Rattle.chw_types.specs.declared.declarations.Data.{Data}
use Rattle.type_ports.specs.Representable.{Representable}
use Rattle.chw_types.specs.TypeTree.{TypeTree}
use Rattle.chw_prims.specs.declared.prim.Primitive.{Primitive as Prim}
use Rattle.chw_prims.specs.Schemas.{schema_type}
use Rattle.chw_terms.specs.declared.scene.Mode.{Mode}
use Rattle.chw_terms.specs.declared.scene.Mode.TheVariants.{C, K}
use Rattle.chw_terms.specs.declared.term.Arg.{Arg}
use Rattle.chw_terms.specs.declared.term.Arg.TheVariants.{OfType}
use Rattle.chw_terms.specs.declared.term.Pattern.{Pattern}
use Rattle.chw_terms.specs.TermTree.{TermTree, var}
use Rattle.chw_typing.specs.HeadTypes.{PatternOf}
use Rattle.chw_typing.specs.Typing.{HasType}
use Rattle.rewriting.specs.Named.{IsNamed}
use Rattle.rewriting.specs.Origins.{Origins, setting_at}
use Rattle.rewriting.specs.Spots.{Spot, head_mode, asked_for}
use Rattle.rewriting.specs.Spots.{LooksAt, BeginsWith, IsOnWords, TakesElement}

-- the pattern is one for values of the type
abbrev pub HasFields : List Data → TypeTree → Pattern → Type 0
HasFields datas u q = (fields : List TypeTree) × PatternOf datas u q fields

-- the term is a variable of this type
abbrev pub IsVariable : List TypeTree → TermTree → TypeTree → Type 0
IsVariable vars e u = (x : ℕ) × (e ≡ var x) × (slice_get vars x ≡ Some u)

-- the term has a type, and it isn't named there
abbrev pub IsUnnamed : Origins → Spot → TermTree → Type 0
IsUnnamed o at e =
    (u : TypeTree) × HasType (setting_at o) [] at.vars e u
    × (IsNamed o.program.datas at.mode u → ⊥)

-- of so many arguments of a primitive in a constant, the one of this number is active
abbrev pub IsConstantAt : Prim → ℕ → ℕ → Type 0
IsConstantAt p count i =
    (i < asked_for (schema_type p))
    × (TakesElement p ⊎ (IsOnWords p × (asked_for (schema_type p) ≤ count)))

-- the primitive looks at this argument, of a type that isn't named
abbrev pub IsDemandedAt : Origins → Spot → Prim → ℕ → TermTree → Type 0
IsDemandedAt o at p i a = LooksAt p i × IsUnnamed o at a

-- the primitive begins with this argument, at a representable payload
abbrev pub IsContentAt : List Data → Prim → List Arg → ℕ → Type 0
IsContentAt datas p args i =
    (j : ℕ) × (t : TypeTree) × BeginsWith p i j × (slice_get args j ≡ Some (OfType t))
    × Representable datas t

-- why an argument of a primitive is active, and in which mode: of a constant, demanded, or what
-- the primitive begins with
pub data WhyActive (o : Origins) (at : Spot) (p : Prim) (args : List Arg) (i : ℕ) (a : TermTree)
    : Mode → Type 0 where
  why_constant : at.mode ≡ K → IsConstantAt p (length args) i → WhyActive o at p args i a K
  why_demanded : (at.mode ≡ K → ⊥) → IsDemandedAt o at p i a
      → WhyActive o at p args i a (head_mode at.mode)
  why_content : at.mode ≡ C → IsContentAt o.program.datas p args i → WhyActive o at p args i a K
