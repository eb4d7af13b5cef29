-- Where a term stands, and what a primitive or a case asks of what stands below it.
use Rattle.std.specs.Prelude.{◌≡◌, ◌⊎◌, ℕ, suc, Bool, true, false, List, reverse}
use Rattle.std.specs.Prelude.{if◌then◌else◌, option_map, unwrap_or}
use Rattle.chw_types.specs.declared.kind.Kind.{Kind}
use Rattle.chw_types.specs.declared.kind.Kind.TheVariants.{Val}
use Rattle.chw_types.specs.declared.declarations.Data.{Data}
use Rattle.chw_types.specs.TypeTree.{TypeTree, fun, for_all}
use Rattle.chw_prims.specs.declared.prim.Primitive.{Primitive as Prim}
use Rattle.chw_prims.specs.declared.prim.Primitive.TheVariants.{VGet, VGetC, VAt, Fmap, Ap}
use Rattle.chw_prims.specs.declared.prim.Primitive.TheVariants.{Pure, Register, BlockRam}
use Rattle.chw_prims.specs.declared.row.Row.{Row}
use Rattle.chw_prims.specs.declared.row.Row.TheVariants.{Binary, WideSum, WideProduct, Unary}
use Rattle.chw_prims.specs.declared.row.Row.TheVariants.{Shift, Compare, Extend, Truncate, Cut}
use Rattle.chw_prims.specs.declared.row.Row.TheVariants.{Joined, Reduce, Packed, Unpacked}
use Rattle.chw_prims.specs.Schemas.{row_of}
use Rattle.chw_terms.specs.declared.scene.Mode.{Mode}
use Rattle.chw_terms.specs.declared.scene.Mode.TheVariants.{V, C, HV, HC, K}
use Rattle.chw_terms.specs.declared.scene.Place.{Place}
use Rattle.chw_terms.specs.declared.term.Pattern.TheVariants.{OfCon, OfLit}
use Rattle.chw_terms.specs.Constructors.{Constructor, con_at}
use Rattle.chw_terms.specs.TermTree.{Alts, alt}

-- where a term stands: the mode, whether what it gives is what the body gives, and the types of
-- the variables in scope, the innermost first
pub record Spot : Type 0 where
  pub mode : Mode
  pub result : Bool
  pub vars : List TypeTree

abbrev pub spot : Mode → Bool → List TypeTree → Spot
spot m r vs = record { mode = m; result = r; vars = vs }

abbrev pub spot_of : Place → Spot
spot_of at = spot at.mode at.result (reverse at.vars)

-- values and circuits are built by letrecs; a head isn't
abbrev pub HasLets : Mode → Type 0
HasLets V = Unit {0}
HasLets C = Unit {0}
HasLets _ = ⊥

-- the head of a value's place is a head of a value, and that of a circuit's place a head of a
-- circuit; constants stay constants
abbrev pub head_mode : Mode → Mode
head_mode V = HV
head_mode HV = HV
head_mode C = HC
head_mode HC = HC
head_mode K = K

abbrev pub is_val : Kind → Bool
is_val Val = true
is_val _ = false

-- the first alternative is for a literal, or for a constructor of a data type of values
abbrev pub is_of_values : List Data → Alts → Bool
is_of_values datas (alt (OfLit x bits) e more) = true
is_of_values datas (alt (OfCon c n) e more) =
    unwrap_or (option_map (λ (it : Constructor). is_val it.it.kind) (con_at datas c.number)) false
is_of_values datas _ = false

-- below a circuit, values that are looked at are constants
abbrev pub scrutinee_mode : List Data → Mode → Alts → Mode
scrutinee_mode datas C alts = if is_of_values datas alts then K else HC
scrutinee_mode datas HC alts = if is_of_values datas alts then K else HC
scrutinee_mode datas V alts = HV
scrutinee_mode datas HV alts = HV
scrutinee_mode datas K alts = K

-- how many types and terms a type asks for
abbrev pub asked_for : TypeTree → ℕ
asked_for (for_all k t) = suc (asked_for t)
asked_for (fun a b) = suc (asked_for b)
asked_for _ = 0

-- the arguments at which a primitive looks: the vector of which it takes an element, the signals
-- on which it maps or applies
abbrev pub LooksAt : Prim → ℕ → Type 0
LooksAt VGet i = i ≡ 3
LooksAt VGetC i = i ≡ 3
LooksAt VAt i = i ≡ 3
LooksAt Fmap i = i ≡ 4
LooksAt Ap i = (i ≡ 3) ⊎ (i ≡ 4)
LooksAt _ i = ⊥

-- the primitive's argument of the first number is its content at the beginning, and the type of
-- the second number is its payload
abbrev pub BeginsWith : Prim → ℕ → ℕ → Type 0
BeginsWith Pure i j = (i ≡ 2) × (j ≡ 1)
BeginsWith Register i j = (i ≡ 2) × (j ≡ 1)
BeginsWith BlockRam i j = (i ≡ 4) × (j ≡ 3)
BeginsWith _ i j = ⊥

-- the rows of primitives on words
abbrev pub IsRowOnWords : Row → Type 0
IsRowOnWords (Binary x) = Unit {0}
IsRowOnWords (WideSum x) = Unit {0}
IsRowOnWords (WideProduct x) = Unit {0}
IsRowOnWords (Unary x) = Unit {0}
IsRowOnWords (Shift x) = Unit {0}
IsRowOnWords (Compare x) = Unit {0}
IsRowOnWords (Extend x) = Unit {0}
IsRowOnWords (Truncate x) = Unit {0}
IsRowOnWords Cut = Unit {0}
IsRowOnWords Joined = Unit {0}
IsRowOnWords Reduce = Unit {0}
IsRowOnWords (Packed x) = Unit {0}
IsRowOnWords (Unpacked x) = Unit {0}
IsRowOnWords _ = ⊥

-- a primitive on words
abbrev pub IsOnWords : Prim → Type 0
IsOnWords p = IsRowOnWords (row_of p)

-- one that takes an element of a vector, by its number or by a word
abbrev pub TakesElement : Prim → Type 0
TakesElement VGet = Unit {0}
TakesElement VGetC = Unit {0}
TakesElement VAt = Unit {0}
TakesElement _ = ⊥
