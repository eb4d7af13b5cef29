-- Tables of forms: which bits are encodings of the values of types.
use Rattle.std.specs.Prelude.{◌≡◌, ℕ, zero, suc, ◌*◌, ◌<◌, Bool, List, [], ◌∷◌, ◌++◌, length}
use Rattle.std.specs.Prelude.{map, Some}
use Rattle.std.specs.List.{AllByRecursion, slice_get}
use Rattle.chw_types.specs.declared.declarations.ConDecl.{ConDecl}
use Rattle.chw_types.specs.declared.declarations.Data.{Data}
use Rattle.chw_types.specs.Arguments.{arguments}
use Rattle.chw_types.specs.TypeMoves.{Substitution, sub}
use Rattle.chw_types.specs.TypeTree.{TypeTree, TypeTrees, nat_lit, vector, data_of}
use Rattle.chw_layout.specs.Datum.{Datum}
use Rattle.chw_layout.specs.Encodes.{Encodes}
use Rattle.chw_layout.specs.Measured.{HasWidth, closed_value, tag_width}
use Rattle.data_forms.specs.declared.forms.Form.{Form}
use Rattle.data_forms.specs.declared.forms.Shape.{Shape}
use Rattle.data_forms.specs.declared.forms.Shape.TheVariants.{All, Row, Choice, Decoded}

-- the bits are the encoding of a value of the type
abbrev pub IsEncoding : List Data → TypeTree → List Bool → Type 0
IsEncoding datas t bits = (d : Datum) × Encodes datas t d bits

-- all bits encode values of the type, if they are as many as its width
abbrev pub TakesAll : List Data → TypeTree → Type 0
TakesAll datas t = (bits : List Bool) → HasWidth datas t (length bits) → IsEncoding datas t bits

-- the type at a place of the table; behind its end there is none, and a natural stands for it
abbrev pub type_at : List Form → ℕ → TypeTree
type_at [] i = nat_lit 0
type_at (f ∷ forms) zero = f.ty
type_at (f ∷ forms) (suc i) = type_at forms i

-- the types of these fields, with this put in
abbrev pub fields_of : List TypeTree → Substitution → List TypeTree
fields_of fields σ = map (λ f. sub f σ) fields

-- the types stand at these places, all of which are below a bound
pub record AreTypesAt (forms : List Form) (bound : ℕ) (types : List TypeTree) (places : List ℕ)
    : Type 0 where
  pub below : AllByRecursion (λ at. at < bound) places
  pub are : map (type_at forms) places ≡ types

-- so do the types of the fields of each of these constructors
abbrev pub AreConsAt : List Form → ℕ → Substitution → List ConDecl → List (List ℕ) → Type 0
AreConsAt forms bound σ [] [] = Unit {0}
AreConsAt forms bound σ (c ∷ cs) (places ∷ more) =
    AreTypesAt forms bound (fields_of c.fields σ) places × AreConsAt forms bound σ cs more
AreConsAt forms bound σ _ _ = ⊥

-- the shape is one of the type, by the forms before a place
pub data IsShape (datas : List Data) (forms : List Form) (place : ℕ)
    : TypeTree → Shape → Type 0 where
  is_all : {t : TypeTree} → TakesAll datas t → IsShape datas forms place t All
  is_row : {n t : TypeTree} {count at : ℕ} → count ≡ closed_value n → at < place
      → type_at forms at ≡ t → IsShape datas forms place (vector n t) (Row count at)
  is_choice : {d tag : ℕ} {it : Data} {ts : TypeTrees} {cons : List (List ℕ)}
      → slice_get datas d ≡ Some it → tag ≡ tag_width (length it.cons)
      → AreConsAt forms place (arguments ts) it.cons cons
      → IsShape datas forms place (data_of d ts) (Choice tag cons)
  is_decoded : {t : TypeTree} → IsShape datas forms place t Decoded

-- the form at a place has the width and a shape of its type
pub record IsForm (datas : List Data) (forms : List Form) (place : ℕ) (f : Form) : Type 0 where
  pub width : HasWidth datas f.ty f.width
  pub shape : IsShape datas forms place f.ty f.shape

-- so has each form of the table
abbrev pub AreForms : List Data → List Form → Type 0
AreForms datas forms =
    (i : ℕ) (f : Form) → slice_get forms i ≡ Some f → IsForm datas forms i f

-- nothing is changed, and more may stand behind it
abbrev pub Grows : List Form → List Form → Type 0
Grows old new = (more : List Form) × (new ≡ old ++ more)

-- the type stands at this place
pub record IsTypeAt (forms : List Form) (at : ℕ) (t : TypeTree) : Type 0 where
  pub within : at < length forms
  pub is_type : type_at forms at ≡ t

-- so many values of the type are so wide together
pub record HasRowWidth (datas : List Data) (t : TypeTree) (count all : ℕ) : Type 0 where
  pub width : ℕ
  pub each : HasWidth datas t width
  pub together : all ≡ count * width
