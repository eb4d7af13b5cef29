-- The text of a type: one space between tokens, and parentheses only where they are needed.
use Rattle.std.specs.Prelude.{ℕ, ◌+◌, ◌-◌, Bool, true, false, nat_lt, if◌then◌else◌, List, [], ◌++◌, codes, decimal, Option, Some, None}
use Rattle.std.specs.List.{slice_get}
use Rattle.chw_types.specs.declared.kind.Kind.{Kind}
use Rattle.chw_types.specs.declared.kind.Kind.TheVariants.{Nat, Dom, Val, Cir}
use Rattle.chw_types.specs.declared.kind.Scalar.{Scalar}
use Rattle.chw_types.specs.declared.kind.Scalar.TheVariants.{U, S, B}
use Rattle.chw_types.specs.declared.declarations.Data.{Data}
use Rattle.chw_types.specs.TypeTree.{TypeTree, ty_var, nat_lit, nat_sum, nat_product, domain, scalar, vector, data_of, fun, signal, for_all, TypeTrees, no_types, type_and}

-- how tightly a type's text holds together: from an arrow or a binder, over sums and products, to what has arguments and to a single word
abbrev pub tightness : TypeTree → ℕ
tightness (ty_var x) = 4
tightness (nat_lit n) = 4
tightness (nat_sum a b) = 1
tightness (nat_product a b) = 2
tightness (domain d) = 4
tightness (scalar s w) = 3
tightness (vector n t) = 3
tightness (data_of d no_types) = 4
tightness (data_of d (type_and t ts)) = 3
tightness (fun a b) = 0
tightness (signal d t) = 3
tightness (for_all k t) = 0

-- in parentheses, where this says so
abbrev pub grouped : Bool → List ℕ → List ℕ
grouped true text = codes "( " ++ text ++ codes " )"
grouped false text = text

-- where at least so much tightness is asked for
abbrev pub placed : ℕ → TypeTree → List ℕ → List ℕ
placed least t text = grouped (nat_lt (tightness t) least) text

-- under so many binders: a bound variable by the binder's level, another by its own number
abbrev pub variable_text : ℕ → ℕ → List ℕ
variable_text under x = if nat_lt x under then codes "t" ++ decimal (under - 1 - x) else codes "_" ++ decimal x

abbrev pub domain_text : Option (List ℕ) → ℕ → List ℕ
domain_text None d = codes "_" ++ decimal d
domain_text (Some name) d = name

abbrev pub data_text : Option Data → ℕ → List ℕ
data_text None d = codes "_" ++ decimal d
data_text (Some it) d = it.name

abbrev pub kind_text : Kind → List ℕ
kind_text Nat = codes "Nat"
kind_text Dom = codes "Dom"
kind_text Val = codes "Val"
kind_text Cir = codes "Cir"

abbrev pub scalar_text : Scalar → List ℕ
scalar_text U = codes "Unsigned"
scalar_text S = codes "Signed"
scalar_text B = codes "BitVector"

-- of a type of two parts, from the texts of the parts
abbrev pub pair_text : TypeTree → List ℕ → List ℕ → List ℕ
pair_text (nat_sum a b) left right = placed 1 a left ++ codes " + " ++ placed 2 b right
pair_text (nat_product a b) left right = placed 2 a left ++ codes " * " ++ placed 3 b right
pair_text (vector n t) left right =
    (codes "Vec" ++ codes " " ++ placed 4 n left) ++ codes " " ++ placed 4 t right
pair_text (fun a b) left right = placed 1 a left ++ codes " -> " ++ right
pair_text (signal d t) left right =
    (codes "Signal" ++ codes " " ++ placed 4 d left) ++ codes " " ++ placed 4 t right
pair_text _ left right = left

unfoldable mutual
  -- the text of a type under so many binders, over these data types and domains' names
  pub text_under : List Data → List (List ℕ) → ℕ → TypeTree → List ℕ
  text_under datas domains under (ty_var x) = variable_text under x
  text_under datas domains under (nat_lit n) = decimal n
  text_under datas domains under (nat_sum a b) =
      placed 1 a (text_under datas domains under a) ++ codes " + " ++ placed 2 b (text_under datas domains under b)
  text_under datas domains under (nat_product a b) =
      placed 2 a (text_under datas domains under a) ++ codes " * " ++ placed 3 b (text_under datas domains under b)
  text_under datas domains under (domain d) = domain_text (slice_get domains d) d
  text_under datas domains under (scalar s w) = scalar_text s ++ codes " " ++ placed 4 w (text_under datas domains under w)
  text_under datas domains under (vector n t) =
      (codes "Vec" ++ codes " " ++ placed 4 n (text_under datas domains under n)) ++ codes " " ++ placed 4 t (text_under datas domains under t)
  text_under datas domains under (data_of d ts) = data_text (slice_get datas d) d ++ arguments_text datas domains under ts
  text_under datas domains under (fun a b) =
      placed 1 a (text_under datas domains under a) ++ codes " -> " ++ text_under datas domains under b
  text_under datas domains under (signal d t) =
      (codes "Signal" ++ codes " " ++ placed 4 d (text_under datas domains under d)) ++ codes " " ++ placed 4 t (text_under datas domains under t)
  text_under datas domains under (for_all k t) =
      ((codes "forall ( t" ++ decimal under) ++ codes " : " ++ kind_text k) ++ codes " ) . " ++ text_under datas domains (under + 1) t

  pub arguments_text : List Data → List (List ℕ) → ℕ → TypeTrees → List ℕ
  arguments_text datas domains under no_types = []
  arguments_text datas domains under (type_and t ts) =
      (codes " " ++ placed 4 t (text_under datas domains under t)) ++ arguments_text datas domains under ts

-- the text of a type
abbrev pub type_text : List Data → List (List ℕ) → TypeTree → List ℕ
type_text datas domains t = text_under datas domains 0 t
