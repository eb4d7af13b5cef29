-- Types as lists of signs: a form before its parts, and behind a list its end.
use Rattle.std.specs.Prelude.{List, [], ◌∷◌, ◌++◌}
use Rattle.chw_types.specs.TypeTree.{TypeTree, ty_var, nat_lit, nat_sum, nat_product, domain}
use Rattle.chw_types.specs.TypeTree.{scalar, vector, data_of, fun, signal, for_all}
use Rattle.chw_types.specs.TypeTree.{TypeTrees, no_types, type_and}
use Rattle.term_signs.specs.declared.alphabet.Form.{Form}
use Rattle.term_signs.specs.declared.alphabet.Form.TheVariants.{TyVar, Numeral, Sum, Product}
use Rattle.term_signs.specs.declared.alphabet.Form.TheVariants.{Domain, Word, Vector, Data, Fun}
use Rattle.term_signs.specs.declared.alphabet.Form.TheVariants.{Signal, ForAll, OneType, NoTypes}
use Rattle.term_signs.specs.declared.alphabet.Sign.{Sign}
use Rattle.term_signs.specs.declared.alphabet.Sign.TheVariants.{Of, Number, OfKind, OfSort}

-- the form of a type of two parts, and that of signals for any other
abbrev pub pair_form : TypeTree → Form
pair_form (nat_sum a b) = Sum
pair_form (nat_product a b) = Product
pair_form (vector n t) = Vector
pair_form (fun a b) = Fun
pair_form _ = Signal

unfoldable mutual
  pub type_signs : TypeTree → List Sign
  type_signs (ty_var x) = Of TyVar ∷ Number x ∷ []
  type_signs (nat_lit n) = Of Numeral ∷ Number n ∷ []
  type_signs (nat_sum a b) = Of Sum ∷ type_signs a ++ type_signs b
  type_signs (nat_product a b) = Of Product ∷ type_signs a ++ type_signs b
  type_signs (domain d) = Of Domain ∷ Number d ∷ []
  type_signs (scalar s w) = Of Word ∷ OfSort s ∷ type_signs w
  type_signs (vector n t) = Of Vector ∷ type_signs n ++ type_signs t
  type_signs (data_of d ts) = Of Data ∷ Number d ∷ types_signs ts
  type_signs (fun a b) = Of Fun ∷ type_signs a ++ type_signs b
  type_signs (signal d t) = Of Signal ∷ type_signs d ++ type_signs t
  type_signs (for_all k t) = Of ForAll ∷ OfKind k ∷ type_signs t

  pub types_signs : TypeTrees → List Sign
  types_signs no_types = Of NoTypes ∷ []
  types_signs (type_and t ts) = Of OneType ∷ type_signs t ++ types_signs ts
