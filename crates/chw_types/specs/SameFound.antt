-- Whether two types are the same, as a function for the code. The relation is `SameTypes`.
use Rattle.std.specs.Prelude.{◌==◌, Bool, true, false, ◌&&◌, [], ◌∷◌}
use Rattle.chw_types.specs.declared.kind.Kind.{Kind}
use Rattle.chw_types.specs.declared.kind.Kind.TheVariants.{Nat, Dom, Val, Cir}
use Rattle.chw_types.specs.declared.kind.Scalar.{Scalar}
use Rattle.chw_types.specs.declared.kind.Scalar.TheVariants.{U, S, B}
use Rattle.chw_types.specs.TypeTree.{TypeTree, nat_sum, nat_product, domain, scalar, vector, data_of, fun, signal, for_all, TypeTrees, no_types, type_and}
use Rattle.chw_types.specs.Polynomials.{is_natural, Summands, coefficient, ended, multiplied}

-- two sums have one coefficient at each monomial of a third
abbrev pub agree_on : Summands → Summands → Summands → Bool
agree_on [] p q = true
agree_on (s ∷ at) p q = (ended (coefficient p s.1) == ended (coefficient q s.1)) && agree_on at p q

abbrev pub same_sums : Summands → Summands → Bool
same_sums p q = agree_on p p q && agree_on q p q

abbrev pub same_sort : Scalar → Scalar → Bool
same_sort U U = true
same_sort S S = true
same_sort B B = true
same_sort _ _ = false

abbrev pub same_kind : Kind → Kind → Bool
same_kind Nat Nat = true
same_kind Dom Dom = true
same_kind Val Val = true
same_kind Cir Cir = true
same_kind _ _ = false

-- by whether both are naturals, their polynomials, and their parts
abbrev pub same_by : Bool → Bool → Bool → Bool
same_by true polys parts = polys
same_by false polys parts = parts

unfoldable pub same_from : TypeTree → TypeTree → Bool → Bool
same_from a b parts = same_by (is_natural a && is_natural b) (same_sums (multiplied a) (multiplied b)) parts

unfoldable mutual
  -- one form, and the same parts
  pub same_parts : TypeTree → TypeTree → Bool
  same_parts (nat_sum a b) (nat_sum c d) = same_from a c (same_parts a c) && same_from b d (same_parts b d)
  same_parts (nat_product a b) (nat_product c d) = same_from a c (same_parts a c) && same_from b d (same_parts b d)
  same_parts (domain d) (domain e) = d == e
  same_parts (scalar s v) (scalar r w) = same_sort s r && same_from v w (same_parts v w)
  same_parts (vector n t) (vector m u) = same_from n m (same_parts n m) && same_from t u (same_parts t u)
  same_parts (data_of d ts) (data_of e us) = (d == e) && same_all ts us
  same_parts (fun a b) (fun c d) = same_from a c (same_parts a c) && same_from b d (same_parts b d)
  same_parts (signal d t) (signal e u) = same_from d e (same_parts d e) && same_from t u (same_parts t u)
  same_parts (for_all k t) (for_all j u) = same_kind k j && same_from t u (same_parts t u)
  same_parts _ _ = false

  pub same_all : TypeTrees → TypeTrees → Bool
  same_all no_types no_types = true
  same_all (type_and t ts) (type_and u us) = same_from t u (same_parts t u) && same_all ts us
  same_all _ _ = false

abbrev pub same_found : TypeTree → TypeTree → Bool
same_found a b = same_from a b (same_parts a b)
