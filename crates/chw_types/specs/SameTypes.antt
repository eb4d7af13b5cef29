-- Types that are equal as trees, up to naturals with one polynomial.
use Rattle.std.specs.Prelude.{◌≡◌, ℕ, true}
use Rattle.chw_types.specs.declared.kind.Kind.{Kind}
use Rattle.chw_types.specs.declared.kind.Scalar.{Scalar}
use Rattle.chw_types.specs.TypeTree.{TypeTree, nat_sum, nat_product, domain, scalar, vector, data_of, fun, signal, for_all, TypeTrees, no_types, type_and}
use Rattle.chw_types.specs.Polynomials.{is_natural, SameNaturals}

mutual
  pub data SameTypes : TypeTree → TypeTree → Type 0 where
    same_naturals : {a b : TypeTree} → is_natural a ≡ true → is_natural b ≡ true → SameNaturals a b → SameTypes a b
    same_sum : {a b c d : TypeTree} → SameTypes a c → SameTypes b d → SameTypes (nat_sum a b) (nat_sum c d)
    same_product : {a b c d : TypeTree} → SameTypes a c → SameTypes b d → SameTypes (nat_product a b) (nat_product c d)
    same_domain : {d : ℕ} → SameTypes (domain d) (domain d)
    same_scalar : {s : Scalar} {v w : TypeTree} → SameTypes v w → SameTypes (scalar s v) (scalar s w)
    same_vector : {n m t u : TypeTree} → SameTypes n m → SameTypes t u → SameTypes (vector n t) (vector m u)
    same_data : {d : ℕ} {ts us : TypeTrees} → SameAll ts us → SameTypes (data_of d ts) (data_of d us)
    same_fun : {a b c d : TypeTree} → SameTypes a c → SameTypes b d → SameTypes (fun a b) (fun c d)
    same_signal : {d e t u : TypeTree} → SameTypes d e → SameTypes t u → SameTypes (signal d t) (signal e u)
    same_for_all : {k : Kind} {t u : TypeTree} → SameTypes t u → SameTypes (for_all k t) (for_all k u)

  -- as many of one list as of the other, and each the same
  pub data SameAll : TypeTrees → TypeTrees → Type 0 where
    same_none : SameAll no_types no_types
    same_and : {t u : TypeTree} {ts us : TypeTrees} → SameTypes t u → SameAll ts us → SameAll (type_and t ts) (type_and u us)
