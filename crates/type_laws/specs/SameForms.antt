-- Types of one form, with parts that are the same, are the same.
use Rattle.std.specs.Prelude.{ℕ}
use Rattle.chw_types.specs.declared.kind.Kind.{Kind}
use Rattle.chw_types.specs.declared.kind.Scalar.{Scalar}
use Rattle.chw_types.specs.TypeTree.{TypeTree, nat_sum, nat_product, scalar, vector, data_of, fun, signal, for_all, TypeTrees}
use Rattle.chw_types.specs.SameTypes.{SameTypes, SameAll}

pub record SameInEachForm : Type 0 where
  pub sums : (a b c d : TypeTree) → SameTypes a c → SameTypes b d → SameTypes (nat_sum a b) (nat_sum c d)
  pub products : (a b c d : TypeTree) → SameTypes a c → SameTypes b d → SameTypes (nat_product a b) (nat_product c d)
  pub scalars : (s : Scalar) (v w : TypeTree) → SameTypes v w → SameTypes (scalar s v) (scalar s w)
  pub vectors : (n m t u : TypeTree) → SameTypes n m → SameTypes t u → SameTypes (vector n t) (vector m u)
  pub data_types : (d : ℕ) (ts us : TypeTrees) → SameAll ts us → SameTypes (data_of d ts) (data_of d us)
  pub functions : (a b c d : TypeTree) → SameTypes a c → SameTypes b d → SameTypes (fun a b) (fun c d)
  pub signals : (d e t u : TypeTree) → SameTypes d e → SameTypes t u → SameTypes (signal d t) (signal e u)
  pub bound : (k : Kind) (t u : TypeTree) → SameTypes t u → SameTypes (for_all k t) (for_all k u)
