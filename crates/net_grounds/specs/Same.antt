-- What is promised of types that are the same up to naturals.
use Rattle.std.specs.Prelude.{length, ℕ, ◌≡◌}
use Rattle.chw_terms.specs.Evaluated.{evaluated}
use Rattle.chw_types.specs.Arguments.{list_of}
use Rattle.chw_types.specs.SamePromises.{SameReflexive}
use Rattle.chw_types.specs.SameTypes.{SameAll, SameTypes}
use Rattle.chw_types.specs.TypeTree.{TypeTree, TypeTrees, data_of, domain, fun, scalar, signal}
use Rattle.chw_types.specs.TypeTree.{vector}
use Rattle.chw_types.specs.declared.kind.Scalar.{Scalar}

-- facts on types that are the same up to naturals
pub record SameFacts : Type 0 where
  -- a type is the same as itself
  pub same_self : SameReflexive
  -- what it is the same as is the same as it
  pub same_turned : {t u : TypeTree} → SameTypes t u → SameTypes u t
  -- what is the same as a type that is the same as a third is the same as that
  pub same_through : {t u v : TypeTree} → SameTypes t u → SameTypes u v → SameTypes t v
  -- what is the same as a domain is that domain
  pub as_domain : {d : ℕ} {u : TypeTree} → SameTypes (domain d) u → u ≡ domain d
  -- what is the same as a scalar is one of that sort, of a width that is the same
  pub as_scalar :
      {s : Scalar} {w u : TypeTree}
      → SameTypes (scalar s w) u → (v : TypeTree) × (u ≡ scalar s v) × SameTypes w v
  -- what is the same as a vector is one, with a length and elements that are the same
  pub as_vector :
      {n t u : TypeTree}
      → SameTypes (vector n t) u
      → (m : TypeTree) × (v : TypeTree) × (u ≡ vector m v) × SameTypes n m × SameTypes t v
  -- what is the same as a data type is that data type at arguments that are the same
  pub as_data :
      {d : ℕ} {ts : TypeTrees} {u : TypeTree}
      → SameTypes (data_of d ts) u → (us : TypeTrees) × (u ≡ data_of d us) × SameAll ts us
  -- what is the same as a function is one, from and to types that are the same
  pub as_function :
      {a b u : TypeTree}
      → SameTypes (fun a b) u
      → (c : TypeTree) × (d : TypeTree) × (u ≡ fun c d) × SameTypes a c × SameTypes b d
  -- what is the same as a signal is one, with a domain and values that are the same
  pub as_signal :
      {d t u : TypeTree}
      → SameTypes (signal d t) u
      → (e : TypeTree) × (v : TypeTree) × (u ≡ signal e v) × SameTypes d e × SameTypes t v
  -- arguments that are the same are as many
  pub same_count : {ts us : TypeTrees} → SameAll ts us → length (list_of us) ≡ length (list_of ts)
  -- a type is the same as the one with its naturals evaluated
  pub same_evaluated : (t : TypeTree) → SameTypes t (evaluated t)
