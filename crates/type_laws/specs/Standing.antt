-- Which variables stand in the naturals of a type.
use Rattle.std.specs.Prelude.{◌≡◌, ℕ, suc, ◌⊎◌}
use Rattle.chw_types.specs.TypeTree.{TypeTree, ty_var, nat_sum, nat_product, scalar, vector, data_of, fun, signal, for_all, TypeTrees, no_types, type_and}

-- the variable is a natural's own, at its top or in its sums and products
abbrev pub StandsIn : TypeTree → ℕ → Type 0
StandsIn (ty_var x) y = x ≡ y
StandsIn (nat_sum a b) y = StandsIn a y ⊎ StandsIn b y
StandsIn (nat_product a b) y = StandsIn a y ⊎ StandsIn b y
StandsIn _ y = ⊥

abbrev mutual
  -- somewhere in the type the variable is a part of a sum or product of naturals
  pub InSums : TypeTree → ℕ → Type 0
  InSums (nat_sum a b) y = (StandsIn a y ⊎ StandsIn b y) ⊎ (InSums a y ⊎ InSums b y)
  InSums (nat_product a b) y = (StandsIn a y ⊎ StandsIn b y) ⊎ (InSums a y ⊎ InSums b y)
  InSums (scalar s w) y = InSums w y
  InSums (vector n t) y = InSums n y ⊎ InSums t y
  InSums (data_of d ts) y = AnyInSums ts y
  InSums (fun a b) y = InSums a y ⊎ InSums b y
  InSums (signal d t) y = InSums d y ⊎ InSums t y
  InSums (for_all k t) y = InSums t (suc y)
  InSums _ y = ⊥

  pub AnyInSums : TypeTrees → ℕ → Type 0
  AnyInSums no_types y = ⊥
  AnyInSums (type_and t ts) y = InSums t y ⊎ AnyInSums ts y
