-- Which data types a type mentions, and that their references have no cycle.
use Rattle.std.specs.Prelude.{◌≡◌, ℕ, ◌<◌, ◌⊎◌, List, [], ◌∷◌, length, Some}
use Rattle.std.specs.List.{slice_get}
use Rattle.chw_types.specs.declared.declarations.Data.{Data}
use Rattle.chw_types.specs.TypeTree.{TypeTree, nat_sum, nat_product, scalar, vector, data_of, fun, signal, for_all, TypeTrees, no_types, type_and}
use Rattle.chw_types.specs.Arguments.{all_fields}

abbrev mutual
  -- the data type of this number stands in the type
  pub Mentions : TypeTree → ℕ → Type 0
  Mentions (nat_sum a b) e = Mentions a e ⊎ Mentions b e
  Mentions (nat_product a b) e = Mentions a e ⊎ Mentions b e
  Mentions (scalar s w) e = Mentions w e
  Mentions (vector n t) e = Mentions n e ⊎ Mentions t e
  Mentions (data_of d ts) e = (d ≡ e) ⊎ MentionsAny ts e
  Mentions (fun a b) e = Mentions a e ⊎ Mentions b e
  Mentions (signal d t) e = Mentions d e ⊎ Mentions t e
  Mentions (for_all k t) e = Mentions t e
  Mentions _ e = ⊥

  pub MentionsAny : TypeTrees → ℕ → Type 0
  MentionsAny no_types e = ⊥
  MentionsAny (type_and t ts) e = Mentions t e ⊎ MentionsAny ts e

-- one of the types mentions the data type
abbrev pub MentionedIn : List TypeTree → ℕ → Type 0
MentionedIn [] e = ⊥
MentionedIn (t ∷ ts) e = Mentions t e ⊎ MentionedIn ts e

-- a field of the first data type mentions the second
abbrev pub Refers : List Data → ℕ → ℕ → Type 0
Refers datas d e = (it : Data) × (slice_get datas d ≡ Some it) × MentionedIn (all_fields it.cons) e

-- the references have no cycle: there is an order of the data types in which each refers only to earlier ones. It gives each its place.
pub record HasNoCycle (datas : List Data) : Type 0 where
  pub place : ℕ → ℕ
  pub within : (d : ℕ) → d < length datas → place d < length datas
  pub earlier : (d e : ℕ) → e < length datas → Refers datas d e → place e < place d
