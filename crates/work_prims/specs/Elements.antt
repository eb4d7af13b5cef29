-- What the rule on elements looks for.
use Rattle.std.specs.Prelude.{◌≡◌, ℕ, ◌≤◌, min, List, [], ◌∷◌, Bool, Some}
use Rattle.chw_bits.specs.Bits.{number_of}
use Rattle.chw_types.specs.declared.kind.Scalar.TheVariants.{U}
use Rattle.chw_types.specs.Polynomials.{greatest}
use Rattle.chw_types.specs.TypeTree.{TypeTree, nat_lit}
use Rattle.chw_terms.specs.declared.term.Arg.{Arg}
use Rattle.chw_terms.specs.Evaluated.{evaluated}
use Rattle.chw_terms.specs.TermTree.{TermTree, Terms, lit, vec_lit}
use Rattle.chw_typing.specs.Given.{types_then}
use Rattle.chw_typing.specs.Paths.{element_at}

-- a number, two types and a written vector, of which this is the element of that number
pub record IsElement (args : List Arg) (e : TermTree) : Type 0 where
  pub i : TypeTree
  pub n : TypeTree
  pub a : TypeTree
  pub t : TypeTree
  pub es : Terms
  pub j : ℕ
  pub are : args ≡ types_then (i ∷ n ∷ a ∷ []) (vec_lit t es ∷ [])
  pub number : evaluated i ≡ nat_lit j
  pub within : j ≤ greatest
  pub is : element_at es j ≡ Some e

-- a number, two types, a written vector and a word, of which this is the element of the word's
-- number, and behind the first number the element of that
pub record IsElementAt (args : List Arg) (e : TermTree) : Type 0 where
  pub n : TypeTree
  pub k : TypeTree
  pub a : TypeTree
  pub t : TypeTree
  pub es : Terms
  pub bits : List Bool
  pub m : ℕ
  pub are : args ≡ types_then (n ∷ k ∷ a ∷ []) (vec_lit t es ∷ lit U bits ∷ [])
  pub number : evaluated n ≡ nat_lit m
  pub within : m ≤ greatest
  pub is : element_at es (min (number_of bits) m) ≡ Some e
