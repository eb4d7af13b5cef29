-- What a primitive gives on words.
use Rattle.std.specs.Prelude.{◌≡◌, ℕ, Bool, List, map, length, Some}
use Rattle.chw_types.specs.TypeTree.{TypeTree, nat_lit}
use Rattle.chw_prims.specs.declared.prim.Primitive.{Primitive as Prim}
use Rattle.chw_prims.specs.Schemas.{schema_type}
use Rattle.chw_terms.specs.declared.term.Arg.{Arg}
use Rattle.chw_terms.specs.Evaluated.{evaluated}
use Rattle.chw_terms.specs.TermTree.{TermTree}
use Rattle.prim_bits.specs.Values.{value_of}
use Rattle.prim_bits.specs.Widths.{TakesNumbers}
use Rattle.rewriting.specs.Primitives.{word_given}
use Rattle.work_prims.specs.Given.{AreWords}

-- the primitive takes these natural arguments and words within the limits, and gives this
pub record IsResult (p : Prim) (nats : List ℕ) (words : List (List Bool)) (e : TermTree) : Type 0
  where
    pub takes : TakesNumbers p nats (map length words)
    pub bits : List Bool
    pub gives : value_of p nats words ≡ Some bits
    pub is : e ≡ word_given (schema_type p) bits

-- the same where the types are closed naturals, and the arguments literals
pub record IsResultOn (p : Prim) (types : List TypeTree) (args : List Arg) (e : TermTree) : Type 0
  where
    pub nats : List ℕ
    pub words : List (List Bool)
    pub closed : map evaluated types ≡ map (λ n. nat_lit n) nats
    pub are : AreWords args words
    pub result : IsResult p nats words e
