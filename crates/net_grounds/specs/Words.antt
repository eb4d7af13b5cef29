-- What is promised of primitives on words.
use Rattle.std.specs.Prelude.{Bool, List, Some, [], get_or, length, map, ℕ, ◌≡◌}
use Rattle.chw_prims.specs.declared.prim.Primitive.{Primitive}
use Rattle.prim_bits.specs.Values.{result_of, value_of}
use Rattle.prim_bits.specs.Widths.{Takes, width_of}

-- facts on primitives on words
pub record WordFacts : Type 0 where
  -- the value of a primitive has the primitive's width
  pub width_of_value :
      (p : Primitive) (nats : List ℕ) (args : List (List Bool)) (r : List Bool)
      → value_of p nats args ≡ Some r → length r ≡ width_of p nats
  -- a primitive that takes its words has its result on them as its value
  pub value_where_taken :
      (p : Primitive) (nats : List ℕ) (args : List (List Bool))
      → Takes p nats (map length args)
      → value_of p nats args
      ≡ Some (result_of p (get_or nats 0 0) (get_or nats 1 0) (get_or args 0 []) (get_or args 1 []))
