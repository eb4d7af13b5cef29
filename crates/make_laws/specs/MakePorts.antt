-- The ports of a filter.
use Rattle.std.specs.Prelude.{◌≡◌, ℕ, List, [], ◌∷◌, codes}
use Rattle.chw_clock.specs.declared.event.Port.{Port}
use Rattle.chw_clock.specs.declared.event.Ports.{Ports}
use Rattle.chw_types.specs.TypeTree.{TypeTree, nat_lit, scalar}
use Rattle.type_ports.specs.Ports.{leaf_of}
use Rattle.chw_types.specs.declared.kind.Scalar.TheVariants.{U}
use Rattle.type_ports.specs.declared.ports.Leaf.{Leaf}
use Rattle.chw_terms.specs.declared.program.Program.{Program}
use Rattle.chw_meaning.specs.Means.{HasPorts}

-- a port of 16 bits, in the domain of this number
abbrev pub word_port : List ℕ → ℕ → Port
word_port name dom = record { name = name; dom = record { number = dom }; width = 16 }

-- the domains A and B without resets, an input `x` in A and an output `o` in B
abbrev pub make_ports : Ports
make_ports = record {
  domains = codes "A" ∷ codes "B" ∷ [];
  resets = [];
  inputs = word_port (codes "x") 0 ∷ [];
  outputs = word_port (codes "o") 1 ∷ [];
}

-- `Unsigned 16`
abbrev pub word_type : TypeTree
word_type = scalar U (nat_lit 16)

-- the leaf of a signal of such words in the domain of this number
abbrev pub word_leaf : ℕ → Leaf
word_leaf dom = leaf_of (record { number = dom }) word_type

-- the program has these ports, and its input is a signal of such words
pub record TakesWords (p : Program) : Type 0 where
  pub has : HasPorts p make_ports
  pub input : has.ins ≡ word_leaf 0 ∷ []
