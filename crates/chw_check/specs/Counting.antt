-- How many leaves types have.
use Rattle.std.specs.Prelude.{◌≡◌, ℕ, ◌+◌, ◌≤◌, List, length}
use Rattle.chw_types.specs.declared.declarations.Data.{Data}
use Rattle.type_ports.specs.declared.ports.Leaf.{Leaf}
use Rattle.chw_types.specs.TypeTree.{TypeTree}
use Rattle.type_ports.specs.Ports.{Leaves}
use Rattle.type_ports.specs.PortsFound.{Looked}

-- the type is a port with so many leaves
pub record HasLeaves (datas : List Data) (t : TypeTree) (n : ℕ) : Type 0 where
  pub leaves : List Leaf
  pub are : Leaves datas t leaves
  pub count : length leaves ≡ n

-- it is no port, or has more leaves than so many
abbrev pub HasMoreLeaves : List Data → TypeTree → ℕ → Type 0
HasMoreLeaves datas t most = (n : ℕ) → n ≤ most → HasLeaves datas t n → ⊥

-- looking at a type finds so many leaves, whatever was found before
abbrev pub CountsOn : List Data → TypeTree → ℕ → List TypeTree → List TypeTree → Type 0
CountsOn datas t n todo todo' =
    (found : List Leaf) → (found' : List Leaf) × (length found' ≡ length found + n)
    × Looked datas t found found' todo todo'
