-- The tables by which the wires of a module are found.
use Rattle.std.specs.Prelude.{◌≡◌, ℕ, List, [], ◌∷◌, map, Option, Some, None, option_map, slice_get}
use Rattle.std.specs.List.{flat_map}
use Rattle.verilog_names.specs.declared.wires.Found.{Found}
use Rattle.verilog_rules.specs.Declarations.{wire_name}
use Rattle.verilog_rules.specs.NameRules.{kind_of}
use Rattle.verilog_rules.specs.Resolving.{operand}
use Rattle.verilog_rules.specs.declared.resolved.Kind.TheVariants as kind
use Rattle.verilog_rules.specs.declared.resolved.Kind.{Kind}
use Rattle.verilog_rules.specs.declared.resolved.Wire.{Wire}
use Rattle.verilog_tree.specs.Sources.{bytes_of}
use Rattle.verilog_tree.specs.declared.word.Word.{Word}

-- the memory that is declared with a wire of this kind
abbrev pub memory_with : Kind → List (List ℕ)
memory_with (kind.Register literal (Some m)) = bytes_of m.name ∷ []
memory_with _ = []

-- the kind of the wire of this number, if there is one
abbrev pub kind_at : List Wire → Option ℕ → Option Kind
kind_at wires None = None
kind_at wires (Some k) = option_map (λ (w : Wire). w.kind) (slice_get wires k)

-- the tables have the names of the wires, and those of the memories declared with them
pub record AreTables (wires : List Wire) (names memories : List (List ℕ)) : Type 0 where
  pub names_are : names ≡ map wire_name wires
  pub memories_are : memories ≡ flat_map (λ (w : Wire). memory_with w.kind) wires

-- what is found of a name is its wire and its kind
pub record Finds (wires : List Wire) (name : Word) (found : Found) : Type 0 where
  pub operand_is : found.operand ≡ operand wires name
  pub kind_is : found.kind ≡ kind_of wires (bytes_of name)
