-- Which nets of single bits break no rule on texts.
use Rattle.std.specs.Prelude.{◌≡◌, ℕ, IsTrue, List, ◌++◌, length, map}
use Rattle.std.specs.List.{AllByRecursion}
use Rattle.chw_base.specs.Names.{AllOf}
use Rattle.name_tables.specs.Names.{AreDistinct, is_among}
use Rattle.bit_laws.specs.Bitnet.{Bitnet, Node}
use Rattle.bit_laws.specs.Bitnet.Node.{latch, table}
use Rattle.bit_laws.specs.Driven.{NamesOnly, drives_of}
use Rattle.blif_text.specs.BlifText.{IsClock}
use Rattle.blif_text.specs.Statements.{IsName, is_mark}

-- a row of so many marks
abbrev pub IsRow : ℕ → List ℕ → Type 0
IsRow width marks = AllOf is_mark marks × (length marks ≡ width)

-- names have their form, and rows have it and their length
abbrev pub HasNodeForm : Node → Type 0
HasNodeForm (table reads drives rows) =
    AllByRecursion IsName reads × IsName drives × AllByRecursion (IsRow (length reads)) rows
HasNodeForm (latch takes drives clock initial) = IsName takes × IsName drives × IsClock clock

-- the inputs, and the names that are driven
abbrev pub known_names : Bitnet → List (List ℕ)
known_names b = b.inputs ++ map drives_of b.nodes

-- all has its form, no name is an input or driven twice, the names that are read are inputs or
-- driven, and clocks are inputs
pub record IsRight (b : Bitnet) : Type 0 where
  pub input_names : AllByRecursion IsName b.inputs
  pub output_names : AllByRecursion IsName b.outputs
  pub forms : AllByRecursion HasNodeForm b.nodes
  pub once : AreDistinct (known_names b)
  pub outputs_known : AllByRecursion (λ name. IsTrue (is_among (known_names b) name)) b.outputs
  pub nodes_known : AllByRecursion
      (NamesOnly (λ name. IsTrue (is_among (known_names b) name))
      (λ name. IsTrue (is_among b.inputs name))) b.nodes
