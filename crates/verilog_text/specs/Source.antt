-- A Verilog text as data. Names, numbers and literals are kept as they are written.
use Rattle.std.specs.Prelude.{ℕ, List, [], ◌∷◌, ◌++◌, Option}
use Rattle.netlist.specs.declared.net.Op1.{Op1}
use Rattle.netlist.specs.declared.net.Op2.{Op2}

-- one thing or more
pub record OneOrMore (A : Type 0) : Type 0 where
  pub first : A
  pub others : List A

abbrev pub all_of : {A : Type 0} → OneOrMore A → List A
all_of some = some.first ∷ some.others

-- two numbers
pub record Range : Type 0 where
  pub from : List ℕ
  pub to : List ℕ

-- a name with the range of its bits
pub record Line : Type 0 where
  pub range : Range
  pub name : List ℕ

-- a port of a module
pub data PortItem : Type 0 where
  -- an input of no range: a clock or a reset
  signal_port : List ℕ → PortItem
  input_port : Line → PortItem
  output_port : Line → PortItem

-- what is assigned to a wire
pub data Right : Type 0 where
  constant : (literal : List ℕ) → Right
  copy : (a : List ℕ) → Right
  join : (parts : OneOrMore (List ℕ)) → Right
  cut : (a : List ℕ) → Range → Right
  unary : Op1 → (a : List ℕ) → Right
  binary : Op2 → (a b : List ℕ) → Right
  choice : (c a b : List ℕ) → Right

-- the words of a RAM, which stand directly behind the register that shows them
pub record Memory : Type 0 where
  pub width : Range
  pub name : List ℕ
  pub places : Range

-- what a register takes where its reset is asserted
pub record Reset : Type 0 where
  pub name : List ℕ
  pub literal : List ℕ

-- what a register takes at an edge of its clock
pub record Edge : Type 0 where
  pub clock : List ℕ
  pub register : List ℕ
  pub reset : Option Reset
  pub a : List ℕ

-- a word of a memory
pub record FirstWord : Type 0 where
  pub memory : List ℕ
  pub place : List ℕ
  pub literal : List ℕ

-- an address, whether it is one of the words, and the word there
pub record Access : Type 0 where
  pub address : List ℕ
  pub count : List ℕ
  pub memory : List ℕ
  pub again : List ℕ

-- the words of a RAM, and what it writes and shows at an edge of its clock
pub record RamItem : Type 0 where
  pub words : OneOrMore FirstWord
  pub clock : List ℕ
  pub enable : List ℕ
  pub write : Access
  pub value : List ℕ
  pub register : List ℕ
  pub read : Access
  pub zeros : List ℕ

-- a port of a used module, and what is joined to it
pub record Connection : Type 0 where
  pub port : List ℕ
  pub wire : List ℕ

pub record UseItem : Type 0 where
  pub used : List ℕ
  pub name : List ℕ
  pub connections : OneOrMore Connection

-- an item of a module
pub data Item : Type 0 where
  wire_item : Line → Item
  register_item : Line → (literal : List ℕ) → Option Memory → Item
  assign_item : (name : List ℕ) → Right → Item
  edge_item : Edge → Item
  ram_item : RamItem → Item
  use_item : UseItem → Item

pub record ModuleItem : Type 0 where
  pub name : List ℕ
  pub ports : OneOrMore PortItem
  pub items : List Item

-- a text: its last module, and those before it
pub record Source : Type 0 where
  pub earlier : List ModuleItem
  pub last : ModuleItem

abbrev pub modules_of : Source → List ModuleItem
modules_of source = source.earlier ++ source.last ∷ []
