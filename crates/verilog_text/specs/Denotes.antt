-- The net that a Verilog text denotes: its wires are numbered in the order of their declarations,
-- and its cells stand in the order of the items that drive them.
use Rattle.std.specs.Prelude.{◌≡◌, ℕ, ◌+◌, Bool, false, true, ◌==◌}
use Rattle.std.specs.Prelude.{List, [], ◌∷◌, ◌++◌, length, map}
use Rattle.std.specs.Prelude.{Option, Some, None, slice_get, if◌then◌else◌}
use Rattle.std.specs.List.{AllByRecursion}
use Rattle.chw_base.specs.declared.index.DomId.{DomId}
use Rattle.chw_base.specs.declared.index.ModId.{ModId}
use Rattle.chw_base.specs.declared.index.WireId.{WireId}
use Rattle.chw_base.specs.declared.limits.TheConstants.{ADDRESS_BITS}
use Rattle.chw_clock.specs.Histories.{has_reset}
use Rattle.chw_clock.specs.declared.event.Port.{Port}
use Rattle.chw_clock.specs.declared.event.Ports.{Ports}
use Rattle.name_tables.specs.Names.{AreDistinct, place_of}
use Rattle.netlist.specs.declared.net.Cell.{Cell}
use Rattle.netlist.specs.declared.net.Cell.TheVariants.{Const, Copy, Join, Cut, Un, Bin, Mux, Reg}
use Rattle.netlist.specs.declared.net.Cell.TheVariants.{Ram, Use}
use Rattle.netlist.specs.declared.net.Module.{Module}
use Rattle.netlist.specs.declared.net.Net.{Net}
use Rattle.netlist.specs.declared.net.Op1.{Op1}
use Rattle.netlist.specs.declared.net.Op2.{Op2}
use Rattle.netlist.specs.declared.net.RamIn.{RamIn}
use Rattle.verilog_text.specs.Declared.{AreInOrder, AreNamesOf, Declared, IsAsWide, IsLiteralOf}
use Rattle.verilog_text.specs.Declared.{IsNameOf, IsOfKind, MeansBits, declared_by, input_wires}
use Rattle.verilog_text.specs.Declared.{inputs_of, lines_of, names_of, outputs_of, port_name}
use Rattle.verilog_text.specs.Declared.{signals_of, value, width_of, wires_of}
use Rattle.verilog_text.specs.Declared.Kind.{a_register, a_wire}
use Rattle.verilog_text.specs.Names.{clock_name, domain_name, input_name, output_name, reset_name}
use Rattle.verilog_text.specs.Names.{top_name}
use Rattle.verilog_text.specs.Source.{Access, Connection, Edge, FirstWord, Item, Line, Memory}
use Rattle.verilog_text.specs.Source.{ModuleItem, OneOrMore, RamItem, Range, Reset, Right, Source}
use Rattle.verilog_text.specs.Source.{UseItem, all_of, modules_of}
use Rattle.verilog_text.specs.Source.Item.{assign_item, edge_item, ram_item, register_item}
use Rattle.verilog_text.specs.Source.Item.{use_item, wire_item}
use Rattle.verilog_text.specs.Text.{clock_names}
use Rattle.verilog_text.specs.Source.Right.{binary, choice, constant, copy, cut, join, unary}

-- where an item stands: the ports of the net, the outputs of its module, and the modules before it
pub record Scene : Type 0 where
  pub ports : Ports
  pub outputs : List Line
  pub earlier : List ModuleItem

-- the right side of an assignment to the wire w, among these wires, is that of the cell
pub data RightIs (wires : List Declared) (w : WireId) : Right → Cell → Type 0 where
  -- 8'h1f
  is_constant : (text : List ℕ) (bits : List Bool)
      → MeansBits text bits → RightIs wires w (constant text) (Const w bits)
  -- A
  is_copy : (name : List ℕ) (a : WireId)
      → IsNameOf wires name a → RightIs wires w (copy name) (Copy w a)
  -- {A, B}
  is_join : (names : OneOrMore (List ℕ)) (parts : List WireId)
      → AreNamesOf wires (all_of names) parts → RightIs wires w (join names) (Join w parts)
  -- A[h:l]
  is_cut : (name : List ℕ) (range : Range) (a : WireId)
      → IsNameOf wires name a
      → RightIs wires w (cut name range) (Cut w a (value range.from) (value range.to))
  -- ~A
  is_unary : (op : Op1) (name : List ℕ) (a : WireId)
      → IsNameOf wires name a → RightIs wires w (unary op name) (Un w op a)
  -- A + B
  is_binary : (op : Op2) (left right : List ℕ) (a b : WireId)
      → IsNameOf wires left a → IsNameOf wires right b
      → RightIs wires w (binary op left right) (Bin w op a b)
  -- C ? A : B
  is_choice : (condition yes no : List ℕ) (c a b : WireId)
      → IsNameOf wires condition c → IsNameOf wires yes a → IsNameOf wires no b
      → RightIs wires w (choice condition yes no) (Mux w c a b)

-- where the domain has a reset, a register takes its initial bits while this reset is asserted
abbrev pub IsReset : Ports → DomId → List Bool → Option Reset → Type 0
IsReset ports domain initial None = has_reset ports domain ≡ false
IsReset ports domain initial (Some reset) =
    (has_reset ports domain ≡ true)
    × (reset.name ≡ reset_name (domain_name ports.domains domain))
    × MeansBits reset.literal initial

-- the clock is that of the domain of this number
abbrev pub IsClockOf : Ports → List ℕ → DomId → Type 0
IsClockOf ports clock domain = place_of (map clock_name ports.domains) clock ≡ Some domain.number

-- always @(posedge clk_D) W <= A;
pub record IsRegister (scene : Scene) (wires : List Declared) (edge : Edge) (w : WireId)
    (domain : DomId) (initial : List Bool) (a : WireId) : Type 0 where
  pub register : IsNameOf wires edge.register w
  pub literal : List ℕ
  pub declared : IsOfKind wires w (a_register literal None)
  pub initial_bits : MeansBits literal initial
  pub clock : IsClockOf scene.ports edge.clock domain
  pub reset : IsReset scene.ports domain initial edge.reset
  pub taken : IsNameOf wires edge.a a

-- r[0] = 8'h00; is the word at this place of the memory
pub record IsWordAt (memory : List ℕ) (place : ℕ) (word : FirstWord) (bits : List Bool)
    : Type 0 where
  pub memory_is : word.memory ≡ memory
  pub place_is : value word.place ≡ place
  pub bits_are : MeansBits word.literal bits

-- the words of the memory, from this place on
abbrev pub AreWords : List ℕ → ℕ → List FirstWord → List (List Bool) → Type 0
AreWords memory place [] [] = Unit {0}
AreWords memory place (word ∷ words) (bits ∷ more) =
    IsWordAt memory place word bits × AreWords memory (place + 1) words more
AreWords memory place _ _ = ⊥

-- the memory has words of this width, so many
pub record HasWords (memory : Memory) (width count : ℕ) : Type 0 where
  pub ends : value memory.width.to ≡ 0
  pub wide : width_of memory.width ≡ width
  pub begins : value memory.places.from ≡ 0
  pub many : value memory.places.to + 1 ≡ count

-- (A < 12'h005) and R[A], of the memory of so many words
pub record IsAccess (wires : List Declared) (memory : List ℕ) (count : ℕ) (access : Access)
    (a : WireId) : Type 0 where
  pub address : IsNameOf wires access.address a
  pub count_is : IsLiteralOf access.count ADDRESS_BITS count
  pub memory_is : access.memory ≡ memory
  pub again_is : access.again ≡ access.address

-- initial begin R[0] = 8'h00; .. end and its always
pub record IsRam (scene : Scene) (wires : List Declared) (item : RamItem) (w : WireId)
    (domain : DomId) (words : List (List Bool)) (inputs : RamIn) : Type 0 where
  pub register : IsNameOf wires item.register w
  pub literal : List ℕ
  pub memory : Memory
  pub declared : IsOfKind wires w (a_register literal (Some memory))
  pub width : ℕ
  pub wide : IsAsWide wires w width
  -- the register begins with zeros, and shows zeros for an address outside
  pub first : IsLiteralOf literal width 0
  pub zeros : IsLiteralOf item.zeros width 0
  pub has_words : HasWords memory width (length words)
  pub words_are : AreWords memory.name 0 (all_of item.words) words
  pub clock : IsClockOf scene.ports item.clock domain
  pub enable : IsNameOf wires item.enable inputs.enable
  pub write : IsAccess wires memory.name (length words) item.write inputs.place
  pub value_is : IsNameOf wires item.value inputs.value
  pub read : IsAccess wires memory.name (length words) item.read inputs.read

-- m u (.clk_D(clk_D), .i0(A), .y0(W)); with all ports of the used module in order: the clocks and
-- resets, what it reads, and what it drives
pub record IsUse (scene : Scene) (wires : List Declared) (item : UseItem) (m : ModId)
    (reads drives : List WireId) : Type 0 where
  pub named : place_of (map (λ (used : ModuleItem). used.name) scene.earlier) item.used
      ≡ Some m.number
  pub used : ModuleItem
  pub found : slice_get scene.earlier m.number ≡ Some used
  pub ports : map (λ (c : Connection). c.port) (all_of item.connections)
      ≡ map port_name (all_of used.ports)
  pub read_names : List (List ℕ)
  pub driven_names : List (List ℕ)
  pub joined : map (λ (c : Connection). c.wire) (all_of item.connections)
      ≡ signals_of (all_of used.ports) ++ (read_names ++ driven_names)
  pub inputs : length read_names ≡ length (inputs_of (all_of used.ports))
  pub reads_are : AreNamesOf wires read_names reads
  pub drives_are : AreNamesOf wires driven_names drives
  pub kinds : AllByRecursion (λ (w : WireId). IsOfKind wires w a_wire) drives

-- what an item is to its module: a declaration alone, a cell, or the wire of an output
pub data Part : Type 0 where
  declaration : Part
  a_cell : Cell → Part
  an_output : (k : ℕ) → (a : WireId) → Part

-- what an item is, behind these wires
pub data ItemIs (scene : Scene) (wires : List Declared) : Item → Part → Type 0 where
  -- wire [7:0] W;
  declares : (line : Line) → ItemIs scene wires (wire_item line) declaration
  -- reg [7:0] W = 8'h00; and the memory behind it
  keeps : (line : Line) (literal : List ℕ) (memory : Option Memory)
      → ItemIs scene wires (register_item line literal memory) declaration
  -- assign W = ..;
  assigns : (name : List ℕ) (right : Right) (w : WireId) (cell : Cell)
      → IsNameOf wires name w → IsOfKind wires w a_wire → RightIs wires w right cell
      → ItemIs scene wires (assign_item name right) (a_cell cell)
  -- assign O = A; of an output as wide as the wire
  shows : (name : List ℕ) (source : List ℕ) (k : ℕ) (line : Line) (a : WireId)
      → place_of (map (λ (l : Line). l.name) scene.outputs) name ≡ Some k
      → slice_get scene.outputs k ≡ Some line
      → IsNameOf wires source a → IsAsWide wires a (width_of line.range)
      → ItemIs scene wires (assign_item name (copy source)) (an_output k a)
  -- always @(posedge clk_D) W <= A;
  moves : (edge : Edge) (w : WireId) (domain : DomId) (initial : List Bool) (a : WireId)
      → IsRegister scene wires edge w domain initial a
      → ItemIs scene wires (edge_item edge) (a_cell (Reg w domain initial a))
  -- initial begin .. end always ..
  remembers : (item : RamItem) (w : WireId) (domain : DomId) (words : List (List Bool))
      (inputs : RamIn)
      → IsRam scene wires item w domain words inputs
      → ItemIs scene wires (ram_item item) (a_cell (Ram w domain words inputs))
  -- m u (..);
  uses : (item : UseItem) (m : ModId) (reads drives : List WireId)
      → IsUse scene wires item m reads drives
      → ItemIs scene wires (use_item item) (a_cell (Use m reads drives))

-- what items are, one by one: each is behind the wires that are declared before it
abbrev pub ItemsAre : Scene → List Declared → List Item → List Part → Type 0
ItemsAre scene wires [] [] = Unit {0}
ItemsAre scene wires (item ∷ items) (part ∷ parts) =
    ItemIs scene wires item part × ItemsAre scene (wires ++ declared_by item) items parts
ItemsAre scene wires _ _ = ⊥

-- the cells among parts
abbrev pub cells_of : List Part → List Cell
cells_of [] = []
cells_of (a_cell cell ∷ parts) = cell ∷ cells_of parts
cells_of (_ ∷ parts) = cells_of parts

-- the wires that are assigned to an output
abbrev pub assigned_to : ℕ → List Part → List WireId
assigned_to k [] = []
assigned_to k (an_output j a ∷ parts) =
    (if j == k then a ∷ [] else []) ++ assigned_to k parts
assigned_to k (_ ∷ parts) = assigned_to k parts

abbrev pub scene_of : Ports → List ModuleItem → ModuleItem → Scene
scene_of ports earlier m =
    record { ports = ports; outputs = outputs_of (all_of m.ports); earlier = earlier }

-- a module of the text, behind earlier ones, denotes a module of a net with these ports
pub record DenotesModule (ports : Ports) (earlier : List ModuleItem) (m : ModuleItem)
    (made : Module) : Type 0 where
  pub order : AreInOrder (all_of m.ports)
  -- every module has the clocks and resets of all domains
  pub signals : signals_of (all_of m.ports) ≡ clock_names ports.resets 0 ports.domains
  -- each name is declared once
  pub names : AreDistinct (names_of m)
  -- the range of bits of each declaration ends at 0
  pub ranges : AllByRecursion (λ (l : Line). value l.range.to ≡ 0) (lines_of m)
  pub parts : List Part
  pub items : ItemsAre (scene_of ports earlier m) (input_wires m) m.items parts
  pub inputs : made.inputs ≡ length (inputs_of (all_of m.ports))
  pub widths : made.widths ≡ map (λ (d : Declared). width_of d.line.range) (wires_of m)
  pub cells : made.cells ≡ cells_of parts
  pub outputs : length made.outputs ≡ length (outputs_of (all_of m.ports))
  -- each output is assigned once
  pub assigned : (k : ℕ) (a : WireId) → slice_get made.outputs k ≡ Some a
      → assigned_to k parts ≡ a ∷ []

-- modules of the text, behind earlier ones, denote modules of a net, one by one
abbrev pub DenoteModules : Ports → List ModuleItem → List ModuleItem → List Module → Type 0
DenoteModules ports earlier [] [] = Unit {0}
DenoteModules ports earlier (m ∷ items) (made ∷ modules) =
    DenotesModule ports earlier m made × DenoteModules ports (earlier ++ m ∷ []) items modules
DenoteModules ports earlier _ _ = ⊥

-- the lines are ports of these names and widths
pub record ArePorts (name_of_port : Port → List ℕ) (lines : List Line) (ports : List Port)
    : Type 0 where
  pub names : map (λ (l : Line). l.name) lines ≡ map name_of_port ports
  pub widths : map (λ (l : Line). width_of l.range) lines ≡ map (λ (p : Port). p.width) ports

-- the text denotes the net
pub record Denotes (source : Source) (net : Net) : Type 0 where
  -- the last module is the top, and no two modules have one name
  pub last : source.last.name ≡ top_name
  pub names : AreDistinct (map (λ (m : ModuleItem). m.name) (modules_of source))
  -- its ports are those of the net
  pub inputs : ArePorts (input_name net.ports.domains)
      (inputs_of (all_of source.last.ports)) net.ports.inputs
  pub outputs : ArePorts (output_name net.ports.domains)
      (outputs_of (all_of source.last.ports)) net.ports.outputs
  pub modules : DenoteModules net.ports [] (modules_of source) net.modules
