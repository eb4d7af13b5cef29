-- What a tree says: the source that it is of, without the places.
use Rattle.std.specs.Prelude.{ℕ, List, map, Option, Some, None}
use Rattle.verilog_text.specs.Source.{Access as AccessItem, Connection as ConnectionItem}
use Rattle.verilog_text.specs.Source.{Edge as EdgeItem, FirstWord as WordItem, Item as SourceItem}
use Rattle.verilog_text.specs.Source.{Line as LineItem, Memory as MemoryItem, ModuleItem}
use Rattle.verilog_text.specs.Source.{OneOrMore, PortItem, RamItem, Range as RangeItem}
use Rattle.verilog_text.specs.Source.{Reset as ResetItem, Right as RightItem, Source, UseItem}
use Rattle.verilog_text.specs.Source.Item.{assign_item, edge_item, ram_item, register_item}
use Rattle.verilog_text.specs.Source.Item.{use_item, wire_item}
use Rattle.verilog_text.specs.Source.PortItem.{input_port, output_port, signal_port}
use Rattle.verilog_text.specs.Source.Right.{binary, choice, constant, copy, cut, join, unary}
use Rattle.verilog_tree.specs.declared.item.Access.{Access}
use Rattle.verilog_tree.specs.declared.item.Connection.{Connection}
use Rattle.verilog_tree.specs.declared.item.Edge.{Edge}
use Rattle.verilog_tree.specs.declared.item.FirstWord.{FirstWord}
use Rattle.verilog_tree.specs.declared.item.Item.{Item}
use Rattle.verilog_tree.specs.declared.item.Item.TheVariants as item
use Rattle.verilog_tree.specs.declared.item.Memory.{Memory}
use Rattle.verilog_tree.specs.declared.item.Ram.{Ram}
use Rattle.verilog_tree.specs.declared.item.Reset.{Reset}
use Rattle.verilog_tree.specs.declared.item.Use.{Use}
use Rattle.verilog_tree.specs.declared.module.Module.{Module}
use Rattle.verilog_tree.specs.declared.module.Port.{Port}
use Rattle.verilog_tree.specs.declared.module.Port.TheVariants.{Input, Output, Signal}
use Rattle.verilog_tree.specs.declared.module.Tree.{Tree}
use Rattle.verilog_tree.specs.declared.right.Join.{Join}
use Rattle.verilog_tree.specs.declared.right.Right.{Right}
use Rattle.verilog_tree.specs.declared.right.Right.TheVariants as right
use Rattle.verilog_tree.specs.declared.word.Line.{Line}
use Rattle.verilog_tree.specs.declared.word.Range.{Range}
use Rattle.verilog_tree.specs.declared.word.Word.{Word}

-- the bytes of a word
abbrev pub bytes_of : Word → List ℕ
bytes_of w = w.bytes.now

abbrev pub range_of : Range → RangeItem
range_of r = record { from = bytes_of r.from; to = bytes_of r.to }

abbrev pub line_of : Line → LineItem
line_of l = record { range = range_of l.range; name = bytes_of l.name }

abbrev pub port_of : Port → PortItem
port_of (Signal w) = signal_port (bytes_of w)
port_of (Input l) = input_port (line_of l)
port_of (Output l) = output_port (line_of l)

abbrev pub joined_of : Join → OneOrMore (List ℕ)
joined_of j = record { first = bytes_of j.first; others = map bytes_of j.others }

abbrev pub right_of : Right → RightItem
right_of (right.Constant literal) = constant (bytes_of literal)
right_of (right.Copy a) = copy (bytes_of a)
right_of (right.Join parts) = join (joined_of parts)
right_of (right.Cut a r) = cut (bytes_of a) (range_of r)
right_of (right.Unary op at a) = unary op (bytes_of a)
right_of (right.Binary op at a b) = binary op (bytes_of a) (bytes_of b)
right_of (right.Choice c a b) = choice (bytes_of c) (bytes_of a) (bytes_of b)

abbrev pub memory_of : Memory → MemoryItem
memory_of m = record {
  width = range_of m.width;
  name = bytes_of m.name;
  places = range_of m.places;
}

abbrev pub memory_if : Option Memory → Option MemoryItem
memory_if None = None
memory_if (Some m) = Some (memory_of m)

abbrev pub reset_of : Reset → ResetItem
reset_of r = record { name = bytes_of r.name; literal = bytes_of r.literal }

abbrev pub reset_if : Option Reset → Option ResetItem
reset_if None = None
reset_if (Some r) = Some (reset_of r)

abbrev pub edge_of : Edge → EdgeItem
edge_of e = record {
  clock = bytes_of e.clock;
  register = bytes_of e.register;
  reset = reset_if e.reset;
  a = bytes_of e.a;
}

abbrev pub word_of : FirstWord → WordItem
word_of w = record {
  memory = bytes_of w.memory;
  place = bytes_of w.place;
  literal = bytes_of w.literal;
}

abbrev pub access_of : Access → AccessItem
access_of a = record {
  address = bytes_of a.address;
  count = bytes_of a.count;
  memory = bytes_of a.memory;
  again = bytes_of a.again;
}

abbrev pub ram_of : Ram → RamItem
ram_of r = record {
  words = record { first = word_of r.first; others = map word_of r.others };
  clock = bytes_of r.clock;
  enable = bytes_of r.enable;
  write = access_of r.write;
  value = bytes_of r.value;
  register = bytes_of r.register;
  read = access_of r.read;
  zeros = bytes_of r.zeros;
}

abbrev pub connection_of : Connection → ConnectionItem
connection_of c = record { port = bytes_of c.port; wire = bytes_of c.wire }

abbrev pub use_of : Use → UseItem
use_of u = record {
  used = bytes_of u.used;
  name = bytes_of u.name;
  connections = record {
    first = connection_of u.first;
    others = map connection_of u.others;
  };
}

abbrev pub item_of : Item → SourceItem
item_of (item.Wire l) = wire_item (line_of l)
item_of (item.Register l literal memory) =
    register_item (line_of l) (bytes_of literal) (memory_if memory)
item_of (item.Assign w a) = assign_item (bytes_of w) (right_of a)
item_of (item.Edge e) = edge_item (edge_of e)
item_of (item.Ram r) = ram_item (ram_of r)
item_of (item.Use u) = use_item (use_of u)

abbrev pub module_of : Module → ModuleItem
module_of m = record {
  name = bytes_of m.name;
  ports = record { first = port_of m.first; others = map port_of m.others };
  items = map item_of m.items;
}

-- the source of a tree
abbrev pub source_of : Tree → Source
source_of tree = record { earlier = map module_of tree.earlier; last = module_of tree.last }
