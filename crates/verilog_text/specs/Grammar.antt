-- The grammar of a Verilog text: the tokens of which it consists. There is an equation for each
-- production.
use Rattle.std.specs.Prelude.{◌≡◌, ℕ, List, [], ◌∷◌, ◌++◌, codes, map, Option, Some, None}
use Rattle.std.specs.List.{flat_map}
use Rattle.netlist.specs.declared.net.Op2.{Op2}
use Rattle.netlist.specs.declared.net.Op2.TheVariants.{Add, Sub, Mul, And, Or, Xor, Eq, LtU, LtS}
use Rattle.netlist.specs.declared.net.Op2.TheVariants.{Shl, Shr, Sar}
use Rattle.verilog_text.specs.Source.{Access, Connection, FirstWord, Item, Line, Memory}
use Rattle.verilog_text.specs.Source.{ModuleItem, OneOrMore, PortItem, RamItem, Range, Reset}
use Rattle.verilog_text.specs.Source.{Right, Source, all_of, modules_of}
use Rattle.verilog_text.specs.Source.Item.{assign_item, edge_item, ram_item, register_item}
use Rattle.verilog_text.specs.Source.Item.{use_item, wire_item}
use Rattle.verilog_text.specs.Source.PortItem.{input_port, output_port, signal_port}
use Rattle.verilog_text.specs.Source.Right.{binary, choice, constant, copy, cut, join, unary}
use Rattle.verilog_text.specs.Text.{sign1}
use Rattle.verilog_text.specs.VForms.{Token}
use Rattle.verilog_text.specs.VForms.Sort.{keyword as a_keyword, literal as a_literal}
use Rattle.verilog_text.specs.VForms.Sort.{name as a_name, number as a_number, sign as a_sign}
use Rattle.verilog_text.specs.VForms.Sort.{signed as a_signed}
use Rattle.verilog_text.specs.VTokens.{Placed}

-- a token of a sort
abbrev pub keyword : List ℕ → Token
keyword bytes = record { sort = a_keyword; bytes = bytes }

abbrev pub sign : List ℕ → Token
sign bytes = record { sort = a_sign; bytes = bytes }

abbrev pub name : List ℕ → Token
name bytes = record { sort = a_name; bytes = bytes }

abbrev pub number : List ℕ → Token
number bytes = record { sort = a_number; bytes = bytes }

abbrev pub literal : List ℕ → Token
literal bytes = record { sort = a_literal; bytes = bytes }

abbrev pub signed : Token
signed = record { sort = a_signed; bytes = codes "$signed" }

-- the tokens of one thing or more, with a comma between
abbrev pub commas : {A : Type 0} → (A → List Token) → A → List A → List Token
commas tokens first [] = tokens first
commas tokens first (second ∷ more) =
    tokens first ++ sign (codes ",") ∷ commas tokens second more

-- [7:0]
abbrev pub range_tokens : Range → List Token
range_tokens r =
    sign (codes "[") ∷ number r.from ∷ sign (codes ":") ∷ number r.to ∷ sign (codes "]") ∷ []

-- [7:0] w
abbrev pub line_tokens : Line → List Token
line_tokens l = range_tokens l.range ++ name l.name ∷ []

-- input clk_D; input [7:0] i; output [7:0] o
abbrev pub port_tokens : PortItem → List Token
port_tokens (signal_port s) = keyword (codes "input") ∷ name s ∷ []
port_tokens (input_port l) = keyword (codes "input") ∷ line_tokens l
port_tokens (output_port l) = keyword (codes "output") ∷ line_tokens l

abbrev pub binary_sign : Op2 → List ℕ
binary_sign Add = codes "+"
binary_sign Sub = codes "-"
binary_sign Mul = codes "*"
binary_sign And = codes "&"
binary_sign Or = codes "|"
binary_sign Xor = codes "^"
binary_sign Eq = codes "=="
binary_sign LtU = codes "<"
binary_sign LtS = codes "<"
binary_sign Shl = codes "<<"
binary_sign Shr = codes ">>"
binary_sign Sar = codes ">>>"

-- $signed(a)
abbrev pub signed_tokens : List ℕ → List Token
signed_tokens a = signed ∷ sign (codes "(") ∷ name a ∷ sign (codes ")") ∷ []

-- a + b; $signed(a) < $signed(b); $signed(a) >>> b
abbrev pub binary_tokens : Op2 → List ℕ → List ℕ → List Token
binary_tokens LtS a b = signed_tokens a ++ sign (binary_sign LtS) ∷ signed_tokens b
binary_tokens Sar a b = signed_tokens a ++ sign (binary_sign Sar) ∷ name b ∷ []
binary_tokens op a b = name a ∷ sign (binary_sign op) ∷ name b ∷ []

-- 8'h1f; a; {a, b}; a[7:0]; ~a; a + b; c ? a : b
abbrev pub right_tokens : Right → List Token
right_tokens (constant text) = literal text ∷ []
right_tokens (copy a) = name a ∷ []
right_tokens (join parts) =
    sign (codes "{")
    ∷ (commas (λ a. name a ∷ []) parts.first parts.others ++ sign (codes "}") ∷ [])
right_tokens (cut a r) = name a ∷ range_tokens r
right_tokens (unary op a) = sign (sign1 op) ∷ name a ∷ []
right_tokens (binary op a b) = binary_tokens op a b
right_tokens (choice c a b) =
    name c ∷ sign (codes "?") ∷ name a ∷ sign (codes ":") ∷ name b ∷ []

-- reg [7:0] r [0:4];
abbrev pub memory_tokens : Memory → List Token
memory_tokens m =
    keyword (codes "reg")
    ∷ (range_tokens m.width ++ name m.name ∷ (range_tokens m.places ++ sign (codes ";") ∷ []))

abbrev pub memory_behind : Option Memory → List Token
memory_behind None = []
memory_behind (Some m) = memory_tokens m

-- always @(posedge clk_D)
abbrev pub clock_tokens : List ℕ → List Token
clock_tokens clock =
    keyword (codes "always") ∷ sign (codes "@") ∷ sign (codes "(")
    ∷ keyword (codes "posedge") ∷ name clock ∷ sign (codes ")") ∷ []

-- rst_D ? 8'h00 : a; or a alone
abbrev pub taken_tokens : Option Reset → List ℕ → List Token
taken_tokens None a = name a ∷ []
taken_tokens (Some r) a =
    name r.name ∷ sign (codes "?") ∷ literal r.literal ∷ sign (codes ":") ∷ name a ∷ []

-- r[0] = 8'h00;
abbrev pub word_tokens : FirstWord → List Token
word_tokens w =
    name w.memory ∷ sign (codes "[") ∷ number w.place ∷ sign (codes "]") ∷ sign (codes "=")
    ∷ literal w.literal ∷ sign (codes ";") ∷ []

-- (a < 12'h005)
abbrev pub inside_tokens : Access → List Token
inside_tokens a =
    sign (codes "(") ∷ name a.address ∷ sign (codes "<") ∷ literal a.count ∷ sign (codes ")") ∷ []

-- r[a]
abbrev pub element_tokens : Access → List Token
element_tokens a =
    name a.memory ∷ sign (codes "[") ∷ name a.again ∷ sign (codes "]") ∷ []

-- initial begin .. end
abbrev pub initial_tokens : OneOrMore FirstWord → List Token
initial_tokens words =
    keyword (codes "initial") ∷ keyword (codes "begin")
    ∷ (flat_map word_tokens (all_of words) ++ keyword (codes "end") ∷ [])

-- if (e & (p < 12'h005)) r[p] <= v;
abbrev pub write_tokens : List ℕ → Access → List ℕ → List Token
write_tokens enable write value =
    keyword (codes "if") ∷ sign (codes "(") ∷ name enable ∷ sign (codes "&")
    ∷ (inside_tokens write ++ sign (codes ")")
    ∷ (element_tokens write ++ sign (codes "<=") ∷ name value ∷ sign (codes ";") ∷ []))

-- w <= (a < 12'h005) ? r[a] : 8'h00;
abbrev pub show_tokens : List ℕ → Access → List ℕ → List Token
show_tokens register read zeros =
    name register ∷ sign (codes "<=")
    ∷ (inside_tokens read ++ sign (codes "?")
    ∷ (element_tokens read ++ sign (codes ":") ∷ literal zeros ∷ sign (codes ";") ∷ []))

-- initial begin .. end always @(posedge clk_D) begin if .. ; w <= .. ; end
abbrev pub ram_tokens : RamItem → List Token
ram_tokens r =
    initial_tokens r.words
    ++ (clock_tokens r.clock ++ keyword (codes "begin")
    ∷ (write_tokens r.enable r.write r.value
    ++ (show_tokens r.register r.read r.zeros ++ keyword (codes "end") ∷ [])))

-- .p(a)
abbrev pub connection_tokens : Connection → List Token
connection_tokens c =
    sign (codes ".") ∷ name c.port ∷ sign (codes "(") ∷ name c.wire ∷ sign (codes ")") ∷ []

-- wire [7:0] w; reg [7:0] w = 8'h00; assign w = ..; always @(posedge clk_D) w <= ..; m u (..);
abbrev pub item_tokens : Item → List Token
item_tokens (wire_item l) = keyword (codes "wire") ∷ (line_tokens l ++ sign (codes ";") ∷ [])
item_tokens (register_item l text memory) =
    keyword (codes "reg")
    ∷ (line_tokens l ++ sign (codes "=") ∷ literal text ∷ sign (codes ";") ∷ memory_behind memory)
item_tokens (assign_item w right) =
    keyword (codes "assign") ∷ name w ∷ sign (codes "=")
    ∷ (right_tokens right ++ sign (codes ";") ∷ [])
item_tokens (edge_item e) =
    clock_tokens e.clock ++ name e.register ∷ sign (codes "<=")
    ∷ (taken_tokens e.reset e.a ++ sign (codes ";") ∷ [])
item_tokens (ram_item r) = ram_tokens r
item_tokens (use_item u) =
    name u.used ∷ name u.name ∷ sign (codes "(")
    ∷ (commas connection_tokens u.connections.first u.connections.others
    ++ sign (codes ")") ∷ sign (codes ";") ∷ [])

-- module m (..); .. endmodule
abbrev pub module_tokens : ModuleItem → List Token
module_tokens m =
    keyword (codes "module") ∷ name m.name ∷ sign (codes "(")
    ∷ (commas port_tokens m.ports.first m.ports.others
    ++ sign (codes ")") ∷ sign (codes ";")
    ∷ (flat_map item_tokens m.items ++ keyword (codes "endmodule") ∷ []))

-- the tokens of a text
abbrev pub source_tokens : Source → List Token
source_tokens source = flat_map module_tokens (modules_of source)

-- the tokens are those of the text
abbrev pub IsSource : List Placed → Source → Type 0
IsSource tokens source = map (λ (t : Placed). t.token) tokens ≡ source_tokens source
