-- The tokens from which a tree was read. A word has its place, and so has each sign or keyword
-- whose place the tree keeps. There is an equation for each production.
use Rattle.std.specs.Prelude.{◌≡◌, ℕ, List, [], ◌∷◌, ◌++◌, codes, Option, Some, None, IfSome}
use Rattle.std.specs.List.{flat_map}
use Rattle.netlist.specs.declared.net.Op2.{Op2}
use Rattle.netlist.specs.declared.net.Op2.TheVariants.{LtS, Sar}
use Rattle.verilog_text.specs.Grammar.{binary_sign, keyword, literal, name, number, sign, signed}
use Rattle.verilog_text.specs.Text.{sign1}
use Rattle.verilog_text.specs.VForms.{Token}
use Rattle.verilog_text.specs.VTokens.{Placed}
use Rattle.verilog_tree.specs.Sources.{bytes_of}
use Rattle.verilog_tree.specs.declared.item.Access.{Access}
use Rattle.verilog_tree.specs.declared.item.Connection.{Connection}
use Rattle.verilog_tree.specs.declared.item.Edge.{Edge}
use Rattle.verilog_tree.specs.declared.item.FirstWord.{FirstWord}
use Rattle.verilog_tree.specs.declared.item.Item.{Item}
use Rattle.verilog_tree.specs.declared.item.Item.TheVariants as item
use Rattle.verilog_tree.specs.declared.item.Memory.{Memory}
use Rattle.verilog_tree.specs.declared.item.Ram.{Ram}
use Rattle.verilog_tree.specs.declared.item.Reset.{Reset}
use Rattle.verilog_tree.specs.declared.item.Use.{Use}
use Rattle.verilog_tree.specs.declared.module.Module.{Module}
use Rattle.verilog_tree.specs.declared.module.Port.{Port}
use Rattle.verilog_tree.specs.declared.module.Port.TheVariants.{Input, Output, Signal}
use Rattle.verilog_tree.specs.declared.module.Tree.{Tree}
use Rattle.verilog_tree.specs.declared.right.Join.{Join}
use Rattle.verilog_tree.specs.declared.right.Right.{Right}
use Rattle.verilog_tree.specs.declared.right.Right.TheVariants as right
use Rattle.verilog_tree.specs.declared.word.Line.{Line}
use Rattle.verilog_tree.specs.declared.word.Range.{Range}
use Rattle.verilog_tree.specs.declared.word.Word.{Word}

-- a token, and its place where the tree keeps it
pub record Mark : Type 0 where
  pub at : Option ℕ
  pub token : Token

-- a token whose place is kept
abbrev pub placed : ℕ → Token → Mark
placed at token = record { at = Some at; token = token }

-- a token whose place is forgotten
abbrev pub anywhere : Token → Mark
anywhere token = record { at = None; token = token }

abbrev pub a_keyword : List ℕ → Mark
a_keyword bytes = anywhere (keyword bytes)

abbrev pub a_sign : List ℕ → Mark
a_sign bytes = anywhere (sign bytes)

abbrev pub a_name : Word → Mark
a_name w = placed w.at (name (bytes_of w))

abbrev pub a_number : Word → Mark
a_number w = placed w.at (number (bytes_of w))

abbrev pub a_literal : Word → Mark
a_literal w = placed w.at (literal (bytes_of w))

-- the marks of each, behind a comma
abbrev pub commas_before : {A : Type 0} → (A → List Mark) → List A → List Mark
commas_before marks = flat_map (λ x. a_sign (codes ",") ∷ marks x)

-- [7:0]
abbrev pub range_marks : Range → List Mark
range_marks r =
    a_sign (codes "[") ∷ a_number r.from ∷ a_sign (codes ":") ∷ a_number r.to
    ∷ a_sign (codes "]") ∷ []

-- [7:0] w
abbrev pub line_marks : Line → List Mark
line_marks l = range_marks l.range ++ a_name l.name ∷ []

-- input clk_D; input [7:0] i; output [7:0] o
abbrev pub port_marks : Port → List Mark
port_marks (Signal w) = a_keyword (codes "input") ∷ a_name w ∷ []
port_marks (Input l) = a_keyword (codes "input") ∷ line_marks l
port_marks (Output l) = a_keyword (codes "output") ∷ line_marks l

-- $signed(a)
abbrev pub signed_marks : Word → List Mark
signed_marks a = anywhere signed ∷ a_sign (codes "(") ∷ a_name a ∷ a_sign (codes ")") ∷ []

-- a + b; $signed(a) < $signed(b); $signed(a) >>> b
abbrev pub binary_marks : Op2 → ℕ → Word → Word → List Mark
binary_marks LtS at a b = signed_marks a ++ placed at (sign (binary_sign LtS)) ∷ signed_marks b
binary_marks Sar at a b = signed_marks a ++ placed at (sign (binary_sign Sar)) ∷ a_name b ∷ []
binary_marks op at a b = a_name a ∷ placed at (sign (binary_sign op)) ∷ a_name b ∷ []

-- {a, b}
abbrev pub join_marks : Join → List Mark
join_marks j =
    a_sign (codes "{") ∷ a_name j.first
    ∷ (commas_before (λ w. a_name w ∷ []) j.others ++ placed j.close (sign (codes "}")) ∷ [])

-- 8'h1f; a; {a, b}; a[7:0]; ~a; a + b; c ? a : b
abbrev pub right_marks : Right → List Mark
right_marks (right.Constant w) = a_literal w ∷ []
right_marks (right.Copy a) = a_name a ∷ []
right_marks (right.Join parts) = join_marks parts
right_marks (right.Cut a r) = a_name a ∷ range_marks r
right_marks (right.Unary op at a) = placed at (sign (sign1 op)) ∷ a_name a ∷ []
right_marks (right.Binary op at a b) = binary_marks op at a b
right_marks (right.Choice c a b) =
    a_name c ∷ a_sign (codes "?") ∷ a_name a ∷ a_sign (codes ":") ∷ a_name b ∷ []

-- reg [7:0] r [0:4];
abbrev pub memory_marks : Memory → List Mark
memory_marks m =
    a_keyword (codes "reg")
    ∷ (range_marks m.width ++ a_name m.name ∷ (range_marks m.places ++ a_sign (codes ";") ∷ []))

abbrev pub marks_behind : Option Memory → List Mark
marks_behind None = []
marks_behind (Some m) = memory_marks m

-- always @(posedge clk_D)
abbrev pub clock_marks : Word → List Mark
clock_marks clock =
    a_keyword (codes "always") ∷ a_sign (codes "@") ∷ a_sign (codes "(")
    ∷ a_keyword (codes "posedge") ∷ a_name clock ∷ a_sign (codes ")") ∷ []

-- rst_D ? 8'h00 : a; or a alone
abbrev pub taken_marks : Option Reset → Word → List Mark
taken_marks None a = a_name a ∷ []
taken_marks (Some r) a =
    a_name r.name ∷ a_sign (codes "?") ∷ a_literal r.literal ∷ a_sign (codes ":") ∷ a_name a ∷ []

-- always @(posedge clk_D) w <= ..;
abbrev pub edge_marks : Edge → List Mark
edge_marks e =
    clock_marks e.clock ++ a_name e.register ∷ a_sign (codes "<=")
    ∷ (taken_marks e.reset e.a ++ a_sign (codes ";") ∷ [])

-- r[0] = 8'h00;
abbrev pub word_marks : FirstWord → List Mark
word_marks w =
    a_name w.memory ∷ a_sign (codes "[") ∷ a_number w.place ∷ a_sign (codes "]")
    ∷ a_sign (codes "=") ∷ a_literal w.literal ∷ a_sign (codes ";") ∷ []

-- (a < 12'h005)
abbrev pub inside_marks : Access → List Mark
inside_marks a =
    a_sign (codes "(") ∷ a_name a.address ∷ a_sign (codes "<") ∷ a_literal a.count
    ∷ a_sign (codes ")") ∷ []

-- r[a]
abbrev pub element_marks : Access → List Mark
element_marks a =
    a_name a.memory ∷ a_sign (codes "[") ∷ a_name a.again ∷ a_sign (codes "]") ∷ []

-- initial begin .. end
abbrev pub initial_marks : FirstWord → List FirstWord → ℕ → List Mark
initial_marks first others end =
    a_keyword (codes "initial") ∷ a_keyword (codes "begin")
    ∷ (word_marks first ++ (flat_map word_marks others ++ placed end (keyword (codes "end")) ∷ []))

-- if (e & (p < 12'h005)) r[p] <= v;
abbrev pub write_marks : Word → Access → Word → List Mark
write_marks enable write value =
    a_keyword (codes "if") ∷ a_sign (codes "(") ∷ a_name enable ∷ a_sign (codes "&")
    ∷ (inside_marks write ++ a_sign (codes ")")
    ∷ (element_marks write ++ a_sign (codes "<=") ∷ a_name value ∷ a_sign (codes ";") ∷ []))

-- w <= (a < 12'h005) ? r[a] : 8'h00;
abbrev pub show_marks : Word → Access → Word → List Mark
show_marks register read zeros =
    a_name register ∷ a_sign (codes "<=")
    ∷ (inside_marks read ++ a_sign (codes "?")
    ∷ (element_marks read ++ a_sign (codes ":") ∷ a_literal zeros ∷ a_sign (codes ";") ∷ []))

-- initial begin .. end always @(posedge clk_D) begin if .. ; w <= .. ; end
abbrev pub ram_marks : Ram → List Mark
ram_marks r =
    initial_marks r.first r.others r.end
    ++ (clock_marks r.clock ++ a_keyword (codes "begin")
    ∷ (write_marks r.enable r.write r.value
    ++ (show_marks r.register r.read r.zeros ++ a_keyword (codes "end") ∷ [])))

-- .p(a)
abbrev pub connection_marks : Connection → List Mark
connection_marks c =
    a_sign (codes ".") ∷ a_name c.port ∷ a_sign (codes "(") ∷ a_name c.wire
    ∷ a_sign (codes ")") ∷ []

-- m u (.p(a), .q(b));
abbrev pub use_marks : Use → List Mark
use_marks u =
    a_name u.used ∷ a_name u.name ∷ a_sign (codes "(")
    ∷ (connection_marks u.first ++ (commas_before connection_marks u.others
    ++ placed u.close (sign (codes ")")) ∷ a_sign (codes ";") ∷ []))

-- wire [7:0] w; reg [7:0] w = 8'h00; assign w = ..; always @(posedge clk_D) w <= ..; m u (..);
abbrev pub item_marks : Item → List Mark
item_marks (item.Wire l) = a_keyword (codes "wire") ∷ (line_marks l ++ a_sign (codes ";") ∷ [])
item_marks (item.Register l w memory) =
    a_keyword (codes "reg")
    ∷ (line_marks l ++ a_sign (codes "=") ∷ a_literal w ∷ a_sign (codes ";") ∷ marks_behind memory)
item_marks (item.Assign w a) =
    a_keyword (codes "assign") ∷ a_name w ∷ a_sign (codes "=")
    ∷ (right_marks a ++ a_sign (codes ";") ∷ [])
item_marks (item.Edge e) = edge_marks e
item_marks (item.Ram r) = ram_marks r
item_marks (item.Use u) = use_marks u

-- module m (..); .. endmodule
abbrev pub module_marks : Module → List Mark
module_marks m =
    a_keyword (codes "module") ∷ a_name m.name ∷ a_sign (codes "(")
    ∷ (port_marks m.first ++ (commas_before port_marks m.others
    ++ a_sign (codes ")") ∷ a_sign (codes ";")
    ∷ (flat_map item_marks m.items ++ a_keyword (codes "endmodule") ∷ [])))

-- the marks of a tree
abbrev pub tree_marks : Tree → List Mark
tree_marks tree = flat_map module_marks tree.earlier ++ module_marks tree.last

-- the token is that of the mark, at its place where the mark has one
pub record IsAt (token : Placed) (mark : Mark) : Type 0 where
  pub token_is : token.token ≡ mark.token
  pub place_is : IfSome mark.at (λ at. token.at ≡ at)

-- the tokens are those of the marks, one for each
abbrev pub AreMarked : List Placed → List Mark → Type 0
AreMarked [] [] = Unit {0}
AreMarked (token ∷ tokens) (mark ∷ marks) = IsAt token mark × AreMarked tokens marks
AreMarked _ _ = ⊥

-- the tree was read from the tokens
abbrev pub IsTreeOf : List Placed → Tree → Type 0
IsTreeOf tokens tree = AreMarked tokens (tree_marks tree)
