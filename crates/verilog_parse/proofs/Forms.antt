-- What rows begin: items, ports and modules, and what stands behind them.
use Rattle.std.proofs.Common.{◌≡◌, ℕ, true, List, [], ◌∷◌, ◌++◌, Option, Some, None, sym, refl, ap, ◌∙◌, subst, append_assoc}
use Rattle.std.specs.Prelude.{codes}
use Rattle.std.specs.List.{flat_map}
use Rattle.std.proofs.lemmas.List.{append-nil}
use Rattle.netlist.specs.declared.net.Op1.{Op1}
use Rattle.netlist.specs.declared.net.Op1.TheVariants.{Not, RedAnd, RedOr, RedXor}
use Rattle.netlist.specs.declared.net.Op2.{Op2}
use Rattle.netlist.specs.declared.net.Op2.TheVariants.{Add, Sub, Mul, And, Or, Xor, Eq, LtU, LtS, Shl, Shr, Sar}
use Rattle.verilog_text.specs.Grammar.{clock_tokens, commas, connection_tokens, item_tokens, keyword, memory_behind, module_tokens, name, port_tokens, show_tokens, sign, taken_tokens, word_tokens, write_tokens}
use Rattle.verilog_text.specs.Source.{Edge, Item, ModuleItem, OneOrMore, RamItem, Reset, Right, UseItem}
use Rattle.verilog_text.specs.Source.Item.{assign_item, edge_item, ram_item, register_item, use_item, wire_item}
use Rattle.verilog_text.specs.Source.Right.{binary, choice, constant, copy, cut, join, unary}
use Rattle.verilog_text.specs.VForms.{Token}
use Rattle.verilog_parse.specs.Follow.{ItemsFollow, MayFollow, behind_commas, edge_tokens, last_connections, last_parts, last_ports}
use Rattle.verilog_parse.specs.Rows.{after, rows_of, slots_of}
use Rattle.verilog_parse.specs.Slots.{fits}
use Rattle.verilog_parse.specs.declared.rows.Row.{Row}
use Rattle.verilog_parse.specs.declared.rows.Row.TheVariants as row
use Rattle.verilog_parse.specs.declared.rows.State.{State}
use Rattle.verilog_parse.specs.declared.rows.State.TheVariants as state
use Rattle.verilog_parse.proofs.Tables.{is_among}

-- things with commas between are the first, and the others behind commas
commas_split : {A : Type 0} (tokens : A → List Token) (first : A) (others : List A) → commas tokens first others ≡ tokens first ++ behind_commas tokens others
commas_split tokens first [] = sym (append-nil (tokens first))
commas_split tokens first (x ∷ others) = ap (λ (l : List Token). tokens first ++ sign (codes ",") ∷ l) (commas_split tokens x others)

commas_behind : {A : Type 0} (tokens : A → List Token) (first : A) (others : List A) (rest : List Token)
    → commas tokens first others ++ rest ≡ tokens first ++ (behind_commas tokens others ++ rest)
commas_behind tokens first others rest =
    ap (λ (l : List Token). l ++ rest) (commas_split tokens first others) ∙ append_assoc (tokens first) (behind_commas tokens others) rest

-- assign w = {a
abbrev pub join_front : List ℕ → List ℕ → List Token
join_front w a = keyword (codes "assign") ∷ name w ∷ sign (codes "=") ∷ sign (codes "{") ∷ name a ∷ []

pub join_split : (w : List ℕ) (parts : OneOrMore (List ℕ)) → item_tokens (assign_item w (join parts)) ≡ join_front w parts.first ++ last_parts parts.others
join_split w parts =
    ap (λ (l : List Token). keyword (codes "assign") ∷ name w ∷ sign (codes "=") ∷ sign (codes "{") ∷ l)
    (append_assoc (commas (λ (a : List ℕ). name a ∷ []) parts.first parts.others) (sign (codes "}") ∷ []) (sign (codes ";") ∷ [])
    ∙ commas_behind (λ (a : List ℕ). name a ∷ []) parts.first parts.others (sign (codes "}") ∷ sign (codes ";") ∷ []))

-- m u (.p(a)
abbrev pub use_front : UseItem → List Token
use_front u = name u.used ∷ name u.name ∷ sign (codes "(") ∷ connection_tokens u.connections.first

pub use_split : (u : UseItem) → item_tokens (use_item u) ≡ use_front u ++ last_connections u.connections.others
use_split u =
    ap (λ (l : List Token). name u.used ∷ name u.name ∷ sign (codes "(") ∷ l)
    (commas_behind connection_tokens u.connections.first u.connections.others (sign (codes ")") ∷ sign (codes ";") ∷ []))

-- initial begin r[0] = 8'h00;
abbrev pub ram_front : RamItem → List Token
ram_front r = keyword (codes "initial") ∷ keyword (codes "begin") ∷ word_tokens r.words.first

-- what stands behind the words of a RAM and their `end`
abbrev behind_end : RamItem → List Token
behind_end r =
    clock_tokens r.clock ++ keyword (codes "begin")
    ∷ (write_tokens r.enable r.write r.value ++ (show_tokens r.register r.read r.zeros ++ keyword (codes "end") ∷ []))

pub ram_split : (r : RamItem) → item_tokens (ram_item r) ≡ ram_front r ++ (flat_map word_tokens r.words.others ++ edge_tokens r)
ram_split r =
    ap (λ (l : List Token). ram_front r ++ l)
    (append_assoc (flat_map word_tokens r.words.others) (keyword (codes "end") ∷ []) (behind_end r))

-- module m (
abbrev pub module_front : List ℕ → List Token
module_front m = keyword (codes "module") ∷ name m ∷ sign (codes "(") ∷ []

-- the items of a module, and what stands behind them
abbrev pub body_tokens : ModuleItem → List Token → List Token
body_tokens m rest = flat_map item_tokens m.items ++ keyword (codes "endmodule") ∷ rest

pub module_split : (m : ModuleItem) (rest : List Token)
    → module_tokens m ++ rest ≡ module_front m.name ++ (port_tokens m.ports.first ++ (last_ports m.ports.others ++ body_tokens m rest))
module_split m rest =
    let ends : List Token = keyword (codes "endmodule") ∷ [] in
    let items : List Token = flat_map item_tokens m.items in
    let closed : List Token = sign (codes ")") ∷ sign (codes ";") ∷ [] in
    let ports : List Token = commas port_tokens m.ports.first m.ports.others in
    let inner : (ports ++ (closed ++ (items ++ ends))) ++ rest ≡ ports ++ (closed ++ body_tokens m rest) =
    append_assoc ports (closed ++ (items ++ ends)) rest
    ∙ ap (λ (l : List Token). ports ++ (closed ++ l)) (append_assoc items ends rest) in
    let split : ports ++ (closed ++ body_tokens m rest) ≡ port_tokens m.ports.first ++ (last_ports m.ports.others ++ body_tokens m rest) =
    commas_behind port_tokens m.ports.first m.ports.others (closed ++ body_tokens m rest)
    ∙ ap (λ (l : List Token). port_tokens m.ports.first ++ l) (sym (append_assoc (behind_commas port_tokens m.ports.others) closed (body_tokens m rest))) in
    ap (λ (l : List Token). module_front m.name ++ l) (inner ∙ split)

-- the row with which an item begins, its tokens, and those behind it
pub record Opens (x : Item) : Type 0 where
  pub row : Row
  pub front : List Token
  pub middle : List Token
  pub split : item_tokens x ≡ front ++ middle
  pub fit : fits (slots_of row) front ≡ true
  pub among : is_among (rows_of state.Item) row ≡ true
  pub follows : (body : List Token) → ItemsFollow body → MayFollow (after row) (middle ++ body)

-- a row of a whole assignment
assigns : (x : Row) (w : List ℕ) (right : Right) → fits (slots_of x) (item_tokens (assign_item w right)) ≡ true → is_among (rows_of state.Item) x ≡ true
    → after x ≡ state.Item → Opens (assign_item w right)
assigns x w right fit among then = record {
  row = x;
  front = item_tokens (assign_item w right);
  middle = [];
  split = sym (append-nil (item_tokens (assign_item w right)));
  fit = fit;
  among = among;
  follows = λ body items. subst (λ (s : State). MayFollow s body) (sym then) items;
}

unary_opens : (w a : List ℕ) (op : Op1) → Opens (assign_item w (unary op a))
unary_opens w a Not = assigns row.Unary w (unary Not a) refl refl refl
unary_opens w a RedAnd = assigns row.Unary w (unary RedAnd a) refl refl refl
unary_opens w a RedOr = assigns row.Unary w (unary RedOr a) refl refl refl
unary_opens w a RedXor = assigns row.Unary w (unary RedXor a) refl refl refl

binary_opens : (w a b : List ℕ) (op : Op2) → Opens (assign_item w (binary op a b))
binary_opens w a b Add = assigns row.Binary w (binary Add a b) refl refl refl
binary_opens w a b Sub = assigns row.Binary w (binary Sub a b) refl refl refl
binary_opens w a b Mul = assigns row.Binary w (binary Mul a b) refl refl refl
binary_opens w a b And = assigns row.Binary w (binary And a b) refl refl refl
binary_opens w a b Or = assigns row.Binary w (binary Or a b) refl refl refl
binary_opens w a b Xor = assigns row.Binary w (binary Xor a b) refl refl refl
binary_opens w a b Eq = assigns row.Binary w (binary Eq a b) refl refl refl
binary_opens w a b LtU = assigns row.Binary w (binary LtU a b) refl refl refl
binary_opens w a b LtS = assigns row.LessSigned w (binary LtS a b) refl refl refl
binary_opens w a b Shl = assigns row.Binary w (binary Shl a b) refl refl refl
binary_opens w a b Shr = assigns row.Binary w (binary Shr a b) refl refl refl
binary_opens w a b Sar = assigns row.ShiftSigned w (binary Sar a b) refl refl refl

right_opens : (w : List ℕ) (right : Right) → Opens (assign_item w right)
right_opens w (constant text) = assigns row.Constant w (constant text) refl refl refl
right_opens w (copy a) = assigns row.Copy w (copy a) refl refl refl
right_opens w (join parts) = record {
  row = row.Join;
  front = join_front w parts.first;
  middle = last_parts parts.others;
  split = join_split w parts;
  fit = refl;
  among = refl;
  follows = λ body items. record { thing = parts.others; rest = body; split = refl; follows = items };
}
right_opens w (cut a range) = assigns row.Cut w (cut a range) refl refl refl
right_opens w (unary op a) = unary_opens w a op
right_opens w (binary op a b) = binary_opens w a b op
right_opens w (choice c a b) = assigns row.Choice w (choice c a b) refl refl refl

-- always @(posedge clk_D) w <= ..;
abbrev edge_with : Edge → Option Reset → List Token
edge_with e reset = clock_tokens e.clock ++ name e.register ∷ sign (codes "<=") ∷ (taken_tokens reset e.a ++ sign (codes ";") ∷ [])

edge_opens : (e : Edge) (reset : Option Reset) → e.reset ≡ reset → Opens (edge_item e)
edge_opens e None is = record {
  row = row.Edge;
  front = edge_with e None;
  middle = [];
  split = ap (edge_with e) is;
  fit = refl;
  among = refl;
  follows = λ body items. items;
}
edge_opens e (Some r) is = record {
  row = row.ResetEdge;
  front = edge_with e (Some r);
  middle = [];
  split = ap (edge_with e) is;
  fit = refl;
  among = refl;
  follows = λ body items. items;
}

pub opens : (x : Item) → Opens x
opens (wire_item l) = record {
  row = row.Wire;
  front = item_tokens (wire_item l);
  middle = [];
  split = refl;
  fit = refl;
  among = refl;
  follows = λ body items. items;
}
opens (register_item l text memory) = record {
  row = row.Register;
  front = item_tokens (register_item l text None);
  middle = memory_behind memory;
  split = refl;
  fit = refl;
  among = refl;
  follows = λ body items. record { thing = memory; rest = body; split = refl; follows = items };
}
opens (assign_item w right) = right_opens w right
opens (edge_item e) = edge_opens e e.reset refl
opens (ram_item r) = record {
  row = row.Ram;
  front = ram_front r;
  middle = flat_map word_tokens r.words.others ++ edge_tokens r;
  split = ram_split r;
  fit = refl;
  among = refl;
  follows = λ body items. record {
    thing = r.words.others;
    rest = edge_tokens r ++ body;
    split = append_assoc (flat_map word_tokens r.words.others) (edge_tokens r) body;
    follows = record { thing = r; rest = body; split = refl; follows = items };
  };
}
opens (use_item u) = record {
  row = row.Use;
  front = use_front u;
  middle = last_connections u.connections.others;
  split = use_split u;
  fit = refl;
  among = refl;
  follows = λ body items. record { thing = u.connections.others; rest = body; split = refl; follows = items };
}
