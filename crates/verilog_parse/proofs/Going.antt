-- What follows a row may stand behind it, and each state can be ended.
use Rattle.std.proofs.Common.{◌≡◌, ℕ, ◌+◌, true, List, [], ◌∷◌, ◌++◌, Some, None, sym, refl, ap, ◌∙◌, append_assoc}
use Rattle.std.specs.Prelude.{codes}
use Rattle.std.specs.List.{flat_map}
use Rattle.std.proofs.lemmas.Bool.{false≢true}
use Rattle.std.proofs.lemmas.List.{append-nil}
use Rattle.verilog_text.specs.Grammar.{connection_tokens, item_tokens, keyword, memory_behind, module_tokens, name, port_tokens, sign, word_tokens}
use Rattle.verilog_text.specs.Source.{Connection, FirstWord, Item, Line, ModuleItem, OneOrMore, RamItem, Range, UseItem}
use Rattle.verilog_text.specs.Source.Item.{assign_item, edge_item, ram_item, register_item, use_item, wire_item}
use Rattle.verilog_text.specs.Source.PortItem.{input_port, output_port, signal_port}
use Rattle.verilog_text.specs.Source.Right.{binary, choice, constant, copy, cut, join, unary}
use Rattle.verilog_text.specs.VForms.{Token}
use Rattle.netlist.specs.declared.net.Op2.{Op2}
use Rattle.netlist.specs.declared.net.Op2.TheVariants.{LtS, Sar}
use Rattle.verilog_parse.specs.Follow.{Before, ItemsFollow, MayFollow, edge_tokens, last_connections, last_parts, last_ports}
use Rattle.verilog_parse.specs.Rows.{after, rows_of, slots_of}
use Rattle.verilog_parse.specs.Slots.{binary_ops, fits, unary_ops}
use Rattle.verilog_parse.specs.declared.rows.Row.{Row}
use Rattle.verilog_parse.specs.declared.rows.Row.TheVariants as row
use Rattle.verilog_parse.specs.declared.rows.State.{State}
use Rattle.verilog_parse.specs.declared.rows.State.TheVariants as state
use Rattle.verilog_parse.proofs.Forms.{body_tokens, join_split, module_front, module_split, ram_split, use_split}
use Rattle.verilog_parse.proofs.Spread.{found_plain, is_spread, nth, op1_among, op2_among, plain_tokens}
use Rattle.verilog_parse.proofs.Tables.{is_among}
use Rattle.verilog_parse.proofs.Steps.{ports_more}

-- words, ranges and lines from a place on
abbrev at : List Token → ℕ → List ℕ
at l k = (nth k l).bytes

abbrev range_at : List Token → ℕ → Range
range_at l k = record { from = at l (k + 1); to = at l (k + 3) }

abbrev line_at : List Token → ℕ → Line
line_at l k = record { range = range_at l k; name = at l (k + 5) }

abbrev word_at : List Token → ℕ → FirstWord
word_at l k = record { memory = at l k; place = at l (k + 2); literal = at l (k + 5) }

abbrev connection_at : List Token → ℕ → Connection
connection_at l k = record { port = at l (k + 1); wire = at l (k + 3) }

abbrev ram_at : List Token → RamItem
ram_at l = record {
  words = record { first = record { memory = []; place = []; literal = [] }; others = [] };
  clock = at l 5;
  enable = at l 10;
  write = record { address = at l 13; count = at l 15; memory = at l 18; again = at l 20 };
  value = at l 23;
  register = at l 25;
  read = record { address = at l 28; count = at l 30; memory = at l 33; again = at l 35 };
  zeros = at l 38;
}

-- the state that a row is of, which others contain
abbrev pub home : Row → State
home row.Module = state.Text
home row.Signal = state.Port
home row.Input = state.Port
home row.Output = state.Port
home row.NextPort = state.Ports
home row.LastPort = state.Ports
home row.Memory = state.ItemOrMemory
home row.NextPart = state.Parts
home row.LastPart = state.Parts
home row.NextWord = state.Words
home row.RamEdge = state.Words
home row.NextConnection = state.Connections
home row.LastConnection = state.Connections
home _ = state.Item

item_goes : (x : Item) (front middle rest body : List Token) → item_tokens x ≡ front ++ middle → rest ≡ middle ++ body → ItemsFollow body
    → ItemsFollow (front ++ rest)
item_goes x front middle rest body is split items =
    let behind : List Token = keyword (codes "endmodule") ∷ flat_map module_tokens items.modules in
    let inner : List Token = flat_map item_tokens items.items in
    record {
      items = x ∷ items.items;
      modules = items.modules;
      split = ap (λ (l : List Token). front ++ l) split
          ∙ (sym (append_assoc front middle body)
          ∙ (ap (λ (l : List Token). l ++ body) (sym is)
          ∙ (ap (λ (l : List Token). item_tokens x ++ l) items.split
          ∙ sym (append_assoc (item_tokens x) inner behind))));
    }

whole_goes : (x : Item) (front rest : List Token) → front ≡ item_tokens x → ItemsFollow rest → ItemsFollow (front ++ rest)
whole_goes x front rest is items = item_goes x front [] rest rest (sym is ∙ sym (append-nil front)) refl items

-- what stands in front of what may follow
in_front : (front known rest : List Token) → front ≡ known → front ++ rest ≡ known ++ rest
in_front front known rest is = ap (λ (l : List Token). l ++ rest) is

plain_goes : (front rest : List Token) → fits (slots_of row.Binary) front ≡ true → ItemsFollow rest → ItemsFollow (front ++ rest)
plain_goes front rest fit f =
    let op : Op2 = op2_among binary_ops (nth 4 front) in
    let tokens : List ℕ → List Token → List Token = λ w l. keyword (codes "assign") ∷ name w ∷ sign (codes "=") ∷ (l ++ sign (codes ";") ∷ []) in
    whole_goes (assign_item (at front 1) (binary op (at front 3) (at front 5))) front rest
    (is_spread (slots_of row.Binary) front fit ∙ ap (tokens (at front 1)) (sym (plain_tokens op (at front 3) (at front 5) (found_plain (nth 4 front))))) f

module_goes : (front rest : List Token) → fits (slots_of row.Module) front ≡ true → MayFollow state.Port rest → MayFollow state.Text (front ++ rest)
module_goes front rest fit f =
    let ports = f.follows in
    let items = ports.follows in
    let m : ModuleItem = record { name = at front 1; ports = record { first = f.thing; others = ports.thing }; items = items.items } in
    let whole : rest ≡ port_tokens f.thing ++ (last_ports ports.thing ++ body_tokens m (flat_map module_tokens items.modules)) =
    f.split ∙ ap (λ (l : List Token). port_tokens f.thing ++ l) (ports.split ∙ ap (λ (l : List Token). last_ports ports.thing ++ l) items.split) in (
      m,
      items.modules,
      in_front front (module_front (at front 1)) rest (is_spread (slots_of row.Module) front fit)
          ∙ (ap (λ (l : List Token). module_front (at front 1) ++ l) whole ∙ sym (module_split m (flat_map module_tokens items.modules))),
    )

next_port_goes : (front rest : List Token) → fits (slots_of row.NextPort) front ≡ true → MayFollow state.Port rest → MayFollow state.Ports (front ++ rest)
next_port_goes front rest fit f =
    let ports = f.follows in
    record {
      thing = f.thing ∷ ports.thing;
      rest = ports.rest;
      split = in_front front (sign (codes ",") ∷ []) rest (is_spread (slots_of row.NextPort) front fit)
          ∙ (ap (λ (l : List Token). sign (codes ",") ∷ l) (f.split ∙ ap (λ (l : List Token). port_tokens f.thing ++ l) ports.split)
          ∙ sym (ports_more f.thing ports.thing ports.rest));
      follows = ports.follows;
    }

join_goes : (front rest : List Token) → fits (slots_of row.Join) front ≡ true → MayFollow state.Parts rest → ItemsFollow (front ++ rest)
join_goes front rest fit f =
    let parts : OneOrMore (List ℕ) = record { first = at front 4; others = f.thing } in
    item_goes (assign_item (at front 1) (join parts)) front (last_parts f.thing) rest f.rest
    (join_split (at front 1) parts ∙ ap (λ (l : List Token). l ++ last_parts f.thing) (sym (is_spread (slots_of row.Join) front fit))) f.split f.follows

use_goes : (front rest : List Token) → fits (slots_of row.Use) front ≡ true → MayFollow state.Connections rest → ItemsFollow (front ++ rest)
use_goes front rest fit f =
    let u : UseItem = record { used = at front 0; name = at front 1; connections = record { first = connection_at front 3; others = f.thing } } in
    item_goes (use_item u) front (last_connections f.thing) rest f.rest
    (use_split u ∙ ap (λ (l : List Token). l ++ last_connections f.thing) (sym (is_spread (slots_of row.Use) front fit))) f.split f.follows

ram_goes : (front rest : List Token) → fits (slots_of row.Ram) front ≡ true → MayFollow state.Words rest → ItemsFollow (front ++ rest)
ram_goes front rest fit f =
    let ends = f.follows in
    let r = ends.thing in
    let x : RamItem = record {
      words = record { first = word_at front 2; others = f.thing };
      clock = r.clock;
      enable = r.enable;
      write = r.write;
      value = r.value;
      register = r.register;
      read = r.read;
      zeros = r.zeros;
    } in
    let words : List Token = flat_map word_tokens f.thing in
    item_goes (ram_item x) front (words ++ edge_tokens r) rest ends.rest
    (ram_split x ∙ ap (λ (l : List Token). l ++ (words ++ edge_tokens r)) (sym (is_spread (slots_of row.Ram) front fit)))
    (f.split ∙ (ap (λ (l : List Token). words ++ l) ends.split ∙ sym (append_assoc words (edge_tokens r) ends.rest))) ends.follows

register_goes : (front rest : List Token) → fits (slots_of row.Register) front ≡ true → MayFollow state.ItemOrMemory rest → ItemsFollow (front ++ rest)
register_goes front rest fit f =
    item_goes (register_item (line_at front 1) (at front 8) f.thing) front (memory_behind f.thing) rest f.rest
    (ap (λ (l : List Token). l ++ memory_behind f.thing) (sym (is_spread (slots_of row.Register) front fit))) f.split f.follows

-- what follows a row may stand behind it
pub row_goes : (x : Row) (front rest : List Token) → fits (slots_of x) front ≡ true → MayFollow (after x) rest → MayFollow (home x) (front ++ rest)
row_goes row.Module front rest fit f = module_goes front rest fit f
row_goes row.Signal front rest fit f = record {
  thing = signal_port (at front 1);
  rest = rest;
  split = in_front front _ rest (is_spread (slots_of row.Signal) front fit);
  follows = f;
}
row_goes row.Input front rest fit f = record {
  thing = input_port (line_at front 1);
  rest = rest;
  split = in_front front _ rest (is_spread (slots_of row.Input) front fit);
  follows = f;
}
row_goes row.Output front rest fit f = record {
  thing = output_port (line_at front 1);
  rest = rest;
  split = in_front front _ rest (is_spread (slots_of row.Output) front fit);
  follows = f;
}
row_goes row.NextPort front rest fit f = next_port_goes front rest fit f
row_goes row.LastPort front rest fit f = record {
  thing = [];
  rest = rest;
  split = in_front front _ rest (is_spread (slots_of row.LastPort) front fit);
  follows = f;
}
row_goes row.Endmodule front rest fit f = record {
  items = [];
  modules = f.0;
  split = in_front front _ rest (is_spread (slots_of row.Endmodule) front fit) ∙ ap (λ (l : List Token). keyword (codes "endmodule") ∷ l) f.1;
}
row_goes row.Wire front rest fit f = whole_goes (wire_item (line_at front 1)) front rest (is_spread (slots_of row.Wire) front fit) f
row_goes row.Register front rest fit f = register_goes front rest fit f
row_goes row.Memory front rest fit f = record {
  thing = Some (record { width = range_at front 1; name = at front 6; places = range_at front 7 });
  rest = rest;
  split = in_front front _ rest (is_spread (slots_of row.Memory) front fit);
  follows = f;
}
row_goes row.Constant front rest fit f = whole_goes (assign_item (at front 1) (constant (at front 3))) front rest (is_spread (slots_of row.Constant) front fit) f
row_goes row.Copy front rest fit f = whole_goes (assign_item (at front 1) (copy (at front 3))) front rest (is_spread (slots_of row.Copy) front fit) f
row_goes row.Cut front rest fit f =
    whole_goes (assign_item (at front 1) (cut (at front 3) (range_at front 4))) front rest (is_spread (slots_of row.Cut) front fit) f
row_goes row.Unary front rest fit f =
    whole_goes (assign_item (at front 1) (unary (op1_among unary_ops (nth 3 front)) (at front 4))) front rest (is_spread (slots_of row.Unary) front fit) f
row_goes row.Binary front rest fit f = plain_goes front rest fit f
row_goes row.LessSigned front rest fit f =
    whole_goes (assign_item (at front 1) (binary LtS (at front 5) (at front 10))) front rest (is_spread (slots_of row.LessSigned) front fit) f
row_goes row.ShiftSigned front rest fit f =
    whole_goes (assign_item (at front 1) (binary Sar (at front 5) (at front 8))) front rest (is_spread (slots_of row.ShiftSigned) front fit) f
row_goes row.Choice front rest fit f =
    whole_goes (assign_item (at front 1) (choice (at front 3) (at front 5) (at front 7))) front rest (is_spread (slots_of row.Choice) front fit) f
row_goes row.Join front rest fit f = join_goes front rest fit f
row_goes row.NextPart front rest fit f = record {
  thing = at front 1 ∷ f.thing;
  rest = f.rest;
  split = in_front front _ rest (is_spread (slots_of row.NextPart) front fit)
      ∙ ap (λ (l : List Token). sign (codes ",") ∷ name (at front 1) ∷ l) f.split;
  follows = f.follows;
}
row_goes row.LastPart front rest fit f = record {
  thing = [];
  rest = rest;
  split = in_front front _ rest (is_spread (slots_of row.LastPart) front fit);
  follows = f;
}
row_goes row.Edge front rest fit f =
    whole_goes (edge_item (record { clock = at front 4; register = at front 6; reset = None; a = at front 8 })) front rest
    (is_spread (slots_of row.Edge) front fit) f
row_goes row.ResetEdge front rest fit f =
    whole_goes (edge_item (record {
      clock = at front 4;
      register = at front 6;
      reset = Some (record { name = at front 8; literal = at front 10 });
      a = at front 12;
    })) front rest (is_spread (slots_of row.ResetEdge) front fit) f
row_goes row.Ram front rest fit f = ram_goes front rest fit f
row_goes row.NextWord front rest fit f = record {
  thing = word_at front 0 ∷ f.thing;
  rest = f.rest;
  split = in_front front (word_tokens (word_at front 0)) rest (is_spread (slots_of row.NextWord) front fit)
      ∙ ap (λ (l : List Token). word_tokens (word_at front 0) ++ l) f.split;
  follows = f.follows;
}
row_goes row.RamEdge front rest fit f = record {
  thing = [];
  rest = front ++ rest;
  split = refl;
  follows = record { thing = ram_at front; rest = rest; split = in_front front _ rest (is_spread (slots_of row.RamEdge) front fit); follows = f };
}
row_goes row.Use front rest fit f = use_goes front rest fit f
row_goes row.NextConnection front rest fit f = record {
  thing = connection_at front 1 ∷ f.thing;
  rest = f.rest;
  split = in_front front (sign (codes ",") ∷ connection_tokens (connection_at front 1)) rest (is_spread (slots_of row.NextConnection) front fit)
      ∙ ap (λ (l : List Token). sign (codes ",") ∷ (connection_tokens (connection_at front 1) ++ l)) f.split;
  follows = f.follows;
}
row_goes row.LastConnection front rest fit f = record {
  thing = [];
  rest = rest;
  split = in_front front _ rest (is_spread (slots_of row.LastConnection) front fit);
  follows = f;
}

-- what a row's state contains, the states with this row contain
pub widen : (s : State) (x : Row) (l : List Token) → is_among (rows_of s) x ≡ true → MayFollow (home x) l → MayFollow s l
widen state.Text row.Module l among f = f
widen state.Port row.Signal l among f = f
widen state.Port row.Input l among f = f
widen state.Port row.Output l among f = f
widen state.Ports row.NextPort l among f = f
widen state.Ports row.LastPort l among f = f
widen state.ItemOrMemory row.Memory l among f = f
widen state.Parts row.NextPart l among f = f
widen state.Parts row.LastPart l among f = f
widen state.Words row.NextWord l among f = f
widen state.Words row.RamEdge l among f = f
widen state.Connections row.NextConnection l among f = f
widen state.Connections row.LastConnection l among f = f
widen state.Modules row.Module l among f = (f.0 ∷ f.1, f.2)
widen state.Item row.Endmodule l among f = f
widen state.Item row.Wire l among f = f
widen state.Item row.Register l among f = f
widen state.Item row.Constant l among f = f
widen state.Item row.Copy l among f = f
widen state.Item row.Cut l among f = f
widen state.Item row.Unary l among f = f
widen state.Item row.Binary l among f = f
widen state.Item row.LessSigned l among f = f
widen state.Item row.ShiftSigned l among f = f
widen state.Item row.Choice l among f = f
widen state.Item row.Join l among f = f
widen state.Item row.Edge l among f = f
widen state.Item row.ResetEdge l among f = f
widen state.Item row.Ram l among f = f
widen state.Item row.Use l among f = f
widen state.ItemOrMemory row.Endmodule l among f = record { thing = None; rest = l; split = refl; follows = f }
widen state.ItemOrMemory row.Wire l among f = record { thing = None; rest = l; split = refl; follows = f }
widen state.ItemOrMemory row.Register l among f = record { thing = None; rest = l; split = refl; follows = f }
widen state.ItemOrMemory row.Constant l among f = record { thing = None; rest = l; split = refl; follows = f }
widen state.ItemOrMemory row.Copy l among f = record { thing = None; rest = l; split = refl; follows = f }
widen state.ItemOrMemory row.Cut l among f = record { thing = None; rest = l; split = refl; follows = f }
widen state.ItemOrMemory row.Unary l among f = record { thing = None; rest = l; split = refl; follows = f }
widen state.ItemOrMemory row.Binary l among f = record { thing = None; rest = l; split = refl; follows = f }
widen state.ItemOrMemory row.LessSigned l among f = record { thing = None; rest = l; split = refl; follows = f }
widen state.ItemOrMemory row.ShiftSigned l among f = record { thing = None; rest = l; split = refl; follows = f }
widen state.ItemOrMemory row.Choice l among f = record { thing = None; rest = l; split = refl; follows = f }
widen state.ItemOrMemory row.Join l among f = record { thing = None; rest = l; split = refl; follows = f }
widen state.ItemOrMemory row.Edge l among f = record { thing = None; rest = l; split = refl; follows = f }
widen state.ItemOrMemory row.ResetEdge l among f = record { thing = None; rest = l; split = refl; follows = f }
widen state.ItemOrMemory row.Ram l among f = record { thing = None; rest = l; split = refl; follows = f }
widen state.ItemOrMemory row.Use l among f = record { thing = None; rest = l; split = refl; follows = f }
widen _ _ l among f = absurd (false≢true among)

-- each state can be ended
abbrev ending : List Token
ending = keyword (codes "endmodule") ∷ []

ended : ItemsFollow ending
ended = record { items = []; modules = []; split = refl }

abbrev no_ram : RamItem
no_ram = ram_at []

pub completion : (s : State) → (l : List Token) × MayFollow s l
completion state.Text =
    let m : ModuleItem = record { name = []; ports = record { first = signal_port []; others = [] }; items = [] } in
    (flat_map module_tokens (m ∷ []), (m, [], refl))
completion state.Modules = ([], ([], refl))
completion state.Port =
    let ports : Before last_ports ItemsFollow (last_ports [] ++ ending) = record { thing = []; rest = ending; split = refl; follows = ended } in (
      port_tokens (signal_port []) ++ (last_ports [] ++ ending),
      record { thing = signal_port []; rest = last_ports [] ++ ending; split = refl; follows = ports },
    )
completion state.Ports = (last_ports [] ++ ending, record { thing = []; rest = ending; split = refl; follows = ended })
completion state.Item = (ending, ended)
completion state.ItemOrMemory = (ending, record { thing = None; rest = ending; split = refl; follows = ended })
completion state.Parts = (last_parts [] ++ ending, record { thing = []; rest = ending; split = refl; follows = ended })
completion state.Words =
    let ends : Before edge_tokens ItemsFollow (edge_tokens no_ram ++ ending) = record { thing = no_ram; rest = ending; split = refl; follows = ended } in
    (edge_tokens no_ram ++ ending, record { thing = []; rest = edge_tokens no_ram ++ ending; split = refl; follows = ends })
completion state.Connections = (last_connections [] ++ ending, record { thing = []; rest = ending; split = refl; follows = ended })
