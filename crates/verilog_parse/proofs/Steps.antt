-- A row at a time: what may follow begins with a row, and what follows a row may follow.
use Rattle.std.proofs.Common.{◌≡◌, ℕ, true, inl, inr, ◌⊎◌, List, [], ◌∷◌, ◌++◌, Option, Some, None, sym, refl, ap, ◌∙◌, subst, append_assoc}
use Rattle.std.specs.Prelude.{codes}
use Rattle.std.specs.List.{flat_map}
use Rattle.verilog_text.specs.Grammar.{connection_tokens, item_tokens, keyword, memory_behind, memory_tokens, module_tokens, name, port_tokens, sign, word_tokens}
use Rattle.verilog_text.specs.Source.{Connection, FirstWord, Item, Memory, ModuleItem, PortItem}
use Rattle.verilog_text.specs.Source.PortItem.{input_port, output_port, signal_port}
use Rattle.verilog_text.specs.VForms.{Token}
use Rattle.verilog_parse.specs.Follow.{Before, ItemsFollow, MayFollow, edge_tokens, last_connections, last_parts, last_ports}
use Rattle.verilog_parse.specs.Rows.{after, rows_of, slots_of}
use Rattle.verilog_parse.specs.Slots.{fits}
use Rattle.verilog_parse.specs.declared.rows.Row.{Row}
use Rattle.verilog_parse.specs.declared.rows.Row.TheVariants as row
use Rattle.verilog_parse.specs.declared.rows.State.{State}
use Rattle.verilog_parse.specs.declared.rows.State.TheVariants as state
use Rattle.verilog_parse.proofs.Forms.{body_tokens, module_front, module_split, opens}
use Rattle.verilog_parse.proofs.Tables.{is_among, one_row, or_right, some_token}
use Rattle.verilog_parse.proofs.Taken.{same_rest}

-- a row of the state stands first, and what stands behind it may follow it
pub record StepOf (s : State) (l : List Token) : Type 0 where
  pub row : Row
  pub front : List Token
  pub rest : List Token
  pub split : l ≡ front ++ rest
  pub fit : fits (slots_of row) front ≡ true
  pub among : is_among (rows_of s) row ≡ true
  pub follows : MayFollow (after row) rest

-- the text ends here
abbrev pub Ends : State → List Token → Type 0
Ends s l = (s ≡ state.Modules) × (l ≡ [])

modules_step : (m : ModuleItem) (modules : List ModuleItem) (l : List Token) → l ≡ flat_map module_tokens (m ∷ modules) → StepOf state.Text l
modules_step m modules l split =
    let behind : List Token = flat_map module_tokens modules in
    record {
      row = row.Module;
      front = module_front m.name;
      rest = port_tokens m.ports.first ++ (last_ports m.ports.others ++ body_tokens m behind);
      split = split ∙ module_split m behind;
      fit = refl;
      among = refl;
      follows = record {
        thing = m.ports.first;
        rest = last_ports m.ports.others ++ body_tokens m behind;
        split = refl;
        follows = record {
          thing = m.ports.others;
          rest = body_tokens m behind;
          split = refl;
          follows = record { items = m.items; modules = modules; split = refl };
        };
      };
    }

items_step : (items : List Item) (modules : List ModuleItem) (l : List Token)
    → l ≡ flat_map item_tokens items ++ keyword (codes "endmodule") ∷ flat_map module_tokens modules → StepOf state.Item l
items_step [] modules l split = record {
  row = row.Endmodule;
  front = keyword (codes "endmodule") ∷ [];
  rest = flat_map module_tokens modules;
  split = split;
  fit = refl;
  among = refl;
  follows = (modules, refl);
}
items_step (x ∷ items) modules l split =
    let o = opens x in
    let body : List Token = flat_map item_tokens items ++ keyword (codes "endmodule") ∷ flat_map module_tokens modules in
    let behind : l ≡ item_tokens x ++ body =
    split ∙ append_assoc (item_tokens x) (flat_map item_tokens items) (keyword (codes "endmodule") ∷ flat_map module_tokens modules) in
    record {
      row = o.row;
      front = o.front;
      rest = o.middle ++ body;
      split = behind ∙ (ap (λ (t : List Token). t ++ body) o.split ∙ append_assoc o.front o.middle body);
      fit = o.fit;
      among = o.among;
      follows = o.follows body (record { items = items; modules = modules; split = refl });
    }

port_step : (p : PortItem) (l rest : List Token) → l ≡ port_tokens p ++ rest → Before last_ports ItemsFollow rest → StepOf state.Port l
port_step (signal_port w) l rest split ports = record {
  row = row.Signal;
  front = port_tokens (signal_port w);
  rest = rest;
  split = split;
  fit = refl;
  among = refl;
  follows = ports;
}
port_step (input_port w) l rest split ports = record {
  row = row.Input;
  front = port_tokens (input_port w);
  rest = rest;
  split = split;
  fit = refl;
  among = refl;
  follows = ports;
}
port_step (output_port w) l rest split ports = record {
  row = row.Output;
  front = port_tokens (output_port w);
  rest = rest;
  split = split;
  fit = refl;
  among = refl;
  follows = ports;
}

-- `, input [7:0] i` and what stands behind it
pub ports_more : (p : PortItem) (ports : List PortItem) (rest : List Token)
    → last_ports (p ∷ ports) ++ rest ≡ sign (codes ",") ∷ (port_tokens p ++ (last_ports ports ++ rest))
ports_more p ports rest =
    let closed : List Token = sign (codes ")") ∷ sign (codes ";") ∷ [] in
    let others : List Token = flat_map (λ (x : PortItem). sign (codes ",") ∷ port_tokens x) ports in
    ap (λ (l : List Token). sign (codes ",") ∷ (l ++ rest)) (append_assoc (port_tokens p) others closed)
    ∙ ap (λ (l : List Token). sign (codes ",") ∷ l) (append_assoc (port_tokens p) (others ++ closed) rest)

ports_step : (ports : List PortItem) (l rest : List Token) → l ≡ last_ports ports ++ rest → ItemsFollow rest → StepOf state.Ports l
ports_step [] l rest split items = record {
  row = row.LastPort;
  front = sign (codes ")") ∷ sign (codes ";") ∷ [];
  rest = rest;
  split = split;
  fit = refl;
  among = refl;
  follows = items;
}
ports_step (p ∷ ports) l rest split items = record {
  row = row.NextPort;
  front = sign (codes ",") ∷ [];
  rest = port_tokens p ++ (last_ports ports ++ rest);
  split = split ∙ ports_more p ports rest;
  fit = refl;
  among = refl;
  follows = record {
    thing = p;
    rest = last_ports ports ++ rest;
    split = refl;
    follows = record { thing = ports; rest = rest; split = refl; follows = items };
  };
}

memory_step : (memory : Option Memory) (l rest : List Token) → l ≡ memory_behind memory ++ rest → ItemsFollow rest → StepOf state.ItemOrMemory l
memory_step None l rest split items =
    let step = items_step items.items items.modules l (split ∙ items.split) in
    record {
      row = step.row;
      front = step.front;
      rest = step.rest;
      split = step.split;
      fit = step.fit;
      follows = step.follows;
      among = or_right _ _ step.among;
    }
memory_step (Some m) l rest split items = record {
  row = row.Memory;
  front = memory_tokens m;
  rest = rest;
  split = split;
  fit = refl;
  among = refl;
  follows = items;
}

parts_step : (parts : List (List ℕ)) (l rest : List Token) → l ≡ last_parts parts ++ rest → ItemsFollow rest → StepOf state.Parts l
parts_step [] l rest split items = record {
  row = row.LastPart;
  front = sign (codes "}") ∷ sign (codes ";") ∷ [];
  rest = rest;
  split = split;
  fit = refl;
  among = refl;
  follows = items;
}
parts_step (a ∷ parts) l rest split items = record {
  row = row.NextPart;
  front = sign (codes ",") ∷ name a ∷ [];
  rest = last_parts parts ++ rest;
  split = split;
  fit = refl;
  among = refl;
  follows = record { thing = parts; rest = rest; split = refl; follows = items };
}

words_step : (words : List FirstWord) (l rest : List Token) → l ≡ flat_map word_tokens words ++ rest → Before edge_tokens ItemsFollow rest → StepOf state.Words l
words_step [] l rest split ends = record {
  row = row.RamEdge;
  front = edge_tokens ends.thing;
  rest = ends.rest;
  split = split ∙ ends.split;
  fit = refl;
  among = refl;
  follows = ends.follows;
}
words_step (w ∷ words) l rest split ends = record {
  row = row.NextWord;
  front = word_tokens w;
  rest = flat_map word_tokens words ++ rest;
  split = split;
  fit = refl;
  among = refl;
  follows = record { thing = words; rest = rest; split = refl; follows = ends };
}

connections_step : (connections : List Connection) (l rest : List Token) → l ≡ last_connections connections ++ rest → ItemsFollow rest
    → StepOf state.Connections l
connections_step [] l rest split items = record {
  row = row.LastConnection;
  front = sign (codes ")") ∷ sign (codes ";") ∷ [];
  rest = rest;
  split = split;
  fit = refl;
  among = refl;
  follows = items;
}
connections_step (x ∷ connections) l rest split items = record {
  row = row.NextConnection;
  front = sign (codes ",") ∷ connection_tokens x;
  rest = last_connections connections ++ rest;
  split = split;
  fit = refl;
  among = refl;
  follows = record { thing = connections; rest = rest; split = refl; follows = items };
}

-- what may follow begins with a row of the state, or the text ends
pub steps : (s : State) (l : List Token) → MayFollow s l → Ends s l ⊎ StepOf s l
steps state.Text l f = inr (modules_step f.0 f.1 l f.2)
steps state.Modules l f = at f.0 f.1
  where
    at : (modules : List ModuleItem) → l ≡ flat_map module_tokens modules → Ends state.Modules l ⊎ StepOf state.Modules l
    at [] split = inl (refl, split)
    at (m ∷ modules) split =
        let step = modules_step m modules l split in
        inr (record {
          row = step.row;
          front = step.front;
          rest = step.rest;
          split = step.split;
          fit = step.fit;
          follows = step.follows;
          among = step.among;
        })
steps state.Port l f = inr (port_step f.thing l f.rest f.split f.follows)
steps state.Ports l f = inr (ports_step f.thing l f.rest f.split f.follows)
steps state.Item l f = inr (items_step f.items f.modules l f.split)
steps state.ItemOrMemory l f = inr (memory_step f.thing l f.rest f.split f.follows)
steps state.Parts l f = inr (parts_step f.thing l f.rest f.split f.follows)
steps state.Words l f = inr (words_step f.thing l f.rest f.split f.follows)
steps state.Connections l f = inr (connections_step f.thing l f.rest f.split f.follows)

empty_front : (x : Row) (front rest : List Token) → fits (slots_of x) front ≡ true → front ++ rest ≡ [] → ⊥
empty_front x [] rest fit none = some_token x fit
empty_front x (t ∷ front) rest fit none = cc

-- what stands behind a row of the state may follow it
pub behind_row : (s : State) (x : Row) (front rest : List Token) → is_among (rows_of s) x ≡ true → fits (slots_of x) front ≡ true
    → MayFollow s (front ++ rest) → MayFollow (after x) rest
behind_row s x front rest among fit f =
    elim (steps s (front ++ rest) f) [
      | inl ends ↦ absurd (empty_front x front rest fit ends.1)
      | inr step ↦
          let one : x ≡ step.row = one_row s x step.row front step.front rest step.rest among step.among fit step.fit step.split in
          let again : fits (slots_of x) step.front ≡ true = ap (λ (r : Row). fits (slots_of r) step.front) one ∙ step.fit in
          let same : step.rest ≡ rest = sym (same_rest (slots_of x) front step.front rest step.rest fit again step.split) in
          let P : Row → List Token → Type 0 = λ r t. MayFollow (after r) t in
          let here : MayFollow (after x) step.rest = subst (λ (r : Row). MayFollow (after r) step.rest) (sym one) step.follows in
          subst (λ (t : List Token). MayFollow (after x) t) same here
    ]
