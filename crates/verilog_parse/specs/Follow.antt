-- What may follow at each state: the tokens from there to the end of a text.
use Rattle.std.specs.Prelude.{◌≡◌, ℕ, List, [], ◌∷◌, ◌++◌, codes}
use Rattle.std.specs.List.{flat_map}
use Rattle.verilog_text.specs.Grammar.{clock_tokens, connection_tokens, item_tokens, keyword}
use Rattle.verilog_text.specs.Grammar.{memory_behind, module_tokens, name, port_tokens}
use Rattle.verilog_text.specs.Grammar.{show_tokens, sign, word_tokens, write_tokens}
use Rattle.verilog_text.specs.Source.{Connection, Item, ModuleItem, PortItem, RamItem}
use Rattle.verilog_text.specs.VForms.{Token}
use Rattle.verilog_parse.specs.declared.rows.State.{State}
use Rattle.verilog_parse.specs.declared.rows.State.TheVariants as state

-- some thing's tokens, and behind them what may follow it
pub record Before {A : Type 0} (tokens : A → List Token) (Follows : List Token → Type 0)
    (l : List Token) : Type 0 where
  pub thing : A
  pub rest : List Token
  pub split : l ≡ tokens thing ++ rest
  pub follows : Follows rest

-- the tokens of each, behind a comma
abbrev pub behind_commas : {A : Type 0} → (A → List Token) → List A → List Token
behind_commas tokens = flat_map (λ x. sign (codes ",") ∷ tokens x)

-- `, a} ;`
abbrev pub last_parts : List (List ℕ) → List Token
last_parts parts =
    behind_commas (λ a. name a ∷ []) parts ++ sign (codes "}") ∷ sign (codes ";") ∷ []

-- `, .p(a) );`
abbrev pub last_connections : List Connection → List Token
last_connections connections =
    behind_commas connection_tokens connections ++ sign (codes ")") ∷ sign (codes ";") ∷ []

-- `, input [7:0] i );`
abbrev pub last_ports : List PortItem → List Token
last_ports ports = behind_commas port_tokens ports ++ sign (codes ")") ∷ sign (codes ";") ∷ []

-- what stands behind the words of a RAM: `end always @(posedge clk_D) begin .. end`
abbrev pub edge_tokens : RamItem → List Token
edge_tokens r =
    keyword (codes "end") ∷ (clock_tokens r.clock ++ keyword (codes "begin")
    ∷ (write_tokens r.enable r.write r.value
    ++ (show_tokens r.register r.read r.zeros ++ keyword (codes "end") ∷ [])))

-- items, the end of their module, and more modules
pub record ItemsFollow (l : List Token) : Type 0 where
  pub items : List Item
  pub modules : List ModuleItem
  pub split : l ≡ flat_map item_tokens items
      ++ keyword (codes "endmodule") ∷ flat_map module_tokens modules

-- the tokens may follow at this state
abbrev pub MayFollow : State → List Token → Type 0
MayFollow state.Text l =
    (m : ModuleItem) × (modules : List ModuleItem) × (l ≡ flat_map module_tokens (m ∷ modules))
MayFollow state.Modules l = (modules : List ModuleItem) × (l ≡ flat_map module_tokens modules)
MayFollow state.Port l = Before port_tokens (Before last_ports ItemsFollow) l
MayFollow state.Ports l = Before last_ports ItemsFollow l
MayFollow state.Item l = ItemsFollow l
MayFollow state.ItemOrMemory l = Before memory_behind ItemsFollow l
MayFollow state.Parts l = Before last_parts ItemsFollow l
MayFollow state.Words l = Before (flat_map word_tokens) (Before edge_tokens ItemsFollow) l
MayFollow state.Connections l = Before last_connections ItemsFollow l
