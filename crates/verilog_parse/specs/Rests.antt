-- What stands behind the first row of an item or a module, and how the items of a module go on.
use Rattle.std.specs.Prelude.{◌≡◌, ℕ, ◌⊎◌, codes, MatchOption, Option, List, [], ◌∷◌, ◌++◌}
use Rattle.verilog_text.specs.Grammar.{sign}
use Rattle.verilog_tree.specs.Marks.{Mark, a_keyword, a_name, a_sign, commas_before}
use Rattle.verilog_tree.specs.Marks.{connection_marks, item_marks, placed, port_marks}
use Rattle.verilog_tree.specs.declared.item.Connection.{Connection}
use Rattle.verilog_tree.specs.declared.item.Item.{Item}
use Rattle.verilog_tree.specs.declared.module.Port.{Port}
use Rattle.verilog_tree.specs.declared.word.Word.{Word}
use Rattle.verilog_parse.specs.Reading.{BeginsNoRow, Reads}
use Rattle.verilog_parse.specs.declared.cursor.Cursor.{Cursor}
use Rattle.verilog_parse.specs.declared.rows.Row.TheVariants as row
use Rattle.verilog_parse.specs.declared.rows.State.{State}
use Rattle.verilog_parse.specs.declared.rows.State.TheVariants as state

-- `, a` for each
abbrev pub parts_marks : List Word → List Mark
parts_marks = commas_before (λ w. a_name w ∷ [])

-- `, a} ;`
abbrev pub last_parts_marks : List Word → ℕ → List Mark
last_parts_marks parts close =
    parts_marks parts ++ placed close (sign (codes "}")) ∷ a_sign (codes ";") ∷ []

-- `, .p(a) );`
abbrev pub last_connections_marks : List Connection → ℕ → List Mark
last_connections_marks connections close =
    commas_before connection_marks connections
    ++ placed close (sign (codes ")")) ∷ a_sign (codes ";") ∷ []

-- `, input [7:0] i );`
abbrev pub last_ports_marks : List Port → List Mark
last_ports_marks ports =
    commas_before port_marks ports ++ a_sign (codes ")") ∷ a_sign (codes ";") ∷ []

-- `endmodule`
abbrev pub end_marks : List Mark
end_marks = a_keyword (codes "endmodule") ∷ []

-- an item may be read, but no memory
abbrev pub IsAtItem : State → Cursor → Type 0
IsAtItem s c = (s ≡ state.Item) ⊎ ((s ≡ state.ItemOrMemory) × BeginsNoRow row.Memory c)

-- an item was read, or the end of the module
abbrev pub IsItemRead : State → Cursor → Option (Item × State) → Cursor → Type 0
IsItemRead s c found c' =
    MatchOption found (Reads s c end_marks state.Modules c')
    (λ x. Reads s c (item_marks x.0) x.1 c' × IsAtItem x.1 c')

-- what was read ends an item that begins with these marks
pub record Ends (s : State) (c : Cursor) (first whole : List Mark) (s' : State) (c' : Cursor)
    : Type 0 where
  pub rest : List Mark
  pub reads : Reads s c rest s' c'
  pub whole_is : whole ≡ first ++ rest

-- a module may be read: the first, or another where tokens are left
abbrev pub IsAtModule : State → Cursor → Type 0
IsAtModule s c = (s ≡ state.Text) ⊎ ((s ≡ state.Modules) × (c.rest.now ≡ [] → ⊥))
