-- The rows of the grammar, and which of them may follow where.
use Rattle.std.specs.Prelude.{List, [], ◌∷◌}
use Rattle.verilog_parse.specs.declared.row_slots.TheConstants as slot
use Rattle.verilog_parse.specs.declared.rows.Row.{Row}
use Rattle.verilog_parse.specs.declared.rows.Row.TheVariants as row
use Rattle.verilog_parse.specs.declared.rows.State.{State}
use Rattle.verilog_parse.specs.declared.rows.State.TheVariants as state
use Rattle.verilog_parse.specs.declared.rows.TheConstants as the
use Rattle.verilog_parse.specs.declared.slot.Slot.{Slot}

-- the slots of a row
abbrev pub slots_of : Row → List Slot
slots_of row.Module = slot.MODULE
slots_of row.Signal = slot.SIGNAL
slots_of row.Input = slot.INPUT
slots_of row.Output = slot.OUTPUT
slots_of row.NextPort = slot.NEXT_PORT
slots_of row.LastPort = slot.LAST_PORT
slots_of row.Endmodule = slot.ENDMODULE
slots_of row.Wire = slot.WIRE
slots_of row.Register = slot.REGISTER
slots_of row.Memory = slot.MEMORY
slots_of row.Constant = slot.CONSTANT
slots_of row.Copy = slot.COPY
slots_of row.Cut = slot.CUT
slots_of row.Unary = slot.UNARY
slots_of row.Binary = slot.BINARY
slots_of row.LessSigned = slot.LESS_SIGNED
slots_of row.ShiftSigned = slot.SHIFT_SIGNED
slots_of row.Choice = slot.CHOICE
slots_of row.Join = slot.JOIN
slots_of row.NextPart = slot.NEXT_PART
slots_of row.LastPart = slot.LAST_PART
slots_of row.Edge = slot.EDGE
slots_of row.ResetEdge = slot.RESET_EDGE
slots_of row.Ram = slot.RAM
slots_of row.NextWord = slot.NEXT_WORD
slots_of row.RamEdge = slot.RAM_EDGE
slots_of row.Use = slot.USE
slots_of row.NextConnection = slot.NEXT_CONNECTION
slots_of row.LastConnection = slot.LAST_CONNECTION

-- the rows of which one follows
abbrev pub rows_of : State → List Row
rows_of state.Text = row.Module ∷ []
rows_of state.Modules = row.Module ∷ []
rows_of state.Port = row.Signal ∷ row.Input ∷ row.Output ∷ []
rows_of state.Ports = row.NextPort ∷ row.LastPort ∷ []
rows_of state.Item = the.ITEM_ROWS
rows_of state.ItemOrMemory = the.ITEM_OR_MEMORY_ROWS
rows_of state.Parts = row.NextPart ∷ row.LastPart ∷ []
rows_of state.Words = row.NextWord ∷ row.RamEdge ∷ []
rows_of state.Connections = row.NextConnection ∷ row.LastConnection ∷ []

-- what may follow behind a row
abbrev pub after : Row → State
after row.Module = state.Port
after row.Signal = state.Ports
after row.Input = state.Ports
after row.Output = state.Ports
after row.NextPort = state.Port
after row.Endmodule = state.Modules
after row.Register = state.ItemOrMemory
after row.Join = state.Parts
after row.NextPart = state.Parts
after row.Ram = state.Words
after row.NextWord = state.Words
after row.Use = state.Connections
after row.NextConnection = state.Connections
after _ = state.Item
