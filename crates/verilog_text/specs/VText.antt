-- What it is for a Verilog text to denote a net.
use Rattle.std.specs.Prelude.{ℕ, ◌<◌, ◌^◌, List, length}
use Rattle.std.specs.List.{AllByRecursion}
use Rattle.net_rules.specs.WellFormed.{WellFormed}
use Rattle.netlist.specs.declared.net.Module.{Module}
use Rattle.netlist.specs.declared.net.Net.{Net}
use Rattle.verilog_text.specs.Denotes.{Denotes}
use Rattle.verilog_text.specs.Grammar.{IsSource}
use Rattle.verilog_text.specs.Source.{Source}
use Rattle.verilog_text.specs.VTokens.{Placed, VTokens}

-- the text splits into tokens, which are those of a source, which denotes the net, and the net is
-- well formed
pub record VText (text : List ℕ) (net : Net) : Type 0 where
  pub tokens : List Placed
  pub source : Source
  pub splits : VTokens text tokens
  pub reads : IsSource tokens source
  pub denotes : Denotes source net
  pub well_formed : WellFormed net

-- a module has no more wires, cells and outputs than a machine counts
pub record IsCounted (m : Module) : Type 0 where
  pub wires : length m.widths < 2 ^ 64
  pub cells : length m.cells < 2 ^ 64
  pub outputs : length m.outputs < 2 ^ 64

-- each module of the net is so
abbrev pub AreCounted : Net → Type 0
AreCounted net = AllByRecursion IsCounted net.modules
