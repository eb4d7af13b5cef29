-- Lines that are no wider than a wire may be.
use Rattle.std.specs.Prelude.{◌≤◌, List}
use Rattle.std.specs.List.{AllByRecursion}
use Rattle.chw_base.specs.declared.limits.TheConstants.{WIRE_BITS}
use Rattle.verilog_rules.specs.Texts.{width}
use Rattle.verilog_tree.specs.declared.word.Line.{Line}

-- a line has no more bits than a wire may have
abbrev pub IsNarrow : Line → Type 0
IsNarrow line = width line.range ≤ WIRE_BITS

-- each of these lines
abbrev pub AreNarrow : List Line → Type 0
AreNarrow lines = AllByRecursion IsNarrow lines
