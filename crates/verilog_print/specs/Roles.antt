-- What stands at the port of a clock or a reset.
use Rattle.std.specs.Prelude.{ℕ, List}
use Rattle.verilog_text.specs.Text.{clock_item, port_text}
use Rattle.verilog_print.specs.declared.clocks.Role.{Role}
use Rattle.verilog_print.specs.declared.clocks.Role.TheVariants.{Declared, Used}

abbrev pub port_in : Role → List ℕ → List ℕ
port_in Declared name = clock_item name
port_in Used name = port_text name name
