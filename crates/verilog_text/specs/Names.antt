-- The names that stand in the printed Verilog text.
use Rattle.std.specs.Prelude.{ℕ, List, [], ◌++◌, slice_index_or, codes, decimal}
use Rattle.chw_base.specs.declared.index.DomId.{DomId}
use Rattle.chw_clock.specs.declared.event.Port.{Port}

-- the name of a domain, by the names of all domains
abbrev pub domain_name : List (List ℕ) → DomId → List ℕ
domain_name domains d = slice_index_or domains d.number []

-- a domain's clock
abbrev pub clock_name : List ℕ → List ℕ
clock_name domain = codes "clk_" ++ domain

-- a domain's reset
abbrev pub reset_name : List ℕ → List ℕ
reset_name domain = codes "rst_" ++ domain

-- an input of the top
abbrev pub input_name : List (List ℕ) → Port → List ℕ
input_name domains port = codes "i_" ++ domain_name domains port.dom ++ codes "_" ++ port.name

-- an output of the top
abbrev pub output_name : List (List ℕ) → Port → List ℕ
output_name domains port = codes "o_" ++ domain_name domains port.dom ++ codes "_" ++ port.name

-- the top
abbrev pub top_name : List ℕ
top_name = codes "chw_top"

-- the module of this number, which isn't the top
abbrev pub module_name : ℕ → List ℕ
module_name k = codes "m" ++ decimal k

-- the input of this number of such a module
abbrev pub input_text : ℕ → List ℕ
input_text k = codes "i" ++ decimal k

-- its output of this number
abbrev pub output_text : ℕ → List ℕ
output_text k = codes "y" ++ decimal k

-- the wire of this number, which is no input
abbrev pub wire_text : ℕ → List ℕ
wire_text k = codes "w" ++ decimal k

-- the memory of the RAM that drives the wire of this number
abbrev pub memory_text : ℕ → List ℕ
memory_text k = codes "r" ++ decimal k

-- the use that is the cell of this number
abbrev pub use_text : ℕ → List ℕ
use_text k = codes "u" ++ decimal k
