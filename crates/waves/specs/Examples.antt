-- The waves of two events, written out: a register with a reset adds its input, and begins with 3.
use Rattle.std.specs.Prelude.{ℕ, List, [], ◌∷◌, ◌++◌, codes}
use Rattle.chw_base.specs.declared.index.DomId.{DomId}
use Rattle.chw_bits.specs.Bits.{bits_of}
use Rattle.chw_clock.specs.declared.event.Event.{Event}
use Rattle.chw_clock.specs.declared.event.Port.{Port}
use Rattle.chw_clock.specs.declared.event.Ports.{Ports}
use Rattle.waves.specs.Vcd.{Vcd}

abbrev pub sys : DomId
sys = record { number = 0 }

abbrev pub port : List ℕ → Port
port word = record { name = word; dom = sys; width = 8 }

abbrev pub ports : Ports
ports = record {
  domains = codes "Sys" ∷ [];
  resets = sys ∷ [];
  inputs = port (codes "x") ∷ [];
  outputs = port (codes "o") ∷ [];
}

abbrev pub event : List DomId → ℕ → Event
event asserted x = record { ticks = sys ∷ []; resets = asserted; inputs = bits_of 8 x ∷ [] }

abbrev pub an_example : List ℕ
an_example =
    Vcd ports (event [] 5 ∷ event (sys ∷ []) 7 ∷ [])
    ((bits_of 8 3 ∷ []) ∷ (bits_of 8 8 ∷ []) ∷ [])

abbrev pub a_text : List ℕ
a_text =
    codes "$timescale 1 ns $end\n$scope module chw_top $end\n"
    ++ codes "$var wire 1 ! clk_Sys $end\n$var wire 1 \" rst_Sys $end\n"
    ++ codes "$var wire 8 # i_Sys_x $end\n$var wire 8 $ o_Sys_o $end\n"
    ++ codes "$upscope $end\n$enddefinitions $end\n"
    ++ codes "#0\n0!\n0\"\nb00000101 #\nb00000011 $\n#1\n1!\n"
    ++ codes "#2\n0!\n1\"\nb00000111 #\nb00001000 $\n#3\n1!\n"
