-- A whole program: the accumulator, with its ports, a history that fits them, and what its output
-- means.
use Rattle.std.specs.Prelude.{ℕ, [], ◌∷◌, codes}
use Rattle.chw_clock.specs.declared.event.Event.{Event}
use Rattle.chw_bits.specs.Bits.{bits_of}
use Rattle.chw_types.specs.TypeTree.{signal, fun}
use Rattle.chw_types.specs.BuiltIn.{built_in}
use Rattle.chw_terms.specs.declared.program.Program.{Program}
use Rattle.chw_layout.specs.Datum.{word}
use Rattle.chw_meaning.specs.Values.{History}
use Rattle.chw_meaning.specs.Eval.{dom}
use Rattle.chw_meaning.specs.Means.{Fit, Means}
use Rattle.chw_meaning.specs.Designs.{byte, a_clock, accumulator_of}

-- domain Sys; def main : Signal Sys byte -> Signal Sys byte = and the accumulator; top main (x) (o);
abbrev pub accumulating : Program
accumulating =
    record {
      domains = codes "Sys" ∷ [];
      resets = [];
      datas = built_in;
      defs = record {
        name = codes "main";
        ty = fun (signal a_clock byte) (signal a_clock byte);
        body = accumulator_of;
      } ∷ [];
      top = record {
        «def» = record { number = 0 };
        inputs = codes "x" ∷ [];
        outputs = codes "o" ∷ [];
      };
    }

-- one event with this input
abbrev pub with_input : ℕ → Event
with_input n = record { ticks = dom 0 ∷ []; resets = []; inputs = bits_of 8 n ∷ [] }

-- the inputs 5, 7 and 0, in this order
abbrev pub three_inputs : History
three_inputs = with_input 0 ∷ with_input 7 ∷ with_input 5 ∷ []

abbrev pub first_input : History
first_input = with_input 5 ∷ []

-- the events fit the program's ports, and its output is 0 at the first one, and 12 at the third
abbrev pub WholeProgram : Type 0
WholeProgram =
    Fit accumulating three_inputs × Means accumulating first_input 0 (word (bits_of 8 0)) × Means accumulating three_inputs 0 (word (bits_of 8 12))
