-- The accumulator's register, by hand.
use Rattle.std.proofs.Common.{◌≡◌, ℕ, Bool, List, [], ◌∷◌, length, refl, arith}
use Rattle.chw_bits.specs.Bits.{bits_of}
use Rattle.type_ports.specs.Ports.{one_leaf}
use Rattle.type_ports.specs.Representable.{representable_scalar}
use Rattle.chw_types.specs.SamePromises.{natural_value}
use Rattle.chw_types.specs.TypeMoves.{sub, rename, up}
use Rattle.chw_terms.specs.Evaluated.{evaluated}
use Rattle.chw_layout.specs.Measured.{HasWidth, measured_scalar}
use Rattle.chw_meaning.specs.Eval.{dom}
use Rattle.chw_meaning.specs.Gives.{leaf_of, leaf_signal}
use Rattle.chw_meaning.specs.Run.{zero_by, eval}
use Rattle.chw_meaning.specs.Values.{History, bits}
use Rattle.chw_meaning.specs.Whole.{with_input}
use Rattle.chw_meaning.specs.Writing.{shown, is_word}
use Rattle.carrying.specs.Carrying.{Shows, holds_word}
use Rattle.netlist.specs.declared.net.Cell.TheVariants.{Copy, Bin, Reg, Use}
use Rattle.netlist.specs.declared.net.Module.{Module}
use Rattle.netlist.specs.declared.net.Op2.TheVariants.{Add}
use Rattle.use_laws.specs.ValueIn.{ValueIn, HasCellAt, HasUseAt, IsModuleAt, top, used, input, enters, leaves, operated, first, later, read_none, read_and}
use Rattle.net_built.specs.Accumulator.{accumulator, accumulator_net}
use Rattle.net_built.specs.Data.{port_parts}
use Rattle.net_built.specs.Examples.{word}
use Rattle.net_built.specs.Wires.{wire}
use Rattle.cell_bits.specs.Bearing.{Bears, bears_bits}
use Rattle.net_grounds.specs.Facts.{Facts}
use Rattle.net_means.specs.CircuitBits.Example.{the_sum, SumHas, AccumulatorHas}

byte_width : HasWidth accumulator.datas (word 8) 8
unfolding natural_value
byte_width = measured_scalar

sum_first : shown accumulator the_sum (with_input 5 ∷ []) ≡ is_word 8 0
unfolding eval zero_by sub rename up natural_value evaluated
sum_first = refl

sum_second : shown accumulator the_sum (with_input 7 ∷ with_input 5 ∷ []) ≡ is_word 8 5
unfolding eval zero_by sub rename up natural_value evaluated
sum_second = refl

sum_shows : Facts → (h : History) (n : ℕ) → shown accumulator the_sum h ≡ is_word 8 n → length (bits_of 8 n) ≡ 8 → Shows accumulator (word 8) the_sum h (bits_of 8 n)
unfolding natural_value
sum_shows facts h n e long = facts.shows.held_shows 8 byte_width (facts.shows.shown_is_so accumulator the_sum h (bits (bits_of 8 n)) e).1 (holds_word long)

-- the two modules, and the use of the first in the second
abbrev adder : Module
adder = record { inputs = 2; widths = 8 ∷ 8 ∷ 8 ∷ []; outputs = wire 2 ∷ []; cells = Bin (wire 2) Add (wire 0) (wire 1) ∷ [] }

abbrev summing : Module
summing =
    record {
      inputs = 1;
      widths = 8 ∷ 8 ∷ 8 ∷ 8 ∷ [];
      outputs = wire 2 ∷ [];
      cells = Copy (wire 1) (wire 0) ∷ Reg (wire 2) (dom 0) (bits_of 8 0) (wire 3) ∷ Use (record { number = 0 }) (wire 2 ∷ wire 1 ∷ []) (wire 3 ∷ []) ∷ [];
    }

at_top : IsModuleAt accumulator_net [] summing
at_top = top 1 summing (record { last = refl; stands = refl })

the_use : HasUseAt accumulator_net [] 2 (wire 2 ∷ wire 1 ∷ []) (wire 3 ∷ [])
the_use = record { k = record { number = 0 }; m = summing; at = at_top; stands = refl }

inside : IsModuleAt accumulator_net (2 ∷ []) adder
inside = used [] 2 summing adder (record { number = 0 }) (wire 2 ∷ wire 1 ∷ []) (wire 3 ∷ []) at_top refl refl

register : HasCellAt accumulator_net [] (Reg (wire 2) (dom 0) (bits_of 8 0) (wire 3))
register = record { m = summing; at = at_top; place = 1; stands = refl }

abbrev once : History
once = with_input 5 ∷ []

sum_at_first : ValueIn accumulator_net [] once 2 (bits_of 8 0)
sum_at_first = first [] (wire 2) (wire 3) (dom 0) (bits_of 8 0) once register refl

input_at_first : ValueIn accumulator_net [] once 1 (bits_of 8 5)
input_at_first =
    operated [] (Copy (wire 1) (wire 0)) 1 once (bits_of 8 5 ∷ []) (record { m = summing; at = at_top; place = 0; stands = refl }) tt refl
    (read_and [] once (wire 0) [] (bits_of 8 5) [] (input 0 (with_input 5) [] (bits_of 8 5) (omega arith) refl) (read_none [] once))

added_at_first : ValueIn accumulator_net (2 ∷ []) once 2 (bits_of 8 5)
added_at_first =
    operated (2 ∷ []) (Bin (wire 2) Add (wire 0) (wire 1)) 2 once (bits_of 8 0 ∷ bits_of 8 5 ∷ []) (record { m = adder; at = inside; place = 0; stands = refl }) tt refl
    (read_and (2 ∷ []) once (wire 0) (wire 1 ∷ []) (bits_of 8 0) (bits_of 8 5 ∷ []) (enters [] 2 0 (wire 2 ∷ wire 1 ∷ []) (wire 3 ∷ []) (wire 2) once (bits_of 8 0) the_use refl sum_at_first)
    (read_and (2 ∷ []) once (wire 1) [] (bits_of 8 5) [] (enters [] 2 1 (wire 2 ∷ wire 1 ∷ []) (wire 3 ∷ []) (wire 1) once (bits_of 8 5) the_use refl input_at_first) (read_none (2 ∷ []) once)))

sum_at_second : ValueIn accumulator_net [] (with_input 7 ∷ once) 2 (bits_of 8 5)
sum_at_second =
    later [] (wire 2) (wire 3) (dom 0) (bits_of 8 0) (bits_of 8 5) (with_input 7 ∷ once) once register refl
    (leaves [] 2 0 (wire 2 ∷ wire 1 ∷ []) (wire 3 ∷ []) adder (wire 3) (wire 2) once (bits_of 8 5) the_use inside refl refl added_at_first)

sum_has : (h : History) (b : List Bool) → Shows accumulator (word 8) the_sum h b → Bears accumulator_net [] h (wire 2 ∷ []) b → SumHas h b
sum_has h b shows bears = (
  record {
    widths = 8 ∷ [];
    parts = port_parts (one_leaf {dom = dom 0} representable_scalar) (byte_width, tt);
    leaf = leaf_of (word 8) the_sum;
    is = record { leaves = leaf_of (word 8) the_sum ∷ []; are = leaf_signal representable_scalar; at = refl };
    bits = b;
    shows = shows;
    bears = bears;
  },
  refl,
)

pub accumulator_has : Facts → AccumulatorHas
accumulator_has facts =
    record {
      first = sum_has once (bits_of 8 0) (sum_shows facts once 0 sum_first refl) (bears_bits sum_at_first);
      second = sum_has (with_input 7 ∷ once) (bits_of 8 5) (sum_shows facts (with_input 7 ∷ once) 5 sum_second refl) (bears_bits sum_at_second);
    }
