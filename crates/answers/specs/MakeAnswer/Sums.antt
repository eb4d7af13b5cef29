-- The sum of the numbers of an output at the events of odd number.
use Rattle.std.specs.Prelude.{◌≡◌, ℕ, suc, ◌+◌, ◌%◌, ◌^◌, ◌==◌, if◌then◌else◌, Bool, List, [], ◌∷◌}
use Rattle.chw_bits.specs.Bits.{number_of}
use Rattle.chw_clock.specs.declared.event.Event.{Event}
use Rattle.net_run.specs.Runs.{OutputsAt}
use Rattle.netlist.specs.declared.net.Flat.{Flat}

-- the number of the bits of the first output, and 0 where there is none
abbrev pub first_number : List (List Bool) → ℕ
first_number [] = 0
first_number (bits ∷ others) = number_of bits

-- what the event of this number adds to the sum, by its outputs
abbrev pub adds : ℕ → List (List Bool) → ℕ
adds j outputs = if j % 2 == 1 then first_number outputs else 0

-- the sum at events that are counted from this number on
abbrev pub sum_from : ℕ → List (List (List Bool)) → ℕ
sum_from j [] = 0
sum_from j (outputs ∷ others) = adds j outputs + sum_from (suc j) others

-- the sum at events that are counted from 0 on
abbrev pub odd_sum : List (List (List Bool)) → ℕ
odd_sum outputs = sum_from 0 outputs

-- the outputs of the flat net at the events have this sum modulo 2 to the 64
pub record HasSum (flat : Flat) (events : List Event) (sum : ℕ) : Type 0 where
  pub outputs : List (List (List Bool))
  pub shown : OutputsAt flat [] events outputs
  pub sum_is : sum ≡ odd_sum outputs % 2 ^ 64
