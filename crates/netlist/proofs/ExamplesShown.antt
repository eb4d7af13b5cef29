-- The examples hold by computation.
use Rattle.std.proofs.Common.{[], refl}
use Rattle.netlist.specs.Examples.{Accumulates, Arithmetic, BitByBit, Comparisons, Crosses, Parts, Reductions, Remembers, RemembersThroughAReset, ResetsInARow, Restarts, Shifts, Swaps, a, ab, accumulator, crossed, crossing, memory, no, one_clock, remembered, remembered_through_a_reset, resets_in_a_row, restarts, sums, swapped, swapping, two_clocks}
use Rattle.netlist.proofs.Found.{lines_found, all_found, found, lines_shown}

pub accumulates : Accumulates
unfolding lines_found all_found found
accumulates = lines_shown (accumulator one_clock no 0) [] sums refl

pub restarted : Restarts
unfolding lines_found all_found found
restarted = lines_shown (accumulator one_clock a 3) [] restarts refl

pub reset_in_a_row : ResetsInARow
unfolding lines_found all_found found
reset_in_a_row = lines_shown (accumulator two_clocks ab 3) [] resets_in_a_row refl

pub crosses : Crosses
unfolding lines_found all_found found
crosses = lines_shown crossing [] crossed refl

pub swaps : Swaps
unfolding lines_found all_found found
swaps = lines_shown swapping [] swapped refl

pub remembers : Remembers
unfolding lines_found all_found found
remembers = lines_shown (memory one_clock no) [] remembered refl

pub remembers_through_a_reset : RemembersThroughAReset
unfolding lines_found all_found found
remembers_through_a_reset = lines_shown (memory two_clocks a) [] remembered_through_a_reset refl

pub arithmetic : Arithmetic
arithmetic = (refl, refl, refl)

pub bit_by_bit : BitByBit
bit_by_bit = (refl, refl, refl, refl)

pub comparisons : Comparisons
comparisons = (refl, refl, refl, refl, refl, refl)

pub shifts : Shifts
shifts = (refl, refl, refl, refl, refl, refl, refl)

pub reductions : Reductions
reductions = (refl, refl, refl, refl, refl, refl)

pub parts : Parts
parts = (refl, refl, refl, refl)
