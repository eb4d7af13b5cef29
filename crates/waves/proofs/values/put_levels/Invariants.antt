-- what is written, with the lines that are left, is all
use Rattle.std.proofs.Common.{◌≡◌, ◌++◌, drop, map}
use Rattle.chw_bits.specs.Bitwise.{one_bit}
use Rattle.waves.specs.Vcd.{changes}
use Rattle.waves.proofs.values.put_levels.Given as goal

abbrev pub invariant-loop-place : goal.invariant-loop-place
invariant-loop-place l =
    l.out.items ++ changes l.place (map one_bit (drop l.place l.old)) (map one_bit (drop l.place l.new))
    ≡ l.initial.out.items ++ changes 0 (map one_bit l.old) (map one_bit l.new)
