-- the places are right as far as the order is read
use Rattle.std.proofs.Common.{◌≡◌, ◌+◌, ◌<◌, ℕ, drop, length}
use Rattle.std.specs.List.{slice_index}
use Rattle.net_built.specs.Circuits.{place_in}
use Rattle.value_build.proofs.places.mark.Given as goal

abbrev pub invariant-loop-i : goal.invariant-loop-i
invariant-loop-i l =
    ((m : ℕ) → m < length l.places.items → slice_index l.places.items m ≡ l.i + place_in (drop l.i l.order) m)
    × (length l.places.items ≡ length l.initial.places.items)
