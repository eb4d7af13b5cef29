-- the place among the names that are left, counted from those that are passed
use Rattle.std.proofs.Common.{◌≡◌, ℕ, ◌+◌, drop}
use Rattle.std.specs.Option.{option_map}
use Rattle.name_tables.specs.Names.{place_of}
use Rattle.stimulus.proofs.names.place.Given as goal

abbrev pub invariant-loop-place : goal.invariant-loop-place
invariant-loop-place l = place_of l.names l.name ≡ option_map (λ (p : ℕ). p + l.place) (place_of (drop l.place l.names) l.name)
