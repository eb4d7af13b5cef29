-- What is read of a reader up to its end, or to one byte past a limit, where it tells which bytes it has left.
use Rattle.std.specs.Prelude.{◌≡◌, ℕ, ◌<◌, ◌≤◌, List, [], length, Option, Result, Ok, Err}
use Rattle.std.specs.Option.{ForSome}
use Rattle.chw_base.specs.declared.shelf.Fetched.{Fetched}
use Rattle.chw_base.specs.declared.shelf.Fetched.TheVariants.{Whole, TooLong, Absent}

-- all that was left, or nothing where that is more than the limit; an error says nothing of the bytes
abbrev pub Drains : {E : Type 0} → Option (List ℕ) → ℕ → Result Fetched E → List ℕ → Type 0
Drains left limit (Ok Whole) bytes = (length bytes ≤ limit) × ForSome left (λ all. all ≡ bytes)
Drains left limit (Ok TooLong) bytes = (bytes ≡ []) × ForSome left (λ all. limit < length all)
Drains left limit (Ok Absent) bytes = ⊥
Drains left limit (Err _) bytes = Unit {0}

-- what was found is what was read of some file, given what each file has left
abbrev pub DrainsSome : {F E : Type 0} → (F → Option (List ℕ)) → ℕ → Result Fetched E → List ℕ → Type 0
DrainsSome {F} left limit (Ok found) bytes = (file : F) × Drains {E = Fetched} (left file) limit (Ok found) bytes
DrainsSome left limit (Err _) bytes = Unit {0}
