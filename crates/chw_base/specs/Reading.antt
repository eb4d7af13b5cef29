-- What a shelf answers to a fetch.
use Rattle.std.specs.Prelude.{◌≡◌, ℕ, ◌<◌, ◌≤◌, List, [], length, Option, Some, None, Result, Ok, Err, IsSomeAnd}
use Rattle.std.specs.Option.{ForSome}
use Rattle.chw_base.specs.Faults.{Rose}
use Rattle.chw_base.specs.Files.{Files, file_of}
use Rattle.chw_base.specs.declared.outcome.Or.{Or}
use Rattle.chw_base.specs.declared.outcome.Or.TheVariants.{Memory, Fault}
use Rattle.chw_base.specs.declared.shelf.ShelfFault.{ShelfFault}
use Rattle.chw_base.specs.declared.shelf.Fetched.{Fetched}
use Rattle.chw_base.specs.declared.shelf.Fetched.TheVariants.{Whole, TooLong, Absent}

-- a shelf that tells its files (Some) holds these bytes under the name
abbrev pub HoldsIfTold : Option Files → List ℕ → List ℕ → Type 0
HoldsIfTold told name bytes = ForSome told (λ files. file_of files name ≡ Some bytes)

-- what was read of a file of this name, by the files where they are told, the limit, and the faults before and after
abbrev pub Fetches : Option Files → List ℕ → ℕ → (before after : ℕ) → Result Fetched (Or ShelfFault) → List ℕ → Type 0
Fetches told name limit before after (Ok Whole) bytes =
    (length bytes ≤ limit) × HoldsIfTold told name bytes × (after ≡ before)
Fetches told name limit before after (Ok TooLong) bytes =
    (bytes ≡ []) × ((held : List ℕ) × (limit < length held) × HoldsIfTold told name held) × (after ≡ before)
Fetches told name limit before after (Ok Absent) bytes =
    (bytes ≡ []) × IsSomeAnd told (λ files. file_of files name ≡ None) × (after ≡ before)
Fetches told name limit before after (Err Memory) bytes = (bytes ≡ []) × (before ≤ after)
Fetches told name limit before after (Err (Fault _)) bytes = (bytes ≡ []) × (before ≤ after) × Rose before after
