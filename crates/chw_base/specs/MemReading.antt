-- What one call of a shelf in memory does.
use Rattle.std.specs.Prelude.{◌≡◌, ℕ, ◌<◌, ◌≤◌, true, false, List, [], length, Option, Some, None, Result, Ok, Err}
use Rattle.chw_base.specs.Calls.{next, fails}
use Rattle.chw_base.specs.Files.{file_of}
use Rattle.chw_base.specs.InMemory.{ShelfState}
use Rattle.chw_base.specs.declared.outcome.Or.{Or}
use Rattle.chw_base.specs.declared.outcome.Or.TheVariants.{Memory, Fault}
use Rattle.chw_base.specs.declared.shelf.ShelfFault.{ShelfFault}
use Rattle.chw_base.specs.declared.shelf.Fetched.{Fetched}
use Rattle.chw_base.specs.declared.shelf.Fetched.TheVariants.{Whole, TooLong, Absent}

-- the answer of a call that isn't listed, and the bytes that it reads, by what is held under the name
abbrev pub IsFound : Option (List ℕ) → ℕ → Fetched → List ℕ → Type 0
IsFound held limit Whole bytes = (held ≡ Some bytes) × (length bytes ≤ limit)
IsFound held limit TooLong bytes = ((long : List ℕ) × (held ≡ Some long) × (limit < length long)) × (bytes ≡ [])
IsFound held limit Absent bytes = (held ≡ None) × (bytes ≡ [])

-- a call that is listed fails and is counted as a fault; each call is counted, and nothing else changes
abbrev pub FetchesInMemory : ShelfState → List ℕ → ℕ → Result Fetched (Or ShelfFault) → List ℕ → ShelfState → Type 0
FetchesInMemory before name limit (Ok found) bytes after =
    (fails before.fail before.calls ≡ false) × IsFound (file_of before.files name) limit found bytes
    × (after ≡ record before { calls = next before.calls })
FetchesInMemory before name limit (Err Memory) bytes after =
    (fails before.fail before.calls ≡ false) × (bytes ≡ []) × (after ≡ record before { calls = next before.calls })
FetchesInMemory before name limit (Err (Fault _)) bytes after =
    (fails before.fail before.calls ≡ true) × (bytes ≡ [])
    × (after ≡ record before { calls = next before.calls; faults = next before.faults })
