-- What a writer holds after a piece was passed on to it, where it tells what it holds.
use Rattle.std.specs.Prelude.{ℕ, List, take, Option, Result, Ok, Err}
use Rattle.std.specs.Io.KnownBytes.{Appends}

-- the whole piece was appended, or at an error some first part of it
abbrev pub Passes : {E : Type 0} → Option (List ℕ) → Option (List ℕ) → List ℕ → Result (Unit {0}) E → Type 0
Passes before after bytes (Ok _) = Appends before after bytes
Passes before after bytes (Err _) = (k : ℕ) × Appends before after (take k bytes)
