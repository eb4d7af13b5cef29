-- What a fetch may answer where the shelf tells no files.
use Rattle.std.proofs.Common.{ℕ, ◌+◌, List, Option, Ok, None, refl, arith}
use Rattle.std.proofs.Math.ListN.{replicate}
use Rattle.std.proofs.lemmas.List.{length-replicate}
use Rattle.chw_base.specs.Draining.{Drains}
use Rattle.chw_base.specs.Reading.{Fetches}
use Rattle.chw_base.specs.declared.shelf.Fetched.{Fetched}
use Rattle.chw_base.specs.declared.shelf.Fetched.TheVariants.{Whole, TooLong, Absent}

-- what was found in a file is an answer
pub found_untold : (left : Option (List ℕ)) (name : List ℕ) (limit faults : ℕ) (found : Fetched) (bytes : List ℕ) → Drains {E = Fetched} left limit (Ok found) bytes → Fetches None name limit faults faults (Ok found) bytes
found_untold left name limit faults Whole bytes h = (h.0, (λ files told. cc), refl)
found_untold left name limit faults TooLong bytes h = (h.0, (replicate (limit + 1) 0, omega (arith, length-replicate {A = ℕ} (limit + 1) 0), (λ files told. cc)), refl)
found_untold left name limit faults Absent bytes h = absurd h
