-- The telling of one line.
use Rattle.std.specs.Prelude.{ℕ, List, ◌++◌, codes, decimal, Option, Result}
use Rattle.chw_base.specs.declared.outcome.Or.{Or}
use Rattle.chw_base.specs.declared.sink.SinkFault.{SinkFault}
use Rattle.chw_cli.specs.Delivery.{TellsLine, TellsNothing}
use Rattle.chw_cli.specs.declared.status.Status.{Status}
use Rattle.chw_cli.specs.declared.status.Status.TheVariants.{Memory}

-- the line was put in one call, and the status is this one; or memory was wanting for that call,
-- or, if the line takes memory to make, for the line
pub data Puts {S : Type 0} (gives : S → List ℕ → Result (Unit {0}) (Or SinkFault) → S → Type 0) (written : S → Option (List ℕ)) (faults : S → ℕ)
    (line : List ℕ) (Takes : Type 0) (status : Status) (s t : S) : Status → Type 0 where
  put : TellsLine gives written faults line s t → Puts gives written faults line Takes status s t status
  no_memory : TellsNothing gives line Takes s t → Puts gives written faults line Takes status s t Memory

-- words, a place, and a line feed
abbrev pub place_line : List ℕ → ℕ → List ℕ
place_line words at = words ++ decimal at ++ codes "\n"
