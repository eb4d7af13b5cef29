-- How a run of the program ends.
use Rattle.std.specs.Prelude.{ℕ, List, Option, Result, Ok, Err}
use Rattle.chw_base.specs.Outcome.{OfFault}
use Rattle.chw_base.specs.declared.outcome.Or.{Or}
use Rattle.chw_base.specs.declared.outcome.Or.TheVariants.{Memory, Fault}
use Rattle.chw_base.specs.declared.sink.SinkFault.{SinkFault}
use Rattle.chw_cli.specs.Answer.{Answer}
use Rattle.chw_cli.specs.Delivery.{TellsLine, TellsNothing}
use Rattle.chw_cli.specs.Lines.{TakesMemory, line_of, status_of}
use Rattle.chw_cli.specs.Reads.{Read}
use Rattle.chw_cli.specs.declared.refusal.Refusal.{Refusal}
use Rattle.chw_cli.specs.declared.refusal.Refusal.TheVariants as refusal
use Rattle.chw_cli.specs.declared.status.Status.{Status}
use Rattle.chw_cli.specs.declared.status.Status.TheVariants as status

-- the answer to words, with what was read for it, where `Asked` says what the shelf was asked
pub record AnswersBy (Asked : List Read → Type 0) (words : List (List ℕ)) (answer : Result (List ℕ) Refusal) : Type 0 where
  pub reads : List Read
  pub asked : Asked reads
  pub answers : Answer words reads answer

-- why there is no answer: memory was wanting, or the answer is this refusal
pub data Refuses (Asked : List Read → Type 0) (words : List (List ℕ)) : Refusal → Type 0 where
  for_memory : (reads : List Read) → Asked reads → Refuses Asked words refusal.Memory
  by_answer : (r : Refusal) → AnswersBy Asked words (Err r) → Refuses Asked words r

-- the refusal of an answer that stopped at a call of `put`
abbrev pub stopped : Or SinkFault → Refusal
stopped Memory = refusal.Memory
stopped (Fault f) = refusal.Write

-- the refusal was told: its line was put in one call, and the status is its own; or memory was
-- wanting for that call or, if the line takes memory to make, for the line
pub data Told {S : Type 0} (gives : S → List ℕ → Result (Unit {0}) (Or SinkFault) → S → Type 0) (written : S → Option (List ℕ)) (faults : S → ℕ)
    (r : Refusal) (s t : S) : Status → Type 0 where
  told : TellsLine gives written faults (line_of r) s t → Told gives written faults r s t (status_of r)
  untold : TellsNothing gives (line_of r) (TakesMemory r) s t → Told gives written faults r s t status.Memory

-- the end of a run, by what the shelf was asked, the words, whether the faults of `out` rose, and
-- what became of `out` (the same as before; all of these bytes were written; a part of them, up to
-- a call that gave this answer) and of `err` (the same as before; this refusal was told)
pub data Outcome (Asked : List Read → Type 0) (words : List (List ℕ)) (OutRose OutSame ErrSame : Type 0)
    (All : List ℕ → Type 0) (Part : Or SinkFault → List ℕ → Type 0) (Tells : Refusal → Status → Type 0) : Status → Type 0 where
  answered : (bytes : List ℕ) → AnswersBy Asked words (Ok bytes) → All bytes → ErrSame
      → Outcome Asked words OutRose OutSame ErrSame All Part Tells status.Ok
  refused : (r : Refusal) (s : Status) → Refuses Asked words r → OutSame → Tells r s
      → Outcome Asked words OutRose OutSame ErrSame All Part Tells s
  unwritten : (bytes : List ℕ) (answer : Or SinkFault) (s : Status) → AnswersBy Asked words (Ok bytes) → Part answer bytes
      → OfFault answer (λ _. OutRose) → Tells (stopped answer) s
      → Outcome Asked words OutRose OutSame ErrSame All Part Tells s
