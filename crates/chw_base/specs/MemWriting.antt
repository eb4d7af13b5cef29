-- What one call of a sink in memory does.
use Rattle.std.specs.Prelude.{◌≡◌, ℕ, true, false, List, ◌++◌, Result, Ok, Err}
use Rattle.chw_base.specs.Calls.{next, fails}
use Rattle.chw_base.specs.InMemory.{SinkState}
use Rattle.chw_base.specs.declared.outcome.Or.{Or}
use Rattle.chw_base.specs.declared.outcome.Or.TheVariants.{Memory, Fault}
use Rattle.chw_base.specs.declared.sink.SinkFault.{SinkFault}

-- a call that is listed fails, writes nothing and is counted as a fault; each call is counted, and nothing else changes
abbrev pub PutsInMemory : SinkState → List ℕ → Result (Unit {0}) (Or SinkFault) → SinkState → Type 0
PutsInMemory before bytes (Ok _) after =
    (fails before.fail before.calls ≡ false)
    × (after ≡ record before { written = before.written ++ bytes; calls = next before.calls })
PutsInMemory before bytes (Err Memory) after =
    (fails before.fail before.calls ≡ false) × (after ≡ record before { calls = next before.calls })
PutsInMemory before bytes (Err (Fault _)) after =
    (fails before.fail before.calls ≡ true)
    × (after ≡ record before { calls = next before.calls; faults = next before.faults })
