-- What a sink answers to a put.
use Rattle.std.specs.Prelude.{◌≡◌, ℕ, ◌≤◌, List, ◌++◌, take, Option, Result, Ok, Err}
use Rattle.std.specs.Option.{option_map}
use Rattle.chw_base.specs.Faults.{Rose}
use Rattle.chw_base.specs.declared.outcome.Or.{Or}
use Rattle.chw_base.specs.declared.outcome.Or.TheVariants.{Memory, Fault}
use Rattle.chw_base.specs.declared.sink.SinkFault.{SinkFault}

-- the written bytes, where they are told, grew by these
abbrev pub GrewBy : List ℕ → Option (List ℕ) → Option (List ℕ) → Type 0
GrewBy bytes before after = after ≡ option_map (λ written. written ++ bytes) before

-- what was written of a piece, by the bytes written before and after where they are told, and the faults before and after
abbrev pub Writes : List ℕ → (written written' : Option (List ℕ)) → (before after : ℕ) → Result (Unit {0}) (Or SinkFault) → Type 0
Writes bytes written written' before after (Ok _) = GrewBy bytes written written' × (after ≡ before)
Writes bytes written written' before after (Err Memory) = (written' ≡ written) × (before ≤ after)
Writes bytes written written' before after (Err (Fault _)) =
    ((k : ℕ) × GrewBy (take k bytes) written written') × (before ≤ after) × Rose before after
