-- What is found of the constructors and of the defaults, taken together.
use Rattle.std.proofs.Common.{Result, Ok, Err, IfOk}
use Rattle.std.specs.Prelude.{Option, Some, None, MatchOption}
use Rattle.chw_base.specs.declared.outcome.NoMemory.{NoMemory}
use Rattle.chw_terms.specs.declared.program.Program.{Program}
use Rattle.chw_check.specs.declared.cases.lacks.Incomplete.{Incomplete}
use Rattle.chw_check.specs.declared.cases.lacks.Sought.TheVariants.{Constructors, Defaults}
use Rattle.chw_check.specs.Incomplete.{AllKeep, IsFirstIncomplete, of_defaults, IsFirstOf, Keep}

-- no case leaves out anything where none leaves out a constructor and none a default
all_keep : (p : Program) → Keep p Constructors → Keep p Defaults → AllKeep p
all_keep p constructors defaults Constructors = constructors
all_keep p constructors defaults Defaults = defaults

-- what is found of the defaults, where no case leaves out a constructor
pub second_found : (p : Program) (r : Result (Option Incomplete) NoMemory) → Keep p Constructors → IfOk r (λ first. MatchOption first (Keep p Defaults) (λ i. IsFirstOf p Defaults i))
    → IfOk r (λ first. MatchOption first (AllKeep p) (λ i. IsFirstIncomplete p i))
second_found p (Ok None) kept h = all_keep p kept h
second_found p (Ok (Some i)) kept h = of_defaults kept h
second_found p (Err e) kept h = tt
