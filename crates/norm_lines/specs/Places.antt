-- The places of steps.
use Rattle.rewriting.specs.Steps.{Where}
use Rattle.norm_lines.specs.declared.place.StepAt.{StepAt}

-- the place of a step, as definitions have it
abbrev pub where_of : StepAt → Where
where_of s = record { number = s.made.number; path = s.path.items; rule = s.rule }
