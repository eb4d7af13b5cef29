-- What is known of data types.
use Rattle.std.specs.Prelude.{List, [], ◌∷◌}
use Rattle.chw_types.specs.declared.declarations.Data.{Data}
use Rattle.type_widths.specs.declared.outcome.Outcome.{Outcome}
use Rattle.type_widths.specs.declared.widths.Instance.{Instance}
use Rattle.type_widths.specs.Outcomes.{IsOutcomeOf}

-- each data type comes to what is kept of it at arguments of these outcomes
abbrev pub AreRight : List Data → List (Instance × Outcome) → Type 0
AreRight datas [] = Unit {0}
AreRight datas (e ∷ es) = IsOutcomeOf datas e.0.at e.0.outs.items e.1 × AreRight datas es
