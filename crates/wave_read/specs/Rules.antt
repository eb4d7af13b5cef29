-- What the reader keeps of the variables, and the rules on changes by it.
use Rattle.std.specs.Prelude.{◌≡◌, ℕ, IsTrue, List, length, map, slice_index_or}
use Rattle.std.specs.List.{AllByRecursion}
use Rattle.name_tables.specs.Names.{is_among, place_of}
use Rattle.wave_text.specs.Faults.{IsFirstWithout}
use Rattle.wave_text.specs.VcdText.{Changed, Declared, Moment, codes_of, number_of_place}
use Rattle.wave_read.specs.declared.rules.Rule.{Rule}
use Rattle.wave_read.specs.declared.rules.Rule.TheVariants.{Code, Width}
use Rattle.wave_read.specs.declared.rules.Table.{Table}
use Rattle.wave_text.specs.declared.wave.Change.{Change}
use Rattle.wave_text.specs.declared.wave.WaveStep.{WaveStep}

-- the table is that of these variables
pub record OfTable (declared : List Declared) (table : Table) : Type 0 where
  pub codes : table.codes ≡ codes_of declared
  pub widths : table.widths.items ≡ map (λ it. it.width) declared

-- the number of the variable of a code
abbrev pub var_in : Table → List ℕ → ℕ
var_in table code = number_of_place (place_of table.codes code)

-- the width of the variable of a code
abbrev pub width_in : Table → List ℕ → ℕ
width_in table code = slice_index_or table.widths.items (var_in table code) 0

-- the change keeps the rule
abbrev pub Keeps : Rule → Table → Changed → Type 0
Keeps Code table change = IsTrue (is_among table.codes change.code)
Keeps Width table change = length change.bits ≡ width_in table change.code

-- each of the changes has as many bits as its variable
abbrev pub HaveWidths : Table → List Changed → Type 0
HaveWidths table = AllByRecursion (Keeps Width table)

-- where a change breaks the rule
abbrev pub place_in : Rule → Changed → ℕ
place_in Code change = change.code_at
place_in Width change = change.at

-- the first change that breaks the rule does so here
abbrev pub BreaksAt : Rule → Table → List Changed → ℕ → Type 0
BreaksAt rule table changes at =
    (change : Changed) × IsFirstWithout (Keeps rule table) changes change
    × (at ≡ place_in rule change)

-- a change by the table
abbrev pub change_in : Table → Changed → Change
change_in table change = record { var = var_in table change.code; value = change.bits }

-- a time with its changes by the table
abbrev pub step_in : Table → Moment → WaveStep
step_in table moment =
    record { time = moment.time; changes = map (change_in table) moment.changes }
