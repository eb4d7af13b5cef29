-- What contracts see of a normal state.
use Rattle.std.specs.Prelude.{List, refl}
use Rattle.std.specs.Coded.{Coded, code_by, coded×, coded_list}
use Rattle.chw_terms.specs.contracts.program.Program as program_type
use Rattle.chw_terms.specs.contracts.scene.Made as made_type
use Rattle.chw_terms.specs.declared.program.Program.{Program}
use Rattle.chw_terms.specs.declared.scene.Made.{Made}

-- a program, and its made definitions
pub record State : Type 0 where
  pub program : Program
  pub made : List Made

-- the logic stores them as a pair
abbrev pub coded_state : Coded State
coded_state =
    code_by (Program × List Made)
    (coded× program_type.the_row.coded (coded_list made_type.the_row.coded))
    (λ s. (s.program, s.made))
    (λ p. record { program = p.0; made = p.1 })
    (λ s. refl)
