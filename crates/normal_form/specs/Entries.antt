-- What a state is beside its normal form, where a net is built of it.
use Rattle.std.specs.Prelude.{◌≡◌, ◌≤◌, List, length, Some, slice_get}
use Rattle.chw_base.specs.declared.limits.TheConstants.{MADE_DEFINITIONS}
use Rattle.chw_terms.specs.declared.program.Def.{Def}
use Rattle.chw_terms.specs.declared.program.Program.{Program}
use Rattle.chw_terms.specs.declared.scene.Made.{Made}
use Rattle.rewriting.specs.Origins.{made_of}
use Rattle.rewriting.specs.Runs.{top_of}
use Rattle.rule_types.specs.States.{IsTypedState}

-- the program's top is there, and the state's first made definition has the origin, the type and
-- the sort with which a program opens for it
pub record BeginsWithTop (p : Program) (state : List Made) : Type 0 where
  pub top : Def
  pub held : slice_get p.defs p.top.«def».number ≡ Some top
  pub it : Made
  pub is_first : slice_get state 0 ≡ Some it
  pub same : made_of it ≡ top_of p.top.«def».number top

-- a state of a tidy and typed program: typed, with the top as its first made definition, and no
-- more of them than a run may make
pub record IsEntry (p : Program) (state : List Made) : Type 0 where
  pub typed : IsTypedState p state
  pub begins : BeginsWithTop p state
  pub few : length state ≤ MADE_DEFINITIONS
