-- What is promised of what is built: the rules on widths and on limits, and so all rules.
use Rattle.std.specs.Prelude.{◌≡◌, ℕ, ◌≤◌, List, length, Some, slice_get}
use Rattle.chw_base.specs.declared.limits.TheConstants.{MADE_DEFINITIONS}
use Rattle.chw_terms.specs.declared.program.Program.{Program}
use Rattle.chw_terms.specs.declared.rule.Rule.{Rule}
use Rattle.chw_terms.specs.declared.scene.Made.{Made}
use Rattle.netlist.specs.declared.net.Module.{Module}
use Rattle.netlist.specs.declared.net.Net.{Net}
use Rattle.net_rules.specs.WellFormed.{LimitsHold, WellFormed, WidthsHold}
use Rattle.normal_forms.specs.Normal.{IsNormal}
use Rattle.rewriting.specs.Runs.{Run, Step}
use Rattle.rule_types.specs.States.{IsTypedState}
use Rattle.net_built.specs.Built.{Built}
use Rattle.normal_form.specs.Entries.{BeginsWithTop}

-- in each module that is built of a typed normal state that begins with the top the widths of the
-- cells agree, and the last module is as wide as the program's ports
abbrev pub WidthsAreKept : Type 0
WidthsAreKept =
    (p : Program) (state : List Made) (net : Net) (i : ℕ) (m : Module)
    → IsTypedState p state → IsNormal p state → Built p state net → BeginsWithTop p state
    → slice_get net.modules i ≡ Some m → WidthsHold net i m

-- there are at most as many modules as made definitions
abbrev pub ModulesAreFew : Type 0
ModulesAreFew =
    (p : Program) (state : List Made) (net : Net)
    → Built p state net → length net.modules ≤ length state

-- each module that is built of a typed normal state is within the limits on widths and on the words
-- of memories, and there are no more modules than may be, if the state has no more made definitions
-- than a run may make
abbrev pub LimitsAreKept : Type 0
LimitsAreKept =
    (p : Program) (state : List Made) (net : Net) (i : ℕ) (m : Module)
    → IsTypedState p state → IsNormal p state → Built p state net
    → length state ≤ MADE_DEFINITIONS
    → slice_get net.modules i ≡ Some m → LimitsHold net i m

-- what is built of a typed normal state that begins with the top, and has no more made definitions
-- than that, is well formed
abbrev pub StatesBuildWellFormed : Type 0
StatesBuildWellFormed =
    (p : Program) (state : List Made) (net : Net)
    → IsTypedState p state → IsNormal p state → Built p state net → BeginsWithTop p state
    → length state ≤ MADE_DEFINITIONS → WellFormed net

-- so is what is built of a typed normal state to which a run leads
abbrev pub RunsBuildWellFormed : Type 0
RunsBuildWellFormed =
    (rules : List Rule) (p : Program) (n : ℕ) (steps : List Step) (state : List Made) (net : Net)
    → Run rules p n steps state → IsTypedState p state → IsNormal p state → Built p state net
    → length state ≤ MADE_DEFINITIONS → WellFormed net
