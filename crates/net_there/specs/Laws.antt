-- What is promised of states in normal form: they are ready, and there is a net of each.
use Rattle.std.specs.Prelude.{◌≡◌, ℕ, ◌≤◌, List, [], length, Some}
use Rattle.std.specs.List.{slice_get}
use Rattle.chw_base.specs.declared.limits.TheConstants.{MADE_DEFINITIONS}
use Rattle.chw_clock.specs.declared.event.Ports.{Ports}
use Rattle.chw_types.specs.TypeTree.{TypeTree}
use Rattle.chw_terms.specs.declared.program.Program.{Program}
use Rattle.chw_terms.specs.declared.rule.Rule.{Rule}
use Rattle.chw_terms.specs.declared.scene.Made.{Made}
use Rattle.chw_terms.specs.TermTree.{TermTree}
use Rattle.chw_terms.specs.Tidy.{IsTidy}
use Rattle.chw_typing.specs.Programs.{IsSound, IsTyped}
use Rattle.chw_typing.specs.Scopes.{AreTermTypes}
use Rattle.chw_typing.specs.Typing.{HasTypeUpTo}
use Rattle.chw_layout.specs.Measured.{HasWidth}
use Rattle.chw_meaning.specs.Means.{HasPorts}
use Rattle.rewriting.specs.Origins.{Origins, setting_at}
use Rattle.rewriting.specs.Runs.{Run, Step}
use Rattle.rule_types.specs.States.{IsTypedState}
use Rattle.normal_forms.specs.Circuits.{IsConstant, content_type}
use Rattle.normal_forms.specs.Normal.{IsNormal}
use Rattle.normal_forms.specs.Uses.{IsAcyclic}
use Rattle.normal_form.specs.Entries.{BeginsWithTop, IsEntry}
use Rattle.netlist.specs.declared.net.Net.{Net}
use Rattle.net_rules.specs.WellFormed.{WellFormed}
use Rattle.net_built.specs.Built.{Built}
use Rattle.net_ready.specs.Ready.{HasSomeBits, HasSomeWords, ModuleReady, StateReady}

-- a typed constant of a type with a width has bits
abbrev pub ConstantsHaveBits : Type 0
ConstantsHaveBits =
    (o : Origins) (vars : List TypeTree) (e : TermTree) (t : TypeTree) (w : ℕ)
    → IsSound (setting_at o) → AreTermTypes (setting_at o) [] vars → IsConstant o.program.datas e
    → HasTypeUpTo (setting_at o) [] vars e t → HasWidth o.program.datas t w
    → HasSomeBits o.program.datas t e

-- and one that is a content of a block RAM has words
abbrev pub ContentsHaveWords : Type 0
ContentsHaveWords =
    (o : Origins) (vars : List TypeTree) (e : TermTree) (n t : TypeTree) (w : ℕ)
    → IsSound (setting_at o) → AreTermTypes (setting_at o) [] vars → IsConstant o.program.datas e
    → HasTypeUpTo (setting_at o) [] vars e (content_type n t)
    → HasWidth o.program.datas (content_type n t) w
    → HasSomeWords o.program.datas t e

-- each made definition of a typed normal state is ready
abbrev pub ModulesAreReady : Type 0
ModulesAreReady =
    (p : Program) (state : List Made) (m : ℕ) (it : Made)
    → IsTypedState p state → IsNormal p state → slice_get state m ≡ Some it
    → ModuleReady p.datas it

-- the program of one that begins with the top has ports
abbrev pub PortsAreThere : Type 0
PortsAreThere =
    (p : Program) (state : List Made)
    → IsTypedState p state → IsNormal p state → BeginsWithTop p state
    → (ports : Ports) × HasPorts p ports

-- an entry in normal form, of which no made definition uses itself, is ready
abbrev pub StatesAreReady : Type 0
StatesAreReady =
    (p : Program) (state : List Made)
    → IsEntry p state → IsNormal p state → IsAcyclic state → StateReady p state

-- so there is a net of it, and that one is well formed
abbrev pub FinishedStatesHaveNets : Type 0
FinishedStatesHaveNets =
    (p : Program) (state : List Made)
    → IsEntry p state → IsNormal p state → IsAcyclic state
    → (net : Net) × Built p state net × WellFormed net

-- and so of each such state to which a run of a tidy and typed program leads, if it has no more
-- made definitions than a run may make
abbrev pub RunsHaveNets : Type 0
RunsHaveNets =
    (rules : List Rule) (p : Program) (n : ℕ) (steps : List Step) (state : List Made)
    → IsTidy p → IsTyped p → Run rules p n steps state → length state ≤ MADE_DEFINITIONS
    → IsNormal p state → IsAcyclic state
    → (net : Net) × Built p state net × WellFormed net
