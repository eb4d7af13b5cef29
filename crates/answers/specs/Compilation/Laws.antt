-- What is promised of what is compiled.
use Rattle.std.specs.Prelude.{◌≡◌, ◌≤◌, ℕ, List, length}
use Rattle.chw_base.specs.declared.limits.TheConstants.{MADE_DEFINITIONS}
use Rattle.chw_terms.specs.declared.program.Program.{Program}
use Rattle.chw_terms.specs.declared.scene.Made.{Made}
use Rattle.chw_terms.specs.Tidy.{IsTidy}
use Rattle.chw_typing.specs.Programs.{IsTyped}
use Rattle.rewriting.specs.Runs.{Run}
use Rattle.chw_norm.specs.Rules.{built}
use Rattle.net_means.specs.Outputs.{NetMeans}
use Rattle.netlist.specs.Orders.{HasNoLoop}
use Rattle.netlist.specs.Sound.{Sound}
use Rattle.netlist.specs.declared.net.Flat.{Flat}
use Rattle.netlist.specs.declared.net.Net.{Net}
use Rattle.share_laws.specs.Shares.{Shares}
use Rattle.answers.specs.Compilation.Compiling.{EndsSmall, CompilesTo, EndsIn, HasCounts}
use Rattle.answers.specs.Compilation.Compiling.{IsCompileFault}
use Rattle.answers.specs.Compilation.SingleBits.{BitsMean}
use Rattle.answers.specs.declared.compiled.fault.CompileFault.{CompileFault}

-- the state in which a run ends is one to which so many first steps lead, and it holds no more made
-- definitions than may be held
abbrev pub EndsAreRuns : Type 0
EndsAreRuns =
    (p : Program) (budget : ℕ) (state : List Made) → (e : EndsIn p budget state)
    → Run built p (length e.steps) e.steps state × (length state ≤ MADE_DEFINITIONS)

-- all runs of a program that end have as many steps, and end in as many made definitions, whatever
-- the budgets are
abbrev pub OneCount : Type 0
OneCount =
    (p : Program) (budget other steps steps' definitions definitions' : ℕ)
    → HasCounts p budget steps definitions → HasCounts p other steps' definitions'
    → (steps ≡ steps') × (definitions ≡ definitions')

-- a program is compiled to one net and one flat net at most, whatever the budgets are
abbrev pub OneCompiled : Type 0
OneCompiled =
    (p : Program) (budget other : ℕ) (net net' : Net) (flat flat' : Flat)
    → CompilesTo p budget net flat → CompilesTo p other net' flat'
    → (net ≡ net') × (flat ≡ flat')

-- a program whose run ends so within a budget isn't refused within it
abbrev pub NothingRefusesACompile : Type 0
NothingRefusesACompile =
    (p : Program) (budget : ℕ) (fault : CompileFault)
    → EndsSmall p budget → IsCompileFault p budget fault → ⊥

-- that of one that is compiled to some net ends so
abbrev pub CompiledEndsSmall : Type 0
CompiledEndsSmall =
    (p : Program) (budget : ℕ) (net : Net) (flat : Flat)
    → CompilesTo p budget net flat → EndsSmall p budget

-- the other way round, a tidy and typed program whose run ends so is compiled to some net: there is
-- a net of the state, and a flat net of that one
abbrev pub SmallEndsCompile : Type 0
SmallEndsCompile =
    (p : Program) (budget : ℕ) → IsTidy p → IsTyped p → EndsSmall p budget
    → (net : Net) × (flat : Flat) × CompilesTo p budget net flat

-- the shared net of a sound flat net without a loop means what that net means
abbrev pub SharedNetMeans : Type 0
SharedNetMeans =
    (p : Program) (flat shared : Flat) → Sound flat → HasNoLoop flat → Shares flat shared
    → NetMeans p flat → NetMeans p shared

-- the net of single bits of a sound flat net without a loop means what that net means
abbrev pub SingleBitsMean : Type 0
SingleBitsMean =
    (p : Program) (flat : Flat) → Sound flat → HasNoLoop flat → NetMeans p flat → BitsMean p flat
