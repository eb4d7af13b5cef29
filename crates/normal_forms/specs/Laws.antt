-- What is promised of normal forms.
use Rattle.std.specs.Prelude.{◌≡◌, ◌⊎◌, ℕ, ◌<◌, List, [], length, Some}
use Rattle.std.specs.List.{slice_get, AllByRecursion}
use Rattle.chw_types.specs.declared.kind.Kind.{Kind}
use Rattle.type_ports.specs.Ports.{IsPort}
use Rattle.type_ports.specs.Representable.{Representable}
use Rattle.chw_types.specs.TypeTree.{TypeTree}
use Rattle.chw_terms.specs.declared.program.Program.{Program}
use Rattle.chw_terms.specs.declared.scene.Made.{Made}
use Rattle.chw_terms.specs.TermTree.{TermTree}
use Rattle.chw_typing.specs.Programs.{IsSound}
use Rattle.chw_typing.specs.Around.{Around}
use Rattle.rewriting.specs.Origins.{setting_at}
use Rattle.rewriting.specs.Steps.{origins_in}
use Rattle.normal_forms.specs.Blocked.{BlockedPlace, IsFirstBlocked, rank_of}
use Rattle.normal_forms.specs.Calls.{HoldsOnlyCalls}
use Rattle.normal_forms.specs.Normal.{IsNormal}
use Rattle.normal_forms.specs.Parts.{IsMonomorphic, IsFirstOrder}
use Rattle.normal_forms.specs.Uses.{Uses, IsAcyclic, WholeOf}

-- each body of a normal state is monomorphic and first-order
abbrev pub NormalIsFirstOrder : Type 0
NormalIsFirstOrder =
    (p : Program) (state : List Made) (m : ℕ) (it : Made)
    → IsNormal p state → slice_get state m ≡ Some it
    → IsMonomorphic it.body × IsFirstOrder p.datas it.body

-- and each variable in scope at any part of it has a representable type or a port
abbrev pub NamesAreWires : Type 0
NamesAreWires =
    (p : Program) (state : List Made) (m : ℕ) (it : Made)
    (kinds : List Kind) (vars : List TypeTree) (x : TermTree) (path : List ℕ)
    → IsSound (setting_at (origins_in p state)) → IsNormal p state → slice_get state m ≡ Some it
    → Around (setting_at (origins_in p state)) [] [] it.body path kinds vars x
    → AllByRecursion (λ t. Representable p.datas t ⊎ IsPort p.datas t) vars

-- a made definition stands in such a body only where it is called
abbrev pub NormalHoldsOnlyCalls : Type 0
NormalHoldsOnlyCalls =
    (p : Program) (state : List Made) (m : ℕ) (it : Made)
    → IsNormal p state → slice_get state m ≡ Some it
    → HoldsOnlyCalls (origins_in p state) it.body

-- a made definition is one whole at most
abbrev pub OneWhole : Type 0
OneWhole =
    (state : List Made) (m : ℕ) (e f : TermTree)
    → WholeOf state m e → WholeOf state m f → e ≡ f

-- and one where none uses itself, and each one that is used is there
abbrev pub WholeIsThere : Type 0
WholeIsThere =
    (state : List Made) (m : ℕ)
    → IsAcyclic state → ((j n : ℕ) → Uses state j n → n < length state) → m < length state
    → (e : TermTree) × WholeOf state m e

-- the first blocked place of a state is one place, and is blocked in one way
abbrev pub OneFirstBlocked : Type 0
OneFirstBlocked =
    (p : Program) (state : List Made) (a b : BlockedPlace)
    → IsFirstBlocked p state a → IsFirstBlocked p state b
    → (a.number ≡ b.number) × (a.path ≡ b.path) × (rank_of a.block ≡ rank_of b.block)
