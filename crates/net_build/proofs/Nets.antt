-- The modules of a net, one after the other.
use Rattle.std.proofs.Common.{◌≡◌, ◌∙◌, sym, ap, subst, ℕ, ◌+◌, ◌<◌, ◌≤◌, arith, List, [], ◌∷◌, ◌++◌, drop, length, append_assoc, append-nil, Some}
use Rattle.std.specs.List.{slice_get, slice_index}
use Rattle.std.proofs.lemmas.List.{drop_all}
use Rattle.std.proofs.lemmas.Option.{slice_get_within, get_or_from_slice_get, slice_get-get_or}
use Rattle.chw_terms.specs.declared.program.Program.{Program}
use Rattle.chw_terms.specs.declared.scene.Made.{Made}
use Rattle.chw_meaning.specs.Means.{HasPorts}
use Rattle.netlist.proofs.Places.{all_at}
use Rattle.netlist.specs.declared.net.Module.{Module}
use Rattle.netlist.specs.declared.net.Net.{Net}
use Rattle.net_built.specs.Built.{Built}
use Rattle.net_built.specs.Circuits.{Ground}
use Rattle.net_built.specs.Modules.{AreModules}
use Rattle.value_build.proofs.Operands.{left_of}
use Rattle.net_build.specs.Marks.{AreBelow}
use Rattle.net_build.specs.Nets.{IsGround, IsModuleAt}

-- what is so of a program and a state is so of the same ones
pub of_same : (P : Program → List Made → Type 0) (p q : Program) (ms ns : List Made) → q ≡ p → ns ≡ ms → P p ms → P q ns
of_same P p q ms ns is are h = subst (λ (r : Program). P r ns) (sym is) (subst (λ (ks : List Made). P p ks) (sym are) h)

-- the made definition at a place of the order, which is there
pub at_place : (count place : ℕ) (order given : List ℕ) → given ≡ order → place < length order → AreBelow count order
    → (slice_get order place ≡ Some (slice_index given place)) × (slice_index given place < count)
at_place count place order given same l below =
    let at : slice_get order place ≡ Some (slice_index given place) =
    ap (λ ms. slice_get ms place) (sym same) ∙ slice_get-get_or given place 0 (omega (arith, l, ap length same)) in
    (at, all_at (λ k. k < count) order place (slice_index given place) below at)

-- the modules so far: with those that are left, they are all
abbrev pub ModulesSoFar : Ground → List Made → ℕ → List Module → Type 0
ModulesSoFar ground state i modules =
    (more : List Module) → AreModules ground state (drop i ground.order) more → AreModules ground state ground.order (modules ++ more)

pub modules_grown : (ground : Ground) (state : List Made) (i : ℕ) (built : Module) (before later : List Module)
    → IsModuleAt ground state i built → later ≡ before ++ built ∷ []
    → ModulesSoFar ground state i before → ModulesSoFar ground state (i + 1) later
modules_grown ground state i built before later at grown so more rest =
    let within : i < length ground.order = slice_get_within ground.order i at.m at.at in
    let left : drop i ground.order ≡ at.m ∷ drop (i + 1) ground.order =
    left_of ground.order i at.m within (sym (get_or_from_slice_get ground.order i at.m at.m at.at)) in
    let all = subst (λ ms. AreModules ground state ms (built ∷ more)) (sym left) ((at.it, at.is, at.is_module), rest) in
    subst (AreModules ground state ground.order) (sym (append_assoc before (built ∷ []) more) ∙ ap (λ ms. ms ++ more) (sym grown)) (so (built ∷ more) all)

pub modules_whole : (ground : Ground) (state : List Made) (i : ℕ) (modules : List Module) → length ground.order ≤ i
    → ModulesSoFar ground state i modules → AreModules ground state ground.order modules
modules_whole ground state i modules l so =
    subst (AreModules ground state ground.order) (append-nil modules)
    (so [] (subst (λ ms. AreModules ground state ms []) (sym (drop_all i ground.order l)) tt))

-- the net
pub net_made : (p : Program) (state : List Made) (ground : Ground) (net : Net)
    → IsGround p.datas state ground → HasPorts p net.ports → AreModules ground state ground.order net.modules → Built p state net
net_made p state ground net is ports are = record {
  ports = ports;
  order = ground.order;
  is_order = is.is_order;
  modules = subst (λ ds. AreModules (record { datas = ds; order = ground.order }) state ground.order net.modules) is.datas_are are;
}
