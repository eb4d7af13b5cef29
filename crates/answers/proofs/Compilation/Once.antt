-- A program is compiled to one net at most. Nothing refuses one whose run ends in a small state.
use Rattle.std.proofs.Common.{◌≡◌, ℕ, zero, suc, ◌≤◌, ◌<◌, List, [], ◌∷◌, length, refl, ap, subst, arith}
use Rattle.chw_base.specs.declared.limits.TheConstants.{FLAT_WIRES}
use Rattle.chw_terms.specs.declared.program.Program.{Program}
use Rattle.chw_terms.specs.declared.scene.Made.{Made}
use Rattle.chw_norm.specs.Laws.{NothingRefusesANormalRun, OneLastState}
use Rattle.chw_norm.specs.Rules.{built}
use Rattle.chw_norm.specs.Running.{IsLeft, ShallowSteps, no_step, step_and, spent}
use Rattle.chw_norm.specs.declared.running.RunFault.TheVariants.{Spent}
use Rattle.judge.specs.States.{IsBlockedNowhere, RefusesState, place_of}
use Rattle.judge.specs.declared.states.StateFault.{StateFault}
use Rattle.judge.specs.declared.states.StateFault.TheVariants.{Blocked, Uses}
use Rattle.net_built.specs.Built.{Built}
use Rattle.net_built.specs.Laws.{OneNetBuilt}
use Rattle.net_flat.specs.Flattened.{IsFlatOf, widths_in}
use Rattle.netlist.specs.Orders.{HasNoLoop}
use Rattle.netlist.specs.declared.net.Flat.{Flat}
use Rattle.netlist.specs.declared.net.Net.{Net}
use Rattle.normal_forms.specs.Uses.{IsAcyclic}
use Rattle.rewriting.specs.Runs.{Step}
use Rattle.answers.specs.Compilation.Compiling.{EndsIn, HasManyWires, HasNet, IsNetFault, IsSmall}
use Rattle.answers.specs.Compilation.Compiling.IsCompileFault.{not_normalised, not_finished, no_circuit}
use Rattle.answers.specs.Compilation.Compiling.IsNetFault.{too_large, loops}
use Rattle.answers.specs.Compilation.Laws.{CompiledEndsSmall, NothingRefusesACompile, OneCompiled, OneCount}
use Rattle.answers.specs.declared.compiled.fault.CompileFault.{CompileFault}
use Rattle.answers.proofs.Compilation.Ends.{leads}

-- a net has one flat net
abbrev pub OneFlat : Type 0
OneFlat = (net : Net) (a b : Flat) → IsFlatOf net a → IsFlatOf net b → a ≡ b

-- runs of one program end in one state
same_state : OneLastState → (p : Program) (budget other : ℕ) (a b : List Made)
    → EndsIn p budget a → EndsIn p other b → a ≡ b
same_state one p budget other a b x y =
    let left = leads refl x.ends in
    let right = leads refl y.ends in
    one built p x.steps y.steps a b left.0 left.1 right.0 right.1

-- two numbers of which neither is less than the other
as_few_as : {a b : ℕ} → (b < a → ⊥) → (a < b → ⊥) → a ≡ b
as_few_as {a} {b} not_more not_less = grind (arith, not_more, not_less)

-- so many of the steps lead to a state in which one is left
record StopsAfter (p : Program) (from : List Made) (count : ℕ) : Type 0 where
  pub steps : List Step
  pub made : List Made
  pub leads : ShallowSteps built p from steps made
  pub as_many : length steps ≡ count
  pub left : IsLeft built p made

stops_after : {p : Program} {from made : List Made} {steps : List Step} (count : ℕ)
    → ShallowSteps built p from steps made → count < length steps → StopsAfter p from count
stops_after count no_step below = absurd (omega (arith, below))
stops_after {from = from} zero (step_and {s = s} first within rest) below = record {
  steps = [];
  made = from;
  leads = no_step;
  as_many = refl;
  left = record { place = s.place; new = s.new; step = first.is_first.step };
}
stops_after (suc count) (step_and {s = s} first within rest) below =
    let r = stops_after count rest (omega (arith, below)) in
    let many = r.as_many in
    record {
      steps = s ∷ r.steps;
      made = r.made;
      leads = step_and first within r.leads;
      as_many = omega (arith, many);
      left = r.left;
    }

-- no run that ends has fewer steps than another
not_fewer : NothingRefusesANormalRun → (p : Program) (budget other : ℕ) (a b : List Made)
    → (x : EndsIn p budget a) (y : EndsIn p other b) → length y.steps < length x.steps → ⊥
not_fewer law p budget other a b x y below =
    let left = (leads refl x.ends).0 in
    let right = leads refl y.ends in
    let count = length y.steps in
    let s = stops_after count left.runs below in
    law built p count y.steps s.steps b (Spent count) right.0 right.1 (omega arith)
    (spent (record { opening = left.opening; opens = left.opens; runs = s.leads }) s.left s.as_many)

pub one_count : NothingRefusesANormalRun → OneLastState → OneCount
one_count law one p budget other steps steps' definitions definitions' x y =
    let run = x.has_steps.run in
    let run' = y.has_steps.run in
    let same_steps : length run.steps ≡ length run'.steps =
    as_few_as (not_fewer law p budget other x.state y.state run run')
    (not_fewer law p other budget y.state x.state run' run) in
    let same_state = ap length (same_state one p budget other x.state y.state run run') in
    let many = x.has_steps.as_many in
    let many' = y.has_steps.as_many in
    let counted = x.as_many in
    let counted' = y.as_many in
    (omega (arith, same_steps, many, many'), omega (arith, same_state, counted, counted'))

-- of which one net is built
same_net : OneLastState → OneNetBuilt → (p : Program) (budget other : ℕ) (a b : Net)
    → HasNet p budget a → HasNet p other b → a ≡ b
same_net one once p budget other a b x y =
    once p x.state a b x.finished.normal x.is
    (subst (λ s. Built p s b) (same_state one p other budget y.state x.state y.run x.run) y.is)

pub one_compiled : OneLastState → OneNetBuilt → OneFlat → OneCompiled
one_compiled one once flat_once p budget other a b f g x y =
    let same = same_net one once p budget other a b x.net_is y.net_is in
    (same, flat_once b f g (subst (λ n. IsFlatOf n f) same x.circuit.is) y.circuit.is)

-- a state that is blocked nowhere and acyclic isn't refused
free_is_taken : (p : Program) (made : List Made) (fault : StateFault) → IsBlockedNowhere p made
    → IsAcyclic made → RefusesState p made fault → ⊥
free_is_taken p made (Blocked at) free acyclic r = free (place_of at) r.blocked
free_is_taken p made (Uses cycle) free acyclic r = r.2.some acyclic

-- a flat net with few wires is that of no net with many
few_or_many : (net : Net) (flat : Flat) → IsFlatOf net flat → length flat.widths ≤ FLAT_WIRES
    → HasManyWires net → ⊥
few_or_many net flat is few (top, last, many) =
    let its_last = is.top.last in
    let same : top ≡ is.place = omega (arith, last, its_last) in
    let over : FLAT_WIRES < length (widths_in net is.place) =
    subst (λ i. FLAT_WIRES < length (widths_in net i)) same many in
    let wires = ap length is.widths in
    absurd (omega (arith, over, wires, few))

-- of a program that is compiled to some net the state is small: all nets that are built of it are
-- this one
pub compiled_ends_small : OneNetBuilt → OneFlat → CompiledEndsSmall
compiled_ends_small once one p budget net flat x = record {
  state = h.state;
  run = h.run;
  free = h.finished.free;
  acyclic = h.finished.acyclic;
  small = record {
    few = λ other built many.
        few_or_many net flat x.circuit.is x.circuit.few (subst HasManyWires (same other built) many);
    no_loop = λ other flat' built is.
        subst HasNoLoop
        (one net flat flat' x.circuit.is (subst (λ n. IsFlatOf n flat') (same other built) is))
        x.circuit.no_loop;
  };
}
  where
    h : HasNet p budget net
    h = x.net_is

    same : (other : Net) → Built p h.state other → other ≡ net
    same other built = once p h.state other net h.finished.normal built h.is

-- a net that is built of a small state isn't refused
no_net_fault : (p : Program) (state : List Made) (net : Net) (fault : CompileFault)
    → IsSmall p state → Built p state net → IsNetFault net fault → ⊥
no_net_fault p state net _ small built (too_large many) = small.few net built many
no_net_fault p state net _ small built (loops flat cycle is few l) =
    small.no_loop net flat built is cycle l

pub nothing_refuses : NothingRefusesANormalRun → OneLastState → NothingRefusesACompile
nothing_refuses law one p budget _ x (not_normalised steps fault within ends) =
    let there = leads refl x.run.ends in
    law built p budget x.run.steps steps x.state fault there.0 there.1 x.run.within ends
nothing_refuses law one p budget _ x (not_finished state fault run wrong) =
    free_is_taken p x.state fault x.free x.acyclic
    (subst (λ s. RefusesState p s fault) (same_state one p budget budget state x.state run x.run)
    wrong)
nothing_refuses law one p budget _ x (no_circuit net fault has wrong) =
    no_net_fault p x.state net fault x.small
    (subst (λ s. Built p s net) (same_state one p budget budget has.state x.state has.run x.run)
    has.is) wrong
