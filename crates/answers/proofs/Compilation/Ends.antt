-- The state in which a run ends.
use Rattle.std.proofs.Common.{◌≡◌, ℕ, ◌≤◌, List, [], length, Result, Ok, Err, refl, sym, ap, subst, ◌∙◌, arith}
use Rattle.std.specs.Prelude.{IfOk}
use Rattle.std.proofs.lemmas.List.{length-map}
use Rattle.chw_base.specs.declared.limits.TheConstants.{MADE_DEFINITIONS}
use Rattle.chw_base.specs.declared.outcome.Or.{Or}
use Rattle.chw_base.specs.declared.outcome.Or.TheVariants.{Memory, Fault}
use Rattle.chw_base.specs.Outcome.{IfFault, OfFault}
use Rattle.chw_terms.specs.declared.program.Program.{Program}
use Rattle.chw_terms.specs.declared.rule.Rule.{Rule}
use Rattle.chw_terms.specs.declared.scene.Made.{Made}
use Rattle.rewriting.specs.Runs.{Run, RunsTo, Step, no_more, step_and as run_and}
use Rattle.rewriting.specs.Steps.{HasNoStep}
use Rattle.norm_lines.specs.Places.{where_of}
use Rattle.norm_lines.specs.declared.place.StepAt.{StepAt}
use Rattle.chw_norm.specs.Laws.{LastStatesAreTyped}
use Rattle.chw_norm.specs.Rules.{built}
use Rattle.chw_norm.specs.Running.{Ends, Runs, ShallowRun, ShallowSteps, no_step, step_and, done, spent, full, deep, no_memory}
use Rattle.chw_norm.specs.declared.running.RunFault.{RunFault}
use Rattle.rule_types.specs.States.{IsTypedState}
use Rattle.chw_terms.specs.Tidy.{IsTidy}
use Rattle.chw_typing.specs.Programs.{IsTyped}
use Rattle.net_flat.specs.Flattened.{IsFlatOf}
use Rattle.normal_form.specs.Entries.{IsEntry}
use Rattle.net_means.specs.Laws.{BuiltNetsMean}
use Rattle.net_means.specs.NetFits.Laws.{RunsBeginWithTop}
use Rattle.net_means.specs.Outputs.{NetMeans}
use Rattle.net_rules.specs.WellFormed.{WellFormed}
use Rattle.netlist.specs.Orders.{IsOrder}
use Rattle.netlist.specs.Sound.{Sound}
use Rattle.netlist.specs.declared.net.Flat.{Flat}
use Rattle.netlist.specs.declared.net.Net.{Net}
use Rattle.answers.specs.Compilation.Compiling.{EndsIn, HasNet, HasSteps, IsCompileFault}
use Rattle.answers.specs.Compilation.Compiling.IsCompileFault.{not_normalised}
use Rattle.answers.specs.declared.compiled.fault.CompileFault.TheVariants as compile

-- a run that leaves no step leads there
pub leads : {rules : List Rule} {p : Program} {budget : ℕ} {steps : List Step} {made : List Made}
    {answer : Result (List Made) (Or RunFault)} → answer ≡ Ok made
    → Ends rules p budget steps answer → ShallowRun rules p steps made × HasNoStep rules p made
leads {rules} {p} {steps = steps} {made = made} is (done {made = there} run ended) =
    let same : there ≡ made = cc in
    (subst (ShallowRun rules p steps) same run, subst (HasNoStep rules p) same ended)
leads is (spent run left all) = absurd cc
leads is (full run within t) = absurd cc
leads is (deep d) = absurd cc
leads is (no_memory run) = absurd cc

-- so many steps lead from one state to another
are_steps : {rules : List Rule} {p : Program} {made made' : List Made} {steps : List Step}
    → ShallowSteps rules p made steps made' → RunsTo rules p (length steps) made steps made'
are_steps no_step = no_more
are_steps (step_and s within rest) = run_and s (are_steps rest)

-- each step leads to no more made definitions than may be held
stay_few : {rules : List Rule} {p : Program} {made made' : List Made} {steps : List Step}
    → length made ≤ MADE_DEFINITIONS → ShallowSteps rules p made steps made'
    → length made' ≤ MADE_DEFINITIONS
stay_few few no_step = few
stay_few few (step_and s within rest) = stay_few within.few rest

-- a run within the limits is one of that many steps
run_of : {rules : List Rule} {p : Program} {steps : List Step} {state : List Made}
    → ShallowRun rules p steps state → Run rules p (length steps) steps state
run_of run = record { opening = run.opening; opens = run.opens; runs = are_steps run.runs }

-- and the state holds no more made definitions than may be held
few_held : {rules : List Rule} {p : Program} {steps : List Step} {state : List Made}
    → ShallowRun rules p steps state → length state ≤ MADE_DEFINITIONS
few_held run =
    let one : length run.opening ≡ 1 = ap length run.opens.2 in
    stay_few (omega (arith, one)) run.runs

-- a net can be built of its last state, if that is normal
pub is_entry : LastStatesAreTyped → RunsBeginWithTop → {rules : List Rule} {p : Program}
    {steps : List Step} {state : List Made}
    → IsTidy p → IsTyped p → ShallowRun rules p steps state → IsEntry p state
is_entry law begin {rules} {p} {steps} {state} tidy typed run =
    record {
      typed = law rules p steps state tidy typed run;
      begins = begin rules p (length steps) steps state (run_of run);
      few = few_held run;
    }

-- the run is one of that many steps
pub is_run : {p : Program} {budget : ℕ} {state : List Made} → (e : EndsIn p budget state)
    → Run built p (length e.steps) e.steps state
is_run e = run_of (leads refl e.ends).0

-- and the state holds no more made definitions than may be held
pub is_few : {p : Program} {budget : ℕ} {state : List Made} → EndsIn p budget state
    → length state ≤ MADE_DEFINITIONS
is_few e = few_held (leads refl e.ends).0

-- it is typed
pub is_typed : LastStatesAreTyped → {p : Program} {budget : ℕ} {state : List Made}
    → IsTidy p → IsTyped p → EndsIn p budget state → IsTypedState p state
is_typed law {p} {state = state} tidy typed e = law built p e.steps state tidy typed (leads refl e.ends).0

-- no step is left
pub is_ended : {p : Program} {budget : ℕ} {state : List Made} → EndsIn p budget state
    → HasNoStep built p state
is_ended e = (leads refl e.ends).1

-- a trace that was empty has a place for each step
traced : {p : Program} {budget : ℕ} {new : List StepAt} {answer : Result (List Made) (Or RunFault)}
    → (r : Runs built p budget [] new answer) → length new ≡ length r.steps
traced r =
    ap length r.trace.traced ∙ sym (length-map r.trace.added where_of) ∙ ap length r.trace.places
    ∙ length-map r.steps (λ (s : Step). s.place)

-- which are no more than the budget
pub trace_within : {p : Program} {budget : ℕ} {old new : List StepAt}
    {answer : Result (List Made) (Or RunFault)} → old ≡ [] → Runs built p budget old new answer
    → length new ≤ budget
trace_within {p} {budget} {new = new} {answer = answer} none run =
    let r = subst (λ old. Runs built p budget old new answer) none run in
    let many = traced r in
    let within = r.within in
    omega (arith, many, within)

-- what a run answers ends in its last state, after as many steps as it traced
pub ends_there : {p : Program} {budget : ℕ} {old new : List StepAt} {state : List Made} → old ≡ []
    → Runs built p budget old new (Ok state) → HasSteps p budget (length new) state
ends_there {p} {budget} {new = new} {state = state} none run =
    let r = subst (λ old. Runs built p budget old new (Ok state)) none run in
    record {
      run = record { steps = r.steps; within = r.within; ends = r.ends };
      as_many = sym (traced r);
    }

-- a run that is refused is why the program can't be compiled
pub run_fails : (p : Program) (budget : ℕ) (old new : List StepAt) (e : Or RunFault) (fault : RunFault)
    → e ≡ Fault fault → Runs built p budget old new (Err e) → IsCompileFault p budget (compile.Run fault)
run_fails p budget old new e fault is r =
    let f = subst (λ (x : Or RunFault). Runs built p budget old new (Err x)) is r in
    not_normalised f.steps fault f.within f.ends

-- the net that is built of the state means what the program means
pub built_means : BuiltNetsMean → {p : Program} {budget : ℕ} {net : Net} {flat : Flat} {places : List ℕ}
    → IsTidy p → IsTyped p → HasNet p budget net → WellFormed net → IsFlatOf net flat → Sound flat
    → IsOrder flat places → NetMeans p flat
built_means law {p} {net = net} {flat = flat} {places = places} tidy typed h good is sound order =
    law built p (length h.run.steps) h.run.steps h.state net flat places tidy typed (is_run h.run)
    h.finished.normal h.finished.acyclic h.is good is sound order

-- what is promised of a fault holds of it
pub of_fault : {E : Type 0} (P : E → Type 0) (r : Or E) (f : E) → r ≡ Fault f → OfFault r P → P f
of_fault P r f e h = subst (λ x. OfFault x P) e h

-- a fault of which one thing holds is one of which what follows from it holds
pub fault_weaker : {T E : Type 0} (r : Result T (Or E)) (P Q : E → Type 0) → ((e : E) → P e → Q e)
    → IfFault r P → IfFault r Q
fault_weaker (Ok x) P Q f h = tt
fault_weaker (Err Memory) P Q f h = tt
fault_weaker (Err (Fault e)) P Q f h = f e h

-- three things that hold of what is answered make another
pub on_ok_three : {T E : Type 0} {P Q R S : T → Type 0} (r : Result T E)
    → ((x : T) → P x → Q x → R x → S x) → IfOk r P → IfOk r Q → IfOk r R → IfOk r S
on_ok_three (Ok x) f p q r = f x p q r
on_ok_three (Err e) f p q r = tt
