-- What `normalise` answers to a description.
use Rattle.std.proofs.Common.{◌≡◌, ◌∙◌, ℕ, List, [], ◌++◌, map, refl, ap, sym, subst, inl, inr}
use Rattle.std.specs.Prelude.{Result, Ok, Err}
use Rattle.chw_cli.specs.Answer.{NormaliseAnswer}
use Rattle.chw_cli.specs.Answer.NormaliseAnswer.{normalised, not_normalised, not_finished}
use Rattle.chw_cli.specs.Descriptions.{HasProgram, IsTypedText}
use Rattle.chw_cli.specs.Exact.{HasNormalRun}
use Rattle.chw_cli.specs.Faults.{refusal_of_run}
use Rattle.chw_cli.specs.Lines.{status_of}
use Rattle.chw_cli.specs.Refusals.{IsRefusalOf, RefusesLast, RefusesNormalise, of_run_fault}
use Rattle.chw_cli.specs.declared.refusal.Refusal.{Refusal}
use Rattle.chw_cli.specs.declared.refusal.Refusal.TheVariants.{State}
use Rattle.chw_cli.specs.declared.status.Status.{Status}
use Rattle.chw_cli.specs.declared.status.Status.TheVariants as status
use Rattle.chw_cli.proofs.OneText.{OneDescription, one_program_of}
use Rattle.chw_base.specs.declared.outcome.Or.{Or}
use Rattle.chw_base.specs.declared.outcome.Or.TheVariants.{Memory, Fault}
use Rattle.chw_grammar.specs.declared.program.Tree.{Tree}
use Rattle.chw_norm.specs.Laws.{NothingRefusesANormalRun, OneLastState}
use Rattle.chw_norm.specs.Running.{Ends, Runs, ShallowRun, done, spent, full, deep, no_memory}
use Rattle.chw_norm.specs.declared.running.RunFault.{RunFault}
use Rattle.chw_norm.specs.declared.running.RunFault.TheVariants.{Depth, Full, Spent}
use Rattle.chw_terms.specs.declared.program.Program.{Program}
use Rattle.chw_terms.specs.declared.scene.Made.{Made}
use Rattle.chw_terms.specs.declared.rule.Rule.{Rule}
use Rattle.data_kinds.specs.Laws.{OneProgram}
use Rattle.judge.specs.Lines.{state_line}
use Rattle.judge.specs.States.{IsBlockedNowhere, IsFinished, RefusesState, place_of}
use Rattle.judge.specs.declared.states.StateFault.{StateFault}
use Rattle.judge.specs.declared.states.StateFault.TheVariants.{Blocked, Uses}
use Rattle.norm_lines.specs.Lines.{normal_lines}
use Rattle.normal_forms.specs.Uses.{IsAcyclic}
use Rattle.rewriting.specs.Runs.{Step}
use Rattle.rewriting.specs.Steps.{HasNoStep}
use Rattle.chw_norm.specs.Rules.{built}
use Rattle.norm_lines.specs.Places.{where_of}
use Rattle.norm_lines.specs.declared.place.StepAt.{StepAt}

-- a state that is blocked nowhere and acyclic isn't refused
free_is_taken : (p : Program) (made : List Made) (fault : StateFault) → IsBlockedNowhere p made
    → IsAcyclic made → RefusesState p made fault → ⊥
free_is_taken p made (Blocked at) free acyclic r = free (place_of at) r.blocked
free_is_taken p made (Uses cycle) free acyclic r = r.2.some acyclic

-- a run that leaves no step leads there
leads : {rules : List Rule} {p : Program} {budget : ℕ} {steps : List Step} {made : List Made}
    {answer : Result (List Made) (Or RunFault)} → answer ≡ Ok made
    → Ends rules p budget steps answer → ShallowRun rules p steps made × HasNoStep rules p made
leads {rules} {p} {steps = steps} {made = made} is (done {made = there} run ended) =
    let same : there ≡ made = cc in
    (subst (ShallowRun rules p steps) same run, subst (HasNoStep rules p) same ended)
leads is (spent run left all) = absurd cc
leads is (full run within t) = absurd cc
leads is (deep d) = absurd cc
leads is (no_memory run) = absurd cc

-- a description whose run leaves no step, within the budget and the limit of depth, and leads to a
-- state that is blocked nowhere and acyclic, isn't refused
pub normal_is_answered : OneDescription → OneProgram → NothingRefusesANormalRun → OneLastState → (budget : ℕ) (text : List ℕ) (tree : Tree) (r : Refusal)
    → IsTypedText text tree → HasNormalRun budget text → NormaliseAnswer tree budget (Err r) → ⊥
normal_is_answered same alone law last budget text tree r d h a = only refl a
  where
    only : {answer : Result (List ℕ) Refusal} → answer ≡ Err r → NormaliseAnswer tree budget answer → ⊥
    only e (normalised p steps made is few ends good) = absurd (cc)
    only e (not_finished p steps made fault is few ends wrong) =
        let is' : HasProgram tree h.program = subst (λ (t : Tree). HasProgram t h.program) (same text h.tree tree h.description d.description) h.is in
        let one = one_program_of alone tree h.program p is' is in
        let there = leads refl ends in
        let state : h.made ≡ made = last built p h.steps steps h.made made
        (subst (λ q. ShallowRun built q h.steps h.made) one h.run) (subst (λ q. HasNoStep built q h.made) one h.ended) there.0 there.1 in
        free_is_taken p made fault
        (subst (IsBlockedNowhere p) state (subst (λ q. IsBlockedNowhere q h.made) one h.free))
        (subst IsAcyclic state h.acyclic) wrong
    only e (not_normalised p steps fault is few ends) =
        let is' : HasProgram tree h.program = subst (λ (t : Tree). HasProgram t h.program) (same text h.tree tree h.description d.description) h.is in
        let one = one_program_of alone tree h.program p is' is in
        law built p budget h.steps steps h.made fault (subst (λ q. ShallowRun built q h.steps h.made) one h.run)
        (subst (λ q. HasNoStep built q h.made) one h.ended) h.within ends

pub run_status : (P : Status → Type 0) → P status.Refused → P status.Spent → (fault : RunFault) → P (status_of (refusal_of_run fault))
run_status P refused over Depth = refused
run_status P refused over Full = refused
run_status P refused over (Spent n) = over

-- and what it refuses by has one of two statuses
pub normal_status : (P : Status → Type 0) → P status.Refused → P status.Spent → (tree : Tree) (budget : ℕ) (r : Refusal)
    → NormaliseAnswer tree budget (Err r) → P (status_of r)
normal_status P refused over tree budget r a = only refl a
  where
    only : {answer : Result (List ℕ) Refusal} → answer ≡ Err r → NormaliseAnswer tree budget answer → P (status_of r)
    only e (normalised p steps made is few ends good) = absurd (cc)
    only e (not_finished p steps made fault is few ends wrong) =
        let same : State (state_line p fault) ≡ r = cc in subst (λ q. P (status_of q)) same refused
    only e (not_normalised p steps fault is few ends) =
        let same : refusal_of_run fault ≡ r = cc in subst (λ q. P (status_of q)) same (run_status P refused over fault)

-- a run that is refused refuses the description
pub run_refuses : (tree : Tree) (p q : Program) (budget : ℕ) (old new : List StepAt) (e : Or RunFault)
    → HasProgram tree p → q ≡ p → Runs built q budget old new (Err e) → RefusesNormalise tree budget (of_run_fault e)
run_refuses tree p q budget old new Memory has is r = inl refl
run_refuses tree p q budget old new (Fault f) has is r =
    inr (not_normalised q r.steps f (subst (HasProgram tree) (sym is) has) r.within r.ends)

-- the refusal of a state that is at fault refuses it
pub refusal_refuses : (p : Program) (made : List Made) (fault : StateFault) (r : Refusal)
    → RefusesState p made fault → IsRefusalOf p fault r → RefusesLast p made r
refusal_refuses p made fault r h (inl short) = inl short
refusal_refuses p made fault r h (inr is) = inr (fault, h, is)

-- a last state that is refused refuses it too
pub last_refuses : (tree : Tree) (p q : Program) (budget : ℕ) (old new : List StepAt) (made given : List Made) (r : Refusal)
    → HasProgram tree p → q ≡ p → Runs built q budget old new (Ok made) → given ≡ made → RefusesLast q given r
    → RefusesNormalise tree budget r
last_refuses tree p q budget old new made given r has is run same (inl short) = inl short
last_refuses tree p q budget old new made given r has is run same (inr h) =
    inr (subst (λ x. NormaliseAnswer tree budget (Err x)) (sym h.2)
    (not_finished q run.steps made h.0 (subst (HasProgram tree) (sym is) has) run.within run.ends
    (subst (λ ms. RefusesState q ms h.0) same h.1)))

-- a run that leaves no step leads there
pub run_leads : (q : Program) (budget : ℕ) (old new : List StepAt) (made given : List Made)
    → Runs built q budget old new (Ok made) → given ≡ made
    → ((steps : List Step) × ShallowRun built q steps given) × HasNoStep built q given
run_leads q budget old new made given r same =
    let there = leads refl r.ends in
    subst (λ ms. ((steps : List Step) × ShallowRun built q steps ms) × HasNoStep built q ms) (sym same)
    ((r.steps, there.0), there.1)

-- the lines of one that leaves no step are the answer
pub run_lines : (tree : Tree) (p q : Program) (budget : ℕ) (old new : List StepAt) (made : List Made) (bytes : List ℕ)
    → HasProgram tree p → q ≡ p → old ≡ [] → Runs built q budget old new (Ok made) → IsFinished q made
    → bytes ≡ normal_lines (map where_of new) made → NormaliseAnswer tree budget (Ok bytes)
run_lines tree p q budget old new made bytes has is none r good text =
    let first = subst (λ (o : List StepAt). Runs built q budget o new (Ok made)) none r in
    let places : map (λ (s : Step). s.place) first.steps ≡ map where_of new =
    sym first.trace.places ∙ ap (map where_of) (sym first.trace.traced) in
    subst (λ b. NormaliseAnswer tree budget (Ok b)) (ap (λ ws. normal_lines ws made) places ∙ sym text)
    (normalised q first.steps made (subst (HasProgram tree) (sym is) has) first.within first.ends good)

-- the lines that were put are those of the run
pub lines_put : (out bytes : List ℕ) (trace new : List StepAt) (given made : List Made) → out ≡ [] → trace ≡ new → given ≡ made
    → bytes ≡ out ++ normal_lines (map where_of trace) given → bytes ≡ normal_lines (map where_of new) made
lines_put out bytes trace new given made none same all is = is ∙ (λ i. none i ++ normal_lines (map where_of (same i)) (all i))
