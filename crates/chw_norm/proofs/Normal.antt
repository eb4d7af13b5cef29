-- A run to a state without a step goes as far as any other.
use Rattle.std.proofs.Common.{◌≡◌, ℕ, ◌+◌, ◌≤◌, refl, sym, ap, subst, ◌∙◌, arith, List}
use Rattle.std.proofs.Common.{[], ◌∷◌, length}
use Rattle.std.proofs.lemmas.Option.{same_Some}
use Rattle.std.specs.Prelude.{Result, Err}
use Rattle.chw_base.specs.declared.outcome.Or.{Or}
use Rattle.chw_base.specs.declared.outcome.Or.TheVariants.{Fault}
use Rattle.chw_terms.specs.declared.program.Def.{Def}
use Rattle.chw_terms.specs.declared.program.Program.{Program}
use Rattle.chw_terms.specs.declared.rule.Rule.{Rule}
use Rattle.chw_terms.specs.declared.scene.Made.{Made}
use Rattle.rewriting.specs.RuleLaws.{OneState}
use Rattle.rewriting.specs.Runs.{IsOpening, opened, Step, StepsTo, top_of}
use Rattle.rewriting.specs.Steps.{HasNoStep}
use Rattle.chw_norm.specs.Running.{AreShallow, FillsTable, HasDeep, IsLeft}
use Rattle.chw_norm.specs.Running.{ShallowRun, ShallowSteps, no_step, step_and, Ends, done, spent}
use Rattle.chw_norm.specs.Running.{full, deep, no_memory}
use Rattle.chw_norm.specs.declared.running.RunFault.{RunFault}

-- from this state on so many of the steps are left
pub record Rest (rules : List Rule) (p : Program) (from made : List Made) (so_far all : ℕ)
    : Type 0 where
  pub steps : List Step
  pub leads : ShallowSteps rules p from steps made
  pub counted : so_far + length steps ≡ all

-- steps to a state without a step pass each state that other steps pass
rest_of : {rules : List Rule} {p : Program} {from from' made made' : List Made}
    {steps others : List Step} → OneState → HasNoStep rules p made
    → ShallowSteps rules p from steps made → ShallowSteps rules p from' others made' → from ≡ from'
    → Rest rules p made' made (length others) (length steps)
rest_of {rules} {p} law none no_step (no_step {made = made'}) same = record {
  steps = [];
  leads = subst (λ xs. ShallowSteps rules p made' [] xs) (sym same) no_step;
  counted = refl;
}
rest_of {rules} {p} law none no_step (step_and {s = s} first h rest) same =
    absurd (subst (HasNoStep rules p) same none s.place s.new first.is_first.step)
rest_of {rules} {p} {made = made} law none (step_and {s = s} {steps = steps} first h more) no_step
    same = record {
      steps = s ∷ steps;
      leads = subst (λ xs. ShallowSteps rules p xs (s ∷ steps) made) same (step_and first h more);
      counted = omega arith;
    }
rest_of {rules} {p} law none (step_and {made = from} {made' = to} {s = s} first h more)
    (step_and {made' = to'} {s = s'} first' h' rest) same =
    let one = law rules p from to to' s s' first (subst (λ xs. StepsTo rules p xs s' to') (sym same)
    first') in
    let r = rest_of law none more rest one.1 in
    record { steps = r.steps; leads = r.leads; counted = omega (arith, r.counted) }

-- a program opens with one state
one_opening : (p : Program) {xs ys : List Made} → IsOpening p xs → IsOpening p ys → xs ≡ ys
one_opening p h g =
    let item : h.0 ≡ g.0 = same_Some h.0 g.0 (sym h.1 ∙ g.1) in
    h.2 ∙ ap (λ (it : Def). opened p (top_of p.top.«def».number it) ∷ []) item ∙ sym g.2

pub rest_of_run : {rules : List Rule} {p : Program} {made made' : List Made} {steps others : List Step}
    → OneState → HasNoStep rules p made → ShallowRun rules p steps made
    → ShallowRun rules p others made' → Rest rules p made' made (length others) (length steps)
rest_of_run {p = p} law none run other =
    rest_of law none run.runs other.runs (one_opening p run.opens other.opens)

-- where no step is left to make, none is left
none_spent : {rules : List Rule} {p : Program} {from made : List Made} {steps : List Step}
    → ShallowSteps rules p from steps made → length steps ≡ 0 → HasNoStep rules p made
    → IsLeft rules p from → ⊥
none_spent no_step few none left = none left.place left.new left.step
none_spent (step_and first h more) few none left = absurd (omega arith)

-- no body is over the limit
not_deep : (made : List Made) → AreShallow made → HasDeep made → ⊥
not_deep made shallow d = omega (arith, shallow d.number d.it d.is, d.deep)

none_too_deep : {rules : List Rule} {p : Program} {from made to : List Made} {steps : List Step}
    {s : Step} → OneState → HasNoStep rules p made → ShallowSteps rules p from steps made
    → StepsTo rules p from s to → HasDeep to → ⊥
none_too_deep {s = s} law none no_step last d = none s.place s.new last.is_first.step
none_too_deep {rules} {p} {to = to} {s = s} law none
    (step_and {made = from} {made' = next} {s = first} leads h more) last d =
    let one = law rules p from next to first s leads last in
    not_deep to (subst AreShallow one.1 h.shallow) d

-- nor is there ever want of room
never_full : {rules : List Rule} {p : Program} {from made : List Made} {steps : List Step}
    → OneState → HasNoStep rules p made → ShallowSteps rules p from steps made
    → FillsTable rules p from → ⊥
never_full law none no_step t = none t.step.place t.step.new t.leads.is_first.step
never_full {rules} {p} law none (step_and {made = from} {made' = next} {s = first} leads h more) t =
    let one = law rules p from next t.next first t.step leads t.leads in
    let same : length next ≡ length t.next = ap length one.1 in
    omega (arith, t.many, h.few, same)

pub none_refused : {rules : List Rule} {p : Program} {budget : ℕ} {made : List Made}
    {steps others : List Step} {answer : Result (List Made) (Or RunFault)} (fault : RunFault)
    → OneState → ShallowRun rules p steps made → HasNoStep rules p made → length steps ≤ budget
    → answer ≡ Err (Fault fault) → Ends rules p budget others answer → ⊥
none_refused fault law run none few is (done other ended) = absurd cc
none_refused fault law run none few is (spent other left all) =
    let r = rest_of_run law none run other in
    none_spent r.leads (omega (arith, r.counted)) none left
none_refused fault law run none few is (full other within t) =
    let r = rest_of_run law none run other in never_full law none r.leads t
none_refused fault law run none few is (deep d) =
    let r = rest_of_run law none run d.run in none_too_deep law none r.leads d.leads d.deep
none_refused fault law run none few is (no_memory other) = absurd cc
