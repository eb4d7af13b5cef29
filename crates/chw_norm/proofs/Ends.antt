-- A run from its opening on, and how it ends.
use Rattle.std.proofs.Common.{◌≡◌, ℕ, ◌+◌, ◌<◌, ◌≤◌, refl, sym, subst, ◌∙◌, arith, List, [], ◌∷◌}
use Rattle.std.proofs.Common.{◌++◌, length, Option, Some, None}
use Rattle.std.specs.Prelude.{Ok, Err}
use Rattle.std.proofs.lemmas.List.{append-nil, length-append}
use Rattle.chw_base.specs.declared.limits.TheConstants.{MADE_DEFINITIONS}
use Rattle.chw_base.specs.declared.outcome.Or.{Or}
use Rattle.chw_base.specs.declared.outcome.Or.TheVariants.{Memory, Fault}
use Rattle.chw_terms.specs.declared.program.Program.{Program}
use Rattle.chw_terms.specs.declared.scene.Made.{Made}
use Rattle.chw_terms.specs.TermTree.{TermTree}
use Rattle.chw_typing.specs.Programs.{IsTyped}
use Rattle.rewriting.specs.Runs.{IsOpening, opened, Step, StepsTo, top_of}
use Rattle.rewriting.specs.Steps.{HasNoStep, IsFirst, Where}
use Rattle.trials.specs.Trials.{built}
use Rattle.step_search.specs.FoundSteps.{FindsNext, IsNext}
use Rattle.step_search.specs.declared.place.Found.{Found}
use Rattle.norm_lines.specs.declared.place.StepAt.{StepAt}
use Rattle.chw_norm.specs.Running.{FillsTable, HasDeep, IsLeft, IsWithinLimits, no_step, Runs}
use Rattle.chw_norm.specs.Running.{ShallowRun, Traces, done, spent, full, deep, no_memory}
use Rattle.chw_norm.specs.Underway.{Advances, IsUnderway, IsBetweenSteps, step_of, StepEnds}
use Rattle.chw_norm.specs.declared.progress.Progress.{Progress}
use Rattle.chw_norm.specs.declared.running.RunFault.{RunFault}
use Rattle.chw_norm.specs.declared.running.RunFault.TheVariants.{Depth, Full, Spent}
use Rattle.chw_norm.proofs.Steps.{step_behind, traced_behind}

-- no step is traced yet
traced_none : (old : List StepAt) → Traces old old []
traced_none old = record { added = []; traced = sym (append-nil old); places = refl }

-- a run that begins
pub begins : (p : Program) (old : List StepAt) (r : Progress) → r.program.now ≡ p
    → IsOpening p r.made → IsBetweenSteps r → IsUnderway p old old 0 r
begins p old r is opens between = record {
  program = is;
  steps = [];
  trace = traced_none old;
  all = refl;
  run = record { opening = r.made; opens = opens; runs = no_step };
  between = between;
}

-- a step more
step_led : {p : Program} {old trace new : List StepAt} {count : ℕ} {r r' : Progress} {f : Found}
    → IsUnderway p old trace count r → (m : Advances f trace new r r')
    → StepsTo built p r.made (step_of f m.put) r'.made
step_led {r = r} {r' = r'} {f = f} u m =
    subst (λ q. StepsTo built q r.made (step_of f m.put) r'.made) u.program m.leads

run_behind : {p : Program} {steps : List Step} {made made' : List Made} {s : Step}
    → ShallowRun built p steps made → StepsTo built p made s made' → IsWithinLimits made'
    → ShallowRun built p (steps ++ s ∷ []) made'
run_behind run step within =
    record { opening = run.opening; opens = run.opens; runs = step_behind run.runs step within }

one_more : (steps : List Step) (s : Step) (count : ℕ) → length steps ≡ count
    → length (steps ++ s ∷ []) ≡ count + 1
one_more steps s count is = omega (arith, length-append steps (s ∷ []), is)

pub goes_on : (p : Program) (old trace new : List StepAt) (count : ℕ) (r r' : Progress) (f : Found)
    → IsUnderway p old trace count r → Advances f trace new r r' → IsWithinLimits r'.made
    → IsBetweenSteps r' → IsUnderway p old new (count + 1) r'
goes_on p old trace new count r r' f u m within between = record {
  program = m.program ∙ u.program;
  steps = u.steps ++ step_of f m.put ∷ [];
  trace = traced_behind old trace new u.steps f m.put u.trace m.traced;
  all = one_more u.steps (step_of f m.put) count u.all;
  run = run_behind u.run (step_led u m) within;
  between = between;
}

-- the ends of a run
pub ends_done : (p : Program) (budget : ℕ) (old new : List StepAt) (count : ℕ) (r : Progress)
    → IsUnderway p old new count r → count ≤ budget → HasNoStep built r.program.now r.made
    → Runs built p budget old new (Ok r.made)
ends_done p budget old new count r u within none = record {
  steps = u.steps;
  trace = u.trace;
  within = omega (arith, u.all, within);
  ends = done u.run (subst (λ q. HasNoStep built q r.made) u.program none);
}

pub ends_spent :
    (p : Program) (budget : ℕ) (old new : List StepAt) (r : Progress) (w : Where) (e : TermTree)
    → IsUnderway p old new budget r → IsFirst built r.program.now r.made w e
    → Runs built p budget old new (Err (Fault (Spent budget)))
ends_spent p budget old new r w e u first = record {
  steps = u.steps;
  trace = u.trace;
  within = omega (arith, u.all);
  ends = spent u.run (subst (λ q. IsLeft built q r.made) u.program
      (record { place = w; new = e; step = first.step })) u.all;
}

pub ends_deep :
    (p : Program) (budget : ℕ) (old trace new : List StepAt) (count : ℕ) (r r' : Progress)
    (f : Found)
    → IsUnderway p old trace count r → count < budget → Advances f trace new r r'
    → length r'.made ≤ MADE_DEFINITIONS → HasDeep r'.made
    → Runs built p budget old new (Err (Fault Depth))
ends_deep p budget old trace new count r r' f u within m few h = record {
  steps = u.steps ++ step_of f m.put ∷ [];
  trace = traced_behind old trace new u.steps f m.put u.trace m.traced;
  within = omega (arith, one_more u.steps (step_of f m.put) count u.all, within);
  ends = deep (record {
    before = u.steps;
    last = step_of f m.put;
    are = refl;
    shallow = r.made;
    run = u.run;
    made = r'.made;
    leads = step_led u m;
    few = few;
    deep = h;
  });
}

-- there is no room for what the next step adds
pub ends_full : (p : Program) (budget : ℕ) (old new : List StepAt) (count : ℕ) (r : Progress)
    → IsUnderway p old new count r → count < budget → FillsTable built r.program.now r.made
    → Runs built p budget old new (Err (Fault Full))
ends_full p budget old new count r u within h = record {
  steps = u.steps;
  trace = u.trace;
  within = omega (arith, u.all, within);
  ends = full u.run (omega (arith, u.all, within))
      (subst (λ q. FillsTable built q r.made) u.program h);
}

pub ends_unready : (p : Program) (budget : ℕ) (old new : List StepAt) (count : ℕ) (r : Progress)
    → IsUnderway p old new count r → count ≤ budget → Runs built p budget old new (Err Memory)
ends_unready p budget old new count r u within = record {
  steps = u.steps;
  trace = u.trace;
  within = omega (arith, u.all, within);
  ends = no_memory u.run;
}

-- a run that never began
pub ends_at_once : (p : Program) (budget : ℕ) (old : List StepAt) → IsTyped p
    → Runs built p budget old old (Err Memory)
ends_at_once p budget old typed =
    let top = typed.top in
    let made : List Made = opened p (top_of p.top.«def».number top.0) ∷ [] in
    record {
      steps = [];
      trace = traced_none old;
      within = omega arith;
      ends = no_memory {made = made}
          (record { opening = made; opens = (top.0, top.1, refl); runs = no_step });
    }

-- a step that was refused, or for which memory was wanting
pub ends_refused :
    (p : Program) (budget : ℕ) (old trace new : List StepAt) (count : ℕ) (r r' : Progress)
    (f : Found)
    → IsUnderway p old trace count r → count < budget → (x : Or RunFault)
    → StepEnds f trace new r r' (Err x) → Runs built p budget old new (Err x)
ends_refused p budget old trace new count r r' f u within (Fault Depth) h =
    ends_deep p budget old trace new count r r' f u within h.0 h.1 h.2
ends_refused p budget old trace new count r r' f u within (Fault Full) h =
    subst (λ t. Runs built p budget old t (Err (Fault Full))) (sym h.0)
    (ends_full p budget old trace count r u within h.1)
ends_refused p budget old trace new count r r' f u within (Fault (Spent n)) h = absurd h
ends_refused p budget old trace new count r r' f u within Memory h =
    subst (λ t. Runs built p budget old t (Err Memory)) (sym h)
    (ends_unready p budget old trace count r u (omega arith))

-- what the search for the first step found
pub none_found : (p : Program) (made : List Made) (answer : Option Found)
    → FindsNext built p made answer → answer ≡ None → HasNoStep built p made
none_found p made answer h is = subst (FindsNext built p made) is h

pub first_found : (p : Program) (made : List Made) (answer : Option Found) (f : Found)
    → FindsNext built p made answer → answer ≡ Some f → IsNext built p made f
first_found p made answer f h is = subst (FindsNext built p made) is h
