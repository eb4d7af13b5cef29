-- A step of a run, and a run with one step more.
use Rattle.std.proofs.Common.{◌≡◌, ℕ, ◌+◌, refl, sym, ap, ◌∙◌, arith, List, [], ◌∷◌, ◌++◌}
use Rattle.std.proofs.Common.{length, set, Some}
use Rattle.std.proofs.lemmas.List.{append_assoc, length_push, map-append}
use Rattle.std.proofs.lemmas.Option.{same_Some}
use Rattle.std.specs.List.{slice_get}
use Rattle.chw_base.specs.declared.limits.TheConstants.{MADE_DEFINITIONS}
use Rattle.chw_terms.specs.declared.program.Program.{Program}
use Rattle.chw_terms.specs.declared.rule.Rule.{Rule}
use Rattle.chw_terms.specs.declared.scene.Made.{Made}
use Rattle.chw_terms.specs.TermTree.{TermTree}
use Rattle.chw_typing.specs.Paths.{with_part}
use Rattle.rewriting.specs.Runs.{Step, StepsTo}
use Rattle.rewriting.specs.Steps.{Where}
use Rattle.trials.specs.Trials.{built, with_new}
use Rattle.step_search.specs.FoundSteps.{IsNext}
use Rattle.norm_lines.specs.Places.{where_of}
use Rattle.step_search.specs.declared.place.Found.{Found}
use Rattle.norm_lines.specs.declared.place.StepAt.{StepAt}
use Rattle.chw_norm.specs.Running.{FillsTable, IsWithinLimits, ShallowSteps, no_step, step_and}
use Rattle.chw_norm.specs.Running.{Traces}
use Rattle.chw_norm.specs.Underway.{step_of}
use Rattle.chw_norm.proofs.Changed.{length_kept, still_there}

-- the step is made where its term is put at its place, and what it adds stands behind the made
-- definitions
pub step_made : (p : Program) (made made' : List Made) (f : Found) (it : Made) (body : TermTree)
    → (next : IsNext built p made f)
    → slice_get (with_new made f.definition) f.at.made.number ≡ Some it
    → body ≡ with_part it.body f.at.path.items next.new
    → made' ≡ set (with_new made f.definition) f.at.made.number (record it { body = body })
    → StepsTo built p made (step_of f next.new) made'
step_made p made made' f it body next at is there =
    let n : ℕ = f.at.made.number in
    let grown : List Made = with_new made f.definition in
    let step = next.is_first.step.1 in
    let same : it ≡ step.it = same_Some it step.it
    (sym at ∙ still_there made f.definition n step.it step.is) in
    let changed : body ≡ with_part step.it.body f.at.path.items next.new = is ∙ ap
    (λ (m : Made). with_part m.body f.at.path.items next.new) same in
    record {
      is_first = next.is_first;
      with_new = grown;
      after = next.added.after;
      is = there ∙ (λ i. set grown n (record (same i) { body = changed i }));
    }

-- where there is no room for what it adds, the table is full
pub no_room : (p : Program) (made : List Made) (f : Found) (x : Made) → IsNext built p made f
    → f.definition ≡ Some x → length made ≡ MADE_DEFINITIONS → FillsTable built p made
no_room p made f x next adds all =
    let n : ℕ = f.at.made.number in
    let grown : List Made = with_new made f.definition in
    let step = next.is_first.step.1 in
    let body : TermTree = with_part step.it.body f.at.path.items next.new in
    let next_made : List Made = set grown n (record step.it { body = body }) in
    let longer : length grown ≡ length made + 1 = ap (λ d. length (with_new made d)) adds
    ∙ length_push made x in
    let kept : length next_made ≡ length grown = length_kept grown n
    (record step.it { body = body }) in
    record {
      step = step_of f next.new;
      next = next_made;
      leads = step_made p made next_made f step.it body next
          (still_there made f.definition n step.it step.is) refl refl;
      many = omega (arith, all, longer, kept);
    }

-- the run with one step more
pub step_behind :
    {rules : List Rule} {p : Program} {made made' made'' : List Made} {s : Step} {steps : List Step}
    → ShallowSteps rules p made steps made' → StepsTo rules p made' s made'' → IsWithinLimits made''
    → ShallowSteps rules p made (steps ++ s ∷ []) made''
step_behind no_step step shallow = step_and step shallow no_step
step_behind (step_and first h rest) step shallow = step_and first h (step_behind rest step shallow)

-- and its trace
pub traced_behind : (old trace new : List StepAt) (steps : List Step) (f : Found)
    (put : TermTree) → Traces old trace steps → new ≡ trace ++ f.at ∷ []
    → Traces old new (steps ++ step_of f put ∷ [])
traced_behind old trace new steps f put h is = record {
  added = h.added ++ f.at ∷ [];
  traced = is ∙ ap (λ (t : List StepAt). t ++ f.at ∷ []) h.traced ∙ append_assoc old h.added
      (f.at ∷ []);
  places = map-append where_of h.added (f.at ∷ [])
      ∙ ap (λ (ws : List Where). ws ++ where_of f.at ∷ []) h.places
      ∙ sym (map-append (λ (s : Step). s.place) steps (step_of f put ∷ []));
}
