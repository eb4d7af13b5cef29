-- The looks of a run.
use Rattle.std.proofs.Common.{◌≡◌, ℕ, refl, sym, subst, List, [], ◌∷◌, ◌++◌, length}
use Rattle.std.specs.Prelude.{Err, Ok, Option, Some}
use Rattle.std.proofs.lemmas.List.{append-nil}
use Rattle.chw_base.specs.declared.outcome.NoMemory.{NoMemory}
use Rattle.chw_base.specs.declared.outcome.Or.{Or}
use Rattle.chw_base.specs.declared.outcome.Or.TheVariants.{Memory, Fault}
use Rattle.chw_terms.specs.declared.program.Program.{Program}
use Rattle.chw_terms.specs.declared.scene.Made.{Made}
use Rattle.chw_terms.specs.TermTree.{TermTree}
use Rattle.chw_typing.specs.Programs.{IsTyped}
use Rattle.rewriting.specs.Runs.{IsOpening, opened, Step, StepsTo, top_of}
use Rattle.trials.specs.Trials.{built}
use Rattle.norm_lines.specs.declared.place.StepAt.{StepAt}
use Rattle.step_search.specs.Finding.{Moves, StandsAt, Suits, SuitsNextState}
use Rattle.chw_norm.specs.Running.{Traces}
use Rattle.step_search.specs.Seen.{IsSeen, LooksFrom}
use Rattle.chw_norm.specs.Searches.{RunLooks, SearchesLead, no_search, then_one}
use Rattle.chw_norm.specs.Underway.{Advances, IsBetweenSteps, step_of, StepEnds}
use Rattle.step_search.specs.declared.finder.Finder.{Finder}
use Rattle.step_search.specs.declared.place.Found.{Found}
use Rattle.chw_norm.specs.declared.progress.Progress.{Progress}
use Rattle.chw_norm.specs.declared.running.RunFault.{RunFault}
use Rattle.chw_norm.specs.declared.running.RunFault.TheVariants.{Depth, Full, Spent}
use Rattle.step_search.proofs.Counts.{stays}
use Rattle.chw_norm.proofs.Steps.{traced_behind}

-- the searches by the steps that are traced so far
pub record HasLooked (p : Program) (old new : List StepAt) (made : List Made) (finder : Finder)
    (before now : ℕ) : Type 0 where
  pub steps : List Step
  pub trace : Traces old new steps
  pub opening : List Made
  pub opens : IsOpening p opening
  pub searches :
      SearchesLead built p opening before steps made finder.made.number finder.path.items now

traced_none : (old : List StepAt) → Traces old old []
traced_none old = record { added = []; traced = sym (append-nil old); places = refl }

-- none before the first step
pub looked_at_opening : (p : Program) (old : List StepAt) (made : List Made) (finder : Finder) (n : ℕ)
    → IsOpening p made → finder.made.number ≡ 0 → finder.path.items ≡ []
    → HasLooked p old old made finder n n
looked_at_opening p old made finder n opens start root = record {
  steps = [];
  trace = traced_none old;
  opening = made;
  opens = opens;
  searches =
      subst (λ m. SearchesLead built p made n [] made m finder.path.items n) (sym start)
      (subst (λ path. SearchesLead built p made n [] made 0 path n) (sym root) no_search);
}

-- and one more with each step
looked_one_more : (p : Program) (old trace new : List StepAt) (made made' : List Made) (f : Found) (put : TermTree)
    (finder finder' : Finder) (n now next : ℕ)
    → HasLooked p old trace made finder n now
    → LooksFrom built p made finder.made.number finder.path.items now next
    → StepsTo built p made (step_of f put) made' → new ≡ trace ++ f.at ∷ [] → StandsAt finder' f.at
    → HasLooked p old new made' finder' n next
looked_one_more p old trace new made made' f put finder finder' n now next h looks leads is stands = record {
  steps = h.steps ++ step_of f put ∷ [];
  trace = traced_behind old trace new h.steps f put h.trace is;
  opening = h.opening;
  opens = h.opens;
  searches =
      subst (λ m. SearchesLead built p h.opening n (h.steps ++ step_of f put ∷ []) made' m finder'.path.items next)
      (sym stands.0)
      (subst (λ path. SearchesLead built p h.opening n (h.steps ++ step_of f put ∷ []) made' f.at.made.number path next)
      (sym stands.1) (then_one h.searches looks leads));
}

pub looked_on : (p : Program) (old trace new : List StepAt) (r r' : Progress) (f : Found)
    (finder finder' : Finder) (n now next : ℕ) → r.program.now ≡ p
    → HasLooked p old trace r.made finder n now
    → LooksFrom built r.program.now r.made finder.made.number finder.path.items now next
    → Advances f trace new r r' → StandsAt finder' f.at
    → HasLooked p old new r'.made finder' n next
looked_on p old trace new r r' f finder finder' n now next is h looks m stands =
    looked_one_more p old trace new r.made r'.made f m.put finder finder' n now next h
    (subst (λ q. LooksFrom built q r.made finder.made.number finder.path.items now next) is looks)
    (subst (λ q. StepsTo built q r.made (step_of f m.put) r'.made) is m.leads) m.traced stands

-- a run that ends with a search
looked_last : (p : Program) (old trace : List StepAt) (made : List Made) (finder : Finder) (n now next : ℕ)
    → HasLooked p old trace made finder n now
    → LooksFrom built p made finder.made.number finder.path.items now next
    → RunLooks built p old trace n next
looked_last p old trace made finder n now next h looks = record {
  steps = h.steps;
  trace = h.trace;
  opening = h.opening;
  opens = h.opens;
  made = made;
  number = finder.made.number;
  path = finder.path.items;
  between = now;
  searches = h.searches;
  last = looks;
}

pub looked_to_end : (p : Program) (old trace : List StepAt) (r : Progress) (finder : Finder)
    (n now next : ℕ) → r.program.now ≡ p → HasLooked p old trace r.made finder n now
    → LooksFrom built r.program.now r.made finder.made.number finder.path.items now next
    → RunLooks built p old trace n next
looked_to_end p old trace r finder n now next is h looks =
    looked_last p old trace r.made finder n now next h
    (subst (λ q. LooksFrom built q r.made finder.made.number finder.path.items now next) is looks)

-- one that ends with a step
looked_no_more : (p : Program) (made : List Made) (m : ℕ) (from : List ℕ) (n : ℕ)
    → LooksFrom built p made m from n n
looked_no_more p made m from n = stays (length built) (IsSeen built p made m from) n

-- and one that never began
pub never_looked : (p : Program) (old : List StepAt) (n : ℕ) → IsTyped p → RunLooks built p old old n n
never_looked p old n typed =
    let top = typed.top in
    let made : List Made = opened p (top_of p.top.«def».number top.0) ∷ [] in
    record {
      steps = [];
      trace = traced_none old;
      opening = made;
      opens = (top.0, top.1, refl);
      made = made;
      number = 0;
      path = [];
      between = n;
      searches = no_search;
      last = looked_no_more p made 0 [] n;
    }

-- a step that was refused, or for which memory was wanting
pub looked_refused : (p : Program) (old trace new : List StepAt) (r r' : Progress) (f : Found)
    (finder finder' : Finder) (n now next : ℕ) (x : Or RunFault) → r.program.now ≡ p
    → HasLooked p old trace r.made finder n now
    → LooksFrom built r.program.now r.made finder.made.number finder.path.items now next
    → StandsAt finder' f.at → StepEnds f trace new r r' (Err x)
    → RunLooks built p old new n next
looked_refused p old trace new r r' f finder finder' n now next (Fault Depth) is h looks stands e =
    looked_last p old new r'.made finder' n next next
    (looked_on p old trace new r r' f finder finder' n now next is h looks e.0 stands)
    (looked_no_more p r'.made finder'.made.number finder'.path.items next)
looked_refused p old trace new r r' f finder finder' n now next (Fault Full) is h looks stands e =
    subst (λ t. RunLooks built p old t n next) (sym e.0)
    (looked_to_end p old trace r finder n now next is h looks)
looked_refused p old trace new r r' f finder finder' n now next (Fault (Spent k)) is h looks stands e =
    absurd e
looked_refused p old trace new r r' f finder finder' n now next Memory is h looks stands e =
    subst (λ t. RunLooks built p old t n next) (sym e)
    (looked_to_end p old trace r finder n now next is h looks)

-- the search suits the next state
pub suits_on : SuitsNextState → (trace new : List StepAt) (r r' : Progress) (f : Found) (finder : Finder)
    → IsBetweenSteps r → Advances f trace new r r' → StandsAt finder f.at
    → Suits r'.program.now r'.made finder
suits_on law trace new r r' f finder between m stands =
    subst (λ p. Suits p r'.made finder) (sym m.program)
    (law r.program.now r.made r'.made (step_of f m.put) finder between.typed m.leads stands.0 stands.1)

-- the search that found this step stands at its place
pub moved_there : (answer : Option Found) (f : Found) (finder finder' : Finder)
    → Moves {E = NoMemory} (Ok answer) finder finder' → answer ≡ Some f → StandsAt finder' f.at
moved_there answer f finder finder' h is =
    subst (λ a. Moves {E = NoMemory} (Ok a) finder finder') is h
