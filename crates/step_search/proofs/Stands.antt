-- Which states a search suits.
use Rattle.std.proofs.Common.{◌≡◌, sym, subst, List, [], Option, Some, None}
use Rattle.chw_terms.specs.declared.program.Program.{Program}
use Rattle.chw_terms.specs.declared.scene.Made.{Made}
use Rattle.rewriting.specs.Runs.{Step, StepsTo}
use Rattle.rule_types.specs.States.{IsTypedState}
use Rattle.made_states.specs.Laws.{AnyStepIsSought}
use Rattle.trials.specs.Trials.{built}
use Rattle.step_order.specs.Sought.{IsSought}
use Rattle.step_search.specs.Finding.{Suits}
use Rattle.step_search.specs.FoundSteps.{FindsFrom, FindsNext}
use Rattle.step_search.specs.declared.finder.Finder.{Finder}
use Rattle.step_search.specs.declared.place.Found.{Found}
use Rattle.step_search.proofs.States.{sought_anyway}

-- at the root of the first made definition it suits each
pub suits_any : (finder : Finder) → finder.made.number ≡ 0 → finder.path.items ≡ []
    → (p : Program) (made : List Made) → Suits p made finder
suits_any finder start root p made v new step =
    subst (λ n. IsSought n finder.path.items v) (sym start)
    (subst (λ path. IsSought 0 path v) (sym root) (sought_anyway v))

-- at the place of a step it suits the next
pub suits_next : AnyStepIsSought → (p : Program) (made made' : List Made) (s : Step) (finder : Finder)
    → IsTypedState p made → StepsTo built p made s made'
    → finder.made.number ≡ s.place.number → finder.path.items ≡ s.place.path → Suits p made' finder
suits_next behind p made made' s finder typed leads number path v new step =
    subst (λ n. IsSought n finder.path.items v) (sym number)
    (subst (λ q. IsSought s.place.number q v) (sym path)
    (behind built p made made' s v typed leads (new, step)))

-- what is first from there on is first of all
pub first_of_all : (p : Program) (made : List Made) (finder : Finder) (answer : Option Found)
    → Suits p made finder → FindsFrom built p made finder.made.number finder.path.items answer
    → FindsNext built p made answer
first_of_all p made finder None suits h = λ w new step. h w new step (suits w new step)
first_of_all p made finder (Some f) suits h = record {
  new = h.new;
  changes = h.changes;
  is_first = record {
    step = h.step;
    first = λ v other step. h.first v other step (suits v other step);
  };
  added = h.added;
}
