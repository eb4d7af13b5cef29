-- Many first steps at a letrec and below it, while they are made.
use Rattle.std.specs.Prelude.{◌≡◌, ◌≤◌, ℕ, ◌+◌, ◌*◌, List, ◌++◌, map, length}
use Rattle.chw_terms.specs.TermTree.{TermTree}
use Rattle.rewriting.specs.Origins.{Origins}
use Rattle.rewriting.specs.Spots.{Spot}
use Rattle.letrec_steps.specs.Many.{LocalStep, StepsBelow}
use Rattle.norm_lines.specs.Places.{where_of}
use Rattle.norm_lines.specs.declared.place.StepAt.{StepAt}
use Rattle.trials.specs.Trials.{built}
use Rattle.letrec_runs.specs.Sides.{AreNoDeeper, places_in}

-- so many steps lead from one term to another, each the first at the term before it and below that,
-- and none to a term that is deeper; they are traced behind those that were
pub record Leads
    (o : Origins) (at : Spot) (most m : ℕ) (q : List ℕ) (x y : TermTree) (old new : List StepAt)
    (count : ℕ) : Type 0
  where
    pub steps : List LocalStep
    pub below : StepsBelow built o at x steps y
    pub shallow : AreNoDeeper most x steps
    pub many : length steps ≡ count
    pub added : List StepAt
    pub traced : new ≡ old ++ added
    pub places : map where_of added ≡ places_in m q steps

-- so do not more steps than are left; there are twenty-one looks at most for each, and for so many
-- more
pub record Runs
    (o : Origins) (at : Spot) (left most m : ℕ) (q : List ℕ) (x y : TermTree)
    (old new : List StepAt) (looks looks' more : ℕ) : Type 0
  where
    pub count : ℕ
    pub leads : Leads o at most m q x y old new count
    pub few : count ≤ left
    pub looked : looks' ≤ looks + 21 * (count + more)
