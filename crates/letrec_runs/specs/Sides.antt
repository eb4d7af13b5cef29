-- Many steps in one letrec, and how they are traced.
use Rattle.std.specs.Prelude.{◌≡◌, ◌≤◌, ◌+◌, ◌*◌, ℕ, List, [], ◌∷◌, ◌++◌, length, map, ⊤}
use Rattle.chw_terms.specs.Depth.{depth}
use Rattle.chw_terms.specs.TermTree.{TermTree}
use Rattle.chw_typing.specs.Paths.{with_part}
use Rattle.rewriting.specs.Origins.{Origins}
use Rattle.rewriting.specs.Spots.{Spot}
use Rattle.rewriting.specs.Steps.{Where}
use Rattle.trials.specs.Trials.{built}
use Rattle.norm_lines.specs.Places.{where_of}
use Rattle.norm_lines.specs.declared.place.StepAt.{StepAt}
use Rattle.letrec_steps.specs.Many.{LocalStep, StepsBelow, in_top}

-- no term to which one of the steps leads is deeper than that
abbrev pub AreNoDeeper : ℕ → TermTree → List LocalStep → Type 0
AreNoDeeper most x [] = ⊤
AreNoDeeper most x (s ∷ steps) =
    (depth (with_part x s.path s.new) ≤ most) × AreNoDeeper most (with_part x s.path s.new) steps

-- where the steps of a term are made that stands at this path of this made definition
abbrev pub places_in : ℕ → List ℕ → List LocalStep → List Where
places_in m q steps = map (λ (s : LocalStep). (in_top m q s).place) steps

-- so many first steps at most lead from the one term to the other, no term on the way is deeper
-- than may be, they are the ones that are traced, and for each of them there are twenty-one looks
-- at most
pub record AreMade (o : Origins) (at : Spot) (m : ℕ) (q : List ℕ) (x y : TermTree)
    (left most : ℕ) (old new : List StepAt) (before after : ℕ) : Type 0 where
  pub steps : List LocalStep
  pub lead : StepsBelow built o at x steps y
  pub shallow : AreNoDeeper most x steps
  pub few : length steps ≤ left
  pub added : List StepAt
  pub traced : new ≡ old ++ added
  pub places : map where_of added ≡ places_in m q steps
  pub looks : after ≤ before + 21 * length steps
