-- The places at which a search looks below a term, and in a made definition.
use Rattle.std.specs.Prelude.{◌≡◌, ℕ, List, length}
use Rattle.chw_terms.specs.declared.program.Program.{Program}
use Rattle.chw_terms.specs.declared.rule.Rule.{Rule}
use Rattle.chw_terms.specs.declared.scene.Made.{Made}
use Rattle.chw_terms.specs.TermTree.{TermTree}
use Rattle.chw_typing.specs.Paths.{IsEarlier}
use Rattle.rewriting.specs.Origins.{Origins}
use Rattle.rewriting.specs.Spots.{Spot}
use Rattle.rewriting.specs.Steps.{HasStepBy, Where}
use Rattle.step_order.specs.Sought.{IsSought, IsSoughtPath}
use Rattle.step_search.specs.First.{Places, IsStepAt}
use Rattle.step_search.specs.Seen.{GrowsBy, StatePath, IsActiveIn, IsSoughtThere}

-- the path of one of these places that is sought, and before which no step is at one of them that
-- is sought
pub record IsSeenPath (rules : List Rule) (o : Origins) (s : Places) (from path : List ℕ)
    : Type 0 where
  pub at : Spot
  pub term : TermTree
  pub place : s path at term
  pub sought : IsSoughtPath path from
  pub none_before : (q : List ℕ) (rule : Rule) (new : TermTree)
      → IsStepAt rules o s from q rule new → IsEarlier q path → ⊥

-- a search among these places tries each rule once at most at each of those paths
abbrev pub LooksAtPaths : List Rule → Origins → Places → List ℕ → ℕ → ℕ → Type 0
LooksAtPaths rules o s from before after =
    GrowsBy (length rules) (IsSeenPath rules o s from) before after

-- a place in the made definition of this number that is sought, and before which no step is in it
-- that is sought
pub record IsSeenIn (rules : List Rule) (p : Program) (made : List Made) (n m : ℕ)
    (from : List ℕ) (x : StatePath) : Type 0 where
  pub in_it : x.number ≡ n
  pub active : IsActiveIn p made x
  pub sought : IsSoughtThere m from x
  pub none_before : (w : Where) (new : TermTree)
      → w.number ≡ n → HasStepBy rules p made w new → IsSought m from w
      → IsEarlier w.path x.path → ⊥

-- a search in it tries each rule once at most at each of those places
abbrev pub LooksIn : List Rule → Program → List Made → ℕ → ℕ → List ℕ → ℕ → ℕ → Type 0
LooksIn rules p made n m from before after =
    GrowsBy (length rules) (IsSeenIn rules p made n m from) before after
