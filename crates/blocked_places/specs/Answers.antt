-- What is answered of a term at a place: nothing where nothing blocks it, else what comes first.
use Rattle.std.specs.Prelude.{◌≤◌, Option, MatchOption}
use Rattle.chw_terms.specs.TermTree.{TermTree}
use Rattle.rewriting.specs.Origins.{Origins}
use Rattle.rewriting.specs.Spots.{Spot}
use Rattle.normal_forms.specs.Blocked.{Block, recursion, payload, limit, rank_of, BlocksAt}
use Rattle.blocked_places.specs.Cycles.{AreDistinct}
use Rattle.blocked_places.specs.declared.block.Block.{Block as Found}
use Rattle.blocked_places.specs.declared.block.Block.TheVariants.{Recursion, Payload, Limit}

-- what is found, as what blocks
abbrev pub block_of : Found → Block
block_of (Recursion bindings) = recursion bindings.items
block_of (Payload t) = payload t
block_of (Limit l) = limit l

-- nothing blocks the term at the place
abbrev pub IsFree : Origins → Spot → TermTree → Type 0
IsFree o at e = (b : Block) → BlocksAt o at e b → ⊥

-- where it is a cycle, no binding comes twice in it
abbrev pub HasDistinctBindings : Block → Type 0
HasDistinctBindings (recursion cycle) = AreDistinct cycle
HasDistinctBindings _ = Unit {0}

-- this blocks it, and nothing that blocks it comes before by rank; of a cycle no binding comes twice
pub record BlocksFirst (o : Origins) (at : Spot) (e : TermTree) (b : Block) : Type 0 where
  pub blocks : BlocksAt o at e b
  pub first : (other : Block) → BlocksAt o at e other → rank_of b ≤ rank_of other
  pub distinct : HasDistinctBindings b

-- the answer is what blocks it first, or nothing where nothing does
abbrev pub AnswersBlock : Origins → Spot → TermTree → Option Found → Type 0
AnswersBlock o at e answer =
    MatchOption answer (IsFree o at e) (λ b. BlocksFirst o at e (block_of b))
