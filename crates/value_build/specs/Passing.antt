-- Passes over the block of a value.
use Rattle.std.specs.Prelude.{◌≡◌, ℕ, List, length}
use Rattle.chw_base.specs.declared.index.WireId.{WireId}
use Rattle.chw_terms.specs.declared.scene.Sort.TheVariants.{Value}
use Rattle.chw_terms.specs.TermTree.{TermTree}
use Rattle.net_built.specs.Circuits.{Ground}
use Rattle.net_built.specs.Terms.{Variable}
use Rattle.net_built.specs.Wires.{Piece}
use Rattle.net_ready.specs.Drafts.{Known, BlockDrafted}
use Rattle.value_build.specs.Bodies.{IsModuleBelow}
use Rattle.value_build.specs.declared.passes.Pass.{Pass}
use Rattle.value_build.specs.declared.passes.Pass.TheVariants.{Settled, Changed}

-- a pass from wire n on, where so much is known, finds other wires
pub record Changes (ground : Ground) (known : Known) (scope : List Variable) (n : ℕ) (e : TermTree)
    (found : Known) : Type 0 where
  pub piece : Piece
  pub wires : List WireId
  pub drafted : BlockDrafted ground known 0 scope n e piece wires found
  pub other : known ≡ found → ⊥

-- what a pass behind inputs of these widths gave: the module, where it found what is known, and
-- otherwise what it found
abbrev pub IsPass : Ground → Known → List Variable → List ℕ → TermTree → Pass → Type 0
IsPass ground known scope inputs e (Settled built) =
    IsModuleBelow ground Value scope inputs e built
IsPass ground known scope inputs e (Changed found) =
    Changes ground known scope (length inputs) e found.items
