-- The active places below leading lambdas.
use Rattle.std.specs.Prelude.{◌≡◌, ◌++◌, ℕ, true, List}
use Rattle.chw_types.specs.TypeTree.{TypeTree}
use Rattle.chw_terms.specs.declared.scene.Mode.{Mode}
use Rattle.chw_terms.specs.TermTree.{TermTree}
use Rattle.rewriting.specs.Named.{UnderLambdas}
use Rattle.rewriting.specs.Origins.{Origins}
use Rattle.rewriting.specs.Active.{IsActive}
use Rattle.rewriting.specs.Spots.{spot}
use Rattle.step_search.specs.First.{Places}

-- the active places below the leading lambdas of the closed term, or below those that are left of
-- them
abbrev pub under_lambdas : Origins → Mode → List TypeTree → TermTree → TypeTree → Places
under_lambdas o mode vars e t path at x =
    (root : List ℕ) × (vs : List TypeTree) × (body : TermTree) × (rest : List ℕ)
    × UnderLambdas vars e t root vs body
    × IsActive o (spot mode true vs) body rest at x × (path ≡ root ++ rest)
