-- Parts of a term at which no step is sought.
use Rattle.std.specs.Prelude.{◌≡◌, ◌<◌, ℕ, List}
use Rattle.chw_terms.specs.declared.rule.Rule.{Rule}
use Rattle.chw_terms.specs.TermTree.{TermTree}
use Rattle.chw_typing.specs.Programs.{IsSound}
use Rattle.rewriting.specs.Active.{Below}
use Rattle.rewriting.specs.Origins.{Origins, setting_at}
use Rattle.rewriting.specs.Spots.{Spot}
use Rattle.active_parts.specs.Grounds.{IsTypedAt}
use Rattle.active_parts.specs.Parts.{path_to}
use Rattle.step_search.specs.First.{AtPath, From, HasNoStepAt, Places}

-- the path to each number
abbrev pub Paths : Type 0
Paths = ℕ → List ℕ

-- those of these places that are at the paths of the first n numbers
abbrev pub OfFirst : Places → Paths → ℕ → Places
OfFirst s w n p at e = (i : ℕ) × (i < n) × (p ≡ w i) × s p at e

-- wherever the term is typed, no step is sought at its part of this number or below that
abbrev pub IsPassedPart : List Rule → TermTree → List ℕ → ℕ → Type 0
IsPassedPart rules e from n =
    (o : Origins) (at : Spot) → IsSound (setting_at o) → IsTypedAt (setting_at o) at e
    → HasNoStepAt rules o (From o (AtPath (Below o at e) (path_to e n))) from

-- nor at its first n parts or below these
abbrev pub ArePassedParts : List Rule → TermTree → List ℕ → ℕ → Type 0
ArePassedParts rules e from n =
    (o : Origins) (at : Spot) → IsSound (setting_at o) → IsTypedAt (setting_at o) at e
    → HasNoStepAt rules o (From o (OfFirst (Below o at e) (path_to e) n)) from
