-- What is promised of the names and the types of a filter. Its products stand in a written vector.
-- So it has no more taps than such a vector may have elements.
use Rattle.std.specs.Prelude.{◌≤◌, ℕ}
use Rattle.chw_base.specs.declared.limits.TheConstants.{WRITTEN_VECTOR}
use Rattle.chw_grammar.specs.declared.program.Tree.{Tree}
use Rattle.chw_grammar.specs.Places.{Same}
use Rattle.chw_resolve.specs.Faults.{IsWellNamed}
use Rattle.chw_resolve.specs.Programs.{IsProgramOf}
use Rattle.chw_terms.specs.declared.program.Program.{Program}
use Rattle.chw_terms.specs.Tidy.{IsTidy}
use Rattle.chw_typing.specs.Programs.{IsTyped}
use Rattle.make_text.specs.MakeTree.{make_tree}

-- the tree is that of a filter with so many taps, but for the places of words
pub record IsMade (taps : ℕ) (tree : Tree) : Type 0 where
  pub some : 1 ≤ taps
  pub few : taps ≤ WRITTEN_VECTOR
  pub same : Same tree (make_tree taps)

-- its names are as they should be
abbrev pub AreWellNamed : Type 0
AreWellNamed = (taps : ℕ) (tree : Tree) → IsMade taps tree → IsWellNamed tree

-- there is a program of it, and it is tidy
abbrev pub HavePrograms : Type 0
HavePrograms =
    (taps : ℕ) (tree : Tree) → IsMade taps tree → (p : Program) × IsProgramOf tree p × IsTidy p

-- each such program is typed
abbrev pub AreTyped : Type 0
AreTyped =
    (taps : ℕ) (tree : Tree) (p : Program) → IsMade taps tree → IsProgramOf tree p → IsTidy p
    → IsTyped p
