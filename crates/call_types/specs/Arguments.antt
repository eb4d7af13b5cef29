-- The arguments of a term that has a type.
use Rattle.std.specs.Prelude.{◌≡◌, ℕ, List, Some}
use Rattle.std.specs.List.{slice_get}
use Rattle.chw_terms.specs.declared.term.Arg.{Arg}
use Rattle.chw_terms.specs.declared.term.Arg.TheVariants.{OfTerm}
use Rattle.chw_terms.specs.TermTree.{TermTree}
use Rattle.rewriting.specs.Origins.{Origins}
use Rattle.rewriting.specs.Spots.{Spot}
use Rattle.rule_parts.specs.Cores.{HasTypeAt}

-- each of the arguments that is a term has a type at the place
abbrev pub AllTyped : Origins → Spot → List Arg → Type 0
AllTyped o at args =
    (i : ℕ) (x : TermTree) → slice_get args i ≡ Some (OfTerm x) → HasTypeAt o at x
