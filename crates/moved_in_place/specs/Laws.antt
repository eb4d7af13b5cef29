-- What is promised of how deep terms are, and of parts that are put back.
use Rattle.std.specs.Prelude.{◌≡◌, ◌≤◌, ℕ, List, Bool, true, Some}
use Rattle.chw_terms.specs.declared.rule.Rule.TheVariants.{Flat}
use Rattle.chw_terms.specs.Depth.{depth}
use Rattle.chw_terms.specs.TermTree.{TermTree}
use Rattle.chw_typing.specs.Paths.{with_part}
use Rattle.chw_typing.specs.PartSpines.{spine_at}
use Rattle.rewriting.specs.Instances.{HasInstance}
use Rattle.rewriting.specs.Origins.{Origins}
use Rattle.rewriting.specs.Spots.{Spot}
use Rattle.moved_in_place.specs.Swapped.{IsSwapped}

-- what the rule that joins letrecs makes of a term is no deeper than the term
abbrev pub JoinedIsNoDeeper : Type 0
JoinedIsNoDeeper =
    (o : Origins) (at : Spot) (e new : TermTree) → HasInstance o at Flat e new → depth new ≤ depth e

-- a term is no deeper for another part at a path that is no deeper than the whole spine there
abbrev pub WithPartNoDeeper : Type 0
WithPartNoDeeper =
    (e x y : TermTree) (path : List ℕ)
    → spine_at e path ≡ Some x → depth y ≤ depth x → depth (with_part e path y) ≤ depth e

-- what came of the part that was taken from a path, and is put back there, is put there once, and
-- what stood there meanwhile comes back
abbrev pub SwappedBack : Type 0
SwappedBack =
    (old x new y z last w : TermTree) (path : List ℕ) (put : Bool)
    → IsSwapped old path x new y true → IsSwapped new path z last w put
    → (put ≡ true) × (last ≡ with_part old path z) × (w ≡ x)
