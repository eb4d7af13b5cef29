-- What is promised of right sides that are quiet.
use Rattle.std.specs.Prelude.{ℕ, false, List, [], ◌∷◌}
use Rattle.chw_types.specs.TypeTree.{TypeTree}
use Rattle.chw_terms.specs.declared.rule.Rule.{Rule}
use Rattle.chw_terms.specs.declared.scene.Mode.{Mode}
use Rattle.chw_terms.specs.TermTree.{TermTree}
use Rattle.chw_typing.specs.Programs.{IsSound}
use Rattle.chw_typing.specs.Scopes.{AreTermTypes}
use Rattle.chw_typing.specs.Typing.{HasType}
use Rattle.rewriting.specs.Active.{IsActive}
use Rattle.rewriting.specs.Instances.{HasInstance}
use Rattle.rewriting.specs.Origins.{Origins, setting_at}
use Rattle.rewriting.specs.Spots.{Spot, spot, HasLets}
use Rattle.quiet_sides.specs.Quiet.{IsQuiet, IsQuietAt, IsQuietSide}

-- where a quiet term is a right side of a letrec, no rule has an instance on it, or at an active
-- place below it
abbrev pub QuietSidesHaveNoStep : Type 0
QuietSidesHaveNoStep =
    (o : Origins) (mode : Mode) (vars : List TypeTree) (e : TermTree)
    → IsSound (setting_at o) → AreTermTypes (setting_at o) [] vars
    → HasLets mode → IsQuiet e
    → (path : List ℕ) (at : Spot) (x : TermTree) (rule : Rule) (new : TermTree)
    → IsActive o (spot mode false vars) e path at x
    → HasInstance o at rule x new → ⊥

-- so at each place that is quiet
abbrev pub QuietPlacesHaveNoStep : Type 0
QuietPlacesHaveNoStep =
    (o : Origins) (at : Spot) (e : TermTree)
    → IsSound (setting_at o) → AreTermTypes (setting_at o) [] at.vars → IsQuietAt at e
    → (path : List ℕ) (to : Spot) (x : TermTree) (rule : Rule) (new : TermTree)
    → IsActive o at e path to x → HasInstance o to rule x new → ⊥

-- of a letrec with a type, no rule has an instance where the path goes through a right side that is
-- quiet
abbrev pub QuietSidesArePassed : Type 0
QuietSidesArePassed =
    (o : Origins) (at : Spot) (e : TermTree) (t : TypeTree) (i : ℕ)
    → IsSound (setting_at o) → AreTermTypes (setting_at o) [] at.vars
    → HasType (setting_at o) [] at.vars e t → IsQuietSide e i
    → (path : List ℕ) (to : Spot) (x : TermTree) (rule : Rule) (new : TermTree)
    → IsActive o at e (i ∷ path) to x → HasInstance o to rule x new → ⊥
