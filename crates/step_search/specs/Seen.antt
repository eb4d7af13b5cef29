-- How many looks a search takes.
use Rattle.std.specs.Prelude.{◌≡◌, ◌≢◌, ◌⊎◌, ◌<◌, ◌≤◌, ◌+◌, ◌*◌, ℕ, List, [], ◌∷◌, length}
use Rattle.std.specs.Prelude.{Some, slice_get, ⊤}
use Rattle.std.specs.List.{AllByRecursion}
use Rattle.chw_terms.specs.declared.program.Program.{Program}
use Rattle.chw_terms.specs.declared.rule.Rule.{Rule}
use Rattle.chw_terms.specs.declared.scene.Made.{Made}
use Rattle.chw_terms.specs.TermTree.{TermTree}
use Rattle.chw_typing.specs.Paths.{IsEarlier}
use Rattle.rewriting.specs.Origins.{made_of}
use Rattle.rewriting.specs.Active.{IsPlaceOf}
use Rattle.rewriting.specs.Spots.{Spot}
use Rattle.rewriting.specs.Steps.{HasStepBy, origins_in, Where}
use Rattle.step_order.specs.Sought.{IsSought, IsSoughtPath}

-- no two of the list are the same
abbrev pub AreDifferent : {X : Type 0} → List X → Type 0
AreDifferent [] = ⊤
AreDifferent (x ∷ xs) = AllByRecursion (λ y. x ≢ y) xs × AreDifferent xs

-- a count grows by so much at most for each of some different things of this kind
pub record GrowsBy {X : Type 0} (most : ℕ) (kind : X → Type 0) (before after : ℕ) : Type 0
  where
    pub things : List X
    pub different : AreDifferent things
    pub each : AllByRecursion kind things
    pub bound : after ≤ before + most * length things

-- a place of a state: the number of a made definition, and a path in its body
pub record StatePath : Type 0 where
  pub number : ℕ
  pub path : List ℕ

-- a term is active there
pub record IsActiveIn (p : Program) (made : List Made) (x : StatePath) : Type 0 where
  pub it : Made
  pub is : slice_get made x.number ≡ Some it
  pub at : Spot
  pub term : TermTree
  pub place : IsPlaceOf (origins_in p made) (made_of it) it.body x.path at term

-- it is at this place, at one above it, or at one after it
abbrev pub IsSoughtThere : ℕ → List ℕ → StatePath → Type 0
IsSoughtThere m from x = (m < x.number) ⊎ ((m ≡ x.number) × IsSoughtPath x.path from)

-- the place of the step is before it
abbrev pub ComesBefore : Where → StatePath → Type 0
ComesBefore w x =
    (w.number < x.number) ⊎ ((w.number ≡ x.number) × IsEarlier w.path x.path)

-- a place at which a search looks that begins at this place: an active one that is sought from
-- there on, and before which no step is that is sought from there on
pub record IsSeen (rules : List Rule) (p : Program) (made : List Made) (m : ℕ) (from : List ℕ)
    (x : StatePath) : Type 0 where
  pub active : IsActiveIn p made x
  pub sought : IsSoughtThere m from x
  pub none_before : (w : Where) (new : TermTree)
      → HasStepBy rules p made w new → IsSought m from w → ComesBefore w x → ⊥

-- a search that begins at this place tries each rule once at most at each place at which it looks
abbrev pub LooksFrom : List Rule → Program → List Made → ℕ → List ℕ → ℕ → ℕ → Type 0
LooksFrom rules p made m from before after =
    GrowsBy (length rules) (IsSeen rules p made m from) before after
