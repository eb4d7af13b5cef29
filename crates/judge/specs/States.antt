-- What is said of a state that no rule rewrites.
use Rattle.std.specs.Prelude.{◌≡◌, ℕ, List, map, Option, MatchOption}
use Rattle.chw_base.specs.declared.index.MadeId.{MadeId}
use Rattle.graph_order.specs.Orders.{LeastFirst}
use Rattle.chw_terms.specs.declared.program.Program.{Program}
use Rattle.chw_terms.specs.declared.scene.Made.{Made}
use Rattle.data_kinds.specs.Cycles.{IsCycleOf}
use Rattle.rewriting.specs.Steps.{HasNoStep}
use Rattle.normal_forms.specs.Blocked.{BlockedPlace, HasBlocked, IsBlockedBefore}
use Rattle.normal_forms.specs.Normal.{IsNormal, all_rules}
use Rattle.normal_forms.specs.Uses.{Uses as UsesMade, IsAcyclic}
use Rattle.blocked_places.specs.Answers.{HasDistinctBindings, block_of}
use Rattle.blocked_places.specs.declared.bodies.BlockedPart.{BlockedPart}
use Rattle.judge.specs.declared.states.BlockedAt.{BlockedAt}
use Rattle.judge.specs.declared.states.StateFault.{StateFault}
use Rattle.judge.specs.declared.states.StateFault.TheVariants.{Blocked, Uses}

-- a blocked place, as definitions have it
abbrev pub place_of : BlockedAt → BlockedPlace
place_of at = record { number = at.made.number; path = at.path.items; block = block_of at.block }

-- no place of the state is blocked
abbrev pub IsBlockedNowhere : Program → List Made → Type 0
IsBlockedNowhere p state = (at : BlockedPlace) → HasBlocked p state at → ⊥

-- what is wanted of a state: it is normal and blocked nowhere, and no made definition uses itself
pub record IsFinished (p : Program) (state : List Made) : Type 0 where
  pub normal : IsNormal p state
  pub free : IsBlockedNowhere p state
  pub acyclic : IsAcyclic state

-- it is a blocked place of the made definition of this number, and the first of them; of a cycle no
-- binding comes twice
pub record IsFirstBlockedIn (p : Program) (state : List Made) (number : ℕ) (at : BlockedPlace)
    : Type 0 where
  pub in_it : at.number ≡ number
  pub blocked : HasBlocked p state at
  pub first : (other : BlockedPlace) → other.number ≡ number → HasBlocked p state other
      → IsBlockedBefore other at → ⊥
  pub distinct : HasDistinctBindings at.block

-- the answer is the first blocked place of the made definition, or nothing where there is none
abbrev pub FindsBlockedIn : Program → List Made → ℕ → Option BlockedAt → Type 0
FindsBlockedIn p state number answer =
    MatchOption answer
    ((at : BlockedPlace) → at.number ≡ number → HasBlocked p state at → ⊥)
    (λ found. IsFirstBlockedIn p state number (place_of found))

-- the answer is this part, in the made definition of this number
abbrev pub IsPlacedIn : ℕ → BlockedPart → BlockedAt → Type 0
IsPlacedIn number part at =
    (at.made.number ≡ number) × (at.path.items ≡ part.path.items) × (at.block ≡ part.block)

-- it is a blocked place of the state, and the first of them; of a cycle no binding comes twice
pub record IsFirstPlace (p : Program) (state : List Made) (at : BlockedPlace) : Type 0 where
  pub blocked : HasBlocked p state at
  pub first : (other : BlockedPlace) → HasBlocked p state other → IsBlockedBefore other at → ⊥
  pub distinct : HasDistinctBindings at.block

-- the answer is the first blocked place of the state, or nothing where there is none
abbrev pub FindsBlocked : Program → List Made → Option BlockedAt → Type 0
FindsBlocked p state answer =
    MatchOption answer (IsBlockedNowhere p state) (λ found. IsFirstPlace p state (place_of found))

-- a cycle of uses: some made definitions, each once, of which each uses the next and the last one
-- the first, with the least number first; so some uses itself
pub record IsUseCycle (state : List Made) (ms : List ℕ) : Type 0 where
  pub cycle : IsCycleOf (UsesMade state) ms
  pub least : LeastFirst ms
  pub some : IsAcyclic state → ⊥

-- a blocked state: no rule has an instance, and this is the first of the blocked places; of a cycle
-- no binding comes twice
pub record IsRefusedAt (p : Program) (state : List Made) (at : BlockedPlace) : Type 0 where
  pub no_step : HasNoStep all_rules p state
  pub blocked : HasBlocked p state at
  pub first : (other : BlockedPlace) → HasBlocked p state other → IsBlockedBefore other at → ⊥
  pub distinct : HasDistinctBindings at.block

-- why the state is refused: its first blocked place; where it is blocked nowhere, and so normal, a
-- cycle of uses
abbrev pub RefusesState : Program → List Made → StateFault → Type 0
RefusesState p state (Blocked at) = IsRefusedAt p state (place_of at)
RefusesState p state (Uses cycle) =
    IsBlockedNowhere p state × IsNormal p state
    × IsUseCycle state (map (λ (m : MadeId). m.number) cycle.items)

-- the answer is why the bodies are refused, or nothing where they are normal and blocked nowhere
abbrev pub FindsFault : Program → List Made → Option StateFault → Type 0
FindsFault p state answer =
    MatchOption answer (IsBlockedNowhere p state × IsNormal p state) (RefusesState p state)
