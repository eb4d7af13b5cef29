-- What is at fault with the bodies of a state.
use Rattle.std.proofs.Common.{◌≡◌, List, Option, Some, None, subst}
use Rattle.chw_terms.specs.declared.program.Program.{Program}
use Rattle.chw_terms.specs.declared.scene.Made.{Made}
use Rattle.rewriting.specs.Steps.{HasNoStep}
use Rattle.rule_types.specs.States.{IsTypedState}
use Rattle.normal_forms.specs.Normal.{all_rules}
use Rattle.ended_laws.specs.Laws.{EndedIsNormal}
use Rattle.judge.specs.States.{FindsBlocked, FindsFault, IsBlockedNowhere, IsFirstPlace, place_of}
use Rattle.judge.specs.declared.states.BlockedAt.{BlockedAt}
use Rattle.judge.specs.declared.states.StateFault.TheVariants.{Blocked}

-- a first blocked place of a state without a step
pub blocked_fault : (p : Program) (state : List Made) (answer : Option BlockedAt) (at : BlockedAt)
    → HasNoStep all_rules p state → answer ≡ Some at → FindsBlocked p state answer
    → FindsFault p state (Some (Blocked at))
blocked_fault p state answer at ended is found =
    let first : IsFirstPlace p state (place_of at) = subst (FindsBlocked p state) is found in
    record {
      no_step = ended;
      blocked = first.blocked;
      first = first.first;
      distinct = first.distinct;
    }

-- where there is none, all bodies are in normal form
pub all_normal : EndedIsNormal → (p : Program) (state : List Made) (answer : Option BlockedAt)
    → IsTypedState p state → HasNoStep all_rules p state → answer ≡ None
    → FindsBlocked p state answer → FindsFault p state None
all_normal law p state answer typed ended is found =
    let free : IsBlockedNowhere p state = subst (FindsBlocked p state) is found in
    (free, (law p state typed ended).0 free)
