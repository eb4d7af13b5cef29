-- The verdict on a body of a state without a step, by what blocks it.
use Rattle.std.proofs.Common.{◌≡◌, ℕ, List, Option, Some, None, subst}
use Rattle.std.specs.List.{slice_get}
use Rattle.chw_terms.specs.declared.program.Program.{Program}
use Rattle.chw_terms.specs.declared.scene.Made.{Made}
use Rattle.chw_terms.specs.declared.scene.Scene.{Scene}
use Rattle.rewriting.specs.Origins.{made_of}
use Rattle.rewriting.specs.Steps.{HasNoStep, origins_in}
use Rattle.rewriting.specs.Typed.{IsTypedScene}
use Rattle.rule_types.specs.States.{IsTypedState}
use Rattle.normal_forms.specs.Normal.{all_rules}
use Rattle.normal_laws.specs.Laws.{NormalIsNotBlocked}
use Rattle.ended_laws.specs.Laws.{NoneIsStuck}
use Rattle.blocked_places.specs.Walks.{AnswersBody}
use Rattle.blocked_places.specs.declared.bodies.BlockedPart.{BlockedPart}
use Rattle.judge.specs.Verdicts.{Judges}
use Rattle.judge.specs.declared.judging.Verdict.TheVariants.{Normal, Blocked}

-- a typed scene has a typed state
pub scene_state : (scene : Scene) → IsTypedScene scene
    → IsTypedState scene.program.now scene.made.now
scene_state scene h = record { tidy = h.tidy; typed = h.typed; each = h.made }

-- a body that is blocked isn't in normal form
pub blocked_verdict : NormalIsNotBlocked → (p : Program) (state : List Made) (n : ℕ) (it : Made)
    (part : BlockedPart) (found : Option BlockedPart) → IsTypedState p state
    → slice_get state n ≡ Some it → found ≡ Some part
    → AnswersBody (origins_in p state) (made_of it) it.body found
    → Judges (origins_in p state) (made_of it) it.body (Blocked part)
blocked_verdict law p state n it part found typed at is answers =
    let first = subst (AnswersBody (origins_in p state) (made_of it) it.body) is answers in
    (λ normal. law p state n it part.path.items _ typed at normal first.it, first)

-- and one that isn't is
pub normal_verdict : NoneIsStuck → (p : Program) (state : List Made) (n : ℕ) (it : Made)
    (found : Option BlockedPart) → IsTypedState p state → HasNoStep all_rules p state
    → slice_get state n ≡ Some it → found ≡ None
    → AnswersBody (origins_in p state) (made_of it) it.body found
    → Judges (origins_in p state) (made_of it) it.body Normal
normal_verdict law p state n it found typed ended at is answers =
    let free = subst (AnswersBody (origins_in p state) (made_of it) it.body) is answers in
    (law p state n it typed ended at free, free)
