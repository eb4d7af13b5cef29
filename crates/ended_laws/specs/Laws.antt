-- No state is stuck: where no rule has an instance, what nothing blocks is in normal form.
use Rattle.std.specs.Prelude.{◌≡◌, ◌↔◌, ℕ, List, Some}
use Rattle.std.specs.List.{slice_get}
use Rattle.chw_terms.specs.declared.program.Program.{Program}
use Rattle.chw_terms.specs.declared.scene.Made.{Made}
use Rattle.rewriting.specs.Origins.{made_of}
use Rattle.rewriting.specs.Steps.{origins_in, HasNoStep}
use Rattle.rule_types.specs.States.{IsTypedState}
use Rattle.normal_forms.specs.Blocked.{Block, BlockedPlace, IsBlocked, HasBlocked}
use Rattle.normal_forms.specs.Normal.{IsNormal, IsNormalBody, all_rules}

-- in an ended typed state a body that nothing blocks is in normal form
abbrev pub NoneIsStuck : Type 0
NoneIsStuck =
    (p : Program) (state : List Made) (m : ℕ) (it : Made)
    → IsTypedState p state → HasNoStep all_rules p state → slice_get state m ≡ Some it
    → ((path : List ℕ) (b : Block)
    → IsBlocked (origins_in p state) (made_of it) it.body path b → ⊥)
    → IsNormalBody (origins_in p state) (made_of it) it.body

-- so an ended typed state is normal exactly where nothing of it is blocked
abbrev pub EndedIsNormal : Type 0
EndedIsNormal =
    (p : Program) (state : List Made)
    → IsTypedState p state → HasNoStep all_rules p state
    → ((at : BlockedPlace) → HasBlocked p state at → ⊥) ↔ IsNormal p state
