-- What a rule's answer keeps of the term.
use Rattle.std.specs.Prelude.{[], Option, IfSome}
use Rattle.chw_types.specs.TypeTree.{TypeTree}
use Rattle.chw_terms.specs.declared.scene.Scene.{Scene}
use Rattle.chw_terms.specs.TermTree.{TermTree}
use Rattle.chw_typing.specs.Programs.{IsComplete}
use Rattle.chw_typing.specs.Scopes.{AreTermTypes}
use Rattle.chw_typing.specs.Typing.{HasType, HasTypeUpTo}
use Rattle.rewriting.specs.Origins.{origins_of, setting_at}
use Rattle.rewriting.specs.Typed.{IsTypedScene}
use Rattle.rewriting.specs.Spots.{Spot}

-- in a typed scene the new term has each type of the old one, up to naturals, and is complete where
-- that is
abbrev pub KeepsTypes : Scene → Spot → TermTree → Option TermTree → Type 0
KeepsTypes scene at e answer =
    IfSome answer (λ e'.
    IsTypedScene scene → AreTermTypes (setting_at (origins_of scene)) [] at.vars
    → ((t : TypeTree) → HasType (setting_at (origins_of scene)) [] at.vars e t
    → HasTypeUpTo (setting_at (origins_of scene)) [] at.vars e' t)
    × (IsComplete scene.program.now.datas e → IsComplete scene.program.now.datas e'))
