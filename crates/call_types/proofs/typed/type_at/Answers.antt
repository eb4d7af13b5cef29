use Rattle.std.proofs.Common.{IfOk, [], reverse, sym, subst}
use Rattle.chw_typing.specs.Finding.{Finds}
use Rattle.chw_typing.specs.Typing.{HasType}
use Rattle.call_types.proofs.typed.type_at.Goals as goal

pub type_of_typed-requires-clause-typed : goal.type_of_typed-requires-clause-typed
type_of_typed-requires-clause-typed c =
    let t = c.requires.typed.0 in (
      t,
      subst (λ s. HasType s [] (reverse c.args.place.now.vars) c.args.term.now t)
          (c.settings_of_scenes.ensures.setting c.args.scene.now) c.requires.typed.1,
    )

pub returns : goal.returns
returns c =
    subst (λ s. IfOk c.type_of_typed.result (λ t. Finds s [] (reverse c.args.place.now.vars) c.args.term.now t))
    (sym (c.settings_of_scenes.ensures.setting c.args.scene.now)) c.type_of_typed.ensures
