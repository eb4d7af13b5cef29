-- Typed scenes.
use Rattle.std.specs.Prelude.{◌≡◌, ℕ, [], Some, slice_get}
use Rattle.chw_terms.specs.declared.scene.Made.{Made}
use Rattle.chw_terms.specs.declared.scene.Scene.{Scene}
use Rattle.chw_terms.specs.TermTree.{TermTree}
use Rattle.chw_terms.specs.Tidy.{IsTidy}
use Rattle.chw_typing.specs.Scopes.{IsTermType}
use Rattle.chw_typing.specs.Programs.{IsComplete, IsTyped}
use Rattle.chw_typing.specs.Typing.{HasTypeUpTo}
use Rattle.rewriting.specs.Named.{mode_of, LeadsToNamed, HasLeadingLambdas}
use Rattle.rewriting.specs.Origins.{MadeOf, Origins, made_of, origins_of, setting_at, HoldsNoMade}

-- a made definition with its body: closed, of its type up to naturals, complete, from named types
-- to a named type
pub record IsTypedMade (o : Origins) (it : MadeOf) (body : TermTree) : Type 0 where
  pub closed : IsTermType (setting_at o) [] it.ty
  pub named : LeadsToNamed o.program.datas (mode_of it.sort) it.ty
  pub origin_typed : HasTypeUpTo (setting_at o) [] [] it.origin it.ty
  pub body_typed : HasTypeUpTo (setting_at o) [] [] body it.ty
  pub origin_complete : IsComplete o.program.datas it.origin
  pub body_complete : IsComplete o.program.datas body
  pub no_made : HoldsNoMade it.origin
  pub origin_leads : HasLeadingLambdas it.origin it.ty
  pub body_leads : HasLeadingLambdas body it.ty

-- a tidy and typed program with such made definitions
pub record IsTypedScene (scene : Scene) : Type 0 where
  pub tidy : IsTidy scene.program.now
  pub typed : IsTyped scene.program.now
  pub made : (m : ℕ) (it : Made) → slice_get scene.made.now m ≡ Some it
      → IsTypedMade (origins_of scene) (made_of it) it.body
