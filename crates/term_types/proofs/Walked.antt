-- The steps of the walk over a term, by what they answer.
use Rattle.std.proofs.Common.{◌≡◌, Option, Some, None, refl, subst, List}
use Rattle.chw_types.specs.declared.kind.Kind.{Kind}
use Rattle.chw_types.specs.TypeTree.{TypeTree}
use Rattle.chw_terms.specs.TermTree.{TermTree, app, ty_app}
use Rattle.chw_typing.specs.Scopes.{Setting}
use Rattle.term_types.specs.Answers.{HasNoType, IsTyped, IsAnswer, IsReady}
use Rattle.term_spines.specs.Spines.{spine_found, AtTerm, AtType}
use Rattle.term_types.specs.AtArguments.{IsSpineOf}
use Rattle.seen_types.specs.declared.found.Found.{Found}
use Rattle.term_spines.specs.declared.spines.Spine.{Spine}
use Rattle.term_types.proofs.Applied.{app_typed, app_untyped, ty_app_typed, ty_app_untyped}

pub answer_some : (s : Setting) (kinds : List Kind) (vars : List TypeTree) (e : TermTree) (o : Option Found) (f : Found) → o ≡ Some f → IsAnswer s kinds vars e o → IsTyped s kinds vars e f
answer_some s kinds vars e o f is h = subst (IsAnswer s kinds vars e) is h

pub answer_none : (s : Setting) (kinds : List Kind) (vars : List TypeTree) (e : TermTree) (o : Option Found) → ((f : Found) → o ≡ Some f → ⊥) → IsAnswer s kinds vars e o → HasNoType s kinds vars e
answer_none s kinds vars e None never h = h
answer_none s kinds vars e (Some f) never h = absurd (never f refl)

pub answer_is_none : (s : Setting) (kinds : List Kind) (vars : List TypeTree) (e : TermTree) (o : Option Found) → o ≡ None → IsAnswer s kinds vars e o → HasNoType s kinds vars e
answer_is_none s kinds vars e o is h = subst (IsAnswer s kinds vars e) is h

-- a function at an argument that was typed
pub app_told : (s : Setting) (kinds : List Kind) (vars : List TypeTree) (e a : TermTree) (g found : Found) (r : Option Spine) → IsReady s kinds vars → IsTyped s kinds vars a found → AtTerm g found.ty r → IsTyped s kinds vars e g → IsSpineOf s kinds vars (app e a) r
app_told s kinds vars e a g found (Some p) h d t k = app_typed g found.ty (spine_found p) k d.0 t
app_told s kinds vars e a g found None h d t k = app_untyped g found.ty h k d.0 t

-- a term at a type
pub ty_app_told : (s : Setting) (kinds : List Kind) (vars : List TypeTree) (e : TermTree) (a : TypeTree) (g : Found) (r : Option Spine) → IsReady s kinds vars → AtType s kinds g a r → IsTyped s kinds vars e g → IsSpineOf s kinds vars (ty_app e a) r
ty_app_told s kinds vars e a g (Some p) h t k = ty_app_typed g a (spine_found p) k (t k.1)
ty_app_told s kinds vars e a g None h t k = ty_app_untyped g a h k (t k.1)
