-- The parts of a term on arguments that has a type have types.
use Rattle.std.proofs.Common.{◌≡◌, subst, zero, suc, List, [], ◌∷◌}
use Rattle.chw_types.specs.TypeTree.{TypeTree}
use Rattle.chw_terms.specs.declared.term.Arg.{Arg}
use Rattle.chw_terms.specs.declared.term.Arg.TheVariants.{OfTerm, OfType}
use Rattle.chw_terms.specs.TermTree.{TermTree, app, ty_app}
use Rattle.chw_terms.specs.TermView.{applied}
use Rattle.chw_typing.specs.Scopes.{Setting}
use Rattle.chw_typing.specs.Typing.{HasType, h_app}
use Rattle.chw_typing.proofs.TypedSpines.{head_typed}
use Rattle.rewriting.specs.Origins.{Origins, setting_at}
use Rattle.rewriting.specs.Spots.{Spot}
use Rattle.rule_parts.specs.Cores.{HasTypeAt}
use Rattle.call_types.specs.Arguments.{AllTyped}

-- the head of a spine
pub core_typed : (o : Origins) (at : Spot) (e : TermTree) (args : List Arg)
    → HasTypeAt o at (applied e args) → HasTypeAt o at e
core_typed o at e args typed =
    let head = head_typed (setting_at o) [] at.vars e args typed.0 typed.1 in
    (head.0, head.1)

argument_of : {s : Setting} {vars : List TypeTree} {t : TypeTree} {e a : TermTree}
    → HasType s [] vars (app e a) t → (u : TypeTree) × HasType s [] vars a u
argument_of (h_app {c = c} f a x) = (c, a)

-- the arguments of a spine
pub arguments_typed : (o : Origins) (at : Spot) (e : TermTree) (args : List Arg)
    → HasTypeAt o at (applied e args) → AllTyped o at args
arguments_typed o at e [] typed i x is = absurd cc
arguments_typed o at e (OfTerm a ∷ args) typed zero x is =
    let same : a ≡ x = cc in
    subst (HasTypeAt o at) same (argument_of (core_typed o at (app e a) args typed).1)
arguments_typed o at e (OfType t ∷ args) typed zero x is = absurd cc
arguments_typed o at e (OfTerm a ∷ args) typed (suc i) x is =
    arguments_typed o at (app e a) args typed i x is
arguments_typed o at e (OfType t ∷ args) typed (suc i) x is =
    arguments_typed o at (ty_app e t) args typed i x is
