use Rattle.std.proofs.Common.{◌≡◌, ◌∙◌, [], length, sym, ap, subst, arith, reverse, IfOk}
use Rattle.std.proofs.lemmas.Bool.{eqb-false}
use Rattle.chw_terms.specs.TermView.{tree_of, applied}
use Rattle.chw_typing.specs.Scopes.{setting_in}
use Rattle.chw_typing.specs.Paths.{argument_path}
use Rattle.rewriting.specs.Origins.{origins_of}
use Rattle.rewriting.specs.Spots.{spot_of}
use Rattle.active_parts.specs.Grounds.{IsTypedAt}
use Rattle.active_parts.specs.Parts.{around, arguments_of, path_to, FindsPart}
use Rattle.active_parts.proofs.Scoped.{around_application}
use Rattle.active_parts.proofs.Spines.{all_arguments, path_of_argument}
use Rattle.active_parts.proofs.Ways.{within_some}
use Rattle.active_parts.proofs.parts.part_at.Goals as goal

pub argument_at-requires-clause-typed : goal.argument_at-requires-clause-typed
argument_at-requires-clause-typed c =
    let s = setting_in c.args.ground.now.scene.now in
    let place = c.args.place.now in
    let h = tree_of c.at.inside.head in
    let args = c.at.inside.args.items in
    let some = λ (none : args ≡ []).
    let empty = ap length none in
    eqb-false _ _ (sym c.is_empty.ensures ∙ c.if-is_empty.false) (omega (arith, empty, c.at.inside.args.ok.0)) in
    let whole = subst (λ e. IsTypedAt s (around place e) e) (sym c.at.view_is) c.requires.typed in
    subst (λ xs. IsTypedAt s (spot_of place) (applied h xs)) (sym c.deref.ensures.value)
    (subst (λ at. IsTypedAt s at (applied h args)) (around_application place h args some) whole)

pub argument_at-requires-clause-number : goal.argument_at-requires-clause-number
argument_at-requires-clause-number c =
    let args = c.at.inside.args.items in
    let n = arguments_of c.args.at.now in
    let all : n ≡ length args = ap arguments_of (sym c.at.view_is) ∙ all_arguments c.at.inside.head args in
    let same = ap length c.deref.ensures.value in
    let some = λ (none : n ≡ 0).
    eqb-false _ _ (sym c.is_empty.ensures ∙ c.if-is_empty.false) (omega (arith, none, all, c.at.inside.args.ok.0)) in
    let within = within_some n c.args.number some c.requires.number in
    omega (arith, within, all, same)

pub returns : goal.returns
returns c =
    let o = origins_of c.args.ground.now.scene.now in
    let place = c.args.place.now in
    let head = c.at.inside.head in
    let args = c.at.inside.args.items in
    let whole = applied (tree_of head) args in
    let n = c.args.number in
    let vars = reverse place.vars in
    let r = c.argument_at.result in
    let path = argument_path n (length args) in
    let some = λ (none : args ≡ []).
    let empty = ap length none in
    eqb-false _ _ (sym c.is_empty.ensures ∙ c.if-is_empty.false) (omega (arith, empty, c.at.inside.args.ok.0)) in
    let found = subst (λ xs. IfOk r (FindsPart o (spot_of place) (applied (tree_of head) xs) (argument_path n (length xs)) vars)) c.deref.ensures.value c.argument_at.ensures in
    let there = subst (λ at. IfOk r (FindsPart o at whole path vars)) (sym (around_application place (tree_of head) args some)) found in
    let by_path = subst (λ p. IfOk r (FindsPart o (around place whole) whole p vars)) (path_of_argument head args n some) there in
    subst (λ e. IfOk r (FindsPart o (around place e) e (path_to e n) vars)) c.at.view_is by_path
