use Rattle.std.proofs.Common.{◌≡◌, [], reverse, option_map, Some, sym, ap, ◌∙◌, subst}
use Rattle.std.proofs.lemmas.Result.{IfOk-weaker}
use Rattle.chw_typing.specs.Finding.{Finds}
use Rattle.chw_typing.specs.Scopes.{setting_in}
use Rattle.call_types.specs.CallTypes.{call_type}
use Rattle.call_types.proofs.Heads.{found_by_head}
use Rattle.call_types.proofs.typed.type_of_typed.Goals as goal

pub returns-in-Some : goal.returns-in-Some
returns-in-Some c =
    let s = setting_in c.args.scene.now in
    let vars = reverse c.args.vars.now in
    let e = c.args.term.now in
    let t = c.in-Some.ty.now in
    let by_head : call_type s vars e ≡ Some t =
    sym c.type_of_call.ensures ∙ ap (λ o. option_map (λ t. t.now) o) c.in-Some.is in
    let found = c.typed_is_found.ensures s [] vars e c.requires.typed.0 c.requires.ready.0 c.requires.ready.1 c.requires.typed.1 in
    let same : found.0 ≡ t = found_by_head s vars e t found.0 by_head found.1 in
    IfOk-weaker c.copy.result (λ r. r ≡ t) (λ r. Finds s [] vars e r)
    (λ r is. subst (Finds s [] vars e) (same ∙ sym is) found.1)
    c.copy.ensures
