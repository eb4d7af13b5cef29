use Rattle.std.proofs.Common.{◌≡◌, List, Some, None, option_map, sym, ap, ◌∙◌, reverse}
use Rattle.chw_terms.specs.declared.term.Arg.{Arg}
use Rattle.chw_terms.specs.TermView.{tree_of}
use Rattle.chw_typing.specs.Scopes.{setting_in}
use Rattle.call_types.specs.CallTypes.{call_type, given_by_each}
use Rattle.call_types.proofs.Heads.{call_of_head, nothing_given}
use Rattle.call_types.proofs.calls.type_of_call.Goals as goal

pub returns-in-Some : goal.returns-in-Some
returns-in-Some c =
    let s = setting_in c.args.scene.now in
    let vars = reverse c.args.vars.now in
    let head = tree_of c.term.inside.head in
    let args = c.term.inside.args.items in
    let known : Some c.in-Some.ty.now ≡ call_type s vars head = ap (λ o. option_map (λ t. t.now) o) (sym c.in-Some.is) ∙ c.type_of_head.ensures in
    c.behind.ensures
    ∙ ap (λ (more : List Arg). given_by_each (Some c.in-Some.ty.now) more) c.deref.ensures.value
    ∙ ap (λ o. given_by_each o args) known
    ∙ call_of_head s vars head args
    ∙ ap (λ e. call_type s vars e) c.term.view_is

pub returns-in-None : goal.returns-in-None
returns-in-None c =
    let s = setting_in c.args.scene.now in
    let vars = reverse c.args.vars.now in
    let head = tree_of c.term.inside.head in
    let args = c.term.inside.args.items in
    let unknown : None ≡ call_type s vars head = ap (λ o. option_map (λ t. t.now) o) (sym c.in-None.is) ∙ c.type_of_head.ensures in
    sym (nothing_given args)
    ∙ ap (λ o. given_by_each o args) unknown
    ∙ call_of_head s vars head args
    ∙ ap (λ e. call_type s vars e) c.term.view_is
