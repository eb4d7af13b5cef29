use Rattle.std.proofs.Common.{◌≡◌, ◌∙◌, IfOk, Some, None, length, refl, sym, subst}
use Rattle.std.specs.List.{slice_get}
use Rattle.std.proofs.lemmas.Bool.{ltb-true, ltb-false}
use Rattle.std.proofs.lemmas.Option.{slice_get_read, slice_get_past}
use Rattle.specialise.proofs.Closed.{origin_there, no_origin}
use Rattle.specialise.proofs.closing.origin_at.Goals as goal

pub returns-in-Some : goal.returns-in-Some
returns-in-Some c =
    let made = c.args.scene.now.made.now in
    let n = c.args.at.number in
    let it = c.in-Some.it.now in
    let read : slice_get made n ≡ Some it =
    slice_get_read made (length made) n it refl (ltb-true _ _ (sym c.in-Some.ensures.lookup.0))
    c.in-Some.ensures.lookup.1 in
    subst (λ y. IfOk c.copy.result (λ e. e ≡ y))
    (origin_there c.args.scene.now.program.now made n it read) c.copy.ensures

pub returns-in-None : goal.returns-in-None
returns-in-None c =
    let made = c.args.scene.now.made.now in
    let n = c.args.at.number in
    let none : slice_get made n ≡ None =
    slice_get_past made n (ltb-false _ _ (sym c.in-None.ensures.lookup.0)) in
    c.made.ensures ∙ no_origin c.args.scene.now.program.now made n none
