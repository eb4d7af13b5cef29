use Rattle.std.proofs.Common.{[], sym, subst}
use Rattle.rewriting.specs.Origins.{origins_of, setting_at}
use Rattle.rewriting.specs.Spots.{spot_of}
use Rattle.term_types.specs.Answers.{IsReady}
use Rattle.specialise.proofs.Needs.{needs_found, found_is_named, decided}
use Rattle.specialise.proofs.calls.needs_name.Goals as goal

pub returns-then-is_variable : goal.returns-then-is_variable
returns-then-is_variable c =
    (λ t. absurd cc, λ needs. absurd (needs.no_variable (c.is_variable.ensures.0 c.if-is_variable.true)))

pub returns : goal.returns
returns c =
    let scene = c.args.scene.now in
    let o = origins_of scene in
    let at = spot_of c.args.place.now in
    let x = c.args.term.now in
    let t = c.in_ok-ty.ty in
    let ready : IsReady (setting_at o) [] at.vars =
    subst (λ s. IsReady s [] at.vars) (sym (c.settings_of_scenes.ensures.setting scene))
    c.requires.ready in
    decided o at x t c.as_slice.result.now c.is_named.result c.as_slice.ensures c.is_named.ensures
    (λ n. needs_found x t c.found_is_type.ensures
    (λ v. let yes = c.is_variable.ensures.1 v in let no = c.if-is_variable.false in absurd cc)
    c.in_ok-ty.ensures n)
    (found_is_named x t c.one_type.ensures c.types_are_term_types.ensures c.found_is_type.ensures
    c.names_of_modes.ensures.kept ready c.in_ok-ty.ensures)
