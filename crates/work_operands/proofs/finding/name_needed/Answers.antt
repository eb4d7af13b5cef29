use Rattle.std.proofs.Common.{◌≡◌, true, [], sym, subst}
use Rattle.rewriting.specs.Named.{IsNamed}
use Rattle.rewriting.specs.Origins.{origins_of, setting_at}
use Rattle.rewriting.specs.Spots.{spot_of}
use Rattle.term_types.specs.Answers.{IsReady}
use Rattle.seen_types.proofs.Matched.{not_true}
use Rattle.work_operands.proofs.Needs.{needs_found, found_is_named}
use Rattle.work_operands.proofs.finding.name_needed.Goals as goal

pub returns-then-branch : goal.returns-then-branch
returns-then-branch c =
    let at = spot_of c.args.place.now in
    let t = c.in_ok-ty.ty in
    needs_found c.args.term.now t c.found_is_type.ensures
    (λ v.
    not_true c.is_variable.result c.if-is_variable.false (c.is_variable.ensures.1 v))
    c.in_ok-ty.ensures
    (subst (λ datas. IsNamed datas at.mode t) c.as_slice.ensures
    (c.in_ok-is_named.ensures.0 c.if-branch.true))

pub returns : goal.returns
returns c needs =
    let scene = c.args.scene.now in
    let o = origins_of scene in
    let at = spot_of c.args.place.now in
    let x = c.args.term.now in
    let t = c.in_ok-ty.ty in
    let ready : IsReady (setting_at o) [] at.vars =
    subst (λ s. IsReady s [] at.vars) (sym (c.settings_of_scenes.ensures.setting scene))
    c.requires.ready in
    let named : IsNamed o.program.datas at.mode t =
    found_is_named x t c.one_type.ensures c.types_are_term_types.ensures c.found_is_type.ensures
    c.names_of_modes.ensures.kept ready c.in_ok-ty.ensures needs in
    let yes : c.in_ok-is_named.field-0 ≡ true =
    c.in_ok-is_named.ensures.1
    (subst (λ datas. IsNamed datas at.mode t) (sym c.as_slice.ensures) named) in
    let no = c.if-branch.false in
    absurd cc
