use Rattle.std.proofs.Common.{◌≡◌, Some, None, subst, ◌∙◌}
use Rattle.std.specs.Prelude.{reverse}
use Rattle.chw_terms.specs.Constructors.{con_at}
use Rattle.con_places.specs.Constructing.{constructor_of}
use Rattle.chw_typing.specs.Scopes.{setting_in}
use Rattle.term_types.proofs.Plain.{con_told, con_missing}
use Rattle.term_types.proofs.heads.made_constructor.Goals as goal

pub returns-in_ok-ty-in-Some : goal.returns-in_ok-ty-in-Some
returns-in_ok-ty-in-Some c =
    let s = setting_in c.args.scene.now in
    let n = c.args.at.number in
    let it = c.in-Some.it in
    let at = subst (λ ds. con_at ds n ≡ Some (constructor_of it)) c.requires.table.constructors c.in-Some.ensures.is in
    con_told s (reverse c.args.kinds.now) c.args.vars.now.vars n (constructor_of it) c.made.result c.with_kind.result c.requires.ready.0 at (c.made.ensures ∙ c.in_ok-ty-in-Some.ensures.is) c.with_kind.ensures

pub returns-in-None : goal.returns-in-None
returns-in-None c = con_missing c.args.at.number (subst (λ ds. con_at ds c.args.at.number ≡ None) c.requires.table.constructors c.in-None.ensures)
