use Rattle.std.proofs.Common.{◌∙◌, [], ◌∷◌, sym, ap, subst, false}
use Rattle.chw_terms.specs.TermTree.{case_of}
use Rattle.chw_terms.specs.TermView.{alts_of}
use Rattle.chw_typing.specs.Scopes.{with_more}
use Rattle.rewriting.specs.Origins.{origins_of}
use Rattle.rewriting.specs.Active.{Below}
use Rattle.rewriting.specs.Spots.{spot, spot_of, scrutinee_mode}
use Rattle.active_parts.proofs.Heads.{no_scrutinee, scrutinee_below}
use Rattle.active_parts.proofs.Truths.{not_true}
use Rattle.active_parts.proofs.cases.scrutinee.Goals as goal

pub returns-then-not-branch : goal.returns-then-not-branch
returns-then-not-branch c at' x b =
    no_scrutinee (origins_of c.args.ground.now.scene.now) (spot_of c.args.place.now) c.args.on.now c.args.alts.now
    (λ h. not_true c.in_ok-is_unnamed.field-0 c.if-not-branch.true (c.in_ok-is_unnamed.ensures.1 h)) at' x b

pub returns : goal.returns
returns c =
    let o = origins_of c.args.ground.now.scene.now in
    let at = spot_of c.args.place.now in
    let on = c.args.on.now in
    let alts = alts_of c.args.alts.now in
    let mode = c.scrutinee_mode-mode.ensures ∙ ap (λ ds. scrutinee_mode ds at.mode alts) c.requires.ground.table.constructors in
    subst (λ ts. Below o at (case_of on alts) (0 ∷ []) (spot c.scrutinee_mode-mode.result false (with_more ts at.vars)) on)
    (sym c.new-more.ensures.items)
    (subst (λ m. Below o at (case_of on alts) (0 ∷ []) (spot m false at.vars) on) (sym mode)
    (scrutinee_below o at on c.args.alts.now (c.in_ok-is_unnamed.ensures.0 c.if-not-branch.false)))
