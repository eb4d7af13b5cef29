use Rattle.std.proofs.Common.{◌≡◌, ◌∙◌, Option, ap, sym, subst}
use Rattle.std.specs.Option.{option_map}
use Rattle.chw_terms.specs.TermTree.{TermTree, case_of}
use Rattle.chw_terms.specs.TermView.{tree_of, alts_of, applied}
use Rattle.rewriting.specs.Origins.{origins_of}
use Rattle.rewriting.specs.Spots.{spot_of}
use Rattle.seen_types.proofs.Matched.{ok_more}
use Rattle.rule_parts.specs.Cores.{Answers, AnswersCore}
use Rattle.flow_cases.proofs.Forms.{no_case}
use Rattle.flow_cases.proofs.Trials.{nothing_else, behind_head}
use Rattle.flow_cases.proofs.trial.try_cases.Goals as goal

pub returns-in_default : goal.returns-in_default
returns-in_default c =
    let h = c.at.inside.head in
    nothing_else (origins_of c.args.scene.now) (spot_of c.args.place.now) c.args.rule h c.at.inside.args.items c.args.at.now c.requires.rule (no_case h c.in_default.not-Case) c.at.view_is

pub returns : goal.returns
returns c =
    let o = origins_of c.args.scene.now in
    let at = spot_of c.args.place.now in
    let r = c.args.rule in
    let h = c.at.inside.head in
    let args = c.as_slice.result.now in
    let made = c.in_ok-made.made in
    let on : tree_of h ≡ case_of c.in-Case.on.value (alts_of c.in-Case.alts.items) = ap tree_of c.in-Case.is in
    let same : case_of c.deref.result.now (alts_of c.deref-2.result.now) ≡ tree_of h = (λ i. case_of (c.deref.ensures i) (alts_of (c.deref-2.ensures.value i))) ∙ sym on in
    let core : AnswersCore o at r (tree_of h) made = subst (λ e. AnswersCore o at r e made) same c.in_ok-made.ensures in
    let whole : applied (tree_of h) args ≡ c.args.at.now = ap (applied (tree_of h)) c.as_slice.ensures.value ∙ c.at.view_is in
    let all : Answers o at r c.args.at.now (option_map (λ e. applied e args) made) = behind_head o at r h args c.args.at.now made c.requires.rule core whole in
    ok_more c.with_rest.result (λ (it : Option TermTree). it ≡ option_map (λ e. applied e args) made) (Answers o at r c.args.at.now)
    (λ it is. subst (Answers o at r c.args.at.now) (sym is) all) c.with_rest.ensures
