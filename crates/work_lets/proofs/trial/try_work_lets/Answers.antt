use Rattle.std.proofs.Common.{◌≡◌, ◌∙◌, ap, sym, subst, Option}
use Rattle.std.specs.Option.{option_map}
use Rattle.std.proofs.lemmas.Result.{IfOk-weaker}
use Rattle.chw_terms.specs.TermTree.{TermTree}
use Rattle.chw_terms.specs.TermView.{tree_of, applied}
use Rattle.rewriting.specs.Origins.{origins_of}
use Rattle.rewriting.specs.Spots.{spot_of}
use Rattle.rule_parts.specs.Cores.{Answers}
use Rattle.rule_parts.proofs.Heads.{bare, of_head}
use Rattle.work_lets.proofs.Lets.{of_bare}
use Rattle.work_lets.proofs.trial.try_work_lets.Goals as goal

pub returns : goal.returns
returns c =
    let o = origins_of c.args.scene.now in
    let at = spot_of c.args.place.now in
    let r = c.args.rule in
    let h = c.at.inside.head in
    let args = c.deref.result.now in
    let made = c.in_ok-made.made in
    let whole : applied (tree_of h) args ≡ c.args.at.now = ap (applied (tree_of h)) c.deref.ensures.value ∙ c.at.view_is in
    let all : Answers o at r c.args.at.now (option_map (λ e. applied e args) made) =
    subst (λ e. Answers o at r e (option_map (λ e. applied e args) made)) whole (of_head o at r (tree_of h) args made (of_bare r c.requires.rule) (bare h) c.in_ok-made.ensures) in
    IfOk-weaker c.with_rest.result (λ (it : Option TermTree). it ≡ option_map (λ e. applied e args) made) (Answers o at r c.args.at.now)
    (λ it is. subst (Answers o at r c.args.at.now) (sym is) all) c.with_rest.ensures
