use Rattle.std.proofs.Common.{◌≡◌, ◌∙◌, ◌<◌, ◌++◌, sym, subst, length, None, true, false, arith}
use Rattle.std.specs.Option.{option_map}
use Rattle.std.proofs.lemmas.List.{take-append-drop}
use Rattle.std.proofs.lemmas.Result.{IfOk-weaker}
use Rattle.chw_terms.specs.declared.rule.Rule.TheVariants.{Eta}
use Rattle.chw_terms.specs.TermView.{applied}
use Rattle.rewriting.specs.Origins.{origins_of}
use Rattle.rewriting.specs.Spots.{spot_of}
use Rattle.rule_parts.specs.Cores.{Answers}
use Rattle.work_names.proofs.Made.{of_other, of_few, of_five}
use Rattle.work_names.proofs.trial.try_eta.Goals as goal

pub returns-then-not-is_fmap : goal.returns-then-not-is_fmap
returns-then-not-is_fmap c =
    let o = origins_of c.args.scene.now in
    let at = spot_of c.args.place.now in
    let h = c.at.inside.head in
    subst (λ e. Answers o at Eta e None) c.at.view_is
    (of_other o at h c.at.inside.args.items (λ is. let no : false ≡ true = sym c.if-not-is_fmap.true ∙ c.is_fmap.ensures.1 is in absurd cc))

pub returns-then-len-lt-FMAP_ARGS : goal.returns-then-len-lt-FMAP_ARGS
returns-then-len-lt-FMAP_ARGS c =
    let o = origins_of c.args.scene.now in
    let at = spot_of c.args.place.now in
    let h = c.at.inside.head in
    let args = c.at.inside.args in
    let few : length args.items < 5 = omega (arith, c.len.ensures, args.ok.0, c.if-len-lt-FMAP_ARGS.true) in
    subst (λ e. Answers o at Eta e None) c.at.view_is
    (of_few o at h args.items (c.is_fmap.ensures.0 c.if-not-is_fmap.false) few)

pub returns : goal.returns
returns c =
    let o = origins_of c.args.scene.now in
    let at = spot_of c.args.place.now in
    let h = c.at.inside.head in
    let items = c.at.inside.args.items in
    let args = c.split_at.result.0.now in
    let rest = c.split_at.result.1.now in
    let made = c.in_ok-made.made in
    let parts : items ≡ args ++ rest = sym c.deref.ensures.value ∙ sym (take-append-drop 5 c.deref.result.now) ∙ (λ i. sym c.split_at.ensures.front i ++ sym c.split_at.ensures.back i) in
    let all : Answers o at Eta c.args.at.now (option_map (λ e. applied e rest) made) =
    subst (λ e. Answers o at Eta e (option_map (λ e. applied e rest) made)) c.at.view_is
    (of_five o at h items args rest made (c.is_fmap.ensures.0 c.if-not-is_fmap.false) parts c.split_at.ensures.front_len c.in_ok-made.ensures) in
    IfOk-weaker c.with_rest.result _ _ (λ it is. subst (Answers o at Eta c.args.at.now) (sym is) all) c.with_rest.ensures
