use Rattle.std.proofs.Common.{◌≡◌, ◌∙◌, [], ◌∷◌, Option, None, ap, sym, subst}
use Rattle.std.specs.Option.{option_map}
use Rattle.std.proofs.lemmas.List.{nil_from_length}
use Rattle.chw_terms.specs.TermTree.{TermTree}
use Rattle.chw_terms.specs.TermView.{tree_of, applied}
use Rattle.rewriting.specs.Origins.{origins_of}
use Rattle.rewriting.specs.Spots.{spot_of}
use Rattle.seen_types.proofs.Matched.{ok_more}
use Rattle.rule_parts.specs.Cores.{Answers}
use Rattle.flow_functions.proofs.Firsts.{nothing_alone, behind_first}
use Rattle.flow_functions.proofs.trial.try_function.Goals as goal

pub returns-in_default : goal.returns-in_default
returns-in_default c =
    let o = origins_of c.args.scene.now in
    let at = spot_of c.args.place.now in
    let h = c.at.inside.head in
    let none : c.at.inside.args.items ≡ [] = sym c.deref.ensures.value ∙ nil_from_length _ c.in_default.ensures.cases in
    let whole : tree_of h ≡ c.args.at.now = ap (applied (tree_of h)) (sym none) ∙ c.at.view_is in
    subst (λ e. Answers o at c.args.rule e None) whole (nothing_alone o at c.args.rule h c.requires.rule)

pub returns : goal.returns
returns c =
    let o = origins_of c.args.scene.now in
    let at = spot_of c.args.place.now in
    let r = c.args.rule in
    let h = c.at.inside.head in
    let a = c.in-Some.first.now in
    let rest = c.in-Some.rest.now in
    let made = c.in_ok-made.made in
    let args : c.at.inside.args.items ≡ a ∷ rest = sym c.deref.ensures.value ∙ c.in-Some.ensures.cases.0 in
    let whole : applied (tree_of h) (a ∷ rest) ≡ c.args.at.now = ap (applied (tree_of h)) (sym args) ∙ c.at.view_is in
    let all : Answers o at r c.args.at.now (option_map (λ e. applied e rest) made) =
    subst (λ e. Answers o at r e (option_map (λ e. applied e rest) made)) whole (behind_first o at r h a rest made c.requires.rule c.in_ok-made.ensures) in
    ok_more c.with_rest.result (λ (it : Option TermTree). it ≡ option_map (λ e. applied e rest) made) (Answers o at r c.args.at.now)
    (λ it is. subst (Answers o at r c.args.at.now) (sym is) all) c.with_rest.ensures
