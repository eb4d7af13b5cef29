use Rattle.std.proofs.Common.{◌≡◌, ◌<◌, ◌+◌, ◌-◌, suc, length, drop, take, get_or, arith, ap, sym, ◌∙◌, Some}
use Rattle.std.proofs.lemmas.List.{length-drop, take_rest}
use Rattle.std.specs.Prelude.{vec_len}
use Rattle.chw_terms.specs.TermView.{tree_of, applied}
use Rattle.chw_terms.proofs.Deep.{some_there}
use Rattle.chw_typing.specs.PartSpines.{spine_at}
use Rattle.chw_typing.specs.Steps.{LeadsTo}
use Rattle.chw_typing.proofs.FrontZeros.{next_there, all_zeros}
use Rattle.chw_typing.proofs.PartPlaces.{match_map, if_map, none_at_zeros, spine_next, spine_is_part}
use Rattle.chw_typing.proofs.finding.+part.Goals as goal

pub returns-then-zeros-path-clause-whole : goal.returns-then-zeros-path-clause-whole
returns-then-zeros-path-clause-whole t c =
    let z = c.zeros_in_front-zeros.result in
    let args = c.term.inside.args.items in
    let counted : vec_len c.term.inside.args ≡ length args = omega (arith, c.term.inside.args.ok.0) in
    let within : z < length args + 1 = omega (arith, c.zeros_in_front-zeros.ensures.most_of, c.len.ensures, counted) in
    ap (λ e. spine_at e c.args.path.now) (sym c.term.view_is)
    ∙ none_at_zeros args (tree_of c.term.inside.head) c.args.path.now z within (some_there (length c.args.path.now) (sym c.is_empty.ensures ∙ c.if-is_empty.false)) (all_zeros c.args.path.now _ z c.zeros_in_front-zeros.ensures c.if-zeros-path.true)

pub below-requires-clause-ends : goal.below-requires-clause-ends
below-requires-clause-ends t c = λ less. c.zeros_in_front-zeros.ensures.ends (omega (arith, c.deref.ensures.len)) (omega (arith, c.zeros_in_front-zeros.ensures.within))

pub part-requires : goal.part-requires
part-requires t c =
    let z = c.zeros_in_front-zeros.result in
    (omega (arith, c.decreases, ap length (take_rest c.args.path.now (z + 1)), length-drop (z + 1) c.args.path.now, c.zeros_in_front-zeros.ensures.within), tt)

pub returns-clause-whole : goal.returns-clause-whole
returns-clause-whole t c =
    let path = c.args.path.now in
    let z = c.zeros_in_front-zeros.result in
    let next = c.in_ok-next.next.now in
    let head = tree_of c.term.inside.head in
    let leads : LeadsTo (applied head c.deref.result.now) z (get_or path z 0) (Some next) = c.in_ok-next.ensures in
    let spine : applied head c.deref.result.now ≡ c.args.term.now = ap (applied head) c.deref.ensures.value ∙ c.term.view_is in
    let before : z < length path = omega (arith, c.zeros_in_front-zeros.ensures.within) in
    let more : z + 1 ≡ suc z = omega arith in
    let rest : take (length path - (z + 1)) (drop (z + 1) path) ≡ drop (suc z) path = take_rest path (z + 1) ∙ ap (λ k. drop k path) more in
    let way : spine_at c.args.term.now path ≡ spine_at next (take (length path - (z + 1)) (drop (z + 1) path)) =
    ap (λ e. spine_at e path) (sym spine)
    ∙ spine_next (applied head c.deref.result.now) next path (drop (suc z) path) z (get_or path z 0) leads (next_there path _ z c.zeros_in_front-zeros.ensures before)
    ∙ ap (spine_at next) (sym rest) in
    match_map c.part.result _ _ _ _ (λ none. way ∙ none) (λ x some. way ∙ some) c.part.ensures.whole

pub returns-clause-part : goal.returns-clause-part
returns-clause-part t c =
    if_map c.part.result _ _ _ (λ x some. spine_is_part c.args.path.now c.args.term.now x.now some) (returns-clause-whole t c)
