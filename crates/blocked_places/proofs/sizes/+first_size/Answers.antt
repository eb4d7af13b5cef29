use Rattle.std.proofs.Common.{◌≡◌, ◌∙◌, [], ◌∷◌, sym, ap, subst}
use Rattle.chw_types.specs.TypeTree.{fun, vector}
use Rattle.chw_types.specs.TypeView.{tree_of}
use Rattle.normal_forms.specs.Blocked.{Size, of_vector, of_word, sizes_in, IsOver}
use Rattle.blocked_places.specs.Firsts.{FindsOf, FindsFirstOf}
use Rattle.blocked_places.proofs.Firsts.{first_alone, found_in_item, found_after_item, found_behind}
use Rattle.blocked_places.proofs.Results.{ok_more}
use Rattle.blocked_places.proofs.Words.{size_of_word}
use Rattle.blocked_places.proofs.sizes.+first_size.Goals as goal

pub returns-then-is_some-2 : goal.returns-then-is_some-2
returns-then-is_some-2 t c =
    let P = IsOver c.args.types.now in
    let n = c.in-Vec.n.value in
    let of = c.in-Vec.of.value in
    let found = c.in_ok-first-in-Vec.first in
    let form : c.args.ty.now ≡ vector n of = sym c.ty.view_is ∙ ap tree_of c.in-Vec.is in
    let here = subst (λ z. FindsOf Size P (of_vector z) found) c.deref-in-Vec.ensures c.in_ok-first-in-Vec.ensures in
    subst (λ u. FindsFirstOf Size P (sizes_in u) found) (sym form)
    (found_in_item Size P (of_vector n) (sizes_in of) found (sym c.is_some-in-Vec.ensures ∙ c.if-is_some-2.true) here)

pub returns-else-is_some : goal.returns-else-is_some
returns-else-is_some t c =
    let P = IsOver c.args.types.now in
    let from = c.in-Fun.from.value in
    let to = c.in-Fun.to.value in
    let found = c.in_ok-first-in-Fun.first in
    let form : c.args.ty.now ≡ fun from to = sym c.ty.view_is ∙ ap tree_of c.in-Fun.is in
    let here = subst (λ z. FindsFirstOf Size P (sizes_in z) found) c.deref-in-Fun.ensures c.in_ok-first-in-Fun.ensures in
    ok_more c.first_size-in-Fun-2.result _ _
    (λ answer more. subst (λ u. FindsFirstOf Size P (sizes_in u) answer) (sym form)
    (found_behind Size P (sizes_in from) (sizes_in to) found answer (sym c.is_some.ensures ∙ c.if-is_some.false) here
    (subst (λ z. FindsFirstOf Size P (sizes_in z) answer) c.deref-in-Fun-2.ensures more)))
    c.first_size-in-Fun-2.ensures

pub returns-else-is_some-2 : goal.returns-else-is_some-2
returns-else-is_some-2 t c =
    let P = IsOver c.args.types.now in
    let n = c.in-Vec.n.value in
    let of = c.in-Vec.of.value in
    let found = c.in_ok-first-in-Vec.first in
    let form : c.args.ty.now ≡ vector n of = sym c.ty.view_is ∙ ap tree_of c.in-Vec.is in
    let here = subst (λ z. FindsOf Size P (of_vector z) found) c.deref-in-Vec.ensures c.in_ok-first-in-Vec.ensures in
    ok_more c.first_size-in-Vec.result _ _
    (λ answer more. subst (λ u. FindsFirstOf Size P (sizes_in u) answer) (sym form)
    (found_after_item Size P (of_vector n) (sizes_in of) found answer (sym c.is_some-in-Vec.ensures ∙ c.if-is_some-2.false) here
    (subst (λ z. FindsFirstOf Size P (sizes_in z) answer) c.deref-in-Vec-2.ensures more)))
    c.first_size-in-Vec.ensures

pub returns-in-Unsigned : goal.returns-in-Unsigned
returns-in-Unsigned t c =
    let P = IsOver c.args.types.now in
    let k = c.in-Unsigned.k in
    let sizes : sizes_in c.args.ty.now ≡ of_word k.value ∷ [] =
    ap sizes_in (sym c.ty.view_is) ∙ size_of_word c.ty.inside.node k c.in-Unsigned.is in
    ok_more c.too_wide.result _ _
    (λ answer h. subst (λ xs. FindsFirstOf Size P xs answer) (sym sizes)
    (first_alone Size P (of_word k.value) answer (subst (λ z. FindsOf Size P (of_word z) answer) c.deref-in-Unsigned.ensures h)))
    c.too_wide.ensures
