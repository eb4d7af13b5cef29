use Rattle.std.proofs.Common.{◌≡◌, ◌<◌, ◌+◌, ◌-◌, suc, length, drop, take, get_or, set, ◌∷◌, ◌++◌, arith, ap, sym, ◌∙◌, subst, refl, vec_len}
use Rattle.std.proofs.lemmas.List.{length-drop, take_rest}
use Rattle.chw_terms.proofs.Deep.{some_there}
use Rattle.chw_terms.specs.declared.term.Arg.{Arg}
use Rattle.chw_terms.specs.declared.term.Arg.TheVariants.{OfTerm}
use Rattle.chw_terms.specs.declared.term.Head.{Head}
use Rattle.chw_terms.specs.TermTree.{lam, ty_lam, letrec, vec_lit}
use Rattle.chw_terms.specs.TermView.{tree_of, terms_of, group_of, applied}
use Rattle.chw_typing.specs.PartSpines.{spine_at}
use Rattle.chw_typing.proofs.FrontZeros.{next_there, all_zeros}
use Rattle.chw_typing.proofs.PartPlaces.{none_at_zeros}
use Rattle.chw_typing.proofs.Puts.{no_argument, none_in_group, none_in_vector, none_in_case, written_back}
use Rattle.moved_in_place.specs.Swapped.{IsSwapped, IsSwappedInArg}
use Rattle.moved_in_place.proofs.Swaps.{swapped_in_body, nothing_in_body, swapped_in_argument, swapped_in_side, swapped_in_group, swapped_in_element, swapped_in_scrutinee, swapped_in_branch, swapped_at_head, swapped_at_argument}
use Rattle.moved_in_place.proofs.swapping.+swap_at.Goals as goal

pub swap_in_case-returns-then-i-eq0 : goal.swap_in_case-returns-then-i-eq0
swap_in_case-returns-then-i-eq0 t c =
    swapped_in_scrutinee c.args.on.now c.args.other.now c.swap_at.new.term c.swap_at.new.other c.args.alts.now c.args.i c.args.rest.now c.swap_at.result c.if-i-eq0.true c.swap_at.ensures

pub swap_in_case-returns-then-at-alts : goal.swap_in_case-returns-then-at-alts
swap_in_case-returns-then-at-alts t c =
    swapped_in_branch c.args.on.now c.args.other.now c.swap_at-then-at-alts.new.term c.swap_at-then-at-alts.new.other c.args.alts.now c.args.i (c.args.i - 1) c.args.rest.now c.index-alts-at.result c.swap_at-then-at-alts.result (omega arith) c.if-at-alts.true c.swap_at-then-at-alts.ensures

pub swap_in_case-returns-else-at-alts : goal.swap_in_case-returns-else-at-alts
swap_in_case-returns-else-at-alts t c = (none_in_case c.args.on.now c.args.other.now c.args.alts.now c.args.i (c.args.i - 1) c.args.rest.now (omega arith) c.if-at-alts.false, refl)

pub swap_in_elements-returns-then-at-elements : goal.swap_in_elements-returns-then-at-elements
swap_in_elements-returns-then-at-elements t c =
    λ a. swapped_in_element a c.args.elements.now c.args.other.now c.swap_at.new.term c.swap_at.new.other c.args.i c.args.rest.now c.index-elements-at.result c.swap_at.result c.if-at-elements.true c.swap_at.ensures

pub swap_in_elements-returns-else-at-elements : goal.swap_in_elements-returns-else-at-elements
swap_in_elements-returns-else-at-elements t c = λ a. (none_in_vector a c.args.elements.now c.args.other.now c.args.i c.args.rest.now c.if-at-elements.false, refl)

pub swap_in_group-returns-then-side-bindings : goal.swap_in_group-returns-then-side-bindings
swap_in_group-returns-then-side-bindings t c =
    swapped_in_side c.args.bindings.now c.args.body.now c.args.other.now c.swap_at.new.term c.swap_at.new.other c.args.i c.args.rest.now c.index-bindings-side.result c.swap_at.result c.if-side-bindings.true c.swap_at.ensures

pub swap_in_group-returns-then-side-bindings-2 : goal.swap_in_group-returns-then-side-bindings-2
swap_in_group-returns-then-side-bindings-2 t c =
    swapped_in_group c.args.bindings.now c.args.body.now c.args.other.now c.swap_at-then-side-bindings-2.new.term c.swap_at-then-side-bindings-2.new.other c.args.i c.args.rest.now c.swap_at-then-side-bindings-2.result c.if-side-bindings-2.true c.swap_at-then-side-bindings-2.ensures

pub swap_in_group-returns-else-side-bindings-2 : goal.swap_in_group-returns-else-side-bindings-2
swap_in_group-returns-else-side-bindings-2 t c = (none_in_group c.args.bindings.now c.args.body.now c.args.other.now c.args.i c.args.rest.now (omega arith), refl)

pub swap_in_body-returns-then-i-eq0 : goal.swap_in_body-returns-then-i-eq0
swap_in_body-returns-then-i-eq0 t c =
    swapped_in_body c.args.body.now c.args.other.now c.swap_at.new.term c.swap_at.new.other c.args.i c.args.rest.now c.swap_at.result c.if-i-eq0.true c.swap_at.ensures

pub swap_in_body-returns-else-i-eq0 : goal.swap_in_body-returns-else-i-eq0
swap_in_body-returns-else-i-eq0 t c = nothing_in_body c.args.body.now c.args.other.now c.args.i c.args.rest.now c.if-i-eq0.false

pub swap_in_term-returns-then-i-eq1 : goal.swap_in_term-returns-then-i-eq1
swap_in_term-returns-then-i-eq1 t c =
    λ f. swapped_in_argument f c.args.e.now c.args.other.now c.swap_at.new.term c.swap_at.new.other c.args.i c.args.rest.now c.swap_at.result c.if-i-eq1.true c.swap_at.ensures

pub swap_in_term-returns-else-i-eq1 : goal.swap_in_term-returns-else-i-eq1
swap_in_term-returns-else-i-eq1 t c = λ f. (no_argument f c.args.e.now c.args.other.now c.args.i c.args.rest.now c.requires c.if-i-eq1.false, refl)

pub swap_in_arg-returns-in-OfTerm : goal.swap_in_arg-returns-in-OfTerm
swap_in_arg-returns-in-OfTerm t c =
    subst (λ (a : Arg). IsSwappedInArg a (c.args.i ∷ c.args.rest.now) c.args.other.now (OfTerm c.swap_in_term.new.e) c.swap_in_term.new.other c.swap_in_term.result) (sym c.in-OfTerm.is) c.swap_in_term.ensures

pub swap_in_head-returns-in-Lam : goal.swap_in_head-returns-in-Lam
swap_in_head-returns-in-Lam t c =
    let path = c.args.i ∷ c.args.rest.now in
    let a = c.in-Lam.field-0 in
    let x = c.args.other.now in
    let y = c.swap_in_body.new.other in
    subst (λ (h : Head). IsSwapped (tree_of h) path x (lam a c.swap_in_body.new.body) y c.swap_in_body.result) (sym c.in-Lam.is)
    (subst (λ e. IsSwapped (lam a e) path x (lam a c.swap_in_body.new.body) y c.swap_in_body.result) c.deref_mut.ensures.value (c.swap_in_body.ensures.0 a))

pub swap_in_head-returns-in-TyLam : goal.swap_in_head-returns-in-TyLam
swap_in_head-returns-in-TyLam t c =
    let path = c.args.i ∷ c.args.rest.now in
    let k = c.in-TyLam.field-0 in
    let x = c.args.other.now in
    let new = c.swap_in_body-in-TyLam.new.body in
    let y = c.swap_in_body-in-TyLam.new.other in
    subst (λ (h : Head). IsSwapped (tree_of h) path x (ty_lam k new) y c.swap_in_body-in-TyLam.result) (sym c.in-TyLam.is)
    (subst (λ e. IsSwapped (ty_lam k e) path x (ty_lam k new) y c.swap_in_body-in-TyLam.result) c.deref_mut-in-TyLam.ensures.value (c.swap_in_body-in-TyLam.ensures.1 k))

pub swap_in_head-returns-in-LetRec : goal.swap_in_head-returns-in-LetRec
swap_in_head-returns-in-LetRec t c =
    let path = c.args.i ∷ c.args.rest.now in
    let items = c.in-LetRec.bindings.items in
    let x = c.args.other.now in
    let new = c.swap_in_group.new.bindings in
    let body = c.swap_in_group.new.body in
    let y = c.swap_in_group.new.other in
    let back : take c.in-LetRec.bindings.len (new ++ drop (length new) items) ≡ new =
    written_back c.in-LetRec.bindings.len new items (omega (arith, c.swap_in_group.auto.bindings, ap length c.deref_mut-in-LetRec.ensures.value)) (omega (arith, c.in-LetRec.bindings.ok.0)) in
    subst (λ (h : Head). IsSwapped (tree_of h) path x (letrec (group_of (take c.in-LetRec.bindings.len (new ++ drop (length new) items))) body) y c.swap_in_group.result) (sym c.in-LetRec.is)
    (subst (λ bs. IsSwapped (letrec (group_of items) c.in-LetRec.body.value) path x (letrec (group_of bs) body) y c.swap_in_group.result) (sym back)
    (subst (λ bs. IsSwapped (letrec (group_of bs) c.in-LetRec.body.value) path x (letrec (group_of new) body) y c.swap_in_group.result) c.deref_mut-in-LetRec.ensures.value
    (subst (λ e. IsSwapped (letrec (group_of c.deref_mut-in-LetRec.result.now) e) path x (letrec (group_of new) body) y c.swap_in_group.result) c.deref_mut-in-LetRec-2.ensures.value c.swap_in_group.ensures)))

pub swap_in_head-returns-in-VecLit : goal.swap_in_head-returns-in-VecLit
swap_in_head-returns-in-VecLit t c =
    let path = c.args.i ∷ c.args.rest.now in
    let a = c.in-VecLit.field-0 in
    let items = c.in-VecLit.elements.items in
    let x = c.args.other.now in
    let new = c.swap_in_elements.new.elements in
    let y = c.swap_in_elements.new.other in
    let back : take c.in-VecLit.elements.len (new ++ drop (length new) items) ≡ new =
    written_back c.in-VecLit.elements.len new items (omega (arith, c.swap_in_elements.auto.elements, ap length c.deref_mut-in-VecLit.ensures.value)) (omega (arith, c.in-VecLit.elements.ok.0)) in
    subst (λ (h : Head). IsSwapped (tree_of h) path x (vec_lit a (terms_of (take c.in-VecLit.elements.len (new ++ drop (length new) items)))) y c.swap_in_elements.result) (sym c.in-VecLit.is)
    (subst (λ es. IsSwapped (vec_lit a (terms_of items)) path x (vec_lit a (terms_of es)) y c.swap_in_elements.result) (sym back)
    (subst (λ es. IsSwapped (vec_lit a (terms_of es)) path x (vec_lit a (terms_of new)) y c.swap_in_elements.result) c.deref_mut-in-VecLit.ensures.value (c.swap_in_elements.ensures a)))

pub swap_at-returns-then-zeros-path : goal.swap_at-returns-then-zeros-path
swap_at-returns-then-zeros-path t c =
    let z = c.zeros_in_front-zeros.result in
    let args = c.term.inside.args.items in
    let counted : vec_len c.term.inside.args ≡ length args = omega (arith, c.term.inside.args.ok.0) in
    let within : z < length args + 1 = omega (arith, c.zeros_in_front-zeros.ensures.most_of, c.len.ensures, counted) in
    let none =
    ap (λ e. spine_at e c.args.path.now) (sym c.term.view_is)
    ∙ none_at_zeros args (tree_of c.term.inside.head) c.args.path.now z within (some_there (length c.args.path.now) (sym c.is_empty.ensures ∙ c.if-is_empty.false)) (all_zeros c.args.path.now _ z c.zeros_in_front-zeros.ensures c.if-zeros-path.true) in
    ((none, refl), refl)

pub swap_at-swap_in_arg-requires : goal.swap_at-swap_in_arg-requires
swap_at-swap_in_arg-requires t c =
    let z = c.zeros_in_front-zeros.result in (
      omega (arith, c.decreases, ap length (take_rest c.args.path.now (z + 1)), length-drop (z + 1) c.args.path.now, c.zeros_in_front-zeros.ensures.within),
      c.zeros_in_front-zeros.ensures.ends (omega (arith, c.len-2.ensures, c.len.ensures)) (omega (arith, c.zeros_in_front-zeros.ensures.within)),
    )

pub swap_at-swap_in_head-requires : goal.swap_at-swap_in_head-requires
swap_at-swap_in_head-requires t c =
    let z = c.zeros_in_front-zeros.result in
    (omega (arith, c.decreases, ap length (take_rest c.args.path.now (z + 1)), length-drop (z + 1) c.args.path.now, c.zeros_in_front-zeros.ensures.within), tt)

pub swap_at-returns-then-left-eq0 : goal.swap_at-returns-then-left-eq0
swap_at-returns-then-left-eq0 t c =
    let path = c.args.path.now in
    let z = c.zeros_in_front-zeros.result in
    let args = c.term.inside.args.items in
    let x = c.args.other.now in
    let new = c.swap_in_head.new.head in
    let y = c.swap_in_head.new.other in
    let counted : vec_len c.term.inside.args ≡ length args = omega (arith, c.term.inside.args.ok.0) in
    let before : z < length path = omega (arith, c.zeros_in_front-zeros.ensures.within) in
    let more : z + 1 ≡ suc z = omega arith in
    let rest : take (length path - (z + 1)) (drop (z + 1) path) ≡ drop (suc z) path = take_rest path (z + 1) ∙ ap (λ k. drop k path) more in
    let all : z ≡ length args = omega (arith, c.zeros_in_front-zeros.ensures.most_of, c.len.ensures, c.len-2.ensures, counted) in
    subst (λ e. IsSwapped e path x (applied (tree_of new) args) y c.swap_in_head.result) c.term.view_is
    (swapped_at_head (tree_of c.term.inside.head) x (tree_of new) y args path (drop (suc z) path) z (get_or path z 0) c.swap_in_head.result all
    (next_there path _ z c.zeros_in_front-zeros.ensures before)
    (subst (λ r. IsSwapped (tree_of c.term.inside.head) (get_or path z 0 ∷ r) x (tree_of new) y c.swap_in_head.result) rest c.swap_in_head.ensures))

pub swap_at-returns-else-left-eq0 : goal.swap_at-returns-else-left-eq0
swap_at-returns-else-left-eq0 t c =
    let path = c.args.path.now in
    let z = c.zeros_in_front-zeros.result in
    let args = c.term.inside.args.items in
    let head = tree_of c.term.inside.head in
    let x = c.args.other.now in
    let new = c.swap_in_arg.new.arg in
    let y = c.swap_in_arg.new.other in
    let counted : vec_len c.term.inside.args ≡ length args = omega (arith, c.term.inside.args.ok.0) in
    let before : z < length path = omega (arith, c.zeros_in_front-zeros.ensures.within) in
    let more : z + 1 ≡ suc z = omega arith in
    let rest : take (length path - (z + 1)) (drop (z + 1) path) ≡ drop (suc z) path = take_rest path (z + 1) ∙ ap (λ k. drop k path) more in
    let some : z < length args = omega (arith, c.zeros_in_front-zeros.ensures.most_of, c.len.ensures, c.len-2.ensures, counted) in
    let at : c.len-2.result - z - 1 ≡ length args - z - 1 = omega (arith, c.len-2.ensures, counted) in
    subst (λ e. IsSwapped e path x (applied head (set args (c.len-2.result - z - 1) new)) y c.swap_in_arg.result) c.term.view_is
    (subst (λ m. IsSwapped (applied head args) path x (applied head (set args m new)) y c.swap_in_arg.result) (sym at)
    (swapped_at_argument head x y args c.index_mut.result.now new path (drop (suc z) path) z (get_or path z 0) c.swap_in_arg.result some (c.index_mut.ensures.value ∙ ap (λ m. get_or args m c.index_mut.result.now) at)
    (next_there path _ z c.zeros_in_front-zeros.ensures before)
    (subst (λ r. IsSwappedInArg c.index_mut.result.now (get_or path z 0 ∷ r) x new y c.swap_in_arg.result) rest c.swap_in_arg.ensures)))
