use Rattle.std.proofs.Common.{◌≡◌, ◌<◌, ◌+◌, ◌-◌, suc, length, drop, take, get_or, set, ◌∷◌, ◌++◌, arith, ap, sym, ◌∙◌, subst, refl, vec_len}
use Rattle.std.proofs.lemmas.List.{length-drop, take_rest}
use Rattle.chw_terms.proofs.Deep.{some_there}
use Rattle.chw_terms.specs.declared.term.Arg.{Arg}
use Rattle.chw_terms.specs.declared.term.Arg.TheVariants.{OfTerm}
use Rattle.chw_terms.specs.declared.term.Head.{Head}
use Rattle.chw_terms.specs.TermTree.{TermTree, lam, ty_lam, letrec, vec_lit}
use Rattle.chw_terms.specs.TermView.{tree_of, terms_of, group_of, applied_to, applied}
use Rattle.chw_typing.specs.PartSpines.{spine_at, IsPut}
use Rattle.chw_typing.specs.Steps.{IsPutInArg}
use Rattle.chw_typing.proofs.FrontZeros.{next_there, all_zeros}
use Rattle.chw_typing.proofs.PartPlaces.{none_at_zeros}
use Rattle.chw_typing.proofs.Puts.{put_in_body, no_body, put_in_argument, no_argument, put_in_side, put_in_group, none_in_group, put_in_element, none_in_vector, put_in_scrutinee, put_in_branch, none_in_case, written_back, put_at_head, put_at_argument}
use Rattle.chw_typing.proofs.putting.+set_part.Goals as goal

pub set_in_case-returns-then-i-eq0 : goal.set_in_case-returns-then-i-eq0
set_in_case-returns-then-i-eq0 t c = put_in_scrutinee c.args.on.now c.args.other c.set_part.new.term c.args.alts.now c.args.i c.args.rest.now c.set_part.result c.if-i-eq0.true c.set_part.ensures

pub set_in_case-returns-then-at-alts : goal.set_in_case-returns-then-at-alts
set_in_case-returns-then-at-alts t c =
    put_in_branch c.args.on.now c.args.other c.set_part-then-at-alts.new.term c.args.alts.now c.args.i (c.args.i - 1) c.args.rest.now c.index-alts-at.result c.set_part-then-at-alts.result (omega arith) c.if-at-alts.true c.set_part-then-at-alts.ensures

pub set_in_case-returns-else-at-alts : goal.set_in_case-returns-else-at-alts
set_in_case-returns-else-at-alts t c = none_in_case c.args.on.now c.args.other c.args.alts.now c.args.i (c.args.i - 1) c.args.rest.now (omega arith) c.if-at-alts.false

pub set_in_elements-returns-then-at-elements : goal.set_in_elements-returns-then-at-elements
set_in_elements-returns-then-at-elements t c =
    λ a. put_in_element a c.args.elements.now c.args.other c.set_part.new.term c.args.i c.args.rest.now c.index-elements-at.result c.set_part.result c.if-at-elements.true c.set_part.ensures

pub set_in_elements-returns-else-at-elements : goal.set_in_elements-returns-else-at-elements
set_in_elements-returns-else-at-elements t c = λ a. none_in_vector a c.args.elements.now c.args.other c.args.i c.args.rest.now c.if-at-elements.false

pub set_in_group-returns-then-side-bindings : goal.set_in_group-returns-then-side-bindings
set_in_group-returns-then-side-bindings t c =
    put_in_side c.args.bindings.now c.args.body.now c.args.other c.set_part.new.term c.args.i c.args.rest.now c.index-bindings-side.result c.set_part.result c.if-side-bindings.true c.set_part.ensures

pub set_in_group-returns-then-side-bindings-2 : goal.set_in_group-returns-then-side-bindings-2
set_in_group-returns-then-side-bindings-2 t c =
    put_in_group c.args.bindings.now c.args.body.now c.args.other c.set_part-then-side-bindings-2.new.term c.args.i c.args.rest.now c.set_part-then-side-bindings-2.result c.if-side-bindings-2.true c.set_part-then-side-bindings-2.ensures

pub set_in_group-returns-else-side-bindings-2 : goal.set_in_group-returns-else-side-bindings-2
set_in_group-returns-else-side-bindings-2 t c = none_in_group c.args.bindings.now c.args.body.now c.args.other c.args.i c.args.rest.now (omega arith)

pub set_in_body-returns-then-i-eq0 : goal.set_in_body-returns-then-i-eq0
set_in_body-returns-then-i-eq0 t c = put_in_body c.args.body.now c.args.other c.set_part.new.term c.args.i c.args.rest.now c.set_part.result c.if-i-eq0.true c.set_part.ensures

pub set_in_body-returns-else-i-eq0 : goal.set_in_body-returns-else-i-eq0
set_in_body-returns-else-i-eq0 t c = no_body c.args.body.now c.args.other c.args.i c.args.rest.now c.if-i-eq0.false

pub set_in_term-returns-then-i-eq1 : goal.set_in_term-returns-then-i-eq1
set_in_term-returns-then-i-eq1 t c = λ f. put_in_argument f c.args.e.now c.args.other c.set_part.new.term c.args.i c.args.rest.now c.set_part.result c.if-i-eq1.true c.set_part.ensures

pub set_in_term-returns-else-i-eq1 : goal.set_in_term-returns-else-i-eq1
set_in_term-returns-else-i-eq1 t c = λ f. no_argument f c.args.e.now c.args.other c.args.i c.args.rest.now c.requires c.if-i-eq1.false

pub set_in_arg-returns-in-OfTerm : goal.set_in_arg-returns-in-OfTerm
set_in_arg-returns-in-OfTerm t c =
    subst (λ (a : Arg). IsPutInArg a (c.args.i ∷ c.args.rest.now) c.args.other (OfTerm c.set_in_term.new.e) c.set_in_term.result) (sym c.in-OfTerm.is) c.set_in_term.ensures

pub set_in_head-returns-in-Lam : goal.set_in_head-returns-in-Lam
set_in_head-returns-in-Lam t c =
    let path = c.args.i ∷ c.args.rest.now in
    let a = c.in-Lam.field-0 in
    subst (λ (h : Head). IsPut (tree_of h) path c.args.other (lam a c.set_in_body.new.body) c.set_in_body.result) (sym c.in-Lam.is)
    (subst (λ e. IsPut (lam a e) path c.args.other (lam a c.set_in_body.new.body) c.set_in_body.result) c.deref_mut.ensures.value (c.set_in_body.ensures.0 a))

pub set_in_head-returns-in-TyLam : goal.set_in_head-returns-in-TyLam
set_in_head-returns-in-TyLam t c =
    let path = c.args.i ∷ c.args.rest.now in
    let k = c.in-TyLam.field-0 in
    let new = c.set_in_body-in-TyLam.new.body in
    subst (λ (h : Head). IsPut (tree_of h) path c.args.other (ty_lam k new) c.set_in_body-in-TyLam.result) (sym c.in-TyLam.is)
    (subst (λ e. IsPut (ty_lam k e) path c.args.other (ty_lam k new) c.set_in_body-in-TyLam.result) c.deref_mut-in-TyLam.ensures.value (c.set_in_body-in-TyLam.ensures.1 k))

pub set_in_head-returns-in-LetRec : goal.set_in_head-returns-in-LetRec
set_in_head-returns-in-LetRec t c =
    let path = c.args.i ∷ c.args.rest.now in
    let items = c.in-LetRec.bindings.items in
    let new = c.set_in_group.new.bindings in
    let body = c.set_in_group.new.body in
    let back : take c.in-LetRec.bindings.len (new ++ drop (length new) items) ≡ new =
    written_back c.in-LetRec.bindings.len new items (omega (arith, c.set_in_group.auto.bindings, ap length c.deref_mut-in-LetRec.ensures.value)) (omega (arith, c.in-LetRec.bindings.ok.0)) in
    subst (λ (h : Head). IsPut (tree_of h) path c.args.other (letrec (group_of (take c.in-LetRec.bindings.len (new ++ drop (length new) items))) body) c.set_in_group.result) (sym c.in-LetRec.is)
    (subst (λ bs. IsPut (letrec (group_of items) c.in-LetRec.body.value) path c.args.other (letrec (group_of bs) body) c.set_in_group.result) (sym back)
    (subst (λ bs. IsPut (letrec (group_of bs) c.in-LetRec.body.value) path c.args.other (letrec (group_of new) body) c.set_in_group.result) c.deref_mut-in-LetRec.ensures.value
    (subst (λ e. IsPut (letrec (group_of c.deref_mut-in-LetRec.result.now) e) path c.args.other (letrec (group_of new) body) c.set_in_group.result) c.deref_mut-in-LetRec-2.ensures.value c.set_in_group.ensures)))

pub set_in_head-returns-in-VecLit : goal.set_in_head-returns-in-VecLit
set_in_head-returns-in-VecLit t c =
    let path = c.args.i ∷ c.args.rest.now in
    let a = c.in-VecLit.field-0 in
    let items = c.in-VecLit.elements.items in
    let new = c.set_in_elements.new.elements in
    let back : take c.in-VecLit.elements.len (new ++ drop (length new) items) ≡ new =
    written_back c.in-VecLit.elements.len new items (omega (arith, c.set_in_elements.auto.elements, ap length c.deref_mut-in-VecLit.ensures.value)) (omega (arith, c.in-VecLit.elements.ok.0)) in
    subst (λ (h : Head). IsPut (tree_of h) path c.args.other (vec_lit a (terms_of (take c.in-VecLit.elements.len (new ++ drop (length new) items)))) c.set_in_elements.result) (sym c.in-VecLit.is)
    (subst (λ es. IsPut (vec_lit a (terms_of items)) path c.args.other (vec_lit a (terms_of es)) c.set_in_elements.result) (sym back)
    (subst (λ es. IsPut (vec_lit a (terms_of es)) path c.args.other (vec_lit a (terms_of new)) c.set_in_elements.result) c.deref_mut-in-VecLit.ensures.value (c.set_in_elements.ensures a)))

pub set_part-returns-then-zeros-path : goal.set_part-returns-then-zeros-path
set_part-returns-then-zeros-path t c =
    let z = c.zeros_in_front-zeros.result in
    let args = c.term.inside.args.items in
    let counted : vec_len c.term.inside.args ≡ length args = omega (arith, c.term.inside.args.ok.0) in
    let within : z < length args + 1 = omega (arith, c.zeros_in_front-zeros.ensures.most_of, c.len.ensures, counted) in (
      ap (λ e. spine_at e c.args.path.now) (sym c.term.view_is)
          ∙ none_at_zeros args (tree_of c.term.inside.head) c.args.path.now z within (some_there (length c.args.path.now) (sym c.is_empty.ensures ∙ c.if-is_empty.false)) (all_zeros c.args.path.now _ z c.zeros_in_front-zeros.ensures c.if-zeros-path.true),
      refl,
    )

pub set_part-set_in_arg-requires : goal.set_part-set_in_arg-requires
set_part-set_in_arg-requires t c =
    let z = c.zeros_in_front-zeros.result in (
      omega (arith, c.decreases, ap length (take_rest c.args.path.now (z + 1)), length-drop (z + 1) c.args.path.now, c.zeros_in_front-zeros.ensures.within),
      c.zeros_in_front-zeros.ensures.ends (omega (arith, c.len-2.ensures, c.len.ensures)) (omega (arith, c.zeros_in_front-zeros.ensures.within)),
    )

pub set_part-set_in_head-requires : goal.set_part-set_in_head-requires
set_part-set_in_head-requires t c =
    let z = c.zeros_in_front-zeros.result in
    (omega (arith, c.decreases, ap length (take_rest c.args.path.now (z + 1)), length-drop (z + 1) c.args.path.now, c.zeros_in_front-zeros.ensures.within), tt)

pub set_part-returns-then-left-eq0 : goal.set_part-returns-then-left-eq0
set_part-returns-then-left-eq0 t c =
    let path = c.args.path.now in
    let z = c.zeros_in_front-zeros.result in
    let args = c.term.inside.args.items in
    let counted : vec_len c.term.inside.args ≡ length args = omega (arith, c.term.inside.args.ok.0) in
    let before : z < length path = omega (arith, c.zeros_in_front-zeros.ensures.within) in
    let more : z + 1 ≡ suc z = omega arith in
    let rest : take (length path - (z + 1)) (drop (z + 1) path) ≡ drop (suc z) path = take_rest path (z + 1) ∙ ap (λ k. drop k path) more in
    let all : z ≡ length args = omega (arith, c.zeros_in_front-zeros.ensures.most_of, c.len.ensures, c.len-2.ensures, counted) in
    subst (λ e. IsPut e path c.args.other (applied (tree_of c.set_in_head.new.head) args) c.set_in_head.result) c.term.view_is
    (put_at_head (tree_of c.term.inside.head) c.args.other (tree_of c.set_in_head.new.head) args path (drop (suc z) path) z (get_or path z 0) c.set_in_head.result all
    (next_there path _ z c.zeros_in_front-zeros.ensures before)
    (subst (λ r. IsPut (tree_of c.term.inside.head) (get_or path z 0 ∷ r) c.args.other (tree_of c.set_in_head.new.head) c.set_in_head.result) rest c.set_in_head.ensures))

pub set_part-returns-else-left-eq0 : goal.set_part-returns-else-left-eq0
set_part-returns-else-left-eq0 t c =
    let path = c.args.path.now in
    let z = c.zeros_in_front-zeros.result in
    let args = c.term.inside.args.items in
    let head = tree_of c.term.inside.head in
    let counted : vec_len c.term.inside.args ≡ length args = omega (arith, c.term.inside.args.ok.0) in
    let before : z < length path = omega (arith, c.zeros_in_front-zeros.ensures.within) in
    let more : z + 1 ≡ suc z = omega arith in
    let rest : take (length path - (z + 1)) (drop (z + 1) path) ≡ drop (suc z) path = take_rest path (z + 1) ∙ ap (λ k. drop k path) more in
    let some : z < length args = omega (arith, c.zeros_in_front-zeros.ensures.most_of, c.len.ensures, c.len-2.ensures, counted) in
    let at : c.len-2.result - z - 1 ≡ length args - z - 1 = omega (arith, c.len-2.ensures, counted) in
    subst (λ e. IsPut e path c.args.other (applied head (set args (c.len-2.result - z - 1) c.set_in_arg.new.arg)) c.set_in_arg.result) c.term.view_is
    (subst (λ m. IsPut (applied head args) path c.args.other (applied head (set args m c.set_in_arg.new.arg)) c.set_in_arg.result) (sym at)
    (put_at_argument head c.args.other args c.index_mut.result.now c.set_in_arg.new.arg path (drop (suc z) path) z (get_or path z 0) c.set_in_arg.result some (c.index_mut.ensures.value ∙ ap (λ m. get_or args m c.index_mut.result.now) at)
    (next_there path _ z c.zeros_in_front-zeros.ensures before)
    (subst (λ r. (f : TermTree) → IsPut (applied_to f c.index_mut.result.now) (get_or path z 0 ∷ r) c.args.other (applied_to f c.set_in_arg.new.arg) c.set_in_arg.result) rest c.set_in_arg.ensures)))
