use Rattle.std.proofs.Common.{◌≤◌, [], ◌∷◌, length, refl, sym, subst, false, arith}
use Rattle.std.proofs.lemmas.Bool.{ltb-true, ltb-false}
use Rattle.std.proofs.lemmas.Option.{slice_get_read, slice_get_within}
use Rattle.chw_terms.specs.declared.scene.Mode.TheVariants.{K}
use Rattle.chw_terms.specs.TermTree.{vec_lit}
use Rattle.chw_terms.specs.TermView.{terms_of}
use Rattle.chw_typing.specs.Scopes.{with_more}
use Rattle.rewriting.specs.Active.{Below}
use Rattle.rewriting.specs.Spots.{spot, spot_of}
use Rattle.active_parts.proofs.Heads.{no_element, element_below}
use Rattle.active_parts.proofs.Truths.{not_true}
use Rattle.active_parts.proofs.elements.element.Goals as goal

pub returns-then-not-is_constant : goal.returns-then-not-is_constant
returns-then-not-is_constant c o at' x b =
    no_element o (spot_of c.args.place.now) c.args.ty.now c.args.elements.now c.args.number
    (λ k a s. not_true c.is_constant.result c.if-not-is_constant.true (c.is_constant.ensures.1 k)) at' x b

pub returns-in_default : goal.returns-in_default
returns-in_default c o at' x b =
    let es = c.args.elements.now in
    let n = c.args.number in
    let past : length es ≤ n = ltb-false _ _ (sym c.in_default.ensures.lookup.0) in
    no_element o (spot_of c.args.place.now) c.args.ty.now es n
    (λ k a s. let l = slice_get_within es n a s in omega (arith, l, past)) at' x b

pub returns : goal.returns
returns c o =
    let es = c.args.elements.now in
    let n = c.args.number in
    let a = c.in-Some.term.now in
    let there = c.in-Some.ensures.lookup in
    let item = slice_get_read es (length es) n a refl (ltb-true _ _ (sym there.0)) there.1 in
    let ty = c.args.ty.now in
    let at = spot_of c.args.place.now in
    subst (λ ts. Below o at (vec_lit ty (terms_of es)) (n ∷ []) (spot K false (with_more ts at.vars)) a)
    (sym c.new-more.ensures.items)
    (element_below o at ty es n a (c.is_constant.ensures.0 c.if-not-is_constant.false) item)
