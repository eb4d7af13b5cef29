use Rattle.std.proofs.Common.{◌∙◌, ap, sym, subst}
use Rattle.chw_terms.specs.declared.term.Head.{Head}
use Rattle.chw_terms.specs.TermTree.{con, vec_lit}
use Rattle.chw_terms.specs.TermView.{applied, terms_of, tree_of}
use Rattle.circuit_build.proofs.ConstantParts.{ConstantShape, bare_whole, constant_shape, no_other_constant}
use Rattle.circuit_build.proofs.views.constant_of.Goals as goal

pub unreachable-requires : goal.unreachable-requires
unreachable-requires c =
    let h = c.e.inside.head in
    let args = c.e.inside.args.items in
    no_other_constant h args c.in_default.not-Lit c.in_default.not-VecLit c.in_default.not-Con (constant_shape h args c.args.e.now c.requires.0 c.e.view_is c.requires.1)

pub returns-in-Lit : goal.returns-in-Lit
returns-in-Lit c =
    let h = c.e.inside.head in
    let args = c.e.inside.args.items in
    let none = subst (λ (k : Head). ConstantShape (tree_of k) args) c.in-Lit.is (constant_shape h args c.args.e.now c.requires.0 c.e.view_is c.requires.1) in
    (c.in-Lit.field-0, bare_whole h _ args c.args.e.now c.e.view_is c.in-Lit.is none)

pub returns-in-VecLit : goal.returns-in-VecLit
returns-in-VecLit c =
    let h = c.e.inside.head in
    let args = c.e.inside.args.items in
    let none = subst (λ (k : Head). ConstantShape (tree_of k) args) c.in-VecLit.is (constant_shape h args c.args.e.now c.requires.0 c.e.view_is c.requires.1) in
    (c.in-VecLit.field-0, bare_whole h _ args c.args.e.now c.e.view_is c.in-VecLit.is none ∙ ap (λ es. vec_lit c.in-VecLit.field-0 (terms_of es)) (sym c.deref.ensures.value))

pub returns-in-Con : goal.returns-in-Con
returns-in-Con c =
    sym c.e.view_is ∙ ap (λ (k : Head). applied (tree_of k) c.e.inside.args.items) c.in-Con.is ∙ ap (applied (con c.in-Con.c.number)) (sym c.deref-in-Con.ensures.value)
