use Rattle.std.proofs.Common.{◌≡◌, [], List, sym, subst}
use Rattle.std.proofs.lemmas.Result.{on_ok_weaker}
use Rattle.chw_terms.specs.declared.term.Arg.{Arg}
use Rattle.chw_terms.specs.declared.term.Head.{Head}
use Rattle.chw_terms.specs.TermTree.{lit, var, vec_lit}
use Rattle.chw_terms.specs.TermView.{tree_of, terms_of}
use Rattle.netlist.specs.declared.net.Cell.TheVariants.{Const}
use Rattle.net_built.specs.Bodies.{ValueCells, value_literal}
use Rattle.net_built.specs.Wires.{wire, one}
use Rattle.net_ready.specs.Ready.{ValueReady}
use Rattle.value_build.specs.Added.{Adds, next}
use Rattle.value_build.specs.Arguments.{terms_in, types_in}
use Rattle.value_build.specs.InScope.{in_scope}
use Rattle.value_build.proofs.Behind.{adds_one}
use Rattle.value_build.proofs.Heads.{no_other_side}
use Rattle.value_build.proofs.Ready.{var_alone, lit_alone, vec_alone}
use Rattle.value_build.proofs.sides.applied_cells.Goals as goal

pub unreachable-requires : goal.unreachable-requires
unreachable-requires c =
    let d = c.in_default in
    no_other_side c.args.base.now.datas c.args.head.now c.args.args.now d.not-Con d.not-PrimOf d.not-Made d.not-Var d.not-Lit d.not-VecLit c.requires

pub built-requires : goal.built-requires
built-requires c = subst (λ (h : Head). ValueReady c.args.base.now.datas (tree_of h) c.args.args.now) c.in-Con.is c.requires

pub primitive-requires : goal.primitive-requires
primitive-requires c = subst (λ (h : Head). ValueReady c.args.base.now.datas (tree_of h) c.args.args.now) c.in-PrimOf.is c.requires

pub call-requires : goal.call-requires
call-requires c = subst (λ (h : Head). ValueReady c.args.base.now.datas (tree_of h) c.args.args.now) c.in-Made.is c.requires

pub returns-in-Var-clause-cells : goal.returns-in-Var-clause-cells
returns-in-Var-clause-cells c =
    let g = c.args.base.now in
    let s = c.args.into.now in
    let t = c.copy.new.into in
    let scope = in_scope c.args.scope.now in
    let w = c.args.w in
    let none : c.args.args.now ≡ [] = var_alone g.datas c.in-Var.x.number c.args.args.now
    (subst (λ (h : Head). ValueReady g.datas (tree_of h) c.args.args.now) c.in-Var.is c.requires) in
    on_ok_weaker c.copy.result
    (λ adds. subst (λ (h : Head). Adds (ValueCells g scope (next s) w (tree_of h) (types_in c.args.args.now) (terms_in c.args.args.now)) s t) (sym c.in-Var.is)
    (subst (λ (xs : List Arg). Adds (ValueCells g scope (next s) w (var c.in-Var.x.number) (types_in xs) (terms_in xs)) s t) (sym none) (adds g)))
    c.copy.ensures

pub returns-in-Lit-clause-cells : goal.returns-in-Lit-clause-cells
returns-in-Lit-clause-cells c =
    let g = c.args.base.now in
    let s = c.args.into.now in
    let t = c.literal.new.into in
    let scope = in_scope c.args.scope.now in
    let w = c.args.w in
    let sort = c.in-Lit.field-0 in
    let bits = c.in-Lit.bits in
    let none : c.args.args.now ≡ [] = lit_alone g.datas sort bits c.args.args.now
    (subst (λ (h : Head). ValueReady g.datas (tree_of h) c.args.args.now) c.in-Lit.is c.requires) in
    on_ok_weaker c.literal.result
    (λ is. subst (λ (h : Head). Adds (ValueCells g scope (next s) w (tree_of h) (types_in c.args.args.now) (terms_in c.args.args.now)) s t) (sym c.in-Lit.is)
    (subst (λ (xs : List Arg). Adds (ValueCells g scope (next s) w (lit sort bits) (types_in xs) (terms_in xs)) s t) (sym none)
    (adds_one (ValueCells g scope (next s) w (lit sort bits) [] []) s t (one w (Const (wire (next s)) bits)) is value_literal)))
    c.literal.ensures

pub returns-in-VecLit-clause-cells : goal.returns-in-VecLit-clause-cells
returns-in-VecLit-clause-cells c =
    let g = c.args.base.now in
    let s = c.args.into.now in
    let u = c.vector.new.into in
    let scope = in_scope c.args.scope.now in
    let w = c.args.w in
    let t = c.in-VecLit.field-0 in
    let es = terms_of c.in-VecLit.elements.items in
    let none : c.args.args.now ≡ [] = vec_alone g.datas t es c.args.args.now
    (subst (λ (h : Head). ValueReady g.datas (tree_of h) c.args.args.now) c.in-VecLit.is c.requires) in
    on_ok_weaker c.vector.result
    (λ adds. subst (λ (h : Head). Adds (ValueCells g scope (next s) w (tree_of h) (types_in c.args.args.now) (terms_in c.args.args.now)) s u) (sym c.in-VecLit.is)
    (subst (λ (xs : List Arg). Adds (ValueCells g scope (next s) w (vec_lit t es) (types_in xs) (terms_in xs)) s u) (sym none)
    (subst (λ fs. Adds (ValueCells g scope (next s) w (vec_lit t (terms_of fs)) [] []) s u) c.deref.ensures.value (adds g t))))
    c.vector.ensures
