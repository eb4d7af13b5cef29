-- The plain trees that terms stand for.
use Rattle.std.specs.Prelude.{List, [], ◌∷◌}
use Rattle.chw_terms.specs.TermTree.{TermTree, var, global, made, lam, app, ty_lam, ty_app, letrec, con, prim, lit, vec_lit, case_of, Terms, no_terms, term_and, Group, no_bindings, bind, Alts, no_alts, alt}
use Rattle.chw_terms.specs.declared.term.Head.{Head}
use Rattle.chw_terms.specs.declared.term.Head.TheVariants.{Var, Global, Made, Lam, TyLam, LetRec, Con, PrimOf, Lit, VecLit, Case}
use Rattle.chw_terms.specs.declared.term.Arg.{Arg}
use Rattle.chw_terms.specs.declared.term.Arg.TheVariants.{OfTerm, OfType}
use Rattle.chw_terms.specs.declared.term.Binding.{Binding}
use Rattle.chw_terms.specs.declared.term.Alt.{Alt}

abbrev pub terms_of : List TermTree → Terms
terms_of [] = no_terms
terms_of (e ∷ es) = term_and e (terms_of es)

abbrev pub group_of : List Binding → Group
group_of [] = no_bindings
group_of (b ∷ bs) = bind b.ty b.body (group_of bs)

abbrev pub alts_of : List Alt → Alts
alts_of [] = no_alts
alts_of (a ∷ more) = alt a.pattern a.body (alts_of more)

abbrev pub tree_of : Head → TermTree
tree_of (Var x) = var x.number
tree_of (Global d) = global d.number
tree_of (Made m) = made m.number
tree_of (Lam t e) = lam t e.value
tree_of (TyLam k e) = ty_lam k e.value
tree_of (LetRec bs e) = letrec (group_of bs.items) e.value
tree_of (Con c) = con c.number
tree_of (PrimOf p) = prim p
tree_of (Lit s b) = lit s b
tree_of (VecLit t es) = vec_lit t (terms_of es.items)
tree_of (Case s alts) = case_of s.value (alts_of alts.items)

-- a term applied to an argument
abbrev pub applied_to : TermTree → Arg → TermTree
applied_to e (OfTerm a) = app e a
applied_to e (OfType t) = ty_app e t

-- a term applied to these, the first one first
abbrev pub applied : TermTree → List Arg → TermTree
applied e [] = e
applied e (a ∷ args) = applied (applied_to e a) args
