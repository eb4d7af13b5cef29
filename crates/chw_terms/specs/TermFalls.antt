-- The head and the arguments of a spine, and each child of a head, are smaller than what the whole stands for.
use Rattle.std.specs.Prelude.{◌≡◌, ◌+◌, ◌≤◌, List, [], ◌∷◌, max}
use Rattle.std.proofs.Common.{arith}
use denote.Param.Weighed.{most}
use Rattle.chw_terms.specs.TermTree.{TermTree, app, ty_app}
use Rattle.chw_terms.specs.declared.term.Head.{Head}
use Rattle.chw_terms.specs.declared.term.Head.TheVariants.{Var, Global, Made, Lam, TyLam, LetRec, Con, PrimOf, Lit, VecLit, Case}
use Rattle.chw_terms.specs.declared.term.Arg.{Arg}
use Rattle.chw_terms.specs.declared.term.Arg.TheVariants.{OfTerm, OfType}
use Rattle.chw_terms.specs.declared.term.Binding.{Binding}
use Rattle.chw_terms.specs.declared.term.Alt.{Alt}
use Rattle.chw_terms.specs.declared.term.Term.TheDeep.{deep-Head, deep-Arg, deep-Binding, deep-Alt}
use Rattle.chw_terms.specs.TermView.{terms_of, group_of, alts_of, tree_of, applied}
use Rattle.chw_terms.specs.TermSize.{tree_size, terms_size, group_size, alts_size, args_size}

pub most_terms : (es : List TermTree) → most (λ e. tree_size e + 1) es ≤ terms_size (terms_of es) + 1
most_terms [] = omega arith
most_terms (e ∷ es) = omega (arith, most_terms es)

pub most_bindings : (bs : List Binding) → most deep-Binding bs ≤ group_size (group_of bs) + 1
most_bindings [] = omega arith
most_bindings (b ∷ bs) = omega (arith, most_bindings bs)

pub most_alts : (alts : List Alt) → most deep-Alt alts ≤ alts_size (alts_of alts) + 1
most_alts [] = omega arith
most_alts (a ∷ more) = omega (arith, most_alts more)

pub most_args : (args : List Arg) → most deep-Arg args ≤ args_size args
most_args [] = omega arith
most_args (OfTerm a ∷ args) = omega (arith, most_args args)
most_args (OfType t ∷ args) = omega (arith, most_args args)

pub head_falls : (h : Head) → deep-Head h + 1 ≤ tree_size (tree_of h)
head_falls (Var x) = omega arith
head_falls (Global d) = omega arith
head_falls (Made m) = omega arith
head_falls (Lam t e) = omega arith
head_falls (TyLam k e) = omega arith
head_falls (LetRec bs e) = omega (arith, most_bindings bs.items)
head_falls (Con c) = omega arith
head_falls (PrimOf p) = omega arith
head_falls (Lit s b) = omega arith
head_falls (VecLit t es) = omega (arith, most_terms es.items)
head_falls (Case s alts) = omega (arith, most_alts alts.items)

pub applied_size : (e : TermTree) (args : List Arg) → tree_size (applied e args) ≡ tree_size e + args_size args
applied_size e [] = omega arith
applied_size e (OfTerm a ∷ args) = omega (arith, applied_size (app e a) args)
applied_size e (OfType t ∷ args) = omega (arith, applied_size (ty_app e t) args)

pub spine_falls : (h : Head) (args : List Arg) → max (deep-Head h) (max (most deep-Arg args) 0) + 1 ≤ tree_size (applied (tree_of h) args)
spine_falls h args = omega (arith, head_falls h, most_args args, applied_size (tree_of h) args)

pub term_falls : (h : Head) (args : List Arg) → max (deep-Head h) (max (most deep-Arg args) 0) ≤ tree_size (applied (tree_of h) args)
term_falls h args = omega (arith, spine_falls h args)
