-- The types and the terms among the arguments of a term.
use Rattle.std.proofs.Common.{◌≡◌, List, [], ◌∷◌, ◌++◌, refl, ap, ◌∙◌, append-nil}
use Rattle.chw_terms.specs.declared.term.Arg.{Arg}
use Rattle.chw_terms.specs.declared.term.Arg.TheVariants.{OfTerm, OfType}
use Rattle.chw_terms.specs.TermTree.{TermTree, var, global, made, lam, app, ty_lam, ty_app, letrec, con, prim, lit, vec_lit, case_of}
use Rattle.net_built.specs.Terms.{types_of, operands_of}
use Rattle.net_ready.specs.Ready.{args_of, types_among, AreNames}

abbrev pub terms_among : List Arg → List TermTree
terms_among [] = []
terms_among (OfTerm e ∷ args) = e ∷ terms_among args
terms_among (OfType t ∷ args) = terms_among args

types_append : (xs ys : List Arg) → types_among (xs ++ ys) ≡ types_among xs ++ types_among ys
types_append [] ys = refl
types_append (OfTerm e ∷ xs) ys = types_append xs ys
types_append (OfType t ∷ xs) ys = ap (λ ts. t ∷ ts) (types_append xs ys)

terms_append : (xs ys : List Arg) → terms_among (xs ++ ys) ≡ terms_among xs ++ terms_among ys
terms_append [] ys = refl
terms_append (OfTerm e ∷ xs) ys = ap (λ es. e ∷ es) (terms_append xs ys)
terms_append (OfType t ∷ xs) ys = terms_append xs ys

pub types_are : (e : TermTree) → types_among (args_of e) ≡ types_of e
types_are (var x) = refl
types_are (global d) = refl
types_are (made m) = refl
types_are (lam t e) = refl
types_are (app f a) = types_append (args_of f) (OfTerm a ∷ []) ∙ append-nil (types_among (args_of f)) ∙ types_are f
types_are (ty_lam k e) = refl
types_are (ty_app f t) = types_append (args_of f) (OfType t ∷ []) ∙ ap (λ ts. ts ++ t ∷ []) (types_are f)
types_are (letrec g e) = refl
types_are (con c) = refl
types_are (prim p) = refl
types_are (lit s bits) = refl
types_are (vec_lit t es) = refl
types_are (case_of e alts) = refl

pub terms_are : (e : TermTree) → terms_among (args_of e) ≡ operands_of e
terms_are (var x) = refl
terms_are (global d) = refl
terms_are (made m) = refl
terms_are (lam t e) = refl
terms_are (app f a) = terms_append (args_of f) (OfTerm a ∷ []) ∙ ap (λ es. es ++ a ∷ []) (terms_are f)
terms_are (ty_lam k e) = refl
terms_are (ty_app f t) = terms_append (args_of f) (OfType t ∷ []) ∙ append-nil (terms_among (args_of f)) ∙ terms_are f
terms_are (letrec g e) = refl
terms_are (con c) = refl
terms_are (prim p) = refl
terms_are (lit s bits) = refl
terms_are (vec_lit t es) = refl
terms_are (case_of e alts) = refl

-- among variables there are no types
pub names_untyped : (args : List Arg) → AreNames args → types_among args ≡ []
names_untyped [] h = refl
names_untyped (OfTerm (var x) ∷ args) h = names_untyped args h
names_untyped _ h = absurd h
