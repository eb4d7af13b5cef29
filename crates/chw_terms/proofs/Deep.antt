-- How depths are joined, where each ends at the greatest number of 32 bits.
use Rattle.std.proofs.Common.{◌≡◌, ℕ, suc, zero, ◌+◌, ◌<◌, ◌≤◌, max, false, ◌==◌, List, [], ◌∷◌, length, drop, get_or, refl, ap, ◌∙◌, arith}
use Rattle.std.proofs.lemmas.List.{drop_all}
use Rattle.chw_types.specs.TypeTree.{TypeTree, data_of}
use Rattle.chw_types.specs.TypeView.{trees_of}
use Rattle.chw_types.specs.Polynomials.{ended}
use Rattle.chw_terms.specs.declared.term.Binding.{Binding}
use Rattle.chw_terms.specs.declared.term.Alt.{Alt}
use Rattle.chw_terms.specs.declared.term.Arg.{Arg}
use Rattle.chw_terms.specs.declared.term.Arg.TheVariants.{OfTerm, OfType}
use Rattle.chw_terms.specs.declared.term.Head.{Head}
use Rattle.chw_terms.specs.declared.term.Head.TheVariants.{Var, Global, Made, Lam, TyLam, LetRec, Con, PrimOf, Lit, VecLit, Case}
use Rattle.chw_terms.specs.TermTree.{TermTree, lam, app, ty_app, letrec, vec_lit, case_of}
use Rattle.chw_terms.specs.TermView.{terms_of, group_of, alts_of, tree_of, applied}
use Rattle.chw_terms.specs.Depth.{depth, type_depth, types_depth, in_spine, parts_depth, terms_depth, group_depth, alts_depth}
use Rattle.chw_terms.specs.Deepest.{arg_depth, binding_depth, alt_depth, deepest_of}
use Rattle.chw_terms.proofs.Spines.{left_with_next}

-- one more item is looked at
pub deepest_next : {X : Type 0} (f : X → ℕ) (xs : List X) (i : ℕ) (x : X) (deepest one most : ℕ) → i < length xs → x ≡ get_or xs i x → one ≡ ended (f x) → max deepest (ended (deepest_of f (drop i xs))) ≡ most → max (max deepest one) (ended (deepest_of f (drop (i + 1) xs))) ≡ most
deepest_next f xs i x deepest one most h e o m =
    let whole : deepest_of f (drop i xs) ≡ max (f x) (deepest_of f (drop (i + 1) xs)) = ap (deepest_of f) (left_with_next xs i x h e) in
    joined (f x) (deepest_of f (drop (i + 1) xs)) (deepest_of f (drop i xs)) whole o m
  where
    joined : (a b w : ℕ) → w ≡ max a b → one ≡ ended a → max deepest (ended w) ≡ most → max (max deepest one) (ended b) ≡ most
    joined a b w p q r = omega (arith, p, q, r)

-- all items were looked at
pub deepest_all : {X : Type 0} (f : X → ℕ) (xs : List X) (i deepest most : ℕ) → length xs ≤ i → max deepest (ended (deepest_of f (drop i xs))) ≡ most → deepest ≡ most
deepest_all f xs i deepest most h m =
    let none : deepest_of f (drop i xs) ≡ 0 = ap (deepest_of f) (drop_all i xs h) in
    omega (arith, none, m)

-- a head and its arguments
pub parts_alone : (h : Head) → in_spine (tree_of h) (parts_depth (tree_of h)) ≡ suc (parts_depth (tree_of h))
parts_alone (Var x) = refl
parts_alone (Global d) = refl
parts_alone (Made m) = refl
parts_alone (Lam t e) = refl
parts_alone (TyLam k e) = refl
parts_alone (LetRec bs e) = refl
parts_alone (Con c) = refl
parts_alone (PrimOf p) = refl
parts_alone (Lit s b) = refl
parts_alone (VecLit t es) = refl
parts_alone (Case s alts) = refl

max_through : (a b c : ℕ) → max (max a b) c ≡ max a (max b c)
max_through a b c = omega arith

-- what more arguments add to a spine
parts_behind : (e : TermTree) (args : List Arg) → in_spine e (parts_depth e) ≡ parts_depth e → parts_depth (applied e args) ≡ max (parts_depth e) (deepest_of arg_depth args)
unfolding parts_depth
parts_behind e [] s = omega arith
parts_behind e (OfTerm a ∷ args) s =
    parts_behind (app e a) args refl ∙ ap (λ n. max (max n (suc (parts_depth a))) (deepest_of arg_depth args)) s
    ∙ max_through (parts_depth e) (suc (parts_depth a)) (deepest_of arg_depth args)
parts_behind e (OfType t ∷ args) s =
    parts_behind (ty_app e t) args refl ∙ ap (λ n. max (max n (type_depth t)) (deepest_of arg_depth args)) s
    ∙ max_through (parts_depth e) (type_depth t) (deepest_of arg_depth args)

pub parts_of_spine : (h : Head) (a : Arg) (args : List Arg) → parts_depth (applied (tree_of h) (a ∷ args)) ≡ max (suc (parts_depth (tree_of h))) (deepest_of arg_depth (a ∷ args))
unfolding parts_depth
parts_of_spine h (OfTerm a) args =
    parts_behind (app (tree_of h) a) args refl ∙ ap (λ n. max (max n (suc (parts_depth a))) (deepest_of arg_depth args)) (parts_alone h)
    ∙ max_through (suc (parts_depth (tree_of h))) (suc (parts_depth a)) (deepest_of arg_depth args)
parts_of_spine h (OfType t) args =
    parts_behind (ty_app (tree_of h) t) args refl ∙ ap (λ n. max (max n (type_depth t)) (deepest_of arg_depth args)) (parts_alone h)
    ∙ max_through (suc (parts_depth (tree_of h))) (type_depth t) (deepest_of arg_depth args)

pub parts_bare : (h : Head) (args : List Arg) (r : ℕ) → length args ≡ 0 → r ≡ ended (parts_depth (tree_of h)) → r ≡ ended (parts_depth (applied (tree_of h) args))
parts_bare h [] r l e = e
parts_bare h (a ∷ args) r l e = absurd (omega (arith, l))

-- the parts of a spine that has arguments, by a search that ended
pub parts_found : (h : Head) (args : List Arg) (inner first deepest : ℕ) → 0 < length args → inner ≡ ended (parts_depth (tree_of h)) → first ≡ ended (inner + 1) → deepest ≡ max first (ended (deepest_of arg_depth args)) → deepest ≡ ended (parts_depth (applied (tree_of h) args))
parts_found h [] inner first deepest l p q r = absurd (omega (arith, l))
parts_found h (a ∷ args) inner first deepest l p q r =
    joined (parts_depth (tree_of h)) (deepest_of arg_depth (a ∷ args)) (parts_depth (applied (tree_of h) (a ∷ args))) (parts_of_spine h a args) p r
  where
    joined : (n m w : ℕ) → w ≡ max (suc n) m → inner ≡ ended n → deepest ≡ max first (ended m) → deepest ≡ ended w
    joined n m w e f g = omega (arith, e, f, g, q)

-- the items of a node
pub types_deepest : (ts : List TypeTree) → types_depth (trees_of ts) ≡ deepest_of type_depth ts
unfolding type_depth
types_deepest [] = refl
types_deepest (t ∷ ts) = ap (max (type_depth t)) (types_deepest ts)

pub terms_deepest : (es : List TermTree) → terms_depth (terms_of es) ≡ deepest_of depth es
unfolding parts_depth
terms_deepest [] = refl
terms_deepest (e ∷ es) = ap (max (depth e)) (terms_deepest es)

pub group_deepest : (bs : List Binding) → group_depth (group_of bs) ≡ deepest_of binding_depth bs
unfolding parts_depth
group_deepest [] = refl
group_deepest (b ∷ bs) = ap (max (binding_depth b)) (group_deepest bs)

pub alts_deepest : (alts : List Alt) → alts_depth (alts_of alts) ≡ deepest_of alt_depth alts
unfolding parts_depth
alts_deepest [] = refl
alts_deepest (a ∷ more) = ap (max (alt_depth a)) (alts_deepest more)

-- a node whose items were looked at
pub data_deep : (ts : List TypeTree) (d deepest r : ℕ) → deepest ≡ ended (deepest_of type_depth ts) → r ≡ ended (deepest + 1) → r ≡ ended (type_depth (data_of d (trees_of ts)))
unfolding type_depth
data_deep ts d deepest r p q = let all : types_depth (trees_of ts) ≡ deepest_of type_depth ts = types_deepest ts in omega (arith, p, q, all)

-- a lambda, of the depths of its type and its body
pub lam_deep : (t : TypeTree) (e : TermTree) (a p o r : ℕ) → a ≡ ended (type_depth t) → p ≡ ended (parts_depth e) → o ≡ ended (p + 1) → r ≡ max a o → r ≡ ended (parts_depth (lam t e))
unfolding parts_depth
lam_deep t e a p o r f g h k = omega (arith, f, g, h, k)

-- a letrec whose bindings were looked at
pub letrec_deep : (bs : List Binding) (e : TermTree) (d p o r : ℕ) → d ≡ ended (deepest_of binding_depth bs) → p ≡ ended (parts_depth e) → o ≡ ended (p + 1) → r ≡ max d o → r ≡ ended (parts_depth (letrec (group_of bs) e))
unfolding parts_depth
letrec_deep bs e d p o r f g h k = let all : group_depth (group_of bs) ≡ deepest_of binding_depth bs = group_deepest bs in omega (arith, f, g, h, k, all)

-- a vector whose elements were looked at
pub vec_deep : (t : TypeTree) (es : List TermTree) (a d r : ℕ) → a ≡ ended (type_depth t) → d ≡ ended (deepest_of depth es) → r ≡ max a d → r ≡ ended (parts_depth (vec_lit t (terms_of es)))
unfolding parts_depth
vec_deep t es a d r f g h = let all : terms_depth (terms_of es) ≡ deepest_of depth es = terms_deepest es in omega (arith, f, g, h, all)

-- a case whose alternatives were looked at
pub case_deep : (s : TermTree) (alts : List Alt) (p o d r : ℕ) → p ≡ ended (parts_depth s) → o ≡ ended (p + 1) → d ≡ ended (deepest_of alt_depth alts) → r ≡ max o d → r ≡ ended (parts_depth (case_of s (alts_of alts)))
unfolding parts_depth
case_deep s alts p o d r f g h k = let all : alts_depth (alts_of alts) ≡ deepest_of alt_depth alts = alts_deepest alts in omega (arith, f, g, h, k, all)

-- the depth of one binding
pub binding_deep : (b : Binding) (a p o r : ℕ) → a ≡ ended (type_depth b.ty) → p ≡ ended (parts_depth b.body) → o ≡ ended (p + 1) → r ≡ max a o → r ≡ ended (binding_depth b)
binding_deep b a p o r f g h k = omega (arith, f, g, h, k)

-- the depth of one term
pub term_deep : (e : TermTree) (p o : ℕ) → p ≡ ended (parts_depth e) → o ≡ ended (p + 1) → o ≡ ended (depth e)
term_deep e p o f g = omega (arith, f, g)

-- a list that isn't empty has items
pub some_there : (n : ℕ) → (n == 0) ≡ false → 0 < n
some_there zero h = cc
some_there (suc n) h = omega arith
