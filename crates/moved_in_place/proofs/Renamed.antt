-- Terms whose parts were renamed.
use Rattle.std.proofs.Common.{◌≡◌, ℕ, zero, suc, ◌+◌, ◌-◌, ◌<◌, ◌≤◌, ◌∙◌, sym, ap, refl, arith, List, [], ◌∷◌, map, length}
use Rattle.chw_types.specs.declared.kind.Kind.{Kind}
use Rattle.chw_types.specs.TypeTree.{TypeTree}
use Rattle.chw_types.specs.TypeMoves.{Renaming, lift, lift_by, raised}
use Rattle.chw_terms.specs.declared.term.Alt.{Alt}
use Rattle.chw_terms.specs.declared.term.Arg.{Arg}
use Rattle.chw_terms.specs.declared.term.Arg.TheVariants.{OfTerm, OfType}
use Rattle.chw_terms.specs.declared.term.Binding.{Binding}
use Rattle.chw_terms.specs.declared.term.Head.{Head}
use Rattle.chw_terms.specs.declared.term.Head.TheVariants.{Var, Global, Made, Lam, TyLam, LetRec, Con, PrimOf, Lit, VecLit, Case}
use Rattle.chw_terms.specs.Moved.{IsLeaf}
use Rattle.chw_terms.specs.TermMoves.{rename, rename_all, rename_group, rename_alts}
use Rattle.chw_terms.specs.TermTree.{TermTree, var, lam, app, ty_lam, ty_app, letrec, vec_lit, case_of, term_and, bind, alt, binders, size_of}
use Rattle.chw_terms.specs.TermView.{terms_of, group_of, alts_of, tree_of, applied}
use Rattle.chw_terms.proofs.TermLists.{size_of_group}
use Rattle.chw_typing.specs.Groups.{rename_arg}
use Rattle.moved_in_place.specs.Moves.{renamed, renamed_binding, renamed_alt}

-- under n binders more
lifted_again : (n c : ℕ) (ρ : Renaming) → lift_by n (lift_by c ρ) ≡ lift_by (c + n) ρ
lifted_again zero c ρ = let e : c ≡ c + 0 = omega arith in ap (λ n. lift_by n ρ) e
lifted_again (suc n) c ρ = let e : suc (c + n) ≡ c + suc n = omega arith in ap lift (lifted_again n c ρ) ∙ ap (λ n. lift_by n ρ) e

-- raised from a place on
pub lifted_raise : (c by : ℕ) → lift_by c (λ x. x + by) ≡ raised c by
lifted_raise zero by = refl
lifted_raise (suc c) by = ap lift (lifted_raise c by)

-- a renaming under binders
pub lifted_below : (c : ℕ) (ρ : Renaming) (x : ℕ) → x < c → lift_by c ρ x ≡ x
lifted_below zero ρ x h = absurd (omega (arith, h))
lifted_below (suc c) ρ zero h = refl
lifted_below (suc c) ρ (suc x) h = ap suc (lifted_below c ρ x (omega (arith, h)))

pub lifted_above : (c : ℕ) (ρ : Renaming) (x : ℕ) → c ≤ x → lift_by c ρ x ≡ ρ (x - c) + c
lifted_above zero ρ x h =
    let e : x ≡ x - 0 = omega arith in
    ap ρ e ∙ omega arith
lifted_above (suc c) ρ zero h = absurd (omega (arith, h))
lifted_above (suc c) ρ (suc x) h =
    let e : x - c ≡ suc x - suc c = omega arith in
    let more : suc (ρ (x - c) + c) ≡ ρ (x - c) + suc c = omega arith in
    ap suc (lifted_above c ρ x (omega (arith, h))) ∙ more ∙ ap (λ y. ρ y + suc c) e

pub renamed_var : (ρ : Renaming) (x y : ℕ) → y ≡ ρ x → var y ≡ rename (var x) ρ
unfolding rename
renamed_var ρ x y h = ap var h

pub renamed_leaf : (ρ : Renaming) (h : Head) → IsLeaf h → tree_of h ≡ rename (tree_of h) ρ
unfolding rename
renamed_leaf ρ (Global d) h = refl
renamed_leaf ρ (Made d) h = refl
renamed_leaf ρ (Con c) h = refl
renamed_leaf ρ (PrimOf p) h = refl
renamed_leaf ρ (Lit s bs) h = refl
renamed_leaf ρ (Var _) h = absurd h
renamed_leaf ρ (Lam _ _) h = absurd h
renamed_leaf ρ (TyLam _ _) h = absurd h
renamed_leaf ρ (LetRec _ _) h = absurd h
renamed_leaf ρ (VecLit _ _) h = absurd h
renamed_leaf ρ (Case _ _) h = absurd h

pub renamed_applied : (ρ : Renaming) (e : TermTree) (args : List Arg) → applied (rename e ρ) (map (rename_arg ρ) args) ≡ rename (applied e args) ρ
unfolding rename
renamed_applied ρ e [] = refl
renamed_applied ρ e (OfTerm a ∷ args) = renamed_applied ρ (app e a) args
renamed_applied ρ e (OfType t ∷ args) = renamed_applied ρ (ty_app e t) args

pub renamed_lam : (ρ : Renaming) (at : ℕ) (t : TypeTree) (e : TermTree) → lam t (renamed ρ at 1 e) ≡ rename (lam t e) (lift_by at ρ)
unfolding rename
renamed_lam ρ at t e = ap (λ ρ. lam t (rename e ρ)) (sym (lifted_again 1 at ρ))

pub renamed_ty_lam : (ρ : Renaming) (k : Kind) (e : TermTree) → ty_lam k (rename e ρ) ≡ rename (ty_lam k e) ρ
unfolding rename
renamed_ty_lam ρ k e = refl

pub renamed_group : (ρ : Renaming) (bs : List Binding) → group_of (map (renamed_binding ρ) bs) ≡ rename_group (group_of bs) ρ
unfolding rename
renamed_group ρ [] = refl
renamed_group ρ (b ∷ bs) = ap (bind b.ty (rename b.body ρ)) (renamed_group ρ bs)

pub renamed_letrec : (ρ : Renaming) (at : ℕ) (bs : List Binding) (e : TermTree) → letrec (group_of (map (renamed_binding (lift_by (at + length bs) ρ)) bs)) (rename e (lift_by (at + length bs) ρ)) ≡ rename (letrec (group_of bs) e) (lift_by at ρ)
unfolding rename
renamed_letrec ρ at bs e =
    let deep : lift_by (at + length bs) ρ ≡ lift_by (size_of (group_of bs)) (lift_by at ρ) = sym (lifted_again (length bs) at ρ) ∙ ap (λ n. lift_by n (lift_by at ρ)) (sym (size_of_group bs)) in
    ap (λ g. letrec g (rename e (lift_by (at + length bs) ρ))) (renamed_group (lift_by (at + length bs) ρ) bs)
    ∙ ap (λ ρ. letrec (rename_group (group_of bs) ρ) (rename e ρ)) deep

pub renamed_vec : (ρ : Renaming) (t : TypeTree) (es : List TermTree) → vec_lit t (terms_of (map (λ e. rename e ρ) es)) ≡ rename (vec_lit t (terms_of es)) ρ
unfolding rename
renamed_vec ρ t es = ap (vec_lit t) (each es)
  where
    each : (es : List TermTree) → terms_of (map (λ e. rename e ρ) es) ≡ rename_all (terms_of es) ρ
    each [] = refl
    each (e ∷ es) = ap (term_and (rename e ρ)) (each es)

pub renamed_case : (ρ : Renaming) (at : ℕ) (s : TermTree) (alts : List Alt) → case_of (rename s (lift_by at ρ)) (alts_of (map (renamed_alt ρ at) alts)) ≡ rename (case_of s (alts_of alts)) (lift_by at ρ)
unfolding rename
renamed_case ρ at s alts = ap (case_of (rename s (lift_by at ρ))) (each alts)
  where
    each : (alts : List Alt) → alts_of (map (renamed_alt ρ at) alts) ≡ rename_alts (alts_of alts) (lift_by at ρ)
    each [] = refl
    each (q ∷ more) = let e = sym (lifted_again (binders q.pattern) at ρ) in λ j. alt q.pattern (rename q.body (e j)) (each more j)
