-- What the arms of the walk over a term owe.
use Rattle.std.proofs.Common.{◌≡◌, ℕ, suc, ◌+◌, ◌≤◌, take, List, [], ◌∷◌, map, length, refl, ap, sym, ◌∙◌, arith}
use Rattle.std.proofs.lemmas.List.{take_all}
use Rattle.chw_types.specs.declared.kind.Kind.{Kind}
use Rattle.chw_types.specs.TypeTree.{TypeTree}
use Rattle.chw_types.specs.TypeMoves.{Renaming, raised, lift_by, up_by as up_type_by, put_at as type_put_at}
use Rattle.chw_types.proofs.TypeLaws.{same, lifted}
use Rattle.chw_types.proofs.TypeMoved.{put_deeper as type_put_deeper}
use Rattle.chw_terms.specs.declared.moves.Move.{Move}
use Rattle.chw_terms.specs.declared.moves.Move.TheVariants.{Rename, PutTerm, PutType}
use Rattle.chw_terms.specs.declared.term.Head.{Head}
use Rattle.chw_terms.specs.declared.term.Head.TheVariants.{Var, Global, Made, Lam, TyLam, LetRec, Con, PrimOf, Lit, VecLit, Case}
use Rattle.chw_terms.specs.declared.term.Binding.{Binding}
use Rattle.chw_terms.specs.declared.term.Alt.{Alt}
use Rattle.chw_terms.specs.declared.term.Arg.{Arg}
use Rattle.chw_terms.specs.declared.term.Arg.TheVariants.{OfTerm, OfType}
use Rattle.chw_terms.specs.TermTree.{TermTree, var, lam, app, ty_lam, ty_app, letrec, vec_lit, case_of, term_and, bind, alt, binders, size_of}
use Rattle.chw_terms.specs.TermView.{terms_of, group_of, alts_of, tree_of, applied}
use Rattle.chw_terms.specs.TypesMoved.{rename_types, rename_types_all, rename_types_group, rename_types_alts, sub_types, sub_types_all, sub_types_group, sub_types_alts, shift_types}
use Rattle.chw_terms.specs.TermMoves.{rename, rename_all, rename_group, rename_alts, up_by, sub, sub_all, sub_group, sub_alts, shift, put_at, put, in_place_of, lowered, exchanged}
use Rattle.chw_terms.specs.Evaluated.{evaluated_in, evaluated_in_all, evaluated_in_group, evaluated_in_alts}
use Rattle.chw_terms.specs.Moved.{renumbered, renamed, put_under, typed, moved, moved_type, moved_arg, moved_binding, moved_alt, IsLeaf}
use Rattle.chw_terms.proofs.Renamed.{types_types, types_after_rename, types_ids}
use Rattle.chw_terms.proofs.TermLists.{size_of_group}
use Rattle.chw_terms.proofs.Renumbered.{shift_by_none, up_again, renumbered_deeper, up_by_in_place, one_is_in_place, up_in_place_retyped}

types_by_none : (e : TermTree) → shift_types e 0 0 ≡ e
types_by_none e = ap (rename_types e) (same _ _ none_added) ∙ types_ids e
  where
    none_added : (x : ℕ) → x + 0 ≡ x
    none_added x = omega arith

pub shift_alone : (e : TermTree) (c by : ℕ) → renamed (raised c by) 0 0 e ≡ shift e c by
shift_alone e c by = types_by_none (shift e c by)

pub shift_types_alone : (e : TermTree) (c by : ℕ) → renamed (raised 0 0) by c e ≡ shift_types e c by
shift_types_alone e c by = ap (λ e. shift_types e c by) (shift_by_none e)

pub raise_nothing : (e : TermTree) → renamed (raised 0 0) 0 0 e ≡ e
raise_nothing e = types_by_none (shift e 0 0) ∙ shift_by_none e

pub lower_alone : (e : TermTree) (v : ℕ) → renamed (lowered v) 0 0 e ≡ rename e (lowered v)
lower_alone e v = types_by_none (rename e (lowered v))

pub exchange_alone : (e : TermTree) (m n : ℕ) → renamed (exchanged m n) 0 0 e ≡ rename e (exchanged m n)
exchange_alone e m n = types_by_none (rename e (exchanged m n))

pub put_alone : (e a : TermTree) (c : ℕ) → put_under 0 a c 0 e ≡ put e c a
unfolding put_at
put_alone e a c = ap (λ σ. sub e (up_by c σ)) (ap (in_place_of 0) (types_by_none a) ∙ one_is_in_place a)

pub put_here_alone : (e a : TermTree) (v : ℕ) → put_under v a 0 0 e ≡ sub e (in_place_of v a)
unfolding up_by
put_here_alone e a v = ap (λ a. sub e (in_place_of v a)) (types_by_none a)

-- what is put for a variable
pub put_var : (v : ℕ) (a : TermTree) (c n x : ℕ) → in_place_of (v + c) (renamed (raised 0 c) n 0 a) x ≡ put_under v a c n (var x)
unfolding sub
put_var v a c n x =
    ap (λ a. in_place_of (v + c) a x) (types_after_rename a (raised 0 c) (raised 0 n))
    ∙ ap (λ σ. σ x) (sym (up_by_in_place c v (shift_types a 0 n)))

pub renamed_var : (ρ : Renaming) (types_by types x y : ℕ) → y ≡ ρ x → var y ≡ renamed ρ types_by types (var x)
unfolding rename rename_types
renamed_var ρ types_by types x y h = ap var h

pub typed_var : (a : TypeTree) (types x : ℕ) → var x ≡ typed a types (var x)
unfolding sub_types evaluated_in
typed_var a types x = refl

-- a loop over items that has come to their end
pub all_done : {X Y : Type 0} (f : X → Y) (xs : List X) (done : List Y) (i : ℕ) → done ≡ map f (take i xs) → length xs ≤ i → done ≡ map f xs
all_done f xs done i d all = d ∙ ap (map f) (take_all i xs all)

-- a head without parts stays
pub moved_leaf : (m : Move) (at types : ℕ) (h : Head) → IsLeaf h → tree_of h ≡ moved m at types (tree_of h)
unfolding rename rename_types sub sub_types evaluated_in
moved_leaf (Rename _ _) at types (Global d) h = refl
moved_leaf (Rename _ _) at types (Made d) h = refl
moved_leaf (Rename _ _) at types (Con c) h = refl
moved_leaf (Rename _ _) at types (PrimOf p) h = refl
moved_leaf (Rename _ _) at types (Lit s bs) h = refl
moved_leaf (PutTerm _ _) at types (Global d) h = refl
moved_leaf (PutTerm _ _) at types (Made d) h = refl
moved_leaf (PutTerm _ _) at types (Con c) h = refl
moved_leaf (PutTerm _ _) at types (PrimOf p) h = refl
moved_leaf (PutTerm _ _) at types (Lit s bs) h = refl
moved_leaf (PutType _) at types (Global d) h = refl
moved_leaf (PutType _) at types (Made d) h = refl
moved_leaf (PutType _) at types (Con c) h = refl
moved_leaf (PutType _) at types (PrimOf p) h = refl
moved_leaf (PutType _) at types (Lit s bs) h = refl
moved_leaf m at types (Var _) h = absurd h
moved_leaf m at types (Lam _ _) h = absurd h
moved_leaf m at types (TyLam _ _) h = absurd h
moved_leaf m at types (LetRec _ _) h = absurd h
moved_leaf m at types (VecLit _ _) h = absurd h
moved_leaf m at types (Case _ _) h = absurd h

-- a head and its arguments are moved each for itself
pub moved_applied : (m : Move) (at types : ℕ) (e : TermTree) (args : List Arg) → applied (moved m at types e) (map (moved_arg m at types) args) ≡ moved m at types (applied e args)
unfolding rename rename_types sub sub_types evaluated_in
moved_applied m at types e [] = refl
moved_applied (Rename r tb) at types e (OfTerm a ∷ args) = moved_applied (Rename r tb) at types (app e a) args
moved_applied (Rename r tb) at types e (OfType t ∷ args) = moved_applied (Rename r tb) at types (ty_app e t) args
moved_applied (PutTerm v b) at types e (OfTerm a ∷ args) = moved_applied (PutTerm v b) at types (app e a) args
moved_applied (PutTerm v b) at types e (OfType t ∷ args) = moved_applied (PutTerm v b) at types (ty_app e t) args
moved_applied (PutType b) at types e (OfTerm a ∷ args) = moved_applied (PutType b) at types (app e a) args
moved_applied (PutType b) at types e (OfType t ∷ args) = moved_applied (PutType b) at types (ty_app e t) args

pub moved_lam : (m : Move) (at types : ℕ) (t : TypeTree) (e : TermTree) → lam (moved_type m types t) (moved m (at + 1) types e) ≡ moved m at types (lam t e)
unfolding rename rename_types sub sub_types evaluated_in up_by
moved_lam (Rename r tb) at types t e = ap (λ ρ. lam (moved_type (Rename r tb) types t) (shift_types (rename e ρ) types tb)) (sym (renumbered_deeper r 1 at))
moved_lam (PutTerm v a) at types t e = ap (λ σ. lam t (sub e σ)) (sym (up_again 1 at (in_place_of v (shift_types a.now 0 types))))
moved_lam (PutType a) at types t e = refl

pub moved_ty_lam : (m : Move) (at types : ℕ) (k : Kind) (e : TermTree) → ty_lam k (moved m at (types + 1) e) ≡ moved m at types (ty_lam k e)
unfolding rename rename_types sub sub_types evaluated_in up_type_by
moved_ty_lam (Rename r tb) at types k e = ap (λ π. ty_lam k (rename_types (rename e (renumbered r at)) π)) (sym (lifted 1 types tb))
moved_ty_lam (PutTerm v a) at types k e =
    ap (λ b. ty_lam k (sub e (up_by at (in_place_of v b)))) more ∙ ap (λ σ. ty_lam k (sub e σ)) (sym (up_in_place_retyped at v (shift_types a.now 0 types)))
  where
    one_more : (x : ℕ) → x + (types + 1) ≡ suc (x + types)
    one_more x = omega arith

    more : shift_types a.now 0 (types + 1) ≡ rename_types (shift_types a.now 0 types) suc
    more = ap (rename_types a.now) (same _ _ one_more) ∙ sym (types_types a.now (raised 0 types) suc)
moved_ty_lam (PutType a) at types k e = ap (λ σ. ty_lam k (evaluated_in (sub_types e σ))) (sym (type_put_deeper 1 types a.now))

pub moved_letrec : (m : Move) (at types : ℕ) (bs : List Binding) (e : TermTree) → letrec (group_of (map (moved_binding m (at + length bs) types) bs)) (moved m (at + length bs) types e) ≡ moved m at types (letrec (group_of bs) e)
unfolding rename rename_types sub sub_types evaluated_in
moved_letrec (Rename r tb) at types bs e =
    let deep : renumbered r (at + length bs) ≡ lift_by (size_of (group_of bs)) (renumbered r at) = sym (renumbered_deeper r (length bs) at) ∙ ap (λ n. lift_by n (renumbered r at)) (sym (size_of_group bs)) in
    ap (λ g. letrec g (renamed (renumbered r (at + length bs)) tb types e)) (each (at + length bs) bs)
    ∙ ap (λ ρ. letrec (rename_types_group (rename_group (group_of bs) ρ) (raised types tb)) (rename_types (rename e ρ) (raised types tb))) deep
  where
    each : (n : ℕ) (bs : List Binding) → group_of (map (moved_binding (Rename r tb) n types) bs) ≡ rename_types_group (rename_group (group_of bs) (renumbered r n)) (raised types tb)
    each n [] = refl
    each n (b ∷ bs) = ap (bind (moved_type (Rename r tb) types b.ty) (renamed (renumbered r n) tb types b.body)) (each n bs)
moved_letrec (PutTerm v a) at types bs e =
    let σ = in_place_of v (shift_types a.now 0 types) in
    let deep : up_by (at + length bs) σ ≡ up_by (size_of (group_of bs)) (up_by at σ) = sym (up_again (length bs) at σ) ∙ ap (λ n. up_by n (up_by at σ)) (sym (size_of_group bs)) in
    ap (λ g. letrec g (put_under v a.now (at + length bs) types e)) (each (at + length bs) bs)
    ∙ ap (λ σ. letrec (sub_group (group_of bs) σ) (sub e σ)) deep
  where
    each : (n : ℕ) (bs : List Binding) → group_of (map (moved_binding (PutTerm v a) n types) bs) ≡ sub_group (group_of bs) (up_by n (in_place_of v (shift_types a.now 0 types)))
    each n [] = refl
    each n (b ∷ bs) = ap (bind b.ty (put_under v a.now n types b.body)) (each n bs)
moved_letrec (PutType a) at types bs e = ap (λ g. letrec g (typed a.now types e)) (each (at + length bs) bs)
  where
    each : (n : ℕ) (bs : List Binding) → group_of (map (moved_binding (PutType a) n types) bs) ≡ evaluated_in_group (sub_types_group (group_of bs) (type_put_at types a.now))
    each n [] = refl
    each n (b ∷ bs) = ap (bind (moved_type (PutType a) types b.ty) (typed a.now types b.body)) (each n bs)

pub moved_vec : (m : Move) (at types : ℕ) (t : TypeTree) (es : List TermTree) → vec_lit (moved_type m types t) (terms_of (map (moved m at types) es)) ≡ moved m at types (vec_lit t (terms_of es))
unfolding rename rename_types sub sub_types evaluated_in
moved_vec (Rename r tb) at types t es = ap (vec_lit (moved_type (Rename r tb) types t)) (each es)
  where
    each : (es : List TermTree) → terms_of (map (renamed (renumbered r at) tb types) es) ≡ rename_types_all (rename_all (terms_of es) (renumbered r at)) (raised types tb)
    each [] = refl
    each (e ∷ es) = ap (term_and (renamed (renumbered r at) tb types e)) (each es)
moved_vec (PutTerm v a) at types t es = ap (vec_lit t) (each es)
  where
    each : (es : List TermTree) → terms_of (map (put_under v a.now at types) es) ≡ sub_all (terms_of es) (up_by at (in_place_of v (shift_types a.now 0 types)))
    each [] = refl
    each (e ∷ es) = ap (term_and (put_under v a.now at types e)) (each es)
moved_vec (PutType a) at types t es = ap (vec_lit (moved_type (PutType a) types t)) (each es)
  where
    each : (es : List TermTree) → terms_of (map (typed a.now types) es) ≡ evaluated_in_all (sub_types_all (terms_of es) (type_put_at types a.now))
    each [] = refl
    each (e ∷ es) = ap (term_and (typed a.now types e)) (each es)

pub moved_case : (m : Move) (at types : ℕ) (s : TermTree) (alts : List Alt) → case_of (moved m at types s) (alts_of (map (moved_alt m at types) alts)) ≡ moved m at types (case_of s (alts_of alts))
unfolding rename rename_types sub sub_types evaluated_in
moved_case (Rename r tb) at types s alts = ap (case_of (renamed (renumbered r at) tb types s)) (each alts)
  where
    each : (alts : List Alt) → alts_of (map (moved_alt (Rename r tb) at types) alts) ≡ rename_types_alts (rename_alts (alts_of alts) (renumbered r at)) (raised types tb)
    each [] = refl
    each (q ∷ more) = let e = sym (renumbered_deeper r (binders q.pattern) at) in λ j. alt q.pattern (rename_types (rename q.body (e j)) (raised types tb)) (each more j)
moved_case (PutTerm v a) at types s alts = ap (case_of (put_under v a.now at types s)) (each alts)
  where
    each : (alts : List Alt) → alts_of (map (moved_alt (PutTerm v a) at types) alts) ≡ sub_alts (alts_of alts) (up_by at (in_place_of v (shift_types a.now 0 types)))
    each [] = refl
    each (q ∷ more) = let e = sym (up_again (binders q.pattern) at (in_place_of v (shift_types a.now 0 types))) in λ j. alt q.pattern (sub q.body (e j)) (each more j)
moved_case (PutType a) at types s alts = ap (case_of (typed a.now types s)) (each alts)
  where
    each : (alts : List Alt) → alts_of (map (moved_alt (PutType a) at types) alts) ≡ evaluated_in_alts (sub_types_alts (alts_of alts) (type_put_at types a.now))
    each [] = refl
    each (q ∷ more) = ap (alt q.pattern (typed a.now types q.body)) (each more)
