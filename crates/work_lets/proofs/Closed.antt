-- What the walk that closes variables up owes, part by part.
use Rattle.std.proofs.Common.{◌≡◌, ℕ, suc, zero, ◌+◌, ◌-◌, ◌<◌, ◌≤◌, Bool, true, false, List, [], ◌∷◌, ◌++◌, map, length, get_or, refl, ap, sym, ◌∙◌, arith}
use Rattle.chw_types.specs.declared.kind.Kind.{Kind}
use Rattle.chw_types.specs.TypeMoves.{Renaming, lift, lift_by}
use Rattle.chw_types.specs.TypeTree.{TypeTree}
use Rattle.chw_types.proofs.TypeLaws.{same}
use Rattle.chw_terms.specs.declared.term.Alt.{Alt}
use Rattle.chw_terms.specs.declared.term.Arg.{Arg}
use Rattle.chw_terms.specs.declared.term.Arg.TheVariants.{OfTerm, OfType}
use Rattle.chw_terms.specs.declared.term.Binding.{Binding}
use Rattle.chw_terms.specs.declared.term.Head.{Head}
use Rattle.chw_terms.specs.declared.term.Head.TheVariants.{Var, Global, Made, Lam, TyLam, LetRec, Con, PrimOf, Lit, VecLit, Case}
use Rattle.chw_terms.specs.TermMoves.{rename, rename_all, rename_group, rename_alts}
use Rattle.chw_terms.specs.TermTree.{TermTree, var, lam, app, ty_lam, ty_app, letrec, vec_lit, case_of, term_and, bind, alt, binders, size_of}
use Rattle.chw_terms.specs.TermView.{terms_of, group_of, alts_of, tree_of, applied}
use Rattle.chw_terms.proofs.TermLists.{size_of_group}
use Rattle.rewriting.specs.Shapes.{closed_up}
use Rattle.work_lets.specs.declared.closing.Closing.{Closing}
use Rattle.work_lets.specs.Closings.{by_table, closes, one_more, closed, closed_arg, closed_binding, closed_alt, IsLeaf}

-- the table of marks, the innermost first, where so many stay before
abbrev pub places_from : ℕ → List Bool → List ℕ
places_from left [] = []
places_from left (m ∷ marks) = left ∷ places_from (one_more left m) marks

abbrev pub left_from : ℕ → List Bool → ℕ
left_from left [] = left
left_from left (m ∷ marks) = left_from (one_more left m) marks

places_more : (left : ℕ) (marks : List Bool) (m : Bool) → places_from left (marks ++ m ∷ []) ≡ places_from left marks ++ left_from left marks ∷ []
places_more left [] m = refl
places_more left (n ∷ marks) m = ap (λ ps. left ∷ ps) (places_more (one_more left n) marks m)

left_more : (left : ℕ) (marks : List Bool) (m : Bool) → left_from left (marks ++ m ∷ []) ≡ one_more (left_from left marks) m
left_more left [] m = refl
left_more left (n ∷ marks) m = left_more (one_more left n) marks m

-- the loop over the marks, at one
pub places_next : (places next : List ℕ) (left : ℕ) (marks : List Bool) (m : Bool) → places ≡ places_from 0 marks → left ≡ left_from 0 marks → next ≡ places ++ left ∷ [] → next ≡ places_from 0 (marks ++ m ∷ [])
places_next places next left marks m p l n =
    n ∙ (λ i. p i ++ l i ∷ []) ∙ sym (places_more 0 marks m)

pub left_next : (left next : ℕ) (marks : List Bool) (m : Bool) → left ≡ left_from 0 marks → next ≡ one_more left m → next ≡ left_from 0 (marks ++ m ∷ [])
left_next left next marks m l n = n ∙ ap (λ k. one_more k m) l ∙ sym (left_more 0 marks m)

-- the table says where variables come
table_at : (left : ℕ) (marks : List Bool) (x : ℕ) → by_table (places_from left marks) (left_from left marks) x ≡ left + closed_up marks x
table_at left [] x = refl
table_at left (true ∷ marks) zero = let e : left ≡ left + 0 = omega arith in e
table_at left (false ∷ marks) zero = let e : left ≡ left + 0 = omega arith in e
table_at left (true ∷ marks) (suc x) =
    let e : suc left + closed_up marks x ≡ left + suc (closed_up marks x) = omega arith in
    table_at (suc left) marks x ∙ e
table_at left (false ∷ marks) (suc x) = table_at left marks x

pub closes_up : (places : List ℕ) (left : ℕ) (marks : List Bool) → places ≡ places_from 0 marks → left ≡ left_from 0 marks → by_table places left ≡ closed_up marks
closes_up places left marks p l = (λ i. by_table (p i) (l i)) ∙ same _ _ at
  where
    at : (x : ℕ) → by_table (places_from 0 marks) (left_from 0 marks) x ≡ closed_up marks x
    at x = let e : 0 + closed_up marks x ≡ closed_up marks x = omega arith in table_at 0 marks x ∙ e

-- a place of the table, and behind it
pub within_table : (places : List ℕ) (left x d : ℕ) → x < length places → get_or places x d ≡ by_table places left x
within_table [] left x d h = absurd (omega (arith, h))
within_table (p ∷ places) left zero d h = refl
within_table (p ∷ places) left (suc x) d h = within_table places left x d (omega (arith, h))

pub behind_table : (places : List ℕ) (left x : ℕ) → length places ≤ x → left + (x - length places) ≡ by_table places left x
behind_table [] left x h = let e : left + (x - 0) ≡ left + x = omega arith in e
behind_table (p ∷ places) left zero h = absurd (omega (arith, h))
behind_table (p ∷ places) left (suc x) h =
    let e : left + (suc x - suc (length places)) ≡ left + (x - length places) = omega arith in
    e ∙ behind_table places left x (omega (arith, h))

-- under binders
pub lifted_below : (n x : ℕ) (ρ : Renaming) → x < n → lift_by n ρ x ≡ x
lifted_below zero x ρ h = absurd (omega (arith, h))
lifted_below (suc n) zero ρ h = refl
lifted_below (suc n) (suc x) ρ h = ap suc (lifted_below n x ρ (omega (arith, h)))

pub lifted_above : (n x : ℕ) (ρ : Renaming) → n ≤ x → lift_by n ρ x ≡ n + ρ (x - n)
lifted_above zero x ρ h = let e : x ≡ x - 0 = omega arith in let f : ρ (x - 0) ≡ 0 + ρ (x - 0) = omega arith in ap ρ e ∙ f
lifted_above (suc n) zero ρ h = absurd (omega (arith, h))
lifted_above (suc n) (suc x) ρ h =
    let e : x - n ≡ suc x - suc n = omega arith in
    let f : suc (n + ρ (x - n)) ≡ suc n + ρ (x - n) = omega arith in
    ap suc (lifted_above n x ρ (omega (arith, h))) ∙ f ∙ ap (λ y. suc n + ρ y) e

lifted_again : (n c : ℕ) (ρ : Renaming) → lift_by n (lift_by c ρ) ≡ lift_by (c + n) ρ
lifted_again zero c ρ = let e : c ≡ c + 0 = omega arith in ap (λ n. lift_by n ρ) e
lifted_again (suc n) c ρ = let e : suc (c + n) ≡ c + suc n = omega arith in ap lift (lifted_again n c ρ) ∙ ap (λ n. lift_by n ρ) e

-- a variable
pub closed_var : (c : Closing) (at x y : ℕ) → y ≡ lift_by at (closes c) x → var y ≡ closed c at (var x)
unfolding rename
closed_var c at x y h = ap var h

-- a head without parts stays
pub closed_leaf : (c : Closing) (at : ℕ) (h : Head) → IsLeaf h → tree_of h ≡ closed c at (tree_of h)
unfolding rename
closed_leaf c at (Global d) h = refl
closed_leaf c at (Made d) h = refl
closed_leaf c at (Con k) h = refl
closed_leaf c at (PrimOf p) h = refl
closed_leaf c at (Lit s bs) h = refl
closed_leaf c at (Var _) h = absurd h
closed_leaf c at (Lam _ _) h = absurd h
closed_leaf c at (TyLam _ _) h = absurd h
closed_leaf c at (LetRec _ _) h = absurd h
closed_leaf c at (VecLit _ _) h = absurd h
closed_leaf c at (Case _ _) h = absurd h

-- a head and its arguments, each for itself
pub closed_applied : (c : Closing) (at : ℕ) (e : TermTree) (args : List Arg) → applied (closed c at e) (map (closed_arg c at) args) ≡ closed c at (applied e args)
unfolding rename
closed_applied c at e [] = refl
closed_applied c at e (OfTerm a ∷ args) = closed_applied c at (app e a) args
closed_applied c at e (OfType t ∷ args) = closed_applied c at (ty_app e t) args

pub closed_lam : (c : Closing) (at : ℕ) (t : TypeTree) (e : TermTree) → lam t (closed c (at + 1) e) ≡ closed c at (lam t e)
unfolding rename
closed_lam c at t e = ap (λ ρ. lam t (rename e ρ)) (sym (lifted_again 1 at (closes c)))

pub closed_ty_lam : (c : Closing) (at : ℕ) (k : Kind) (e : TermTree) → ty_lam k (closed c at e) ≡ closed c at (ty_lam k e)
unfolding rename
closed_ty_lam c at k e = refl

pub closed_group : (c : Closing) (at : ℕ) (bs : List Binding) → group_of (map (closed_binding c at) bs) ≡ rename_group (group_of bs) (lift_by at (closes c))
unfolding rename_group
closed_group c at [] = refl
closed_group c at (b ∷ bs) = ap (bind b.ty (closed c at b.body)) (closed_group c at bs)

pub closed_letrec : (c : Closing) (at : ℕ) (bs : List Binding) (e : TermTree) → letrec (group_of (map (closed_binding c (at + length bs)) bs)) (closed c (at + length bs) e) ≡ closed c at (letrec (group_of bs) e)
unfolding rename
closed_letrec c at bs e =
    let deep : lift_by (at + length bs) (closes c) ≡ lift_by (size_of (group_of bs)) (lift_by at (closes c)) = sym (lifted_again (length bs) at (closes c)) ∙ ap (λ n. lift_by n (lift_by at (closes c))) (sym (size_of_group bs)) in
    ap (λ g. letrec g (closed c (at + length bs) e)) (closed_group c (at + length bs) bs)
    ∙ ap (λ ρ. letrec (rename_group (group_of bs) ρ) (rename e ρ)) deep

pub closed_vec : (c : Closing) (at : ℕ) (t : TypeTree) (es : List TermTree) → vec_lit t (terms_of (map (closed c at) es)) ≡ closed c at (vec_lit t (terms_of es))
unfolding rename rename_all
closed_vec c at t es = ap (vec_lit t) (each es)
  where
    each : (es : List TermTree) → terms_of (map (closed c at) es) ≡ rename_all (terms_of es) (lift_by at (closes c))
    each [] = refl
    each (e ∷ es) = ap (term_and (closed c at e)) (each es)

pub closed_case : (c : Closing) (at : ℕ) (s : TermTree) (alts : List Alt) → case_of (closed c at s) (alts_of (map (closed_alt c at) alts)) ≡ closed c at (case_of s (alts_of alts))
unfolding rename rename_alts
closed_case c at s alts = ap (case_of (closed c at s)) (each alts)
  where
    each : (alts : List Alt) → alts_of (map (closed_alt c at) alts) ≡ rename_alts (alts_of alts) (lift_by at (closes c))
    each [] = refl
    each (q ∷ more) = let e = sym (lifted_again (binders q.pattern) at (closes c)) in λ j. alt q.pattern (rename q.body (e j)) (each more j)
