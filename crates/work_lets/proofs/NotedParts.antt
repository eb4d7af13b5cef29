-- What the walk over a term notes, part by part.
use Rattle.std.proofs.Common.{◌≡◌, ◌∙◌, sym, ap, refl, subst, inl, inr, ◌⊎◌, ◌||◌, ◌==◌, ℕ, suc, ◌+◌, ◌-◌, ◌<◌, ◌≤◌, Bool, false, List, [], ◌∷◌, ◌++◌, length, get_or, take, arith}
use Rattle.std.proofs.Math.Bool.{or_assoc, or-false}
use Rattle.std.proofs.lemmas.Bool.{cases_eq, eq-eqb, ne_eqb}
use Rattle.std.proofs.lemmas.List.{take_more}
use Rattle.std.proofs.lemmas.List.Recursion.{or_push}
use Rattle.chw_types.specs.declared.kind.Kind.{Kind}
use Rattle.chw_types.specs.TypeTree.{TypeTree}
use Rattle.chw_terms.specs.declared.term.Alt.{Alt}
use Rattle.chw_terms.specs.declared.term.Arg.{Arg}
use Rattle.chw_terms.specs.declared.term.Arg.TheVariants.{OfTerm, OfType}
use Rattle.chw_terms.specs.declared.term.Binding.{Binding}
use Rattle.chw_terms.specs.declared.term.Head.{Head}
use Rattle.chw_terms.specs.declared.term.Head.TheVariants.{Var, Global, Made, Lam, TyLam, LetRec, Con, PrimOf, Lit, VecLit, Case}
use Rattle.chw_terms.specs.Occurs.{occurs, occurs_all, occurs_group, occurs_alts}
use Rattle.chw_terms.specs.Sought.{any_of, occurs_in, occurs_in_binding, occurs_in_alt}
use Rattle.chw_terms.specs.TermTree.{TermTree, var, lam, app, ty_lam, ty_app, letrec, vec_lit, case_of, size_of}
use Rattle.chw_terms.specs.TermView.{terms_of, group_of, alts_of, tree_of, applied}
use Rattle.chw_terms.proofs.TermLists.{size_of_group}
use Rattle.work_lets.specs.declared.reached.Search.{Search}
use Rattle.work_lets.specs.Closings.{IsLeaf}
use Rattle.work_lets.specs.Searching.{beyond, Noted}
use Rattle.work_lets.proofs.Searched.{noted_none, noted_both}

-- by a test that is the same everywhere
noted_alike : (s s' : Search) (f g : ℕ → Bool) → ((v : ℕ) → f v ≡ g v) → Noted s f s' → Noted s g s'
noted_alike s s' f g h n = subst (λ test. Noted s test s') (λ i v. h v i) n

-- a term under no binders
pub noted_alone : (s s' : Search) (f : ℕ → Bool) → Noted s (beyond f 0) s' → Noted s f s'
noted_alone s s' f n = noted_alike s s' (beyond f 0) f (λ v. ap f (none v)) n
  where
    none : (v : ℕ) → v + 0 ≡ v
    none v = omega arith

-- a variable of a binder that was passed, and another one
pub noted_bound : (s : Search) (x n : ℕ) → x < n → Noted s (beyond (occurs (var x)) n) s
unfolding occurs
noted_bound s x n h = noted_alike s s (λ v. false) (beyond (occurs (var x)) n) (λ v. sym (ne_eqb x (v + n) (λ e. omega (arith, h, e)))) (noted_none s)

pub noted_var : (s s' : Search) (x n : ℕ) → n ≤ x → Noted s (λ v. x - n == v) s' → Noted s (beyond (occurs (var x)) n) s'
unfolding occurs
noted_var s s' x n h m = noted_alike s s' (λ v. x - n == v) (beyond (occurs (var x)) n) (λ v. each v (cases_eq (x - n) v)) m
  where
    each : (v : ℕ) → (x - n ≡ v) ⊎ (x - n ≡ v → ⊥) → (x - n == v) ≡ (x == v + n)
    each v (inl e) = eq-eqb (x - n) v e ∙ sym (eq-eqb x (v + n) (omega (arith, h, e)))
    each v (inr d) = ne_eqb (x - n) v d ∙ sym (ne_eqb x (v + n) (λ e. d (omega (arith, h, e))))

-- a head without variables
pub noted_leaf : (s : Search) (n : ℕ) (h : Head) → IsLeaf h → Noted s (beyond (occurs (tree_of h)) n) s
unfolding occurs
noted_leaf s n (Global d) h = noted_none s
noted_leaf s n (Made m) h = noted_none s
noted_leaf s n (Con c) h = noted_none s
noted_leaf s n (PrimOf p) h = noted_none s
noted_leaf s n (Lit t b) h = noted_none s
noted_leaf s n (Var x) h = absurd h
noted_leaf s n (Lam t e) h = absurd h
noted_leaf s n (TyLam k e) h = absurd h
noted_leaf s n (LetRec bs e) h = absurd h
noted_leaf s n (VecLit t es) h = absurd h
noted_leaf s n (Case e alts) h = absurd h

-- a head and its arguments
spine_occurs : (e : TermTree) (args : List Arg) (v : ℕ) → occurs (applied e args) v ≡ (occurs e v || any_of occurs_in args v)
unfolding occurs
spine_occurs e [] v = sym (or-false (occurs e v))
spine_occurs e (OfTerm a ∷ args) v = spine_occurs (app e a) args v ∙ or_assoc (occurs e v) (occurs a v) (any_of occurs_in args v)
spine_occurs e (OfType t ∷ args) v = spine_occurs (ty_app e t) args v

pub noted_applied : (s s' s'' : Search) (n : ℕ) (e : TermTree) (args : List Arg) → Noted s (beyond (occurs e) n) s' → Noted s' (beyond (any_of occurs_in args) n) s'' → Noted s (beyond (occurs (applied e args)) n) s''
noted_applied s s' s'' n e args a b =
    noted_alike s s'' (λ v. occurs e (v + n) || any_of occurs_in args (v + n)) (beyond (occurs (applied e args)) n) (λ v. sym (spine_occurs e args (v + n)))
    (noted_both s s' s'' (beyond (occurs e) n) (beyond (any_of occurs_in args) n) a b)

-- the forms of heads
pub noted_lam : (s s' : Search) (n : ℕ) (t : TypeTree) (e : TermTree) → Noted s (beyond (occurs e) (n + 1)) s' → Noted s (beyond (occurs (lam t e)) n) s'
unfolding occurs
noted_lam s s' n t e m = noted_alike s s' (beyond (occurs e) (n + 1)) (beyond (occurs (lam t e)) n) (λ v. ap (occurs e) (next v)) m
  where
    next : (v : ℕ) → v + (n + 1) ≡ suc (v + n)
    next v = omega arith

pub noted_ty_lam : (s s' : Search) (n : ℕ) (k : Kind) (e : TermTree) → Noted s (beyond (occurs e) n) s' → Noted s (beyond (occurs (ty_lam k e)) n) s'
unfolding occurs
noted_ty_lam s s' n k e m = m

pub noted_letrec : (s s' s'' : Search) (n inner : ℕ) (bs : List Binding) (e : TermTree) → inner ≡ n + length bs → Noted s (beyond (any_of occurs_in_binding bs) inner) s' → Noted s' (beyond (occurs e) inner) s''
    → Noted s (beyond (occurs (letrec (group_of bs) e)) n) s''
unfolding occurs
noted_letrec s s' s'' n inner bs e h a b =
    noted_alike s s'' (λ v. any_of occurs_in_binding bs (v + inner) || occurs e (v + inner)) (beyond (occurs (letrec (group_of bs) e)) n)
    (λ v i. sides bs (deep v i) i || occurs e (deep v i))
    (noted_both s s' s'' (beyond (any_of occurs_in_binding bs) inner) (beyond (occurs e) inner) a b)
  where
    deep : (v : ℕ) → v + inner ≡ v + n + size_of (group_of bs)
    deep v = omega (arith, h, size_of_group bs)

    sides : (bs : List Binding) (w : ℕ) → any_of occurs_in_binding bs w ≡ occurs_group (group_of bs) w
    sides [] w = refl
    sides (b ∷ bs) w = ap (λ r. occurs b.body w || r) (sides bs w)

pub noted_vec : (s s' : Search) (n : ℕ) (t : TypeTree) (es : List TermTree) → Noted s (beyond (any_of occurs es) n) s' → Noted s (beyond (occurs (vec_lit t (terms_of es))) n) s'
unfolding occurs
noted_vec s s' n t es m = noted_alike s s' (beyond (any_of occurs es) n) (beyond (occurs (vec_lit t (terms_of es))) n) (λ v. each es (v + n)) m
  where
    each : (es : List TermTree) (w : ℕ) → any_of occurs es w ≡ occurs_all (terms_of es) w
    each [] w = refl
    each (e ∷ es) w = ap (λ r. occurs e w || r) (each es w)

pub noted_case : (s s' s'' : Search) (n : ℕ) (e : TermTree) (alts : List Alt) → Noted s (beyond (occurs e) n) s' → Noted s' (beyond (any_of occurs_in_alt alts) n) s'' → Noted s (beyond (occurs (case_of e (alts_of alts))) n) s''
unfolding occurs
noted_case s s' s'' n e alts a b =
    noted_alike s s'' (λ v. occurs e (v + n) || any_of occurs_in_alt alts (v + n)) (beyond (occurs (case_of e (alts_of alts))) n) (λ v. ap (λ r. occurs e (v + n) || r) (each alts (v + n)))
    (noted_both s s' s'' (beyond (occurs e) n) (beyond (any_of occurs_in_alt alts) n) a b)
  where
    each : (alts : List Alt) (w : ℕ) → any_of occurs_in_alt alts w ≡ occurs_alts (alts_of alts) w
    each [] w = refl
    each (q ∷ more) w = ap (λ r. occurs_in_alt q w || r) (each more w)

-- a loop over parts, at one more
pub noted_next : {X : Type 0} (s s' s'' : Search) (p : X → ℕ → Bool) (n : ℕ) (xs : List X) (i : ℕ) (x : X) → i < length xs → x ≡ get_or xs i x
    → Noted s (beyond (any_of p (take i xs)) n) s' → Noted s' (beyond (p x) n) s'' → Noted s (beyond (any_of p (take (i + 1) xs)) n) s''
noted_next s s' s'' p n xs i x h at a b =
    noted_alike s s'' (λ v. any_of p (take i xs) (v + n) || p x (v + n)) (beyond (any_of p (take (i + 1) xs)) n) (λ v. each (v + n))
    (noted_both s s' s'' (beyond (any_of p (take i xs)) n) (beyond (p x) n) a b)
  where
    each : (w : ℕ) → (any_of p (take i xs) w || p x w) ≡ any_of p (take (i + 1) xs) w
    each w =
        sym (or_push (λ ys. any_of p ys w) (λ y. p y w) refl (λ y ys. refl) (take i xs) x)
        ∙ ap (λ ys. any_of p ys w) (ap (λ y. take i xs ++ y ∷ []) at ∙ sym (take_more xs i x h))
