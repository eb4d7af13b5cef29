-- What the arms of the walk over a call owe.
use Rattle.std.proofs.Common.{◌≡◌, ◌∙◌, ap, sym, refl, inl, inr, ℕ, zero, suc, ◌+◌, ◌-◌, ◌<◌, ◌≤◌, ◌==◌, Bool, true, false, cond, List, [], ◌∷◌, map, length, length-drop, take, drop, drop-cons, get_or, Option, Some, None, arith, eq-eqb}
use Rattle.std.specs.List.{slice_get}
use Rattle.std.specs.Option.{option_map, unwrap_or}
use Rattle.std.proofs.lemmas.Bool.Decides.{eqb_tells}
use Rattle.std.proofs.lemmas.List.{take_all, drop_all, length-map}
use Rattle.chw_base.specs.declared.index.VarIx.{VarIx}
use Rattle.chw_types.specs.declared.kind.Scalar.{Scalar}
use Rattle.chw_prims.specs.declared.prim.Primitive.{Primitive as Prim}
use Rattle.chw_terms.specs.declared.program.Program.{Program}
use Rattle.chw_terms.specs.declared.scene.Made.{Made}
use Rattle.chw_types.specs.declared.kind.Kind.{Kind}
use Rattle.chw_types.specs.TypeMoves.{Renaming, lift, lift_by}
use Rattle.chw_types.specs.TypeTree.{TypeTree}
use Rattle.chw_terms.specs.declared.term.Alt.{Alt}
use Rattle.chw_terms.specs.declared.term.Arg.{Arg}
use Rattle.chw_terms.specs.declared.term.Arg.TheVariants.{OfTerm, OfType}
use Rattle.chw_terms.specs.declared.term.Binding.{Binding}
use Rattle.chw_terms.specs.TermMoves.{rename, rename_all, rename_group, rename_alts}
use Rattle.chw_terms.specs.TermTree.{TermTree, var, global, made as made_name, lam, app, ty_lam, ty_app, letrec, con, prim, lit, vec_lit, case_of, term_and, bind, alt, binders, size_of}
use Rattle.chw_terms.specs.TermView.{terms_of, group_of, alts_of, applied}
use Rattle.chw_terms.proofs.Renamed.{rename_ids}
use Rattle.chw_terms.proofs.TermLists.{size_of_group}
use Rattle.chw_typing.proofs.Lists.{found_in_map}
use Rattle.rewriting.specs.Calls.{to_lambdas}
use Rattle.rewriting.specs.Origins.{MadeOf, Origins, made_of, origin_at, origin_of, with_origins, with_origins_all, with_origins_group, with_origins_alts}
use Rattle.specialise.specs.Closed.{numbers, closed, closed_arg, closed_binding, closed_alt}

-- a loop over items that has come to their end
pub all_done : {X Y : Type 0} (f : X → Y) (xs : List X) (done : List Y) (i : ℕ) → done ≡ map f (take i xs) → length xs ≤ i → done ≡ map f xs
all_done f xs done i d all = d ∙ ap (map f) (take_all i xs all)

-- below more binders
pub lifted_more : (m n : ℕ) (ρ : Renaming) → lift_by (n + m) ρ ≡ lift_by m (lift_by n ρ)
lifted_more zero n ρ = let e : n + 0 ≡ n = omega arith in ap (λ k. lift_by k ρ) e
lifted_more (suc m) n ρ = let e : n + suc m ≡ suc (n + m) = omega arith in ap (λ k. lift_by k ρ) e ∙ ap lift (lifted_more m n ρ)

-- variables of the binders stay, and others are renamed behind them
pub lifted_within : (n : ℕ) (ρ : Renaming) (x : ℕ) → x < n → lift_by n ρ x ≡ x
lifted_within zero ρ x l = absurd (omega (arith, l))
lifted_within (suc n) ρ zero l = refl
lifted_within (suc n) ρ (suc x) l = ap suc (lifted_within n ρ x (omega (arith, l)))

pub lifted_behind : (n : ℕ) (ρ : Renaming) (x : ℕ) → n ≤ x → lift_by n ρ x ≡ n + ρ (x - n)
lifted_behind zero ρ x l = let e : x ≡ x - 0 = omega arith in let f : ρ (x - 0) ≡ 0 + ρ (x - 0) = omega arith in ap ρ e ∙ f
lifted_behind (suc n) ρ zero l = absurd (omega (arith, l))
lifted_behind (suc n) ρ (suc x) l =
    let less : x - n ≡ suc x - suc n = omega arith in
    let more : suc (n + ρ (suc x - suc n)) ≡ suc n + ρ (suc x - suc n) = omega arith in
    ap suc (lifted_behind n ρ x (omega (arith, l))) ∙ ap (λ k. suc (n + ρ k)) less ∙ more

-- a head and its arguments
pub closed_applied : (o : Origins) (ρ : Renaming) (e : TermTree) (args : List Arg) → applied (closed o ρ e) (map (closed_arg o ρ) args) ≡ closed o ρ (applied e args)
unfolding rename with_origins
closed_applied o ρ e [] = refl
closed_applied o ρ e (OfTerm a ∷ args) = closed_applied o ρ (app e a) args
closed_applied o ρ e (OfType t ∷ args) = closed_applied o ρ (ty_app e t) args

-- the forms
pub closed_var : (o : Origins) (ρ : Renaming) (x y : ℕ) → y ≡ ρ x → var y ≡ closed o ρ (var x)
unfolding rename with_origins
closed_var o ρ x y h = ap var h

pub closed_made : (o : Origins) (ρ : Renaming) (m : ℕ) → origin_at o m ≡ closed o ρ (made_name m)
unfolding rename with_origins
closed_made o ρ m = refl

pub closed_lam : (o : Origins) (n : ℕ) (ρ : Renaming) (t : TypeTree) (e : TermTree) → lam t (closed o (lift_by (n + 1) ρ) e) ≡ closed o (lift_by n ρ) (lam t e)
unfolding rename with_origins
closed_lam o n ρ t e = ap (λ π. lam t (closed o π e)) (lifted_more 1 n ρ)

pub closed_ty_lam : (o : Origins) (ρ : Renaming) (k : Kind) (e : TermTree) → ty_lam k (closed o ρ e) ≡ closed o ρ (ty_lam k e)
unfolding rename with_origins
closed_ty_lam o ρ k e = refl

each_binding : (o : Origins) (ρ : Renaming) (bs : List Binding) → group_of (map (closed_binding o ρ) bs) ≡ with_origins_group (origin_at o) (rename_group (group_of bs) ρ)
unfolding rename with_origins
each_binding o ρ [] = refl
each_binding o ρ (b ∷ bs) = ap (bind b.ty (closed o ρ b.body)) (each_binding o ρ bs)

pub closed_letrec : (o : Origins) (n : ℕ) (ρ : Renaming) (bs : List Binding) (e : TermTree)
    → letrec (group_of (map (closed_binding o (lift_by (n + length bs) ρ)) bs)) (closed o (lift_by (n + length bs) ρ) e) ≡ closed o (lift_by n ρ) (letrec (group_of bs) e)
unfolding rename with_origins
closed_letrec o n ρ bs e =
    let deep : lift_by (n + length bs) ρ ≡ lift_by (size_of (group_of bs)) (lift_by n ρ) = lifted_more (length bs) n ρ ∙ ap (λ k. lift_by k (lift_by n ρ)) (sym (size_of_group bs)) in
    ap (λ g. letrec g (closed o (lift_by (n + length bs) ρ) e)) (each_binding o (lift_by (n + length bs) ρ) bs)
    ∙ ap (λ π. letrec (with_origins_group (origin_at o) (rename_group (group_of bs) π)) (closed o π e)) deep

each_element : (o : Origins) (ρ : Renaming) (es : List TermTree) → terms_of (map (closed o ρ) es) ≡ with_origins_all (origin_at o) (rename_all (terms_of es) ρ)
unfolding rename with_origins
each_element o ρ [] = refl
each_element o ρ (e ∷ es) = ap (term_and (closed o ρ e)) (each_element o ρ es)

pub closed_vec : (o : Origins) (ρ : Renaming) (t : TypeTree) (es : List TermTree) → vec_lit t (terms_of (map (closed o ρ) es)) ≡ closed o ρ (vec_lit t (terms_of es))
unfolding rename with_origins
closed_vec o ρ t es = ap (vec_lit t) (each_element o ρ es)

each_alt : (o : Origins) (ρ : Renaming) (alts : List Alt) → alts_of (map (closed_alt o ρ) alts) ≡ with_origins_alts (origin_at o) (rename_alts (alts_of alts) ρ)
unfolding rename with_origins
each_alt o ρ [] = refl
each_alt o ρ (a ∷ alts) = ap (alt a.pattern (closed o (lift_by (binders a.pattern) ρ) a.body)) (each_alt o ρ alts)

pub closed_case : (o : Origins) (ρ : Renaming) (s : TermTree) (alts : List Alt) → case_of (closed o ρ s) (alts_of (map (closed_alt o ρ) alts)) ≡ closed o ρ (case_of s (alts_of alts))
unfolding rename with_origins
closed_case o ρ s alts = ap (case_of (closed o ρ s)) (each_alt o ρ alts)

-- an alternative below its binders
pub closed_below : (o : Origins) (n : ℕ) (ρ : Renaming) (a : Alt) (k : ℕ) → k ≡ n + binders a.pattern → closed o (lift_by k ρ) a.body ≡ closed o (lift_by (binders a.pattern) (lift_by n ρ)) a.body
closed_below o n ρ a k h = ap (λ j. closed o (lift_by j ρ) a.body) h ∙ ap (λ π. closed o π a.body) (lifted_more (binders a.pattern) n ρ)

pub closed_global : (o : Origins) (ρ : Renaming) (d : ℕ) → global d ≡ closed o ρ (global d)
unfolding rename with_origins
closed_global o ρ d = refl

pub closed_con : (o : Origins) (ρ : Renaming) (c : ℕ) → con c ≡ closed o ρ (con c)
unfolding rename with_origins
closed_con o ρ c = refl

pub closed_prim : (o : Origins) (ρ : Renaming) (p : Prim) → prim p ≡ closed o ρ (prim p)
unfolding rename with_origins
closed_prim o ρ p = refl

pub closed_lit : (o : Origins) (ρ : Renaming) (s : Scalar) (bits : List Bool) → lit s bits ≡ closed o ρ (lit s bits)
unfolding rename with_origins
closed_lit o ρ s bits = refl

-- a made definition of a number that one has, and of one that none has
pub origin_there : (p : Program) (made : List Made) (m : ℕ) (it : Made) → slice_get made m ≡ Some it → it.origin ≡ origin_at (record { program = p; made = map made_of made }) m
origin_there p made m it is = ap (λ (r : Option MadeOf). unwrap_or (option_map (λ (it : MadeOf). it.origin) r) (made_name m)) (sym (found_in_map made_of made m it is))

pub no_origin : (p : Program) (made : List Made) (m : ℕ) → slice_get made m ≡ None → made_name m ≡ origin_at (record { program = p; made = map made_of made }) m
no_origin p made m none = ap (λ (r : Option MadeOf). unwrap_or (option_map (λ (it : MadeOf). it.origin) r) (made_name m)) (sym (missing made m none))
  where
    missing : (made : List Made) (m : ℕ) → slice_get made m ≡ None → slice_get (map made_of made) m ≡ None
    missing [] m e = refl
    missing (a ∷ made) zero e = absurd (cc)
    missing (a ∷ made) (suc m) e = missing made m e

-- a variable among those that get lambdas, by the place that it has there
drop_at : (free : List VarIx) (i : ℕ) (d : VarIx) → i < length free → drop i free ≡ get_or free i d ∷ drop (i + 1) free
drop_at free i d l = let next : suc i ≡ i + 1 = omega arith in drop-cons free i d l ∙ (λ j. get_or free i d ∷ drop (next j) free)

pub lambda_here : (free : List VarIx) (i : ℕ) (d : VarIx) (x : ℕ) → i < length free → (get_or free i d).number ≡ x → to_lambdas (numbers (drop i free)) x ≡ length free - 1 - i
lambda_here free i d x l here =
    let v = get_or free i d in
    let seen : (x == v.number) ≡ true = eq-eqb x v.number (sym here) in
    let count : length (numbers (drop (i + 1) free)) ≡ length (drop (i + 1) free) = length-map (drop (i + 1) free) (λ (v : VarIx). v.number) in
    let left : length free - (i + 1) ≡ length free - 1 - i = omega arith in
    ap (λ vs. to_lambdas (numbers vs) x) (drop_at free i d l)
    ∙ ap (λ b. cond b (length (numbers (drop (i + 1) free))) (to_lambdas (numbers (drop (i + 1) free)) x)) seen
    ∙ count
    ∙ length-drop (i + 1) free
    ∙ left

differ : (a b : ℕ) → (a ≡ b → ⊥) → (a == b) ≡ false
differ a b other = elim (eqb_tells a b) [ inl e ↦ absurd (other e.1) | inr e ↦ e.0 ]

pub lambda_behind : (free : List VarIx) (i : ℕ) (d : VarIx) (x : ℕ) → i < length free → ((get_or free i d).number ≡ x → ⊥)
    → to_lambdas (numbers (drop i free)) x ≡ to_lambdas (numbers (drop (i + 1) free)) x
lambda_behind free i d x l other =
    let v = get_or free i d in
    let unseen : (x == v.number) ≡ false = differ x v.number (λ e. other (sym e)) in
    ap (λ vs. to_lambdas (numbers vs) x) (drop_at free i d l)
    ∙ ap (λ b. cond b (length (numbers (drop (i + 1) free))) (to_lambdas (numbers (drop (i + 1) free)) x)) unseen

pub no_lambda : (free : List VarIx) (i : ℕ) (x : ℕ) → length free ≤ i → to_lambdas (numbers (drop i free)) x ≡ x
no_lambda free i x all = ap (λ vs. to_lambdas (numbers vs) x) (drop_all i free all)

-- a closed function keeps its variables
pub closed_at_once : (o : Origins) (e : TermTree) → closed o (to_lambdas []) e ≡ origin_of o e
closed_at_once o e = ap (origin_of o) (rename_ids e)
