-- Thunks that have all that others have.
use Rattle.std.proofs.Common.{◌≡◌, ℕ, zero, suc, List, [], ◌∷◌, ◌++◌, length, map, refl, sym, ap, ◌∙◌, subst, arith, Some}
use Rattle.std.proofs.lemmas.List.{map-append, length-map}
use Rattle.chw_types.specs.TypeTree.{TypeTree, TypeTrees}
use Rattle.chw_prims.specs.declared.prim.Primitive.TheVariants.{Fmap, Ap}
use Rattle.chw_terms.specs.declared.program.Program.{Program}
use Rattle.chw_terms.specs.declared.term.Arg.TheVariants.{OfTerm}
use Rattle.chw_terms.specs.TermTree.{TermTree, var, made, app, ty_app, letrec, prim, Group}
use Rattle.chw_terms.specs.TermView.{applied as applied_to_all}
use Rattle.rewriting.specs.Origins.{with_origins}
use Rattle.rewriting.specs.Shapes.{ap_of}
use Rattle.normal_forms.specs.Values.{on_names}
use Rattle.chw_meaning.specs.Values.{History, Value, closure, Thunk, closed, applied, member, sample, Thunks, thunk_and, in_group, body_at}
use Rattle.chw_meaning.specs.Steps.{samples as samples_step}
use Rattle.chw_meaning.specs.Eval.{plus, Evals, e_lam, e_app, e_letrec, Forces, f_closed, f_applied, f_member, a_closure, Runs, r_samples}
use Rattle.carrying.specs.TermLaws.{onto, under_lambdas, on_thunks, each_closed}
use Rattle.net_built.specs.Circuits.{IsLifted, lifted_on_one, lifted_on_more}
use Rattle.net_grounds.specs.Facts.{Facts}
use Rattle.net_means.proofs.SideBits.Heads.{names}
use Rattle.net_means.specs.CircuitBits.Leaves.{HasAllOf}
use Rattle.net_means.specs.CircuitBits.Uses.{IsLiftOf, lift_of_one, lift_of_more, samples}

pub group_follows : Facts → (p : Program) (h : History) (g : Group) (e : TermTree) (γ : Thunks) (δ : TypeTrees) → HasAllOf p h (closed (letrec g e) γ δ) (closed e (in_group g γ δ) δ)
group_follows facts p h g e γ δ n v f = (suc n, f_closed (e_letrec (facts.shows.opened f)))

pub member_follows : Facts → (p : Program) (h : History) (g : Group) (i : ℕ) (e : TermTree) (γ : Thunks) (δ : TypeTrees) → body_at g i ≡ Some e → HasAllOf p h (member g i γ δ) (closed e (in_group g γ δ) δ)
member_follows facts p h g i e γ δ at n v f = (suc n, f_member at (facts.shows.opened f))

-- what the body of a function has with terms of one environment for its parameters, the function of another has on the terms
called : (p : Program) (params : List TypeTree) (es : List TermTree) (f e : TermTree) (η γ : Thunks) (δ : TypeTrees) (h : History) → length params ≡ length es
    → ((n : ℕ) (v : Value) → Evals p n (under_lambdas params e) η δ h v → (m : ℕ) × Evals p m f γ δ h v)
    → (n : ℕ) (v : Value) → Evals p n e (onto (each_closed es γ δ) η) δ h v → (m : ℕ) × Evals p m (applied_to_all f (map (λ a. OfTerm a) es)) γ δ h v
called p [] [] f e η γ δ h same has n v d = has n v d
called p (t ∷ params) (a ∷ es) f e η γ δ h same has n v d =
    let c = has (suc zero) (closure (under_lambdas params e) η δ) e_lam in
    called p params es (app f a) e (thunk_and (closed a γ δ) η) γ δ h (omega (arith, same))
    (λ m w g. (suc (plus c.0 (suc m)), e_app c.1 (a_closure g))) n v d
called p [] (a ∷ es) f e η γ δ h same has n v d = absurd (omega (arith, same))
called p (t ∷ params) [] f e η γ δ h same has n v d = absurd (omega (arith, same))

pub call_follows : Facts → (p : Program) (h : History) (params : List TypeTree) (e : TermTree) (xs : List ℕ) (γ : Thunks) (δ : TypeTrees) → length params ≡ length xs → HasAllOf p h (closed (on_names (under_lambdas params e) [] xs) γ δ) (closed e (onto (each_closed (names xs) γ δ) γ) δ)
call_follows facts p h params e xs γ δ same n v f =
    let many = length-map xs (λ x. var x) in
    let d = called p params (names xs) (under_lambdas params e) e γ γ δ h (omega (arith, same, many)) (λ m w g. (m, g)) n v (facts.shows.opened f) in
    (d.0, f_closed d.1)

-- the same of thunks
applied_all : (p : Program) (params : List TypeTree) (xs : List Thunk) (f : Thunk) (e : TermTree) (γ : Thunks) (δ : TypeTrees) (h : History) → length params ≡ length xs
    → ((n : ℕ) (v : Value) → Evals p n (under_lambdas params e) γ δ h v → (m : ℕ) × Forces p m f h v)
    → (n : ℕ) (v : Value) → Evals p n e (onto xs γ) δ h v → (m : ℕ) × Forces p m (on_thunks f xs) h v
applied_all p [] [] f e γ δ h same has n v d = has n v d
applied_all p (t ∷ params) (x ∷ xs) f e γ δ h same has n v d =
    let c = has (suc zero) (closure (under_lambdas params e) γ δ) e_lam in
    applied_all p params xs (applied f x) e (thunk_and x γ) δ h (omega (arith, same))
    (λ m w g. (suc (plus c.0 (suc m)), f_applied c.1 (a_closure g))) n v d
applied_all p [] (x ∷ xs) f e γ δ h same has n v d = absurd (omega (arith, same))
applied_all p (t ∷ params) [] f e γ δ h same has n v d = absurd (omega (arith, same))

on_last : (f : Thunk) (xs : List Thunk) (x : Thunk) → on_thunks f (xs ++ x ∷ []) ≡ applied (on_thunks f xs) x
on_last f [] x = refl
on_last f (y ∷ xs) x = on_last (applied f y) xs x

-- a function on a sample is what runs
sampled : {p : Program} {n : ℕ} {f s : Thunk} {h : History} {v : Value} → Forces p n (applied f (sample s h)) h v → Runs p n (samples_step f s) h v
sampled (f_applied f d) = r_samples f d

-- a lifted function has all that the function has on the samples of its operands
lift_on_samples : Facts → (p : Program) (h : History) (γ : Thunks) (δ : TypeTrees) {f u : TermTree} {xs : List TermTree} → IsLiftOf f u xs → HasAllOf p h (closed u γ δ) (on_thunks (closed f γ δ) (samples (each_closed xs γ δ) h))
lift_on_samples facts p h γ δ {f} (lift_of_one {d = d} {a = a} {b = b} {x = x}) n v g =
    let e = facts.prims.prim_whole p Fmap γ δ h (d ∷ a ∷ b ∷ []) (f ∷ x ∷ []) refl refl n v (sampled g) in (e.0, f_closed e.1)
lift_on_samples facts p h γ δ {f} (lift_of_more {d = d} {a = a} {b = b} {u = u} {x = x} {xs = xs} more) n v g =
    let last : samples (each_closed (xs ++ x ∷ []) γ δ) h ≡ samples (each_closed xs γ δ) h ++ sample (closed x γ δ) h ∷ [] =
    ap (λ ths. samples ths h) (map-append (λ e. closed e γ δ) xs (x ∷ [])) ∙ map-append (λ th. sample th h) (each_closed xs γ δ) (closed x γ δ ∷ []) in
    let there : on_thunks (closed f γ δ) (samples (each_closed (xs ++ x ∷ []) γ δ) h) ≡ applied (on_thunks (closed f γ δ) (samples (each_closed xs γ δ) h)) (sample (closed x γ δ) h) =
    ap (on_thunks (closed f γ δ)) last ∙ on_last (closed f γ δ) (samples (each_closed xs γ δ) h) (sample (closed x γ δ) h) in
    through (lift_on_samples facts p h γ δ more) (subst (λ th. Forces p n th h v) there g)
  where
    through : HasAllOf p h (closed u γ δ) (on_thunks (closed f γ δ) (samples (each_closed xs γ δ) h)) → {n : ℕ} {v : Value} → Forces p n (applied (on_thunks (closed f γ δ) (samples (each_closed xs γ δ) h)) (sample (closed x γ δ) h)) h v → (m : ℕ) × Forces p m (closed (ap_of d a b u x) γ δ) h v
    through below (f_applied {m = m} {n = k} {v = w} {w = y} c s) =
        let i = below m w c in
        let e = facts.prims.prim_whole p Ap γ δ h (d ∷ a ∷ b ∷ []) (u ∷ x ∷ []) refl refl (suc (plus i.0 k)) y (r_samples i.1 s) in
        (e.0, f_closed e.1)

pub lift_follows : Facts → (p : Program) (h : History) (params : List TypeTree) (e u : TermTree) (xs : List TermTree) (γ : Thunks) (δ : TypeTrees) → IsLiftOf (under_lambdas params e) u xs → length params ≡ length xs → HasAllOf p h (closed u γ δ) (closed e (onto (samples (each_closed xs γ δ) h) γ) δ)
lift_follows facts p h params e u xs γ δ lift same n v f =
    let one = length-map xs (λ e. closed e γ δ) in
    let two = length-map (each_closed xs γ δ) (λ th. sample th h) in
    let d = applied_all p params (samples (each_closed xs γ δ) h) (closed (under_lambdas params e) γ δ) e γ δ h (omega (arith, same, one, two)) (λ m w g. (m, f_closed g)) n v (facts.shows.opened f) in
    lift_on_samples facts p h γ δ lift d.0 v d.1

-- calls, and lifts, as wholes
spine_whole : (wholes : ℕ → TermTree) (f g : TermTree) (xs : List ℕ) → with_origins wholes f ≡ g → with_origins wholes (on_names f [] xs) ≡ on_names g [] xs
unfolding with_origins
spine_whole wholes f g [] e = e
spine_whole wholes f g (x ∷ xs) e = spine_whole wholes (app f (var x)) (app g (var x)) xs (ap (λ f. app f (var x)) e)

pub whole_call : (wholes : ℕ → TermTree) (m : ℕ) (xs : List ℕ) → with_origins wholes (on_names (made m) [] xs) ≡ on_names (wholes m) [] xs
unfolding with_origins
whole_call wholes m xs = spine_whole wholes (made m) (wholes m) xs refl

-- the last of variables
all_but_last : (xs : List ℕ) (es : List TermTree) (e : TermTree) → names xs ≡ es ++ e ∷ [] → (ys : List ℕ) × (y : ℕ) × (es ≡ names ys) × (e ≡ var y)
all_but_last [] [] e same = absurd cc
all_but_last [] (f ∷ es) e same = absurd cc
all_but_last (x ∷ []) [] e same = let is : e ≡ var x = cc in ([], x, refl, is)
all_but_last (x ∷ y ∷ xs) [] e same = absurd cc
all_but_last (x ∷ xs) (f ∷ es) e same =
    let first : f ≡ var x = cc in
    let rest : names xs ≡ es ++ e ∷ [] = cc in
    let more = all_but_last xs es e rest in
    (x ∷ more.0, more.1, (λ i. first i ∷ more.2 i), more.3)

lifted_whole : (wholes : ℕ → TermTree) (m : ℕ) {e : TermTree} {es : List TermTree} → IsLifted m e es → (xs : List ℕ) → names xs ≡ es → IsLiftOf (wholes m) (with_origins wholes e) es
unfolding with_origins
lifted_whole wholes m (lifted_on_one {d = d} {a = a} {b = b} {x = x}) xs same =
    let at = all_but_last xs [] x same in
    subst (λ y. IsLiftOf (wholes m) (with_origins wholes (app (app (ty_app (ty_app (ty_app (prim Fmap) d) a) b) (made m)) y)) (y ∷ [])) (sym at.3) lift_of_one
lifted_whole wholes m (lifted_on_more {d = d} {a = a} {b = b} {u = u} {x = x} {xs = es} more) xs same =
    let at = all_but_last xs es x same in
    subst (λ y. IsLiftOf (wholes m) (with_origins wholes (app (app (ty_app (ty_app (ty_app (prim Ap) d) a) b) u) y)) (es ++ y ∷ [])) (sym at.3)
    (lift_of_more (lifted_whole wholes m more at.0 (sym at.2)))

pub whole_lift : (wholes : ℕ → TermTree) (m : ℕ) (e : TermTree) (xs : List ℕ) → IsLifted m e (names xs) → IsLiftOf (wholes m) (with_origins wholes e) (names xs)
whole_lift wholes m e xs lifted = lifted_whole wholes m lifted xs refl
