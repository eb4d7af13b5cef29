-- Terms and thunks that go on with another one show what that shows.
use Rattle.std.specs.Prelude.{slice_get}
use Rattle.std.proofs.Common.{◌≡◌, ℕ, suc, zero, Bool, List, [], ◌∷◌, length, map, Some, arith}
use Rattle.chw_types.specs.declared.kind.Scalar.{Scalar}
use Rattle.chw_types.specs.TypeTree.{TypeTree, scalar, TypeTrees, no_types}
use Rattle.chw_terms.specs.declared.program.Def.{Def}
use Rattle.chw_terms.specs.declared.program.Program.{Program}
use Rattle.chw_terms.specs.declared.term.Arg.TheVariants.{OfTerm}
use Rattle.chw_terms.specs.TermTree.{TermTree, var, global, app, letrec, lit, Group}
use Rattle.chw_terms.specs.TermView.{applied as applied_to_all}
use Rattle.chw_layout.specs.Measured.{HasWidth}
use Rattle.chw_layout.proofs.Fitting.{scalar_width}
use Rattle.chw_meaning.specs.Values.{History, Value, closure, Thunk, closed, applied, member, sample, Thunks, none, thunk_and, thunk_at, in_group, body_at}
use Rattle.chw_meaning.specs.Eval.{plus, Evals, e_var, e_global, e_lam, e_app, e_letrec, e_lit, Forces, f_closed, f_applied, f_member, f_sample, a_closure}
use Rattle.carrying.specs.Carrying.{Shows, shows_nothing, shows_bits, holds_word}
use Rattle.carrying.specs.TermLaws.{onto, under_lambdas, on_thunks, each_closed}

pub shows_through : {p : Program} {t : TypeTree} {th th' : Thunk} {h h' : History} {b : List Bool} → ((n : ℕ) (v : Value) → Forces p n th h v → (m : ℕ) × Forces p m th' h' v) → Shows p t th h b → Shows p t th' h' b
shows_through g (shows_nothing z) = shows_nothing z
shows_through g (shows_bits {n = n} {v = v} wide f held) = shows_bits wide (g n v f).1 held

pub opened : {p : Program} {n : ℕ} {e : TermTree} {γ : Thunks} {δ : TypeTrees} {h : History} {v : Value} → Forces p n (closed e γ δ) h v → Evals p n e γ δ h v
opened (f_closed d) = d

pub evals_through : {p : Program} {t : TypeTree} {e e' : TermTree} {γ γ' : Thunks} {δ δ' : TypeTrees} {h : History} {b : List Bool} → ((n : ℕ) (v : Value) → Evals p n e γ δ h v → (m : ℕ) × Evals p m e' γ' δ' h v) → Shows p t (closed e γ δ) h b → Shows p t (closed e' γ' δ') h b
evals_through g s = shows_through (λ n v f. let d = g n v (opened f) in (d.0, f_closed d.1)) s

pub literal_carries : (p : Program) (s : Scalar) (n : TypeTree) (b : List Bool) (γ : Thunks) (δ : TypeTrees) (h : History) → HasWidth p.datas (scalar s n) (length b) → Shows p (scalar s n) (closed (lit s b) γ δ) h b
literal_carries p s n [] γ δ h has = shows_nothing has
literal_carries p s n (x ∷ b) γ δ h has = shows_bits (length b, has) (f_closed e_lit) (holds_word (scalar_width has))

pub variable_shows : {p : Program} {t : TypeTree} {x : ℕ} {th : Thunk} {γ : Thunks} {δ : TypeTrees} {h : History} {b : List Bool} → thunk_at γ x ≡ Some th → Shows p t th h b → Shows p t (closed (var x) γ δ) h b
variable_shows at s = shows_through (λ n v f. (suc n, f_closed (e_var at f))) s

pub global_shows : {p : Program} {t : TypeTree} {d : ℕ} {it : Def} {γ : Thunks} {δ : TypeTrees} {h : History} {b : List Bool} → slice_get p.defs d ≡ Some it → Shows p t (closed it.body none no_types) h b → Shows p t (closed (global d) γ δ) h b
global_shows at s = evals_through (λ n v d. (suc n, e_global at d)) s

pub let_shows : {p : Program} {t : TypeTree} {g : Group} {e : TermTree} {γ : Thunks} {δ : TypeTrees} {h : History} {b : List Bool} → Shows p t (closed e (in_group g γ δ) δ) h b → Shows p t (closed (letrec g e) γ δ) h b
let_shows s = evals_through (λ n v d. (suc n, e_letrec d)) s

pub member_shows : {p : Program} {t : TypeTree} {g : Group} {i : ℕ} {e : TermTree} {γ : Thunks} {δ : TypeTrees} {h : History} {b : List Bool} → body_at g i ≡ Some e → Shows p t (closed e (in_group g γ δ) δ) h b → Shows p t (member g i γ δ) h b
member_shows at s = shows_through (λ n v f. (suc n, f_member at (opened f))) s

pub sample_shows : {p : Program} {t : TypeTree} {th : Thunk} {g : History} {b : List Bool} → Shows p t th g b → (h : History) → Shows p t (sample th g) h b
sample_shows s h = shows_through (λ n v f. (n, f_sample f)) s

pub applied_shows : {p : Program} {t : TypeTree} {n : ℕ} {f a : Thunk} {e : TermTree} {γ : Thunks} {δ : TypeTrees} {h : History} {b : List Bool} → Forces p n f h (closure e γ δ) → Shows p t (closed e (thunk_and a γ) δ) h b → Shows p t (applied f a) h b
applied_shows {n = n} c s = shows_through (λ m v f. (suc (plus n (suc m)), f_applied c (a_closure (opened f)))) s

-- what the body of a function has with thunks for its parameters, the function applied to them has
applied_all : (p : Program) (params : List TypeTree) (xs : List Thunk) (f : Thunk) (e : TermTree) (γ : Thunks) (δ : TypeTrees) (h : History) → length params ≡ length xs
    → ((n : ℕ) (v : Value) → Evals p n (under_lambdas params e) γ δ h v → (m : ℕ) × Forces p m f h v)
    → (n : ℕ) (v : Value) → Evals p n e (onto xs γ) δ h v → (m : ℕ) × Forces p m (on_thunks f xs) h v
applied_all p [] [] f e γ δ h same has n v d = has n v d
applied_all p (t ∷ params) (x ∷ xs) f e γ δ h same has n v d =
    let c = has (suc zero) (closure (under_lambdas params e) γ δ) e_lam in
    applied_all p params xs (applied f x) e (thunk_and x γ) δ h (omega (arith, same))
    (λ m w g. (suc (plus c.0 (suc m)), f_applied c.1 (a_closure g))) n v d
applied_all p [] (x ∷ xs) f e γ δ h same has n v d = absurd (omega (arith, same))
applied_all p (t ∷ params) [] f e γ δ h same has n v d = absurd (omega (arith, same))

pub function_shows : (p : Program) (t : TypeTree) (params : List TypeTree) (e : TermTree) (xs : List Thunk) (γ : Thunks) (δ : TypeTrees) (h : History) (b : List Bool) → length params ≡ length xs → Shows p t (closed e (onto xs γ) δ) h b → Shows p t (on_thunks (closed (under_lambdas params e) γ δ) xs) h b
function_shows p t params e xs γ δ h b same s =
    shows_through (λ n v f. applied_all p params xs (closed (under_lambdas params e) γ δ) e γ δ h same (λ m w d. (m, f_closed d)) n v (opened f)) s

-- the same of terms in one environment, where the function stands in another
called : (p : Program) (params : List TypeTree) (es : List TermTree) (f e : TermTree) (η γ : Thunks) (δ : TypeTrees) (h : History) → length params ≡ length es
    → ((n : ℕ) (v : Value) → Evals p n (under_lambdas params e) η δ h v → (m : ℕ) × Evals p m f γ δ h v)
    → (n : ℕ) (v : Value) → Evals p n e (onto (each_closed es γ δ) η) δ h v → (m : ℕ) × Evals p m (applied_to_all f (map (λ a. OfTerm a) es)) γ δ h v
called p [] [] f e η γ δ h same has n v d = has n v d
called p (t ∷ params) (a ∷ es) f e η γ δ h same has n v d =
    let c = has (suc zero) (closure (under_lambdas params e) η δ) e_lam in
    called p params es (app f a) e (thunk_and (closed a γ δ) η) γ δ h (omega (arith, same))
    (λ m w g. (suc (plus c.0 (suc m)), e_app c.1 (a_closure g))) n v d
called p [] (a ∷ es) f e η γ δ h same has n v d = absurd (omega (arith, same))
called p (t ∷ params) [] f e η γ δ h same has n v d = absurd (omega (arith, same))

pub call_shows : (p : Program) (t : TypeTree) (params : List TypeTree) (e : TermTree) (es : List TermTree) (γ : Thunks) (δ : TypeTrees) (h : History) (b : List Bool) → length params ≡ length es → Shows p t (closed e (onto (each_closed es γ δ) γ) δ) h b → Shows p t (closed (applied_to_all (under_lambdas params e) (map (λ a. OfTerm a) es)) γ δ) h b
call_shows p t params e es γ δ h b same s =
    evals_through (λ n v d. called p params es (under_lambdas params e) e γ γ δ h same (λ m w g. (m, g)) n v d) s
