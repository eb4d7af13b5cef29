-- How a term gets variables and lambdas.
use Rattle.std.proofs.Common.{◌≡◌, ◌∙◌, ap, refl, sym, arith}
use Rattle.std.proofs.Common.{ℕ, zero, suc, ◌+◌, ◌-◌, ◌≤◌, List, [], ◌∷◌, ◌++◌}
use Rattle.chw_types.specs.TypeTree.{TypeTree}
use Rattle.chw_terms.specs.TermTree.{TermTree, var, lam, app}
use Rattle.rewriting.specs.Origins.{on_variables, under_each}

-- the outermost variable is the first argument
outermost_first : (e : TermTree) (j n : ℕ)
    → on_variables e j (suc n) ≡ on_variables (app e (var (j + n))) j n
outermost_first e j zero =
    let at : j ≡ j + 0 = omega arith in
    ap (λ x. app e (var x)) at
outermost_first e j (suc n) =
    let at : suc j + n ≡ j + suc n = omega arith in
    ap (λ f. app f (var j))
    (outermost_first e (suc j) n ∙ ap (λ x. on_variables (app e (var x)) (suc j) n) at)

-- a term on the outermost of the variables that are left
pub on_one_more : (e done next : TermTree) (count n : ℕ)
    → 1 ≤ n → next ≡ app done (var (n - 1)) → on_variables done 0 n ≡ on_variables e 0 count
    → on_variables next 0 (n - 1) ≡ on_variables e 0 count
on_one_more e done next count zero l q h = absurd (omega (arith, l))
on_one_more e done next count (suc n) l q h =
    let left : suc n - 1 ≡ n = omega arith in
    let at : suc n - 1 ≡ 0 + n = omega arith in
    (λ i. on_variables (q i) 0 (left i)) ∙ ap (λ x. on_variables (app done (var x)) 0 n) at
    ∙ sym (outermost_first done 0 n) ∙ h

-- a term under the last of these lambdas
pub under_last : (ts : List TypeTree) (t : TypeTree) (e : TermTree)
    → under_each (ts ++ t ∷ []) e ≡ under_each ts (lam t e)
under_last [] t e = refl
under_last (u ∷ ts) t e = ap (lam u) (under_last ts t e)
