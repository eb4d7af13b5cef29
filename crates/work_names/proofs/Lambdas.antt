-- The lambdas that a term gets.
use Rattle.std.proofs.Common.{◌≡◌, ◌∙◌, ap, refl, ℕ, suc, ◌+◌, ◌-◌, ◌<◌, ◌≤◌, List, [], ◌∷◌, ◌++◌, arith}
use Rattle.chw_types.specs.TypeTree.{TypeTree}
use Rattle.chw_terms.specs.TermTree.{TermTree, var, lam, app}
use Rattle.rewriting.specs.Origins.{on_variables, under_each}

-- a term on one more variable
pub on_one_more : (e done next : TermTree) (count n : ℕ) → n < count → done ≡ on_variables e (count - n) n → next ≡ app done (var (count - 1 - n)) → next ≡ on_variables e (count - (n + 1)) (n + 1)
on_one_more e done next count n l d q =
    let j = count - 1 - n in
    let from : count - n ≡ suc j = omega (arith, l) in
    let to : j ≡ count - (n + 1) = omega (arith, l) in
    let more : suc n ≡ n + 1 = omega arith in
    q ∙ ap (λ f. app f (var j)) (d ∙ ap (λ k. on_variables e k n) from) ∙ (λ i. on_variables e (to i) (more i))

pub on_none : (e done : TermTree) (count : ℕ) → done ≡ e → done ≡ on_variables e (count - 0) 0
on_none e done count h = h

pub on_all : (e done : TermTree) (count n : ℕ) → n ≤ count → count ≤ n → done ≡ on_variables e (count - n) n → done ≡ on_variables e 0 count
on_all e done count n l m d =
    let from : count - n ≡ 0 = omega (arith, l, m) in
    let all : n ≡ count = omega (arith, l, m) in
    d ∙ (λ i. on_variables e (from i) (all i))

-- under one lambda fewer
pub under_last : (ts : List TypeTree) (t : TypeTree) (e : TermTree) → under_each (ts ++ t ∷ []) e ≡ under_each ts (lam t e)
under_last [] t e = refl
under_last (u ∷ ts) t e = ap (lam u) (under_last ts t e)
