-- Primitives that fold a vector: their unrolled forms.
use Rattle.std.specs.Prelude.{Some}
use Rattle.std.specs.List.{fold, range_with_len}
use Rattle.std.proofs.Common.{◌≡◌, ◌≤◌, ◌+◌, ℕ, suc, zero, List, [], ◌∷◌, map, reverse, sym, ap, ◌∙◌, subst, arith}
use Rattle.std.proofs.lemmas.List.Sums.{fold-append}
use Rattle.chw_base.specs.declared.limits.TheConstants.{VECTOR_LENGTH}
use Rattle.chw_types.specs.declared.kind.Kind.{Kind}
use Rattle.chw_types.specs.Polynomials.{greatest}
use Rattle.chw_types.specs.TypeMoves.{sub}
use Rattle.chw_types.specs.TypeTree.{TypeTree, ty_var, vector, fun, TypeTrees}
use Rattle.chw_prims.specs.declared.row.Row.TheVariants.{FoldedLeft, FoldedRight}
use Rattle.chw_terms.specs.declared.program.Program.{Program}
use Rattle.chw_terms.specs.Evaluated.{evaluated}
use Rattle.chw_terms.specs.TermTree.{TermTree, var, app}
use Rattle.chw_terms.specs.Unrolled.{element as element_term, body_of}
use Rattle.chw_typing.proofs.Lists.{reverse_cons}
use Rattle.chw_meaning.specs.Values.{Thunk, closed, applied, element, Thunks}
use Rattle.chw_meaning.specs.Steps.{goes_to, by_row, folded_left, folded_right}
use Rattle.rewriting.specs.Origins.{with_origins}
use Rattle.acts.specs.Levels.{Levels, ThunksAct}
use Rattle.acts.specs.Acts.{acts_from}
use Rattle.acts.proofs.Levels.{IsLevels, from_turns}
use Rattle.act_rules.proofs.Payloads.{app_at}
use Rattle.unroll_laws.proofs.Sized.{Sized2, is_sized_2, sized_view_2}
use Rattle.act_rules.proofs.Given.{at_env, given_at}
use Rattle.act_rules.proofs.PrimElements.{TermSteps, element_named, thunk_steps}
use Rattle.act_rules.proofs.Maps.{closed_within}
use Rattle.act_rules.proofs.Shapes.{WithinLimits, RowUnrolls, on_three}
use Rattle.act_rules.proofs.Words.{number_up}

-- vfoldl f z v, from an element on
abbrev left_step : Kind → ℕ → TypeTree → TermTree → ℕ → TermTree
left_step kind n a e j = app (app (var 2) e) (element_term kind n a (var 0) j)

-- vfoldr f z v
abbrev right_step : Kind → ℕ → TypeTree → TermTree → ℕ → TermTree
right_step kind n a e j = app (app (var 2) (element_term kind n a (var 0) j)) e

right_last : (kind : Kind) (n : ℕ) (a : TypeTree) (e : TermTree) (j : ℕ) (js : List ℕ) → fold (right_step kind n a) e (reverse (j ∷ js)) ≡ right_step kind n a (fold (right_step kind n a) e (reverse js)) j
right_last kind n a e j js = ap (fold (right_step kind n a) e) (reverse_cons j js) ∙ fold-append (right_step kind n a) e (reverse js) (j ∷ [])

module _ (p : Program) (r : Levels) (l : IsLevels p r) (o : ℕ → TermTree) (γ : Thunks) (δ : TypeTrees) (kind : Kind) (n : ℕ) (c w a b : TypeTree) (f v : Thunk) (vs : ThunksAct p r (vector w a) (closed (var 0) γ δ) v) where
  left_named : ThunksAct p r (fun b (fun a b)) (closed (var 2) γ δ) f → (j many : ℕ) (e : TermTree) (z : Thunk) → j + many ≤ greatest → ThunksAct p r b (closed (with_origins o e) γ δ) z → ThunksAct p r b (closed (with_origins o (fold (left_step kind n c) e (range_with_len j many))) γ δ) (folded_left j many f z v)
  unfolding with_origins
  left_named fs j zero e z less zs = zs
  left_named fs j (suc many) e z less zs =
      let one = app_at l a b (app (var 2) (with_origins o e)) (element_term kind n c (var 0) j) γ δ (applied f z) (element j v) (app_at l b (fun a b) (var 2) (with_origins o e) γ δ f z fs zs) (element_named l kind n c (var 0) γ δ w a j v (omega (arith, less)) vs) in
      let next = left_named fs (j + 1) many (left_step kind n c e j) (applied (applied f z) (element j v)) (omega (arith, less)) one in
      subst (λ i. ThunksAct p r b (closed (with_origins o (fold (left_step kind n c) (left_step kind n c e j) (range_with_len (j + 1) many))) γ δ) (folded_left i many f (applied (applied f z) (element j v)) v)) (let e : j + 1 ≡ suc j = omega arith in e) next

  right_named : ThunksAct p r (fun a (fun b b)) (closed (var 2) γ δ) f → (e : TermTree) (z : Thunk) → ThunksAct p r b (closed (with_origins o e) γ δ) z → (j many : ℕ) → j + many ≤ greatest → ThunksAct p r b (closed (with_origins o (fold (right_step kind n c) e (reverse (range_with_len j many)))) γ δ) (folded_right j many f z v)
  unfolding with_origins
  right_named fs e z zs j zero less = zs
  right_named fs e z zs j (suc many) less =
      let inner = fold (right_step kind n c) e (reverse (range_with_len (j + 1) many)) in
      let rest = subst (λ i. ThunksAct p r b (closed (with_origins o inner) γ δ) (folded_right i many f z v)) (let e : j + 1 ≡ suc j = omega arith in e) (right_named fs e z zs (j + 1) many (omega (arith, less))) in
      let one = app_at l b b (app (var 2) (element_term kind n c (var 0) j)) (with_origins o inner) γ δ (applied f (element j v)) (folded_right (suc j) many f z v) (app_at l a (fun b b) (var 2) (element_term kind n c (var 0) j) γ δ f (element j v) fs (element_named l kind n c (var 0) γ δ w a j v (omega (arith, less)) vs)) rest in
      subst (λ e. ThunksAct p r b (closed (with_origins o e) γ δ) (folded_right j (suc many) f z v)) (sym (right_last kind n c e j (range_with_len (j + 1) many))) one

abbrev left_body : Kind → ℕ → TypeTree → TypeTree → TermTree
left_body kind n a b = fold (left_step kind n a) (var 1) (range_with_len 0 n)

left_at : (p : Program) (kind : Kind) {types : List TypeTree} {body : TermTree} → Sized2 (left_body kind) types body → WithinLimits (FoldedLeft kind) types → RowUnrolls p (FoldedLeft kind) (fun (ty_var 0) (fun (ty_var 1) (ty_var 0)) ∷ ty_var 0 ∷ vector (ty_var 2) (ty_var 1) ∷ []) (ty_var 0) types body
unfolding sub evaluated with_origins
left_at p kind (is_sized_2 {size = size} {a = a} {b = b} m e) limits q o n γ δ xs all =
    on_three p (acts_from p n) (vector size' a') b' (fun b' (fun a' b')) (closed (var 0) γ δ) (closed (var 1) γ δ) (closed (var 2) γ δ)
    (λ xs. TermSteps p (acts_from p n) b' (with_origins o body) γ δ (by_row (FoldedLeft kind) q (given_at δ (size ∷ a ∷ b ∷ [])) xs))
    (λ f z v fs zs vs. subst (λ i. TermSteps p (acts_from p n) b' (with_origins o body) γ δ (goes_to (folded_left zero i f z v))) (sym (closed_within VECTOR_LENGTH size m δ e within (omega arith)))
    (thunk_steps l b' (with_origins o body) γ δ (folded_left zero m f z v)
    (left_named p (acts_from p n) l o γ δ kind m (evaluated a) size' a' b' f v vs fs 0 m (var 1) z (omega (arith, within)) zs)))
    xs all
  where
    l : IsLevels p (acts_from p n)
    l = from_turns p n

    size' : TypeTree
    size' = at_env δ size

    a' : TypeTree
    a' = at_env δ a

    b' : TypeTree
    b' = at_env δ b

    body : TermTree
    body = left_body kind m (evaluated a) (evaluated b)

    within : m ≤ VECTOR_LENGTH
    within = number_up VECTOR_LENGTH size m e limits.short.0

pub folds_left : (p : Program) (kind : Kind) (types : List TypeTree) (body : TermTree) → body_of (FoldedLeft kind) (map evaluated types) ≡ Some body → WithinLimits (FoldedLeft kind) types → RowUnrolls p (FoldedLeft kind) (fun (ty_var 0) (fun (ty_var 1) (ty_var 0)) ∷ ty_var 0 ∷ vector (ty_var 2) (ty_var 1) ∷ []) (ty_var 0) types body
folds_left p kind types body e = left_at p kind (sized_view_2 (left_body kind) types body e)

abbrev right_body : Kind → ℕ → TypeTree → TypeTree → TermTree
right_body kind n a b = fold (right_step kind n a) (var 1) (reverse (range_with_len 0 n))

right_at : (p : Program) (kind : Kind) {types : List TypeTree} {body : TermTree} → Sized2 (right_body kind) types body → WithinLimits (FoldedRight kind) types → RowUnrolls p (FoldedRight kind) (fun (ty_var 1) (fun (ty_var 0) (ty_var 0)) ∷ ty_var 0 ∷ vector (ty_var 2) (ty_var 1) ∷ []) (ty_var 0) types body
unfolding sub evaluated with_origins
right_at p kind (is_sized_2 {size = size} {a = a} {b = b} m e) limits q o n γ δ xs all =
    on_three p (acts_from p n) (vector size' a') b' (fun a' (fun b' b')) (closed (var 0) γ δ) (closed (var 1) γ δ) (closed (var 2) γ δ)
    (λ xs. TermSteps p (acts_from p n) b' (with_origins o body) γ δ (by_row (FoldedRight kind) q (given_at δ (size ∷ a ∷ b ∷ [])) xs))
    (λ f z v fs zs vs. subst (λ i. TermSteps p (acts_from p n) b' (with_origins o body) γ δ (goes_to (folded_right zero i f z v))) (sym (closed_within VECTOR_LENGTH size m δ e within (omega arith)))
    (thunk_steps l b' (with_origins o body) γ δ (folded_right zero m f z v)
    (right_named p (acts_from p n) l o γ δ kind m (evaluated a) size' a' b' f v vs fs (var 1) z zs 0 m (omega (arith, within)))))
    xs all
  where
    l : IsLevels p (acts_from p n)
    l = from_turns p n

    size' : TypeTree
    size' = at_env δ size

    a' : TypeTree
    a' = at_env δ a

    b' : TypeTree
    b' = at_env δ b

    body : TermTree
    body = right_body kind m (evaluated a) (evaluated b)

    within : m ≤ VECTOR_LENGTH
    within = number_up VECTOR_LENGTH size m e limits.short.0

pub folds_right : (p : Program) (kind : Kind) (types : List TypeTree) (body : TermTree) → body_of (FoldedRight kind) (map evaluated types) ≡ Some body → WithinLimits (FoldedRight kind) types → RowUnrolls p (FoldedRight kind) (fun (ty_var 1) (fun (ty_var 0) (ty_var 0)) ∷ ty_var 0 ∷ vector (ty_var 2) (ty_var 1) ∷ []) (ty_var 0) types body
folds_right p kind types body e = right_at p kind (sized_view_2 (right_body kind) types body e)
