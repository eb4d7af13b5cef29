-- Types without variables stay as they are where types are put for variables.
use Rattle.std.proofs.Common.{◌≡◌, refl, ap, List, [], ◌∷◌}
use Rattle.chw_types.specs.TypeTree.{TypeTree, ty_var, nat_lit, nat_sum, nat_product, domain, scalar, vector, data_of, fun, signal, for_all, TypeTrees, no_types, type_and}
use Rattle.chw_types.specs.TypeMoves.{Substitution, up, sub, sub_all}
use Rattle.chw_types.specs.TypeView.{trees_of}
use Rattle.seen_types.specs.Closed.{HasNoVariables, HaveNoVariables}
use Rattle.seen_types.specs.Each.{Each}

-- no variable is in a list of trees
pub no_variables_in_trees : (ts : List TypeTree) → Each HasNoVariables ts → HaveNoVariables (trees_of ts)
no_variables_in_trees [] h = tt
no_variables_in_trees (t ∷ ts) h = (h.0, no_variables_in_trees ts h.1)

mutual
  unfolding sub

  pub put_in_closed : (t : TypeTree) (σ : Substitution) → HasNoVariables t → t ≡ sub t σ
  put_in_closed (ty_var x) σ h = absurd h
  put_in_closed (nat_lit n) σ h = refl
  put_in_closed (nat_sum a b) σ h = λ i. nat_sum (put_in_closed a σ h.0 i) (put_in_closed b σ h.1 i)
  put_in_closed (nat_product a b) σ h = λ i. nat_product (put_in_closed a σ h.0 i) (put_in_closed b σ h.1 i)
  put_in_closed (domain d) σ h = refl
  put_in_closed (scalar s w) σ h = ap (scalar s) (put_in_closed w σ h)
  put_in_closed (vector n t) σ h = λ i. vector (put_in_closed n σ h.0 i) (put_in_closed t σ h.1 i)
  put_in_closed (data_of d ts) σ h = ap (data_of d) (put_in_all_closed ts σ h)
  put_in_closed (fun a b) σ h = λ i. fun (put_in_closed a σ h.0 i) (put_in_closed b σ h.1 i)
  put_in_closed (signal d t) σ h = λ i. signal (put_in_closed d σ h.0 i) (put_in_closed t σ h.1 i)
  put_in_closed (for_all k t) σ h = ap (for_all k) (put_in_closed t (up σ) h)

  put_in_all_closed : (ts : TypeTrees) (σ : Substitution) → HaveNoVariables ts → ts ≡ sub_all ts σ
  put_in_all_closed no_types σ h = refl
  put_in_all_closed (type_and t ts) σ h = λ i. type_and (put_in_closed t σ h.0 i) (put_in_all_closed ts σ h.1 i)
