-- Right sides that call made definitions, and the made definitions that stand in a term.
use Rattle.std.proofs.Common.{◌≡◌, ℕ, List, [], ◌∷◌, ◌++◌, Some, sym, ap, ◌∙◌, subst}
use Rattle.std.specs.List.{slice_get, AllByRecursion}
use Rattle.chw_types.specs.TypeTree.{TypeTree}
use Rattle.chw_prims.specs.declared.prim.Primitive.TheVariants.{Fmap, Ap}
use Rattle.chw_terms.specs.declared.scene.Sort.TheVariants.{Value, Circuit}
use Rattle.chw_terms.specs.TermTree.{TermTree, var, made, app, ty_app, con, prim, case_of, Alts}
use Rattle.rewriting.specs.Origins.{MadeOf, Origins}
use Rattle.rewriting.specs.Shapes.{IsVariable}
use Rattle.normal_forms.specs.Circuits.{IsCircuitSide, of_variable, of_register, of_block_ram, of_synchronizer, of_pure, of_lifted, of_call, of_constructor, of_projection, IsLiftedCall}
use Rattle.normal_forms.specs.Values.{IsSide, side_variable, side_literal, side_constructor, side_vector, side_primitive, side_call, side_case, AreBlocks}
use Rattle.net_built.specs.Modules.{made_in}
use Rattle.net_built.specs.Terms.{head_of, operands_of}
use Rattle.net_means.proofs.NetFits.CircuitDrivers.{operands_then}
use Rattle.net_means.proofs.NetFits.Shapes.{names, head_then}

pub all_first : {A : Type 0} (P : A → Type 0) (xs ys : List A) → AllByRecursion P (xs ++ ys) → AllByRecursion P xs
all_first P [] ys h = tt
all_first P (x ∷ xs) ys h = (h.0, all_first P xs ys h.1)

pub all_rest : {A : Type 0} (P : A → Type 0) (xs ys : List A) → AllByRecursion P (xs ++ ys) → AllByRecursion P ys
all_rest P [] ys h = h
all_rest P (x ∷ xs) ys h = all_rest P xs ys h.1

-- what holds of all made definitions in a term holds of the one at its head
pub head_made : (P : ℕ → Type 0) (e : TermTree) (m : ℕ) → head_of e ≡ made m → AllByRecursion P (made_in e) → P m
head_made P (made k) m h all = let is : k ≡ m = cc in subst P is all.0
head_made P (app f a) m h all = head_made P f m h (all_first P (made_in f) (made_in a) all)
head_made P (ty_app f t) m h all = head_made P f m h all
head_made P _ m h all = absurd cc

-- and of those in each operand
pub operands_made : (P : ℕ → Type 0) (e : TermTree) → AllByRecursion P (made_in e) → AllByRecursion (λ a. AllByRecursion P (made_in a)) (operands_of e)
operands_made P (app f a) all = both (operands_of f) (operands_made P f (all_first P (made_in f) (made_in a) all))
  where
    both : (es : List TermTree) → AllByRecursion (λ a. AllByRecursion P (made_in a)) es → AllByRecursion (λ a. AllByRecursion P (made_in a)) (es ++ a ∷ [])
    both [] h = (all_rest P (made_in f) (made_in a) all, tt)
    both (e ∷ es) h = (h.0, both es h.1)
operands_made P (ty_app f t) all = operands_made P f all
operands_made P _ all = tt

names_variables : (xs : List ℕ) → AllByRecursion IsVariable (names xs)
names_variables [] = tt
names_variables (x ∷ xs) = (tt, names_variables xs)

-- a call of a made definition of values
pub record ValueCall (o : Origins) (e : TermTree) (m : ℕ) : Type 0 where
  pub it : MadeOf
  pub known : slice_get o.made m ≡ Some it
  pub value : it.sort ≡ Value
  pub variables : AllByRecursion IsVariable (operands_of e)

pub call_of : {o : Origins} {vars : List TypeTree} {e : TermTree} → IsSide o vars e → (m : ℕ) → head_of e ≡ made m → ValueCall o e m
call_of side_variable m h = absurd cc
call_of side_literal m h = absurd cc
call_of (side_constructor c types xs known n) m h = let k : con c ≡ made m = sym (head_then (con c) types (names xs)) ∙ h in absurd cc
call_of (side_vector t xs) m h = absurd cc
call_of (side_primitive p types xs is n) m h = let k : prim p ≡ made m = sym (head_then (prim p) types (names xs)) ∙ h in absurd cc
call_of {o} (side_call j xs {it = it} known value n) m h =
    let k : made j ≡ made m = sym (head_then (made j) [] (names xs)) ∙ h in
    let is : j ≡ m = cc in
    record {
      it = it;
      known = subst (λ j. slice_get o.made j ≡ Some it) is known;
      value = value;
      variables = subst (AllByRecursion IsVariable) (sym (operands_then (made j) [] (names xs))) (names_variables xs);
    }
call_of (side_case i others) m h = absurd cc

-- the alternatives of a case are blocks
pub record CaseSide (o : Origins) (alts : Alts) : Type 0 where
  pub names : List TypeTree
  pub of : TypeTree
  pub blocks : AreBlocks o names of alts

pub case_side : {o : Origins} {vars : List TypeTree} {e : TermTree} → IsSide o vars e → (x : ℕ) (alts : Alts) → e ≡ case_of (var x) alts → CaseSide o alts
case_side side_variable x alts h = absurd cc
case_side side_literal x alts h = absurd cc
case_side (side_constructor c types xs known n) x alts h = let k : con c ≡ case_of (var x) alts = sym (head_then (con c) types (names xs)) ∙ ap (λ e. head_of e) h in absurd cc
case_side (side_vector t xs) x alts h = absurd cc
case_side (side_primitive p types xs is n) x alts h = let k : prim p ≡ case_of (var x) alts = sym (head_then (prim p) types (names xs)) ∙ ap (λ e. head_of e) h in absurd cc
case_side (side_call j xs known value n) x alts h = let k : made j ≡ case_of (var x) alts = sym (head_then (made j) [] (names xs)) ∙ ap (λ e. head_of e) h in absurd cc
case_side {o} {vars} (side_case {u = u} {alts = others} i blocks) x alts h =
    let is : others ≡ alts = cc in record { names = vars; of = u; blocks = subst (λ alts. AreBlocks o vars u alts) is blocks }

-- no head of a call of a made definition
abbrev pub IsNoCall : TermTree → Type 0
IsNoCall (made m) = ⊥
IsNoCall (prim p) = (p ≡ Fmap → ⊥) × (p ≡ Ap → ⊥)
IsNoCall _ = Unit {0}

-- a right side of circuits that calls a made definition, or another one
pub data CallShape (o : Origins) : TermTree → Type 0 where
  a_lifted : {e : TermTree} {n : ℕ} (m : ℕ) (it : MadeOf) → slice_get o.made m ≡ Some it → it.sort ≡ Value → IsLiftedCall m e n → CallShape o e
  a_call : {e : TermTree} (m : ℕ) (it : MadeOf) → slice_get o.made m ≡ Some it → it.sort ≡ Circuit → head_of e ≡ made m → AllByRecursion IsVariable (operands_of e) → CallShape o e
  no_call : {e : TermTree} → IsNoCall (head_of e) → CallShape o e

pub call_shape : {o : Origins} {e : TermTree} → IsCircuitSide o e → CallShape o e
call_shape of_variable = no_call tt
call_shape (of_register k) = no_call (λ e. cc, λ e. cc)
call_shape (of_block_ram k h) = no_call (λ e. cc, λ e. cc)
call_shape of_synchronizer = no_call (λ e. cc, λ e. cc)
call_shape (of_pure k) = no_call (λ e. cc, λ e. cc)
call_shape (of_lifted m {it = it} known value lifted) = a_lifted m it known value lifted
call_shape (of_call m xs {it = it} known circuit n) =
    a_call m it known circuit (head_then (made m) [] (names xs)) (subst (AllByRecursion IsVariable) (sym (operands_then (made m) [] (names xs))) (names_variables xs))
call_shape (of_constructor c types xs known n) = no_call (subst IsNoCall (sym (head_then (con c) types (names xs))) tt)
call_shape (of_projection l) = no_call tt
