-- The worked examples.
use Rattle.std.proofs.Common.{◌≡◌, inl, inr, ℕ, suc, zero, ◌<◌, ◌==◌, ◌||◌, true, false, refl, sym, ◌∙◌, ap, subst, arith, List, [], ◌∷◌, map, Some}
use Rattle.std.proofs.lemmas.Bool.{eqb-true, or_cases}
use Rattle.chw_types.specs.declared.declarations.Data.{Data}
use Rattle.chw_types.specs.declared.kind.Scalar.TheVariants.{U}
use Rattle.type_ports.specs.declared.ports.Leaf.{Leaf}
use Rattle.type_ports.specs.Ports.{IsPort, Leaves, one_leaf, leaves_of_fields}
use Rattle.chw_types.specs.SamePromises.{natural_value}
use Rattle.type_ports.specs.Representable.{representable_scalar}
use Rattle.chw_types.specs.TypeTree.{TypeTree, nat_lit, domain, scalar, fun}
use Rattle.chw_prims.specs.declared.prim.Primitive.TheVariants.{AddU, Register, Ap}
use Rattle.chw_terms.specs.declared.scene.Made.{Made}
use Rattle.chw_terms.specs.declared.term.Arg.{Arg}
use Rattle.chw_terms.specs.Occurs.{occurs}
use Rattle.chw_terms.specs.TermTree.{TermTree, var, made, lam, letrec, con, prim, no_bindings, bind}
use Rattle.chw_terms.specs.TermView.{applied}
use Rattle.chw_typing.specs.HeadTypes.{of_con}
use Rattle.chw_layout.specs.Measured.{Measure, Measured, measured_scalar, measured_vector, measured_data, fits, scalar_measure, closed_value}
use Rattle.graph_order.specs.References.{Leads, step, step_and, HasNoCycle}
use Rattle.chw_typing.specs.Given.{types_then}
use Rattle.rewriting.proofs.OneStep.{head_of, head_applied}
use Rattle.rewriting.specs.Spots.{asked_for}
use Rattle.rewriting.specs.Shapes.{fmap_of}
use Rattle.std.specs.List.{slice_get}
use Rattle.rewriting.specs.Origins.{MadeOf, Origins, with_origins}
use Rattle.normal_forms.specs.Circuits.{IsConstant, constant_literal, constant_constructor, constant_vector, no_constants, constant_and, IsLiftedCall, lifted_on_one, lifted_on_more}
use Rattle.normal_forms.specs.Circuits.{IsCircuitSide, of_variable, of_register, of_block_ram, of_synchronizer, of_pure, of_lifted, of_call, of_constructor, of_projection}
use Rattle.normal_forms.specs.Circuits.{no_circuit_sides, circuit_side_and, circuit_letrec}
use Rattle.normal_forms.specs.Examples.{byte, bytes, zeros, of_byte, lifted_on_two, here, inner_group, chosen, cyclic, register_of, made_of_body, two_made}
use Rattle.normal_forms.specs.Examples.{CounterIsCircuit, TwoLifted, Constants, CaseOfBlocks, NoCycle, NoLambda, NoVariableBegins, OneTooMany, WidthHolds, WidthFails, WholeOfFirst, UsesItself}
use Rattle.normal_forms.specs.Uses.{names_made, Uses, WholeOf, whole_of}
use Rattle.normal_forms.specs.Values.{on_names, BindingRefers, IsBlock, block_variable, block_letrec, no_sides, side_and, no_blocks, block_and}
use Rattle.normal_forms.specs.Values.{IsSide, side_variable, side_literal, side_constructor, side_vector, side_primitive, side_call, side_case}

abbrev identity : TermTree
identity = lam byte (var 0)

pub byte_port : IsPort here.program.datas bytes
byte_port = (_, one_leaf {dom = record { number = 0 }} representable_scalar)

pub counter_is_circuit : CounterIsCircuit
counter_is_circuit =
    circuit_letrec
    (circuit_side_and byte_port (of_register {d = domain 0} {a = byte} {c = zeros} {x = 0} constant_literal)
    (circuit_side_and byte_port (of_lifted 1 refl refl lifted_on_one) no_circuit_sides))

pub two_lifted : TwoLifted
two_lifted = of_lifted 2 refl refl (lifted_on_more lifted_on_one)

pub constants : Constants
constants = (
  constant_constructor 3 (byte ∷ []) (zeros ∷ []) refl refl (constant_and constant_literal no_constants),
  constant_vector byte (zeros ∷ zeros ∷ []) (constant_and constant_literal (constant_and constant_literal no_constants)),
)

-- steps that lead to lesser numbers alone lead nowhere back
leads_down : {Step : ℕ → ℕ → Type 0} {a c : ℕ} → ((i j : ℕ) → Step i j → j < i) → Leads Step a c → c < a
leads_down down (step {a = a} {b = b} s) = down a b s
leads_down down (step_and {a = a} {b = b} {c = c} s more) = let first : b < a = down a b s in let rest : c < b = leads_down down more in omega (arith, first, rest)

no_way_back : {Step : ℕ → ℕ → Type 0} → ((i j : ℕ) → Step i j → j < i) → HasNoCycle Step
no_way_back down a h = let l : a < a = leads_down down h in absurd (omega (arith, l))

inner_down : (i j : ℕ) → BindingRefers inner_group i j → j < i
unfolding occurs
inner_down zero zero (b, is, l, o) = let same : b.1 ≡ on_names (prim AddU) (nat_lit 8 ∷ []) (4 ∷ 4 ∷ []) = cc in let at : occurs (on_names (prim AddU) (nat_lit 8 ∷ []) (4 ∷ 4 ∷ [])) 1 ≡ true = subst (λ e. occurs e 1 ≡ true) same o in absurd cc
inner_down zero (suc zero) (b, is, l, o) = let same : b.1 ≡ on_names (prim AddU) (nat_lit 8 ∷ []) (4 ∷ 4 ∷ []) = cc in let at : occurs (on_names (prim AddU) (nat_lit 8 ∷ []) (4 ∷ 4 ∷ [])) 0 ≡ true = subst (λ e. occurs e 0 ≡ true) same o in absurd cc
inner_down zero (suc (suc j)) (b, is, l, o) = absurd (omega (arith, l))
inner_down (suc zero) zero (b, is, l, o) = omega arith
inner_down (suc zero) (suc zero) (b, is, l, o) = let same : b.1 ≡ on_names (made 1) [] (1 ∷ []) = cc in let at : occurs (on_names (made 1) [] (1 ∷ [])) 0 ≡ true = subst (λ e. occurs e 0 ≡ true) same o in absurd cc
inner_down (suc zero) (suc (suc j)) (b, is, l, o) = absurd (omega (arith, l))
inner_down (suc (suc i)) j (b, is, l, o) = absurd cc

outer_down : (i j : ℕ) → BindingRefers (bind byte chosen no_bindings) i j → j < i
unfolding occurs
outer_down zero zero (b, is, l, o) = let same : b.1 ≡ chosen = cc in let at : occurs chosen 0 ≡ true = subst (λ e. occurs e 0 ≡ true) same o in absurd cc
outer_down zero (suc j) (b, is, l, o) = absurd (omega (arith, l))
outer_down (suc i) j (b, is, l, o) = absurd cc

pub case_of_blocks : CaseOfBlocks
case_of_blocks =
    block_letrec
    (side_and representable_scalar
    (side_case refl
    (block_and (of_con _ refl refl refl) block_variable
    (block_and (of_con _ refl refl refl)
    (block_letrec
    (side_and representable_scalar (side_primitive AddU (nat_lit 8 ∷ []) (4 ∷ 4 ∷ []) (inl tt) refl)
    (side_and representable_scalar (side_call 1 (1 ∷ []) refl refl refl) no_sides))
    (no_way_back inner_down))
    no_blocks)))
    no_sides)
    (no_way_back outer_down)

back_and_forth : Leads (BindingRefers cyclic) 0 0
unfolding occurs
back_and_forth = step_and {b = 1} (_, refl, omega arith, refl) (step (_, refl, omega arith, refl))

cycle_refused : {o : Origins} {vars : List TypeTree} {e : TermTree} → IsBlock o vars e → e ≡ letrec cyclic (var 1) → ⊥
cycle_refused block_variable is = absurd cc
cycle_refused (block_letrec {g = g} sides none) is = let same : g ≡ cyclic = cc in subst (λ h. HasNoCycle (BindingRefers h)) same none 0 back_and_forth

pub no_cycle : NoCycle
no_cycle h = cycle_refused h refl

-- a spine has its head
spine_head : (e h : TermTree) (args : List Arg) → head_of e ≡ e → head_of h ≡ h → applied e args ≡ h → e ≡ h
spine_head e h args one two is = sym one ∙ sym (head_applied args e) ∙ ap head_of is ∙ two

no_lambda_in_values : {o : Origins} {vars : List TypeTree} {e : TermTree} → IsSide o vars e → e ≡ identity → ⊥
no_lambda_in_values side_variable is = absurd cc
no_lambda_in_values side_literal is = absurd cc
no_lambda_in_values (side_constructor c types xs k n) is = let same : con c ≡ identity = spine_head (con c) identity (types_then types (map (λ x. var x) xs)) refl refl is in absurd cc
no_lambda_in_values (side_vector t xs) is = absurd cc
no_lambda_in_values (side_primitive p types xs w n) is = let same : prim p ≡ identity = spine_head (prim p) identity (types_then types (map (λ x. var x) xs)) refl refl is in absurd cc
no_lambda_in_values (side_call m xs k v n) is = let same : made m ≡ identity = spine_head (made m) identity (types_then [] (map (λ x. var x) xs)) refl refl is in absurd cc
no_lambda_in_values (side_case k b) is = absurd cc

no_chain : {m n : ℕ} {e : TermTree} → IsLiftedCall m e n → e ≡ identity → ⊥
no_chain lifted_on_one is = absurd cc
no_chain (lifted_on_more more) is = absurd cc

no_lambda_in_circuits : {o : Origins} {e : TermTree} → IsCircuitSide o e → e ≡ identity → ⊥
no_lambda_in_circuits of_variable is = absurd cc
no_lambda_in_circuits (of_register k) is = absurd cc
no_lambda_in_circuits (of_block_ram k h) is = absurd cc
no_lambda_in_circuits of_synchronizer is = absurd cc
no_lambda_in_circuits (of_pure k) is = absurd cc
no_lambda_in_circuits (of_lifted m k v chain) is = no_chain chain is
no_lambda_in_circuits (of_call m xs k v n) is = let same : made m ≡ identity = spine_head (made m) identity (types_then [] (map (λ x. var x) xs)) refl refl is in absurd cc
no_lambda_in_circuits (of_constructor c types xs k n) is = let same : con c ≡ identity = spine_head (con c) identity (types_then types (map (λ x. var x) xs)) refl refl is in absurd cc
no_lambda_in_circuits (of_projection l) is = absurd cc

pub no_lambda : NoLambda
no_lambda = (λ vars h. no_lambda_in_values h refl, λ h. no_lambda_in_circuits h refl)

-- a variable is no constant
no_constant : {datas : List Data} {e : TermTree} {x : ℕ} → IsConstant datas e → e ≡ var x → ⊥
no_constant constant_literal is = absurd cc
no_constant {x = x} (constant_constructor c types es k n all) is = let same : con c ≡ var x = spine_head (con c) (var x) (types_then types es) refl refl is in absurd cc
no_constant (constant_vector t es all) is = absurd cc

head_is : (e h : TermTree) (args : List Arg) (x : TermTree) → head_of e ≡ e → head_of x ≡ h → applied e args ≡ x → e ≡ h
head_is e h args x one two is = sym one ∙ sym (head_applied args e) ∙ ap head_of is ∙ two

no_lifted_register : {m n : ℕ} {e : TermTree} → IsLiftedCall m e n → head_of e ≡ prim Register → ⊥
no_lifted_register lifted_on_one is = absurd cc
no_lifted_register (lifted_on_more more) is = absurd cc

begins_refused : {o : Origins} {e : TermTree} → IsCircuitSide o e → e ≡ register_of (var 0) 1 → ⊥
begins_refused of_variable is = absurd cc
begins_refused (of_register {c = c} k) is = let same : c ≡ var 0 = cc in no_constant k same
begins_refused (of_block_ram k h) is = absurd cc
begins_refused of_synchronizer is = absurd cc
begins_refused (of_pure k) is = absurd cc
begins_refused (of_lifted m k v chain) is = no_lifted_register chain (ap head_of is)
begins_refused (of_call m xs k v n) is = let same : made m ≡ prim Register = head_is (made m) (prim Register) (types_then [] (map (λ x. var x) xs)) (register_of (var 0) 1) refl refl is in absurd cc
begins_refused (of_constructor c types xs k n) is = let same : con c ≡ prim Register = head_is (con c) (prim Register) (types_then types (map (λ x. var x) xs)) (register_of (var 0) 1) refl refl is in absurd cc
begins_refused (of_projection l) is = absurd cc

pub no_variable_begins : NoVariableBegins
no_variable_begins h = begins_refused h refl

-- in `ap (fmap m1 x) y` m1 is lifted on two
on_one : {m n : ℕ} {u : TermTree} → IsLiftedCall m u n → u ≡ fmap_of (domain 0) byte (fun byte byte) (made 1) (var 0) → (m ≡ 1) × (n ≡ 1)
on_one lifted_on_one is = (cc, refl)
on_one (lifted_on_more more) is = absurd cc

on_two : {m n : ℕ} {u : TermTree} → IsLiftedCall m u n → u ≡ lifted_on_two 1 → (m ≡ 1) × (n ≡ 2)
on_two lifted_on_one is = absurd cc
on_two (lifted_on_more {u = u} more) is =
    let same : u ≡ fmap_of (domain 0) byte (fun byte byte) (made 1) (var 0) = cc in
    let below = on_one more same in (below.0, ap suc below.1)

wrong_count : (m : ℕ) (it : MadeOf) → slice_get here.made m ≡ Some it → m ≡ 1 → asked_for it.ty ≡ 2 → ⊥
wrong_count m it known one two =
    let second : slice_get here.made 1 ≡ Some it = subst (λ k. slice_get here.made k ≡ Some it) one known in
    let same : of_byte ≡ it = cc in
    let count : asked_for of_byte.ty ≡ 2 = subst (λ (k : MadeOf). asked_for k.ty ≡ 2) (sym same) two in absurd cc

head_ap : (e : TermTree) (args : List Arg) → head_of e ≡ e → applied e args ≡ lifted_on_two 1 → e ≡ prim Ap
head_ap e args one is = head_is e (prim Ap) args (lifted_on_two 1) one refl is

too_many_refused : {e : TermTree} → IsCircuitSide here e → e ≡ lifted_on_two 1 → ⊥
too_many_refused of_variable is = absurd cc
too_many_refused (of_register k) is = absurd cc
too_many_refused (of_block_ram k h) is = absurd cc
too_many_refused of_synchronizer is = absurd cc
too_many_refused (of_pure k) is = absurd cc
too_many_refused (of_lifted m {it} k v chain) is = let at = on_two chain is in wrong_count m it k at.0 at.1
too_many_refused (of_call m xs k v n) is = let same : made m ≡ prim Ap = head_ap (made m) (types_then [] (map (λ x. var x) xs)) refl is in absurd cc
too_many_refused (of_constructor c types xs k n) is = let same : con c ≡ prim Ap = head_ap (con c) (types_then types (map (λ x. var x) xs)) refl is in absurd cc
too_many_refused (of_projection l) is = absurd cc

pub one_too_many : OneTooMany
one_too_many h = too_many_refused h refl

no_leaves_of_scalar : {datas : List Data} {t : TypeTree} {ls : List Leaf} → Leaves datas t ls → t ≡ byte → ⊥
no_leaves_of_scalar (one_leaf r) is = absurd cc
no_leaves_of_scalar (leaves_of_fields a b c d e) is = absurd cc

pub width_holds : WidthHolds
unfolding natural_value
width_holds = record { value = λ r. (8, measured_scalar); leaves = λ ls l h m. absurd (no_leaves_of_scalar h refl) }

wide : {datas : List Data} {t : TypeTree} {m : Measure} {w : ℕ} → Measured datas t m → t ≡ scalar U (nat_lit 129) → m ≡ fits w → ⊥
unfolding natural_value
wide {w = w} (measured_scalar {w = v}) is fit = let same : v ≡ nat_lit 129 = cc in let at : scalar_measure (closed_value (nat_lit 129)) ≡ fits w = subst (λ (v : TypeTree). scalar_measure (closed_value v) ≡ fits w) same fit in absurd cc
wide (measured_vector m) is fit = absurd cc
wide (measured_data a b c) is fit = absurd cc

pub width_fails : WidthFails
width_fails h = let has = h.value representable_scalar in wide has.1 refl refl

-- m0 uses m1 alone
only_second : (n : ℕ) → Uses two_made 0 n → n ≡ 1
only_second n (it, is, h) =
    let same : it ≡ made_of_body (lam byte (on_names (made 1) [] (0 ∷ []))) = cc in
    let at : (1 == n || false) ≡ true = subst (λ (k : Made). names_made k.body n ≡ true) same h in
    elim (or_cases (1 == n) false at) [ inl e ↦ sym (eqb-true 1 n e) | inr e ↦ absurd cc ]

none_used : (n : ℕ) → Uses two_made 1 n → ⊥
none_used n (it, is, h) = let same : it ≡ made_of_body identity = cc in let at : names_made identity n ≡ true = subst (λ (k : Made). names_made k.body n ≡ true) same h in absurd cc

second_whole : WholeOf two_made 1 identity
unfolding with_origins
second_whole = whole_of {it = made_of_body identity} (λ n. identity) refl (λ n u. absurd (none_used n u))

pub whole_of_first : WholeOfFirst
unfolding with_origins
whole_of_first =
    whole_of {it = made_of_body (lam byte (on_names (made 1) [] (0 ∷ [])))} (λ n. identity) refl
    (λ n u. subst (λ k. WholeOf two_made k identity) (sym (only_second n u)) second_whole)

pub uses_itself : UsesItself
uses_itself none = none 0 (step (_, refl, refl))
