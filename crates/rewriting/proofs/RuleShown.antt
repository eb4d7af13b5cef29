-- What the worked examples owe.
use Rattle.std.proofs.Common.{◌≡◌, ℕ, zero, suc, ◌-◌, ◌<◌, true, false, refl, arith, subst, inl, inr, ◌↔◌, List, [], ◌∷◌, length, Some, slice_get, ◌++◌, replicate}
use Rattle.chw_types.specs.declared.kind.Kind.TheVariants.{Val}
use Rattle.chw_types.specs.KindFound.{kind_found}
use Rattle.type_ports.specs.Ports.{IsPort, one_leaf, leaves_of_fields, no_leaves, leaves_and}
use Rattle.type_ports.specs.Representable.{Representable, representable_data, none_to_represent, representable_vector}
use Rattle.chw_types.specs.TypeMoves.{sub}
use Rattle.chw_types.specs.TypeTree.{TypeTree, fun}
use Rattle.chw_types.proofs.KindsFound.{found_is_kind}
use Rattle.chw_types.proofs.SameLaws.{same_self}
use Rattle.chw_prims.specs.Schemas.{bool}
use Rattle.chw_terms.specs.Occurs.{occurs}
use Rattle.chw_terms.specs.TermMoves.{rename, sub as sub_term, up_by, up}
use Rattle.chw_terms.specs.TermTree.{TermTree, var, app, no_bindings}
use Rattle.chw_typing.specs.Scopes.{HasKind, IsTermType}
use Rattle.chw_typing.specs.HeadTypes.{of_con}
use Rattle.chw_typing.specs.Typing.{HasType, h_var, h_app, h_letrec, h_case, none_bound, bound_and, none_give, give_and}
use Rattle.chw_typing.specs.Finding.{f_var, f_app}
use Rattle.chw_typing.specs.Groups.{Reached, from_body, from_side}
use Rattle.chw_typing.specs.Paths.{IsEarlier}
use Rattle.rewriting.specs.Origins.{setting_at}
use Rattle.rewriting.specs.Spots.{Spot}
use Rattle.chw_prims.specs.declared.prim.Primitive.TheVariants.{AddU, LtU}
use Rattle.chw_terms.specs.TermTree.{letrec}
use Rattle.rewriting.specs.RuleExamples.{at_place}
use Rattle.chw_terms.specs.Evaluated.{evaluated}
use Rattle.rewriting.specs.Demanded.{prim_let, DemandsLet}
use Rattle.rewriting.specs.Functions.{app_case}
use Rattle.rewriting.specs.Primitives.{delta}
use Rattle.chw_typing.specs.Given.{types_then}
use Rattle.chw_terms.specs.FreeVariables.{occurrences}
use Rattle.rewriting.specs.Origins.{with_origins}
use Rattle.chw_types.specs.declared.kind.Scalar.TheVariants.{U}
use Rattle.chw_types.specs.TypeTree.{nat_lit}
use Rattle.chw_prims.specs.declared.prim.Primitive.TheVariants.{VAt}
use Rattle.chw_terms.specs.declared.scene.Mode.TheVariants.{V}
use Rattle.rewriting.specs.Cases.{case_con, case_case, proj}
use Rattle.rewriting.specs.RuleExamples.{here, bits_of_a, two, of_maybe, maybe_bool, to_bool, of_bool, inner_group, before_dead, LetJoins, BindingGoes, FunctionIsPut, ConstructorTaken, CaseMovesOut, PartsProjected, FunctionsComposed, OperandNamed, word, functions, ArgumentMoves, LetLeavesVector, SumComputed, TruthComputed, FunctionsBehind, CallClosed}
use Rattle.rewriting.specs.Lets.{flat_side, dead, inline}
use Rattle.rewriting.specs.Lifted.{fmap_fmap, ap_fmap}
use Rattle.rewriting.specs.Operands.{anf, of_case, StandsAt, of_prim, of_con, of_vector}
use Rattle.rewriting.specs.Shapes.{by_first}
use Rattle.rewriting.specs.Signals.{join}

pub let_joins : LetJoins
unfolding rename
let_joins =
    flat_side (of_bool (var 1) no_bindings) bool inner_group (app (app (var 2) (var 3)) (var 4))
    (of_bool (app (var 2) (var 3)) no_bindings) (λ h. h) ((λ h. h), tt)

bool_values : Representable here.program.datas bool
bool_values = representable_data refl refl none_to_represent

no_function : (a b : TypeTree) → Representable here.program.datas (fun a b) → ⊥
no_function a b h = elim h [ ]

pub function_is_put : FunctionIsPut
unfolding rename sub_term up_by up occurs
function_is_put =
    inline (of_bool (var 0) no_bindings) to_bool (app (app (var 3) (var 2)) (var 0)) (of_bool (app (var 1) (var 2)) no_bindings)
    (λ h. h) (no_function bool bool) refl (inl bool_values, tt)

pub constructor_taken : ConstructorTaken
unfolding rename sub
constructor_taken = case_con 4 (bool ∷ bool ∷ []) (var 1 ∷ var 0 ∷ []) refl refl refl (by_first refl)

pub functions_composed : FunctionsComposed
unfolding rename
functions_composed = join tt (fmap_fmap (no_function bool bool) (f_var refl))

bool_kind : HasKind (setting_at here) [] bool Val
unfolding kind_found
bool_kind = found_is_kind here.program.datas 1 [] bool Val refl

maybe_kind : HasKind (setting_at here) [] maybe_bool Val
unfolding kind_found
maybe_kind = found_is_kind here.program.datas 1 [] maybe_bool Val refl

bool_type : IsTermType (setting_at here) [] bool
bool_type = record { kind = Val; has = bool_kind; of_terms = tt }

inner_typed : HasType (setting_at here) [] (bool ∷ bool ∷ maybe_bool ∷ []) (of_maybe (var 0) (var 0)) bool
unfolding sub
inner_typed =
    h_case {bound = []} {j = Val} {k = Val} (h_var refl) tt maybe_kind (record { fields = []; pattern = of_con _ refl refl refl; same = tt; typed = tt }) (h_var refl) bool_kind tt
    (give_and {bound = bool ∷ []} (record { fields = bool ∷ []; pattern = of_con _ refl refl refl; same = (same_self bool, tt); typed = (bool_type, tt) }) (h_var refl) (same_self bool) none_give)
    (((λ (e : 2 ≡ 3). absurd cc), tt), (tt, tt))

pub case_moves_out : CaseMovesOut
unfolding rename
case_moves_out = case_case inner_typed (λ h. h)

bit_values : IsPort here.program.datas bits_of_a
bit_values = (_, one_leaf bool_values)

two_port : IsPort here.program.datas two
unfolding sub
two_port = (_, leaves_of_fields refl refl refl refl (leaves_and (one_leaf bool_values) (leaves_and (one_leaf bool_values) no_leaves)))

pub parts_projected : PartsProjected
unfolding sub
parts_projected = proj refl refl two_port (of_con _ refl refl refl) tt (inl (λ j l e. absurd cc))

-- the second binding isn't reached
not_second : (i : ℕ) → Reached before_dead (app (var 2) (var 3)) i → i ≡ 1 → ⊥
unfolding occurs
not_second i (from_body l o) q = let at : occurs (app (var 2) (var 3)) (3 - 1 - 1) ≡ true = subst (λ i. occurs (app (var 2) (var 3)) (3 - 1 - i) ≡ true) q o in absurd cc
not_second i (from_side {j = zero} {b = b} r is l o) q =
    let same : b ≡ (bool, var 0) = cc in
    let at : occurs b.1 (3 - 1 - 1) ≡ true = subst (λ i. occurs b.1 (3 - 1 - i) ≡ true) q o in
    let of : occurs (var 0) 1 ≡ true = subst (λ b. occurs b.1 1 ≡ true) same at in absurd cc
not_second i (from_side {j = suc zero} r is l o) q = not_second 1 r refl
not_second i (from_side {j = suc (suc zero)} {b = b} r is l o) q =
    let same : b ≡ (bool, app (var 0) (var 3)) = cc in
    let at : occurs b.1 (3 - 1 - 1) ≡ true = subst (λ i. occurs b.1 (3 - 1 - i) ≡ true) q o in
    let of : occurs (app (var 0) (var 3)) 1 ≡ true = subst (λ b. occurs b.1 1 ≡ true) same at in absurd cc
not_second i (from_side {j = suc (suc (suc j))} r is l o) q = absurd cc

first_reached : Reached before_dead (app (var 2) (var 3)) 0
unfolding occurs
first_reached = from_body (omega arith) refl

third_reached : Reached before_dead (app (var 2) (var 3)) 2
unfolding occurs
third_reached = from_side first_reached refl (omega arith) refl

each_marked : (i : ℕ) → i < 3 → (slice_get (true ∷ false ∷ true ∷ []) i ≡ Some true ↔ Reached before_dead (app (var 2) (var 3)) i)
each_marked zero l = (λ q. first_reached, λ r. refl)
each_marked (suc zero) l = (λ q. absurd cc, λ r. absurd (not_second 1 r refl))
each_marked (suc (suc zero)) l = (λ q. third_reached, λ r. refl)
each_marked (suc (suc (suc i))) l = absurd (omega (arith, l))

pub binding_goes : BindingGoes
unfolding rename
binding_goes = dead {marks = true ∷ false ∷ true ∷ []} (λ h. h) (record { each_one = refl; reached = each_marked }) (inr (1, omega arith, refl))

never_ends : (xs : List ℕ) (x : ℕ) → xs ++ x ∷ [] ≡ [] → ⊥
never_ends [] x e = absurd cc
never_ends (y ∷ xs) x e = absurd cc

-- no operand is the term itself
never_whole : {at : Spot} {e x : TermTree} {q : List ℕ} → StandsAt here at e q x → q ≡ [] → ⊥
never_whole (of_prim p args i n k g) e = never_ends (replicate (length args - 1 - i) 0) 1 e
never_whole of_case e = absurd cc
never_whole (of_con c args i m k n g) e = never_ends (replicate (length args - 1 - i) 0) 1 e
never_whole (of_vector m i) e = absurd cc

only_whole : (q : List ℕ) → IsEarlier q (0 ∷ []) → q ≡ []
only_whole [] h = refl
only_whole (i ∷ q) (inl l) = absurd (omega (arith, l))
only_whole (i ∷ []) (inr h) = absurd h.1
only_whole (i ∷ j ∷ q) (inr h) = absurd h.1

operand_typed : HasType (setting_at here) [] (bool ∷ bool ∷ to_bool ∷ []) (app (var 2) (var 0)) bool
operand_typed = h_app (h_var refl) (h_var refl) (same_self bool)

pub operand_named : OperandNamed
unfolding rename
operand_named =
    anf (record {
      is = (of_case, record { no_variable = λ h. h; type = bool; has = operand_typed; named = bool_values });
      first = λ q y h l. never_whole h.0 (only_whole q l);
    }) (f_app (f_var refl) (f_var refl) (same_self bool))

pub functions_behind : FunctionsBehind
unfolding rename
functions_behind = join tt (ap_fmap (λ d a f e. absurd cc) (no_function bool bool) (f_var refl) (f_var refl))

pub call_closed : CallClosed
unfolding rename occurrences with_origins
call_closed = refl

pub argument_moves : ArgumentMoves
unfolding rename
argument_moves = app_case (f_var refl)

functions_kind : HasKind (setting_at here) [] functions Val
unfolding kind_found
functions_kind = found_is_kind here.program.datas 1 [] functions Val refl

let_typed : HasType (setting_at here) [] (word 3 ∷ bool ∷ functions ∷ []) (letrec (of_bool (var 2) no_bindings) (var 3)) functions
let_typed = h_letrec {k = Val} (h_var refl) functions_kind (bound_and {j = Val} bool_kind tt (h_var refl) (same_self bool) none_bound)

no_vector : Representable here.program.datas functions → ⊥
no_vector (representable_vector h) = no_function bool bool h

pub let_leaves_vector : LetLeavesVector
unfolding rename
let_leaves_vector =
    prim_let refl (record { no_constant = λ e. absurd cc; looks = refl; is = refl; type = functions; has = let_typed; unnamed = no_vector }) before
  where
    before : (j : ℕ) → j < 3 → DemandsLet here (at_place V (word 3 ∷ bool ∷ functions ∷ [])) VAt (types_then (nat_lit 1 ∷ nat_lit 3 ∷ to_bool ∷ []) (letrec (of_bool (var 2) no_bindings) (var 3) ∷ var 0 ∷ [])) j → ⊥
    before j l h = let at : j ≡ 3 = h.2.looks in omega (arith, at, l)

pub sum_computed : SumComputed
unfolding sub evaluated
sum_computed = delta {p = AddU} {types = nat_lit 3 ∷ []} {words = (U, true ∷ false ∷ true ∷ []) ∷ (U, true ∷ true ∷ false ∷ []) ∷ []} refl
    (record { whole = refl; narrow = ((3, refl, omega arith), ((3, refl, omega arith), ((3, refl, omega arith), tt))); nats = 3 ∷ []; closed = refl; gives = refl })

pub truth_computed : TruthComputed
unfolding sub evaluated
truth_computed = delta {p = LtU} {types = nat_lit 3 ∷ []} {words = (U, true ∷ false ∷ true ∷ []) ∷ (U, true ∷ true ∷ false ∷ []) ∷ []} {b = true ∷ []} refl
    (record { whole = refl; narrow = ((3, refl, omega arith), ((3, refl, omega arith), tt)); nats = 3 ∷ []; closed = refl; gives = refl })
