-- The examples hold.
use Rattle.std.proofs.Common.{◌≡◌, ℕ, ◌+◌, Bool, true, false, ap, refl, sym, ◌∙◌, subst, List, [], ◌∷◌, length, arith}
use Rattle.std.specs.Prelude.{Some, codes}
use Rattle.std.specs.List.{slice_get}
use Rattle.chw_base.specs.declared.index.ConId.{ConId}
use Rattle.chw_types.specs.declared.kind.Kind.{Kind}
use Rattle.chw_types.specs.declared.kind.Kind.TheVariants.{Nat, Dom, Val, Cir}
use Rattle.chw_types.specs.declared.kind.Scalar.TheVariants.{U}
use Rattle.chw_types.specs.TypeTree.{TypeTree, ty_var, nat_lit, nat_sum, nat_product, domain, scalar, fun, for_all}
use Rattle.chw_types.specs.TypeMoves.{sub, put_at, put as put_type, up_by, up, rename}
use Rattle.chw_types.specs.Kinds.{HasFunctions, HasNoKind, kind_nat, kind_scalar}
use Rattle.chw_types.specs.Polynomials.{ended, counted, same_factors, is_natural, multiplied, coefficient, SameNaturals}
use Rattle.chw_types.specs.SameTypes.{SameTypes, same_naturals, same_scalar, same_fun, same_for_all}
use Rattle.chw_types.specs.BuiltIn.{constructor_of}
use Rattle.chw_types.specs.KindFound.{kind_found}
use Rattle.chw_types.proofs.KindsFound.{one_kind, found_is_kind, none_is_found}
use Rattle.chw_types.proofs.SameLaws.{same_self, same_turned}
use Rattle.chw_prims.specs.Schemas.{bool}
use Rattle.chw_terms.specs.declared.term.Pattern.{Pattern}
use Rattle.chw_terms.specs.TermMoves.{sub as sub_term, put_at as put_term_at, up_by as up_term_by}
use Rattle.chw_terms.specs.TermTree.{var, app, ty_app, letrec, case_of, no_bindings, bind, no_alts, alt}
use Rattle.chw_terms.specs.Constructors.{Constructor, con_at}
use Rattle.type_laws.proofs.PutSame.{polys_as}
use Rattle.type_laws.proofs.SameForms.{as_function}
use Rattle.type_laws.proofs.Shifted.{put_same}
use Rattle.chw_typing.specs.Scopes.{HasKind, AreTermTypes, with_more}
use Rattle.chw_typing.specs.HeadTypes.{con_type, IsLookedAt, PatternOf, of_con, of_lit, of_any}
use Rattle.chw_typing.specs.Typing.{Binds, HasType, h_var, h_lam, h_app, h_ty_lam, h_ty_app, h_letrec, h_con, h_prim, h_lit, h_vec, h_case, none_bound, bound_and, none_have, have_and, none_give, give_and}
use Rattle.chw_typing.specs.Examples.{bits_of_a, wire_type, con_pattern, small, HasNoType, no, yes, wire, word, Identity, forgets, LambdaOverASignal, steady, AppliedToASignal, LetOfASignal, TwoForOneConstructor, AfterADefault, LiteralPattern, LookingAtAFunction, LookingAtACircuit, TooFewNames, SumOfNaturals, VectorOfTwo, identities, ArgumentOfTheKind, cube, cubes, square, DegreeTooGreat, plain, padded, padded_width, padded_identity, OnlyUpToNaturals}
use Rattle.chw_typing.proofs.Degrees.{too_long}
use Rattle.chw_typing.proofs.Kinded.{term_type, function_parts}
use Rattle.chw_typing.proofs.SameScopes.{are_same_self}

bool_kind : (kinds : List Kind) → HasKind small kinds bool Val
unfolding kind_found
bool_kind kinds = found_is_kind small.datas small.domains kinds bool Val refl

signal_kind : (kinds : List Kind) → HasKind small kinds bits_of_a Cir
unfolding kind_found
signal_kind kinds = found_is_kind small.datas small.domains kinds bits_of_a Cir refl

yes_typed : (kinds : List Kind) (vars : List TypeTree) → HasType small kinds vars yes bool
yes_typed kinds vars = h_con refl

no_typed : (kinds : List Kind) (vars : List TypeTree) → HasType small kinds vars no bool
no_typed kinds vars = h_con refl

no_function : (kinds : List Kind) (j k : Kind) (t u : TypeTree) → HasKind small kinds t j → HasKind small kinds t Cir → HasKind small kinds u k → HasKind small kinds u Val → HasFunctions j k → ⊥
no_function kinds j k t u d d' e e' f = subst (λ i. HasFunctions i Val) (one_kind d d') (subst (HasFunctions j) (one_kind e e') f)

pub identity : Identity
unfolding kind_found
identity = h_lam {k = Val} (h_var refl) (found_is_kind small.datas small.domains [] (fun bool bool) Val refl)

con_found : (it other : Constructor) (c : ℕ) → con_at small.datas c ≡ Some it → con_at small.datas c ≡ Some other → it ≡ other
con_found it other c e f = cc

type_of_yes : (kinds : List Kind) (vars : List TypeTree) (t : TypeTree) → HasType small kinds vars yes t → t ≡ bool
type_of_yes kinds vars t (h_con {it = it} e) = ap con_type (con_found it _ 1 e refl)

type_of_var : (kinds : List Kind) (vars : List TypeTree) (x : ℕ) (t u : TypeTree) → HasType small kinds vars (var x) t → slice_get vars x ≡ Some u → t ≡ u
type_of_var kinds vars x t u (h_var e) f = cc

pub lambda_over_a_signal : LambdaOverASignal
unfolding kind_found
lambda_over_a_signal t (h_lam {b = b} {k = k} d l) =
    none_is_found small.datas small.domains [] (fun bits_of_a bool) refl k (subst (λ b. HasKind small [] (fun bits_of_a b) k) (type_of_yes [] (bits_of_a ∷ []) b d) l)

steady_typed : (vars : List TypeTree) → HasType small [] vars steady bits_of_a
unfolding kind_found sub put_at up_by up rename
steady_typed vars =
    h_app
    (h_ty_app {j = Val} {k = Cir} (h_ty_app {j = Dom} {k = Cir} h_prim (found_is_kind small.datas small.domains [] (domain 0) Dom refl) (same_self _) (found_is_kind small.datas small.domains [] _ Cir refl))
    (bool_kind []) (same_self _) (found_is_kind small.datas small.domains [] _ Cir refl))
    (yes_typed [] vars) (same_self bool)

no_application : (t : TypeTree) → HasType small [] [] (app forgets steady) t → ⊥
no_application t (h_app {a = a} {b = b} d e x) = lambda_over_a_signal (fun a b) d

pub applied_to_a_signal : AppliedToASignal
applied_to_a_signal = (steady_typed [], no_application)

no_let : HasNoType [] [] (letrec (bind bits_of_a steady no_bindings) yes)
no_let t (h_letrec {k = k} d l (bound_and {j = j} m f e x b)) =
    no_function [] j k bits_of_a t m (signal_kind []) l (subst (λ u. HasKind small [] u Val) (sym (type_of_yes [] (bits_of_a ∷ []) t d)) (bool_kind [])) f

pub let_of_a_signal : LetOfASignal
let_of_a_signal = (h_letrec {k = Cir} (h_var refl) (signal_kind []) (bound_and {j = Cir} (signal_kind []) tt (steady_typed (bits_of_a ∷ [])) (same_self bits_of_a) none_bound), no_let)

-- a pattern binds its fields' own types, where these have kinds
binds_these : (kinds : List Kind) (u : TypeTree) (q : Pattern) (bound : List TypeTree) → PatternOf small.datas u q bound → AreTermTypes small kinds bound → Binds small kinds u q bound
binds_these kinds u q bound p d = record { fields = bound; pattern = p; same = are_same_self bound; typed = d }

pub two_for_one_constructor : TwoForOneConstructor
two_for_one_constructor =
    (h_case {j = Val} {k = Val} (yes_typed [] []) tt (bool_kind []) (binds_these [] bool _ [] (of_con _ refl refl refl) tt) (no_typed [] []) (bool_kind []) tt (give_and (binds_these [] bool _ [] (of_con _ refl refl refl) tt) (yes_typed [] []) (same_self bool) none_give) ((apart, tt), (tt, tt)), hidden)
  where
    apart : ◌≡◌ {A = ℕ} 1 0 → ⊥
    apart e = absurd (cc)

    hidden : (t : TypeTree) → HasType small [] [] (case_of yes (alt (con_pattern 1 0) no (alt (con_pattern 1 0) yes no_alts))) t → ⊥
    hidden t (h_case d i l b e m a o n) = n.0.0 refl

pub after_a_default : AfterADefault
after_a_default t (h_case d i l b e m a o n) = n.0.0 tt

pub literal_pattern : LiteralPattern
unfolding is_natural kind_found
literal_pattern =
    h_case {j = Val} {k = Val} (h_lit (omega arith)) tt (found_is_kind small.datas small.domains [] (word 8) Val refl) (binds_these [] (word 8) _ [] (of_lit (omega arith) (same_self (nat_lit 8))) tt) (yes_typed [] []) (bool_kind []) tt
    (give_and (binds_these [] (word 8) _ [] of_any tt) (no_typed [] []) (same_self bool) none_give) (((λ h. h), tt), (tt, tt))

pub looking_at_a_function : LookingAtAFunction
looking_at_a_function t (h_case {u = u} d i l b e m a o n) = subst IsLookedAt (type_of_var [] (fun bool bool ∷ []) 0 u (fun bool bool) d refl) i

no_value_of_a_circuit : HasNoType [] (wire ∷ []) (case_of (var 0) (alt (con_pattern 5 1) yes no_alts))
unfolding kind_found
no_value_of_a_circuit t (h_case {bound = bound} {u = u} {j = j} {k = k} d i l b e m a o n) =
    no_function [] j k wire bool (subst (λ v. HasKind small [] v j) (type_of_var [] (wire ∷ []) 0 u wire d refl) l) (found_is_kind small.datas small.domains [] wire Cir refl)
    (subst (λ v. HasKind small [] v k) (type_of_yes [] (with_more bound (wire ∷ [])) t e) m) (bool_kind []) a

pub looking_at_a_circuit : LookingAtACircuit
unfolding kind_found sub
looking_at_a_circuit =
    (h_case {j = Cir} {k = Cir} (h_var refl) tt (found_is_kind small.datas small.domains [] wire Cir refl) (binds_these [] wire _ (bits_of_a ∷ []) (of_con _ refl refl refl) (term_type small [] bits_of_a Cir (signal_kind []) tt, tt)) (h_var refl) (signal_kind []) tt none_give (tt, tt), no_value_of_a_circuit)

abbrev wire_constructor : Constructor
wire_constructor = record { of = 3; it = wire_type; decl = constructor_of (codes "Wire") (bits_of_a ∷ []) }

pub too_few_names : TooFewNames
too_few_names t (h_case d i l b f m a g h) = by b.pattern refl
  where
    few : (it : Constructor) → con_at small.datas 5 ≡ Some it → length it.decl.fields ≡ 0 → ⊥
    few it e n = absurd (let f : ◌≡◌ {A = ℕ} 1 0 = subst (λ i. length i.decl.fields ≡ 0) (con_found it wire_constructor 5 e refl) n in cc)

    by : {u : TypeTree} {q : Pattern} {fields : List TypeTree} → PatternOf small.datas u q fields → q ≡ con_pattern 5 0 → ⊥
    by (of_con {n = n} {c = c} it e o l) is = let same : c ≡ record { number = 5 } = cc in let none : n ≡ 0 = cc in few it (subst (λ (i : ConId). con_at small.datas i.number ≡ Some it) same e) (l ∙ none)
    by (of_lit l x) is = absurd (cc)
    by of_any is = absurd (cc)

same_sum : SameNaturals (nat_sum (nat_lit 4) (nat_lit 4)) (nat_lit 8)
unfolding multiplied
same_sum [] = refl
same_sum (x ∷ m) = refl

pub sum_of_naturals : SumOfNaturals
unfolding is_natural kind_found
sum_of_naturals =
    h_app (h_lam {k = Val} (h_var refl) (found_is_kind small.datas small.domains [] (fun (scalar U (nat_sum (nat_lit 4) (nat_lit 4))) (scalar U (nat_sum (nat_lit 4) (nat_lit 4)))) Val refl))
    (h_lit (omega arith)) (same_scalar (same_naturals refl refl same_sum))

pub vector_of_two : VectorOfTwo
vector_of_two = h_vec (term_type small [] bool Val (bool_kind []) tt) (have_and (yes_typed [] []) (same_self bool) (have_and (no_typed [] []) (same_self bool) none_have))

identities_typed : HasType small [] [] identities (for_all Val (fun (ty_var 0) (ty_var 0)))
unfolding kind_found
identities_typed = h_ty_lam (h_lam {k = Val} (h_var refl) (found_is_kind small.datas small.domains (Val ∷ []) (fun (ty_var 0) (ty_var 0)) Val refl))

no_number : HasNoType [] [] (ty_app identities (nat_lit 8))
no_number t (h_ty_app (h_ty_lam d) l x m) = absurd (let e : Nat ≡ Val = one_kind kind_nat l in cc)

pub argument_of_the_kind : ArgumentOfTheKind
unfolding kind_found sub put_at up_by up rename
argument_of_the_kind = (h_ty_app {k = Val} identities_typed (bool_kind []) (same_self (fun bool bool)) (found_is_kind small.datas small.domains [] (fun bool bool) Val refl), no_number)

cubes_typed : HasType small (Nat ∷ []) [] cubes (for_all Nat (fun (scalar U cube) (scalar U cube)))
unfolding kind_found
cubes_typed = h_ty_lam (h_lam {k = Val} (h_var refl) (found_is_kind small.datas small.domains (Nat ∷ Nat ∷ []) (fun (scalar U cube) (scalar U cube)) Val refl))

-- no type with a kind is the same as a scalar of the sixth power
no_sixth_power : (u : TypeTree) (k : Kind) → SameTypes (scalar U (nat_product (nat_product square square) square)) u → HasKind small (Nat ∷ []) u k → ⊥
unfolding is_natural multiplied
no_sixth_power u k (same_naturals n m p) d = absurd (cc)
no_sixth_power u k (same_scalar x) (kind_scalar d) =
    let once : coefficient (multiplied (nat_product (nat_product square square) square)) (0 ∷ 0 ∷ 0 ∷ 0 ∷ 0 ∷ 0 ∷ []) ≡ 1 = refl in
    too_long (nat_product (nat_product square square) square) (0 ∷ 0 ∷ 0 ∷ 0 ∷ 0 ∷ 0 ∷ []) (omega arith) (omega arith) (polys_as x) d

no_cube : HasNoType (Nat ∷ []) [] (ty_app cubes square)
unfolding sub put_at up_by up rename
no_cube t (h_ty_app {k = k} (h_ty_lam (h_lam {b = b} e n)) l x m) =
    let at = as_function x in
    let parts = function_parts (subst (λ v. HasKind small (Nat ∷ []) v k) at.2 m) in
    no_sixth_power at.0 parts.0 at.3 parts.1

pub degree_too_great : DegreeTooGreat
degree_too_great = (cubes_typed, no_cube)

same_width : SameNaturals (ty_var 0) padded_width
unfolding multiplied
same_width m = ap (λ n. ended (counted (same_factors (0 ∷ []) m) 1 + n)) (none (same_factors (0 ∷ 0 ∷ []) m))
  where
    none : (b : Bool) → 0 ≡ counted b 0 + 0
    none true = refl
    none false = refl

padded_same : SameTypes plain padded
unfolding is_natural
padded_same = same_for_all (same_fun (same_scalar (same_naturals refl refl same_width)) (same_scalar (same_naturals refl refl same_width)))

padded_typed : HasType small (Nat ∷ []) [] padded_identity padded
unfolding kind_found
padded_typed = h_ty_lam (h_lam {k = Val} (h_var refl) (found_is_kind small.datas small.domains (Nat ∷ Nat ∷ []) (fun (scalar U padded_width) (scalar U padded_width)) Val refl))

cube_kind : HasKind small (Nat ∷ []) cube Nat
unfolding kind_found
cube_kind = found_is_kind small.datas small.domains (Nat ∷ []) cube Nat refl

cubes_kind : HasKind small (Nat ∷ []) (fun (scalar U cube) (scalar U cube)) Val
unfolding kind_found
cubes_kind = found_is_kind small.datas small.domains (Nat ∷ []) (fun (scalar U cube) (scalar U cube)) Val refl

plain_used : HasType small (Nat ∷ []) (plain ∷ []) (ty_app (var 0) cube) (fun (scalar U cube) (scalar U cube))
unfolding sub put_at up_by up rename
plain_used = h_ty_app {k = Val} (h_var refl) cube_kind (same_self (fun (scalar U cube) (scalar U cube))) cubes_kind

padded_too_great : HasNoKind small.datas small.domains (Nat ∷ []) (put_type (fun (scalar U padded_width) (scalar U padded_width)) 0 cube)
unfolding kind_found sub put_at up_by up rename
padded_too_great k d = none_is_found small.datas small.domains (Nat ∷ []) (put_type (fun (scalar U padded_width) (scalar U padded_width)) 0 cube) refl k d

cube_same : SameTypes (put_type padded_width 0 cube) cube
unfolding is_natural sub put_at up_by
cube_same = put_same padded_width (ty_var 0) cube cube 0 (same_turned (same_naturals refl refl same_width)) (same_self cube) (λ s. refl)

padded_kept : HasType small (Nat ∷ []) [] (ty_app padded_identity cube) (fun (scalar U cube) (scalar U cube))
unfolding sub
padded_kept = h_ty_app {k = Val} padded_typed cube_kind (same_fun (same_scalar cube_same) (same_scalar cube_same)) cubes_kind

pub only_up_to_naturals : OnlyUpToNaturals
unfolding sub_term put_term_at up_term_by
only_up_to_naturals = record { same = padded_same; used = plain_used; has = padded_typed; too_great = padded_too_great; kept = padded_kept }
