-- The example.
use Rattle.std.proofs.Common.{◌≡◌, ℕ, suc, zero, refl, subst, Some, List, [], ◌∷◌, reverse, arith}
use Rattle.std.specs.List.{slice_get, AllByRecursion}
use Rattle.chw_types.specs.declared.kind.Kind.{Kind}
use Rattle.chw_types.specs.declared.kind.Kind.TheVariants.{Nat, Val, Cir}
use Rattle.chw_types.specs.declared.declarations.Data.{Data}
use Rattle.chw_types.specs.BuiltIn.{built_in}
use Rattle.chw_types.specs.Kinds.{kind_var}
use Rattle.chw_types.specs.TypeTree.{TypeTree, nat_lit, vector}
use Rattle.chw_types.specs.TypeMoves.{rename, up, sub, up_by, put_at}
use Rattle.chw_types.specs.KindFound.{kind_found}
use Rattle.chw_types.proofs.KindsFound.{one_kind, found_is_kind}
use Rattle.chw_types.proofs.SameLaws.{same_self}
use Rattle.chw_prims.specs.declared.prim.Primitive.TheVariants.{VReplicate}
use Rattle.chw_prims.specs.Schemas.{bool}
use Rattle.chw_terms.specs.References.{IsField}
use Rattle.chw_terms.specs.Tidy.{HasCircuit}
use Rattle.chw_terms.specs.TermTree.{TermTree, letrec, vec_lit, Terms, Group}
use Rattle.chw_terms.specs.TermMoves.{rename as rename_term}
use Rattle.chw_terms.specs.Evaluated.{evaluated}
use Rattle.chw_terms.specs.Unrolled.{CanUnroll, unrolled}
use Rattle.chw_typing.specs.Scopes.{Setting, HasKind, with_more, declared}
use Rattle.chw_typing.specs.Examples.{yes}
use Rattle.chw_typing.specs.Programs.{IsSound}
use Rattle.chw_typing.specs.Typing.{count, HasType, h_var, h_app, h_ty_app, h_letrec, h_con, h_prim, h_vec, none_bound, bound_and, none_have, have_and}
use Rattle.unroll_laws.specs.Laws.{called}
use Rattle.unroll_laws.specs.Examples.{bare, one_and_one, types, twice, TwoFromOne}

in_all : {A : Type 0} (P : A → Type 0) (xs : List A) (i : ℕ) (x : A) → AllByRecursion P xs → slice_get xs i ≡ Some x → P x
in_all P [] i x h e = absurd (cc)
in_all P (y ∷ ys) zero x h e = let is : y ≡ x = cc in subst P is h.0
in_all P (y ∷ ys) (suc i) x h e = in_all P ys i x h.1 e

-- of values, as each of its fields
abbrev HoldsValues : Data → Type 0
HoldsValues it = (it.kind ≡ Val) × AllByRecursion (λ c. AllByRecursion (λ t. HasKind bare (reverse it.params) t Val) c.fields) it.cons

built_in_values : AllByRecursion HoldsValues built_in
built_in_values = ((refl, (tt, (tt, tt))), ((refl, (tt, ((kind_var refl, tt), tt))), ((refl, ((kind_var refl, (kind_var refl, tt)), tt)), tt)))

field_value : (d : ℕ) (it : Data) (t : TypeTree) → slice_get built_in d ≡ Some it → IsField it t → HasKind bare (reverse it.params) t Val
field_value d it t e f =
    in_all (λ t. HasKind bare (reverse it.params) t Val) f.of.fields f.at t
    (in_all (λ c. AllByRecursion (λ t. HasKind bare (reverse it.params) t Val) c.fields) it.cons f.con f.of (in_all HoldsValues built_in d it built_in_values e).1 f.is_con) f.is_field

no_circuit : (d : ℕ) (it : Data) → slice_get built_in d ≡ Some it → HasCircuit built_in 0 it → ⊥
no_circuit d it e c = let is : Val ≡ Cir = one_kind (field_value d it c.0 e c.1) c.2 in absurd (cc)

bare_sound : IsSound bare
bare_sound =
    record {
      begins = ([], refl);
      kinds = λ d it e. record { circuit = λ c. absurd (no_circuit d it e c); values = λ none. (in_all HoldsValues built_in d it built_in_values e).0 };
      fields = λ d it t e f. record { kind = Val; has = field_value d it t e f; of_terms = tt };
      defs = λ x t e. absurd (cc);
      made = λ x t e. absurd (cc);
    }

bool_kind : HasKind bare [] bool Val
unfolding kind_found
bool_kind = found_is_kind bare.datas bare.domains [] bool Val refl

call_typed : HasType bare [] [] (called VReplicate types (yes ∷ [])) (vector one_and_one bool)
unfolding put_at up_by up sub rename kind_found
call_typed =
    h_app
    (h_ty_app
    (h_ty_app h_prim (found_is_kind bare.datas bare.domains [] one_and_one Nat refl) (same_self _) (found_is_kind bare.datas bare.domains [] _ Val refl))
    bool_kind (same_self _) (found_is_kind bare.datas bare.domains [] _ Val refl))
    (h_con refl) (same_self bool)

can_unroll : CanUnroll VReplicate types (yes ∷ [])
unfolding sub evaluated
can_unroll = record { on_types = refl; on_terms = refl; short = ((2, refl, omega arith), tt); narrow = tt }

is_twice : unrolled VReplicate types (yes ∷ []) ≡ Some twice
unfolding sub evaluated rename_term
is_twice = refl

twice_typed : HasType bare [] [] twice (vector (nat_lit 2) bool)
unfolding kind_found
twice_typed =
    h_letrec
    (h_vec (record { kind = Val; has = bool_kind; of_terms = tt }) (have_and (h_var refl) (same_self bool) (have_and (h_var refl) (same_self bool) none_have)))
    (found_is_kind bare.datas bare.domains [] (vector (nat_lit 2) bool) Val refl)
    (bound_and bool_kind tt (h_con refl) (same_self bool) none_bound)

vector_is : {s : Setting} {kinds : List Kind} {vars : List TypeTree} {t u : TypeTree} {es : Terms} → HasType s kinds vars (vec_lit t es) u → u ≡ vector (nat_lit (count es)) t
vector_is (h_vec l d) = refl

body_has : {s : Setting} {kinds : List Kind} {vars : List TypeTree} {g : Group} {e : TermTree} {u : TypeTree} → HasType s kinds vars (letrec g e) u → HasType s kinds (with_more (declared g) vars) e u
body_has (h_letrec d l b) = d

not_itself : HasType bare [] [] twice (vector one_and_one bool) → ⊥
not_itself d = let is : vector one_and_one bool ≡ vector (nat_lit 2) bool = vector_is (body_has d) in absurd (cc)

pub two_from_one : TwoFromOne
two_from_one = record { sound = bare_sound; call = call_typed; can = can_unroll; is = is_twice; has = twice_typed; not_itself = not_itself }
