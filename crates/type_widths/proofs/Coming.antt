-- What types come to where arguments of known outcomes are put in.
use Rattle.std.proofs.Common.{◌≡◌, ℕ, suc, zero, refl, sym, ap, subst, ◌∙◌, List, [], ◌∷◌, ◌++◌, length}
use Rattle.std.specs.Prelude.{reverse, Some}
use Rattle.std.specs.List.{slice_get, slice_index_or, AllZip}
use Rattle.std.proofs.lemmas.List.{reverse-append}
use Rattle.chw_types.specs.declared.kind.Kind.{Kind}
use Rattle.chw_types.specs.declared.kind.Scalar.{Scalar}
use Rattle.chw_types.specs.declared.declarations.Data.{Data}
use Rattle.chw_types.specs.TypeTree.{TypeTree, ty_var, nat_lit, nat_sum, nat_product, domain, scalar, vector, data_of, fun, signal, for_all, TypeTrees}
use Rattle.chw_types.specs.TypeView.{trees_of, tree_of}
use Rattle.chw_types.specs.declared.ty.TyNode.{TyNode}
use Rattle.chw_types.specs.declared.ty.TyNode.TheVariants.{Var, NatLit, Sum, Times, DomOf, Unsigned, Signed, BitVector, Vec as VecNode, DataOf, Fun, Signal, Forall}
use Rattle.chw_types.specs.TypeMoves.{Substitution, sub, sub_all}
use Rattle.chw_types.specs.Arguments.{list_of, given, arguments}
use Rattle.chw_types.specs.SamePromises.{natural_value}
use Rattle.chw_types.proofs.TypeLaws.{sub_ids}
use Rattle.chw_layout.specs.Measured.{Measure, closed_value, tag_width, scalar_measure, vector_measure, tagged_measure, Measured, measured_scalar, measured_vector, measured_data, MeasuredCons}
use Rattle.chw_layout.specs.Outcomes.{HasNoCons}
use Rattle.chw_layout.proofs.Coming.{HasNoMeasure, value_sub}
use Rattle.chw_layout.proofs.Measures.{vector_measured, known_measured, data_measured}
use Rattle.type_widths.specs.declared.outcome.Outcome.{Outcome}
use Rattle.type_widths.specs.declared.outcome.Outcome.TheVariants.{Number, Fits, TooWide}
use Rattle.type_widths.specs.Outcomes.{number_of, outcome_at, number_at, scalar_outcome, vector_outcome, tagged_outcome, Lays, Comes, Known, ComesUnder, ConsCome, IsOutcomeOf}
use Rattle.type_widths.proofs.Laying.{scalar_lays, scalar_number, vector_lays, vector_number, tagged_lays, tagged_number}

value_under : (datas : List Data) (env : List Outcome) (σ : Substitution) → Known datas env σ → (t : TypeTree) → closed_value (sub t σ) ≡ natural_value (number_at env) t
value_under datas env σ h t = value_sub t σ (number_at env) (λ x. (h x).as_number)

pub comes_scalar : (datas : List Data) (env : List Outcome) (s : Scalar) (w : TypeTree) (n : ℕ) (o : Outcome) → n ≡ natural_value (number_at env) w → o ≡ scalar_outcome n → ComesUnder datas env (scalar s w) o
unfolding natural_value sub
comes_scalar datas env s w n o e f = λ σ h.
    record {
      as_number = sym (ap number_of f ∙ scalar_number n);
      as_layout = subst (Lays (Measured datas (scalar s (sub w σ)))) (sym f)
          (scalar_lays (Measured datas (scalar s (sub w σ))) n
          (subst (λ k. Measured datas (scalar s (sub w σ)) (scalar_measure k)) (value_under datas env σ h w ∙ sym e) measured_scalar));
    }

pub comes_vector : (datas : List Data) (env : List Outcome) (n t : TypeTree) (k : ℕ) (of o : Outcome) → k ≡ natural_value (number_at env) n → ComesUnder datas env t of → o ≡ vector_outcome k of → ComesUnder datas env (vector n t) o
unfolding natural_value sub
comes_vector datas env n t k of o e c f = λ σ h.
    record {
      as_number = sym (ap number_of f ∙ vector_number k of);
      as_layout = subst (Lays (Measured datas (vector (sub n σ) (sub t σ)))) (sym f)
          (vector_lays (Measured datas (sub t σ)) (Measured datas (vector (sub n σ) (sub t σ))) k
          (λ m d. subst (λ j. Measured datas (vector (sub n σ) (sub t σ)) (vector_measure j m)) (value_under datas env σ h n ∙ sym e) (measured_vector d))
          (λ m d. let w = vector_measured d in (w.of, w.measured))
          of (c σ h).as_layout);
    }

pub comes_var : (datas : List Data) (env : List Outcome) (x : ℕ) (o : Outcome) → o ≡ outcome_at env x → ComesUnder datas env (ty_var x) o
unfolding sub
comes_var datas env x o e = λ σ h. subst (Comes datas (σ x)) (sym e) (h x)

-- arguments that are known come to what they come to under the variables
all_under : (datas : List Data) (env : List Outcome) (ts : List TypeTree) (os : List Outcome) (σ : Substitution) → Known datas env σ → AllZip (ComesUnder datas env) ts os → AllZip (Comes datas) (list_of (sub_all (trees_of ts) σ)) os
unfolding sub
all_under datas env [] [] σ h a = tt
all_under datas env (t ∷ ts) (o ∷ os) σ h a = (a.0 σ h, all_under datas env ts os σ h a.1)
all_under datas env [] (o ∷ os) σ h a = absurd a
all_under datas env (t ∷ ts) [] σ h a = absurd a

pub comes_data : (datas : List Data) (env : List Outcome) (d : ℕ) (ts : List TypeTree) (os : List Outcome) (o : Outcome) → AllZip (ComesUnder datas env) ts os → IsOutcomeOf datas d os o → ComesUnder datas env (data_of d (trees_of ts)) o
unfolding sub
comes_data datas env d ts os o all c = λ σ h. c (sub_all (trees_of ts) σ) (all_under datas env ts os σ h all)

var_not : {datas : List Data} {x : ℕ} {m : Measure} → Measured datas (ty_var x) m → ⊥
var_not d = elim d [ ]

lit_not : {datas : List Data} {n : ℕ} {m : Measure} → Measured datas (nat_lit n) m → ⊥
lit_not d = elim d [ ]

sum_not : {datas : List Data} {a b : TypeTree} {m : Measure} → Measured datas (nat_sum a b) m → ⊥
sum_not d = elim d [ ]

product_not : {datas : List Data} {a b : TypeTree} {m : Measure} → Measured datas (nat_product a b) m → ⊥
product_not d = elim d [ ]

domain_not : {datas : List Data} {x : ℕ} {m : Measure} → Measured datas (domain x) m → ⊥
domain_not d = elim d [ ]

fun_not : {datas : List Data} {a b : TypeTree} {m : Measure} → Measured datas (fun a b) m → ⊥
fun_not d = elim d [ ]

signal_not : {datas : List Data} {a b : TypeTree} {m : Measure} → Measured datas (signal a b) m → ⊥
signal_not d = elim d [ ]

for_all_not : {datas : List Data} {k : Kind} {t : TypeTree} {m : Measure} → Measured datas (for_all k t) m → ⊥
for_all_not d = elim d [ ]

not_measured : (datas : List Data) (σ : Substitution) (t : TypeTree) (m : Measure) → HasNoMeasure t → Measured datas (sub t σ) m → ⊥
unfolding sub
not_measured datas σ (nat_lit n) m h d = lit_not d
not_measured datas σ (nat_sum a b) m h d = sum_not d
not_measured datas σ (nat_product a b) m h d = product_not d
not_measured datas σ (domain x) m h d = domain_not d
not_measured datas σ (fun a b) m h d = fun_not d
not_measured datas σ (signal a b) m h d = signal_not d
not_measured datas σ (for_all k t) m h d = for_all_not d
not_measured datas σ (ty_var x) m h d = h
not_measured datas σ (scalar s w) m h d = h
not_measured datas σ (vector n t) m h d = h
not_measured datas σ (data_of x ts) m h d = h

pub comes_other : (datas : List Data) (env : List Outcome) (t : TypeTree) (n : ℕ) (o : Outcome) → HasNoMeasure t → n ≡ natural_value (number_at env) t → o ≡ Number n → ComesUnder datas env t o
comes_other datas env t n o h e f = λ σ k.
    record {
      as_number = value_under datas env σ k t ∙ sym e ∙ sym (ap number_of f);
      as_layout = subst (Lays (Measured datas (sub t σ))) (sym f) (λ m d. not_measured datas σ t m h d);
    }

-- one more type with its outcome
zip_last : (datas : List Data) (ts : List TypeTree) (os : List Outcome) (t : TypeTree) (o : Outcome) → AllZip (Comes datas) ts os → Comes datas t o → AllZip (Comes datas) (ts ++ t ∷ []) (os ++ o ∷ [])
zip_last datas [] [] t o a c = (c, tt)
zip_last datas (u ∷ ts) (p ∷ os) t o a c = (a.0, zip_last datas ts os t o a.1 c)
zip_last datas [] (p ∷ os) t o a c = absurd a
zip_last datas (u ∷ ts) [] t o a c = absurd a

come_turned : (datas : List Data) (ts : List TypeTree) (os : List Outcome) → AllZip (Comes datas) ts os → AllZip (Comes datas) (reverse ts) (reverse os)
come_turned datas [] [] a = tt
come_turned datas (t ∷ ts) (o ∷ os) a =
    let w = zip_last datas (reverse ts) (reverse os) t o (come_turned datas ts os a.1) a.0 in
    subst (λ us. AllZip (Comes datas) us (reverse (o ∷ os))) (sym (reverse-append (t ∷ []) ts))
    (subst (AllZip (Comes datas) (reverse ts ++ t ∷ [])) (sym (reverse-append (o ∷ []) os)) w)
come_turned datas [] (o ∷ os) a = absurd a
come_turned datas (t ∷ ts) [] a = absurd a

come_as_many : (datas : List Data) (ts : List TypeTree) (os : List Outcome) → AllZip (Comes datas) ts os → length ts ≡ length os
come_as_many datas [] [] a = refl
come_as_many datas (t ∷ ts) (o ∷ os) a = ap suc (come_as_many datas ts os a.1)
come_as_many datas [] (o ∷ os) a = absurd a
come_as_many datas (t ∷ ts) [] a = absurd a

-- a free variable means 0 and has no measure
comes_free : (datas : List Data) (x : ℕ) → Comes datas (ty_var x) (Number 0)
unfolding natural_value
comes_free datas x = record { as_number = refl; as_layout = λ m d. var_not d }

given_comes : (datas : List Data) (ts : List TypeTree) (os : List Outcome) (x : ℕ) → AllZip (Comes datas) ts os → Comes datas (given ts x) (slice_index_or os x (Number 0))
given_comes datas [] [] x a = comes_free datas x
given_comes datas (t ∷ ts) (o ∷ os) zero a = a.0
given_comes datas (t ∷ ts) (o ∷ os) (suc x) a = given_comes datas ts os x a.1
given_comes datas [] (o ∷ os) x a = absurd a
given_comes datas (t ∷ ts) [] x a = absurd a

arguments_known : (datas : List Data) (ts : TypeTrees) (os : List Outcome) → AllZip (Comes datas) (list_of ts) os → Known datas os (arguments ts)
arguments_known datas ts os a x = given_comes datas (reverse (list_of ts)) (reverse os) x (come_turned datas (list_of ts) os a)

-- the data type comes to what its constructors come to after the tag
pub data_comes : (datas : List Data) (d n : ℕ) (os : List Outcome) (o widest : Outcome) (k : ℕ) (it : Data) → slice_get datas d ≡ Some it → n ≡ length it.params → n ≡ length os
    → ConsCome datas os it.cons widest → k ≡ tag_width (length it.cons) → o ≡ tagged_outcome k widest → IsOutcomeOf datas d os o
unfolding natural_value
data_comes datas d n os o widest k it known params many c e f = λ ts a.
    record {
      as_number = sym (ap number_of f ∙ tagged_number k widest);
      as_layout = subst (Lays (Measured datas (data_of d ts))) (sym f)
          (tagged_lays (MeasuredCons datas it.cons (arguments ts)) (Measured datas (data_of d ts)) k
          (λ m p. subst (λ j. Measured datas (data_of d ts) (tagged_measure j m)) (sym e)
          (measured_data known (come_as_many datas (list_of ts) os a ∙ sym many ∙ params) p))
          (λ m p. let w = known_measured it known p in (w.of, w.measured))
          widest (c (arguments ts) (arguments_known datas ts os a)));
    }

-- there is no such data type
pub nothing_comes : (datas : List Data) (d n : ℕ) (os : List Outcome) (o : Outcome) → HasNoCons datas d n → n ≡ length os → o ≡ Number 0 → IsOutcomeOf datas d os o
unfolding natural_value
nothing_comes datas d n os o none e f = λ ts a.
    record {
      as_number = sym (ap number_of f);
      as_layout = subst (Lays (Measured datas (data_of d ts))) (sym f)
          (λ m h. let w = data_measured h in none w.it w.known (e ∙ sym (come_as_many datas (list_of ts) os a) ∙ w.as_many));
    }

no_arguments : (x : ℕ) → outcome_at [] x ≡ Number 0
no_arguments zero = refl
no_arguments (suc x) = refl

-- a closed type
pub closed_comes : (datas : List Data) (t : TypeTree) (o : Outcome) → ComesUnder datas [] t o → Comes datas t o
closed_comes datas t o c =
    subst (λ u. Comes datas u o) (sub_ids t)
    (c ty_var (λ x. subst (Comes datas (ty_var x)) (sym (no_arguments x)) (comes_free datas x)))
