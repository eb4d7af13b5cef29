-- What types come to where arguments of known outcomes are put in.
use Rattle.std.proofs.Common.{◌≡◌, ℕ, suc, zero, ◌+◌, ◌*◌, refl, sym, ap, subst, ◌∙◌, List, [], ◌∷◌, ◌++◌, length, map}
use Rattle.std.specs.Prelude.{reverse, Some}
use Rattle.std.specs.List.{slice_get, slice_index_or}
use Rattle.std.proofs.lemmas.List.{reverse-append}
use Rattle.chw_types.specs.declared.kind.Kind.{Kind}
use Rattle.chw_types.specs.declared.kind.Scalar.{Scalar}
use Rattle.chw_types.specs.declared.declarations.Data.{Data}
use Rattle.chw_types.specs.TypeTree.{TypeTree, ty_var, nat_lit, nat_sum, nat_product, domain, scalar, vector, data_of, fun, signal, for_all, TypeTrees, no_types, type_and}
use Rattle.chw_types.specs.TypeView.{trees_of, tree_of}
use Rattle.chw_types.specs.declared.ty.TyNode.{TyNode}
use Rattle.chw_types.specs.declared.ty.TyNode.TheVariants.{Var, NatLit, Sum, Times, DomOf, Unsigned, Signed, BitVector, Vec as VecNode, DataOf, Fun, Signal, Forall}
use Rattle.chw_types.specs.TypeMoves.{Substitution, rename, up, sub, sub_all}
use Rattle.chw_types.specs.Arguments.{list_of, given, arguments}
use Rattle.chw_types.specs.Polynomials.{ended}
use Rattle.chw_types.specs.SamePromises.{natural_value}
use Rattle.chw_layout.specs.declared.outcome.Outcome.{Outcome}
use Rattle.chw_layout.specs.declared.outcome.Outcome.TheVariants.{Number, Fits, TooWide}
use Rattle.chw_layout.specs.declared.outcome.NoLayout.{NoLayout}
use Rattle.chw_layout.specs.Measured.{Measure, fits, too_wide, closed_value, tag_width, scalar_measure, vector_measure, tagged_measure, Measured}
use Rattle.chw_layout.specs.Outcomes.{laid, number_of, outcome_at, number_at, after, Comes, Known, ComesUnder, ConsCome, AllCome, IsOutcomeOf, HasNoCons}
use Rattle.chw_layout.proofs.Measures.{scalar_measured, vector_measured, known_measured, data_measured}

-- the value of a natural after putting is the value before, where each variable has the value of what is put for it
pub value_sub : (t : TypeTree) (σ : Substitution) (ρ : ℕ → ℕ) → ((x : ℕ) → closed_value (σ x) ≡ ρ x) → closed_value (sub t σ) ≡ natural_value ρ t
unfolding natural_value sub
value_sub (ty_var x) σ ρ h = h x
value_sub (nat_lit n) σ ρ h = refl
value_sub (nat_sum a b) σ ρ h = λ i. ended (value_sub a σ ρ h i + value_sub b σ ρ h i)
value_sub (nat_product a b) σ ρ h = λ i. ended (value_sub a σ ρ h i * value_sub b σ ρ h i)
value_sub (domain d) σ ρ h = refl
value_sub (scalar s w) σ ρ h = refl
value_sub (vector n t) σ ρ h = refl
value_sub (data_of d ts) σ ρ h = refl
value_sub (fun a b) σ ρ h = refl
value_sub (signal d t) σ ρ h = refl
value_sub (for_all k t) σ ρ h = refl

laid_number : (m : Measure) → number_of (laid m) ≡ 0
laid_number (fits w) = refl
laid_number (too_wide e) = refl

after_number : (f : Measure → Measure) (o : Outcome) → number_of (after f o) ≡ 0
after_number f (Number n) = refl
after_number f (Fits w) = laid_number (f (fits w))
after_number f (TooWide e) = refl

after_laid : (f : Measure → Measure) → ((e : NoLayout) → f (too_wide e) ≡ too_wide e) → (m : Measure) → after f (laid m) ≡ laid (f m)
after_laid f h (fits w) = refl
after_laid f h (too_wide e) = ap laid (sym (h e))

value_under : (datas : List Data) (env : List Outcome) (σ : Substitution) → Known datas env σ → (t : TypeTree) → closed_value (sub t σ) ≡ natural_value (number_at env) t
value_under datas env σ h t = value_sub t σ (number_at env) (λ x. (h x).as_number)

pub comes_scalar : (datas : List Data) (env : List Outcome) (s : Scalar) (w : TypeTree) (n : ℕ) (o : Outcome) → n ≡ natural_value (number_at env) w → o ≡ laid (scalar_measure n) → ComesUnder datas env (scalar s w) o
unfolding natural_value sub
comes_scalar datas env s w n o e f = λ σ h.
    record {
      as_number = sym (ap number_of f ∙ laid_number (scalar_measure n));
      as_layout = λ m d. f ∙ ap (λ k. laid (scalar_measure k)) (e ∙ sym (value_under datas env σ h w)) ∙ ap laid (sym (scalar_measured d));
    }

pub comes_vector : (datas : List Data) (env : List Outcome) (n t : TypeTree) (k : ℕ) (of o : Outcome) → k ≡ natural_value (number_at env) n → ComesUnder datas env t of → o ≡ after (vector_measure k) of → ComesUnder datas env (vector n t) o
unfolding natural_value sub
comes_vector datas env n t k of o e c f = λ σ h.
    record {
      as_number = sym (ap number_of f ∙ after_number (vector_measure k) of);
      as_layout = λ m d.
          let w = vector_measured d in
          f ∙ ap (after (vector_measure k)) ((c σ h).as_layout w.of w.measured) ∙ after_laid (vector_measure k) (λ x. refl) w.of
          ∙ ap (λ j. laid (vector_measure j w.of)) (e ∙ sym (value_under datas env σ h n)) ∙ ap laid (sym w.is);
    }

pub comes_var : (datas : List Data) (env : List Outcome) (x : ℕ) (o : Outcome) → o ≡ outcome_at env x → ComesUnder datas env (ty_var x) o
unfolding sub
comes_var datas env x o e = λ σ h. subst (Comes datas (σ x)) (sym e) (h x)

listed : (ts : List TypeTree) (σ : Substitution) → list_of (sub_all (trees_of ts) σ) ≡ map (λ t. sub t σ) ts
unfolding sub
listed [] σ = refl
listed (t ∷ ts) σ = ap (λ us. sub t σ ∷ us) (listed ts σ)

pub comes_data : (datas : List Data) (env : List Outcome) (d : ℕ) (ts : List TypeTree) (os : List Outcome) (o : Outcome) → ((σ : Substitution) → Known datas env σ → AllCome datas (map (λ t. sub t σ) ts) os) → IsOutcomeOf datas d os o → ComesUnder datas env (data_of d (trees_of ts)) o
unfolding sub
comes_data datas env d ts os o all c = λ σ h. c (sub_all (trees_of ts) σ) (subst (λ us. AllCome datas us os) (sym (listed ts σ)) (all σ h))

-- no value of these forms has bits
abbrev pub HasNoMeasure : TypeTree → Type 0
HasNoMeasure (nat_lit n) = Unit {0}
HasNoMeasure (nat_sum a b) = Unit {0}
HasNoMeasure (nat_product a b) = Unit {0}
HasNoMeasure (domain d) = Unit {0}
HasNoMeasure (fun a b) = Unit {0}
HasNoMeasure (signal d t) = Unit {0}
HasNoMeasure (for_all k t) = Unit {0}
HasNoMeasure _ = ⊥

var_not : {datas : List Data} {x : ℕ} {m : Measure} → Measured datas (ty_var x) m → ⊥
var_not d = elim d [ ]

lit_not : {datas : List Data} {n : ℕ} {m : Measure} → Measured datas (nat_lit n) m → ⊥
lit_not d = elim d [ ]

sum_not : {datas : List Data} {a b : TypeTree} {m : Measure} → Measured datas (nat_sum a b) m → ⊥
sum_not d = elim d [ ]

product_not : {datas : List Data} {a b : TypeTree} {m : Measure} → Measured datas (nat_product a b) m → ⊥
product_not d = elim d [ ]

domain_not : {datas : List Data} {x : ℕ} {m : Measure} → Measured datas (domain x) m → ⊥
domain_not d = elim d [ ]

fun_not : {datas : List Data} {a b : TypeTree} {m : Measure} → Measured datas (fun a b) m → ⊥
fun_not d = elim d [ ]

signal_not : {datas : List Data} {a b : TypeTree} {m : Measure} → Measured datas (signal a b) m → ⊥
signal_not d = elim d [ ]

for_all_not : {datas : List Data} {k : Kind} {t : TypeTree} {m : Measure} → Measured datas (for_all k t) m → ⊥
for_all_not d = elim d [ ]

not_measured : (datas : List Data) (σ : Substitution) (t : TypeTree) (m : Measure) → HasNoMeasure t → Measured datas (sub t σ) m → ⊥
unfolding sub
not_measured datas σ (nat_lit n) m h d = lit_not d
not_measured datas σ (nat_sum a b) m h d = sum_not d
not_measured datas σ (nat_product a b) m h d = product_not d
not_measured datas σ (domain x) m h d = domain_not d
not_measured datas σ (fun a b) m h d = fun_not d
not_measured datas σ (signal a b) m h d = signal_not d
not_measured datas σ (for_all k t) m h d = for_all_not d
not_measured datas σ (ty_var x) m h d = h
not_measured datas σ (scalar s w) m h d = h
not_measured datas σ (vector n t) m h d = h
not_measured datas σ (data_of x ts) m h d = h

pub comes_other : (datas : List Data) (env : List Outcome) (t : TypeTree) (n : ℕ) (o : Outcome) → HasNoMeasure t → n ≡ natural_value (number_at env) t → o ≡ Number n → ComesUnder datas env t o
comes_other datas env t n o h e f = λ σ k.
    record {
      as_number = value_under datas env σ k t ∙ sym e ∙ sym (ap number_of f);
      as_layout = λ m d. absurd (not_measured datas σ t m h d);
    }

-- one more type with its outcome
pub come_more : (datas : List Data) (ts : List TypeTree) (os : List Outcome) (t : TypeTree) (o : Outcome) → AllCome datas ts os → Comes datas t o → AllCome datas (ts ++ t ∷ []) (os ++ o ∷ [])
come_more datas [] [] t o a c = (c, tt)
come_more datas (u ∷ ts) (p ∷ os) t o a c = (a.0, come_more datas ts os t o a.1 c)
come_more datas [] (p ∷ os) t o a c = absurd a
come_more datas (u ∷ ts) [] t o a c = absurd a

come_turned : (datas : List Data) (ts : List TypeTree) (os : List Outcome) → AllCome datas ts os → AllCome datas (reverse ts) (reverse os)
come_turned datas [] [] a = tt
come_turned datas (t ∷ ts) (o ∷ os) a =
    let w = come_more datas (reverse ts) (reverse os) t o (come_turned datas ts os a.1) a.0 in
    subst (λ us. AllCome datas us (reverse (o ∷ os))) (sym (reverse-append (t ∷ []) ts))
    (subst (AllCome datas (reverse ts ++ t ∷ [])) (sym (reverse-append (o ∷ []) os)) w)
come_turned datas [] (o ∷ os) a = absurd a
come_turned datas (t ∷ ts) [] a = absurd a

pub come_as_many : (datas : List Data) (ts : List TypeTree) (os : List Outcome) → AllCome datas ts os → length ts ≡ length os
come_as_many datas [] [] a = refl
come_as_many datas (t ∷ ts) (o ∷ os) a = ap suc (come_as_many datas ts os a.1)
come_as_many datas [] (o ∷ os) a = absurd a
come_as_many datas (t ∷ ts) [] a = absurd a

-- a free variable means 0 and has no measure
pub comes_free : (datas : List Data) (x : ℕ) → Comes datas (ty_var x) (Number 0)
unfolding natural_value
comes_free datas x = record { as_number = refl; as_layout = λ m d. absurd (var_not d) }

given_comes : (datas : List Data) (ts : List TypeTree) (os : List Outcome) (x : ℕ) → AllCome datas ts os → Comes datas (given ts x) (slice_index_or os x (Number 0))
given_comes datas [] [] x a = comes_free datas x
given_comes datas (t ∷ ts) (o ∷ os) zero a = a.0
given_comes datas (t ∷ ts) (o ∷ os) (suc x) a = given_comes datas ts os x a.1
given_comes datas [] (o ∷ os) x a = absurd a
given_comes datas (t ∷ ts) [] x a = absurd a

pub arguments_known : (datas : List Data) (ts : TypeTrees) (os : List Outcome) → AllCome datas (list_of ts) os → Known datas os (arguments ts)
arguments_known datas ts os a x = given_comes datas (reverse (list_of ts)) (reverse os) x (come_turned datas (list_of ts) os a)

-- the data type has the outcome that its constructors have after the tag
pub data_comes : (datas : List Data) (d n : ℕ) (os : List Outcome) (o widest : Outcome) (k : ℕ) (it : Data) → slice_get datas d ≡ Some it → ConsCome datas os it.cons widest → k ≡ tag_width (length it.cons) → o ≡ after (tagged_measure k) widest → IsOutcomeOf datas d os o
unfolding natural_value
data_comes datas d n os o widest k it known c e f = λ ts a.
    record {
      as_number = sym (ap number_of f ∙ after_number (tagged_measure k) widest);
      as_layout = λ m h.
          let w = known_measured it known h in
          f ∙ ap (after (tagged_measure k)) (c (arguments ts) (arguments_known datas ts os a) w.of w.measured) ∙ after_laid (tagged_measure k) (λ x. refl) w.of
          ∙ ap (λ j. laid (tagged_measure j w.of)) e ∙ ap laid (sym w.is);
    }

-- there is no such data type
pub nothing_comes : (datas : List Data) (d n : ℕ) (os : List Outcome) (o : Outcome) → HasNoCons datas d n → n ≡ length os → o ≡ Number 0 → IsOutcomeOf datas d os o
unfolding natural_value
nothing_comes datas d n os o none e f = λ ts a.
    record {
      as_number = sym (ap number_of f);
      as_layout = λ m h.
          let w = data_measured h in
          absurd (none w.it w.known (e ∙ sym (come_as_many datas (list_of ts) os a) ∙ w.as_many));
    }

-- putting each variable for itself changes nothing
up_ids : (x : ℕ) → up ty_var x ≡ ty_var x
unfolding up rename
up_ids zero = refl
up_ids (suc x) = refl

mutual
  unfolding sub

  sub_ids : (t : TypeTree) → sub t ty_var ≡ t
  sub_ids (ty_var x) = refl
  sub_ids (nat_lit n) = refl
  sub_ids (nat_sum a b) = λ i. nat_sum (sub_ids a i) (sub_ids b i)
  sub_ids (nat_product a b) = λ i. nat_product (sub_ids a i) (sub_ids b i)
  sub_ids (domain d) = refl
  sub_ids (scalar s w) = ap (scalar s) (sub_ids w)
  sub_ids (vector n t) = λ i. vector (sub_ids n i) (sub_ids t i)
  sub_ids (data_of d ts) = ap (data_of d) (sub_all_ids ts)
  sub_ids (fun a b) = λ i. fun (sub_ids a i) (sub_ids b i)
  sub_ids (signal d t) = λ i. signal (sub_ids d i) (sub_ids t i)
  sub_ids (for_all k t) = ap (for_all k) ((λ i. sub t (λ x. up_ids x i)) ∙ sub_ids t)

  sub_all_ids : (ts : TypeTrees) → sub_all ts ty_var ≡ ts
  sub_all_ids no_types = refl
  sub_all_ids (type_and t ts) = λ i. type_and (sub_ids t i) (sub_all_ids ts i)

no_arguments : (x : ℕ) → outcome_at [] x ≡ Number 0
no_arguments zero = refl
no_arguments (suc x) = refl

-- a closed type
pub closed_comes : (datas : List Data) (env : List Outcome) (t : TypeTree) (o : Outcome) → env ≡ [] → ComesUnder datas env t o → Comes datas t o
closed_comes datas env t o e c =
    subst (λ u. Comes datas u o) (sub_ids t)
    (c ty_var (λ x. subst (Comes datas (ty_var x)) (sym (ap (λ os. outcome_at os x) e ∙ no_arguments x)) (comes_free datas x)))

-- the other forms of types
pub other_form : (n : TyNode) → ((x : _) → n ≡ Var x → ⊥) → ((x : _) → n ≡ Unsigned x → ⊥) → ((x : _) → n ≡ Signed x → ⊥) → ((x : _) → n ≡ BitVector x → ⊥) → ((x : _) (y : _) → n ≡ VecNode x y → ⊥) → ((x : _) (y : _) → n ≡ DataOf x y → ⊥) → HasNoMeasure (tree_of n)
other_form (Var x) a b c d e f = a x refl
other_form (Unsigned x) a b c d e f = b x refl
other_form (Signed x) a b c d e f = c x refl
other_form (BitVector x) a b c d e f = d x refl
other_form (VecNode x y) a b c d e f = e x y refl
other_form (DataOf x y) a b c d e f = f x y refl
other_form (NatLit n) a b c d e f = tt
other_form (Sum x y) a b c d e f = tt
other_form (Times x y) a b c d e f = tt
other_form (DomOf x) a b c d e f = tt
other_form (Fun x y) a b c d e f = tt
other_form (Signal x y) a b c d e f = tt
other_form (Forall k x) a b c d e f = tt
