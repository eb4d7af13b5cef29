-- Terms with their types, which name no definition but the first, and of which all cases are complete.
use Rattle.std.specs.Prelude.{◌≡◌, ℕ, ◌+◌, Bool, true, List, [], ◌∷◌, length, Some, slice_get, refl}
use Rattle.std.proofs.Common.{arith, inl, inr, subst, sym}
use Rattle.std.proofs.lemmas.Bool.{false≢true, or_cases}
use Rattle.std.proofs.lemmas.Bool.Decides.{Decides-eqb}
use Rattle.chw_prims.specs.declared.prim.Primitive.{Primitive}
use Rattle.chw_prims.specs.declared.prim.Primitive.TheVariants.{AddU, Ap, Fmap, MulU, Pure, Register, UnsafeSynchronizer, VFoldlC}
use Rattle.chw_prims.specs.Schemas.{schema_type}
use Rattle.chw_terms.specs.References.{any_names_def, names_def}
use Rattle.chw_terms.specs.TermTree.{TermTree, var, global, lam, app, ty_app, prim, lit, vec_lit, Terms, no_terms, term_and}
use Rattle.chw_types.specs.declared.kind.Kind.{Kind}
use Rattle.chw_types.specs.declared.kind.Kind.TheVariants.{Nat, Dom, Val, Cir}
use Rattle.chw_types.specs.declared.kind.Scalar.TheVariants.{U}
use Rattle.chw_types.specs.BuiltIn.{built_in}
use Rattle.chw_types.specs.KindFound.{kind_found}
use Rattle.chw_types.specs.Kinds.{kind_nat}
use Rattle.chw_types.specs.SameTypes.{SameTypes}
use Rattle.chw_types.specs.TypeMoves.{put, put_at, rename, sub, up, up_by}
use Rattle.chw_types.specs.TypeTree.{TypeTree, nat_lit, domain, scalar, vector, fun, signal, for_all}
use Rattle.chw_types.proofs.KindsFound.{found_is_kind}
use Rattle.chw_types.proofs.SameLaws.{same_self}
use Rattle.chw_typing.specs.Programs.{AllAreComplete, IsComplete}
use Rattle.chw_typing.specs.Scopes.{HasKind, Setting}
use Rattle.chw_typing.specs.Typing.{AllHave, HasType, count, h_app, h_global, h_lam, h_lit, h_prim, h_ty_app, h_var, h_vec, have_and, none_have}
use Rattle.make_laws.specs.MakePorts.{word_type}

-- signals of words in the domain of this number
abbrev pub samples : ℕ → TypeTree
samples d = signal (domain d) word_type

-- the types of `plus` and `main`
abbrev pub adder_type : TypeTree
adder_type = fun (samples 0) (fun (samples 0) (samples 0))

abbrev pub filter_type : TypeTree
filter_type = fun (samples 0) (samples 1)

abbrev pub setting : Setting
setting = record { datas = built_in; domains = 2; defs = adder_type ∷ filter_type ∷ []; made = [] }

pub record IsGood (vars : List TypeTree) (e : TermTree) (t : TypeTree) : Type 0 where
  pub typed : HasType setting [] vars e t
  pub complete : IsComplete built_in e
  pub names : (d : ℕ) → names_def e d ≡ true → d ≡ 0

-- kinds

pub word_kind : HasKind setting [] word_type Val
unfolding kind_found
word_kind = found_is_kind built_in 2 [] word_type Val refl

pub a_kind : HasKind setting [] (domain 0) Dom
unfolding kind_found
a_kind = found_is_kind built_in 2 [] (domain 0) Dom refl

pub b_kind : HasKind setting [] (domain 1) Dom
unfolding kind_found
b_kind = found_is_kind built_in 2 [] (domain 1) Dom refl

pub samples_a : HasKind setting [] (samples 0) Cir
unfolding kind_found
samples_a = found_is_kind built_in 2 [] (samples 0) Cir refl

pub samples_b : HasKind setting [] (samples 1) Cir
unfolding kind_found
samples_b = found_is_kind built_in 2 [] (samples 1) Cir refl

pub word_function : HasKind setting [] (fun word_type word_type) Val
unfolding kind_found
word_function = found_is_kind built_in 2 [] (fun word_type word_type) Val refl

pub sample_function : HasKind setting [] (fun (samples 0) (samples 0)) Cir
unfolding kind_found
sample_function = found_is_kind built_in 2 [] (fun (samples 0) (samples 0)) Cir refl

pub adder_kind : HasKind setting [] adder_type Cir
unfolding kind_found
adder_kind = found_is_kind built_in 2 [] adder_type Cir refl

pub filter_kind : HasKind setting [] filter_type Cir
unfolding kind_found
filter_kind = found_is_kind built_in 2 [] filter_type Cir refl

-- forms of terms

pub good_var : {vars : List TypeTree} {x : ℕ} {t : TypeTree} → slice_get vars x ≡ Some t → IsGood vars (var x) t
good_var at = record { typed = h_var at; complete = tt; names = λ d e. absurd (false≢true e) }

pub good_prim : {vars : List TypeTree} {e : TermTree} {p : Primitive} → e ≡ prim p → IsGood vars e (schema_type p)
good_prim {vars} {e} {p} is =
    subst (λ (x : TermTree). IsGood vars x (schema_type p)) (sym is)
    (record { typed = h_prim; complete = tt; names = λ d e. absurd (false≢true e) })

pub good_adder : {vars : List TypeTree} {e : TermTree} → e ≡ global 0 → IsGood vars e adder_type
good_adder {vars} {e} is =
    subst (λ (x : TermTree). IsGood vars x adder_type) (sym is)
    (record { typed = h_global refl; complete = tt; names = λ d e. sym ((Decides-eqb 0 d).0 e) })

pub good_lit : {vars : List TypeTree} {e : TermTree} (bits : List Bool) → e ≡ lit U bits → length bits ≡ 16 → IsGood vars e word_type
good_lit {vars} {e} bits is long =
    let typed : HasType setting [] vars (lit U bits) word_type =
    subst (λ (n : ℕ). HasType setting [] vars (lit U bits) (scalar U (nat_lit n))) long (h_lit (omega (arith, long))) in
    subst (λ (x : TermTree). IsGood vars x word_type) (sym is)
    (record { typed = typed; complete = tt; names = λ d e. absurd (false≢true e) })

pub good_lam : {vars : List TypeTree} {e : TermTree} {a b : TypeTree} {k : Kind} → IsGood (a ∷ vars) e b → HasKind setting [] (fun a b) k → IsGood vars (lam a e) (fun a b)
good_lam {k = k} body has = record { typed = h_lam {k = k} body.typed has; complete = body.complete; names = body.names }

pub good_app : {vars : List TypeTree} {f e : TermTree} {a b c : TypeTree} → IsGood vars f (fun a b) → IsGood vars e c → SameTypes a c → IsGood vars (app f e) b
good_app {f = f} {e = e} of to same = record {
  typed = h_app of.typed to.typed same;
  complete = (of.complete, to.complete);
  names = λ d named. elim (or_cases (names_def f d) (names_def e d) named) [ inl one ↦ of.names d one | inr other ↦ to.names d other ];
}

pub good_ty_app : {vars : List TypeTree} {f : TermTree} {j k : Kind} {t a u : TypeTree} → IsGood vars f (for_all j t) → HasKind setting [] a j
    → SameTypes (put t 0 a) u → HasKind setting [] u k → IsGood vars (ty_app f a) u
good_ty_app {j = j} {k = k} of kind same has =
    record { typed = h_ty_app {j = j} {k = k} of.typed kind same has; complete = of.complete; names = of.names }

-- elements of a vector of signals
pub record AreGood (vars : List TypeTree) (es : Terms) (n : ℕ) : Type 0 where
  pub typed : AllHave setting [] vars (samples 0) es
  pub complete : AllAreComplete built_in es
  pub names : (d : ℕ) → any_names_def es d ≡ true → d ≡ 0
  pub counted : count es ≡ n

pub good_none : {vars : List TypeTree} → AreGood vars no_terms 0
good_none = record { typed = none_have; complete = tt; names = λ d e. absurd (false≢true e); counted = refl }

pub good_and : {vars : List TypeTree} {e : TermTree} {es : Terms} {n m : ℕ} → IsGood vars e (samples 0) → AreGood vars es n → n + 1 ≡ m → AreGood vars (term_and e es) m
good_and {e = e} {es = es} one more next = record {
  typed = have_and one.typed (same_self (samples 0)) more.typed;
  complete = (one.complete, more.complete);
  names = λ d named. elim (or_cases (names_def e d) (any_names_def es d) named) [ inl first ↦ one.names d first | inr later ↦ more.names d later ];
  counted = omega (arith, more.counted, next);
}

pub good_vec : {vars : List TypeTree} {es : Terms} {n : ℕ} → AreGood vars es n → IsGood vars (vec_lit (samples 0) es) (vector (nat_lit (count es)) (samples 0))
good_vec {vars} {es} all = record {
  typed = h_vec (record { kind = Cir; has = samples_a; of_terms = tt }) all.typed;
  complete = all.complete;
  names = all.names;
}

-- primitives at their types

pub register_a : {vars : List TypeTree} {e : TermTree} → e ≡ prim Register → IsGood vars (ty_app (ty_app e (domain 0)) word_type) (fun word_type (fun (samples 0) (samples 0)))
unfolding kind_found sub put_at up_by up rename
register_a is =
    good_ty_app {j = Val} {k = Cir} (good_ty_app {j = Dom} {k = Cir} (good_prim is) a_kind (same_self _) (found_is_kind built_in 2 [] _ Cir refl))
    word_kind (same_self _) (found_is_kind built_in 2 [] _ Cir refl)

pub register_b : {vars : List TypeTree} {e : TermTree} → e ≡ prim Register → IsGood vars (ty_app (ty_app e (domain 1)) word_type) (fun word_type (fun (samples 1) (samples 1)))
unfolding kind_found sub put_at up_by up rename
register_b is =
    good_ty_app {j = Val} {k = Cir} (good_ty_app {j = Dom} {k = Cir} (good_prim is) b_kind (same_self _) (found_is_kind built_in 2 [] _ Cir refl))
    word_kind (same_self _) (found_is_kind built_in 2 [] _ Cir refl)

pub pure_a : {vars : List TypeTree} {e : TermTree} → e ≡ prim Pure → IsGood vars (ty_app (ty_app e (domain 0)) word_type) (fun word_type (samples 0))
unfolding kind_found sub put_at up_by up rename
pure_a is =
    good_ty_app {j = Val} {k = Cir} (good_ty_app {j = Dom} {k = Cir} (good_prim is) a_kind (same_self _) (found_is_kind built_in 2 [] _ Cir refl))
    word_kind (same_self _) (found_is_kind built_in 2 [] _ Cir refl)

pub fmap_words : {vars : List TypeTree} {e : TermTree} → e ≡ prim Fmap
    → IsGood vars (ty_app (ty_app (ty_app e (domain 0)) word_type) word_type) (fun (fun word_type word_type) (fun (samples 0) (samples 0)))
unfolding kind_found sub put_at up_by up rename
fmap_words is =
    good_ty_app {j = Val} {k = Cir} (good_ty_app {j = Val} {k = Cir} (good_ty_app {j = Dom} {k = Cir} (good_prim is)
    a_kind (same_self _) (found_is_kind built_in 2 [] _ Cir refl)) word_kind (same_self _) (found_is_kind built_in 2 [] _ Cir refl))
    word_kind (same_self _) (found_is_kind built_in 2 [] _ Cir refl)

pub fmap_functions : {vars : List TypeTree} {e : TermTree} → e ≡ prim Fmap
    → IsGood vars (ty_app (ty_app (ty_app e (domain 0)) word_type) (fun word_type word_type))
    (fun (fun word_type (fun word_type word_type)) (fun (samples 0) (signal (domain 0) (fun word_type word_type))))
unfolding kind_found sub put_at up_by up rename
fmap_functions is =
    good_ty_app {j = Val} {k = Cir} (good_ty_app {j = Val} {k = Cir} (good_ty_app {j = Dom} {k = Cir} (good_prim is)
    a_kind (same_self _) (found_is_kind built_in 2 [] _ Cir refl)) word_kind (same_self _) (found_is_kind built_in 2 [] _ Cir refl))
    word_function (same_self _) (found_is_kind built_in 2 [] _ Cir refl)

pub ap_words : {vars : List TypeTree} {e : TermTree} → e ≡ prim Ap
    → IsGood vars (ty_app (ty_app (ty_app e (domain 0)) word_type) word_type) (fun (signal (domain 0) (fun word_type word_type)) (fun (samples 0) (samples 0)))
unfolding kind_found sub put_at up_by up rename
ap_words is =
    good_ty_app {j = Val} {k = Cir} (good_ty_app {j = Val} {k = Cir} (good_ty_app {j = Dom} {k = Cir} (good_prim is)
    a_kind (same_self _) (found_is_kind built_in 2 [] _ Cir refl)) word_kind (same_self _) (found_is_kind built_in 2 [] _ Cir refl))
    word_kind (same_self _) (found_is_kind built_in 2 [] _ Cir refl)

pub cross_words : {vars : List TypeTree} {e : TermTree} → e ≡ prim UnsafeSynchronizer
    → IsGood vars (ty_app (ty_app (ty_app e (domain 0)) (domain 1)) word_type) (fun (samples 0) (samples 1))
unfolding kind_found sub put_at up_by up rename
cross_words is =
    good_ty_app {j = Val} {k = Cir} (good_ty_app {j = Dom} {k = Cir} (good_ty_app {j = Dom} {k = Cir} (good_prim is)
    a_kind (same_self _) (found_is_kind built_in 2 [] _ Cir refl)) b_kind (same_self _) (found_is_kind built_in 2 [] _ Cir refl))
    word_kind (same_self _) (found_is_kind built_in 2 [] _ Cir refl)

pub add_words : {vars : List TypeTree} {e : TermTree} → e ≡ prim AddU → IsGood vars (ty_app e (nat_lit 16)) (fun word_type (fun word_type word_type))
unfolding kind_found sub put_at up_by up rename
add_words is = good_ty_app {j = Nat} {k = Val} (good_prim is) kind_nat (same_self _) (found_is_kind built_in 2 [] _ Val refl)

pub mul_words : {vars : List TypeTree} {e : TermTree} → e ≡ prim MulU → IsGood vars (ty_app e (nat_lit 16)) (fun word_type (fun word_type word_type))
unfolding kind_found sub put_at up_by up rename
mul_words is = good_ty_app {j = Nat} {k = Val} (good_prim is) kind_nat (same_self _) (found_is_kind built_in 2 [] _ Val refl)

pub fold_samples : {vars : List TypeTree} {e : TermTree} (n : ℕ) → e ≡ prim VFoldlC
    → IsGood vars (ty_app (ty_app (ty_app e (nat_lit n)) (samples 0)) (samples 0)) (fun adder_type (fun (samples 0) (fun (vector (nat_lit n) (samples 0)) (samples 0))))
unfolding kind_found sub put_at up_by up rename
fold_samples n is =
    good_ty_app {j = Cir} {k = Cir} (good_ty_app {j = Cir} {k = Cir} (good_ty_app {j = Nat} {k = Cir} (good_prim is)
    kind_nat (same_self _) (found_is_kind built_in 2 [] _ Cir refl)) samples_a (same_self _) (found_is_kind built_in 2 [] _ Cir refl))
    samples_a (same_self _) (found_is_kind built_in 2 [] _ Cir refl)
