-- Each term of a filter has its type.
use Rattle.std.specs.Prelude.{◌≡◌, ℕ, zero, suc, ◌+◌, ◌-◌, ◌<◌, ◌≤◌, ◌^◌, Bool, true, false, ◌==◌, if◌then◌else◌, List, [], ◌∷◌, ◌++◌, map, codes, decimal, Option, refl}
use Rattle.std.specs.List.{range_with_len}
use Rattle.std.specs.Option.{unwrap_or}
use Rattle.std.proofs.Common.{ap, arith, inl, inr, subst, sym, ◌∙◌}
use Rattle.std.proofs.lemmas.Bool.{false≢true, or_cases}
use Rattle.chw_base.specs.declared.limits.TheConstants.{WRITTEN_VECTOR}
use Rattle.chw_bits.specs.Bits.{bits_of}
use Rattle.chw_grammar.specs.declared.literal.Literal.{Literal}
use Rattle.chw_grammar.specs.declared.term_tree.Binding.{Binding}
use Rattle.chw_grammar.specs.Literals.{literal_of, number_of, within}
use Rattle.chw_grammar.specs.TermView.{bindings_of, terms_of}
use Rattle.chw_prims.specs.declared.prim.Primitive.TheVariants.{Fmap, Pure, Register, UnsafeSynchronizer, VFoldlC}
use Rattle.chw_resolve.specs.Literals.{bits_in, sort_of}
use Rattle.chw_resolve.specs.Terms.{definition_at, group_in, primitives, term_in, terms_in, variable_or}
use Rattle.chw_resolve.specs.Types.{place_in, type_in}
use Rattle.chw_terms.specs.References.{group_names_def, names_def}
use Rattle.chw_terms.specs.TermTree.{TermTree, prim, global, letrec, lit, Group}
use Rattle.chw_types.specs.declared.kind.Kind.TheVariants.{Val, Cir}
use Rattle.chw_types.specs.declared.kind.Scalar.TheVariants.{U}
use Rattle.chw_types.specs.BuiltIn.{built_in}
use Rattle.chw_types.specs.SameTypes.{SameTypes}
use Rattle.chw_types.specs.TypeTree.{TypeTree, nat_lit, fun, vector}
use Rattle.chw_types.proofs.SameLaws.{same_self}
use Rattle.chw_typing.specs.Programs.{GroupIsComplete}
use Rattle.chw_typing.specs.Scopes.{HasKind, declared, with_more}
use Rattle.chw_typing.specs.Typing.{AreBound, HasType, bound_and, count, h_letrec, none_bound}
use Rattle.chw_typing.proofs.Lists.{turned_onto}
use Rattle.make_laws.specs.MakePorts.{word_type}
use Rattle.make_text.specs.MakeTree.{delay, filter, first_tap, later_product, literal, main_term, name, plus_term, product, product_name, products, sum, taken_over, tap_name, times}
use Rattle.name_tables.specs.Names.{is_among}
use Rattle.make_typed.proofs.Filter.{Each, filter_has}
use Rattle.make_typed.proofs.Globals.{cross_is, defined, fmap_is, fold_is, globals, mul_defined, plus_is, pure_is, register_is}
use Rattle.make_typed.proofs.Good.{AreGood, IsGood, adder_kind, adder_type, add_words, ap_words, cross_words, filter_kind, filter_type, fmap_functions, fmap_words, fold_samples, good_adder, good_and, good_app, good_lam, good_lit, good_none, good_var, good_vec, mul_words, pure_a, register_a, register_b, sample_function, samples, samples_a, samples_b, setting, word_function}
use Rattle.make_typed.proofs.Numbers.{bits_are, literal_is, number_decimal, within_some}
use Rattle.make_typed.proofs.Scope.{input_in_scope, inside_of, last_in_scope, placed, product_in_scope, scope, sum_in_scope, tap_in_scope}

-- the type of a name in scope: `z` is a signal in domain B, and all others are signals in A
abbrev pub type_of : List ℕ → TypeTree
type_of [] = samples 0
type_of (c ∷ cs) = if c == 122 then samples 1 else samples 0

abbrev pub variables : ℕ → List TypeTree
variables taps = map type_of (scope taps)

-- names and literals

name_good : (taps : ℕ) (bytes : List ℕ) → is_among (scope taps) bytes ≡ true → IsGood (variables taps) (term_in globals [] (scope taps) (name bytes)) (type_of bytes)
name_good taps bytes known =
    let at = placed type_of (scope taps) bytes known in
    subst (λ (o : Option ℕ). IsGood (variables taps) (variable_or o (place_in globals.definitions bytes)) (type_of bytes)) (sym at.is) (good_var at.holds)

tap_good : (taps k : ℕ) → k < taps → IsGood (variables taps) (term_in globals [] (scope taps) (name (tap_name k))) (samples 0)
tap_good taps k small = name_good taps (tap_name k) (tap_in_scope taps k small)

zero_good : {vars : List TypeTree} → IsGood vars (term_in globals [] [] (literal (codes "0u16"))) word_type
zero_good = good_lit (bits_in (literal_of (codes "0u16"))) refl refl

word_good : {vars : List TypeTree} (k : ℕ) → k < 2 ^ 16 → IsGood vars (term_in globals [] [] (literal (decimal k ++ codes "u16"))) word_type
word_good k small =
    good_lit (bits_of 16 k)
    (ap (λ (l : Literal). lit (sort_of l.letter) (bits_in l)) (literal_is k (omega arith)) ∙ ap (lit U) (bits_are k small)) refl

-- the terms of the bindings

times_good : (taps k : ℕ) → k < 2 ^ 16 → IsGood (variables taps) (term_in globals [] (scope taps) (times k)) (fun word_type word_type)
times_good taps k small =
    good_lam {k = Val} (good_app (good_app (mul_words (mul_defined taps)) (good_var refl) (same_self word_type)) (word_good k small) (same_self word_type)) word_function

first_good : (taps : ℕ) → IsGood (variables taps) (term_in globals [] (scope taps) first_tap.term) (samples 0)
first_good taps = name_good taps (codes "x") (input_in_scope taps)

delay_good : (taps k : ℕ) → k + 1 < taps → IsGood (variables taps) (term_in globals [] (scope taps) (delay k).term) (samples 0)
delay_good taps k small =
    good_app (good_app (register_a (defined taps (codes "register") (prim Register) refl register_is)) zero_good (same_self word_type))
    (tap_good taps k (omega arith)) (same_self (samples 0))

product_good : (taps k : ℕ) → taps ≤ WRITTEN_VECTOR → k < taps → IsGood (variables taps) (term_in globals [] (scope taps) (product k).term) (samples 0)
product_good taps k few small =
    good_app (good_app (fmap_words (defined taps (codes "fmap") (prim Fmap) refl fmap_is)) (times_good taps (k + 1) (omega arith)) (same_self (fun word_type word_type)))
    (tap_good taps k small) (same_self (samples 0))

later_good : (taps a n : ℕ) → a + n < taps → AreGood (variables taps) (terms_in globals [] (scope taps) (terms_of (map later_product (range_with_len a n)))) n
later_good taps a zero small = good_none
later_good taps a (suc n) small =
    good_and (name_good taps (product_name (a + 1)) (product_in_scope taps (a + 1) (omega arith))) (later_good taps (a + 1) n (omega arith)) (omega arith)

products_good : (taps : ℕ) → 1 ≤ taps → AreGood (variables taps) (terms_in globals [] (scope taps) (terms_of (products taps))) taps
products_good taps some =
    good_and (name_good taps (product_name 0) (product_in_scope taps 0 (omega arith))) (later_good taps 0 (taps - 1) (omega arith)) (omega arith)

numeral_is : (n : ℕ) → n < 2 ^ 32 → unwrap_or (within 32 (number_of (decimal n))) 0 ≡ n
numeral_is n small =
    ap (λ (m : ℕ). unwrap_or (within 32 m) 0) (number_decimal n (omega arith)) ∙ ap (λ (o : Option ℕ). unwrap_or o 0) (within_some 32 n small)

sum_good : (taps : ℕ) → 1 ≤ taps → taps ≤ WRITTEN_VECTOR → IsGood (variables taps) (term_in globals [] (scope taps) (sum taps).term) (samples 0)
sum_good taps some few =
    let n : ℕ = unwrap_or (within 32 (number_of (decimal taps))) 0 in
    let all = products_good taps some in
    let long : n ≡ count (terms_in globals [] (scope taps) (terms_of (products taps))) = numeral_is taps (omega arith) ∙ sym all.counted in
    good_app (good_app (good_app (fold_samples n (defined taps (codes "vfoldlC") (prim VFoldlC) refl fold_is))
    (good_adder (defined taps (codes "plus") (global 0) refl plus_is)) (same_self adder_type))
    (good_app (pure_a (defined taps (codes "pure") (prim Pure) refl pure_is)) zero_good (same_self word_type)) (same_self (samples 0)))
    (good_vec all) (subst (λ (m : ℕ). SameTypes (vector (nat_lit n) (samples 0)) (vector (nat_lit m) (samples 0))) long (same_self (vector (nat_lit n) (samples 0))))

taken_good : (taps : ℕ) → IsGood (variables taps) (term_in globals [] (scope taps) taken_over.term) (samples 1)
taken_good taps =
    good_app (good_app (register_b (defined taps (codes "register") (prim Register) refl register_is)) zero_good (same_self word_type))
    (good_app (cross_words (defined taps (codes "unsafeSynchronizer") (prim UnsafeSynchronizer) refl cross_is))
    (name_good taps (codes "y") (sum_in_scope taps)) (same_self (samples 0))) (same_self (samples 1))

-- the whole group

abbrev BindingIsGood : ℕ → Binding → Type 0
BindingIsGood taps b =
    IsGood (variables taps) (term_in globals [] (scope taps) b.term) (type_of b.name.bytes) × (type_in globals [] b.ty ≡ type_of b.name.bytes)

bindings_good : (taps : ℕ) → 1 ≤ taps → taps ≤ WRITTEN_VECTOR → Each (BindingIsGood taps) (filter taps)
bindings_good taps some few =
    filter_has (BindingIsGood taps) taps (first_good taps, refl) (λ k small. (delay_good taps k small, refl)) (λ k small. (product_good taps k few small, refl))
    (sum_good taps some few, refl) (taken_good taps, refl)

type_kind : (bytes : List ℕ) → HasKind setting [] (type_of bytes) Cir
type_kind [] = samples_a
type_kind (c ∷ cs) = by (c == 122)
  where
    by : (b : Bool) → HasKind setting [] (if b then samples 1 else samples 0) Cir
    by true = samples_b
    by false = samples_a

record GroupIsGood (taps : ℕ) (g : Group) : Type 0 where
  bound : AreBound setting [] (variables taps) Cir g
  complete : GroupIsComplete built_in g
  names : (d : ℕ) → group_names_def g d ≡ true → d ≡ 0

group_good : (taps : ℕ) (bs : List Binding) → Each (BindingIsGood taps) bs → GroupIsGood taps (group_in globals [] (scope taps) (bindings_of bs))
group_good taps [] each = record { bound = none_bound; complete = tt; names = λ d e. absurd (false≢true e) }
group_good taps (b ∷ bs) each =
    let one = each.0.0 in
    let is : type_in globals [] b.ty ≡ type_of b.name.bytes = each.0.1 in
    let more = group_good taps bs each.1 in
    let kind : HasKind setting [] (type_in globals [] b.ty) Cir = subst (λ (t : TypeTree). HasKind setting [] t Cir) (sym is) (type_kind b.name.bytes) in
    let same : SameTypes (type_in globals [] b.ty) (type_of b.name.bytes) =
    subst (λ (t : TypeTree). SameTypes t (type_of b.name.bytes)) (sym is) (same_self (type_of b.name.bytes)) in
    record {
      bound = bound_and {j = Cir} kind tt one.typed same more.bound;
      complete = (one.complete, more.complete);
      names = λ d named.
          elim (or_cases (names_def (term_in globals [] (scope taps) b.term) d) (group_names_def (group_in globals [] (scope taps) (bindings_of bs)) d) named) [
            | inl first ↦ one.names d first
            | inr later ↦ more.names d later
          ];
    }

-- the declared types are those of the names
scope_types : (taps : ℕ) (bs : List Binding) (names : List (List ℕ)) (vars : List TypeTree) → vars ≡ map type_of names → Each (BindingIsGood taps) bs
    → with_more (declared (group_in globals [] (scope taps) (bindings_of bs))) vars ≡ map type_of (inside_of bs names)
scope_types taps [] names vars e each = e
scope_types taps (b ∷ bs) names vars e each =
    let t : TypeTree = type_in globals [] b.ty in
    turned_onto t (declared (group_in globals [] (scope taps) (bindings_of bs))) vars
    ∙ scope_types taps bs (b.name.bytes ∷ names) (t ∷ vars) (λ i. each.0.1 i ∷ e i) each.1

variables_are : (taps : ℕ) → Each (BindingIsGood taps) (filter taps)
    → with_more (declared (group_in globals [] (scope taps) (bindings_of (filter taps)))) (samples 0 ∷ []) ≡ variables taps
unfolding scope
variables_are taps each = scope_types taps (filter taps) (codes "x" ∷ []) (samples 0 ∷ []) refl each

letrec_good : (taps : ℕ) → Each (BindingIsGood taps) (filter taps)
    → IsGood (samples 0 ∷ []) (letrec (group_in globals [] (scope taps) (bindings_of (filter taps))) (term_in globals [] (scope taps) (name (codes "z")))) (samples 1)
letrec_good taps each =
    let g : Group = group_in globals [] (scope taps) (bindings_of (filter taps)) in
    let body : TermTree = term_in globals [] (scope taps) (name (codes "z")) in
    let group = group_good taps (filter taps) each in
    let last : IsGood (variables taps) body (samples 1) = name_good taps (codes "z") (last_in_scope taps) in
    let both : HasType setting [] (with_more (declared g) (samples 0 ∷ [])) body (samples 1) × AreBound setting [] (with_more (declared g) (samples 0 ∷ [])) Cir g =
    subst (λ (vs : List TypeTree). HasType setting [] vs body (samples 1) × AreBound setting [] vs Cir g) (sym (variables_are taps each)) (last.typed, group.bound) in
    record {
      typed = h_letrec {k = Cir} both.0 samples_b both.1;
      complete = (group.complete, last.complete);
      names = λ d named. elim (or_cases (group_names_def g d) (names_def body d) named) [ inl bound ↦ group.names d bound | inr in_body ↦ last.names d in_body ];
    }

pub main_good : (taps : ℕ) → 1 ≤ taps → taps ≤ WRITTEN_VECTOR → IsGood [] (term_in globals [] [] (main_term taps)) filter_type
unfolding scope
main_good taps some few = good_lam {k = Cir} (letrec_good taps (bindings_good taps some few)) filter_kind

-- `plus`

pub plus_good : IsGood [] (term_in globals [] [] plus_term) adder_type
unfolding definition_at primitives
plus_good =
    good_lam {k = Cir} (good_lam {k = Cir} (good_app (good_app (ap_words refl)
    (good_app (good_app (fmap_functions refl) (add_words refl) (same_self _)) (good_var refl) (same_self (samples 0))) (same_self _))
    (good_var refl) (same_self (samples 0))) sample_function) adder_kind

pub plus_names : (d : ℕ) → names_def (term_in globals [] [] plus_term) d ≡ false
unfolding definition_at primitives
plus_names d = refl
