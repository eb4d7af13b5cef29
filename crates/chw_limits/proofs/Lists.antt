-- The lists of a tree as lists of nodes, gone through one by one.
use Rattle.std.proofs.Common.{◌≡◌, ℕ, ◌+◌, ◌<◌, ◌≤◌, Bool, true, false, ◌||◌, List, [], ◌∷◌, length, get_or, take, refl, sym, ap, ◌∙◌, arith}
use Rattle.std.specs.List.{list_any}
use Rattle.std.proofs.lemmas.List.{take_all}
use Rattle.std.proofs.lemmas.List.Folds.{list_any_more, list_any_at}
use Rattle.chw_grammar.specs.declared.term_tree.Alternative.{Alternative}
use Rattle.chw_grammar.specs.declared.term_tree.Argument.{Argument}
use Rattle.chw_grammar.specs.declared.term_tree.Argument.TheVariants.{OfTerm, OfType}
use Rattle.chw_grammar.specs.declared.term_tree.Binding.{Binding}
use Rattle.chw_grammar.specs.TypeTree.{Ty}
use Rattle.chw_grammar.specs.TypeView.{types_of}
use Rattle.chw_grammar.specs.TermTree.{Tm, term_letrec, term_case, term_apply, term_vec}
use Rattle.chw_grammar.specs.TermView.{terms_of, bindings_of, alternatives_of, arguments_of}
use Rattle.chw_limits.specs.Parts.{Tests, type_has, types_have, pattern_has, term_has, terms_count, terms_have, bindings_have, alternatives_have, arguments_have}

abbrev pub binding_has : Tests → Binding → Bool
binding_has tests b = type_has tests b.ty || term_has tests b.term

abbrev pub alternative_has : Tests → Alternative → Bool
alternative_has tests a = pattern_has tests a.pattern || term_has tests a.term

abbrev pub argument_has : Tests → Argument → Bool
argument_has tests (OfTerm e) = term_has tests e
argument_has tests (OfType t) = type_has tests t

pub types_any : (tests : Tests) (ts : List Ty) → types_have tests (types_of ts) ≡ list_any (type_has tests) ts
types_any tests [] = refl
types_any tests (t ∷ ts) = ap (λ b. type_has tests t || b) (types_any tests ts)

pub terms_any : (tests : Tests) (es : List Tm) → terms_have tests (terms_of es) ≡ list_any (term_has tests) es
terms_any tests [] = refl
terms_any tests (e ∷ es) = ap (λ b. term_has tests e || b) (terms_any tests es)

pub terms_count_is : (es : List Tm) → terms_count (terms_of es) ≡ length es
terms_count_is [] = refl
terms_count_is (e ∷ es) = let rest = terms_count_is es in omega arith

pub bindings_any : (tests : Tests) (bs : List Binding) → bindings_have tests (bindings_of bs) ≡ list_any (binding_has tests) bs
bindings_any tests [] = refl
bindings_any tests (b ∷ bs) = ap (λ rest. binding_has tests b || rest) (bindings_any tests bs)

pub alternatives_any : (tests : Tests) (alts : List Alternative) → alternatives_have tests (alternatives_of alts) ≡ list_any (alternative_has tests) alts
alternatives_any tests [] = refl
alternatives_any tests (a ∷ more) = ap (λ rest. alternative_has tests a || rest) (alternatives_any tests more)

pub arguments_any : (tests : Tests) (args : List Argument) → arguments_have tests (arguments_of args) ≡ list_any (argument_has tests) args
arguments_any tests [] = refl
arguments_any tests (OfTerm e ∷ more) = ap (λ rest. term_has tests e || rest) (arguments_any tests more)
arguments_any tests (OfType t ∷ more) = ap (λ rest. type_has tests t || rest) (arguments_any tests more)

-- one more that doesn't pass
pub none_more : {X : Type 0} (test : X → Bool) (xs : List X) (i : ℕ) (d : X) → i < length xs → list_any test (take i xs) ≡ false
    → test (get_or xs i d) ≡ false → list_any test (take (i + 1) xs) ≡ false
none_more test xs i d lt before is = list_any_more test xs i d lt ∙ ap (λ b. b || test (get_or xs i d)) before ∙ is

-- all were gone through, and none passes
pub none_of_all : {X : Type 0} (test : X → Bool) (xs : List X) (i : ℕ) → length xs ≤ i → list_any test (take i xs) ≡ false → list_any test xs ≡ false
none_of_all test xs i le none = ap (list_any test) (sym (take_all i xs le)) ∙ none

-- one that passes was met
pub found : {X : Type 0} (test : X → Bool) (xs : List X) (i : ℕ) (x : X) → i < length xs → x ≡ get_or xs i x → test x ≡ true → list_any test xs ≡ true
found test xs i x lt is passes = list_any_at test xs i x lt (ap test (sym is) ∙ passes)

-- what a term has, by what its parts have
pub letrec_is : (tests : Tests) (bs : List Binding) (e : Tm) {whole : Tm} (found : Bool) → term_letrec (bindings_of bs) e ≡ whole
    → list_any (binding_has tests) bs ≡ found → (found || term_has tests e) ≡ term_has tests whole
letrec_is tests bs e found is any = ap (λ b. b || term_has tests e) (sym any ∙ sym (bindings_any tests bs)) ∙ ap (term_has tests) is

pub case_is : (tests : Tests) (e : Tm) (alts : List Alternative) {whole : Tm} (found : Bool) → term_case e (alternatives_of alts) ≡ whole
    → term_has tests e ≡ false → list_any (alternative_has tests) alts ≡ found → found ≡ term_has tests whole
case_is tests e alts found is before any =
    sym any ∙ sym (alternatives_any tests alts) ∙ ap (λ b. b || alternatives_have tests (alternatives_of alts)) (sym before) ∙ ap (term_has tests) is

pub apply_is : (tests : Tests) (e : Tm) (args : List Argument) {whole : Tm} (found : Bool) → term_apply e (arguments_of args) ≡ whole
    → term_has tests e ≡ false → list_any (argument_has tests) args ≡ found → found ≡ term_has tests whole
apply_is tests e args found is before any =
    sym any ∙ sym (arguments_any tests args) ∙ ap (λ b. b || arguments_have tests (arguments_of args)) (sym before) ∙ ap (term_has tests) is

pub vec_early : (tests : Tests) (t : Ty) (es : List Tm) {whole : Tm} → term_vec t (terms_of es) ≡ whole
    → (tests.vector (length es) || type_has tests t) ≡ true → true ≡ term_has tests whole
vec_early tests t es is before =
    ap (λ b. b || terms_have tests (terms_of es)) (sym before ∙ ap (λ n. tests.vector n || type_has tests t) (sym (terms_count_is es))) ∙ ap (term_has tests) is

pub vec_is : (tests : Tests) (t : Ty) (es : List Tm) {whole : Tm} (found : Bool) → term_vec t (terms_of es) ≡ whole
    → (tests.vector (length es) || type_has tests t) ≡ false → list_any (term_has tests) es ≡ found → found ≡ term_has tests whole
vec_is tests t es found is before any =
    sym any ∙ sym (terms_any tests es)
    ∙ ap (λ b. b || terms_have tests (terms_of es)) (sym before ∙ ap (λ n. tests.vector n || type_has tests t) (sym (terms_count_is es))) ∙ ap (term_has tests) is
