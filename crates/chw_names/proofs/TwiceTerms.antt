-- The lists of a term as lists of nodes, gone through item by item.
use Rattle.std.proofs.Common.{◌≡◌, ℕ, ◌≤◌, List, [], ◌∷◌, ◌++◌, length, take, Option, refl, sym, ap, ◌∙◌, subst}
use Rattle.std.specs.List.{flat_map}
use Rattle.chw_grammar.specs.declared.term_tree.Alternative.{Alternative}
use Rattle.chw_grammar.specs.declared.term_tree.Argument.{Argument}
use Rattle.chw_grammar.specs.declared.term_tree.Argument.TheVariants.{OfTerm, OfType}
use Rattle.chw_grammar.specs.declared.term_tree.Binding.{Binding}
use Rattle.chw_grammar.specs.declared.word.Word.{Word}
use Rattle.chw_grammar.specs.TermTree.{Tm, term_letrec, term_case, term_apply}
use Rattle.chw_grammar.specs.TermView.{terms_of, bindings_of, alternatives_of, arguments_of}
use Rattle.chw_names.specs.Twices.{binding_words, binding_name, pattern_words, each_alternative, second_alternatives, term_twices, terms_twices, bindings_twices, alternatives_twices, arguments_twices}
use Rattle.chw_names.specs.Words.{seconds, Meets}
use Rattle.chw_names.proofs.Steps.{meets_then, meets_all}

abbrev pub binding_twices : Binding → List Word
binding_twices b = term_twices b.term

abbrev pub alternative_twices : Alternative → List Word
alternative_twices a = seconds [] (pattern_words a.pattern) ++ term_twices a.term

abbrev pub argument_twices : Argument → List Word
argument_twices (OfTerm e) = term_twices e
argument_twices (OfType t) = []

pub binding_words_are : (bs : List Binding) → binding_words (bindings_of bs) ≡ flat_map binding_name bs
binding_words_are [] = refl
binding_words_are (b ∷ bs) = ap (λ ws. b.name ∷ ws) (binding_words_are bs)

alternatives_are : (alts : List Alternative) → each_alternative (alternatives_of alts) ≡ alts
alternatives_are [] = refl
alternatives_are (a ∷ more) = ap (λ rest. a ∷ rest) (alternatives_are more)

terms_each : (es : List Tm) → terms_twices (terms_of es) ≡ flat_map term_twices es
terms_each [] = refl
terms_each (e ∷ es) = ap (λ ws. term_twices e ++ ws) (terms_each es)

bindings_each : (bs : List Binding) → bindings_twices (bindings_of bs) ≡ flat_map binding_twices bs
bindings_each [] = refl
bindings_each (b ∷ bs) = ap (λ ws. term_twices b.term ++ ws) (bindings_each bs)

alternatives_each : (alts : List Alternative) → alternatives_twices (alternatives_of alts) ≡ flat_map alternative_twices alts
alternatives_each [] = refl
alternatives_each (a ∷ more) = ap (λ ws. alternative_twices a ++ ws) (alternatives_each more)

arguments_each : (args : List Argument) → arguments_twices (arguments_of args) ≡ flat_map argument_twices args
arguments_each [] = refl
arguments_each (OfTerm e ∷ more) = ap (λ ws. term_twices e ++ ws) (arguments_each more)
arguments_each (OfType t ∷ more) = arguments_each more

-- what is met in a list, by what is met in its items
pub bindings_meet : (bs : List Binding) (i : ℕ) {met last : Option Word} → length bs ≤ i → Meets met last (flat_map binding_twices (take i bs)) → Meets met last (bindings_twices (bindings_of bs))
bindings_meet bs i {met = met} {last = last} le each = subst (Meets met last) (sym (bindings_each bs)) (meets_all binding_twices bs i le each)

pub alternatives_meet : (alts : List Alternative) (i : ℕ) {met last : Option Word} → length alts ≤ i → Meets met last (flat_map alternative_twices (take i alts)) → Meets met last (alternatives_twices (alternatives_of alts))
alternatives_meet alts i {met = met} {last = last} le each = subst (Meets met last) (sym (alternatives_each alts)) (meets_all alternative_twices alts i le each)

pub arguments_meet : (args : List Argument) (i : ℕ) {met last : Option Word} → length args ≤ i → Meets met last (flat_map argument_twices (take i args)) → Meets met last (arguments_twices (arguments_of args))
arguments_meet args i {met = met} {last = last} le each = subst (Meets met last) (sym (arguments_each args)) (meets_all argument_twices args i le each)

pub terms_meet : (es : List Tm) (i : ℕ) {met last : Option Word} → length es ≤ i → Meets met last (flat_map term_twices (take i es)) → Meets met last (terms_twices (terms_of es))
terms_meet es i {met = met} {last = last} le each = subst (Meets met last) (sym (terms_each es)) (meets_all term_twices es i le each)

-- what is met in a term, by what is met in its parts
pub letrec_meets : (bs : List Binding) (e : Tm) {whole : Tm} {met m1 m2 last : Option Word} → term_letrec (bindings_of bs) e ≡ whole → Meets met m1 (seconds [] (flat_map binding_name bs))
    → Meets m1 m2 (bindings_twices (bindings_of bs)) → Meets m2 last (term_twices e) → Meets met last (term_twices whole)
letrec_meets bs e {met = met} {last = last} is names bound body =
    let each = bindings_twices (bindings_of bs) in
    let all = meets_then (seconds [] (flat_map binding_name bs) ++ each) (term_twices e) (meets_then (seconds [] (flat_map binding_name bs)) each names bound) body in
    subst (Meets met last) (ap (λ ws. seconds [] ws ++ each ++ term_twices e) (sym (binding_words_are bs)) ∙ ap term_twices is) all

pub case_meets : (e : Tm) (alts : List Alternative) {whole : Tm} {met m1 m2 last : Option Word} → term_case e (alternatives_of alts) ≡ whole → Meets met m1 (second_alternatives alts)
    → Meets m1 m2 (term_twices e) → Meets m2 last (alternatives_twices (alternatives_of alts)) → Meets met last (term_twices whole)
case_meets e alts {met = met} {last = last} is places scrutinee each =
    let all = meets_then (second_alternatives alts ++ term_twices e) (alternatives_twices (alternatives_of alts)) (meets_then (second_alternatives alts) (term_twices e) places scrutinee) each in
    subst (Meets met last) (ap (λ q. second_alternatives q ++ term_twices e ++ alternatives_twices (alternatives_of alts)) (sym (alternatives_are alts)) ∙ ap term_twices is) all

pub apply_meets : (e : Tm) (args : List Argument) {whole : Tm} {met m1 last : Option Word} → term_apply e (arguments_of args) ≡ whole → Meets met m1 (term_twices e)
    → Meets m1 last (arguments_twices (arguments_of args)) → Meets met last (term_twices whole)
apply_meets e args {met = met} {last = last} is head each = subst (Meets met last) (ap term_twices is) (meets_then (term_twices e) (arguments_twices (arguments_of args)) head each)
