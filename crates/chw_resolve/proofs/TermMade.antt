-- The parts of a term, as lists of nodes.
use Rattle.std.proofs.Common.{◌≡◌, ℕ, ◌≤◌, List, [], ◌∷◌, length, take, map, refl, sym, ap, ◌∙◌}
use Rattle.std.specs.List.{flat_map}
use Rattle.chw_grammar.specs.declared.term_tree.Alternative.{Alternative}
use Rattle.chw_grammar.specs.declared.term_tree.Argument.{Argument}
use Rattle.chw_grammar.specs.declared.term_tree.Argument.TheVariants as written
use Rattle.chw_grammar.specs.declared.term_tree.Binding.{Binding as WrittenBinding}
use Rattle.chw_grammar.specs.TermTree.{Tm, term_letrec, term_case, term_apply, term_vec}
use Rattle.chw_grammar.specs.TermView.{terms_of as written_terms, bindings_of, alternatives_of, arguments_of}
use Rattle.chw_grammar.specs.TypeTree.{Ty}
use Rattle.chw_names.specs.declared.globals.Globals.{Globals}
use Rattle.chw_names.specs.Twices.{binding_name, pattern_words}
use Rattle.chw_names.specs.Unknowns.{within}
use Rattle.chw_names.proofs.TwiceTerms.{binding_words_are}
use Rattle.chw_terms.specs.declared.term.Alt.{Alt}
use Rattle.chw_terms.specs.declared.term.Arg.{Arg}
use Rattle.chw_terms.specs.declared.term.Arg.TheVariants.{OfTerm, OfType}
use Rattle.chw_terms.specs.declared.term.Binding.{Binding}
use Rattle.chw_terms.specs.TermTree.{TermTree, letrec, vec_lit, case_of, term_and, bind, alt}
use Rattle.chw_terms.specs.TermView.{terms_of, group_of, alts_of, applied}
use Rattle.chw_types.specs.TypeTree.{TypeTree}
use Rattle.chw_resolve.specs.Terms.{pattern_in, term_in, terms_in, group_in, alternatives_in, arguments_in}
use Rattle.chw_resolve.specs.Types.{type_in}
use Rattle.chw_resolve.specs.Walks.{argument_in, binding_in, alternative_in}
use Rattle.chw_resolve.proofs.Lists.{made_all}

terms_each : (g : Globals) (types values : List (List ℕ)) (es : List Tm) → terms_in g types values (written_terms es) ≡ terms_of (map (term_in g types values) es)
terms_each g types values [] = refl
terms_each g types values (e ∷ es) = ap (term_and (term_in g types values e)) (terms_each g types values es)

group_each : (g : Globals) (types values : List (List ℕ)) (bs : List WrittenBinding) → group_in g types values (bindings_of bs) ≡ group_of (map (binding_in g types values) bs)
group_each g types values [] = refl
group_each g types values (b ∷ bs) = ap (bind (type_in g types b.ty) (term_in g types values b.term)) (group_each g types values bs)

alternatives_each : (g : Globals) (types values : List (List ℕ)) (more : List Alternative) → alternatives_in g types values (alternatives_of more) ≡ alts_of (map (alternative_in g types values) more)
alternatives_each g types values [] = refl
alternatives_each g types values (a ∷ more) =
    ap (alt (pattern_in g a.pattern) (term_in g types (within (pattern_words a.pattern) values) a.term)) (alternatives_each g types values more)

arguments_each : (g : Globals) (types values : List (List ℕ)) (args : List Argument) → arguments_in g types values (arguments_of args) ≡ map (argument_in g types values) args
arguments_each g types values [] = refl
arguments_each g types values (written.OfTerm e ∷ args) = ap (λ (more : List Arg). OfTerm (term_in g types values e) ∷ more) (arguments_each g types values args)
arguments_each g types values (written.OfType t ∷ args) = ap (λ (more : List Arg). OfType (type_in g types t) ∷ more) (arguments_each g types values args)

-- what a letrec, a case, an application and a vector become, by what their parts became
pub letrec_made : (g : Globals) (types values : List (List ℕ)) (bs : List WrittenBinding) (e : Tm) (i : ℕ) {inside : List (List ℕ)} {body : TermTree} {group : List Binding} → length bs ≤ i
    → inside ≡ within (flat_map binding_name bs) values → group ≡ map (binding_in g types inside) (take i bs) → body ≡ term_in g types inside e
    → letrec (group_of group) body ≡ term_in g types values (term_letrec (bindings_of bs) e)
letrec_made g types values bs e i {inside = inside} le opened so_far made =
    (λ j. letrec (group_of (made_all (binding_in g types inside) bs i le so_far j)) (made j))
    ∙ ap (λ gr. letrec gr (term_in g types inside e)) (sym (group_each g types inside bs))
    ∙ ap (λ names. letrec (group_in g types names (bindings_of bs)) (term_in g types names e)) (opened ∙ ap (λ ws. within ws values) (sym (binding_words_are bs)))

pub case_made : (g : Globals) (types values : List (List ℕ)) (more : List Alternative) (e : Tm) (i : ℕ) {on : TermTree} {alts : List Alt} → length more ≤ i
    → on ≡ term_in g types values e → alts ≡ map (alternative_in g types values) (take i more) → case_of on (alts_of alts) ≡ term_in g types values (term_case e (alternatives_of more))
case_made g types values more e i le made so_far =
    (λ j. case_of (made j) (alts_of (made_all (alternative_in g types values) more i le so_far j)))
    ∙ ap (case_of (term_in g types values e)) (sym (alternatives_each g types values more))

pub apply_made : (g : Globals) (types values : List (List ℕ)) (args : List Argument) (e : Tm) (i : ℕ) {head : TermTree} {done : List Arg} → length args ≤ i
    → head ≡ term_in g types values e → done ≡ map (argument_in g types values) (take i args) → applied head done ≡ term_in g types values (term_apply e (arguments_of args))
apply_made g types values args e i le made so_far =
    (λ j. applied (made j) (made_all (argument_in g types values) args i le so_far j))
    ∙ ap (applied (term_in g types values e)) (sym (arguments_each g types values args))

pub vec_made : (g : Globals) (types values : List (List ℕ)) (t : Ty) (es : List Tm) (i : ℕ) {ty : TypeTree} {done : List TermTree} → length es ≤ i
    → ty ≡ type_in g types t → done ≡ map (term_in g types values) (take i es) → vec_lit ty (terms_of done) ≡ term_in g types values (term_vec t (written_terms es))
vec_made g types values t es i le made so_far =
    (λ j. vec_lit (made j) (terms_of (made_all (term_in g types values) es i le so_far j)))
    ∙ ap (vec_lit (type_in g types t)) (sym (terms_each g types values es))
