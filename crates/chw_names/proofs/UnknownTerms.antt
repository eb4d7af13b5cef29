-- Names in terms that nothing declares, by the parts of a term.
use Rattle.std.proofs.Common.{◌≡◌, ℕ, ◌≤◌, List, [], ◌∷◌, ◌++◌, length, take, drop, Option, refl, sym, ap, ◌∙◌, subst, arith}
use Rattle.std.specs.List.{flat_map}
use Rattle.chw_grammar.specs.declared.term_tree.Alternative.{Alternative}
use Rattle.chw_grammar.specs.declared.term_tree.Argument.{Argument}
use Rattle.chw_grammar.specs.declared.term_tree.Argument.TheVariants.{OfTerm, OfType}
use Rattle.chw_grammar.specs.declared.term_tree.Binding.{Binding}
use Rattle.chw_grammar.specs.declared.type_tree.KindTree.{KindTree}
use Rattle.chw_grammar.specs.declared.word.Word.{Word}
use Rattle.chw_grammar.specs.TermTree.{Tm, term_lambda, term_type_lambda, term_letrec, term_case, term_apply, term_name, term_constructor, term_vec}
use Rattle.chw_grammar.specs.TermView.{terms_of, bindings_of, alternatives_of, arguments_of}
use Rattle.chw_grammar.specs.TypeTree.{Ty}
use Rattle.chw_names.specs.declared.globals.Globals.{Globals}
use Rattle.chw_names.specs.Twices.{binding_name, pattern_words}
use Rattle.chw_names.specs.Unknowns.{Walks, Scopes, within, unless_among, type_unknowns, name_unknowns, pattern_unknowns, term_unknowns, terms_unknowns, bindings_unknowns, alternatives_unknowns, arguments_unknowns}
use Rattle.chw_names.specs.Words.{Meets}
use Rattle.chw_names.proofs.TwiceTerms.{binding_words_are}
use Rattle.chw_names.proofs.Walking.{walks_here, walks_then, walks_all, values_inside, types_inside, in_types}

-- in a term, by both scopes
abbrev pub in_term : Globals → Tm → Scopes → List Word
in_term g e s = term_unknowns g s.0 s.1 e

-- in a type and in a term
abbrev pub in_typed : Globals → Ty → Tm → Scopes → List Word
in_typed g t e s = type_unknowns g s.0 t ++ term_unknowns g s.0 s.1 e

abbrev pub in_binding : Globals → Scopes → Binding → List Word
in_binding g s b = in_typed g b.ty b.term s

abbrev pub in_alternative : Globals → Scopes → Alternative → List Word
in_alternative g s a = pattern_unknowns g a.pattern ++ term_unknowns g s.0 (within (pattern_words a.pattern) s.1) a.term

abbrev pub in_argument : Globals → Scopes → Argument → List Word
in_argument g s (OfTerm e) = term_unknowns g s.0 s.1 e
in_argument g s (OfType t) = type_unknowns g s.0 t

abbrev pub in_element : Globals → Scopes → Tm → List Word
in_element g s e = term_unknowns g s.0 s.1 e

bindings_each : (g : Globals) (types values : List (List ℕ)) (bs : List Binding) → bindings_unknowns g types values (bindings_of bs) ≡ flat_map (in_binding g (types, values)) bs
bindings_each g types values [] = refl
bindings_each g types values (b ∷ bs) = ap (λ ws. in_binding g (types, values) b ++ ws) (bindings_each g types values bs)

alternatives_each : (g : Globals) (types values : List (List ℕ)) (alts : List Alternative) → alternatives_unknowns g types values (alternatives_of alts) ≡ flat_map (in_alternative g (types, values)) alts
alternatives_each g types values [] = refl
alternatives_each g types values (a ∷ more) = ap (λ ws. in_alternative g (types, values) a ++ ws) (alternatives_each g types values more)

arguments_each : (g : Globals) (types values : List (List ℕ)) (args : List Argument) → arguments_unknowns g types values (arguments_of args) ≡ flat_map (in_argument g (types, values)) args
arguments_each g types values [] = refl
arguments_each g types values (OfTerm e ∷ more) = ap (λ ws. term_unknowns g types values e ++ ws) (arguments_each g types values more)
arguments_each g types values (OfType t ∷ more) = ap (λ ws. type_unknowns g types t ++ ws) (arguments_each g types values more)

terms_each : (g : Globals) (types values : List (List ℕ)) (es : List Tm) → terms_unknowns g types values (terms_of es) ≡ flat_map (in_element g (types, values)) es
terms_each g types values [] = refl
terms_each g types values (e ∷ es) = ap (λ ws. term_unknowns g types values e ++ ws) (terms_each g types values es)

-- a walk through a list, by its items
pub bindings_walk : (g : Globals) (bs : List Binding) (i : ℕ) {types types1 values values1 : List (List ℕ)} {met last : Option Word} → length bs ≤ i
    → Walks Scopes (types, values) (types1, values1) met last (flat_map (in_binding g (types, values)) (take i bs)) → Walks Scopes (types, values) (types1, values1) met last (bindings_unknowns g types values (bindings_of bs))
bindings_walk g bs i {types = types} {types1 = types1} {values = values} {values1 = values1} {met = met} {last = last} le each =
    subst (Walks Scopes (types, values) (types1, values1) met last) (sym (bindings_each g types values bs)) (walks_all (in_binding g (types, values)) bs i le each)

pub alternatives_walk : (g : Globals) (alts : List Alternative) (i : ℕ) {types types1 values values1 : List (List ℕ)} {met last : Option Word} → length alts ≤ i
    → Walks Scopes (types, values) (types1, values1) met last (flat_map (in_alternative g (types, values)) (take i alts)) → Walks Scopes (types, values) (types1, values1) met last (alternatives_unknowns g types values (alternatives_of alts))
alternatives_walk g alts i {types = types} {types1 = types1} {values = values} {values1 = values1} {met = met} {last = last} le each =
    subst (Walks Scopes (types, values) (types1, values1) met last) (sym (alternatives_each g types values alts)) (walks_all (in_alternative g (types, values)) alts i le each)

pub arguments_walk : (g : Globals) (args : List Argument) (i : ℕ) {types types1 values values1 : List (List ℕ)} {met last : Option Word} → length args ≤ i
    → Walks Scopes (types, values) (types1, values1) met last (flat_map (in_argument g (types, values)) (take i args)) → Walks Scopes (types, values) (types1, values1) met last (arguments_unknowns g types values (arguments_of args))
arguments_walk g args i {types = types} {types1 = types1} {values = values} {values1 = values1} {met = met} {last = last} le each =
    subst (Walks Scopes (types, values) (types1, values1) met last) (sym (arguments_each g types values args)) (walks_all (in_argument g (types, values)) args i le each)

pub terms_walk : (g : Globals) (es : List Tm) (i : ℕ) {types types1 values values1 : List (List ℕ)} {met last : Option Word} → length es ≤ i
    → Walks Scopes (types, values) (types1, values1) met last (flat_map (in_element g (types, values)) (take i es)) → Walks Scopes (types, values) (types1, values1) met last (terms_unknowns g types values (terms_of es))
terms_walk g es i {types = types} {types1 = types1} {values = values} {values1 = values1} {met = met} {last = last} le each =
    subst (Walks Scopes (types, values) (types1, values1) met last) (sym (terms_each g types values es)) (walks_all (in_element g (types, values)) es i le each)

-- a type, and then a term in the scopes that the walk through the type left
pub typed_walks : (g : Globals) (t : Ty) (e : Tm) {types types1 types2 values values1 : List (List ℕ)} {met m last : Option Word} → Walks (List (List ℕ)) types types1 met m (type_unknowns g types t)
    → Walks Scopes (types1, values) (types2, values1) m last (term_unknowns g types1 values e) → Walks Scopes (types, values) (types2, values1) met last (type_unknowns g types t ++ term_unknowns g types values e)
typed_walks g t e {types = types} {values = values} d walk = walks_then (type_unknowns g types t) (in_term g e) (in_types values d) walk

pub lambda_walks : (g : Globals) (w : Word) (t : Ty) (e : Tm) {whole : Tm} {types types1 types2 values opened closed after : List (List ℕ)} {met m last : Option Word} → term_lambda w t e ≡ whole
    → Walks (List (List ℕ)) types types1 met m (type_unknowns g types t) → opened ≡ w.bytes ∷ values → Walks Scopes (types1, opened) (types2, closed) m last (term_unknowns g types1 opened e)
    → after ≡ drop 1 closed → Walks Scopes (types, values) (types2, after) met last (term_unknowns g types values whole)
lambda_walks g w t e {types = types} {types1 = types1} {types2 = types2} {values = values} {after = after} {met = met} {last = last} is d opens walk closes =
    subst (Walks Scopes (types, values) (types2, after) met last) (ap (term_unknowns g types values) is)
    (walks_then (type_unknowns g types t) (λ (s : Scopes). term_unknowns g s.0 (w.bytes ∷ s.1) e) (in_types values d)
    (values_inside (w ∷ []) (λ names. term_unknowns g types1 names e) opens walk closes))

pub type_lambda_walks : (g : Globals) (w : Word) (k : KindTree) (e : Tm) {whole : Tm} {types opened closed after values values1 : List (List ℕ)} {met last : Option Word} → term_type_lambda w k e ≡ whole
    → opened ≡ w.bytes ∷ types → Walks Scopes (opened, values) (closed, values1) met last (term_unknowns g opened values e) → after ≡ drop 1 closed
    → Walks Scopes (types, values) (after, values1) met last (term_unknowns g types values whole)
type_lambda_walks g w k e {types = types} {after = after} {values = values} {values1 = values1} {met = met} {last = last} is opens walk closes =
    subst (Walks Scopes (types, values) (after, values1) met last) (ap (term_unknowns g types values) is)
    (types_inside (w ∷ []) (λ names. term_unknowns g names values e) opens walk closes)

names_counted : (bs : List Binding) → length (flat_map binding_name bs) ≡ length bs
names_counted [] = refl
names_counted (b ∷ bs) = let rest = names_counted bs in omega arith

pub letrec_walks : (g : Globals) (bs : List Binding) (e : Tm) (n : ℕ) {whole : Tm} {types types1 types2 values opened values1 closed after : List (List ℕ)} {met m last : Option Word}
    → term_letrec (bindings_of bs) e ≡ whole → n ≡ length bs → opened ≡ within (flat_map binding_name bs) values
    → Walks Scopes (types, opened) (types1, values1) met m (bindings_unknowns g types opened (bindings_of bs)) → Walks Scopes (types1, values1) (types2, closed) m last (term_unknowns g types1 values1 e)
    → after ≡ drop n closed → Walks Scopes (types, values) (types2, after) met last (term_unknowns g types values whole)
letrec_walks g bs e n {types = types} {types2 = types2} {values = values} {opened = opened} {closed = closed} {after = after} {met = met} {last = last} is count opens bound body closes =
    let inside : List (List ℕ) → List Word = λ names. bindings_unknowns g types names (bindings_of bs) ++ term_unknowns g types names e in
    let all : Walks Scopes (types, opened) (types2, closed) met last (inside opened) = walks_then (bindings_unknowns g types opened (bindings_of bs)) (in_term g e) bound body in
    subst (Walks Scopes (types, values) (types2, after) met last)
    (ap inside (ap (λ ws. within ws values) (sym (binding_words_are bs))) ∙ ap (term_unknowns g types values) is)
    (values_inside (flat_map binding_name bs) inside opens all (closes ∙ ap (λ k. drop k closed) (count ∙ sym (names_counted bs))))

pub alternative_walks : (g : Globals) (a : Alternative) (n : ℕ) {types types1 values opened closed after : List (List ℕ)} {met m last : Option Word} → Meets met m (pattern_unknowns g a.pattern)
    → n ≡ length (pattern_words a.pattern) → opened ≡ within (pattern_words a.pattern) values → Walks Scopes (types, opened) (types1, closed) m last (term_unknowns g types opened a.term)
    → after ≡ drop n closed → Walks Scopes (types, values) (types1, after) met last (in_alternative g (types, values) a)
alternative_walks g a n {types = types} {values = values} {closed = closed} here count opens body closes =
    walks_then (pattern_unknowns g a.pattern) (λ (s : Scopes). term_unknowns g s.0 (within (pattern_words a.pattern) s.1) a.term) (walks_here (types, values) here)
    (values_inside (pattern_words a.pattern) (λ names. term_unknowns g types names a.term) opens body (closes ∙ ap (λ k. drop k closed) count))

pub case_walks : (g : Globals) (e : Tm) (alts : List Alternative) {whole : Tm} {types types1 types2 values values1 values2 : List (List ℕ)} {met m last : Option Word}
    → term_case e (alternatives_of alts) ≡ whole → Walks Scopes (types, values) (types1, values1) met m (term_unknowns g types values e)
    → Walks Scopes (types1, values1) (types2, values2) m last (alternatives_unknowns g types1 values1 (alternatives_of alts))
    → Walks Scopes (types, values) (types2, values2) met last (term_unknowns g types values whole)
case_walks g e alts {types = types} {types2 = types2} {values = values} {values2 = values2} {met = met} {last = last} is scrutinee each =
    subst (Walks Scopes (types, values) (types2, values2) met last) (ap (term_unknowns g types values) is)
    (walks_then (term_unknowns g types values e) (λ (s : Scopes). alternatives_unknowns g s.0 s.1 (alternatives_of alts)) scrutinee each)

pub apply_walks : (g : Globals) (e : Tm) (args : List Argument) {whole : Tm} {types types1 types2 values values1 values2 : List (List ℕ)} {met m last : Option Word}
    → term_apply e (arguments_of args) ≡ whole → Walks Scopes (types, values) (types1, values1) met m (term_unknowns g types values e)
    → Walks Scopes (types1, values1) (types2, values2) m last (arguments_unknowns g types1 values1 (arguments_of args))
    → Walks Scopes (types, values) (types2, values2) met last (term_unknowns g types values whole)
apply_walks g e args {types = types} {types2 = types2} {values = values} {values2 = values2} {met = met} {last = last} is head each =
    subst (Walks Scopes (types, values) (types2, values2) met last) (ap (term_unknowns g types values) is)
    (walks_then (term_unknowns g types values e) (λ (s : Scopes). arguments_unknowns g s.0 s.1 (arguments_of args)) head each)

pub vec_walks : (g : Globals) (t : Ty) (es : List Tm) {whole : Tm} {types types1 types2 values values1 : List (List ℕ)} {met m last : Option Word}
    → term_vec t (terms_of es) ≡ whole → Walks (List (List ℕ)) types types1 met m (type_unknowns g types t)
    → Walks Scopes (types1, values) (types2, values1) m last (terms_unknowns g types1 values (terms_of es)) → Walks Scopes (types, values) (types2, values1) met last (term_unknowns g types values whole)
vec_walks g t es {types = types} {types2 = types2} {values = values} {values1 = values1} {met = met} {last = last} is annotation each =
    subst (Walks Scopes (types, values) (types2, values1) met last) (ap (term_unknowns g types values) is)
    (walks_then (type_unknowns g types t) (λ (s : Scopes). terms_unknowns g s.0 s.1 (terms_of es)) (in_types values annotation) each)

pub name_walks : (g : Globals) (w : Word) (types values : List (List ℕ)) {whole : Tm} {met last : Option Word} → term_name w ≡ whole → Meets met last (name_unknowns g values w)
    → Walks Scopes (types, values) (types, values) met last (term_unknowns g types values whole)
name_walks g w types values {met = met} {last = last} is here =
    subst (Walks Scopes (types, values) (types, values) met last) (ap (term_unknowns g types values) is) (walks_here (types, values) here)

pub constructor_walks : (g : Globals) (w : Word) (types values : List (List ℕ)) {whole : Tm} {met last : Option Word} → term_constructor w ≡ whole → Meets met last (unless_among g.constructors w)
    → Walks Scopes (types, values) (types, values) met last (term_unknowns g types values whole)
constructor_walks g w types values {met = met} {last = last} is here =
    subst (Walks Scopes (types, values) (types, values) met last) (ap (term_unknowns g types values) is) (walks_here (types, values) here)
