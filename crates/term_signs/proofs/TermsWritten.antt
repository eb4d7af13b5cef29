-- The signs of terms with closed naturals as numbers, by their forms.
use Rattle.std.proofs.Common.{◌≡◌, ◌∙◌, ap, sym, refl, List, [], ◌∷◌, ◌++◌, map, reverse, append_assoc, append-nil}
use Rattle.std.specs.List.{flat_map}
use Rattle.std.proofs.lemmas.List.{map-append}
use mathlib.Core.List.{reverse-cons}
use Rattle.chw_types.specs.declared.kind.Kind.{Kind}
use Rattle.chw_types.specs.TypeTree.{TypeTree}
use Rattle.chw_terms.specs.declared.term.Alt.{Alt}
use Rattle.chw_terms.specs.declared.term.Arg.{Arg}
use Rattle.chw_terms.specs.declared.term.Arg.TheVariants.{OfTerm, OfType}
use Rattle.chw_terms.specs.declared.term.Binding.{Binding}
use Rattle.chw_terms.specs.Evaluated.{evaluated, evaluated_in, evaluated_in_all, evaluated_in_group, evaluated_in_alts}
use Rattle.chw_terms.specs.TermTree.{TermTree, lam, app, ty_lam, ty_app, letrec, vec_lit, case_of}
use Rattle.chw_terms.specs.TermView.{terms_of, group_of, alts_of, applied}
use Rattle.term_signs.specs.declared.alphabet.Form.TheVariants.{Lam, App, TyLam, TyApp, LetRec, Elements, Case, NoTerms, NoBindings, NoAlts}
use Rattle.term_signs.specs.declared.alphabet.Sign.{Sign}
use Rattle.term_signs.specs.declared.alphabet.Sign.TheVariants.{Of, OfKind}
use Rattle.term_signs.specs.TypeSigns.{type_signs}
use Rattle.term_signs.specs.TermSigns.{signs, group_signs}
use Rattle.term_signs.specs.Written.{written, written_all, written_group, written_alts, mark, in_arg, in_element, in_binding, in_alt}

-- the applications, the head and the arguments of a spine
marks_more : (a : Arg) (args : List Arg) → map mark (reverse (a ∷ args)) ≡ map mark (reverse args) ++ mark a ∷ []
marks_more a args = ap (map mark) (reverse-cons a args) ∙ map-append mark (reverse args) (a ∷ [])

pub spine_written : (e : TermTree) (args : List Arg) → map mark (reverse args) ++ (written e ++ flat_map in_arg args) ≡ written (applied e args)
unfolding signs evaluated_in
spine_written e [] = append-nil (written e)
spine_written e (OfTerm a ∷ args) =
    let marks = map mark (reverse args) in
    let more = flat_map in_arg args in
    ap (λ ms. ms ++ (written e ++ (written a ++ more))) (marks_more (OfTerm a) args)
    ∙ append_assoc marks (Of App ∷ []) (written e ++ (written a ++ more))
    ∙ ap (λ ss. marks ++ ss) (sym (append_assoc (Of App ∷ written e) (written a) more))
    ∙ spine_written (app e a) args
spine_written e (OfType t ∷ args) =
    let marks = map mark (reverse args) in
    let more = flat_map in_arg args in
    let ty = type_signs (evaluated t) in
    ap (λ ms. ms ++ (written e ++ (ty ++ more))) (marks_more (OfType t) args)
    ∙ append_assoc marks (Of TyApp ∷ []) (written e ++ (ty ++ more))
    ∙ ap (λ ss. marks ++ ss) (sym (append_assoc (Of TyApp ∷ written e) ty more))
    ∙ spine_written (ty_app e t) args

-- the parts as lists
pub all_written : (es : List TermTree) → flat_map in_element es ++ Of NoTerms ∷ [] ≡ written_all (terms_of es)
unfolding signs evaluated_in
all_written [] = refl
all_written (e ∷ es) = append_assoc (in_element e) (flat_map in_element es) (Of NoTerms ∷ []) ∙ ap (λ ss. in_element e ++ ss) (all_written es)

bindings_written : (bs : List Binding) → flat_map in_binding bs ++ Of NoBindings ∷ [] ≡ group_signs (evaluated_in_group (group_of bs))
unfolding signs evaluated_in
bindings_written [] = refl
bindings_written (b ∷ bs) = append_assoc (in_binding b) (flat_map in_binding bs) (Of NoBindings ∷ []) ∙ ap (λ ss. in_binding b ++ ss) (bindings_written bs)

pub group_written : (bs : List Binding) → (Of LetRec ∷ []) ++ (flat_map in_binding bs ++ Of NoBindings ∷ []) ≡ written_group (group_of bs)
group_written bs = ap (λ ss. Of LetRec ∷ ss) (bindings_written bs)

pub alts_written : (alts : List Alt) → flat_map in_alt alts ++ Of NoAlts ∷ [] ≡ written_alts (alts_of alts)
unfolding signs evaluated_in
alts_written [] = refl
alts_written (a ∷ alts) = append_assoc (in_alt a) (flat_map in_alt alts) (Of NoAlts ∷ []) ∙ ap (λ ss. in_alt a ++ ss) (alts_written alts)

-- the forms
pub lam_written : (t : TypeTree) (e : TermTree) → (Of Lam ∷ type_signs (evaluated t)) ++ written e ≡ written (lam t e)
unfolding signs evaluated_in
lam_written t e = refl

pub ty_lam_written : (k : Kind) (e : TermTree) → (Of TyLam ∷ OfKind k ∷ []) ++ written e ≡ written (ty_lam k e)
unfolding signs evaluated_in
ty_lam_written k e = refl

pub letrec_written : (bs : List Binding) (e : TermTree) → written_group (group_of bs) ++ written e ≡ written (letrec (group_of bs) e)
unfolding signs evaluated_in
letrec_written bs e = refl

pub vec_written : (t : TypeTree) (es : List TermTree) → (Of Elements ∷ type_signs (evaluated t)) ++ written_all (terms_of es) ≡ written (vec_lit t (terms_of es))
unfolding signs evaluated_in
vec_written t es = refl

pub case_written : (e : TermTree) (alts : List Alt) → (Of Case ∷ []) ++ (written e ++ written_alts (alts_of alts)) ≡ written (case_of e (alts_of alts))
unfolding signs evaluated_in
case_written e alts = refl
