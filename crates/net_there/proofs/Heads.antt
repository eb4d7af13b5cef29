-- Heads on types and terms: their arguments.
use Rattle.std.proofs.Common.{◌≡◌, ℕ, List, [], ◌∷◌, ◌++◌, length, refl, sym, ap, ◌∙◌, subst, arith, append_assoc, append-nil}
use Rattle.chw_types.specs.TypeTree.{TypeTree}
use Rattle.chw_terms.specs.declared.term.Arg.{Arg}
use Rattle.chw_terms.specs.declared.term.Arg.TheVariants.{OfTerm, OfType}
use Rattle.chw_terms.specs.TermTree.{TermTree, app, ty_app}
use Rattle.chw_terms.specs.TermView.{applied, terms_of}
use Rattle.chw_typing.specs.Given.{types_then}
use Rattle.normal_forms.specs.Values.{on_names}
use Rattle.net_built.specs.Terms.{head_of}
use Rattle.net_ready.specs.Ready.{args_of, types_among, AreNames, AreTypesThenNames, AreNamed}
use Rattle.net_means.proofs.NetFits.Shapes.{names, head_then}

args_then : (f : TermTree) (types : List TypeTree) (es : List TermTree) → args_of (applied f (types_then types es)) ≡ args_of f ++ types_then types es
args_then f [] [] = sym (append-nil (args_of f))
args_then f [] (e ∷ es) = args_then (app f e) [] es ∙ append_assoc (args_of f) (OfTerm e ∷ []) (types_then [] es)
args_then f (t ∷ types) es = args_then (ty_app f t) types es ∙ append_assoc (args_of f) (OfType t ∷ []) (types_then types es)

pub types_among_then : (types : List TypeTree) (es : List TermTree) → types_among (types_then types es) ≡ types
types_among_then [] [] = refl
types_among_then [] (e ∷ es) = types_among_then [] es
types_among_then (t ∷ types) es = ap (λ ts. t ∷ ts) (types_among_then types es)

pub are_names : (xs : List ℕ) → AreNames (types_then [] (names xs))
are_names [] = tt
are_names (x ∷ xs) = are_names xs

pub are_types_then_names : (types : List TypeTree) (xs : List ℕ) → AreTypesThenNames (types_then types (names xs))
are_types_then_names [] [] = tt
are_types_then_names [] (x ∷ xs) = are_names xs
are_types_then_names (t ∷ types) xs = are_types_then_names types xs

pub are_named : (xs : List ℕ) → AreNamed (terms_of (names xs))
are_named [] = tt
are_named (x ∷ xs) = are_named xs

-- what holds of a head that applies nothing and of these arguments holds of the head and the arguments of the whole
pub of_head : (P : TermTree → List Arg → Type 0) (f : TermTree) → head_of f ≡ f → args_of f ≡ [] → (types : List TypeTree) (xs : List ℕ) → P f (types_then types (names xs)) → P (head_of (on_names f types xs)) (args_of (on_names f types xs))
of_head P f head none types xs h =
    let args : args_of (on_names f types xs) ≡ types_then types (names xs) = args_then f types (names xs) ∙ ap (λ args. args ++ types_then types (names xs)) none in
    let whole : head_of (on_names f types xs) ≡ f = head_then f types (names xs) ∙ head in
    subst (λ e. P e (args_of (on_names f types xs))) (sym whole) (subst (P f) (sym args) h)

-- lists of these lengths
pub one_item : {A : Type 0} (xs : List A) → length xs ≡ 1 → (a : A) × (xs ≡ a ∷ [])
one_item [] h = absurd (omega (arith, h))
one_item (a ∷ []) h = (a, refl)
one_item (a ∷ b ∷ xs) h = absurd (omega (arith, h))

pub two_items : {A : Type 0} (xs : List A) → length xs ≡ 2 → (a : A) × (b : A) × (xs ≡ a ∷ b ∷ [])
two_items [] h = absurd (omega (arith, h))
two_items (a ∷ []) h = absurd (omega (arith, h))
two_items (a ∷ b ∷ []) h = (a, b, refl)
two_items (a ∷ b ∷ c ∷ xs) h = absurd (omega (arith, h))

pub three_items : {A : Type 0} (xs : List A) → length xs ≡ 3 → (a : A) × (b : A) × (c : A) × (xs ≡ a ∷ b ∷ c ∷ [])
three_items [] h = absurd (omega (arith, h))
three_items (a ∷ []) h = absurd (omega (arith, h))
three_items (a ∷ b ∷ []) h = absurd (omega (arith, h))
three_items (a ∷ b ∷ c ∷ []) h = (a, b, c, refl)
three_items (a ∷ b ∷ c ∷ d ∷ xs) h = absurd (omega (arith, h))
