-- Arguments, one after the other.
use Rattle.std.proofs.Common.{◌≡◌, ◌∙◌, sym, ap, refl, ℕ, ◌+◌, ◌<◌, ◌≤◌, add-one, List, [], ◌∷◌, ◌++◌, drop, drop-cons, length, get_or, append_assoc, append-nil}
use Rattle.std.proofs.lemmas.List.{drop_all}
use Rattle.std.proofs.lemmas.Grind.{flat_map-append}
use Rattle.net_built.specs.Terms.{Variable, list_of, wires_of, wires_of_all}
use Rattle.chw_terms.specs.TermView.{terms_of}
use Rattle.chw_terms.specs.declared.term.Arg.{Arg}
use Rattle.chw_terms.specs.declared.term.Arg.TheVariants.{OfTerm, OfType}
use Rattle.chw_terms.specs.TermTree.{TermTree}
use Rattle.net_ready.specs.Ready.{types_among, AreNames}
use Rattle.net_ready.proofs.Arguments.{names_untyped}
use Rattle.value_build.specs.Arguments.{terms_in, types_in}

-- what is left begins with the item that is read
pub left_of : {X : Type 0} (xs : List X) (i : ℕ) (x : X) → i < length xs → x ≡ get_or xs i x → drop i xs ≡ x ∷ drop (i + 1) xs
left_of xs i x l is = drop-cons xs i x l ∙ (λ k. sym is k ∷ drop (sym (add-one i) k) xs)

pub terms_first : (a : Arg) (args : List Arg) → terms_in (a ∷ args) ≡ terms_in (a ∷ []) ++ terms_in args
terms_first (OfTerm e) args = refl
terms_first (OfType t) args = refl

pub types_first : (a : Arg) (args : List Arg) → types_in (a ∷ args) ≡ types_in (a ∷ []) ++ types_in args
types_first (OfTerm e) args = refl
types_first (OfType t) args = refl

-- the parts of items so far, with those of the items that are left, are those of all
pub so_far : {X Y : Type 0} (f : List X → List Y) (xs : List X) (i : ℕ) (x : X) (before later all : List Y)
    → ((y : X) (ys : List X) → f (y ∷ ys) ≡ f (y ∷ []) ++ f ys)
    → i < length xs → x ≡ get_or xs i x → later ≡ before ++ f (x ∷ [])
    → before ++ f (drop i xs) ≡ all → later ++ f (drop (i + 1) xs) ≡ all
so_far f xs i x before later all first l is grown so =
    ap (λ ys. ys ++ f (drop (i + 1) xs)) grown
    ∙ append_assoc before (f (x ∷ [])) (f (drop (i + 1) xs))
    ∙ ap (λ ys. before ++ ys) (sym (first x (drop (i + 1) xs)) ∙ ap f (sym (left_of xs i x l is)))
    ∙ so

pub all_so_far : {X Y : Type 0} (f : List X → List Y) (xs : List X) (i : ℕ) (done all : List Y)
    → f [] ≡ [] → length xs ≤ i → done ++ f (drop i xs) ≡ all → done ≡ all
all_so_far f xs i done all none l so =
    sym (append-nil done) ∙ ap (λ ys. done ++ ys) (sym (ap f (drop_all i xs l) ∙ none)) ∙ so

-- the wires of operands, those of the first one first
pub operands_first : (scope : List Variable) (a : Arg) (args : List Arg)
    → wires_of_all scope (terms_in (a ∷ args)) ≡ wires_of_all scope (terms_in (a ∷ [])) ++ wires_of_all scope (terms_in args)
operands_first scope a args =
    ap (wires_of_all scope) (terms_first a args) ∙ flat_map-append (wires_of scope) (terms_in (a ∷ [])) (terms_in args)

pub wires_first : (scope : List Variable) (e : TermTree) (es : List TermTree)
    → wires_of_all scope (e ∷ es) ≡ wires_of_all scope (e ∷ []) ++ wires_of_all scope es
wires_first scope e es = flat_map-append (wires_of scope) (e ∷ []) es

pub one_wires : (scope : List Variable) (e : TermTree) → wires_of_all scope (e ∷ []) ≡ wires_of scope e
one_wires scope e = append-nil (wires_of scope e)

-- the list of the terms that were made of a list
pub list_back : (es : List TermTree) → list_of (terms_of es) ≡ es
list_back [] = refl
list_back (e ∷ es) = ap (λ fs. e ∷ fs) (list_back es)

-- the types among arguments
pub types_same : (args : List Arg) → types_among args ≡ types_in args
types_same [] = refl
types_same (OfTerm e ∷ args) = types_same args
types_same (OfType t ∷ args) = ap (λ ts. t ∷ ts) (types_same args)

-- among variables there are none
pub no_types : (args : List Arg) → AreNames args → types_in args ≡ []
no_types args names = sym (types_same args) ∙ names_untyped args names
