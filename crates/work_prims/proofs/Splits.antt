-- Arguments as the types before the first term, and what stands behind them.
use Rattle.std.proofs.Common.{◌≡◌, ◌∙◌, sym, ap, refl, List, [], ◌∷◌, ◌++◌, ◌+◌, length, length-append, map, drop}
use Rattle.std.proofs.lemmas.List.{length-map}
use Rattle.chw_types.specs.TypeTree.{TypeTree}
use Rattle.chw_terms.specs.declared.term.Arg.{Arg}
use Rattle.chw_terms.specs.declared.term.Arg.TheVariants.{OfTerm, OfType}
use Rattle.chw_terms.specs.TermTree.{TermTree}
use Rattle.chw_typing.specs.Given.{types_then}
use Rattle.work_prims.specs.Given.{types_in, as_args}

-- as many arguments as types and terms
pub given_length : (types : List TypeTree) (es : List TermTree) → length (types_then types es) ≡ length types + length es
given_length types es =
    length-append (map (λ t. OfType t) types) (map (λ e. OfTerm e) es)
    ∙ (λ i. length-map types (λ t. OfType t) i + length-map es (λ e. OfTerm e) i)

split : (args : List Arg) → args ≡ map (λ t. OfType t) (types_in args) ++ drop (length (types_in args)) args
split [] = refl
split (OfTerm e ∷ args) = refl
split (OfType t ∷ args) = ap (λ xs. OfType t ∷ xs) (split args)

-- where terms stand behind the types, the arguments are these types and terms
pub split_is : (args rest : List Arg) (es : List TermTree) → drop (length (types_in args)) args ≡ rest → rest ≡ as_args es → args ≡ types_then (types_in args) es
split_is args rest es d q = split args ∙ ap (λ xs. map (λ t. OfType t) (types_in args) ++ xs) (d ∙ q)

types_before : (types : List TypeTree) (es : List TermTree) → types_in (types_then types es) ≡ types
types_before [] [] = refl
types_before [] (e ∷ es) = refl
types_before (t ∷ types) es = ap (λ ts. t ∷ ts) (types_before types es)

terms_behind : (types : List TypeTree) (es : List TermTree) → drop (length types) (types_then types es) ≡ as_args es
terms_behind [] es = refl
terms_behind (t ∷ types) es = terms_behind types es

-- of types and terms these are the types, and those the terms
pub types_are : (args : List Arg) (types : List TypeTree) (es : List TermTree) → args ≡ types_then types es → types_in args ≡ types
types_are args types es q = ap types_in q ∙ types_before types es

pub rest_is : (args rest : List Arg) (types : List TypeTree) (es : List TermTree) → args ≡ types_then types es → drop (length (types_in args)) args ≡ rest → rest ≡ as_args es
rest_is args rest types es q d =
    sym d ∙ (λ i. drop (length (types_are args types es q i)) (q i)) ∙ terms_behind types es
