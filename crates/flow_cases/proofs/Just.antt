-- Arguments that are just types and then terms.
use Rattle.std.proofs.Common.{◌≡◌, ◌∙◌, ◌≤◌, ◌<◌, ◌+◌, ℕ, zero, suc, sym, ap, refl, subst, arith, List, [], ◌∷◌, ◌++◌, map, length, take, drop, get_or}
use Rattle.std.specs.List.{AllByRecursion}
use Rattle.std.proofs.lemmas.List.{append-nil, length-map, take_more}
use Rattle.chw_types.specs.TypeTree.{TypeTree}
use Rattle.chw_terms.specs.declared.term.Arg.{Arg}
use Rattle.chw_terms.specs.declared.term.Arg.TheVariants.{OfTerm, OfType}
use Rattle.chw_terms.specs.TermTree.{TermTree}
use Rattle.chw_typing.specs.Given.{types_then}
use Rattle.flow_cases.specs.Given.{IsType, IsTerm, types_in, terms_in, AreJust}

-- of terms alone
record AreTerms (args : List Arg) : Type 0 where
  are : args ≡ map (λ e. OfTerm e) (terms_in args)
  no_types : types_in args ≡ []
  count : length (terms_in args) ≡ length args

terms_alone : (args : List Arg) → AllByRecursion IsTerm args → AreTerms args
terms_alone [] h = record { are = refl; no_types = refl; count = refl }
terms_alone (OfType t ∷ args) h = absurd h.0
terms_alone (OfTerm e ∷ args) h =
    let rest = terms_alone args h.1 in
    record { are = λ i. OfTerm e ∷ rest.are i; no_types = rest.no_types; count = ap suc rest.count }

-- so many types, and behind them so many terms
pub just_of_parts : (n m : ℕ) (args : List Arg) → n ≤ length args → length (drop n args) ≡ m → AllByRecursion IsType (take n args) → AllByRecursion IsTerm (drop n args) → AreJust n m args
just_of_parts zero m args l q h g =
    let all = terms_alone args g in
    record {
      are = all.are ∙ (λ i. types_then (sym all.no_types i) (terms_in args));
      on_types = ap length all.no_types;
      on_terms = all.count ∙ q;
    }
just_of_parts (suc n) m [] l q h g = absurd (omega (arith, l))
just_of_parts (suc n) m (OfType t ∷ args) l q h g =
    let rest = just_of_parts n m args (omega (arith, l)) q h.1 g in
    record { are = λ i. OfType t ∷ rest.are i; on_types = ap suc rest.on_types; on_terms = rest.on_terms }
just_of_parts (suc n) m (OfTerm e ∷ args) l q h g = absurd h.0

-- types and terms are found again
pub types_found : (ts : List TypeTree) (es : List TermTree) → types_in (types_then ts es) ≡ ts
types_found [] [] = refl
types_found [] (e ∷ es) = types_found [] es
types_found (t ∷ ts) es = λ i. t ∷ types_found ts es i

pub terms_found : (ts : List TypeTree) (es : List TermTree) → terms_in (types_then ts es) ≡ es
terms_found [] [] = refl
terms_found [] (e ∷ es) = λ i. e ∷ terms_found [] es i
terms_found (t ∷ ts) es = terms_found ts es

pub just_given : (args : List Arg) (ts : List TypeTree) (es : List TermTree) (n m : ℕ) → args ≡ types_then ts es → length ts ≡ n → length es ≡ m → AreJust n m args
just_given args ts es n m q a b =
    let types = ap types_in q ∙ types_found ts es in
    let terms = ap terms_in q ∙ terms_found ts es in
    record {
      are = q ∙ sym (λ i. types_then (types i) (terms i));
      on_types = ap length types ∙ a;
      on_terms = ap length terms ∙ b;
    }

-- and the other way
all_terms : (es : List TermTree) → AllByRecursion IsTerm (map (λ e. OfTerm e) es)
all_terms [] = tt
all_terms (e ∷ es) = (tt, all_terms es)

pub record HasParts (n m : ℕ) (args : List Arg) : Type 0 where
  pub within : n ≤ length args
  pub count : length (drop n args) ≡ m
  pub front : AllByRecursion IsType (take n args)
  pub back : AllByRecursion IsTerm (drop n args)

parts_given : (ts : List TypeTree) (es : List TermTree) → HasParts (length ts) (length es) (types_then ts es)
parts_given [] es = record { within = omega arith; count = length-map es (λ e. OfTerm e); front = tt; back = all_terms es }
parts_given (t ∷ ts) es =
    let rest = parts_given ts es in
    record { within = let l = rest.within in omega (arith, l); count = rest.count; front = (tt, rest.front); back = rest.back }

pub parts_of_just : (n m : ℕ) (args : List Arg) → AreJust n m args → HasParts n m args
parts_of_just n m args h =
    subst (λ args. HasParts n m args) (sym h.are)
    (subst (λ m. HasParts n m (types_then (types_in args) (terms_in args))) h.on_terms
    (subst (λ n. HasParts n (length (terms_in args)) (types_then (types_in args) (terms_in args))) h.on_types
    (parts_given (types_in args) (terms_in args))))

-- the types and the terms of one more argument
types_joined : (args more : List Arg) → types_in (args ++ more) ≡ types_in args ++ types_in more
types_joined [] more = refl
types_joined (OfType t ∷ args) more = λ i. t ∷ types_joined args more i
types_joined (OfTerm e ∷ args) more = types_joined args more

terms_joined : (args more : List Arg) → terms_in (args ++ more) ≡ terms_in args ++ terms_in more
terms_joined [] more = refl
terms_joined (OfType t ∷ args) more = terms_joined args more
terms_joined (OfTerm e ∷ args) more = λ i. e ∷ terms_joined args more i

types_more : (args : List Arg) (i : ℕ) (d : Arg) → i < length args → types_in (take (i + 1) args) ≡ types_in (take i args) ++ types_in (get_or args i d ∷ [])
types_more args i d l = ap types_in (take_more args i d l) ∙ types_joined (take i args) (get_or args i d ∷ [])

terms_more : (args : List Arg) (i : ℕ) (d : Arg) → i < length args → terms_in (take (i + 1) args) ≡ terms_in (take i args) ++ terms_in (get_or args i d ∷ [])
terms_more args i d l = ap terms_in (take_more args i d l) ∙ terms_joined (take i args) (get_or args i d ∷ [])

-- a type is one more of the types, and a term isn't; so of the terms
pub types_pushed : (args : List Arg) (i : ℕ) (d : Arg) (t : TypeTree) → i < length args → d ≡ get_or args i d → d ≡ OfType t → types_in (take (i + 1) args) ≡ types_in (take i args) ++ t ∷ []
types_pushed args i d t l q r = types_more args i d l ∙ ap (λ a. types_in (take i args) ++ types_in (a ∷ [])) (sym q ∙ r)

pub types_passed : (args : List Arg) (i : ℕ) (d : Arg) (e : TermTree) → i < length args → d ≡ get_or args i d → d ≡ OfTerm e → types_in (take (i + 1) args) ≡ types_in (take i args)
types_passed args i d e l q r =
    types_more args i d l ∙ ap (λ a. types_in (take i args) ++ types_in (a ∷ [])) (sym q ∙ r) ∙ append-nil (types_in (take i args))

pub terms_pushed : (args : List Arg) (i : ℕ) (d : Arg) (e : TermTree) → i < length args → d ≡ get_or args i d → d ≡ OfTerm e → terms_in (take (i + 1) args) ≡ terms_in (take i args) ++ e ∷ []
terms_pushed args i d e l q r = terms_more args i d l ∙ ap (λ a. terms_in (take i args) ++ terms_in (a ∷ [])) (sym q ∙ r)

pub terms_passed : (args : List Arg) (i : ℕ) (d : Arg) (t : TypeTree) → i < length args → d ≡ get_or args i d → d ≡ OfType t → terms_in (take (i + 1) args) ≡ terms_in (take i args)
terms_passed args i d t l q r =
    terms_more args i d l ∙ ap (λ a. terms_in (take i args) ++ terms_in (a ∷ [])) (sym q ∙ r) ∙ append-nil (terms_in (take i args))
