-- Signs are read from the last one to the first, on stacks.
use Rattle.std.proofs.Common.{◌≡◌, ◌∙◌, ap, refl, ℕ, Bool, List, [], ◌∷◌, ◌++◌, append_assoc}
use Rattle.chw_types.specs.declared.kind.Kind.{Kind}
use Rattle.chw_types.specs.declared.kind.Kind.TheVariants.{Nat}
use Rattle.chw_types.specs.declared.kind.Scalar.{Scalar}
use Rattle.chw_types.specs.declared.kind.Scalar.TheVariants.{B}
use Rattle.chw_types.specs.TypeTree.{TypeTree, ty_var, nat_lit, nat_sum, nat_product, domain, scalar, vector, data_of, fun, signal, for_all, TypeTrees, no_types, type_and}
use Rattle.chw_prims.specs.declared.prim.Primitive.{Primitive as Prim}
use Rattle.chw_prims.specs.declared.prim.Primitive.TheVariants.{Fmap}
use Rattle.chw_terms.specs.declared.term.Pattern.{Pattern}
use Rattle.chw_terms.specs.declared.term.Pattern.TheVariants.{OfCon, OfLit, Default as AnyPattern}
use Rattle.chw_terms.specs.TermTree.{TermTree, var, global, made, lam, app, ty_lam, ty_app, letrec, con, prim, lit, vec_lit, case_of, Terms, no_terms, term_and, Group, no_bindings, bind, Alts, no_alts, alt}
use Rattle.term_signs.specs.declared.alphabet.Form.{Form}
use Rattle.term_signs.specs.declared.alphabet.Form.TheVariants.{TyVar, Numeral, Sum, Product, Domain, Word, Vector, Data, Fun, Signal, ForAll, OneType, NoTypes, Var, Global, Made, Lam, App, TyLam, TyApp, LetRec, Con, Primitive, Literal, Elements, Case, OneTerm, NoTerms, OneBinding, NoBindings, OneAlt, NoAlts, ConPattern, LitPattern, DefaultPattern, NoBits}
use Rattle.term_signs.specs.declared.alphabet.Sign.{Sign}
use Rattle.term_signs.specs.declared.alphabet.Sign.TheVariants.{Of, Number, OfKind, OfSort, OfPrim, Bit}

-- what was read and not yet taken, of each sort
pub record Stacks : Type 0 where
  pub numbers : List ℕ
  pub kinds : List Kind
  pub sorts : List Scalar
  pub prims : List Prim
  pub bits : List (List Bool)
  pub types : List TypeTree
  pub all_types : List TypeTrees
  pub terms : List TermTree
  pub all_terms : List Terms
  pub groups : List Group
  pub all_alts : List Alts
  pub patterns : List Pattern

abbrev pub empty : Stacks
empty = record { numbers = []; kinds = []; sorts = []; prims = []; bits = []; types = []; all_types = []; terms = []; all_terms = []; groups = []; all_alts = []; patterns = [] }

-- the first of a stack, and those behind it
abbrev pub first : {X : Type 0} → X → List X → X
first d [] = d
first d (x ∷ xs) = x

abbrev pub rest : {X : Type 0} → List X → List X
rest [] = []
rest (x ∷ xs) = xs

abbrev number : Stacks → ℕ
number m = first 0 m.numbers

abbrev ty : Stacks → TypeTree
ty m = first (nat_lit 0) m.types

abbrev ty2 : Stacks → TypeTree
ty2 m = first (nat_lit 0) (rest m.types)

abbrev term : Stacks → TermTree
term m = first (var 0) m.terms

abbrev term2 : Stacks → TermTree
term2 m = first (var 0) (rest m.terms)

-- what was read, put on its stack
abbrev pub with_bits : List Bool → Stacks → Stacks
with_bits bs m = record m { bits = bs ∷ m.bits }

abbrev pub with_type : TypeTree → Stacks → Stacks
with_type t m = record m { types = t ∷ m.types }

abbrev pub with_types : TypeTrees → Stacks → Stacks
with_types ts m = record m { all_types = ts ∷ m.all_types }

abbrev pub with_term : TermTree → Stacks → Stacks
with_term e m = record m { terms = e ∷ m.terms }

abbrev pub with_terms : Terms → Stacks → Stacks
with_terms es m = record m { all_terms = es ∷ m.all_terms }

abbrev pub with_group : Group → Stacks → Stacks
with_group g m = record m { groups = g ∷ m.groups }

abbrev pub with_alts : Alts → Stacks → Stacks
with_alts alts m = record m { all_alts = alts ∷ m.all_alts }

abbrev pub with_pattern : Pattern → Stacks → Stacks
with_pattern q m = record m { patterns = q ∷ m.patterns }

-- what a form makes of what stands on the stacks
abbrev pub read_form : Form → Stacks → Stacks
read_form TyVar m = record m { numbers = rest m.numbers; types = ty_var (number m) ∷ m.types }
read_form Numeral m = record m { numbers = rest m.numbers; types = nat_lit (number m) ∷ m.types }
read_form Sum m = record m { types = nat_sum (ty m) (ty2 m) ∷ rest (rest m.types) }
read_form Product m = record m { types = nat_product (ty m) (ty2 m) ∷ rest (rest m.types) }
read_form Domain m = record m { numbers = rest m.numbers; types = domain (number m) ∷ m.types }
read_form Word m = record m { sorts = rest m.sorts; types = scalar (first B m.sorts) (ty m) ∷ rest m.types }
read_form Vector m = record m { types = vector (ty m) (ty2 m) ∷ rest (rest m.types) }
read_form Data m = record m { numbers = rest m.numbers; all_types = rest m.all_types; types = data_of (number m) (first no_types m.all_types) ∷ m.types }
read_form Fun m = record m { types = fun (ty m) (ty2 m) ∷ rest (rest m.types) }
read_form Signal m = record m { types = signal (ty m) (ty2 m) ∷ rest (rest m.types) }
read_form ForAll m = record m { kinds = rest m.kinds; types = for_all (first Nat m.kinds) (ty m) ∷ rest m.types }
read_form OneType m = record m { types = rest m.types; all_types = type_and (ty m) (first no_types m.all_types) ∷ rest m.all_types }
read_form NoTypes m = record m { all_types = no_types ∷ m.all_types }
read_form Var m = record m { numbers = rest m.numbers; terms = var (number m) ∷ m.terms }
read_form Global m = record m { numbers = rest m.numbers; terms = global (number m) ∷ m.terms }
read_form Made m = record m { numbers = rest m.numbers; terms = made (number m) ∷ m.terms }
read_form Lam m = record m { types = rest m.types; terms = lam (ty m) (term m) ∷ rest m.terms }
read_form App m = record m { terms = app (term m) (term2 m) ∷ rest (rest m.terms) }
read_form TyLam m = record m { kinds = rest m.kinds; terms = ty_lam (first Nat m.kinds) (term m) ∷ rest m.terms }
read_form TyApp m = record m { types = rest m.types; terms = ty_app (term m) (ty m) ∷ rest m.terms }
read_form LetRec m = record m { groups = rest m.groups; terms = letrec (first no_bindings m.groups) (term m) ∷ rest m.terms }
read_form Con m = record m { numbers = rest m.numbers; terms = con (number m) ∷ m.terms }
read_form Primitive m = record m { prims = rest m.prims; terms = prim (first Fmap m.prims) ∷ m.terms }
read_form Literal m = record m { sorts = rest m.sorts; bits = rest m.bits; terms = lit (first B m.sorts) (first [] m.bits) ∷ m.terms }
read_form Elements m = record m { types = rest m.types; all_terms = rest m.all_terms; terms = vec_lit (ty m) (first no_terms m.all_terms) ∷ m.terms }
read_form Case m = record m { all_alts = rest m.all_alts; terms = case_of (term m) (first no_alts m.all_alts) ∷ rest m.terms }
read_form OneTerm m = record m { terms = rest m.terms; all_terms = term_and (term m) (first no_terms m.all_terms) ∷ rest m.all_terms }
read_form NoTerms m = record m { all_terms = no_terms ∷ m.all_terms }
read_form OneBinding m = record m { types = rest m.types; terms = rest m.terms; groups = bind (ty m) (term m) (first no_bindings m.groups) ∷ rest m.groups }
read_form NoBindings m = record m { groups = no_bindings ∷ m.groups }
read_form OneAlt m = record m { patterns = rest m.patterns; terms = rest m.terms; all_alts = alt (first AnyPattern m.patterns) (term m) (first no_alts m.all_alts) ∷ rest m.all_alts }
read_form NoAlts m = record m { all_alts = no_alts ∷ m.all_alts }
read_form ConPattern m = record m { numbers = rest (rest m.numbers); patterns = OfCon (record { number = number m }) (first 0 (rest m.numbers)) ∷ m.patterns }
read_form LitPattern m = record m { sorts = rest m.sorts; bits = rest m.bits; patterns = OfLit (first B m.sorts) (first [] m.bits) ∷ m.patterns }
read_form DefaultPattern m = record m { patterns = AnyPattern ∷ m.patterns }
read_form NoBits m = record m { bits = [] ∷ m.bits }

-- what a sign makes of it
abbrev pub read_sign : Sign → Stacks → Stacks
read_sign (Of f) m = read_form f m
read_sign (Number n) m = record m { numbers = n ∷ m.numbers }
read_sign (OfKind k) m = record m { kinds = k ∷ m.kinds }
read_sign (OfSort s) m = record m { sorts = s ∷ m.sorts }
read_sign (OfPrim p) m = record m { prims = p ∷ m.prims }
read_sign (Bit b) m = record m { bits = (b ∷ first [] m.bits) ∷ rest m.bits }

-- what signs leave, the last one read first
abbrev pub read : List Sign → Stacks
read [] = empty
read (s ∷ ss) = read_sign s (read ss)

-- whatever stands behind them, these signs do this to what is read there
pub record Reads (ss : List Sign) (f : Stacks → Stacks) : Type 0 where
  pub behind : (more : List Sign) → read (ss ++ more) ≡ f (read more)

pub reads_none : Reads [] (λ m. m)
reads_none = record { behind = λ more. refl }

-- a sign before others
pub reads_sign : (s : Sign) {ss : List Sign} {f : Stacks → Stacks} → Reads ss f → Reads (s ∷ ss) (λ m. read_sign s (f m))
reads_sign s r = record { behind = λ more. ap (read_sign s) (r.behind more) }

-- signs before others
pub reads_both : {ss rs : List Sign} {f g : Stacks → Stacks} → Reads ss f → Reads rs g → Reads (ss ++ rs) (λ m. f (g m))
reads_both {ss} {rs} {f} {g} a b = record {
  behind = λ more. ap read (append_assoc ss rs more) ∙ a.behind (rs ++ more) ∙ ap f (b.behind more);
}
