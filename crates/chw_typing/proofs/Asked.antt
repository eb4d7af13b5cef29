-- How many types and terms a type asks for, and that a spine of a type that asks for none has them.
use Rattle.std.proofs.Common.{◌≡◌, ℕ, suc, zero, refl, sym, ap, ◌∙◌, subst, List, [], ◌∷◌, ◌++◌, length}
use Rattle.chw_types.specs.declared.kind.Kind.{Kind}
use Rattle.std.specs.Prelude.{Some}
use Rattle.chw_types.specs.TypeTree.{TypeTree, data_of, fun, for_all, TypeTrees}
use Rattle.chw_types.specs.TypeView.{trees_of}
use Rattle.chw_types.specs.TypeMoves.{Substitution, up, sub, put_at}
use Rattle.chw_types.specs.SameTypes.{SameTypes, SameAll}
use Rattle.chw_terms.specs.declared.term.Arg.{Arg}
use Rattle.chw_terms.specs.declared.term.Arg.TheVariants.{OfTerm, OfType}
use Rattle.chw_terms.specs.Constructors.{Constructor, con_at}
use Rattle.chw_terms.specs.TermTree.{TermTree, con}
use Rattle.chw_terms.specs.TermView.{applied}
use Rattle.chw_terms.proofs.Spines.{applied_more}
use Rattle.type_laws.proofs.SameForms.{as_function, as_bound, as_data}
use Rattle.chw_typing.specs.HeadTypes.{for_each, from_each, variables}
use Rattle.chw_typing.specs.Programs.{IsSound}
use Rattle.chw_typing.specs.Scopes.{Setting, AreTermTypes}
use Rattle.chw_typing.specs.Typing.{HasType, h_con}
use Rattle.chw_typing.proofs.OneType.{one_type}
use Rattle.chw_typing.proofs.SameScopes.{are_same_self}
use Rattle.chw_typing.specs.Given.{types_then, AsksForNone, Takes}
use Rattle.chw_typing.specs.TypedSpines.{AtArguments, at_none, at_term, at_type}
use Rattle.chw_typing.proofs.Saturated.{con_at_arguments}
use Rattle.chw_typing.proofs.TypedSpines.{HeadTyped, head_typed}

-- the type asks for so many types, and then for so many terms
data Asks : ℕ → ℕ → TypeTree → Type 0 where
  asks_none : {t : TypeTree} → Asks zero zero t
  asks_type : {n m : ℕ} {k : Kind} {t : TypeTree} → Asks n m t → Asks (suc n) m (for_all k t)
  asks_term : {m : ℕ} {a b : TypeTree} → Asks zero m b → Asks zero (suc m) (fun a b)

terms_asked : (ps : List TypeTree) (r : TypeTree) → Asks zero (length ps) (from_each ps r)
terms_asked [] r = asks_none
terms_asked (p ∷ ps) r = asks_term (terms_asked ps r)

types_asked : (ks : List Kind) (ps : List TypeTree) (r : TypeTree) → Asks (length ks) (length ps) (for_each ks (from_each ps r))
types_asked [] ps r = terms_asked ps r
types_asked (k ∷ ks) ps r = asks_type (types_asked ks ps r)

-- as many where types are put
asks_put : {n m : ℕ} {t : TypeTree} → Asks n m t → (σ : Substitution) → Asks n m (sub t σ)
unfolding sub
asks_put asks_none σ = asks_none
asks_put (asks_type h) σ = asks_type (asks_put h (up σ))
asks_put (asks_term h) σ = asks_term (asks_put h σ)

-- and in what is the same
asks_same : {n m : ℕ} {t : TypeTree} → Asks n m t → (u : TypeTree) → SameTypes t u → Asks n m u
asks_same asks_none u x = asks_none
asks_same (asks_type {n = n} {m = m} h) u x = let at = as_bound x in subst (Asks (suc n) m) (sym at.1) (asks_type (asks_same h at.0 at.2))
asks_same (asks_term {m = m} h) u x = let at = as_function x in subst (Asks zero (suc m)) (sym at.2) (asks_term (asks_same h at.1 at.4))

term_before : (types : List TypeTree) (es : List TermTree) (more : List Arg) (a : TermTree) (args : List Arg) → length types ≡ zero → args ≡ types_then types es ++ more → OfTerm a ∷ args ≡ types_then [] (a ∷ es) ++ more
term_before [] es more a args l e = ap (λ (more : List Arg). OfTerm a ∷ more) e
term_before (t ∷ types) es more a args l e = absurd (let f : suc (length types) ≡ zero = l in cc)

-- arguments that lead to a type that asks for none: first so many types, then so many terms
takes : {s : Setting} {kinds : List Kind} {vars : List TypeTree} {u t : TypeTree} {args : List Arg} {n m : ℕ} → AtArguments s kinds vars u args t → Asks n m u → AsksForNone t → Takes n m args
takes {args = args} d asks_none o = record { types = []; es = []; more = args; are = refl; on_types = refl; on_terms = refl }
takes at_none (asks_type h) o = absurd o
takes at_none (asks_term h) o = absurd o
takes (at_term {a = a} {args = args} f x r) (asks_term h) o =
    let rest = takes r h o in
    record { types = []; es = a ∷ rest.es; more = rest.more; are = term_before rest.types rest.es rest.more a args rest.on_types rest.are; on_types = refl; on_terms = ap suc rest.on_terms }
takes (at_type {a = a} {b = b} {u = u} l x k r) (asks_type h) o =
    let rest = takes r (asks_same (asks_put h (put_at 0 a)) u x) o in
    record { types = a ∷ rest.types; es = rest.es; more = rest.more; are = ap (λ (more : List Arg). OfType a ∷ more) rest.are; on_types = ap suc rest.on_types; on_terms = rest.on_terms }

pub spine_takes : (s : Setting) (kinds : List Kind) (vars : List TypeTree) (e : TermTree) (ks : List Kind) (ps : List TypeTree) (r : TypeTree) (args : List Arg) (t : TypeTree) → IsSound s → AreTermTypes s kinds vars → HasType s kinds vars e (for_each ks (from_each ps r)) → HasType s kinds vars (applied e args) t → AsksForNone t → Takes (length ks) (length ps) args
spine_takes s kinds vars e ks ps r args t h g schema d o =
    let at = head_typed s kinds vars e args t d in
    takes at.2 (asks_same (types_asked ks ps r) at.0 (one_type schema at.1 h g g (are_same_self vars))) o

-- a data type takes no arguments
none_more : {s : Setting} {kinds : List Kind} {vars : List TypeTree} {d : ℕ} {ts : TypeTrees} {u t : TypeTree} {args : List Arg} → AtArguments s kinds vars u args t → data_of d ts ≡ u → args ≡ []
none_more at_none e = refl
none_more (at_term f x r) e = absurd (cc)
none_more (at_type l x k r) e = absurd (cc)

-- so a constructor takes no more than its own
pub con_takes : (s : Setting) (kinds : List Kind) (vars : List TypeTree) (c : ℕ) (it : Constructor) (args : List Arg) (t : TypeTree) → IsSound s → AreTermTypes s kinds vars → con_at s.datas c ≡ Some it → HasType s kinds vars (applied (con c) args) t → AsksForNone t → (a : Takes (length it.it.params) (length it.decl.fields) args) × (a.more ≡ [])
con_takes s kinds vars c it args t h g e d o =
    (all, none_more behind.2 (sym is_data.1))
  where
    all : Takes (length it.it.params) (length it.decl.fields) args
    all = spine_takes s kinds vars (con c) it.it.params it.decl.fields (data_of it.of (variables (length it.it.params))) args t h g (h_con e) d o

    front : TermTree
    front = applied (con c) (types_then all.types all.es)

    whole : HasType s kinds vars (applied front all.more) t
    whole = subst (λ e. HasType s kinds vars e t) (ap (applied (con c)) all.are ∙ applied_more (con c) (types_then all.types all.es) all.more) d

    behind : HeadTyped s kinds vars front all.more t
    behind = head_typed s kinds vars front all.more t whole

    is_data : (us : TypeTrees) × (behind.0 ≡ data_of it.of us) × SameAll (trees_of all.types) us
    is_data = as_data (con_at_arguments s kinds vars c it all.types all.es behind.0 h g e all.on_types all.on_terms behind.1).2
