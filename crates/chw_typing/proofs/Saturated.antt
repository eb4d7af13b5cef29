-- A head at types and on terms: these have the kinds and the types that the head's type asks for, and the whole has the result's type.
use Rattle.std.proofs.Common.{◌≡◌, ℕ, suc, zero, true, ◌⊎◌, inl, inr, refl, sym, ap, ◌∙◌, subst, List, [], ◌∷◌, ◌++◌, map, length, reverse}
use Rattle.std.specs.Prelude.{Some}
use Rattle.std.specs.List.{slice_get}
use Rattle.std.proofs.lemmas.List.{append-nil, length-reverse}
use Rattle.chw_types.specs.declared.kind.Kind.{Kind}
use Rattle.chw_types.specs.declared.kind.Kind.TheVariants.{Nat}
use Rattle.chw_types.specs.declared.declarations.Data.{Data}
use Rattle.chw_types.specs.TypeTree.{TypeTree, fun, for_all, data_of, type_and}
use Rattle.chw_types.specs.TypeView.{trees_of}
use Rattle.chw_types.specs.TypeMoves.{Substitution, up, sub, sub_all, up_by, one, put_at, put}
use Rattle.chw_types.specs.Arguments.{list_of, given, arguments}
use Rattle.chw_types.specs.Kinds.{KindOf, kind_var, KindsOf, no_kinds, kind_and}
use Rattle.chw_types.specs.Polynomials.{is_natural}
use Rattle.chw_types.specs.SameTypes.{SameTypes, same_naturals, same_fun}
use Rattle.chw_types.proofs.SameLaws.{same_self, same_through}
use Rattle.chw_types.proofs.TypeLaws.{same, rename_sub, sub_sub, sub_ids}
use Rattle.chw_prims.specs.declared.prim.Primitive.{Primitive as Prim}
use Rattle.chw_prims.specs.Schemas.{schema_type}
use Rattle.chw_terms.specs.declared.term.Arg.{Arg}
use Rattle.chw_terms.specs.declared.term.Arg.TheVariants.{OfTerm, OfType}
use Rattle.chw_terms.specs.Constructors.{Constructor, con_at}
use Rattle.chw_terms.specs.TermTree.{TermTree, con, prim}
use Rattle.chw_terms.specs.TermView.{applied}
use Rattle.type_laws.specs.Standing.{InSums}
use Rattle.type_laws.proofs.KindsExact.{PutsKinds, kinds_under}
use Rattle.type_laws.proofs.OneKind.{nat_natural, sums_kind}
use Rattle.type_laws.proofs.Shifted.{put_same}
use Rattle.chw_typing.specs.HeadTypes.{for_each, from_each, variables, fields_at}
use Rattle.chw_typing.specs.Programs.{IsSound}
use Rattle.chw_typing.specs.Scopes.{Setting, HasKind, IsTermType, AreTermTypes}
use Rattle.chw_typing.specs.Typing.{HasType, HasTypeUpTo, h_con, h_prim}
use Rattle.chw_typing.proofs.Kinded.{bound_part, type_kinded}
use Rattle.chw_typing.proofs.Lists.{turned_onto}
use Rattle.chw_typing.proofs.OneType.{binders_same, one_type}
use Rattle.chw_typing.proofs.Patterns.{are_of_terms}
use Rattle.chw_typing.proofs.PutKinds.{sums_put}
use Rattle.chw_typing.proofs.SameScopes.{are_same_self}
use Rattle.chw_typing.specs.Given.{types_then, AreGiven, IsSaturated}
use Rattle.chw_typing.specs.TypedSpines.{AtArguments, at_type, at_term, at_none}
use Rattle.chw_typing.proofs.TypedSpines.{HeadTyped, head_typed}

-- one more type, put for the innermost variable
put_given : (t a : TypeTree) (taken : List TypeTree) → put (sub t (up (given taken))) 0 a ≡ sub t (given (a ∷ taken))
unfolding put_at up_by up sub
put_given t a taken = sub_sub t (up (given taken)) (one a) ∙ ap (sub t) (same (λ x. sub (up (given taken) x) (one a)) (given (a ∷ taken)) here)
  where
    here : (x : ℕ) → sub (up (given taken) x) (one a) ≡ given (a ∷ taken) x
    here zero = refl
    here (suc x) = rename_sub (given taken x) suc (one a) ∙ sub_ids (given taken x)

kinds_and : (datas : List Data) (domains : ℕ) (taken : List TypeTree) (a : TypeTree) (scope scope' : List Kind) (j : Kind) → KindOf datas domains scope' a j → PutsKinds datas domains (given taken) scope scope' → PutsKinds datas domains (given (a ∷ taken)) (j ∷ scope) scope'
kinds_and datas domains taken a scope scope' j d h zero k e = let is : j ≡ k = cc in subst (KindOf datas domains scope' a) is d
kinds_and datas domains taken a scope scope' j d h (suc x) k e = h x k e

functions_same : {a b c d : TypeTree} → SameTypes (fun a b) (fun c d) → SameTypes a c × SameTypes b d
unfolding is_natural
functions_same (same_naturals n m p) = absurd (cc)
functions_same (same_fun h g) = (h, g)

-- a spine of which the first argument is a type
record FirstType (s : Setting) (kinds : List Kind) (vars : List TypeTree) (head a : TypeTree) (args : List Arg) (u : TypeTree) : Type 0 where
  pub kind : Kind
  pub inner : TypeTree
  pub kind_put : Kind
  pub put_in : TypeTree
  pub is : for_all kind inner ≡ head
  pub has : HasKind s kinds a kind
  pub same_put : SameTypes (put inner 0 a) put_in
  pub put_has : HasKind s kinds put_in kind_put
  pub leads : AtArguments s kinds vars put_in args u

first_type : {s : Setting} {kinds : List Kind} {vars : List TypeTree} {head a u : TypeTree} {args : List Arg} → AtArguments s kinds vars head (OfType a ∷ args) u → FirstType s kinds vars head a args u
first_type (at_type {j = j} {k = k} {b = b} {u = v} c y e r) = record { kind = j; inner = b; kind_put = k; put_in = v; is = refl; has = c; same_put = y; put_has = e; leads = r }

-- and of which it is a term
record FirstTerm (s : Setting) (kinds : List Kind) (vars : List TypeTree) (head : TypeTree) (a : TermTree) (args : List Arg) (u : TypeTree) : Type 0 where
  pub parameter : TypeTree
  pub result : TypeTree
  pub is : fun parameter result ≡ head
  pub has : HasTypeUpTo s kinds vars a parameter
  pub leads : AtArguments s kinds vars result args u

first_term : {s : Setting} {kinds : List Kind} {vars : List TypeTree} {head u : TypeTree} {a : TermTree} {args : List Arg} → AtArguments s kinds vars head (OfTerm a ∷ args) u → FirstTerm s kinds vars head a args u
first_term (at_term {b = b} {c = c} {d = d} h x r) = record { parameter = b; result = d; is = refl; has = record { type = c; has = h; same = x }; leads = r }

no_argument : {s : Setting} {kinds : List Kind} {vars : List TypeTree} {head u : TypeTree} → AtArguments s kinds vars head [] u → head ≡ u
no_argument at_none = refl

-- what is under the binders, with these types put for them, and their kinds
record TypesGiven (s : Setting) (kinds : List Kind) (vars : List TypeTree) (ks : List Kind) (t : TypeTree) (taken types : List TypeTree) (more : List Arg) (u : TypeTree) : Type 0 where
  pub type : TypeTree
  pub same_type : SameTypes (sub t (given (reverse types ++ taken))) type
  pub have : KindsOf s.datas s.domains kinds (trees_of types) ks
  pub leads : AtArguments s kinds vars type more u

types_given : (s : Setting) (kinds : List Kind) (vars types : List TypeTree) (more : List Arg) (head u : TypeTree) → IsSound s → AtArguments s kinds vars head (map (λ t. OfType t) types ++ more) u → (ks : List Kind) (t : TypeTree) (scope : List Kind) (taken : List TypeTree) (i k : Kind) → length types ≡ length ks → HasKind s scope (for_each ks t) k → SameTypes (sub (for_each ks t) (given taken)) head → HasKind s kinds head i → PutsKinds s.datas s.domains (given taken) scope kinds → TypesGiven s kinds vars ks t taken types more u
unfolding sub
types_given s kinds vars [] more head u h r [] t scope taken i k l d x f p = record { type = head; same_type = x; have = no_kinds; leads = r }
types_given s kinds vars [] more head u h r (j ∷ ks) t scope taken i k l d x f p = absurd (let e : zero ≡ suc (length ks) = l in cc)
types_given s kinds vars (a ∷ types) more head u h r [] t scope taken i k l d x f p = absurd (let e : suc (length types) ≡ zero = l in cc)
types_given s kinds vars (a ∷ types) more head u h r (j ∷ ks) t scope taken i k l d x f p =
    let at = first_type r in
    let is = binders_same (subst (SameTypes (sub (for_each (j ∷ ks) t) (given taken))) (sym at.is) x) in
    let has : HasKind s kinds a j = subst (HasKind s kinds a) is.0 at.has in
    let inner = (bound_part d).0 in
    let whole = sub (for_each ks t) (up (given taken)) in
    let natural : InSums whole 0 ⊎ InSums at.inner 0 → is_natural a ≡ true = (λ z. natural_in at.kind whole at.inner z (λ b. sums_put inner (up (given taken)) (j ∷ kinds) (kinds_under s.datas s.domains (given taken) scope kinds j p) 0 b) (λ b. sums_kind (bound_part (subst (λ w. HasKind s kinds w i) (sym at.is) f)).0 0 b) has at.has) in
    let now = subst (λ q. SameTypes q (put at.inner 0 a)) (put_given (for_each ks t) a taken) (put_same whole at.inner a a 0 is.1 (same_self a) natural) in
    let m : suc (length types) ≡ suc (length ks) = l in
    let rest = types_given s kinds vars types more at.put_in u h at.leads ks t (j ∷ scope) (a ∷ taken) at.kind_put k (cc) inner (same_through now at.same_put) at.put_has (kinds_and s.datas s.domains taken a scope kinds j has p) in
    record {
      type = rest.type;
      same_type = subst (λ ts. SameTypes (sub t (given ts)) rest.type) (sym (turned_onto a types taken)) rest.same_type;
      have = kind_and has rest.have;
      leads = rest.leads;
    }
  where
    natural_in : (j' : Kind) (whole w : TypeTree) → InSums whole 0 ⊎ InSums w 0 → (InSums whole 0 → slice_get (j ∷ kinds) 0 ≡ Some Nat) → (InSums w 0 → slice_get (j' ∷ kinds) 0 ≡ Some Nat) → HasKind s kinds a j → HasKind s kinds a j' → is_natural a ≡ true
    natural_in j' whole w (inl z) f g b c = let is : j ≡ Nat = (let e = f z in cc) in nat_natural (are_of_terms s h) b is
    natural_in j' whole w (inr z) f g b c = let is : j' ≡ Nat = (let e = g z in cc) in nat_natural (are_of_terms s h) c is

terms_given : (s : Setting) (kinds : List Kind) (vars : List TypeTree) (es : List TermTree) (head u : TypeTree) → AtArguments s kinds vars head (map (λ e. OfTerm e) es) u → (ps : List TypeTree) (r : TypeTree) (σ : Substitution) → length es ≡ length ps → SameTypes (sub (from_each ps r) σ) head → AreGiven s kinds vars (map (λ p. sub p σ) ps) es × SameTypes (sub r σ) u
unfolding sub
terms_given s kinds vars [] head u d [] r σ l x = (tt, subst (SameTypes (sub r σ)) (no_argument d) x)
terms_given s kinds vars [] head u d (q ∷ ps) r σ l x = absurd (let e : zero ≡ suc (length ps) = l in cc)
terms_given s kinds vars (e ∷ es) head u d [] r σ l x = absurd (let e : suc (length es) ≡ zero = l in cc)
terms_given s kinds vars (e ∷ es) head u d (q ∷ ps) r σ l x =
    let at = first_term d in
    let parts = functions_same (subst (SameTypes (sub (from_each (q ∷ ps) r) σ)) (sym at.is) x) in
    let m : suc (length es) ≡ suc (length ps) = l in
    let rest = terms_given s kinds vars es at.result u at.leads ps r σ (cc) parts.1 in
    ((record { type = at.has.type; has = at.has.has; same = same_through parts.0 at.has.same }, rest.0), rest.1)

list_of_trees : (ts : List TypeTree) → list_of (trees_of ts) ≡ ts
list_of_trees [] = refl
list_of_trees (t ∷ ts) = ap (λ us. t ∷ us) (list_of_trees ts)

pub turned_arguments : (types : List TypeTree) → reverse types ++ [] ≡ reverse (list_of (trees_of types))
turned_arguments types = append-nil (reverse types) ∙ ap reverse (sym (list_of_trees types))

pub schema_at_arguments : (s : Setting) (kinds : List Kind) (vars : List TypeTree) (e : TermTree) (ks : List Kind) (ps : List TypeTree) (r : TypeTree) (types : List TypeTree) (es : List TermTree) (t : TypeTree) → IsSound s → AreTermTypes s kinds vars → HasType s kinds vars e (for_each ks (from_each ps r)) → length types ≡ length ks → length es ≡ length ps → HasType s kinds vars (applied e (types_then types es)) t → IsSaturated s kinds vars ks ps r types es t
schema_at_arguments s kinds vars e ks ps r types es t h g schema l m d =
    record { have = types_in.have; args_given = terms_in.0; gives = terms_in.1 }
  where
    whole : TypeTree
    whole = for_each ks (from_each ps r)

    at : HeadTyped s kinds vars e (types_then types es) t
    at = head_typed s kinds vars e (types_then types es) t d

    head_same : SameTypes (sub whole (given [])) at.0
    head_same = subst (λ w. SameTypes w at.0) (sym (sub_ids whole)) (one_type schema at.1 h g g (are_same_self vars))

    schema_kind : IsTermType s kinds whole
    schema_kind = type_kinded schema h g

    head_kind : IsTermType s kinds at.0
    head_kind = type_kinded at.1 h g

    types_in : TypesGiven s kinds vars ks (from_each ps r) [] types (map (λ e. OfTerm e) es) t
    types_in =
        types_given s kinds vars types (map (λ e. OfTerm e) es) at.0 t h at.2 ks (from_each ps r) kinds [] head_kind.kind schema_kind.kind l schema_kind.has head_same head_kind.has (λ x k e. kind_var e)

    terms_in : AreGiven s kinds vars (map (λ p. sub p (arguments (trees_of types))) ps) es × SameTypes (sub r (arguments (trees_of types))) t
    terms_in =
        terms_given s kinds vars es types_in.type t types_in.leads ps r (arguments (trees_of types)) m (subst (λ ts. SameTypes (sub (from_each ps r) (given ts)) types_in.type) (turned_arguments types) types_in.same_type)

-- the type at the place of a binder, seen from within
given_behind : (ts : List TypeTree) (t : TypeTree) (more : List TypeTree) → given (ts ++ t ∷ more) (length ts) ≡ t
given_behind [] t more = refl
given_behind (u ∷ ts) t more = given_behind ts t more

-- the binders' own variables become the types
variables_given : (types more : List TypeTree) → sub_all (variables (length types)) (given (reverse types ++ more)) ≡ trees_of types
unfolding sub
variables_given [] more = refl
variables_given (t ∷ types) more =
    ap (λ ts. sub_all (variables (suc (length types))) (given ts)) (turned_onto t types more)
    ∙ (λ i. type_and (head i) (variables_given types (t ∷ more) i))
  where
    head : given (reverse types ++ t ∷ more) (length types) ≡ t
    head = ap (given (reverse types ++ t ∷ more)) (sym (length-reverse types)) ∙ given_behind (reverse types) t more

data_at_arguments : (d n : ℕ) (types : List TypeTree) → length types ≡ n → sub (data_of d (variables n)) (arguments (trees_of types)) ≡ data_of d (trees_of types)
unfolding sub
data_at_arguments d n types l =
    ap (λ m. data_of d (sub_all (variables m) (arguments (trees_of types)))) (sym l)
    ∙ ap (λ ts. data_of d (sub_all (variables (length types)) (given ts))) (sym (turned_arguments types))
    ∙ ap (data_of d) (variables_given types [])

pub con_at_arguments : (s : Setting) (kinds : List Kind) (vars : List TypeTree) (c : ℕ) (it : Constructor) (types : List TypeTree) (es : List TermTree) (t : TypeTree) → IsSound s → AreTermTypes s kinds vars → con_at s.datas c ≡ Some it → length types ≡ length it.it.params → length es ≡ length it.decl.fields → HasType s kinds vars (applied (con c) (types_then types es)) t → KindsOf s.datas s.domains kinds (trees_of types) it.it.params × AreGiven s kinds vars (fields_at it (trees_of types)) es × SameTypes (data_of it.of (trees_of types)) t
con_at_arguments s kinds vars c it types es t h g e l m d =
    let r = data_of it.of (variables (length it.it.params)) in
    let all = schema_at_arguments s kinds vars (con c) it.it.params it.decl.fields r types es t h g (h_con e) l m d in
    (all.have, all.args_given, subst (λ w. SameTypes w t) (data_at_arguments it.of (length it.it.params) types l) all.gives)

pub prim_at_arguments : (s : Setting) (kinds : List Kind) (vars : List TypeTree) (p : Prim) (ks : List Kind) (ps : List TypeTree) (r : TypeTree) (types : List TypeTree) (es : List TermTree) (t : TypeTree) → IsSound s → AreTermTypes s kinds vars → schema_type p ≡ for_each ks (from_each ps r) → length types ≡ length ks → length es ≡ length ps → HasType s kinds vars (applied (prim p) (types_then types es)) t → IsSaturated s kinds vars ks ps r types es t
prim_at_arguments s kinds vars p ks ps r types es t h g is =
    schema_at_arguments s kinds vars (prim p) ks ps r types es t h g (subst (HasType s kinds vars (prim p)) is h_prim)
