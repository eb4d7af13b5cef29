-- The fields of a constructor at closed types: their types and kinds.
use Rattle.std.proofs.Common.{◌++◌, ◌∙◌, ◌∷◌, ◌≡◌, List, Some, [], ap, length, map, refl, reverse, subst, suc, sym, zero, ℕ}
use Rattle.std.proofs.lemmas.List.{append-nil}
use Rattle.std.specs.List.{slice_get}
use Rattle.chw_base.specs.declared.index.ConId.{ConId}
use Rattle.chw_types.specs.Arguments.{arguments}
use Rattle.chw_types.specs.Kinds.{HasFunctions, KindOf, KindsOf}
use Rattle.chw_types.specs.TypeMoves.{sub}
use Rattle.chw_types.specs.TypeTree.{TypeTree, TypeTrees, data_of}
use Rattle.chw_types.specs.declared.declarations.Data.{Data}
use Rattle.chw_types.specs.declared.kind.Kind.{Kind}
use Rattle.chw_terms.specs.Constructors.{Constructor, con_at}
use Rattle.chw_terms.specs.declared.term.Pattern.{Pattern}
use Rattle.chw_terms.specs.declared.term.Pattern.TheVariants.{OfCon}
use Rattle.chw_typing.proofs.Heads.{con_kind, functions_of_terms}
use Rattle.chw_typing.proofs.Kinded.{bound_part, function_parts}
use Rattle.chw_typing.proofs.Lists.{turned_onto}
use Rattle.chw_typing.proofs.FieldKinds.{closed_put}
use Rattle.chw_typing.specs.HeadTypes.{PatternOf, fields_at, for_each, from_each, of_any, of_con, of_lit, variables}
use Rattle.chw_typing.specs.Programs.{IsSound}
use Rattle.chw_typing.specs.Scopes.{AreTermTypes, HasKind, Setting}
use Rattle.chw_typing.proofs.Applied.{functions_compose}
use Rattle.chw_typing.specs.Given.{AllAllow}

-- what a kind of functions says of the parameters
parameters_allow : (datas : List Data) (domains : ℕ) (scope : List Kind) (ps : List TypeTree) (r : TypeTree) (k : Kind) → KindOf datas domains scope (from_each ps r) k → (i : ℕ) (p : TypeTree) → slice_get ps i ≡ Some p → (j : Kind) × KindOf datas domains scope p j × HasFunctions j k
parameters_allow datas domains scope [] r k d i p e = absurd (cc)
parameters_allow datas domains scope (q ∷ ps) r k d zero p e =
    let is : q ≡ p = cc in
    let parts = function_parts d in
    (parts.0, subst (λ q. KindOf datas domains scope q parts.0) is parts.1, parts.3)
parameters_allow datas domains scope (q ∷ ps) r k d (suc i) p e = parameters_allow datas domains scope ps r k (function_parts d).2 i p e

below_binders : (datas : List Data) (domains : ℕ) (ks scope : List Kind) (t : TypeTree) (k : Kind) → KindOf datas domains scope (for_each ks t) k → KindOf datas domains (reverse ks ++ scope) t k
below_binders datas domains [] scope t k d = d
below_binders datas domains (j ∷ ks) scope t k d =
    subst (λ sc. KindOf datas domains sc t k) (sym (turned_onto j ks scope)) (below_binders datas domains ks (j ∷ scope) t k (bound_part d).0)

-- a field at closed types, whose kind allows that of the data type
pub field_typed : (s : Setting) (c : ℕ) (it : Constructor) (ts : TypeTrees) → IsSound s → con_at s.datas c ≡ Some it → KindsOf s.datas s.domains [] ts it.it.params → (i : ℕ) (f : TypeTree) → slice_get it.decl.fields i ≡ Some f → (j : Kind) × HasKind s [] (sub f (arguments ts)) j × HasFunctions j it.it.kind
field_typed s c it ts h e kinds i f g =
    let inside = below_binders s.datas s.domains it.it.params [] (from_each it.decl.fields (data_of it.of (variables (length it.it.params)))) it.it.kind (con_kind s c it h e) in
    let over = subst (λ sc. KindOf s.datas s.domains sc (from_each it.decl.fields (data_of it.of (variables (length it.it.params)))) it.it.kind) (append-nil (reverse it.it.params)) inside in
    let at = parameters_allow s.datas s.domains (reverse it.it.params) it.decl.fields (data_of it.of (variables (length it.it.params))) it.it.kind over i f g in
    (at.0, closed_put s it.it.params ts f at.0 kinds at.1, at.2)

mapped_typed : (s : Setting) (fs : List TypeTree) (ts : TypeTrees) (top k : Kind) → HasFunctions top k → ((i : ℕ) (f : TypeTree) → slice_get fs i ≡ Some f → (j : Kind) × HasKind s [] (sub f (arguments ts)) j × HasFunctions j top) → AllAllow s [] k (map (λ f. sub f (arguments ts)) fs)
mapped_typed s [] ts top k allow h = tt
mapped_typed s (f ∷ fs) ts top k allow h =
    let at = h 0 f refl in
    ((at.0, at.1, functions_compose at.0 top k at.2 allow), mapped_typed s fs ts top k allow (λ i g e. h (suc i) g e))

-- so all of them
pub fields_allow : (s : Setting) (c : ℕ) (it : Constructor) (ts : TypeTrees) (k : Kind) → IsSound s → con_at s.datas c ≡ Some it → KindsOf s.datas s.domains [] ts it.it.params → HasFunctions it.it.kind k → AllAllow s [] k (fields_at it ts)
fields_allow s c it ts k h e kinds allow = mapped_typed s it.decl.fields ts it.it.kind k allow (field_typed s c it ts h e kinds)

pub allowed_typed : (s : Setting) (kinds : List Kind) (k : Kind) (ts : List TypeTree) → AllAllow s kinds k ts → AreTermTypes s kinds ts
allowed_typed s kinds k [] h = tt
allowed_typed s kinds k (t ∷ ts) h =
    (record { kind = h.0.0; has = h.0.1; of_terms = (functions_of_terms h.0.0 k h.0.2).0 }, allowed_typed s kinds k ts h.1)

one_constructor : (datas : List Data) (it other : Constructor) (c : ℕ) → con_at datas c ≡ Some it → con_at datas c ≡ Some other → it ≡ other
one_constructor datas it other c e f = let g : Some it ≡ Some other = sym e ∙ f in cc

-- the fields that a constructor's pattern binds
pub con_fields : {datas : List Data} {v : TypeTree} {q : Pattern} {fields : List TypeTree} → PatternOf datas v q fields → (it : Constructor) (d n : ℕ) (ts : TypeTrees) (c : ConId) → v ≡ data_of d ts → q ≡ OfCon c n → con_at datas c.number ≡ Some it → (fields ≡ fields_at it ts) × (length it.decl.fields ≡ n)
con_fields {datas} (of_con {n = m} {c = c'} {ts = us} other f p l) it d n ts c x y e =
    let same : c' ≡ c = cc in
    let count : m ≡ n = cc in
    let at : us ≡ ts = cc in
    let is : other ≡ it = one_constructor datas other it c.number (ap (λ c. con_at datas c.number) (sym same) ∙ f) e in
    ((λ i. fields_at (is i) (at i)), ap (λ (i : Constructor). length i.decl.fields) (sym is) ∙ l ∙ count)
con_fields (of_lit l e) it d n ts c x y f = absurd (cc)
con_fields of_any it d n ts c x y f = absurd (cc)
