-- The patterns for types that are the same up to naturals, and what they bind.
use Rattle.std.proofs.Common.{◌≡◌, ℕ, suc, refl, sym, ap, ◌∙◌, subst, List, [], ◌∷◌, map, length, reverse}
use Rattle.std.specs.Prelude.{Some}
use Rattle.std.specs.List.{slice_get}
use Rattle.std.proofs.lemmas.List.{length-map}
use Rattle.chw_types.specs.declared.kind.Kind.{Kind}
use Rattle.chw_types.specs.declared.kind.Kind.TheVariants.{Nat}
use Rattle.chw_types.specs.declared.declarations.Data.{Data}
use Rattle.chw_types.specs.TypeTree.{TypeTree, nat_lit, nat_sum, nat_product, ty_var, domain, scalar, vector, data_of, fun, signal, for_all, TypeTrees}
use Rattle.chw_types.specs.TypeMoves.{sub}
use Rattle.chw_types.specs.Arguments.{arguments}
use Rattle.chw_types.specs.Kinds.{KindOf, kind_data, KindsOf}
use Rattle.chw_types.specs.SameTypes.{SameTypes, SameAll}
use Rattle.chw_types.proofs.SameLaws.{same_self, same_turned, same_through}
use Rattle.chw_terms.specs.References.{IsField}
use Rattle.chw_terms.specs.declared.term.Pattern.{Pattern}
use Rattle.chw_terms.specs.declared.term.Pattern.TheVariants.{OfCon, OfLit}
use Rattle.chw_terms.specs.TermTree.{binders}
use Rattle.chw_terms.specs.Constructors.{Constructor, con_at}
use Rattle.type_laws.specs.KindsKept.{AreOfTerms}
use Rattle.type_laws.proofs.Arguing.{same_arguments, kinds_of_arguments}
use Rattle.type_laws.proofs.OneKind.{nat_natural, sums_kind}
use Rattle.type_laws.proofs.PutSame.{same_put}
use Rattle.type_laws.proofs.SameForms.{as_data, as_scalar}
use Rattle.type_laws.proofs.Slots.{sum_slot}
use Rattle.chw_typing.specs.Scopes.{Setting, HasKind, IsTermType, AreTermTypes, AreSame}
use Rattle.chw_typing.specs.HeadTypes.{fields_at, IsLookedAt, PatternOf, of_con, of_lit, of_any}
use Rattle.chw_typing.specs.Programs.{IsSound}
use Rattle.chw_typing.specs.Typing.{Binds}
use Rattle.chw_typing.proofs.Heads.{of_terms_kind, is_constructor}
use Rattle.chw_typing.proofs.PutKinds.{SumsAreNat, sums_put}
use Rattle.chw_typing.proofs.SameScopes.{are_same_turned, are_same_through, are_same_length}

pub are_of_terms : (s : Setting) → IsSound s → AreOfTerms s.datas
are_of_terms s h d it e = of_terms_kind s.datas s.domains it (h.kinds d it e)

-- the arguments of a data type have its parameters' kinds
pub arguments_kinds : {datas : List Data} {domains : ℕ} {scope : List Kind} {d : ℕ} {ts : TypeTrees} {k : Kind} (it : Data) → KindOf datas domains scope (data_of d ts) k → slice_get datas d ≡ Some it → KindsOf datas domains scope ts it.params
arguments_kinds {datas} {domains} {scope} {ts = ts} it (kind_data {it = other} e ds) f =
    let is : other ≡ it = cc in subst (λ i. KindsOf datas domains scope ts i.params) is ds

-- the fields of a constructor have kinds over its data type's parameters
pub fields_typed : (s : Setting) (c : ℕ) (it : Constructor) → IsSound s → con_at s.datas c ≡ Some it → (i : ℕ) (f : TypeTree) → slice_get it.decl.fields i ≡ Some f → IsTermType s (reverse it.it.params) f
fields_typed s c it h e i f g =
    let is = is_constructor s.datas c it e in
    let field : IsField it.it f = record { con = is.place; of = it.decl; is_con = is.decl; at = i; is_field = g } in
    h.fields it.of it.it f is.data_type field

pub constructor_arguments : (s : Setting) (kinds : List Kind) (c d : ℕ) (it : Constructor) (ts : TypeTrees) (j : Kind) → con_at s.datas c ≡ Some it → it.of ≡ d → HasKind s kinds (data_of d ts) j → KindsOf s.datas s.domains kinds ts it.it.params
constructor_arguments s kinds c d it ts j e o k = arguments_kinds it.it k (subst (λ n. slice_get s.datas n ≡ Some it.it) o (is_constructor s.datas c it e).data_type)

-- a pattern binds as many variables as it says
binds_fields : {datas : List Data} {u : TypeTree} {q : Pattern} {ts : List TypeTree} → PatternOf datas u q ts → length ts ≡ binders q
binds_fields (of_con {ts = ts} it e o n) = length-map it.decl.fields (λ f. sub f (arguments ts)) ∙ n
binds_fields (of_lit l e) = refl
binds_fields of_any = refl

pub binds : {s : Setting} {kinds : List Kind} {u : TypeTree} {q : Pattern} {bound : List TypeTree} → Binds s kinds u q bound → length bound ≡ binders q
binds {bound = bound} b = are_same_length b.fields bound b.same ∙ binds_fields b.pattern

-- the fields at arguments that are the same
fields_same : (s : Setting) (kinds params : List Kind) (fs : List TypeTree) (ts us : TypeTrees) → IsSound s → ((i : ℕ) (f : TypeTree) → slice_get fs i ≡ Some f → IsTermType s (reverse params) f) → KindsOf s.datas s.domains kinds ts params → SameAll ts us → AreSame (map (λ f. sub f (arguments ts)) fs) (map (λ f. sub f (arguments us)) fs)
fields_same s kinds params [] ts us h typed d x = tt
fields_same s kinds params (f ∷ fs) ts us h typed d x =
    let k = (typed 0 f refl).has in
    (same_put (same_self f) (arguments ts) (arguments us) (same_arguments ts us x) (λ y z. nat_natural (are_of_terms s h) (kinds_of_arguments s.datas s.domains kinds params ts d y Nat (sum_slot k k y z)) refl), fields_same s kinds params fs ts us h (λ i g e. typed (suc i) g e) d x)

-- the pattern is for the type too, with fields that are the same
pub record PatternSame (datas : List Data) (v : TypeTree) (q : Pattern) (fields : List TypeTree) : Type 0 where
  pub types : List TypeTree
  pub of : PatternOf datas v q types
  pub same : AreSame fields types

pub pattern_same : {s : Setting} {u : TypeTree} {q : Pattern} {fields : List TypeTree} → PatternOf s.datas u q fields → IsSound s → (kinds : List Kind) (j : Kind) (v : TypeTree) → HasKind s kinds u j → SameTypes u v → PatternSame s.datas v q fields
pattern_same {s} (of_con {d = d} {n = n} {c = c} {ts = ts} it e o m) h kinds j v k x =
    let at = as_data x in
    let args = constructor_arguments s kinds c.number d it ts j e o k in
    record {
      types = fields_at it at.0;
      of = subst (λ w. PatternOf s.datas w (OfCon c n) (fields_at it at.0)) (sym at.1) (of_con it e o m);
      same = fields_same s kinds it.it.params it.decl.fields ts at.0 h (fields_typed s c.number it h e) args at.2;
    }
pattern_same {s} (of_lit {s = r} {w = w} {bits = bits} l x) h kinds j v k y =
    let at = as_scalar y in
    record { types = []; of = subst (λ t. PatternOf s.datas t (OfLit r bits) []) (sym at.1) (of_lit l (same_through (same_turned at.2) x)); same = tt }
pattern_same of_any h kinds j v k x = record { types = []; of = of_any; same = tt }

-- so it may bind the same types
pub binds_same : {s : Setting} {kinds : List Kind} {u : TypeTree} {q : Pattern} {bound : List TypeTree} → Binds s kinds u q bound → IsSound s → (j : Kind) (v : TypeTree) → HasKind s kinds u j → SameTypes u v → Binds s kinds v q bound
binds_same {s} {kinds} {bound = bound} b h j v k x =
    let p = pattern_same b.pattern h kinds j v k x in
    record { fields = p.types; pattern = p.of; same = are_same_through p.types b.fields bound (are_same_turned b.fields p.types p.same) b.same; typed = b.typed }

one_found : (datas : List Data) (it other : Constructor) (c d : ℕ) → con_at datas c ≡ Some it → con_at datas d ≡ Some other → c ≡ d → it ≡ other
one_found datas it other c d e f same = let g : Some it ≡ Some other = sym e ∙ ap (con_at datas) same ∙ f in cc

pub one_pattern : {datas : List Data} {u v : TypeTree} {q r : Pattern} {ts us : List TypeTree} → PatternOf datas u q ts → PatternOf datas v r us → u ≡ v → q ≡ r → ts ≡ us
one_pattern {datas} (of_con {c = c} {ts = ts} it e o n) (of_con {c = d} {ts = us} other f p m) x y =
    let same : c ≡ d = cc in
    let at : ts ≡ us = cc in
    let is : it ≡ other = one_found datas it other c.number d.number e f (ap (λ i. i.number) same) in
    λ i. fields_at (is i) (at i)
one_pattern (of_lit l e) (of_lit m f) x y = refl
one_pattern of_any of_any x y = refl
one_pattern (of_con it e o n) (of_lit m f) x y = absurd (cc)
one_pattern (of_con it e o n) of_any x y = absurd (cc)
one_pattern (of_lit l e) (of_con it f o n) x y = absurd (cc)
one_pattern (of_lit l e) of_any x y = absurd (cc)
one_pattern of_any (of_con it f o n) x y = absurd (cc)
one_pattern of_any (of_lit m f) x y = absurd (cc)

-- what a pattern binds is determined up to naturals
pub one_binding : {s : Setting} {kinds : List Kind} {u v : TypeTree} {q : Pattern} {bound bound' : List TypeTree} → Binds s kinds u q bound → Binds s kinds v q bound' → IsSound s → (j : Kind) → HasKind s kinds u j → SameTypes u v → AreSame bound bound'
one_binding {s} {kinds} {v = v} {bound = bound} {bound' = bound'} b c h j k x =
    let p = pattern_same b.pattern h kinds j v k x in
    let is : p.types ≡ c.fields = one_pattern p.of c.pattern refl refl in
    are_same_through bound b.fields bound' (are_same_turned b.fields bound b.same)
    (are_same_through b.fields c.fields bound' (subst (AreSame b.fields) is p.same) c.same)

pub looked_at_same : (u v : TypeTree) → IsLookedAt u → SameTypes u v → IsLookedAt v
looked_at_same (scalar s w) v h e = let at = as_scalar e in subst IsLookedAt (sym at.1) tt
looked_at_same (data_of d ts) v h e = let at = as_data e in subst IsLookedAt (sym at.1) tt
looked_at_same (ty_var x) v h e = absurd h
looked_at_same (nat_lit n) v h e = absurd h
looked_at_same (nat_sum a b) v h e = absurd h
looked_at_same (nat_product a b) v h e = absurd h
looked_at_same (domain d) v h e = absurd h
looked_at_same (vector n t) v h e = absurd h
looked_at_same (fun a b) v h e = absurd h
looked_at_same (signal d t) v h e = absurd h
looked_at_same (for_all k t) v h e = absurd h

-- in each of these types what stands in a sum or product has the kind of naturals
abbrev pub AllSumsAreNat : List Kind → List TypeTree → Type 0
AllSumsAreNat kinds [] = Unit {0}
AllSumsAreNat kinds (t ∷ ts) = SumsAreNat kinds t × AllSumsAreNat kinds ts

pub typed_sums : (s : Setting) (kinds : List Kind) (ts : List TypeTree) → AreTermTypes s kinds ts → AllSumsAreNat kinds ts
typed_sums s kinds [] h = tt
typed_sums s kinds (t ∷ ts) h = (sums_kind h.0.has, typed_sums s kinds ts h.1)

fields_sums : (s : Setting) (kinds params : List Kind) (fs : List TypeTree) (ts : TypeTrees) → ((i : ℕ) (f : TypeTree) → slice_get fs i ≡ Some f → IsTermType s (reverse params) f) → KindsOf s.datas s.domains kinds ts params → AllSumsAreNat kinds (map (λ f. sub f (arguments ts)) fs)
fields_sums s kinds params [] ts typed d = tt
fields_sums s kinds params (f ∷ fs) ts typed d =
    (sums_put (typed 0 f refl).has (arguments ts) kinds (kinds_of_arguments s.datas s.domains kinds params ts d), fields_sums s kinds params fs ts (λ i g e. typed (suc i) g e) d)

-- so it is in the fields of a pattern, though they may have no kinds
pub pattern_sums : {s : Setting} {u : TypeTree} {q : Pattern} {fields : List TypeTree} → PatternOf s.datas u q fields → IsSound s → (kinds : List Kind) (j : Kind) → HasKind s kinds u j → AllSumsAreNat kinds fields
pattern_sums {s} (of_con {d = d} {c = c} {ts = ts} it e o m) h kinds j k =
    fields_sums s kinds it.it.params it.decl.fields ts (fields_typed s c.number it h e) (constructor_arguments s kinds c.number d it ts j e o k)
pattern_sums (of_lit l x) h kinds j k = tt
pattern_sums of_any h kinds j k = tt
