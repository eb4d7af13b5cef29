-- The kinds of the variables in scope.
use Rattle.std.proofs.Common.{◌≡◌, ℕ, suc, zero, ◌+◌, ◌<◌, ◌≤◌, Some, refl, sym, ap, ◌∙◌, subst, List, [], ◌∷◌, ◌++◌, map, length, reverse, take, get_or}
use Rattle.std.specs.List.{slice_get}
use Rattle.std.proofs.lemmas.List.{map-append, take_all, reverse-reverse, reverse-append, append-nil}
use Rattle.std.proofs.lemmas.Option.{same_Some}
use Rattle.chw_types.specs.declared.kind.Kind.{Kind}
use Rattle.chw_types.specs.TypeTree.{TypeTree}
use Rattle.chw_types.specs.Kinds.{IsOfTerms}
use Rattle.chw_types.specs.TypeMoves.{raised}
use Rattle.chw_types.proofs.KindsKept.{kind_renamed, renames_shift}
use Rattle.chw_terms.specs.declared.term.Binding.{Binding}
use Rattle.chw_typing.specs.Programs.{IsSound}
use Rattle.chw_typing.specs.Scopes.{Setting, HasKind, AreTermTypes, under_binder, with_more}
use Rattle.chw_typing.proofs.Kinded.{typed_reverse}
use Rattle.chw_typing.proofs.Lists.{reverse_cons}
use Rattle.term_types.specs.Answers.{IsReady, IsSet}
use Rattle.term_frames.specs.FieldTypes.{kinds_by_form}
use Rattle.term_types.specs.Groups.{AreKinded, IsGroup}
use Rattle.term_frames.specs.InScope.{InScope}
use Rattle.term_spines.specs.Kinding.{HaveKinds}
use Rattle.term_frames.specs.VarsView.{written_types, written_kinds, bound_types, bound_kinds}
use Rattle.term_frames.specs.declared.fields.Bound.{Bound}
use Rattle.seen_types.specs.declared.found.Kinded.{Kinded}
use Rattle.term_types.specs.declared.groups.Group.{Group}
use Rattle.seen_types.proofs.EachItem.{next_taken}
use Rattle.term_types.proofs.Lambdas.{lam_ready}
use Rattle.term_types.proofs.PutFields.{kind_is_by_form}
use Rattle.term_types.proofs.Ready.{ready_under, ready_more}
use Rattle.term_frames.proofs.VarsFound.{types_of}

pub kinds_append : (s : Setting) (kinds : List Kind) (ts us : List TypeTree) (ks ls : List Kind) → HaveKinds s kinds ts ks → HaveKinds s kinds us ls → HaveKinds s kinds (ts ++ us) (ks ++ ls)
kinds_append s kinds [] us [] ls h g = g
kinds_append s kinds (t ∷ ts) us (k ∷ ks) ls h g = (h.0, kinds_append s kinds ts us ks ls h.1 g)
kinds_append s kinds [] us (k ∷ ks) ls h g = absurd h
kinds_append s kinds (t ∷ ts) us [] ls h g = absurd h

kinds_reverse : (s : Setting) (kinds : List Kind) (ts : List TypeTree) (ks : List Kind) → HaveKinds s kinds ts ks → HaveKinds s kinds (reverse ts) (reverse ks)
kinds_reverse s kinds [] [] h = tt
kinds_reverse s kinds (t ∷ ts) (k ∷ ks) h =
    subst (λ us. HaveKinds s kinds us (reverse (k ∷ ks))) (sym (reverse_cons t ts)) (subst (HaveKinds s kinds (reverse ts ++ t ∷ [])) (sym (reverse_cons k ks))
    (kinds_append s kinds (reverse ts) (t ∷ []) (reverse ks) (k ∷ []) (kinds_reverse s kinds ts ks h.1) (h.0, tt)))
kinds_reverse s kinds [] (k ∷ ks) h = absurd h
kinds_reverse s kinds (t ∷ ts) [] h = absurd h

kinds_under : (s : Setting) (kinds : List Kind) (j : Kind) (ts : List TypeTree) (ks : List Kind) → HaveKinds s kinds ts ks → HaveKinds s (j ∷ kinds) (under_binder ts) ks
kinds_under s kinds j [] [] h = tt
kinds_under s kinds j (t ∷ ts) (k ∷ ks) h = (kind_renamed h.0 (raised 0 1) (j ∷ kinds) (renames_shift [] (j ∷ []) kinds), kinds_under s kinds j ts ks h.1)
kinds_under s kinds j [] (k ∷ ks) h = absurd h
kinds_under s kinds j (t ∷ ts) [] h = absurd h

pub kind_at : (s : Setting) (kinds : List Kind) (ts : List TypeTree) (ks : List Kind) (n : ℕ) (t : TypeTree) (k : Kind) → HaveKinds s kinds ts ks → slice_get ts n ≡ Some t → slice_get ks n ≡ Some k → HasKind s kinds t k
kind_at s kinds [] ks n t k h e d = absurd (cc)
kind_at s kinds (u ∷ ts) [] n t k h e d = absurd h
kind_at s kinds (u ∷ ts) (j ∷ ks) zero t k h e d = subst (HasKind s kinds t) (same_Some j k d) (subst (λ w. HasKind s kinds w j) (same_Some u t e) h.0)
kind_at s kinds (u ∷ ts) (j ∷ ks) (suc n) t k h e d = kind_at s kinds ts ks n t k h.1 e d

-- a scope of these types and kinds
pub set_of : (s : Setting) (kinds : List Kind) (scope : InScope) (ts : List TypeTree) (ks : List Kind) → scope.vars ≡ ts → scope.kinds ≡ ks → IsReady s kinds ts → HaveKinds s kinds ts ks → IsSet s kinds scope
set_of s kinds scope ts ks e d h g = (subst (IsReady s kinds) (sym e) h, subst (λ us. HaveKinds s kinds us scope.kinds) (sym e) (subst (HaveKinds s kinds ts) (sym d) g))

-- with more variables
pub set_more : (s : Setting) (kinds : List Kind) (outer scope : InScope) (new : List TypeTree) (ks : List Kind) → scope.vars ≡ with_more new outer.vars → scope.kinds ≡ reverse ks ++ outer.kinds → IsSet s kinds outer → AreTermTypes s kinds new → HaveKinds s kinds new ks → IsSet s kinds scope
set_more s kinds outer scope new ks e d h typed g =
    set_of s kinds scope (with_more new outer.vars) (reverse ks ++ outer.kinds) e d (ready_more s kinds outer.vars new h.0 typed)
    (kinds_append s kinds (reverse new) outer.vars (reverse ks) outer.kinds (kinds_reverse s kinds new ks g) h.1)

-- under one more type binder
pub set_under : (s : Setting) (kinds inner : List Kind) (k : Kind) (outer scope : InScope) → inner ≡ k ∷ kinds → scope.vars ≡ under_binder outer.vars → scope.kinds ≡ outer.kinds → IsSet s kinds outer → IsSet s inner scope
set_under s kinds inner k outer scope is e d h =
    subst (λ ks. IsSet s ks scope) (sym is) (set_of s (k ∷ kinds) scope (under_binder outer.vars) outer.kinds e d (ready_under s kinds outer.vars k h.0) (kinds_under s kinds k outer.vars outer.kinds h.1))

-- types with their kinds
pub kinded_types : (s : Setting) (kinds : List Kind) (ts : List TypeTree) (ks : List Kinded) → AreKinded s kinds ts ks → written_types ks ≡ ts
kinded_types s kinds [] [] h = refl
kinded_types s kinds (t ∷ ts) (k ∷ ks) h = λ i. h.0.0 i ∷ kinded_types s kinds ts ks h.1 i
kinded_types s kinds [] (k ∷ ks) h = absurd h
kinded_types s kinds (t ∷ ts) [] h = absurd h

pub kinded_kinds : (s : Setting) (kinds : List Kind) (ts : List TypeTree) (ks : List Kinded) → AreKinded s kinds ts ks → HaveKinds s kinds ts (written_kinds ks)
kinded_kinds s kinds [] [] h = tt
kinded_kinds s kinds (t ∷ ts) (k ∷ ks) h = (h.0.1, kinded_kinds s kinds ts ks h.1)
kinded_kinds s kinds [] (k ∷ ks) h = absurd h
kinded_kinds s kinds (t ∷ ts) [] h = absurd h

kinded_last : (s : Setting) (kinds : List Kind) (ts : List TypeTree) (ks : List Kinded) (t : TypeTree) (k : Kinded) → AreKinded s kinds ts ks → (k.ty.now ≡ t) × HasKind s kinds t k.kind → AreKinded s kinds (ts ++ t ∷ []) (ks ++ k ∷ [])
kinded_last s kinds [] [] t k h g = (g, tt)
kinded_last s kinds (u ∷ ts) (j ∷ ks) t k h g = (h.0, kinded_last s kinds ts ks t k h.1 g)
kinded_last s kinds [] (j ∷ ks) t k h g = absurd h
kinded_last s kinds (u ∷ ts) [] t k h g = absurd h

-- one more item with its type
pub kinded_next : {A : Type 0} (s : Setting) (kinds : List Kind) (f : A → TypeTree) (xs : List A) (i : ℕ) (x d : A) (ks more : List Kinded) (k : Kinded) → i < length xs → x ≡ get_or xs i d → AreKinded s kinds (map f (take i xs)) ks → k.ty.now ≡ f x → HasKind s kinds (f x) k.kind → more ≡ ks ++ k ∷ [] → AreKinded s kinds (map f (take (i + 1) xs)) more
kinded_next s kinds f xs i x d ks more k l is h e g m =
    subst (λ ts. AreKinded s kinds ts more) (sym (ap (map f) (next_taken xs i x d l is) ∙ map-append f (take i xs) (x ∷ [])))
    (subst (AreKinded s kinds (map f (take i xs) ++ f x ∷ [])) (sym m) (kinded_last s kinds (map f (take i xs)) ks (f x) k h (e, g)))

pub kinded_all : {A : Type 0} (s : Setting) (kinds : List Kind) (f : A → TypeTree) (xs : List A) (i : ℕ) (ks : List Kinded) → length xs ≤ i → AreKinded s kinds (map f (take i xs)) ks → AreKinded s kinds (map f xs) ks
kinded_all s kinds f xs i ks l h = subst (λ ys. AreKinded s kinds (map f ys) ks) (take_all i xs l) h

-- with the variable of a lambda
pub lam_set : (s : Setting) (kinds : List Kind) (outer scope : InScope) (a : TypeTree) (j : Kind) → scope.vars ≡ a ∷ outer.vars → scope.kinds ≡ j ∷ outer.kinds → IsSet s kinds outer → HasKind s kinds a j × IsOfTerms j → IsSet s kinds scope
lam_set s kinds outer scope a j e d h g = set_of s kinds scope (a ∷ outer.vars) (j ∷ outer.kinds) e d (lam_ready s kinds outer.vars a j h.0 g) (g.0, h.1)

-- a scope with more variables of these types
pub record Inside (s : Setting) (kinds : List Kind) (outer scope : InScope) (new : List TypeTree) : Type 0 where
  pub vars : scope.vars ≡ with_more new outer.vars
  pub set : IsSet s kinds scope

-- with the variables of a letrec
pub group_inside : (s : Setting) (kinds : List Kind) (bs : List Binding) (g : Group) (slice : List Kinded) (outer scope : InScope) → IsSet s kinds outer → IsGroup s kinds bs g → slice ≡ g.types.items → scope.vars ≡ with_more (written_types slice) outer.vars → scope.kinds ≡ reverse (written_kinds slice) ++ outer.kinds → Inside s kinds outer scope (types_of bs)
group_inside s kinds bs g slice outer scope h k is e d =
    let types = ap written_types is ∙ kinded_types s kinds (types_of bs) g.types.items k.types in
    let vars = e ∙ ap (λ ts. with_more ts outer.vars) types in
    let all = kinded_kinds s kinds (types_of bs) g.types.items k.types in
    record { vars = vars; set = set_more s kinds outer scope (types_of bs) (written_kinds g.types.items) vars (d ∙ ap (λ ks. reverse (written_kinds ks) ++ outer.kinds) is) h k.kind.typed all }

-- with the variables of a pattern
pub fields_inside : (s : Setting) (kinds : List Kind) (bound : Bound) (outer scope : InScope) → IsSet s kinds outer → AreTermTypes s kinds (bound_types bound) → HaveKinds s kinds (bound_types bound) (bound_kinds bound) → scope.vars ≡ with_more (bound_types bound) outer.vars → scope.kinds ≡ reverse (bound_kinds bound) ++ outer.kinds → Inside s kinds outer scope (bound_types bound)
fields_inside s kinds bound outer scope h typed all e d =
    record { vars = e; set = set_more s kinds outer scope (bound_types bound) (bound_kinds bound) e d h typed all }

-- all of a list that is turned round
pub typed_turned : (s : Setting) (kinds : List Kind) (ts : List TypeTree) → AreTermTypes s kinds (reverse ts) → AreTermTypes s kinds ts
typed_turned s kinds ts h = subst (AreTermTypes s kinds) (reverse-reverse ts) (typed_reverse s kinds (reverse ts) h)

-- types that terms have, with their kinds
have_kinds_by_form : (s : Setting) (kinds : List Kind) (ts : List TypeTree) → AreTermTypes s kinds ts → HaveKinds s kinds ts (kinds_by_form s kinds ts)
have_kinds_by_form s kinds [] h = tt
have_kinds_by_form s kinds (t ∷ ts) h = (subst (HasKind s kinds t) (sym (kind_is_by_form h.0.has)) h.0.has, have_kinds_by_form s kinds ts h.1)

-- no variables
none_set : (s : Setting) (kinds : List Kind) (none : InScope) → IsSound s → none.vars ≡ [] → none.kinds ≡ [] → IsSet s kinds none
none_set s kinds none h v w = set_of s kinds none [] [] v w (h, tt) tt

-- with these variables from outside, each with the kind that its type has by its form
pub record IsPart (s : Setting) (kinds : List Kind) (ts : List TypeTree) (bound : Bound) (outer scope : InScope) : Type 0 where
  pub types : bound_types bound ≡ ts
  pub by_form : bound_kinds bound ≡ kinds_by_form s kinds ts
  pub vars : scope.vars ≡ with_more (bound_types bound) outer.vars
  pub all : scope.kinds ≡ reverse (bound_kinds bound) ++ outer.kinds

part_inside : (s : Setting) (kinds : List Kind) (ts : List TypeTree) (bound : Bound) (outer scope : InScope) → IsPart s kinds ts bound outer scope → IsSet s kinds outer → AreTermTypes s kinds ts → Inside s kinds outer scope ts
part_inside s kinds ts bound outer scope part h typed =
    let vars = part.vars ∙ ap (λ us. with_more us outer.vars) part.types in
    let all = part.all ∙ ap (λ ks. reverse ks ++ outer.kinds) part.by_form in
    record { vars = vars; set = set_more s kinds outer scope ts (kinds_by_form s kinds ts) vars all h typed (have_kinds_by_form s kinds ts typed) }

-- a scope of these types
pub record IsScope (s : Setting) (kinds : List Kind) (ts : List TypeTree) (scope : InScope) : Type 0 where
  pub vars : scope.vars ≡ reverse ts
  pub set : IsSet s kinds scope

with_none : (ts vars : List TypeTree) → vars ≡ [] → with_more ts vars ≡ reverse ts
with_none ts vars e = ap (with_more ts) e ∙ append-nil (reverse ts)

-- with no variables but those from outside
pub outside_inside : (s : Setting) (kinds : List Kind) (ts : List TypeTree) (bound : Bound) (none scope : InScope) → IsReady s kinds (reverse ts) → none.vars ≡ [] → none.kinds ≡ [] → IsPart s kinds ts bound none scope → IsScope s kinds ts scope
outside_inside s kinds ts bound none scope h v w part =
    let inside = part_inside s kinds ts bound none scope part (none_set s kinds none h.0 v w) (typed_turned s kinds ts h.1) in
    record { vars = inside.vars ∙ with_none ts none.vars v; set = inside.set }

-- the two parts of a list of types of terms
typed_front : (s : Setting) (kinds : List Kind) (ts us : List TypeTree) → AreTermTypes s kinds (ts ++ us) → AreTermTypes s kinds ts
typed_front s kinds [] us h = tt
typed_front s kinds (t ∷ ts) us h = (h.0, typed_front s kinds ts us h.1)

typed_back : (s : Setting) (kinds : List Kind) (ts us : List TypeTree) → AreTermTypes s kinds (ts ++ us) → AreTermTypes s kinds us
typed_back s kinds [] us h = h
typed_back s kinds (t ∷ ts) us h = typed_back s kinds ts us h.1

-- three lists that are turned round
turned : (xs ys zs : List TypeTree) → reverse (xs ++ ys ++ zs) ≡ reverse zs ++ (reverse ys ++ reverse xs)
turned xs ys zs = reverse-append (xs ++ ys) zs ∙ ap (λ ts. reverse zs ++ ts) (reverse-append xs ys)

-- with no variables but those from outside, in three parts
pub parts_inside : (s : Setting) (kinds : List Kind) (xs ys zs ts : List TypeTree) (x y z : Bound) (none outer middle scope : InScope) → xs ++ ys ++ zs ≡ ts → IsReady s kinds (reverse ts) → none.vars ≡ [] → none.kinds ≡ [] → IsPart s kinds xs x none outer → IsPart s kinds ys y outer middle → IsPart s kinds zs z middle scope → IsScope s kinds ts scope
parts_inside s kinds xs ys zs ts x y z none outer middle scope is h v w first second third =
    let typed = subst (AreTermTypes s kinds) (sym is) (typed_turned s kinds ts h.1) in
    let front = typed_front s kinds (xs ++ ys) zs typed in
    let a = part_inside s kinds xs x none outer first (none_set s kinds none h.0 v w) (typed_front s kinds xs ys front) in
    let b = part_inside s kinds ys y outer middle second a.set (typed_back s kinds xs ys front) in
    let d = part_inside s kinds zs z middle scope third b.set (typed_back s kinds (xs ++ ys) zs typed) in
    let vars = d.vars ∙ ap (with_more zs) (b.vars ∙ ap (with_more ys) (a.vars ∙ with_none xs none.vars v)) in
    record { vars = vars ∙ sym (turned xs ys zs) ∙ ap reverse is; set = d.set }
