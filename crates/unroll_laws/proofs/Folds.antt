-- Folds: what they are unrolled to has their type.
use Rattle.std.proofs.Common.{◌≡◌, ℕ, suc, zero, ◌+◌, ◌<◌, refl, sym, subst, List, [], ◌∷◌, ◌++◌, map, reverse, arith}
use Rattle.std.specs.Prelude.{Some}
use Rattle.std.specs.List.{fold, range_with_len, AllByRecursion}
use Rattle.std.proofs.lemmas.List.{append-nil}
use Rattle.chw_types.specs.declared.kind.Kind.{Kind}
use Rattle.chw_types.specs.TypeTree.{TypeTree, ty_var, nat_lit, vector, fun}
use Rattle.chw_types.specs.TypeMoves.{sub}
use Rattle.chw_types.specs.Kinds.{IsOfTerms}
use Rattle.chw_types.specs.SameTypes.{SameTypes, same_vector}
use Rattle.chw_types.proofs.SameLaws.{same_self}
use Rattle.chw_prims.specs.declared.row.Row.TheVariants.{FoldedLeft, FoldedRight}
use Rattle.chw_terms.specs.TermTree.{TermTree, var, app}
use Rattle.chw_terms.specs.Evaluated.{evaluated}
use Rattle.chw_terms.specs.Unrolled.{element, body_of}
use Rattle.chw_typing.specs.Scopes.{Setting, HasKind}
use Rattle.chw_typing.specs.Typing.{HasType, h_var, h_app}
use Rattle.chw_typing.proofs.Lists.{turned_onto}
use Rattle.unroll_laws.proofs.Elements.{element_typed, has_itself}
use Rattle.unroll_laws.proofs.Kept.{Call, Keeps}
use Rattle.unroll_laws.proofs.Shapes.{kept_2}
use Rattle.unroll_laws.proofs.Sized.{Sized2, is_sized_2, sized_view_2, number_same}

-- each of these numbers is below the end
abbrev AllBelow : ℕ → List ℕ → Type 0
AllBelow n js = AllByRecursion (λ j. j < n) js

below_from : (n from len : ℕ) → from + len ≡ n → AllBelow n (range_with_len from len)
below_from n from zero e = tt
below_from n from (suc len) e = (omega arith, below_from n (from + 1) len (omega arith))

below_onto : (n : ℕ) (is js : List ℕ) → AllBelow n is → AllBelow n js → AllBelow n (reverse is ++ js)
below_onto n [] js h g = g
below_onto n (i ∷ is) js h g = subst (AllBelow n) (sym (turned_onto i is js)) (below_onto n is (i ∷ js) h.1 (h.0, g))

below_range : (n : ℕ) → AllBelow n (range_with_len 0 n)
below_range n = below_from n 0 n (omega arith)

below_turned : (n : ℕ) → AllBelow n (reverse (range_with_len 0 n))
below_turned n = subst (AllBelow n) (append-nil (reverse (range_with_len 0 n))) (below_onto n (range_with_len 0 n) [] (below_range n) tt)

-- a step that keeps the type, for each of some places
fold_typed : (s : Setting) (kinds : List Kind) (vars : List TypeTree) (t : TypeTree) (n : ℕ) (step : TermTree → ℕ → TermTree) → ((e : TermTree) (j : ℕ) → j < n → HasType s kinds vars e t → HasType s kinds vars (step e j) t) → (js : List ℕ) → AllBelow n js → (e : TermTree) → HasType s kinds vars e t → HasType s kinds vars (fold step e js) t
fold_typed s kinds vars t n step h [] below e d = d
fold_typed s kinds vars t n step h (j ∷ js) below e d = fold_typed s kinds vars t n step h js below.1 (step e j) (h e j below.0 d)

-- vfoldl f e v
abbrev left_body : Kind → ℕ → TypeTree → TypeTree → TermTree
left_body k n a b = fold (λ e j. app (app (var 2) e) (element k n a (var 0) j)) (var 1) (range_with_len 0 n)

left_typed : (s : Setting) (kinds : List Kind) (vars : List TypeTree) (k : Kind) (n : ℕ) (a b v : TypeTree) → IsOfTerms k → HasKind s kinds a k → SameTypes (vector (nat_lit n) a) v → HasType s kinds (v ∷ b ∷ fun b (fun a b) ∷ vars) (left_body k n a b) b
left_typed s kinds vars k n a b v o of_a x =
    fold_typed s kinds scope b n (λ e j. app (app (var 2) e) (element k n a (var 0) j)) one (range_with_len 0 n) (below_range n) (var 1) (h_var refl)
  where
    scope : List TypeTree
    scope = v ∷ b ∷ fun b (fun a b) ∷ vars

    one : (e : TermTree) (j : ℕ) → j < n → HasType s kinds scope e b → HasType s kinds scope (app (app (var 2) e) (element k n a (var 0) j)) b
    one e j l d =
        h_app (h_app (h_var {t = fun b (fun a b)} refl) d (same_self b)) (element_typed s kinds scope k n j a v (var 0) o of_a l (h_var refl) x) (same_self a)

left_at : (k : Kind) {types : List TypeTree} {body : TermTree} (args : List TermTree) → IsOfTerms k → Sized2 (left_body k) types body → (c : Call (FoldedLeft k) types args) → Keeps (FoldedLeft k) types args c body
unfolding sub evaluated
left_at k args o (is_sized_2 {size = size} {a = a} {b = b} n e) c =
    kept_2 (FoldedLeft k) size a b args c n k (fun (ty_var 0) (fun (ty_var 1) (ty_var 0)) ∷ ty_var 0 ∷ vector (ty_var 2) (ty_var 1) ∷ []) (ty_var 0) (left_body k n (evaluated a) (evaluated b)) e o refl c.many
    (λ of_a of_b. has_itself (left_typed c.s c.kinds c.vars k n (evaluated a) (evaluated b) (vector (evaluated size) (evaluated a)) o of_a (same_vector (number_same size n e) (same_self (evaluated a)))))

pub folded_left : (k : Kind) (types : List TypeTree) (args : List TermTree) (body : TermTree) → IsOfTerms k → body_of (FoldedLeft k) (map evaluated types) ≡ Some body → (c : Call (FoldedLeft k) types args) → Keeps (FoldedLeft k) types args c body
folded_left k types args body o e c = left_at k args o (sized_view_2 (left_body k) types body e) c

-- vfoldr f e v
abbrev right_body : Kind → ℕ → TypeTree → TypeTree → TermTree
right_body k n a b = fold (λ e j. app (app (var 2) (element k n a (var 0) j)) e) (var 1) (reverse (range_with_len 0 n))

right_typed : (s : Setting) (kinds : List Kind) (vars : List TypeTree) (k : Kind) (n : ℕ) (a b v : TypeTree) → IsOfTerms k → HasKind s kinds a k → SameTypes (vector (nat_lit n) a) v → HasType s kinds (v ∷ b ∷ fun a (fun b b) ∷ vars) (right_body k n a b) b
right_typed s kinds vars k n a b v o of_a x =
    fold_typed s kinds scope b n (λ e j. app (app (var 2) (element k n a (var 0) j)) e) one (reverse (range_with_len 0 n)) (below_turned n) (var 1) (h_var refl)
  where
    scope : List TypeTree
    scope = v ∷ b ∷ fun a (fun b b) ∷ vars

    one : (e : TermTree) (j : ℕ) → j < n → HasType s kinds scope e b → HasType s kinds scope (app (app (var 2) (element k n a (var 0) j)) e) b
    one e j l d =
        h_app (h_app (h_var {t = fun a (fun b b)} refl) (element_typed s kinds scope k n j a v (var 0) o of_a l (h_var refl) x) (same_self a)) d (same_self b)

right_at : (k : Kind) {types : List TypeTree} {body : TermTree} (args : List TermTree) → IsOfTerms k → Sized2 (right_body k) types body → (c : Call (FoldedRight k) types args) → Keeps (FoldedRight k) types args c body
unfolding sub evaluated
right_at k args o (is_sized_2 {size = size} {a = a} {b = b} n e) c =
    kept_2 (FoldedRight k) size a b args c n k (fun (ty_var 1) (fun (ty_var 0) (ty_var 0)) ∷ ty_var 0 ∷ vector (ty_var 2) (ty_var 1) ∷ []) (ty_var 0) (right_body k n (evaluated a) (evaluated b)) e o refl c.many
    (λ of_a of_b. has_itself (right_typed c.s c.kinds c.vars k n (evaluated a) (evaluated b) (vector (evaluated size) (evaluated a)) o of_a (same_vector (number_same size n e) (same_self (evaluated a)))))

pub folded_right : (k : Kind) (types : List TypeTree) (args : List TermTree) (body : TermTree) → IsOfTerms k → body_of (FoldedRight k) (map evaluated types) ≡ Some body → (c : Call (FoldedRight k) types args) → Keeps (FoldedRight k) types args c body
folded_right k types args body o e c = right_at k args o (sized_view_2 (right_body k) types body e) c
