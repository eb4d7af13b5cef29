-- One variable goes, or a term is put for it; and terms in which no variable occurs.
use Rattle.std.proofs.Common.{◌≡◌, ◌≢◌, ◌⊎◌, inl, inr, ℕ, suc, zero, ◌-◌, ◌<◌, ◌≤◌, false, sym, ap, ◌∙◌, arith, subst, List, [], ◌∷◌, ◌++◌, length, Some}
use Rattle.std.specs.List.{slice_get}
use Rattle.std.proofs.lemmas.Bool.{true≢false, cases_lt, cases_eq}
use Rattle.chw_types.specs.declared.kind.Kind.{Kind}
use Rattle.chw_types.specs.TypeTree.{TypeTree}
use Rattle.chw_types.specs.TypeMoves.{rename as rename_type}
use Rattle.chw_types.proofs.SameLaws.{same_self}
use Rattle.chw_types.proofs.TypeLaws.{rename_ids as type_rename_ids}
use Rattle.chw_terms.specs.TermTree.{TermTree, var}
use Rattle.chw_terms.specs.TermMoves.{rename, sub, in_place_of, lowered}
use Rattle.chw_terms.specs.Occurs.{occurs}
use Rattle.chw_terms.proofs.Renamed.{rename_ids, types_ids}
use Rattle.chw_terms.proofs.Renumbered.{lowered_above, lowered_below, in_place_below, in_place_here, in_place_above}
use Rattle.chw_typing.specs.Scopes.{Setting, AreTermTypes}
use Rattle.chw_typing.specs.Programs.{IsSound}
use Rattle.chw_typing.specs.Typing.{HasType, h_var, HasTypeUpTo}
use Rattle.chw_typing.specs.Laws.{PutsTerms}
use Rattle.chw_typing.proofs.TermsPut.{term_put, typed_without}
use Rattle.chw_typing.proofs.TypesRenamed.{types_renamed}
use Rattle.chw_typing.specs.TypedPartLaws.{RenamesWhere}
use Rattle.chw_typing.proofs.Where.{renamed_where}

-- what stands before a place
found_before : (inner left right : List TypeTree) (x : ℕ) (t : TypeTree) → x < length inner → slice_get (inner ++ left) x ≡ Some t → slice_get (inner ++ right) x ≡ Some t
found_before [] left right x t l e = absurd (omega (arith, l))
found_before (i ∷ inner) left right zero t l e = e
found_before (i ∷ inner) left right (suc x) t l e = found_before inner left right x t (omega (arith, l)) e

-- what stands behind it
found_behind : (inner outer : List TypeTree) (u : TypeTree) (x : ℕ) (t : TypeTree) → length inner ≤ x → slice_get (inner ++ u ∷ outer) (suc x) ≡ Some t → slice_get (inner ++ outer) x ≡ Some t
found_behind [] outer u x t l e = e
found_behind (i ∷ inner) outer u zero t l e = absurd (omega (arith, l))
found_behind (i ∷ inner) outer u (suc x) t l e = found_behind inner outer u x t (omega (arith, l)) e

found_here : (inner outer : List TypeTree) (u t : TypeTree) → slice_get (inner ++ u ∷ outer) (length inner) ≡ Some t → u ≡ t
found_here [] outer u t e = cc
found_here (i ∷ inner) outer u t e = found_here inner outer u t e

found_after : (inner outer : List TypeTree) (u : TypeTree) (x : ℕ) (t : TypeTree) → length inner < x → slice_get (inner ++ u ∷ outer) x ≡ Some t → slice_get (inner ++ outer) (x - 1) ≡ Some t
found_after inner outer u x t l e =
    let again : x ≡ suc (x - 1) = omega (arith, l) in
    found_behind inner outer u (x - 1) t (omega (arith, l)) (ap (slice_get (inner ++ u ∷ outer)) (sym again) ∙ e)

lowered_where : (inner outer : List TypeTree) (u : TypeTree) (e : TermTree) → occurs e (length inner) ≡ false → RenamesWhere (occurs e) (lowered (length inner)) (inner ++ u ∷ outer) (inner ++ outer)
lowered_where inner outer u e absent x t p f = at (cases_lt x (length inner)) (cases_eq x (length inner))
  where
    n : ℕ
    n = length inner

    at : (x < n) ⊎ (n ≤ x) → (x ≡ n) ⊎ (x ≢ n) → slice_get (inner ++ outer) (lowered n x) ≡ Some t
    at _ (inl here) = absurd (true≢false (sym p ∙ ap (occurs e) here ∙ absent))
    at (inl below) (inr other) = ap (slice_get (inner ++ outer)) (lowered_below n x (omega (arith, below))) ∙ found_before inner (u ∷ outer) outer x t below f
    at (inr above) (inr other) =
        let after : n < x = omega (arith, above, other) in
        ap (slice_get (inner ++ outer)) (lowered_above n x after) ∙ found_after inner outer u x t after f

pub lowered_typed : (s : Setting) (kinds : List Kind) (inner outer : List TypeTree) (u : TypeTree) (e : TermTree) (t : TypeTree) → occurs e (length inner) ≡ false → HasType s kinds (inner ++ u ∷ outer) e t → HasType s kinds (inner ++ outer) (rename e (lowered (length inner))) t
lowered_typed s kinds inner outer u e t absent d = renamed_where d (lowered (length inner)) (inner ++ outer) (lowered_where inner outer u e absent)

pub in_place_puts : (s : Setting) (kinds : List Kind) (inner outer : List TypeTree) (u : TypeTree) (a : TermTree) → HasTypeUpTo s kinds (inner ++ outer) a u → PutsTerms s kinds (in_place_of (length inner) a) (inner ++ u ∷ outer) (inner ++ outer)
in_place_puts s kinds inner outer u a d x t f = at (cases_lt x (length inner)) (cases_eq x (length inner))
  where
    n : ℕ
    n = length inner

    variable : (y : ℕ) → slice_get (inner ++ outer) y ≡ Some t → HasTypeUpTo s kinds (inner ++ outer) (var y) t
    variable y g = record { type = t; has = h_var g; same = same_self t }

    at : (x < n) ⊎ (n ≤ x) → (x ≡ n) ⊎ (x ≢ n) → HasTypeUpTo s kinds (inner ++ outer) (in_place_of n a x) t
    at _ (inl here) =
        subst (HasTypeUpTo s kinds (inner ++ outer) (in_place_of n a x)) (found_here inner outer u t (ap (slice_get (inner ++ u ∷ outer)) (sym here) ∙ f))
        (subst (λ b. HasTypeUpTo s kinds (inner ++ outer) b u) (sym (in_place_here n x a here)) d)
    at (inl below) (inr other) =
        subst (λ b. HasTypeUpTo s kinds (inner ++ outer) b t) (sym (in_place_below n x a below)) (variable x (found_before inner (u ∷ outer) outer x t below f))
    at (inr above) (inr other) =
        let after : n < x = omega (arith, above, other) in
        subst (λ b. HasTypeUpTo s kinds (inner ++ outer) b t) (sym (in_place_above n x a after)) (variable (x - 1) (found_after inner outer u x t after f))

pub in_place_typed : (s : Setting) (kinds : List Kind) (inner outer : List TypeTree) (u : TypeTree) (e a : TermTree) (t : TypeTree) → IsSound s → AreTermTypes s kinds (inner ++ u ∷ outer) → HasType s kinds (inner ++ u ∷ outer) e t → HasTypeUpTo s kinds (inner ++ outer) a u → HasTypeUpTo s kinds (inner ++ outer) (sub e (in_place_of (length inner) a)) t
in_place_typed s kinds inner outer u e a t h g d b =
    term_put d h g (in_place_of (length inner) a) (inner ++ outer) (typed_without s kinds inner outer u g) (in_place_puts s kinds inner outer u a b)

-- without free variables a term has its type in every scope of variables
pub moved_typed : (s : Setting) (kinds : List Kind) (vars vars' : List TypeTree) (e : TermTree) (t : TypeTree) → ((x : ℕ) → occurs e x ≡ false) → HasType s kinds vars e t → HasType s kinds vars' e t
moved_typed s kinds vars vars' e t absent d =
    subst (λ f. HasType s kinds vars' f t) (rename_ids e) (renamed_where d (λ x. x) vars' (λ x u p f. absurd (true≢false (sym p ∙ absent x))))

-- what is typed without variables and type variables is typed in every scope
pub closed_typed : (s : Setting) (kinds : List Kind) (vars : List TypeTree) (e : TermTree) (t : TypeTree) → IsSound s → HasType s [] [] e t → HasType s kinds vars e t
closed_typed s kinds vars e t h d = subst (λ f. HasType s kinds vars f t) (rename_ids e) (renamed_where there (λ x. x) vars (λ x u p f. absurd cc))
  where
    there : HasType s kinds [] e t
    there =
        subst (HasType s kinds [] e) (type_rename_ids t)
        (subst (λ f. HasType s kinds [] f (rename_type t (λ x. x))) (types_ids e) (types_renamed d h tt (λ x. x) kinds (λ x k f. absurd cc)))
