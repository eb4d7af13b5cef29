-- Variables that change places or go, and terms that are put in the scope of the result.
use Rattle.std.proofs.Common.{◌≡◌, ℕ, ◌+◌, ◌-◌, ◌<◌, ◌≤◌, ◌≢◌, ◌⊎◌, inl, inr, true, false, List, [], ◌∷◌, map, refl, sym, ap, ◌∙◌, arith}
use Rattle.std.proofs.lemmas.Bool.{true≢false, cases_lt, cases_eq}
use Rattle.chw_types.specs.TypeMoves.{Renaming, raised}
use Rattle.chw_types.proofs.TypeLaws.{same}
use Rattle.chw_types.proofs.TypeMoved.{raised_below, raised_above}
use Rattle.chw_terms.specs.declared.term.Arg.{Arg}
use Rattle.chw_terms.specs.declared.term.Arg.TheVariants.{OfTerm, OfType}
use Rattle.chw_terms.specs.TermTree.{TermTree, var, app, ty_app}
use Rattle.chw_terms.specs.TermView.{applied}
use Rattle.chw_terms.specs.TermMoves.{rename, up_by, sub, shift, put_at, put, in_place_of, lowered, exchanged}
use Rattle.chw_terms.specs.Occurs.{occurs}
use Rattle.chw_terms.proofs.Renamed.{rename_rename, rename_ids}
use Rattle.chw_terms.proofs.Renumbered.{lowered_above, lowered_below, exchanged_first, exchanged_next, exchanged_above, in_place_below, in_place_above, one_is_in_place, up_by_in_place}
use Rattle.chw_terms.proofs.TermsPut.{rename_is_sub}
use Rattle.chw_terms.proofs.Absent.{sub_where}
use Rattle.chw_typing.specs.Groups.{rename_arg}

pub put_in_place : (e a : TermTree) (c : ℕ) → put e c a ≡ sub e (in_place_of c (shift a 0 c))
unfolding put_at
put_in_place e a c =
    let here : 0 + c ≡ c = omega arith in
    ap (sub e) (ap (up_by c) (sym (one_is_in_place a)) ∙ up_by_in_place c 0 a ∙ ap (λ v. in_place_of v (shift a 0 c)) here)

pub in_place_absent : (e a : TermTree) (v : ℕ) → occurs e v ≡ false → sub e (in_place_of v a) ≡ rename e (lowered v)
in_place_absent e a v absent = sub_where e (in_place_of v a) (λ x. var (lowered v x)) (λ x h. at x h (cases_lt x v)) ∙ sym (rename_is_sub e (lowered v))
  where
    other : (x : ℕ) → occurs e x ≡ true → v ≤ x → (x ≡ v) ⊎ (x ≢ v) → in_place_of v a x ≡ var (lowered v x)
    other x h above (inl e) = absurd (true≢false (sym h ∙ ap (occurs _) e ∙ absent))
    other x h above (inr e) = in_place_above v x a (omega (arith, above, e)) ∙ ap var (sym (lowered_above v x (omega (arith, above, e))))

    at : (x : ℕ) → occurs e x ≡ true → (x < v) ⊎ (v ≤ x) → in_place_of v a x ≡ var (lowered v x)
    at x h (inl below) = in_place_below v x a below ∙ ap var (sym (lowered_below v x (omega (arith, below))))
    at x h (inr above) = other x h above (cases_eq x v)

pub shift_exchanged : (e : TermTree) (m n : ℕ) → rename (shift e 0 m) (exchanged m n) ≡ shift e n m
shift_exchanged e m n = rename_rename e (raised 0 m) (exchanged m n) ∙ ap (rename e) (same _ _ (λ x. at x (cases_lt x n)))
  where
    at : (x : ℕ) → (x < n) ⊎ (n ≤ x) → exchanged m n (x + m) ≡ raised n m x
    at x (inl below) =
        let back : x + m - m ≡ x = omega arith in
        exchanged_next 0 m n (x + m) (omega arith) (omega (arith, below)) ∙ back ∙ sym (raised_below n m x below)
    at x (inr above) = exchanged_above 0 m n (x + m) (omega (arith, above)) ∙ sym (raised_above n m x above)

pub exchanged_back : (e : TermTree) (m n : ℕ) → rename (rename e (exchanged m n)) (exchanged n m) ≡ e
exchanged_back e m n = rename_rename e (exchanged m n) (exchanged n m) ∙ ap (rename e) (same _ _ (λ x. at x (cases_lt x m))) ∙ rename_ids e
  where
    behind : (x : ℕ) → m ≤ x → (x < m + n) ⊎ (m + n ≤ x) → exchanged n m (exchanged m n x) ≡ x
    behind x above (inl below) =
        let back : x - m + m ≡ x = omega (arith, above) in
        ap (exchanged n m) (exchanged_next 0 m n x (omega (arith, above)) (omega (arith, below))) ∙ exchanged_first 0 n m (x - m) (omega arith) (omega (arith, above, below)) ∙ back
    behind x _ (inr above) = ap (exchanged n m) (exchanged_above 0 m n x (omega (arith, above))) ∙ exchanged_above 0 n m x (omega (arith, above))

    at : (x : ℕ) → (x < m) ⊎ (m ≤ x) → exchanged n m (exchanged m n x) ≡ x
    at x (inl below) =
        let back : x + n - n ≡ x = omega arith in
        ap (exchanged n m) (exchanged_first 0 m n x (omega arith) (omega (arith, below))) ∙ exchanged_next 0 n m (x + n) (omega arith) (omega (arith, below)) ∙ back
    at x (inr above) = behind x above (cases_lt x (m + n))

pub spine_renamed : (e : TermTree) (args : List Arg) (ρ : Renaming) → rename (applied e args) ρ ≡ applied (rename e ρ) (map (rename_arg ρ) args)
unfolding rename
spine_renamed e [] ρ = refl
spine_renamed e (OfTerm a ∷ args) ρ = spine_renamed (app e a) args ρ
spine_renamed e (OfType t ∷ args) ρ = spine_renamed (ty_app e t) args ρ
