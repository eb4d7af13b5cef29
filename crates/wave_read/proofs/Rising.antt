-- Times that rise.
use Rattle.std.proofs.Common.{◌≡◌, ℕ, zero, suc, ◌+◌, ◌<◌, ◌≤◌, List, [], ◌∷◌, ◌++◌, length, get_or, take, drop, refl, sym, ap, ◌∙◌, subst, arith}
use Rattle.std.proofs.lemmas.List.{drop_more, take-append-drop, take_all, take_more}
use Rattle.wave_text.specs.Faults.{IsBackAt}
use Rattle.wave_text.specs.VcdText.{Moment as Time, Rise}
use Rattle.wave_read.specs.Shown.{times_of}
use Rattle.wave_read.specs.declared.source.Changed.{Changed}
use Rattle.wave_read.specs.declared.source.Moment.{Moment}

-- the time of a place, as it is shown
stands : (moments : List Moment) (changes : List Changed) (k : ℕ) (d : Moment) (e : Time) → k < length moments
    → ((get_or (times_of moments changes) k e).at ≡ (get_or moments k d).at) × ((get_or (times_of moments changes) k e).time ≡ (get_or moments k d).time)
stands [] changes k d e within = absurd (omega arith)
stands (it ∷ moments) changes zero d e within = (refl, refl)
stands (it ∷ moments) changes (suc k) d e within = stands moments (drop it.count changes) k d e (omega arith)

count_shown : (moments : List Moment) (changes : List Changed) → length (times_of moments changes) ≡ length moments
count_shown [] changes = refl
count_shown (it ∷ moments) changes = ap suc (count_shown moments (drop it.count changes))

rise_push : (xs : List Time) (x y : Time) → Rise (xs ++ x ∷ []) → x.time < y.time → Rise ((xs ++ x ∷ []) ++ y ∷ [])
rise_push [] x y rise less = (less, tt)
rise_push (a ∷ []) x y rise less = (rise.0, rise_push [] x y rise.1 less)
rise_push (a ∷ b ∷ xs) x y rise less = (rise.0, rise_push (b ∷ xs) x y rise.1 less)

rise_last : (xs : List Time) (x y : Time) → Rise ((xs ++ x ∷ []) ++ y ∷ []) → x.time < y.time
rise_last [] x y rise = rise.0
rise_last (a ∷ []) x y rise = rise_last [] x y rise.1
rise_last (a ∷ b ∷ xs) x y rise = rise_last (b ∷ xs) x y rise.1

-- the times before a place, of which the last stands just before it
last_of : (xs : List Time) (j k : ℕ) (e : Time) → k ≡ j + 1 → k < length xs → take k xs ≡ take j xs ++ get_or xs j e ∷ []
last_of xs j k e next within = ap (λ (n : ℕ). take n xs) next ∙ take_more xs j e (omega arith)

rises : (xs : List Time) (j k : ℕ) (e : Time) → k ≡ j + 1 → k < length xs → (get_or xs j e).time < (get_or xs k e).time → Rise (take k xs) → Rise (take (k + 1) xs)
rises xs j k e next within less rise =
    let before = last_of xs j k e next within in
    subst Rise (sym (take_more xs k e within ∙ ap (λ (ts : List Time). ts ++ get_or xs k e ∷ []) before))
    (rise_push (take j xs) (get_or xs j e) (get_or xs k e) (subst Rise before rise) less)

falls : (xs : List Time) (j k : ℕ) (e : Time) → k ≡ j + 1 → k < length xs → (get_or xs k e).time ≤ (get_or xs j e).time → Rise (take k xs)
    → IsBackAt xs (get_or xs k e).at
falls xs j k e next within less rise = record {
  earlier = take k xs;
  moment = get_or xs k e;
  others = drop (k + 1) xs;
  moments_are = sym (take-append-drop k xs) ∙ ap (λ (ts : List Time). take k xs ++ ts) (drop_more xs k e within);
  rise = rise;
  back = λ risen. not_back risen;
  here = refl;
}
  where
    not_back : Rise (take k xs ++ get_or xs k e ∷ []) → ⊥
    not_back risen =
        let before = last_of xs j k e next within in
        let more = rise_last (take j xs) (get_or xs j e) (get_or xs k e) (subst Rise (ap (λ (ts : List Time). ts ++ get_or xs k e ∷ []) before) risen) in
        absurd (omega arith)

no_time : Time
no_time = record { at = 0; time = 0; changes = [] }

-- the times before the first one rise
pub rise_first : (moments : List Moment) (changes : List Changed) → Rise (take 1 (times_of moments changes))
rise_first [] changes = tt
rise_first (it ∷ moments) changes = tt

-- one time more rises
pub rise_more : (moments : List Moment) (changes : List Changed) (j k : ℕ) (d : Moment) → k ≡ j + 1 → k < length moments
    → (get_or moments j d).time < (get_or moments k d).time → Rise (take k (times_of moments changes)) → Rise (take (k + 1) (times_of moments changes))
rise_more moments changes j k d next within less rise =
    let count = count_shown moments changes in
    let here = stands moments changes k d no_time within in
    let before = stands moments changes j d no_time (omega arith) in
    let later = here.1 in
    let earlier = before.1 in
    rises (times_of moments changes) j k no_time next (omega arith) (omega arith) rise

-- a time that doesn't
pub back_here : (moments : List Moment) (changes : List Changed) (j k : ℕ) (d : Moment) → k ≡ j + 1 → k < length moments
    → (get_or moments k d).time ≤ (get_or moments j d).time → Rise (take k (times_of moments changes)) → IsBackAt (times_of moments changes) (get_or moments k d).at
back_here moments changes j k d next within less rise =
    let count = count_shown moments changes in
    let here = stands moments changes k d no_time within in
    let before = stands moments changes j d no_time (omega arith) in
    let later = here.1 in
    let earlier = before.1 in
    subst (IsBackAt (times_of moments changes)) here.0 (falls (times_of moments changes) j k no_time next (omega arith) (omega arith) rise)

-- all times rise, once as many as there are do
pub rise_all : (moments : List Moment) (changes : List Changed) (k : ℕ) → length moments ≤ k → Rise (take k (times_of moments changes)) → Rise (times_of moments changes)
rise_all moments changes k all rise =
    let count = count_shown moments changes in
    subst Rise (take_all k (times_of moments changes) (omega arith)) rise
