-- What holds of each item so far, of one, and of all.
use Rattle.std.proofs.Common.{◌≡◌, ℕ, suc, ◌+◌, ◌<◌, ◌≤◌, Bool, true, false, ◌⊎◌, inl, inr, sym, ap, ◌∙◌, refl, subst, List, [], ◌∷◌, length, get_or, arith}
use Rattle.std.proofs.lemmas.Bool.{cases_lt, false≢true}
use Rattle.std.proofs.lemmas.Bool.Decides.{not_from_Decides, Decides-and}
use Rattle.std.proofs.lemmas.Option.{slice_get_within, slice_get-get_or}
use Rattle.std.specs.Bool.{Decides}
use Rattle.std.specs.List.{list_all, slice_get, AllByRecursion}
use Rattle.std.specs.Prelude.{Some}
use Rattle.netlist.proofs.Places.{all_at}

-- what holds is decided by true
pub decided : {P : Type 0} → P → Decides true P
decided p = (λ e. p, λ h. refl)

-- what doesn't hold is decided by false
pub refused : {P : Type 0} → (P → ⊥) → Decides false P
refused never = (λ e. absurd (false≢true e), λ h. absurd (never h))

-- the item at which a loop over these items stands, in the list that they are
pub item_at : {X : Type 0} (xs ys : List X) (i : ℕ) (x d : X) → xs ≡ ys → i < length xs → x ≡ get_or xs i d → slice_get ys i ≡ Some x
item_at xs ys i x d same l is = subst (λ zs. slice_get zs i ≡ Some x) same (slice_get-get_or xs i d l ∙ ap Some (sym is))

-- each item before this place
abbrev pub EachBefore : {X : Type 0} → (X → Type 0) → List X → ℕ → Type 0
EachBefore {X} P xs i = (n : ℕ) (x : X) → n < i → slice_get xs n ≡ Some x → P x

-- one more
pub before_next : {X : Type 0} (P : X → Type 0) (xs : List X) (i : ℕ) (x : X) → slice_get xs i ≡ Some x → EachBefore P xs i → P x → EachBefore P xs (i + 1)
before_next {X} P xs i x here before p n y m e = by (cases_lt n i)
  where
    by : (n < i) ⊎ (i ≤ n) → P y
    by (inl k) = before n y k e
    by (inr k) =
        let place : n ≡ i = omega arith in
        let there : slice_get xs i ≡ Some y = subst (λ j. slice_get xs j ≡ Some y) place e in
        let same : x ≡ y = cc in
        subst P same p

-- what holds at each place holds of all items
pub all_of_each : {X : Type 0} (P : X → Type 0) (xs : List X) → ((n : ℕ) (x : X) → slice_get xs n ≡ Some x → P x) → AllByRecursion P xs
all_of_each P [] each = tt
all_of_each P (x ∷ xs) each = (each 0 x refl, all_of_each P xs (λ n y e. each (suc n) y e))

-- all of them
pub before_all : {X : Type 0} (P : X → Type 0) (xs ys : List X) (i : ℕ) → xs ≡ ys → length xs ≤ i → EachBefore P ys i → AllByRecursion P ys
before_all P xs ys i same l before =
    let all : length ys ≤ i = subst (λ zs. length zs ≤ i) same l in
    all_of_each P ys (λ n x e. before n x (omega (arith, all, slice_get_within ys n x e)) e)

-- one of which it doesn't hold
pub not_all : {X : Type 0} (P : X → Type 0) (xs : List X) (i : ℕ) (x : X) (b : Bool) → slice_get xs i ≡ Some x → Decides b (P x) → b ≡ false → AllByRecursion P xs → ⊥
not_all P xs i x b here told e h = not_from_Decides b told e (all_at P xs i x h here)

-- a test of each item decides what holds of all
pub all_decides : {X : Type 0} (test : X → Bool) (P : X → Type 0) (xs : List X) → ((x : X) → Decides (test x) (P x)) → Decides (list_all test xs) (AllByRecursion P xs)
all_decides test P [] each = decided tt
all_decides test P (x ∷ xs) each = Decides-and (test x) (list_all test xs) (each x) (all_decides test P xs each)
