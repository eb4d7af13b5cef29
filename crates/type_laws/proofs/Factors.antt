-- Products of variables: with one more factor, and with the factors of another.
use Rattle.std.proofs.Common.{◌≡◌, ℕ, ◌<◌, ◌≤◌, Bool, true, false, if◌then◌else◌, refl, sym, ap, ◌∙◌, [], ◌∷◌, leb, arith}
use Rattle.std.proofs.lemmas.Bool.{leb-true, leb-false, le-leb}
use Rattle.chw_types.specs.Polynomials.{Monomial, with_factor, times}

-- a factor that goes before the first one
pub before : (x y : ℕ) (m : Monomial) → x ≤ y → with_factor x (y ∷ m) ≡ x ∷ y ∷ m
before x y m l = ap (λ b. if b then x ∷ y ∷ m else y ∷ with_factor x m) (le-leb x y l)

-- a factor that goes behind it
pub behind : (x y : ℕ) (m : Monomial) → leb x y ≡ false → with_factor x (y ∷ m) ≡ y ∷ with_factor x m
behind x y m e = ap (λ b. if b then x ∷ y ∷ m else y ∷ with_factor x m) e

equal : (x y : ℕ) → x ≤ y → y ≤ x → x ≡ y
equal x y l g = omega arith

-- a greater factor, before which a smaller one stands first
greater : (x y : ℕ) (m : Monomial) → x ≤ y → with_factor y m ≡ y ∷ m → with_factor y (x ∷ m) ≡ x ∷ y ∷ m
greater x y m l e = by (leb y x) refl
  where
    by : (b : Bool) → leb y x ≡ b → with_factor y (x ∷ m) ≡ x ∷ y ∷ m
    by true h = let is = equal x y l (leb-true y x h) in before y x m (leb-true y x h) ∙ (λ i. sym is i ∷ is i ∷ m)
    by false h = behind y x m h ∙ ap (λ r. x ∷ r) e

-- a greater factor goes behind a smaller one
past : (x y z : ℕ) (m : Monomial) → x ≤ z → z < y → with_factor y (x ∷ z ∷ m) ≡ x ∷ with_factor y (z ∷ m)
past x y z m le far = by (leb y x) refl
  where
    by : (b : Bool) → leb y x ≡ b → with_factor y (x ∷ z ∷ m) ≡ x ∷ with_factor y (z ∷ m)
    by true g = let n = leb-true y x g in absurd (omega arith)
    by false g = behind y x (z ∷ m) g

in_order : (x y : ℕ) (m : Monomial) → x ≤ y → with_factor x (with_factor y m) ≡ with_factor y (with_factor x m)
in_order x y [] l = before x y [] l ∙ sym (greater x y [] l refl)
in_order x y (z ∷ m) l = by (leb y z) refl (leb x z) refl (in_order x y m l)
  where
    by : (b : Bool) → leb y z ≡ b → (c : Bool) → leb x z ≡ c → with_factor x (with_factor y m) ≡ with_factor y (with_factor x m) → with_factor x (with_factor y (z ∷ m)) ≡ with_factor y (with_factor x (z ∷ m))
    by true h c k rest =
        let le = leb-true y z h in
        let near : x ≤ z = omega arith in
        ap (with_factor x) (before y z m le)
        ∙ before x y (z ∷ m) l
        ∙ sym (ap (with_factor y) (before x z m near) ∙ greater x y (z ∷ m) l (before y z m le))
    by false h true k rest =
        let le = leb-true x z k in
        let far = leb-false y z h in
        ap (with_factor x) (behind y z m h)
        ∙ before x z (with_factor y m) le
        ∙ sym (ap (with_factor y) (before x z m le) ∙ past x y z m le far ∙ ap (λ r. x ∷ r) (behind y z m h))
    by false h false k rest =
        ap (with_factor x) (behind y z m h)
        ∙ behind x z (with_factor y m) k
        ∙ ap (λ r. z ∷ r) rest
        ∙ sym (ap (with_factor y) (behind x z m k) ∙ behind y z (with_factor x m) h)

-- the order of two further factors doesn't matter
pub factor_factor : (x y : ℕ) (m : Monomial) → with_factor x (with_factor y m) ≡ with_factor y (with_factor x m)
factor_factor x y m = by (leb x y) refl
  where
    by : (b : Bool) → leb x y ≡ b → with_factor x (with_factor y m) ≡ with_factor y (with_factor x m)
    by true h = in_order x y m (leb-true x y h)
    by false h = let far = leb-false x y h in let l : y ≤ x = omega arith in sym (in_order y x m l)

pub times_factor : (p m : Monomial) (x : ℕ) → times p (with_factor x m) ≡ with_factor x (times p m)
times_factor [] m x = refl
times_factor (y ∷ p) m x = ap (times p) (factor_factor y x m) ∙ times_factor p (with_factor y m) x

pub factor_times : (x : ℕ) (p m : Monomial) → times (with_factor x p) m ≡ with_factor x (times p m)
factor_times x [] m = refl
factor_times x (y ∷ p) m = by (leb x y) refl (factor_times x p (with_factor y m))
  where
    by : (b : Bool) → leb x y ≡ b → times (with_factor x p) (with_factor y m) ≡ with_factor x (times p (with_factor y m)) → times (with_factor x (y ∷ p)) m ≡ with_factor x (times p (with_factor y m))
    by true h rest = ap (λ q. times q m) (before x y p (leb-true x y h)) ∙ times_factor (y ∷ p) m x
    by false h rest = ap (λ q. times q m) (behind x y p h) ∙ rest

-- products associate
pub times_times : (p q r : Monomial) → times (times p q) r ≡ times p (times q r)
times_times [] q r = refl
times_times (x ∷ p) q r = times_times p (with_factor x q) r ∙ ap (times p) (factor_times x q r)

-- and their order doesn't matter
pub times_turned : (p q r : Monomial) → times p (times q r) ≡ times q (times p r)
times_turned [] q r = refl
times_turned (x ∷ p) q r = ap (times p) (sym (times_factor q r x)) ∙ times_turned p q (with_factor x r)
