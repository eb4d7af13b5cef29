-- How the outcomes of parts make those of wholes.
use Rattle.std.proofs.Common.{◌≡◌, ℕ, ◌+◌, ◌*◌, Bool, true, false, refl}
use Rattle.std.specs.Prelude.{if◌then◌else◌, nat_le}
use Rattle.chw_base.specs.declared.limits.TheConstants.{DATA_BITS, SCALAR_BITS, VECTOR_LENGTH}
use Rattle.chw_types.specs.Polynomials.{ended}
use Rattle.chw_layout.specs.declared.outcome.NoLayout.TheVariants.{Length as OverLength}
use Rattle.chw_layout.specs.Measured.{Measure, fits, too_wide, scalar_measure, data_measure, vector_measure, tagged_measure, then_measure, or_measure}
use Rattle.type_widths.specs.declared.outcome.Limit.{Limit}
use Rattle.type_widths.specs.declared.outcome.Limit.TheVariants.{Scalar, Data as Whole, Length}
use Rattle.type_widths.specs.declared.outcome.Outcome.{Outcome}
use Rattle.type_widths.specs.declared.outcome.Outcome.TheVariants.{Number, Fits, TooWide}
use Rattle.type_widths.specs.Outcomes.{Lays, layout_of, number_of, scalar_outcome, wide_outcome, vector_outcome, tagged_outcome, then_outcome, or_outcome}

-- what may pass a limit
over_lays : (P : Measure → Type 0) (b : Bool) (w n : ℕ) (l : Limit) → P (if b then fits w else too_wide (layout_of l n)) → Lays P (if b then Fits w else TooWide l n)
over_lays P true w n l p = p
over_lays P false w n l p = p

over_number : (b : Bool) (w n : ℕ) (l : Limit) → number_of (if b then Fits w else TooWide l n) ≡ 0
over_number true w n l = refl
over_number false w n l = refl

-- a scalar
pub scalar_lays : (P : Measure → Type 0) (w : ℕ) → P (scalar_measure w) → Lays P (scalar_outcome w)
scalar_lays P w p = over_lays P (nat_le w SCALAR_BITS) w w Scalar p

pub scalar_number : (w : ℕ) → number_of (scalar_outcome w) ≡ 0
scalar_number w = over_number (nat_le w SCALAR_BITS) w w Scalar

-- data or a vector
wide_lays : (P : Measure → Type 0) (w : ℕ) → P (data_measure w) → Lays P (wide_outcome w)
wide_lays P w p = over_lays P (nat_le w DATA_BITS) w w Whole p

wide_number : (w : ℕ) → number_of (wide_outcome w) ≡ 0
wide_number w = over_number (nat_le w DATA_BITS) w w Whole

-- a vector by its length
short_lays : (R : Measure → Type 0) (b : Bool) (n k : ℕ) → R (if b then data_measure k else too_wide (OverLength n)) → Lays R (if b then wide_outcome k else TooWide Length n)
short_lays R true n k r = wide_lays R k r
short_lays R false n k r = r

short_number : (b : Bool) (n k : ℕ) → number_of (if b then wide_outcome k else TooWide Length n) ≡ 0
short_number true n k = wide_number k
short_number false n k = refl

-- a vector of what has the first measures has the second ones
pub vector_lays : (P R : Measure → Type 0) (n : ℕ) → ((m : Measure) → P m → R (vector_measure n m)) → ((m : Measure) → R m → (k : Measure) × P k)
    → (o : Outcome) → Lays P o → Lays R (vector_outcome n o)
vector_lays P R n make split (Number k) x = λ m r. let s = split m r in x s.0 s.1
vector_lays P R n make split (Fits w) x = short_lays R (nat_le n VECTOR_LENGTH) n (ended (n * w)) (make (fits w) x)
vector_lays P R n make split (TooWide l k) x = make (too_wide (layout_of l k)) x

pub vector_number : (n : ℕ) (o : Outcome) → number_of (vector_outcome n o) ≡ 0
vector_number n (Number k) = refl
vector_number n (Fits w) = short_number (nat_le n VECTOR_LENGTH) n (ended (n * w))
vector_number n (TooWide l k) = refl

-- data with a tag before constructors
pub tagged_lays : (P R : Measure → Type 0) (tag : ℕ) → ((m : Measure) → P m → R (tagged_measure tag m)) → ((m : Measure) → R m → (k : Measure) × P k)
    → (o : Outcome) → Lays P o → Lays R (tagged_outcome tag o)
tagged_lays P R tag make split (Number k) x = λ m r. let s = split m r in x s.0 s.1
tagged_lays P R tag make split (Fits w) x = wide_lays R (ended (tag + w)) (make (fits w) x)
tagged_lays P R tag make split (TooWide l k) x = make (too_wide (layout_of l k)) x

pub tagged_number : (tag : ℕ) (o : Outcome) → number_of (tagged_outcome tag o) ≡ 0
tagged_number tag (Number k) = refl
tagged_number tag (Fits w) = wide_number (ended (tag + w))
tagged_number tag (TooWide l k) = refl

-- a field before others
pub then_lays : (P Q R : Measure → Type 0) → ((a b : Measure) → P a → Q b → R (then_measure a b)) → ((m : Measure) → R m → (a b : Measure) × P a × Q b)
    → (o p : Outcome) → Lays P o → Lays Q p → Lays R (then_outcome o p)
then_lays P Q R make split (Number n) p x y = λ m r. let s = split m r in x s.0 s.2
then_lays P Q R make split (Fits a) (Number n) x y = λ m r. let s = split m r in y s.1 s.3
then_lays P Q R make split (Fits a) (Fits b) x y = make (fits a) (fits b) x y
then_lays P Q R make split (Fits a) (TooWide l n) x y = make (fits a) (too_wide (layout_of l n)) x y
then_lays P Q R make split (TooWide l n) (Number k) x y = λ m r. let s = split m r in y s.1 s.3
then_lays P Q R make split (TooWide l n) (Fits b) x y = make (too_wide (layout_of l n)) (fits b) x y
then_lays P Q R make split (TooWide l n) (TooWide k m) x y = make (too_wide (layout_of l n)) (too_wide (layout_of k m)) x y

-- a constructor before others
pub or_lays : (P Q R : Measure → Type 0) → ((a b : Measure) → P a → Q b → R (or_measure a b)) → ((m : Measure) → R m → (a b : Measure) × P a × Q b)
    → (o p : Outcome) → Lays P o → Lays Q p → Lays R (or_outcome o p)
or_lays P Q R make split (Number n) p x y = λ m r. let s = split m r in x s.0 s.2
or_lays P Q R make split (Fits a) (Number n) x y = λ m r. let s = split m r in y s.1 s.3
or_lays P Q R make split (Fits a) (Fits b) x y = make (fits a) (fits b) x y
or_lays P Q R make split (Fits a) (TooWide l n) x y = make (fits a) (too_wide (layout_of l n)) x y
or_lays P Q R make split (TooWide l n) (Number k) x y = λ m r. let s = split m r in y s.1 s.3
or_lays P Q R make split (TooWide l n) (Fits b) x y = make (too_wide (layout_of l n)) (fits b) x y
or_lays P Q R make split (TooWide l n) (TooWide k m) x y = make (too_wide (layout_of l n)) (too_wide (layout_of k m)) x y
