-- Which heights are left over the limit.
use Rattle.std.specs.Prelude.{◌≡◌, ℕ, zero, suc, ◌-◌, ◌<◌, ◌≤◌, max, List, [], ◌∷◌}
use Rattle.std.proofs.Common.{arith, ap, ◌∙◌}
use Rattle.chw_base.specs.declared.limits.TheConstants.{NESTING}
use Rattle.parser_parts.specs.declared.heights.Measure.{Measure}
use Rattle.parser_parts.specs.declared.heights.Shape.{Shape}
use Rattle.parser_parts.specs.declared.heights.Shape.TheVariants as shape
use Rattle.parser_parts.specs.Heights.{highest, newest, others, peak, beyond, raised}

pub taken : (n h k : ℕ) (m : Measure) (ms ns os : List Measure) (q : ℕ) → 0 < n → m ≡ newest ms → ns ≡ others ms → k ≡ max m.height h
    → (max h (peak n ms) ≡ q) × (beyond n ms ≡ os) → (max k (peak (n - 1) ns) ≡ q) × (beyond (n - 1) ns ≡ os)
taken zero h k m ms ns os q lt e f g inv = absurd (omega arith)
taken (suc n) h k m ms ns os q lt e f g inv =
    let d : suc n - 1 ≡ n = omega arith in
    let p : peak (suc n - 1) ns ≡ peak n (others ms) = λ i. peak (d i) (f i) in
    let b : beyond (suc n - 1) ns ≡ beyond n (others ms) = λ i. beyond (d i) (f i) in
    let hh : m.height ≡ (newest ms).height = ap (λ (z : Measure). z.height) e in
    (omega (arith, inv.0, p, hh, g), b ∙ inv.1)

others_lower : (ms : List Measure) → highest (others ms) ≤ highest ms
others_lower [] = omega arith
others_lower (m ∷ ms) = omega arith

beyond_lower : (n : ℕ) (ms : List Measure) → highest (beyond n ms) ≤ highest ms
beyond_lower zero ms = omega arith
beyond_lower (suc n) ms = omega (arith, beyond_lower n (others ms), others_lower ms)

newest_or_others : (ms : List Measure) → highest ms ≤ max (newest ms).height (highest (others ms))
newest_or_others [] = omega arith
newest_or_others (m ∷ ms) = omega arith

peak_or_beyond : (n : ℕ) (ms : List Measure) → highest ms ≤ max (peak n ms) (highest (beyond n ms))
peak_or_beyond zero ms = omega arith
peak_or_beyond (suc n) ms = omega (arith, peak_or_beyond n (others ms), newest_or_others ms)

pub newest_low : (ms : List Measure) → (newest ms).height ≤ highest ms
newest_low [] = omega arith
newest_low (m ∷ ms) = omega arith

-- behind what is made, nothing is higher than before
pub others_low : (s : Shape) (ms : List Measure) → highest (others (raised s ms)) ≤ highest ms
others_low shape.NoItems ms = omega arith
others_low shape.FirstItem ms = others_lower ms
others_low (shape.Item n) ms = omega (arith, others_lower (beyond n ms), beyond_lower n ms)
others_low (shape.NodeItem n) ms = omega (arith, others_lower (beyond n ms), beyond_lower n ms)
others_low (shape.Node n) ms = beyond_lower n ms
others_low shape.Chain ms = others_lower ms
others_low shape.Application ms = beyond_lower 2 ms

-- what is made of a part that is too high is too high
pub still_high : (s : Shape) (ms : List Measure) → NESTING < highest ms → NESTING < highest (raised s ms)
still_high shape.NoItems ms h = omega arith
still_high shape.FirstItem ms h = omega (arith, newest_or_others ms)
still_high (shape.Item n) ms h = omega (arith, peak_or_beyond n ms, newest_or_others (beyond n ms))
still_high (shape.NodeItem n) ms h = omega (arith, peak_or_beyond n ms, newest_or_others (beyond n ms))
still_high (shape.Node n) ms h = omega (arith, peak_or_beyond n ms)
still_high shape.Chain ms h = omega (arith, newest_or_others ms)
still_high shape.Application ms h = omega (arith, peak_or_beyond 2 ms)
