-- Counts of nodes, one more at a time.
use Rattle.std.proofs.Common.{◌≡◌, ℕ, zero, suc, ◌+◌, ◌-◌, ◌*◌, ◌<◌, ◌≤◌, List, length, get_or, take, ap, ◌∙◌, add-one, arith}
use Rattle.std.specs.Prelude.{sum_by}
use Rattle.std.proofs.lemmas.List.{take_all}
use Rattle.std.proofs.lemmas.List.Sums.{sum_by_more}
use Rattle.bit_blast.specs.Counting.{capped, rows_count}

-- one more row of a product
pub rows_more : (n i count : ℕ) → 1 ≤ i → count ≡ rows_count n i → count + (1 + 3 * (n - i)) ≡ rows_count n (i + 1)
rows_more n zero count some e = absurd (omega arith)
rows_more n (suc i) count some e = rw add-one (ap (λ (k : ℕ). k + (1 + 3 * (n - suc i))) e)

-- one more item of a sum that is capped
pub capped_more : {X : Type 0} (f : X → ℕ) (xs : List X) (i n k before : ℕ) (x : X) → i < length xs → x ≡ get_or xs i x → k ≡ f x
    → n ≡ capped (before + sum_by f (take i xs)) → capped (n + k) ≡ capped (before + sum_by f (take (i + 1) xs))
capped_more f xs i n k before x less is e h =
    let more = sum_by_more f xs i x less in
    let same : k ≡ f (get_or xs i x) = e ∙ ap f is in
    omega (arith, more, same, h)

pub capped_all : {X : Type 0} (f : X → ℕ) (xs : List X) (i n before : ℕ) → length xs ≤ i → n ≡ capped (before + sum_by f (take i xs))
    → n ≡ capped (before + sum_by f xs)
capped_all f xs i n before past h = h ∙ ap (λ ys. capped (before + sum_by f ys)) (take_all i xs past)
