-- The least number of which something holds, and the rising list of all numbers of which it holds, where that is decided.
use Rattle.std.proofs.Common.{◌≡◌, ℕ, zero, suc, ◌+◌, ◌<◌, ◌≤◌, ◌⊎◌, inl, inr, List, [], ◌∷◌, Some, None, slice_get, ap, subst, arith}
use Rattle.std.proofs.lemmas.Bool.{cases_lt}
use Rattle.share_laws.specs.Shares.{IsAmong, RisesFrom}

-- it is decided below a number
abbrev pub DecidedBelow : ℕ → (ℕ → Type 0) → Type 0
DecidedBelow n P = (v : ℕ) → v < n → P v ⊎ (P v → ⊥)

-- the least number of which it holds
pub record Least (P : ℕ → Type 0) (n : ℕ) : Type 0 where
  pub number : ℕ
  pub within : number < n
  pub holds : P number
  pub least : (u : ℕ) → u < number → P u → ⊥

pub least_of : (P : ℕ → Type 0) (n : ℕ) → DecidedBelow n P → Least P n ⊎ ((v : ℕ) → v < n → P v → ⊥)
least_of P zero dec = inr (λ v l p. absurd (omega (arith, l)))
least_of P (suc n) dec = from (least_of P n (λ v l. dec v (omega (arith, l)))) (dec n (omega arith))
  where
    last : ((v : ℕ) → v < n → P v → ⊥) → (P n → ⊥) → (v : ℕ) → (v < n) ⊎ (n ≤ v) → v < suc n → P v → ⊥
    last none never v (inl less) l p = none v less p
    last none never v (inr le) l p = let is : v ≡ n = omega (arith, le, l) in never (subst P is p)

    from : Least P n ⊎ ((v : ℕ) → v < n → P v → ⊥) → P n ⊎ (P n → ⊥) → Least P (suc n) ⊎ ((v : ℕ) → v < suc n → P v → ⊥)
    from (inl found) here =
        inl (record { number = found.number; within = omega (arith, found.within); holds = found.holds; least = found.least })
    from (inr none) (inl p) = inl (record { number = n; within = omega arith; holds = p; least = none })
    from (inr none) (inr never) = inr (λ v l p. last none never v (cases_lt v n) l p)

-- a rising list of all numbers of which it holds, from one on and as many as these
pub record Those (P : ℕ → Type 0) (first n : ℕ) : Type 0 where
  pub list : List ℕ
  pub rises : RisesFrom first list
  pub each : (w : ℕ) → IsAmong list w → P w × (first ≤ w)
  pub all : (w : ℕ) → first ≤ w → w < first + n → P w → IsAmong list w

rises_before : (least : ℕ) (xs : List ℕ) → RisesFrom (least + 1) xs → RisesFrom least xs
rises_before least [] r = tt
rises_before least (x ∷ xs) r = (omega (arith, r.0), r.1)

with_first : (P : ℕ → Type 0) (first n : ℕ) → P first → Those P (first + 1) n → Those P first (suc n)
with_first P first n p rest = record {
  list = first ∷ rest.list;
  rises = (omega arith, rest.rises);
  each = λ w i. each w i.0 i.1;
  all = λ w l m q. all w (cases_lt first w) l m q;
}
  where
    each : (w k : ℕ) → slice_get (first ∷ rest.list) k ≡ Some w → P w × (first ≤ w)
    each w zero e = let is : first ≡ w = cc in (subst P is p, omega (arith, is))
    each w (suc k) e = let found = rest.each w (k, e) in (found.0, omega (arith, found.1))

    all : (w : ℕ) → (first < w) ⊎ (w ≤ first) → first ≤ w → w < first + suc n → P w → IsAmong (first ∷ rest.list) w
    all w (inl less) l m q = let found = rest.all w (omega (arith, less)) (omega (arith, m)) q in (suc found.0, found.1)
    all w (inr le) l m q = let is : first ≡ w = omega (arith, le, l) in (0, ap Some is)

without_first : (P : ℕ → Type 0) (first n : ℕ) → (P first → ⊥) → Those P (first + 1) n → Those P first (suc n)
without_first P first n never rest = record {
  list = rest.list;
  rises = rises_before first rest.list rest.rises;
  each = λ w i. (let found = rest.each w i in (found.0, omega (arith, found.1)));
  all = λ w l m q. all w (cases_lt first w) l m q;
}
  where
    all : (w : ℕ) → (first < w) ⊎ (w ≤ first) → first ≤ w → w < first + suc n → P w → IsAmong rest.list w
    all w (inl less) l m q = rest.all w (omega (arith, less)) (omega (arith, m)) q
    all w (inr le) l m q = let is : w ≡ first = omega (arith, le, l) in absurd (never (subst P is q))

pub those_from : (P : ℕ → Type 0) (n first end : ℕ) → first + n ≤ end → DecidedBelow end P → Those P first n
those_from P zero first end l dec = record {
  list = [];
  rises = tt;
  each = λ w i. absurd (let none : None ≡ Some w = i.1 in cc);
  all = λ w m k q. absurd (omega (arith, m, k));
}
those_from P (suc n) first end l dec = from (dec first (omega (arith, l))) (those_from P n (first + 1) end (omega (arith, l)) dec)
  where
    from : P first ⊎ (P first → ⊥) → Those P (first + 1) n → Those P first (suc n)
    from (inl p) rest = with_first P first n p rest
    from (inr never) rest = without_first P first n never rest
