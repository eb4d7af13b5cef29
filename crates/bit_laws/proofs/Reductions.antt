-- Reductions of a word bit by bit.
use Rattle.std.proofs.Common.{◌≡◌, ℕ, ◌+◌, ◌%◌, ◌≤◌, Bool, true, false, ◌&&◌, ◌||◌, List, [], ◌∷◌, length, count_by, refl, sym, ap, ◌∙◌, arith, cond, eqb, inl, inr, ◌⊎◌}
use Rattle.std.specs.List.{list_all, list_any}
use Rattle.std.proofs.lemmas.Bool.{cases_eq, eq-eqb, ne_eqb}
use Rattle.std.proofs.lemmas.List.Sums.{sum_by-cons}
use Rattle.chw_bits.specs.Bitwise.{differ}
use Rattle.chw_clock.specs.declared.event.Event.{Event}
use Rattle.chw_clock.specs.declared.event.Ports.{Ports}
use Rattle.bit_laws.specs.BitNames.{further}
use Rattle.bit_laws.specs.Bitnet.{BitValue, Bitnet, HaveBits}
use Rattle.bit_laws.specs.Blast.{fold_end, folded, gate_of, reduction}
use Rattle.bit_laws.specs.Gates.{Gate, gate_value}
use Rattle.bit_laws.specs.Gates.Gate.{buffer}
use Rattle.bit_laws.proofs.Words.{HasNodes, buffers_have, gate_bit, parted}
use Rattle.bit_laws.specs.Blast.{on_each}

-- the bits folded from the last one on
abbrev pub fold_bits : (Bool → Bool → Bool) → List Bool → Bool
fold_bits f [] = false
fold_bits f (x ∷ []) = x
fold_bits f (x ∷ y ∷ us) = f (fold_bits f (y ∷ us)) x

and_turned : (x y : Bool) → (x && y) ≡ (y && x)
and_turned true true = refl
and_turned true false = refl
and_turned false true = refl
and_turned false false = refl

or_turned : (x y : Bool) → (x || y) ≡ (y || x)
or_turned true true = refl
or_turned true false = refl
or_turned false true = refl
or_turned false false = refl

and_true : (x : Bool) → x ≡ (x && true)
and_true true = refl
and_true false = refl

or_false : (x : Bool) → x ≡ (x || false)
or_false true = refl
or_false false = refl

pub all_is : (x : Bool) (us : List Bool) → fold_bits (λ c y. c && y) (x ∷ us) ≡ list_all (λ bit. bit) (x ∷ us)
all_is x [] = and_true x
all_is x (y ∷ us) = ap (λ r. r && x) (all_is y us) ∙ and_turned (list_all (λ bit. bit) (y ∷ us)) x

pub any_is : (x : Bool) (us : List Bool) → fold_bits (λ c y. c || y) (x ∷ us) ≡ list_any (λ bit. bit) (x ∷ us)
any_is x [] = or_false x
any_is x (y ∷ us) = ap (λ r. r || x) (any_is y us) ∙ or_turned (list_any (λ bit. bit) (y ∷ us)) x

odd_step : (x : Bool) (n : ℕ) → differ (eqb (n % 2) 1) x ≡ eqb ((cond x 1 0 + n) % 2) 1
odd_step x n = by_case x (cases_eq (n % 2) 1)
  where
    by_case : (x : Bool) → (n % 2 ≡ 1) ⊎ (n % 2 ≡ 1 → ⊥) → differ (eqb (n % 2) 1) x ≡ eqb ((cond x 1 0 + n) % 2) 1
    by_case true (inl e) = ap (λ t. differ t true) (eq-eqb (n % 2) 1 e) ∙ sym (ne_eqb ((1 + n) % 2) 1 (λ f. omega arith))
    by_case true (inr apart) = ap (λ t. differ t true) (ne_eqb (n % 2) 1 apart) ∙ sym (eq-eqb ((1 + n) % 2) 1 (omega arith))
    by_case false (inl e) = ap (λ t. differ t false) (eq-eqb (n % 2) 1 e) ∙ sym (eq-eqb ((0 + n) % 2) 1 (omega arith))
    by_case false (inr apart) = ap (λ t. differ t false) (ne_eqb (n % 2) 1 apart) ∙ sym (ne_eqb ((0 + n) % 2) 1 (λ f. apart (omega arith)))

pub odd_is : (x : Bool) (us : List Bool) → fold_bits differ (x ∷ us) ≡ eqb (count_by (λ bit. bit) (x ∷ us) % 2) 1
odd_is true [] = refl
odd_is false [] = refl
odd_is x (y ∷ us) =
    ap (λ r. differ r x) (odd_is y us) ∙ odd_step x (count_by (λ bit. bit) (y ∷ us))
    ∙ ap (λ n. eqb (n % 2) 1) (sym (sum_by-cons (λ (bit : Bool). cond bit 1 0) x (y ∷ us)))

module _ (ports : Ports) (b : Bitnet) (h : List Event) (k : ℕ) where
  folds_have : (gate : Gate) (xs : List (List ℕ)) (us : List Bool) → 1 ≤ length xs → HasNodes b (folded gate k xs) → HaveBits ports b h xs us
      → BitValue ports b h (fold_end k xs) (fold_bits (λ c x. gate_value gate (c ∷ x ∷ [])) us)
  folds_have gate [] us some all v = absurd (omega arith)
  folds_have gate (n ∷ []) [] some all v = absurd v
  folds_have gate (n ∷ []) (x ∷ []) some all v = gate_bit ports b h buffer (n ∷ []) (further k 0) (x ∷ []) all.0 (v.0, tt)
  folds_have gate (n ∷ []) (x ∷ y ∷ us) some all v = absurd v.1
  folds_have gate (n ∷ m ∷ xs) [] some all v = absurd v
  folds_have gate (n ∷ m ∷ xs) (x ∷ []) some all v = absurd v.1
  folds_have gate (n ∷ m ∷ xs) (x ∷ y ∷ us) some all v =
      let read = further k (length xs) ∷ n ∷ [] in
      let s = parted b (folded gate k (m ∷ xs)) (gate_of gate read (further k (length (m ∷ xs))) ∷ []) all in
      let rest = folds_have gate (m ∷ xs) (y ∷ us) (omega arith) s.0 v.1 in
      gate_bit ports b h gate read (further k (length (m ∷ xs))) (fold_bits (λ c x. gate_value gate (c ∷ x ∷ [])) (y ∷ us) ∷ x ∷ [])
      s.1.0 (rest, (v.0, tt))

  -- a reduction gives what is folded
  pub reduction_has : (gate : Gate) (outs xs : List (List ℕ)) (us : List Bool) → length outs ≡ 1 → 1 ≤ length xs
      → HasNodes b (reduction gate k outs xs) → HaveBits ports b h xs us
      → HaveBits ports b h outs (fold_bits (λ c x. gate_value gate (c ∷ x ∷ [])) us ∷ [])
  reduction_has gate outs xs us one some all v =
      let s = parted b (folded gate k xs) (on_each buffer outs (fold_end k xs ∷ [])) all in
      buffers_have ports b h outs (fold_end k xs ∷ []) (fold_bits (λ c x. gate_value gate (c ∷ x ∷ [])) us ∷ []) one s.1
      (folds_have gate xs us some s.0 v, tt)
