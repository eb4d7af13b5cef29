-- What the nodes of an operator give for words of any names.
use Rattle.std.proofs.Common.{◌≡◌, ℕ, ◌*◌, ◌≤◌, ◌==◌, Bool, true, false, List, [], ◌∷◌, length, sym, subst, ◌∙◌, arith, if◌then◌else◌}
use Rattle.chw_bits.specs.Bits.{number_of}
use Rattle.chw_clock.specs.declared.event.Event.{Event}
use Rattle.chw_clock.specs.declared.event.Ports.{Ports}
use Rattle.netlist.specs.Operators.{operator1, operator2}
use Rattle.netlist.specs.declared.net.Op1.TheVariants.{Not, RedAnd, RedOr, RedXor}
use Rattle.netlist.specs.declared.net.Op2.TheVariants.{Add, Sub, And, Or, Xor, Eq, LtU, LtS}
use Rattle.bit_laws.specs.BitNames.{further}
use Rattle.bit_laws.specs.Bitnet.{BitValue, Bitnet, HaveBits}
use Rattle.bit_laws.specs.Blast.{binary_nodes, choices_by, equal_nodes, less_nodes, on_each, signed_nodes, unary_nodes}
use Rattle.bit_laws.specs.Gates.{is_less}
use Rattle.bit_laws.specs.Gates.Gate.{always, both, buffer, differing, either, inverse, never}
use Rattle.bit_laws.proofs.Comparisons.{equal_is, equal_of, equals_have, less_is, less_of, lesses_have, signed_is, signeds_have}
use Rattle.bit_laws.proofs.Reductions.{all_is, any_is, odd_is, reduction_has}
use Rattle.bit_laws.proofs.Sums.{difference_is, differences_have, sum_is, sums_have}
use Rattle.bit_laws.proofs.Words.{HasNodes, buffers_have, choices_have, gate_bit, have_length, on_both_has, on_each_has, parted}

module _ (ports : Ports) (b : Bitnet) (h : List Event) where
  -- words of equal length have bits of equal number
  pub as_long : (xs ys : List (List ℕ)) (us vs : List Bool) → length xs ≡ length ys → HaveBits ports b h xs us → HaveBits ports b h ys vs
      → length us ≡ length vs
  as_long xs ys us vs e v w = sym (have_length ports b h xs us v) ∙ e ∙ have_length ports b h ys vs w

  pub not_has : (k : ℕ) (outs xs : List (List ℕ)) (us : List Bool) → length outs ≡ length xs → HasNodes b (unary_nodes Not k outs xs)
      → HaveBits ports b h xs us → HaveBits ports b h outs (operator1 Not us)
  not_has k outs xs us e all v = on_each_has ports b h inverse outs xs us e all v

  pub red_and_has : (k : ℕ) (outs xs : List (List ℕ)) (us : List Bool) → length outs ≡ 1 → 1 ≤ length xs
      → HasNodes b (unary_nodes RedAnd k outs xs) → HaveBits ports b h xs us → HaveBits ports b h outs (operator1 RedAnd us)
  red_and_has k outs [] us one some all v = absurd (omega arith)
  red_and_has k outs (n ∷ xs) [] one some all v = absurd v
  red_and_has k outs (n ∷ xs) (x ∷ us) one some all v =
      subst (λ r. HaveBits ports b h outs (r ∷ [])) (all_is x us) (reduction_has ports b h k both outs (n ∷ xs) (x ∷ us) one some all v)

  pub red_or_has : (k : ℕ) (outs xs : List (List ℕ)) (us : List Bool) → length outs ≡ 1 → 1 ≤ length xs
      → HasNodes b (unary_nodes RedOr k outs xs) → HaveBits ports b h xs us → HaveBits ports b h outs (operator1 RedOr us)
  red_or_has k outs [] us one some all v = absurd (omega arith)
  red_or_has k outs (n ∷ xs) [] one some all v = absurd v
  red_or_has k outs (n ∷ xs) (x ∷ us) one some all v =
      subst (λ r. HaveBits ports b h outs (r ∷ [])) (any_is x us) (reduction_has ports b h k either outs (n ∷ xs) (x ∷ us) one some all v)

  pub red_xor_has : (k : ℕ) (outs xs : List (List ℕ)) (us : List Bool) → length outs ≡ 1 → 1 ≤ length xs
      → HasNodes b (unary_nodes RedXor k outs xs) → HaveBits ports b h xs us → HaveBits ports b h outs (operator1 RedXor us)
  red_xor_has k outs [] us one some all v = absurd (omega arith)
  red_xor_has k outs (n ∷ xs) [] one some all v = absurd v
  red_xor_has k outs (n ∷ xs) (x ∷ us) one some all v =
      subst (λ r. HaveBits ports b h outs (r ∷ [])) (odd_is x us) (reduction_has ports b h k differing outs (n ∷ xs) (x ∷ us) one some all v)

  pub and_has : (k : ℕ) (outs xs ys : List (List ℕ)) (us vs : List Bool) → length outs ≡ length xs → length outs ≡ length ys
      → HasNodes b (binary_nodes And k outs xs ys) → HaveBits ports b h xs us → HaveBits ports b h ys vs
      → HaveBits ports b h outs (operator2 And us vs)
  and_has k outs xs ys us vs e f all v w = on_both_has ports b h both outs xs ys us vs e f all v w

  pub or_has : (k : ℕ) (outs xs ys : List (List ℕ)) (us vs : List Bool) → length outs ≡ length xs → length outs ≡ length ys
      → HasNodes b (binary_nodes Or k outs xs ys) → HaveBits ports b h xs us → HaveBits ports b h ys vs
      → HaveBits ports b h outs (operator2 Or us vs)
  or_has k outs xs ys us vs e f all v w = on_both_has ports b h either outs xs ys us vs e f all v w

  pub xor_has : (k : ℕ) (outs xs ys : List (List ℕ)) (us vs : List Bool) → length outs ≡ length xs → length outs ≡ length ys
      → HasNodes b (binary_nodes Xor k outs xs ys) → HaveBits ports b h xs us → HaveBits ports b h ys vs
      → HaveBits ports b h outs (operator2 Xor us vs)
  xor_has k outs xs ys us vs e f all v w = on_both_has ports b h differing outs xs ys us vs e f all v w

  -- a choice by a word of one bit
  pub mux_has : (cs outs xs ys : List (List ℕ)) (on us vs : List Bool) → length cs ≡ 1 → length outs ≡ length xs → length outs ≡ length ys
      → HasNodes b (choices_by cs outs xs ys) → HaveBits ports b h cs on → HaveBits ports b h xs us → HaveBits ports b h ys vs
      → HaveBits ports b h outs (if number_of on == 1 then us else vs)
  mux_has [] outs xs ys on us vs one e f all t v w = absurd (omega arith)
  mux_has (c ∷ d ∷ cs) outs xs ys on us vs one e f all t v w = absurd (omega arith)
  mux_has (c ∷ []) outs xs ys [] us vs one e f all t v w = absurd t
  mux_has (c ∷ []) outs xs ys (true ∷ []) us vs one e f all t v w = choices_have ports b h true c outs xs ys us vs e f all t.0 v w
  mux_has (c ∷ []) outs xs ys (false ∷ []) us vs one e f all t v w = choices_have ports b h false c outs xs ys us vs e f all t.0 v w
  mux_has (c ∷ []) outs xs ys (x ∷ y ∷ on) us vs one e f all t v w = absurd t.1

  pub add_has : (k : ℕ) (outs xs ys : List (List ℕ)) (us vs : List Bool) → length outs ≡ length xs → length outs ≡ length ys
      → HasNodes b (binary_nodes Add k outs xs ys) → HaveBits ports b h xs us → HaveBits ports b h ys vs
      → HaveBits ports b h outs (operator2 Add us vs)
  add_has k outs xs ys us vs e f all v w =
      let t : BitValue ports b h (further k 0) false = gate_bit ports b h never [] (further k 0) [] all.0 tt in
      let s = sums_have ports b h k false outs xs ys us vs e f all.1 t v w in
      subst (λ r. HaveBits ports b h outs r) (sum_is us vs (as_long xs ys us vs (sym e ∙ f) v w)) s.bits

  pub subtract_has : (k : ℕ) (outs xs ys : List (List ℕ)) (us vs : List Bool) → length outs ≡ length xs → length outs ≡ length ys
      → HasNodes b (binary_nodes Sub k outs xs ys) → HaveBits ports b h xs us → HaveBits ports b h ys vs
      → HaveBits ports b h outs (operator2 Sub us vs)
  subtract_has k outs xs ys us vs e f all v w =
      let t : BitValue ports b h (further k 0) true = gate_bit ports b h always [] (further k 0) [] all.0 tt in
      let s = differences_have ports b h k true outs xs ys us vs e f all.1 t v w in
      subst (λ r. HaveBits ports b h outs r) (difference_is us vs (as_long xs ys us vs (sym e ∙ f) v w)) s.bits

  pub equal_has : (k : ℕ) (outs xs ys : List (List ℕ)) (us vs : List Bool) → length outs ≡ 1 → length xs ≡ length ys
      → HasNodes b (binary_nodes Eq k outs xs ys) → HaveBits ports b h xs us → HaveBits ports b h ys vs
      → HaveBits ports b h outs (operator2 Eq us vs)
  equal_has k outs xs ys us vs one e all v w =
      let t : BitValue ports b h (further k 0) true = gate_bit ports b h always [] (further k 0) [] all.0 tt in
      let s = parted b (equal_nodes k xs ys) (on_each buffer outs (further k (2 * length xs) ∷ [])) all.1 in
      let r = equals_have ports b h k xs ys us vs e s.0 t v w in
      subst (λ r. HaveBits ports b h outs (r ∷ [])) (equal_is us vs (as_long xs ys us vs e v w))
      (buffers_have ports b h outs (further k (2 * length xs) ∷ []) (equal_of us vs ∷ []) one s.1 (r, tt))

  pub less_has : (k : ℕ) (outs xs ys : List (List ℕ)) (us vs : List Bool) → length outs ≡ 1 → length xs ≡ length ys
      → HasNodes b (binary_nodes LtU k outs xs ys) → HaveBits ports b h xs us → HaveBits ports b h ys vs
      → HaveBits ports b h outs (operator2 LtU us vs)
  less_has k outs xs ys us vs one e all v w =
      let t : BitValue ports b h (further k 0) false = gate_bit ports b h never [] (further k 0) [] all.0 tt in
      let s = parted b (less_nodes k xs ys) (on_each buffer outs (further k (length xs) ∷ [])) all.1 in
      let r = lesses_have ports b h k xs ys us vs e s.0 t v w in
      subst (λ r. HaveBits ports b h outs (r ∷ [])) (less_is us vs (as_long xs ys us vs e v w))
      (buffers_have ports b h outs (further k (length xs) ∷ []) (less_of us vs ∷ []) one s.1 (r, tt))

  pub signed_less_has : (k : ℕ) (outs xs ys : List (List ℕ)) (us vs : List Bool) → length outs ≡ 1 → 1 ≤ length xs → length xs ≡ length ys
      → HasNodes b (binary_nodes LtS k outs xs ys) → HaveBits ports b h xs us → HaveBits ports b h ys vs
      → HaveBits ports b h outs (operator2 LtS us vs)
  signed_less_has k outs [] ys us vs one some e all v w = absurd (omega arith)
  signed_less_has k outs (n ∷ xs) [] us vs one some e all v w = absurd (omega arith)
  signed_less_has k outs (n ∷ xs) (m ∷ ys) [] vs one some e all v w = absurd v
  signed_less_has k outs (n ∷ xs) (m ∷ ys) (x ∷ us) [] one some e all v w = absurd w
  signed_less_has k outs (n ∷ xs) (m ∷ ys) (x ∷ us) (y ∷ vs) one some e all v w =
      let t : BitValue ports b h (further k 0) false = gate_bit ports b h never [] (further k 0) [] all.0 tt in
      let s = parted b (signed_nodes k (n ∷ xs) (m ∷ ys)) (on_each buffer outs (further k (length (n ∷ xs)) ∷ [])) all.1 in
      let rest : length xs ≡ length ys = omega arith in
      let r = signeds_have ports b h k n m xs ys x y us vs rest s.0 t v w in
      let is = signed_is x y us vs (as_long xs ys us vs rest v.1 w.1) in
      subst (λ r. HaveBits ports b h outs (r ∷ [])) is
      (buffers_have ports b h outs (further k (length (n ∷ xs)) ∷ []) (is_less y x (less_of us vs) ∷ []) one s.1 (r, tt))
