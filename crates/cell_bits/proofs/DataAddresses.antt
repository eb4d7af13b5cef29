-- The bits of addresses.
use Rattle.std.proofs.Common.{◌≡◌, ℕ, zero, suc, ◌+◌, ◌-◌, ◌*◌, ◌%◌, ◌^◌, ◌<◌, ◌≤◌, min, Bool, true, false, cond, eqb, ltb, List, [], ◌∷◌, ◌++◌, length, replicate, refl, sym, ap, ◌∙◌, subst, arith, append-nil, length-append, if◌then◌else◌, ◌==◌, nat_lt, mod-eq_of_lt, div-one}
use Rattle.std.proofs.lemmas.Bool.Decides.{Decides-eqb, Decides-ltb}
use Rattle.std.proofs.lemmas.List.{length-replicate}
use Rattle.chw_base.specs.declared.index.WireId.{WireId}
use Rattle.chw_base.specs.declared.limits.TheConstants.{ADDRESS_BITS}
use Rattle.chw_bits.specs.Bits.{number_of, bits_of, cut_of}
use Rattle.chw_bits.specs.Bitwise.{one_bit}
use Rattle.chw_bits.proofs.Numbers.{length-bits_of, lt-pow, number_of_lt, number_of-append}
use Rattle.chw_bits.proofs.RoundTrips.{number_of-bits_of, same_bits, length-cut_of, number_of-cut_of}
use Rattle.chw_clock.specs.declared.event.Event.{Event}
use Rattle.netlist.specs.declared.net.Cell.TheVariants.{Const, Join}
use Rattle.netlist.specs.declared.net.Net.{Net}
use Rattle.netlist.specs.declared.net.Op2.TheVariants.{LtU}
use Rattle.net_built.specs.Memories.{past_all, narrowed, filled_up, address, address_wire}
use Rattle.net_built.specs.Wires.{wire, nothing, one, ◌▸◌, last_wire}
use Rattle.net_built.specs.Words.{zeros, only}
use Rattle.use_laws.specs.ValueIn.{ValueIn, ReadIn, read_none, read_and}
use Rattle.cell_bits.specs.AddressLaws.{narrow}
use Rattle.cell_bits.specs.Bearing.{HasCells, Bears, bears_nothing, bears_bits}
use Rattle.cell_bits.specs.DataLaws.{joined}
use Rattle.cell_bits.proofs.DataCells.{value_of, const_value, cut_value, join_value, bin_value, mux_value}

number_of_zeros : (k : ℕ) → number_of (replicate k false) ≡ 0
number_of_zeros zero = refl
number_of_zeros (suc k) = omega (arith, number_of_zeros k)

-- a number of 12 bits is kept by them
kept_by_12 : (n : ℕ) → n < 4096 → number_of (bits_of ADDRESS_BITS n) ≡ n
kept_by_12 n lt = number_of-bits_of ADDRESS_BITS n ∙ mod-eq_of_lt lt

pub narrow_number : (bits : List Bool) → number_of (narrow bits) ≡ min (number_of bits) past_all
narrow_number bits = kept_by_12 (min (number_of bits) past_all) (omega arith)

below_12 : (bits : List Bool) → length bits ≤ ADDRESS_BITS → number_of bits < 4096
below_12 bits le = lt-pow (number_of bits) (length bits) ADDRESS_BITS (number_of_lt bits) le

pub narrow_keeps : (bits : List Bool) → length bits ≤ ADDRESS_BITS → number_of (narrow bits) ≡ number_of bits
narrow_keeps bits le = let below : number_of bits < 4096 = below_12 bits le in omega (arith, narrow_number bits)

-- twelve bits with the right number are the address
is_narrow : (word bits : List Bool) → length word ≡ ADDRESS_BITS → number_of word ≡ min (number_of bits) past_all → word ≡ narrow bits
is_narrow word bits e f = same_bits word (narrow bits) (e ∙ sym (length-bits_of ADDRESS_BITS (min (number_of bits) past_all))) (f ∙ sym (narrow_number bits))

-- as many bits as they are
already_narrow : (bits : List Bool) → length bits ≡ ADDRESS_BITS → bits ≡ narrow bits
already_narrow bits e = let below : number_of bits < 4096 = below_12 bits (omega arith) in is_narrow bits bits e (omega arith)

-- with zeros before them
filled_narrow : (d : ℕ) (bits : List Bool) → d + length bits ≡ ADDRESS_BITS → zeros d ++ bits ≡ narrow bits
filled_narrow d bits e =
    let below : number_of bits < 4096 = below_12 bits (omega arith) in
    let size : length (zeros d ++ bits) ≡ ADDRESS_BITS = omega (arith, length-append (zeros d) bits, length-replicate d false) in
    let number : number_of (zeros d ++ bits) ≡ number_of bits =
    number_of-append (zeros d) bits ∙ ap (λ m. m * 2 ^ length bits + number_of bits) (number_of_zeros d) ∙ omega arith in
    is_narrow (zeros d ++ bits) bits size (omega arith)

-- the greatest address, where the number is greater than 4,094, and else the low bits
choice_narrow : (k : ℕ) (bits : List Bool) (over : Bool) → length bits ≡ k → ADDRESS_BITS < k → over ≡ ltb (number_of (bits_of k (past_all - 1))) (number_of bits)
    → cond over (bits_of ADDRESS_BITS past_all) (cut_of (ADDRESS_BITS - 1) 0 bits) ≡ narrow bits
choice_narrow k bits over size wide e = by_test over e
  where
    bound : number_of (bits_of k (past_all - 1)) ≡ 4094
    bound = number_of-bits_of k (past_all - 1) ∙ mod-eq_of_lt (lt-pow 4094 ADDRESS_BITS k (omega arith) (omega arith))

    tells : (ltb (number_of (bits_of k (past_all - 1))) (number_of bits) ≡ true → number_of (bits_of k (past_all - 1)) < number_of bits)
        × (number_of (bits_of k (past_all - 1)) < number_of bits → ltb (number_of (bits_of k (past_all - 1))) (number_of bits) ≡ true)
    tells = Decides-ltb (number_of (bits_of k (past_all - 1))) (number_of bits)

    at_most : false ≡ ltb (number_of (bits_of k (past_all - 1))) (number_of bits) → ¬ (4094 < number_of bits)
    at_most e lt = false_true (e ∙ tells.1 (omega (arith, bound)))
      where
        false_true : false ≡ true → ⊥
        false_true f = cc

    by_test : (over : Bool) → over ≡ ltb (number_of (bits_of k (past_all - 1))) (number_of bits)
        → cond over (bits_of ADDRESS_BITS past_all) (cut_of (ADDRESS_BITS - 1) 0 bits) ≡ narrow bits
    by_test true e =
        let more : number_of (bits_of k (past_all - 1)) < number_of bits = tells.0 (sym e) in
        is_narrow (bits_of ADDRESS_BITS past_all) bits (length-bits_of ADDRESS_BITS past_all) (kept_by_12 past_all (omega arith) ∙ omega (arith, bound, more))
    by_test false e =
        let less : ¬ (4094 < number_of bits) = at_most e in
        let small : number_of bits < 4096 = omega (arith, less) in
        let number : number_of (cut_of 11 0 bits) ≡ number_of bits =
        number_of-cut_of bits 11 0 (omega arith) (omega arith) ∙ ap (λ m. m % 4096) (div-one (number_of bits)) ∙ mod-eq_of_lt small in
        is_narrow (cut_of 11 0 bits) bits (length-cut_of bits 11 0 (omega arith) (omega arith)) (number ∙ omega (arith, less))

module _ (net : Net) (path : List ℕ) (h : List Event) where
  read_part : {a : List WireId} {bits : List Bool} → Bears net path h a bits → (read : List (List Bool)) × ReadIn net path h a read × (joined read ≡ bits)
  read_part bears_nothing = ([], read_none path h, refl)
  read_part (bears_bits {w = w} {bit = bit} {bits = bits} v) = ((bit ∷ bits) ∷ [], read_and path h w [] (bit ∷ bits) [] v (read_none path h), append-nil (bit ∷ bits))

  filled_value : (d n : ℕ) (a : List WireId) (bits : List Bool) → 0 < d → Bears net path h a bits
      → HasCells net path (one d (Const (wire n) (zeros d)) ▸ one ADDRESS_BITS (Join (wire (n + 1)) (wire n ∷ a))).cells
      → ValueIn net path h (last_wire n (one d (Const (wire n) (zeros d)) ▸ one ADDRESS_BITS (Join (wire (n + 1)) (wire n ∷ a)))).number (zeros d ++ bits)
  filled_value zero n a bits some b has = absurd (omega arith)
  filled_value (suc d) n a bits some b has =
      let place : n + 1 ≡ n + 2 - 1 = omega arith in
      let read = read_part b in
      let given : ValueIn net path h (n + 1) (zeros (suc d) ++ joined read.0) =
      join_value net path h (n + 1) (wire n ∷ a) (zeros (suc d) ∷ read.0) (has 1 _ refl)
      (read_and path h (wire n) a (zeros (suc d)) read.0 (const_value net path h n (zeros (suc d)) (has 0 _ refl)) read.1) in
      subst (λ w. ValueIn net path h w (zeros (suc d) ++ bits)) place
      (subst (λ bs. ValueIn net path h (n + 1) (zeros (suc d) ++ bs)) read.2 given)

  narrowed_value : (k n : ℕ) (a : List WireId) (bits : List Bool) → length bits ≡ k → ADDRESS_BITS < k → Bears net path h a bits → HasCells net path (narrowed k n a).cells
      → ValueIn net path h (last_wire n (narrowed k n a)).number (narrow bits)
  narrowed_value zero n a bits e wide b has = absurd (omega arith)
  narrowed_value (suc k) n a bits e wide b has =
      let over : Bool = ltb (number_of (bits_of (suc k) (past_all - 1))) (number_of bits) in
      let place : n + 4 ≡ n + 5 - 1 = omega arith in
      let v : ValueIn net path h (only a).number bits = value_of net path h b (omega arith) in
      let test : ValueIn net path h (n + 1) (one_bit over) =
      bin_value net path h (n + 1) LtU (wire n) (only a) (bits_of (suc k) (past_all - 1)) bits (has 1 _ refl)
      (const_value net path h n (bits_of (suc k) (past_all - 1)) (has 0 _ refl)) v in
      let high : ValueIn net path h (n + 2) (bits_of ADDRESS_BITS past_all) = const_value net path h (n + 2) (bits_of ADDRESS_BITS past_all) (has 2 _ refl) in
      let low : ValueIn net path h (n + 3) (cut_of (ADDRESS_BITS - 1) 0 bits) = cut_value net path h (n + 3) (ADDRESS_BITS - 1) 0 (only a) bits (has 3 _ refl) v in
      let given : ValueIn net path h (n + 4) (cond over (bits_of ADDRESS_BITS past_all) (cut_of (ADDRESS_BITS - 1) 0 bits)) =
      mux_value net path h (n + 4) (wire (n + 1)) (wire (n + 2)) (wire (n + 3)) over (bits_of ADDRESS_BITS past_all) (cut_of (ADDRESS_BITS - 1) 0 bits) (has 4 _ refl) test high low in
      subst (λ w. ValueIn net path h w (narrow bits)) place
      (subst (λ bs. ValueIn net path h (n + 4) bs) (choice_narrow (suc k) bits over e wide refl) given)

  by_width : (k n : ℕ) (a : List WireId) (bits : List Bool) (is less : Bool) → is ≡ eqb k ADDRESS_BITS → less ≡ ltb k ADDRESS_BITS → Bears net path h a bits → length bits ≡ k
      → 0 < k → HasCells net path (if is then nothing else (if less then filled_up k n a else narrowed k n a)).cells
      → ValueIn net path h (if is then only a else last_wire n (if is then nothing else (if less then filled_up k n a else narrowed k n a))).number (narrow bits)
  by_width k n a bits true less e f b size some has =
      let is : k ≡ ADDRESS_BITS = (Decides-eqb k ADDRESS_BITS).0 (sym e) in
      subst (λ bs. ValueIn net path h (only a).number bs) (already_narrow bits (size ∙ is)) (value_of net path h b (omega arith))
  by_width k n a bits false true e f b size some has =
      let lt : k < ADDRESS_BITS = (Decides-ltb k ADDRESS_BITS).0 (sym f) in
      subst (λ bs. ValueIn net path h (last_wire n (filled_up k n a)).number bs) (filled_narrow (ADDRESS_BITS - k) bits (omega arith))
      (filled_value (ADDRESS_BITS - k) n a bits (omega arith) b has)
  by_width k n a bits false false e f b size some has = narrowed_value k n a bits size wide b has
    where
      differ : k ≡ ADDRESS_BITS → ⊥
      differ is = let t : eqb k ADDRESS_BITS ≡ true = (Decides-eqb k ADDRESS_BITS).1 is in cc

      past : k < ADDRESS_BITS → ⊥
      past lt = let t : ltb k ADDRESS_BITS ≡ true = (Decides-ltb k ADDRESS_BITS).1 lt in cc

      wide : ADDRESS_BITS < k
      wide = omega (arith, differ, past)

  pub address_bears : (k n : ℕ) (a : List WireId) (bits : List Bool) → Bears net path h a bits → length bits ≡ k → HasCells net path (address k n a).cells
      → ValueIn net path h (address_wire k n a).number (narrow bits)
  address_bears zero n a [] b e has =
      let place : n ≡ n + 1 - 1 = omega arith in
      subst (λ w. ValueIn net path h w (zeros ADDRESS_BITS)) place (const_value net path h n (zeros ADDRESS_BITS) (has 0 _ refl))
  address_bears zero n a (bit ∷ bits) b e has = absurd (omega arith)
  address_bears (suc k) n a bits b e has = by_width (suc k) n a bits (suc k == ADDRESS_BITS) (nat_lt (suc k) ADDRESS_BITS) refl refl b e (omega arith) has
