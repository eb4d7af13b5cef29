-- Words of bits: what gates on each bit of them give.
use Rattle.std.proofs.Common.{◌≡◌, ℕ, zero, suc, Bool, true, false, List, [], ◌∷◌, ◌++◌, length, map, take, drop, replicate, refl, sym, ap, subst, ◌∙◌, arith, if◌then◌else◌}
use Rattle.std.specs.List.{AllByRecursion}
use Rattle.std.proofs.lemmas.List.{map-id}
use Rattle.chw_bits.specs.Bitwise.{bit_by_bit}
use Rattle.chw_clock.specs.declared.event.Event.{Event}
use Rattle.chw_clock.specs.declared.event.Ports.{Ports}
use Rattle.bit_laws.specs.Bitnet.{BitValue, BitValues, Bitnet, HasNode, HaveBits, Node}
use Rattle.bit_laws.specs.Bitnet.BitValue.{of_table}
use Rattle.bit_laws.specs.Bitnet.BitValues.{bits_and, no_bits}
use Rattle.bit_laws.specs.Blast.{choices, constants, gate_of, on_both, on_each}
use Rattle.bit_laws.specs.Gates.{Gate, gate_value, rows_of}
use Rattle.bit_laws.specs.Gates.Gate.{always, buffer, choice, never}
use Rattle.bit_laws.proofs.Rows.{rows_are_gate}

-- the net has these nodes
abbrev pub HasNodes : Bitnet → List Node → Type 0
HasNodes b nodes = AllByRecursion (HasNode b) nodes

pub parted : (b : Bitnet) (xs ys : List Node) → HasNodes b (xs ++ ys) → HasNodes b xs × HasNodes b ys
parted b [] ys all = (tt, all)
parted b (x ∷ xs) ys all = let rest = parted b xs ys all.1 in ((all.0, rest.0), rest.1)

-- by a bit the bits of the first word or of the second, one by one
abbrev pub choice_bits : Bool → List Bool → List Bool → List Bool
choice_bits on [] vs = []
choice_bits on (x ∷ us) [] = []
choice_bits on (x ∷ us) (y ∷ vs) = (if on then x else y) ∷ choice_bits on us vs

pub chosen_bits : (on : Bool) (us vs : List Bool) → length us ≡ length vs → choice_bits on us vs ≡ (if on then us else vs)
chosen_bits true [] vs e = refl
chosen_bits false [] [] e = refl
chosen_bits false [] (y ∷ vs) e = absurd (omega arith)
chosen_bits true (x ∷ us) [] e = absurd (omega arith)
chosen_bits false (x ∷ us) [] e = absurd (omega arith)
chosen_bits true (x ∷ us) (y ∷ vs) e = ap (λ r. x ∷ r) (chosen_bits true us vs (omega arith))
chosen_bits false (x ∷ us) (y ∷ vs) e = ap (λ r. y ∷ r) (chosen_bits false us vs (omega arith))

module _ (ports : Ports) (b : Bitnet) (h : List Event) where
  pub values_of : (names : List (List ℕ)) (bits : List Bool) → HaveBits ports b h names bits → BitValues ports b h names bits
  values_of [] [] v = no_bits h
  values_of [] (x ∷ bits) v = absurd v
  values_of (n ∷ names) [] v = absurd v
  values_of (n ∷ names) (x ∷ bits) v = bits_and h n names x bits v.0 (values_of names bits v.1)

  -- a gate gives its value
  pub gate_bit : (gate : Gate) (reads : List (List ℕ)) (drives : List ℕ) (bits : List Bool) → HasNode b (gate_of gate reads drives)
      → HaveBits ports b h reads bits → BitValue ports b h drives (gate_value gate bits)
  gate_bit gate reads drives bits has v =
      subst (λ x. BitValue ports b h drives x) (rows_are_gate gate bits)
      (of_table reads drives (rows_of gate) h bits has (values_of reads bits v))

  pub have_length : (names : List (List ℕ)) (bits : List Bool) → HaveBits ports b h names bits → length names ≡ length bits
  have_length [] [] v = refl
  have_length [] (x ∷ bits) v = absurd v
  have_length (n ∷ names) [] v = absurd v
  have_length (n ∷ names) (x ∷ bits) v = ap suc (have_length names bits v.1)

  pub have_dropped : (k : ℕ) (names : List (List ℕ)) (bits : List Bool) → HaveBits ports b h names bits
      → HaveBits ports b h (drop k names) (drop k bits)
  have_dropped zero names bits v = v
  have_dropped (suc k) [] [] v = tt
  have_dropped (suc k) [] (x ∷ bits) v = absurd v
  have_dropped (suc k) (n ∷ names) [] v = absurd v
  have_dropped (suc k) (n ∷ names) (x ∷ bits) v = have_dropped k names bits v.1

  pub have_taken : (k : ℕ) (names : List (List ℕ)) (bits : List Bool) → HaveBits ports b h names bits
      → HaveBits ports b h (take k names) (take k bits)
  have_taken zero names bits v = tt
  have_taken (suc k) [] [] v = tt
  have_taken (suc k) [] (x ∷ bits) v = absurd v
  have_taken (suc k) (n ∷ names) [] v = absurd v
  have_taken (suc k) (n ∷ names) (x ∷ bits) v = (v.0, have_taken k names bits v.1)

  pub have_joined : (names more : List (List ℕ)) (bits others : List Bool) → HaveBits ports b h names bits
      → HaveBits ports b h more others → HaveBits ports b h (names ++ more) (bits ++ others)
  have_joined [] more [] others v w = w
  have_joined [] more (x ∷ bits) others v w = absurd v
  have_joined (n ∷ names) more [] others v w = absurd v
  have_joined (n ∷ names) more (x ∷ bits) others v w = (v.0, have_joined names more bits others v.1 w)

  pub have_copies : (k : ℕ) (name : List ℕ) (x : Bool) → BitValue ports b h name x
      → HaveBits ports b h (replicate k name) (replicate k x)
  have_copies zero name x v = tt
  have_copies (suc k) name x v = (v, have_copies k name x v)

  -- these bits
  constant_bit : (x : Bool) (o : List ℕ) → HasNode b (gate_of (if x then always else never) [] o) → BitValue ports b h o x
  constant_bit true o has = gate_bit always [] o [] has tt
  constant_bit false o has = gate_bit never [] o [] has tt

  pub constants_have : (outs : List (List ℕ)) (bits : List Bool) → length outs ≡ length bits → HasNodes b (constants outs bits)
      → HaveBits ports b h outs bits
  constants_have [] [] e all = tt
  constants_have [] (x ∷ bits) e all = absurd (omega arith)
  constants_have (o ∷ outs) [] e all = absurd (omega arith)
  constants_have (o ∷ outs) (x ∷ bits) e all =
      let s = parted b (constants outs bits) (gate_of (if x then always else never) [] o ∷ []) all in
      (constant_bit x o s.1.0, constants_have outs bits (omega arith) s.0)

  -- a gate on each bit of a word
  pub on_each_has : (gate : Gate) (outs xs : List (List ℕ)) (bits : List Bool) → length outs ≡ length xs → HasNodes b (on_each gate outs xs)
      → HaveBits ports b h xs bits → HaveBits ports b h outs (map (λ x. gate_value gate (x ∷ [])) bits)
  on_each_has gate [] [] [] e all v = tt
  on_each_has gate [] [] (x ∷ bits) e all v = absurd v
  on_each_has gate [] (n ∷ xs) bits e all v = absurd (omega arith)
  on_each_has gate (o ∷ outs) [] bits e all v = absurd (omega arith)
  on_each_has gate (o ∷ outs) (n ∷ xs) [] e all v = absurd v
  on_each_has gate (o ∷ outs) (n ∷ xs) (x ∷ bits) e all v =
      let s = parted b (on_each gate outs xs) (gate_of gate (n ∷ []) o ∷ []) all in
      (gate_bit gate (n ∷ []) o (x ∷ []) s.1.0 (v.0, tt), on_each_has gate outs xs bits (omega arith) s.0 v.1)

  pub buffers_have : (outs xs : List (List ℕ)) (bits : List Bool) → length outs ≡ length xs → HasNodes b (on_each buffer outs xs)
      → HaveBits ports b h xs bits → HaveBits ports b h outs bits
  buffers_have outs xs bits e all v =
      subst (λ ys. HaveBits ports b h outs ys) (map-id bits) (on_each_has buffer outs xs bits e all v)

  -- a gate on the bits of two words
  pub on_both_has : (gate : Gate) (outs xs ys : List (List ℕ)) (us vs : List Bool) → length outs ≡ length xs → length outs ≡ length ys
      → HasNodes b (on_both gate outs xs ys) → HaveBits ports b h xs us → HaveBits ports b h ys vs
      → HaveBits ports b h outs (bit_by_bit (λ x y. gate_value gate (x ∷ y ∷ [])) us vs)
  on_both_has gate [] [] [] [] [] e f all v w = tt
  on_both_has gate [] [] [] [] (y ∷ vs) e f all v w = absurd w
  on_both_has gate [] [] [] (x ∷ us) vs e f all v w = absurd v
  on_both_has gate [] [] (m ∷ ys) us vs e f all v w = absurd (omega arith)
  on_both_has gate [] (n ∷ xs) ys us vs e f all v w = absurd (omega arith)
  on_both_has gate (o ∷ outs) [] ys us vs e f all v w = absurd (omega arith)
  on_both_has gate (o ∷ outs) (n ∷ xs) [] us vs e f all v w = absurd (omega arith)
  on_both_has gate (o ∷ outs) (n ∷ xs) (m ∷ ys) [] vs e f all v w = absurd v
  on_both_has gate (o ∷ outs) (n ∷ xs) (m ∷ ys) (x ∷ us) [] e f all v w = absurd w
  on_both_has gate (o ∷ outs) (n ∷ xs) (m ∷ ys) (x ∷ us) (y ∷ vs) e f all v w =
      let s = parted b (on_both gate outs xs ys) (gate_of gate (n ∷ m ∷ []) o ∷ []) all in (
        gate_bit gate (n ∷ m ∷ []) o (x ∷ y ∷ []) s.1.0 (v.0, (w.0, tt)),
        on_both_has gate outs xs ys us vs (omega arith) (omega arith) s.0 v.1 w.1,
      )

  -- by one bit the first word or the second
  choice_each : (on : Bool) (c : List ℕ) (outs xs ys : List (List ℕ)) (us vs : List Bool) → length outs ≡ length xs → length outs ≡ length ys
      → HasNodes b (choices c outs xs ys) → BitValue ports b h c on → HaveBits ports b h xs us → HaveBits ports b h ys vs
      → HaveBits ports b h outs (choice_bits on us vs)
  choice_each on c [] [] [] [] [] e f all t v w = tt
  choice_each on c [] [] [] [] (y ∷ vs) e f all t v w = absurd w
  choice_each on c [] [] [] (x ∷ us) vs e f all t v w = absurd v
  choice_each on c [] [] (m ∷ ys) us vs e f all t v w = absurd (omega arith)
  choice_each on c [] (n ∷ xs) ys us vs e f all t v w = absurd (omega arith)
  choice_each on c (o ∷ outs) [] ys us vs e f all t v w = absurd (omega arith)
  choice_each on c (o ∷ outs) (n ∷ xs) [] us vs e f all t v w = absurd (omega arith)
  choice_each on c (o ∷ outs) (n ∷ xs) (m ∷ ys) [] vs e f all t v w = absurd v
  choice_each on c (o ∷ outs) (n ∷ xs) (m ∷ ys) (x ∷ us) [] e f all t v w = absurd w
  choice_each on c (o ∷ outs) (n ∷ xs) (m ∷ ys) (x ∷ us) (y ∷ vs) e f all t v w =
      let s = parted b (choices c outs xs ys) (gate_of choice (c ∷ n ∷ m ∷ []) o ∷ []) all in (
        gate_bit choice (c ∷ n ∷ m ∷ []) o (on ∷ x ∷ y ∷ []) s.1.0 (t, (v.0, (w.0, tt))),
        choice_each on c outs xs ys us vs (omega arith) (omega arith) s.0 t v.1 w.1,
      )

  pub choices_have : (on : Bool) (c : List ℕ) (outs xs ys : List (List ℕ)) (us vs : List Bool) → length outs ≡ length xs
      → length outs ≡ length ys → HasNodes b (choices c outs xs ys) → BitValue ports b h c on → HaveBits ports b h xs us
      → HaveBits ports b h ys vs → HaveBits ports b h outs (if on then us else vs)
  choices_have on c outs xs ys us vs e f all t v w =
      let same : length us ≡ length vs = sym (have_length xs us v) ∙ sym e ∙ f ∙ have_length ys vs w in
      subst (λ zs. HaveBits ports b h outs zs) (chosen_bits on us vs same) (choice_each on c outs xs ys us vs e f all t v w)
