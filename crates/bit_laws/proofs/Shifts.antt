-- Shifts, stage by stage.
use Rattle.std.proofs.Common.{◌≡◌, ℕ, zero, suc, ◌+◌, ◌-◌, ◌*◌, ◌/◌, ◌%◌, ◌^◌, ◌<◌, ◌≤◌, min, Bool, true, false, not, List, [], ◌∷◌, ◌++◌, length, map, take, drop, replicate, refl, sym, ap, subst, ◌∙◌, arith, if◌then◌else◌, inl, inr, ◌⊎◌}
use Rattle.std.proofs.Math.Nat.{mod-eq_of_lt}
use Rattle.std.proofs.lemmas.Bool.{cases_lt}
use Rattle.std.proofs.lemmas.List.{drop_all, length-append, length-drop, length-map, length-replicate, length-take, map-append, take-append-drop, take-map}
use Rattle.std.proofs.lemmas.Nat.{mod_low, mul-mod_first, pow-add, shl_below, shr-shr, shr_high, shr_le}
use Rattle.std.specs.Int.{int_div_euclid}
use lib.IntN.{pos, negsuc}
use Rattle.chw_bits.specs.Bits.{bits_of, number_of}
use Rattle.chw_bits.specs.Integers.{signed, word_of}
use Rattle.chw_bits.proofs.Numbers.{number_of-append, number_of_lt}
use Rattle.chw_bits.proofs.Signs.{complement_low, negative_is, positive_is}
use Rattle.chw_bits.proofs.WordResults.{down_past, up_past}
use Rattle.chw_clock.specs.declared.event.Event.{Event}
use Rattle.chw_clock.specs.declared.event.Ports.{Ports}
use Rattle.netlist.specs.Operators.{operator2}
use Rattle.netlist.specs.declared.net.Op2.TheVariants.{Shl, Shr, Sar}
use Rattle.bit_laws.specs.Bitnet.{BitValue, Bitnet, HaveBits}
use Rattle.bit_laws.specs.Blast.{choices, moved_down, moved_up, shift_nodes, shifted_names}
use Rattle.bit_laws.proofs.Numbers.{bits_are, number_of_opposite, word_is}
use Rattle.bit_laws.proofs.Products.{length-furthers, moved_number}
use Rattle.bit_laws.proofs.Words.{HasNodes, choices_have, have_copies, have_dropped, have_joined, have_length, have_taken, parted}

-- the word after the stages of these bits of the amount
abbrev pub shifted_of : (ℕ → List Bool → List Bool) → List Bool → List Bool → List Bool
shifted_of moved us [] = us
shifted_of moved us (s ∷ vs) = if s then moved (2 ^ length vs) (shifted_of moved us vs) else shifted_of moved us vs

-- the amount keeps the length
abbrev pub KeepsLength : (ℕ → List Bool → List Bool) → Type 0
KeepsLength moved = (places : ℕ) (us : List Bool) → length (moved places us) ≡ length us

pub up_keeps : (f : Bool) → KeepsLength (λ places. moved_up places f)
up_keeps f places us =
    length-append (drop places us) (replicate (min places (length us)) f)
    ∙ omega (arith, length-drop places us, length-replicate (min places (length us)) f)

pub down_keeps : (f : Bool) → KeepsLength (λ places. moved_down places f)
down_keeps f places us =
    length-append (replicate (min places (length us)) f) (take (length us - places) us)
    ∙ omega (arith, length-take (length us - places) us, length-replicate (min places (length us)) f)

pub length-shifted_of : (moved : ℕ → List Bool → List Bool) → KeepsLength moved → (us vs : List Bool) → length (shifted_of moved us vs) ≡ length us
length-shifted_of moved keeps us [] = refl
length-shifted_of moved keeps us (true ∷ vs) = keeps (2 ^ length vs) (shifted_of moved us vs) ∙ length-shifted_of moved keeps us vs
length-shifted_of moved keeps us (false ∷ vs) = length-shifted_of moved keeps us vs

number_of_zeros : (n : ℕ) → number_of (replicate n false) ≡ 0
number_of_zeros zero = refl
number_of_zeros (suc n) = omega (arith, number_of_zeros n)

-- moved up by so many places, with zeros
up_number : (d : ℕ) (us : List Bool) → number_of (moved_up d false us) ≡ number_of us * 2 ^ d % 2 ^ length us
up_number d us = by_size (cases_lt (length us) d)
  where
    by_size : (length us < d) ⊎ (d ≤ length us) → number_of (moved_up d false us) ≡ number_of us * 2 ^ d % 2 ^ length us
    by_size (inl less) =
        let none : drop d us ≡ [] = drop_all d us (omega arith) in
        ap (λ xs. number_of (xs ++ replicate (min d (length us)) false)) none ∙ number_of_zeros (min d (length us))
        ∙ up_past (number_of us) (length us) d (omega arith)
    by_size (inr le) =
        let places : min d (length us) ≡ d = omega arith in
        let zeros = number_of_zeros d in
        let low = drop d us in
        let long = length-drop d us in
        let joined : number_of (low ++ replicate d false) ≡ number_of low * 2 ^ d =
        number_of-append low (replicate d false)
        ∙ ap (λ n. number_of low * 2 ^ n + number_of (replicate d false)) (length-replicate d false)
        ∙ omega (arith, zeros) in
        let split : length low + d ≡ length us = omega (arith, long) in
        let below : number_of low * 2 ^ d < 2 ^ length us =
        subst (λ n. number_of low * 2 ^ d < 2 ^ n) split (shl_below (number_of low) (length low) d (number_of_lt low)) in
        ap (λ n. number_of (low ++ replicate n false)) places ∙ joined
        ∙ sym (ap (λ n. n % 2 ^ length us) (moved_number us d le) ∙ mod_low (number_of (take d us)) (length us) (number_of low * 2 ^ d) below)

-- moved down by so many places, with zeros
down_number : (d : ℕ) (us : List Bool) → number_of (moved_down d false us) ≡ number_of us / 2 ^ d
down_number d us = filled ∙ by_size (cases_lt (length us) d)
  where
    filled : number_of (moved_down d false us) ≡ number_of (take (length us - d) us)
    filled =
        number_of-append (replicate (min d (length us)) false) (take (length us - d) us)
        ∙ omega (arith, ap (λ n. n * 2 ^ length (take (length us - d) us)) (number_of_zeros (min d (length us))))

    by_size : (length us < d) ⊎ (d ≤ length us) → number_of (take (length us - d) us) ≡ number_of us / 2 ^ d
    by_size (inl less) =
        let none : length us - d ≡ 0 = omega arith in
        ap (λ n. number_of (take n us)) none ∙ down_past (number_of us) (length us) d (number_of_lt us) (omega arith)
    by_size (inr le) =
        let i = length us - d in
        let rest = drop i us in
        let long : length rest ≡ d = omega (arith, length-drop i us) in
        let whole : number_of us ≡ number_of (take i us) * 2 ^ d + number_of rest =
        ap number_of (sym (take-append-drop i us)) ∙ number_of-append (take i us) rest
        ∙ ap (λ n. number_of (take i us) * 2 ^ n + number_of rest) long in
        let below : number_of rest < 2 ^ d = subst (λ n. number_of rest < 2 ^ n) long (number_of_lt rest) in
        sym (ap (λ n. n / 2 ^ d) whole ∙ shr_high (number_of (take i us)) d (number_of rest) below)

-- the stages together move by the whole amount
zero_more : (n : ℕ) → n ≡ 0 + n
zero_more n = omega arith

pub ups_number : (us vs : List Bool)
    → number_of (shifted_of (λ places. moved_up places false) us vs) ≡ number_of us * 2 ^ number_of vs % 2 ^ length us
ups_number us [] =
    let same : number_of us * 1 ≡ number_of us = omega arith in
    sym (ap (λ n. n % 2 ^ length us) same ∙ mod-eq_of_lt (number_of_lt us))
ups_number us (false ∷ vs) = ups_number us vs ∙ ap (λ n. number_of us * 2 ^ n % 2 ^ length us) (zero_more (number_of vs))
ups_number us (true ∷ vs) =
    let before = shifted_of (λ places. moved_up places false) us vs in
    let w = 2 ^ length vs in
    let power : 2 ^ (w + number_of vs) ≡ 2 ^ w * 2 ^ number_of vs = pow-add 2 w (number_of vs) in
    let high = ap (λ n. number_of us * n) power in
    let shape : number_of us * 2 ^ number_of vs * 2 ^ w ≡ number_of us * 2 ^ (w + number_of vs) = omega (arith, high) in
    up_number w before
    ∙ ap (λ n. number_of before * 2 ^ w % 2 ^ n) (length-shifted_of (λ places. moved_up places false) (up_keeps false) us vs)
    ∙ ap (λ n. n * 2 ^ w % 2 ^ length us) (ups_number us vs)
    ∙ mul-mod_first (number_of us * 2 ^ number_of vs) (2 ^ w) (2 ^ length us)
    ∙ ap (λ n. n % 2 ^ length us) shape

pub downs_number : (us vs : List Bool)
    → number_of (shifted_of (λ places. moved_down places false) us vs) ≡ number_of us / 2 ^ number_of vs
downs_number us [] = omega arith
downs_number us (false ∷ vs) = downs_number us vs ∙ ap (λ n. number_of us / 2 ^ n) (zero_more (number_of vs))
downs_number us (true ∷ vs) =
    let w = 2 ^ length vs in
    let turned : number_of vs + w ≡ w + number_of vs = omega arith in
    down_number w (shifted_of (λ places. moved_down places false) us vs)
    ∙ ap (λ n. n / 2 ^ w) (downs_number us vs) ∙ shr-shr (number_of us) (number_of vs) w ∙ ap (λ n. number_of us / 2 ^ n) turned

pub shift_up_is : (us vs : List Bool) → shifted_of (λ places. moved_up places false) us vs ≡ operator2 Shl us vs
shift_up_is us vs =
    word_is (shifted_of (λ places. moved_up places false) us vs) (length us) (number_of us * 2 ^ number_of vs)
    (length-shifted_of (λ places. moved_up places false) (up_keeps false) us vs) (ups_number us vs)

quotient_below : (us : List Bool) (k : ℕ) → number_of us / 2 ^ k < 2 ^ length us
quotient_below us k = omega (arith, shr_le (number_of us) k, number_of_lt us)

pub shift_down_is : (us vs : List Bool) → shifted_of (λ places. moved_down places false) us vs ≡ operator2 Shr us vs
shift_down_is us vs =
    word_is (shifted_of (λ places. moved_down places false) us vs) (length us) (number_of us / 2 ^ number_of vs)
    (length-shifted_of (λ places. moved_down places false) (down_keeps false) us vs)
    (downs_number us vs ∙ sym (mod-eq_of_lt (quotient_below us (number_of vs))))

-- the opposite of a word that is moved down with ones is moved down with zeros
map_copies : (n : ℕ) → map not (replicate n true) ≡ replicate n false
map_copies zero = refl
map_copies (suc n) = ap (λ xs. false ∷ xs) (map_copies n)

opposite_down : (d : ℕ) (us : List Bool) → map not (moved_down d true us) ≡ moved_down d false (map not us)
opposite_down d us =
    map-append not (replicate (min d (length us)) true) (take (length us - d) us)
    ∙ ap (λ xs. xs ++ map not (take (length us - d) us)) (map_copies (min d (length us)))
    ∙ ap (λ xs. replicate (min d (length us)) false ++ xs) (sym (take-map not (length us - d) us))
    ∙ ap (λ n. replicate (min d n) false ++ take (n - d) (map not us)) (sym (length-map us not))

opposite_downs : (us vs : List Bool)
    → map not (shifted_of (λ places. moved_down places true) us vs) ≡ shifted_of (λ places. moved_down places false) (map not us) vs
opposite_downs us [] = refl
opposite_downs us (false ∷ vs) = opposite_downs us vs
opposite_downs us (true ∷ vs) =
    opposite_down (2 ^ length vs) (shifted_of (λ places. moved_down places true) us vs)
    ∙ ap (λ xs. moved_down (2 ^ length vs) false xs) (opposite_downs us vs)

-- a negative word, by the number of its opposite bits
negative : (us : List Bool) → signed (true ∷ us) ≡ negsuc (number_of (map not (true ∷ us)))
negative us =
    let low = complement_low (suc (length us)) (suc (length us)) (number_of (true ∷ us)) (omega arith) (number_of_lt (true ∷ us)) in
    let opposite = number_of_opposite (true ∷ us) in
    let is : 2 ^ suc (length us) - 1 - number_of (true ∷ us) ≡ number_of (map not (true ∷ us)) = omega (arith, opposite) in
    negative_is (true ∷ us) (suc (length us)) (omega arith) refl ∙ ap negsuc (low ∙ is)

-- the word of a negative integer
negative_word : (width q : ℕ) → q < 2 ^ width → bits_of width (2 ^ width - 1 - q) ≡ word_of width (negsuc q)
negative_word width q below = ap (λ n. bits_of width (2 ^ width - 1 - n)) (sym (mod-eq_of_lt below))

shift_negative_is : (us vs : List Bool) → shifted_of (λ places. moved_down places true) (true ∷ us) vs ≡ operator2 Sar (true ∷ us) vs
shift_negative_is us vs =
    let own = true ∷ us in
    let result = shifted_of (λ places. moved_down places true) own vs in
    let long = length-shifted_of (λ places. moved_down places true) (down_keeps true) own vs in
    let turned = map not own in
    let q = number_of turned / 2 ^ number_of vs in
    let opposite : number_of (map not result) ≡ q = ap number_of (opposite_downs own vs) ∙ downs_number turned vs in
    let whole : number_of (map not result) + number_of result + 1 ≡ 2 ^ length own =
    number_of_opposite result ∙ ap (λ n. 2 ^ n) long in
    let below : q < 2 ^ length own = subst (λ n. q < 2 ^ n) (length-map own not) (quotient_below turned (number_of vs)) in
    let number : number_of result ≡ 2 ^ length own - 1 - q = omega (arith, opposite, whole, below) in
    let small : 2 ^ length own - 1 - q < 2 ^ length own = omega (arith, below) in
    bits_are result (length own) (2 ^ length own - 1 - q) long (number ∙ sym (mod-eq_of_lt small))
    ∙ negative_word (length own) q below
    ∙ ap (λ z. word_of (length own) (int_div_euclid z (pos (2 ^ number_of vs)))) (sym (negative us))

shift_positive_is : (us vs : List Bool) → shifted_of (λ places. moved_down places false) (false ∷ us) vs ≡ operator2 Sar (false ∷ us) vs
shift_positive_is us vs =
    shift_down_is (false ∷ us) vs
    ∙ ap (λ z. word_of (length (false ∷ us)) (int_div_euclid z (pos (2 ^ number_of vs)))) (sym (positive_is (false ∷ us) refl))

pub shift_signed_is : (x : Bool) (us vs : List Bool) → shifted_of (λ places. moved_down places x) (x ∷ us) vs ≡ operator2 Sar (x ∷ us) vs
shift_signed_is true us vs = shift_negative_is us vs
shift_signed_is false us vs = shift_positive_is us vs

pub length-shifted_names : (k : ℕ) (xs ss : List (List ℕ)) → length (shifted_names k xs ss) ≡ length xs
length-shifted_names k xs [] = refl
length-shifted_names k xs (s ∷ ss) = length-furthers k (1 + length ss * length xs) (length xs)

module _ (ports : Ports) (b : Bitnet) (h : List Event) (k : ℕ) where
  -- what is filled in is the bit of a name
  pub up_has : (places : ℕ) (f : List ℕ) (z : Bool) (names : List (List ℕ)) (bits : List Bool) → BitValue ports b h f z
      → HaveBits ports b h names bits → HaveBits ports b h (moved_up places f names) (moved_up places z bits)
  up_has places f z names bits t v =
      let copies : HaveBits ports b h (replicate (min places (length names)) f) (replicate (min places (length bits)) z) =
      subst (λ n. HaveBits ports b h (replicate (min places (length names)) f) (replicate (min places n) z)) (have_length ports b h names bits v)
      (have_copies ports b h (min places (length names)) f z t) in
      have_joined ports b h (drop places names) (replicate (min places (length names)) f) (drop places bits) (replicate (min places (length bits)) z)
      (have_dropped ports b h places names bits v) copies

  pub down_has : (places : ℕ) (f : List ℕ) (z : Bool) (names : List (List ℕ)) (bits : List Bool) → BitValue ports b h f z
      → HaveBits ports b h names bits → HaveBits ports b h (moved_down places f names) (moved_down places z bits)
  down_has places f z names bits t v =
      let same = have_length ports b h names bits v in
      let copies : HaveBits ports b h (replicate (min places (length names)) f) (replicate (min places (length bits)) z) =
      subst (λ n. HaveBits ports b h (replicate (min places (length names)) f) (replicate (min places n) z)) same
      (have_copies ports b h (min places (length names)) f z t) in
      let part : HaveBits ports b h (take (length names - places) names) (take (length bits - places) bits) =
      subst (λ n. HaveBits ports b h (take (length names - places) names) (take (n - places) bits)) same
      (have_taken ports b h (length names - places) names bits v) in
      have_joined ports b h (replicate (min places (length names)) f) (take (length names - places) names) (replicate (min places (length bits)) z)
      (take (length bits - places) bits) copies part

  -- the stages give the shifted word
  pub shifts_have : (moved : ℕ → List (List ℕ) → List (List ℕ)) (move : ℕ → List Bool → List Bool) → KeepsLength move
      → ((places : ℕ) (names : List (List ℕ)) (bits : List Bool) → HaveBits ports b h names bits → HaveBits ports b h (moved places names) (move places bits))
      → (xs ss : List (List ℕ)) (us vs : List Bool) → HasNodes b (shift_nodes moved k xs ss)
      → HaveBits ports b h xs us → HaveBits ports b h ss vs
      → HaveBits ports b h (shifted_names k xs ss) (shifted_of move us vs)
  shifts_have moved move keeps both xs [] us [] all v w = v
  shifts_have moved move keeps both xs [] us (s ∷ vs) all v w = absurd w
  shifts_have moved move keeps both xs (n ∷ ss) us [] all v w = absurd w
  shifts_have moved move keeps both xs (n ∷ ss) us (s ∷ vs) all v w =
      let before = shifted_names k xs ss in
      let outs = shifted_names k xs (n ∷ ss) in
      let places = 2 ^ length ss in
      let result = shifted_of move us vs in
      let part = parted b (shift_nodes moved k xs ss) (choices n outs (moved places before) before) all in
      let rest : HaveBits ports b h before result = shifts_have moved move keeps both xs ss us vs part.0 v w.1 in
      let there : HaveBits ports b h (moved places before) (move places result) = both places before result rest in
      let own = length-shifted_names k xs (n ∷ ss) in
      let same = length-shifted_names k xs ss in
      let long = have_length ports b h before result rest in
      let wide = have_length ports b h (moved places before) (move places result) there in
      let kept = keeps places result in
      let first : length outs ≡ length (moved places before) = omega (arith, own, same, long, wide, kept) in
      let second : length outs ≡ length before = omega (arith, own, same) in
      subst (λ i. HaveBits ports b h outs (if s then move (2 ^ i) result else result)) (have_length ports b h ss vs w.1)
      (choices_have ports b h s n outs (moved places before) before (move places result) result first second part.1 w.0 there rest)
