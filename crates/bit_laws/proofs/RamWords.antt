-- What the nodes of one word of a RAM give.
use Rattle.std.proofs.Common.{◌≡◌, ℕ, zero, suc, ◌+◌, ◌*◌, ◌^◌, ◌<◌, Bool, true, false, not, ◌&&◌, ◌||◌, List, [], ◌∷◌, ◌++◌, length, replicate, Some, None, refl, sym, ap, subst, ◌∙◌, arith, if◌then◌else◌, eqb}
use Rattle.std.proofs.Math.Nat.{mod-eq_of_lt}
use Rattle.std.proofs.lemmas.Bool.{ne_eqb}
use Rattle.std.proofs.lemmas.List.{length-replicate}
use Rattle.std.proofs.lemmas.Nat.{pow_pos}
use Rattle.chw_base.specs.declared.index.DomId.{DomId}
use Rattle.chw_bits.specs.Bits.{bits_of, number_of}
use Rattle.chw_bits.specs.Bitwise.{differ}
use Rattle.chw_bits.proofs.Numbers.{length-bits_of, number_of_lt}
use Rattle.chw_bits.proofs.WordResults.{number_kept}
use Rattle.chw_clock.specs.Histories.{before}
use Rattle.chw_clock.specs.declared.event.Event.{Event}
use Rattle.chw_clock.specs.declared.event.Ports.{Ports}
use Rattle.netlist.specs.NetValue.{writes, zeros}
use Rattle.bit_laws.specs.BitNames.{further}
use Rattle.bit_laws.specs.Bitnet.{BitValue, Bitnet, HaveBits, Node, clock_of}
use Rattle.bit_laws.specs.Bitnet.BitValue.{initially, latched}
use Rattle.bit_laws.specs.Bitnet.Node.{latch}
use Rattle.bit_laws.specs.Blast.{gate_of, ram_shown, shown_names, word_nodes}
use Rattle.bit_laws.specs.Gates.{are_bits}
use Rattle.bit_laws.specs.Gates.Gate.{added, choice}
use Rattle.bit_laws.proofs.Numbers.{bits_are, eqb_alike, same_power, weight}
use Rattle.bit_laws.proofs.Words.{HasNodes, choice_bits, chosen_bits, gate_bit, parted}

-- the names of the latches of a word
abbrev pub latch_names : (k x : ℕ) → (count : ℕ) → List (List ℕ)
latch_names k x zero = []
latch_names k x (suc count) = further k (x + (3 * count + 2)) ∷ latch_names k x count

-- words of one length have the same bits just where they have the same number
one_same : (x y k : Bool) (p q a b : ℕ) → q ≡ p → a < p → b < p → k ≡ eqb a b
    → (not (differ x y) && k) ≡ eqb (weight x p + a) (weight y q + b)
one_same true true k p q a b e l m f = f ∙ sym (eqb_alike (p + a) (q + b) a b (λ g. omega arith) (λ g. omega arith))
one_same true false k p q a b e l m f = sym (ne_eqb (p + a) (0 + b) (λ g. omega arith))
one_same false true k p q a b e l m f = sym (ne_eqb (0 + a) (q + b) (λ g. omega arith))
one_same false false k p q a b e l m f = f ∙ sym (eqb_alike (0 + a) (0 + b) a b (λ g. omega arith) (λ g. omega arith))

pub same_is : (us vs : List Bool) → length us ≡ length vs → are_bits us vs ≡ eqb (number_of us) (number_of vs)
same_is [] [] e = refl
same_is [] (y ∷ vs) e = absurd (omega arith)
same_is (x ∷ us) [] e = absurd (omega arith)
same_is (x ∷ us) (y ∷ vs) e =
    let rest : length us ≡ length vs = omega arith in
    let power : 2 ^ length vs ≡ 2 ^ length us = same_power vs us (sym rest) in
    let small : number_of vs < 2 ^ length us = subst (λ p. number_of vs < p) power (number_of_lt vs) in
    one_same x y (are_bits us vs) (2 ^ length us) (2 ^ length vs) (number_of us) (number_of vs) power (number_of_lt us) small (same_is us vs rest)

-- an address is read where its number is
pub address_is : (at width : ℕ) (bits : List Bool) → at < 2 ^ width → length bits ≡ width
    → are_bits (bits_of width at) bits ≡ eqb at (number_of bits)
address_is at width bits below e =
    same_is (bits_of width at) bits (length-bits_of width at ∙ sym e) ∙ ap (λ n. eqb n (number_of bits)) (number_kept width at below)

turned_test : (a b : ℕ) → eqb a b ≡ eqb b a
turned_test a b = eqb_alike a b b a sym sym

-- it is written where the enable is set besides
pub writes_is : (at width : ℕ) (enable place : List Bool) → at < 2 ^ width → length enable ≡ 1 → length place ≡ width
    → are_bits (true ∷ bits_of width at) (enable ++ place) ≡ writes enable place at
writes_is at width [] place below e f = absurd (omega arith)
writes_is at width (x ∷ y ∷ enable) place below e f = absurd (omega arith)
writes_is at width (true ∷ []) place below e f = address_is at width place below f ∙ turned_test at (number_of place)
writes_is at width (false ∷ []) place below e f = refl

-- what is shown is as wide as a word
pub length-shown_names : (k x n : ℕ) → length (shown_names k x n) ≡ n
length-shown_names k x zero = refl
length-shown_names k x (suc n) = ap suc (length-shown_names k x n)

pub length-ram_shown : (k width x : ℕ) (cs : List (List ℕ)) (words : List (List Bool)) → length cs ≡ width → length (ram_shown k width x cs words) ≡ width
length-ram_shown k width x cs [] e = e
length-ram_shown k width x cs (bits ∷ words) e =
    length-ram_shown k width (x + (2 + 3 * width)) (shown_names k x width) words (length-shown_names k x width)

-- zeros
number_of_copies : (n : ℕ) → number_of (replicate n false) ≡ 0
number_of_copies zero = refl
number_of_copies (suc n) = omega (arith, number_of_copies n)

pub zeros_are : (n : ℕ) → replicate n false ≡ zeros n
zeros_are n = bits_are (replicate n false) n 0 (length-replicate n false) (number_of_copies n ∙ sym (mod-eq_of_lt (pow_pos n)))

-- what is shown so far, and a word where it is read
abbrev pub added_bits : Bool → List Bool → List Bool → List Bool
added_bits r (z ∷ zs) (q ∷ qs) = (z || r && q) ∷ added_bits r zs qs
added_bits r _ _ = []

pub added_none : (zs qs : List Bool) → length zs ≡ length qs → added_bits false zs qs ≡ zs
added_none [] qs e = refl
added_none (z ∷ zs) [] e = absurd (omega arith)
added_none (true ∷ zs) (q ∷ qs) e = ap (λ r. true ∷ r) (added_none zs qs (omega arith))
added_none (false ∷ zs) (q ∷ qs) e = ap (λ r. false ∷ r) (added_none zs qs (omega arith))

pub added_to_zeros : (qs : List Bool) → added_bits true (replicate (length qs) false) qs ≡ qs
added_to_zeros [] = refl
added_to_zeros (q ∷ qs) = ap (λ r. q ∷ r) (added_to_zeros qs)

module _ (ports : Ports) (b : Bitnet) (domain : DomId) (within : domain.number < length ports.domains) (k x : ℕ) where
  -- the nodes of the first bit
  abbrev of_bit : (cs : List (List ℕ)) (c v : List ℕ) → Bool → List Node
  of_bit cs c v bit =
      latch (further k (x + (3 * length cs + 3))) (further k (x + (3 * length cs + 2))) (clock_of ports domain) bit
      ∷ gate_of choice (further k x ∷ v ∷ further k (x + (3 * length cs + 2)) ∷ []) (further k (x + (3 * length cs + 3)))
      ∷ gate_of added (c ∷ further k (x + 1) ∷ further k (x + (3 * length cs + 2)) ∷ []) (further k (x + (3 * length cs + 4))) ∷ []

  -- before the domain has ticked the latches have the initial word
  pub word_first : (h : List Event) (cs values : List (List ℕ)) (bits : List Bool) → before h domain ≡ None → length cs ≡ length values
      → length cs ≡ length bits → HasNodes b (word_nodes k x (clock_of ports domain) cs values bits)
      → HaveBits ports b h (latch_names k x (length cs)) bits
  word_first h [] [] [] none e f all = tt
  word_first h [] [] (y ∷ bits) none e f all = absurd (omega arith)
  word_first h [] (v ∷ values) bits none e f all = absurd (omega arith)
  word_first h (c ∷ cs) [] bits none e f all = absurd (omega arith)
  word_first h (c ∷ cs) (v ∷ values) [] none e f all = absurd (omega arith)
  word_first h (c ∷ cs) (v ∷ values) (y ∷ bits) none e f all =
      let s = parted b (word_nodes k x (clock_of ports domain) cs values bits) (of_bit cs c v y) all in (
        initially (further k (x + (3 * length cs + 3))) (further k (x + (3 * length cs + 2))) domain y h (within, s.1.0) none,
        word_first h cs values bits none (omega arith) (omega arith) s.0,
      )

  -- then the word that was written at the last tick, or the one that they had
  word_each : (h past : List Event) (t : Bool) (cs values : List (List ℕ)) (bits vs qs : List Bool) → before h domain ≡ Some past
      → length cs ≡ length values → length cs ≡ length bits → HasNodes b (word_nodes k x (clock_of ports domain) cs values bits)
      → BitValue ports b past (further k x) t → HaveBits ports b past values vs → HaveBits ports b past (latch_names k x (length cs)) qs
      → HaveBits ports b h (latch_names k x (length cs)) (choice_bits t vs qs)
  word_each h past t [] [] [] [] qs tick e f all w v u = tt
  word_each h past t [] [] [] (z ∷ vs) qs tick e f all w v u = absurd v
  word_each h past t [] [] (y ∷ bits) vs qs tick e f all w v u = absurd (omega arith)
  word_each h past t [] (n ∷ values) bits vs qs tick e f all w v u = absurd (omega arith)
  word_each h past t (c ∷ cs) [] bits vs qs tick e f all w v u = absurd (omega arith)
  word_each h past t (c ∷ cs) (n ∷ values) [] vs qs tick e f all w v u = absurd (omega arith)
  word_each h past t (c ∷ cs) (n ∷ values) (y ∷ bits) [] qs tick e f all w v u = absurd v
  word_each h past t (c ∷ cs) (n ∷ values) (y ∷ bits) (z ∷ vs) [] tick e f all w v u = absurd u
  word_each h past t (c ∷ cs) (n ∷ values) (y ∷ bits) (z ∷ vs) (q ∷ qs) tick e f all w v u =
      let own = further k (x + (3 * length cs + 2)) in
      let next = further k (x + (3 * length cs + 3)) in
      let s = parted b (word_nodes k x (clock_of ports domain) cs values bits) (of_bit cs c n y) all in
      let taken : BitValue ports b past next (if t then z else q) =
      gate_bit ports b past choice (further k x ∷ n ∷ own ∷ []) next (t ∷ z ∷ q ∷ []) s.1.1.0 (w, (v.0, (u.0, tt))) in (
        latched next own domain y (if t then z else q) h past (within, s.1.0) tick taken,
        word_each h past t cs values bits vs qs tick (omega arith) (omega arith) s.0 w v.1 u.1,
      )

  pub word_later : (h past : List Event) (t : Bool) (cs values : List (List ℕ)) (bits vs qs : List Bool) → before h domain ≡ Some past
      → length cs ≡ length values → length cs ≡ length bits → length vs ≡ length qs
      → HasNodes b (word_nodes k x (clock_of ports domain) cs values bits)
      → BitValue ports b past (further k x) t → HaveBits ports b past values vs → HaveBits ports b past (latch_names k x (length cs)) qs
      → HaveBits ports b h (latch_names k x (length cs)) (if t then vs else qs)
  word_later h past t cs values bits vs qs tick e f g all w v u =
      subst (λ z. HaveBits ports b h (latch_names k x (length cs)) z) (chosen_bits t vs qs g) (word_each h past t cs values bits vs qs tick e f all w v u)

  -- the word is shown where it is read
  pub word_shown : (h : List Event) (r : Bool) (cs values : List (List ℕ)) (bits zs qs : List Bool) → length cs ≡ length values
      → length cs ≡ length bits → HasNodes b (word_nodes k x (clock_of ports domain) cs values bits)
      → BitValue ports b h (further k (x + 1)) r → HaveBits ports b h cs zs → HaveBits ports b h (latch_names k x (length cs)) qs
      → HaveBits ports b h (shown_names k x (length cs)) (added_bits r zs qs)
  word_shown h r [] [] [] [] qs e f all w v u = tt
  word_shown h r [] [] [] (z ∷ zs) qs e f all w v u = absurd v
  word_shown h r [] [] (y ∷ bits) zs qs e f all w v u = absurd (omega arith)
  word_shown h r [] (n ∷ values) bits zs qs e f all w v u = absurd (omega arith)
  word_shown h r (c ∷ cs) [] bits zs qs e f all w v u = absurd (omega arith)
  word_shown h r (c ∷ cs) (n ∷ values) [] zs qs e f all w v u = absurd (omega arith)
  word_shown h r (c ∷ cs) (n ∷ values) (y ∷ bits) [] qs e f all w v u = absurd v
  word_shown h r (c ∷ cs) (n ∷ values) (y ∷ bits) (z ∷ zs) [] e f all w v u = absurd u
  word_shown h r (c ∷ cs) (n ∷ values) (y ∷ bits) (z ∷ zs) (q ∷ qs) e f all w v u =
      let own = further k (x + (3 * length cs + 2)) in
      let s = parted b (word_nodes k x (clock_of ports domain) cs values bits) (of_bit cs c n y) all in (
        gate_bit ports b h added (c ∷ further k (x + 1) ∷ own ∷ []) (further k (x + (3 * length cs + 4))) (z ∷ r ∷ q ∷ []) s.1.1.1.0 (v.0, (w, (u.0, tt))),
        word_shown h r cs values bits zs qs (omega arith) (omega arith) s.0 w v.1 u.1,
      )
