-- What latches of words give.
use Rattle.std.proofs.Common.{◌≡◌, ℕ, ◌<◌, Bool, true, false, List, [], ◌∷◌, length, Some, None, refl, sym, subst, ◌∙◌, arith, if◌then◌else◌}
use Rattle.chw_base.specs.declared.index.DomId.{DomId}
use Rattle.chw_clock.specs.Histories.{before}
use Rattle.chw_clock.specs.declared.event.Event.{Event}
use Rattle.chw_clock.specs.declared.event.Ports.{Ports}
use Rattle.bit_laws.specs.BitNames.{further}
use Rattle.bit_laws.specs.Bitnet.{BitValue, Bitnet, HaveBits, clock_of}
use Rattle.bit_laws.specs.Bitnet.BitValue.{initially, latched}
use Rattle.bit_laws.specs.Bitnet.Node.{latch}
use Rattle.bit_laws.specs.Blast.{gate_of, register_nodes, reset_nodes}
use Rattle.bit_laws.specs.Gates.{gate_value}
use Rattle.bit_laws.specs.Gates.Gate.{cleared, either}
use Rattle.bit_laws.proofs.Words.{HasNodes, choice_bits, chosen_bits, gate_bit, have_length, parted}

-- while the reset is asserted the initial bit is taken
reset_bit : (bit x r : Bool) → gate_value (if bit then either else cleared) (x ∷ r ∷ []) ≡ (if r then bit else x)
reset_bit true true true = refl
reset_bit true true false = refl
reset_bit true false true = refl
reset_bit true false false = refl
reset_bit false true true = refl
reset_bit false true false = refl
reset_bit false false true = refl
reset_bit false false false = refl

module _ (ports : Ports) (b : Bitnet) (h : List Event) (domain : DomId) (within : domain.number < length ports.domains) where
  -- before the domain has ticked the latches have their initial bits
  pub first_have : (outs xs : List (List ℕ)) (bits : List Bool) → before h domain ≡ None → length outs ≡ length xs → length outs ≡ length bits
      → HasNodes b (register_nodes (clock_of ports domain) outs xs bits) → HaveBits ports b h outs bits
  first_have [] [] [] none e f all = tt
  first_have [] [] (x ∷ bits) none e f all = absurd (omega arith)
  first_have [] (n ∷ xs) bits none e f all = absurd (omega arith)
  first_have (o ∷ outs) [] bits none e f all = absurd (omega arith)
  first_have (o ∷ outs) (n ∷ xs) [] none e f all = absurd (omega arith)
  first_have (o ∷ outs) (n ∷ xs) (x ∷ bits) none e f all =
      let s = parted b (register_nodes (clock_of ports domain) outs xs bits) (latch n o (clock_of ports domain) x ∷ []) all in
      (initially n o domain x h (within, s.1.0) none, first_have outs xs bits none (omega arith) (omega arith) s.0)

  -- then those that they took at the last tick
  pub later_have : (past : List Event) (outs xs : List (List ℕ)) (bits values : List Bool) → before h domain ≡ Some past
      → length outs ≡ length xs → length outs ≡ length bits
      → HasNodes b (register_nodes (clock_of ports domain) outs xs bits) → HaveBits ports b past xs values → HaveBits ports b h outs values
  later_have past [] [] [] [] tick e f all v = tt
  later_have past [] [] [] (y ∷ values) tick e f all v = absurd v
  later_have past [] [] (x ∷ bits) values tick e f all v = absurd (omega arith)
  later_have past [] (n ∷ xs) bits values tick e f all v = absurd (omega arith)
  later_have past (o ∷ outs) [] bits values tick e f all v = absurd (omega arith)
  later_have past (o ∷ outs) (n ∷ xs) [] values tick e f all v = absurd (omega arith)
  later_have past (o ∷ outs) (n ∷ xs) (x ∷ bits) [] tick e f all v = absurd v
  later_have past (o ∷ outs) (n ∷ xs) (x ∷ bits) (y ∷ values) tick e f all v =
      let s = parted b (register_nodes (clock_of ports domain) outs xs bits) (latch n o (clock_of ports domain) x ∷ []) all in
      (latched n o domain x y h past (within, s.1.0) tick v.0, later_have past outs xs bits values tick (omega arith) (omega arith) s.0 v.1)

  module _ (k : ℕ) (reset : List ℕ) where
    -- the same of latches behind gates with a reset
    pub reset_first_have : (outs xs : List (List ℕ)) (bits : List Bool) → before h domain ≡ None → length outs ≡ length xs → length outs ≡ length bits
        → HasNodes b (reset_nodes k (clock_of ports domain) reset outs xs bits) → HaveBits ports b h outs bits
    reset_first_have [] [] [] none e f all = tt
    reset_first_have [] [] (x ∷ bits) none e f all = absurd (omega arith)
    reset_first_have [] (n ∷ xs) bits none e f all = absurd (omega arith)
    reset_first_have (o ∷ outs) [] bits none e f all = absurd (omega arith)
    reset_first_have (o ∷ outs) (n ∷ xs) [] none e f all = absurd (omega arith)
    reset_first_have (o ∷ outs) (n ∷ xs) (x ∷ bits) none e f all =
        let s = parted b (reset_nodes k (clock_of ports domain) reset outs xs bits)
        (gate_of (if x then either else cleared) (n ∷ reset ∷ []) (further k (length xs)) ∷ latch (further k (length xs)) o (clock_of ports domain) x ∷ []) all in (
          initially (further k (length xs)) o domain x h (within, s.1.1.0) none,
          reset_first_have outs xs bits none (omega arith) (omega arith) s.0,
        )

    reset_each : (past : List Event) (r : Bool) (outs xs : List (List ℕ)) (bits values : List Bool) → before h domain ≡ Some past
        → length outs ≡ length xs → length outs ≡ length bits → HasNodes b (reset_nodes k (clock_of ports domain) reset outs xs bits)
        → BitValue ports b past reset r → HaveBits ports b past xs values → HaveBits ports b h outs (choice_bits r bits values)
    reset_each past r [] [] [] [] tick e f all t v = tt
    reset_each past r [] [] [] (y ∷ values) tick e f all t v = absurd v
    reset_each past r [] [] (x ∷ bits) values tick e f all t v = absurd (omega arith)
    reset_each past r [] (n ∷ xs) bits values tick e f all t v = absurd (omega arith)
    reset_each past r (o ∷ outs) [] bits values tick e f all t v = absurd (omega arith)
    reset_each past r (o ∷ outs) (n ∷ xs) [] values tick e f all t v = absurd (omega arith)
    reset_each past r (o ∷ outs) (n ∷ xs) (x ∷ bits) [] tick e f all t v = absurd v
    reset_each past r (o ∷ outs) (n ∷ xs) (x ∷ bits) (y ∷ values) tick e f all t v =
        let gate = if x then either else cleared in
        let s = parted b (reset_nodes k (clock_of ports domain) reset outs xs bits)
        (gate_of gate (n ∷ reset ∷ []) (further k (length xs)) ∷ latch (further k (length xs)) o (clock_of ports domain) x ∷ []) all in
        let taken : BitValue ports b past (further k (length xs)) (if r then x else y) =
        subst (λ z. BitValue ports b past (further k (length xs)) z) (reset_bit x y r)
        (gate_bit ports b past gate (n ∷ reset ∷ []) (further k (length xs)) (y ∷ r ∷ []) s.1.0 (v.0, (t, tt))) in (
          latched (further k (length xs)) o domain x (if r then x else y) h past (within, s.1.1.0) tick taken,
          reset_each past r outs xs bits values tick (omega arith) (omega arith) s.0 t v.1,
        )

    pub reset_later_have : (past : List Event) (r : Bool) (outs xs : List (List ℕ)) (bits values : List Bool) → before h domain ≡ Some past
        → length outs ≡ length xs → length outs ≡ length bits → HasNodes b (reset_nodes k (clock_of ports domain) reset outs xs bits)
        → BitValue ports b past reset r → HaveBits ports b past xs values → HaveBits ports b h outs (if r then bits else values)
    reset_later_have past r outs xs bits values tick e f all t v =
        let same : length bits ≡ length values = sym f ∙ e ∙ have_length ports b past xs values v in
        subst (λ z. HaveBits ports b h outs z) (chosen_bits r bits values same) (reset_each past r outs xs bits values tick e f all t v)
