-- The names of bits are names, and their first bytes tell inputs from what is driven.
use Rattle.std.proofs.Common.{◌≡◌, ℕ, zero, suc, ◌+◌, ◌<◌, ◌≤◌, ◌^◌, Bool, true, false, cond, eqb, ◌||◌, List, [], ◌∷◌, ◌++◌, length, get_or, inl, inr, refl, sym, subst, arith}
use Rattle.std.specs.Prelude.{codes, decimal, reverse}
use Rattle.std.specs.List.{AllByRecursion}
use Rattle.chw_base.specs.Names.{AllOf, IsLowerWord, IsUpper, is_name_byte}
use Rattle.chw_base.specs.declared.index.DomId.{DomId}
use Rattle.chw_clock.specs.Histories.{is_one_of}
use Rattle.chw_clock.specs.declared.event.Port.{Port}
use Rattle.net_rules.specs.PortsHold.{FitsPort}
use Rattle.verilog_text.specs.Names.{domain_name, input_name, output_name, reset_name, wire_text}
use Rattle.verilog_text.specs.Text.{clock_names}
use Rattle.verilog_text.proofs.Firsts.{number_digits}
use Rattle.verilog_text.proofs.PrintedNames.{number_form}
use Rattle.bit_laws.specs.BitNames.{further, place_name, word_names}
use Rattle.bit_laws.specs.Bitnet.{Node}
use Rattle.bit_laws.specs.Driven.{DriveInOrder, drives_of}
use Rattle.blif_text.specs.Statements.{IsName}
use Rattle.blif_text.proofs.Bytes.{all_append, digits_named, joined_named, small_named, upper_named}
use Rattle.blif_text.proofs.Distinct.{AreNarrow, all_turned, port_bits}

-- 1 for a bit of an input, 2 for what is driven, 0 for clocks and resets
abbrev pub kind : List ℕ → ℕ
kind [] = 0
kind (b ∷ name) = cond (eqb b 105) 1 (cond (eqb b 119 || eqb b 111) 2 0)

-- a name of this kind
abbrev pub Named : ℕ → List ℕ → Type 0
Named k name = IsName name × (kind name ≡ k)

decimal_named : (n : ℕ) → n < 2 ^ 64 → AllOf is_name_byte (decimal n)
decimal_named n small = digits_named (decimal n) (number_digits (decimal n) (number_form n small))

pub place_named : (k : ℕ) (base : List ℕ) (j : ℕ) → Named k base → j < 2 ^ 64 → Named k (place_name base j)
place_named k [] j named small = absurd named.0
place_named k (b ∷ base) j named small = (
  (named.0.0, joined_named (base ++ codes "_") (decimal j) (joined_named base (codes "_") named.0.1 (refl, tt)) (decimal_named j small)),
  named.1,
)

pub word_named : (k : ℕ) (base : List ℕ) (n : ℕ) → Named k base → n ≤ 2 ^ 64 → AllByRecursion (Named k) (word_names base n)
word_named k base zero named few = tt
word_named k base (suc n) named few = (place_named k base n named (omega arith), word_named k base n named (omega arith))

pub bits_named : (k : ℕ) (names : Port → List ℕ) (ports : List Port) → AreNarrow ports → AllByRecursion (λ port. Named k (names port)) ports
    → AllByRecursion (Named k) (port_bits names ports)
bits_named k names [] narrow all = tt
bits_named k names (port ∷ ports) narrow all =
    all_append (Named k) (reverse (word_names (names port) port.width)) (port_bits names ports)
    (all_turned (Named k) (word_names (names port) port.width) (word_named k (names port) port.width all.0 narrow.0)) (bits_named k names ports narrow.1 all.1)

-- clocks and resets
pub clocks_named : (resets : List DomId) (k : ℕ) (domains : List (List ℕ)) → AllByRecursion IsUpper domains → AllByRecursion (Named 0) (clock_names resets k domains)
clocks_named resets k [] uppers = tt
clocks_named resets k (domain ∷ domains) uppers =
    let bytes = upper_named domain uppers.0 in
    (((refl, (refl, (refl, (refl, bytes)))), refl), at (is_one_of resets (record { number = k })) (clocks_named resets (k + 1) domains uppers.1))
  where
    at : (has : Bool) → AllByRecursion (Named 0) (clock_names resets (k + 1) domains)
        → AllByRecursion (Named 0) (cond has (reset_name domain ∷ []) [] ++ clock_names resets (k + 1) domains)
    at true later = (((refl, (refl, (refl, (refl, upper_named domain uppers.0)))), refl), later)
    at false later = later

-- ports
domain_bytes : (domains : List (List ℕ)) (n : ℕ) → AllByRecursion IsUpper domains → AllOf is_name_byte (get_or domains n [])
domain_bytes [] n uppers = tt
domain_bytes (domain ∷ domains) zero uppers = upper_named domain uppers.0
domain_bytes (domain ∷ domains) (suc n) uppers = domain_bytes domains n uppers.1

lower_bytes : (name : List ℕ) → IsLowerWord name → AllOf is_name_byte name
lower_bytes [] lower = absurd lower
lower_bytes (b ∷ name) lower = (small_named b lower.0, lower.1)

port_bytes : (domains : List (List ℕ)) (port : Port) → AllByRecursion IsUpper domains → IsLowerWord port.name
    → AllOf is_name_byte ((domain_name domains port.dom ++ codes "_") ++ port.name)
port_bytes domains port uppers lower =
    joined_named (domain_name domains port.dom ++ codes "_") port.name
    (joined_named (domain_name domains port.dom) (codes "_") (domain_bytes domains port.dom.number uppers) (refl, tt)) (lower_bytes port.name lower)

pub inputs_named : (domains : List (List ℕ)) (count : ℕ) (ports : List Port) → AllByRecursion IsUpper domains → AllByRecursion (FitsPort count) ports
    → AllByRecursion (λ port. Named 1 (input_name domains port)) ports
inputs_named domains count [] uppers fits = tt
inputs_named domains count (port ∷ ports) uppers fits =
    (((refl, (refl, port_bytes domains port uppers fits.0.1)), refl), inputs_named domains count ports uppers fits.1)

pub outputs_named : (domains : List (List ℕ)) (count : ℕ) (ports : List Port) → AllByRecursion IsUpper domains → AllByRecursion (FitsPort count) ports
    → AllByRecursion (λ port. Named 2 (output_name domains port)) ports
outputs_named domains count [] uppers fits = tt
outputs_named domains count (port ∷ ports) uppers fits =
    (((refl, (refl, port_bytes domains port uppers fits.0.1)), refl), outputs_named domains count ports uppers fits.1)

-- wires
pub wire_named : (w : ℕ) → w < 2 ^ 64 → Named 2 (wire_text w)
wire_named w small = ((refl, decimal_named w small), refl)

pub further_named : (w x : ℕ) → w < 2 ^ 64 → x < 2 ^ 64 → Named 2 (further w x)
further_named w x small few = (
  (refl, joined_named (decimal w ++ codes "_x") (decimal x) (joined_named (decimal w) (codes "_x") (decimal_named w small) (refl, (refl, tt))) (decimal_named x few)),
  refl,
)

-- how many names nodes in order drive
pub record Counts (nodes : List Node) (x j count places : ℕ) : Type 0 where
  pub all : count + places ≡ x + j + length nodes
  pub furthers : x ≤ count
  pub bits : j ≤ places

pub counts : (base : List ℕ) (k : ℕ) (nodes : List Node) (x j count places : ℕ) → DriveInOrder base k nodes x j count places → Counts nodes x j count places
counts base k [] x j count places (e, f) = record { all = omega arith; furthers = omega arith; bits = omega arith }
counts base k (n ∷ nodes) x j count places (inl first) =
    let rest = counts base k nodes (suc x) j count places first.1 in
    let all = rest.all in
    let furthers = rest.furthers in
    record { all = omega arith; furthers = omega arith; bits = rest.bits }
counts base k (n ∷ nodes) x j count places (inr first) =
    let rest = counts base k nodes x (suc j) count places first.1 in
    let all = rest.all in
    let bits = rest.bits in
    record { all = omega arith; furthers = rest.furthers; bits = omega arith }

-- all that they drive is of a sort
pub order_named : (P : List ℕ → Type 0) (base : List ℕ) (k : ℕ) (nodes : List Node) (x j count places : ℕ) → ((i : ℕ) → i < count → P (further k i))
    → ((i : ℕ) → i < places → P (place_name base i)) → DriveInOrder base k nodes x j count places → AllByRecursion (λ node. P (drives_of node)) nodes
order_named P base k [] x j count places furthers bits order = tt
order_named P base k (n ∷ nodes) x j count places furthers bits (inl first) =
    let c = counts base k nodes (suc x) j count places first.1 in
    let less = c.furthers in
    (subst P (sym first.0) (furthers x (omega arith)), order_named P base k nodes (suc x) j count places furthers bits first.1)
order_named P base k (n ∷ nodes) x j count places furthers bits (inr first) =
    let c = counts base k nodes x (suc j) count places first.1 in
    let less = c.bits in
    (subst P (sym first.0) (bits j (omega arith)), order_named P base k nodes x (suc j) count places furthers bits first.1)
