-- Names of single bits that are spelled alike.
use Rattle.std.proofs.Common.{◌≡◌, ℕ, ◌<◌, ◌^◌, true, List, [], ◌∷◌, ◌++◌, drop, reverse, get_or, refl, sym, ap, subst, ◌∙◌, arith}
use Rattle.std.specs.Prelude.{codes, decimal}
use Rattle.std.proofs.lemmas.Fmt.{decimal_injective}
use Rattle.std.proofs.lemmas.List.{append_assoc, append_cancel_left, reverse-append, reverse-reverse}
use Rattle.chw_base.specs.Names.{AllOf, is_digit}
use Rattle.chw_clock.specs.declared.event.Port.{Port}
use Rattle.verilog_text.specs.Names.{output_name, wire_text}
use Rattle.verilog_text.specs.VForms.{IsNumber}
use Rattle.verilog_text.proofs.Firsts.{digit_range, number_digits}
use Rattle.verilog_text.proofs.PrintedNames.{number_form}
use Rattle.verilog_text.proofs.Runs.{same_run}
use Rattle.bit_laws.specs.BitNames.{further, place_name}

-- two further names of one wire, and two places of one word
pub further_same : (k x y : ℕ) → x < 2 ^ 64 → y < 2 ^ 64 → further k x ≡ further k y → x ≡ y
further_same k x y small less e = decimal_injective x y small less (append_cancel_left (wire_text k ++ codes "_x") (decimal x) (decimal y) e)

pub place_same : (name : List ℕ) (i j : ℕ) → i < 2 ^ 64 → j < 2 ^ 64 → place_name name i ≡ place_name name j → i ≡ j
place_same name i j small less e = decimal_injective i j small less (append_cancel_left (name ++ codes "_") (decimal i) (decimal j) e)

no_letter : (bytes rest : List ℕ) → IsNumber bytes → 120 ∷ rest ≡ bytes → ⊥
no_letter [] rest form e = absurd form
no_letter (b ∷ bytes) rest form e =
    let head : 120 ≡ b = ap (λ xs. get_or xs 0 0) e in
    let range = digit_range b form.0 in
    omega (arith, head, range)

-- no further name is a place of the wire
pub further_no_place : (k x j : ℕ) → j < 2 ^ 64 → further k x ≡ place_name (wire_text k) j → ⊥
further_no_place k x j small e =
    let left = append_assoc (wire_text k) (codes "_x") (decimal x) in
    let right = append_assoc (wire_text k) (codes "_") (decimal j) in
    let ends : codes "_x" ++ decimal x ≡ codes "_" ++ decimal j =
    append_cancel_left (wire_text k) (codes "_x" ++ decimal x) (codes "_" ++ decimal j) (sym left ∙ e ∙ right) in
    no_letter (decimal j) (decimal x) (number_form j small) (ap (drop 1) ends)

-- a name of wire u: its digits, and a rest behind a `_`
abbrev pub OfWire : ℕ → List ℕ → Type 0
OfWire u name = (rest : List ℕ) × (name ≡ 119 ∷ (decimal u ++ 95 ∷ rest))

pub further_of_wire : (u x : ℕ) → OfWire u (further u x)
further_of_wire u x = (120 ∷ decimal x, ap (λ (bytes : List ℕ). 119 ∷ bytes) (append_assoc (decimal u) (codes "_x") (decimal x)))

pub place_of_wire : (u j : ℕ) → OfWire u (place_name (wire_text u) j)
place_of_wire u j = (decimal j, ap (λ (bytes : List ℕ). 119 ∷ bytes) (append_assoc (decimal u) (codes "_") (decimal j)))

pub one_wire : (u v : ℕ) (name : List ℕ) → u < 2 ^ 64 → v < 2 ^ 64 → OfWire u name → OfWire v name → u ≡ v
one_wire u v name small less first second =
    let same : decimal u ++ 95 ∷ first.0 ≡ decimal v ++ 95 ∷ second.0 = ap (drop 1) (sym first.1 ∙ second.1) in
    let parts = same_run is_digit (decimal v) (95 ∷ second.0) (decimal u) (95 ∷ first.0) (number_digits (decimal v) (number_form v less)) refl
    (number_digits (decimal u) (number_form u small)) refl same in
    decimal_injective u v small less parts.0

-- a place of an output is no name of a wire
pub output_no_wire : (domains : List (List ℕ)) (port : Port) (j u : ℕ) (name : List ℕ) → name ≡ place_name (output_name domains port) j → OfWire u name → ⊥
output_no_wire domains port j u name e of_wire =
    let head : 111 ≡ 119 = ap (λ xs. get_or xs 0 0) (sym e ∙ of_wire.1) in omega (arith, head)

pub output_no_further : (domains : List (List ℕ)) (port : Port) (k x j : ℕ) → further k x ≡ place_name (output_name domains port) j → ⊥
output_no_further domains port k x j e = output_no_wire domains port j k (further k x) e (further_of_wire k x)

-- what stands before the last `_`, and the number behind it
all_pushed : (bytes : List ℕ) (b : ℕ) → AllOf is_digit bytes → is_digit b ≡ true → AllOf is_digit (bytes ++ b ∷ [])
all_pushed [] b all digit = (digit, tt)
all_pushed (c ∷ bytes) b all digit = (all.0, all_pushed bytes b all.1 digit)

all_turned : (bytes : List ℕ) → AllOf is_digit bytes → AllOf is_digit (reverse bytes)
all_turned [] all = tt
all_turned (b ∷ bytes) all =
    subst (λ xs. AllOf is_digit xs) (sym (reverse-append (b ∷ []) bytes)) (all_pushed (reverse bytes) b (all_turned bytes all.1) all.0)

pub same_before : (a b : List ℕ) (i j : ℕ) → i < 2 ^ 64 → j < 2 ^ 64 → place_name a i ≡ place_name b j → (a ≡ b) × (i ≡ j)
same_before a b i j small less e =
    let first : reverse (place_name a i) ≡ reverse (decimal i) ++ 95 ∷ reverse a =
    reverse-append (a ++ codes "_") (decimal i) ∙ ap (λ xs. reverse (decimal i) ++ xs) (reverse-append a (codes "_")) in
    let second : reverse (place_name b j) ≡ reverse (decimal j) ++ 95 ∷ reverse b =
    reverse-append (b ++ codes "_") (decimal j) ∙ ap (λ xs. reverse (decimal j) ++ xs) (reverse-append b (codes "_")) in
    let turned : reverse (decimal i) ++ 95 ∷ reverse a ≡ reverse (decimal j) ++ 95 ∷ reverse b = sym first ∙ ap reverse e ∙ second in
    let parts = same_run is_digit (reverse (decimal j)) (95 ∷ reverse b) (reverse (decimal i)) (95 ∷ reverse a)
    (all_turned (decimal j) (number_digits (decimal j) (number_form j less))) refl
    (all_turned (decimal i) (number_digits (decimal i) (number_form i small))) refl turned in
    let digits : decimal i ≡ decimal j = sym (reverse-reverse (decimal i)) ∙ ap reverse parts.0 ∙ reverse-reverse (decimal j) in
    let names : reverse a ≡ reverse b = ap (drop 1) parts.1 in
    (sym (reverse-reverse a) ∙ ap reverse names ∙ reverse-reverse b, decimal_injective i j small less digits)
