-- Names of bits of which none stands twice.
use Rattle.std.proofs.Common.{◌≡◌, ℕ, zero, suc, ◌<◌, ◌≤◌, ◌^◌, true, false, List, [], ◌∷◌, ◌++◌, map, drop, reverse, refl, sym, ap, subst, ◌∙◌, arith}
use Rattle.std.specs.Prelude.{codes, decimal, flat_map}
use Rattle.std.specs.List.{AllByRecursion}
use Rattle.std.proofs.lemmas.Bool.{false≢true}
use Rattle.std.proofs.lemmas.Fmt.{decimal_injective}
use Rattle.std.proofs.lemmas.List.{append_cancel_left, reverse-append, reverse-reverse}
use Rattle.chw_base.specs.Names.{AllOf, is_digit}
use Rattle.chw_clock.specs.declared.event.Port.{Port}
use Rattle.name_tables.specs.Names.{AreDistinct, is_among}
use Rattle.verilog_text.proofs.DistinctNames.{not_among, not_in_both}
use Rattle.verilog_text.proofs.Firsts.{number_digits}
use Rattle.verilog_text.proofs.Places.{among_right, stands_among}
use Rattle.verilog_text.proofs.PrintedNames.{number_form}
use Rattle.verilog_text.proofs.Runs.{same_run}
use Rattle.bit_laws.specs.BitNames.{place_name, word_names}
use Rattle.blif_text.proofs.Bytes.{all_append}

-- no name of the one kind is among names of the other
absent : (Q : List ℕ → Type 0) (ys : List (List ℕ)) (x : List ℕ) → (Q x → ⊥) → AllByRecursion Q ys → is_among ys x ≡ false
absent Q [] x never all = refl
absent Q (y ∷ ys) x never all = not_among y ys x (λ same. never (subst Q (sym same) all.0)) (absent Q ys x never all.1)

pub distinct_apart : (P Q : List ℕ → Type 0) → ((name : List ℕ) → P name → Q name → ⊥) → (xs ys : List (List ℕ)) → AreDistinct xs → AreDistinct ys
    → AllByRecursion P xs → AllByRecursion Q ys → AreDistinct (xs ++ ys)
distinct_apart P Q never [] ys first second ps qs = second
distinct_apart P Q never (x ∷ xs) ys first second ps qs =
    (not_in_both xs ys x first.0 (absent Q ys x (λ q. never x ps.0 q) qs), distinct_apart P Q never xs ys first.1 second ps.1 qs)

pub all_turned : (P : List ℕ → Type 0) (xs : List (List ℕ)) → AllByRecursion P xs → AllByRecursion P (reverse xs)
all_turned P [] all = tt
all_turned P (x ∷ xs) all =
    subst (λ ys. AllByRecursion P ys) (sym (reverse-append (x ∷ []) xs)) (all_append P (reverse xs) (x ∷ []) (all_turned P xs all.1) (all.0, tt))

pub all_as : {A : Type 0} (P Q : A → Type 0) → ((x : A) → P x → Q x) → (xs : List A) → AllByRecursion P xs → AllByRecursion Q xs
all_as P Q as_other [] all = tt
all_as P Q as_other (x ∷ xs) all = (as_other x all.0, all_as P Q as_other xs all.1)

-- a place of a word, below a count
record IsPlaceOf (base : List ℕ) (count : ℕ) (name : List ℕ) : Type 0 where
  place : ℕ
  below : place < count
  is : name ≡ place_name base place

word_places : (base : List ℕ) (n : ℕ) → AllByRecursion (IsPlaceOf base n) (word_names base n)
word_places base zero = tt
word_places base (suc n) =
    (record { place = n; below = omega arith; is = refl }, all_as (IsPlaceOf base n) (IsPlaceOf base (suc n)) (λ name it. later name it) (word_names base n) (word_places base n))
  where
    later : (name : List ℕ) → IsPlaceOf base n name → IsPlaceOf base (suc n) name
    later name it = let below = it.below in record { place = it.place; below = omega arith; is = it.is }

place_same : (base : List ℕ) (i j : ℕ) → i < 2 ^ 64 → j < 2 ^ 64 → place_name base i ≡ place_name base j → i ≡ j
place_same base i j small less e = decimal_injective i j small less (append_cancel_left (base ++ codes "_") (decimal i) (decimal j) e)

word_distinct : (base : List ℕ) (n : ℕ) → n ≤ 2 ^ 64 → AreDistinct (reverse (word_names base n))
word_distinct base zero few = tt
word_distinct base (suc n) few =
    subst AreDistinct (sym (reverse-append (place_name base n ∷ []) (word_names base n)))
    (distinct_apart (IsPlaceOf base n) (λ name. name ≡ place_name base n) (λ name it is. never name it is) (reverse (word_names base n)) (place_name base n ∷ [])
    (word_distinct base n (omega arith)) (refl, tt) (all_turned (IsPlaceOf base n) (word_names base n) (word_places base n)) (refl, tt))
  where
    never : (name : List ℕ) → IsPlaceOf base n name → name ≡ place_name base n → ⊥
    never name it is =
        let below = it.below in
        let same = place_same base it.place n (omega arith) (omega arith) (sym it.is ∙ is) in
        omega (arith, same)

-- what stands before the last `_`, and the number behind it
all_pushed : (bytes : List ℕ) (b : ℕ) → AllOf is_digit bytes → is_digit b ≡ true → AllOf is_digit (bytes ++ b ∷ [])
all_pushed [] b all digit = (digit, tt)
all_pushed (c ∷ bytes) b all digit = (all.0, all_pushed bytes b all.1 digit)

digits_turned : (bytes : List ℕ) → AllOf is_digit bytes → AllOf is_digit (reverse bytes)
digits_turned [] all = tt
digits_turned (b ∷ bytes) all =
    subst (λ xs. AllOf is_digit xs) (sym (reverse-append (b ∷ []) bytes)) (all_pushed (reverse bytes) b (digits_turned bytes all.1) all.0)

same_base : (a b : List ℕ) (i j : ℕ) → i < 2 ^ 64 → j < 2 ^ 64 → place_name a i ≡ place_name b j → a ≡ b
same_base a b i j small less e =
    let first : reverse (place_name a i) ≡ reverse (decimal i) ++ 95 ∷ reverse a =
    reverse-append (a ++ codes "_") (decimal i) ∙ ap (λ xs. reverse (decimal i) ++ xs) (reverse-append a (codes "_")) in
    let second : reverse (place_name b j) ≡ reverse (decimal j) ++ 95 ∷ reverse b =
    reverse-append (b ++ codes "_") (decimal j) ∙ ap (λ xs. reverse (decimal j) ++ xs) (reverse-append b (codes "_")) in
    let turned : reverse (decimal i) ++ 95 ∷ reverse a ≡ reverse (decimal j) ++ 95 ∷ reverse b = sym first ∙ ap reverse e ∙ second in
    let parts = same_run is_digit (reverse (decimal j)) (95 ∷ reverse b) (reverse (decimal i)) (95 ∷ reverse a)
    (digits_turned (decimal j) (number_digits (decimal j) (number_form j less))) refl
    (digits_turned (decimal i) (number_digits (decimal i) (number_form i small))) refl turned in
    let names : reverse a ≡ reverse b = ap (drop 1) parts.1 in
    sym (reverse-reverse a) ∙ ap reverse names ∙ reverse-reverse b

-- a bit of a port that has one of these names
record IsBitOf (bases : List (List ℕ)) (name : List ℕ) : Type 0 where
  base : List ℕ
  there : is_among bases base ≡ true
  place : ℕ
  small : place < 2 ^ 64
  is : name ≡ place_name base place

-- the bits of ports, the least significant first
abbrev pub port_bits : (Port → List ℕ) → List Port → List (List ℕ)
port_bits named ports = flat_map (λ (port : Port). reverse (word_names (named port) port.width)) ports

abbrev pub AreNarrow : List Port → Type 0
AreNarrow ports = AllByRecursion (λ (port : Port). port.width ≤ 2 ^ 64) ports

bits_are : (named : Port → List ℕ) (ports : List Port) → AreNarrow ports → AllByRecursion (IsBitOf (map named ports)) (port_bits named ports)
bits_are named [] narrow = tt
bits_are named (port ∷ ports) narrow =
    all_append (IsBitOf (named port ∷ map named ports)) (reverse (word_names (named port) port.width)) (port_bits named ports)
    (all_as (IsPlaceOf (named port) port.width) (IsBitOf (named port ∷ map named ports)) (λ name it. first name it) (reverse (word_names (named port) port.width))
    (all_turned (IsPlaceOf (named port) port.width) (word_names (named port) port.width) (word_places (named port) port.width)))
    (all_as (IsBitOf (map named ports)) (IsBitOf (named port ∷ map named ports)) (λ name it. later name it) (port_bits named ports) (bits_are named ports narrow.1))
  where
    first : (name : List ℕ) → IsPlaceOf (named port) port.width name → IsBitOf (named port ∷ map named ports) name
    first name it =
        let below = it.below in
        let few = narrow.0 in
        record {
          base = named port;
          there = stands_among (named port ∷ map named ports) 0 (named port) refl;
          place = it.place;
          small = omega arith;
          is = it.is;
        }

    later : (name : List ℕ) → IsBitOf (map named ports) name → IsBitOf (named port ∷ map named ports) name
    later name it = record {
      base = it.base;
      there = among_right (named port ∷ []) (map named ports) it.base it.there;
      place = it.place;
      small = it.small;
      is = it.is;
    }

pub bits_distinct : (named : Port → List ℕ) (ports : List Port) → AreNarrow ports → AreDistinct (map named ports) → AreDistinct (port_bits named ports)
bits_distinct named [] narrow distinct = tt
bits_distinct named (port ∷ ports) narrow distinct =
    distinct_apart (IsPlaceOf (named port) port.width) (IsBitOf (map named ports)) (λ name it other. never name it other)
    (reverse (word_names (named port) port.width)) (port_bits named ports) (word_distinct (named port) port.width narrow.0)
    (bits_distinct named ports narrow.1 distinct.1)
    (all_turned (IsPlaceOf (named port) port.width) (word_names (named port) port.width) (word_places (named port) port.width)) (bits_are named ports narrow.1)
  where
    never : (name : List ℕ) → IsPlaceOf (named port) port.width name → IsBitOf (map named ports) name → ⊥
    never name it other =
        let below = it.below in
        let few = narrow.0 in
        let same = same_base (named port) other.base it.place other.place (omega arith) other.small (sym it.is ∙ other.is) in
        false≢true (sym distinct.0 ∙ ap (λ base. is_among (map named ports) base) same ∙ other.there)
