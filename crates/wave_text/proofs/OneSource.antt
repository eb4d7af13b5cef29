-- Words are those of one source at most.
use Rattle.std.proofs.Common.{◌≡◌, ℕ, Bool, true, false, List, [], ◌∷◌, map, codes, refl, sym, ap, ◌∙◌, arith}
use Rattle.std.specs.Str.Parse.{digits_value}
use Rattle.wave_text.specs.VcdText.{AreBits, AreChanges, AreDeclarations, Behind, Changed, Declared, IsDigit, IsSource, IsTime, IsWidth, Moment, Source, first_words}
use Rattle.wave_text.specs.VcdText.AreChanges.{none as no_changes, at_time as time, by_digit as digit, by_bits as bits}
use Rattle.wave_text.specs.VcdText.AreDeclarations.{last as no_declarations, next as variable}
use Rattle.wave_text.specs.Words.{Word}
use Rattle.wave_text.proofs.Heads.{apart}
use Rattle.wave_text.proofs.Heads.{no_digit_bits, no_time_bits, no_time_digit}
use Rattle.waves.specs.Vcd.{digit_of}

one_bit_of : (a b : Bool) → digit_of a ≡ digit_of b → a ≡ b
one_bit_of true true same = refl
one_bit_of true false same = absurd (omega arith)
one_bit_of false true same = absurd (omega arith)
one_bit_of false false same = refl

one_bits_of : (xs ys : List Bool) → map digit_of xs ≡ map digit_of ys → xs ≡ ys
one_bits_of [] [] same = refl
one_bits_of [] (y ∷ ys) same = cc
one_bits_of (x ∷ xs) [] same = cc
one_bits_of (x ∷ xs) (y ∷ ys) same =
    let first : digit_of x ≡ digit_of y = cc in
    let others : map digit_of xs ≡ map digit_of ys = cc in
    let here = one_bit_of x y first in
    let behind = one_bits_of xs ys others in
    cc

one_time : (bytes : List ℕ) (s t : ℕ) → IsTime bytes s → IsTime bytes t → s ≡ t
one_time bytes s t a b =
    let same : 35 ∷ a.digits ≡ 35 ∷ b.digits = sym a.bytes_are ∙ b.bytes_are in
    let digits : a.digits ≡ b.digits = cc in
    sym a.value ∙ ap (digits_value 10) digits ∙ b.value

one_width : (bytes : List ℕ) (s t : ℕ) → IsWidth bytes s → IsWidth bytes t → s ≡ t
one_width bytes s t a b = sym a.value ∙ b.value

one_digit : (bytes : List ℕ) (a b : Bool) (c d : List ℕ) → IsDigit bytes a c → IsDigit bytes b d → (a ≡ b) × (c ≡ d)
one_digit bytes a b c d first second =
    let same : digit_of a ∷ c ≡ digit_of b ∷ d = sym first.bytes_are ∙ second.bytes_are in
    let bit : digit_of a ≡ digit_of b = cc in
    (one_bit_of a b bit, cc)

one_value : (bytes : List ℕ) (a b : List Bool) → AreBits bytes a → AreBits bytes b → a ≡ b
one_value bytes a b first second =
    let same : 98 ∷ map digit_of a ≡ 98 ∷ map digit_of b = sym first.bytes_are ∙ second.bytes_are in
    let digits : map digit_of a ≡ map digit_of b = cc in
    one_bits_of a b digits

one_changes : (words : List Word) (cs ds : List Changed) (ms ns : List Moment) → AreChanges words cs ms → AreChanges words ds ns → (cs ≡ ds) × (ms ≡ ns)
one_changes _ _ _ _ _ no_changes no_changes = (refl, refl)
one_changes _ _ _ _ _ (time w words at cs ms is rest) (time _ _ at' ds ns is' rest') =
    let same = one_changes words cs ds ms ns rest rest' in
    let times = one_time w.bytes at at' is is' in
    (refl, λ i. (record { at = w.at; time = times i; changes = same.0 i }) ∷ same.1 i)
one_changes _ _ _ _ _ (time w words at cs ms is rest) (digit _ _ bit code ds ns is' rest') = absurd (no_time_digit w.bytes at bit code is is')
one_changes _ _ _ _ _ (time w _ at cs ms is rest) (bits _ c words value ds ns is' form rest') = absurd (no_time_bits w.bytes at value is is')
one_changes _ _ _ _ _ (digit w words bit code cs ms is rest) (time _ _ at ds ns is' rest') = absurd (no_time_digit w.bytes at bit code is' is)
one_changes _ _ _ _ _ (digit w words bit code cs ms is rest) (digit _ _ bit' code' ds ns is' rest') =
    let same = one_changes words cs ds ms ns rest rest' in
    let word = one_digit w.bytes bit bit' code code' is is' in
    (λ i. (record { at = w.at; code_at = w.at; code = word.1 i; bits = word.0 i ∷ [] }) ∷ same.0 i, same.1)
one_changes _ _ _ _ _ (digit w _ bit code cs ms is rest) (bits _ c words value ds ns is' form rest') = absurd (no_digit_bits w.bytes bit code value is is')
one_changes _ _ _ _ _ (bits w c words value cs ms is form rest) (time _ _ at ds ns is' rest') = absurd (no_time_bits w.bytes at value is' is)
one_changes _ _ _ _ _ (bits w c words value cs ms is form rest) (digit _ _ bit code ds ns is' rest') = absurd (no_digit_bits w.bytes bit code value is' is)
one_changes _ _ _ _ _ (bits w c words value cs ms is form rest) (bits _ _ _ value' ds ns is' form' rest') =
    let same = one_changes words cs ds ms ns rest rest' in
    let values = one_value w.bytes value value' is is' in
    (λ i. (record { at = w.at; code_at = c.at; code = c.bytes; bits = values i }) ∷ same.0 i, same.1)

both_behind : (texts : List (List ℕ)) (P Q : List Word → Type 0) (words : List Word) → Behind texts P words → Behind texts Q words
    → (more : List Word) × P more × Q more
both_behind [] P Q words a b = (words, a, b)
both_behind (text ∷ texts) P Q [] a b = absurd a
both_behind (text ∷ texts) P Q (w ∷ words) a b = both_behind texts P Q words a.1 b.1

one_declarations : (words : List Word) (cs ds : List Declared) (ms ns : List Moment) → AreDeclarations words cs ms → AreDeclarations words ds ns
    → (cs ≡ ds) × (ms ≡ ns)
one_declarations _ _ _ _ _ (no_declarations w words ms is rest) (no_declarations _ _ ns is' rest') =
    let both = both_behind (codes "$end" ∷ codes "$enddefinitions" ∷ codes "$end" ∷ []) (λ more. AreChanges more [] ms) (λ more. AreChanges more [] ns) words rest rest' in
    (refl, (one_changes both.0 [] [] ms ns both.1 both.2).1)
one_declarations _ _ _ _ _ (no_declarations w _ ms is rest) (variable _ v n c name e words width ds ns there second third fourth fifth sixth rest') =
    absurd (apart w.bytes there is)
one_declarations _ _ _ _ _ (variable w v n c name e words width cs ms there second third fourth fifth sixth rest) (no_declarations _ _ ns is rest') =
    absurd (apart w.bytes there is)
one_declarations _ _ _ _ _ (variable w v n c name e words width cs ms there second third fourth fifth sixth rest)
    (variable _ _ _ _ _ _ _ width' ds ns there' second' third' fourth' fifth' sixth' rest') =
    let same = one_declarations words cs ds ms ns rest rest' in
    let widths = one_width n.bytes width width' third third' in
    (λ i. (record { at = c.at; width = widths i; code = c.bytes; name = name.bytes }) ∷ same.0 i, same.1)

pub one_source : (words : List Word) (a b : Source) → IsSource words a → IsSource words b → a ≡ b
one_source words a b first second =
    let both = both_behind first_words (λ more. AreDeclarations more a.declared a.moments) (λ more. AreDeclarations more b.declared b.moments) words first second in
    let same = one_declarations both.0 a.declared b.declared a.moments b.moments both.1 both.2 in
    λ i. record { declared = same.0 i; moments = same.1 i }
