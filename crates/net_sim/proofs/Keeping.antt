-- The bits of a word that is kept as its number, or as a list.
use Rattle.std.proofs.Common.{◌≡◌, ℕ, zero, suc, ◌-◌, ◌<◌, ◌≤◌, ◌^◌, Bool, false, List, ◌∷◌, length, get_or, replicate, refl, sym, ap, subst, ◌∙◌, arith}
use Rattle.std.specs.Global.{Box, Vec}
use Rattle.std.proofs.lemmas.Nat.{pow_pos}
use Rattle.chw_bits.specs.Bits.{bit_of, bits_of, number_of}
use Rattle.chw_bits.proofs.WordResults.{number_kept}
use Rattle.chw_bits.proofs.Numbers.{bit_of_past, length-bits_of}
use Rattle.net_sim.specs.Kept.{IsKept, IsLarge, IsList, IsNumber, kept_bits}
use Rattle.net_sim.specs.declared.word.Kept.{Kept}
use Rattle.net_sim.specs.declared.word.Kept.TheVariants.{Small, Narrow, Wide}

-- a number below the power of a width is the one that its bits mean
pub number_from_bits : (width n : ℕ) (bits : List Bool) → bits_of width n ≡ bits → n < 2 ^ width → n ≡ number_of bits
number_from_bits width n bits is below = sym (number_kept width n below) ∙ ap number_of is

-- what is known of a word that is kept as a number
pub record Numbered (most width number : ℕ) (bits : List Bool) : Type 0 where
  pub made : bits_of width number ≡ bits
  pub count : width ≡ length bits
  pub narrow : width ≤ most
  pub below : number < 2 ^ width

number_known : (most width number : ℕ) (bits : List Bool) → IsNumber most width number → bits_of width number ≡ bits
    → Numbered most width number bits
number_known most width number bits is made =
    record {
      made = made;
      count = sym (length-bits_of width number) ∙ ap length made;
      narrow = is.narrow;
      below = is.below;
    }

pub small_known : (kept : Kept) (width number : ℕ) (bits : List Bool) → kept ≡ Small width number → IsKept kept → kept_bits kept ≡ bits
    → Numbered 64 width number bits
small_known kept width number bits is own view =
    number_known 64 width number bits (subst IsKept is own) (sym (ap kept_bits is) ∙ view)

pub narrow_known : (kept : Kept) (width : ℕ) (number : Box ℕ) (bits : List Bool) → kept ≡ Narrow width number → IsKept kept
    → kept_bits kept ≡ bits → Numbered 128 width number.value bits
narrow_known kept width number bits is own view =
    let large : IsLarge width number.value = subst IsKept is own in
    number_known 128 width number.value bits large.is (sym (ap kept_bits is) ∙ view)

-- a narrow word whose number is in a box has more than 64 bits
pub large_known : (kept : Kept) (width : ℕ) (number : Box ℕ) → kept ≡ Narrow width number → IsKept kept → 64 < width
large_known kept width number is own = let large : IsLarge width number.value = subst IsKept is own in large.large

-- a word that isn't kept as a list is narrow
pub is_narrow : (kept : Kept) (bits : List Bool) → IsKept kept → kept_bits kept ≡ bits → ((list : Box (Vec Bool)) → kept ≡ Wide list → ⊥)
    → length bits ≤ 128
is_narrow (Small width number) bits own view unlike =
    let known = small_known (Small width number) width number bits refl own view in
    omega (arith, known.count, known.narrow)
is_narrow (Narrow width number) bits own view unlike =
    let known = narrow_known (Narrow width number) width number bits refl own view in
    omega (arith, known.count, known.narrow)
is_narrow (Wide list) bits own view unlike = absurd (unlike list refl)

-- a word of at most 64 bits is kept as its number, in the word itself
pub is_small : (kept : Kept) (bits : List Bool) → IsKept kept → kept_bits kept ≡ bits → ((width number : ℕ) → kept ≡ Small width number → ⊥)
    → length bits ≤ 64 → ⊥
is_small (Small width number) bits own view unlike le = unlike width number refl
is_small (Narrow width number) bits own view unlike le =
    let known = narrow_known (Narrow width number) width number bits refl own view in
    let large = large_known (Narrow width number) width number refl own in
    omega (arith, known.count, large, le)
is_small (Wide list) bits own view unlike le =
    let known : IsList list.value.items = own in
    omega (arith, known.wide, ap length view, le)

-- what is known of a number that was read of such a word
pub record IsRead (number : ℕ) (bits : List Bool) : Type 0 where
  pub bits_are : bits ≡ bits_of (length bits) number
  pub below : number < 2 ^ length bits
  pub number_is : number ≡ number_of bits

pub number_read : (most width number read : ℕ) (bits : List Bool) → Numbered most width number bits → read ≡ number → IsRead read bits
number_read most width number read bits known is =
    subst (λ n. IsRead n bits) (sym is)
    (record {
      bits_are = sym known.made ∙ ap (λ n. bits_of n number) known.count;
      below = subst (λ n. number < 2 ^ n) known.count known.below;
      number_is = number_from_bits width number bits known.made known.below;
    })

-- what is known of a word that is kept as a list
pub record Listed (list bits : List Bool) : Type 0 where
  pub same : list ≡ bits
  pub wide : 128 < length bits

pub list_known : (kept : Kept) (list : Box (Vec Bool)) (bits : List Bool) → kept ≡ Wide list → IsKept kept → kept_bits kept ≡ bits
    → Listed list.value.items bits
list_known kept list bits is own view =
    let items = list.value.items in
    let kept_so : IsList items = subst IsKept is own in
    let same : items ≡ bits = sym (ap kept_bits is) ∙ view in
    record { same = same; wide = subst (λ l. 128 < length l) same kept_so.wide }

-- the bits of 0 are not set
pub bits_of_zero : (width : ℕ) → bits_of width 0 ≡ replicate width false
bits_of_zero zero = refl
bits_of_zero (suc width) =
    let first : bit_of width 0 ≡ false = bit_of_past 0 width (pow_pos width) in
    ap (λ bit. bit ∷ bits_of width 0) first ∙ ap (λ bits. false ∷ bits) (bits_of_zero width)

-- the bit of a number at a place from the most significant
pub get_or-bits_of : (width n i : ℕ) → i < width → get_or (bits_of width n) i false ≡ bit_of (width - 1 - i) n
get_or-bits_of zero n i lt = absurd (omega arith)
get_or-bits_of (suc width) n zero lt = let same : width ≡ suc width - 1 - 0 = omega arith in ap (λ place. bit_of place n) same
get_or-bits_of (suc width) n (suc i) lt =
    let same : width - 1 - i ≡ suc width - 1 - suc i = omega arith in
    get_or-bits_of width n i (omega arith) ∙ ap (λ place. bit_of place n) same
