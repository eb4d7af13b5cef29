-- The lines of changes: one more, and those of two lists.
use Rattle.std.proofs.Common.{◌≡◌, ℕ, ◌+◌, ◌<◌, Bool, true, false, cond, List, [], ◌∷◌, ◌++◌, length, map, get_or, drop, refl, sym, ap, ◌∙◌, arith, append_assoc}
use Rattle.std.specs.Bool.{beq}
use Rattle.std.specs.Cmp.Lexicographic.{pointwise, pointwise_decides}
use Rattle.std.proofs.lemmas.Bool.{false≢true}
use Rattle.std.proofs.lemmas.List.{append-nil, drop-drop, drop-map, drop_more, length-map}
use Rattle.chw_bits.specs.Bitwise.{one_bit}
use Rattle.waves.specs.Vcd.{changes, is_shown, value_line}

-- what was written, with one line more
pub goes_on : {A : Type 0} (out line rest all before now : List A) → now ≡ out ++ line → before ≡ line ++ rest → out ++ before ≡ all → now ++ rest ≡ all
goes_on out line rest all before now is step inv =
    ap (λ t. t ++ rest) is ∙ append_assoc out line rest ∙ ap (λ t. out ++ t) (sym step) ∙ inv

-- the line of a value, but where it is the old one
abbrev pub line_of : ℕ → List (List Bool) → List Bool → List ℕ
line_of k old bits = cond (is_shown old bits) [] (value_line k bits)

pub values_step : (k : ℕ) (old new : List (List Bool)) (i : ℕ) (bits : List Bool) → i < length new → bits ≡ get_or new i bits
    → changes k (drop i old) (drop i new) ≡ line_of k (drop i old) bits ++ changes (k + 1) (drop (i + 1) old) (drop (i + 1) new)
values_step k old new i bits within is =
    ap (changes k (drop i old)) (drop_more new i bits within ∙ ap (λ x. x ∷ drop (i + 1) new) (sym is))
    ∙ ap (λ o. line_of k (drop i old) bits ++ changes (k + 1) o (drop (i + 1) new)) (drop-drop 1 i old)

pub levels_step : (k : ℕ) (old new : List Bool) (i : ℕ) (level : Bool) → i < length new → level ≡ get_or new i level
    → changes k (map one_bit (drop i old)) (map one_bit (drop i new))
    ≡ line_of k (map one_bit (drop i old)) (one_bit level) ++ changes (k + 1) (map one_bit (drop (i + 1) old)) (map one_bit (drop (i + 1) new))
levels_step k old new i level within is =
    ap (λ l. changes k (map one_bit (drop i old)) (map one_bit l)) (drop_more new i level within ∙ ap (λ x. x ∷ drop (i + 1) new) (sym is))
    ∙ ap (λ o. line_of k (map one_bit (drop i old)) (one_bit level) ++ changes (k + 1) o (map one_bit (drop (i + 1) new)))
    (drop-map one_bit 1 (drop i old) ∙ ap (map one_bit) (drop-drop 1 i old))

-- where there are no old values
none : (k : ℕ) (new more : List (List Bool)) → changes k [] (new ++ more) ≡ changes k [] new ++ changes (k + length new) [] more
none k [] more =
    let place : k ≡ k + 0 = omega arith in
    ap (λ n. changes n [] more) place
none k (bits ∷ new) more =
    let place : k + 1 + length new ≡ k + length (bits ∷ new) = omega arith in
    ap (λ t. value_line k bits ++ t) (none (k + 1) new more ∙ ap (λ n. changes (k + 1) [] new ++ changes n [] more) place)
    ∙ sym (append_assoc (value_line k bits) (changes (k + 1) [] new) (changes (k + length (bits ∷ new)) [] more))

-- where the first parts of the old and the new values are as long
both : (k : ℕ) (old behind new more : List (List Bool)) → length old ≡ length new
    → changes k (old ++ behind) (new ++ more) ≡ changes k old new ++ changes (k + length new) behind more
both k [] behind [] more same =
    let place : k ≡ k + 0 = omega arith in
    ap (λ n. changes n behind more) place
both k [] behind (bits ∷ new) more same = absurd (omega arith)
both k (was ∷ old) behind [] more same = absurd (omega arith)
both k (was ∷ old) behind (bits ∷ new) more same =
    let place : k + 1 + length new ≡ k + length (bits ∷ new) = omega arith in
    let line = line_of k (was ∷ old) bits in
    ap (λ t. line ++ t) (both (k + 1) old behind new more (omega arith) ∙ ap (λ n. changes (k + 1) old new ++ changes n behind more) place)
    ∙ sym (append_assoc line (changes (k + 1) old new) (changes (k + length (bits ∷ new)) behind more))

-- the lines of levels, inputs and outputs
pub three_parts : (first : Bool) (was levels : List Bool) (old inputs behind outputs : List (List Bool))
    → (first ≡ false → (length was ≡ length levels) × (length old ≡ length inputs))
    → changes 0 (cond first [] (map one_bit was ++ (old ++ behind))) (map one_bit levels ++ (inputs ++ outputs))
    ≡ changes 0 (map one_bit (cond first [] was)) (map one_bit levels)
    ++ (changes (length levels) (cond first [] old) inputs ++ changes (length levels + length inputs) (cond first [] behind) outputs)
three_parts true was levels old inputs behind outputs same =
    let count = length-map levels one_bit in
    let lines = changes 0 [] (map one_bit levels) in
    none 0 (map one_bit levels) (inputs ++ outputs)
    ∙ ap (λ n. lines ++ changes n [] (inputs ++ outputs)) (omega (arith, count))
    ∙ ap (λ t. lines ++ t) (none (length levels) inputs outputs)
three_parts false was levels old inputs behind outputs same =
    let count = length-map levels one_bit in
    let long = length-map was one_bit in
    let fit = same refl in
    let lines = changes 0 (map one_bit was) (map one_bit levels) in
    both 0 (map one_bit was) (old ++ behind) (map one_bit levels) (inputs ++ outputs) (long ∙ fit.0 ∙ sym count)
    ∙ ap (λ n. lines ++ changes n (old ++ behind) (inputs ++ outputs)) (omega (arith, count))
    ∙ ap (λ t. lines ++ t) (both (length levels) old behind inputs outputs fit.1)

-- the same, as it is written
pub parts_written : (out first second third : List ℕ) (is_first : Bool) (was levels r1 : List Bool) (old inputs r2 behind outputs r3 : List (List Bool)) (place : ℕ)
    → first ≡ out ++ changes 0 (map one_bit r1) (map one_bit levels) → r1 ≡ cond is_first [] was
    → second ≡ first ++ changes (length levels) r2 inputs → r2 ≡ cond is_first [] old → place ≡ length levels + length inputs
    → third ≡ second ++ changes place r3 outputs → r3 ≡ cond is_first [] behind
    → (is_first ≡ false → (length was ≡ length levels) × (length old ≡ length inputs))
    → third ≡ out ++ changes 0 (cond is_first [] (map one_bit was ++ (old ++ behind))) (map one_bit levels ++ (inputs ++ outputs))
parts_written out first second third is_first was levels r1 old inputs r2 behind outputs r3 place a b c d e f g same =
    let A = changes 0 (map one_bit (cond is_first [] was)) (map one_bit levels) in
    let B = changes (length levels) (cond is_first [] old) inputs in
    let C = changes (length levels + length inputs) (cond is_first [] behind) outputs in
    f ∙ ap (λ t. t ++ changes place r3 outputs) (c ∙ ap (λ t. t ++ changes (length levels) r2 inputs) a)
    ∙ ap (λ r. ((out ++ changes 0 (map one_bit r) (map one_bit levels)) ++ changes (length levels) r2 inputs) ++ changes place r3 outputs) b
    ∙ ap (λ r. ((out ++ A) ++ changes (length levels) r inputs) ++ changes place r3 outputs) d
    ∙ ap (λ r. ((out ++ A) ++ B) ++ changes place r outputs) g
    ∙ ap (λ n. ((out ++ A) ++ B) ++ changes n (cond is_first [] behind) outputs) e
    ∙ append_assoc (out ++ A) B C ∙ append_assoc out A (B ++ C)
    ∙ ap (λ t. out ++ t) (sym (three_parts is_first was levels old inputs behind outputs same))

-- values that stay
its_own : (a b : Bool) → a ≡ b → beq a b ≡ true
its_own true b same = ap (beq true) (sym same)
its_own false b same = ap (beq false) (sym same)

same_bit : (a b : Bool) → beq a b ≡ true → a ≡ b
same_bit true true same = refl
same_bit true false same = absurd (false≢true same)
same_bit false true same = absurd (false≢true same)
same_bit false false same = refl

own_value : (bits : List Bool) → pointwise beq bits bits ≡ true
own_value bits = (pointwise_decides (λ a b. (same_bit a b, its_own a b)) bits bits).1 refl

nothing : (k : ℕ) (values : List (List Bool)) → changes k values values ≡ []
nothing k [] = refl
nothing k (bits ∷ values) = ap (λ b. cond b [] (value_line k bits) ++ changes (k + 1) values values) (own_value bits) ∙ nothing (k + 1) values

-- the lines of levels alone, where what is behind them stays
pub levels_alone : (low high : List Bool) (rest : List (List Bool)) → length low ≡ length high
    → changes 0 (map one_bit low ++ rest) (map one_bit high ++ rest) ≡ changes 0 (map one_bit low) (map one_bit high)
levels_alone low high rest same =
    let lines = changes 0 (map one_bit low) (map one_bit high) in
    both 0 (map one_bit low) rest (map one_bit high) rest (length-map low one_bit ∙ same ∙ sym (length-map high one_bit))
    ∙ ap (λ t. lines ++ t) (nothing (0 + length (map one_bit high)) rest) ∙ append-nil lines
