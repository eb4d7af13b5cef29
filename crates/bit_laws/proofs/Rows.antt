-- The rows of a gate's table match just the bits for which the gate gives 1.
use Rattle.std.proofs.Common.{◌≡◌, ℕ, suc, Bool, true, false, not, ◌&&◌, ◌||◌, List, [], ◌∷◌, length, map, refl, sym, ap, ◌∙◌, arith, if◌then◌else◌}
use Rattle.std.specs.List.{AllByRecursion}
use Rattle.std.proofs.lemmas.Bool.{and_right, or_from}
use Rattle.chw_bits.specs.Bitwise.{differ}
use Rattle.bit_laws.specs.Gates.{Gate, allows, are_bits, are_most, digit_of, gate_value, is_less, is_none, is_odd, matches, of_one, of_three, of_two, row_matches, rows_of}
use Rattle.bit_laws.specs.Gates.Gate.{added, address, alike, always, both, buffer, choice, cleared, differing, either, inverse, less, most, never, odd}

-- a row of another length matches nothing
row_misfits : (row : List ℕ) (bits : List Bool) → (length row ≡ length bits → ⊥) → row_matches row bits ≡ false
row_misfits [] [] no_fit = absurd (no_fit refl)
row_misfits [] (a ∷ bits) no_fit = refl
row_misfits (m ∷ row) [] no_fit = refl
row_misfits (m ∷ row) (a ∷ bits) no_fit =
    and_right (allows m a) (row_matches row bits) (row_misfits row bits (λ e. no_fit (ap suc e)))

abbrev AllHave : ℕ → List (List ℕ) → Type 0
AllHave n rows = AllByRecursion (λ row. length row ≡ n) rows

misfit : (rows : List (List ℕ)) (n : ℕ) (bits : List Bool) → AllHave n rows → (n ≡ length bits → ⊥) → matches rows bits ≡ false
misfit [] n bits all no_fit = refl
misfit (row ∷ rows) n bits all no_fit =
    or_from (row_matches row bits) (matches rows bits) (row_misfits row bits (λ e. no_fit (sym all.0 ∙ e))) (misfit rows n bits all.1 no_fit)

-- it is enough to look at lists of the rows' length
one_read : (rows : List (List ℕ)) (f : Bool → Bool) → AllHave 1 rows → ((a : Bool) → matches rows (a ∷ []) ≡ f a)
    → (bits : List Bool) → matches rows bits ≡ of_one f bits
one_read rows f all each [] = misfit rows 1 [] all (λ e. omega arith)
one_read rows f all each (a ∷ []) = each a
one_read rows f all each (a ∷ b ∷ bits) = misfit rows 1 (a ∷ b ∷ bits) all (λ e. omega arith)

two_reads : (rows : List (List ℕ)) (f : Bool → Bool → Bool) → AllHave 2 rows → ((a b : Bool) → matches rows (a ∷ b ∷ []) ≡ f a b)
    → (bits : List Bool) → matches rows bits ≡ of_two f bits
two_reads rows f all each [] = misfit rows 2 [] all (λ e. omega arith)
two_reads rows f all each (a ∷ []) = misfit rows 2 (a ∷ []) all (λ e. omega arith)
two_reads rows f all each (a ∷ b ∷ []) = each a b
two_reads rows f all each (a ∷ b ∷ c ∷ bits) = misfit rows 2 (a ∷ b ∷ c ∷ bits) all (λ e. omega arith)

three_reads : (rows : List (List ℕ)) (f : Bool → Bool → Bool → Bool) → AllHave 3 rows
    → ((a b c : Bool) → matches rows (a ∷ b ∷ c ∷ []) ≡ f a b c) → (bits : List Bool) → matches rows bits ≡ of_three f bits
three_reads rows f all each [] = misfit rows 3 [] all (λ e. omega arith)
three_reads rows f all each (a ∷ []) = misfit rows 3 (a ∷ []) all (λ e. omega arith)
three_reads rows f all each (a ∷ b ∷ []) = misfit rows 3 (a ∷ b ∷ []) all (λ e. omega arith)
three_reads rows f all each (a ∷ b ∷ c ∷ []) = each a b c
three_reads rows f all each (a ∷ b ∷ c ∷ d ∷ bits) = misfit rows 3 (a ∷ b ∷ c ∷ d ∷ bits) all (λ e. omega arith)

-- a row of an address matches just its bits
address_row : (own bits : List Bool) → row_matches (map digit_of own) bits ≡ are_bits own bits
address_row [] [] = refl
address_row [] (a ∷ bits) = refl
address_row (o ∷ own) [] = refl
address_row (true ∷ own) (true ∷ bits) = address_row own bits
address_row (true ∷ own) (false ∷ bits) = refl
address_row (false ∷ own) (true ∷ bits) = refl
address_row (false ∷ own) (false ∷ bits) = address_row own bits

or_none : (x : Bool) → (x || false) ≡ x
or_none true = refl
or_none false = refl

no_reads : (bits : List Bool) → matches ([] ∷ []) bits ≡ is_none bits
no_reads [] = refl
no_reads (a ∷ bits) = refl

buffer_rows : (a : Bool) → matches (rows_of buffer) (a ∷ []) ≡ a
buffer_rows true = refl
buffer_rows false = refl

inverse_rows : (a : Bool) → matches (rows_of inverse) (a ∷ []) ≡ not a
inverse_rows true = refl
inverse_rows false = refl

both_rows : (a b : Bool) → matches (rows_of both) (a ∷ b ∷ []) ≡ (a && b)
both_rows true true = refl
both_rows true false = refl
both_rows false true = refl
both_rows false false = refl

either_rows : (a b : Bool) → matches (rows_of either) (a ∷ b ∷ []) ≡ (a || b)
either_rows true true = refl
either_rows true false = refl
either_rows false true = refl
either_rows false false = refl

differing_rows : (a b : Bool) → matches (rows_of differing) (a ∷ b ∷ []) ≡ differ a b
differing_rows true true = refl
differing_rows true false = refl
differing_rows false true = refl
differing_rows false false = refl

alike_rows : (a b : Bool) → matches (rows_of alike) (a ∷ b ∷ []) ≡ not (differ a b)
alike_rows true true = refl
alike_rows true false = refl
alike_rows false true = refl
alike_rows false false = refl

cleared_rows : (a b : Bool) → matches (rows_of cleared) (a ∷ b ∷ []) ≡ (a && not b)
cleared_rows true true = refl
cleared_rows true false = refl
cleared_rows false true = refl
cleared_rows false false = refl

odd_rows : (a b c : Bool) → matches (rows_of odd) (a ∷ b ∷ c ∷ []) ≡ is_odd a b c
odd_rows true true true = refl
odd_rows true true false = refl
odd_rows true false true = refl
odd_rows true false false = refl
odd_rows false true true = refl
odd_rows false true false = refl
odd_rows false false true = refl
odd_rows false false false = refl

most_rows : (a b c : Bool) → matches (rows_of most) (a ∷ b ∷ c ∷ []) ≡ are_most a b c
most_rows true true true = refl
most_rows true true false = refl
most_rows true false true = refl
most_rows true false false = refl
most_rows false true true = refl
most_rows false true false = refl
most_rows false false true = refl
most_rows false false false = refl

choice_rows : (a b c : Bool) → matches (rows_of choice) (a ∷ b ∷ c ∷ []) ≡ (if a then b else c)
choice_rows true true true = refl
choice_rows true true false = refl
choice_rows true false true = refl
choice_rows true false false = refl
choice_rows false true true = refl
choice_rows false true false = refl
choice_rows false false true = refl
choice_rows false false false = refl

less_rows : (a b c : Bool) → matches (rows_of less) (a ∷ b ∷ c ∷ []) ≡ is_less a b c
less_rows true true true = refl
less_rows true true false = refl
less_rows true false true = refl
less_rows true false false = refl
less_rows false true true = refl
less_rows false true false = refl
less_rows false false true = refl
less_rows false false false = refl

added_rows : (a b c : Bool) → matches (rows_of added) (a ∷ b ∷ c ∷ []) ≡ (a || b && c)
added_rows true true true = refl
added_rows true true false = refl
added_rows true false true = refl
added_rows true false false = refl
added_rows false true true = refl
added_rows false true false = refl
added_rows false false true = refl
added_rows false false false = refl

pub rows_are_gate : (gate : Gate) (bits : List Bool) → matches (rows_of gate) bits ≡ gate_value gate bits
rows_are_gate never bits = refl
rows_are_gate always bits = no_reads bits
rows_are_gate buffer bits = one_read (rows_of buffer) (λ a. a) (refl, tt) buffer_rows bits
rows_are_gate inverse bits = one_read (rows_of inverse) not (refl, tt) inverse_rows bits
rows_are_gate both bits = two_reads (rows_of both) (λ a b. a && b) (refl, tt) both_rows bits
rows_are_gate either bits = two_reads (rows_of either) (λ a b. a || b) (refl, (refl, tt)) either_rows bits
rows_are_gate differing bits = two_reads (rows_of differing) differ (refl, (refl, tt)) differing_rows bits
rows_are_gate alike bits = two_reads (rows_of alike) (λ a b. not (differ a b)) (refl, (refl, tt)) alike_rows bits
rows_are_gate odd bits = three_reads (rows_of odd) is_odd (refl, (refl, (refl, (refl, tt)))) odd_rows bits
rows_are_gate most bits = three_reads (rows_of most) are_most (refl, (refl, (refl, tt))) most_rows bits
rows_are_gate choice bits = three_reads (rows_of choice) (λ c a b. if c then a else b) (refl, (refl, tt)) choice_rows bits
rows_are_gate less bits = three_reads (rows_of less) is_less (refl, (refl, (refl, tt))) less_rows bits
rows_are_gate added bits = three_reads (rows_of added) (λ a b c. a || b && c) (refl, (refl, tt)) added_rows bits
rows_are_gate cleared bits = two_reads (rows_of cleared) (λ a b. a && not b) (refl, tt) cleared_rows bits
rows_are_gate (address own) bits = or_none (row_matches (map digit_of own) bits) ∙ address_row own bits
