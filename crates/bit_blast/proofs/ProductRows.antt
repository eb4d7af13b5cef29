-- Products: the names that the rows leave, and the numbers of their nodes.
use Rattle.std.proofs.Common.{◌≡◌, ℕ, zero, suc, ◌+◌, ◌-◌, ◌*◌, ◌≤◌, List, [], ◌∷◌, ◌++◌, length, take, drop, refl, sym, ap, subst, ◌∙◌, add-one, zero-add, arith}
use Rattle.std.proofs.lemmas.List.{length-drop, take-append-le}
use Rattle.chw_base.specs.declared.index.WireId.{WireId}
use Rattle.netlist.specs.declared.net.Flat.{Flat}
use Rattle.bit_laws.specs.BitNames.{further, furthers, place_name, wire_name, word_names}
use Rattle.bit_laws.specs.Bitnet.{Node}
use Rattle.bit_laws.specs.Blast.{gate_of, masked, on_each, product_count, product_names, product_nodes, row_names, row_nodes}
use Rattle.bit_laws.specs.Gates.Gate.{both, buffer, most, never, odd}
use Rattle.bit_nodes.specs.Standing.{name_of}
use Rattle.bit_nodes.specs.declared.nodes.BitGate.TheVariants.{Both, Buffer}
use Rattle.bit_nodes.specs.declared.nodes.BitName.{BitName}
use Rattle.bit_nodes.specs.declared.nodes.BitName.TheVariants.{Bit, Further}
use Rattle.bit_nodes.specs.declared.nodes.BitNode.{BitNode}
use Rattle.bit_nodes.specs.declared.nodes.BitNode.TheVariants.{Table}
use Rattle.bit_blast.specs.Adding.{Adds}
use Rattle.bit_blast.specs.Names.{by_places, lowest}
use Rattle.bit_blast.specs.Numbering.{nth, spaced}
use Rattle.bit_blast.specs.Products.{carried_row, end_number, first_carry, place_nodes}
use Rattle.bit_blast.specs.declared.numbers.Numbers.{Numbers}
use Rattle.bit_blast.specs.declared.numbers.Numbers.TheVariants.{Each, EachThird}
use Rattle.bit_blast.proofs.Adding.{added_as, both_added, one_added}
use Rattle.bit_blast.proofs.ByPlaces.{by_places_furthers, by_places_last, by_places_same, by_places_take, further_at, furthers_drop, word_names_drop}
use Rattle.bit_blast.proofs.Counted.{length-product_names, length-word_names}
use Rattle.bit_blast.proofs.Places.{length-by_places}

-- one more place of the first row
pub first_row_more : (flat : Flat) (old mid new : List BitNode) (w a : WireId) (mask : BitName) (j : ℕ)
    → Adds flat old mid (masked (furthers w.number 0 j) (lowest flat a.number j) (name_of flat mask))
    → new ≡ mid ++ Table (Both (Bit a j) mask) (Further w j) ∷ []
    → Adds flat old new (masked (furthers w.number 0 (j + 1)) (lowest flat a.number (j + 1)) (name_of flat mask))
first_row_more flat old mid new w a mask j h e =
    let before = masked (furthers w.number 0 j) (lowest flat a.number j) (name_of flat mask) in
    let there : ℕ → List Node = λ (i : ℕ). before ++ gate_of both (name_of flat (Bit a j) ∷ name_of flat mask ∷ []) (further w.number i) ∷ [] in
    subst (λ (n : ℕ). Adds flat old new (masked (furthers w.number 0 n) (lowest flat a.number n) (name_of flat mask))) (sym (add-one j))
    (added_as flat old new (there j) (there (0 + j)) (ap there (sym (zero-add j)))
    (one_added flat old mid new before (Table (Both (Bit a j) mask) (Further w j)) h e))

-- the first row is the product by one bit
pub first_row_is : (k : ℕ) (an bn : List ℕ) (n : ℕ)
    → masked (furthers k 0 n) (word_names an n) (place_name bn 0) ≡ product_nodes k (word_names an n) (word_names bn 1)
first_row_is k an bn n = ap (λ (q : ℕ). masked (furthers k 0 q) (word_names an n) (place_name bn 0)) (sym (length-word_names an n))

-- the nodes of a row at one place, by four numbers
abbrev numbered : (k : ℕ) (p x y : List ℕ) (t c s d : ℕ) → List Node
numbered k p x y t c s d =
    gate_of both (x ∷ y ∷ []) (further k t) ∷ gate_of odd (p ∷ further k t ∷ further k c ∷ []) (further k s)
    ∷ gate_of most (p ∷ further k t ∷ further k c ∷ []) (further k d) ∷ []

renumbered : (k : ℕ) (p x y : List ℕ) (t c s d t' c' s' d' : ℕ) → t ≡ t' → c ≡ c' → s ≡ s' → d ≡ d'
    → numbered k p x y t c s d ≡ numbered k p x y t' c' s' d'
renumbered k p x y t c s d t' c' s' d' e f g h =
    ap (λ (n : ℕ). numbered k p x y n c s d) e ∙ ap (λ (n : ℕ). numbered k p x y t' n s d) f
    ∙ ap (λ (n : ℕ). numbered k p x y t' c' n d) g ∙ ap (λ (n : ℕ). numbered k p x y t' c' s' n) h

row_more : (k z : ℕ) (p x y : List ℕ) (ps xs : List (List ℕ)) (j : ℕ) → length xs ≡ j
    → row_nodes k z (p ∷ ps) (x ∷ xs) y ≡ row_nodes k z ps xs y ++ place_nodes k (z + 3 * j) p x y
row_more k z p x y ps xs j e =
    let one : z + (3 * length xs + 1) ≡ z + 3 * j + 1 = omega arith in
    let own : z + 3 * length xs ≡ z + 3 * j = omega arith in
    let two : z + (3 * length xs + 2) ≡ z + 3 * j + 2 = omega arith in
    let three : z + 3 * length (x ∷ xs) ≡ z + 3 * j + 3 = omega arith in
    ap (λ (ns : List Node). row_nodes k z ps xs y ++ ns)
    (renumbered k p x y (z + (3 * length xs + 1)) (z + 3 * length xs) (z + (3 * length xs + 2)) (z + 3 * length (x ∷ xs))
    (z + 3 * j + 1) (z + 3 * j) (z + 3 * j + 2) (z + 3 * j + 3) one own two three)

-- one more place of a later row
pub row_added : (flat : Flat) (old mid new : List BitNode) (k z a : ℕ) (sums : Numbers) (mask : List ℕ) (j : ℕ)
    → Adds flat old mid (row_nodes k z (spaced k sums j) (lowest flat a j) mask)
    → Adds flat mid new (place_nodes k (z + 3 * j) (further k (nth sums j)) (place_name (wire_name flat.ports a) j) mask)
    → Adds flat old new (row_nodes k z (spaced k sums (j + 1)) (lowest flat a (j + 1)) mask)
row_added flat old mid new k z a sums mask j h e =
    let p = further k (nth sums j) in
    let x = place_name (wire_name flat.ports a) j in
    subst (λ (n : ℕ). Adds flat old new (row_nodes k z (spaced k sums n) (lowest flat a n) mask)) (sym (add-one j))
    (added_as flat old new (row_nodes k z (spaced k sums j) (lowest flat a j) mask ++ place_nodes k (z + 3 * j) p x mask)
    (row_nodes k z (spaced k sums (suc j)) (lowest flat a (suc j)) mask)
    (sym (row_more k z p x mask (spaced k sums j) (lowest flat a j) j (length-word_names (wire_name flat.ports a) j)))
    (both_added flat old mid new (row_nodes k z (spaced k sums j) (lowest flat a j) mask) (place_nodes k (z + 3 * j) p x mask) h e))

-- a row reads as many of the first names as it adds
row_reads : (k c : ℕ) (ps xs : List (List ℕ)) (y : List ℕ) → row_nodes k c (take (length xs) ps) xs y ≡ row_nodes k c ps xs y
row_reads k c [] [] y = refl
row_reads k c [] (x ∷ xs) y = refl
row_reads k c (p ∷ ps) [] y = refl
row_reads k c (p ∷ ps) (x ∷ xs) y =
    ap (λ (ns : List Node). ns ++ numbered k p x y (c + (3 * length xs + 1)) (c + 3 * length xs) (c + (3 * length xs + 2)) (c + 3 * length (x ∷ xs)))
    (row_reads k c ps xs y)

-- the names after a row
row_names_are : (k c : ℕ) (ps xs : List (List ℕ)) → length xs ≤ length ps
    → row_names k c ps xs ≡ spaced k (EachThird (c + 2)) (length xs) ++ drop (length xs) ps
row_names_are k c [] [] le = refl
row_names_are k c (p ∷ ps) [] le = refl
row_names_are k c [] (x ∷ xs) le = absurd (omega arith)
row_names_are k c (p ∷ ps) (x ∷ xs) le =
    let number : c + (3 * length xs + 2) ≡ c + 2 + 3 * length xs = omega arith in
    ap (λ (n : ℕ). further k n ∷ row_names k c ps xs) number
    ∙ ap (λ (r : List (List ℕ)). further k (c + 2 + 3 * length xs) ∷ r) (row_names_are k c ps xs (omega arith))

-- the first carry of a row
pub count_is : (xs : List (List ℕ)) (name : List ℕ) (n i : ℕ) → length xs ≡ n → product_count xs (word_names name i) ≡ first_carry n i
count_is xs name n zero e = refl
count_is xs name n (suc zero) e = e
count_is xs name n (suc (suc r)) e =
    let before = count_is xs name n (suc r) e in
    let low = length-drop (length (word_names name (suc r))) xs in
    let long : length (word_names name (suc r)) ≡ suc r = length-word_names name (suc r) in
    let left : length (drop (length (word_names name (suc r))) xs) ≡ n - suc r =
    low ∙ ap (λ (m : ℕ). m - length (word_names name (suc r))) e ∙ ap (λ (m : ℕ). n - m) long in
    ap (λ (m : ℕ). m + (1 + 3 * length (drop (length (word_names name (suc r))) xs))) before
    ∙ ap (λ (m : ℕ). first_carry n (suc r) + (1 + 3 * m)) left

pub first_carry_more : (n i : ℕ) → 1 ≤ i → first_carry n (i + 1) ≡ first_carry n i + (1 + 3 * (n - i))
first_carry_more n zero some = absurd (omega arith)
first_carry_more n (suc r) some = ap (λ (i : ℕ). first_carry n i) (add-one (suc r))

pub end_number_is : (n i : ℕ) → 1 ≤ i → end_number n i ≡ first_carry n i + 2
end_number_is n zero some = absurd (omega arith)
end_number_is n (suc r) some = refl

-- how many bits a row adds
low_length : (xs : List (List ℕ)) (name : List ℕ) (i m : ℕ) → length xs ≡ m + i → length (drop (length (word_names name i)) xs) ≡ m
low_length xs name i m e =
    let long = length-word_names name i in
    let low = length-drop (length (word_names name i)) xs in
    omega (arith, low, long, e)

-- the names after one more row
names_after : (k : ℕ) (xs : List (List ℕ)) (name : List ℕ) (r m : ℕ) → length xs ≡ m + suc r
    → product_names k xs (word_names name (suc (suc r)))
    ≡ spaced k (EachThird (product_count xs (word_names name (suc r)) + 2)) m ++ drop m (product_names k xs (word_names name (suc r)))
names_after k xs name r m e =
    let c = product_count xs (word_names name (suc r)) in
    let ps = product_names k xs (word_names name (suc r)) in
    let low = drop (length (word_names name (suc r))) xs in
    let left : length low ≡ m = low_length xs name (suc r) m e in
    let some : 1 ≤ length (word_names name (suc r)) = omega arith in
    let long = length-product_names k xs (word_names name (suc r)) some in
    let fits : length low ≤ length ps = omega (arith, left, long, e) in
    row_names_are k c ps low fits ∙ ap (λ (q : ℕ). spaced k (EachThird (c + 2)) q ++ drop q ps) left

-- the lower places have their last names
names_below : (k : ℕ) (xs : List (List ℕ)) (name : List ℕ) (r m : ℕ) → length xs ≡ m + suc r
    → drop m (product_names k xs (word_names name (suc r))) ≡ by_places (λ j. further k (end_number (length xs) j)) (suc r)
names_below k xs name zero m e = let one : length xs ≡ m + 1 = omega arith in furthers_drop k 0 m 1 (length xs) one
names_below k xs name (suc r) m e =
    let c = product_count xs (word_names name (suc r)) in
    let ps = product_names k xs (word_names name (suc r)) in
    let next : length xs ≡ suc m + suc r = omega arith in
    let count = count_is xs name (length xs) (suc r) refl in
    let number : c + 2 + 3 * 0 ≡ first_carry (length xs) (suc r) + 2 = omega (arith, count) in
    ap (λ (q : List (List ℕ)). drop m q) (names_after k xs name r (suc m) next)
    ∙ by_places_last (λ j. further k (c + 2 + 3 * j)) m (drop (suc m) ps)
    ∙ ap (λ (n : ℕ). further k n ∷ drop (suc m) ps) number
    ∙ ap (λ (q : List (List ℕ)). further k (first_carry (length xs) (suc r) + 2) ∷ q) (names_below k xs name r (suc m) next)

-- the names of the product
pub product_names_are : (k : ℕ) (xs : List (List ℕ)) (name : List ℕ) (n : ℕ) → 1 ≤ n → length xs ≡ n
    → product_names k xs (word_names name n) ≡ by_places (λ j. further k (end_number n j)) n
product_names_are k xs name zero some e = absurd (omega arith)
product_names_are k xs name (suc r) some e =
    let whole : length xs ≡ 0 + suc r = omega arith in
    names_below k xs name r 0 whole ∙ ap (λ (n : ℕ). by_places (λ j. further k (end_number n j)) (suc r)) e

-- the upper places, which a row adds to
pub first_names : (k : ℕ) (xs : List (List ℕ)) (name : List ℕ) (left : ℕ) → length xs ≡ 1 + left
    → take left (product_names k xs (word_names name 1)) ≡ spaced k (Each 1) left
first_names k xs name left e =
    let one : length xs ≡ left + 1 = omega arith in
    ap (λ (q : List (List ℕ)). take left q) (sym (by_places_furthers k 0 (length xs)))
    ∙ by_places_take (λ j. further k (0 + j)) left 1 (length xs) one
    ∙ by_places_same (λ j. further k (0 + (j + 1))) (λ j. further k (1 + j)) left
    (λ j h. further_at k (0 + (j + 1)) (1 + j) (omega arith))

pub next_names : (k : ℕ) (xs : List (List ℕ)) (name : List ℕ) (i left : ℕ) → 1 ≤ i → length xs ≡ i + 1 + left
    → take left (product_names k xs (word_names name (i + 1))) ≡ spaced k (EachThird (product_count xs (word_names name i) + 5)) left
next_names k xs name zero left some e = absurd (omega arith)
next_names k xs name (suc r) left some e =
    let c = product_count xs (word_names name (suc r)) in
    let ps = product_names k xs (word_names name (suc r)) in
    let own : ℕ → List ℕ = λ (j : ℕ). further k (c + 2 + 3 * j) in
    let whole : length xs ≡ suc left + suc r = omega arith in
    let one : suc left ≡ left + 1 = omega arith in
    let long = length-by_places own (suc left) in
    let within : left ≤ length (by_places own (suc left)) = omega (arith, long) in
    ap (λ (q : ℕ). take left (product_names k xs (word_names name q))) (add-one (suc r))
    ∙ ap (λ (q : List (List ℕ)). take left q) (names_after k xs name r (suc left) whole)
    ∙ take-append-le left (by_places own (suc left)) (drop (suc left) ps) within
    ∙ by_places_take own left 1 (suc left) one
    ∙ by_places_same (λ j. own (j + 1)) (λ j. further k (c + 5 + 3 * j)) left
    (λ j h. further_at k (c + 2 + 3 * (j + 1)) (c + 5 + 3 * j) (omega arith))

-- one more row
pub rows_more : (k : ℕ) (an bn : List ℕ) (n i left c : ℕ) (sums : Numbers) → 1 ≤ i → n ≡ i + left
    → c ≡ first_carry n i → take left (product_names k (word_names an n) (word_names bn i)) ≡ spaced k sums left
    → product_nodes k (word_names an n) (word_names bn (i + 1))
    ≡ product_nodes k (word_names an n) (word_names bn i) ++ carried_row k c (spaced k sums left) (word_names an left) (place_name bn i)
rows_more k an bn n zero left c sums some e f names = absurd (omega arith)
rows_more k an bn n (suc r) left c sums some e f names =
    let xs = word_names an n in
    let before = product_nodes k xs (word_names bn (suc r)) in
    let count = product_count xs (word_names bn (suc r)) in
    let ps = product_names k xs (word_names bn (suc r)) in
    let i = length (word_names bn (suc r)) in
    let y = place_name bn (suc r) in
    let same : count ≡ c = count_is xs bn n (suc r) (length-word_names an n) ∙ sym f in
    let low : drop i xs ≡ word_names an left =
    ap (λ (q : ℕ). drop q xs) (length-word_names bn (suc r)) ∙ word_names_drop an (suc r) left n e in
    let long : length (word_names an left) ≡ left = length-word_names an left in
    ap (λ (q : ℕ). product_nodes k xs (word_names bn q)) (add-one (suc r))
    ∙ ap (λ (q : ℕ). before ++ carried_row k q ps (drop i xs) y) same
    ∙ ap (λ (q : List (List ℕ)). before ++ carried_row k c ps q y) low
    ∙ ap (λ (ns : List Node). before ++ gate_of never [] (further k c) ∷ ns) (sym (row_reads k c ps (word_names an left) y))
    ∙ ap (λ (q : ℕ). before ++ carried_row k c (take q ps) (word_names an left) y) long
    ∙ ap (λ (q : List (List ℕ)). before ++ carried_row k c q (word_names an left) y) names

-- one more buffer behind the rows
pub ends_more : (flat : Flat) (old mid new : List BitNode) (w : WireId) (n j number : ℕ)
    → Adds flat old mid (on_each buffer (lowest flat w.number j) (by_places (λ i. further w.number (end_number n i)) j))
    → new ≡ mid ++ Table (Buffer (Further w number)) (Bit w j) ∷ [] → number ≡ end_number n j
    → Adds flat old new (on_each buffer (lowest flat w.number (j + 1)) (by_places (λ i. further w.number (end_number n i)) (j + 1)))
ends_more flat old mid new w n j number h e f =
    let before = on_each buffer (lowest flat w.number j) (by_places (λ i. further w.number (end_number n i)) j) in
    let there : ℕ → List Node = λ (i : ℕ). before ++ gate_of buffer (further w.number i ∷ []) (name_of flat (Bit w j)) ∷ [] in
    subst (λ (q : ℕ). Adds flat old new (on_each buffer (lowest flat w.number q) (by_places (λ i. further w.number (end_number n i)) q))) (sym (add-one j))
    (added_as flat old new (there number) (there (end_number n j)) (ap there f)
    (one_added flat old mid new before (Table (Buffer (Further w number)) (Bit w j)) h e))
