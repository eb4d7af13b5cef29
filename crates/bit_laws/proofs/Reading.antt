-- The nodes of an operator read names of its words, and further names that they drive.
use Rattle.std.proofs.Common.{◌≡◌, ℕ, zero, suc, ◌+◌, ◌-◌, ◌*◌, ◌^◌, ◌<◌, ◌≤◌, min, Bool, List, [], ◌∷◌, ◌++◌, length, take, drop, replicate, refl, ap, arith, if◌then◌else◌}
use Rattle.std.specs.List.{AllByRecursion}
use Rattle.bit_laws.specs.BitNames.{further, furthers}
use Rattle.bit_laws.specs.Bitnet.{Node}
use Rattle.bit_laws.specs.Bitnet.Node.{latch}
use Rattle.bit_laws.specs.Blast.{RamNames, choices, choices_by, constants, difference_nodes, equal_nodes, folded, gate_of, less_nodes, masked, moved_down, moved_up, on_both, on_each, product_count, product_names, product_nodes, ram_shown, ram_words, register_nodes, reset_nodes, row_names, row_nodes, shift_nodes, shifted_names, shown_names, signed_nodes, sum_nodes, word_nodes}
use Rattle.bit_laws.specs.Driven.{NamesOnly}
use Rattle.bit_laws.specs.Gates.{Gate}
use Rattle.bit_laws.specs.Gates.Gate.{added, alike, always, both, choice, cleared, either, inverse, less, most, never, odd}

pub all_joined : {X : Type 0} (P : X → Type 0) (xs ys : List X) → AllByRecursion P xs → AllByRecursion P ys → AllByRecursion P (xs ++ ys)
all_joined P [] ys first second = second
all_joined P (x ∷ xs) ys first second = (first.0, all_joined P xs ys first.1 second)

module _ (P Q : List ℕ → Type 0) where
  abbrev pub AllP : List (List ℕ) → Type 0
  AllP names = AllByRecursion P names

  abbrev pub Reads : List Node → Type 0
  Reads nodes = AllByRecursion (NamesOnly P Q) nodes

  pub reads_joined : (xs ys : List Node) → Reads xs → Reads ys → Reads (xs ++ ys)
  reads_joined xs ys first second = all_joined (NamesOnly P Q) xs ys first second

  pub all_dropped : (i : ℕ) (xs : List (List ℕ)) → AllP xs → AllP (drop i xs)
  all_dropped zero xs all = all
  all_dropped (suc i) [] all = tt
  all_dropped (suc i) (x ∷ xs) all = all_dropped i xs all.1

  pub all_taken : (i : ℕ) (xs : List (List ℕ)) → AllP xs → AllP (take i xs)
  all_taken zero xs all = tt
  all_taken (suc i) [] all = tt
  all_taken (suc i) (x ∷ xs) all = (all.0, all_taken i xs all.1)

  all_copies : (i : ℕ) (f : List ℕ) → P f → AllP (replicate i f)
  all_copies zero f p = tt
  all_copies (suc i) f p = (p, all_copies i f p)

  pub up_all : (f : List ℕ) (places : ℕ) (xs : List (List ℕ)) → P f → AllP xs → AllP (moved_up places f xs)
  up_all f places xs p all = all_joined P (drop places xs) (replicate (min places (length xs)) f) (all_dropped places xs all) (all_copies (min places (length xs)) f p)

  pub down_all : (f : List ℕ) (places : ℕ) (xs : List (List ℕ)) → P f → AllP xs → AllP (moved_down places f xs)
  down_all f places xs p all =
      all_joined P (replicate (min places (length xs)) f) (take (length xs - places) xs) (all_copies (min places (length xs)) f p)
      (all_taken (length xs - places) xs all)

  pub constants_read : (outs : List (List ℕ)) (bits : List Bool) → Reads (constants outs bits)
  constants_read [] bits = tt
  constants_read (o ∷ outs) [] = tt
  constants_read (o ∷ outs) (b ∷ bits) =
      reads_joined (constants outs bits) (gate_of (if b then always else never) [] o ∷ []) (constants_read outs bits) (tt, tt)

  pub each_read : (gate : Gate) (outs xs : List (List ℕ)) → AllP xs → Reads (on_each gate outs xs)
  each_read gate [] xs all = tt
  each_read gate (o ∷ outs) [] all = tt
  each_read gate (o ∷ outs) (x ∷ xs) all =
      reads_joined (on_each gate outs xs) (gate_of gate (x ∷ []) o ∷ []) (each_read gate outs xs all.1) ((all.0, tt), tt)

  pub both_read : (gate : Gate) (outs xs ys : List (List ℕ)) → AllP xs → AllP ys → Reads (on_both gate outs xs ys)
  both_read gate [] xs ys all more = tt
  both_read gate (o ∷ outs) [] ys all more = tt
  both_read gate (o ∷ outs) (x ∷ xs) [] all more = tt
  both_read gate (o ∷ outs) (x ∷ xs) (y ∷ ys) all more =
      reads_joined (on_both gate outs xs ys) (gate_of gate (x ∷ y ∷ []) o ∷ []) (both_read gate outs xs ys all.1 more.1) ((all.0, (more.0, tt)), tt)

  pub choices_read : (c : List ℕ) (outs xs ys : List (List ℕ)) → P c → AllP xs → AllP ys → Reads (choices c outs xs ys)
  choices_read c [] xs ys p all more = tt
  choices_read c (o ∷ outs) [] ys p all more = tt
  choices_read c (o ∷ outs) (x ∷ xs) [] p all more = tt
  choices_read c (o ∷ outs) (x ∷ xs) (y ∷ ys) p all more =
      reads_joined (choices c outs xs ys) (gate_of choice (c ∷ x ∷ y ∷ []) o ∷ []) (choices_read c outs xs ys p all.1 more.1)
      ((p, (all.0, (more.0, tt))), tt)

  pub mux_read : (cs outs xs ys : List (List ℕ)) → AllP cs → AllP xs → AllP ys → Reads (choices_by cs outs xs ys)
  mux_read [] outs xs ys p all more = tt
  mux_read (c ∷ cs) outs xs ys p all more = choices_read c outs xs ys p.0 all more

  masked_read : (outs xs : List (List ℕ)) (y : List ℕ) → AllP xs → P y → Reads (masked outs xs y)
  masked_read [] xs y all p = tt
  masked_read (o ∷ outs) [] y all p = tt
  masked_read (o ∷ outs) (x ∷ xs) y all p =
      reads_joined (masked outs xs y) (gate_of both (x ∷ y ∷ []) o ∷ []) (masked_read outs xs y all.1 p) ((all.0, (p, tt)), tt)

  pub registers_read : (clock : List ℕ) (outs xs : List (List ℕ)) (bits : List Bool) → Q clock → AllP xs → Reads (register_nodes clock outs xs bits)
  registers_read clock [] xs bits q all = tt
  registers_read clock (o ∷ outs) [] bits q all = tt
  registers_read clock (o ∷ outs) (x ∷ xs) [] q all = tt
  registers_read clock (o ∷ outs) (x ∷ xs) (b ∷ bits) q all =
      reads_joined (register_nodes clock outs xs bits) (latch x o clock b ∷ []) (registers_read clock outs xs bits q all.1) ((all.0, q), tt)

  -- where the further names below a limit are of the kind
  module _ (k limit : ℕ) (below : (x : ℕ) → x < limit → P (further k x)) where
    pub furthers_all : (x count : ℕ) → x + count ≤ limit → AllP (furthers k x count)
    furthers_all x zero le = tt
    furthers_all x (suc count) le = (below (x + count) (omega arith), furthers_all x count (omega arith))

    pub folds_read : (gate : Gate) (xs : List (List ℕ)) → length xs ≤ limit → AllP xs → Reads (folded gate k xs)
    folds_read gate [] le all = tt
    folds_read gate (x ∷ []) le all = ((all.0, tt), tt)
    folds_read gate (x ∷ y ∷ xs) le all =
        reads_joined (folded gate k (y ∷ xs)) (gate_of gate (further k (length xs) ∷ x ∷ []) (further k (length (y ∷ xs))) ∷ [])
        (folds_read gate (y ∷ xs) (omega arith) all.1) ((below (length xs) (omega arith), (all.0, tt)), tt)

    pub sums_read : (outs xs ys : List (List ℕ)) → length xs ≤ limit → AllP xs → AllP ys → Reads (sum_nodes k outs xs ys)
    sums_read [] xs ys le all more = tt
    sums_read (o ∷ outs) [] ys le all more = tt
    sums_read (o ∷ outs) (x ∷ xs) [] le all more = tt
    sums_read (o ∷ outs) (x ∷ xs) (y ∷ ys) le all more =
        let read = x ∷ y ∷ further k (length xs) ∷ [] in
        let own : AllP (x ∷ y ∷ further k (length xs) ∷ []) = (all.0, (more.0, (below (length xs) (omega arith), tt))) in
        reads_joined (sum_nodes k outs xs ys) (gate_of odd read o ∷ gate_of most read (further k (length (x ∷ xs))) ∷ [])
        (sums_read outs xs ys (omega arith) all.1 more.1) (own, (own, tt))

    pub differences_read : (outs xs ys : List (List ℕ)) → 2 * length xs ≤ limit → AllP xs → AllP ys → Reads (difference_nodes k outs xs ys)
    differences_read [] xs ys le all more = tt
    differences_read (o ∷ outs) [] ys le all more = tt
    differences_read (o ∷ outs) (x ∷ xs) [] le all more = tt
    differences_read (o ∷ outs) (x ∷ xs) (y ∷ ys) le all more =
        let opposite = further k (2 * length xs + 1) in
        let read = x ∷ opposite ∷ further k (2 * length xs) ∷ [] in
        let own : AllP (x ∷ further k (2 * length xs + 1) ∷ further k (2 * length xs) ∷ []) =
        (all.0, (below (2 * length xs + 1) (omega arith), (below (2 * length xs) (omega arith), tt))) in
        reads_joined (difference_nodes k outs xs ys)
        (gate_of inverse (y ∷ []) opposite ∷ gate_of odd read o ∷ gate_of most read (further k (2 * length (x ∷ xs))) ∷ [])
        (differences_read outs xs ys (omega arith) all.1 more.1) ((more.0, tt), (own, (own, tt)))

    pub equals_read : (xs ys : List (List ℕ)) → 2 * length xs ≤ limit → AllP xs → AllP ys → Reads (equal_nodes k xs ys)
    equals_read [] ys le all more = tt
    equals_read (x ∷ xs) [] le all more = tt
    equals_read (x ∷ xs) (y ∷ ys) le all more =
        let same = further k (2 * length xs + 1) in
        reads_joined (equal_nodes k xs ys)
        (gate_of alike (x ∷ y ∷ []) same ∷ gate_of both (further k (2 * length xs) ∷ same ∷ []) (further k (2 * length (x ∷ xs))) ∷ [])
        (equals_read xs ys (omega arith) all.1 more.1)
        ((all.0, (more.0, tt)), ((below (2 * length xs) (omega arith), (below (2 * length xs + 1) (omega arith), tt)), tt))

    pub lesses_read : (xs ys : List (List ℕ)) → length xs ≤ limit → AllP xs → AllP ys → Reads (less_nodes k xs ys)
    lesses_read [] ys le all more = tt
    lesses_read (x ∷ xs) [] le all more = tt
    lesses_read (x ∷ xs) (y ∷ ys) le all more =
        reads_joined (less_nodes k xs ys) (gate_of less (x ∷ y ∷ further k (length xs) ∷ []) (further k (length (x ∷ xs))) ∷ [])
        (lesses_read xs ys (omega arith) all.1 more.1) ((all.0, (more.0, (below (length xs) (omega arith), tt))), tt)

    pub signeds_read : (xs ys : List (List ℕ)) → length xs ≤ limit → AllP xs → AllP ys → Reads (signed_nodes k xs ys)
    signeds_read [] ys le all more = tt
    signeds_read (x ∷ xs) [] le all more = tt
    signeds_read (x ∷ xs) (y ∷ ys) le all more =
        reads_joined (less_nodes k xs ys) (gate_of less (y ∷ x ∷ further k (length xs) ∷ []) (further k (length (x ∷ xs))) ∷ [])
        (lesses_read xs ys (omega arith) all.1 more.1) ((more.0, (all.0, (below (length xs) (omega arith), tt))), tt)

    rows_read : (c : ℕ) (ps xs : List (List ℕ)) (y : List ℕ) → c + 3 * length xs ≤ limit → AllP ps → AllP xs → P y → Reads (row_nodes k c ps xs y)
    rows_read c [] xs y le all more p = tt
    rows_read c (q ∷ ps) [] y le all more p = tt
    rows_read c (q ∷ ps) (x ∷ xs) y le all more p =
        let part = further k (c + (3 * length xs + 1)) in
        let read = q ∷ part ∷ further k (c + 3 * length xs) ∷ [] in
        let own : AllP (q ∷ further k (c + (3 * length xs + 1)) ∷ further k (c + 3 * length xs) ∷ []) =
        (all.0, (below (c + (3 * length xs + 1)) (omega arith), (below (c + 3 * length xs) (omega arith), tt))) in
        reads_joined (row_nodes k c ps xs y)
        (gate_of both (x ∷ y ∷ []) part ∷ gate_of odd read (further k (c + (3 * length xs + 2))) ∷ gate_of most read (further k (c + 3 * length (x ∷ xs))) ∷ [])
        (rows_read c ps xs y (omega arith) all.1 more.1 p) ((more.0, (p, tt)), (own, (own, tt)))

    row_all : (c : ℕ) (ps xs : List (List ℕ)) → c + 3 * length xs ≤ limit → AllP ps → AllP (row_names k c ps xs)
    row_all c [] xs le all = tt
    row_all c (q ∷ ps) [] le all = all
    row_all c (q ∷ ps) (x ∷ xs) le all = (below (c + (3 * length xs + 2)) (omega arith), row_all c ps xs (omega arith) all.1)

    pub product_all : (xs ys : List (List ℕ)) → product_count xs ys ≤ limit → AllP (product_names k xs ys)
    product_all xs [] le = tt
    product_all xs (y ∷ []) le = furthers_all 0 (length xs) (omega arith)
    product_all xs (y ∷ z ∷ ys) le =
        row_all (product_count xs (z ∷ ys)) (product_names k xs (z ∷ ys)) (drop (length (z ∷ ys)) xs) (omega arith) (product_all xs (z ∷ ys) (omega arith))

    pub products_read : (xs ys : List (List ℕ)) → product_count xs ys ≤ limit → AllP xs → AllP ys → Reads (product_nodes k xs ys)
    products_read xs [] le all more = tt
    products_read xs (y ∷ []) le all more = masked_read (furthers k 0 (length xs)) xs y all more.0
    products_read xs (y ∷ z ∷ ys) le all more =
        let c = product_count xs (z ∷ ys) in
        let names = product_names k xs (z ∷ ys) in
        let low = drop (length (z ∷ ys)) xs in
        reads_joined (product_nodes k xs (z ∷ ys)) (gate_of never [] (further k c) ∷ row_nodes k c names low y)
        (products_read xs (z ∷ ys) (omega arith) all more.1)
        (tt, rows_read c names low y (omega arith) (product_all xs (z ∷ ys) (omega arith)) (all_dropped (length (z ∷ ys)) xs all) more.0)

    pub shifted_all : (xs ss : List (List ℕ)) → 1 + length ss * length xs ≤ limit → AllP xs → AllP (shifted_names k xs ss)
    shifted_all xs [] le all = all
    shifted_all xs (s ∷ ss) le all = furthers_all (1 + length ss * length xs) (length xs) (omega arith)

    pub shifts_read : (moved : ℕ → List (List ℕ) → List (List ℕ)) (xs ss : List (List ℕ)) → 1 + length ss * length xs ≤ limit
        → ((places : ℕ) (ys : List (List ℕ)) → AllP ys → AllP (moved places ys)) → AllP xs → AllP ss → Reads (shift_nodes moved k xs ss)
    shifts_read moved xs [] le keeps all more = tt
    shifts_read moved xs (s ∷ ss) le keeps all more =
        let before = shifted_names k xs ss in
        let there : AllP (shifted_names k xs ss) = shifted_all xs ss (omega arith) all in
        reads_joined (shift_nodes moved k xs ss) (choices s (shifted_names k xs (s ∷ ss)) (moved (2 ^ length ss) before) before)
        (shifts_read moved xs ss (omega arith) keeps all more.1)
        (choices_read s (shifted_names k xs (s ∷ ss)) (moved (2 ^ length ss) before) before more.0 (keeps (2 ^ length ss) before there) there)

    pub resets_read : (clock reset : List ℕ) (outs xs : List (List ℕ)) (bits : List Bool) → length xs ≤ limit → Q clock → P reset → AllP xs
        → Reads (reset_nodes k clock reset outs xs bits)
    resets_read clock reset [] xs bits le q p all = tt
    resets_read clock reset (o ∷ outs) [] bits le q p all = tt
    resets_read clock reset (o ∷ outs) (x ∷ xs) [] le q p all = tt
    resets_read clock reset (o ∷ outs) (x ∷ xs) (b ∷ bits) le q p all =
        reads_joined (reset_nodes k clock reset outs xs bits)
        (gate_of (if b then either else cleared) (x ∷ reset ∷ []) (further k (length xs)) ∷ latch (further k (length xs)) o clock b ∷ [])
        (resets_read clock reset outs xs bits (omega arith) q p all.1) ((all.0, (p, tt)), ((below (length xs) (omega arith), q), tt))

    word_read : (x : ℕ) (clock : List ℕ) (cs values : List (List ℕ)) (bits : List Bool) → x + (2 + 3 * length cs) ≤ limit → Q clock → AllP cs → AllP values
        → Reads (word_nodes k x clock cs values bits)
    word_read x clock [] values bits le q all more = tt
    word_read x clock (c ∷ cs) [] bits le q all more = tt
    word_read x clock (c ∷ cs) (v ∷ values) [] le q all more = tt
    word_read x clock (c ∷ cs) (v ∷ values) (b ∷ bits) le q all more =
        let own = further k (x + (3 * length cs + 2)) in
        let next = further k (x + (3 * length cs + 3)) in
        let out = further k (x + (3 * length cs + 4)) in
        let kept : P (further k (x + (3 * length cs + 2))) = below (x + (3 * length cs + 2)) (omega arith) in
        reads_joined (word_nodes k x clock cs values bits)
        (latch next own clock b ∷ gate_of choice (further k x ∷ v ∷ own ∷ []) next ∷ gate_of added (c ∷ further k (x + 1) ∷ own ∷ []) out ∷ [])
        (word_read x clock cs values bits (omega arith) q all.1 more.1) (
          (below (x + (3 * length cs + 3)) (omega arith), q),
          ((below x (omega arith), (more.0, (kept, tt))), ((all.0, (below (x + 1) (omega arith), (kept, tt))), tt)),
        )

    shown_all : (x width : ℕ) → x + (2 + 3 * width) ≤ limit → AllP (shown_names k x width)
    shown_all x zero le = tt
    shown_all x (suc width) le = (below (x + (3 * width + 4)) (omega arith), shown_all x width (omega arith))

    length-shown : (x n : ℕ) → length (shown_names k x n) ≡ n
    length-shown x zero = refl
    length-shown x (suc n) = ap suc (length-shown x n)

    pub ram_shown_all : (width x : ℕ) (cs : List (List ℕ)) (words : List (List Bool)) → x + length words * (2 + 3 * width) ≤ limit → AllP cs
        → AllP (ram_shown k width x cs words)
    ram_shown_all width x cs [] le all = all
    ram_shown_all width x cs (bits ∷ words) le all =
        ram_shown_all width (x + (2 + 3 * width)) (shown_names k x width) words (omega arith) (shown_all x width (omega arith))

    pub ram_read : (width x at : ℕ) (clock : List ℕ) (names : RamNames) (cs : List (List ℕ)) (words : List (List Bool)) → length cs ≡ width
        → x + length words * (2 + 3 * width) ≤ limit → Q clock → AllP names.read → AllP names.enable → AllP names.place → AllP names.value → AllP cs
        → Reads (ram_words k width x at clock names cs words)
    ram_read width x at clock names cs [] e le q r f p v all = tt
    ram_read width x at clock names cs (bits ∷ words) e le q r f p v all =
        let rest = ram_words k width (x + (2 + 3 * width)) (at + 1) clock names (shown_names k x width) words in (
          all_joined P names.enable names.place f p,
          (
            r,
            reads_joined (word_nodes k x clock cs names.value bits) rest (word_read x clock cs names.value bits (omega (arith, e)) q all v)
                (ram_read width (x + (2 + 3 * width)) (at + 1) clock names (shown_names k x width) words (length-shown x width) (omega arith) q r f p v
                (shown_all x width (omega arith))),
          ),
        )
