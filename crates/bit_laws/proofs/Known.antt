-- The nodes of the net of single bits read names that are known.
use Rattle.std.proofs.Common.{◌≡◌, ℕ, zero, suc, ◌+◌, ◌*◌, ◌<◌, ◌≤◌, Bool, true, false, List, [], ◌∷◌, ◌++◌, length, refl, ap, ◌∙◌, arith, if◌then◌else◌, inl, inr, ◌⊎◌}
use Rattle.std.specs.List.{AllByRecursion}
use Rattle.std.proofs.lemmas.Bool.{cases_lt}
use Rattle.netlist.specs.declared.net.Op2.TheVariants.{Add, Sub, Mul, Eq, LtU, LtS, Shl, Shr, Sar}
use Rattle.bit_laws.specs.BitNames.{further, furthers, place_name, word_names}
use Rattle.bit_laws.specs.Bitnet.{Node}
use Rattle.bit_laws.specs.Blast.{RamNames, all_zeros, binary_nodes, constants, equal_nodes, fold_end, folded, less_nodes, moved_down, moved_up, on_each, product_count, product_names, product_nodes, ram_nodes, ram_shown, ram_words, reduction, register_nodes, reset_nodes, shift_nodes, shifted_names, signed_nodes}
use Rattle.bit_laws.specs.Driven.{drives_of}
use Rattle.bit_laws.specs.Gates.{Gate}
use Rattle.bit_laws.specs.Gates.Gate.{buffer}
use Rattle.bit_laws.proofs.CellOrder.{add_order, down_order, equal_order, less_order, multiply_order, ram_order, reduction_order, register_order, sign_order, signed_order, subtract_order, up_order}
use Rattle.bit_laws.proofs.Nodes.{HasItem}
use Rattle.bit_laws.proofs.Order.{InOrder}
use Rattle.bit_laws.proofs.Reading.{AllP, Reads, constants_read, differences_read, down_all, each_read, equals_read, folds_read, furthers_all, lesses_read, product_all, products_read, ram_read, ram_shown_all, reads_joined, registers_read, resets_read, shifted_all, shifts_read, signeds_read, sums_read, up_all}
use Rattle.bit_laws.proofs.Products.{length-furthers}

-- the nodes drive each name between their counts
pub record Driven (nodes : List Node) (name : List ℕ) : Type 0 where
  pub node : Node
  pub has : HasItem nodes node
  pub is : drives_of node ≡ name

behind_one : (n : Node) (nodes : List Node) (name : List ℕ) → Driven nodes name → Driven (n ∷ nodes) name
behind_one n nodes name d = record { node = d.node; has = (suc d.has.0, d.has.1); is = d.is }

pub further_driven : (name : List ℕ) (k : ℕ) (nodes : List Node) (x j count places : ℕ) → InOrder name k nodes x j count places
    → (y : ℕ) → x ≤ y → y < count → Driven nodes (further k y)
further_driven name k [] x j count places order y from below = absurd (let e = order.0 in omega arith)
further_driven name k (n ∷ nodes) x j count places (inl first) y from below =
    by_case (cases_lt x y) (λ l. further_driven name k nodes (suc x) j count places first.1 y l below)
  where
    by_case : (x < y) ⊎ (y ≤ x) → (x < y → Driven nodes (further k y)) → Driven (n ∷ nodes) (further k y)
    by_case (inl l) rest = behind_one n nodes (further k y) (rest l)
    by_case (inr l) rest =
        let same : x ≡ y = omega arith in
        record { node = n; has = (zero, refl); is = first.0 ∙ ap (λ i. further k i) same }
further_driven name k (n ∷ nodes) x j count places (inr first) y from below =
    behind_one n nodes (further k y) (further_driven name k nodes x (suc j) count places first.1 y from below)

pub place_driven : (name : List ℕ) (k : ℕ) (nodes : List Node) (x j count places : ℕ) → InOrder name k nodes x j count places
    → (y : ℕ) → j ≤ y → y < places → Driven nodes (place_name name y)
place_driven name k [] x j count places order y from below = absurd (let e = order.1 in omega arith)
place_driven name k (n ∷ nodes) x j count places (inr first) y from below =
    by_case (cases_lt j y) (λ l. place_driven name k nodes x (suc j) count places first.1 y l below)
  where
    by_case : (j < y) ⊎ (y ≤ j) → (j < y → Driven nodes (place_name name y)) → Driven (n ∷ nodes) (place_name name y)
    by_case (inl l) rest = behind_one n nodes (place_name name y) (rest l)
    by_case (inr l) rest =
        let same : j ≡ y = omega arith in
        record { node = n; has = (zero, refl); is = first.0 ∙ ap (λ i. place_name name i) same }
place_driven name k (n ∷ nodes) x j count places (inl first) y from below =
    behind_one n nodes (place_name name y) (place_driven name k nodes (suc x) j count places first.1 y from below)

-- what the nodes of an operator read, where its further names below a count are of the kind
module _ (P Q : List ℕ → Type 0) (k : ℕ) (outs : List (List ℕ)) where
  abbrev Below : ℕ → Type 0
  Below limit = (x : ℕ) → x < limit → P (further k x)

  fold_end_all : (xs : List (List ℕ)) → 1 ≤ length xs → Below (length xs) → AllP P Q (fold_end k xs ∷ [])
  fold_end_all [] some below = absurd (omega arith)
  fold_end_all (x ∷ xs) some below = (below (length xs) (omega arith), tt)

  reduction_reads : (gate : Gate) (xs : List (List ℕ)) → 1 ≤ length xs → Below (length xs) → AllP P Q xs → Reads P Q (reduction gate k outs xs)
  reduction_reads gate xs some below all =
      reads_joined P Q (folded gate k xs) (on_each buffer outs (fold_end k xs ∷ [])) (folds_read P Q k (length xs) below gate xs (omega arith) all)
      (each_read P Q buffer outs (fold_end k xs ∷ []) (fold_end_all xs some below))

  add_reads : (xs ys : List (List ℕ)) → Below (suc (length xs)) → AllP P Q xs → AllP P Q ys → Reads P Q (binary_nodes Add k outs xs ys)
  add_reads xs ys below all more = (tt, sums_read P Q k (suc (length xs)) below outs xs ys (omega arith) all more)

  subtract_reads : (xs ys : List (List ℕ)) → Below (2 * length xs + 1) → AllP P Q xs → AllP P Q ys → Reads P Q (binary_nodes Sub k outs xs ys)
  subtract_reads xs ys below all more = (tt, differences_read P Q k (2 * length xs + 1) below outs xs ys (omega arith) all more)

  multiply_reads : (xs ys : List (List ℕ)) → Below (product_count xs ys) → AllP P Q xs → AllP P Q ys → Reads P Q (binary_nodes Mul k outs xs ys)
  multiply_reads xs ys below all more =
      reads_joined P Q (product_nodes k xs ys) (on_each buffer outs (product_names k xs ys))
      (products_read P Q k (product_count xs ys) below xs ys (omega arith) all more)
      (each_read P Q buffer outs (product_names k xs ys) (product_all P Q k (product_count xs ys) below xs ys (omega arith)))

  equal_reads : (xs ys : List (List ℕ)) → Below (2 * length xs + 1) → AllP P Q xs → AllP P Q ys → Reads P Q (binary_nodes Eq k outs xs ys)
  equal_reads xs ys below all more = (
    tt,
    reads_joined P Q (equal_nodes k xs ys) (on_each buffer outs (further k (2 * length xs) ∷ []))
        (equals_read P Q k (2 * length xs + 1) below xs ys (omega arith) all more)
        (each_read P Q buffer outs (further k (2 * length xs) ∷ []) (below (2 * length xs) (omega arith), tt)),
  )

  less_reads : (xs ys : List (List ℕ)) → Below (suc (length xs)) → AllP P Q xs → AllP P Q ys → Reads P Q (binary_nodes LtU k outs xs ys)
  less_reads xs ys below all more = (
    tt,
    reads_joined P Q (less_nodes k xs ys) (on_each buffer outs (further k (length xs) ∷ []))
        (lesses_read P Q k (suc (length xs)) below xs ys (omega arith) all more)
        (each_read P Q buffer outs (further k (length xs) ∷ []) (below (length xs) (omega arith), tt)),
  )

  signed_reads : (xs ys : List (List ℕ)) → Below (suc (length xs)) → AllP P Q xs → AllP P Q ys → Reads P Q (binary_nodes LtS k outs xs ys)
  signed_reads xs ys below all more = (
    tt,
    reads_joined P Q (signed_nodes k xs ys) (on_each buffer outs (further k (length xs) ∷ []))
        (signeds_read P Q k (suc (length xs)) below xs ys (omega arith) all more)
        (each_read P Q buffer outs (further k (length xs) ∷ []) (below (length xs) (omega arith), tt)),
  )

  stages_read : (moved : ℕ → List (List ℕ) → List (List ℕ)) (xs ss : List (List ℕ)) → Below (1 + length ss * length xs)
      → ((places : ℕ) (ys : List (List ℕ)) → AllP P Q ys → AllP P Q (moved places ys)) → AllP P Q xs → AllP P Q ss
      → Reads P Q (shift_nodes moved k xs ss ++ on_each buffer outs (shifted_names k xs ss))
  stages_read moved xs ss below keeps all more =
      reads_joined P Q (shift_nodes moved k xs ss) (on_each buffer outs (shifted_names k xs ss))
      (shifts_read P Q k (1 + length ss * length xs) below moved xs ss (omega arith) keeps all more)
      (each_read P Q buffer outs (shifted_names k xs ss) (shifted_all P Q k (1 + length ss * length xs) below xs ss (omega arith) all))

  up_reads : (xs ss : List (List ℕ)) → Below (1 + length ss * length xs) → AllP P Q xs → AllP P Q ss → Reads P Q (binary_nodes Shl k outs xs ss)
  up_reads xs ss below all more =
      (tt, stages_read (λ places. moved_up places (further k 0)) xs ss below (λ places ys own. up_all P Q (further k 0) places ys (below 0 (omega arith)) own) all more)

  down_reads : (xs ss : List (List ℕ)) → Below (1 + length ss * length xs) → AllP P Q xs → AllP P Q ss → Reads P Q (binary_nodes Shr k outs xs ss)
  down_reads xs ss below all more =
      (tt, stages_read (λ places. moved_down places (further k 0)) xs ss below (λ places ys own. down_all P Q (further k 0) places ys (below 0 (omega arith)) own) all more)

  sign_reads : (xs ss : List (List ℕ)) → Below (1 + length ss * length xs) → AllP P Q xs → AllP P Q ss → Reads P Q (binary_nodes Sar k outs xs ss)
  sign_reads [] ss below all more =
      stages_read (λ places. moved_down places (further k 0)) [] ss below (λ places ys own. down_all P Q (further k 0) places ys (below 0 (omega arith)) own) all more
  sign_reads (x ∷ xs) ss below all more = (
    (all.0, tt),
    stages_read (λ places. moved_down places (further k 0)) (x ∷ xs) ss below (λ places ys own. down_all P Q (further k 0) places ys (below 0 (omega arith)) own) all more,
  )

  register_reads : (t : Bool) (clock reset : List ℕ) (xs : List (List ℕ)) (bits : List Bool) → (t ≡ true → P reset) → Q clock
      → (t ≡ true → Below (length xs)) → AllP P Q xs
      → Reads P Q (if t then reset_nodes k clock reset outs xs bits else register_nodes clock outs xs bits)
  register_reads true clock reset xs bits p q below all = resets_read P Q k (length xs) (below refl) clock reset outs xs bits (omega arith) q (p refl) all
  register_reads false clock reset xs bits p q below all = registers_read P Q clock outs xs bits q all

  ram_reads : (width : ℕ) (clock : List ℕ) (names : RamNames) (words : List (List Bool)) → Below (width + length words * (2 + 3 * width)) → Q clock
      → AllP P Q names.read → AllP P Q names.enable → AllP P Q names.place → AllP P Q names.value → Reads P Q (ram_nodes k width clock outs names words)
  ram_reads width clock names words below q r f p v =
      let limit = width + length words * (2 + 3 * width) in
      let first = constants (furthers k 0 width) (all_zeros width) in
      let middle = ram_words k width width 0 clock names (furthers k 0 width) words in
      let last = register_nodes clock outs (ram_shown k width width (furthers k 0 width) words) (all_zeros width) in
      let begin : AllP P Q (furthers k 0 width) = furthers_all P Q k (width + length words * (2 + 3 * width)) below 0 width (omega arith) in
      reads_joined P Q first (middle ++ last) (constants_read P Q (furthers k 0 width) (all_zeros width))
      (reads_joined P Q middle last
      (ram_read P Q k limit below width width 0 clock names (furthers k 0 width) words (length-furthers k 0 width) (omega arith) q r f p v begin)
      (registers_read P Q clock outs (ram_shown k width width (furthers k 0 width) words) (all_zeros width) q
      (ram_shown_all P Q k limit below width width (furthers k 0 width) words (omega arith) begin)))

-- the same, where a further name is of the kind if the nodes drive it
module _ (P Q : List ℕ → Type 0) (name : List ℕ) (k n : ℕ) where
  abbrev own : List (List ℕ)
  own = word_names name n

  abbrev pub DrivenAre : List Node → Type 0
  DrivenAre nodes = (count : ℕ) → InOrder name k nodes 0 0 count n → (x : ℕ) → x < count → P (further k x)

  pub reduction_names : (gate : Gate) (xs : List (List ℕ)) → n ≡ 1 → 1 ≤ length xs → DrivenAre (reduction gate k own xs) → AllP P Q xs
      → Reads P Q (reduction gate k own xs)
  reduction_names gate [] one some are all = absurd (omega arith)
  reduction_names gate (a ∷ xs) one some are all =
      reduction_reads P Q k own gate (a ∷ xs) some (are (length (a ∷ xs)) (reduction_order name k n gate (a ∷ xs) one some).1) all

  pub add_names : (xs ys : List (List ℕ)) → length xs ≡ n → length ys ≡ n → DrivenAre (binary_nodes Add k own xs ys) → AllP P Q xs → AllP P Q ys
      → Reads P Q (binary_nodes Add k own xs ys)
  add_names xs ys e f are all more =
      add_reads P Q k own xs ys (λ x less. are (suc n) (add_order name k n xs ys e f).1 x (omega (arith, e, less))) all more

  pub subtract_names : (xs ys : List (List ℕ)) → length xs ≡ n → length ys ≡ n → DrivenAre (binary_nodes Sub k own xs ys) → AllP P Q xs → AllP P Q ys
      → Reads P Q (binary_nodes Sub k own xs ys)
  subtract_names xs ys e f are all more =
      subtract_reads P Q k own xs ys (λ x less. are (2 * n + 1) (subtract_order name k n xs ys e f).1 x (omega (arith, e, less))) all more

  pub multiply_names : (xs ys : List (List ℕ)) → length xs ≡ n → 1 ≤ length ys → DrivenAre (binary_nodes Mul k own xs ys) → AllP P Q xs → AllP P Q ys
      → Reads P Q (binary_nodes Mul k own xs ys)
  multiply_names xs ys e some are all more =
      multiply_reads P Q k own xs ys (are (product_count xs ys) (multiply_order name k n xs ys e some).1) all more

  pub equal_names : (xs ys : List (List ℕ)) → n ≡ 1 → length xs ≡ length ys → DrivenAre (binary_nodes Eq k own xs ys) → AllP P Q xs → AllP P Q ys
      → Reads P Q (binary_nodes Eq k own xs ys)
  equal_names xs ys one e are all more = equal_reads P Q k own xs ys (are (2 * length xs + 1) (equal_order name k n xs ys one e).1) all more

  pub less_names : (xs ys : List (List ℕ)) → n ≡ 1 → length xs ≡ length ys → DrivenAre (binary_nodes LtU k own xs ys) → AllP P Q xs → AllP P Q ys
      → Reads P Q (binary_nodes LtU k own xs ys)
  less_names xs ys one e are all more = less_reads P Q k own xs ys (are (suc (length xs)) (less_order name k n xs ys one e).1) all more

  pub signed_names : (xs ys : List (List ℕ)) → n ≡ 1 → 1 ≤ length xs → length xs ≡ length ys → DrivenAre (binary_nodes LtS k own xs ys) → AllP P Q xs
      → AllP P Q ys → Reads P Q (binary_nodes LtS k own xs ys)
  signed_names [] ys one some e are all more = absurd (omega arith)
  signed_names (a ∷ xs) [] one some e are all more = absurd (omega arith)
  signed_names (a ∷ xs) (b ∷ ys) one some e are all more =
      signed_reads P Q k own (a ∷ xs) (b ∷ ys) (are (suc (length (a ∷ xs))) (signed_order name k n (a ∷ xs) (b ∷ ys) one some e).1) all more

  pub up_names : (xs ss : List (List ℕ)) → length xs ≡ n → DrivenAre (binary_nodes Shl k own xs ss) → AllP P Q xs → AllP P Q ss
      → Reads P Q (binary_nodes Shl k own xs ss)
  up_names xs ss e are all more = up_reads P Q k own xs ss (are (1 + length ss * length xs) (up_order name k n xs ss e).1) all more

  pub down_names : (xs ss : List (List ℕ)) → length xs ≡ n → DrivenAre (binary_nodes Shr k own xs ss) → AllP P Q xs → AllP P Q ss
      → Reads P Q (binary_nodes Shr k own xs ss)
  down_names xs ss e are all more = down_reads P Q k own xs ss (are (1 + length ss * length xs) (down_order name k n xs ss e).1) all more

  pub sign_names : (xs ss : List (List ℕ)) → 1 ≤ length xs → length xs ≡ n → DrivenAre (binary_nodes Sar k own xs ss) → AllP P Q xs → AllP P Q ss
      → Reads P Q (binary_nodes Sar k own xs ss)
  sign_names [] ss some e are all more = absurd (omega arith)
  sign_names (a ∷ xs) ss some e are all more =
      sign_reads P Q k own (a ∷ xs) ss (are (1 + length ss * length (a ∷ xs)) (sign_order name k n (a ∷ xs) ss some e).1) all more

  pub register_names : (t : Bool) (clock reset : List ℕ) (xs : List (List ℕ)) (bits : List Bool) → length xs ≡ n → length bits ≡ n
      → (t ≡ true → P reset) → Q clock
      → DrivenAre (if t then reset_nodes k clock reset own xs bits else register_nodes clock own xs bits) → AllP P Q xs
      → Reads P Q (if t then reset_nodes k clock reset own xs bits else register_nodes clock own xs bits)
  register_names true clock reset xs bits e f p q are all =
      register_reads P Q k own true clock reset xs bits p q
      (λ t x less. are n (register_order name k n true clock reset xs bits e f).1 x (omega (arith, e, less))) all
  register_names false clock reset xs bits e f p q are all =
      register_reads P Q k own false clock reset xs bits p q (λ t. absurd (cc)) all

  pub ram_names : (clock : List ℕ) (names : RamNames) (words : List (List Bool)) → length names.value ≡ n
      → AllByRecursion (λ (bits : List Bool). length bits ≡ n) words → Q clock → DrivenAre (ram_nodes k n clock own names words)
      → AllP P Q names.read → AllP P Q names.enable → AllP P Q names.place → AllP P Q names.value → Reads P Q (ram_nodes k n clock own names words)
  ram_names clock names words e wide q are r f p v =
      ram_reads P Q k own n clock names words (are (n + length words * (2 + 3 * n)) (ram_order name k n clock names words e wide).1) q r f p v
