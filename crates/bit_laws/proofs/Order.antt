-- Nodes drive names in order.
use Rattle.std.proofs.Common.{◌≡◌, ℕ, zero, suc, ◌+◌, ◌*◌, ◌^◌, ◌≤◌, Bool, List, [], ◌∷◌, ◌++◌, length, drop, refl, sym, ap, subst, ◌∙◌, arith, if◌then◌else◌, inl, inr}
use Rattle.std.specs.List.{AllByRecursion}
use Rattle.std.proofs.lemmas.List.{length-drop}
use Rattle.bit_laws.specs.BitNames.{further, furthers, place_name, word_names}
use Rattle.bit_laws.specs.Bitnet.{Node}
use Rattle.bit_laws.specs.Bitnet.Node.{latch}
use Rattle.bit_laws.specs.Blast.{RamNames, choices, constants, difference_nodes, equal_nodes, folded, gate_of, less_nodes, masked, on_both, on_each, product_count, product_names, product_nodes, ram_words, register_nodes, reset_nodes, row_names, row_nodes, shift_nodes, shifted_names, shown_names, signed_nodes, sum_nodes, word_nodes}
use Rattle.bit_laws.specs.Driven.{DriveInOrder}
use Rattle.bit_laws.specs.Gates.{Gate}
use Rattle.bit_laws.specs.Gates.Gate.{added, alike, always, both, choice, cleared, either, inverse, less, most, never, odd}
use Rattle.bit_laws.proofs.Products.{length-furthers}

module _ (name : List ℕ) (k : ℕ) where
  abbrev pub InOrder : List Node → (x j count places : ℕ) → Type 0
  InOrder nodes x j count places = DriveInOrder name k nodes x j count places

  -- one list behind another
  pub in_both : (xs ys : List Node) (x j y i count places : ℕ) → InOrder xs x j y i → InOrder ys y i count places → InOrder (xs ++ ys) x j count places
  in_both [] ys x j y i count places first second =
      subst (λ n. InOrder ys n j count places) (sym first.0) (subst (λ n. InOrder ys y n count places) (sym first.1) second)
  in_both (n ∷ xs) ys x j y i count places (inl first) second = inl (first.0, in_both xs ys (suc x) j y i count places first.1 second)
  in_both (n ∷ xs) ys x j y i count places (inr first) second = inr (first.0, in_both xs ys x (suc j) y i count places first.1 second)

  -- the same nodes with other counts
  pub counted : (xs : List Node) (x j count places c p : ℕ) → count ≡ c → places ≡ p → InOrder xs x j count places → InOrder xs x j c p
  counted xs x j count places c p e f first =
      subst (λ n. InOrder xs x j n p) e (subst (λ n. InOrder xs x j count n) f first)

  at_number : (m n : ℕ) → m ≡ n → further k m ≡ further k n
  at_number m n e = ap (λ i. further k i) e

  pub constants_drive : (n : ℕ) (bits : List Bool) (x : ℕ) → length bits ≡ n → InOrder (constants (word_names name n) bits) x 0 x n
  constants_drive zero [] x e = (refl, refl)
  constants_drive zero (b ∷ bits) x e = absurd (omega arith)
  constants_drive (suc n) [] x e = absurd (omega arith)
  constants_drive (suc n) (b ∷ bits) x e =
      in_both (constants (word_names name n) bits) (gate_of (if b then always else never) [] (place_name name n) ∷ []) x 0 x n x (suc n)
      (constants_drive n bits x (omega arith)) (inr (refl, (refl, refl)))

  pub each_drive : (gate : Gate) (n : ℕ) (xs : List (List ℕ)) (x : ℕ) → length xs ≡ n → InOrder (on_each gate (word_names name n) xs) x 0 x n
  each_drive gate zero [] x e = (refl, refl)
  each_drive gate zero (a ∷ xs) x e = absurd (omega arith)
  each_drive gate (suc n) [] x e = absurd (omega arith)
  each_drive gate (suc n) (a ∷ xs) x e =
      in_both (on_each gate (word_names name n) xs) (gate_of gate (a ∷ []) (place_name name n) ∷ []) x 0 x n x (suc n)
      (each_drive gate n xs x (omega arith)) (inr (refl, (refl, refl)))

  pub both_drive : (gate : Gate) (n : ℕ) (xs ys : List (List ℕ)) (x : ℕ) → length xs ≡ n → length ys ≡ n
      → InOrder (on_both gate (word_names name n) xs ys) x 0 x n
  both_drive gate zero [] [] x e f = (refl, refl)
  both_drive gate zero [] (b ∷ ys) x e f = absurd (omega arith)
  both_drive gate zero (a ∷ xs) ys x e f = absurd (omega arith)
  both_drive gate (suc n) [] ys x e f = absurd (omega arith)
  both_drive gate (suc n) (a ∷ xs) [] x e f = absurd (omega arith)
  both_drive gate (suc n) (a ∷ xs) (b ∷ ys) x e f =
      in_both (on_both gate (word_names name n) xs ys) (gate_of gate (a ∷ b ∷ []) (place_name name n) ∷ []) x 0 x n x (suc n)
      (both_drive gate n xs ys x (omega arith) (omega arith)) (inr (refl, (refl, refl)))

  pub choices_drive : (c : List ℕ) (n : ℕ) (xs ys : List (List ℕ)) (x : ℕ) → length xs ≡ n → length ys ≡ n
      → InOrder (choices c (word_names name n) xs ys) x 0 x n
  choices_drive c zero [] [] x e f = (refl, refl)
  choices_drive c zero [] (b ∷ ys) x e f = absurd (omega arith)
  choices_drive c zero (a ∷ xs) ys x e f = absurd (omega arith)
  choices_drive c (suc n) [] ys x e f = absurd (omega arith)
  choices_drive c (suc n) (a ∷ xs) [] x e f = absurd (omega arith)
  choices_drive c (suc n) (a ∷ xs) (b ∷ ys) x e f =
      in_both (choices c (word_names name n) xs ys) (gate_of choice (c ∷ a ∷ b ∷ []) (place_name name n) ∷ []) x 0 x n x (suc n)
      (choices_drive c n xs ys x (omega arith) (omega arith)) (inr (refl, (refl, refl)))

  -- further names
  further_choices : (c : List ℕ) (n : ℕ) (xs ys : List (List ℕ)) (x j : ℕ) → length xs ≡ n → length ys ≡ n
      → InOrder (choices c (furthers k x n) xs ys) x j (x + n) j
  further_choices c zero [] [] x j e f = (omega arith, refl)
  further_choices c zero [] (b ∷ ys) x j e f = absurd (omega arith)
  further_choices c zero (a ∷ xs) ys x j e f = absurd (omega arith)
  further_choices c (suc n) [] ys x j e f = absurd (omega arith)
  further_choices c (suc n) (a ∷ xs) [] x j e f = absurd (omega arith)
  further_choices c (suc n) (a ∷ xs) (b ∷ ys) x j e f =
      in_both (choices c (furthers k x n) xs ys) (gate_of choice (c ∷ a ∷ b ∷ []) (further k (x + n)) ∷ []) x j (x + n) j (x + suc n) j
      (further_choices c n xs ys x j (omega arith) (omega arith)) (inl (refl, (omega arith, refl)))

  further_masked : (n : ℕ) (xs : List (List ℕ)) (y : List ℕ) (x j : ℕ) → length xs ≡ n → InOrder (masked (furthers k x n) xs y) x j (x + n) j
  further_masked zero [] y x j e = (omega arith, refl)
  further_masked zero (a ∷ xs) y x j e = absurd (omega arith)
  further_masked (suc n) [] y x j e = absurd (omega arith)
  further_masked (suc n) (a ∷ xs) y x j e =
      in_both (masked (furthers k x n) xs y) (gate_of both (a ∷ y ∷ []) (further k (x + n)) ∷ []) x j (x + n) j (x + suc n) j
      (further_masked n xs y x j (omega arith)) (inl (refl, (omega arith, refl)))

  pub further_constants : (n : ℕ) (bits : List Bool) (x j : ℕ) → length bits ≡ n → InOrder (constants (furthers k x n) bits) x j (x + n) j
  further_constants zero [] x j e = (omega arith, refl)
  further_constants zero (b ∷ bits) x j e = absurd (omega arith)
  further_constants (suc n) [] x j e = absurd (omega arith)
  further_constants (suc n) (b ∷ bits) x j e =
      in_both (constants (furthers k x n) bits) (gate_of (if b then always else never) [] (further k (x + n)) ∷ []) x j (x + n) j (x + suc n) j
      (further_constants n bits x j (omega arith)) (inl (refl, (omega arith, refl)))

  pub folded_drive : (gate : Gate) (a : List ℕ) (xs : List (List ℕ)) (j : ℕ) → InOrder (folded gate k (a ∷ xs)) 0 j (length (a ∷ xs)) j
  folded_drive gate a [] j = inl (refl, (refl, refl))
  folded_drive gate a (b ∷ xs) j =
      in_both (folded gate k (b ∷ xs)) (gate_of gate (further k (length xs) ∷ a ∷ []) (further k (length (b ∷ xs))) ∷ []) 0 j (length (b ∷ xs)) j
      (length (a ∷ b ∷ xs)) j (folded_drive gate b xs j) (inl (refl, (refl, refl)))

  pub sum_drive : (n : ℕ) (xs ys : List (List ℕ)) → length xs ≡ n → length ys ≡ n → InOrder (sum_nodes k (word_names name n) xs ys) 1 0 (suc n) n
  sum_drive zero [] [] e f = (refl, refl)
  sum_drive zero [] (b ∷ ys) e f = absurd (omega arith)
  sum_drive zero (a ∷ xs) ys e f = absurd (omega arith)
  sum_drive (suc n) [] ys e f = absurd (omega arith)
  sum_drive (suc n) (a ∷ xs) [] e f = absurd (omega arith)
  sum_drive (suc n) (a ∷ xs) (b ∷ ys) e f =
      let read = a ∷ b ∷ further k (length xs) ∷ [] in
      in_both (sum_nodes k (word_names name n) xs ys)
      (gate_of odd read (place_name name n) ∷ gate_of most read (further k (length (a ∷ xs))) ∷ []) 1 0 (suc n) n (suc (suc n)) (suc n)
      (sum_drive n xs ys (omega arith) (omega arith)) (inr (refl, inl (at_number (length (a ∷ xs)) (suc n) e, (refl, refl))))

  pub difference_drive : (n : ℕ) (xs ys : List (List ℕ)) → length xs ≡ n → length ys ≡ n
      → InOrder (difference_nodes k (word_names name n) xs ys) 1 0 (2 * n + 1) n
  difference_drive zero [] [] e f = (refl, refl)
  difference_drive zero [] (b ∷ ys) e f = absurd (omega arith)
  difference_drive zero (a ∷ xs) ys e f = absurd (omega arith)
  difference_drive (suc n) [] ys e f = absurd (omega arith)
  difference_drive (suc n) (a ∷ xs) [] e f = absurd (omega arith)
  difference_drive (suc n) (a ∷ xs) (b ∷ ys) e f =
      let opposite = further k (2 * length xs + 1) in
      let read = a ∷ opposite ∷ further k (2 * length xs) ∷ [] in
      let first : opposite ≡ further k (2 * n + 1) = at_number (2 * length xs + 1) (2 * n + 1) (omega arith) in
      let last : further k (2 * length (a ∷ xs)) ≡ further k (suc (2 * n + 1)) = at_number (2 * length (a ∷ xs)) (suc (2 * n + 1)) (omega arith) in
      in_both (difference_nodes k (word_names name n) xs ys)
      (gate_of inverse (b ∷ []) opposite ∷ gate_of odd read (place_name name n) ∷ gate_of most read (further k (2 * length (a ∷ xs))) ∷ [])
      1 0 (2 * n + 1) n (2 * suc n + 1) (suc n) (difference_drive n xs ys (omega arith) (omega arith))
      (inl (first, inr (refl, inl (last, (omega arith, refl)))))

  pub equal_drive : (xs ys : List (List ℕ)) (j : ℕ) → length xs ≡ length ys → InOrder (equal_nodes k xs ys) 1 j (2 * length xs + 1) j
  equal_drive [] ys j e = (refl, refl)
  equal_drive (a ∷ xs) [] j e = absurd (omega arith)
  equal_drive (a ∷ xs) (b ∷ ys) j e =
      let same = further k (2 * length xs + 1) in
      let last : further k (2 * length (a ∷ xs)) ≡ further k (suc (2 * length xs + 1)) =
      at_number (2 * length (a ∷ xs)) (suc (2 * length xs + 1)) (omega arith) in
      in_both (equal_nodes k xs ys)
      (gate_of alike (a ∷ b ∷ []) same ∷ gate_of both (further k (2 * length xs) ∷ same ∷ []) (further k (2 * length (a ∷ xs))) ∷ [])
      1 j (2 * length xs + 1) j (2 * length (a ∷ xs) + 1) j (equal_drive xs ys j (omega arith)) (inl (refl, inl (last, (omega arith, refl))))

  pub less_drive : (xs ys : List (List ℕ)) (j : ℕ) → length xs ≡ length ys → InOrder (less_nodes k xs ys) 1 j (suc (length xs)) j
  less_drive [] ys j e = (refl, refl)
  less_drive (a ∷ xs) [] j e = absurd (omega arith)
  less_drive (a ∷ xs) (b ∷ ys) j e =
      in_both (less_nodes k xs ys) (gate_of less (a ∷ b ∷ further k (length xs) ∷ []) (further k (length (a ∷ xs))) ∷ [])
      1 j (suc (length xs)) j (suc (length (a ∷ xs))) j (less_drive xs ys j (omega arith)) (inl (refl, (refl, refl)))

  pub signed_drive : (a b : List ℕ) (xs ys : List (List ℕ)) (j : ℕ) → length xs ≡ length ys
      → InOrder (signed_nodes k (a ∷ xs) (b ∷ ys)) 1 j (suc (length (a ∷ xs))) j
  signed_drive a b xs ys j e =
      in_both (less_nodes k xs ys) (gate_of less (b ∷ a ∷ further k (length xs) ∷ []) (further k (length (a ∷ xs))) ∷ [])
      1 j (suc (length xs)) j (suc (length (a ∷ xs))) j (less_drive xs ys j e) (inl (refl, (refl, refl)))

  row_drive : (c : ℕ) (ps xs : List (List ℕ)) (y : List ℕ) (j : ℕ) → length xs ≤ length ps
      → InOrder (row_nodes k c ps xs y) (c + 1) j (c + (1 + 3 * length xs)) j
  row_drive c [] [] y j le = (omega arith, refl)
  row_drive c [] (a ∷ xs) y j le = absurd (omega arith)
  row_drive c (p ∷ ps) [] y j le = (omega arith, refl)
  row_drive c (p ∷ ps) (a ∷ xs) y j le =
      let part = further k (c + (3 * length xs + 1)) in
      let read = p ∷ part ∷ further k (c + 3 * length xs) ∷ [] in
      let out = further k (c + (3 * length xs + 2)) in
      let next = further k (c + 3 * length (a ∷ xs)) in
      let start = c + (1 + 3 * length xs) in
      let first : part ≡ further k start = at_number (c + (3 * length xs + 1)) start (omega arith) in
      let second : out ≡ further k (suc start) = at_number (c + (3 * length xs + 2)) (suc start) (omega arith) in
      let third : next ≡ further k (suc (suc start)) = at_number (c + 3 * length (a ∷ xs)) (suc (suc start)) (omega arith) in
      in_both (row_nodes k c ps xs y) (gate_of both (a ∷ y ∷ []) part ∷ gate_of odd read out ∷ gate_of most read next ∷ [])
      (c + 1) j start j (c + (1 + 3 * length (a ∷ xs))) j (row_drive c ps xs y j (omega arith))
      (inl (first, inl (second, inl (third, (omega arith, refl)))))

  length-row_names : (c : ℕ) (ps xs : List (List ℕ)) → length (row_names k c ps xs) ≡ length ps
  length-row_names c [] xs = refl
  length-row_names c (p ∷ ps) [] = refl
  length-row_names c (p ∷ ps) (a ∷ xs) = ap suc (length-row_names c ps xs)

  pub length-product_names : (xs ys : List (List ℕ)) → 1 ≤ length ys → length (product_names k xs ys) ≡ length xs
  length-product_names xs [] some = absurd (omega arith)
  length-product_names xs (y ∷ []) some = length-furthers k 0 (length xs)
  length-product_names xs (y ∷ z ∷ ys) some =
      length-row_names (product_count xs (z ∷ ys)) (product_names k xs (z ∷ ys)) (drop (length (z ∷ ys)) xs)
      ∙ length-product_names xs (z ∷ ys) (omega arith)

  pub product_drive : (xs ys : List (List ℕ)) (j : ℕ) → 1 ≤ length ys → InOrder (product_nodes k xs ys) 0 j (product_count xs ys) j
  product_drive xs [] j some = absurd (omega arith)
  product_drive xs (y ∷ []) j some =
      counted (masked (furthers k 0 (length xs)) xs y) 0 j (0 + length xs) j (length xs) j (omega arith) refl (further_masked (length xs) xs y 0 j refl)
  product_drive xs (y ∷ z ∷ ys) j some =
      let c = product_count xs (z ∷ ys) in
      let names = product_names k xs (z ∷ ys) in
      let low = drop (length (z ∷ ys)) xs in
      let fits : length low ≤ length names = omega (arith, length-drop (length (z ∷ ys)) xs, length-product_names xs (z ∷ ys) (omega arith)) in
      let next : c + 1 ≡ suc c = omega arith in
      let row : InOrder (row_nodes k c names low y) (suc c) j (c + (1 + 3 * length low)) j =
      subst (λ n. InOrder (row_nodes k c names low y) n j (c + (1 + 3 * length low)) j) next (row_drive c names low y j fits) in
      in_both (product_nodes k xs (z ∷ ys)) (gate_of never [] (further k c) ∷ row_nodes k c names low y) 0 j c j (c + (1 + 3 * length low)) j
      (product_drive xs (z ∷ ys) j (omega arith)) (inl (refl, row))

  pub shift_drive : (moved : ℕ → List (List ℕ) → List (List ℕ)) (xs ss : List (List ℕ)) (j : ℕ)
      → ((places : ℕ) (ys : List (List ℕ)) → length (moved places ys) ≡ length ys)
      → InOrder (shift_nodes moved k xs ss) 1 j (1 + length ss * length xs) j
  shift_drive moved xs [] j keeps = (omega arith, refl)
  shift_drive moved xs (s ∷ ss) j keeps =
      let before = shifted_names k xs ss in
      let long = long_names ss in
      let outs = furthers k (1 + length ss * length xs) (length xs) in
      in_both (shift_nodes moved k xs ss) (choices s outs (moved (2 ^ length ss) before) before) 1 j (1 + length ss * length xs) j
      (1 + length (s ∷ ss) * length xs) j (shift_drive moved xs ss j keeps)
      (counted (choices s outs (moved (2 ^ length ss) before) before) (1 + length ss * length xs) j (1 + length ss * length xs + length xs) j
      (1 + length (s ∷ ss) * length xs) j (omega arith) refl
      (further_choices s (length xs) (moved (2 ^ length ss) before) before (1 + length ss * length xs) j (keeps (2 ^ length ss) before ∙ long) long))
    where
      long_names : (ss : List (List ℕ)) → length (shifted_names k xs ss) ≡ length xs
      long_names [] = refl
      long_names (s ∷ ss) = length-furthers k (1 + length ss * length xs) (length xs)

  pub register_drive : (clock : List ℕ) (n : ℕ) (xs : List (List ℕ)) (bits : List Bool) (x : ℕ) → length xs ≡ n → length bits ≡ n
      → InOrder (register_nodes clock (word_names name n) xs bits) x 0 x n
  register_drive clock zero [] [] x e f = (refl, refl)
  register_drive clock zero [] (b ∷ bits) x e f = absurd (omega arith)
  register_drive clock zero (a ∷ xs) bits x e f = absurd (omega arith)
  register_drive clock (suc n) [] bits x e f = absurd (omega arith)
  register_drive clock (suc n) (a ∷ xs) [] x e f = absurd (omega arith)
  register_drive clock (suc n) (a ∷ xs) (b ∷ bits) x e f =
      in_both (register_nodes clock (word_names name n) xs bits) (latch a (place_name name n) clock b ∷ []) x 0 x n x (suc n)
      (register_drive clock n xs bits x (omega arith) (omega arith)) (inr (refl, (refl, refl)))

  pub reset_drive : (clock reset : List ℕ) (n : ℕ) (xs : List (List ℕ)) (bits : List Bool) → length xs ≡ n → length bits ≡ n
      → InOrder (reset_nodes k clock reset (word_names name n) xs bits) 0 0 n n
  reset_drive clock reset zero [] [] e f = (refl, refl)
  reset_drive clock reset zero [] (b ∷ bits) e f = absurd (omega arith)
  reset_drive clock reset zero (a ∷ xs) bits e f = absurd (omega arith)
  reset_drive clock reset (suc n) [] bits e f = absurd (omega arith)
  reset_drive clock reset (suc n) (a ∷ xs) [] e f = absurd (omega arith)
  reset_drive clock reset (suc n) (a ∷ xs) (b ∷ bits) e f =
      let rest : length xs ≡ n = omega arith in
      in_both (reset_nodes k clock reset (word_names name n) xs bits)
      (gate_of (if b then either else cleared) (a ∷ reset ∷ []) (further k (length xs)) ∷ latch (further k (length xs)) (place_name name n) clock b ∷ [])
      0 0 n n (suc n) (suc n) (reset_drive clock reset n xs bits rest (omega arith)) (inl (at_number (length xs) n rest, inr (refl, (refl, refl))))

  word_drive : (x : ℕ) (clock : List ℕ) (cs values : List (List ℕ)) (bits : List Bool) (j : ℕ) → length cs ≡ length values → length cs ≡ length bits
      → InOrder (word_nodes k x clock cs values bits) (x + 2) j (x + (2 + 3 * length cs)) j
  word_drive x clock [] values bits j e f = (omega arith, refl)
  word_drive x clock (c ∷ cs) [] bits j e f = absurd (omega arith)
  word_drive x clock (c ∷ cs) (v ∷ values) [] j e f = absurd (omega arith)
  word_drive x clock (c ∷ cs) (v ∷ values) (b ∷ bits) j e f =
      let own = further k (x + (3 * length cs + 2)) in
      let next = further k (x + (3 * length cs + 3)) in
      let out = further k (x + (3 * length cs + 4)) in
      let start = x + (2 + 3 * length cs) in
      let first : own ≡ further k start = at_number (x + (3 * length cs + 2)) start (omega arith) in
      let second : next ≡ further k (suc start) = at_number (x + (3 * length cs + 3)) (suc start) (omega arith) in
      let third : out ≡ further k (suc (suc start)) = at_number (x + (3 * length cs + 4)) (suc (suc start)) (omega arith) in
      in_both (word_nodes k x clock cs values bits)
      (latch next own clock b ∷ gate_of choice (further k x ∷ v ∷ own ∷ []) next ∷ gate_of added (c ∷ further k (x + 1) ∷ own ∷ []) out ∷ [])
      (x + 2) j start j (x + (2 + 3 * length (c ∷ cs))) j (word_drive x clock cs values bits j (omega arith) (omega arith))
      (inl (first, inl (second, inl (third, (omega arith, refl)))))

  length-shown : (x n : ℕ) → length (shown_names k x n) ≡ n
  length-shown x zero = refl
  length-shown x (suc n) = ap suc (length-shown x n)

  abbrev AllWide : ℕ → List (List Bool) → Type 0
  AllWide width words = AllByRecursion (λ (bits : List Bool). length bits ≡ width) words

  pub ram_drive : (width x at : ℕ) (clock : List ℕ) (names : RamNames) (cs : List (List ℕ)) (words : List (List Bool)) (j : ℕ) → length cs ≡ width
      → length names.value ≡ width → AllWide width words
      → InOrder (ram_words k width x at clock names cs words) x j (x + length words * (2 + 3 * width)) j
  ram_drive width x at clock names cs [] j e f all = (omega arith, refl)
  ram_drive width x at clock names cs (bits ∷ words) j e f all =
      let own = word_nodes k x clock cs names.value bits in
      let rest = ram_words k width (x + (2 + 3 * width)) (at + 1) clock names (shown_names k x width) words in
      let one : further k (x + 1) ≡ further k (suc x) = at_number (x + 1) (suc x) (omega arith) in
      let two : x + 2 ≡ suc (suc x) = omega arith in
      let word_there : InOrder own (suc (suc x)) j (x + (2 + 3 * width)) j =
      subst (λ n. InOrder own n j (x + (2 + 3 * width)) j) two
      (subst (λ n. InOrder own (x + 2) j (x + (2 + 3 * n)) j) e (word_drive x clock cs names.value bits j (e ∙ sym f) (e ∙ sym all.0))) in
      let later : InOrder rest (x + (2 + 3 * width)) j (x + length (bits ∷ words) * (2 + 3 * width)) j =
      counted rest (x + (2 + 3 * width)) j (x + (2 + 3 * width) + length words * (2 + 3 * width)) j (x + length (bits ∷ words) * (2 + 3 * width)) j
      (omega arith) refl
      (ram_drive width (x + (2 + 3 * width)) (at + 1) clock names (shown_names k x width) words j (length-shown x width) f all.1) in
      inl (refl, inl (one, in_both own rest (suc (suc x)) j (x + (2 + 3 * width)) j (x + length (bits ∷ words) * (2 + 3 * width)) j word_there later))
