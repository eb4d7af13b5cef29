-- The bits of elements of vectors.
use Rattle.std.proofs.Common.{◌≡◌, ℕ, zero, suc, ◌+◌, ◌-◌, ◌*◌, ◌^◌, ◌<◌, ◌≤◌, min, ◌⊎◌, inl, inr, Bool, List, [], ◌∷◌, ◌++◌, length, Some, slice_get, refl, sym, ap, ◌∙◌, subst, arith, append_assoc, length-append, mod-eq_of_lt, pow_pos}
use Rattle.std.proofs.lemmas.Bool.Decides.{leb_tells}
use Rattle.chw_base.specs.declared.index.WireId.{WireId}
use Rattle.chw_bits.specs.Bits.{number_of, bits_of, cut_of}
use Rattle.chw_bits.proofs.Numbers.{length-bits_of, number_of_lt}
use Rattle.chw_bits.proofs.RoundTrips.{number_of-bits_of, bits_of-number_of}
use Rattle.chw_clock.specs.declared.event.Event.{Event}
use Rattle.netlist.specs.declared.net.Cell.TheVariants.{Cut}
use Rattle.netlist.specs.declared.net.Net.{Net}
use Rattle.net_built.specs.Data.{tests, test_wires, chosen, chosen_wires}
use Rattle.net_built.specs.Vectors.{element, elements, element_wires, words_from, element_at}
use Rattle.net_built.specs.Wires.{wire, wires_from, wire_count, present, new_wires, Piece, ◌▸◌, after, last_wires}
use Rattle.net_built.specs.Words.{only}
use Rattle.use_laws.specs.ValueIn.{ValueIn}
use Rattle.cell_bits.specs.Bearing.{HasCells, Bears}
use Rattle.cell_bits.specs.ChoiceLaws.{AreWide, TellWords, IsTaken}
use Rattle.cell_bits.specs.DataLaws.{joined, BearAll, all_none, all_and}
use Rattle.cell_bits.proofs.DataCells.{one_present, last_at, has_left, has_right, value_of, one_bears, cut_value}
use Rattle.cell_bits.proofs.DataChoices.{taken_word, tests_bear, choice_bears}
use Rattle.cell_bits.proofs.DataFields.{cut_middle}

-- how many bits elements of one width have
joined_size : (width : ℕ) (values : List (List Bool)) → AreWide width values → length (joined values) ≡ length values * width
joined_size width [] wide = omega arith
joined_size width (v ∷ values) wide = omega (arith, length-append v (joined values), wide.0, joined_size width values wide.1)

-- the elements before and behind one
record Split (width i : ℕ) (values : List (List Bool)) (bits : List Bool) : Type 0 where
  pub front : List (List Bool)
  pub behind : List (List Bool)
  pub whole : joined values ≡ joined front ++ (bits ++ joined behind)
  pub count : length values ≡ suc (i + length behind)
  pub wide : AreWide width behind
  pub own : length bits ≡ width

split_at : (width : ℕ) (values : List (List Bool)) (i : ℕ) (bits : List Bool) → AreWide width values → slice_get values i ≡ Some bits → Split width i values bits
split_at width [] i bits wide at = absurd (cc)
split_at width (v ∷ values) zero bits wide at =
    let same : v ≡ bits = cc in
    record {
      front = [];
      behind = values;
      whole = ap (λ (bs : List Bool). bs ++ joined values) same;
      count = omega arith;
      wide = wide.1;
      own = subst (λ (bs : List Bool). length bs ≡ width) same wide.0;
    }
split_at width (v ∷ values) (suc i) bits wide at =
    let rest : Split width i values bits = split_at width values i bits wide.1 at in
    record {
      front = v ∷ rest.front;
      behind = rest.behind;
      whole = ap (λ (bs : List Bool). v ++ bs) rest.whole ∙ sym (append_assoc v (joined rest.front) (bits ++ joined rest.behind));
      count = omega (arith, rest.count);
      wide = rest.wide;
      own = rest.own;
    }

-- the words of numbers in order
words_wide : (k j count : ℕ) → AreWide k (words_from k j count)
words_wide k j zero = tt
words_wide k j (suc count) = (length-bits_of k j, words_wide k (j + 1) count)

word_there : (k j count i : ℕ) → i < count → slice_get (words_from k j count) i ≡ Some (bits_of k (j + i))
word_there k j zero i lt = absurd (omega arith)
word_there k j (suc count) zero lt = let e : j ≡ j + 0 = omega arith in ap (λ m. Some (bits_of k m)) e
word_there k j (suc count) (suc i) lt = let e : j + 1 + i ≡ j + suc i = omega arith in word_there k (j + 1) count i (omega arith) ∙ ap (λ m. Some (bits_of k m)) e

word_within : (k j count i : ℕ) (word : List Bool) → slice_get (words_from k j count) i ≡ Some word → i < count
word_within k j zero i word at = absurd (cc)
word_within k j (suc count) zero word at = omega arith
word_within k j (suc count) (suc i) word at = let lt : i < count = word_within k (j + 1) count i word at in omega arith

le_or_less : (a b : ℕ) → (a ≤ b) ⊎ (b < a)
le_or_less a b = elim (leb_tells a b) [ inl le ↦ inl le.1 | inr less ↦ inr less.1 ]

-- the test that is true, if one is, is the one of the index
index_taken : (last : ℕ) (index : List Bool) → IsTaken index (words_from (length index) 0 (min last (2 ^ length index))) (suc last) (min (number_of index) last)
index_taken last index = record { none_before = before; own_or_last = own (le_or_less last (number_of index)) }
  where
    bound : number_of index < 2 ^ length index
    bound = number_of_lt index

    same : (i : ℕ) → i < 2 ^ length index → bits_of (length index) (0 + i) ≡ index → i ≡ number_of index
    same i lt e =
        let zero_plus : 0 + i ≡ i = omega arith in
        sym (number_of-bits_of (length index) i ∙ mod-eq_of_lt lt) ∙ ap (λ m. number_of (bits_of (length index) m)) (sym zero_plus) ∙ ap (λ (bs : List Bool). number_of bs) e

    before : (i : ℕ) → i < min (number_of index) last → ¬ (slice_get (words_from (length index) 0 (min last (2 ^ length index))) i ≡ Some index)
    before i lt at =
        let within : i < min last (2 ^ length index) = word_within (length index) 0 (min last (2 ^ length index)) i index at in
        let there = word_there (length index) 0 (min last (2 ^ length index)) i within in
        let both : Some (bits_of (length index) (0 + i)) ≡ Some index = sym there ∙ at in
        let word : bits_of (length index) (0 + i) ≡ index = cc in
        let is : i ≡ number_of index = same i (omega arith) word in
        omega arith

    own : (last ≤ number_of index) ⊎ (number_of index < last)
        → (slice_get (words_from (length index) 0 (min last (2 ^ length index))) (min (number_of index) last) ≡ Some index) ⊎ (suc (min (number_of index) last) ≡ suc last)
    own (inl le) = inr (omega arith)
    own (inr less) =
        let place : min (number_of index) last ≡ number_of index = omega arith in
        let zero_plus : 0 + min (number_of index) last ≡ number_of index = omega arith in
        inl
        (word_there (length index) 0 (min last (2 ^ length index)) (min (number_of index) last) (omega (arith, bound))
        ∙ ap (λ m. Some (bits_of (length index) m)) zero_plus ∙ ap (λ bs. Some bs) (bits_of-number_of index))

-- the cells of an element at an index, by the words that are tested
abbrev indexed : (width m k n : ℕ) (v i : List WireId) (words : List (List Bool)) → Piece
indexed width m k n v i words =
    let p : Piece = elements width m n v in
    let q : Piece = tests k i words (after n p) in
    p ▸ q ▸ chosen width (test_wires k i words (after n p)) (element_wires width m n) (after (after n p) q)

abbrev indexed_wires : (width m k n : ℕ) (v i : List WireId) (words : List (List Bool)) → List WireId
indexed_wires width m k n v i words =
    let p : Piece = elements width m n v in
    let q : Piece = tests k i words (after n p) in
    chosen_wires width (test_wires k i words (after n p)) (element_wires width m n) (after (after n p) q)

-- the wires of the choice are the last ones; without a test they are those of the one element
indexed_end : (width m k n : ℕ) (v i : List WireId) (reach last : ℕ) → m ≡ suc last → reach ≡ min last (2 ^ k)
    → last_wires n (indexed width m k n v i (words_from k 0 reach)) (width ∷ []) ≡ indexed_wires width m k n v i (words_from k 0 reach)
indexed_end width zero k n v i zero last e f = absurd (omega arith)
indexed_end width (suc zero) k n v i zero last e f =
    last_at n n width (indexed width 1 k n v i [])
    (λ lt. omega (arith, length-append (present (width ∷ []) ++ []) [], length-append (present (width ∷ [])) [], one_present width lt))
indexed_end width (suc (suc m)) k n v i zero last e f = absurd (let some : 0 < 2 ^ k = pow_pos k in omega (arith, some))
indexed_end width m k n v i (suc reach) last e f =
    let words : List (List Bool) = words_from k 0 (suc reach) in
    let p : Piece = elements width m n v in
    let q : Piece = tests k i words (after n p) in
    let r : Piece = chosen width (test_wires k i words (after n p)) (element_wires width m n) (after (after n p) q) in
    let place : after n (p ▸ q ▸ r) ≡ after (after (after n p) q) r = omega (arith, length-append p.widths (q.widths ++ r.widths), length-append q.widths r.widths) in
    ap (λ at. wires_from (at - wire_count (width ∷ [])) (wire_count (width ∷ []))) place

module _ (net : Net) (path : List ℕ) (h : List Event) where
  -- one element, on its own wire
  element_bears : (width n i behind : ℕ) (v : List WireId) (values : List (List Bool)) (bits : List Bool) → Bears net path h v (joined values) → AreWide width values
      → slice_get values i ≡ Some bits → length values ≡ suc (i + behind) → HasCells net path (element width behind n v).cells
      → Bears net path h (new_wires n (width ∷ [])) bits
  element_bears width n i behind v values bits b wide at count has =
      let s : Split width i values bits = split_at width values i bits wide at in
      let others : length s.behind ≡ behind = omega (arith, s.count) in
      let size : length (joined s.behind) ≡ behind * width = joined_size width s.behind s.wide ∙ ap (λ m. m * width) others in
      let high : ℕ = (behind + 1) * width - 1 in
      let low : ℕ = behind * width in
      let top : (behind + 1) * width ≡ width + behind * width = omega arith in
      one_bears net path h n width (Cut (wire n) (only v) high low) bits s.own has
      (λ lt there.
      let own : length (bits ++ joined s.behind) ≡ width + behind * width = omega (arith, length-append bits (joined s.behind), size, s.own) in
      let cut : cut_of high low (joined s.front ++ (bits ++ joined s.behind)) ≡ bits =
      cut_middle (joined s.front) bits (joined s.behind) high low (omega (arith, s.own)) (ap (λ m. m - 1) (top ∙ sym own)) (sym size) in
      let some : 0 < length (joined values) =
      omega (arith, ap (λ (bs : List Bool). length bs) s.whole, length-append (joined s.front) (bits ++ joined s.behind), own) in
      subst (λ bs. ValueIn net path h n bs) (ap (λ bs. cut_of high low bs) s.whole ∙ cut)
      (cut_value net path h n high low (only v) (joined values) there (value_of net path h b some)))

  pub elements_bear : (width n i behind : ℕ) (v : List WireId) (values : List (List Bool)) (bits : List Bool) → Bears net path h v (joined values) → AreWide width values
      → slice_get values i ≡ Some bits → length values ≡ suc (i + behind) → HasCells net path (element width behind n v).cells
      → Bears net path h (last_wires n (element width behind n v) (width ∷ [])) bits
  elements_bear width n i behind v values bits b wide at count has =
      let end : last_wires n (element width behind n v) (width ∷ []) ≡ new_wires n (width ∷ []) =
      last_at n n width (element width behind n v) (λ lt. omega (arith, one_present width lt)) in
      subst (λ ws. Bears net path h ws bits) (sym end) (element_bears width n i behind v values bits b wide at count has)

  -- all from one on, each on its own wire
  each_element : (width n i : ℕ) (v : List WireId) (values rest : List (List Bool)) → Bears net path h v (joined values) → AreWide width values
      → ((j : ℕ) (bits : List Bool) → slice_get rest j ≡ Some bits → slice_get values (i + j) ≡ Some bits) → length values ≡ i + length rest
      → HasCells net path (elements width (length rest) n v).cells → BearAll net path h (element_wires width (length rest) n) rest
  each_element width n i v values [] b wide at count has = all_none
  each_element width n i v values (bits ∷ rest) b wide at count has =
      let p : Piece = element width (length rest) n v in
      let others : Piece = elements width (length rest) (after n p) v in
      let here : i + 0 ≡ i = omega arith in
      let first : Bears net path h (new_wires n (width ∷ [])) bits =
      element_bears width n i (length rest) v values bits b wide (subst (λ m. slice_get values m ≡ Some bits) here (at 0 bits refl)) (omega arith)
      (has_left net path h p.cells others.cells has) in
      all_and first
      (each_element width (after n p) (i + 1) v values rest b wide
      (λ j bs e. let next : i + suc j ≡ i + 1 + j = omega arith in subst (λ m. slice_get values m ≡ Some bs) next (at (suc j) bs e)) (omega arith)
      (has_right net path h p.cells others.cells has))

  -- the result of the choice, which stands on wires of its own
  indexed_bears : (width last n m : ℕ) (v i : List WireId) (words values : List (List Bool)) (index bits : List Bool) → Bears net path h v (joined values)
      → AreWide width values → Bears net path h i index → AreWide (length index) words → slice_get values (min (number_of index) last) ≡ Some bits
      → IsTaken index words (length values) (min (number_of index) last) → m ≡ length values
      → HasCells net path (indexed width m (length index) n v i words).cells → Bears net path h (indexed_wires width m (length index) n v i words) bits
  indexed_bears width last n m v i words values index bits b wide c words_are at taken e has =
      let k : ℕ = length index in
      let p : Piece = elements width m n v in
      let q : Piece = tests k i words (after n p) in
      let wires : List WireId = test_wires k i words (after n p) in
      let results : List (List WireId) = element_wires width m n in
      let r : Piece = chosen width wires results (after (after n p) q) in
      let has_rest : HasCells net path (q.cells ++ r.cells) = has_right net path h p.cells (q.cells ++ r.cells) has in
      let has_elements : HasCells net path (elements width (length values) n v).cells =
      subst (λ m. HasCells net path (elements width m n v).cells) e (has_left net path h p.cells (q.cells ++ r.cells) has) in
      let each : BearAll net path h results values =
      subst (λ m. BearAll net path h (element_wires width m n) values) (sym e)
      (each_element width n 0 v values values b wide
      (λ j bs f. let same : j ≡ 0 + j = omega arith in subst (λ m. slice_get values m ≡ Some bs) same f) (omega arith) has_elements) in
      let told : TellWords net path h index words wires = tests_bear net path h k (after n p) i index words c refl words_are (has_left net path h q.cells r.cells has_rest) in
      choice_bears net path h width (after (after n p) q) (min (number_of index) last) wires told.truths results values bits told.have each wide at
      (taken_word (length values) (min (number_of index) last) told.are taken) (has_right net path h q.cells r.cells has_rest)

  element_at_bears : (width last n : ℕ) (v i : List WireId) (values : List (List Bool)) (index bits : List Bool) → Bears net path h v (joined values)
      → AreWide width values → length values ≡ suc last → Bears net path h i index → slice_get values (min (number_of index) last) ≡ Some bits
      → HasCells net path (element_at width last (length index) n v i).cells
      → Bears net path h (last_wires n (element_at width last (length index) n v i) (width ∷ [])) bits
  element_at_bears width last n v i values index bits b wide count c at has =
      let k : ℕ = length index in
      let reach : ℕ = min last (2 ^ k) in
      let words : List (List Bool) = words_from k 0 reach in
      let taken : IsTaken index words (length values) (min (number_of index) last) =
      subst (λ m. IsTaken index words m (min (number_of index) last)) (sym count) (index_taken last index) in
      subst (λ ws. Bears net path h ws bits) (sym (indexed_end width (last + 1) k n v i reach last (omega arith) refl))
      (indexed_bears width last n (last + 1) v i words values index bits b wide c (words_wide k 0 reach) at taken (omega arith) has)

  pub indexed_element_bears : (width last k n : ℕ) (v i : List WireId) (values : List (List Bool)) (index bits : List Bool) → Bears net path h v (joined values)
      → AreWide width values → length values ≡ suc last → Bears net path h i index → length index ≡ k
      → slice_get values (min (number_of index) last) ≡ Some bits → HasCells net path (element_at width last k n v i).cells
      → Bears net path h (last_wires n (element_at width last k n v i) (width ∷ [])) bits
  indexed_element_bears width last k n v i values index bits b wide count c size at has =
      let cells : HasCells net path (element_at width last (length index) n v i).cells =
      subst (λ k. HasCells net path (element_at width last k n v i).cells) (sym size) has in
      subst (λ k. Bears net path h (last_wires n (element_at width last k n v i) (width ∷ [])) bits) size
      (element_at_bears width last n v i values index bits b wide count c at cells)
