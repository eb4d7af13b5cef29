-- The bits of what is tested, of tests, of choices and of cases.
use Rattle.std.proofs.Common.{◌≡◌, ℕ, zero, suc, ◌+◌, ◌-◌, ◌<◌, inl, inr, Bool, true, false, cond, eqb, List, [], ◌∷◌, ◌++◌, length, map, reverse, zip, Some, slice_get, refl, sym, ap, ◌∙◌, subst, arith, Decides, append-nil, length-append}
use Rattle.std.proofs.lemmas.Bool.Decides.{Decides-eqb}
use Rattle.std.proofs.lemmas.Grind.{reverse_onto}
use Rattle.std.proofs.lemmas.List.{length-reverse}
use Rattle.chw_base.specs.declared.index.WireId.{WireId}
use Rattle.chw_bits.specs.Bits.{cut_of, number_of}
use Rattle.chw_bits.specs.Bitwise.{one_bit}
use Rattle.chw_bits.proofs.RoundTrips.{same_bits}
use Rattle.chw_clock.specs.declared.event.Event.{Event}
use Rattle.chw_layout.specs.Measured.{tag_width}
use Rattle.chw_terms.specs.TermTree.{Alts}
use Rattle.chw_types.specs.declared.declarations.Data.{Data}
use Rattle.chw_types.specs.TypeTree.{TypeTree, data_of}
use Rattle.netlist.specs.declared.net.Cell.TheVariants.{Cut}
use Rattle.netlist.specs.declared.net.Net.{Net}
use Rattle.netlist.specs.declared.net.Op2.TheVariants.{Eq}
use Rattle.net_built.specs.Data.{Tested, constructor_count, tested_of, words_of, test, tests, test_wires, last_of, choices, chosen, chosen_wires, case_cells, case_wires}
use Rattle.net_built.specs.Wires.{wire, new_wires, Piece, after, last_wire, last_wires}
use Rattle.net_built.specs.Words.{only}
use Rattle.use_laws.specs.ValueIn.{ValueIn}
use Rattle.cell_bits.specs.Bearing.{HasCells, Bears}
use Rattle.cell_bits.specs.ChoiceLaws.{AreWide, HaveTruths, truths_none, truths_and, AreTruths, no_words, word_and, TellWords, IsTaken}
use Rattle.cell_bits.specs.DataLaws.{BearAll, all_none, all_and}
use Rattle.cell_bits.proofs.DataCells.{last_at, has_left, has_right, value_of, bears_at, one_bears, const_value, cut_value, bin_value, mux_value}
use Rattle.cell_bits.proofs.DataFields.{cut_middle}

-- words of one length are the same just where their numbers are
decides_word : (tested word : List Bool) → length word ≡ length tested → Decides (eqb (number_of tested) (number_of word)) (word ≡ tested)
decides_word tested word e =
    let tells : Decides (eqb (number_of tested) (number_of word)) (number_of tested ≡ number_of word) = Decides-eqb (number_of tested) (number_of word) in
    ((λ t. same_bits word tested e (sym (tells.0 t))), (λ same. tells.1 (ap (λ (bits : List Bool). number_of bits) (sym same))))

-- what multiplexers give one after the other, from the first on
abbrev settled : List (Bool × List Bool) → List Bool → List Bool
settled [] other = other
settled (it ∷ more) other = settled more (cond it.0 it.1 other)

settled_push : (xs : List (Bool × List Bool)) (it : Bool × List Bool) (other : List Bool) → settled (xs ++ it ∷ []) other ≡ cond it.0 it.1 (settled xs other)
settled_push [] it other = refl
settled_push (x ∷ xs) it other = settled_push xs it (cond x.0 x.1 other)

settled_reverse : (it : Bool × List Bool) (xs : List (Bool × List Bool)) (other : List Bool) → settled (reverse (it ∷ xs)) other ≡ cond it.0 it.1 (settled (reverse xs) other)
settled_reverse it xs other = ap (λ (ys : List (Bool × List Bool)). settled ys other) (reverse_onto xs it []) ∙ settled_push (reverse xs) it other

-- the last of some values
abbrev last_value : List (List Bool) → List Bool
last_value [] = []
last_value (v ∷ []) = v
last_value (v ∷ w ∷ more) = last_value (w ∷ more)

last_is : (values : List (List Bool)) (k : ℕ) (bits : List Bool) → slice_get values k ≡ Some bits → suc k ≡ length values → last_value values ≡ bits
last_is [] k bits at e = absurd (cc)
last_is (v ∷ []) zero bits at e = cc
last_is (v ∷ []) (suc k) bits at e = absurd (omega arith)
last_is (v ∷ w ∷ more) zero bits at e = absurd (omega arith)
last_is (v ∷ w ∷ more) (suc k) bits at e = last_is (w ∷ more) k bits at (omega arith)

last_wide : (width : ℕ) (values : List (List Bool)) → AreWide width values → 0 < length values → length (last_value values) ≡ width
last_wide width [] wide lt = absurd (omega arith)
last_wide width (v ∷ []) wide lt = wide.0
last_wide width (v ∷ w ∷ more) wide lt = last_wide width (w ∷ more) wide.1 (omega arith)

value_wide : (width : ℕ) (values : List (List Bool)) (k : ℕ) (bits : List Bool) → AreWide width values → slice_get values k ≡ Some bits → length bits ≡ width
value_wide width [] k bits wide at = absurd (cc)
value_wide width (v ∷ values) zero bits wide at = let same : v ≡ bits = cc in subst (λ (bs : List Bool). length bs ≡ width) same wide.0
value_wide width (v ∷ values) (suc k) bits wide at = value_wide width values k bits wide.1 at

value_within : (values : List (List Bool)) (k : ℕ) (bits : List Bool) → slice_get values k ≡ Some bits → k < length values
value_within [] k bits at = absurd (cc)
value_within (v ∷ values) zero bits at = omega arith
value_within (v ∷ values) (suc k) bits at = let lt : k < length values = value_within values k bits at in omega arith

zip_none : (truths : List Bool) → zip {X = List Bool} truths [] ≡ []
zip_none [] = refl
zip_none (t ∷ truths) = refl

-- the choice gives the value that is taken
choice_is : (truths : List Bool) (values : List (List Bool)) (k : ℕ) (bits other : List Bool) → other ≡ last_value values → slice_get values k ≡ Some bits
    → IsTaken true truths (length values) k → settled (reverse (zip truths values)) other ≡ bits
choice_is truths [] k bits other e at taken = absurd (cc)
choice_is [] (v ∷ values) k bits other e at taken = elim taken.own_or_last [
  | inl own ↦ absurd (cc)
  | inr last ↦ e ∙ last_is (v ∷ values) k bits at last
]
choice_is (true ∷ truths) (v ∷ values) zero bits other e at taken = let same : v ≡ bits = cc in settled_reverse (true, v) (zip truths values) other ∙ same
choice_is (true ∷ truths) (v ∷ values) (suc k) bits other e at taken = absurd (taken.none_before 0 (omega arith) refl)
choice_is (false ∷ truths) (v ∷ []) zero bits other e at taken =
    settled_reverse (false, v) (zip truths []) other ∙ ap (λ (xs : List (Bool × List Bool)). settled (reverse xs) other) (zip_none truths) ∙ e ∙ last_is (v ∷ []) 0 bits at refl
choice_is (false ∷ truths) (v ∷ w ∷ values) zero bits other e at taken = elim taken.own_or_last [
  | inl own ↦ absurd (cc)
  | inr last ↦ absurd (omega arith)
]
choice_is (false ∷ truths) (v ∷ []) (suc k) bits other e at taken = absurd (cc)
choice_is (false ∷ truths) (v ∷ w ∷ values) (suc k) bits other e at taken =
    settled_reverse (false, v) (zip truths (w ∷ values)) other ∙ choice_is truths (w ∷ values) k bits other e at (later taken)
  where
    later : IsTaken true (false ∷ truths) (length (v ∷ w ∷ values)) (suc k) → IsTaken true truths (length (w ∷ values)) k
    later taken = record {
      none_before = λ i lt own. taken.none_before (suc i) (omega arith) own;
      own_or_last = elim taken.own_or_last [ inl own ↦ inl own | inr last ↦ inr (omega arith) ];
    }

-- the wire on which choices end
abbrev choice_wire : List (WireId × WireId) → WireId → ℕ → WireId
choice_wire [] other at = other
choice_wire (x ∷ xs) other at = choice_wire xs (wire at) (at + 1)

choice_place : (xs : List (WireId × WireId)) (other : WireId) (at m : ℕ) → length xs ≡ suc m → (choice_wire xs other at).number ≡ at + m
choice_place [] other at m e = absurd (omega arith)
choice_place (x ∷ []) other at m e = omega arith
choice_place (x ∷ y ∷ xs) other at zero e = absurd (omega arith)
choice_place (x ∷ y ∷ xs) other at (suc m) e = choice_place (y ∷ xs) (wire at) (at + 1) m (omega arith) ∙ omega arith

choice_count : (w : ℕ) (xs : List (WireId × WireId)) (other : WireId) (at : ℕ) → length (choices (suc w) xs other at).widths ≡ length xs
choice_count w [] other at = refl
choice_count w (x ∷ xs) other at = ap (λ k. suc k) (choice_count w xs (wire at) (at + 1))

-- tests and results stand beside one another as far as both go
zip_some : (t : WireId) (tested : List WireId) (r : List WireId) (results : List (List WireId))
    → (m : ℕ) × (length (reverse (zip (t ∷ tested) (map only (r ∷ results)))) ≡ suc m)
zip_some t tested r results = (length (zip tested (map only results)), length-reverse (zip (t ∷ tested) (map only (r ∷ results))))

-- the truth values of words tell which is taken
pub taken_word : {tested : List Bool} {truths : List Bool} {words : List (List Bool)} (count k : ℕ) → AreTruths tested truths words → IsTaken tested words count k
    → IsTaken true truths count k
taken_word {tested = tested} count k are taken = record {
  none_before = λ i lt own. taken.none_before i lt (word_there are i own);
  own_or_last = elim taken.own_or_last [ inl own ↦ inl (truth_there are k own) | inr last ↦ inr last ];
}
  where
    word_there : {truths : List Bool} {words : List (List Bool)} → AreTruths tested truths words → (i : ℕ) → slice_get truths i ≡ Some true → slice_get words i ≡ Some tested
    word_there no_words i own = absurd (cc)
    word_there (word_and {truth = truth} tells more) zero own = let is : truth ≡ true = cc in ap (λ word. Some word) (tells.0 is)
    word_there (word_and tells more) (suc i) own = word_there more i own

    truth_there : {truths : List Bool} {words : List (List Bool)} → AreTruths tested truths words → (i : ℕ) → slice_get words i ≡ Some tested → slice_get truths i ≡ Some true
    truth_there no_words i own = absurd (cc)
    truth_there (word_and {word = word} tells more) zero own = let is : word ≡ tested = cc in ap (λ truth. Some truth) (tells.1 is)
    truth_there (word_and tells more) (suc i) own = truth_there more i own

module _ (net : Net) (path : List ℕ) (h : List Event) where
  all_tested : (width : ℕ) (a : List WireId) (front behind : List Bool) → Bears net path h a (front ++ behind) → width ≡ length (front ++ behind)
      → length front ≡ width → Bears net path h a front
  all_tested width a front [] b e f = subst (λ bits. Bears net path h a bits) (append-nil front) b
  all_tested width a front (bit ∷ behind) b e f = absurd (omega (arith, length-append front (bit ∷ behind)))

  pub tested_bears : (datas : List Data) (t : TypeTree) (width n : ℕ) (a : List WireId) (front behind : List Bool)
      → Bears net path h a (front ++ behind) → width ≡ length (front ++ behind) → length front ≡ (tested_of datas t width n a).bits
      → HasCells net path (tested_of datas t width n a).cells.cells → Bears net path h (tested_of datas t width n a).wires front
  tested_bears datas (data_of d ts) width n a front behind b e f has =
      let tag : ℕ = tag_width (constructor_count datas d) in
      one_bears net path h n tag (Cut (wire n) (only a) (width - 1) (width - tag)) front f has
      (λ lt there.
      let size : length (front ++ behind) ≡ length front + length behind = length-append front behind in
      let cut : cut_of (width - 1) (width - tag) (front ++ behind) ≡ front =
      cut_middle [] front behind (width - 1) (width - tag) (omega arith) (ap (λ k. k - 1) e) (omega arith) in
      subst (λ bits. ValueIn net path h n bits) cut
      (cut_value net path h n (width - 1) (width - tag) (only a) (front ++ behind) there (value_of net path h b (omega arith))))
  tested_bears datas t width n a front behind b e f has = all_tested width a front behind b e f

  test_bears : (k n : ℕ) (a : List WireId) (tested word : List Bool) → Bears net path h a tested → length tested ≡ k → length word ≡ k
      → HasCells net path (test k a word n).cells
      → (truth : Bool) × Decides truth (word ≡ tested) × ValueIn net path h (last_wire n (test k a word n)).number (one_bit truth)
  test_bears zero n a tested word b e f has =
      let place : n ≡ n + 1 - 1 = omega arith in
      let same : word ≡ tested = no_bits word tested (omega arith) (omega arith) in
      (true, ((λ t. same), (λ s. refl)), subst (λ w. ValueIn net path h w (one_bit true)) place (const_value net path h n (true ∷ []) (has 0 _ refl)))
    where
      no_bits : (xs ys : List Bool) → length xs ≡ 0 → length ys ≡ 0 → xs ≡ ys
      no_bits [] [] e f = refl
      no_bits [] (y ∷ ys) e f = absurd (omega arith)
      no_bits (x ∷ xs) ys e f = absurd (omega arith)
  test_bears (suc k) n a tested word b e f has =
      let place : n + 1 ≡ n + 2 - 1 = omega arith in
      let read : ValueIn net path h n word = const_value net path h n word (has 0 _ refl) in
      let given : ValueIn net path h (n + 1) (one_bit (eqb (number_of tested) (number_of word))) =
      bin_value net path h (n + 1) Eq (only a) (wire n) tested word (has 1 _ refl) (value_of net path h b (omega arith)) read in
      (eqb (number_of tested) (number_of word), decides_word tested word (f ∙ sym e), subst (λ w. ValueIn net path h w (one_bit (eqb (number_of tested) (number_of word)))) place given)

  pub tests_bear : (k n : ℕ) (a : List WireId) (tested : List Bool) (words : List (List Bool)) → Bears net path h a tested → length tested ≡ k
      → AreWide k words → HasCells net path (tests k a words n).cells → TellWords net path h tested words (test_wires k a words n)
  tests_bear k n a tested [] b e wide has = record { truths = []; are = no_words; have = truths_none }
  tests_bear k n a tested (word ∷ words) b e wide has =
      let p : Piece = test k a word n in
      let others : Piece = tests k a words (after n p) in
      let first = test_bears k n a tested word b e wide.0 (has_left net path h p.cells others.cells has) in
      let rest : TellWords net path h tested words (test_wires k a words (after n p)) =
      tests_bear k (after n p) a tested words b e wide.1 (has_right net path h p.cells others.cells has) in
      record {
        truths = first.0 ∷ rest.truths;
        are = word_and first.1 rest.are;
        have = truths_and first.2 rest.have;
      }

  -- wires of tests and results, side by side, have these bits
  data PairsBear : List (WireId × WireId) → List (Bool × List Bool) → Type 0 where
    pairs_none : PairsBear [] []
    pairs_and : {x : WireId × WireId} {it : Bool × List Bool} {xs : List (WireId × WireId)} {its : List (Bool × List Bool)}
        → ValueIn net path h x.0.number (one_bit it.0) → ValueIn net path h x.1.number it.1 → PairsBear xs its → PairsBear (x ∷ xs) (it ∷ its)

  pairs_push : {x : WireId × WireId} {it : Bool × List Bool} {xs : List (WireId × WireId)} {its : List (Bool × List Bool)} → PairsBear xs its
      → ValueIn net path h x.0.number (one_bit it.0) → ValueIn net path h x.1.number it.1 → PairsBear (xs ++ x ∷ []) (its ++ it ∷ [])
  pairs_push pairs_none v w = pairs_and v w pairs_none
  pairs_push (pairs_and a b more) v w = pairs_and a b (pairs_push more v w)

  pairs_reverse : {xs : List (WireId × WireId)} {its : List (Bool × List Bool)} → PairsBear xs its → PairsBear (reverse xs) (reverse its)
  pairs_reverse pairs_none = pairs_none
  pairs_reverse (pairs_and {x = x} {it = it} {xs = xs} {its = its} v w more) =
      subst (λ (ys : List (WireId × WireId)). PairsBear ys (reverse (it ∷ its))) (sym (reverse_onto xs x []))
      (subst (λ (ys : List (Bool × List Bool)). PairsBear (reverse xs ++ x ∷ []) ys) (sym (reverse_onto its it [])) (pairs_push (pairs_reverse more) v w))

  pairs_zip : (w : ℕ) {tested : List WireId} {truths : List Bool} {results : List (List WireId)} {values : List (List Bool)} → HaveTruths net path h tested truths
      → BearAll net path h results values → AreWide (suc w) values → PairsBear (zip tested (map only results)) (zip truths values)
  pairs_zip w truths_none bear wide = pairs_none
  pairs_zip w (truths_and v have) all_none wide = pairs_none
  pairs_zip w (truths_and v have) (all_and b bear) wide = pairs_and v (value_of net path h b (omega (arith, wide.0))) (pairs_zip w have bear wide.1)

  choices_value : (w : ℕ) {xs : List (WireId × WireId)} {its : List (Bool × List Bool)} (other : WireId) (bits : List Bool) (at : ℕ) → PairsBear xs its
      → ValueIn net path h other.number bits → HasCells net path (choices (suc w) xs other at).cells
      → ValueIn net path h (choice_wire xs other at).number (settled its bits)
  choices_value w other bits at pairs_none v has = v
  choices_value w other bits at (pairs_and {x = x} {it = it} t u more) v has =
      choices_value w (wire at) (cond it.0 it.1 bits) (at + 1) more (mux_value net path h at x.0 x.1 other it.0 it.1 bits (has 0 _ refl) t u v) (λ i c e. has (suc i) c e)

  last_bears : {r : List WireId} {v : List Bool} {results : List (List WireId)} {values : List (List Bool)} → Bears net path h r v → BearAll net path h results values
      → Bears net path h (last_of (r ∷ results)) (last_value (v ∷ values))
  last_bears b all_none = b
  last_bears b (all_and c more) = last_bears c more

  -- with a result at least
  some_choice_bears : (width n k : ℕ) {r : List WireId} {v : List Bool} {tested : List WireId} {truths : List Bool} {results : List (List WireId)} {values : List (List Bool)}
      (bits : List Bool) → HaveTruths net path h tested truths → Bears net path h r v → BearAll net path h results values → AreWide width (v ∷ values)
      → slice_get (v ∷ values) k ≡ Some bits → IsTaken true truths (length (v ∷ values)) k → HasCells net path (chosen width tested (r ∷ results) n).cells
      → Bears net path h (chosen_wires width tested (r ∷ results) n) bits
  some_choice_bears width n k {r = r} {v = v} {results = results} {values = values} bits truths_none b bear wide at taken has =
      let last : last_value (v ∷ values) ≡ bits = choice_is [] (v ∷ values) k bits (last_value (v ∷ values)) refl at taken in
      subst (λ bs. Bears net path h (last_of (r ∷ results)) bs) last (last_bears b bear)
  some_choice_bears zero n k {v = v} {values = values} bits (truths_and t have) b bear wide at taken has =
      bears_at net path h 0 0 bits (value_wide 0 (v ∷ values) k bits wide at) (λ lt. absurd (omega arith))
  some_choice_bears (suc w) n k {r = r} {v = v} {results = results} {values = values} bits (truths_and {w = c} {wires = tested} {truth = truth} {truths = truths} t have) b bear wide at taken has =
      let pairs : List (WireId × WireId) = reverse (zip (c ∷ tested) (map only (r ∷ results))) in
      let other : WireId = only (last_of (r ∷ results)) in
      let p : Piece = choices (suc w) pairs other n in
      let some = zip_some c tested r results in
      let last : List Bool = last_value (v ∷ values) in
      let chosen_bits : settled (reverse (zip (truth ∷ truths) (v ∷ values))) last ≡ bits = choice_is (truth ∷ truths) (v ∷ values) k bits last refl at taken in
      let given : ValueIn net path h other.number last = value_of net path h (last_bears b bear) (omega (arith, last_wide (suc w) (v ∷ values) wide (omega arith))) in
      let value : ValueIn net path h (choice_wire pairs other n).number (settled (reverse (zip (truth ∷ truths) (v ∷ values))) last) =
      choices_value w other last n (pairs_reverse (pairs_zip w (truths_and t have) (all_and b bear) wide)) given has in
      let there : ValueIn net path h (n + some.0) bits =
      subst (λ m. ValueIn net path h m bits) (choice_place pairs other n some.0 some.1)
      (subst (λ bs. ValueIn net path h (choice_wire pairs other n).number bs) chosen_bits value) in
      let count : length p.widths ≡ suc some.0 = choice_count w pairs other n ∙ some.1 in
      let end : last_wires n p (suc w ∷ []) ≡ new_wires (n + some.0) (suc w ∷ []) = last_at n (n + some.0) (suc w) p (λ lt. omega arith) in
      subst (λ ws. Bears net path h ws bits) (sym end) (bears_at net path h (n + some.0) (suc w) bits (value_wide (suc w) (v ∷ values) k bits wide at) (λ lt. there))

  pub choice_bears : (width n k : ℕ) (tested : List WireId) (truths : List Bool) (results : List (List WireId)) (values : List (List Bool)) (bits : List Bool)
      → HaveTruths net path h tested truths → BearAll net path h results values → AreWide width values → slice_get values k ≡ Some bits
      → IsTaken true truths (length values) k → HasCells net path (chosen width tested results n).cells
      → Bears net path h (chosen_wires width tested results n) bits
  choice_bears width n k tested truths results values bits have all_none wide at taken has = absurd (cc)
  choice_bears width n k tested truths results values bits have (all_and b bear) wide at taken has = some_choice_bears width n k bits have b bear wide at taken has

  pub case_bears : (on : Tested) (alts : Alts) (width n k : ℕ) (p : Piece) (results : List (List WireId)) (values : List (List Bool)) (tested bits : List Bool)
      → Bears net path h on.wires tested → length tested ≡ on.bits → AreWide on.bits (words_of on.bits on.first alts)
      → BearAll net path h results values → AreWide width values → slice_get values k ≡ Some bits
      → IsTaken tested (words_of on.bits on.first alts) (length values) k
      → HasCells net path (case_cells on alts width n p results).cells
      → Bears net path h (case_wires on alts width n p results) bits
  case_bears on alts width n k p results values tested bits b size wide_words bear wide at taken has =
      let words : List (List Bool) = words_of on.bits on.first alts in
      let m : ℕ = after (after n on.cells) p in
      let q : Piece = tests on.bits on.wires words m in
      let wires : List WireId = test_wires on.bits on.wires words m in
      let r : Piece = chosen width wires results (after m q) in
      let rest : HasCells net path (q.cells ++ r.cells) =
      has_right net path h p.cells (q.cells ++ r.cells) (has_right net path h on.cells.cells (p.cells ++ (q.cells ++ r.cells)) has) in
      let told : TellWords net path h tested words wires = tests_bear on.bits m on.wires tested words b size wide_words (has_left net path h q.cells r.cells rest) in
      choice_bears width (after m q) k wires told.truths results values bits told.have bear wide at (taken_word (length values) k told.are taken)
      (has_right net path h q.cells r.cells rest)

  pub case_of_bears : (datas : List Data) (t : TypeTree) (whole : ℕ) (a : List WireId) (on : Tested) (alts : Alts) (width n k : ℕ) (p : Piece) (results : List (List WireId))
      (values : List (List Bool)) (tested behind bits : List Bool)
      → on ≡ tested_of datas t whole n a → Bears net path h a (tested ++ behind) → whole ≡ length (tested ++ behind) → length tested ≡ on.bits
      → AreWide on.bits (words_of on.bits on.first alts) → BearAll net path h results values → AreWide width values → slice_get values k ≡ Some bits
      → IsTaken tested (words_of on.bits on.first alts) (length values) k → HasCells net path (case_cells on alts width n p results).cells
      → Bears net path h (case_wires on alts width n p results) bits
  case_of_bears datas t whole a on alts width n k p results values tested behind bits is b reach size wide_words bear wide at taken has =
      let m : ℕ = after (after n on.cells) p in
      let words : List (List Bool) = words_of on.bits on.first alts in
      let q : Piece = tests on.bits on.wires words m in
      let r : Piece = chosen width (test_wires on.bits on.wires words m) results (after m q) in
      let own : HasCells net path on.cells.cells = has_left net path h on.cells.cells (p.cells ++ (q.cells ++ r.cells)) has in
      let wires : Bears net path h (tested_of datas t whole n a).wires tested =
      tested_bears datas t whole n a tested behind b reach (size ∙ ap (λ (on : Tested). on.bits) is)
      (subst (λ (on : Tested). HasCells net path on.cells.cells) is own) in
      case_bears on alts width n k p results values tested bits (subst (λ (on : Tested). Bears net path h on.wires tested) (sym is) wires) size wide_words bear wide at taken has
