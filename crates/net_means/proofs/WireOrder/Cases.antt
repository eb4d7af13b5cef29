-- Cases: their wires settle by those of each result, and by those of what is tested.
use Rattle.std.specs.Prelude.{◌-◌}
use Rattle.std.proofs.Common.{◌≡◌, ◌<◌, ◌≤◌, ℕ, zero, suc, Bool, List, [], ◌∷◌, ◌++◌, length, Some, slice_get, inl, inr, refl, sym, ap, subst, arith}
use Rattle.std.proofs.lemmas.Bool.{cases_lt}
use Rattle.std.proofs.lemmas.Option.{slice_get_within, slice_get-get_or}
use Rattle.chw_base.specs.declared.index.WireId.{WireId}
use Rattle.chw_types.specs.declared.declarations.Data.{Data}
use Rattle.chw_types.specs.TypeTree.{TypeTree, data_of}
use Rattle.chw_terms.specs.TermTree.{Alts, no_alts, alt}
use Rattle.chw_layout.specs.Measured.{tag_width}
use Rattle.netlist.specs.declared.net.Cell.TheVariants.{Cut}
use Rattle.netlist.specs.declared.net.Net.{Net}
use Rattle.net_built.specs.Data.{Tested, constructor_count, tested_of, words_of, test, tests, test_wires, chosen, chosen_wires, case_cells, case_wires, field_cuts, variables_from}
use Rattle.net_built.specs.Terms.{Variable, variable}
use Rattle.net_built.specs.Wires.{wire, new_wires, Piece, one, after, last_wire, last_wires}
use Rattle.net_built.specs.Words.{only}
use Rattle.cell_bits.specs.Bearing.{HasCells}
use Rattle.net_means.specs.SideBits.Cases.{alts_count}
use Rattle.net_means.specs.WireOrder.Awaits.{AllSettle, by_more}
use Rattle.net_means.proofs.WireOrder.Choices.{last_there, chosen_pair, chosen_last, test_ends}
use Rattle.net_means.proofs.WireOrder.Reached.{front_cells, back_cells, Held, only_is, read_only, Meets, Ends, one_meets, last_settle}

-- as many words as alternatives but the last
words_count : (tag first : ℕ) (alts : Alts) → 0 < alts_count alts → suc (length (words_of tag first alts)) ≡ alts_count alts
words_count tag first no_alts l = absurd (omega (arith, l))
words_count tag first (alt q e no_alts) l = refl
words_count tag first (alt q e (alt r f more)) l = ap (λ n. suc n) (words_count tag first (alt r f more) (omega arith))

tests_count : (k : ℕ) (a : List WireId) (words : List (List Bool)) (at : ℕ) → length (test_wires k a words at) ≡ length words
tests_count k a [] at = refl
tests_count k a (word ∷ words) at = ap (λ n. suc n) (tests_count k a words (after at (test k a word at)))

pub one_result : (on : Tested) (alts : Alts) (w n : ℕ) (p : Piece) (wires : List WireId) → alts_count alts ≡ 1 → case_wires on alts w n p (wires ∷ []) ≡ wires
one_result on no_alts w n p wires e = absurd cc
one_result on (alt q e no_alts) w n p wires f = refl
one_result on (alt q e (alt r f more)) w n p wires g = absurd (omega (arith, g))

module _ (net : Net) (path : List ℕ) where
  -- the last choice settles by each result
  chosen_ends : (w at k j : ℕ) (tested : List WireId) (results : List (List WireId)) (r : List WireId) (v : WireId) → 0 < w → 0 < length tested → length results ≡ suc (length tested) → slice_get results k ≡ Some r → Held r w → slice_get r j ≡ Some v
      → HasCells net path (chosen w tested results at).cells → Ends net path at (chosen w tested results at) v
  chosen_ends zero at k j tested results r v some more size e h f has = absurd (omega (arith, some))
  chosen_ends (suc w) at k j [] results r v some more size e h f has = absurd (omega (arith, more))
  chosen_ends (suc w) at k j (t ∷ tested) [] r v some more size e h f has = absurd (omega (arith, size))
  chosen_ends (suc w) at k j (t ∷ tested) (s ∷ results) r v some more size e h f has =
      let is : only r ≡ v = (only_is r (suc w) j v h f).0 in
      let within = slice_get_within (s ∷ results) k r e in
      subst (λ u. Ends net path at (chosen (suc w) (t ∷ tested) (s ∷ results) at) u) is
      (elim (cases_lt k (length (t ∷ tested))) [
        | inl l ↦ (chosen_pair net path w (t ∷ tested) (s ∷ results) k at _ r (slice_get-get_or (t ∷ tested) k t l) e has).1
        | inr l ↦
            let last : suc k ≡ length (s ∷ results) = omega (arith, l, within, size) in
            subst (λ ws. Ends net path at (chosen (suc w) (t ∷ tested) (s ∷ results) at) (only ws)) (last_there (s ∷ results) k r e last) (chosen_last net path w t tested s results at has)
      ])

  -- of several words
  results_of_words : (on : Tested) (w n k : ℕ) (p : Piece) (results : List (List WireId)) (r : List WireId) (words : List (List Bool)) → 0 < length words → length results ≡ suc (length words) → slice_get results k ≡ Some r → Held r w
      → let m : ℕ = after (after n on.cells) p in let q : Piece = tests on.bits on.wires words m in
      HasCells net path (chosen w (test_wires on.bits on.wires words m) results (after m q)).cells
      → AllSettle net path (last_wires (after m q) (chosen w (test_wires on.bits on.wires words m) results (after m q)) (w ∷ [])) path r
  results_of_words on w n k p results r words more size e h has =
      let m : ℕ = after (after n on.cells) p in
      let q : Piece = tests on.bits on.wires words m in
      let tested : List WireId = test_wires on.bits on.wires words m in
      let count : length tested ≡ length words = tests_count on.bits on.wires words m in
      last_settle net path (after m q) w (chosen w tested results (after m q)) r
      (λ some j v f. chosen_ends w (after m q) k j tested results r v some (omega (arith, count, more)) (omega (arith, count, size)) e h f has)

  choice_wires : (w k at : ℕ) (a : List WireId) (results : List (List WireId)) (words : List (List Bool)) (m : ℕ) → 0 < length words
      → chosen_wires w (test_wires k a words m) results at ≡ last_wires at (chosen w (test_wires k a words m) results at) (w ∷ [])
  choice_wires w k at a results [] m more = absurd (omega (arith, more))
  choice_wires w k at a results (word ∷ words) m more = refl

  -- the cells of the tests and of the choice
  tests_there : (on : Tested) (alts : Alts) (w n : ℕ) (p : Piece) (results : List (List WireId)) → HasCells net path (case_cells on alts w n p results).cells
      → let words : List (List Bool) = words_of on.bits on.first alts in let m : ℕ = after (after n on.cells) p in let q : Piece = tests on.bits on.wires words m in
      HasCells net path (q.cells ++ (chosen w (test_wires on.bits on.wires words m) results (after m q)).cells)
  tests_there on alts w n p results has =
      let words : List (List Bool) = words_of on.bits on.first alts in
      let m : ℕ = after (after n on.cells) p in
      let q : Piece = tests on.bits on.wires words m in
      let r : Piece = chosen w (test_wires on.bits on.wires words m) results (after m q) in
      back_cells net path p.cells (q.cells ++ r.cells) (back_cells net path on.cells.cells (p.cells ++ (q.cells ++ r.cells)) has)

  pub results_settle : (on : Tested) (alts : Alts) (w n k : ℕ) (p : Piece) (results : List (List WireId)) (wires : List WireId) → HasCells net path (case_cells on alts w n p results).cells → 2 ≤ alts_count alts → length results ≡ alts_count alts → slice_get results k ≡ Some wires → Held wires w
      → AllSettle net path (case_wires on alts w n p results) path wires
  results_settle on alts w n k p results wires has several count e h =
      let words : List (List Bool) = words_of on.bits on.first alts in
      let m : ℕ = after (after n on.cells) p in
      let q : Piece = tests on.bits on.wires words m in
      let r : Piece = chosen w (test_wires on.bits on.wires words m) results (after m q) in
      let many = words_count on.bits on.first alts (omega (arith, several)) in
      let more : 0 < length words = omega (arith, many, several) in
      subst (λ ws. AllSettle net path ws path wires) (sym (choice_wires w on.bits (after m q) on.wires results words m more))
      (results_of_words on w n k p results wires words more (omega (arith, count, many)) e h (back_cells net path q.cells r.cells (tests_there on alts w n p results has)))

  -- the test of a wire's first bits, or of all
  cut_meets : (tag whole n at j high low : ℕ) (a : List WireId) (word : List Bool) (v : WireId) → 0 < tag → Held a whole → slice_get a j ≡ Some v → HasCells net path (one tag (Cut (wire n) (only a) high low)).cells → HasCells net path (test tag (new_wires n (tag ∷ [])) word at).cells
      → Meets net path (last_wire at (test tag (new_wires n (tag ∷ [])) word at)).number v.number
  cut_meets zero whole n at j high low a word v some h e own has = absurd (omega (arith, some))
  cut_meets (suc tag) whole n at j high low a word v some h e own has =
      by_more (test_ends net path (suc tag) (suc tag) 0 at (wire n ∷ []) word (wire n) some refl refl has)
      (one_meets net path (suc tag) n 0 (Cut (wire n) (only a) high low) v some tt refl (read_only a whole j v h e) own)

  tested_meets : (datas : List Data) (u : TypeTree) (whole n at j : ℕ) (a : List WireId) (word : List Bool) (v : WireId) → let on : Tested = tested_of datas u whole n a in
      0 < on.bits → Held a whole → slice_get a j ≡ Some v → HasCells net path on.cells.cells → HasCells net path (test on.bits on.wires word at).cells → Meets net path (last_wire at (test on.bits on.wires word at)).number v.number
  tested_meets datas (data_of d ts) whole n at j a word v some h e own has =
      let tag : ℕ = tag_width (constructor_count datas d) in
      cut_meets tag whole n at j (whole - 1) (whole - tag) a word v some h e own has
  tested_meets datas _ whole n at j a word v some h e own has = test_ends net path whole whole j at a word v some h e has

  -- of several words the first is tested last
  tested_of_words : (on : Tested) (w m : ℕ) (results : List (List WireId)) (words : List (List Bool)) (v : WireId) → 0 < length words → length results ≡ suc (length words)
      → ((word : List Bool) → HasCells net path (test on.bits on.wires word m).cells → Meets net path (last_wire m (test on.bits on.wires word m)).number v.number)
      → let q : Piece = tests on.bits on.wires words m in let r : Piece = chosen w (test_wires on.bits on.wires words m) results (after m q) in
      HasCells net path (q.cells ++ r.cells) → 0 < w → Ends net path (after m q) r v
  tested_of_words on w m results [] v more size f has some = absurd (omega (arith, more))
  tested_of_words on zero m results (word ∷ words) v more size f has some = absurd (omega (arith, some))
  tested_of_words on (suc w) m [] (word ∷ words) v more size f has some = absurd (omega (arith, size))
  tested_of_words on (suc w) m (s ∷ results) (word ∷ words) v more size f has some =
      let t : Piece = test on.bits on.wires word m in
      let others : Piece = tests on.bits on.wires words (after m t) in
      let q : Piece = tests on.bits on.wires (word ∷ words) m in
      let tested : List WireId = test_wires on.bits on.wires (word ∷ words) m in
      let r : Piece = chosen (suc w) tested (s ∷ results) (after m q) in
      let own : HasCells net path t.cells = front_cells net path t.cells others.cells (front_cells net path q.cells r.cells has) in
      by_more (chosen_pair net path w tested (s ∷ results) 0 (after m q) (last_wire m t) s refl refl (back_cells net path q.cells r.cells has)).0 (f word own)

  pub tested_settle : (datas : List Data) (u : TypeTree) (whole : ℕ) (wires : List WireId) (on : Tested) (alts : Alts) (w n : ℕ) (p : Piece) (results : List (List WireId)) → on ≡ tested_of datas u whole n wires → Held wires whole
      → HasCells net path (case_cells on alts w n p results).cells → 2 ≤ alts_count alts → length results ≡ alts_count alts → 0 < on.bits → AllSettle net path (case_wires on alts w n p results) path wires
  tested_settle datas u whole wires on alts w n p results is h has several count some =
      let words : List (List Bool) = words_of on.bits on.first alts in
      let m : ℕ = after (after n on.cells) p in
      let q : Piece = tests on.bits on.wires words m in
      let r : Piece = chosen w (test_wires on.bits on.wires words m) results (after m q) in
      let many = words_count on.bits on.first alts (omega (arith, several)) in
      let more : 0 < length words = omega (arith, many, several) in
      let own : HasCells net path on.cells.cells = front_cells net path on.cells.cells (p.cells ++ (q.cells ++ r.cells)) has in
      let meets : (j : ℕ) (v : WireId) → slice_get wires j ≡ Some v → (word : List Bool) → HasCells net path (test on.bits on.wires word m).cells → Meets net path (last_wire m (test on.bits on.wires word m)).number v.number =
      subst (λ (on : Tested). HasCells net path on.cells.cells → 0 < on.bits → (j : ℕ) (v : WireId) → slice_get wires j ≡ Some v → (word : List Bool) → HasCells net path (test on.bits on.wires word m).cells → Meets net path (last_wire m (test on.bits on.wires word m)).number v.number) (sym is)
      (λ own some j v e word has. tested_meets datas u whole n m j wires word v some h e own has) own some in
      subst (λ ws. AllSettle net path ws path wires) (sym (choice_wires w on.bits (after m q) on.wires results words m more))
      (last_settle net path (after m q) w r wires
      (λ wide j v e. tested_of_words on w m results words v more (omega (arith, count, many)) (meets j v e) (tests_there on alts w n p results has) wide))

  -- fields that are cut out
  field_settles : (n whole w high low : ℕ) (a : List WireId) → Held a whole → HasCells net path (one w (Cut (wire n) (only a) high low)).cells → AllSettle net path (new_wires n (w ∷ [])) path a
  field_settles n whole zero high low a h has i j x v e f = absurd cc
  field_settles n whole (suc w) high low a h has zero j x v e f =
      let is : wire n ≡ x = cc in
      let number : n ≡ x.number = ap (λ (x : WireId). x.number) is in
      subst (λ k. Meets net path k v.number) number (one_meets net path (suc w) n 0 (Cut (wire n) (only a) high low) v (omega arith) tt refl (read_only a whole j v h f) has)
  field_settles n whole (suc w) high low a h has (suc i) j x v e f = absurd cc

  pub fields_settle : (below whole n y : ℕ) (a : List WireId) (fields : List TypeTree) (widths : List ℕ) (v : Variable) → HasCells net path (field_cuts below a widths n).cells → Held a whole → slice_get (variables_from n fields widths) y ≡ Some v → AllSettle net path v.wires path a
  fields_settle below whole n y a [] widths v has h e = absurd cc
  fields_settle below whole n y a (t ∷ ts) [] v has h e = absurd cc
  fields_settle below whole n zero a (t ∷ ts) (w ∷ widths) v has h e =
      let p : Piece = one w (Cut (wire n) (only a) (below - 1) (below - w)) in
      let rest : Piece = field_cuts (below - w) a widths (after n p) in
      let is : variable t (new_wires n (w ∷ [])) ≡ v = cc in
      let wires : new_wires n (w ∷ []) ≡ v.wires = ap (λ (v : Variable). v.wires) is in
      subst (λ (ws : List WireId). AllSettle net path ws path a) wires (field_settles n whole w (below - 1) (below - w) a h (front_cells net path p.cells rest.cells has))
  fields_settle below whole n (suc y) a (t ∷ ts) (w ∷ widths) v has h e =
      let p : Piece = one w (Cut (wire n) (only a) (below - 1) (below - w)) in
      let rest : Piece = field_cuts (below - w) a widths (after n p) in
      fields_settle (below - w) whole (after n p) y a ts widths v (back_cells net path p.cells rest.cells has) h e
