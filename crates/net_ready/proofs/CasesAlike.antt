-- The cells and the result of a case, of which the alternatives have cells of the same widths.
use Rattle.std.proofs.Common.{◌≡◌, ℕ, ◌+◌, ◌-◌, Bool, List, [], ◌∷◌, ◌++◌, length, refl, sym, ap, ◌∙◌}
use Rattle.chw_base.specs.declared.index.WireId.{WireId}
use Rattle.chw_terms.specs.TermTree.{Alts}
use Rattle.net_built.specs.Data.{field_cuts, Tested, tests, test_wires, words_of, chosen, chosen_wires, case_cells, case_wires, last_of}
use Rattle.net_built.specs.Wires.{wires_from, wire_count, present, Piece, after}
use Rattle.net_built.proofs.ValueSizes.{test_count, tests_widths, chosen_widths, no_more}

pub cuts_widths : (ws : List ℕ) (below n m : ℕ) (a b : List WireId) → (field_cuts below a ws n).widths ≡ (field_cuts below b ws m).widths
cuts_widths [] below n m a b = refl
cuts_widths (w ∷ ws) below n m a b = λ i. present (w ∷ []) ++ cuts_widths ws (below - w) (n + length (present (w ∷ []))) (m + length (present (w ∷ []))) a b i

-- two cases that test alike
pub record TestAlike (on om : Tested) : Type 0 where
  pub bits : on.bits ≡ om.bits
  pub cells : on.cells.widths ≡ om.cells.widths
  pub first : on.first ≡ om.first

abbrev pub last_by : ℕ → List ℕ → List ℕ → List WireId
last_by n widths parts = wires_from (n + length widths - wire_count parts) (wire_count parts)

same_choice : (w : ℕ) (ts us : List WireId) (rs vs : List (List WireId)) (at bt : ℕ) → length ts ≡ length us → at ≡ bt → rs ≡ vs → chosen_wires w ts rs at ≡ chosen_wires w us vs bt
same_choice w [] [] rs vs at bt e f same = ap (λ (rs : List (List WireId)). last_of rs) same
same_choice w [] (u ∷ us) rs vs at bt e f same = no_more e
same_choice w (t ∷ ts) [] rs vs at bt e f same = no_more (sym e)
same_choice w (t ∷ ts) (u ∷ us) rs vs at bt e f same =
    let count : length rs ≡ length vs = ap (λ (rs : List (List WireId)). length rs) same in
    let widths : (chosen w (t ∷ ts) rs at).widths ≡ (chosen w (u ∷ us) vs bt).widths = chosen_widths w (t ∷ ts) (u ∷ us) rs vs at bt e count in
    λ i. last_by (f i) (widths i) (w ∷ [])

module _ (on om : Tested) (alts : Alts) (n : ℕ) (p q : Piece) (alike : TestAlike on om) (same : p.widths ≡ q.widths) where
  words : words_of on.bits on.first alts ≡ words_of om.bits om.first alts
  words = λ i. words_of (alike.bits i) (alike.first i) alts

  start : after (after n on.cells) p ≡ after (after n om.cells) q
  start = λ i. n + length (alike.cells i) + length (same i)

  abbrev on_tests : Piece
  on_tests = tests on.bits on.wires (words_of on.bits on.first alts) (after (after n on.cells) p)

  abbrev om_tests : Piece
  om_tests = tests om.bits om.wires (words_of om.bits om.first alts) (after (after n om.cells) q)

  tested : on_tests.widths ≡ om_tests.widths
  tested =
      tests_widths on.bits (words_of on.bits on.first alts) on.wires om.wires (after (after n on.cells) p) (after (after n om.cells) q)
      ∙ (λ i. (tests (alike.bits i) om.wires (words i) (after (after n om.cells) q)).widths)

  counts : length (test_wires on.bits on.wires (words_of on.bits on.first alts) (after (after n on.cells) p)) ≡ length (test_wires om.bits om.wires (words_of om.bits om.first alts) (after (after n om.cells) q))
  counts =
      test_count on.bits (words_of on.bits on.first alts) on.wires (after (after n on.cells) p) ∙ ap (λ (ws : List (List Bool)). length ws) words
      ∙ sym (test_count om.bits (words_of om.bits om.first alts) om.wires (after (after n om.cells) q))

  pub case_widths : (w : ℕ) (rs vs : List (List WireId)) → length rs ≡ length vs → (case_cells on alts w n p rs).widths ≡ (case_cells om alts w n q vs).widths
  case_widths w rs vs count =
      λ i. alike.cells i ++ (same i ++ (tested i
      ++ chosen_widths w (test_wires on.bits on.wires (words_of on.bits on.first alts) (after (after n on.cells) p)) (test_wires om.bits om.wires (words_of om.bits om.first alts) (after (after n om.cells) q)) rs vs
      (after (after (after n on.cells) p) on_tests) (after (after (after n om.cells) q) om_tests) counts count i))

  pub case_results : (w : ℕ) (rs vs : List (List WireId)) → rs ≡ vs → case_wires on alts w n p rs ≡ case_wires om alts w n q vs
  case_results w rs vs results =
      same_choice w (test_wires on.bits on.wires (words_of on.bits on.first alts) (after (after n on.cells) p)) (test_wires om.bits om.wires (words_of om.bits om.first alts) (after (after n om.cells) q)) rs vs
      (after (after (after n on.cells) p) on_tests) (after (after (after n om.cells) q) om_tests) counts (λ i. start i + length (tested i)) results
