-- In a case of several alternatives the wires of each result are as wide as the case, so they have bits.
use Rattle.std.specs.List.{AllByRecursion}
use Rattle.std.proofs.Common.{Bool, List, Some, [], ap, arith, inl, inr, length, map, refl, reverse, subst, suc, take, zero, zip, ℕ, ◌++◌, ◌+◌, ◌<◌, ◌∙◌, ◌∷◌, ◌≡◌, ◌≤◌, ◌⊎◌}
use Rattle.std.proofs.lemmas.Bool.{cases_lt}
use Rattle.std.specs.Prelude.{slice_get}
use Rattle.net_built.specs.Words.{only}
use Rattle.net_rules.specs.declared.well_formed.NetCode.TheVariants.{Width}
use Rattle.net_grounds.specs.Facts.{Facts}
use Rattle.net_means.proofs.Lists.{reverse_cons, same_some}
use Rattle.net_means.proofs.NetBits.FlatWires.{one_module}
use Rattle.chw_typing.specs.Typing.{AllGive, give_and, none_give}
use Rattle.chw_terms.specs.TermTree.{Alts, TermTree, alt, no_alts}
use Rattle.net_built.specs.Bodies.{AltsBuilt, alts_and, alts_none}
use Rattle.cell_bits.specs.ChoiceLaws.{AreWide}
use Rattle.cell_bits.specs.DataLaws.{BearAll, all_and, all_none}
use Rattle.cell_bits.specs.Bearing.{Bears, HasCells, bears_bits, bears_nothing}
use Rattle.net_means.proofs.NetFits.Scopes.{Fits, SizedAt, onto_sized}
use Rattle.use_laws.specs.ValueIn.{HasCellAt, HasWidthAt, ValueIn}
use Rattle.chw_typing.specs.Scopes.{HasKind, Setting}
use Rattle.net_built.specs.Loops.{HasNoLoopsIn}
use Rattle.chw_layout.specs.Measured.{HasWidth}
use Rattle.net_means.specs.CircuitBits.Memories.{HasWidths}
use Rattle.chw_meaning.specs.Values.{History}
use Rattle.chw_typing.specs.Programs.{IsSound}
use Rattle.chw_types.specs.declared.kind.Kind.{Kind}
use Rattle.netlist.specs.declared.net.Module.{Module}
use Rattle.netlist.specs.declared.net.Cell.TheVariants.{Mux}
use Rattle.netlist.specs.declared.net.Net.{Net}
use Rattle.chw_terms.specs.declared.term.Pattern.{Pattern}
use Rattle.net_built.specs.Wires.{Piece, after, wire, wire_count, ◌▸◌}
use Rattle.layout_laws.specs.SameLayout.{SameKeepsMeasure}
use Rattle.chw_types.specs.SameTypes.{SameTypes}
use Rattle.net_built.specs.Data.{Tested, case_cells, choices, chosen, last_of, test_wires, tests, variables_from, words_of}
use Rattle.chw_types.specs.TypeTree.{TypeTree}
use Rattle.net_built.specs.Terms.{Variable}
use Rattle.net_rules.specs.WellFormed.{WellFormed, WidthsAgree, WidthsHold}
use Rattle.chw_base.specs.declared.index.WireId.{WireId}
use Rattle.net_means.proofs.NetBits.SomeBits.{WiresHave}
use Rattle.net_means.proofs.NetFits.ValueDrivers.{alternative, block_sized}
use Rattle.net_means.specs.SideBits.Cases.{alts_count}
use Rattle.net_means.proofs.NetBits.Used.{each_at, module_number}
use Rattle.net_means.proofs.NetBits.Standing.{formed}
use Rattle.net_means.proofs.NetBits.There.{found_at, found_within}
use Rattle.net_means.proofs.NetBits.Insides.{found_first, found_rest, piece_rest, widths_rest}
use Rattle.net_means.specs.NetFits.Laws.{ground_over}

-- what stands in a list stands in it from behind
in_reverse : {A : Type 0} (xs : List A) (i : ℕ) (x : A) → slice_get xs i ≡ Some x → (j : ℕ) × (slice_get (reverse xs) j ≡ Some x)
in_reverse [] i x e = absurd cc
in_reverse (y ∷ xs) zero x e =
    (length (reverse xs) + 0, ap (λ ys. slice_get ys (length (reverse xs) + 0)) (reverse_cons y xs) ∙ found_rest (reverse xs) (y ∷ []) 0 ∙ e)
in_reverse (y ∷ xs) (suc i) x e =
    let rest = in_reverse xs i x e in
    (rest.0, ap (λ ys. slice_get ys rest.0) (reverse_cons y xs) ∙ found_first (reverse xs) (y ∷ []) rest.0 x rest.1)

beside : {A B : Type 0} (xs : List A) (ys : List B) (i : ℕ) (y : B) → i < length xs → slice_get ys i ≡ Some y → (x : A) × (slice_get (zip xs ys) i ≡ Some (x, y))
beside [] ys i y l e = absurd (omega (arith, l))
beside (a ∷ xs) [] i y l e = absurd cc
beside (a ∷ xs) (b ∷ ys) zero y l e = let is : b ≡ y = cc in (a, ap (λ y. Some (a, y)) is)
beside (a ∷ xs) (b ∷ ys) (suc i) y l e = beside xs ys i y (omega (arith, l)) e

result_there : (results : List (List WireId)) (k : ℕ) (r : List WireId) → slice_get results k ≡ Some r → slice_get (map only results) k ≡ Some (only r)
result_there [] k r e = absurd cc
result_there (s ∷ results) zero r e = let is : s ≡ r = cc in ap (λ ws. Some (only ws)) is
result_there (s ∷ results) (suc k) r e = result_there results k r e

last_there : (results : List (List WireId)) (k : ℕ) (r : List WireId) → slice_get results k ≡ Some r → suc k ≡ length results → last_of results ≡ r
last_there [] k r e l = absurd cc
last_there (s ∷ []) zero r e l = cc
last_there (s ∷ []) (suc k) r e l = absurd cc
last_there (s ∷ u ∷ more) zero r e l = absurd (omega (arith, l))
last_there (s ∷ u ∷ more) (suc k) r e l = last_there (u ∷ more) k r e (omega (arith, l))

pub words_count : (tag first : ℕ) (q : Pattern) (e : TermTree) (more : Alts) → length (words_of tag first (alt q e more)) ≡ alts_count more
words_count tag first q e no_alts = refl
words_count tag first q e (alt r f more) = ap suc (words_count tag first r f more)

module _ (facts : Facts) (net : Net) (path : List ℕ) (good : WellFormed net) where
  -- of a multiplexer both inputs are as wide as its wire
  mux_wide : (at w : ℕ) (c a b : WireId) → HasCellAt net path (Mux (wire at) c a b) → HasWidthAt net path (wire at) w → HasWidthAt net path a w × HasWidthAt net path b w
  mux_wide at w c a b cell wide =
      let n = module_number net cell.at in
      let hold : WidthsHold net n.0 cell.m = good.rules n.0 cell.m n.1 Width in
      let agrees : WidthsAgree (take n.0 net.modules) cell.m.widths (Mux (wire at) c a b) = each_at (WidthsAgree (take n.0 net.modules) cell.m.widths) cell.m.cells cell.place (Mux (wire at) c a b) hold.cells cell.stands in
      let same : wide.m ≡ cell.m = one_module net path wide.m cell.m wide.at cell.at in
      let own : slice_get cell.m.widths at ≡ Some w = subst (λ (m : Module). slice_get m.widths at ≡ Some w) same wide.wide in
      let size : agrees.1.0 ≡ w = same_some agrees.1.1 own in
      (record { m = cell.m; at = cell.at; wide = agrees.1.2 ∙ ap (λ k. Some k) size }, record { m = cell.m; at = cell.at; wide = agrees.1.3 ∙ ap (λ k. Some k) size })

  choices_wide : (w : ℕ) (pairs : List (WireId × WireId)) (other : WireId) (at : ℕ) → HasCells net path (choices (suc w) pairs other at).cells → HasWidths net path at (choices (suc w) pairs other at).widths
      → AllByRecursion (λ (x : WireId × WireId). HasWidthAt net path x.1 (suc w)) pairs × (0 < length pairs → HasWidthAt net path other (suc w))
  choices_wide w [] other at has wide = (tt, λ l. absurd (omega (arith, l)))
  choices_wide w (x ∷ pairs) other at has wide =
      let place : at + 0 ≡ at = omega arith in
      let own : HasWidthAt net path (wire at) (suc w) = subst (λ k. HasWidthAt net path (wire k) (suc w)) place (wide 0 (suc w) refl) in
      let both = mux_wide at (suc w) x.0 x.1 other (has 0 (Mux (wire at) x.0 x.1 other) refl) own in
      let rest = choices_wide w pairs (wire at) (at + 1) (λ i c e. has (suc i) c e)
      (λ i v e. let next : at + suc i ≡ at + 1 + i = omega arith in subst (λ k. HasWidthAt net path (wire k) v) next (wide (suc i) v e)) in
      ((both.0, rest.0), λ l. both.1)

  chosen_wide : (w at k : ℕ) (tested : List WireId) (results : List (List WireId)) (r : List WireId) → HasCells net path (chosen (suc w) tested results at).cells → HasWidths net path at (chosen (suc w) tested results at).widths
      → suc (length tested) ≡ length results → 0 < length tested → slice_get results k ≡ Some r → HasWidthAt net path (only r) (suc w)
  chosen_wide w at k tested results r has wide many some e = by (cases_lt k (length tested))
    where
      pairs : List (WireId × WireId)
      pairs = zip tested (map only results)

      all : AllByRecursion (λ (x : WireId × WireId). HasWidthAt net path x.1 (suc w)) (reverse pairs) × (0 < length (reverse pairs) → HasWidthAt net path (only (last_of results)) (suc w))
      all = choices_wide w (reverse pairs) (only (last_of results)) at has wide

      there : 0 < length (reverse pairs)
      there =
          let first = found_at results 0 (omega (arith, many)) in
          let pair = beside tested (map only results) 0 (only first.0) some (result_there results 0 first.0 first.1) in
          let back = in_reverse pairs 0 (pair.0, only first.0) pair.1 in
          let l = found_within (reverse pairs) back.0 (pair.0, only first.0) back.1 in
          omega (arith, l)

      by : (k < length tested) ⊎ (length tested ≤ k) → HasWidthAt net path (only r) (suc w)
      by (inl l) =
          let pair = beside tested (map only results) k (only r) l (result_there results k r e) in
          let back = in_reverse pairs k (pair.0, only r) pair.1 in
          each_at (λ (x : WireId × WireId). HasWidthAt net path x.1 (suc w)) (reverse pairs) back.0 (pair.0, only r) all.0 back.1
      by (inr l) =
          let within = found_within results k r e in
          let last : last_of results ≡ r = last_there results k r e (omega (arith, l, within, many)) in
          subst (λ ws. HasWidthAt net path (only ws) (suc w)) last (all.1 there)

  -- so it is in the cells of a case
  pub case_wide : (on : Tested) (q : Pattern) (e : TermTree) (more : Alts) (w n k : ℕ) (p : Piece) (results : List (List WireId)) (r : List WireId) → HasCells net path (case_cells on (alt q e more) (suc w) n p results).cells → HasWidths net path n (case_cells on (alt q e more) (suc w) n p results).widths
      → 0 < alts_count more → length results ≡ suc (alts_count more) → slice_get results k ≡ Some r → HasWidthAt net path (only r) (suc w)
  case_wide on q e more w n k p results r has wide some many there =
      let words : List (List Bool) = words_of on.bits on.first (alt q e more) in
      let m : ℕ = after (after n on.cells) p in
      let tested : Piece = tests on.bits on.wires words m in
      let wires : List WireId = test_wires on.bits on.wires words m in
      let c : Piece = chosen (suc w) wires results (after m tested) in
      let has1 = piece_rest net path on.cells (p ▸ tested ▸ c) has in
      let has2 = piece_rest net path p (tested ▸ c) has1 in
      let has3 = piece_rest net path tested c has2 in
      let wide1 = widths_rest net path n on.cells (p ▸ tested ▸ c) wide in
      let wide2 = widths_rest net path (after n on.cells) p (tested ▸ c) wide1 in
      let wide3 = widths_rest net path m tested c wide2 in
      let one = facts.built.test_count on.bits words on.wires m in
      let two = words_count on.bits on.first q e more in
      chosen_wide w (after m tested) k wires results r has3 wide3 (omega (arith, one, two, many)) (omega (arith, one, two, some)) there

-- results that are as wide have bits
pub all_bear : (net : Net) (path : List ℕ) (h : History) (w : ℕ) (results : List (List WireId)) → WiresHave net h
    → ((k : ℕ) (r : List WireId) → slice_get results k ≡ Some r → (length r ≡ wire_count (w ∷ [])) × ((v : ℕ) → w ≡ suc v → HasWidthAt net path (only r) w))
    → (values : List (List Bool)) × BearAll net path h results values × AreWide w values × (length values ≡ length results)
all_bear net path h w [] have each = ([], all_none, tt, refl)
all_bear net path h w (r ∷ results) have each =
    let rest = all_bear net path h w results have (λ k s e. each (suc k) s e) in
    let one = by w r (each 0 r refl) in
    (one.0 ∷ rest.0, all_and one.1 rest.1, (one.2, rest.2), ap suc rest.3)
  where
    of_wire : (w : ℕ) (a : WireId) → (bits : List Bool) × ValueIn net path h a.number bits × (length bits ≡ suc w) → (bits : List Bool) × Bears net path h (a ∷ []) bits × (length bits ≡ suc w)
    of_wire w a ([], value, size) = absurd (omega (arith, size))
    of_wire w a (b ∷ bits, value, size) = (b ∷ bits, bears_bits value, size)

    by : (w : ℕ) (r : List WireId) → (length r ≡ wire_count (w ∷ [])) × ((v : ℕ) → w ≡ suc v → HasWidthAt net path (only r) w) → (bits : List Bool) × Bears net path h r bits × (length bits ≡ w)
    by zero [] of = ([], bears_nothing, refl)
    by zero (a ∷ r) of = let many = of.0 in absurd (omega (arith, many))
    by (suc w) [] of = let many = of.0 in absurd (omega (arith, many))
    by (suc w) (a ∷ []) of = of_wire w a (have path a (suc w) (of.1 w refl))
    by (suc w) (a ∷ b ∷ r) of = let many = of.0 in absurd (omega (arith, many))

-- each result has as many wires as the width of the case asks for
pub alts_counted : Facts → (law : SameKeepsMeasure) (s : Setting) (order : List ℕ) → IsSound s → {scope : List Variable} {vars : List TypeTree} {it : Variable} {below n : ℕ} {alts : Alts} {p : Piece} {results : List (List WireId)} {u v : TypeTree} {j : Kind} → AltsBuilt (ground_over s order) scope it below n alts p results → AllGive s [] vars u v alts → HasKind s [] u j → SameTypes u it.ty → Fits vars scope
    → ((y : ℕ) → SizedAt s scope y) → HasNoLoopsIn alts → (t : TypeTree) (k : Kind) (w : ℕ) → HasKind s [] t k → SameTypes t v → HasWidth s.datas t w → (i : ℕ) (r : List WireId) → slice_get results i ≡ Some r → length r ≡ wire_count (w ∷ [])
alts_counted facts law s order sound alts_none none_give of_kind of fit sized free t k w kind same has i r e = absurd cc
alts_counted facts law s order sound {scope} {vars} {it} {n = n} {u = u} {j = j} (alts_and {q = q} {fields = fs} {wires = wires} ws formed have is block more) (give_and {bound = bnd} b typed along others) of_kind of fit sized free t k w kind same has zero r e =
    let front : List Variable = variables_from n fs ws in
    let a = alternative facts s vars bnd fs scope q u it.ty j n ws sound fit of_kind of b formed have in
    let within : (y : ℕ) → SizedAt s (reverse front ++ scope) y = λ y. onto_sized s front scope y (λ k h. a.sized k) (λ z h. sized z) in
    let is_first : wires ≡ r = cc in
    subst (λ (ws : List WireId). length ws ≡ wire_count (w ∷ [])) is_first (block_sized facts law s order sound block typed a.fit (λ y o. within y) free.0 t k w kind (facts.same.same_through same along) has)
alts_counted facts law s order sound (alts_and ws formed have is block more) (give_and b typed along others) of_kind of fit sized free t k w kind same has (suc i) r e =
    alts_counted facts law s order sound more others of_kind of fit sized free.1 t k w kind same has i r e
