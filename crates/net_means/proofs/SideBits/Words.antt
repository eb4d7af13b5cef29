-- Primitives on words as right sides.
use Rattle.std.specs.Prelude.{slice_index}
use Rattle.std.proofs.Common.{◌≡◌, ◌≤◌, ◌<◌, ◌^◌, ℕ, zero, suc, ◌+◌, Bool, List, [], ◌∷◌, ◌++◌, length, map, get_or, Some, refl, sym, ◌∙◌, subst, arith}
use Rattle.chw_base.specs.declared.limits.TheConstants.{DATA_BITS, SCALAR_BITS}
use Rattle.chw_clock.specs.declared.event.Event.{Event}
use Rattle.chw_types.specs.declared.declarations.Data.{Data}
use Rattle.chw_types.specs.declared.kind.Scalar.{Scalar}
use Rattle.chw_types.specs.Arguments.{arguments}
use Rattle.chw_types.specs.BuiltIn.{built_in}
use Rattle.chw_types.specs.SamePromises.{SameValues}
use Rattle.chw_types.specs.TypeMoves.{sub}
use Rattle.chw_types.specs.TypeTree.{TypeTree, TypeTrees, scalar}
use Rattle.chw_types.specs.TypeView.{trees_of}
use Rattle.type_laws.specs.SameKept.{FieldsKeepSame}
use Rattle.chw_prims.specs.declared.prim.Primitive.{Primitive as Prim}
use Rattle.chw_prims.specs.declared.prim.Primitive.TheVariants.{VAt}
use Rattle.chw_prims.specs.declared.row.Row.{Row}
use Rattle.chw_prims.specs.Schemas.{row_of, schema_type}
use Rattle.prim_bits.specs.Values.{value_of, result_of as word_result}
use Rattle.prim_bits.specs.Widths.{width_of}
use Rattle.chw_terms.specs.declared.program.Program.{Program}
use Rattle.chw_terms.specs.TermTree.{TermTree, prim}
use Rattle.rewriting.specs.Origins.{Origins, setting_at}
use Rattle.rewriting.specs.Spots.{asked_for, IsOnWords}
use Rattle.normal_forms.specs.Values.{on_names}
use Rattle.chw_layout.specs.Measured.{closed_value, HasWidth}
use Rattle.chw_meaning.specs.Values.{History, Thunk, closed, Thunks}
use Rattle.carrying.specs.Carrying.{Shows, shows_nothing, shows_bits, Carries}
use Rattle.carrying.specs.TermLaws.{each_closed}
use Rattle.carrying.specs.WordLaws.{numbers_of, ShowWords, show_no_word, show_word}
use Rattle.netlist.specs.declared.net.Net.{Net}
use Rattle.net_built.specs.Bodies.{ValueCells, value_primitive, value_element, value_element_at, operand_at}
use Rattle.net_built.specs.Circuits.{Ground as Built}
use Rattle.net_built.specs.Terms.{Variable}
use Rattle.net_built.specs.Wires.{Piece, last_wires}
use Rattle.net_built.specs.Words.{word_cells}
use Rattle.cell_bits.specs.Bearing.{HasCells, Bears}
use Rattle.net_grounds.specs.Facts.{Facts}
use Rattle.net_means.specs.SideBits.Sides.{types_in, IsIdle, SideGiven, SideHas}
use Rattle.net_means.proofs.SideBits.Heads.{names, IsHead, built_at, looks_at, idle_head, wide_asks}
use Rattle.net_means.proofs.SideBits.Operands.{Ground}
use Rattle.net_means.proofs.SideBits.Rows.{FitWords, fit_none, fit_and, AreScalars, no_scalar, scalar_and, Outcome, gives_word, gives_truth, params_scalars, params_some, outcome, taken}
use Rattle.net_means.proofs.WordRows.{kinds_of, params_of, result_of, row_is, scalar_within}
use Rattle.net_means.proofs.SideBits.Saturated.{prim_saturated, numbers_alone, Operands, no_operand, operand_and, operands_have}

word_piece : {ground : Built} {scope : List Variable} {n w : ℕ} {q : Prim} {types : List TypeTree} {es : List TermTree} {p : Piece} → IsOnWords q → ValueCells ground scope n w (prim q) types es p
    → p ≡ word_cells q (slice_index (map closed_value types) 0) (slice_index (map closed_value types) 1) n (operand_at scope es 0) (operand_at scope es 1)
word_piece on (value_primitive k) = refl
word_piece on value_element = absurd on
word_piece on value_element_at = absurd on

word_busy : (q : Prim) → IsOnWords q → (types : List TypeTree) (i : ℕ) → ¬ IsIdle (prim q) types i
word_busy q on types i idle =
    let is : prim q ≡ prim VAt = idle_head idle in
    let same : q ≡ VAt = cc in
    subst IsOnWords same on

-- no width passes the limit of data
width_small : Facts → {datas : List Data} {t : TypeTree} {w : ℕ} → HasWidth datas t w → w ≤ DATA_BITS
width_small facts has = facts.measures.measured_within has

-- what is shown has a width
pub shown_has : {p : Program} {t : TypeTree} {th : Thunk} {k : History} {b : List Bool} → Shows p t th k b → (w : ℕ) × HasWidth p.datas t w
shown_has (shows_nothing z) = (zero, z)
shown_has (shows_bits wide f held) = (suc wide.0, wide.1)

pub word_fits : Facts → {p : Program} {s : Scalar} {n : TypeTree} {th : Thunk} {k : History} {b : List Bool} → Shows p (scalar s n) th k b → (length b ≡ closed_value n) × (closed_value n ≤ SCALAR_BITS)
word_fits facts shown = let at = shown_has shown in (facts.shows.shown_length shown at.1 ∙ facts.widths.scalar_width at.1, scalar_within facts at.1)

module _ (facts : Facts) (o : Origins) (order : List ℕ) (scope : List Variable) (γ : Thunks) (δ : TypeTrees) (net : Net) (path : List ℕ) (h : List Event) (values : SameValues) (keep : FieldsKeepSame) where
  words_fit : {xs : List ℕ} {ts : List TypeTree} {bs : List (List Bool)} → Operands facts o scope γ δ net path h xs ts bs → AreScalars ts → FitWords ts bs
  words_fit no_operand no_scalar = fit_none
  words_fit (operand_and c b more) (scalar_and scalars) = let at = word_fits facts (c []) in fit_and at.0 at.1 (words_fit more scalars)

  words_show : {xs : List ℕ} {ts : List TypeTree} {bs : List (List Bool)} → Operands facts o scope γ δ net path h xs ts bs → AreScalars ts → (k : History) → ShowWords o.program k (each_closed (names xs) γ δ) bs
  words_show no_operand no_scalar k = show_no_word
  words_show (operand_and c b more) (scalar_and scalars) k = show_word (c k) (words_show more scalars k)

  -- the wires of the first operand, and of the second, where there is one
  first_bears : {xs : List ℕ} {ts : List TypeTree} {bs : List (List Bool)} → Operands facts o scope γ δ net path h xs ts bs → 0 < length bs → Bears net path h (operand_at scope (names xs) 0) (get_or bs 0 [])
  first_bears no_operand l = absurd (omega (arith, l))
  first_bears (operand_and c b more) l = b

  second_bears : {xs : List ℕ} {ts : List TypeTree} {bs : List (List Bool)} → Operands facts o scope γ δ net path h xs ts bs → 1 < length bs → Bears net path h (operand_at scope (names xs) 1) (get_or bs 1 [])
  second_bears no_operand l = absurd (omega (arith, l))
  second_bears (operand_and c b no_operand) l = absurd (omega (arith, l))
  second_bears (operand_and c b (operand_and d e more)) l = e

  some_words : {xs : List ℕ} {ts : List TypeTree} {bs : List (List Bool)} → Operands facts o scope γ δ net path h xs ts bs → 0 < length ts → 0 < length bs
  some_words no_operand l = l
  some_words (operand_and c b more) l = omega arith

  -- the primitive shows its value at the type that it gives
  word_carries : (q : Prim) (types : List TypeTree) (xs : List ℕ) (words : List (List Bool)) (b : List Bool) (others : List Data) {t : TypeTree} → value_of q (numbers_of δ types) words ≡ Some b → ((k : History) → ShowWords o.program k (each_closed (names xs) γ δ) words) → o.program.datas ≡ built_in ++ others → HasWidth o.program.datas t (length b) → Outcome (row_of q) t
      → Carries o.program t (closed (on_names (prim q) types xs) γ δ) b
  word_carries q types xs words b others gives shown begins has (gives_word {s = s} {n = n} plain) k = facts.prims.primitive_shows o.program q types (names xs) γ δ k words s n b gives (shown k) plain has
  word_carries q types xs words b others gives shown begins has (gives_truth test) k = facts.prims.test_shows o.program q types (names xs) γ δ k words b others gives (shown k) test begins

  pub word_side : (n w : ℕ) (t : TypeTree) (piece : Piece) (q : Prim) (types : List TypeTree) (xs : List ℕ) → IsOnWords q → length types + length xs ≡ asked_for (schema_type q) → SideGiven o order scope γ net path h n w t (on_names (prim q) types xs) piece → SideHas o.program γ δ net path h t (on_names (prim q) types xs) (last_wires n piece (w ∷ []))
  word_side n w t piece q types xs on count g =
      let datas : List Data = o.program.datas in
      let row : Row = row_of q in
      let ground : Ground o = record { values = values; keep = keep; sound = g.sound } in
      let head : IsHead (prim q) = record { head = refl; types = refl; operands = refl } in
      let line = row_is row on in
      let all = prim_saturated facts (setting_at o) (types_in scope) q (kinds_of row) (params_of row) (result_of row) types xs g.typed.type g.sound g.scoped line.0 (count ∙ line.1) g.typed.has (wide_asks facts g.wide g.typed.same) in
      let sat = all.1 in
      let have = operands_have facts o scope γ δ net path h ground g.scoped (map (λ p. sub p (arguments (trees_of types))) (params_of row)) xs sat.args_given (λ i x v e f. g.variables x v (looks_at head types xs i x e (word_busy q on types i)) f) in
      let words : List (List Bool) = have.0 in
      let scalars = params_scalars row on (arguments (trees_of types)) in
      let ends = outcome facts values datas g.sound.begins.0 g.sound.begins.1 row on (arguments (trees_of types)) t w (facts.same.same_through sat.gives (facts.same.same_turned g.typed.same)) g.wide in
      let take = taken row on types all.0 words w (words_fit have.1 scalars) ends.1 in
      let nats : List ℕ = map closed_value types in
      let narrow : width_of q nats < 2 ^ 32 = let e = take.width in let l = width_small facts g.wide in omega (arith, e, l) in
      let b : List Bool = word_result q (get_or nats 0 0) (get_or nats 1 0) (get_or words 0 []) (get_or words 1 []) in
      let gives : value_of q nats words ≡ Some b = facts.words.value_where_taken q nats words (take.takes, narrow) in
      let size : length b ≡ w = facts.words.width_of_value q nats words b gives ∙ take.width in
      let is = word_piece on (built_at head types xs g.built) in
      let some : 0 < length words = some_words have.1 (params_some row on types) in
      let cells = subst (λ (q : Piece). HasCells net path q.cells) is g.cells in
      let last = facts.cells.values_bear q nats words n (operand_at scope (names xs) 0) (operand_at scope (names xs) 1) b gives (first_bears have.1 some) (second_bears have.1) cells in
      record {
        bits = b;
        carries = word_carries q types xs words b g.sound.begins.0 (subst (λ ns. value_of q ns words ≡ Some b) (sym (numbers_alone facts types sat.have δ)) gives) (words_show have.1 scalars) g.sound.begins.1 (subst (HasWidth datas t) (sym size) g.wide) ends.0;
        bears = subst (λ (q : Piece). Bears net path h (last_wires n q (w ∷ [])) b) (sym is) (subst (λ k. Bears net path h (last_wires n (word_cells q (get_or nats 0 0) (get_or nats 1 0) n (operand_at scope (names xs) 0) (operand_at scope (names xs) 1)) (k ∷ [])) b) size last);
      }
