-- Primitives on words as right sides.
use Rattle.std.specs.Prelude.{slice_index}
use Rattle.std.proofs.Common.{◌≡◌, ◌<◌, ◌⊎◌, inl, inr, ℕ, zero, suc, ◌+◌, List, [], ◌∷◌, length, map, Some, slice_get, refl, sym, ap, ◌∙◌, subst, arith}
use Rattle.chw_base.specs.declared.index.WireId.{WireId}
use Rattle.chw_types.specs.declared.declarations.Data.{Data}
use Rattle.chw_types.specs.declared.kind.Scalar.{Scalar}
use Rattle.chw_types.specs.declared.kind.Scalar.TheVariants.{U, B}
use Rattle.chw_types.specs.Arguments.{arguments}
use Rattle.chw_types.specs.SamePromises.{SameValues}
use Rattle.chw_types.specs.TypeMoves.{sub}
use Rattle.chw_types.specs.TypeTree.{TypeTree, scalar}
use Rattle.chw_types.specs.TypeView.{trees_of}
use Rattle.chw_prims.specs.declared.prim.Primitive.{Primitive as Prim}
use Rattle.chw_prims.specs.declared.row.Row.{Row}
use Rattle.chw_prims.specs.declared.row.Row.TheVariants.{Binary, WideSum, WideProduct, Unary, Shift, Compare, Extend, Truncate, Cut, Joined, Reduce, Packed, Unpacked}
use Rattle.chw_prims.specs.Schemas.{row_of, schema_type}
use Rattle.chw_terms.specs.TermTree.{TermTree, var, prim}
use Rattle.chw_typing.specs.Scopes.{Setting}
use Rattle.chw_typing.specs.Typing.{HasTypeUpTo}
use Rattle.chw_typing.specs.Given.{AreGiven}
use Rattle.rewriting.specs.Origins.{Origins, setting_at}
use Rattle.rewriting.specs.Spots.{asked_for, IsOnWords, IsRowOnWords}
use Rattle.normal_forms.specs.Values.{on_names}
use Rattle.chw_layout.specs.Measured.{closed_value, HasWidth}
use Rattle.netlist.specs.declared.net.Net.{Net}
use Rattle.net_built.specs.Bodies.{ValueCells, value_primitive, value_element, value_element_at, operand_at}
use Rattle.net_built.specs.Circuits.{Ground as Built}
use Rattle.net_built.specs.Terms.{Variable}
use Rattle.net_built.specs.Wires.{Piece, last_wires}
use Rattle.net_built.specs.Words.{word_cells}
use Rattle.cell_bits.specs.Bearing.{HasCells}
use Rattle.net_grounds.specs.Facts.{Facts}
use Rattle.net_means.proofs.Lists.{found_before_map, same_some}
use Rattle.net_means.specs.SideBits.Sides.{types_in, LooksAt}
use Rattle.net_means.proofs.SideBits.Heads.{names, IsHead, built_at, wide_asks}
use Rattle.net_means.proofs.SideBits.Operands.{var_at}
use Rattle.net_means.proofs.SideBits.Rows.{ResultWide, outcome}
use Rattle.net_means.proofs.WordRows.{kinds_of, params_of, result_of, row_is}
use Rattle.net_means.proofs.SideBits.Saturated.{prim_saturated}
use Rattle.net_means.specs.WireOrder.Awaits.{AllSettle}
use Rattle.net_means.specs.WireOrder.Sides.{SideLaid, HasItsWires}
use Rattle.net_means.proofs.WireOrder.Looks.{Looked, looked, operand_wires}
use Rattle.net_means.proofs.WireOrder.Reached.{Held, Ends, last_settle}
use Rattle.net_means.proofs.WireOrder.WordTable.{First, Second, left_ends, right_ends}

-- what an operand of a line is, by its number
data OperandOf (row : Row) (n m w u : ℕ) : ℕ → Type 0 where
  first : First row n m w u → OperandOf row n m w u 0
  second : Second row n m w u → OperandOf row n m w u 1

one_type : (P : List TypeTree → Type 0) → ((n : TypeTree) → P (n ∷ [])) → (types : List TypeTree) → length types ≡ 1 → P types
one_type P f [] e = absurd (omega (arith, e))
one_type P f (n ∷ []) e = f n
one_type P f (n ∷ m ∷ r) e = absurd (omega (arith, e))

two_types : (P : List TypeTree → Type 0) → ((n m : TypeTree) → P (n ∷ m ∷ [])) → (types : List TypeTree) → length types ≡ 2 → P types
two_types P f [] e = absurd (omega (arith, e))
two_types P f (n ∷ []) e = absurd (omega (arith, e))
two_types P f (n ∷ m ∷ []) e = f n m
two_types P f (n ∷ m ∷ k ∷ r) e = absurd (omega (arith, e))

three_types : (P : List TypeTree → Type 0) → ((l n u : TypeTree) → P (l ∷ n ∷ u ∷ [])) → (types : List TypeTree) → length types ≡ 3 → P types
three_types P f [] e = absurd (omega (arith, e))
three_types P f (n ∷ []) e = absurd (omega (arith, e))
three_types P f (n ∷ m ∷ []) e = absurd (omega (arith, e))
three_types P f (l ∷ n ∷ u ∷ []) e = f l n u
three_types P f (l ∷ n ∷ u ∷ k ∷ r) e = absurd (omega (arith, e))

-- a variable that is used as a word is as wide as the word
pub word_width : Facts → (values : SameValues) (s : Setting) (scope : List Variable) (x u : ℕ) (it : Variable) (r : Scalar) (n : TypeTree) → HasTypeUpTo s [] (types_in scope) (var x) (scalar r n) → slice_get scope x ≡ Some it → HasWidth s.datas it.ty u → u ≡ closed_value n
word_width facts values s scope x u it r n typed known has =
    let v = found_before_map (λ (v : Variable). v.ty) scope x typed.type (var_at typed.has) in
    let same : v.0 ≡ it = same_some v.1 known in
    let own : it.ty ≡ typed.type = ap (λ (v : Variable). v.ty) (sym same) ∙ v.2 in
    let form = facts.same.as_scalar typed.same in
    let wide : HasWidth s.datas (scalar r form.0) u = subst (λ t. HasWidth s.datas t u) (own ∙ form.1) has in
    facts.widths.scalar_width wide ∙ sym (facts.same_layout.same_number values form.2)

module _ (facts : Facts) (values : SameValues) (s : Setting) (scope : List Variable) (i x u w : ℕ) (it : Variable) (known : slice_get scope x ≡ Some it) (has : HasWidth s.datas it.ty u) where
  word_at : (y : ℕ) (r : Scalar) (n : TypeTree) → Some y ≡ Some x → HasTypeUpTo s [] (types_in scope) (var y) (scalar r n) → u ≡ closed_value n
  word_at y r n e typed =
      let is : y ≡ x = same_some refl e in
      word_width facts values s scope x u it r n (subst (λ z. HasTypeUpTo s [] (types_in scope) (var z) (scalar r n)) is typed) known has

  -- of one word, and of two
  one_word : (j : ℕ) (r : Scalar) (n : TypeTree) (xs : List ℕ) → AreGiven s [] (types_in scope) (scalar r n ∷ []) (names xs) → slice_get xs j ≡ Some x → (j ≡ 0) × (u ≡ closed_value n)
  one_word j r n [] given e = absurd given
  one_word zero r n (y ∷ []) given e = (refl, word_at y r n e given.0)
  one_word (suc j) r n (y ∷ []) given e = absurd cc
  one_word j r n (y ∷ z ∷ xs) given e = absurd given.1

  two_words : (j : ℕ) (q r : Scalar) (n m : TypeTree) (xs : List ℕ) → AreGiven s [] (types_in scope) (scalar q n ∷ scalar r m ∷ []) (names xs) → slice_get xs j ≡ Some x → ((j ≡ 0) × (u ≡ closed_value n)) ⊎ ((j ≡ 1) × (u ≡ closed_value m))
  two_words j q r n m [] given e = absurd given
  two_words j q r n m (y ∷ []) given e = absurd given.1
  two_words zero q r n m (y ∷ z ∷ []) given e = inl (refl, word_at y q n e given.0)
  two_words (suc zero) q r n m (y ∷ z ∷ []) given e = inr (refl, word_at z r m e given.1.0)
  two_words (suc (suc j)) q r n m (y ∷ z ∷ []) given e = absurd cc
  two_words j q r n m (y ∷ z ∷ k ∷ xs) given e = absurd given.1.1

  of_one : (row : Row) (N M j : ℕ) (n : TypeTree) → (j ≡ 0) × (u ≡ closed_value n) → (u ≡ closed_value n → First row N M w u) → OperandOf row N M w u j
  of_one row N M j n at f = subst (OperandOf row N M w u) (sym at.0) (first (f at.1))

  of_two : (row : Row) (N M j : ℕ) (n m : TypeTree) → ((j ≡ 0) × (u ≡ closed_value n)) ⊎ ((j ≡ 1) × (u ≡ closed_value m)) → (u ≡ closed_value n → First row N M w u) → (u ≡ closed_value m → Second row N M w u) → OperandOf row N M w u j
  of_two row N M j n m (inl at) f g = subst (OperandOf row N M w u) (sym at.0) (first (f at.1))
  of_two row N M j n m (inr at) f g = subst (OperandOf row N M w u) (sym at.0) (second (g at.1))

  abbrev Taking : Row → List TypeTree → Type 0
  Taking row types =
      (xs : List ℕ) → AreGiven s [] (types_in scope) (map (λ p. sub p (arguments (trees_of types))) (params_of row)) (names xs) → ResultWide (sub (result_of row) (arguments (trees_of types))) w → slice_get xs i ≡ Some x
      → OperandOf row (slice_index (map closed_value types) 0) (slice_index (map closed_value types) 1) w u i

  operand_of : (row : Row) → IsRowOnWords row → (types : List TypeTree) → length types ≡ length (kinds_of row) → Taking row types
  unfolding sub
  operand_of (Binary y) on = one_type (Taking (Binary y)) (λ n xs given wide e. of_two (Binary y) _ _ i n n (two_words i y y n n xs given e) (λ f. f) (λ f. f))
  operand_of (WideSum y) on = one_type (Taking (WideSum y)) (λ n xs given wide e. of_two (WideSum y) _ _ i n n (two_words i y y n n xs given e) (λ f. f) (λ f. f))
  operand_of (WideProduct y) on = two_types (Taking (WideProduct y)) (λ n m xs given wide e. of_two (WideProduct y) _ _ i n m (two_words i y y n m xs given e) (λ f. f) (λ f. f))
  operand_of (Unary y) on = one_type (Taking (Unary y)) (λ n xs given wide e. of_one (Unary y) _ _ i n (one_word i y n xs given e) (λ f. f))
  operand_of (Shift y) on = two_types (Taking (Shift y)) (λ n m xs given wide e. of_two (Shift y) _ _ i n m (two_words i y U n m xs given e) (λ f. f) (λ f. (f, wide.0)))
  operand_of (Compare y) on = one_type (Taking (Compare y)) (λ n xs given wide e. of_two (Compare y) _ _ i n n (two_words i y y n n xs given e) (λ f. f) (λ f. f))
  operand_of (Extend y) on = two_types (Taking (Extend y)) (λ n m xs given wide e. of_one (Extend y) _ _ i n (one_word i y n xs given e) (λ f. f))
  operand_of (Truncate y) on = two_types (Taking (Truncate y)) (λ n m xs given wide e. of_one (Truncate y) _ _ i _ (one_word i y _ xs given e) (λ f. wide.0))
  operand_of Cut on = three_types (Taking Cut) (λ l n k xs given wide e. of_one Cut _ _ i _ (one_word i B _ xs given e) (λ f. wide.0))
  operand_of Joined on = two_types (Taking Joined) (λ n m xs given wide e. of_two Joined _ _ i n m (two_words i B B n m xs given e) (λ f. f) (λ f. f))
  operand_of Reduce on = one_type (Taking Reduce) (λ n xs given wide e. of_one Reduce _ _ i n (one_word i B n xs given e) (λ f. f))
  operand_of (Packed y) on = one_type (Taking (Packed y)) (λ n xs given wide e. of_one (Packed y) _ _ i n (one_word i y n xs given e) (λ f. f))
  operand_of (Unpacked y) on = one_type (Taking (Unpacked y)) (λ n xs given wide e. of_one (Unpacked y) _ _ i n (one_word i B n xs given e) (λ f. f))
  operand_of _ on = absurd on

word_piece : {ground : Built} {scope : List Variable} {n w : ℕ} {q : Prim} {types : List TypeTree} {es : List TermTree} {p : Piece} → IsOnWords q → ValueCells ground scope n w (prim q) types es p
    → p ≡ word_cells q (slice_index (map closed_value types) 0) (slice_index (map closed_value types) 1) n (operand_at scope es 0) (operand_at scope es 1)
word_piece on (value_primitive k) = refl
word_piece on value_element = absurd on
word_piece on value_element_at = absurd on

module _ (facts : Facts) (values : SameValues) (o : Origins) (order : List ℕ) (scope : List Variable) (net : Net) (path : List ℕ) (at w : ℕ) (t : TypeTree) (piece : Piece) where
  -- the cells read the operand of this number
  operand_ends : (q : Prim) → IsOnWords q → (n m u i : ℕ) (a b wires : List WireId) → OperandOf (row_of q) n m w u i → 0 < w → (i ≡ 0 → a ≡ wires) → (i ≡ 1 → b ≡ wires) → Held wires u → HasCells net path (word_cells q n m at a b).cells
      → (j : ℕ) (v : WireId) → slice_get wires j ≡ Some v → Ends net path at (word_cells q n m at a b) v
  operand_ends q on n m u i a b wires (first f) some left right h has j v e =
      left_ends net path q on n m w u at a b j v f some (subst (λ ws. Held ws u) (sym (left refl)) h) (ap (λ (ws : List WireId). slice_get ws j) (left refl) ∙ e) has
  operand_ends q on n m u i a b wires (second f) some left right h has j v e =
      right_ends net path q on n m w u at a b j v f some (subst (λ ws. Held ws u) (sym (right refl)) h) (ap (λ (ws : List WireId). slice_get ws j) (right refl) ∙ e) has

  pub word_settles : (q : Prim) (types : List TypeTree) (xs : List ℕ) (x : ℕ) (it : Variable) → IsOnWords q → length types + length xs ≡ asked_for (schema_type q) → SideLaid o order scope net path at w t (on_names (prim q) types xs) piece
      → LooksAt (on_names (prim q) types xs) x → slice_get scope x ≡ Some it → AllSettle net path (last_wires at piece (w ∷ [])) path it.wires
  word_settles q types xs x it on count g looks known =
      let datas : List Data = o.program.datas in
      let row : Row = row_of q in
      let head : IsHead (prim q) = record { head = refl; types = refl; operands = refl } in
      let line = row_is row on in
      let all = prim_saturated facts (setting_at o) (types_in scope) q (kinds_of row) (params_of row) (result_of row) types xs g.typed.type g.sound g.scoped line.0 (count ∙ line.1) g.typed.has (wide_asks facts g.wide g.typed.same) in
      let sat = all.1 in
      let ends = outcome facts values datas g.sound.begins.0 g.sound.begins.1 row on (arguments (trees_of types)) t w (facts.same.same_through sat.gives (facts.same.same_turned g.typed.same)) g.wide in
      let at_operand : Looked (prim q) types xs x = looked head ((λ y e. absurd cc), (λ t es e. absurd cc)) types xs x looks in
      let its : HasItsWires datas it.ty it.wires = g.held x it looks known in
      let n : ℕ = slice_index (map closed_value types) 0 in
      let m : ℕ = slice_index (map closed_value types) 1 in
      let operand = operand_of facts values (setting_at o) scope at_operand.i x its.width w it known its.has row on types all.0 xs sat.args_given ends.1 at_operand.at in
      let a : List WireId = operand_at scope (names xs) 0 in
      let b : List WireId = operand_at scope (names xs) 1 in
      let is : piece ≡ word_cells q n m at a b = word_piece on (built_at head types xs g.built) in
      let cells = subst (λ (p : Piece). HasCells net path p.cells) is g.cells in
      let place : (k : ℕ) → at_operand.i ≡ k → operand_at scope (names xs) k ≡ it.wires = λ k e. operand_wires scope xs k x it (subst (λ j. slice_get xs j ≡ Some x) {x = at_operand.i} e at_operand.at) known in
      subst (λ (p : Piece). AllSettle net path (last_wires at p (w ∷ [])) path it.wires) (sym is)
      (last_settle net path at w (word_cells q n m at a b) it.wires
      (λ some. operand_ends q on n m its.width at_operand.i a b it.wires operand some (place 0) (place 1) its.many cells))
