-- Elements of vectors as right sides.
use Rattle.std.specs.Prelude.{min, ◌*◌, ◌^◌}
use Rattle.std.proofs.Common.{◌≡◌, ◌<◌, ℕ, zero, suc, ◌+◌, ◌-◌, Bool, List, [], ◌∷◌, ◌++◌, length, Some, slice_get, refl, sym, ap, ◌∙◌, subst, arith}
use Rattle.std.proofs.lemmas.Nat.{pow_pos}
use Rattle.chw_base.specs.declared.index.WireId.{WireId}
use Rattle.chw_types.specs.declared.kind.Kind.TheVariants.{Nat, Val}
use Rattle.chw_types.specs.declared.kind.Scalar.TheVariants.{U}
use Rattle.chw_types.specs.SamePromises.{SameValues}
use Rattle.chw_types.specs.TypeMoves.{sub}
use Rattle.chw_types.specs.TypeTree.{TypeTree, ty_var, nat_lit, nat_sum, scalar, vector}
use Rattle.chw_prims.specs.declared.prim.Primitive.TheVariants.{VGet, VAt}
use Rattle.chw_terms.specs.TermTree.{TermTree, var, prim}
use Rattle.chw_typing.specs.Programs.{IsSound}
use Rattle.chw_typing.specs.Scopes.{Setting, AreTermTypes}
use Rattle.chw_typing.specs.Typing.{HasType, HasTypeUpTo}
use Rattle.rewriting.specs.Origins.{Origins, setting_at}
use Rattle.normal_forms.specs.Values.{on_names}
use Rattle.chw_layout.specs.Measured.{closed_value}
use Rattle.netlist.specs.declared.net.Cell.TheVariants.{Cut}
use Rattle.netlist.specs.declared.net.Net.{Net}
use Rattle.net_built.specs.Bodies.{ValueCells, value_primitive, value_element, value_element_at}
use Rattle.net_built.specs.Circuits.{Ground as Built}
use Rattle.net_built.specs.Data.{tests, test, test_wires, chosen}
use Rattle.net_built.specs.Terms.{Variable, wires_of, wires_at}
use Rattle.net_built.specs.Vectors.{element, elements, element_wires, words_from, element_at}
use Rattle.net_built.specs.Wires.{wire, Piece, ◌▸◌, after, last_wire, last_wires}
use Rattle.net_built.specs.Words.{only}
use Rattle.cell_bits.specs.Bearing.{HasCells}
use Rattle.net_grounds.specs.Facts.{Facts}
use Rattle.net_means.specs.SideBits.Sides.{types_in, LooksAt, IsIdle, index_of_one}
use Rattle.net_means.proofs.SideBits.Heads.{names, IsHead, built_at}
use Rattle.net_means.specs.WireOrder.Awaits.{AllSettle, by_more}
use Rattle.net_means.specs.WireOrder.Sides.{SideLaid, HasItsWires}
use Rattle.net_means.proofs.WireOrder.Choices.{chosen_pair, test_ends}
use Rattle.net_means.proofs.WireOrder.Looks.{Looked, looked, wires_there}
use Rattle.net_means.proofs.WireOrder.Reached.{front_cells, back_cells, Held, only_is, read_only, Meets, Ends, one_meets, one_ends, then_ends, last_settle}
use Rattle.net_means.proofs.WireOrder.WordSides.{word_width}

get_piece : {ground : Built} {scope : List Variable} {n w : ℕ} {i m a : TypeTree} {v : TermTree} {p : Piece} → ValueCells ground scope n w (prim VGet) (i ∷ m ∷ a ∷ []) (v ∷ []) p → p ≡ element w (closed_value m) n (wires_of scope v)
get_piece (value_primitive k) = absurd k
get_piece value_element = refl

at_piece : {ground : Built} {scope : List Variable} {n w : ℕ} {m k a : TypeTree} {v i : TermTree} {p : Piece} → ValueCells ground scope n w (prim VAt) (m ∷ k ∷ a ∷ []) (v ∷ i ∷ []) p → p ≡ element_at w (closed_value m) (closed_value k) n (wires_of scope v) (wires_of scope i)
at_piece (value_primitive k) = absurd k
at_piece value_element_at = refl

-- the index of `vat` is a word
index_typed : Facts → (s : Setting) (vars : List TypeTree) (m k a : TypeTree) (x y : ℕ) (t : TypeTree) → IsSound s → AreTermTypes s [] vars → HasType s [] vars (on_names (prim VAt) (m ∷ k ∷ a ∷ []) (x ∷ y ∷ [])) t → HasTypeUpTo s [] vars (var y) (scalar U k)
unfolding sub
index_typed facts s vars m k a x y t sound scoped typed =
    (facts.terms.prim_at_arguments s [] vars VAt (Nat ∷ Nat ∷ Val ∷ []) (vector (nat_sum (ty_var 2) (nat_lit 1)) (ty_var 0) ∷ scalar U (ty_var 1) ∷ []) (ty_var 0) (m ∷ k ∷ a ∷ []) (names (x ∷ y ∷ [])) t sound scoped refl refl refl typed).args_given.1.0

module _ (net : Net) (path : List ℕ) where
  element_ends : (width count at u j : ℕ) (v : List WireId) (r : WireId) → 0 < width → Held v u → slice_get v j ≡ Some r → HasCells net path (element width count at v).cells → Ends net path at (element width count at v) r
  element_ends width count at u j v r some h e has = one_ends net path width at 0 (Cut (wire at) (only v) ((count + 1) * width - 1) (count * width)) r some tt refl (read_only v u j r h e) has

  element_meets : (width count at u j : ℕ) (v : List WireId) (r : WireId) → 0 < width → Held v u → slice_get v j ≡ Some r → HasCells net path (element width count at v).cells → Meets net path at r.number
  element_meets width count at u j v r some h e has = one_meets net path width at 0 (Cut (wire at) (only v) ((count + 1) * width - 1) (count * width)) r some tt refl (read_only v u j r h e) has

  -- the cells of an element at an index, by the words that are tested
  abbrev indexed : (width m k at : ℕ) (v i : List WireId) (words : List (List Bool)) → Piece
  indexed width m k at v i words =
      let p : Piece = elements width m at v in
      let q : Piece = tests k i words (after at p) in
      p ▸ q ▸ chosen width (test_wires k i words (after at p)) (element_wires width m at) (after (after at p) q)

  alone : (width at : ℕ) → 0 < width → (v i : List WireId) (k : ℕ) → at ≡ after at (indexed width 1 k at v i []) - 1
  alone zero at some v i k = absurd (omega (arith, some))
  alone (suc w) at some v i k = omega arith

  -- they read the vector
  indexed_vector : (width m k at u j : ℕ) (v i : List WireId) (words : List (List Bool)) (r : WireId) → 0 < width → Held v u → slice_get v j ≡ Some r → (words ≡ [] → m ≡ 0) → HasCells net path (indexed width (suc m) k at v i words).cells
      → Ends net path at (indexed width (suc m) k at v i words) r
  indexed_vector width m k at u j v i [] r some h e none has = by m (none refl) has
    where
      by : (m : ℕ) → m ≡ 0 → HasCells net path (indexed width (suc m) k at v i []).cells → Ends net path at (indexed width (suc m) k at v i []) r
      by zero z has =
          let p : Piece = element width 0 at v in
          let own : HasCells net path p.cells = front_cells net path p.cells [] (front_cells net path (p.cells ++ []) [] has) in
          subst (λ n. Meets net path n r.number) (alone width at some v i k) (element_meets width 0 at u j v r some h e own)
      by (suc m) z has = absurd (omega (arith, z))
  indexed_vector zero m k at u j v i (word ∷ words) r some h e none has = absurd (omega (arith, some))
  indexed_vector (suc w) m k at u j v i (word ∷ words) r some h e none has =
      let first : Piece = element (suc w) m at v in
      let others : Piece = elements (suc w) m (after at first) v in
      let p : Piece = elements (suc w) (suc m) at v in
      let q : Piece = tests k i (word ∷ words) (after at p) in
      let c : Piece = chosen (suc w) (test_wires k i (word ∷ words) (after at p)) (element_wires (suc w) (suc m) at) (after (after at p) q) in
      let left : HasCells net path p.cells = front_cells net path p.cells (q.cells ++ c.cells) has in
      let right : HasCells net path c.cells = back_cells net path q.cells c.cells (back_cells net path p.cells (q.cells ++ c.cells) has) in
      let own : Meets net path at r.number = element_meets (suc w) m at u j v r some h e (front_cells net path first.cells others.cells left) in
      let last = (chosen_pair net path w (test_wires k i (word ∷ words) (after at p)) (element_wires (suc w) (suc m) at) 0 (after (after at p) q) (last_wire (after at p) (test k i word (after at p))) (wire at ∷ []) refl refl right).1 in
      then_ends net path at p (q ▸ c) r (then_ends net path (after at p) q c r (by_more last own))

  -- and the index, where there is a test
  indexed_index : (width m k at j : ℕ) (v i : List WireId) (words : List (List Bool)) (r : WireId) → 0 < width → Held i k → slice_get i j ≡ Some r → 0 < length words → HasCells net path (indexed width (suc m) k at v i words).cells
      → Ends net path at (indexed width (suc m) k at v i words) r
  indexed_index width m k at j v i [] r some h e more has = absurd (omega (arith, more))
  indexed_index zero m k at j v i (word ∷ words) r some h e more has = absurd (omega (arith, some))
  indexed_index (suc w) m k at j v i (word ∷ words) r some h e more has =
      let p : Piece = elements (suc w) (suc m) at v in
      let t : Piece = test k i word (after at p) in
      let others : Piece = tests k i words (after (after at p) t) in
      let q : Piece = tests k i (word ∷ words) (after at p) in
      let c : Piece = chosen (suc w) (test_wires k i (word ∷ words) (after at p)) (element_wires (suc w) (suc m) at) (after (after at p) q) in
      let rest : HasCells net path (q.cells ++ c.cells) = back_cells net path p.cells (q.cells ++ c.cells) has in
      let right : HasCells net path c.cells = back_cells net path q.cells c.cells rest in
      let own : HasCells net path t.cells = front_cells net path t.cells others.cells (front_cells net path q.cells c.cells rest) in
      let tested : Meets net path (last_wire (after at p) t).number r.number = test_ends net path k k j (after at p) i word r (only_is i k j r h e).1 h e own in
      let last = (chosen_pair net path w (test_wires k i (word ∷ words) (after at p)) (element_wires (suc w) (suc m) at) 0 (after (after at p) q) (last_wire (after at p) t) (wire at ∷ []) refl refl right).0 in
      then_ends net path at p (q ▸ c) r (then_ends net path (after at p) q c r (by_more last tested))

  as_indexed : (width n k at : ℕ) (v i : List WireId) → element_at width n k at v i ≡ indexed width (suc n) k at v i (words_from k 0 (min n (2 ^ k)))
  as_indexed width n k at v i =
      let number : n + 1 ≡ suc n = omega arith in
      ap (λ m. indexed width m k at v i (words_from k 0 (min n (2 ^ k)))) number

  no_word : (k j count : ℕ) → words_from k j count ≡ [] → count ≡ 0
  no_word k j zero e = refl
  no_word k j (suc count) e = absurd cc

  some_word : (k j count : ℕ) → 0 < count → 0 < length (words_from k j count)
  some_word k j zero l = absurd (omega (arith, l))
  some_word k j (suc count) l = omega arith

  one_element : (n k : ℕ) → words_from k 0 (min n (2 ^ k)) ≡ [] → n ≡ 0
  one_element n k e = let none = no_word k 0 (min n (2 ^ k)) e in let some : 0 < 2 ^ k = pow_pos k in omega (arith, none, some)

  tests_some : (n k : ℕ) → 0 < n → 0 < length (words_from k 0 (min n (2 ^ k)))
  tests_some n k l = let some : 0 < 2 ^ k = pow_pos k in some_word k 0 (min n (2 ^ k)) (omega (arith, l, some))

module _ (facts : Facts) (values : SameValues) (o : Origins) (order : List ℕ) (scope : List Variable) (net : Net) (path : List ℕ) (n w : ℕ) (t : TypeTree) (piece : Piece) where
  pub get_settles : (i m a : TypeTree) (y x : ℕ) (it : Variable) → SideLaid o order scope net path n w t (on_names (prim VGet) (i ∷ m ∷ a ∷ []) (y ∷ [])) piece → LooksAt (on_names (prim VGet) (i ∷ m ∷ a ∷ []) (y ∷ [])) x → slice_get scope x ≡ Some it
      → AllSettle net path (last_wires n piece (w ∷ [])) path it.wires
  get_settles i m a y x it g looks known = by at.i at.at
    where
      head : IsHead (prim VGet)
      head = record { head = refl; types = refl; operands = refl }

      at : Looked (prim VGet) (i ∷ m ∷ a ∷ []) (y ∷ []) x
      at = looked head ((λ y e. absurd cc), (λ t es e. absurd cc)) (i ∷ m ∷ a ∷ []) (y ∷ []) x looks

      by : (j : ℕ) → slice_get (y ∷ []) j ≡ Some x → AllSettle net path (last_wires n piece (w ∷ [])) path it.wires
      by zero e =
          let same : y ≡ x = cc in
          let its : HasItsWires o.program.datas it.ty it.wires = g.held x it looks known in
          let wires : wires_at scope y ≡ it.wires = ap (λ x. wires_at scope x) same ∙ wires_there scope x it known in
          let is : piece ≡ element w (closed_value m) n it.wires = get_piece (built_at head (i ∷ m ∷ a ∷ []) (y ∷ []) g.built) ∙ ap (λ (ws : List WireId). element w (closed_value m) n ws) wires in
          let cells = subst (λ (q : Piece). HasCells net path q.cells) is g.cells in
          subst (λ (q : Piece). AllSettle net path (last_wires n q (w ∷ [])) path it.wires) (sym is)
          (last_settle net path n w (element w (closed_value m) n it.wires) it.wires (λ some j v f. element_ends net path w (closed_value m) n its.width j it.wires v some its.many f cells))
      by (suc j) e = absurd cc

  pub at_settles : (m k a : TypeTree) (y z x : ℕ) (it : Variable) → SideLaid o order scope net path n w t (on_names (prim VAt) (m ∷ k ∷ a ∷ []) (y ∷ z ∷ [])) piece → LooksAt (on_names (prim VAt) (m ∷ k ∷ a ∷ []) (y ∷ z ∷ [])) x → slice_get scope x ≡ Some it
      → AllSettle net path (last_wires n piece (w ∷ [])) path it.wires
  at_settles m k a y z x it g looks known = by at.i at.at at.busy
    where
      head : IsHead (prim VAt)
      head = record { head = refl; types = refl; operands = refl }

      at : Looked (prim VAt) (m ∷ k ∷ a ∷ []) (y ∷ z ∷ []) x
      at = looked head ((λ y e. absurd cc), (λ t es e. absurd cc)) (m ∷ k ∷ a ∷ []) (y ∷ z ∷ []) x looks

      its : HasItsWires o.program.datas it.ty it.wires
      its = g.held x it looks known

      last : ℕ
      last = closed_value m

      words : List (List Bool)
      words = words_from (closed_value k) 0 (min last (2 ^ closed_value k))

      cells_are : List WireId → List WireId → Piece
      cells_are v i = indexed net path w (suc last) (closed_value k) n v i words

      is : piece ≡ cells_are (wires_at scope y) (wires_at scope z)
      is = at_piece (built_at head (m ∷ k ∷ a ∷ []) (y ∷ z ∷ []) g.built) ∙ as_indexed net path w last (closed_value k) n (wires_at scope y) (wires_at scope z)

      has : HasCells net path (cells_are (wires_at scope y) (wires_at scope z)).cells
      has = subst (λ (q : Piece). HasCells net path q.cells) is g.cells

      many : (last : ℕ) → closed_value m ≡ last → ¬ IsIdle (prim VAt) (m ∷ k ∷ a ∷ []) 1 → 0 < last
      many zero e busy = absurd (busy (index_of_one e))
      many (suc l) e busy = omega arith

      by : (j : ℕ) → slice_get (y ∷ z ∷ []) j ≡ Some x → ¬ IsIdle (prim VAt) (m ∷ k ∷ a ∷ []) j → AllSettle net path (last_wires n piece (w ∷ [])) path it.wires
      by zero e busy =
          let same : y ≡ x = cc in
          let wires : wires_at scope y ≡ it.wires = ap (λ x. wires_at scope x) same ∙ wires_there scope x it known in
          subst (λ (q : Piece). AllSettle net path (last_wires n q (w ∷ [])) path it.wires) (sym is)
          (last_settle net path n w (cells_are (wires_at scope y) (wires_at scope z)) it.wires
          (λ some j v f. indexed_vector net path w last (closed_value k) n its.width j (wires_at scope y) (wires_at scope z) words v some (subst (λ ws. Held ws its.width) (sym wires) its.many)
          (ap (λ (ws : List WireId). slice_get ws j) wires ∙ f) (one_element net path last (closed_value k)) has))
      by (suc zero) e busy =
          let same : z ≡ x = cc in
          let wires : wires_at scope z ≡ it.wires = ap (λ x. wires_at scope x) same ∙ wires_there scope x it known in
          let typed = index_typed facts (setting_at o) (types_in scope) m k a y z g.typed.type g.sound g.scoped g.typed.has in
          let width : its.width ≡ closed_value k = word_width facts values (setting_at o) scope x its.width it U k (subst (λ z. HasTypeUpTo (setting_at o) [] (types_in scope) (var z) (scalar U k)) same typed) known its.has in
          let held : Held (wires_at scope z) (closed_value k) = subst (λ u. Held (wires_at scope z) u) width (subst (λ ws. Held ws its.width) (sym wires) its.many) in
          subst (λ (q : Piece). AllSettle net path (last_wires n q (w ∷ [])) path it.wires) (sym is)
          (last_settle net path n w (cells_are (wires_at scope y) (wires_at scope z)) it.wires
          (λ some j v f. indexed_index net path w last (closed_value k) n j (wires_at scope y) (wires_at scope z) words v some held
          (ap (λ (ws : List WireId). slice_get ws j) wires ∙ f) (tests_some net path last (closed_value k) (many last refl busy)) has))
      by (suc (suc j)) e busy = absurd cc
