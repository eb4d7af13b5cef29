-- Elements of vectors as right sides.
use Rattle.std.specs.Prelude.{take, drop, min, ◌*◌, ◌^◌}
use Rattle.std.proofs.Common.{◌≡◌, ◌≤◌, ◌<◌, ℕ, zero, suc, ◌+◌, Bool, List, [], ◌∷◌, ◌++◌, length, Some, slice_get, refl, sym, ap, ◌∙◌, subst, arith, length-drop, length-take-le, take-append-drop, drop-drop}
use Rattle.chw_base.specs.declared.index.WireId.{WireId}
use Rattle.chw_base.specs.declared.limits.TheConstants.{VECTOR_LENGTH}
use Rattle.chw_bits.specs.Bits.{number_of}
use Rattle.chw_clock.specs.declared.event.Event.{Event}
use Rattle.chw_types.specs.declared.declarations.Data.{Data}
use Rattle.chw_types.specs.declared.kind.Kind.{Kind}
use Rattle.chw_types.specs.declared.kind.Kind.TheVariants.{Nat, Val}
use Rattle.chw_types.specs.declared.kind.Scalar.TheVariants.{U}
use Rattle.chw_types.specs.Kinds.{KindOf, KindsOf, kind_and}
use Rattle.chw_types.specs.SamePromises.{SameValues, natural_value}
use Rattle.chw_types.specs.SameTypes.{SameTypes, same_vector}
use Rattle.chw_types.specs.TypeMoves.{sub}
use Rattle.chw_types.specs.TypeTree.{TypeTree, TypeTrees, type_and, ty_var, nat_lit, nat_sum, scalar, vector}
use Rattle.type_laws.specs.SameKept.{FieldsKeepSame}
use Rattle.chw_prims.specs.declared.prim.Primitive.{Primitive as Prim}
use Rattle.chw_prims.specs.declared.prim.Primitive.TheVariants.{VGet, VAt}
use Rattle.chw_terms.specs.Evaluated.{evaluated}
use Rattle.chw_terms.specs.declared.program.Program.{Program}
use Rattle.chw_terms.specs.TermTree.{TermTree, var, prim}
use Rattle.chw_typing.specs.Programs.{IsSound}
use Rattle.chw_typing.specs.Scopes.{Setting, AreTermTypes}
use Rattle.chw_typing.specs.Typing.{HasType, HasTypeUpTo}
use Rattle.rewriting.specs.Origins.{Origins, setting_at}
use Rattle.normal_forms.specs.Values.{on_names}
use Rattle.chw_layout.specs.Measured.{closed_value, HasWidth}
use Rattle.chw_meaning.specs.Values.{History, Thunk, closed, Thunks, closed_type, type_at}
use Rattle.chw_meaning.specs.Steps.{at_index}
use Rattle.chw_meaning.specs.Eval.{Runs, f_closed, r_goes_to}
use Rattle.carrying.specs.Carrying.{Shows}
use Rattle.netlist.specs.declared.net.Net.{Net}
use Rattle.net_built.specs.Bodies.{ValueCells, value_primitive, value_element, value_element_at}
use Rattle.net_built.specs.Circuits.{Ground as Built}
use Rattle.net_built.specs.Data.{tests, test_wires, chosen}
use Rattle.net_built.specs.Terms.{Variable, wires_at, wires_of}
use Rattle.net_built.specs.Vectors.{element, elements, element_wires, words_from, element_at}
use Rattle.net_built.specs.Wires.{Piece, ◌▸◌, after, last_wires}
use Rattle.cell_bits.specs.Bearing.{HasCells, Bears, bears_nothing}
use Rattle.cell_bits.specs.ChoiceLaws.{AreWide}
use Rattle.cell_bits.specs.DataLaws.{joined}
use Rattle.net_grounds.specs.Facts.{Facts}
use Rattle.net_means.proofs.Lists.{no_bits}
use Rattle.net_means.specs.SideBits.Sides.{types_in, IsIdle, index_of_one, at_operand, SideGiven, SideHas}
use Rattle.net_means.proofs.SideBits.Heads.{names, idle_head}
use Rattle.net_means.proofs.SideBits.Operands.{Ground, OperandHas, operand_has}
use Rattle.net_means.proofs.SideBits.Vectors.{vector_within}
use Rattle.net_means.proofs.SideBits.Words.{shown_has, word_fits}

-- so many first parts of bits, each of this width
abbrev chunks : (w k : ℕ) → List Bool → List (List Bool)
chunks w zero b = []
chunks w (suc k) b = take w b ∷ chunks w k (drop w b)

rest_long : (w k : ℕ) (b : List Bool) → length b ≡ suc k * w → (w ≤ length b) × (length (drop w b) ≡ k * w)
rest_long w k b e =
    let more : suc k * w ≡ w + k * w = omega arith in
    let left = length-drop w b in
    (omega (arith, e, more), omega (arith, e, more, left))

chunks_joined : (w k : ℕ) (b : List Bool) → length b ≡ k * w → joined (chunks w k b) ≡ b
chunks_joined w zero b e = let none : length b ≡ 0 = omega (arith, e) in sym (no_bits b none)
chunks_joined w (suc k) b e = ap (λ (x : List Bool). take w b ++ x) (chunks_joined w k (drop w b) (rest_long w k b e).1) ∙ take-append-drop w b

chunks_wide : (w k : ℕ) (b : List Bool) → length b ≡ k * w → AreWide w (chunks w k b)
chunks_wide w zero b e = tt
chunks_wide w (suc k) b e = let at = rest_long w k b e in (length-take-le w b at.0, chunks_wide w k (drop w b) at.1)

chunks_count : (w k : ℕ) (b : List Bool) → length (chunks w k b) ≡ k
chunks_count w zero b = refl
chunks_count w (suc k) b = ap suc (chunks_count w k (drop w b))

chunk_at : (w k i : ℕ) (b : List Bool) → i < k → slice_get (chunks w k b) i ≡ Some (take w (drop (i * w) b))
chunk_at w zero i b l = absurd (omega (arith, l))
chunk_at w (suc k) zero b l = let start : 0 ≡ 0 * w = omega arith in ap (λ j. Some (take w (drop j b))) start
chunk_at w (suc k) (suc i) b l =
    let place : w + i * w ≡ suc i * w = omega arith in
    chunk_at w k i (drop w b) (omega (arith, l)) ∙ ap (λ x. Some (take w x)) (drop-drop (i * w) w b ∙ ap (λ j. drop j b) place)

-- how many elements the vectors have from which `vget` and `vat` take one
get_count : (i m : TypeTree) → closed_value (nat_sum (nat_sum i (nat_lit 1)) m) ≤ VECTOR_LENGTH → closed_value (nat_sum (nat_sum i (nat_lit 1)) m) ≡ suc (closed_value i + closed_value m)
unfolding natural_value
get_count i m l = omega (arith, l)

at_count : (m : TypeTree) → closed_value (nat_sum m (nat_lit 1)) ≤ VECTOR_LENGTH → closed_value (nat_sum m (nat_lit 1)) ≡ suc (closed_value m)
unfolding natural_value
at_count m l = omega (arith, l)

get_piece : {ground : Built} {scope : List Variable} {n w : ℕ} {i m a : TypeTree} {v : TermTree} {p : Piece} → ValueCells ground scope n w (prim VGet) (i ∷ m ∷ a ∷ []) (v ∷ []) p → p ≡ element w (closed_value m) n (wires_of scope v)
get_piece (value_primitive k) = absurd k
get_piece value_element = refl

at_piece : {ground : Built} {scope : List Variable} {n w : ℕ} {m k a : TypeTree} {v i : TermTree} {p : Piece} → ValueCells ground scope n w (prim VAt) (m ∷ k ∷ a ∷ []) (v ∷ i ∷ []) p → p ≡ element_at w (closed_value m) (closed_value k) n (wires_of scope v) (wires_of scope i)
at_piece (value_primitive k) = absurd k
at_piece value_element_at = refl

get_busy : (types : List TypeTree) (i : ℕ) → ¬ IsIdle (prim VGet) types i
get_busy types i idle = let is : prim VGet ≡ prim VAt = idle_head idle in absurd cc

idle_place : {f : TermTree} {types : List TypeTree} {i : ℕ} → IsIdle f types i → i ≡ 1
idle_place (index_of_one e) = refl

idle_count : {m k a : TypeTree} → IsIdle (prim VAt) (m ∷ k ∷ a ∷ []) (suc zero) → closed_value m ≡ 0
idle_count (index_of_one e) = e

-- of one element the index doesn't matter
single : (w k n : ℕ) (v i : List WireId) → element_at w 0 k n v i ≡ element_at w 0 0 n v []
single w k n v i =
    let none : min 0 (2 ^ k) ≡ 0 = omega arith in
    ap (λ (words : List (List Bool)).
    elements w (0 + 1) n v ▸ tests k i words (after n (elements w (0 + 1) n v))
    ▸ chosen w (test_wires k i words (after n (elements w (0 + 1) n v))) (element_wires w (0 + 1) n) (after (after n (elements w (0 + 1) n v)) (tests k i words (after n (elements w (0 + 1) n v)))))
    (ap (λ (count : ℕ). words_from k 0 count) none)

-- the types of `vget`, and of `vat`, on its operands
record GetTyped (s : Setting) (vars : List TypeTree) (i m a : TypeTree) (x : ℕ) (t : TypeTree) : Type 0 where
  vec : HasTypeUpTo s [] vars (var x) (vector (nat_sum (nat_sum i (nat_lit 1)) m) a)
  same : SameTypes a t
  first : KindOf s.datas s.domains [] i Nat

first_kind : {datas : List Data} {domains : ℕ} {t : TypeTree} {ts : TypeTrees} {k : Kind} {ks : List Kind} → KindsOf datas domains [] (type_and t ts) (k ∷ ks) → KindOf datas domains [] t k
first_kind (kind_and k more) = k

second_kind : {datas : List Data} {domains : ℕ} {t u : TypeTree} {ts : TypeTrees} {j k : Kind} {ks : List Kind} → KindsOf datas domains [] (type_and t (type_and u ts)) (j ∷ k ∷ ks) → KindOf datas domains [] u k
second_kind (kind_and j (kind_and k more)) = k

get_typed : Facts → (s : Setting) (vars : List TypeTree) (i m a : TypeTree) (x : ℕ) (t : TypeTree) → IsSound s → AreTermTypes s [] vars → HasType s [] vars (on_names (prim VGet) (i ∷ m ∷ a ∷ []) (x ∷ [])) t → GetTyped s vars i m a x t
unfolding sub
get_typed facts s vars i m a x t sound scoped typed =
    let at = facts.terms.prim_at_arguments s [] vars VGet (Nat ∷ Nat ∷ Val ∷ []) (vector (nat_sum (nat_sum (ty_var 2) (nat_lit 1)) (ty_var 1)) (ty_var 0) ∷ []) (ty_var 0) (i ∷ m ∷ a ∷ []) (names (x ∷ [])) t sound scoped refl refl refl typed in
    record { vec = at.args_given.0; same = at.gives; first = first_kind at.have }

record AtTyped (s : Setting) (vars : List TypeTree) (m k a : TypeTree) (x y : ℕ) (t : TypeTree) : Type 0 where
  vec : HasTypeUpTo s [] vars (var x) (vector (nat_sum m (nat_lit 1)) a)
  index : HasTypeUpTo s [] vars (var y) (scalar U k)
  same : SameTypes a t
  first : KindOf s.datas s.domains [] m Nat
  second : KindOf s.datas s.domains [] k Nat

at_typed : Facts → (s : Setting) (vars : List TypeTree) (m k a : TypeTree) (x y : ℕ) (t : TypeTree) → IsSound s → AreTermTypes s [] vars → HasType s [] vars (on_names (prim VAt) (m ∷ k ∷ a ∷ []) (x ∷ y ∷ [])) t → AtTyped s vars m k a x y t
unfolding sub
at_typed facts s vars m k a x y t sound scoped typed =
    let at = facts.terms.prim_at_arguments s [] vars VAt (Nat ∷ Nat ∷ Val ∷ []) (vector (nat_sum (ty_var 2) (nat_lit 1)) (ty_var 0) ∷ scalar U (ty_var 1) ∷ []) (ty_var 0) (m ∷ k ∷ a ∷ []) (names (x ∷ y ∷ [])) t sound scoped refl refl refl typed in
    record { vec = at.args_given.0; index = at.args_given.1.0; same = at.gives; first = first_kind at.have; second = second_kind at.have }

-- what is shown of a vector is as long as its elements together
vector_long : Facts → {p : Program} {n t : TypeTree} {th : Thunk} {k : History} {b : List Bool} {w : ℕ} → Shows p (vector n t) th k b → HasWidth p.datas t w → (length b ≡ closed_value n * w) × (closed_value n ≤ VECTOR_LENGTH)
vector_long facts {n = n} shown has =
    let at = shown_has shown in
    let parts = facts.widths.element_width at.1 in
    (facts.shows.shown_length shown at.1 ∙ parts.is ∙ ap (λ a. closed_value n * a) (facts.widths.width_once parts.element has), vector_within facts at.1)

-- `vat` on one element shows it, whatever the index
vat_first : Facts → (p : Program) (n t m k a : TypeTree) (w x y : ℕ) (γ : Thunks) (δ : TypeTrees) (h : History) (b : List Bool) → SameValues → HasWidth p.datas t w → closed_value (closed_type m δ) ≡ 0 → closed_value n ≡ 1 → Shows p (vector n t) (closed (var x) γ δ) h b
    → Shows p t (closed (on_names (prim VAt) (m ∷ k ∷ a ∷ []) (x ∷ y ∷ [])) γ δ) h (take w (drop (0 * w) b))
vat_first facts p n t m k a w x y γ δ h b values has is many shown =
    let number : 0 ≡ closed_value (evaluated (closed_type m δ)) = sym (sym (facts.same_layout.same_number values (facts.same.same_evaluated (closed_type m δ))) ∙ is) in
    let below : 0 < closed_value n = omega (arith, many) in
    facts.shows.shows_through
    (λ r z f.
    let step = subst (λ n. Runs p r (at_index n (closed_value (evaluated (closed_type k δ))) (closed (var x) γ δ) (closed (var y) γ δ)) h z) number (r_goes_to f) in
    let d = facts.prims.prim_whole p VAt γ δ h (m ∷ k ∷ a ∷ []) (names (x ∷ y ∷ [])) refl refl r z step in
    (d.0, f_closed d.1))
    (facts.vectors.element_shows p n t w 0 (closed (var x) γ δ) h b has below shown)

module _ (facts : Facts) (o : Origins) (order : List ℕ) (scope : List Variable) (γ : Thunks) (δ : TypeTrees) (net : Net) (path : List ℕ) (h : List Event) (values : SameValues) (keep : FieldsKeepSame) where
  pub get_side : (n w : ℕ) (t : TypeTree) (piece : Piece) (i m a : TypeTree) (x : ℕ) → SideGiven o order scope γ net path h n w t (on_names (prim VGet) (i ∷ m ∷ a ∷ []) (x ∷ [])) piece → SideHas o.program γ δ net path h t (on_names (prim VGet) (i ∷ m ∷ a ∷ []) (x ∷ [])) (last_wires n piece (w ∷ []))
  get_side n w t piece i m a x g =
      let p : Program = o.program in
      let ground : Ground o = record { values = values; keep = keep; sound = g.sound } in
      let typed = get_typed facts (setting_at o) (types_in scope) i m a x g.typed.type g.sound g.scoped g.typed.has in
      let c : TypeTree = nat_sum (nat_sum i (nat_lit 1)) m in
      let v : OperandHas p γ δ net path h scope x (vector c t) =
      operand_has facts o ground scope g.scoped γ δ net path h x (vector c a) (vector c t) typed.vec (same_vector (facts.same.same_self c) (facts.same.same_through typed.same (facts.same.same_turned g.typed.same)))
      (λ it e. g.variables x it (at_operand 0 refl (get_busy (i ∷ m ∷ a ∷ []) 0)) e) in
      let b : List Bool = v.bits in
      let long = vector_long facts (v.carries []) g.wide in
      let count : closed_value c ≡ suc (closed_value i + closed_value m) = get_count i m long.1 in
      let below : closed_value i < closed_value c = omega (arith, count) in
      let number : closed_value (closed_type i δ) ≡ closed_value i = ap closed_value (facts.kinds.closed_put typed.first (type_at δ)) in
      let all : List (List Bool) = chunks w (closed_value c) b in
      let one : List Bool = take w (drop (closed_value i * w) b) in
      let is : piece ≡ element w (closed_value m) n (wires_at scope x) = get_piece g.built in
      let cells = subst (λ (q : Piece). HasCells net path q.cells) is g.cells in
      let whole : Bears net path h (wires_at scope x) (joined all) = subst (λ b. Bears net path h (wires_at scope x) b) (sym (chunks_joined w (closed_value c) b long.0)) v.bears in
      record {
        bits = one;
        carries = λ k. facts.vectors.vget_shows p c t i m a w (closed_value i) (var x) γ δ k b g.wide number below (v.carries k);
        bears = subst (λ (q : Piece). Bears net path h (last_wires n q (w ∷ [])) one) (sym is)
            (facts.data_cells.elements_bear net path h w n (closed_value i) (closed_value m) (wires_at scope x) all one whole (chunks_wide w (closed_value c) b long.0) (chunk_at w (closed_value c) (closed_value i) b below) (chunks_count w (closed_value c) b ∙ count) cells);
      }

  pub at_side : (n w : ℕ) (t : TypeTree) (piece : Piece) (m k a : TypeTree) (x y : ℕ) → SideGiven o order scope γ net path h n w t (on_names (prim VAt) (m ∷ k ∷ a ∷ []) (x ∷ y ∷ [])) piece → SideHas o.program γ δ net path h t (on_names (prim VAt) (m ∷ k ∷ a ∷ []) (x ∷ y ∷ [])) (last_wires n piece (w ∷ []))
  at_side n w t piece m k a x y g = by (closed_value m) refl
    where
      p : Program
      p = o.program

      ground : Ground o
      ground = record { values = values; keep = keep; sound = g.sound }

      typed : AtTyped (setting_at o) (types_in scope) m k a x y g.typed.type
      typed = at_typed facts (setting_at o) (types_in scope) m k a x y g.typed.type g.sound g.scoped g.typed.has

      c : TypeTree
      c = nat_sum m (nat_lit 1)

      v : OperandHas p γ δ net path h scope x (vector c t)
      v = operand_has facts o ground scope g.scoped γ δ net path h x (vector c a) (vector c t) typed.vec (same_vector (facts.same.same_self c) (facts.same.same_through typed.same (facts.same.same_turned g.typed.same)))
          (λ it e. g.variables x it (at_operand 0 refl (λ idle. let place = idle_place idle in absurd (omega (arith, place)))) e)

      all : List (List Bool)
      all = chunks w (closed_value c) v.bits

      long : (length v.bits ≡ closed_value c * w) × (closed_value c ≤ VECTOR_LENGTH)
      long = vector_long facts (v.carries []) g.wide

      count : closed_value c ≡ suc (closed_value m)
      count = at_count m long.1

      whole : Bears net path h (wires_at scope x) (joined all)
      whole = subst (λ b. Bears net path h (wires_at scope x) b) (sym (chunks_joined w (closed_value c) v.bits long.0)) v.bears

      wide : AreWide w all
      wide = chunks_wide w (closed_value c) v.bits long.0

      numbers : closed_value (closed_type m δ) ≡ closed_value m
      numbers = ap closed_value (facts.kinds.closed_put typed.first (type_at δ))

      by : (last : ℕ) → closed_value m ≡ last → SideHas o.program γ δ net path h t (on_names (prim VAt) (m ∷ k ∷ a ∷ []) (x ∷ y ∷ [])) (last_wires n piece (w ∷ []))
      by zero none =
          let one : List Bool = take w (drop (0 * w) v.bits) in
          let some : closed_value c ≡ 1 = omega (arith, count, none) in
          let below : 0 < closed_value c = omega (arith, some) in
          let is : piece ≡ element_at w 0 0 n (wires_at scope x) [] =
          at_piece g.built ∙ ap (λ last. element_at w last (closed_value k) n (wires_at scope x) (wires_at scope y)) none ∙ single w (closed_value k) n (wires_at scope x) (wires_at scope y) in
          let cells = subst (λ (q : Piece). HasCells net path q.cells) is g.cells in
          record {
            bits = one;
            carries = λ z. vat_first facts p c t m k a w x y γ δ z v.bits values g.wide (numbers ∙ none) some (v.carries z);
            bears = subst (λ (q : Piece). Bears net path h (last_wires n q (w ∷ [])) one) (sym is)
                (facts.data_cells.indexed_element_bears net path h w 0 0 n (wires_at scope x) [] all [] one whole wide (chunks_count w (closed_value c) v.bits ∙ some) bears_nothing refl (chunk_at w (closed_value c) 0 v.bits below) cells);
          }
      by (suc l) more =
          let j : OperandHas p γ δ net path h scope y (scalar U k) =
          operand_has facts o ground scope g.scoped γ δ net path h y (scalar U k) (scalar U k) typed.index (facts.same.same_self (scalar U k))
          (λ it e. g.variables y it (at_operand 1 refl (λ idle. let none = idle_count idle in absurd (omega (arith, none, more)))) e) in
          let last : ℕ = closed_value m in
          let size = (word_fits facts (j.carries [])).0 in
          let place : ℕ = min (number_of j.bits) last in
          let one : List Bool = take w (drop (place * w) v.bits) in
          let below : place < closed_value c = omega (arith, count) in
          let is : piece ≡ element_at w last (closed_value k) n (wires_at scope x) (wires_at scope y) = at_piece g.built in
          let cells = subst (λ (q : Piece). HasCells net path q.cells) is g.cells in
          let width : closed_value (closed_type k δ) ≡ length j.bits = ap closed_value (facts.kinds.closed_put typed.second (type_at δ)) ∙ sym size in
          record {
            bits = one;
            carries = λ z. facts.vectors.vat_shows p c t m k a U k w last (var x) (var y) γ δ z v.bits j.bits g.wide numbers count (v.carries z) width (j.carries z);
            bears = subst (λ (q : Piece). Bears net path h (last_wires n q (w ∷ [])) one) (sym is)
                (facts.data_cells.indexed_element_bears net path h w last (closed_value k) n (wires_at scope x) (wires_at scope y) all j.bits one whole wide (chunks_count w (closed_value c) v.bits ∙ count) j.bears size (chunk_at w (closed_value c) place v.bits below) cells);
          }
