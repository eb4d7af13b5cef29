-- Vectors as right sides.
use Rattle.std.specs.Prelude.{nat_le, if◌then◌else◌}
use Rattle.std.proofs.Common.{◌≡◌, ◌≤◌, ℕ, suc, Bool, true, false, List, [], ◌∷◌, Some, slice_get, refl, sym, ap, ◌∙◌, subst, arith}
use Rattle.std.proofs.lemmas.Bool.{leb-true}
use Rattle.chw_base.specs.declared.index.WireId.{WireId}
use Rattle.chw_base.specs.declared.limits.TheConstants.{VECTOR_LENGTH}
use Rattle.chw_clock.specs.declared.event.Event.{Event}
use Rattle.chw_types.specs.declared.declarations.Data.{Data}
use Rattle.chw_types.specs.declared.kind.Kind.{Kind}
use Rattle.chw_types.specs.SamePromises.{SameValues, natural_value}
use Rattle.chw_types.specs.SameTypes.{SameTypes}
use Rattle.chw_types.specs.TypeTree.{TypeTree, TypeTrees, nat_lit, vector}
use Rattle.type_laws.specs.SameKept.{FieldsKeepSame}
use Rattle.chw_terms.specs.TermTree.{TermTree, var, vec_lit}
use Rattle.chw_terms.specs.TermView.{terms_of}
use Rattle.chw_typing.specs.Scopes.{Setting, AreTermTypes}
use Rattle.chw_typing.specs.Typing.{HasType, h_vec, AllHave, none_have, have_and, count}
use Rattle.rewriting.specs.Origins.{Origins, setting_at}
use Rattle.chw_layout.specs.declared.outcome.NoLayout.TheVariants.{Length as OverLength}
use Rattle.chw_layout.specs.Measured.{Measure, fits, too_wide, closed_value, data_measure, vector_measure, HasWidth}
use Rattle.chw_meaning.specs.Values.{closed, Thunks, count_of, closed_all}
use Rattle.carrying.specs.Carrying.{Shows, CarryEach, carry_none, carry_each}
use Rattle.netlist.specs.declared.net.Cell.TheVariants.{Join}
use Rattle.netlist.specs.declared.net.Net.{Net}
use Rattle.net_built.specs.Bodies.{ValueCells, value_vector}
use Rattle.net_built.specs.Circuits.{Ground as Built}
use Rattle.net_built.specs.Terms.{Variable, list_of, wires_of_all}
use Rattle.net_built.specs.Wires.{wire, Piece, one, last_wires}
use Rattle.cell_bits.specs.Bearing.{HasCells, Bears, BearEach, bear_none, bear_and}
use Rattle.cell_bits.specs.DataLaws.{joined}
use Rattle.net_grounds.specs.Facts.{Facts}
use Rattle.net_means.proofs.Lists.{found_in_map}
use Rattle.net_means.specs.SideBits.Sides.{types_in, HasBits, SideGiven, SideHas, at_element}
use Rattle.net_means.proofs.SideBits.Heads.{names}
use Rattle.net_means.proofs.SideBits.Operands.{Ground, OperandHas, operand_has}

-- a vector with a width is within the limit on lengths
within_limit : (n x : ℕ) (b : Bool) (w : ℕ) → (b ≡ true → n ≤ VECTOR_LENGTH) → fits w ≡ (if b then data_measure x else too_wide (OverLength n)) → n ≤ VECTOR_LENGTH
within_limit n x true w h e = h refl
within_limit n x false w h e = absurd cc

measure_within : (n : ℕ) (m : Measure) (w : ℕ) → fits w ≡ vector_measure n m → n ≤ VECTOR_LENGTH
measure_within n (fits a) w e = within_limit n _ (nat_le n VECTOR_LENGTH) w (leb-true n VECTOR_LENGTH) e
measure_within n (too_wide x) w e = absurd cc

pub vector_within : Facts → {datas : List Data} {n t : TypeTree} {w : ℕ} → HasWidth datas (vector n t) w → closed_value n ≤ VECTOR_LENGTH
vector_within facts {n = n} {w = w} has = let v = facts.measures.vector_measured has in measure_within (closed_value n) v.of w v.is

-- so it has as many elements as its type says
as_many_elements : Facts → (values : SameValues) (datas : List Data) (k : ℕ) (n t : TypeTree) (w : ℕ) → SameTypes (nat_lit k) n → HasWidth datas (vector n t) w → k ≡ closed_value n
unfolding natural_value
as_many_elements facts values datas k n t w same has =
    let number = facts.same_layout.same_number values same in
    let within = vector_within facts has in
    omega (arith, number, within)

vector_piece : {ground : Built} {scope : List Variable} {n w : ℕ} {u : TypeTree} (es : List TermTree) {p : Piece} → ValueCells ground scope n w (vec_lit u (terms_of es)) [] [] p → p ≡ one w (Join (wire n) (wires_of_all scope (list_of (terms_of es))))
vector_piece es value_vector = refl

listed : (es : List TermTree) → list_of (terms_of es) ≡ es
listed [] = refl
listed (e ∷ es) = ap (λ l. e ∷ l) (listed es)

many_closed : (es : List TermTree) (γ : Thunks) (δ : TypeTrees) → count_of (closed_all (terms_of es) γ δ) ≡ count (terms_of es)
many_closed [] γ δ = refl
many_closed (e ∷ es) γ δ = ap suc (many_closed es γ δ)

vector_typed : {s : Setting} {kinds : List Kind} {vars : List TypeTree} {u t : TypeTree} (es : List TermTree) → HasType s kinds vars (vec_lit u (terms_of es)) t → (t ≡ vector (nat_lit (count (terms_of es))) u) × AllHave s kinds vars u (terms_of es)
vector_typed es (h_vec is all) = (refl, all)

module _ (facts : Facts) (o : Origins) (order : List ℕ) (scope : List Variable) (γ : Thunks) (δ : TypeTrees) (net : Net) (path : List ℕ) (h : List Event) (values : SameValues) (keep : FieldsKeepSame) where
  -- variables as elements of this type
  record ElementsHave (xs : List ℕ) (v : TypeTree) : Type 0 where
    bits : List (List Bool)
    carry : CarryEach o.program v (closed_all (terms_of (names xs)) γ δ) (joined bits)
    bear : BearEach net path h (wires_of_all scope (names xs)) bits

  elements_have : Ground o → AreTermTypes (setting_at o) [] (types_in scope) → (u v : TypeTree) (xs : List ℕ) → AllHave (setting_at o) [] (types_in scope) u (terms_of (names xs)) → SameTypes u v
      → ((i x : ℕ) (it : Variable) → slice_get xs i ≡ Some x → slice_get scope x ≡ Some it → HasBits o.program net path h γ x it) → ElementsHave xs v
  elements_have ground scoped u v [] none_have same has = record { bits = []; carry = carry_none; bear = bear_none }
  elements_have ground scoped u v (x ∷ xs) (have_and {u = c} typed equal more) same has =
      let one : OperandHas o.program γ δ net path h scope x v = operand_has facts o ground scope scoped γ δ net path h x u v (record { type = c; has = typed; same = equal }) same (λ it e. has 0 x it refl e) in
      let rest = elements_have ground scoped u v xs more same (λ i y it e f. has (suc i) y it e f) in
      record { bits = one.bits ∷ rest.bits; carry = carry_each one.carries rest.carry; bear = bear_and one.bears rest.bear }

  pub vector_side : (n w : ℕ) (t : TypeTree) (piece : Piece) (u : TypeTree) (xs : List ℕ) → SideGiven o order scope γ net path h n w t (vec_lit u (terms_of (names xs))) piece → SideHas o.program γ δ net path h t (vec_lit u (terms_of (names xs))) (last_wires n piece (w ∷ []))
  vector_side n w t piece u xs g =
      let ground : Ground o = record { values = values; keep = keep; sound = g.sound } in
      let typed = vector_typed (names xs) g.typed.has in
      let at = facts.same.as_vector (facts.same.same_turned (subst (SameTypes t) typed.0 g.typed.same)) in
      let wide : HasWidth o.program.datas (vector at.0 at.1) w = subst (λ t. HasWidth o.program.datas t w) at.2 g.wide in
      let all = elements_have ground g.scoped u at.1 xs typed.1 at.4
      (λ i x it e f. g.variables x it (at_element i (ap (λ es. slice_get es i) (listed (names xs)) ∙ found_in_map (λ x. var x) xs i x e)) f) in
      let many : count_of (closed_all (terms_of (names xs)) γ δ) ≡ closed_value at.0 =
      many_closed (names xs) γ δ ∙ as_many_elements facts values o.program.datas (count (terms_of (names xs))) at.0 at.1 w at.3 wide in
      let wires : List WireId = wires_of_all scope (names xs) in
      let is : piece ≡ one w (Join (wire n) wires) = vector_piece (names xs) g.built ∙ ap (λ es. one w (Join (wire n) (wires_of_all scope es))) (listed (names xs)) in
      let cells : HasCells net path (one w (Join (wire n) wires)).cells = subst (λ (q : Piece). HasCells net path q.cells) is g.cells in
      let carries = facts.vectors.vector_carries o.program at.0 at.1 u w (terms_of (names xs)) γ δ (joined all.bits) wide many all.carry in
      record {
        bits = joined all.bits;
        carries = λ g. subst (λ t. Shows o.program t (closed (vec_lit u (terms_of (names xs))) γ δ) g (joined all.bits)) (sym at.2) (carries g);
        bears = subst (λ (q : Piece). Bears net path h (last_wires n q (w ∷ [])) (joined all.bits)) (sym is)
            (facts.data_cells.vector_bears net path h w n wires all.bits all.bear (facts.shows.shown_length (carries []) wide) cells);
      }
