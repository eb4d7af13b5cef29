-- Right sides that take elements of vectors: their cells agree in width.
use Rattle.std.proofs.Common.{◌≡◌, ℕ, suc, ◌+◌, ◌*◌, ◌≤◌, arith, List, [], ◌∷◌, refl, sym, ◌∙◌, subst}
use Rattle.chw_types.specs.declared.kind.Kind.{Kind}
use Rattle.chw_types.specs.declared.kind.Kind.TheVariants.{Nat, Val}
use Rattle.chw_types.specs.declared.kind.Scalar.TheVariants.{U}
use Rattle.chw_base.specs.declared.limits.TheConstants.{VECTOR_LENGTH}
use Rattle.chw_types.specs.SamePromises.{SameValues, natural_value}
use Rattle.chw_types.specs.SameTypes.{SameTypes}
use Rattle.chw_types.specs.TypeMoves.{sub}
use Rattle.chw_types.specs.TypeTree.{TypeTree, nat_lit, nat_sum, scalar, ty_var, vector}
use Rattle.chw_prims.specs.declared.prim.Primitive.TheVariants.{VGet, VAt}
use Rattle.chw_terms.specs.TermTree.{TermTree, var, prim}
use Rattle.chw_typing.specs.Programs.{IsSound}
use Rattle.chw_typing.specs.Scopes.{Setting, HasKind, AreTermTypes}
use Rattle.chw_typing.specs.Typing.{HasType, HasTypeUpTo}
use Rattle.normal_forms.specs.Values.{on_names}
use Rattle.chw_layout.specs.Measured.{closed_value, fits, HasWidth}
use Rattle.layout_laws.specs.SameLayout.{SameKeepsMeasure}
use Rattle.netlist.specs.declared.net.Module.{Module}
use Rattle.net_built.specs.Bodies.{ValueCells, value_primitive, value_element, value_element_at}
use Rattle.net_built.specs.Circuits.{Ground}
use Rattle.net_built.specs.Terms.{Variable, wires_at, wires_of}
use Rattle.net_built.specs.Vectors.{element, element_at}
use Rattle.net_built.specs.Wires.{present, Piece}
use Rattle.net_grounds.specs.Facts.{Facts}
use Rattle.net_means.specs.NetFits.Widths.{AreWide, StandFrom, WideAt}
use Rattle.net_means.proofs.NetFits.Choosing.{element_agrees, element_at_agrees}
use Rattle.net_means.proofs.NetFits.Scopes.{Fits, found, var_at, wires_there}
use Rattle.net_means.proofs.NetFits.Shapes.{names}
use Rattle.net_means.proofs.NetFits.SimpleSides.{vector_within}
use Rattle.net_means.proofs.NetFits.WordSides.{word_wide}
use Rattle.net_means.proofs.NetFits.WordWidths.{Agree}

-- how many elements the vectors have from which an element is taken
get_count : (i m : TypeTree) → closed_value (nat_sum (nat_sum i (nat_lit 1)) m) ≤ VECTOR_LENGTH → closed_value (nat_sum (nat_sum i (nat_lit 1)) m) ≡ closed_value i + suc (closed_value m)
unfolding natural_value
get_count i m l = omega (arith, l)

at_count : (m : TypeTree) → closed_value (nat_sum m (nat_lit 1)) ≤ VECTOR_LENGTH → closed_value (nat_sum m (nat_lit 1)) ≡ closed_value m + 1
unfolding natural_value
at_count m l = omega (arith, l)

get_piece : {ground : Ground} {scope : List Variable} {n w : ℕ} {i m a : TypeTree} {v : TermTree} {p : Piece} → ValueCells ground scope n w (prim VGet) (i ∷ m ∷ a ∷ []) (v ∷ []) p → p ≡ element w (closed_value m) n (wires_of scope v)
get_piece (value_primitive k) = absurd k
get_piece value_element = refl

at_piece : {ground : Ground} {scope : List Variable} {n w : ℕ} {m k a : TypeTree} {v i : TermTree} {p : Piece} → ValueCells ground scope n w (prim VAt) (m ∷ k ∷ a ∷ []) (v ∷ i ∷ []) p → p ≡ element_at w (closed_value m) (closed_value k) n (wires_of scope v) (wires_of scope i)
at_piece (value_primitive k) = absurd k
at_piece value_element_at = refl

module _ (facts : Facts) (law : SameKeepsMeasure) (values : SameValues) (s : Setting) (all : List ℕ) (sound : IsSound s) (vars : List TypeTree) (scope : List Variable) (fit : Fits vars scope) (wide : (y : ℕ) → WideAt s.datas all scope y) where
  -- a variable that is used as a vector of elements of this width
  record VectorWide (x : ℕ) (n : TypeTree) (w : ℕ) : Type 0 where
    wires : AreWide all (wires_at scope x) (present (closed_value n * w ∷ []))
    within : closed_value n ≤ VECTOR_LENGTH

  vector_wide : (x : ℕ) (n a t : TypeTree) (k : Kind) (w : ℕ) → HasTypeUpTo s [] vars (var x) (vector n a) → HasKind s [] t k → SameTypes t a → HasWidth s.datas t w → VectorWide x n w
  vector_wide x n a t k w given kind same has =
      let at = found facts vars scope x given.type fit (var_at given.has) in
      let form = facts.same.as_vector (facts.same.same_through given.same at.same) in
      let it = wide x at.it at.is in
      let whole : HasWidth s.datas (vector form.0 form.1) it.width = subst (λ t. HasWidth s.datas t it.width) form.2 it.has in
      let part = facts.widths.element_width whole in
      let element : HasWidth s.datas form.1 w = law (fits w) s t form.1 sound (record { kind = k; has = kind; same = facts.same.same_through same form.4 }) has in
      let number : closed_value n ≡ closed_value form.0 = facts.same_layout.same_number values form.3 in
      let limit = vector_within facts whole in
      let width : it.width ≡ closed_value n * w = part.is ∙ (λ i. sym number i * facts.widths.width_once part.element element i) in
      record {
        wires = subst (λ w. AreWide all (wires_at scope x) (present (w ∷ []))) width (subst (λ ws. AreWide all ws (present (it.width ∷ []))) (sym (wires_there scope x at.it at.is)) it.wide);
        within = omega (arith, number, limit);
      }

  module _ (earlier : List Module) (scoped : AreTermTypes s [] vars) {ground : Ground} {n w : ℕ} {p : Piece} (t u : TypeTree) (k : Kind) (kind : HasKind s [] t k) (same : SameTypes t u) (has : HasWidth s.datas t w) (stand : StandFrom all n p.widths) where
    pub get_agrees : (i m a : TypeTree) (x : ℕ) → HasType s [] vars (on_names (prim VGet) (i ∷ m ∷ a ∷ []) (x ∷ [])) u → ValueCells ground scope n w (prim VGet) (i ∷ m ∷ a ∷ []) (var x ∷ []) p → Agree earlier all p
    unfolding sub
    get_agrees i m a x typed cells =
        let is = get_piece cells in
        let at = facts.terms.prim_at_arguments s [] vars VGet (Nat ∷ Nat ∷ Val ∷ []) (vector (nat_sum (nat_sum (ty_var 2) (nat_lit 1)) (ty_var 1)) (ty_var 0) ∷ []) (ty_var 0) (i ∷ m ∷ a ∷ []) (names (x ∷ [])) u sound scoped refl refl refl typed in
        let v = vector_wide x (nat_sum (nat_sum i (nat_lit 1)) m) a t k w at.args_given.0 kind (facts.same.same_through same (facts.same.same_turned at.gives)) has in
        subst (Agree earlier all) (sym is)
        (element_agrees earlier all w (closed_value i) (closed_value m) n (wires_at scope x) (subst (λ c. AreWide all (wires_at scope x) (present (c * w ∷ []))) (get_count i m v.within) v.wires) (subst (λ (p : Piece). StandFrom all n p.widths) is stand))

    pub at_agrees : (m j a : TypeTree) (x y : ℕ) → HasType s [] vars (on_names (prim VAt) (m ∷ j ∷ a ∷ []) (x ∷ y ∷ [])) u → ValueCells ground scope n w (prim VAt) (m ∷ j ∷ a ∷ []) (var x ∷ var y ∷ []) p → Agree earlier all p
    unfolding sub
    at_agrees m j a x y typed cells =
        let is = at_piece cells in
        let at = facts.terms.prim_at_arguments s [] vars VAt (Nat ∷ Nat ∷ Val ∷ []) (vector (nat_sum (ty_var 2) (nat_lit 1)) (ty_var 0) ∷ scalar U (ty_var 1) ∷ []) (ty_var 0) (m ∷ j ∷ a ∷ []) (names (x ∷ y ∷ [])) u sound scoped refl refl refl typed in
        let v = vector_wide x (nat_sum m (nat_lit 1)) a t k w at.args_given.0 kind (facts.same.same_through same (facts.same.same_turned at.gives)) has in
        let index = word_wide facts values s all vars scope fit wide y U j at.args_given.1.0 in
        subst (Agree earlier all) (sym is)
        (element_at_agrees earlier all w (closed_value m) (closed_value j) n (wires_at scope x) (wires_at scope y) (subst (λ c. AreWide all (wires_at scope x) (present (c * w ∷ []))) (at_count m v.within) v.wires) index.wires (subst (λ (p : Piece). StandFrom all n p.widths) is stand))
