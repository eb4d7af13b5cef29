-- Right sides that are primitives on words: their operands have the widths that the lines take.
use Rattle.std.specs.Prelude.{slice_index}
use Rattle.std.proofs.Common.{◌≡◌, ℕ, zero, suc, ◌≤◌, arith, List, [], ◌∷◌, length, map, refl, sym, ap, ◌∙◌, subst}
use Rattle.chw_base.specs.declared.limits.TheConstants.{SCALAR_BITS}
use Rattle.chw_types.specs.declared.kind.Kind.{Kind}
use Rattle.chw_types.specs.declared.kind.Scalar.{Scalar}
use Rattle.chw_types.specs.declared.kind.Scalar.TheVariants.{U, B}
use Rattle.chw_types.specs.Arguments.{arguments}
use Rattle.chw_types.specs.SamePromises.{SameValues, natural_value}
use Rattle.chw_types.specs.SameTypes.{SameTypes}
use Rattle.chw_types.specs.TypeMoves.{sub}
use Rattle.chw_types.specs.TypeTree.{TypeTree, scalar}
use Rattle.chw_types.specs.TypeView.{trees_of}
use Rattle.chw_prims.specs.declared.prim.Primitive.{Primitive as Prim}
use Rattle.chw_prims.specs.declared.row.Row.{Row}
use Rattle.chw_prims.specs.declared.row.Row.TheVariants.{Binary, WideSum, WideProduct, Unary, Shift, Compare, Extend, Truncate, Cut, Joined, Reduce, Packed, Unpacked}
use Rattle.chw_prims.specs.Schemas.{row_of}
use Rattle.chw_terms.specs.TermTree.{TermTree, var, prim}
use Rattle.chw_typing.specs.Programs.{IsSound}
use Rattle.chw_typing.specs.Scopes.{Setting, HasKind, AreTermTypes}
use Rattle.chw_typing.specs.Typing.{HasType, HasTypeUpTo}
use Rattle.chw_typing.specs.Given.{AreGiven}
use Rattle.rewriting.specs.Origins.{Origins}
use Rattle.rewriting.specs.Spots.{IsOnWords, IsRowOnWords}
use Rattle.normal_forms.specs.Values.{IsSide}
use Rattle.chw_layout.specs.Measured.{closed_value, fits, HasWidth}
use Rattle.layout_laws.specs.SameLayout.{SameKeepsMeasure}
use Rattle.netlist.specs.declared.net.Module.{Module}
use Rattle.net_built.specs.Bodies.{ValueCells, value_variable, value_literal, value_constructor, value_vector, value_primitive, value_element, value_element_at, value_call, operand_at}
use Rattle.net_built.specs.Circuits.{Ground}
use Rattle.net_built.specs.Terms.{head_of, types_of, operands_of, Variable, wires_at}
use Rattle.net_built.specs.Wires.{present, Piece}
use Rattle.net_grounds.specs.Facts.{Facts}
use Rattle.net_means.specs.NetFits.Widths.{AreWide, StandFrom, WideAt}
use Rattle.net_means.proofs.NetFits.CircuitDrivers.{operands_then}
use Rattle.net_means.proofs.WordRows.{kinds_of, params_of, result_of, row_is, scalar_within, one_type, two_types, three_types}
use Rattle.net_means.proofs.NetFits.Scopes.{Fits, found, var_at, wires_there}
use Rattle.net_means.proofs.NetFits.Shapes.{names}
use Rattle.net_means.proofs.NetFits.ValueEnds.{prim_saturated, prim_side, types_after, wide_asks}
use Rattle.net_means.proofs.NetFits.WordWidths.{Agree, TakesWidths, words_agree}

-- any variable's wires have some width
any_wide : (datas : List _) (all : List ℕ) (scope : List Variable) (x : ℕ) → ((y : ℕ) → WideAt datas all scope y) → (w : ℕ) × AreWide all (wires_at scope x) (present (w ∷ []))
any_wide datas all [] zero h = (0, tt)
any_wide datas all [] (suc x) h = (0, tt)
any_wide datas all (v ∷ scope) zero h = let it = h 0 v refl in (it.width, it.wide)
any_wide datas all (v ∷ scope) (suc x) h = any_wide datas all scope x (λ y. h (suc y))

-- operands of words of these widths
pub record Operands (all : List ℕ) (scope : List Variable) (row : Row) (types : List TypeTree) (es : List TermTree) : Type 0 where
  pub one : ℕ
  pub two : ℕ
  pub takes : TakesWidths row (slice_index (map closed_value types) 0) (slice_index (map closed_value types) 1) one two
  pub first : AreWide all (operand_at scope es 0) (present (one ∷ []))
  pub second : AreWide all (operand_at scope es 1) (present (two ∷ []))

module _ (facts : Facts) (values : SameValues) (s : Setting) (all : List ℕ) (vars : List TypeTree) (scope : List Variable) (fit : Fits vars scope) (wide : (y : ℕ) → WideAt s.datas all scope y) where
  -- a variable that is used as a word
  pub record WordWide (x : ℕ) (n : TypeTree) : Type 0 where
    pub wires : AreWide all (wires_at scope x) (present (closed_value n ∷ []))
    pub small : closed_value n ≤ SCALAR_BITS

  pub word_wide : (x : ℕ) (r : Scalar) (n : TypeTree) → HasTypeUpTo s [] vars (var x) (scalar r n) → WordWide x n
  word_wide x r n given =
      let at = found facts vars scope x given.type fit (var_at given.has) in
      let form = facts.same.as_scalar (facts.same.same_through given.same at.same) in
      let it = wide x at.it at.is in
      let has : HasWidth s.datas (scalar r form.0) it.width = subst (λ t. HasWidth s.datas t it.width) form.1 it.has in
      let number : closed_value n ≡ closed_value form.0 = facts.same_layout.same_number values form.2 in
      let width : it.width ≡ closed_value n = facts.widths.scalar_width has ∙ sym number in
      let within = scalar_within facts has in
      record {
        wires = subst (λ w. AreWide all (wires_at scope x) (present (w ∷ []))) width (subst (λ ws. AreWide all ws (present (it.width ∷ []))) (sym (wires_there scope x at.it at.is)) it.wide);
        small = omega (arith, number, within);
      }

  -- one operand, and two
  record OneWord (n : TypeTree) (xs : List ℕ) : Type 0 where
    first : AreWide all (operand_at scope (names xs) 0) (present (closed_value n ∷ []))
    other : (w : ℕ) × AreWide all (operand_at scope (names xs) 1) (present (w ∷ []))
    small : closed_value n ≤ SCALAR_BITS

  one_word : (r : Scalar) (n : TypeTree) (xs : List ℕ) → AreGiven s [] vars (scalar r n ∷ []) (names xs) → OneWord n xs
  one_word r n [] given = absurd given
  one_word r n (x ∷ []) given =
      let it = word_wide x r n given.0 in record { first = it.wires; other = any_wide s.datas all scope 0 wide; small = it.small }
  one_word r n (x ∷ y ∷ xs) given = absurd given.1

  record TwoWords (n m : TypeTree) (xs : List ℕ) : Type 0 where
    first : AreWide all (operand_at scope (names xs) 0) (present (closed_value n ∷ []))
    second : AreWide all (operand_at scope (names xs) 1) (present (closed_value m ∷ []))
    small : closed_value n ≤ SCALAR_BITS

  two_words : (q r : Scalar) (n m : TypeTree) (xs : List ℕ) → AreGiven s [] vars (scalar q n ∷ scalar r m ∷ []) (names xs) → TwoWords n m xs
  two_words q r n m [] given = absurd given
  two_words q r n m (x ∷ []) given = absurd given.1
  two_words q r n m (x ∷ y ∷ []) given =
      let a = word_wide x q n given.0 in
      let b = word_wide y r m given.1.0 in
      record { first = a.wires; second = b.wires; small = a.small }
  two_words q r n m (x ∷ y ∷ z ∷ xs) given = absurd given.1.1

  abbrev Taking : Row → List TypeTree → Type 0
  Taking row types =
      (xs : List ℕ) (w : ℕ) → AreGiven s [] vars (map (λ p. sub p (arguments (trees_of types))) (params_of row)) (names xs) → HasWidth s.datas (sub (result_of row) (arguments (trees_of types))) w
      → Operands all scope row types (names xs)

  by_one : (row : Row) (types : List TypeTree) (xs : List ℕ) (n : TypeTree) (o : OneWord n xs) → TakesWidths row (slice_index (map closed_value types) 0) (slice_index (map closed_value types) 1) (closed_value n) o.other.0 → Operands all scope row types (names xs)
  by_one row types xs n o takes = record { one = closed_value n; two = o.other.0; takes = takes; first = o.first; second = o.other.1 }

  by_two : (row : Row) (types : List TypeTree) (xs : List ℕ) (n m : TypeTree) → TwoWords n m xs → TakesWidths row (slice_index (map closed_value types) 0) (slice_index (map closed_value types) 1) (closed_value n) (closed_value m) → Operands all scope row types (names xs)
  by_two row types xs n m o takes = record { one = closed_value n; two = closed_value m; takes = takes; first = o.first; second = o.second }

  row_takes : (row : Row) → IsRowOnWords row → (types : List TypeTree) → length types ≡ length (kinds_of row) → Taking row types
  unfolding sub natural_value
  row_takes (Binary x) on = one_type (Taking (Binary x)) (λ n xs w given has. let o = two_words x x n n xs given in by_two (Binary x) (n ∷ []) xs n n o (refl, refl, o.small))
  row_takes (WideSum x) on = one_type (Taking (WideSum x)) (λ n xs w given has. let l = scalar_within facts has in by_two (WideSum x) (n ∷ []) xs n n (two_words x x n n xs given) (refl, refl, omega (arith, l)))
  row_takes (WideProduct x) on = two_types (Taking (WideProduct x)) (λ n m xs w given has. let l = scalar_within facts has in by_two (WideProduct x) (n ∷ m ∷ []) xs n m (two_words x x n m xs given) (refl, refl, omega (arith, l)))
  row_takes (Unary x) on = one_type (Taking (Unary x)) (λ n xs w given has. by_one (Unary x) (n ∷ []) xs n (one_word x n xs given) refl)
  row_takes (Shift x) on = two_types (Taking (Shift x)) (λ n m xs w given has. by_two (Shift x) (n ∷ m ∷ []) xs n m (two_words x U n m xs given) (refl, refl))
  row_takes (Compare x) on = one_type (Taking (Compare x)) (λ n xs w given has. by_two (Compare x) (n ∷ []) xs n n (two_words x x n n xs given) (refl, refl))
  row_takes (Extend x) on = two_types (Taking (Extend x)) (λ n m xs w given has. by_one (Extend x) (n ∷ m ∷ []) xs n (one_word x n xs given) refl)
  row_takes (Truncate x) on = two_types (Taking (Truncate x)) (λ n m xs w given has. let o = one_word x _ xs given in let l = o.small in by_one (Truncate x) (n ∷ m ∷ []) xs _ o (omega (arith, l)))
  row_takes Cut on = three_types (Taking Cut) (λ l n u xs w given has. let o = one_word B _ xs given in let k = o.small in by_one Cut (l ∷ n ∷ u ∷ []) xs _ o (omega (arith, k)))
  row_takes Joined on = two_types (Taking Joined) (λ n m xs w given has. by_two Joined (n ∷ m ∷ []) xs n m (two_words B B n m xs given) (refl, refl))
  row_takes Reduce on = one_type (Taking Reduce) (λ n xs w given has. by_one Reduce (n ∷ []) xs n (one_word B n xs given) refl)
  row_takes (Packed x) on = one_type (Taking (Packed x)) (λ n xs w given has. by_one (Packed x) (n ∷ []) xs n (one_word x n xs given) refl)
  row_takes (Unpacked x) on = one_type (Taking (Unpacked x)) (λ n xs w given has. by_one (Unpacked x) (n ∷ []) xs n (one_word B n xs given) refl)
  row_takes _ on = absurd on

  -- a typed primitive on words has such operands
  pub side_operands : SameKeepsMeasure → {o : Origins} → IsSound s → {shown : List TypeTree} {e : TermTree} {t u : TypeTree} {k : Kind} {w : ℕ} → IsSide o shown e → AreTermTypes s [] vars → HasType s [] vars e u → HasKind s [] t k → SameTypes t u → HasWidth s.datas t w → (q : Prim) → head_of e ≡ prim q → IsOnWords q → Operands all scope (row_of q) (types_of e) (operands_of e)
  side_operands law sound {e = e} {t = t} {u = u} {k = k} {w = w} form scoped typed kind same has q h on =
      let side = prim_side form q h in
      let row : Row = row_of q in
      let line = row_is row on in
      let sat = prim_saturated facts s vars q (kinds_of row) (params_of row) (result_of row) side.types side.xs u sound scoped line.0 (side.count ∙ line.1) (subst (λ e. HasType s [] vars e u) side.is typed) (wide_asks facts has same) in
      let result = law (fits w) s t (sub (result_of row) (arguments (trees_of side.types))) sound (record { kind = k; has = kind; same = facts.same.same_through same (facts.same.same_turned sat.1.gives) }) has in
      let all_given = row_takes row on side.types sat.0 side.xs w sat.1.args_given result in
      let types : types_of e ≡ side.types = ap (λ e. types_of e) side.is ∙ types_after (prim q) side.types (names side.xs) in
      let terms : operands_of e ≡ names side.xs = ap (λ e. operands_of e) side.is ∙ operands_then (prim q) side.types (names side.xs) in
      subst (λ es. Operands all scope row (types_of e) es) (sym terms) (subst (λ ts. Operands all scope row ts (names side.xs)) (sym types) all_given)

no_words : {A : Type 0} (r q : Prim) → prim r ≡ prim q → IsOnWords q → (IsOnWords r → A) → A
no_words r q e on f = let is : q ≡ r = cc in f (subst IsOnWords is on)

-- its cells agree in width
pub prim_cells_agree : (earlier : List Module) (all : List ℕ) {ground : Ground} {scope : List Variable} {n w : ℕ} {h : TermTree} {ts : List TypeTree} {es : List TermTree} {p : Piece} → ValueCells ground scope n w h ts es p → (q : Prim) → h ≡ prim q → IsOnWords q → Operands all scope (row_of q) ts es → StandFrom all n p.widths → Agree earlier all p
prim_cells_agree earlier all value_variable q h on o stand = absurd cc
prim_cells_agree earlier all value_literal q h on o stand = absurd cc
prim_cells_agree earlier all (value_constructor i f) q h on o stand = absurd cc
prim_cells_agree earlier all value_vector q h on o stand = absurd cc
prim_cells_agree earlier all {scope = scope} {n = n} {ts = ts} {es = es} (value_primitive {p = r} k) q h on o stand =
    let is : q ≡ r = cc in
    let given = subst (λ q. Operands all scope (row_of q) ts es) is o in
    words_agree earlier all r k (slice_index (map closed_value ts) 0) (slice_index (map closed_value ts) 1) given.one given.two n (operand_at scope es 0) (operand_at scope es 1) given.takes given.first given.second stand
prim_cells_agree earlier all value_element q h on o stand = no_words _ q h on (λ k. absurd k)
prim_cells_agree earlier all value_element_at q h on o stand = no_words _ q h on (λ k. absurd k)
prim_cells_agree earlier all value_call q h on o stand = absurd cc
