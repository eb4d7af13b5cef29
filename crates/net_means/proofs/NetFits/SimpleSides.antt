-- Variables, literals and vectors as right sides: their cells agree in width.
use Rattle.std.specs.Prelude.{nat_le, if◌then◌else◌}
use Rattle.std.proofs.Common.{◌≡◌, ℕ, zero, suc, ◌+◌, ◌*◌, ◌≤◌, arith, Bool, true, false, List, [], ◌∷◌, ◌++◌, length, refl, sym, ap, ◌∙◌, subst}
use Rattle.std.specs.List.{AllByRecursion}
use Rattle.std.proofs.lemmas.Bool.{leb-true}
use Rattle.std.proofs.Math.Nat.{suc-mul}
use Rattle.chw_base.specs.declared.index.WireId.{WireId}
use Rattle.chw_base.specs.declared.limits.TheConstants.{VECTOR_LENGTH}
use Rattle.chw_types.specs.declared.declarations.Data.{Data}
use Rattle.chw_types.specs.declared.kind.Kind.{Kind}
use Rattle.chw_types.specs.declared.kind.Scalar.{Scalar}
use Rattle.chw_types.specs.SamePromises.{SameValues, natural_value}
use Rattle.chw_types.specs.SameTypes.{SameTypes}
use Rattle.chw_types.specs.TypeTree.{TypeTree, nat_lit, scalar, vector}
use Rattle.chw_terms.specs.TermTree.{TermTree, var, lit, vec_lit}
use Rattle.chw_typing.specs.Typing.{count}
use Rattle.chw_terms.specs.TermView.{terms_of}
use Rattle.chw_typing.specs.HeadTypes.{widest}
use Rattle.chw_typing.specs.Programs.{IsSound}
use Rattle.chw_typing.specs.Scopes.{Setting, HasKind, IsTermType}
use Rattle.chw_typing.specs.Typing.{HasType, h_lit, h_vec, AllHave, none_have, have_and}
use Rattle.chw_layout.specs.declared.outcome.NoLayout.TheVariants.{Length as OverLength}
use Rattle.chw_layout.specs.Measured.{closed_value, data_measure, fits, HasWidth, Measure, too_wide, vector_measure}
use Rattle.layout_laws.specs.SameLayout.{SameKeepsMeasure}
use Rattle.netlist.specs.declared.net.Module.{Module}
use Rattle.net_rules.specs.WellFormed.{WidthsAgree}
use Rattle.net_built.specs.Bodies.{ValueCells, value_variable, value_literal, value_vector}
use Rattle.net_built.specs.Circuits.{Ground}
use Rattle.net_built.specs.Terms.{list_of, Variable, wires_at, wires_of_all}
use Rattle.net_built.specs.Wires.{copy_cells, present, Piece}
use Rattle.net_grounds.specs.Facts.{Facts}
use Rattle.net_means.specs.NetFits.Widths.{AreWide, StandFrom, WideAt}
use Rattle.net_means.proofs.NetFits.Scopes.{Fits}
use Rattle.net_means.proofs.NetFits.Shapes.{names}
use Rattle.net_means.proofs.NetFits.ValueWidths.{variable_wide}
use Rattle.net_means.proofs.NetFits.WordWidths.{Agree, const_agrees, join_agrees, total_of, wide_append}

-- copies of wires are as wide as these
pub copies_agree : (earlier : List Module) (all : List ℕ) (n : ℕ) (wires : List WireId) (ws : List ℕ) → AreWide all wires ws → StandFrom all n ws → AllByRecursion (WidthsAgree earlier all) (copy_cells n wires)
copies_agree earlier all n [] ws h stand = tt
copies_agree earlier all n (a ∷ wires) [] h stand = absurd h
copies_agree earlier all n (a ∷ wires) (w ∷ ws) h stand = ((w, stand.0, h.0), copies_agree earlier all (n + 1) wires ws h.1 stand.1)

pub name_agrees : (earlier : List Module) (all : List ℕ) {ground : Ground} {scope : List Variable} {n w x : ℕ} {p : Piece} → ValueCells ground scope n w (var x) [] [] p → AreWide all (wires_at scope x) (present (w ∷ [])) → StandFrom all n p.widths → Agree earlier all p
name_agrees earlier all {scope = scope} {n = n} {w = w} {x = x} value_variable h stand = record { cells = copies_agree earlier all n (wires_at scope x) (present (w ∷ [])) h stand }

-- a literal is as wide as each type that it has up to naturals
literal_wide : Facts → (values : SameValues) (datas : List Data) (t u : TypeTree) (r : Scalar) (n w : ℕ) → u ≡ scalar r (nat_lit n) → n ≤ widest → SameTypes t u → HasWidth datas t w → n ≡ w
unfolding natural_value
literal_wide facts values datas t u r n w is small same has =
    let at = facts.same.as_scalar (facts.same.same_turned (subst (SameTypes t) is same)) in
    let wide : HasWidth datas (scalar r at.0) w = subst (λ t. HasWidth datas t w) at.1 has in
    let number = facts.same_layout.same_number values at.2 in
    let width = facts.widths.scalar_width wide in
    omega (arith, number, width, small)

literal_typed : {s : Setting} {vars : List TypeTree} {r : Scalar} {bits : List Bool} {u : TypeTree} → HasType s [] vars (lit r bits) u → (u ≡ scalar r (nat_lit (length bits))) × (length bits ≤ widest)
literal_typed (h_lit l) = (refl, l)

pub literal_agrees : Facts → (earlier : List Module) (all : List ℕ) (values : SameValues) {s : Setting} {vars : List TypeTree} {ground : Ground} {scope : List Variable} {n w : ℕ} {r : Scalar} {bits : List Bool} {t u : TypeTree} {p : Piece} → ValueCells ground scope n w (lit r bits) [] [] p → HasType s [] vars (lit r bits) u → SameTypes t u → HasWidth s.datas t w → StandFrom all n p.widths → Agree earlier all p
literal_agrees facts earlier all values {s} {n = n} {w = w} {r = r} {bits = bits} {t} {u} value_literal typed same has stand =
    let at = literal_typed typed in
    const_agrees earlier all n w bits (literal_wide facts values s.datas t u r (length bits) w at.0 at.1 same has) stand

-- a vector with a width is within the limit on lengths
within_limit : (n x : ℕ) (b : Bool) (w : ℕ) → (b ≡ true → n ≤ VECTOR_LENGTH) → fits w ≡ (if b then data_measure x else too_wide (OverLength n)) → n ≤ VECTOR_LENGTH
within_limit n x true w h e = h refl
within_limit n x false w h e = absurd cc

measure_within : (n : ℕ) (m : Measure) (w : ℕ) → fits w ≡ vector_measure n m → n ≤ VECTOR_LENGTH
measure_within n (fits a) w e = within_limit n _ (nat_le n VECTOR_LENGTH) w (leb-true n VECTOR_LENGTH) e
measure_within n (too_wide x) w e = absurd cc

pub vector_within : Facts → {datas : List Data} {n t : TypeTree} {w : ℕ} → HasWidth datas (vector n t) w → closed_value n ≤ VECTOR_LENGTH
vector_within facts {n = n} {w = w} has = let v = facts.measures.vector_measured has in measure_within (closed_value n) v.of w v.is

counted : Facts → (datas : List Data) (c : ℕ) (t : TypeTree) (w : ℕ) → HasWidth datas (vector (nat_lit c) t) w → closed_value (nat_lit c) ≡ c
unfolding natural_value
counted facts datas c t w has = let within = vector_within facts has in omega (arith, within)

vector_typed : {s : Setting} {vars : List TypeTree} {v u : TypeTree} (es : List TermTree) → HasType s [] vars (vec_lit v (terms_of es)) u → (u ≡ vector (nat_lit (count (terms_of es))) v) × IsTermType s [] v × AllHave s [] vars v (terms_of es)
vector_typed es (h_vec is all) = (refl, is, all)

-- so many parts of one width
abbrev repeated : ℕ → ℕ → List ℕ
repeated zero a = []
repeated (suc c) a = present (a ∷ []) ++ repeated c a

repeated_total : (c a : ℕ) → total_of (repeated c a) ≡ c * a
repeated_total zero a = omega arith
repeated_total (suc c) zero = let rest = repeated_total c zero in let e = suc-mul c zero in omega (arith, rest, e)
repeated_total (suc c) (suc a) = let rest = repeated_total c (suc a) in let e = suc-mul c (suc a) in omega (arith, rest, e)

elements_wide : Facts → SameKeepsMeasure → (s : Setting) (all : List ℕ) → IsSound s → (vars : List TypeTree) (scope : List Variable) → Fits vars scope → ((y : ℕ) → WideAt s.datas all scope y) → (v : TypeTree) (k : Kind) (a : ℕ) → HasKind s [] v k → HasWidth s.datas v a → (xs : List ℕ) → AllHave s [] vars v (terms_of (names xs))
    → AreWide all (wires_of_all scope (list_of (terms_of (names xs)))) (repeated (count (terms_of (names xs))) a)
elements_wide facts law s all sound vars scope fit wide v k a kind has [] none_have = tt
elements_wide facts law s all sound vars scope fit wide v k a kind has (x ∷ xs) (have_and {u = u} typed same more) =
    wide_append all (wires_at scope x) (wires_of_all scope (list_of (terms_of (names xs)))) (present (a ∷ [])) (repeated (count (terms_of (names xs))) a)
    (variable_wide facts law s all sound vars scope x v u k a fit (wide x) typed kind same has) (elements_wide facts law s all sound vars scope fit wide v k a kind has xs more)

pub vector_agrees : Facts → SameKeepsMeasure → (earlier : List Module) (s : Setting) (all : List ℕ) → IsSound s → (vars : List TypeTree) (scope : List Variable) → Fits vars scope → ((y : ℕ) → WideAt s.datas all scope y) → (v t u : TypeTree) (k : Kind) (xs : List ℕ) {ground : Ground} {n w : ℕ} {p : Piece} → ValueCells ground scope n w (vec_lit v (terms_of (names xs))) [] [] p
    → HasType s [] vars (vec_lit v (terms_of (names xs))) u → HasKind s [] t k → SameTypes t u → HasWidth s.datas t w → StandFrom all n p.widths → Agree earlier all p
vector_agrees facts law earlier s all sound vars scope fit wide v t u k xs {n = n} {w = w} value_vector typed kind same has stand =
    let at = vector_typed (names xs) typed in
    let many : ℕ = count (terms_of (names xs)) in
    let whole : HasWidth s.datas (vector (nat_lit many) v) w = law (fits w) s t (vector (nat_lit many) v) sound (record { kind = k; has = kind; same = subst (SameTypes t) at.0 same }) has in
    let element = facts.widths.element_width whole in
    let count_is : closed_value (nat_lit many) ≡ many = counted facts s.datas many v w whole in
    let size : total_of (repeated many element.a) ≡ w = repeated_total many element.a ∙ ap (λ c. c * element.a) (sym count_is) ∙ sym element.is in
    join_agrees earlier all n w (wires_of_all scope (list_of (terms_of (names xs)))) (repeated many element.a) (elements_wide facts law s all sound vars scope fit wide v at.1.kind element.a at.1.has element.element xs at.2) size stand
