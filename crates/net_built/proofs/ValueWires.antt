-- The wires of the results of values are determined by those of the variables that occur. The wires
-- of a letrec's bindings are so by induction along their references, which lead back to none.
use Rattle.std.proofs.Common.{◌≡◌, ℕ, zero, suc, ◌+◌, ◌-◌, ◌<◌, ◌||◌, ◌==◌, Bool, true, arith, List, [], ◌∷◌, ◌++◌, length, reverse, refl, sym, ap, ◌∙◌, subst, append_assoc, eq-eqb}
use Rattle.std.specs.Prelude.{nat_lt}
use Rattle.std.proofs.lemmas.Bool.{or_left, or_right, and_from, lt-ltb}
use Rattle.std.proofs.lemmas.List.{length-map, length-reverse, reverse-append}
use Rattle.chw_base.specs.declared.index.WireId.{WireId}
use Rattle.chw_types.specs.declared.declarations.Data.{Data}
use Rattle.chw_types.specs.Arguments.{arguments}
use Rattle.chw_types.specs.TypeMoves.{sub}
use Rattle.chw_types.specs.TypeTree.{TypeTree}
use Rattle.chw_terms.specs.declared.scene.Sort.{Sort}
use Rattle.chw_terms.specs.declared.scene.Sort.TheVariants.{Value}
use Rattle.chw_terms.specs.declared.term.Pattern.{Pattern}
use Rattle.chw_terms.specs.Occurs.{occurs, occurs_group, occurs_alts}
use Rattle.chw_terms.specs.TermTree.{TermTree, var, Group, no_bindings, bind, Alts, binders, size_of}
use Rattle.chw_typing.specs.HeadTypes.{PatternOf, of_con, of_lit, of_any}
use Rattle.graph_order.specs.References.{HasNoCycle}
use Rattle.chw_typing.proofs.Reaching.{place_of, place_earlier}
use Rattle.net_built.specs.Bodies.{ValueCells, BlockBuilt, block_variable, block_letrec, GroupBuilt, group_none, group_and, SideBuilt, side_of_value, side_of_case, AltsBuilt, alts_none, alts_and}
use Rattle.net_built.specs.Circuits.{Ground}
use Rattle.net_built.specs.Data.{HaveWidths, Tested, variables_from, tests, test_wires, words_of, chosen, chosen_wires, case_wires, last_of}
use Rattle.net_built.specs.Loops.{side_at, refers, HasNoLoops, HaveNoLoops, HasNoLoopsIn}
use Rattle.net_built.specs.Terms.{head_of, types_of, operands_of, Variable, wires_at}
use Rattle.net_built.specs.Wires.{wires_from, wire_count, Piece, after}
use Rattle.net_built.proofs.Parts.{width_once}
use Rattle.net_built.proofs.ValueSizes.{types_in, value_sizes, side_sizes, block_sizes, test_count, tests_widths, chosen_widths, no_more, type_at, front_types, onto_types, bound_types, case_along, alternative_along}

-- where one variable occurs, the two scopes have the same wires for it
abbrev pub Agree : (ℕ → Bool) → List Variable → List Variable → Type 0
Agree P s u = (x : ℕ) → P x ≡ true → wires_at s x ≡ wires_at u x

-- induction along references that lead back to none
module _ (goes : ℕ → ℕ → Bool) (none : HasNoCycle (λ i j. goes i j ≡ true)) (n : ℕ) (P : ℕ → Type 0)
    (step : (i : ℕ) → i < n → ((j : ℕ) → j < n → goes i j ≡ true → P j) → P i) where
  place : ℕ → ℕ
  place i = place_of goes (λ i j. goes i j ≡ true) (λ i j h. h) none n i

  by_place : (k i : ℕ) → i < n → place i < k → P i
  unfolding place
  by_place zero i l m = absurd (omega (arith, m))
  by_place (suc k) i l m =
      step i l (λ j lj h.
      let falls : place j < place i = place_earlier goes (λ i j. goes i j ≡ true) (λ i j h. h) none n i j lj h in
      by_place k j lj (omega (arith, falls, m)))

  pub along_references : (i : ℕ) → i < n → P i
  along_references i l = by_place (suc (place i)) i l (omega arith)

-- the first of a list in reverse comes last
reverse_onto : (x : Variable) (b s : List Variable) → reverse (x ∷ b) ++ s ≡ reverse b ++ (x ∷ s)
reverse_onto x b s = ap (λ (l : List Variable). l ++ s) (reverse-append (x ∷ []) b) ∙ append_assoc (reverse b) (x ∷ []) s

wires_along : {s u : List Variable} (x : ℕ) → s ≡ u → wires_at s x ≡ wires_at u x
wires_along x e = ap (λ (s : List Variable). wires_at s x) e

next_wires : (v w : Variable) (s u b c : List Variable) (y : ℕ)
    → ((k : ℕ) → length (v ∷ b) ≡ suc k + y → wires_at (v ∷ b) k ≡ wires_at (w ∷ c) k)
    → ((z : ℕ) → y ≡ z + length (v ∷ b) → wires_at s z ≡ wires_at u z)
    → (z : ℕ) → y ≡ z + length b → wires_at (v ∷ s) z ≡ wires_at (w ∷ u) z
next_wires v w s u b c y inner outer zero h = inner 0 (omega (arith, h))
next_wires v w s u b c y inner outer (suc z) h = outer z (omega (arith, h))

-- a variable is one of several that come in turn before others, or one of those
onto_wires : (b c s u : List Variable) (y : ℕ) → length b ≡ length c
    → ((k : ℕ) → length b ≡ suc k + y → wires_at b k ≡ wires_at c k)
    → ((z : ℕ) → y ≡ z + length b → wires_at s z ≡ wires_at u z)
    → wires_at (reverse b ++ s) y ≡ wires_at (reverse c ++ u) y
onto_wires [] [] s u y e inner outer = outer y (omega arith)
onto_wires [] (w ∷ c) s u y e inner outer = no_more e
onto_wires (v ∷ b) [] s u y e inner outer = no_more (sym e)
onto_wires (v ∷ b) (w ∷ c) s u y e inner outer =
    let fewer : length b ≡ length c = omega (arith, e) in
    let within : (k : ℕ) → length b ≡ suc k + y → wires_at b k ≡ wires_at c k = λ k h. inner (suc k) (omega (arith, h)) in
    wires_along y (reverse_onto v b s) ∙ onto_wires b c (v ∷ s) (w ∷ u) y fewer within (next_wires v w s u b c y inner outer) ∙ sym (wires_along y (reverse_onto w c u))

-- a variable is one of the front, or one of those behind
front_wires : (front s u : List Variable) (y : ℕ) → ((z : ℕ) → y ≡ z + length front → wires_at s z ≡ wires_at u z) → wires_at (front ++ s) y ≡ wires_at (front ++ u) y
front_wires [] s u y outer = outer y (omega arith)
front_wires (v ∷ front) s u zero outer = refl
front_wires (v ∷ front) s u (suc y) outer = front_wires front s u y (λ z h. outer z (omega (arith, h)))

bound_count : {ground : Ground} {sort : Sort} {s : List Variable} {n : ℕ} {g : Group} {p : Piece} {b : List Variable} → GroupBuilt ground sort s n g p b → length b ≡ size_of g
bound_count group_none = refl
bound_count (group_and side more) = ap suc (bound_count more)

variables_count : (datas : List Data) (ts : List TypeTree) (ws : List ℕ) (n : ℕ) → HaveWidths datas ts ws → length (variables_from n ts ws) ≡ length ts
variables_count datas [] [] n h = refl
variables_count datas [] (w ∷ ws) n h = absurd h
variables_count datas (t ∷ ts) [] n h = absurd h
variables_count datas (t ∷ ts) (w ∷ ws) n h = ap suc (variables_count datas ts ws (n + wire_count (w ∷ [])) h.1)

pattern_count : {datas : List Data} {u : TypeTree} {q : Pattern} {fs : List TypeTree} → PatternOf datas u q fs → length fs ≡ binders q
pattern_count (of_con {ts = ts} it i j k) = length-map it.decl.fields (λ f. sub f (arguments ts)) ∙ k
pattern_count (of_lit l s) = refl
pattern_count of_any = refl

-- what occurs in a right side occurs in the group
side_in_group : (g : Group) (i y : ℕ) → i < size_of g → occurs (side_at g i) y ≡ true → occurs_group g y ≡ true
unfolding occurs occurs_group
side_in_group no_bindings i y l h = absurd (omega (arith, l))
side_in_group (bind t e g) zero y l h = or_left (occurs e y) (occurs_group g y) h
side_in_group (bind t e g) (suc i) y l h = or_right (occurs e y) (occurs_group g y) (side_in_group g i y (omega (arith, l)) h)

same_place : (g : Group) (i k y : ℕ) → size_of g ≡ suc k + y → occurs (side_at g i) y ≡ true → refers g i k ≡ true
same_place g i k y e h =
    let place : size_of g - 1 - k ≡ y = omega (arith, e) in
    let below : k < size_of g = omega (arith, e) in
    and_from (nat_lt k (size_of g)) (occurs (side_at g i) (size_of g - 1 - k)) (lt-ltb k (size_of g) below) (ap (λ z. occurs (side_at g i) z) place ∙ h)

abbrev last_by : ℕ → List ℕ → List ℕ → List WireId
last_by n widths parts = wires_from (n + length widths - wire_count parts) (wire_count parts)

same_choice : (w : ℕ) (ts us : List WireId) (rs vs : List (List WireId)) (at bt : ℕ) → length ts ≡ length us → at ≡ bt → rs ≡ vs → chosen_wires w ts rs at ≡ chosen_wires w us vs bt
same_choice w [] [] rs vs at bt e f same = ap (λ (rs : List (List WireId)). last_of rs) same
same_choice w [] (u ∷ us) rs vs at bt e f same = no_more e
same_choice w (t ∷ ts) [] rs vs at bt e f same = no_more (sym e)
same_choice w (t ∷ ts) (u ∷ us) rs vs at bt e f same =
    let count : length rs ≡ length vs = ap (λ (rs : List (List WireId)). length rs) same in
    let widths : (chosen w (t ∷ ts) rs at).widths ≡ (chosen w (u ∷ us) vs bt).widths = chosen_widths w (t ∷ ts) (u ∷ us) rs vs at bt e count in
    λ i. last_by (f i) (widths i) (w ∷ [])

case_same : (on om : Tested) (alts : Alts) (w n : ℕ) (p q : Piece) (rs vs : List (List WireId)) → on.bits ≡ om.bits → on.cells.widths ≡ om.cells.widths → on.first ≡ om.first → p.widths ≡ q.widths → rs ≡ vs
    → case_wires on alts w n p rs ≡ case_wires om alts w n q vs
case_same on om alts w n p q rs vs bits cells first same results =
    let a : List (List Bool) = words_of on.bits on.first alts in
    let b : List (List Bool) = words_of om.bits om.first alts in
    let words : a ≡ b = λ i. words_of (bits i) (first i) alts in
    let m : ℕ = after (after n on.cells) p in
    let l : ℕ = after (after n om.cells) q in
    let start : m ≡ l = λ i. n + length (cells i) + length (same i) in
    let tested : (tests on.bits on.wires a m).widths ≡ (tests om.bits om.wires b l).widths =
    tests_widths on.bits a on.wires om.wires m l ∙ (λ i. (tests (bits i) om.wires (words i) l).widths) in
    let counts : length (test_wires on.bits on.wires a m) ≡ length (test_wires om.bits om.wires b l) =
    test_count on.bits a on.wires m ∙ ap (λ (ws : List (List Bool)). length ws) words ∙ sym (test_count om.bits b om.wires l) in
    same_choice w (test_wires on.bits on.wires a m) (test_wires om.bits om.wires b l) rs vs (after m (tests on.bits on.wires a m)) (after l (tests om.bits om.wires b l)) counts (λ i. start i + length (tested i)) results

mutual
  unfolding occurs occurs_group occurs_alts

  side_wires : {ground : Ground} {s u : List Variable} {n : ℕ} {t : TypeTree} {e : TermTree} {p q : Piece} {r v : List WireId} → SideBuilt ground Value s n t e p r → SideBuilt ground Value u n t e q v
      → types_in s ≡ types_in u → Agree (occurs e) s u → HasNoLoops e → r ≡ v
  side_wires {ground} {u = u} {n = n} {e = e} {q = q} (side_of_value a cells) (side_of_value b further) types agree free =
      let widths = width_once a b in
      let sizes = value_sizes cells (subst (λ w. ValueCells ground u n w (head_of e) (types_of e) (operands_of e) q) (sym widths) further) in
      λ i. last_by n (sizes i) (widths i ∷ [])
  side_wires (side_of_value a cells) (side_of_case on i h w is built) types agree free = elim cells [ ]
  side_wires (side_of_case on i h w is built) (side_of_value a cells) types agree free = elim cells [ ]
  side_wires {s = s} {u = u} {n = n} (side_of_case {x = x} {whole = whole} {w = w} {alts = alts} {it = it} {p = p} {results = rs} on i h a is built) (side_of_case {whole = other} {w = v} {it = jt} {p = q} {results = vs} om j k b iz others) types agree free =
      let ty = type_at s u x it jt i j types in
      let same = case_along it jt on om whole other ty h k is iz others in
      let below : Agree (occurs_alts alts) s u = λ y o. agree y (or_right (x == y) (occurs_alts alts y) o) in
      let rest = alts_wires built same.alternatives ty types below free in
      case_same on om alts w n p q rs vs same.bits same.cells same.first rest.0 rest.1 ∙ ap (λ w. case_wires om alts w n q vs) (width_once a b)

  alts_wires : {ground : Ground} {s u : List Variable} {it jt : Variable} {below n : ℕ} {alts : Alts} {p q : Piece} {rs vs : List (List WireId)} → AltsBuilt ground s it below n alts p rs → AltsBuilt ground u jt below n alts q vs
      → it.ty ≡ jt.ty → types_in s ≡ types_in u → Agree (occurs_alts alts) s u → HasNoLoopsIn alts → (p.widths ≡ q.widths) × (rs ≡ vs)
  alts_wires alts_none alts_none ty types agree free = (refl, refl)
  alts_wires {ground} {s} {u} {it} {jt} {n = n} (alts_and {q = pattern} {e = e} {more = rest_of} {fields = fs} {r = r} ws formed have is block more) (alts_and us formed' have' is' block' others) ty types agree free =
      let front : List Variable = reverse (variables_from n fs ws) in
      let count : length front ≡ binders pattern = length-reverse (variables_from n fs ws) ∙ variables_count ground.datas fs ws n have ∙ pattern_count formed in
      let within : Agree (occurs e) (front ++ s) (front ++ u) =
      λ y o. front_wires front s u y (λ z h.
      let place : y ≡ z + binders pattern = h ∙ ap (λ k. z + k) count in
      agree z (or_left (occurs e (z + binders pattern)) (occurs_alts rest_of z) (ap (λ y. occurs e y) (sym place) ∙ o))) in
      let behind : Agree (occurs_alts rest_of) s u = λ y o. agree y (or_right (occurs e (y + binders pattern)) (occurs_alts rest_of y) o) in
      let same = alternative_along it jt ws us ty formed have is formed' have' is' block' others in
      let widths = block_sizes block same.block (front_types front s u types) in
      let wires = block_wires block same.block (front_types front s u types) within free.0 in
      let rest = alts_wires more (same.rest r widths) ty types behind free.1 in
      (λ i. same.cells i ++ (widths i ++ rest.0 i), λ i. wires i ∷ rest.1 i)

  pub block_wires : {ground : Ground} {s u : List Variable} {n : ℕ} {e : TermTree} {p q : Piece} {r v : List WireId} → BlockBuilt ground Value s n e p r → BlockBuilt ground Value u n e q v
      → types_in s ≡ types_in u → Agree (occurs e) s u → HasNoLoops e → r ≡ v
  block_wires (block_variable {x = x}) block_variable types agree free = agree x (eq-eqb x x refl)
  block_wires {s = s} {u = u} (block_letrec {x = x} {g = g} b more) (block_letrec c others) types agree free =
      let size : length b ≡ size_of g = bound_count more in
      let as_many : length b ≡ length c = size ∙ sym (bound_count others) in
      let inside = onto_types b c s u (bound_types more ∙ sym (bound_types others)) types in
      let outer : (y z : ℕ) → y ≡ z + length b → (occurs_group g (z + size_of g) || occurs (var x) (z + size_of g)) ≡ true → wires_at s z ≡ wires_at u z = λ y z h o. agree z o in
      let all : (i : ℕ) → i < size_of g → wires_at b i ≡ wires_at c i =
      along_references (refers g) free.0 (size_of g) (λ i. wires_at b i ≡ wires_at c i) (λ i l before.
      group_wires more others inside i l
      (λ y o. onto_wires b c s u y as_many
      (λ k h. before k (omega (arith, h, size)) (same_place g i k y (sym size ∙ h) o))
      (λ z h.
      let place : y ≡ z + size_of g = h ∙ ap (λ k. z + k) size in
      outer y z h (or_left (occurs_group g (z + size_of g)) (occurs (var x) (z + size_of g)) (ap (λ y. occurs_group g y) (sym place) ∙ side_in_group g i y l o))))
      free.1) in
      onto_wires b c s u x as_many (λ k h. all k (omega (arith, h, size)))
      (λ z h.
      let place : x ≡ z + size_of g = h ∙ ap (λ k. z + k) size in
      outer x z h (or_right (occurs_group g (z + size_of g)) (occurs (var x) (z + size_of g)) (eq-eqb x (z + size_of g) place)))

  group_wires : {ground : Ground} {s u : List Variable} {n : ℕ} {g : Group} {p q : Piece} {b c : List Variable} → GroupBuilt ground Value s n g p b → GroupBuilt ground Value u n g q c
      → types_in s ≡ types_in u → (i : ℕ) → i < size_of g → Agree (occurs (side_at g i)) s u → HaveNoLoops g → wires_at b i ≡ wires_at c i
  group_wires group_none group_none types i l agree free = refl
  group_wires (group_and side more) (group_and other others) types zero l agree free = side_wires side other types agree free.0
  group_wires {ground} {u = u} {n = n} (group_and {g = g} side more) (group_and {bound = c} {q = q} other others) types (suc i) l agree free =
      let first = side_sizes side other types in
      group_wires more (subst (λ k. GroupBuilt ground Value u k g q c) (sym (ap (λ (ws : List ℕ). n + length ws) first)) others) types i (omega (arith, l)) agree free.1
