-- How many wires the cells of values drive, and how wide they are, doesn't depend on the wires of the
-- variables in scope.
use Rattle.std.proofs.Common.{◌≡◌, ℕ, zero, suc, ◌+◌, ◌-◌, ◌^◌, min, Bool, arith, List, [], ◌∷◌, ◌++◌, length, map, reverse, Some, refl, sym, ap, ◌∙◌, subst}
use Rattle.std.specs.Prelude.{zip}
use Rattle.std.specs.List.{slice_get}
use Rattle.std.proofs.lemmas.List.{length-map, length-reverse, reverse-append}
use Rattle.chw_base.specs.declared.index.WireId.{WireId}
use Rattle.chw_types.specs.declared.declarations.Data.{Data}
use Rattle.chw_types.specs.declared.kind.Scalar.{Scalar}
use Rattle.chw_types.specs.declared.kind.Scalar.TheVariants.{U, S, B}
use Rattle.chw_types.specs.Arguments.{arguments}
use Rattle.chw_types.specs.TypeTree.{TypeTree, data_of}
use Rattle.chw_types.specs.TypeView.{trees_of}
use Rattle.chw_prims.specs.declared.prim.Primitive.{Primitive as Prim}
use Rattle.chw_prims.specs.declared.prim.Primitive.TheVariants.{XaddU, XaddS, XmulU, XmulS, ShlU, ShlS, ShlB, ShrU, ShrS, ShrB, EqU, EqS, EqB, LtU as PrimLtU, LtS as PrimLtS, ExtU, ExtS, ExtB, RedAnd as PrimRedAnd, RedOr as PrimRedOr, RedXor as PrimRedXor}
use Rattle.chw_terms.specs.declared.scene.Sort.{Sort}
use Rattle.chw_terms.specs.declared.scene.Sort.TheVariants.{Value}
use Rattle.chw_terms.specs.declared.term.Pattern.{Pattern}
use Rattle.chw_terms.specs.Constructors.{Constructor}
use Rattle.chw_terms.specs.TermTree.{TermTree, Group, Alts}
use Rattle.chw_typing.specs.HeadTypes.{PatternOf}
use Rattle.chw_typing.specs.Scopes.{declared}
use Rattle.chw_layout.specs.Measured.{closed_value, fits, tag_width, HasWidth, MeasuredFields}
use Rattle.chw_layout.proofs.Measures.{fields_once}
use Rattle.netlist.specs.declared.net.Op1.{Op1}
use Rattle.netlist.specs.declared.net.Op1.TheVariants.{RedAnd, RedOr, RedXor}
use Rattle.netlist.specs.declared.net.Op2.{Op2}
use Rattle.netlist.specs.declared.net.Op2.TheVariants.{Add, Mul, Eq, LtU, LtS, Shl, Shr, Sar}
use Rattle.net_built.specs.Bodies.{ValueCells, value_variable, value_literal, value_constructor, value_vector, value_primitive, value_element, value_element_at, value_call, BlockBuilt, block_variable, block_letrec, GroupBuilt, group_none, group_and, SideBuilt, side_of_value, side_of_case, AltsBuilt, alts_none, alts_and}
use Rattle.net_built.specs.Circuits.{Ground}
use Rattle.net_built.specs.Data.{HaveWidths, field_cuts, Tested, tested_of, variables_from, test, tests, test_wires, words_of, choices, chosen, case_cells}
use Rattle.net_built.specs.Terms.{head_of, types_of, operands_of, Variable}
use Rattle.net_built.specs.Vectors.{element, elements, element_wires, words_from, element_at}
use Rattle.net_built.specs.Wires.{wire, present, Piece, after}
use Rattle.net_built.specs.Words.{only, compared, shifted, reduced, extended, widened, word_cells}
use Rattle.net_built.proofs.Parts.{same_some, width_once, widths_once, pattern_once}

-- the types of the variables in scope
abbrev pub types_in : List Variable → List TypeTree
types_in scope = map (λ (v : Variable). v.ty) scope

compared_widths : (op : Op2) (n at bt : ℕ) (a b c d : List WireId) → (compared op n at a b).widths ≡ (compared op n bt c d).widths
compared_widths op zero at bt a b c d = refl
compared_widths op (suc n) at bt a b c d = refl

shifted_widths : (op : Op2) (n k at bt : ℕ) (a b c d : List WireId) → (shifted op n k at a b).widths ≡ (shifted op n k bt c d).widths
shifted_widths op n zero at bt a b c d = refl
shifted_widths op n (suc k) at bt a b c d = refl

reduced_widths : (op : Op1) (n at bt : ℕ) (a c : List WireId) → (reduced op n at a).widths ≡ (reduced op n bt c).widths
reduced_widths op zero at bt a c = refl
reduced_widths op (suc n) at bt a c = refl

extended_widths : (x : Scalar) (n m at bt : ℕ) (a c : List WireId) → (extended x n m at a).widths ≡ (extended x n m bt c).widths
extended_widths x n zero at bt a c = refl
extended_widths x zero (suc m) at bt a c = refl
extended_widths U (suc n) (suc m) at bt a c = refl
extended_widths S (suc n) (suc m) at bt a c = refl
extended_widths B (suc n) (suc m) at bt a c = refl

widened_widths : (x : Scalar) (op : Op2) (w n k at bt : ℕ) (a b c d : List WireId) → (widened x op w n k at a b).widths ≡ (widened x op w n k bt c d).widths
widened_widths x op w n k at bt a b c d =
    λ i. extended_widths x n (w - n) at bt a c i ++ (extended_widths x k (w - k) (after at (extended x n (w - n) at a)) (after bt (extended x n (w - n) bt c)) b d i ++ present (w ∷ []))

word_widths : (p : Prim) (n m at bt : ℕ) (a b c d : List WireId) → (word_cells p n m at a b).widths ≡ (word_cells p n m bt c d).widths
word_widths XaddU n m at bt a b c d = widened_widths U Add (n + 1) n n at bt a b c d
word_widths XaddS n m at bt a b c d = widened_widths S Add (n + 1) n n at bt a b c d
word_widths XmulU n m at bt a b c d = widened_widths U Mul (n + m) n m at bt a b c d
word_widths XmulS n m at bt a b c d = widened_widths S Mul (n + m) n m at bt a b c d
word_widths ShlU n m at bt a b c d = shifted_widths Shl n m at bt a b c d
word_widths ShlS n m at bt a b c d = shifted_widths Shl n m at bt a b c d
word_widths ShlB n m at bt a b c d = shifted_widths Shl n m at bt a b c d
word_widths ShrU n m at bt a b c d = shifted_widths Shr n m at bt a b c d
word_widths ShrS n m at bt a b c d = shifted_widths Sar n m at bt a b c d
word_widths ShrB n m at bt a b c d = shifted_widths Shr n m at bt a b c d
word_widths EqU n m at bt a b c d = compared_widths Eq n at bt a b c d
word_widths EqS n m at bt a b c d = compared_widths Eq n at bt a b c d
word_widths EqB n m at bt a b c d = compared_widths Eq n at bt a b c d
word_widths PrimLtU n m at bt a b c d = compared_widths LtU n at bt a b c d
word_widths PrimLtS n m at bt a b c d = compared_widths LtS n at bt a b c d
word_widths ExtU n m at bt a b c d = extended_widths U n m at bt a c
word_widths ExtS n m at bt a b c d = extended_widths S n m at bt a c
word_widths ExtB n m at bt a b c d = extended_widths B n m at bt a c
word_widths PrimRedAnd n m at bt a b c d = reduced_widths RedAnd n at bt a c
word_widths PrimRedOr n m at bt a b c d = reduced_widths RedOr n at bt a c
word_widths PrimRedXor n m at bt a b c d = reduced_widths RedXor n at bt a c
word_widths _ n m at bt a b c d = refl

elements_widths : (w count at bt : ℕ) (v u : List WireId) → (elements w count at v).widths ≡ (elements w count bt u).widths
elements_widths w zero at bt v u = refl
elements_widths w (suc behind) at bt v u = λ i. present (w ∷ []) ++ elements_widths w behind (after at (element w behind at v)) (after bt (element w behind bt u)) v u i

test_width : (k : ℕ) (bits : List Bool) (a b : List WireId) (at bt : ℕ) → (test k a bits at).widths ≡ (test k b bits bt).widths
test_width zero bits a b at bt = refl
test_width (suc k) bits a b at bt = refl

pub tests_widths : (k : ℕ) (words : List (List Bool)) (a b : List WireId) (at bt : ℕ) → (tests k a words at).widths ≡ (tests k b words bt).widths
tests_widths k [] a b at bt = refl
tests_widths k (bits ∷ more) a b at bt = λ i. test_width k bits a b at bt i ++ tests_widths k more a b (after at (test k a bits at)) (after bt (test k b bits bt)) i

pub test_count : (k : ℕ) (words : List (List Bool)) (a : List WireId) (at : ℕ) → length (test_wires k a words at) ≡ length words
test_count k [] a at = refl
test_count k (bits ∷ more) a at = ap suc (test_count k more a (after at (test k a bits at)))

pub no_more : {A : Type 0} {n : ℕ} → zero ≡ suc n → A
no_more e = absurd (omega (arith, e))

one_less : {m n : ℕ} → suc m ≡ suc n → m ≡ n
one_less e = omega (arith, e)

choices_widths : (w : ℕ) (xs ys : List (WireId × WireId)) (o p : WireId) (at bt : ℕ) → length xs ≡ length ys → (choices w xs o at).widths ≡ (choices w ys p bt).widths
choices_widths w [] [] o p at bt e = refl
choices_widths w [] (y ∷ ys) o p at bt e = no_more e
choices_widths w (x ∷ xs) [] o p at bt e = no_more (sym e)
choices_widths w (x ∷ xs) (y ∷ ys) o p at bt e = λ i. present (w ∷ []) ++ choices_widths w xs ys (wire at) (wire bt) (at + 1) (bt + 1) (one_less e) i

zip_count : (xs ys us vs : List WireId) → length xs ≡ length us → length ys ≡ length vs → length (zip xs ys) ≡ length (zip us vs)
zip_count [] ys [] vs e f = refl
zip_count [] ys (u ∷ us) vs e f = no_more e
zip_count (x ∷ xs) ys [] vs e f = no_more (sym e)
zip_count (x ∷ xs) [] (u ∷ us) [] e f = refl
zip_count (x ∷ xs) [] (u ∷ us) (v ∷ vs) e f = no_more f
zip_count (x ∷ xs) (y ∷ ys) (u ∷ us) [] e f = no_more (sym f)
zip_count (x ∷ xs) (y ∷ ys) (u ∷ us) (v ∷ vs) e f = ap suc (zip_count xs ys us vs (one_less e) (one_less f))

pub chosen_widths : (w : ℕ) (ts us : List WireId) (rs vs : List (List WireId)) (at bt : ℕ) → length ts ≡ length us → length rs ≡ length vs → (chosen w ts rs at).widths ≡ (chosen w us vs bt).widths
chosen_widths w ts us rs vs at bt e f =
    let lasts : length (map only rs) ≡ length (map only vs) = length-map rs only ∙ f ∙ sym (length-map vs only) in
    let pairs : length (reverse (zip ts (map only rs))) ≡ length (reverse (zip us (map only vs))) =
    length-reverse (zip ts (map only rs)) ∙ zip_count ts (map only rs) us (map only vs) e lasts ∙ sym (length-reverse (zip us (map only vs))) in
    choices_widths w (reverse (zip ts (map only rs))) (reverse (zip us (map only vs))) _ _ at bt pairs

element_at_widths : (w n k at : ℕ) (v i u j : List WireId) → (element_at w n k at v i).widths ≡ (element_at w n k at u j).widths
element_at_widths w n k at v i u j =
    let words : List (List Bool) = words_from k 0 (min n (2 ^ k)) in
    let m : ℕ = after at (elements w (n + 1) at v) in
    let l : ℕ = after at (elements w (n + 1) at u) in
    let count : length (test_wires k i words m) ≡ length (test_wires k j words l) = test_count k words i m ∙ sym (test_count k words j l) in
    λ d. elements_widths w (n + 1) at at v u d
    ++ (tests_widths k words i j m l d
    ++ chosen_widths w (test_wires k i words m) (test_wires k j words l) (element_wires w (n + 1) at) (element_wires w (n + 1) at) (after m (tests k i words m)) (after l (tests k j words l)) count refl d)

constructed_widths : (tag fields w : ℕ) → List ℕ
constructed_widths tag fields w = present (tag ∷ []) ++ (present ((w - (tag + fields)) ∷ []) ++ present (w ∷ []))

pub same_fit : {m n : ℕ} → fits m ≡ fits n → m ≡ n
same_fit e = cc

pub cons_count : {it jt : Constructor} → it ≡ jt → length it.it.cons ≡ length jt.it.cons
cons_count e = ap (λ (c : Constructor). length c.it.cons) e

pub value_sizes : {ground : Ground} {s u : List Variable} {n w : ℕ} {h : TermTree} {ts : List TypeTree} {es : List TermTree} {p q : Piece} → ValueCells ground s n w h ts es p → ValueCells ground u n w h ts es q → p.widths ≡ q.widths
unfolding constructed_widths
value_sizes value_variable value_variable = refl
value_sizes value_literal value_literal = refl
value_sizes {ground} {w = w} {ts = ts} (value_constructor {fields = m} {it = it} i f) (value_constructor {fields = l} {it = jt} j g) =
    let same : it ≡ jt = same_some i j in
    let fields : m ≡ l = same_fit (fields_once f (subst (λ (c : Constructor). MeasuredFields ground.datas c.decl.fields (arguments (trees_of ts)) (fits l)) (sym same) g)) in
    λ i. constructed_widths (tag_width (cons_count same i)) (fields i) w
value_sizes value_vector value_vector = refl
value_sizes {n = n} (value_primitive {p = p} {types = types} k) (value_primitive l) = word_widths p _ _ n n _ _ _ _
value_sizes (value_primitive k) value_element = absurd k
value_sizes (value_primitive k) value_element_at = absurd k
value_sizes value_element (value_primitive k) = absurd k
value_sizes value_element value_element = refl
value_sizes value_element_at (value_primitive k) = absurd k
value_sizes {n = n} {w = w} (value_element_at {m = m} {k = k}) value_element_at = element_at_widths w (closed_value m) (closed_value k) n _ _ _ _
value_sizes value_call value_call = refl

tested_at : (datas : List Data) (t : TypeTree) (w n : ℕ) (a b : List WireId)
    → ((tested_of datas t w n a).bits ≡ (tested_of datas t w n b).bits) × ((tested_of datas t w n a).cells.widths ≡ (tested_of datas t w n b).cells.widths) × ((tested_of datas t w n a).first ≡ (tested_of datas t w n b).first)
tested_at datas (data_of d ts) w n a b = (refl, refl, refl)
tested_at datas _ w n a b = (refl, refl, refl)

pub tested_same : (datas : List Data) (on om : Tested) (it jt : Variable) (w v n : ℕ) → on ≡ tested_of datas it.ty w n it.wires → om ≡ tested_of datas jt.ty v n jt.wires → it.ty ≡ jt.ty → w ≡ v
    → (on.bits ≡ om.bits) × (on.cells.widths ≡ om.cells.widths) × (on.first ≡ om.first)
tested_same datas on om it jt w v n e f t same =
    let along : tested_of datas it.ty w n it.wires ≡ tested_of datas jt.ty v n it.wires = λ i. tested_of datas (t i) (same i) n it.wires in
    let to : on ≡ tested_of datas jt.ty v n it.wires = e ∙ along in
    let q = tested_at datas jt.ty v n it.wires jt.wires in (
      ap (λ (o : Tested). o.bits) to ∙ q.0 ∙ sym (ap (λ (o : Tested). o.bits) f),
      ap (λ (o : Tested). o.cells.widths) to ∙ q.1 ∙ sym (ap (λ (o : Tested). o.cells.widths) f),
      ap (λ (o : Tested). o.first) to ∙ q.2 ∙ sym (ap (λ (o : Tested). o.first) f),
    )

pub type_at : (s u : List Variable) (x : ℕ) (it jt : Variable) → slice_get s x ≡ Some it → slice_get u x ≡ Some jt → types_in s ≡ types_in u → it.ty ≡ jt.ty
type_at [] u x it jt e f t = absurd cc
type_at (v ∷ s) [] x it jt e f t = absurd cc
type_at (v ∷ s) (w ∷ u) zero it jt e f t =
    let a : v ≡ it = cc in
    let b : w ≡ jt = cc in
    let c : v.ty ≡ w.ty = cc in
    sym (ap (λ (v : Variable). v.ty) a) ∙ c ∙ ap (λ (v : Variable). v.ty) b
type_at (v ∷ s) (w ∷ u) (suc x) it jt e f t = let rest : types_in s ≡ types_in u = cc in type_at s u x it jt e f rest

pub front_types : (front s u : List Variable) → types_in s ≡ types_in u → types_in (front ++ s) ≡ types_in (front ++ u)
front_types [] s u t = t
front_types (v ∷ front) s u t = ap (λ ts. v.ty ∷ ts) (front_types front s u t)

types_append : (xs ys : List Variable) → types_in (xs ++ ys) ≡ types_in xs ++ types_in ys
types_append [] ys = refl
types_append (x ∷ xs) ys = ap (λ ts. x.ty ∷ ts) (types_append xs ys)

reversed_types : (b c : List Variable) → types_in b ≡ types_in c → types_in (reverse b) ≡ types_in (reverse c)
reversed_types [] [] e = refl
reversed_types [] (y ∷ c) e = absurd cc
reversed_types (x ∷ b) [] e = absurd cc
reversed_types (x ∷ b) (y ∷ c) e =
    let head : x.ty ≡ y.ty = cc in
    let tail : types_in b ≡ types_in c = cc in
    ap (λ l. types_in l) (reverse-append (x ∷ []) b) ∙ types_append (reverse b) (x ∷ []) ∙ (λ i. reversed_types b c tail i ++ head i ∷ [])
    ∙ sym (types_append (reverse c) (y ∷ [])) ∙ sym (ap (λ l. types_in l) (reverse-append (y ∷ []) c))

-- the types of variables that come in turn before others
pub onto_types : (b c s u : List Variable) → types_in b ≡ types_in c → types_in s ≡ types_in u → types_in (reverse b ++ s) ≡ types_in (reverse c ++ u)
onto_types b c s u e t = types_append (reverse b) s ∙ (λ i. reversed_types b c e i ++ t i) ∙ sym (types_append (reverse c) u)

pub bound_types : {ground : Ground} {sort : Sort} {s : List Variable} {n : ℕ} {g : Group} {p : Piece} {b : List Variable} → GroupBuilt ground sort s n g p b → types_in b ≡ declared g
bound_types group_none = refl
bound_types (group_and {t = t} side more) = ap (λ ts. t ∷ ts) (bound_types more)

cuts_widths : (ws : List ℕ) (below n m : ℕ) (a b : List WireId) → (field_cuts below a ws n).widths ≡ (field_cuts below b ws m).widths
cuts_widths [] below n m a b = refl
cuts_widths (w ∷ ws) below n m a b = λ i. present (w ∷ []) ++ cuts_widths ws (below - w) (n + length (present (w ∷ []))) (m + length (present (w ∷ []))) a b i

case_sizes : (on om : Tested) (alts : Alts) (w n : ℕ) (p q : Piece) (rs vs : List (List WireId)) → on.bits ≡ om.bits → on.cells.widths ≡ om.cells.widths → on.first ≡ om.first → p.widths ≡ q.widths → length rs ≡ length vs
    → (case_cells on alts w n p rs).widths ≡ (case_cells om alts w n q vs).widths
case_sizes on om alts w n p q rs vs bits cells first same count =
    let a : List (List Bool) = words_of on.bits on.first alts in
    let b : List (List Bool) = words_of om.bits om.first alts in
    let words : a ≡ b = λ i. words_of (bits i) (first i) alts in
    let m : ℕ = after (after n on.cells) p in
    let l : ℕ = after (after n om.cells) q in
    let tested : (tests on.bits on.wires a m).widths ≡ (tests om.bits om.wires b l).widths =
    tests_widths on.bits a on.wires om.wires m l ∙ (λ i. (tests (bits i) om.wires (words i) l).widths) in
    let counts : length (test_wires on.bits on.wires a m) ≡ length (test_wires om.bits om.wires b l) =
    test_count on.bits a on.wires m ∙ ap (λ (ws : List (List Bool)). length ws) words ∙ sym (test_count om.bits b om.wires l) in
    λ i. cells i ++ (same i ++ (tested i
    ++ chosen_widths w (test_wires on.bits on.wires a m) (test_wires om.bits om.wires b l) rs vs (after m (tests on.bits on.wires a m)) (after l (tests om.bits om.wires b l)) counts count i))

-- what two derivations of a case look at
pub record SameCase (ground : Ground) (u : List Variable) (n : ℕ) (alts : Alts) (it jt : Variable) (on om : Tested) (whole other : ℕ) (q : Piece) (vs : List (List WireId)) : Type 0 where
  pub bits : on.bits ≡ om.bits
  pub cells : on.cells.widths ≡ om.cells.widths
  pub first : on.first ≡ om.first
  pub alternatives : AltsBuilt ground u jt (whole - on.bits) (after n on.cells) alts q vs

pub case_along : {ground : Ground} {u : List Variable} {n : ℕ} {alts : Alts} {q : Piece} {vs : List (List WireId)} (it jt : Variable) (on om : Tested) (whole other : ℕ)
    → it.ty ≡ jt.ty → HasWidth ground.datas it.ty whole → HasWidth ground.datas jt.ty other → on ≡ tested_of ground.datas it.ty whole n it.wires → om ≡ tested_of ground.datas jt.ty other n jt.wires
    → AltsBuilt ground u jt (other - om.bits) (after n om.cells) alts q vs → SameCase ground u n alts it jt on om whole other q vs
case_along {ground} {u} {n} {alts} {q} {vs} it jt on om whole other t h k e f built =
    let same : whole ≡ other = width_once h (subst (λ t. HasWidth ground.datas t other) (sym t) k) in
    let tested = tested_same ground.datas on om it jt whole other n e f t same in
    let below : whole - on.bits ≡ other - om.bits = λ i. same i - tested.0 i in
    let start : after n on.cells ≡ after n om.cells = ap (λ (ws : List ℕ). n + length ws) tested.1 in
    record {
      bits = tested.0;
      cells = tested.1;
      first = tested.2;
      alternatives = subst (λ k. AltsBuilt ground u jt k (after n on.cells) alts q vs) (sym below) (subst (λ k. AltsBuilt ground u jt (other - om.bits) k alts q vs) (sym start) built);
    }

-- what two derivations of an alternative look at
pub record SameAlternative (ground : Ground) (u : List Variable) (jt : Variable) (below n : ℕ) (e : TermTree) (more : Alts) (fields : List TypeTree) (widths : List ℕ) (p : Piece) (q t : Piece) (wires : List WireId) (vs : List (List WireId)) (o : Piece) : Type 0 where
  pub cells : p.widths ≡ o.widths
  pub block : BlockBuilt ground Value (reverse (variables_from n fields widths) ++ u) (after n p) e q wires
  pub rest : (r : Piece) → r.widths ≡ q.widths → AltsBuilt ground u jt below (after (after n p) r) more t vs

pub alternative_along : {ground : Ground} {u : List Variable} {below n : ℕ} {pattern : Pattern} {e : TermTree} {more : Alts} {fs gs : List TypeTree} {p o q t : Piece} {wires : List WireId} {vs : List (List WireId)} (it jt : Variable) (ws us : List ℕ)
    → it.ty ≡ jt.ty → PatternOf ground.datas it.ty pattern fs → HaveWidths ground.datas fs ws → p ≡ field_cuts below it.wires ws n
    → PatternOf ground.datas jt.ty pattern gs → HaveWidths ground.datas gs us → o ≡ field_cuts below jt.wires us n
    → BlockBuilt ground Value (reverse (variables_from n gs us) ++ u) (after n o) e q wires → AltsBuilt ground u jt below (after (after n o) q) more t vs
    → SameAlternative ground u jt below n e more fs ws p q t wires vs o
alternative_along {ground} {u} {below} {n} {pattern} {e} {more} {fs} {gs} {p} {o} {q} {t} {wires} {vs} it jt ws us ty formed have is formed' have' is' block others =
    let fields : fs ≡ gs = pattern_once formed (subst (λ t. PatternOf ground.datas t pattern gs) (sym ty) formed') in
    let widths : ws ≡ us = widths_once ground.datas fs ws us have (subst (λ fs. HaveWidths ground.datas fs us) (sym fields) have') in
    let cells : p.widths ≡ o.widths =
    ap (λ (p : Piece). p.widths) is ∙ (λ i. (field_cuts below it.wires (widths i) n).widths) ∙ cuts_widths us below n n it.wires jt.wires ∙ sym (ap (λ (p : Piece). p.widths) is') in
    let start : after n p ≡ after n o = ap (λ (ws : List ℕ). n + length ws) cells in
    let front : reverse (variables_from n fs ws) ≡ reverse (variables_from n gs us) = λ i. reverse (variables_from n (fields i) (widths i)) in
    record {
      cells = cells;
      block = subst (λ (f : List Variable). BlockBuilt ground Value (f ++ u) (after n p) e q wires) (sym front) (subst (λ k. BlockBuilt ground Value (reverse (variables_from n gs us) ++ u) k e q wires) (sym start) block);
      rest = λ r same. subst (λ k. AltsBuilt ground u jt below k more t vs) (λ i. sym start i + length (sym same i)) others;
    }

mutual
  pub side_sizes : {ground : Ground} {s u : List Variable} {n : ℕ} {t : TypeTree} {e : TermTree} {p q : Piece} {r v : List WireId} → SideBuilt ground Value s n t e p r → SideBuilt ground Value u n t e q v → types_in s ≡ types_in u → p.widths ≡ q.widths
  side_sizes {ground} {u = u} {n = n} {e = e} {q = q} (side_of_value a cells) (side_of_value b further) types =
      value_sizes cells (subst (λ w. ValueCells ground u n w (head_of e) (types_of e) (operands_of e) q) (sym (width_once a b)) further)
  side_sizes (side_of_value a cells) (side_of_case on i h w is built) types = elim cells [ ]
  side_sizes (side_of_case on i h w is built) (side_of_value a cells) types = elim cells [ ]
  side_sizes {s = s} {u = u} {n = n} (side_of_case {x = x} {whole = whole} {w = w} {alts = alts} {it = it} {p = p} {results = rs} on i h a is built) (side_of_case {whole = other} {w = v} {it = jt} {p = q} {results = vs} om j k b iz others) types =
      let ty = type_at s u x it jt i j types in
      let same = case_along it jt on om whole other ty h k is iz others in
      let rest = alts_sizes built same.alternatives ty types in
      case_sizes on om alts w n p q rs vs same.bits same.cells same.first rest.0 rest.1 ∙ ap (λ w. (case_cells om alts w n q vs).widths) (width_once a b)

  alts_sizes : {ground : Ground} {s u : List Variable} {it jt : Variable} {below n : ℕ} {alts : Alts} {p q : Piece} {rs vs : List (List WireId)} → AltsBuilt ground s it below n alts p rs → AltsBuilt ground u jt below n alts q vs → it.ty ≡ jt.ty → types_in s ≡ types_in u → (p.widths ≡ q.widths) × (length rs ≡ length vs)
  alts_sizes alts_none alts_none ty types = (refl, refl)
  alts_sizes {s = s} {u = u} {it = it} {jt = jt} {n = n} (alts_and {fields = fs} {r = r} ws formed have is block more) (alts_and us formed' have' is' block' others) ty types =
      let same = alternative_along it jt ws us ty formed have is formed' have' is' block' others in
      let blocks = block_sizes block same.block (front_types (reverse (variables_from n fs ws)) s u types) in
      let rest = alts_sizes more (same.rest r blocks) ty types in
      (λ i. same.cells i ++ (blocks i ++ rest.0 i), ap suc rest.1)

  pub block_sizes : {ground : Ground} {s u : List Variable} {n : ℕ} {e : TermTree} {p q : Piece} {r v : List WireId} → BlockBuilt ground Value s n e p r → BlockBuilt ground Value u n e q v → types_in s ≡ types_in u → p.widths ≡ q.widths
  block_sizes block_variable block_variable types = refl
  block_sizes {s = s} {u = u} (block_letrec b more) (block_letrec c others) types = group_sizes more others (onto_types b c s u (bound_types more ∙ sym (bound_types others)) types)

  pub group_sizes : {ground : Ground} {s u : List Variable} {n : ℕ} {g : Group} {p q : Piece} {b c : List Variable} → GroupBuilt ground Value s n g p b → GroupBuilt ground Value u n g q c → types_in s ≡ types_in u → p.widths ≡ q.widths
  group_sizes group_none group_none types = refl
  group_sizes {ground} {u = u} {n = n} (group_and {g = g} side more) (group_and {bound = c} {q = q} other others) types =
      let first = side_sizes side other types in
      let rest = group_sizes more (subst (λ k. GroupBuilt ground Value u k g q c) (sym (ap (λ (ws : List ℕ). n + length ws) first)) others) types in
      λ i. first i ++ rest i
