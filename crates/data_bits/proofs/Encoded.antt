-- What the type of a value says of its form, and what is added for a value.
use Rattle.std.proofs.Common.{◌≡◌, ℕ, suc, zero, ◌+◌, ◌-◌, ◌<◌, ◌≤◌, ◌^◌, Bool, false, refl, sym, ap, subst, ◌∙◌, List, [], ◌∷◌, ◌++◌, length, arith, append_assoc, length-append}
use Rattle.std.specs.Prelude.{Some, replicate}
use Rattle.std.specs.List.{slice_get}
use Rattle.std.proofs.lemmas.Option.{slice_get_within}
use Rattle.chw_bits.specs.Bits.{bits_of}
use Rattle.chw_types.specs.declared.declarations.ConDecl.{ConDecl}
use Rattle.chw_types.specs.declared.declarations.Data.{Data}
use Rattle.chw_types.specs.declared.ty.TyNode.{TyNode}
use Rattle.chw_types.specs.declared.ty.TyNode.TheVariants.{Var, NatLit, Sum, Times, DomOf, Unsigned, Signed, BitVector, Vec as VecNode, DataOf, Fun, Signal, Forall}
use Rattle.chw_types.specs.TypeTree.{TypeTree, vector, data_of, TypeTrees}
use Rattle.chw_types.specs.TypeView.{tree_of}
use Rattle.chw_types.specs.Arguments.{arguments}
use Rattle.chw_layout.specs.declared.outcome.NoLayout.{NoLayout}
use Rattle.chw_layout.specs.declared.outcome.NoLayout.TheVariants.{NotRepresentable, Scalar as OverScalar, Data as OverData, Length as OverLength}
use Rattle.chw_layout.specs.Datum.{Datum, word, built, elements, Datums}
use Rattle.chw_layout.specs.Measured.{fits, too_wide, closed_value, tag_width, MeasuredFields, HasWidth}
use Rattle.chw_layout.specs.Refusals.{IsRefusal}
use Rattle.chw_layout.specs.Encodes.{count_of, IsValueOf, scalar_value, vector_value, data_value, AreElements, AreFields, filled, Encodes, scalar_bits, vector_bits, data_bits, EncodesElements, EncodesFields}
use Rattle.chw_layout.proofs.Measures.{measured_once, measured_representable, measured_within}
use Rattle.chw_layout.proofs.Fitting.{element_width, cons_width, con_width}
use Rattle.chw_layout.proofs.Tags.{tag_suffices}
use Rattle.chw_layout.proofs.Encodings.{BitsAreAsMany, encoded_length}
use Rattle.data_bits.specs.Encoding.{Adds, Fits, FieldsFit, IsChosen, HasConstructor}

-- a type with a width is not refused
pub no_refusal : (datas : List Data) (t : TypeTree) (e : NoLayout) → Fits datas t → IsRefusal datas t e → ⊥
no_refusal datas t NotRepresentable f h = h (measured_representable f.1)
no_refusal datas t (OverScalar w) f h = let p : fits f.0 ≡ too_wide (OverScalar w) = measured_once f.1 h in cc
no_refusal datas t (OverData w) f h = let p : fits f.0 ≡ too_wide (OverData w) = measured_once f.1 h in cc
no_refusal datas t (OverLength w) f h = let p : fits f.0 ≡ too_wide (OverLength w) = measured_once f.1 h in cc

-- scalars
scalar_own : {datas : List Data} {t : TypeTree} {bits : List Bool} → IsValueOf datas t (word bits) → Encodes datas t (word bits) bits
scalar_own (scalar_value l) = scalar_bits l

pub scalar_added : (datas : List Data) (t : TypeTree) (v : Datum) (bits old new : List Bool) → word bits ≡ v → IsValueOf datas t v → new ≡ old ++ bits → Adds (Encodes datas t v) old new
scalar_added datas t v bits old new e h is = (bits, subst (λ u. Encodes datas t u bits) e (scalar_own (subst (IsValueOf datas t) (sym e) h)), is)

-- vectors
pub vector_only : (datas : List Data) (n : TyNode) (vs : Datums) → ((x : _) (y : _) → n ≡ VecNode x y → ⊥) → IsValueOf datas (tree_of n) (elements vs) → ⊥
vector_only datas (VecNode x y) vs h k = h x y refl
vector_only datas (Var x) vs h k = elim k [ ]
vector_only datas (NatLit n) vs h k = elim k [ ]
vector_only datas (Sum x y) vs h k = elim k [ ]
vector_only datas (Times x y) vs h k = elim k [ ]
vector_only datas (DomOf x) vs h k = elim k [ ]
vector_only datas (Unsigned x) vs h k = elim k [ ]
vector_only datas (Signed x) vs h k = elim k [ ]
vector_only datas (BitVector x) vs h k = elim k [ ]
vector_only datas (DataOf x y) vs h k = elim k [ ]
vector_only datas (Fun x y) vs h k = elim k [ ]
vector_only datas (Signal x y) vs h k = elim k [ ]
vector_only datas (Forall x y) vs h k = elim k [ ]

pub no_vector : (datas : List Data) (t : TypeTree) (v : Datum) (n : TyNode) (vs : Datums) → tree_of n ≡ t → elements vs ≡ v → ((x : _) (y : _) → n ≡ VecNode x y → ⊥) → IsValueOf datas t v → ⊥
no_vector datas t v n vs e f h k = vector_only datas n vs h (subst (λ u. IsValueOf datas u (elements vs)) (sym e) (subst (IsValueOf datas t) (sym f) k))

-- the elements of a vector
pub record VectorParts (datas : List Data) (n t : TypeTree) (vs : Datums) : Type 0 where
  pub many : count_of vs ≡ closed_value n
  pub are : AreElements datas t vs

pub vector_parts : {datas : List Data} {n t : TypeTree} {vs : Datums} → IsValueOf datas (vector n t) (elements vs) → VectorParts datas n t vs
vector_parts (vector_value l es) = record { many = l; are = es }

pub elements_fit : (datas : List Data) (n t : TypeTree) → Fits datas (vector n t) → Fits datas t
elements_fit datas n t f = let x = element_width f.1 in (x.a, x.element)

pub vector_added : (datas : List Data) (n t : TypeTree) (vs : Datums) (old new : List Bool) → count_of vs ≡ closed_value n → Adds (EncodesElements datas t vs) old new → Adds (Encodes datas (vector n t) (elements vs)) old new
vector_added datas n t vs old new l a = (a.0, vector_bits l a.1, a.2)

-- data
pub data_only : (datas : List Data) (n : TyNode) (c : ℕ) (vs : Datums) → ((x : _) (y : _) → n ≡ DataOf x y → ⊥) → IsValueOf datas (tree_of n) (built c vs) → ⊥
data_only datas (DataOf x y) c vs h k = h x y refl
data_only datas (VecNode x y) c vs h k = elim k [ ]
data_only datas (Var x) c vs h k = elim k [ ]
data_only datas (NatLit n) c vs h k = elim k [ ]
data_only datas (Sum x y) c vs h k = elim k [ ]
data_only datas (Times x y) c vs h k = elim k [ ]
data_only datas (DomOf x) c vs h k = elim k [ ]
data_only datas (Unsigned x) c vs h k = elim k [ ]
data_only datas (Signed x) c vs h k = elim k [ ]
data_only datas (BitVector x) c vs h k = elim k [ ]
data_only datas (Fun x y) c vs h k = elim k [ ]
data_only datas (Signal x y) c vs h k = elim k [ ]
data_only datas (Forall x y) c vs h k = elim k [ ]

pub no_built : (datas : List Data) (t : TypeTree) (v : Datum) (n : TyNode) (c : ℕ) (vs : Datums) → tree_of n ≡ t → built c vs ≡ v → ((x : _) (y : _) → n ≡ DataOf x y → ⊥) → IsValueOf datas t v → ⊥
no_built datas t v n c vs e f h k = data_only datas n c vs h (subst (λ u. IsValueOf datas u (built c vs)) (sym e) (subst (IsValueOf datas t) (sym f) k))

-- a value, where its type and itself are known to be these
pub as_known : (datas : List Data) (t u : TypeTree) (v w : Datum) → u ≡ t → w ≡ v → IsValueOf datas t v → IsValueOf datas u w
as_known datas t u v w e f k = subst (λ x. IsValueOf datas x w) (sym e) (subst (IsValueOf datas t) (sym f) k)

pub added_known : (datas : List Data) (t u : TypeTree) (v w : Datum) (old new : List Bool) → u ≡ t → w ≡ v → Adds (Encodes datas u w) old new → Adds (Encodes datas t v) old new
added_known datas t u v w old new e f a = (a.0, subst (λ x. Encodes datas x v a.0) e (subst (λ x. Encodes datas u x a.0) f a.1), a.2)

pub constructor_there : {datas : List Data} {d n : ℕ} {ts : TypeTrees} {vs : Datums} → IsValueOf datas (data_of d ts) (built n vs) → HasConstructor datas d n
constructor_there (data_value i it c known as_many number at fs) = record { it = it; i = i; c = c; known = known; number = number; at = at }

-- the fields are values of the types of the constructor's fields
pub chosen_values : (datas : List Data) (d n : ℕ) (ts : TypeTrees) (vs : Datums) (tag width : ℕ) (fields : List TypeTree) → IsValueOf datas (data_of d ts) (built n vs) → IsChosen datas d n tag width fields → AreFields datas fields (arguments ts) vs
chosen_values datas d n ts vs tag width fields (data_value i it c known as_many number at fs) ch =
    let same : it ≡ ch.it = cc (known, ch.known) in
    let same_i : i ≡ tag = let p = number in let q = ch.number in omega arith in
    let e : slice_get it.cons i ≡ slice_get ch.it.cons tag = λ j. slice_get (same j).cons (same_i j) in
    let some : Some c ≡ Some ch.c = sym at ∙ e ∙ ch.at in
    let same_c : c ≡ ch.c = cc in
    subst (λ gs. AreFields datas gs (arguments ts) vs) (ap (λ (x : ConDecl). x.fields) same_c ∙ sym ch.are) fs

pub chosen_fit : (datas : List Data) (d n : ℕ) (ts : TypeTrees) (tag width : ℕ) (fields : List TypeTree) → Fits datas (data_of d ts) → IsChosen datas d n tag width fields → FieldsFit datas fields (arguments ts)
chosen_fit datas d n ts tag width fields f ch =
    let x = cons_width ch.it ch.known f.1 in
    let y = con_width ch.it.cons tag ch.c ch.at x.cons in
    record {
      width = y.s;
      measured = subst (λ gs. MeasuredFields datas gs (arguments ts) (fits y.s)) (sym ch.are) y.fields;
      within = let p = x.is in let q = x.within in let r = y.within in omega arith;
    }

-- the tag fits its width
pub tag_small : (datas : List Data) (d n tag width : ℕ) (fields : List TypeTree) → IsChosen datas d n tag width fields → tag < 2 ^ width
tag_small datas d n tag width fields ch =
    let l = slice_get_within ch.it.cons tag ch.c ch.at in
    let k = tag_suffices (length ch.it.cons) in
    subst (λ w. tag < 2 ^ w) (sym ch.tag_is) (let p : tag < 2 ^ tag_width (length ch.it.cons) = omega arith in p)

-- the tag, the fields, and zeros up to the width
pub data_added : (datas : List Data) (d n : ℕ) (ts : TypeTrees) (vs : Datums) (tag k : ℕ) (fields : List TypeTree) (width : ℕ) (old a b c : List Bool) → IsChosen datas d n tag k fields → HasWidth datas (data_of d ts) width → a ≡ old ++ bits_of k tag → Adds (EncodesFields datas fields (arguments ts) vs) a b → c ≡ b ++ replicate (width - (length b - length old)) false → Adds (Encodes datas (data_of d ts) (built n vs)) old c
data_added datas d n ts vs tag k fields width old a b c ch own p x r =
    let all = bits_of k tag ++ x.0 in
    let e : b ≡ old ++ all = x.2 ∙ ap (λ y. y ++ x.0) p ∙ append_assoc old (bits_of k tag) x.0 in
    let m : length b ≡ length old + length all = ap length e ∙ length-append old all in
    let l : length b - length old ≡ length all = omega arith in (
      filled width all,
      subst (λ w. Encodes datas (data_of d ts) (built n vs) (filled width (bits_of w tag ++ x.0))) (sym ch.tag_is)
          (data_bits tag width ch.it ch.c x.0 ch.known ch.number ch.at (subst (λ fs. EncodesFields datas fs (arguments ts) vs x.0) ch.are x.1) own),
      r ∙ (λ i. e i ++ replicate (width - l i) false) ∙ append_assoc old all (replicate (width - length all) false),
    )

-- all that is there
pub added_whole : (datas : List Data) (t : TypeTree) (v : Datum) (old new : List Bool) → old ≡ [] → Adds (Encodes datas t v) old new → Encodes datas t v new
added_whole datas t v old new e a = subst (Encodes datas t v) (sym (a.2 ∙ ap (λ xs. xs ++ a.0) e)) a.1

pub added_small : (datas : List Data) (t : TypeTree) (v : Datum) (old new : List Bool) → BitsAreAsMany → old ≡ [] → Fits datas t → Adds (Encodes datas t v) old new → length new < 2 ^ 32
added_small datas t v old new h e f a =
    let l = encoded_length h (added_whole datas t v old new e a) f.1 in
    let w = measured_within f.1 in
    omega arith

-- what is added makes longer
pub longer : (a b c x y : List Bool) → b ≡ a ++ x → c ≡ b ++ y → length a ≤ length c
longer a b c x y e f =
    let p : length b ≡ length a + length x = ap length e ∙ length-append a x in
    let q : length c ≡ length b + length y = ap length f ∙ length-append b y in
    omega arith
