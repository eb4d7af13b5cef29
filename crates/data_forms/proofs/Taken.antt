-- Types of which all bits encode values: scalars, and vectors of such types.
use Rattle.std.proofs.Common.{◌≡◌, ℕ, suc, zero, ◌*◌, ◌≤◌, Bool, true, false, List, length, take, drop, refl, sym, ap, subst, arith}
use Rattle.std.proofs.Math.Nat.{suc-mul}
use Rattle.std.proofs.lemmas.List.{length-drop, nil_from_length, take-append-drop}
use Rattle.std.specs.Bool.{OnTrue}
use Rattle.chw_types.specs.TypeTree.{TypeTree, vector}
use Rattle.chw_types.specs.TypeView.{tree_of}
use Rattle.chw_types.specs.declared.declarations.Data.{Data}
use Rattle.chw_types.specs.declared.ty.TyNode.{TyNode}
use Rattle.chw_types.specs.declared.ty.TyNode.TheVariants.{Vec as VecNode, DataOf}
use Rattle.chw_layout.specs.Datum.{word, elements, Datums, no_data, datum_and}
use Rattle.chw_layout.specs.Encodes.{count_of, EncodesElements, no_element_bits, element_bits, vector_bits}
use Rattle.chw_layout.specs.Measured.{closed_value, fits, HasWidth}
use Rattle.data_bits.proofs.Decoded.{length_first, scalar_decoded, vector_length}
use Rattle.data_bits.proofs.Encoded.{elements_fit}
use Rattle.data_forms.specs.Forms.{TakesAll}

pub scalars_take : (datas : List Data) (node : TyNode) → ((x : _) (y : _) → node ≡ VecNode x y → ⊥) → ((x : _) (y : _) → node ≡ DataOf x y → ⊥) → TakesAll datas (tree_of node)
scalars_take datas node vec_no data_no bits has = (word bits, scalar_decoded datas node bits (fits (length bits)) refl vec_no data_no has)

-- so many values of the type have these bits, one after the other
record Row (datas : List Data) (t : TypeTree) (n : ℕ) (bits : List Bool) : Type 0 where
  pub values : Datums
  pub many : count_of values ≡ n
  pub are : EncodesElements datas t values bits

row : (datas : List Data) (t : TypeTree) (w : ℕ) → TakesAll datas t → HasWidth datas t w → (n : ℕ) (bits : List Bool) → length bits ≡ n * w → Row datas t n bits
row datas t w takes has zero bits e =
    let none : length bits ≡ 0 = omega (arith, e) in
    record { values = no_data; many = refl; are = subst (EncodesElements datas t no_data) (sym (nil_from_length bits none)) no_element_bits }
row datas t w takes has (suc n) bits e =
    let all = suc-mul n w in
    let room : w ≤ length bits = omega (arith, e, all) in
    let first = length_first w bits room in
    let left : length (drop w bits) ≡ n * w = omega (arith, e, all, length-drop w bits) in
    let v = takes (take w bits) (subst (HasWidth datas t) (sym first) has) in
    let others = row datas t w takes has n (drop w bits) left in
    let many = others.many in
    record {
      values = datum_and v.0 others.values;
      many = ap suc many;
      are = subst (EncodesElements datas t (datum_and v.0 others.values)) (take-append-drop w bits) (element_bits v.1 others.are);
    }

pub vectors_take : (datas : List Data) (n t : TypeTree) → TakesAll datas t → TakesAll datas (vector n t)
vectors_take datas n t takes bits has =
    let of = elements_fit datas n t (length bits, has) in
    let all = vector_length datas n t (closed_value n) of.0 (length bits) refl has of.1 in
    let r = row datas t of.0 takes of.1 (closed_value n) bits all in
    (elements r.values, vector_bits r.many r.are)

pub on_true : (b : Bool) (P Q : Type 0) → (P → Q) → OnTrue b P → OnTrue b Q
on_true true P Q f p = f p
on_true false P Q f p = tt
