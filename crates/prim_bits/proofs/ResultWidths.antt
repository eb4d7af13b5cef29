-- The widths of results.
use Rattle.std.proofs.Common.{◌≡◌, ℕ, ◌+◌, ◌&&◌, ◌||◌, Bool, not, List, [], ◌∷◌, ◌++◌, length, map, get_or, Some, None, refl, sym, ap, ◌∙◌, arith, length-append}
use Rattle.std.proofs.lemmas.List.{length-map}
use Rattle.chw_bits.proofs.Numbers.{length-bits_of}
use Rattle.chw_types.specs.declared.kind.Scalar.{Scalar}
use Rattle.chw_types.specs.declared.kind.Scalar.TheVariants.{U, S, B}
use Rattle.chw_prims.specs.Schemas.{row_of}
use Rattle.chw_prims.specs.declared.prim.Primitive.{Primitive}
use Rattle.chw_prims.specs.declared.prim.Primitive.TheVariants.{AddU, AddS, SubU, SubS, MulU, MulS, XaddU, XaddS, XmulU, XmulS, AndU, AndS, AndB, OrU, OrS, OrB, XorU, XorS, XorB, NotU, NotS, NotB, ShlU, ShlS, ShlB, ShrU, ShrS, ShrB, EqU, EqS, EqB, LtU, LtS, ExtU, ExtS, ExtB, TruncU, TruncS, TruncB, Slice, Join, RedAnd, RedOr, RedXor, PackU, PackS, UnpackU, UnpackS, Fmap, Ap, Pure, Register, BlockRam, UnsafeSynchronizer, VGet, VGetC, VAt, VReplace, VMap, VMapC, VZipWith, VZipWithC, VFoldl, VFoldlC, VFoldr, VFoldrC, VGenerate, VGenerateC, VReplicate, VReplicateC, VAppend, VAppendC, VConcat, VConcatC, VTake, VTakeC, VDrop, VDropC, VReverse, VReverseC, VRotl, VRotlC}
use Rattle.chw_prims.specs.declared.row.Row.{Row}
use Rattle.chw_prims.specs.declared.row.Row.TheVariants.{Binary, Unary, Joined, Packed, Unpacked}
use Rattle.chw_bits.specs.Bitwise.{bit_by_bit, differ}
use Rattle.prim_bits.specs.Values.{result_of, value_of}
use Rattle.prim_bits.specs.Widths.{argument_widths, width_of}
use Rattle.prim_bits.proofs.Taken.{taken_from_value}
use Rattle.prim_bits.proofs.Lengths.{length-bit_by_bit}

-- two words of one width
both_wide : (x : Scalar) (nats : List ℕ) (args : List (List Bool)) → argument_widths (Binary x) nats ≡ Some (map length args) → (length (get_or args 0 []) ≡ get_or nats 0 0) × (length (get_or args 1 []) ≡ get_or nats 0 0)
both_wide x [] args e = cc
both_wide x (n ∷ m ∷ more) args e = cc
both_wide x (n ∷ []) [] e = cc
both_wide x (n ∷ []) (a ∷ []) e = cc
both_wide x (n ∷ []) (a ∷ b ∷ c ∷ more) e = cc
both_wide x (n ∷ []) (a ∷ b ∷ []) e = (cc, cc)

-- one word, for the lines that take one
one_wide : (row : Row) (nats : List ℕ) (args : List (List Bool)) → ((n : ℕ) → argument_widths row (n ∷ []) ≡ Some (n ∷ [])) → argument_widths row [] ≡ None → ((n m : ℕ) (more : List ℕ) → argument_widths row (n ∷ m ∷ more) ≡ None) → argument_widths row nats ≡ Some (map length args) → length (get_or args 0 []) ≡ get_or nats 0 0
one_wide row [] args one none many e = cc
one_wide row (n ∷ m ∷ more) args one none many e = let f = many n m more in cc
one_wide row (n ∷ []) [] one none many e = let f = one n in cc
one_wide row (n ∷ []) (a ∷ b ∷ more) one none many e = let f = one n in cc
one_wide row (n ∷ []) (a ∷ []) one none many e = let f = one n in cc

joined_wide : (nats : List ℕ) (args : List (List Bool)) → argument_widths Joined nats ≡ Some (map length args) → length (get_or args 0 [] ++ get_or args 1 []) ≡ get_or nats 0 0 + get_or nats 1 0
joined_wide [] args e = cc
joined_wide (n ∷ []) args e = cc
joined_wide (n ∷ m ∷ k ∷ more) args e = cc
joined_wide (n ∷ m ∷ []) [] e = cc
joined_wide (n ∷ m ∷ []) (a ∷ []) e = cc
joined_wide (n ∷ m ∷ []) (a ∷ b ∷ c ∷ more) e = cc
joined_wide (n ∷ m ∷ []) (a ∷ b ∷ []) e =
    let first : n ≡ length a = cc in
    let second : m ≡ length b = cc in
    omega (arith, length-append a b)

zipped_wide : (of : Bool → Bool → Bool) (x : Scalar) (nats : List ℕ) (args : List (List Bool)) → argument_widths (Binary x) nats ≡ Some (map length args) → length (bit_by_bit of (get_or args 0 []) (get_or args 1 [])) ≡ get_or nats 0 0
zipped_wide of x nats args e =
    let wide = both_wide x nats args e in
    length-bit_by_bit of (get_or args 0 []) (get_or args 1 []) (wide.0 ∙ sym wide.1) ∙ wide.0

-- the result of a primitive that takes its words has its width
pub length-result_of : (p : Primitive) (nats : List ℕ) (args : List (List Bool)) → argument_widths (row_of p) nats ≡ Some (map length args) → length (result_of p (get_or nats 0 0) (get_or nats 1 0) (get_or args 0 []) (get_or args 1 [])) ≡ width_of p nats
length-result_of AddU nats args e = length-bits_of _ _
length-result_of AddS nats args e = length-bits_of _ _
length-result_of SubU nats args e = length-bits_of _ _
length-result_of SubS nats args e = length-bits_of _ _
length-result_of MulU nats args e = length-bits_of _ _
length-result_of MulS nats args e = length-bits_of _ _
length-result_of XaddU nats args e = length-bits_of _ _
length-result_of XaddS nats args e = length-bits_of _ _
length-result_of XmulU nats args e = length-bits_of _ _
length-result_of XmulS nats args e = length-bits_of _ _
length-result_of AndU nats args e = zipped_wide (λ x y. x && y) U nats args e
length-result_of AndS nats args e = zipped_wide (λ x y. x && y) S nats args e
length-result_of AndB nats args e = zipped_wide (λ x y. x && y) B nats args e
length-result_of OrU nats args e = zipped_wide (λ x y. x || y) U nats args e
length-result_of OrS nats args e = zipped_wide (λ x y. x || y) S nats args e
length-result_of OrB nats args e = zipped_wide (λ x y. x || y) B nats args e
length-result_of XorU nats args e = zipped_wide differ U nats args e
length-result_of XorS nats args e = zipped_wide differ S nats args e
length-result_of XorB nats args e = zipped_wide differ B nats args e
length-result_of NotU nats args e = length-map (get_or args 0 []) not ∙ one_wide (Unary U) nats args (λ n. refl) refl (λ n m more. refl) e
length-result_of NotS nats args e = length-map (get_or args 0 []) not ∙ one_wide (Unary S) nats args (λ n. refl) refl (λ n m more. refl) e
length-result_of NotB nats args e = length-map (get_or args 0 []) not ∙ one_wide (Unary B) nats args (λ n. refl) refl (λ n m more. refl) e
length-result_of ShlU nats args e = length-bits_of _ _
length-result_of ShlS nats args e = length-bits_of _ _
length-result_of ShlB nats args e = length-bits_of _ _
length-result_of ShrU nats args e = length-bits_of _ _
length-result_of ShrS nats args e = length-bits_of _ _
length-result_of ShrB nats args e = length-bits_of _ _
length-result_of EqU nats args e = refl
length-result_of EqS nats args e = refl
length-result_of EqB nats args e = refl
length-result_of LtU nats args e = refl
length-result_of LtS nats args e = refl
length-result_of ExtU nats args e = length-bits_of _ _
length-result_of ExtS nats args e = length-bits_of _ _
length-result_of ExtB nats args e = length-bits_of _ _
length-result_of TruncU nats args e = length-bits_of _ _
length-result_of TruncS nats args e = length-bits_of _ _
length-result_of TruncB nats args e = length-bits_of _ _
length-result_of Slice nats args e = length-bits_of _ _
length-result_of Join nats args e = joined_wide nats args e
length-result_of RedAnd nats args e = refl
length-result_of RedOr nats args e = refl
length-result_of RedXor nats args e = refl
length-result_of PackU nats args e = one_wide (Packed U) nats args (λ n. refl) refl (λ n m more. refl) e
length-result_of PackS nats args e = one_wide (Packed S) nats args (λ n. refl) refl (λ n m more. refl) e
length-result_of UnpackU nats args e = one_wide (Unpacked U) nats args (λ n. refl) refl (λ n m more. refl) e
length-result_of UnpackS nats args e = one_wide (Unpacked S) nats args (λ n. refl) refl (λ n m more. refl) e
length-result_of Fmap nats args e = cc
length-result_of Ap nats args e = cc
length-result_of Pure nats args e = cc
length-result_of Register nats args e = cc
length-result_of BlockRam nats args e = cc
length-result_of UnsafeSynchronizer nats args e = cc
length-result_of VGet nats args e = cc
length-result_of VGetC nats args e = cc
length-result_of VAt nats args e = cc
length-result_of VReplace nats args e = cc
length-result_of VMap nats args e = cc
length-result_of VMapC nats args e = cc
length-result_of VZipWith nats args e = cc
length-result_of VZipWithC nats args e = cc
length-result_of VFoldl nats args e = cc
length-result_of VFoldlC nats args e = cc
length-result_of VFoldr nats args e = cc
length-result_of VFoldrC nats args e = cc
length-result_of VGenerate nats args e = cc
length-result_of VGenerateC nats args e = cc
length-result_of VReplicate nats args e = cc
length-result_of VReplicateC nats args e = cc
length-result_of VAppend nats args e = cc
length-result_of VAppendC nats args e = cc
length-result_of VConcat nats args e = cc
length-result_of VConcatC nats args e = cc
length-result_of VTake nats args e = cc
length-result_of VTakeC nats args e = cc
length-result_of VDrop nats args e = cc
length-result_of VDropC nats args e = cc
length-result_of VReverse nats args e = cc
length-result_of VReverseC nats args e = cc
length-result_of VRotl nats args e = cc
length-result_of VRotlC nats args e = cc

pub width_of_value : (p : Primitive) (nats : List ℕ) (args : List (List Bool)) (r : List Bool) → value_of p nats args ≡ Some r → length r ≡ width_of p nats
width_of_value p nats args r e =
    let parts = taken_from_value p nats args r e in
    ap length parts.1 ∙ length-result_of p nats args parts.0.0
