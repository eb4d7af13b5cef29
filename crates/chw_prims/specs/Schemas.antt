-- The types of the primitives, a line for each line of their table.
use Rattle.chw_types.specs.declared.kind.Kind.{Kind}
use Rattle.chw_types.specs.declared.kind.Kind.TheVariants.{Nat, Dom, Val, Cir}
use Rattle.chw_types.specs.declared.kind.Scalar.TheVariants.{U, S, B}
use Rattle.chw_types.specs.TypeTree.{TypeTree, ty_var, nat_lit, nat_sum, nat_product, scalar, vector, data_of, fun, signal, for_all, no_types, type_and}
use Rattle.chw_prims.specs.declared.prim.Primitive.{Primitive}
use Rattle.chw_prims.specs.declared.prim.Primitive.TheVariants.{AddU, AddS, SubU, SubS, MulU, MulS, AndU, AndS, AndB, OrU, OrS, OrB, XorU, XorS, XorB, XaddU, XaddS, XmulU, XmulS, NotU, NotS, NotB, ShlU, ShlS, ShlB, ShrU, ShrS, ShrB, EqU, EqS, EqB, LtU, LtS, ExtU, ExtS, ExtB, TruncU, TruncS, TruncB, Slice, Join, RedAnd, RedOr, RedXor, PackU, PackS, UnpackU, UnpackS, Fmap, Ap, Pure, Register, BlockRam, UnsafeSynchronizer, VGet, VGetC, VAt, VReplace, VMap, VMapC, VZipWith, VZipWithC, VFoldl, VFoldlC, VFoldr, VFoldrC, VGenerate, VGenerateC, VReplicate, VReplicateC, VAppend, VAppendC, VConcat, VConcatC, VTake, VTakeC, VDrop, VDropC, VReverse, VReverseC, VRotl, VRotlC}
use Rattle.chw_prims.specs.declared.row.Row.{Row}
use Rattle.chw_prims.specs.declared.row.Row.TheVariants.{Binary, WideSum, WideProduct, Unary, Shift, Compare, Extend, Truncate, Cut, Joined, Reduce, Packed, Unpacked, Mapping, Applying, Constant, Delay, Memory, Crossing, Element, ElementAt, Replaced, Mapped, Zipped, FoldedLeft, FoldedRight, Generated, Replicated, Appended, Concatenated, Taken, Dropped, Reversed, Rotated}

infixr 30 ◌⇒◌
-- functions
abbrev pub ◌⇒◌ : TypeTree → TypeTree → TypeTree
a ⇒ b = fun a b

-- a type that asks for type arguments of these kinds, as a function of them
abbrev pub for_1 : Kind → (TypeTree → TypeTree) → TypeTree
for_1 i of = for_all i (of (ty_var 0))

abbrev pub for_2 : (i j : Kind) → (TypeTree → TypeTree → TypeTree) → TypeTree
for_2 i j of = for_all i (for_all j (of (ty_var 1) (ty_var 0)))

abbrev pub for_3 : (i j k : Kind) → (TypeTree → TypeTree → TypeTree → TypeTree) → TypeTree
for_3 i j k of = for_all i (for_all j (for_all k (of (ty_var 2) (ty_var 1) (ty_var 0))))

abbrev pub for_4 : (i j k l : Kind) → (TypeTree → TypeTree → TypeTree → TypeTree → TypeTree) → TypeTree
for_4 i j k l of = for_all i (for_all j (for_all k (for_all l (of (ty_var 3) (ty_var 2) (ty_var 1) (ty_var 0)))))

-- the built-in data types
abbrev pub bool : TypeTree
bool = data_of 0 no_types

abbrev pub maybe : TypeTree → TypeTree
maybe a = data_of 1 (type_and a no_types)

abbrev pub pair : TypeTree → TypeTree → TypeTree
pair a b = data_of 2 (type_and a (type_and b no_types))

-- the type of each line, at a sort of scalars or a kind of elements
abbrev pub row_type : Row → TypeTree
row_type (Binary x) = for_1 Nat (λ n. scalar x n ⇒ scalar x n ⇒ scalar x n)
row_type (WideSum x) = for_1 Nat (λ n. scalar x n ⇒ scalar x n ⇒ scalar x (nat_sum n (nat_lit 1)))
row_type (WideProduct x) = for_2 Nat Nat (λ n m. scalar x n ⇒ scalar x m ⇒ scalar x (nat_sum n m))
row_type (Unary x) = for_1 Nat (λ n. scalar x n ⇒ scalar x n)
row_type (Shift x) = for_2 Nat Nat (λ n k. scalar x n ⇒ scalar U k ⇒ scalar x n)
row_type (Compare x) = for_1 Nat (λ n. scalar x n ⇒ scalar x n ⇒ bool)
row_type (Extend x) = for_2 Nat Nat (λ n m. scalar x n ⇒ scalar x (nat_sum n m))
row_type (Truncate x) = for_2 Nat Nat (λ n m. scalar x (nat_sum n m) ⇒ scalar x n)
row_type Cut = for_3 Nat Nat Nat (λ l n u. scalar B (nat_sum (nat_sum u n) l) ⇒ scalar B n)
row_type Joined = for_2 Nat Nat (λ n m. scalar B n ⇒ scalar B m ⇒ scalar B (nat_sum n m))
row_type Reduce = for_1 Nat (λ n. scalar B n ⇒ bool)
row_type (Packed x) = for_1 Nat (λ n. scalar x n ⇒ scalar B n)
row_type (Unpacked x) = for_1 Nat (λ n. scalar B n ⇒ scalar x n)
row_type Mapping = for_3 Dom Val Val (λ d a b. (a ⇒ b) ⇒ signal d a ⇒ signal d b)
row_type Applying = for_3 Dom Val Val (λ d a b. signal d (a ⇒ b) ⇒ signal d a ⇒ signal d b)
row_type Constant = for_2 Dom Val (λ d a. a ⇒ signal d a)
row_type Delay = for_2 Dom Val (λ d a. a ⇒ signal d a ⇒ signal d a)
row_type Memory = for_4 Dom Nat Nat Val (λ d n k a. vector (nat_sum n (nat_lit 1)) a ⇒ signal d (scalar U k) ⇒ signal d (maybe (pair (scalar U k) a)) ⇒ signal d a)
row_type Crossing = for_3 Dom Dom Val (λ d e a. signal d a ⇒ signal e a)
row_type (Element kind) = for_3 Nat Nat kind (λ i n a. vector (nat_sum (nat_sum i (nat_lit 1)) n) a ⇒ a)
row_type ElementAt = for_3 Nat Nat Val (λ n k a. vector (nat_sum n (nat_lit 1)) a ⇒ scalar U k ⇒ a)
row_type Replaced = for_3 Nat Nat Val (λ n k a. vector n a ⇒ scalar U k ⇒ a ⇒ vector n a)
row_type (Mapped kind) = for_3 Nat kind kind (λ n a b. (a ⇒ b) ⇒ vector n a ⇒ vector n b)
row_type (Zipped kind) = for_4 Nat kind kind kind (λ n a b c. (a ⇒ b ⇒ c) ⇒ vector n a ⇒ vector n b ⇒ vector n c)
row_type (FoldedLeft kind) = for_3 Nat kind kind (λ n a b. (b ⇒ a ⇒ b) ⇒ b ⇒ vector n a ⇒ b)
row_type (FoldedRight kind) = for_3 Nat kind kind (λ n a b. (a ⇒ b ⇒ b) ⇒ b ⇒ vector n a ⇒ b)
row_type (Generated kind) = for_3 Nat Nat kind (λ n k a. (scalar U k ⇒ a) ⇒ vector n a)
row_type (Replicated kind) = for_2 Nat kind (λ n a. a ⇒ vector n a)
row_type (Appended kind) = for_3 Nat Nat kind (λ n m a. vector n a ⇒ vector m a ⇒ vector (nat_sum n m) a)
row_type (Concatenated kind) = for_3 Nat Nat kind (λ n m a. vector n (vector m a) ⇒ vector (nat_product n m) a)
row_type (Taken kind) = for_3 Nat Nat kind (λ n m a. vector (nat_sum n m) a ⇒ vector n a)
row_type (Dropped kind) = for_3 Nat Nat kind (λ n m a. vector (nat_sum n m) a ⇒ vector m a)
row_type (Reversed kind) = for_2 Nat kind (λ n a. vector n a ⇒ vector n a)
row_type (Rotated kind) = for_3 Nat Nat kind (λ n k a. vector n a ⇒ vector n a)

-- the line of each primitive
abbrev pub row_of : Primitive → Row
row_of AddU = Binary U
row_of AddS = Binary S
row_of SubU = Binary U
row_of SubS = Binary S
row_of MulU = Binary U
row_of MulS = Binary S
row_of AndU = Binary U
row_of AndS = Binary S
row_of AndB = Binary B
row_of OrU = Binary U
row_of OrS = Binary S
row_of OrB = Binary B
row_of XorU = Binary U
row_of XorS = Binary S
row_of XorB = Binary B
row_of XaddU = WideSum U
row_of XaddS = WideSum S
row_of XmulU = WideProduct U
row_of XmulS = WideProduct S
row_of NotU = Unary U
row_of NotS = Unary S
row_of NotB = Unary B
row_of ShlU = Shift U
row_of ShlS = Shift S
row_of ShlB = Shift B
row_of ShrU = Shift U
row_of ShrS = Shift S
row_of ShrB = Shift B
row_of EqU = Compare U
row_of EqS = Compare S
row_of EqB = Compare B
row_of LtU = Compare U
row_of LtS = Compare S
row_of ExtU = Extend U
row_of ExtS = Extend S
row_of ExtB = Extend B
row_of TruncU = Truncate U
row_of TruncS = Truncate S
row_of TruncB = Truncate B
row_of Slice = Cut
row_of Join = Joined
row_of RedAnd = Reduce
row_of RedOr = Reduce
row_of RedXor = Reduce
row_of PackU = Packed U
row_of PackS = Packed S
row_of UnpackU = Unpacked U
row_of UnpackS = Unpacked S
row_of Fmap = Mapping
row_of Ap = Applying
row_of Pure = Constant
row_of Register = Delay
row_of BlockRam = Memory
row_of UnsafeSynchronizer = Crossing
row_of VGet = Element Val
row_of VGetC = Element Cir
row_of VAt = ElementAt
row_of VReplace = Replaced
row_of VMap = Mapped Val
row_of VMapC = Mapped Cir
row_of VZipWith = Zipped Val
row_of VZipWithC = Zipped Cir
row_of VFoldl = FoldedLeft Val
row_of VFoldlC = FoldedLeft Cir
row_of VFoldr = FoldedRight Val
row_of VFoldrC = FoldedRight Cir
row_of VGenerate = Generated Val
row_of VGenerateC = Generated Cir
row_of VReplicate = Replicated Val
row_of VReplicateC = Replicated Cir
row_of VAppend = Appended Val
row_of VAppendC = Appended Cir
row_of VConcat = Concatenated Val
row_of VConcatC = Concatenated Cir
row_of VTake = Taken Val
row_of VTakeC = Taken Cir
row_of VDrop = Dropped Val
row_of VDropC = Dropped Cir
row_of VReverse = Reversed Val
row_of VReverseC = Reversed Cir
row_of VRotl = Rotated Val
row_of VRotlC = Rotated Cir

-- the type of each primitive
abbrev pub schema_type : Primitive → TypeTree
schema_type p = row_type (row_of p)
