-- The types that signatures stand for. A number stands for a variable.
use Rattle.chw_types.specs.declared.kind.Scalar.TheVariants.{U}
use Rattle.chw_types.specs.TypeTree.{TypeTree, ty_var, nat_lit, nat_sum, nat_product, scalar}
use Rattle.chw_types.specs.TypeTree.{vector, fun, signal, for_all}
use Rattle.chw_prims.specs.Schemas.{bool, maybe, pair}
use Rattle.chw_prims.specs.declared.signature.Size.{Size}
use Rattle.chw_prims.specs.declared.signature.Size.TheVariants.{Given, OneMore, Above, Sum}
use Rattle.chw_prims.specs.declared.signature.Size.TheVariants.{SumOfThree, Product}
use Rattle.chw_prims.specs.declared.signature.Part.{Part}
use Rattle.chw_prims.specs.declared.signature.Part.TheVariants.{Var, Bool, Word, Vector, Vectors}
use Rattle.chw_prims.specs.declared.signature.Part.TheVariants.{Function, FunctionOfTwo, OfPlace}
use Rattle.chw_prims.specs.declared.signature.Part.TheVariants.{Samples, Functions, Places, Writes}
use Rattle.chw_prims.specs.declared.signature.Inputs.{Inputs}
use Rattle.chw_prims.specs.declared.signature.Inputs.TheVariants.{Single, Double, Triple}
use Rattle.chw_prims.specs.declared.signature.Kinds.{Kinds}
use Rattle.chw_prims.specs.declared.signature.Kinds.TheVariants.{One, Two, Three, Four}
use Rattle.chw_prims.specs.declared.signature.Signature.{Signature}

-- the natural that a size is
abbrev pub size_type : Size → TypeTree
size_type (Given n) = ty_var n
size_type (OneMore n) = nat_sum (ty_var n) (nat_lit 1)
size_type (Above n m) = nat_sum (nat_sum (ty_var n) (nat_lit 1)) (ty_var m)
size_type (Sum n m) = nat_sum (ty_var n) (ty_var m)
size_type (SumOfThree l m n) = nat_sum (nat_sum (ty_var l) (ty_var m)) (ty_var n)
size_type (Product n m) = nat_product (ty_var n) (ty_var m)

-- the type of an argument or of the result
abbrev pub part_type : Part → TypeTree
part_type (Var a) = ty_var a
part_type Bool = bool
part_type (Word sort width) = scalar sort (size_type width)
part_type (Vector len a) = vector (size_type len) (ty_var a)
part_type (Vectors n m a) = vector (ty_var n) (vector (ty_var m) (ty_var a))
part_type (Function a b) = fun (ty_var a) (ty_var b)
part_type (FunctionOfTwo a b c) = fun (ty_var a) (fun (ty_var b) (ty_var c))
part_type (OfPlace k a) = fun (scalar U (ty_var k)) (ty_var a)
part_type (Samples d a) = signal (ty_var d) (ty_var a)
part_type (Functions d a b) = signal (ty_var d) (fun (ty_var a) (ty_var b))
part_type (Places d k) = signal (ty_var d) (scalar U (ty_var k))
part_type (Writes d k a) = signal (ty_var d) (maybe (pair (scalar U (ty_var k)) (ty_var a)))

-- the functions of these arguments to a type
abbrev pub functions : Inputs → TypeTree → TypeTree
functions (Single a) to = fun (part_type a) to
functions (Double a b) to = fun (part_type a) (fun (part_type b) to)
functions (Triple a b c) to = fun (part_type a) (fun (part_type b) (fun (part_type c) to))

-- the type that asks for type arguments of these kinds
abbrev pub under_kinds : Kinds → TypeTree → TypeTree
under_kinds (One i) of = for_all i of
under_kinds (Two i j) of = for_all i (for_all j of)
under_kinds (Three i j k) of = for_all i (for_all j (for_all k of))
under_kinds (Four i j k l) of = for_all i (for_all j (for_all k (for_all l of)))

-- the type that a signature is
abbrev pub signature_type : Signature → TypeTree
signature_type s = under_kinds s.kinds (functions s.inputs (part_type s.output))
