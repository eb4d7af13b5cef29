-- The primitives' types have kinds.
use Rattle.std.proofs.Common.{◌≡◌, ℕ, Bool, true, false, List, [], ◌++◌, refl}
use Rattle.std.specs.Prelude.{Some}
use Rattle.chw_types.specs.declared.kind.Kind.{Kind}
use Rattle.chw_types.specs.declared.kind.Kind.TheVariants.{Val, Cir}
use Rattle.chw_types.specs.declared.declarations.Data.{Data}
use Rattle.chw_types.specs.BuiltIn.{built_in}
use Rattle.chw_types.specs.Kinds.{IsOfTerms}
use Rattle.chw_types.specs.KindFound.{kind_found}
use Rattle.chw_prims.specs.declared.prim.Primitive.{Primitive}
use Rattle.chw_prims.specs.declared.prim.Primitive.TheVariants.{AddU, AddS, SubU, SubS, MulU, MulS, XaddU, XaddS, XmulU, XmulS, AndU, AndS, AndB, OrU, OrS, OrB, XorU, XorS, XorB, NotU, NotS, NotB, ShlU, ShlS, ShlB, ShrU, ShrS, ShrB, EqU, EqS, EqB, LtU, LtS, ExtU, ExtS, ExtB, TruncU, TruncS, TruncB, Slice, Join, RedAnd, RedOr, RedXor, PackU, PackS, UnpackU, UnpackS, Fmap, Ap, Pure, Register, BlockRam, UnsafeSynchronizer, VGet, VGetC, VAt, VReplace, VMap, VMapC, VZipWith, VZipWithC, VFoldl, VFoldlC, VFoldr, VFoldrC, VGenerate, VGenerateC, VReplicate, VReplicateC, VAppend, VAppendC, VConcat, VConcatC, VTake, VTakeC, VDrop, VDropC, VReverse, VReverseC, VRotl, VRotlC}
use Rattle.chw_prims.specs.Schemas.{schema_type}

-- a signal or a circuit is among the arguments
abbrev pub is_circuit : Primitive → Bool
is_circuit AddU = false
is_circuit AddS = false
is_circuit SubU = false
is_circuit SubS = false
is_circuit MulU = false
is_circuit MulS = false
is_circuit XaddU = false
is_circuit XaddS = false
is_circuit XmulU = false
is_circuit XmulS = false
is_circuit AndU = false
is_circuit AndS = false
is_circuit AndB = false
is_circuit OrU = false
is_circuit OrS = false
is_circuit OrB = false
is_circuit XorU = false
is_circuit XorS = false
is_circuit XorB = false
is_circuit NotU = false
is_circuit NotS = false
is_circuit NotB = false
is_circuit ShlU = false
is_circuit ShlS = false
is_circuit ShlB = false
is_circuit ShrU = false
is_circuit ShrS = false
is_circuit ShrB = false
is_circuit EqU = false
is_circuit EqS = false
is_circuit EqB = false
is_circuit LtU = false
is_circuit LtS = false
is_circuit ExtU = false
is_circuit ExtS = false
is_circuit ExtB = false
is_circuit TruncU = false
is_circuit TruncS = false
is_circuit TruncB = false
is_circuit Slice = false
is_circuit Join = false
is_circuit RedAnd = false
is_circuit RedOr = false
is_circuit RedXor = false
is_circuit PackU = false
is_circuit PackS = false
is_circuit UnpackU = false
is_circuit UnpackS = false
is_circuit Fmap = true
is_circuit Ap = true
is_circuit Pure = true
is_circuit Register = true
is_circuit BlockRam = true
is_circuit UnsafeSynchronizer = true
is_circuit VGet = false
is_circuit VGetC = true
is_circuit VAt = false
is_circuit VReplace = false
is_circuit VMap = false
is_circuit VMapC = true
is_circuit VZipWith = false
is_circuit VZipWithC = true
is_circuit VFoldl = false
is_circuit VFoldlC = true
is_circuit VFoldr = false
is_circuit VFoldrC = true
is_circuit VGenerate = false
is_circuit VGenerateC = true
is_circuit VReplicate = false
is_circuit VReplicateC = true
is_circuit VAppend = false
is_circuit VAppendC = true
is_circuit VConcat = false
is_circuit VConcatC = true
is_circuit VTake = false
is_circuit VTakeC = true
is_circuit VDrop = false
is_circuit VDropC = true
is_circuit VReverse = false
is_circuit VReverseC = true
is_circuit VRotl = false
is_circuit VRotlC = true

abbrev pub kind_by : Bool → Kind
kind_by false = Val
kind_by true = Cir

abbrev pub kind_of_schema : Primitive → Kind
kind_of_schema p = kind_by (is_circuit p)

pub is_of_terms : (b : Bool) → IsOfTerms (kind_by b)
is_of_terms false = tt
is_of_terms true = tt

pub schema_has_kind : (p : Primitive) (others : List Data) (domains : ℕ) → kind_found (built_in ++ others) domains [] (schema_type p) ≡ Some (kind_of_schema p)
unfolding kind_found
schema_has_kind AddU others domains = refl
schema_has_kind AddS others domains = refl
schema_has_kind SubU others domains = refl
schema_has_kind SubS others domains = refl
schema_has_kind MulU others domains = refl
schema_has_kind MulS others domains = refl
schema_has_kind XaddU others domains = refl
schema_has_kind XaddS others domains = refl
schema_has_kind XmulU others domains = refl
schema_has_kind XmulS others domains = refl
schema_has_kind AndU others domains = refl
schema_has_kind AndS others domains = refl
schema_has_kind AndB others domains = refl
schema_has_kind OrU others domains = refl
schema_has_kind OrS others domains = refl
schema_has_kind OrB others domains = refl
schema_has_kind XorU others domains = refl
schema_has_kind XorS others domains = refl
schema_has_kind XorB others domains = refl
schema_has_kind NotU others domains = refl
schema_has_kind NotS others domains = refl
schema_has_kind NotB others domains = refl
schema_has_kind ShlU others domains = refl
schema_has_kind ShlS others domains = refl
schema_has_kind ShlB others domains = refl
schema_has_kind ShrU others domains = refl
schema_has_kind ShrS others domains = refl
schema_has_kind ShrB others domains = refl
schema_has_kind EqU others domains = refl
schema_has_kind EqS others domains = refl
schema_has_kind EqB others domains = refl
schema_has_kind LtU others domains = refl
schema_has_kind LtS others domains = refl
schema_has_kind ExtU others domains = refl
schema_has_kind ExtS others domains = refl
schema_has_kind ExtB others domains = refl
schema_has_kind TruncU others domains = refl
schema_has_kind TruncS others domains = refl
schema_has_kind TruncB others domains = refl
schema_has_kind Slice others domains = refl
schema_has_kind Join others domains = refl
schema_has_kind RedAnd others domains = refl
schema_has_kind RedOr others domains = refl
schema_has_kind RedXor others domains = refl
schema_has_kind PackU others domains = refl
schema_has_kind PackS others domains = refl
schema_has_kind UnpackU others domains = refl
schema_has_kind UnpackS others domains = refl
schema_has_kind Fmap others domains = refl
schema_has_kind Ap others domains = refl
schema_has_kind Pure others domains = refl
schema_has_kind Register others domains = refl
schema_has_kind BlockRam others domains = refl
schema_has_kind UnsafeSynchronizer others domains = refl
schema_has_kind VGet others domains = refl
schema_has_kind VGetC others domains = refl
schema_has_kind VAt others domains = refl
schema_has_kind VReplace others domains = refl
schema_has_kind VMap others domains = refl
schema_has_kind VMapC others domains = refl
schema_has_kind VZipWith others domains = refl
schema_has_kind VZipWithC others domains = refl
schema_has_kind VFoldl others domains = refl
schema_has_kind VFoldlC others domains = refl
schema_has_kind VFoldr others domains = refl
schema_has_kind VFoldrC others domains = refl
schema_has_kind VGenerate others domains = refl
schema_has_kind VGenerateC others domains = refl
schema_has_kind VReplicate others domains = refl
schema_has_kind VReplicateC others domains = refl
schema_has_kind VAppend others domains = refl
schema_has_kind VAppendC others domains = refl
schema_has_kind VConcat others domains = refl
schema_has_kind VConcatC others domains = refl
schema_has_kind VTake others domains = refl
schema_has_kind VTakeC others domains = refl
schema_has_kind VDrop others domains = refl
schema_has_kind VDropC others domains = refl
schema_has_kind VReverse others domains = refl
schema_has_kind VReverseC others domains = refl
schema_has_kind VRotl others domains = refl
schema_has_kind VRotlC others domains = refl
