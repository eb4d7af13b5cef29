-- Each primitive is found by its name.
use Rattle.std.proofs.Common.{◌≡◌, ℕ, List, [], ◌∷◌, Option, Some, None, cond, refl, sym, ap, ◌∙◌, lit<}
use Rattle.std.specs.List.{Contains}
use Rattle.std.specs.Option.{IfNone}
use Rattle.std.specs.Str.{bytes_eq}
use Rattle.std.proofs.lemmas.Option.{same_Some}
use Rattle.chw_prims.specs.declared.prim.Primitive.{Primitive}
use Rattle.chw_prims.specs.declared.prim.Primitive.TheVariants.{AddU, AddS, SubU, SubS, MulU, MulS, XaddU, XaddS, XmulU, XmulS, AndU, AndS, AndB, OrU, OrS, OrB, XorU, XorS, XorB, NotU, NotS, NotB, ShlU, ShlS, ShlB, ShrU, ShrS, ShrB, EqU, EqS, EqB, LtU, LtS, ExtU, ExtS, ExtB, TruncU, TruncS, TruncB, Slice, Join, RedAnd, RedOr, RedXor, PackU, PackS, UnpackU, UnpackS, Fmap, Ap, Pure, Register, BlockRam, UnsafeSynchronizer, VGet, VGetC, VAt, VReplace, VMap, VMapC, VZipWith, VZipWithC, VFoldl, VFoldlC, VFoldr, VFoldrC, VGenerate, VGenerateC, VReplicate, VReplicateC, VAppend, VAppendC, VConcat, VConcatC, VTake, VTakeC, VDrop, VDropC, VReverse, VReverseC, VRotl, VRotlC}
use Rattle.chw_prims.specs.declared.names.TheConstants.{ALL}
use Rattle.chw_prims.specs.Names.{name_of}

-- the first of these of this name
abbrev pub first_named : List Primitive → List ℕ → Option Primitive
first_named [] name = None
first_named (p ∷ ps) name = cond (bytes_eq (name_of p) name) (Some p) (first_named ps name)

found : (p : Primitive) → first_named ALL (name_of p) ≡ Some p
found AddU = refl
found AddS = refl
found SubU = refl
found SubS = refl
found MulU = refl
found MulS = refl
found XaddU = refl
found XaddS = refl
found XmulU = refl
found XmulS = refl
found AndU = refl
found AndS = refl
found AndB = refl
found OrU = refl
found OrS = refl
found OrB = refl
found XorU = refl
found XorS = refl
found XorB = refl
found NotU = refl
found NotS = refl
found NotB = refl
found ShlU = refl
found ShlS = refl
found ShlB = refl
found ShrU = refl
found ShrS = refl
found ShrB = refl
found EqU = refl
found EqS = refl
found EqB = refl
found LtU = refl
found LtS = refl
found ExtU = refl
found ExtS = refl
found ExtB = refl
found TruncU = refl
found TruncS = refl
found TruncB = refl
found Slice = refl
found Join = refl
found RedAnd = refl
found RedOr = refl
found RedXor = refl
found PackU = refl
found PackS = refl
found UnpackU = refl
found UnpackS = refl
found Fmap = refl
found Ap = refl
found Pure = refl
found Register = refl
found BlockRam = refl
found UnsafeSynchronizer = refl
found VGet = refl
found VGetC = refl
found VAt = refl
found VReplace = refl
found VMap = refl
found VMapC = refl
found VZipWith = refl
found VZipWithC = refl
found VFoldl = refl
found VFoldlC = refl
found VFoldr = refl
found VFoldrC = refl
found VGenerate = refl
found VGenerateC = refl
found VReplicate = refl
found VReplicateC = refl
found VAppend = refl
found VAppendC = refl
found VConcat = refl
found VConcatC = refl
found VTake = refl
found VTakeC = refl
found VDrop = refl
found VDropC = refl
found VReverse = refl
found VReverseC = refl
found VRotl = refl
found VRotlC = refl

pub distinct : (p q : Primitive) → name_of p ≡ name_of q → p ≡ q
distinct p q e = same_Some p q (sym (found p) ∙ ap (first_named ALL) e ∙ found q)

pub all : (p : Primitive) → Contains ALL p
all AddU = (0, lit< tt, refl)
all AddS = (1, lit< tt, refl)
all SubU = (2, lit< tt, refl)
all SubS = (3, lit< tt, refl)
all MulU = (4, lit< tt, refl)
all MulS = (5, lit< tt, refl)
all XaddU = (6, lit< tt, refl)
all XaddS = (7, lit< tt, refl)
all XmulU = (8, lit< tt, refl)
all XmulS = (9, lit< tt, refl)
all AndU = (10, lit< tt, refl)
all AndS = (11, lit< tt, refl)
all AndB = (12, lit< tt, refl)
all OrU = (13, lit< tt, refl)
all OrS = (14, lit< tt, refl)
all OrB = (15, lit< tt, refl)
all XorU = (16, lit< tt, refl)
all XorS = (17, lit< tt, refl)
all XorB = (18, lit< tt, refl)
all NotU = (19, lit< tt, refl)
all NotS = (20, lit< tt, refl)
all NotB = (21, lit< tt, refl)
all ShlU = (22, lit< tt, refl)
all ShlS = (23, lit< tt, refl)
all ShlB = (24, lit< tt, refl)
all ShrU = (25, lit< tt, refl)
all ShrS = (26, lit< tt, refl)
all ShrB = (27, lit< tt, refl)
all EqU = (28, lit< tt, refl)
all EqS = (29, lit< tt, refl)
all EqB = (30, lit< tt, refl)
all LtU = (31, lit< tt, refl)
all LtS = (32, lit< tt, refl)
all ExtU = (33, lit< tt, refl)
all ExtS = (34, lit< tt, refl)
all ExtB = (35, lit< tt, refl)
all TruncU = (36, lit< tt, refl)
all TruncS = (37, lit< tt, refl)
all TruncB = (38, lit< tt, refl)
all Slice = (39, lit< tt, refl)
all Join = (40, lit< tt, refl)
all RedAnd = (41, lit< tt, refl)
all RedOr = (42, lit< tt, refl)
all RedXor = (43, lit< tt, refl)
all PackU = (44, lit< tt, refl)
all PackS = (45, lit< tt, refl)
all UnpackU = (46, lit< tt, refl)
all UnpackS = (47, lit< tt, refl)
all Fmap = (48, lit< tt, refl)
all Ap = (49, lit< tt, refl)
all Pure = (50, lit< tt, refl)
all Register = (51, lit< tt, refl)
all BlockRam = (52, lit< tt, refl)
all UnsafeSynchronizer = (53, lit< tt, refl)
all VGet = (54, lit< tt, refl)
all VGetC = (55, lit< tt, refl)
all VAt = (56, lit< tt, refl)
all VReplace = (57, lit< tt, refl)
all VMap = (58, lit< tt, refl)
all VMapC = (59, lit< tt, refl)
all VZipWith = (60, lit< tt, refl)
all VZipWithC = (61, lit< tt, refl)
all VFoldl = (62, lit< tt, refl)
all VFoldlC = (63, lit< tt, refl)
all VFoldr = (64, lit< tt, refl)
all VFoldrC = (65, lit< tt, refl)
all VGenerate = (66, lit< tt, refl)
all VGenerateC = (67, lit< tt, refl)
all VReplicate = (68, lit< tt, refl)
all VReplicateC = (69, lit< tt, refl)
all VAppend = (70, lit< tt, refl)
all VAppendC = (71, lit< tt, refl)
all VConcat = (72, lit< tt, refl)
all VConcatC = (73, lit< tt, refl)
all VTake = (74, lit< tt, refl)
all VTakeC = (75, lit< tt, refl)
all VDrop = (76, lit< tt, refl)
all VDropC = (77, lit< tt, refl)
all VReverse = (78, lit< tt, refl)
all VReverseC = (79, lit< tt, refl)
all VRotl = (80, lit< tt, refl)
all VRotlC = (81, lit< tt, refl)

-- a name that none of all primitives has is no primitive's
pub none_of_all : (found : Option Primitive) (name : List ℕ) → IfNone found ((p : Primitive) → Contains ALL p → name_of p ≡ name → ⊥) → IfNone found ((p : Primitive) → name_of p ≡ name → ⊥)
none_of_all None name none = λ p e. none p (all p) e
none_of_all (Some q) name none = none
