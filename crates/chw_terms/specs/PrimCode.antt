-- The primitives as numbers, which give them back.
use Rattle.std.specs.Prelude.{◌≡◌, ℕ, List, [], ◌∷◌, slice_index_or, refl}
use Rattle.chw_prims.specs.declared.prim.Primitive.{Primitive as Prim}
use Rattle.chw_prims.specs.declared.prim.Primitive.TheVariants.{AddU, AddS, SubU, SubS, MulU, MulS, XaddU, XaddS, XmulU, XmulS, AndU, AndS, AndB, OrU, OrS, OrB, XorU, XorS, XorB, NotU, NotS, NotB, ShlU, ShlS, ShlB, ShrU, ShrS, ShrB, EqU, EqS, EqB, LtU, LtS, ExtU, ExtS, ExtB, TruncU, TruncS, TruncB, Slice, Join, RedAnd, RedOr, RedXor, PackU, PackS, UnpackU, UnpackS, Fmap, Ap, Pure, Register, BlockRam, UnsafeSynchronizer, VGet, VGetC, VAt, VReplace, VMap, VMapC, VZipWith, VZipWithC, VFoldl, VFoldlC, VFoldr, VFoldrC, VGenerate, VGenerateC, VReplicate, VReplicateC, VAppend, VAppendC, VConcat, VConcatC, VTake, VTakeC, VDrop, VDropC, VReverse, VReverseC, VRotl, VRotlC}

-- all primitives, in order of declaration
abbrev pub prims : List Prim
prims =
    AddU ∷ AddS ∷ SubU ∷ SubS ∷ MulU ∷ MulS ∷ XaddU ∷ XaddS
    ∷ XmulU ∷ XmulS ∷ AndU ∷ AndS ∷ AndB ∷ OrU ∷ OrS ∷ OrB
    ∷ XorU ∷ XorS ∷ XorB ∷ NotU ∷ NotS ∷ NotB ∷ ShlU ∷ ShlS
    ∷ ShlB ∷ ShrU ∷ ShrS ∷ ShrB ∷ EqU ∷ EqS ∷ EqB ∷ LtU
    ∷ LtS ∷ ExtU ∷ ExtS ∷ ExtB ∷ TruncU ∷ TruncS ∷ TruncB ∷ Slice
    ∷ Join ∷ RedAnd ∷ RedOr ∷ RedXor ∷ PackU ∷ PackS ∷ UnpackU ∷ UnpackS
    ∷ Fmap ∷ Ap ∷ Pure ∷ Register ∷ BlockRam ∷ UnsafeSynchronizer ∷ VGet ∷ VGetC
    ∷ VAt ∷ VReplace ∷ VMap ∷ VMapC ∷ VZipWith ∷ VZipWithC ∷ VFoldl ∷ VFoldlC
    ∷ VFoldr ∷ VFoldrC ∷ VGenerate ∷ VGenerateC ∷ VReplicate ∷ VReplicateC ∷ VAppend ∷ VAppendC
    ∷ VConcat ∷ VConcatC ∷ VTake ∷ VTakeC ∷ VDrop ∷ VDropC ∷ VReverse ∷ VReverseC
    ∷ VRotl ∷ VRotlC ∷ []

-- the place of a primitive among them
abbrev pub prim_number : Prim → ℕ
prim_number AddU = 0
prim_number AddS = 1
prim_number SubU = 2
prim_number SubS = 3
prim_number MulU = 4
prim_number MulS = 5
prim_number XaddU = 6
prim_number XaddS = 7
prim_number XmulU = 8
prim_number XmulS = 9
prim_number AndU = 10
prim_number AndS = 11
prim_number AndB = 12
prim_number OrU = 13
prim_number OrS = 14
prim_number OrB = 15
prim_number XorU = 16
prim_number XorS = 17
prim_number XorB = 18
prim_number NotU = 19
prim_number NotS = 20
prim_number NotB = 21
prim_number ShlU = 22
prim_number ShlS = 23
prim_number ShlB = 24
prim_number ShrU = 25
prim_number ShrS = 26
prim_number ShrB = 27
prim_number EqU = 28
prim_number EqS = 29
prim_number EqB = 30
prim_number LtU = 31
prim_number LtS = 32
prim_number ExtU = 33
prim_number ExtS = 34
prim_number ExtB = 35
prim_number TruncU = 36
prim_number TruncS = 37
prim_number TruncB = 38
prim_number Slice = 39
prim_number Join = 40
prim_number RedAnd = 41
prim_number RedOr = 42
prim_number RedXor = 43
prim_number PackU = 44
prim_number PackS = 45
prim_number UnpackU = 46
prim_number UnpackS = 47
prim_number Fmap = 48
prim_number Ap = 49
prim_number Pure = 50
prim_number Register = 51
prim_number BlockRam = 52
prim_number UnsafeSynchronizer = 53
prim_number VGet = 54
prim_number VGetC = 55
prim_number VAt = 56
prim_number VReplace = 57
prim_number VMap = 58
prim_number VMapC = 59
prim_number VZipWith = 60
prim_number VZipWithC = 61
prim_number VFoldl = 62
prim_number VFoldlC = 63
prim_number VFoldr = 64
prim_number VFoldrC = 65
prim_number VGenerate = 66
prim_number VGenerateC = 67
prim_number VReplicate = 68
prim_number VReplicateC = 69
prim_number VAppend = 70
prim_number VAppendC = 71
prim_number VConcat = 72
prim_number VConcatC = 73
prim_number VTake = 74
prim_number VTakeC = 75
prim_number VDrop = 76
prim_number VDropC = 77
prim_number VReverse = 78
prim_number VReverseC = 79
prim_number VRotl = 80
prim_number VRotlC = 81

abbrev pub prim_at : ℕ → Prim
prim_at n = slice_index_or prims n AddU

pub prim_back : (p : Prim) → prim_at (prim_number p) ≡ p
prim_back AddU = refl
prim_back AddS = refl
prim_back SubU = refl
prim_back SubS = refl
prim_back MulU = refl
prim_back MulS = refl
prim_back XaddU = refl
prim_back XaddS = refl
prim_back XmulU = refl
prim_back XmulS = refl
prim_back AndU = refl
prim_back AndS = refl
prim_back AndB = refl
prim_back OrU = refl
prim_back OrS = refl
prim_back OrB = refl
prim_back XorU = refl
prim_back XorS = refl
prim_back XorB = refl
prim_back NotU = refl
prim_back NotS = refl
prim_back NotB = refl
prim_back ShlU = refl
prim_back ShlS = refl
prim_back ShlB = refl
prim_back ShrU = refl
prim_back ShrS = refl
prim_back ShrB = refl
prim_back EqU = refl
prim_back EqS = refl
prim_back EqB = refl
prim_back LtU = refl
prim_back LtS = refl
prim_back ExtU = refl
prim_back ExtS = refl
prim_back ExtB = refl
prim_back TruncU = refl
prim_back TruncS = refl
prim_back TruncB = refl
prim_back Slice = refl
prim_back Join = refl
prim_back RedAnd = refl
prim_back RedOr = refl
prim_back RedXor = refl
prim_back PackU = refl
prim_back PackS = refl
prim_back UnpackU = refl
prim_back UnpackS = refl
prim_back Fmap = refl
prim_back Ap = refl
prim_back Pure = refl
prim_back Register = refl
prim_back BlockRam = refl
prim_back UnsafeSynchronizer = refl
prim_back VGet = refl
prim_back VGetC = refl
prim_back VAt = refl
prim_back VReplace = refl
prim_back VMap = refl
prim_back VMapC = refl
prim_back VZipWith = refl
prim_back VZipWithC = refl
prim_back VFoldl = refl
prim_back VFoldlC = refl
prim_back VFoldr = refl
prim_back VFoldrC = refl
prim_back VGenerate = refl
prim_back VGenerateC = refl
prim_back VReplicate = refl
prim_back VReplicateC = refl
prim_back VAppend = refl
prim_back VAppendC = refl
prim_back VConcat = refl
prim_back VConcatC = refl
prim_back VTake = refl
prim_back VTakeC = refl
prim_back VDrop = refl
prim_back VDropC = refl
prim_back VReverse = refl
prim_back VReverseC = refl
prim_back VRotl = refl
prim_back VRotlC = refl
