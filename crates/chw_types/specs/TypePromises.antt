-- What is promised of kinds, and of shifting and putting types.
use Rattle.std.specs.Prelude.{◌≡◌, ℕ, ◌+◌, ◌≤◌, List, [], ◌∷◌, ◌++◌, length}
use Rattle.chw_types.specs.declared.kind.Kind.{Kind}
use Rattle.chw_types.specs.declared.declarations.Data.{Data}
use Rattle.chw_types.specs.TypeTree.{TypeTree}
use Rattle.chw_types.specs.TypeMoves.{shift, put}
use Rattle.chw_types.specs.SmallTypes.{depth_of, parts_of}
use Rattle.chw_types.specs.Kinds.{degree, KindOf}

-- a shift at or above the variable that is put for
abbrev pub ShiftAfterPut : Type 0
ShiftAfterPut =
    (t a : TypeTree) (c d by : ℕ) → shift (put t c a) (d + c) by ≡ put (shift t (d + 1 + c) by) c (shift a d by)

-- a variable that a shift made room for doesn't occur: whatever is put for it, the type is as before
abbrev pub PutAfterShift : Type 0
PutAfterShift = (t a : TypeTree) (c : ℕ) → put (shift t c 1) c a ≡ t

-- the order of two puttings, the second at or above the first
abbrev pub PutAfterPut : Type 0
PutAfterPut =
    (t a b : TypeTree) (c d : ℕ) → put (put t c a) (d + c) b ≡ put (put t (d + 1 + c) b) c (put a d b)

-- a type has one kind
abbrev pub OneKind : Type 0
OneKind =
    (datas : List Data) (domains : ℕ) (scope : List Kind) (t : TypeTree) (j k : Kind) → KindOf datas domains scope t j → KindOf datas domains scope t k → j ≡ k

-- more variables in scope, at any place, keep the kind
abbrev pub ShiftKeepsKind : Type 0
ShiftKeepsKind =
    (datas : List Data) (domains : ℕ) (inner new outer : List Kind) (t : TypeTree) (k : Kind) → KindOf datas domains (inner ++ outer) t k → KindOf datas domains (inner ++ new ++ outer) (shift t (length inner) (length new)) k

-- a type of the variable's kind keeps the kind, where it is of degree at most 1
abbrev pub PutKeepsKind : Type 0
PutKeepsKind =
    (datas : List Data) (domains : ℕ) (inner outer : List Kind) (t a : TypeTree) (j k : Kind) → KindOf datas domains (inner ++ j ∷ outer) t k → KindOf datas domains outer a j → degree a ≤ 1 → KindOf datas domains (inner ++ outer) (put t (length inner) a) k

-- a closed type of the variable's kind keeps the kind
abbrev pub PutClosedKeepsKind : Type 0
PutClosedKeepsKind =
    (datas : List Data) (domains : ℕ) (inner outer : List Kind) (t a : TypeTree) (j k : Kind) → KindOf datas domains (inner ++ j ∷ outer) t k → KindOf datas domains [] a j → KindOf datas domains (inner ++ outer) (put t (length inner) a) k

-- a shift keeps the depth and the number of parts
abbrev pub ShiftKeepsSize : Type 0
ShiftKeepsSize =
    (t : TypeTree) (c by : ℕ) → (depth_of (shift t c by) ≡ depth_of t)
    × (parts_of (shift t c by) ≡ parts_of t)
