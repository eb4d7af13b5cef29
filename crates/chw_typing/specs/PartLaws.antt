-- What is promised of whole spines at places.
use Rattle.std.specs.Prelude.{◌≡◌, ℕ, List, [], ◌∷◌, ◌++◌, length, replicate, Some}
use Rattle.std.specs.List.{slice_get}
use Rattle.chw_terms.specs.declared.term.Arg.{Arg}
use Rattle.chw_terms.specs.declared.term.Arg.TheVariants.{OfTerm}
use Rattle.chw_terms.specs.declared.term.Head.{Head}
use Rattle.chw_terms.specs.TermTree.{TermTree}
use Rattle.chw_terms.specs.TermView.{tree_of, applied}
use Rattle.chw_typing.specs.Paths.{child, part_at, argument_path}
use Rattle.chw_typing.specs.PartSpines.{spine_at}

-- a whole spine at a path is the part there
abbrev pub SpineIsPart : Type 0
SpineIsPart =
    (e x : TermTree) (path : List ℕ) → spine_at e path ≡ Some x → part_at e path ≡ Some x

-- the whole spine behind a path and another, which isn't empty, is, behind the other, that of the
-- part
abbrev pub SpineBehind : Type 0
SpineBehind =
    (e x : TermTree) (p : List ℕ) (i : ℕ) (q : List ℕ)
    → part_at e p ≡ Some x → spine_at e (p ++ i ∷ q) ≡ spine_at x (i ∷ q)

-- an argument of an application is a whole spine
abbrev pub ArgumentIsSpine : Type 0
ArgumentIsSpine =
    (e a : TermTree) (args : List Arg) (i : ℕ)
    → slice_get args i ≡ Some (OfTerm a)
    → spine_at (applied e args) (argument_path i (length args)) ≡ Some a

-- a child of a head is a whole spine
abbrev pub ChildIsSpine : Type 0
ChildIsSpine =
    (h : Head) (args : List Arg) (i : ℕ)
    → spine_at (applied (tree_of h) args) (replicate (length args) 0 ++ i ∷ [])
    ≡ child (tree_of h) i
