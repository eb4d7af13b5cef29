-- Primitives that move into letrecs and cases, as lists of arguments and of alternatives.
use Rattle.std.proofs.Common.{◌≡◌, ◌∙◌, ◌<◌, ◌≤◌, ◌+◌, ◌-◌, ℕ, zero, suc, ap, refl, List, [], ◌∷◌, ◌++◌, map, length, set, take, drop, arith}
use Rattle.std.proofs.lemmas.List.{take_all, length-drop}
use Rattle.chw_types.specs.TypeMoves.{raised}
use Rattle.chw_prims.specs.declared.prim.Primitive.{Primitive as Prim}
use Rattle.chw_terms.specs.declared.term.Alt.{Alt}
use Rattle.chw_terms.specs.declared.term.Arg.{Arg}
use Rattle.chw_terms.specs.declared.term.Arg.TheVariants.{OfTerm}
use Rattle.chw_terms.specs.TermTree.{TermTree, alt, binders}
use Rattle.chw_terms.specs.TermView.{alts_of}
use Rattle.chw_typing.specs.Groups.{each_body, rename_arg}
use Rattle.rewriting.specs.Shapes.{shift_args}
use Rattle.flow_demanded.specs.Moves.{on_arg, alt_on_arg}

-- an argument between those before and behind it
pub set_between : {X Y : Type 0} (f : X → Y) (xs : List X) (i : ℕ) (y : Y) → i < length xs → (map f (take i xs) ++ y ∷ []) ++ map f (drop (suc i) xs) ≡ set (map f xs) i y
set_between f [] i y l = absurd (omega (arith, l))
set_between f (x ∷ xs) zero y l = refl
set_between f (x ∷ xs) (suc i) y l = ap (λ ys. f x ∷ ys) (set_between f xs i y (omega (arith, l)))

-- the same where those behind it are given by their number
pub between : (n : ℕ) (args : List Arg) (i : ℕ) (e : TermTree) → i < length args → (shift_args (take i args) 0 n ++ OfTerm e ∷ []) ++ shift_args (take (length args - (i + 1)) (drop (i + 1) args)) 0 n ≡ set (shift_args args 0 n) i (OfTerm e)
between n args i e l =
    let f = rename_arg (raised 0 n) in
    let count = length-drop (i + 1) args in
    let behind : take (length args - (i + 1)) (drop (i + 1) args) ≡ drop (i + 1) args = take_all (length args - (i + 1)) (drop (i + 1) args) (omega (arith, count)) in
    let next : i + 1 ≡ suc i = omega arith in
    ap (λ xs. (map f (take i args) ++ OfTerm e ∷ []) ++ map f xs) (behind ∙ ap (λ k. drop k args) next) ∙ set_between f args i (OfTerm e) l

-- a loop over arguments that has come to its end
pub all_under : (n : ℕ) (before args done : List Arg) (i : ℕ) → done ≡ before ++ map (rename_arg (raised 0 n)) (take i args) → length args ≤ i → done ≡ before ++ shift_args args 0 n
all_under n before args done i d all = d ∙ ap (λ xs. before ++ map (rename_arg (raised 0 n)) xs) (take_all i args all)

pub all_on_arg : (p : Prim) (args : List Arg) (i : ℕ) (alts : List Alt) → alts_of (map (alt_on_arg p args i) alts) ≡ each_body (λ n f. on_arg p args i n f) (alts_of alts)
all_on_arg p args i [] = refl
all_on_arg p args i (it ∷ alts) = ap (alt it.pattern (on_arg p args i (binders it.pattern) it.body)) (all_on_arg p args i alts)
