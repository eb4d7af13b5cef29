-- An argument that has got its name.
use Rattle.std.proofs.Common.{◌≡◌, ◌∙◌, sym, refl, ap, inl, inr, arith, ℕ, zero, suc, ◌-◌}
use Rattle.std.proofs.Common.{◌<◌, List, [], ◌∷◌, ◌++◌, length, replicate, set, take, drop, Some}
use Rattle.std.specs.List.{slice_get}
use Rattle.std.proofs.lemmas.List.{length-map}
use Rattle.std.proofs.lemmas.Option.{slice_get_within}
use Rattle.chw_types.specs.TypeMoves.{raised}
use Rattle.chw_types.specs.TypeTree.{TypeTree}
use Rattle.chw_terms.specs.declared.term.Arg.{Arg}
use Rattle.chw_terms.specs.declared.term.Arg.TheVariants.{OfTerm}
use Rattle.chw_terms.specs.TermMoves.{shift, rename}
use Rattle.chw_terms.specs.TermTree.{TermTree, var, global, made, con}
use Rattle.chw_terms.specs.TermTree.{prim}
use Rattle.chw_terms.specs.TermView.{applied}
use Rattle.chw_typing.proofs.Lists.{found_in_map}
use Rattle.chw_typing.proofs.Exchanged.{spine_renamed}
use Rattle.chw_typing.specs.Groups.{rename_arg}
use Rattle.chw_typing.specs.Paths.{with_part, IsEarlier, argument_path}
use Rattle.chw_typing.proofs.PathSpines.{with_spine_argument}
use Rattle.rewriting.specs.Operands.{with_name}
use Rattle.rewriting.specs.Shapes.{shift_args}
use Rattle.work_operands.specs.Named.{let_of, with_arg_named}

-- a name of a definition, a constructor and a primitive have no variables
pub record HasNoVariables (h : TermTree) : Type 0 where
  pub shifted : shift h 0 1 ≡ h

pub prim_stays : (p : _) → HasNoVariables (prim p)
unfolding rename
prim_stays p = record { shifted = refl }

pub con_stays : (c : ℕ) → HasNoVariables (con c)
unfolding rename
con_stays c = record { shifted = refl }

pub global_stays : (d : ℕ) → HasNoVariables (global d)
unfolding rename
global_stays d = record { shifted = refl }

pub made_stays : (m : ℕ) → HasNoVariables (made m)
unfolding rename
made_stays m = record { shifted = refl }

put_in_spine : (h : TermTree) (args : List Arg) (i : ℕ) (x : TermTree)
    → slice_get args i ≡ Some (OfTerm x)
    → with_part (shift (applied h args) 0 1) (argument_path i (length args)) (var 0)
    ≡ applied (shift h 0 1) (set (shift_args args 0 1) i (OfTerm (var 0)))
put_in_spine h args i x e =
    let under = shift_args args 0 1 in
    ap (λ f. with_part f (argument_path i (length args)) (var 0))
    (spine_renamed h args (raised 0 1))
    ∙ ap (λ n. with_part (applied (shift h 0 1) under) (argument_path i n) (var 0))
    (sym (length-map args (rename_arg (raised 0 1))))
    ∙ with_spine_argument under (shift h 0 1) (shift x 0 1) (var 0) i
    (found_in_map (rename_arg (raised 0 1)) args i (OfTerm x) e)

-- the head on the arguments, with the name for one of them
pub argument_named : (h : TermTree) (args : List Arg) (i : ℕ) (t : TypeTree) (x : TermTree)
    → HasNoVariables h → slice_get args i ≡ Some (OfTerm x)
    → with_name (applied h args) (argument_path i (length args)) t x ≡ with_arg_named h args i t x
argument_named h args i t x n e =
    let given = set (shift_args args 0 1) i (OfTerm (var 0)) in
    ap (let_of t x) (put_in_spine h args i x e ∙ ap (λ k. applied k given) n.shifted)

-- fewer zeros in front of a one are later
earlier_zeros : (m n : ℕ) → IsEarlier (replicate m 0 ++ 1 ∷ []) (replicate n 0 ++ 1 ∷ []) → n < m
earlier_zeros zero zero (inl l) = omega (arith, l)
earlier_zeros zero zero (inr h) = absurd h.1
earlier_zeros zero (suc n) (inl l) = omega (arith, l)
earlier_zeros zero (suc n) (inr h) = let q = h.0 in absurd cc
earlier_zeros (suc m) zero h = omega arith
earlier_zeros (suc m) (suc n) (inl l) = omega (arith, l)
earlier_zeros (suc m) (suc n) (inr h) = let l = earlier_zeros m n h.1 in omega (arith, l)

-- the earlier of two arguments has the lower number
pub earlier_argument : (i j n : ℕ) → IsEarlier (argument_path i n) (argument_path j n) → i < j
earlier_argument i j n h = let l = earlier_zeros (n - 1 - i) (n - 1 - j) h in omega (arith, l)

-- a number below that of an argument
pub within : (args : List Arg) (i : ℕ) (x : TermTree) → slice_get args i ≡ Some (OfTerm x)
    → i < length args
within args i x e = slice_get_within args i (OfTerm x) e

-- arguments under one more binder, one of which has got a name
pub one_named : (args : List Arg) (n : ℕ) (a : Arg) → n < length args
    → (shift_args (take n args) 0 1 ++ a ∷ []) ++ shift_args (drop 1 (drop n args)) 0 1
    ≡ set (shift_args args 0 1) n a
one_named [] n a l = absurd (omega (arith, l))
one_named (x ∷ args) zero a l = refl
one_named (x ∷ args) (suc n) a l =
    ap (λ rest. rename_arg (raised 0 1) x ∷ rest) (one_named args n a (omega (arith, l)))
