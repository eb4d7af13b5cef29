-- Steps below an application in which an argument has changed, and so below any term.
use Rattle.std.proofs.Common.{◌≡◌, ◌≢◌, ◌⊎◌, inl, inr, ◌∙◌, ℕ, suc, sym, ap, subst}
use Rattle.std.proofs.Common.{List, [], length, set, Some}
use Rattle.std.proofs.lemmas.Bool.{cases_eq}
use Rattle.std.proofs.lemmas.List.{length-set}
use Rattle.std.proofs.lemmas.Option.{same_Some}
use Rattle.std.specs.List.{slice_get}
use Rattle.chw_types.specs.TypeTree.{TypeTree}
use Rattle.chw_terms.specs.declared.term.Arg.{Arg}
use Rattle.chw_terms.specs.declared.term.Arg.TheVariants.{OfTerm, OfType}
use Rattle.chw_terms.specs.TermTree.{TermTree, letrec, vec_lit, case_of}
use Rattle.chw_terms.specs.TermView.{applied}
use Rattle.chw_typing.specs.Paths.{argument_path, with_part}
use Rattle.chw_typing.proofs.PathParts.{with_part_below}
use Rattle.chw_typing.proofs.PathSpines.{with_spine_argument}
use Rattle.rewriting.specs.Origins.{Origins}
use Rattle.rewriting.specs.Active.{Below}
use Rattle.rewriting.specs.Spots.{Spot}
use Rattle.step_order.proofs.Moves.{AreAlike, AtArgument, BelowBy, InSpine}
use Rattle.step_order.proofs.Moves.{below_by, below_head, below_spine, by_case, by_let, by_spine}
use Rattle.step_order.proofs.Moves.{by_vector, in_branch, in_let, in_scrutinee, in_vector}
use Rattle.step_order.proofs.Moves.{of_any, of_this}
use Rattle.step_order.proofs.Onto.{Onto, beside, one_spot, onto_branch, onto_element, onto_let}
use Rattle.step_order.proofs.Onto.{onto_scrutinee, to_it}
use Rattle.step_order.proofs.Others.{get_other, get_written}

-- the arguments with another term in place of this one
abbrev with_term : List Arg → ℕ → TermTree → List Arg
with_term args i y = set args i (OfTerm y)

-- they are alike, both ways
module _ (args : List Arg) (i : ℕ) (c y : TermTree)
    (there : slice_get args i ≡ Some (OfTerm c)) where
  here : slice_get (with_term args i y) i ≡ Some (OfTerm y)
  here = get_written args i (OfTerm c) (OfTerm y) there

  type_kept : (j : ℕ) (t : TypeTree)
      → slice_get args j ≡ Some (OfType t) → (j ≡ i) ⊎ (j ≢ i)
      → slice_get (with_term args i y) j ≡ Some (OfType t)
  type_kept j t is (inl same) =
      let at_i = subst (λ n. slice_get args n ≡ Some (OfType t)) same is in
      let no : OfType t ≡ OfTerm c = same_Some (OfType t) (OfTerm c) (sym at_i ∙ there) in
      absurd cc
  type_kept j t is (inr n) = get_other args i j (OfTerm y) n ∙ is

  type_before : (j : ℕ) (t : TypeTree)
      → slice_get (with_term args i y) j ≡ Some (OfType t) → (j ≡ i) ⊎ (j ≢ i)
      → slice_get args j ≡ Some (OfType t)
  type_before j t is (inl same) =
      let at_i = subst (λ n. slice_get (with_term args i y) n ≡ Some (OfType t)) same is in
      let no : OfType t ≡ OfTerm y = same_Some (OfType t) (OfTerm y) (sym at_i ∙ here) in
      absurd cc
  type_before j t is (inr n) = sym (get_other args i j (OfTerm y) n) ∙ is

  alike_after : AreAlike args (with_term args i y)
  alike_after =
      record {
        many = length-set args i (OfTerm y);
        types = λ j t is. type_kept j t is (cases_eq j i);
      }

  alike_before : AreAlike (with_term args i y) args
  alike_before =
      record {
        many = sym (length-set args i (OfTerm y));
        types = λ j t is. type_before j t is (cases_eq j i);
      }

-- the changed argument, by its own number
one_path : (args : List Arg) (i j : ℕ) (y : TermTree)
    → j ≡ i → argument_path j (length (with_term args i y)) ≡ argument_path i (length args)
one_path args i j y is =
    ap (λ n. argument_path n (length (with_term args i y))) is
    ∙ ap (argument_path i) (length-set args i (OfTerm y))

one_term : (args : List Arg) (i j : ℕ) (c y z : TermTree)
    → slice_get args i ≡ Some (OfTerm c) → j ≡ i
    → slice_get (with_term args i y) j ≡ Some (OfTerm z) → z ≡ y
one_term args i j c y z there is found =
    let last = subst (λ n. slice_get (with_term args i y) n ≡ Some (OfTerm z)) is found in
    let same = same_Some (OfTerm z) (OfTerm y) (sym last ∙ here args i c y there) in
    cc

there_is : {o : Origins} {at at' : Spot} {h x : TermTree} {args : List Arg} {i : ℕ}
    → InSpine o at h args i at' x → slice_get args i ≡ Some (OfTerm x)
there_is (of_any is moves) = is
there_is (of_this is to moves) = is

-- at the changed argument: demanded both times, or one of the steps is below both applications
one_argument : {o : Origins} {at mid at' : Spot} {c z : TermTree}
    (h : TermTree) (args : List Arg) (i j : ℕ) (y : TermTree)
    → j ≡ i
    → InSpine o at h args i mid c
    → Below o at (applied h args) (argument_path i (length args)) mid c
    → InSpine o at h (with_term args i y) j at' z
    → Below o at (applied h (with_term args i y)) (argument_path i (length args)) at' z
    → at' ≡ mid
one_argument {o} {at} {mid} {at'} {c} h args i j y is s b (of_any is' moves) b' =
    let there = subst (λ n. slice_get args n ≡ Some (OfTerm c)) (sym is) (there_is s) in
    let old = moves args c (alike_before args i c y (there_is s)) there in
    one_spot (subst (λ p. Below o at (applied h args) p at' c) (one_path args i j y is) old) b
one_argument {c = c} h args i j y is (of_any is' moves) b (of_this there to moves') b' =
    one_spot b' (moves (with_term args i y) y (alike_after args i c y is') (here args i c y is'))
one_argument h args i j y is (of_this is' to moves) b (of_this there to' moves') b' = to' ∙ sym to

-- another argument
other_argument : {o : Origins} {at at' : Spot} {z : TermTree}
    (h : TermTree) (args : List Arg) (i j : ℕ) (y : TermTree)
    → AreAlike (with_term args i y) args → j ≢ i
    → InSpine o at h (with_term args i y) j at' z
    → Below o at (applied h args) (argument_path j (length (with_term args i y))) at' z
other_argument {z = z} h args i j y alike n (of_any is moves) =
    moves args z alike (sym (get_other args i j (OfTerm y) n) ∙ is)
other_argument h args i j y alike n (of_this is to moves) =
    moves args alike (sym (get_other args i j (OfTerm y) n) ∙ is)

onto_argument : {o : Origins} {at mid at' : Spot} {c y z : TermTree} {q : List ℕ}
    (h : TermTree) (args : List Arg) (i : ℕ)
    → InSpine o at h args i mid c
    → Below o at (applied h args) (argument_path i (length args)) mid c
    → AtArgument o at h (with_term args i y) q at' z
    → Below o at (applied h (with_term args i y)) q at' z
    → Onto o at (applied h args) (argument_path i (length args)) mid y q at' z
onto_argument {o} {at} {mid} {at'} {c} {y} {z} {q} h args i s b (j, path, s') b' =
    by (cases_eq j i)
  where
    by : (j ≡ i) ⊎ (j ≢ i)
        → Onto o at (applied h args) (argument_path i (length args)) mid y q at' z
    by (inl is) =
        let to : q ≡ argument_path i (length args) = path ∙ one_path args i j y is in
        let same = one_term args i j c y z (there_is s) is (there_is s') in
        let there = subst (λ p. Below o at (applied h (with_term args i y)) p at' z) to b' in
        to_it to (one_argument h args i j y is s b s' there) same
    by (inr n) =
        let alike = alike_before args i c y (there_is s) in
        beside (subst (λ p. Below o at (applied h args) p at' z) (sym path)
        (other_argument h args i j y alike n s'))

onto_by : {o : Origins} {at mid at' : Spot} {e c z : TermTree} {p q : List ℕ} (y : TermTree)
    → BelowBy o at e p mid c → Below o at e p mid c → Below o at (with_part e p y) q at' z
    → Onto o at e p mid y q at' z
onto_by {o} {at} {mid} {at'} {c = c} {z = z} {q = q} y
    (by_let {g = g} {e = e} (in_let {i = i} part moves)) b b' =
    let changed = with_part_below (letrec g e) c y i [] part in
    onto_let g e i part b (below_head (subst (λ f. Below o at f q at' z) changed b'))
onto_by y (by_case {s = s} {alts = alts} (in_scrutinee is moves)) b b' =
    onto_scrutinee s alts is (below_head b')
onto_by {o} {at} {mid} {at'} {c = c} {z = z} {q = q} y
    (by_case {s = s} {alts = alts} (in_branch {i = i} part moves)) b b' =
    let changed = with_part_below (case_of s alts) c y (suc i) [] part in
    onto_branch s alts i part b (below_head (subst (λ f. Below o at f q at' z) changed b'))
onto_by {o} {at} {mid} {at'} {c = c} {z = z} {q = q} y
    (by_vector {t = t} {es = es} (in_vector {i = i} part moves)) b b' =
    let changed = with_part_below (vec_lit t es) c y i [] part in
    onto_element t es i part b (below_head (subst (λ f. Below o at f q at' z) changed b'))
onto_by {o} {at} {mid} {at'} {c = c} {z = z} {q = q} y (by_spine h args i k s) b b' =
    let changed = with_spine_argument args h c y i (there_is s) in
    let there = subst (λ f. Below o at f q at' z) changed b' in
    onto_argument h args i s b (below_spine h (with_term args i y) k there) there

-- another term where a step leads
pub onto : {o : Origins} {at mid at' : Spot} {e c z : TermTree} {p q : List ℕ} (y : TermTree)
    → Below o at e p mid c → Below o at (with_part e p y) q at' z → Onto o at e p mid y q at' z
onto y b b' = onto_by y (below_by b) b b'
