-- Heads and their arguments.
use Rattle.std.proofs.Common.{◌≡◌, ℕ, suc, ◌+◌, ◌<◌, List, [], ◌∷◌, ◌++◌, length, drop, get_or, refl, sym, ◌∙◌, arith, drop-cons}
use Rattle.chw_terms.specs.declared.term.Arg.{Arg}
use Rattle.chw_terms.specs.TermTree.{TermTree}
use Rattle.chw_terms.specs.TermView.{applied_to, applied}

pub applied_last : (e : TermTree) (args : List Arg) (a : Arg) → applied e (args ++ a ∷ []) ≡ applied_to (applied e args) a
applied_last e [] a = refl
applied_last e (b ∷ args) a = applied_last (applied_to e b) args a

pub applied_more : (e : TermTree) (args more : List Arg) → applied e (args ++ more) ≡ applied (applied e args) more
applied_more e [] more = refl
applied_more e (b ∷ args) more = applied_more (applied_to e b) args more

-- what a loop over items has left, where it stands at one
pub left_with_next : {X : Type 0} (xs : List X) (i : ℕ) (x : X) → i < length xs → x ≡ get_or xs i x → drop i xs ≡ x ∷ drop (i + 1) xs
left_with_next xs i x h e = drop-cons xs i x h ∙ (λ j. sym e j ∷ drop (next j) xs)
  where
    next : suc i ≡ i + 1
    next = omega arith
