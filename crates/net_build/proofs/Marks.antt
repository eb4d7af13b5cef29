-- Marks of what is placed.
use Rattle.std.proofs.Common.{◌≡◌, ◌∙◌, sym, ap, subst, ℕ, ◌<◌, arith, Bool, false, List, [], ◌∷◌, ◌++◌, length, get_or}
use Rattle.std.specs.Prelude.{replicate}
use Rattle.std.proofs.lemmas.List.{get_or-replicate, length-replicate}
use Rattle.netlist.proofs.Chains.{all_and_one}
use Rattle.net_built.specs.Modules.{holds}
use Rattle.net_build.specs.Marks.{AreMarks, AreBelow}

pub no_marks : (n : ℕ) (order : List ℕ) (marks : List Bool) → order ≡ [] → marks ≡ replicate n false → AreMarks order marks
no_marks n order marks empty are m l =
    ap (λ bs. get_or bs m false) are
    ∙ get_or-replicate n m false false (omega (arith, ap length are, length-replicate n false, l))
    ∙ ap (λ ms. holds ms m) (sym empty)

pub none_below : (count : ℕ) (order : List ℕ) → order ≡ [] → AreBelow count order
none_below count order empty = subst (λ ms. AreBelow count ms) (sym empty) tt

-- one more
pub one_more_below : (count other m : ℕ) (before after : List ℕ) → other ≡ count → after ≡ before ++ m ∷ [] → m < count → AreBelow count before → AreBelow other after
one_more_below count other m before after same grown l below =
    subst (λ n. AreBelow n after) (sym same)
    (subst (λ ms. AreBelow count ms) (sym grown) (all_and_one (λ k. k < count) before m below l))
