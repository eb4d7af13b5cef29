-- The table with which a program opens.
use Rattle.std.proofs.Common.{◌≡◌, List, [], ◌∷◌, ◌++◌}
use Rattle.chw_terms.specs.declared.scene.Made.{Made}
use Rattle.chw_terms.specs.TermTree.{TermTree}
use Rattle.made_table.specs.Held.{HoldsNone}

-- where nothing is made, nothing has an origin
pub none_holds : (e : TermTree) → HoldsNone [] e
none_holds e m h = let at = h.1 in absurd (cc at)

-- the last of one is that one
nothing_behind : (xs : List Made) (x : Made) → xs ++ x ∷ [] ≡ [] → ⊥
nothing_behind [] x e = cc
nothing_behind (y ∷ xs) x e = cc

pub last_of_one : (xs : List Made) (x y : Made) → xs ++ x ∷ [] ≡ y ∷ [] → x ∷ [] ≡ y ∷ []
last_of_one [] x y e = e
last_of_one (z ∷ xs) x y e = let behind : xs ++ x ∷ [] ≡ [] = cc in absurd (nothing_behind xs x behind)
