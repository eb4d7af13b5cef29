-- A step down from a place has a path.
use Rattle.std.proofs.Common.{◌≡◌, ℕ, zero, suc, refl, sym, List, [], ◌∷◌, ◌++◌, replicate}
use Rattle.chw_terms.specs.TermTree.{TermTree}
use Rattle.rewriting.specs.Origins.{Origins}
use Rattle.rewriting.specs.Active.{Below, right_side, let_body, constant_body, scrutinee, branch}
use Rattle.rewriting.specs.Active.{of_constructor, of_words, of_element, of_vector, demanded, begins}
use Rattle.rewriting.specs.Spots.{Spot}
use Rattle.step_search.specs.First.{From}

argument_way : (n : ℕ) (q : List ℕ) → replicate n 0 ++ 1 ∷ q ≡ [] → ⊥
argument_way zero q h = absurd cc
argument_way (suc n) q h = absurd cc

goes_down : {o : Origins} {at at' : Spot} {e x : TermTree} {p : List ℕ} → Below o at e p at' x → p ≡ [] → ⊥
goes_down (right_side l s n) h = absurd cc
goes_down (let_body l) h = absurd cc
goes_down (constant_body k) h = absurd cc
goes_down (scrutinee d n) h = absurd cc
goes_down (branch v s n b r) h = absurd cc
goes_down (of_constructor c i args k s l r) h = argument_way _ [] h
goes_down (of_words p i args k w l m r) h = argument_way _ [] h
goes_down (of_element p i args k w m r) h = argument_way _ [] h
goes_down (of_vector k s) h = absurd cc
goes_down (demanded d) h = argument_way _ [] h
goes_down (begins p i j args m b t r s) h = argument_way _ [] h

first_is_root : (p q : List ℕ) → p ++ q ≡ [] → p ≡ []
first_is_root [] q h = refl
first_is_root (i ∷ p) q h = absurd cc

-- so none of the places below one is the place itself
pub never_root : (o : Origins) (at : Spot) (e : TermTree) (at' : Spot) (x : TermTree) → From o (Below o at e) [] at' x → ⊥
never_root o at e at' x r = goes_down r.place (first_is_root r.first r.rest (sym r.is))
