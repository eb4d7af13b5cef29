-- Groups that become one, as lists of bindings.
use Rattle.std.proofs.Common.{◌≡◌, ◌∙◌, ◌≤◌, ℕ, suc, ap, refl, List, [], ◌∷◌, ◌++◌, map, take, length}
use Rattle.std.proofs.lemmas.List.{take_all}
use Rattle.chw_types.specs.TypeTree.{TypeTree}
use Rattle.chw_terms.specs.declared.term.Binding.{Binding}
use Rattle.chw_terms.specs.TermMoves.{rename, rename_group, exchanged, shift}
use Rattle.chw_terms.specs.TermTree.{TermTree, Group, no_bindings, bind, size_of}
use Rattle.chw_terms.specs.TermView.{group_of}
use Rattle.chw_typing.specs.Groups.{joined}
use Rattle.chw_typing.proofs.GroupLists.{group_joined}
use Rattle.rewriting.specs.Lets.{side_joined}
use Rattle.rewriting.specs.Shapes.{shift_group}
use Rattle.flow_lets.specs.Moves.{raised_side, exchanged_side}

pub joined_again : (g h k : Group) → joined (joined g h) k ≡ joined g (joined h k)
joined_again no_bindings h k = refl
joined_again (bind t e g) h k = ap (bind t e) (joined_again g h k)

-- a binding between two groups and a third
pub joined_around : (a b d : Group) (t : TypeTree) (x : TermTree) → joined (joined (joined a b) (bind t x no_bindings)) d ≡ joined a (joined b (bind t x d))
joined_around a b d t x = joined_again (joined a b) (bind t x no_bindings) d ∙ joined_again a b (bind t x d)

group_raised : (c by : ℕ) (bs : List Binding) → group_of (map (raised_side c by) bs) ≡ shift_group (group_of bs) c by
unfolding rename_group
group_raised c by [] = refl
group_raised c by (b ∷ bs) = ap (bind b.ty (shift b.body c by)) (group_raised c by bs)

abbrev pub exchanged_binding : ℕ → ℕ → Binding → Binding
exchanged_binding m n b = exchanged_side m n b.ty b.body

group_exchanged : (m n : ℕ) (bs : List Binding) → group_of (map (exchanged_binding m n) bs) ≡ rename_group (group_of bs) (exchanged m n)
unfolding rename_group
group_exchanged m n [] = refl
group_exchanged m n (b ∷ bs) = ap (bind b.ty (rename b.body (exchanged m n))) (group_exchanged m n bs)

-- loops that have come to their ends
behind_all : (f : Binding → Binding) (xs bs done : List Binding) (i : ℕ) → done ≡ xs ++ map f (take i bs) → length bs ≤ i → group_of done ≡ joined (group_of xs) (group_of (map f bs))
behind_all f xs bs done i d all = ap group_of d ∙ ap (λ ys. group_of (xs ++ map f ys)) (take_all i bs all) ∙ group_joined xs (map f bs)

pub all_raised : (c by : ℕ) (xs bs done : List Binding) (i : ℕ) → done ≡ xs ++ map (raised_side c by) (take i bs) → length bs ≤ i → group_of done ≡ joined (group_of xs) (shift_group (group_of bs) c by)
all_raised c by xs bs done i d all = behind_all (raised_side c by) xs bs done i d all ∙ ap (joined (group_of xs)) (group_raised c by bs)

pub all_exchanged : (m n : ℕ) (xs bs done : List Binding) (i : ℕ) → done ≡ xs ++ map (exchanged_binding m n) (take i bs) → length bs ≤ i → group_of done ≡ joined (group_of xs) (rename_group (group_of bs) (exchanged m n))
all_exchanged m n xs bs done i d all = behind_all (exchanged_binding m n) xs bs done i d all ∙ ap (joined (group_of xs)) (group_exchanged m n bs)

-- the bindings around a right side that joins, put together one after the other
pub side_is : (front : Group) (t : TypeTree) (cs : Group) (x : TermTree) (back : Group) (m n : ℕ) (a b c : List Binding) (it : Binding) → m ≡ size_of cs → n ≡ suc (size_of back) → group_of a ≡ shift_group front n m → group_of b ≡ joined (group_of a) (rename_group cs (exchanged m n)) → it ≡ exchanged_side m n t x → c ≡ b ++ it ∷ [] → joined (group_of c) (shift_group back n m) ≡ side_joined front t cs x back
side_is front t cs x back m n a b c it mq nq aq bq iq cq =
    let behind = shift_group back n m in
    let inner = rename_group cs (exchanged m n) in
    let two : group_of b ≡ joined (shift_group front n m) inner = bq ∙ ap (λ a. joined a inner) aq in
    let three : group_of c ≡ joined (joined (shift_group front n m) inner) (bind t (rename x (exchanged m n)) no_bindings) =
    ap group_of cq ∙ group_joined b (it ∷ []) ∙ (λ i. joined (two i) (group_of (iq i ∷ []))) in
    ap (λ c. joined c behind) three
    ∙ joined_around (shift_group front n m) inner behind t (rename x (exchanged m n))
    ∙ (λ i. joined (shift_group front (nq i) (mq i)) (joined (rename_group cs (exchanged (mq i) (nq i))) (bind t (rename x (exchanged (mq i) (nq i))) (shift_group back (nq i) (mq i)))))
