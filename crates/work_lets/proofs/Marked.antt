-- What is made of a letrec where bindings go that the body doesn't reach.
use Rattle.std.proofs.Common.{◌≡◌, ◌∙◌, ◌↔◌, sym, ap, refl, subst, ◌⊎◌, inl, inr, ℕ, ◌+◌, ◌<◌, ◌≤◌, Bool, true, false, cond, List, [], ◌∷◌, ◌++◌, length, take, get_or, reverse, Some, slice_get, Contains, arith}
use Rattle.std.proofs.lemmas.List.{take_more, take_all, length-take-le}
use Rattle.chw_terms.specs.declared.rule.Rule.{Rule}
use Rattle.chw_terms.specs.declared.rule.Rule.TheVariants.{Dead}
use Rattle.chw_terms.specs.declared.term.Binding.{Binding}
use Rattle.chw_terms.specs.TermMoves.{rename, rename_group}
use Rattle.chw_terms.specs.TermTree.{TermTree, letrec, Group, no_bindings, bind, size_of}
use Rattle.chw_terms.specs.TermView.{group_of}
use Rattle.chw_typing.specs.Groups.{Reached}
use Rattle.rewriting.specs.Origins.{Origins}
use Rattle.rewriting.specs.Spots.{Spot}
use Rattle.rewriting.specs.Lets.{OfLets, flat_side, flat_body, dead, inline, kept, MarksReached}
use Rattle.rewriting.specs.Shapes.{IsOfHead, closed_up, marked, or_body}
use Rattle.rewriting.proofs.Lists.{marks_same}
use Rattle.work_lets.specs.declared.closing.Closing.{Closing}
use Rattle.work_lets.specs.Closings.{closes, closed, closed_binding}
use Rattle.work_lets.specs.Kept.{kept_of}

-- one more is kept or goes
kept_push : (c : Closing) (xs : List Bool) (bs : List Binding) (m : Bool) (b : Binding) → length xs ≡ length bs → kept_of c (xs ++ m ∷ []) (bs ++ b ∷ []) ≡ kept_of c xs bs ++ cond m (closed_binding c 0 b ∷ []) []
kept_push c [] [] true b h = refl
kept_push c [] [] false b h = refl
kept_push c [] (d ∷ bs) m b h = absurd (omega (arith, h))
kept_push c (x ∷ xs) [] m b h = absurd (omega (arith, h))
kept_push c (true ∷ xs) (d ∷ bs) m b h = ap (λ cs. closed_binding c 0 d ∷ cs) (kept_push c xs bs m b (omega (arith, h)))
kept_push c (false ∷ xs) (d ∷ bs) m b h = kept_push c xs bs m b (omega (arith, h))

pub kept_next : (c : Closing) (marks : List Bool) (bs now next : List Binding) (n : ℕ) (m : Bool) (b : Binding) → length marks ≡ length bs → n < length bs → m ≡ get_or marks n false → b ≡ get_or bs n b
    → now ≡ kept_of c (take n marks) (take n bs) → next ≡ now ++ cond m (closed_binding c 0 b ∷ []) [] → next ≡ kept_of c (take (n + 1) marks) (take (n + 1) bs)
kept_next c marks bs now next n m b same h at is before after =
    let h' : n < length marks = omega (arith, h, same) in
    let one : take (n + 1) marks ≡ take n marks ++ m ∷ [] = take_more marks n false h' ∙ ap (λ k. take n marks ++ k ∷ []) (sym at) in
    let two : take (n + 1) bs ≡ take n bs ++ b ∷ [] = take_more bs n b h ∙ ap (λ d. take n bs ++ d ∷ []) (sym is) in
    after ∙ ap (λ cs. cs ++ cond m (closed_binding c 0 b ∷ []) []) before
    ∙ sym (kept_push c (take n marks) (take n bs) m b (length-take-le n marks (omega (arith, h')) ∙ sym (length-take-le n bs (omega (arith, h)))))
    ∙ (λ i. kept_of c (sym one i) (sym two i))

pub kept_end : (c : Closing) (marks : List Bool) (bs now : List Binding) (n : ℕ) → length marks ≡ length bs → length bs ≤ n → now ≡ kept_of c (take n marks) (take n bs) → now ≡ kept_of c marks bs
kept_end c marks bs now n same h e = e ∙ (λ i. kept_of c (take_all n marks (omega (arith, h, same)) i) (take_all n bs h i))

-- as a group
kept_group : (c : Closing) (marks : List Bool) (bs : List Binding) → group_of (kept_of c marks bs) ≡ rename_group (marked marks (group_of bs)) (closes c)
unfolding rename_group
kept_group c [] [] = refl
kept_group c [] (b ∷ bs) = refl
kept_group c (true ∷ marks) [] = refl
kept_group c (false ∷ marks) [] = refl
kept_group c (true ∷ marks) (b ∷ bs) = ap (bind b.ty (rename b.body (closes c))) (kept_group c marks bs)
kept_group c (false ∷ marks) (b ∷ bs) = kept_group c marks bs

pub kept_is : (c : Closing) (marks : List Bool) (bs group : List Binding) (e f : TermTree) → closes c ≡ closed_up (reverse marks) → group ≡ kept_of c marks bs → f ≡ closed c 0 e → or_body (group_of group) f ≡ kept marks (group_of bs) e
kept_is c marks bs group e f close all body =
    (λ i. or_body ((ap group_of all ∙ kept_group c marks bs) i) (body i))
    ∙ ap (λ ρ. or_body (rename_group (marked marks (group_of bs)) ρ) (rename e ρ)) close

-- a letrec has one list of marks
one_marking : (g h : Group) (e f : TermTree) (xs ys : List Bool) → MarksReached g e xs → MarksReached h f ys → g ≡ h → e ≡ f → xs ≡ ys
one_marking g h e f xs ys m n p q =
    marks_same (Reached h f) xs ys (m.each_one ∙ ap size_of p ∙ sym n.each_one)
    (λ i l. subst (λ g. slice_get xs i ≡ Some true ↔ Reached g f i) p
    (subst (λ e. slice_get xs i ≡ Some true ↔ Reached g e i) q (m.reached i (subst (λ k. i < k) m.each_one l))))
    (λ i l. n.reached i (subst (λ k. i < k) n.each_one l))

none_bound : (g : Group) (marks : List Bool) → length marks ≡ size_of g → g ≡ no_bindings → marks ≡ []
none_bound g [] h e = refl
none_bound g (m ∷ marks) h e = let none : size_of g ≡ 0 = ap size_of e in absurd (omega (arith, h, none))

no_marks : (g : Group) (marks : List Bool) → length marks ≡ size_of g → marks ≡ [] → g ≡ no_bindings
no_marks no_bindings marks h e = refl
no_marks (bind t e g) marks h q = let none : length marks ≡ 0 = ap length q in absurd (omega (arith, h, none))

-- what is made where some go, or none is bound
pub some_go : (o : Origins) (at : Spot) (g : Group) (e : TermTree) (marks : List Bool) → (IsOfHead at.mode → ⊥) → MarksReached g e marks → (marks ≡ []) ⊎ Contains marks false → OfLets o at Dead (letrec g e) (kept marks g e)
some_go o at g e marks m r (inl none) = dead m r (inl (no_marks g marks r.each_one none))
some_go o at g e marks m r (inr some) = dead m r (inr some)

-- where all are reached nothing is made
pub all_reached : {o : Origins} {at : Spot} {r : Rule} {f a : TermTree} → OfLets o at r f a → r ≡ Dead → (g : Group) (e : TermTree) (marks : List Bool) → f ≡ letrec g e → MarksReached g e marks → (((marks ≡ []) ⊎ Contains marks false) → ⊥) → ⊥
all_reached (flat_side front t cs x back m n) k g e marks q r none = absurd cc
all_reached (flat_body m n) k g e marks q r none = absurd cc
all_reached (inline front t x back m n d w) k g e marks q r none = absurd cc
all_reached (dead {g = h} {e = f} {marks = ys} m d u) k g e marks q r none =
    let groups : h ≡ g = cc in
    let body : f ≡ e = cc in
    let same = one_marking h g f e ys marks d r groups body in
    none (elim u [
      | inl empty ↦ inl (none_bound g marks r.each_one (sym groups ∙ empty))
      | inr some ↦ inr (subst (λ ms. Contains ms false) same some)
    ])
