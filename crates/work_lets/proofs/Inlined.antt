-- What is made of a letrec where a right side is put for its name.
use Rattle.std.proofs.Common.{◌≡◌, ◌∙◌, sym, ap, refl, subst, ◌⊎◌, inl, inr, ℕ, suc, ◌+◌, ◌-◌, ◌<◌, true, false, List, [], ◌∷◌, ◌++◌, map, length, take, drop, get_or, arith, length-append}
use Rattle.std.proofs.lemmas.Bool.{true≢false}
use Rattle.std.proofs.lemmas.List.{map-append, take_more, length-take-le}
use Rattle.std.proofs.Math.Seq.{split_at, take-append_seam, drop-append_seam}
use Rattle.chw_types.specs.declared.declarations.Data.{Data}
use Rattle.chw_types.specs.TypeTree.{TypeTree}
use Rattle.chw_terms.specs.declared.rule.Rule.{Rule}
use Rattle.chw_terms.specs.declared.rule.Rule.TheVariants.{Inline}
use Rattle.chw_terms.specs.declared.scene.Mode.{Mode}
use Rattle.chw_terms.specs.declared.term.Binding.{Binding}
use Rattle.chw_terms.specs.Occurs.{occurs}
use Rattle.chw_terms.specs.TermMoves.{rename, sub, sub_group, in_place_of, lowered}
use Rattle.chw_terms.specs.TermTree.{TermTree, letrec, Group, no_bindings, bind, size_of}
use Rattle.chw_terms.specs.TermView.{group_of}
use Rattle.chw_terms.proofs.TermLists.{size_of_group}
use Rattle.chw_typing.specs.Groups.{joined}
use Rattle.rewriting.specs.Named.{IsNamed}
use Rattle.rewriting.specs.Origins.{Origins}
use Rattle.rewriting.specs.Spots.{Spot}
use Rattle.rewriting.specs.Lets.{OfLets, flat_side, flat_body, dead, inline, inlined, EachStays}
use Rattle.rewriting.specs.Shapes.{IsOfHead, or_body}
use Rattle.work_lets.specs.Inlined.{Goes, Stays, IsFirst, put_in, put_for_name}
use Rattle.work_lets.proofs.Lets.{group_of_both}

-- one binding more that stays
stays_more : (datas : List Data) (mode : Mode) (front : List Binding) (b : Binding) (k : ℕ) → EachStays datas mode (group_of front) (suc k) → Stays datas mode b k → EachStays datas mode (group_of (front ++ b ∷ [])) k
stays_more datas mode [] b k h s = let e : k ≡ 0 + k = omega arith in (subst (λ n. IsNamed datas mode b.ty ⊎ (occurs b.body n ≡ true)) e s, tt)
stays_more datas mode (c ∷ front) b k h s =
    let long : length (front ++ b ∷ []) ≡ length front + 1 = length-append front (b ∷ []) in
    let size = size_of_group (front ++ b ∷ []) in
    let size' = size_of_group front in
    let e : size_of (group_of front) + suc k ≡ size_of (group_of (front ++ b ∷ [])) + k = omega (arith, long, size, size') in
    (subst (λ n. IsNamed datas mode c.ty ⊎ (occurs c.body n ≡ true)) e h.0, stays_more datas mode front b k h.1 s)

-- the loop, at one
pub stays_next : (datas : List Data) (mode : Mode) (bs : List Binding) (n k : ℕ) (b : Binding) → n < length bs → b ≡ get_or bs n b → EachStays datas mode (group_of (take n bs)) (length bs - n) → k ≡ length bs - 1 - n → Stays datas mode b k → EachStays datas mode (group_of (take (n + 1) bs)) (length bs - (n + 1))
stays_next datas mode bs n k b h is all e s =
    let next : take (n + 1) bs ≡ take n bs ++ b ∷ [] = take_more bs n b h ∙ ap (λ c. take n bs ++ c ∷ []) (sym is) in
    let one : length bs - n ≡ suc k = omega (arith, h, e) in
    let rest : k ≡ length bs - (n + 1) = omega (arith, h, e) in
    subst (λ cs. EachStays datas mode (group_of cs) (length bs - (n + 1))) (sym next)
    (subst (λ j. EachStays datas mode (group_of (take n bs ++ b ∷ [])) j) rest
    (stays_more datas mode (take n bs) b k (subst (λ j. EachStays datas mode (group_of (take n bs)) j) one all) s))

-- the list is what is before a place, what is there, and what is behind
parted : (bs : List Binding) (n : ℕ) (b : Binding) → n < length bs → b ≡ get_or bs n b → bs ≡ take n bs ++ b ∷ drop (suc n) bs
parted bs n b h is = split_at bs n b h ∙ ap (λ c. take n bs ++ c ∷ drop (suc n) bs) (sym is)

pub first_found : (datas : List Data) (mode : Mode) (bs : List Binding) (n k : ℕ) (b : Binding) → n < length bs → b ≡ get_or bs n b → EachStays datas mode (group_of (take n bs)) (length bs - n) → k ≡ length bs - 1 - n → Goes datas mode b k → IsFirst datas mode bs n
first_found datas mode bs n k b h is all e g =
    let before : length (take n bs) ≡ n = length-take-le n bs (omega (arith, h)) in
    let whole = parted bs n b h is in
    let long : length bs ≡ length (take n bs) + suc (length (drop (suc n) bs)) = ap length whole ∙ length-append (take n bs) (b ∷ drop (suc n) bs) in
    let one : length bs - n ≡ suc (length (drop (suc n) bs)) = omega (arith, h, long, before) in
    let rest : k ≡ length (drop (suc n) bs) = omega (arith, h, e, long, before) in
    record {
      front = take n bs;
      binding = b;
      back = drop (suc n) bs;
      are = whole;
      is = sym before;
      stay = subst (EachStays datas mode (group_of (take n bs))) one all;
      goes = subst (Goes datas mode b) rest g;
    }

-- a binding among those that stay does
stays_at : (datas : List Data) (mode : Mode) (front : Group) (t : TypeTree) (x : TermTree) (back : Group) (k : ℕ) → EachStays datas mode (joined front (bind t x back)) k → IsNamed datas mode t ⊎ (occurs x (size_of back + k) ≡ true)
stays_at datas mode no_bindings t x back k h = h.0
stays_at datas mode (bind u y front) t x back k h = stays_at datas mode front t x back k h.1

-- where all stay nothing is made
pub all_stay : {o : Origins} {at : Spot} {r : Rule} {f a : TermTree} → OfLets o at r f a → r ≡ Inline → (g : Group) (e : TermTree) → f ≡ letrec g e → EachStays o.program.datas at.mode g 0 → ⊥
all_stay (flat_side front t cs x back m n) k g e q s = absurd cc
all_stay (flat_body m n) k g e q s = absurd cc
all_stay (dead m n d) k g e q s = absurd cc
all_stay {o} {at} (inline front t x back {e = f} m n d w) k g e q s =
    let groups : g ≡ joined front (bind t x back) = cc in
    let behind : size_of back + 0 ≡ size_of back = omega arith in
    elim (stays_at o.program.datas at.mode front t x back 0 (subst (λ g. EachStays o.program.datas at.mode g 0) groups s)) [
      | inl named ↦ n named
      | inr o ↦ true≢false (sym o ∙ ap (occurs x) behind ∙ d)
    ]

-- what is made where one goes
pub one_goes : (o : Origins) (at : Spot) (bs front back : List Binding) (b : Binding) (e : TermTree) → (IsOfHead at.mode → ⊥) → bs ≡ front ++ b ∷ back → EachStays o.program.datas at.mode (group_of front) (suc (length back)) → Goes o.program.datas at.mode b (length back)
    → OfLets o at Inline (letrec (group_of bs) e) (inlined (group_of front) b.body (group_of back) e)
one_goes o at bs front back b e m are stay goes =
    let size : length back ≡ size_of (group_of back) = sym (size_of_group back) in
    let all : group_of bs ≡ joined (group_of front) (bind b.ty b.body (group_of back)) = ap group_of are ∙ group_of_both front (b ∷ back) in
    subst (λ g. OfLets o at Inline (letrec g e) (inlined (group_of front) b.body (group_of back) e)) (sym all)
    (inline (group_of front) b.ty b.body (group_of back) m goes.0
    (subst (λ n. occurs b.body n ≡ false) size goes.1)
    (subst (λ n. EachStays o.program.datas at.mode (group_of front) (suc n)) size stay))

-- the bindings with the right side put
group_put : (at : ℕ) (a : TermTree) (bs : List Binding) → group_of (map (put_in at a) bs) ≡ sub_group (group_of bs) (in_place_of at a)
unfolding sub_group
group_put at a [] = refl
group_put at a (b ∷ bs) = ap (bind b.ty (sub b.body (in_place_of at a))) (group_put at a bs)

pub put_for_name_is : (front back group : List Binding) (e f a : TermTree) (n : ℕ) → group ≡ map (put_in n a) front ++ map (put_in n a) back → f ≡ sub e (in_place_of n a) → or_body (group_of group) f ≡ put_for_name front back e n a
put_for_name_is front back group e f a n all body =
    λ i. or_body (group_of ((all ∙ sym (map-append (put_in n a) front back)) i)) (body i)

pub inlined_is : (front back : List Binding) (x e y : TermTree) (n : ℕ) → n ≡ length back → y ≡ rename x (lowered n) → put_for_name front back e n y ≡ inlined (group_of front) x (group_of back) e
inlined_is front back x e y n size side =
    let count : n ≡ size_of (group_of back) = size ∙ sym (size_of_group back) in
    let put : in_place_of n y ≡ in_place_of (size_of (group_of back)) (rename x (lowered (size_of (group_of back)))) = λ i. in_place_of (count i) ((side ∙ ap (λ n. rename x (lowered n)) count) i) in
    let groups : group_of (map (put_in n y) (front ++ back)) ≡ sub_group (joined (group_of front) (group_of back)) (in_place_of n y) =
    group_put n y (front ++ back) ∙ ap (λ g. sub_group g (in_place_of n y)) (group_of_both front back) in
    ap (λ g. or_body g (sub e (in_place_of n y))) groups ∙ ap (λ σ. or_body (sub_group (joined (group_of front) (group_of back)) σ) (sub e σ)) put

-- the parts of the list at the first place
pub first_parts : (o : Origins) (at : Spot) (bs : List Binding) (place : ℕ) (e : TermTree) (front others back : List Binding) (b : Binding) → (IsOfHead at.mode → ⊥) → IsFirst o.program.datas at.mode bs place
    → front ≡ take place bs → others ≡ drop place bs → others ≡ b ∷ back → OfLets o at Inline (letrec (group_of bs) e) (inlined (group_of front) b.body (group_of back) e)
first_parts o at bs place e front others back b m f before behind is =
    let same_front : front ≡ f.front = before ∙ (λ i. take (f.is i) (f.are i)) ∙ take-append_seam f.front (f.binding ∷ f.back) in
    let same_others : b ∷ back ≡ f.binding ∷ f.back = sym is ∙ behind ∙ (λ i. drop (f.is i) (f.are i)) ∙ drop-append_seam f.front (f.binding ∷ f.back) in
    let same_binding : b ≡ f.binding = cc in
    let same_back : back ≡ f.back = cc in
    let made : inlined (group_of front) b.body (group_of back) e ≡ inlined (group_of f.front) f.binding.body (group_of f.back) e = λ i. inlined (group_of (same_front i)) (same_binding i).body (group_of (same_back i)) e in
    subst (OfLets o at Inline (letrec (group_of bs) e)) (sym made)
    (one_goes o at bs f.front f.back f.binding e m f.are f.stay f.goes)
