-- Letrecs that are taken apart, as a whole.
use Rattle.std.proofs.Common.{◌≡◌, ◌∙◌, ◌<◌, suc, ap, sym, refl, subst, arith, List, [], ◌∷◌, ◌++◌, map, take, drop, length, Some, append_assoc}
use Rattle.std.specs.Prelude.{option_map, unwrap_or}
use Rattle.std.proofs.lemmas.List.{take-append-drop}
use Rattle.chw_types.specs.TypeMoves.{raised}
use Rattle.chw_terms.specs.declared.rule.Rule.TheVariants.{Flat}
use Rattle.chw_terms.specs.declared.term.Binding.{Binding}
use Rattle.chw_terms.specs.TermMoves.{rename, exchanged, shift}
use Rattle.chw_terms.specs.TermTree.{TermTree, letrec, bind, size_of}
use Rattle.chw_terms.specs.TermView.{group_of}
use Rattle.chw_typing.specs.Groups.{joined}
use Rattle.chw_typing.specs.Paths.{part_of_group, with_side as with_side_at, with_body, with_part, with_child}
use Rattle.chw_typing.specs.PartSpines.{spine_at}
use Rattle.chw_typing.proofs.GroupLists.{group_joined}
use Rattle.rewriting.specs.Lets.{OfLets, flat_side, side_joined}
use Rattle.rewriting.specs.Origins.{Origins}
use Rattle.rewriting.specs.Shapes.{IsOfHead, NoLetIn}
use Rattle.rewriting.specs.Spots.{Spot}
use Rattle.moved_in_place.specs.Moves.{renamed_binding}
use Rattle.moved_in_place.proofs.JoinedLets.{with_side as with_side_joined}
use Rattle.open_letrec.specs.Opened.{Opened, whole, put_first, with_side, settled_one, joined_one}
use Rattle.open_letrec.proofs.Stored.{length_put}

pub settled_same : (o : Opened) → whole (settled_one o) ≡ whole o
settled_same o =
    ap (λ bs. letrec (group_of bs) o.body)
    (append_assoc o.settled (take 1 o.left) (drop 1 o.left) ∙ ap (λ bs. o.settled ++ bs) (take-append-drop 1 o.left))

-- the last one that is put stays
put_again : (e x : TermTree) (bs : List Binding) → put_first x (put_first e bs) ≡ put_first x bs
put_again e x [] = refl
put_again e x (b ∷ bs) = refl

pub side_again : (o : Opened) (e x : TermTree) → with_side (with_side o e) x ≡ with_side o x
side_again o e x = λ i. record o { left = put_again e x o.left i }

put_in_renamed : (e x : TermTree) (f : _) (bs : List Binding) → put_first x (map (renamed_binding f) (put_first e bs)) ≡ put_first x (map (renamed_binding f) bs)
put_in_renamed e x f [] = refl
put_in_renamed e x f (b ∷ bs) = refl

pub joined_again : (o : Opened) (e : TermTree) (cs : List Binding) (x : TermTree) → joined_one (with_side o e) cs x ≡ joined_one o cs x
joined_again o e cs x =
    let n : length (put_first e o.left) ≡ length o.left = length_put e o.left in
    let m = length cs in
    let settled : map (renamed_binding (raised (length (put_first e o.left)) m)) o.settled ≡ map (renamed_binding (raised (length o.left) m)) o.settled =
    ap (λ k. map (renamed_binding (raised k m)) o.settled) n in
    let left : map (renamed_binding (exchanged m (length (put_first e o.left)))) cs ++ put_first (rename x (exchanged m (length (put_first e o.left)))) (map (renamed_binding (raised (length (put_first e o.left)) m)) (put_first e o.left))
    ≡ map (renamed_binding (exchanged m (length o.left))) cs ++ put_first (rename x (exchanged m (length o.left))) (map (renamed_binding (raised (length o.left) m)) o.left) =
    ap (λ k. map (renamed_binding (exchanged m k)) cs ++ put_first (rename x (exchanged m k)) (map (renamed_binding (raised k m)) (put_first e o.left))) n
    ∙ ap (λ bs. map (renamed_binding (exchanged m (length o.left))) cs ++ bs) (put_in_renamed e (rename x (exchanged m (length o.left))) (raised (length o.left) m) o.left) in
    let body : rename o.body (raised (length (put_first e o.left)) m) ≡ rename o.body (raised (length o.left) m) = ap (λ k. rename o.body (raised k m)) n in
    λ i. record { settled = settled i; left = left i; body = body i }

-- the part at the number of a binding
part_there : (bs back : List Binding) (b : Binding) (e : TermTree) → part_of_group (group_of (bs ++ b ∷ back)) e (length bs) ≡ Some b.body
part_there [] back b e = refl
part_there (a ∷ bs) back b e = part_there bs back b e

part_put : (bs back : List Binding) (b : Binding) (x : TermTree) → with_side_at (group_of (bs ++ b ∷ back)) (length bs) x ≡ group_of (bs ++ record b { body = x } ∷ back)
part_put [] back b x = refl
part_put (a ∷ bs) back b x = ap (bind a.ty a.body) (part_put bs back b x)

body_stays : (bs back : List Binding) (b : Binding) (e x : TermTree) → with_body (group_of (bs ++ b ∷ back)) e (length bs) x ≡ e
body_stays [] back b e x = refl
body_stays (a ∷ bs) back b e x = body_stays bs back b e x

pub side_there : (o : Opened) (b : Binding) (back : List Binding) → o.left ≡ b ∷ back → spine_at (whole o) (length o.settled ∷ []) ≡ Some b.body
side_there o b back h = ap (λ bs. part_of_group (group_of (o.settled ++ bs)) o.body (length o.settled)) h ∙ part_there o.settled back b o.body

pub side_with : (o : Opened) (b : Binding) (back : List Binding) (x : TermTree) → o.left ≡ b ∷ back → whole (with_side o x) ≡ with_part (whole o) (length o.settled ∷ []) x
side_with o b back x h =
    let n = length o.settled in
    let e = letrec (group_of (o.settled ++ b ∷ back)) o.body in
    let was : whole o ≡ e = ap (λ bs. letrec (group_of (o.settled ++ bs)) o.body) h in
    let there : with_part e (n ∷ []) x ≡ with_child e n x = ap (λ c. unwrap_or (option_map (λ (d : TermTree). with_child e n x) c) e) (part_there o.settled back b o.body) in
    let put : with_child e n x ≡ letrec (group_of (o.settled ++ record b { body = x } ∷ back)) o.body =
    λ i. letrec (part_put o.settled back b x i) (body_stays o.settled back b o.body x i) in
    ap (λ bs. letrec (group_of (o.settled ++ put_first x bs)) o.body) h ∙ sym (ap (λ t. with_part t (n ∷ []) x) was ∙ there ∙ put)

of_same : {origins : Origins} {at : Spot} {a a' b b' : TermTree} → a ≡ a' → b ≡ b' → OfLets origins at Flat a' b' → OfLets origins at Flat a b
of_same {origins} {at} {a} {a'} {b} {b'} h k m = subst (λ t. OfLets origins at Flat t b) (sym h) (subst (λ t. OfLets origins at Flat a' t) (sym k) m)

pub joined_flat : (origins : Origins) (at : Spot) (s left cs : List Binding) (e x : TermTree)
    → (IsOfHead at.mode → ⊥) → NoLetIn (group_of s) → 0 < length left
    → OfLets origins at Flat (whole (with_side (record { settled = s; left = left; body = e }) (letrec (group_of cs) x))) (whole (joined_one (record { settled = s; left = left; body = e }) cs x))
joined_flat origins at s [] cs e x h n some = absurd (omega (arith, some))
joined_flat origins at s (b ∷ back) cs e x h n some =
    let side : Binding = record { ty = b.ty; body = letrec (group_of cs) x } in
    let room = renamed_binding (raised (suc (length back)) (length cs)) in
    let swap = exchanged (length cs) (suc (length back)) in
    let side' : Binding = record { ty = b.ty; body = rename x swap } in
    let now = map room s ++ (map (renamed_binding swap) cs ++ side' ∷ map room back) in
    let in_turn = map room s ++ map (renamed_binding swap) cs ++ side' ∷ map room back in
    let j = with_side_joined s cs back (map room s) (map (renamed_binding swap) cs) (map room back) in_turn side side' x e (shift e (suc (length back)) (length cs)) refl refl refl refl refl refl refl in
    let before : letrec (group_of (s ++ side ∷ back)) e ≡ letrec (joined (group_of s) (bind b.ty (letrec j.inner j.within) (group_of back))) e =
    ap (λ g. letrec g e) (group_joined s (side ∷ back)) ∙ (λ i. letrec (joined (group_of s) (bind b.ty (j.is i) (group_of back))) e) in
    let after : letrec (group_of now) (shift e (suc (length back)) (length cs)) ≡ letrec (side_joined (group_of s) b.ty j.inner j.within (group_of back)) (shift e (suc (size_of (group_of back))) (size_of j.inner)) =
    ap (λ bs. letrec (group_of bs) (shift e (suc (length back)) (length cs))) (sym (append_assoc (map room s) (map (renamed_binding swap) cs) (side' ∷ map room back)))
    ∙ (λ i. letrec (j.group i) (j.body i)) in
    let made : OfLets origins at Flat (letrec (joined (group_of s) (bind b.ty (letrec j.inner j.within) (group_of back))) e) (letrec (side_joined (group_of s) b.ty j.inner j.within (group_of back)) (shift e (suc (size_of (group_of back))) (size_of j.inner))) =
    flat_side (group_of s) b.ty j.inner j.within (group_of back) h n in
    of_same before after made
