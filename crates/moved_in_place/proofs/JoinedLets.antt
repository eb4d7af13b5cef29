-- What comes of a letrec that joined, and that the rule makes nothing else.
use Rattle.std.proofs.Common.{◌≡◌, ◌∙◌, ◌<◌, ◌+◌, ◌-◌, ℕ, suc, ap, sym, refl, subst, arith, List, [], ◌∷◌, ◌++◌, map, length, take, drop, get_or, append_assoc}
use Rattle.std.proofs.lemmas.List.{take-append-drop, take-take, take_more}
use Rattle.chw_types.specs.TypeTree.{TypeTree}
use Rattle.chw_types.specs.TypeMoves.{raised}
use Rattle.chw_terms.specs.declared.rule.Rule.{Rule}
use Rattle.chw_terms.specs.declared.rule.Rule.TheVariants.{Flat}
use Rattle.chw_terms.specs.declared.term.Arg.{Arg}
use Rattle.chw_terms.specs.declared.term.Binding.{Binding}
use Rattle.chw_terms.specs.declared.term.Head.{Head}
use Rattle.chw_terms.specs.declared.term.Head.TheVariants.{Var, Global, Made, Lam, TyLam, LetRec, Con, PrimOf, Lit, VecLit, Case}
use Rattle.chw_terms.specs.TermMoves.{rename, rename_group, exchanged, shift}
use Rattle.chw_terms.specs.TermTree.{TermTree, letrec, Group, no_bindings, bind, size_of}
use Rattle.chw_terms.specs.TermView.{tree_of, applied, group_of}
use Rattle.chw_terms.proofs.Spines.{left_with_next}
use Rattle.chw_terms.proofs.TermLists.{size_of_group}
use Rattle.chw_typing.specs.Groups.{joined}
use Rattle.chw_typing.proofs.GroupLists.{group_joined}
use Rattle.rewriting.specs.Origins.{Origins}
use Rattle.rewriting.specs.Spots.{Spot}
use Rattle.rewriting.specs.Instances.{HasInstance, on_core, on_whole}
use Rattle.rewriting.specs.Lets.{OfLets, flat_side, flat_body, dead, inline, side_joined}
use Rattle.rewriting.specs.Shapes.{IsOfHead, IsLet, NoLetIn, shift_group}
use Rattle.rewriting.proofs.LetMakes.{one_let}
use Rattle.rewriting.proofs.Spines.{IsBare, head_is, args_are, backs_same}
use Rattle.moved_in_place.specs.Joined.{IsJoined, IsJoinedAlone, IsFirstLet, IsWithBody, IsWithSide, IsWithSideAt}
use Rattle.moved_in_place.specs.Moves.{renamed_binding}
use Rattle.moved_in_place.proofs.Renamed.{renamed_group}

-- the body joined
pub with_body : (bs inner bs' : List Binding) (e e' : TermTree) (m : ℕ) → e ≡ letrec (group_of inner) e' → m ≡ length inner → bs' ≡ map (renamed_binding (raised 0 m)) bs ++ inner → IsWithBody (group_of bs) e (group_of bs') e'
with_body bs inner bs' e e' m is count whole =
    let size : m ≡ size_of (group_of inner) = count ∙ sym (size_of_group inner) in
    record {
      inner = group_of inner;
      is = is;
      group =
          ap group_of whole ∙ group_joined (map (renamed_binding (raised 0 m)) bs) inner
          ∙ ap (λ g. joined g (group_of inner)) (renamed_group (raised 0 m) bs ∙ ap (shift_group (group_of bs) 0) size);
    }

-- a right side joined
pub with_side : (front inner back front' inner' back' bs' : List Binding) (side side' : Binding) (x e e' : TermTree)
    → side.body ≡ letrec (group_of inner) x
    → front' ≡ map (renamed_binding (raised (suc (length back)) (length inner))) front
    → inner' ≡ map (renamed_binding (exchanged (length inner) (suc (length back)))) inner
    → side' ≡ record { ty = side.ty; body = rename x (exchanged (length inner) (suc (length back))) }
    → back' ≡ map (renamed_binding (raised (suc (length back)) (length inner))) back
    → e' ≡ shift e (suc (length back)) (length inner)
    → bs' ≡ front' ++ inner' ++ side' ∷ back'
    → IsWithSide front side back e bs' e'
with_side front inner back front' inner' back' bs' side side' x e e' is fq iq sq bq eq whole =
    let m : length inner ≡ size_of (group_of inner) = sym (size_of_group inner) in
    let n : suc (length back) ≡ suc (size_of (group_of back)) = ap suc (sym (size_of_group back)) in
    let room = raised (suc (length back)) (length inner) in
    let swap = exchanged (length inner) (suc (length back)) in
    let three : group_of bs' ≡ joined (group_of front') (joined (group_of inner') (group_of (side' ∷ back'))) =
    ap group_of (whole ∙ append_assoc front' inner' (side' ∷ back')) ∙ group_joined front' (inner' ++ side' ∷ back') ∙ ap (joined (group_of front')) (group_joined inner' (side' ∷ back')) in
    let front_is : group_of front' ≡ rename_group (group_of front) room = ap group_of fq ∙ renamed_group room front in
    let inner_is : group_of inner' ≡ rename_group (group_of inner) swap = ap group_of iq ∙ renamed_group swap inner in
    let back_is : group_of back' ≡ rename_group (group_of back) room = ap group_of bq ∙ renamed_group room back in
    record {
      inner = group_of inner;
      within = x;
      is = is;
      group =
          three
          ∙ (λ i. joined (front_is i) (joined (inner_is i) (bind (sq i).ty (sq i).body (back_is i))))
          ∙ (λ i. joined (shift_group (group_of front) (n i) (m i)) (joined (rename_group (group_of inner) (exchanged (m i) (n i))) (bind side.ty (rename x (exchanged (m i) (n i))) (shift_group (group_of back) (n i) (m i)))));
      body = eq ∙ (λ i. shift e (n i) (m i));
    }

-- the last of the first so many items, and those before it
pub before_last : {X : Type 0} (i n : ℕ) (xs now rest : List X) → now ≡ take (i + 1) xs → n ≡ i + 1 → rest ≡ take (n - 1) now → rest ≡ take i xs
before_last i n xs now rest h count is =
    let one : n - 1 ≡ i = omega (arith, count) in
    is ∙ (λ j. take (one j) (h j)) ∙ take-take i (i + 1) xs (omega arith)

pub last_there : {X : Type 0} (i : ℕ) (xs now rest : List X) (x : X) → i < length xs → now ≡ take (i + 1) xs → rest ≡ take i xs → now ≡ rest ++ x ∷ [] → x ≡ get_or xs i x
last_there i xs now rest x h whole front is =
    let same : x ∷ [] ≡ get_or xs i x ∷ [] = backs_same rest (take i xs) (x ∷ []) (get_or xs i x ∷ []) (ap length front) (sym is ∙ whole ∙ take_more xs i x h) in
    cc

-- the right side of a number
pub with_side_at : (bs front back bs' : List Binding) (side : Binding) (i : ℕ) (e e' : TermTree) → i < length bs → side ≡ get_or bs i side → front ≡ take i bs → back ≡ drop (i + 1) bs → IsWithSide front side back e bs' e' → IsWithSideAt bs i e bs' e'
with_side_at bs front back bs' side i e e' l there fq bq h =
    record {
      side = side;
      back = back;
      whole =
          ap group_of (sym (take-append-drop i bs)) ∙ group_joined (take i bs) (drop i bs)
          ∙ ap (λ ys. joined (group_of (take i bs)) (group_of ys)) (left_with_next bs i side l there ∙ ap (λ ys. side ∷ ys) (sym bq));
      joins = subst (λ xs. IsWithSide xs side back e bs' e') fq h;
    }

-- at a head nothing is made
no_head : {o : Origins} {at : Spot} {r : Rule} {e e' : TermTree} → OfLets o at r e e' → IsOfHead at.mode → ⊥
no_head (flat_side front t cs x back h m) i = h i
no_head (flat_body h n) i = h i
no_head (dead h m d) i = h i
no_head (inline front t x back h n d s) i = h i

-- so what comes of a letrec that joined is what the rule makes
pub alone_by_side : (bs bs' : List Binding) (i : ℕ) (e e' : TermTree) → IsFirstLet bs i → IsWithSideAt bs i e bs' e' → IsJoinedAlone (letrec (group_of bs) e) (letrec (group_of bs') e')
alone_by_side bs bs' i e e' f w o at new m =
    let j = w.joins in
    let front = group_of (take i bs) in
    let back = group_of w.back in
    let whole : group_of bs ≡ joined front (bind w.side.ty (letrec j.inner j.within) back) = w.whole ∙ (λ k. joined front (bind w.side.ty (j.is k) back)) in
    let made : OfLets o at Flat (letrec (joined front (bind w.side.ty (letrec j.inner j.within) back)) e) (letrec (side_joined front w.side.ty j.inner j.within back) (shift e (suc (size_of back)) (size_of j.inner))) =
    flat_side front w.side.ty j.inner j.within back (no_head m) f.first in
    (λ k. letrec (j.group k) (j.body k)) ∙ one_let made m refl (λ k. letrec (sym whole k) e)

pub alone_by_body : (g g' : Group) (e e' : TermTree) → NoLetIn g → IsWithBody g e g' e' → IsJoinedAlone (letrec g e) (letrec g' e')
alone_by_body g g' e e' n w o at new m =
    let made : OfLets o at Flat (letrec g (letrec w.inner e')) (letrec (joined (shift_group g 0 (size_of w.inner)) w.inner) e') = flat_body (no_head m) n in
    (λ k. letrec (w.group k) e') ∙ one_let made m refl (λ k. letrec g (sym w.is k))

-- where a right side is a letrec, there isn't none
side_found : (front back cs : Group) (t : TypeTree) (x : TermTree) → NoLetIn (joined front (bind t (letrec cs x) back)) → ⊥
side_found no_bindings back cs t x n = n.0 tt
side_found (bind u e g) back cs t x n = side_found g back cs t x n.1

made_of_none : {o : Origins} {at : Spot} {r : Rule} {l e' : TermTree} (g : Group) (e : TermTree) → NoLetIn g → (IsLet e → ⊥) → OfLets o at r l e' → r ≡ Flat → l ≡ letrec g e → ⊥
made_of_none g e n b (flat_side front t cs x back h m) k q =
    let groups : joined front (bind t (letrec cs x) back) ≡ g = cc in
    side_found front back cs t x (subst NoLetIn (sym groups) n)
made_of_none g e n b (flat_body {g = h} {cs = cs} {x = x} m l) k q =
    let body : letrec cs x ≡ e = cc in b (subst IsLet body tt)
made_of_none g e n b (dead m d u) k q = absurd cc
made_of_none g e n b (inline front t x back m d s w) k q = absurd cc

-- where there is no letrec inside, nothing joins
pub alone_without : (g : Group) (e e' : TermTree) → NoLetIn g → (IsLet e → ⊥) → IsJoinedAlone (letrec g e) e'
alone_without g e e' n b o at new m = absurd (made_of_none g e n b m refl refl)

is_let : {o : Origins} {at : Spot} {r : Rule} {e e' : TermTree} → OfLets o at r e e' → IsLet e
is_let (flat_side front t cs x back h m) = tt
is_let (flat_body h n) = tt
is_let (dead h m d) = tt
is_let (inline front t x back h n d s) = tt

-- nor of another head
pub alone_other : (e e' : TermTree) → (IsLet e → ⊥) → IsJoinedAlone e e'
alone_other e e' n o at new m = absurd (n (is_let m))

bare_let : {o : Origins} {at : Spot} {r : Rule} {e e' : TermTree} → OfLets o at r e e' → IsBare e
bare_let (flat_side front t cs x back h m) = record { itself = refl; alone = refl }
bare_let (flat_body h n) = record { itself = refl; alone = refl }
bare_let (dead h m d) = record { itself = refl; alone = refl }
bare_let (inline front t x back h n d s) = record { itself = refl; alone = refl }

-- heads are no applications
pub bare : (h : Head) → IsBare (tree_of h)
bare (Var x) = record { itself = refl; alone = refl }
bare (Global d) = record { itself = refl; alone = refl }
bare (Made m) = record { itself = refl; alone = refl }
bare (Lam t e) = record { itself = refl; alone = refl }
bare (TyLam k e) = record { itself = refl; alone = refl }
bare (LetRec bs e) = record { itself = refl; alone = refl }
bare (Con c) = record { itself = refl; alone = refl }
bare (PrimOf p) = record { itself = refl; alone = refl }
bare (Lit s b) = record { itself = refl; alone = refl }
bare (VecLit t es) = record { itself = refl; alone = refl }
bare (Case e alts) = record { itself = refl; alone = refl }

of_instance : {o : Origins} {at : Spot} {e new : TermTree} (h e' : TermTree) (args : List Arg) → IsBare h → IsJoinedAlone h e' → HasInstance o at Flat e new → e ≡ applied h args → applied e' args ≡ new
of_instance {o} {at} h e' args b alone (on_core core core' rest m typed) q =
    let heads = head_is core h rest args (bare_let m) b q in
    let rests = args_are core h rest args (bare_let m) b q in
    let made = alone o at core' (subst (λ c. OfLets o at Flat c core') heads m) in
    λ i. applied (made i) (sym rests i)
of_instance h e' args b alone (on_whole w typed) q = elim w [ ]

-- arguments stay behind
pub joined_applied : (h e' : TermTree) (args : List Arg) → IsBare h → IsJoinedAlone h e' → IsJoined (applied h args) (applied e' args)
joined_applied h e' args b alone o at new i = of_instance h e' args b alone i refl
