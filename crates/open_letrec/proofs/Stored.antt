-- What is stored for a letrec, and what contracts see of it.
use Rattle.std.proofs.Common.{◌≡◌, ◌∙◌, ℕ, ◌<◌, ◌-◌, ap, sym, refl, subst, arith, List, [], ◌∷◌, ◌++◌, map, reverse, take, drop, length, get_or}
use Rattle.std.proofs.lemmas.List.{map-append, reverse-append, reverse-reverse, map_push, same_from_push, length-map, length-reverse, length-take-le, length-append, length-drop, length_push, get_or_push}
use Rattle.chw_types.specs.TypeMoves.{Renaming}
use Rattle.chw_terms.specs.declared.term.Binding.{Binding}
use Rattle.chw_terms.specs.TermMoves.{rename}
use Rattle.chw_terms.specs.TermTree.{TermTree, global}
use Rattle.chw_terms.proofs.Renamed.{rename_rename, rename_ids}
use Rattle.moved_in_place.specs.Moves.{renamed_binding}
use Rattle.open_letrec.specs.declared.opened.OpenLetrec.TheInside.{Inside}
use Rattle.open_letrec.specs.declared.places.Places.{Places}
use Rattle.open_letrec.specs.Opened.{Opened, put_first, with_side, settled_one, IsCurrent}
use Rattle.open_letrec.specs.Parts.{IsSwappedLast}
use Rattle.open_letrec.specs.Places.{Agrees, number_in, number_of, index_of, IsGrown, IsSettledOne}
use Rattle.open_letrec.specs.Stored.{stored, shown, AreStored, view_of, IsSound}
use Rattle.open_letrec.proofs.Ids.{index_number}

reverse_cons : {X : Type 0} (x : X) (xs : List X) → reverse (x ∷ xs) ≡ reverse xs ++ x ∷ []
reverse_cons x xs = reverse-append (x ∷ []) xs

pub map_reverse : {X Y : Type 0} (f : X → Y) (xs : List X) → map f (reverse xs) ≡ reverse (map f xs)
map_reverse f [] = refl
map_reverse f (x ∷ xs) =
    ap (map f) (reverse_cons x xs) ∙ map_push f (reverse xs) x ∙ ap (λ ys. ys ++ f x ∷ []) (map_reverse f xs) ∙ sym (reverse_cons (f x) (map f xs))

-- bindings that are renamed twice, and as they are
pub renamed_twice : (ρ π : Renaming) (bs : List Binding) → map (renamed_binding π) (map (renamed_binding ρ) bs) ≡ map (renamed_binding (λ x. π (ρ x))) bs
renamed_twice ρ π [] = refl
renamed_twice ρ π (b ∷ bs) = λ i. record { ty = b.ty; body = rename_rename b.body ρ π i } ∷ renamed_twice ρ π bs i

renamed_ids : (bs : List Binding) → map (renamed_binding (λ x. x)) bs ≡ bs
renamed_ids [] = refl
renamed_ids (b ∷ bs) = λ i. record { ty = b.ty; body = rename_ids b.body i } ∷ renamed_ids bs i

-- what is stored is shown as it was
pub shown_stored : (p : Places) → Agrees p → (bs : List Binding) → shown p (stored p bs) ≡ bs
shown_stored p a bs = renamed_twice (number_of p) (index_of p) bs ∙ ap (λ ρ. map (renamed_binding ρ) bs) (index_number p a) ∙ renamed_ids bs

pub shown_stored_term : (p : Places) → Agrees p → (e : TermTree) → rename (rename e (number_of p)) (index_of p) ≡ e
shown_stored_term p a e = rename_rename e (number_of p) (index_of p) ∙ ap (rename e) (index_number p a) ∙ rename_ids e

-- as many as are seen
many_stored : (p : Places) (bs vs : List Binding) → bs ≡ stored p vs → length bs ≡ length vs
many_stored p bs vs h = ap length h ∙ length-map vs (renamed_binding (number_of p))

many_left : (p : Places) (bs left : List Binding) → bs ≡ stored p (reverse left) → length bs ≡ length left
many_left p bs left h = many_stored p bs (reverse left) h ∙ length-reverse left

-- all is stored for this letrec, and each binding has its place
pub record IsStoredFor (o : Inside) (v : Opened) : Type 0 where
  pub stored : AreStored o.places o.settled.items o.waiting.items o.body v
  pub settled : length o.places.settled.items ≡ length v.settled
  pub left : length o.places.waiting.items ≡ length v.left

-- so contracts see that for which it is stored
pub view_is : (o : Inside) (v : Opened) → IsStoredFor o v → view_of o ≡ v
view_is o v f =
    let s = f.stored in
    let p = o.places in
    let settled : shown p o.settled.items ≡ v.settled = ap (shown p) s.settled ∙ shown_stored p s.agrees v.settled in
    let left : reverse (shown p o.waiting.items) ≡ v.left =
    ap reverse (ap (shown p) s.left ∙ shown_stored p s.agrees (reverse v.left)) ∙ reverse-reverse v.left in
    let body : rename o.body (index_of p) ≡ v.body = ap (λ e. rename e (index_of p)) s.body ∙ shown_stored_term p s.agrees v.body in
    λ i. record { settled = settled i; left = left i; body = body i }

pub sound : (o : Inside) (v : Opened) → IsStoredFor o v → IsSound o
sound o v f =
    record {
      stored = subst (AreStored o.places o.settled.items o.waiting.items o.body) (sym (view_is o v f)) f.stored;
      settled = f.settled ∙ sym (many_stored o.places o.settled.items v.settled f.stored.settled);
      waiting = f.left ∙ sym (many_left o.places o.waiting.items v.left f.stored.left);
    }

pub stored_for : (o : Inside) (v : Opened) → IsSound o → view_of o ≡ v → IsStoredFor o v
stored_for o v s q =
    let are = subst (AreStored o.places o.settled.items o.waiting.items o.body) q s.stored in
    record {
      stored = are;
      settled = s.settled ∙ many_stored o.places o.settled.items v.settled are.settled;
      left = s.waiting ∙ many_left o.places o.waiting.items v.left are.left;
    }

-- as many are settled, and left, as are kept so
pub many_settled_kept : (o : Inside) (v : Opened) → IsStoredFor o v → length o.settled.items ≡ length v.settled
many_settled_kept o v f = many_stored o.places o.settled.items v.settled f.stored.settled

pub many_left_kept : (o : Inside) (v : Opened) → IsStoredFor o v → length o.waiting.items ≡ length v.left
many_left_kept o v f = many_left o.places o.waiting.items v.left f.stored.left

-- the last one that is stored is the first one that is left
last_stored : (p : Places) (b : Binding) (bs : List Binding) → stored p (reverse (b ∷ bs)) ≡ stored p (reverse bs) ++ renamed_binding (number_of p) b ∷ []
last_stored p b bs = ap (stored p) (reverse_cons b bs) ∙ map_push (renamed_binding (number_of p)) (reverse bs) b

-- and it is what is stored of it, renamed
pub last_side : (o : Inside) (v : Opened) (last : Binding) (i : ℕ) → IsStoredFor o v → 0 < length v.left → i ≡ length o.waiting.items - 1 → last ≡ get_or o.waiting.items i last
    → IsCurrent v (rename last.body (index_of o.places))
last_side o v last i f some at there = ap (λ bs. record v { left = bs }) (first_kept v.left some f.stored.left)
  where
    p : Places
    p = o.places

    first_kept : (left : List Binding) → 0 < length left → o.waiting.items ≡ stored p (reverse left) → put_first (rename last.body (index_of p)) left ≡ left
    first_kept [] some h = absurd (omega (arith, some))
    first_kept (b ∷ back) some h =
        let is : o.waiting.items ≡ stored p (reverse back) ++ renamed_binding (number_of p) b ∷ [] = h ∙ last_stored p b back in
        let before : length (stored p (reverse back)) ≡ i = omega (arith, at, ap length is, length_push (stored p (reverse back)) (renamed_binding (number_of p) b)) in
        let same : last ≡ renamed_binding (number_of p) b =
        there ∙ ap (λ bs. get_or bs i last) is ∙ get_or_push (stored p (reverse back)) (renamed_binding (number_of p) b) last i before in
        let body : rename last.body (index_of p) ≡ b.body =
        ap (λ (x : Binding). rename x.body (index_of p)) same ∙ shown_stored_term p f.stored.agrees b.body in
        ap (λ e. record b { body = e } ∷ back) body

-- the letrec is opened
pub opened : (o : Inside) (none : Places) (group : List Binding) (e : TermTree) (m : ℕ) → Agrees o.places → none.settled.items ≡ [] → none.waiting.items ≡ [] → IsGrown none o.places m → m ≡ length group → o.settled.items ≡ [] → o.waiting.items ≡ stored o.places (reverse group) → o.body ≡ rename e (number_of o.places) → IsStoredFor o (record { settled = []; left = group; body = e })
opened o none group e m a ns nw (ids, many, more) count s w b =
    record {
      stored = record { agrees = a; settled = s; left = w; body = b };
      settled = ap length (more.settled ∙ ns);
      left = ap length (more.waiting ∙ ap (λ xs. xs ++ ids) nw) ∙ many ∙ count;
    }

-- all bindings, shown in their order
pub closed : (p : Places) (settled waiting : List Binding) (body : TermTree) (v : Opened) → AreStored p settled waiting body v → shown p (settled ++ reverse waiting) ≡ v.settled ++ v.left
closed p settled waiting body v s =
    let f = renamed_binding (index_of p) in
    map-append f settled (reverse waiting)
    ∙ (λ i. shown p (s.settled i) ++ map_reverse f (s.left i) i)
    ∙ (λ i. shown_stored p s.agrees v.settled i ++ reverse (shown_stored p s.agrees (reverse v.left) i))
    ∙ ap (λ ys. v.settled ++ ys) (reverse-reverse v.left)

-- a right side of the current binding is taken, and one is put
swapped_side : (p : Places) (front : List Binding) (last b : Binding) (bs : List Binding) → front ++ last ∷ [] ≡ stored p (reverse (b ∷ bs)) → (front ≡ stored p (reverse bs)) × (last ≡ renamed_binding (number_of p) b)
swapped_side p front last b bs h = same_from_push front (stored p (reverse bs)) last (renamed_binding (number_of p) b) (h ∙ last_stored p b bs)

put_in : (p : Places) (w w' left : List Binding) (t t' e : TermTree) → w ≡ stored p (reverse left) → 0 < length left → IsSwappedLast w t w' t' → t ≡ rename e (number_of p) → w' ≡ stored p (reverse (put_first e left))
put_in p w w' [] t t' e q n s h = absurd (omega (arith, n))
put_in p w w' (b ∷ bs) t t' e q n s h =
    let parts = swapped_side p s.front s.last b bs (sym s.old ∙ q) in
    s.new ∙ (λ i. parts.0 i ++ record { ty = (parts.1 i).ty; body = h i } ∷ []) ∙ sym (last_stored p (record b { body = e }) bs)

pub length_put : (e : TermTree) (bs : List Binding) → length (put_first e bs) ≡ length bs
length_put e [] = refl
length_put e (b ∷ bs) = refl

pub side_put : (p : Places) (settled w w' : List Binding) (body t t' e : TermTree) (v : Opened) → AreStored p settled w body v → 0 < length v.left → IsSwappedLast w t w' t' → t ≡ rename e (number_of p) → AreStored p settled w' body (with_side v e)
side_put p settled w w' body t t' e v s n h q = record { agrees = s.agrees; settled = s.settled; left = put_in p w w' v.left t t' e s.left n h q; body = s.body }

taken_of : (p : Places) (w w' left : List Binding) (t t' e : TermTree) → Agrees p → w ≡ stored p (reverse left) → 0 < length left → IsSwappedLast w t w' t' → left ≡ put_first (rename t' (index_of p)) (put_first e left)
taken_of p w w' [] t t' e a q n s = absurd (omega (arith, n))
taken_of p w w' (b ∷ bs) t t' e a q n s =
    let parts = swapped_side p s.front s.last b bs (sym s.old ∙ q) in
    let same : b.body ≡ rename t' (index_of p) =
    sym (shown_stored_term p a b.body) ∙ ap (λ (x : Binding). rename x.body (index_of p)) (sym parts.1) ∙ ap (λ x. rename x (index_of p)) (sym s.taken) in
    λ i. record { ty = b.ty; body = same i } ∷ bs

pub side_taken : (o : Inside) (w' : List Binding) (t t' e : TermTree) (v : Opened) → IsStoredFor o v → 0 < length v.left → IsSwappedLast o.waiting.items t w' t' → v ≡ with_side (with_side v e) (rename t' (index_of o.places))
side_taken o w' t t' e v f n h = λ i. record v { left = taken_of o.places o.waiting.items w' v.left t t' e f.stored.agrees f.stored.left n h i }

-- the name of a global is stored as it is
pub global_stored : (p : Places) (d : ℕ) → global d ≡ rename (global d) (number_of p)
unfolding rename
global_stored p d = refl

-- the same of the whole
pub side_put_for : (o o' : Inside) (v : Opened) (t t' e : TermTree) → IsStoredFor o v → o'.places ≡ o.places → o'.settled ≡ o.settled → o'.body ≡ o.body → 0 < length v.left → IsSwappedLast o.waiting.items t o'.waiting.items t' → t ≡ rename e (number_of o.places) → IsStoredFor o' (with_side v e)
side_put_for o o' v t t' e f pq sq bq n h q =
    let put = side_put o.places o.settled.items o.waiting.items o'.waiting.items o.body t t' e v f.stored n h q in
    record {
      stored = subst (λ p. AreStored p o'.settled.items o'.waiting.items o'.body (with_side v e)) (sym pq)
          (subst (λ b. AreStored o.places o'.settled.items o'.waiting.items b (with_side v e)) (sym bq)
          (subst (λ s. AreStored o.places s o'.waiting.items o.body (with_side v e)) (sym (ap (λ s. s.items) sq)) put));
      settled = ap (λ p. length p.settled.items) pq ∙ f.settled;
      left = ap (λ p. length p.waiting.items) pq ∙ f.left ∙ sym (length_put e v.left);
    }

-- the current binding is settled
settle_in : (p p' : Places) (settled w w' left : List Binding) (last : Binding) → number_of p ≡ number_of p' → w ≡ stored p (reverse left) → 0 < length left → w ≡ w' ++ last ∷ [] → (w' ≡ stored p' (reverse (drop 1 left))) × (last ∷ [] ≡ stored p' (take 1 left))
settle_in p p' settled w w' [] last q h n is = absurd (omega (arith, n))
settle_in p p' settled w w' (b ∷ bs) last q h n is =
    let parts = swapped_side p w' last b bs (sym is ∙ h) in
    (parts.0 ∙ ap (λ ρ. map (renamed_binding ρ) (reverse bs)) q, λ i. (parts.1 ∙ ap (λ ρ. renamed_binding ρ b) q) i ∷ [])

one_settled : (p p' : Places) (settled w w' : List Binding) (last : Binding) (body : TermTree) (v : Opened) → AreStored p settled w body v → Agrees p' → IsSettledOne p p' → 0 < length v.left → w ≡ w' ++ last ∷ [] → AreStored p' (settled ++ last ∷ []) w' body (settled_one v)
one_settled p p' settled w w' last body v s a o n is =
    let same : number_of p ≡ number_of p' = ap number_in (sym o.ids) in
    let parts = settle_in p p' settled w w' v.left last same s.left n is in
    record {
      agrees = a;
      settled =
          (λ i. (s.settled ∙ ap (λ ρ. map (renamed_binding ρ) v.settled) same) i ++ parts.1 i)
          ∙ sym (map-append (renamed_binding (number_of p')) v.settled (take 1 v.left));
      left = parts.0;
      body = s.body ∙ ap (rename v.body) same;
    }

-- the same of the whole
pub one_settled_for : (o o' : Inside) (v : Opened) (last : Binding) → IsStoredFor o v → Agrees o'.places → IsSettledOne o.places o'.places → o'.body ≡ o.body → 0 < length v.left → o.waiting.items ≡ o'.waiting.items ++ last ∷ [] → o'.settled.items ≡ o.settled.items ++ last ∷ [] → IsStoredFor o' (settled_one v)
one_settled_for o o' v last f a one bq n is put =
    let whole = one_settled o.places o'.places o.settled.items o.waiting.items o'.waiting.items last o.body v f.stored a one n is in
    let kept : length (take 1 v.left) ≡ 1 = length-take-le 1 v.left (omega (arith, n)) in
    let first = length-append v.settled (take 1 v.left) in
    let rest : length (drop 1 v.left) ≡ length v.left - 1 = length-drop 1 v.left in
    record {
      stored = subst (λ b. AreStored o'.places o'.settled.items o'.waiting.items b (settled_one v)) (sym bq)
          (subst (λ s. AreStored o'.places s o'.waiting.items o.body (settled_one v)) (sym put) whole);
      settled = omega (arith, one.settled, f.settled, first, kept);
      left = omega (arith, one.waiting, f.left, rest);
    }
