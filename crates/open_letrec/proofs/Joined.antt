-- Bindings that joined.
use Rattle.std.proofs.Common.{◌≡◌, ◌∙◌, ℕ, ◌<◌, ◌+◌, ap, sym, subst, arith, List, ◌++◌, map, reverse, length}
use Rattle.std.proofs.lemmas.List.{map-append, reverse-append, length-map, length-append}
use Rattle.chw_types.specs.TypeMoves.{raised}
use Rattle.chw_terms.specs.declared.term.Binding.{Binding}
use Rattle.chw_terms.specs.TermMoves.{rename, exchanged}
use Rattle.chw_terms.specs.TermTree.{TermTree}
use Rattle.chw_terms.proofs.Renamed.{rename_rename}
use Rattle.moved_in_place.specs.Moves.{renamed_binding}
use Rattle.open_letrec.specs.declared.opened.OpenLetrec.TheInside.{Inside}
use Rattle.open_letrec.specs.declared.places.Places.{Places}
use Rattle.open_letrec.specs.Opened.{Opened, put_first, joined_one}
use Rattle.open_letrec.specs.Parts.{IsSwappedLast}
use Rattle.open_letrec.specs.Places.{Agrees, number_of, IsGrown}
use Rattle.open_letrec.specs.Stored.{stored, AreStored}
use Rattle.open_letrec.proofs.Ids.{number_grown}
use Rattle.open_letrec.proofs.Stored.{IsStoredFor, map_reverse, renamed_twice, side_put, length_put}

-- what was stored is stored for what has room for the bindings that came
room_made : (p p' : Places) (m n : ℕ) (bs : List Binding) → IsGrown p p' m → length p.waiting.items ≡ n → stored p bs ≡ stored p' (map (renamed_binding (raised n m)) bs)
room_made p p' m n bs g q =
    ap (λ ρ. map (renamed_binding ρ) bs) (sym (number_grown p p' m g))
    ∙ sym (renamed_twice (raised (length p.waiting.items) m) (number_of p') bs)
    ∙ ap (λ k. stored p' (map (renamed_binding (raised k m)) bs)) q

room_in_term : (p p' : Places) (m n : ℕ) (e : TermTree) → IsGrown p p' m → length p.waiting.items ≡ n → rename e (number_of p) ≡ rename (rename e (raised n m)) (number_of p')
room_in_term p p' m n e g q =
    ap (rename e) (sym (number_grown p p' m g))
    ∙ sym (rename_rename e (raised (length p.waiting.items) m) (number_of p'))
    ∙ ap (λ k. rename (rename e (raised k m)) (number_of p')) q

with_room : ℕ → ℕ → Opened → Opened
with_room n m o =
    record {
      settled = map (renamed_binding (raised n m)) o.settled;
      left = map (renamed_binding (raised n m)) o.left;
      body = rename o.body (raised n m);
    }

grown : (p p' : Places) (first rest : List Binding) (e : TermTree) (v : Opened) (m n : ℕ) → AreStored p first rest e v → Agrees p' → IsGrown p p' m → length p.waiting.items ≡ n → AreStored p' first rest e (with_room n m v)
unfolding with_room
grown p p' first rest e v m n s a g q =
    record {
      agrees = a;
      settled = s.settled ∙ room_made p p' m n v.settled g q;
      left = s.left ∙ room_made p p' m n (reverse v.left) g q ∙ ap (stored p') (map_reverse (renamed_binding (raised n m)) v.left);
      body = s.body ∙ room_in_term p p' m n v.body g q;
    }

-- the bindings that joined, in front of those that were left
in_front : (p : Places) (rest more left cs : List Binding) → rest ≡ stored p (reverse left) → more ≡ stored p cs → rest ++ reverse more ≡ stored p (reverse (cs ++ left))
in_front p rest more left cs h k =
    let f = renamed_binding (number_of p) in
    (λ i. h i ++ reverse (k i)) ∙ (λ i. stored p (reverse left) ++ sym (map_reverse f cs) i)
    ∙ sym (map-append f (reverse left) (reverse cs)) ∙ ap (stored p) (sym (reverse-append cs left))

one_joined : (p p' : Places) (first rest rest' cs more : List Binding) (e x t t' : TermTree) (v : Opened)
    → AreStored p first rest e v → 0 < length v.left → length p.waiting.items ≡ length v.left
    → Agrees p' → IsGrown p p' (length cs)
    → more ≡ stored p' (map (renamed_binding (exchanged (length cs) (length v.left))) cs)
    → t ≡ rename (rename x (exchanged (length cs) (length v.left))) (number_of p')
    → IsSwappedLast rest t rest' t'
    → AreStored p' first (rest' ++ reverse more) e (joined_one v cs x)
unfolding with_room
one_joined p p' first rest rest' cs more e x t t' v s some q a g ms ts h =
    let m = length cs in
    let n = length v.left in
    let swap = exchanged m n in
    let roomed = with_room n m v in
    let still : 0 < length roomed.left = omega (arith, some, length-map v.left (renamed_binding (raised n m))) in
    let put = side_put p' first rest rest' e t t' (rename x swap) roomed (grown p p' first rest e v m n s a g q) still h ts in
    record {
      agrees = a;
      settled = put.settled;
      left = in_front p' rest' more (put_first (rename x swap) roomed.left) (map (renamed_binding swap) cs) put.left ms;
      body = put.body;
    }

-- the same of the whole
pub one_joined_for : (o o' : Inside) (v : Opened) (cs more last : List Binding) (x t t' : TermTree)
    → IsStoredFor o v → 0 < length v.left → Agrees o'.places → IsGrown o.places o'.places (length cs)
    → o'.settled ≡ o.settled → o'.body ≡ o.body → o'.waiting.items ≡ last ++ reverse more
    → more ≡ stored o'.places (map (renamed_binding (exchanged (length cs) (length v.left))) cs)
    → t ≡ rename (rename x (exchanged (length cs) (length v.left))) (number_of o'.places)
    → IsSwappedLast o.waiting.items t last t'
    → IsStoredFor o' (joined_one v cs x)
one_joined_for o o' v cs more last x t t' f some a g sq bq wq ms ts h =
    let p' = o'.places in
    let new = joined_one v cs x in
    let swap = exchanged (length cs) (length v.left) in
    let room = raised (length v.left) (length cs) in
    let joins = one_joined o.places p' o.settled.items o.waiting.items last cs more o.body x t t' v f.stored some f.left a g ms ts h in
    let here : length new.left ≡ length cs + length v.left =
    length-append (map (renamed_binding swap) cs) (put_first (rename x swap) (map (renamed_binding room) v.left))
    ∙ (λ i. length-map cs (renamed_binding swap) i + (length_put (rename x swap) (map (renamed_binding room) v.left) ∙ length-map v.left (renamed_binding room)) i) in
    record {
      stored = subst (λ w. AreStored p' o'.settled.items w o'.body new) (sym wq)
          (subst (λ b. AreStored p' o'.settled.items (last ++ reverse more) b new) (sym bq)
          (subst (λ s. AreStored p' s (last ++ reverse more) o.body new) (sym (ap (λ s. s.items) sq)) joins));
      settled = ap length g.2.settled ∙ f.settled ∙ sym (length-map v.settled (renamed_binding room));
      left = omega (arith, ap length g.2.waiting, length-append o.places.waiting.items g.0, g.1, f.left, here);
    }
