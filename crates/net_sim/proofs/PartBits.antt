-- The bits of a part of a room.
use Rattle.std.proofs.Common.{◌≡◌, ℕ, ◌+◌, ◌-◌, ◌<◌, ◌≤◌, Bool, false, List, [], ◌∷◌, ◌++◌, length, take, drop, set, get_or, append_assoc, sym, ap, ◌∙◌, arith}
use Rattle.std.proofs.lemmas.List.{drop-take, take-take, take_more, take_more_set}

-- a part of the front is the same part of its bits
pub part_of_front : (room x : List Bool) (from count whole : ℕ) → take whole room ≡ x → from + count ≤ whole
    → take count (drop from room) ≡ take count (drop from x)
part_of_front room x from count whole front le =
    let split : from + (whole - from) ≡ whole = omega arith in
    sym (take-take count (whole - from) (drop from room) (omega arith))
    ∙ ap (take count) (sym (drop-take from (whole - from) room) ∙ ap (λ n. drop from (take n room)) split ∙ ap (drop from) front)

-- one more bit after those that were laid from a place on
pub laid_more : (room old bits : List Bool) (at i : ℕ) (bit : Bool) → i < length bits → at + i < length room
    → take (at + i) room ≡ take at old ++ take i bits → bit ≡ get_or bits i false
    → take (at + (i + 1)) (set room (at + i) bit) ≡ take at old ++ take (i + 1) bits
laid_more room old bits at i bit lt within laid is =
    let next : at + (i + 1) ≡ at + i + 1 = omega arith in
    ap (λ n. take n (set room (at + i) bit)) next ∙ take_more_set room (at + i) bit within
    ∙ ap (λ front. front ++ bit ∷ []) laid ∙ append_assoc (take at old) (take i bits) (bit ∷ [])
    ∙ ap (λ more. take at old ++ more) (ap (λ b. take i bits ++ b ∷ []) is ∙ sym (take_more bits i false lt))
