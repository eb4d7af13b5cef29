-- Paths to parts are in the order of the parts.
use Rattle.std.proofs.Common.{◌≡◌, inl, inr, ℕ, zero, suc, ◌<◌, ◌-◌, refl, ap, arith}
use Rattle.std.proofs.Common.{List, [], ◌∷◌, ◌++◌, replicate}
use Rattle.chw_typing.specs.Paths.{IsEarlier, argument_path}
use Rattle.active_parts.specs.Parts.{part_path, IsAmong}

-- paths on from one are earlier than paths on from another
abbrev pub AreInOrder : List ℕ → List ℕ → Type 0
AreInOrder p q = (r r' : List ℕ) → IsEarlier (p ++ r) (q ++ r')

-- before the later arguments there are fewer zeros
zeros_in_order : (k l : ℕ) (r r' : List ℕ) → l < k
    → IsEarlier ((replicate k 0 ++ 1 ∷ []) ++ r) ((replicate l 0 ++ 1 ∷ []) ++ r')
zeros_in_order zero l r r' h = absurd (omega (arith, h))
zeros_in_order (suc k) zero r r' h = inl (omega arith)
zeros_in_order (suc k) (suc l) r r' h = inr (refl, zeros_in_order k l r r' (omega (arith, h)))

fewer_zeros : (n i j : ℕ) → i < j → IsAmong (suc n) j → suc n - 1 - j < suc n - 1 - i
fewer_zeros n i j l (inl none) = omega (arith, none)
fewer_zeros n i j l (inr m) = omega (arith, l, m)

pub parts_in_order : (n i j : ℕ) → i < j → IsAmong n j → AreInOrder (part_path n i) (part_path n j)
parts_in_order zero i j l m r r' = inl l
parts_in_order (suc n) i j l m r r' =
    zeros_in_order (suc n - 1 - i) (suc n - 1 - j) r r' (fewer_zeros n i j l m)

-- the paths themselves
pub child_path : (n i last : ℕ) → n ≡ 0 → last ≡ i → last ∷ [] ≡ part_path n i
child_path zero i last none is = ap (λ k. k ∷ []) is
child_path (suc n) i last none is = absurd (omega (arith, none))

pub way_to_argument : (n i : ℕ) → (n ≡ 0 → ⊥) → argument_path i n ≡ part_path n i
way_to_argument zero i some = absurd (some refl)
way_to_argument (suc n) i some = refl

pub way_to_child : (n i : ℕ) → n ≡ 0 → i ∷ [] ≡ part_path n i
way_to_child n i none = child_path n i i none refl

pub within_some : (n i : ℕ) → (n ≡ 0 → ⊥) → IsAmong n i → i < n
within_some n i some (inl none) = absurd (some none)
within_some n i some (inr l) = l
