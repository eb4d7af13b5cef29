-- The first blocked place of a state is one.
use Rattle.std.proofs.Common.{◌≡◌, ◌⊎◌, inl, inr, ◌<◌, sym}
use Rattle.std.proofs.lemmas.Bool.{cases_order}
use Rattle.chw_typing.specs.Paths.{IsEarlier}
use Rattle.chw_typing.proofs.Order.{one_is_earlier}
use Rattle.normal_forms.specs.Blocked.{BlockedPlace, IsBlockedBefore, rank_of}
use Rattle.normal_forms.specs.Laws.{OneFirstBlocked}

abbrev AreOne : BlockedPlace → BlockedPlace → Type 0
AreOne a b = (a.number ≡ b.number) × (a.path ≡ b.path) × (rank_of a.block ≡ rank_of b.block)

in_order : (a b : BlockedPlace) → AreOne a b ⊎ (IsBlockedBefore a b ⊎ IsBlockedBefore b a)
in_order a b = by_number (cases_order a.number b.number)
  where
    by_rank : a.number ≡ b.number → a.path ≡ b.path → (rank_of a.block ≡ rank_of b.block) ⊎ ((rank_of a.block < rank_of b.block) ⊎ (rank_of b.block < rank_of a.block)) → AreOne a b ⊎ (IsBlockedBefore a b ⊎ IsBlockedBefore b a)
    by_rank n p (inl r) = inl (n, p, r)
    by_rank n p (inr (inl l)) = inr (inl (inr (n, inr (p, l))))
    by_rank n p (inr (inr l)) = inr (inr (inr (sym n, inr (sym p, l))))

    by_path : a.number ≡ b.number → (a.path ≡ b.path) ⊎ (IsEarlier a.path b.path ⊎ IsEarlier b.path a.path) → AreOne a b ⊎ (IsBlockedBefore a b ⊎ IsBlockedBefore b a)
    by_path n (inl p) = by_rank n p (cases_order (rank_of a.block) (rank_of b.block))
    by_path n (inr (inl e)) = inr (inl (inr (n, inl e)))
    by_path n (inr (inr e)) = inr (inr (inr (sym n, inl e)))

    by_number : (a.number ≡ b.number) ⊎ ((a.number < b.number) ⊎ (b.number < a.number)) → AreOne a b ⊎ (IsBlockedBefore a b ⊎ IsBlockedBefore b a)
    by_number (inl n) = by_path n (one_is_earlier a.path b.path)
    by_number (inr (inl l)) = inr (inl (inl l))
    by_number (inr (inr l)) = inr (inr (inl l))

pub one_first_blocked : OneFirstBlocked
one_first_blocked p state a b h g = by (in_order a b)
  where
    by : AreOne a b ⊎ (IsBlockedBefore a b ⊎ IsBlockedBefore b a) → AreOne a b
    by (inl same) = same
    by (inr (inl l)) = absurd (g.first a h.blocked l)
    by (inr (inr l)) = absurd (h.first b g.blocked l)
