-- The cells of uses and of memories drive the wires of their piece in order, each one once.
use Rattle.std.proofs.Common.{◌≡◌, ℕ, zero, suc, ◌+◌, ◌-◌, ◌≤◌, arith, Bool, true, false, List, [], ◌∷◌, ◌++◌, refl, sym, ap, subst}
use Rattle.std.specs.Prelude.{if◌then◌else◌, nat_lt, ◌==◌}
use Rattle.std.proofs.lemmas.Bool.{ltb-true}
use Rattle.chw_base.specs.declared.index.DomId.{DomId}
use Rattle.chw_base.specs.declared.index.WireId.{WireId}
use Rattle.chw_base.specs.declared.limits.TheConstants.{ADDRESS_BITS}
use Rattle.chw_bits.specs.Bits.{bits_of}
use Rattle.netlist.specs.declared.net.Cell.TheVariants.{Const, Join, Cut, Bin, Mux}
use Rattle.netlist.specs.declared.net.Op2.TheVariants.{LtU}
use Rattle.net_built.specs.Circuits.{Ground, used}
use Rattle.net_built.specs.Memories.{past_all, address, filled_up, narrowed, memory}
use Rattle.net_built.specs.Wires.{wire, wires_from, wire_count, Piece, nothing, one, after, ◌▸◌}
use Rattle.net_built.specs.Words.{zeros, only}
use Rattle.net_means.proofs.NetFits.Pieces.{Ordered, none_ordered, then_ordered, one_ordered}

append_nothing : {A : Type 0} (xs : List A) → xs ++ [] ≡ xs
append_nothing [] = refl
append_nothing (x ∷ xs) = ap (λ ys. x ∷ ys) (append_nothing xs)

pub used_ordered : (ground : Ground) (m at : ℕ) (reads : List WireId) (widths : List ℕ) → Ordered at (used ground m at reads widths)
used_ordered ground m at reads [] = record { drives = refl }
used_ordered ground m at reads (zero ∷ widths) = record { drives = (used_ordered ground m at reads widths).drives }
used_ordered ground m at reads (suc w ∷ widths) = record { drives = append_nothing (wires_from at (wire_count (suc w ∷ widths))) }

-- a word of so many zeros, and behind it an address
filled_ordered : (m at : ℕ) (a : List WireId) → 1 ≤ m → Ordered at (one m (Const (wire at) (zeros m)) ▸ one ADDRESS_BITS (Join (wire (at + 1)) (wire at ∷ a)))
filled_ordered zero at a l = absurd (omega (arith, l))
filled_ordered (suc m) at a l = then_ordered at _ _ (one_ordered at (suc m) _ refl) (one_ordered (at + 1) ADDRESS_BITS _ refl)

then_from : (n m : ℕ) (p q : Piece) → after n p ≡ m → Ordered n p → Ordered m q → Ordered n (p ▸ q)
then_from n m p q e h k = then_ordered n p q h (subst (λ m. Ordered m q) (sym e) k)

narrowed_ordered : (k at : ℕ) (a : List WireId) → Ordered at (narrowed (suc k) at a)
narrowed_ordered k at a =
    let p : Piece = one (suc k) (Const (wire at) (bits_of (suc k) (past_all - 1))) in
    let q : Piece = one 1 (Bin (wire (at + 1)) LtU (wire at) (only a)) in
    let r : Piece = one ADDRESS_BITS (Const (wire (at + 2)) (bits_of ADDRESS_BITS past_all)) in
    let s : Piece = one ADDRESS_BITS (Cut (wire (at + 3)) (only a) (ADDRESS_BITS - 1) 0) in
    let t : Piece = one ADDRESS_BITS (Mux (wire (at + 4)) (wire (at + 1)) (wire (at + 2)) (wire (at + 3))) in
    let second : at + 1 + 1 ≡ at + 2 = omega arith in
    let third : at + 2 + 1 ≡ at + 3 = omega arith in
    let fourth : at + 3 + 1 ≡ at + 4 = omega arith in
    then_from at (at + 1) p (q ▸ r ▸ s ▸ t) refl (one_ordered at (suc k) _ refl)
    (then_from (at + 1) (at + 2) q (r ▸ s ▸ t) second (one_ordered (at + 1) 1 _ refl)
    (then_from (at + 2) (at + 3) r (s ▸ t) third (one_ordered (at + 2) ADDRESS_BITS _ refl)
    (then_from (at + 3) (at + 4) s t fourth (one_ordered (at + 3) ADDRESS_BITS _ refl) (one_ordered (at + 4) ADDRESS_BITS _ refl))))

by_width : (k at : ℕ) (a : List WireId) (is less : Bool) → (less ≡ true → 1 ≤ ADDRESS_BITS - suc k) → Ordered at (if is then nothing else (if less then filled_up (suc k) at a else narrowed (suc k) at a))
by_width k at a true less h = none_ordered
by_width k at a false true h = filled_ordered (ADDRESS_BITS - suc k) at a (h refl)
by_width k at a false false h = narrowed_ordered k at a

address_ordered : (k at : ℕ) (a : List WireId) → Ordered at (address k at a)
address_ordered zero at a = one_ordered at ADDRESS_BITS _ refl
address_ordered (suc k) at a =
    by_width k at a (suc k == ADDRESS_BITS) (nat_lt (suc k) ADDRESS_BITS) (λ h. let l = ltb-true (suc k) ADDRESS_BITS h in omega (arith, l))

pub memory_ordered : (w k at : ℕ) (d : DomId) (words : List (List Bool)) (read write : List WireId) → Ordered at (memory w k at d words read write)
memory_ordered zero k at d words read write = none_ordered
memory_ordered (suc w) k at d words read write =
    then_ordered at _ _
    (then_ordered at _ _ (then_ordered at _ _ (one_ordered at 1 _ refl) (one_ordered (at + 1) k _ refl)) (one_ordered _ (suc w) _ refl))
    (then_ordered _ _ _ (address_ordered k _ read) (then_ordered _ _ _ (address_ordered k _ _) (one_ordered _ (suc w) _ refl)))
