-- The cells of addresses, of what was appended for them.
use Rattle.std.proofs.Common.{◌≡◌, ◌∙◌, ap, ℕ, zero, suc, ◌+◌, ◌-◌, ◌<◌, arith, Bool, List, length}
use Rattle.chw_base.specs.declared.index.WireId.{WireId}
use Rattle.chw_bits.specs.Bits.{bits_of}
use Rattle.netlist.specs.declared.net.Cell.TheVariants.{Const, Cut, Bin, Mux}
use Rattle.netlist.specs.declared.net.Op2.TheVariants.{LtU}
use Rattle.net_built.specs.Memories.{past_all, narrowed}
use Rattle.net_built.specs.Wires.{wire, Piece, one, ◌▸◌}
use Rattle.net_built.specs.Words.{only}
use Rattle.net_pieces.proofs.Behind.{behind_both, next_behind}

-- whether an address is over the greatest that counts, and the greatest with the low bits
abbrev over_cells : (k at : ℕ) → List WireId → Piece
over_cells k at a =
    one k (Const (wire at) (bits_of k (past_all - 1)))
    ▸ one 1 (Bin (wire (at + 1)) LtU (wire at) (only a))

abbrev low_cells : (at next : ℕ) → List WireId → Piece
low_cells at next a =
    one 12 (Const (wire at) (bits_of 12 past_all)) ▸ one 12 (Cut (wire next) (only a) 11 0)

pub low_behind : (s t : Piece) (a : List WireId) (bits : List Bool) (from low : WireId)
    → bits ≡ bits_of 12 past_all → t ≡ s ▸ one 12 (Const (wire (length s.widths)) bits)
    → low ≡ wire (length t.widths) → from ≡ only a
    → t ▸ one 12 (Cut low from 11 0)
    ≡ s
    ▸ (one 12 (Const (wire (length s.widths)) (bits_of 12 past_all))
    ▸ one 12 (Cut (wire (length s.widths + 1)) (only a) 11 0))
low_behind s t a bits from low eb e el ea =
    let n : ℕ = length s.widths in
    let p : Piece = one 12 (Const (wire n) (bits_of 12 past_all)) in
    let q : Piece = one 12 (Cut (wire (n + 1)) (only a) 11 0) in
    let m : length t.widths ≡ n + 1 = next_behind s t (one 12 (Const (wire n) bits)) e in
    let low_is : low ≡ wire (n + 1) = el ∙ ap wire m in
    let whole : t ≡ s ▸ p = e ∙ ap (λ (bs : List Bool). s ▸ one 12 (Const (wire n) bs)) eb in
    (λ i. t ▸ one 12 (Cut (low_is i) (ea i) 11 0)) ∙ ap (λ (x : Piece). x ▸ q) whole
    ∙ behind_both s p q

pub narrowed_behind : (s t u : Piece) (k : ℕ) (a : List WireId) (over greatest low w : WireId)
    → 0 < k
    → t ≡ s
    ▸ (one k (Const (wire (length s.widths)) (bits_of k (past_all - 1)))
    ▸ one 1 (Bin (wire (length s.widths + 1)) LtU (wire (length s.widths)) (only a)))
    → over ≡ wire (length t.widths - 1) → greatest ≡ wire (length t.widths)
    → u ≡ t
    ▸ (one 12 (Const (wire (length t.widths)) (bits_of 12 past_all))
    ▸ one 12 (Cut (wire (length t.widths + 1)) (only a) 11 0))
    → low ≡ wire (length u.widths - 1) → w ≡ wire (length u.widths)
    → u ▸ one 12 (Mux w over greatest low) ≡ s ▸ narrowed k (length s.widths) a
narrowed_behind s t u zero a over greatest low w some e eo eg f el ew = absurd (omega arith)
narrowed_behind s t u (suc k) a over greatest low w some e eo eg f el ew =
    let n : ℕ = length s.widths in
    let p : Piece = over_cells (suc k) n a in
    let m : length t.widths ≡ n + 2 = next_behind s t p e in
    let m' : length t.widths + 1 ≡ n + 3 = omega (arith, m) in
    let q : Piece = low_cells (length t.widths) (length t.widths + 1) a in
    let l : length u.widths ≡ length t.widths + 2 = next_behind t u q f in
    let l' : length u.widths ≡ n + 4 = omega (arith, l, m) in
    let is_over : over ≡ wire (n + 1) =
    eo ∙ ap wire (let h : length t.widths - 1 ≡ n + 1 = omega (arith, m) in h) in
    let is_low : low ≡ wire (n + 3) =
    el ∙ ap wire (let h : length u.widths - 1 ≡ n + 3 = omega (arith, l') in h) in
    let is_greatest : greatest ≡ wire (n + 2) = eg ∙ ap wire m in
    let is_last : w ≡ wire (n + 4) = ew ∙ ap wire l' in
    let r : Piece = one 12 (Mux (wire (n + 4)) (wire (n + 1)) (wire (n + 2)) (wire (n + 3))) in
    let chosen : u ▸ one 12 (Mux w over greatest low) ≡ u ▸ r =
    λ i. u ▸ one 12 (Mux (is_last i) (is_over i) (is_greatest i) (is_low i)) in
    let placed : q ≡ low_cells (n + 2) (n + 3) a = λ i. low_cells (m i) (m' i) a in
    chosen ∙ ap (λ (x : Piece). x ▸ r) f ∙ behind_both t q r
    ∙ ap (λ (x : Piece). t ▸ (x ▸ r)) placed
    ∙ ap (λ (x : Piece). x ▸ (low_cells (n + 2) (n + 3) a ▸ r)) e
    ∙ behind_both s p (low_cells (n + 2) (n + 3) a ▸ r)
