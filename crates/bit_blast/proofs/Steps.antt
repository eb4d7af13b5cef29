-- One more place of words: what each definition adds for it.
use Rattle.std.proofs.Common.{◌≡◌, ℕ, zero, suc, ◌+◌, ◌-◌, ◌*◌, ◌≤◌, Bool, false, eqb, if◌then◌else◌, List, [], ◌∷◌, ◌++◌, length, refl, sym, ap, ◌∙◌, add-one, append_assoc, arith}
use Rattle.std.proofs.lemmas.Bool.{ne_eqb}
use Rattle.chw_base.specs.declared.index.WireId.{WireId}
use Rattle.netlist.specs.declared.net.Flat.{Flat}
use Rattle.netlist.specs.declared.net.Op2.TheVariants.{Eq, LtS, LtU}
use Rattle.bit_laws.specs.BitNames.{further}
use Rattle.bit_laws.specs.Bitnet.{Node}
use Rattle.bit_laws.specs.Blast.{binary_nodes, choices, difference_nodes, equal_nodes, folded, gate_of, less_nodes, on_both, reduction, signed_nodes, sum_nodes}
use Rattle.bit_laws.specs.Gates.Gate.{alike, both, buffer, inverse, less, most, odd}
use Rattle.bit_nodes.specs.Standing.{name_of, node_of}
use Rattle.bit_nodes.specs.declared.nodes.BitGate.TheVariants.{Alike, Always, Both, Buffer, Choice, Inverse, Less, Most, Never, Odd}
use Rattle.bit_nodes.specs.declared.nodes.BitName.{BitName}
use Rattle.bit_nodes.specs.declared.nodes.BitName.TheVariants.{Bit, Further}
use Rattle.bit_nodes.specs.declared.nodes.BitNode.TheVariants.{Table}
use Rattle.bit_blast.specs.Gating.{folding, gate_of_two, with_two}
use Rattle.bit_blast.specs.Names.{lowest}
use Rattle.bit_blast.specs.declared.gates.TwoBits.{TwoBits}
use Rattle.bit_blast.specs.declared.gates.TwoBits.TheVariants.{And, Or, Xor}
use Rattle.bit_blast.proofs.Places.{length-lowest}

-- a gate of two bits stands for the gate with these names
pub node_of_two : (flat : Flat) (gate : TwoBits) (x y o : BitName)
    → node_of flat (Table (with_two gate x y) o) ≡ gate_of (gate_of_two gate) (name_of flat x ∷ name_of flat y ∷ []) (name_of flat o)
node_of_two flat And x y o = refl
node_of_two flat Or x y o = refl
node_of_two flat Xor x y o = refl

module _ (flat : Flat) (w a b : WireId) (j : ℕ) where
  pub both_step : (gate : TwoBits)
      → on_both (gate_of_two gate) (lowest flat w.number (j + 1)) (lowest flat a.number (j + 1)) (lowest flat b.number (j + 1))
      ≡ on_both (gate_of_two gate) (lowest flat w.number j) (lowest flat a.number j) (lowest flat b.number j)
      ++ node_of flat (Table (with_two gate (Bit a j) (Bit b j)) (Bit w j)) ∷ []
  both_step gate =
      rw add-one
      (ap (λ (n : Node). on_both (gate_of_two gate) (lowest flat w.number j) (lowest flat a.number j) (lowest flat b.number j) ++ n ∷ [])
      (sym (node_of_two flat gate (Bit a j) (Bit b j) (Bit w j))))

  pub choice_step : (c : BitName)
      → choices (name_of flat c) (lowest flat w.number (j + 1)) (lowest flat a.number (j + 1)) (lowest flat b.number (j + 1))
      ≡ choices (name_of flat c) (lowest flat w.number j) (lowest flat a.number j) (lowest flat b.number j)
      ++ node_of flat (Table (Choice c (Bit a j) (Bit b j)) (Bit w j)) ∷ []
  choice_step c = rw add-one refl

  -- the nodes of a place, by the number of its carry and of the next one
  abbrev sum_at : (carry next : ℕ) → List Node
  sum_at carry next =
      gate_of odd (name_of flat (Bit a j) ∷ name_of flat (Bit b j) ∷ further w.number carry ∷ []) (name_of flat (Bit w j))
      ∷ gate_of most (name_of flat (Bit a j) ∷ name_of flat (Bit b j) ∷ further w.number carry ∷ []) (further w.number next) ∷ []

  pub sum_step : sum_nodes w.number (lowest flat w.number (j + 1)) (lowest flat a.number (j + 1)) (lowest flat b.number (j + 1))
      ≡ sum_nodes w.number (lowest flat w.number j) (lowest flat a.number j) (lowest flat b.number j)
      ++ node_of flat (Table (Odd (Bit a j) (Bit b j) (Further w j)) (Bit w j))
      ∷ node_of flat (Table (Most (Bit a j) (Bit b j) (Further w j)) (Further w (j + 1))) ∷ []
  sum_step =
      let before = sum_nodes w.number (lowest flat w.number j) (lowest flat a.number j) (lowest flat b.number j) in
      rw add-one (ap (λ (n : ℕ). before ++ sum_at n (suc n)) (length-lowest flat a.number j))

  abbrev difference_at : (carry opposite next : ℕ) → List Node
  difference_at carry opposite next =
      gate_of inverse (name_of flat (Bit b j) ∷ []) (further w.number opposite)
      ∷ gate_of odd (name_of flat (Bit a j) ∷ further w.number opposite ∷ further w.number carry ∷ []) (name_of flat (Bit w j))
      ∷ gate_of most (name_of flat (Bit a j) ∷ further w.number opposite ∷ further w.number carry ∷ []) (further w.number next) ∷ []

  pub difference_step : difference_nodes w.number (lowest flat w.number (j + 1)) (lowest flat a.number (j + 1)) (lowest flat b.number (j + 1))
      ≡ difference_nodes w.number (lowest flat w.number j) (lowest flat a.number j) (lowest flat b.number j)
      ++ node_of flat (Table (Inverse (Bit b j)) (Further w (2 * j + 1)))
      ∷ node_of flat (Table (Odd (Bit a j) (Further w (2 * j + 1)) (Further w (2 * j))) (Bit w j))
      ∷ node_of flat (Table (Most (Bit a j) (Further w (2 * j + 1)) (Further w (2 * j))) (Further w (2 * j + 2))) ∷ []
  difference_step =
      let before = difference_nodes w.number (lowest flat w.number j) (lowest flat a.number j) (lowest flat b.number j) in
      let next : 2 * suc j ≡ 2 * j + 2 = omega arith in
      ap (λ (i : ℕ). difference_nodes w.number (lowest flat w.number i) (lowest flat a.number i) (lowest flat b.number i)) (add-one j)
      ∙ ap (λ (n : ℕ). before ++ difference_at (2 * n) (2 * n + 1) (2 * suc n)) (length-lowest flat a.number j)
      ∙ ap (λ (n : ℕ). before ++ difference_at (2 * j) (2 * j + 1) n) next

  abbrev equal_at : (below alike_at next : ℕ) → List Node
  equal_at below alike_at next =
      gate_of alike (name_of flat (Bit a j) ∷ name_of flat (Bit b j) ∷ []) (further w.number alike_at)
      ∷ gate_of both (further w.number below ∷ further w.number alike_at ∷ []) (further w.number next) ∷ []

  pub equal_step : equal_nodes w.number (lowest flat a.number (j + 1)) (lowest flat b.number (j + 1))
      ≡ equal_nodes w.number (lowest flat a.number j) (lowest flat b.number j)
      ++ node_of flat (Table (Alike (Bit a j) (Bit b j)) (Further w (2 * j + 1)))
      ∷ node_of flat (Table (Both (Further w (2 * j)) (Further w (2 * j + 1))) (Further w (2 * j + 2))) ∷ []
  equal_step =
      let before = equal_nodes w.number (lowest flat a.number j) (lowest flat b.number j) in
      let next : 2 * suc j ≡ 2 * j + 2 = omega arith in
      ap (λ (i : ℕ). equal_nodes w.number (lowest flat a.number i) (lowest flat b.number i)) (add-one j)
      ∙ ap (λ (n : ℕ). before ++ equal_at (2 * n) (2 * n + 1) (2 * suc n)) (length-lowest flat a.number j)
      ∙ ap (λ (n : ℕ). before ++ equal_at (2 * j) (2 * j + 1) n) next

  abbrev less_at : (below next : ℕ) → List Node
  less_at below next =
      gate_of less (name_of flat (Bit a j) ∷ name_of flat (Bit b j) ∷ further w.number below ∷ []) (further w.number next) ∷ []

  pub less_step : less_nodes w.number (lowest flat a.number (j + 1)) (lowest flat b.number (j + 1))
      ≡ less_nodes w.number (lowest flat a.number j) (lowest flat b.number j)
      ++ node_of flat (Table (Less (Bit a j) (Bit b j) (Further w j)) (Further w (j + 1))) ∷ []
  less_step =
      let before = less_nodes w.number (lowest flat a.number j) (lowest flat b.number j) in
      rw add-one (ap (λ (n : ℕ). before ++ less_at n (suc n)) (length-lowest flat a.number j))

  -- of signed words the bits of the first place are exchanged
  abbrev signed_at : (below next : ℕ) → List Node
  signed_at below next =
      gate_of less (name_of flat (Bit b j) ∷ name_of flat (Bit a j) ∷ further w.number below ∷ []) (further w.number next) ∷ []

  pub signed_step : signed_nodes w.number (lowest flat a.number (suc j)) (lowest flat b.number (suc j))
      ≡ less_nodes w.number (lowest flat a.number j) (lowest flat b.number j)
      ++ node_of flat (Table (Less (Bit b j) (Bit a j) (Further w j)) (Further w (suc j))) ∷ []
  signed_step =
      let before = less_nodes w.number (lowest flat a.number j) (lowest flat b.number j) in
      ap (λ (n : ℕ). before ++ signed_at n (suc n)) (length-lowest flat a.number j)

-- what is folded, one bit more
module _ (flat : Flat) (gate : TwoBits) (w a : WireId) where
  pub fold_step : (j : ℕ) → folded (gate_of_two gate) w.number (lowest flat a.number (suc j))
      ≡ folded (gate_of_two gate) w.number (lowest flat a.number j)
      ++ node_of flat (Table (folding gate w a j) (Further w j)) ∷ []
  fold_step zero = refl
  fold_step (suc i) =
      let before = folded (gate_of_two gate) w.number (lowest flat a.number (suc i)) in
      let one : suc i - 1 ≡ i = omega arith in
      let some : suc i ≡ 0 → ⊥ = λ (e : suc i ≡ 0). omega arith in
      let other : eqb (suc i) 0 ≡ false = ne_eqb (suc i) 0 some in
      ap (λ (n : ℕ). before
      ++ gate_of (gate_of_two gate) (further w.number n ∷ name_of flat (Bit a (suc i)) ∷ []) (further w.number (suc n)) ∷ [])
      (length-lowest flat a.number i)
      ∙ ap (λ (n : Node). before ++ n ∷ []) (sym (node_of_two flat gate (Further w i) (Bit a (suc i)) (Further w (suc i))))
      ∙ ap (λ (n : ℕ). before ++ node_of flat (Table (with_two gate (Further w n) (Bit a (suc i))) (Further w (suc i))) ∷ []) (sym one)
      ∙ ap (λ (t : Bool). before ++ node_of flat (Table (if t then Buffer (Bit a (suc i)) else with_two gate (Further w (suc i - 1)) (Bit a (suc i))) (Further w (suc i))) ∷ [])
      (sym other)

  -- all of it, and a buffer of the last further node behind it
  pub reduction_end : (n : ℕ) → 1 ≤ n
      → reduction (gate_of_two gate) w.number (lowest flat w.number 1) (lowest flat a.number n)
      ≡ folded (gate_of_two gate) w.number (lowest flat a.number n) ++ node_of flat (Table (Buffer (Further w (n - 1))) (Bit w 0)) ∷ []
  reduction_end zero some = absurd (omega arith)
  reduction_end (suc m) some =
      let before = folded (gate_of_two gate) w.number (lowest flat a.number (suc m)) in
      let top : length (lowest flat a.number m) ≡ suc m - 1 = length-lowest flat a.number m ∙ omega arith in
      ap (λ (i : ℕ). before ++ gate_of buffer (further w.number i ∷ []) (name_of flat (Bit w 0)) ∷ []) top

-- comparisons, and a buffer of the last further node behind them
module _ (flat : Flat) (w a b : WireId) where
  pub equal_end : (n : ℕ) → binary_nodes Eq w.number (lowest flat w.number 1) (lowest flat a.number n) (lowest flat b.number n)
      ≡ node_of flat (Table Always (Further w 0)) ∷ equal_nodes w.number (lowest flat a.number n) (lowest flat b.number n)
      ++ node_of flat (Table (Buffer (Further w (2 * n))) (Bit w 0)) ∷ []
  equal_end n =
      let before = node_of flat (Table Always (Further w 0)) ∷ equal_nodes w.number (lowest flat a.number n) (lowest flat b.number n) in
      ap (λ (i : ℕ). before ++ gate_of buffer (further w.number (2 * i) ∷ []) (name_of flat (Bit w 0)) ∷ []) (length-lowest flat a.number n)

  pub less_end : (n : ℕ) → binary_nodes LtU w.number (lowest flat w.number 1) (lowest flat a.number n) (lowest flat b.number n)
      ≡ node_of flat (Table Never (Further w 0)) ∷ less_nodes w.number (lowest flat a.number n) (lowest flat b.number n)
      ++ node_of flat (Table (Buffer (Further w n)) (Bit w 0)) ∷ []
  less_end n =
      let before = node_of flat (Table Never (Further w 0)) ∷ less_nodes w.number (lowest flat a.number n) (lowest flat b.number n) in
      ap (λ (i : ℕ). before ++ gate_of buffer (further w.number i ∷ []) (name_of flat (Bit w 0)) ∷ []) (length-lowest flat a.number n)

  -- of signed words, of which the lower bits are compared first
  signed_whole : (m : ℕ) → binary_nodes LtS w.number (lowest flat w.number 1) (lowest flat a.number (suc m)) (lowest flat b.number (suc m))
      ≡ node_of flat (Table Never (Further w 0)) ∷ less_nodes w.number (lowest flat a.number m) (lowest flat b.number m)
      ++ node_of flat (Table (Less (Bit b m) (Bit a m) (Further w m)) (Further w (suc m)))
      ∷ node_of flat (Table (Buffer (Further w (suc m))) (Bit w 0)) ∷ []
  signed_whole m =
      let first = node_of flat (Table Never (Further w 0)) in
      let before = less_nodes w.number (lowest flat a.number m) (lowest flat b.number m) in
      let last = node_of flat (Table (Less (Bit b m) (Bit a m) (Further w m)) (Further w (suc m))) in
      let all = node_of flat (Table (Buffer (Further w (suc m))) (Bit w 0)) in
      ap (λ (i : ℕ). first ∷ signed_nodes w.number (lowest flat a.number (suc m)) (lowest flat b.number (suc m))
      ++ gate_of buffer (further w.number (suc i) ∷ []) (name_of flat (Bit w 0)) ∷ []) (length-lowest flat a.number m)
      ∙ ap (λ (ns : List Node). first ∷ ns ++ all ∷ []) (signed_step flat w a b m)
      ∙ ap (λ (ns : List Node). first ∷ ns) (append_assoc before (last ∷ []) (all ∷ []))

  pub signed_end : (n : ℕ) → 1 ≤ n
      → binary_nodes LtS w.number (lowest flat w.number 1) (lowest flat a.number n) (lowest flat b.number n)
      ≡ node_of flat (Table Never (Further w 0)) ∷ less_nodes w.number (lowest flat a.number (n - 1)) (lowest flat b.number (n - 1))
      ++ node_of flat (Table (Less (Bit b (n - 1)) (Bit a (n - 1)) (Further w (n - 1))) (Further w n))
      ∷ node_of flat (Table (Buffer (Further w n)) (Bit w 0)) ∷ []
  signed_end zero some = absurd (omega arith)
  signed_end (suc m) some =
      let one : m ≡ suc m - 1 = omega arith in
      signed_whole m
      ∙ ap (λ (i : ℕ). node_of flat (Table Never (Further w 0)) ∷ less_nodes w.number (lowest flat a.number i) (lowest flat b.number i)
      ++ node_of flat (Table (Less (Bit b i) (Bit a i) (Further w i)) (Further w (suc m)))
      ∷ node_of flat (Table (Buffer (Further w (suc m))) (Bit w 0)) ∷ []) one
