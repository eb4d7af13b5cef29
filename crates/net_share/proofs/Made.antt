-- The cells that are made are those of the shared net.
use Rattle.std.proofs.Common.{◌≡◌, ℕ, zero, suc, ◌+◌, ◌⊎◌, inl, inr, Bool, true, false, List, [], ◌∷◌, ◌++◌, length, refl, sym, ap, subst, ◌∙◌, arith}
use Rattle.std.specs.Prelude.{slice_index_or}
use Rattle.std.proofs.lemmas.Bool.{cases_Bool}
use Rattle.std.proofs.lemmas.Option.{get_or_from_slice_get}
use Rattle.netlist.specs.Feeds.{target}
use Rattle.netlist.specs.Sound.{Sound}
use Rattle.netlist.specs.Wires.{read_by}
use Rattle.netlist.specs.declared.net.Cell.{Cell}
use Rattle.netlist.specs.declared.net.Cell.TheVariants.{Const}
use Rattle.netlist.specs.declared.net.Flat.{Flat}
use Rattle.netlist.proofs.Lengths.{fits_cell}
use Rattle.share_laws.specs.Same.{bare}
use Rattle.share_laws.specs.Shares.{AllBecome, AreSharedCells, IsAmong, IsLive, IsSharedCell}
use Rattle.share_laws.specs.Shares.IsSharedCell.{as_constant, as_own}
use Rattle.wire_classes.specs.Classes.{AreClasses}
use Rattle.wire_classes.specs.declared.classes.Classes.{Classes}
use Rattle.net_share.specs.Copying.{Drives, has_bits}
use Rattle.net_share.specs.Making.{AreMade, IsMade, IsPlan}
use Rattle.net_share.specs.Renaming.{renamed, wire_of}
use Rattle.net_share.proofs.Copies.{known_of, open_of}
use Rattle.net_share.proofs.Renamed.{renamed_bare, renamed_reads, renamed_target}

-- the numbers of cells that are made one after the other
pub made_more : (flat : Flat) (c : Classes) (names : List ℕ) (n m : ℕ) (wires : List ℕ) (cells : List Cell) (w : ℕ) (cell : Cell)
    → AreMade flat c names n wires cells → m ≡ n + length wires → IsMade flat c names w m cell
    → AreMade flat c names n (wires ++ w ∷ []) (cells ++ cell ∷ [])
made_more flat c names n m [] [] w cell all e made =
    let is : m ≡ n = omega (arith, e) in (subst (λ k. IsMade flat c names w k cell) is made, tt)
made_more flat c names n m [] (x ∷ cells) w cell all e made = absurd all
made_more flat c names n m (v ∷ wires) [] w cell all e made = absurd all
made_more flat c names n m (v ∷ wires) (x ∷ cells) w cell all e made =
    (all.0, made_more flat c names (n + 1) m wires cells w cell all.1 (omega (arith, e)) made)

-- known bits make a constant
pub made_constant : (flat : Flat) (c : Classes) (names : List ℕ) (w n : ℕ) (bits : List Bool) (cell : Cell) → has_bits c w ≡ true
    → bits ≡ slice_index_or c.bits w [] → cell ≡ Const (wire_of n) bits → IsMade flat c names w n cell
made_constant flat c names w n bits cell known e same = record {
  known = λ has. same ∙ ap (λ x. Const (wire_of n) x) e;
  own = λ none. absurd (let no : true ≡ false = sym known ∙ none in cc);
}

-- else the own cell is renamed
pub made_own : (flat : Flat) (c : Classes) (names : List ℕ) (w n : ℕ) (own cell : Cell) → has_bits c w ≡ false → Drives flat w own
    → cell ≡ renamed names n own → IsMade flat c names w n cell
made_own flat c names w n own cell unknown d same = record {
  known = λ has. absurd (let no : true ≡ false = sym has ∙ unknown in cc);
  own = λ none. record { cell = own; drives = d; same = same };
}

module _ (flat : Flat) (sound : Sound flat) (c : Classes) (are : AreClasses flat c) (kept names : List ℕ) (plan : IsPlan flat kept names) where
  by_known : (w n : ℕ) (cell : Cell) → IsLive flat w → IsMade flat c names w n cell → (has_bits c w ≡ true) ⊎ (has_bits c w ≡ false)
      → IsSharedCell flat kept w n cell
  by_known w n cell live made (inl known) =
      let bits = known_of flat c are w known in
      let is : slice_index_or c.bits w [] ≡ bits.0 = get_or_from_slice_get c.bits w bits.0 [] (are.known_bits w bits.0 bits.1) in
      as_constant bits.0 bits.1 (made.known known ∙ ap (λ x. Const (wire_of n) x) is)
  by_known w n cell live made (inr unknown) =
      let r = made.own unknown in
      let fits = fits_cell flat r.cell sound r.drives.has in
      let open_ = open_of flat c are w unknown in
      let domains = length flat.ports.domains in
      let become : AllBecome flat kept (read_by r.cell) (read_by cell) =
      subst (λ ws. AllBecome flat kept (read_by r.cell) ws) (sym (ap read_by r.same ∙ renamed_reads names n r.cell)) (plan.reads w r.cell live open_ r.drives) in
      as_own r.cell open_ r.drives.has r.drives.wire (renamed_bare names n domains flat.widths r.cell fits ∙ ap bare (sym r.same))
      (ap target r.same ∙ renamed_target names n domains flat.widths r.cell fits) become

  -- cells that are made of needed wires are shared cells
  pub made_shared : (n : ℕ) (wires : List ℕ) (cells : List Cell) → ((w : ℕ) → IsAmong wires w → IsLive flat w) → AreMade flat c names n wires cells
      → AreSharedCells flat kept n wires cells
  made_shared n [] [] live all = tt
  made_shared n [] (x ∷ cells) live all = absurd all
  made_shared n (w ∷ wires) [] live all = absurd all
  made_shared n (w ∷ wires) (cell ∷ cells) live all = (
    by_known w n cell (live w (zero, refl)) all.0 (cases_Bool (has_bits c w)),
    made_shared (n + 1) wires cells (λ v i. live v (suc i.0, i.1)) all.1,
  )
