-- A net in which no two wires are equal, and each wire is needed, is its own shared net.
use Rattle.std.proofs.Common.{◌≡◌, ℕ, zero, suc, ◌+◌, ◌-◌, ◌<◌, ◌≤◌, ◌⊎◌, inl, inr, List, [], ◌∷◌, ◌++◌, length, map, take, get_or, Some, slice_get, refl, sym, ap, subst, ◌∙◌, arith}
use Rattle.std.specs.Prelude.{slice_index}
use Rattle.std.specs.List.{AllByRecursion}
use Rattle.std.proofs.lemmas.Bool.{cases_lt}
use Rattle.chw_base.specs.declared.index.WireId.{WireId}
use Rattle.netlist.specs.Feeds.{target}
use Rattle.netlist.specs.NetValue.{HasCell}
use Rattle.netlist.specs.Sound.{IsWire, Sound}
use Rattle.netlist.specs.Wires.{read_by}
use Rattle.netlist.specs.declared.net.Cell.{Cell}
use Rattle.netlist.specs.declared.net.Cell.TheVariants.{Const}
use Rattle.netlist.specs.declared.net.Flat.{Flat}
use Rattle.netlist.proofs.Lengths.{fits_cell}
use Rattle.share_laws.specs.Same.{IsKnown}
use Rattle.share_laws.specs.Same.IsKnown.{constant}
use Rattle.share_laws.specs.Shares.{AllBecome, AreSharedCells, Becomes, IsAmong, IsLive, IsNumbered, IsSharedCell, RisesFrom, Shares}
use Rattle.share_laws.specs.Shares.IsNumbered.{as_input, as_kept}
use Rattle.share_laws.specs.Shares.IsSharedCell.{as_constant, as_own}
use Rattle.share_laws.proofs.Alike.{same_wire}
use Rattle.share_laws.proofs.Apart.{AllLive, Apart, known_cell, serves_itself, target_of}
use Rattle.share_laws.proofs.AsNet.{outputs_exist, reads_exist}
use Rattle.share_laws.proofs.BackSame.{IsNoConstant}
use Rattle.share_laws.proofs.Renamed.{live_within}

-- so many numbers, from this one on
abbrev counted : ℕ → ℕ → List ℕ
counted first zero = []
counted first (suc n) = first ∷ counted (first + 1) n

counted_rises : (first n : ℕ) → RisesFrom first (counted first n)
counted_rises first zero = tt
counted_rises first (suc n) = (omega arith, counted_rises (first + 1) n)

counted_at : (first n k : ℕ) → k < n → slice_get (counted first n) k ≡ Some (first + k)
counted_at first zero k l = absurd (omega (arith, l))
counted_at first (suc n) zero l = let e : first ≡ first + zero = omega arith in ap Some e
counted_at first (suc n) (suc k) l =
    let e : first + 1 + k ≡ first + suc k = omega arith in
    counted_at (first + 1) n k (omega (arith, l)) ∙ ap Some e

counted_within : (first n k w : ℕ) → slice_get (counted first n) k ≡ Some w → (first ≤ w) × (w < first + n)
counted_within first zero k w e = absurd (cc)
counted_within first (suc n) zero w e = let is : first ≡ w = cc in (omega (arith, is), omega (arith, is))
counted_within first (suc n) (suc k) w e =
    let rest = counted_within (first + 1) n k w e in (omega (arith, rest.0), omega (arith, rest.1))

-- a list, number by number
map_counted : (f : ℕ → ℕ) (first : ℕ) (xs : List ℕ) → ((k : ℕ) → k < length xs → f (first + k) ≡ get_or xs k 0) → xs ≡ map f (counted first (length xs))
map_counted f first [] each = refl
map_counted f first (x ∷ xs) each =
    let e : first + zero ≡ first = omega arith in
    let here : x ≡ f first = sym (each zero (omega arith)) ∙ ap f e in
    let rest = map_counted f (first + 1) xs (λ k l. (let g : first + 1 + k ≡ first + suc k = omega arith in ap f g ∙ each (suc k) (omega (arith, l)))) in
    ap (λ y. y ∷ xs) here ∙ ap (λ ys. f first ∷ ys) rest

take_counted : (n : ℕ) (xs : List ℕ) (f : ℕ → ℕ) (first : ℕ) → n ≤ length xs → ((k : ℕ) → k < length xs → f (first + k) ≡ get_or xs k 0)
    → xs ≡ take n xs ++ map f (counted (first + n) (length xs - n))
take_counted zero xs f first l each =
    let one : first ≡ first + zero = omega arith in
    let other : length xs ≡ length xs - zero = omega arith in
    map_counted f first xs each ∙ ap (λ m. map f (counted m (length xs))) one ∙ ap (λ m. map f (counted (first + zero) m)) other
take_counted (suc n) [] f first l each = absurd (omega (arith, l))
take_counted (suc n) (x ∷ xs) f first l each =
    let one : first + 1 + n ≡ first + suc n = omega arith in
    let other : length xs - n ≡ length (x ∷ xs) - suc n = omega arith in
    let rest = take_counted n xs f (first + 1) (omega (arith, l))
    (λ k m. (let g : first + 1 + k ≡ first + suc k = omega arith in ap f g ∙ each (suc k) (omega (arith, m)))) in
    ap (λ ys. x ∷ ys)
    (rest ∙ ap (λ m. take n xs ++ map f (counted m (length xs - n))) one ∙ ap (λ m. take n xs ++ map f (counted (first + suc n) m)) other)

widths_counted : (inputs cells : ℕ) (widths : List ℕ) → inputs + cells ≡ length widths
    → widths ≡ take inputs widths ++ map (λ w. slice_index widths w) (counted inputs cells)
widths_counted inputs cells widths all =
    let first : 0 + inputs ≡ inputs = omega arith in
    let more : length widths - inputs ≡ cells = omega (arith, all) in
    take_counted inputs widths (λ w. slice_index widths w) 0 (omega (arith, all))
    (λ k l. (let g : 0 + k ≡ k = omega arith in ap (λ w. slice_index widths w) g))
    ∙ ap (λ m. take inputs widths ++ map (λ w. slice_index widths w) (counted m (length widths - inputs))) first
    ∙ ap (λ m. take inputs widths ++ map (λ w. slice_index widths w) (counted inputs m)) more

module _ (flat : Flat) (sound : Sound flat) (apart : Apart flat) (live : AllLive flat) where
  -- all wires that are no inputs
  abbrev all_kept : List ℕ
  all_kept = counted (length flat.ports.inputs) (length flat.cells)

  number_at : (w : ℕ) → length flat.ports.inputs ≤ w → w < length flat.widths → slice_get all_kept (w - length flat.ports.inputs) ≡ Some w
  number_at w l m =
      let within : w - length flat.ports.inputs < length flat.cells = omega (arith, l, m, sound.all) in
      let e : length flat.ports.inputs + (w - length flat.ports.inputs) ≡ w = omega (arith, l) in
      counted_at (length flat.ports.inputs) (length flat.cells) (w - length flat.ports.inputs) within ∙ ap Some e

  numbered_itself : (w : ℕ) → w < length flat.widths → IsNumbered (length flat.ports.inputs) all_kept w w
  numbered_itself w l = from (cases_lt w (length flat.ports.inputs))
    where
      from : (w < length flat.ports.inputs) ⊎ (length flat.ports.inputs ≤ w) → IsNumbered (length flat.ports.inputs) all_kept w w
      from (inl m) = as_input m refl
      from (inr m) = as_kept (w - length flat.ports.inputs) (number_at w m l) (omega (arith, m))

  becomes_itself : (w : ℕ) → w < length flat.widths → Becomes flat all_kept w w
  becomes_itself w l = record { by = w; serves = serves_itself flat sound apart w l; numbered = numbered_itself w l }

  become_themselves : (ws : List WireId) → AllByRecursion (IsWire flat.widths) ws → AllBecome flat all_kept ws ws
  become_themselves [] all = tt
  become_themselves (w ∷ ws) all = (becomes_itself w.number all.0, become_themselves ws all.1)

  kept_live : (w : ℕ) → IsAmong all_kept w → IsLive flat w × (length flat.ports.inputs ≤ w)
  kept_live w i =
      let at = counted_within (length flat.ports.inputs) (length flat.cells) i.0 w i.1 in
      (live w at.0 (omega (arith, at.1, sound.all)), at.0)

  live_kept : (w : ℕ) → IsLive flat w × (length flat.ports.inputs ≤ w) → IsAmong all_kept w
  live_kept w both = (w - length flat.ports.inputs, number_at w both.1 (live_within flat sound w both.0))

  -- a cell that is no constant is its own
  own_shared : (cell : Cell) (w : ℕ) → IsNoConstant cell → HasCell flat cell → target cell ≡ Some w → IsSharedCell flat all_kept w w cell
  own_shared cell w other has t =
      as_own cell (λ bits k. subst (λ c. IsNoConstant c) (known_cell flat sound apart w bits cell k has t) other) has t refl t
      (become_themselves (read_by cell) (reads_exist (length flat.ports.domains) flat.widths cell (fits_cell flat cell sound has)))

  cell_shared : (cell : Cell) (w : ℕ) → HasCell flat cell → target cell ≡ Some w → IsSharedCell flat all_kept w w cell
  cell_shared (Const x bits) w has t =
      let is : x ≡ record { number = w } = same_wire x (record { number = w }) t in
      let number : x.number ≡ w = cc in
      as_constant bits (subst (λ n. IsKnown flat n bits) number (constant x bits has)) (ap (λ y. Const y bits) is)
  cell_shared cell w has t = own_shared cell w tt has t

  cells_shared : (n : ℕ) (cells : List Cell) → ((k : ℕ) (cell : Cell) → slice_get cells k ≡ Some cell → IsSharedCell flat all_kept (n + k) (n + k) cell)
      → AreSharedCells flat all_kept n (counted n (length cells)) cells
  cells_shared n [] each = tt
  cells_shared n (cell ∷ cells) each =
      let e : n + zero ≡ n = omega arith in (
        subst (λ m. IsSharedCell flat all_kept m m cell) e (each zero cell refl),
        cells_shared (n + 1) cells
            (λ k c at. (let g : n + suc k ≡ n + 1 + k = omega arith in subst (λ m. IsSharedCell flat all_kept m m c) g (each (suc k) c at))),
      )

  pub own_shares : Shares flat flat
  own_shares = record {
    ports = refl;
    kept = all_kept;
    rises = counted_rises (length flat.ports.inputs) (length flat.cells);
    live = λ w. (λ i. kept_live w i, λ both. live_kept w both);
    widths = widths_counted (length flat.ports.inputs) (length flat.cells) flat.widths sound.all;
    outputs = become_themselves flat.outputs (outputs_exist flat sound);
    cells = cells_shared (length flat.ports.inputs) flat.cells
        (λ k cell at. cell_shared cell (length flat.ports.inputs + k) (k, at) (target_of flat sound k cell at));
  }
