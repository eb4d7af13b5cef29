-- Nets in which no two wires are equal: what is so of them, of their cells and of their constants.
use Rattle.std.proofs.Common.{◌≡◌, ℕ, ◌+◌, ◌<◌, ◌≤◌, ◌==◌, ◌⊎◌, inl, inr, Bool, List, [], ◌∷◌, length, Some, slice_get, refl, sym, ap, subst, ◌∙◌, arith, if◌then◌else◌}
use Rattle.std.specs.Prelude.{option_and_then}
use Rattle.std.specs.List.{AllByRecursion}
use Rattle.std.proofs.lemmas.Bool.{cases_lt}
use Rattle.std.proofs.lemmas.Option.{slice_get_within}
use Rattle.chw_base.specs.declared.index.WireId.{WireId}
use Rattle.chw_bits.specs.Bits.{number_of}
use Rattle.netlist.specs.Feeds.{target, target_at}
use Rattle.netlist.specs.NetValue.{HasCell}
use Rattle.netlist.specs.Operators.{operator}
use Rattle.netlist.specs.Sound.{Sound}
use Rattle.netlist.specs.Wires.{read_by}
use Rattle.netlist.specs.declared.net.Cell.{Cell}
use Rattle.netlist.specs.declared.net.Cell.TheVariants.{Const, Copy, Join, Cut, Mux}
use Rattle.netlist.specs.declared.net.Flat.{Flat}
use Rattle.netlist.proofs.Driven.{each_driven_once, target_in_order, target_is_wire}
use Rattle.netlist.proofs.Lengths.{fits_cell}
use Rattle.netlist.proofs.Places.{cell_there}
use Rattle.share_laws.specs.Left.{IsConstant, NothingToShare, ReachesOutput}
use Rattle.share_laws.specs.Left.ReachesOutput.{is_output, is_read}
use Rattle.share_laws.specs.Same.{AllKnown, AllSame, Copies, IsFolded, IsKnown, Same, bare}
use Rattle.share_laws.specs.Same.AllKnown.{known_and, known_none}
use Rattle.share_laws.specs.Same.Copies.{chosen, copy, either, single, whole}
use Rattle.share_laws.specs.Same.IsKnown.{constant, folded}
use Rattle.share_laws.specs.Same.Same.{equal_cells, itself}
use Rattle.share_laws.specs.Shares.{IsLive, IsProper, Serves}
use Rattle.share_laws.specs.Shares.IsLive.{for_cell, for_output}
use Rattle.share_laws.specs.Shares.IsProper.{of_cell, of_input}
use Rattle.share_laws.proofs.AsNet.{reads_exist}
use Rattle.share_laws.proofs.NoLoop.{all_themselves}
use Rattle.share_laws.proofs.OneShared.{one_driver}

-- no two wires are equal, a constant drives each wire of which bits are known, and no cell copies a wire
pub record Apart (flat : Flat) : Type 0 where
  pub wires : (v w : ℕ) → Same flat v w → v ≡ w
  pub known : (w : ℕ) (bits : List Bool) → IsKnown flat w bits → HasCell flat (Const (record { number = w }) bits)
  pub copies_none : (cell : Cell) (a : ℕ) → HasCell flat cell → Copies flat cell a → ⊥

-- each wire that a cell drives is needed
abbrev pub AllLive : Flat → Type 0
AllLive flat = (w : ℕ) → length flat.ports.inputs ≤ w → w < length flat.widths → IsLive flat w

-- bits are known of wires that constants drive
constants_known : (flat : Flat) (ws : List WireId) → AllByRecursion (IsConstant flat) ws → (values : List (List Bool)) × AllKnown flat ws values
constants_known flat [] all = ([], known_none)
constants_known flat (w ∷ ws) all =
    let rest = constants_known flat ws all.1 in
    (all.0.0 ∷ rest.0, known_and w ws all.0.0 rest.0 (constant w all.0.0 all.0.1) rest.1)

module _ (flat : Flat) (sound : Sound flat) where
  -- the wire that the cell at a place drives
  pub target_of : (place : ℕ) (cell : Cell) → slice_get flat.cells place ≡ Some cell → target cell ≡ Some (length flat.ports.inputs + place)
  target_of place cell e =
      let at = target_in_order (length flat.ports.inputs) flat.cells sound.in_order place (slice_get_within flat.cells place cell e) in
      sym (ap (λ o. option_and_then target o) e) ∙ at

  -- the cell that drives a wire
  pub driver_of : (w : ℕ) → length flat.ports.inputs ≤ w → w < length flat.widths → (cell : Cell) × HasCell flat cell × (target cell ≡ Some w)
  driver_of w l m =
      let driven = (each_driven_once flat sound).driven w l m in
      let there = cell_there flat.cells driven.0 w driven.1 in
      (there.0, (driven.0, there.1), there.2)

  module _ (apart : Apart flat) where
    all_proper : (w : ℕ) → w < length flat.widths → IsProper flat w
    all_proper w l = from (cases_lt w (length flat.ports.inputs))
      where
        from : (w < length flat.ports.inputs) ⊎ (length flat.ports.inputs ≤ w) → IsProper flat w
        from (inl m) = of_input m
        from (inr m) =
            let own = driver_of w m l in
            of_cell own.0 own.1 own.2 (λ a c. apart.copies_none own.0 a own.1 c)

    -- each wire stands for itself alone
    pub serves_itself : (w : ℕ) → w < length flat.widths → Serves flat w w
    serves_itself w l = record {
      stands = record { proper = all_proper w l; least = λ v proper same. (let is = apart.wires v w same in omega (arith, is)) };
      same = itself w l;
    }

    -- the cell of a wire of which bits are known is the constant
    pub known_cell : (w : ℕ) (bits : List Bool) (cell : Cell) → IsKnown flat w bits → HasCell flat cell → target cell ≡ Some w
        → cell ≡ Const (record { number = w }) bits
    known_cell w bits cell k has t =
        one_driver flat cell (Const (record { number = w }) bits) w sound has (apart.known w bits k) t refl

    fold_open : (cell : Cell) → HasCell flat cell → IsFolded cell → AllByRecursion (IsConstant flat) (read_by cell) → ⊥
    fold_open cell has f all =
        let w = length flat.ports.inputs + has.0 in
        let t = target_of has.0 cell has.1 in
        let values = constants_known flat (read_by cell) all in
        let is = known_cell w (operator cell values.0) cell (folded cell w values.0 has f t values.1) has t in
        subst (λ c. IsFolded c) is f

    equal_places : (p q : ℕ) (c d : Cell) → slice_get flat.cells p ≡ Some c → slice_get flat.cells q ≡ Some d → bare c ≡ bare d
        → read_by c ≡ read_by d → p ≡ q
    equal_places p q c d e f same reads =
        let themselves = all_themselves flat (read_by c) (reads_exist (length flat.ports.domains) flat.widths c (fits_cell flat c sound (p, e))) in
        let all : AllSame flat (read_by c) (read_by d) = subst (λ ws. AllSame flat (read_by c) ws) reads themselves in
        let is : length flat.ports.inputs + p ≡ length flat.ports.inputs + q =
        apart.wires (length flat.ports.inputs + p) (length flat.ports.inputs + q)
        (equal_cells c d (length flat.ports.inputs + p) (length flat.ports.inputs + q) (p, e) (q, f) (target_of p c e) (target_of q d f) same all) in
        omega (arith, is)

    -- what is needed reaches an output
    live_reaches : (w : ℕ) → IsLive flat w → ReachesOutput flat w
    live_reaches _ (for_output k o v e serves) =
        subst (λ n. ReachesOutput flat n) (sym (apart.wires v o.number serves.same)) (is_output k o e)
    live_reaches _ (for_cell w cell k r v live unknown has t e serves) =
        subst (λ n. ReachesOutput flat n) (sym (apart.wires v r.number serves.same)) (is_read w cell k r (live_reaches w live) has t e)

    no_even : (w c a : WireId) → HasCell flat (Mux w c a a) → ⊥
    no_even w c a has =
        let fits = fits_cell flat (Mux w c a a) sound has in
        let within : a.number < length flat.widths = slice_get_within flat.widths a.number fits.1.0 fits.1.2 in
        apart.copies_none (Mux w c a a) a.number has (either w c a a (itself a.number within))

    no_known : (w c a b : WireId) (on : List Bool) → HasCell flat (Mux w c a b) → IsKnown flat c.number on → ⊥
    no_known w c a b on has k =
        apart.copies_none (Mux w c a b) (if number_of on == 1 then a.number else b.number) has (chosen w c a b on k)

    needed_wire : AllLive flat → (cell : Cell) (w : ℕ) → HasCell flat cell → target cell ≡ Some w → ReachesOutput flat w
    needed_wire live cell w has t =
        let at : target_at flat.cells has.0 ≡ Some w = ap (λ o. option_and_then target o) has.1 ∙ t in
        live_reaches w (live w ((each_driven_once flat sound).free has.0 w at) (target_is_wire flat sound has.0 w at))

    -- of such a net nothing is left to share
    pub nothing_left : AllLive flat → NothingToShare flat
    nothing_left live = record {
      no_copy = λ w a has. apart.copies_none (Copy w a) a.number has (copy w a);
      no_whole_cut = λ w a high has e. apart.copies_none (Cut w a high 0) a.number has (whole w a high e);
      no_single_join = λ w a has. apart.copies_none (Join w (a ∷ [])) a.number has (single w a);
      no_even_choice = λ w c a has. no_even w c a has;
      no_known_choice = λ w c a b has k. no_known w c a b k.0 has (constant c k.0 k.1);
      no_known_fold = λ cell has f all. fold_open cell has f all;
      no_equal_cells = λ p q c d e f same reads. equal_places p q c d e f same reads;
      needed = λ cell w has t. needed_wire live cell w has t;
    }
