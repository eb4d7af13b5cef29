-- Where nothing of a net is left to share, no two wires are equal, and each wire is needed.
use Rattle.std.proofs.Common.{◌≡◌, ℕ, Bool, List, ◌∷◌, length, Some, None, slice_get, refl, sym, ap, subst, ◌∙◌}
use Rattle.std.specs.Prelude.{option_and_then}
use Rattle.std.specs.List.{AllByRecursion}
use Rattle.std.proofs.lemmas.Option.{same_Some}
use Rattle.chw_base.specs.declared.index.WireId.{WireId}
use Rattle.netlist.specs.Feeds.{target, target_at}
use Rattle.netlist.specs.NetValue.{HasCell}
use Rattle.netlist.specs.Sound.{IsWire, Sound}
use Rattle.netlist.specs.Wires.{read_by}
use Rattle.netlist.specs.declared.net.Cell.{Cell}
use Rattle.netlist.specs.declared.net.Cell.TheVariants.{Const, Mux}
use Rattle.netlist.specs.declared.net.Flat.{Flat}
use Rattle.netlist.proofs.Lengths.{fits_cell}
use Rattle.netlist.proofs.Places.{all_at}
use Rattle.share_laws.specs.Left.{IsConstant, NothingToShare, ReachesOutput}
use Rattle.share_laws.specs.Left.ReachesOutput.{is_output, is_read}
use Rattle.share_laws.specs.Same.{AllKnown, AllSame, Copies, IsKnown, Same, bare}
use Rattle.share_laws.specs.Same.AllKnown.{known_and, known_none}
use Rattle.share_laws.specs.Same.AllSame.{same_and, same_none}
use Rattle.share_laws.specs.Same.Copies.{chosen, copy, either, single, whole}
use Rattle.share_laws.specs.Same.IsKnown.{carried, constant, folded}
use Rattle.share_laws.specs.Same.Same.{chained, copied, equal_bits, equal_cells, itself, turned}
use Rattle.share_laws.specs.Shares.{IsLive}
use Rattle.share_laws.specs.Shares.IsLive.{for_cell, for_output}
use Rattle.share_laws.proofs.Alike.{same_wire}
use Rattle.share_laws.proofs.Apart.{AllLive, Apart, driver_of, known_cell, serves_itself}
use Rattle.share_laws.proofs.AsNet.{outputs_exist, reads_exist}

module _ (flat : Flat) (nothing : NothingToShare flat) where
  -- cells of one kind that read the same drive one wire
  one_target : (c d : Cell) (v w : ℕ) → HasCell flat c → HasCell flat d → target c ≡ Some v → target d ≡ Some w → bare c ≡ bare d
      → read_by c ≡ read_by d → v ≡ w
  one_target c d v w has there t u same reads =
      let place : has.0 ≡ there.0 = nothing.no_equal_cells has.0 there.0 c d has.1 there.1 same reads in
      let one : target_at flat.cells has.0 ≡ Some v = ap (λ o. option_and_then target o) has.1 ∙ t in
      let other : target_at flat.cells there.0 ≡ Some w = ap (λ o. option_and_then target o) there.1 ∙ u in
      same_Some v w (sym one ∙ ap (λ p. target_at flat.cells p) place ∙ other)

  mutual
    same_is_one : (v w : ℕ) → Same flat v w → v ≡ w
    same_is_one _ _ (itself w l) = refl
    same_is_one _ _ (turned v w s) = sym (same_is_one v w s)
    same_is_one _ _ (chained u v w s t) = same_is_one u v s ∙ same_is_one v w t
    same_is_one _ _ (copied cell w a has t c) = absurd (no_copying cell a c has)
    same_is_one _ _ (equal_cells c d v w has there t u e all) = one_target c d v w has there t u e (all_one (read_by c) (read_by d) all)
    same_is_one _ _ (equal_bits v w bits k l) =
        one_target (Const (record { number = v }) bits) (Const (record { number = w }) bits) v w (known_constant v bits k) (known_constant w bits l)
        refl refl refl refl

    all_one : (vs ws : List WireId) → AllSame flat vs ws → vs ≡ ws
    all_one _ _ same_none = refl
    all_one _ _ (same_and v w vs ws s all) =
        ap (λ x. x ∷ vs) (same_wire v w (ap Some (same_is_one v.number w.number s))) ∙ ap (λ xs. w ∷ xs) (all_one vs ws all)

    no_copying : (cell : Cell) (a : ℕ) → Copies flat cell a → HasCell flat cell → ⊥
    no_copying _ _ (copy w a) has = nothing.no_copy w a has
    no_copying _ _ (whole w a high e) has = nothing.no_whole_cut w a high has e
    no_copying _ _ (single w a) has = nothing.no_single_join w a has
    no_copying _ _ (either w c a b s) has =
        let is : a ≡ b = same_wire a b (ap Some (same_is_one a.number b.number s)) in
        nothing.no_even_choice w c a (subst (λ x. HasCell flat (Mux w c a x)) (sym is) has)
    no_copying _ _ (chosen w c a b on k) has = nothing.no_known_choice w c a b has (on, known_constant c.number on k)

    known_constant : (w : ℕ) (bits : List Bool) → IsKnown flat w bits → HasCell flat (Const (record { number = w }) bits)
    known_constant _ _ (constant w bits has) = has
    known_constant _ _ (folded cell w values has f t all) = absurd (nothing.no_known_fold cell has f (all_constant (read_by cell) values all))
    known_constant _ _ (carried v w bits s k) =
        subst (λ n. HasCell flat (Const (record { number = n }) bits)) (same_is_one v w s) (known_constant v bits k)

    all_constant : (ws : List WireId) (values : List (List Bool)) → AllKnown flat ws values → AllByRecursion (IsConstant flat) ws
    all_constant _ _ known_none = tt
    all_constant _ _ (known_and w ws bits values k all) = ((bits, known_constant w.number bits k), all_constant ws values all)

  pub left_apart : Apart flat
  left_apart = record {
    wires = λ v w s. same_is_one v w s;
    known = λ w bits k. known_constant w bits k;
    copies_none = λ cell a has c. no_copying cell a c has;
  }

module _ (flat : Flat) (sound : Sound flat) (nothing : NothingToShare flat) where
  -- no bits are known of a wire whose cell reads something
  reader_open : (w : ℕ) (cell : Cell) (k : ℕ) (r : WireId) (bits : List Bool) → HasCell flat cell → target cell ≡ Some w
      → slice_get (read_by cell) k ≡ Some r → IsKnown flat w bits → ⊥
  reader_open w cell k r bits has t e known =
      let is = known_cell flat sound (left_apart flat nothing) w bits cell known has t in
      let none : None ≡ Some r = sym (ap (λ c. slice_get (read_by c) k) is) ∙ e in
      absurd (cc)

  -- what reaches an output is needed
  reaching_live : (w : ℕ) → ReachesOutput flat w → IsLive flat w
  reaching_live _ (is_output k o e) =
      for_output k o o.number e
      (serves_itself flat sound (left_apart flat nothing) o.number (all_at (IsWire flat.widths) flat.outputs k o (outputs_exist flat sound) e))
  reaching_live _ (is_read w cell k r rest has t e) =
      let reads = reads_exist (length flat.ports.domains) flat.widths cell (fits_cell flat cell sound has) in
      for_cell w cell k r r.number (reaching_live w rest) (λ bits known. reader_open w cell k r bits has t e known) has t e
      (serves_itself flat sound (left_apart flat nothing) r.number (all_at (IsWire flat.widths) (read_by cell) k r reads e))

  pub left_live : AllLive flat
  left_live w l m =
      let own = driver_of flat sound w l m in
      reaching_live w (nothing.needed own.0 w own.1 own.2)
