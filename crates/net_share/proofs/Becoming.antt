-- The plan of a shared net: the needed wires, and what wires become.
use Rattle.std.proofs.Common.{◌≡◌, ℕ, suc, ◌+◌, ◌<◌, ◌≤◌, ◌⊎◌, inl, inr, Bool, List, [], ◌∷◌, length, map, Some, slice_get, refl, sym, ap, subst, ◌∙◌, arith}
use Rattle.std.specs.Prelude.{slice_index}
use Rattle.std.specs.List.{AllByRecursion}
use Rattle.std.proofs.lemmas.Bool.{cases_lt}
use Rattle.std.proofs.lemmas.List.{get_or-map, length-map}
use Rattle.std.proofs.lemmas.Option.{get_or_from_slice_get, slice_get_within}
use Rattle.chw_base.specs.declared.index.WireId.{WireId}
use Rattle.netlist.specs.Sound.{IsWire, Sound}
use Rattle.netlist.specs.Wires.{read_by}
use Rattle.netlist.specs.declared.net.Flat.{Flat}
use Rattle.netlist.proofs.Places.{all_at}
use Rattle.share_laws.specs.Shares.{AllBecome, Becomes, IsAmong, IsLive, IsNumbered}
use Rattle.share_laws.specs.Shares.IsLive.{for_cell, for_output}
use Rattle.share_laws.specs.Shares.IsNumbered.{as_input, as_kept}
use Rattle.net_share.specs.Making.{IsPlan}
use Rattle.net_share.specs.Marking.{MarkLive}
use Rattle.net_share.specs.Numbering.{AreKept, AreNumbered}
use Rattle.net_share.specs.Renaming.{new_wires}
use Rattle.net_share.specs.Standing.{AreServers}
use Rattle.net_share.proofs.Looking.{live_within, outputs_exist, reads_exist, server_of}
use Rattle.net_share.proofs.Proper.{proper_within}
use Rattle.net_share.proofs.Rising.{rises_at}

module _ (flat : Flat) (sound : Sound flat) (servers : List ℕ) (marks : List Bool) (kept numbers names : List ℕ)
    (serve : AreServers flat servers) (live : MarkLive flat marks) (are : AreKept (length flat.ports.inputs) marks (length flat.widths) kept)
    (numbered : AreNumbered (length flat.ports.inputs) (length flat.widths) kept numbers (length kept))
    (named : names ≡ map (λ v. slice_index numbers v) servers) where
  -- a needed wire has a new number
  number_of_live : (v : ℕ) → IsLive flat v → v < length flat.widths → IsNumbered (length flat.ports.inputs) kept v (slice_index numbers v)
  number_of_live v l within = from (cases_lt v (length flat.ports.inputs))
    where
      from : (v < length flat.ports.inputs) ⊎ (length flat.ports.inputs ≤ v) → IsNumbered (length flat.ports.inputs) kept v (slice_index numbers v)
      from (inl input) = as_input input (get_or_from_slice_get numbers v v 0 (numbered.own v input))
      from (inr after) =
          let i = are.all v (live.all v l) after within in
          let place : i.0 < length kept = slice_get_within kept i.0 v i.1 in
          as_kept i.0 i.1 (get_or_from_slice_get numbers v (length flat.ports.inputs + i.0) 0 (numbered.next i.0 v place i.1))

  -- a wire that a needed one serves becomes the wire of its number
  becomes_of : (w : ℕ) → w < length flat.widths → IsLive flat (slice_index servers w) → Becomes flat kept w (slice_index names w)
  becomes_of w l needed =
      let serves = server_of flat servers sound serve w l in
      let within = proper_within flat sound (slice_index servers w) serves.stands.proper in
      let is : slice_index names w ≡ slice_index numbers (slice_index servers w) =
      ap (λ ns. slice_index ns w) named ∙ get_or-map (λ v. slice_index numbers v) servers w 0 0 (omega (arith, l, serve.count)) in
      record {
        by = slice_index servers w;
        serves = serves;
        numbered = subst (λ n. IsNumbered (length flat.ports.inputs) kept (slice_index servers w) n) (sym is) (number_of_live (slice_index servers w) needed within);
      }

  all_become : (wires : List WireId) → AllByRecursion (IsWire flat.widths) wires
      → ((k : ℕ) (r : WireId) → slice_get wires k ≡ Some r → IsLive flat (slice_index servers r.number)) → AllBecome flat kept wires (new_wires names wires)
  all_become [] exist needed = tt
  all_become (w ∷ wires) exist needed =
      (becomes_of w.number exist.0 (needed 0 w refl), all_become wires exist.1 (λ k r at. needed (suc k) r at))

  pub a_plan : IsPlan flat kept names
  a_plan = record {
    rises = are.rises;
    live = λ w. (
      λ i. (live.live w (are.marked w i), rises_at (length flat.ports.inputs) kept i.0 w are.rises i.1),
      λ h. are.all w (live.all w h.0) h.1 (live_within flat servers sound serve w h.0),
    );
    count = ap length named ∙ length-map servers (λ v. slice_index numbers v) ∙ serve.count;
    outputs = all_become flat.outputs (outputs_exist flat sound) (λ k o at.
        let there = all_at (IsWire flat.widths) flat.outputs k o (outputs_exist flat sound) at in
        for_output k o (slice_index servers o.number) at (server_of flat servers sound serve o.number there));
    reads = λ w cell l unknown d. all_become (read_by cell) (reads_exist flat w cell sound d) (λ k r at.
        let there = all_at (IsWire flat.widths) (read_by cell) k r (reads_exist flat w cell sound d) at in
        for_cell w cell k r (slice_index servers r.number) l unknown d.has d.wire at (server_of flat servers sound serve r.number there));
  }

-- the kept wires that were found in marks
module _ (flat : Flat) (sound : Sound flat) (marks read : List Bool) (inputs : ℕ) (kept : List ℕ) (same_marks : read ≡ marks) (live : MarkLive flat marks)
    (same_inputs : inputs ≡ length flat.ports.inputs) (found : AreKept inputs read (length read) kept) where
  pub kept_there : AreKept (length flat.ports.inputs) marks (length flat.widths) kept
  kept_there =
      subst (λ (i : ℕ). AreKept i marks (length flat.widths) kept) same_inputs
      (subst (λ (n : ℕ). AreKept inputs marks n kept) live.count (subst (λ (ms : List Bool). AreKept inputs ms (length ms) kept) same_marks found))

  -- they are wires
  pub kept_below : (count : ℕ) (list : List ℕ) → count ≡ length flat.widths → list ≡ kept → (w : ℕ) → IsAmong list w → w < count
  kept_below count list e f w i =
      let below = kept_there.below w (i.0, ap (λ (ws : List ℕ). slice_get ws i.0) (sym f) ∙ i.1) in omega (arith, e, below)

  pub plan_of : (servers : List ℕ) (count : ℕ) (list numbers told names : List ℕ) → AreServers flat servers → count ≡ length flat.widths → list ≡ kept
      → AreNumbered inputs count list numbers (length list) → told ≡ numbers → names ≡ map (λ v. slice_index told v) servers → IsPlan flat kept names
  plan_of servers count list numbers told names serve e f numbered g named =
      let by_list : AreNumbered inputs count kept numbers (length kept) = subst (λ (ws : List ℕ). AreNumbered inputs count ws numbers (length ws)) f numbered in
      let by_count : AreNumbered inputs (length flat.widths) kept numbers (length kept) = subst (λ (n : ℕ). AreNumbered inputs n kept numbers (length kept)) e by_list in
      let by_inputs : AreNumbered (length flat.ports.inputs) (length flat.widths) kept numbers (length kept) =
      subst (λ (i : ℕ). AreNumbered i (length flat.widths) kept numbers (length kept)) same_inputs by_count in
      a_plan flat sound servers marks kept numbers names serve live kept_there by_inputs (named ∙ ap (λ (ns : List ℕ). map (λ v. slice_index ns v) servers) g)
