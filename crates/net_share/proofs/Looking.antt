-- The search for needed wires: what it finds is needed, and at its end all that is needed is found.
use Rattle.std.proofs.Common.{◌≡◌, ℕ, ◌+◌, ◌<◌, ◌≤◌, ◌⊎◌, inl, inr, Bool, true, List, [], ◌∷◌, length, Option, Some, None, slice_get, refl, sym, ap, subst, ◌∙◌, arith}
use Rattle.std.specs.Prelude.{option_map, slice_index}
use Rattle.std.specs.List.{AllByRecursion}
use Rattle.std.proofs.lemmas.Bool.{cases_lt}
use Rattle.std.proofs.lemmas.Option.{same_Some, slice_get-get_or, slice_get-map, slice_get_within}
use Rattle.chw_base.specs.declared.index.WireId.{WireId}
use Rattle.chw_clock.specs.declared.event.Port.{Port}
use Rattle.net_rules.proofs.EachItem.{all_of_each}
use Rattle.netlist.specs.Sound.{IsWire, Sound}
use Rattle.netlist.specs.Wires.{read_by}
use Rattle.netlist.specs.declared.net.Cell.{Cell}
use Rattle.netlist.specs.declared.net.Flat.{Flat}
use Rattle.netlist.proofs.Lengths.{fits_cell}
use Rattle.netlist.proofs.Places.{all_at}
use Rattle.net_sim.proofs.Cells.{drives_no_input, reads_wires, same_cell}
use Rattle.share_laws.specs.Same.{IsOpen}
use Rattle.share_laws.specs.Shares.{IsAmong, IsLive, Serves}
use Rattle.share_laws.specs.Shares.IsLive.{for_cell, for_output}
use Rattle.wire_classes.specs.Classes.{AreClasses}
use Rattle.wire_classes.specs.declared.classes.Classes.{Classes}
use Rattle.net_share.specs.Copying.{Drives, has_bits}
use Rattle.net_share.specs.Marking.{AreMarked, IsListed, LookedAt, LooksAt, MarkLive, Marks, NeedsFound, served}
use Rattle.net_share.specs.Standing.{AreServers}
use Rattle.net_share.proofs.Copies.{known_of}
use Rattle.net_share.proofs.Marks.{among_behind, few_found, served_at, served_back}
use Rattle.net_share.proofs.Proper.{proper_within}
use Rattle.net_share.proofs.Servers.{one_serves}

-- what exists is listed
pub listed : (servers widths : List ℕ) (wires : List WireId) → length servers ≡ length widths → AllByRecursion (IsWire widths) wires
    → AllByRecursion (IsListed servers) wires
listed servers widths [] e all = tt
listed servers widths (w ∷ wires) e all = (omega (arith, e, all.0), listed servers widths wires e all.1)

-- the outputs of a sound net exist
outputs_at : (flat : Flat) → Sound flat → (k : ℕ) (o : WireId) → slice_get flat.outputs k ≡ Some o → IsWire flat.widths o
outputs_at flat sound k o e = from (slice_get flat.ports.outputs k) both
  where
    both : Some (slice_get flat.widths o.number) ≡ option_map (λ (port : Port). Some port.width) (slice_get flat.ports.outputs k)
    both =
        sym (slice_get-map (λ (w : WireId). slice_get flat.widths w.number) flat.outputs k ∙ ap (λ x. option_map (λ (w : WireId). slice_get flat.widths w.number) x) e)
        ∙ ap (λ os. slice_get os k) sound.outputs ∙ slice_get-map (λ (port : Port). Some port.width) flat.ports.outputs k

    from : (found : Option Port) → Some (slice_get flat.widths o.number) ≡ option_map (λ (port : Port). Some port.width) found → IsWire flat.widths o
    from None e = absurd (let none : Some (slice_get flat.widths o.number) ≡ None = e in cc)
    from (Some port) e =
        let wide : slice_get flat.widths o.number ≡ Some port.width = cc in slice_get_within flat.widths o.number port.width wide

pub outputs_exist : (flat : Flat) → Sound flat → AllByRecursion (IsWire flat.widths) flat.outputs
outputs_exist flat sound = all_of_each (IsWire flat.widths) flat.outputs (λ k o e. outputs_at flat sound k o e)

-- what a cell of a sound net reads exists
pub reads_exist : (flat : Flat) (w : ℕ) (cell : Cell) → Sound flat → Drives flat w cell → AllByRecursion (IsWire flat.widths) (read_by cell)
reads_exist flat w cell sound d = reads_wires (length flat.ports.domains) flat.widths cell (fits_cell flat cell sound d.has)

module _ (flat : Flat) (servers : List ℕ) (sound : Sound flat) (are : AreServers flat servers) where
  -- what serves a wire is in the list
  pub server_of : (w : ℕ) → w < length flat.widths → Serves flat (slice_index servers w) w
  server_of w l = are.serve w (slice_index servers w) (slice_get-get_or servers w 0 (omega (arith, l, are.count)))

  pub server_within : (w v : ℕ) → slice_get servers w ≡ Some v → v < length flat.widths
  server_within w v e = proper_within flat sound v (are.serve w v e).stands.proper

  pub live_within : (w : ℕ) → IsLive flat w → w < length flat.widths
  live_within _ (for_output k o v e serves) = proper_within flat sound v serves.stands.proper
  live_within _ (for_cell w cell k r v l unknown has t e serves) = proper_within flat sound v serves.stands.proper

  one_server : (w v : ℕ) → w < length flat.widths → Serves flat v w → slice_index servers w ≡ v
  one_server w v l s = one_serves flat (slice_index servers w) v w (server_of w l) s

  -- an input needs nothing
  pub looks_at_input : (w : ℕ) (marks : List Bool) (found : List ℕ) → AreMarked marks found → w < length flat.ports.inputs
      → LooksAt flat servers w marks found marks found
  looks_at_input w marks found m l = record {
    marked = m;
    count = refl;
    behind = λ k v at. at;
    needs = λ unknown cell d k r at. absurd (drives_no_input flat w cell sound d.has d.wire l);
    only = λ v i. inl i;
  }

  -- nor does a wire of which bits are known
  pub looks_at_known : (c : Classes) (w : ℕ) (marks : List Bool) (found : List ℕ) → AreClasses flat c → AreMarked marks found → has_bits c w ≡ true
      → LooksAt flat servers w marks found marks found
  looks_at_known c w marks found classes m e = record {
    marked = m;
    count = refl;
    behind = λ k v at. at;
    needs = λ unknown cell d k r at. (let known = known_of flat c classes w e in absurd (unknown known.0 known.1));
    only = λ v i. inl i;
  }

  -- another one needs what serves the wires that its cell reads
  pub looks_at_cell : (w : ℕ) (cell : Cell) (marks : List Bool) (found : List ℕ) (marks' : List Bool) (found' : List ℕ) → IsOpen flat w → Drives flat w cell
      → Marks marks found marks' found' (served servers (read_by cell)) → LooksAt flat servers w marks found marks' found'
  looks_at_cell w cell marks found marks' found' unknown d m = record {
    marked = m.marked;
    count = m.count;
    behind = m.behind;
    needs = λ open_ other e k r at. m.all (slice_index servers r.number) (served_at servers (read_by cell) k r (there other e k r at));
    only = λ v i. needed v (m.only v i);
  }
    where
      there : (other : Cell) → Drives flat w other → (k : ℕ) (r : WireId) → slice_get (read_by other) k ≡ Some r → slice_get (read_by cell) k ≡ Some r
      there other e k r at =
          let is : cell ≡ other = same_cell flat w cell other sound d.has d.wire e.has e.wire in
          ap (λ x. slice_get (read_by x) k) is ∙ at

      needed : (v : ℕ) → IsAmong found v ⊎ IsAmong (served servers (read_by cell)) v → IsAmong found v ⊎ (IsLive flat w → IsLive flat v)
      needed v (inl i) = inl i
      needed v (inr i) = inr (λ live.
          let back = served_back servers (read_by cell) v i in
          let within : back.1.number < length flat.widths =
          all_at (IsWire flat.widths) (read_by cell) back.0 back.1 (reads_exist flat w cell sound d) back.2 in
          let serves : Serves flat v back.1.number = subst (λ x. Serves flat x back.1.number) back.3 (server_of back.1.number within) in
          for_cell w cell back.0 back.1 v live unknown d.has d.wire back.2 serves)

  -- the search begins with what serves the outputs
  pub looked_first : (empty : List Bool) (none : List ℕ) (marks : List Bool) (found : List ℕ) → length empty ≡ length flat.widths → none ≡ []
      → Marks empty none marks found (served servers flat.outputs) → LookedAt flat servers marks found 0
  looked_first empty none marks found long e m = record {
    marked = m.marked;
    count = m.count ∙ long;
    live = λ w i. needed w (m.only w i);
    outputs = λ k o at. m.all (slice_index servers o.number) (served_at servers flat.outputs k o at);
    needs = λ k w l at. absurd (omega (arith, l));
  }
    where
      needed : (w : ℕ) → IsAmong none w ⊎ IsAmong (served servers flat.outputs) w → IsLive flat w
      needed w (inl i) = absurd (let no : None ≡ Some w = ap (λ ws. slice_get ws i.0) (sym e) ∙ i.1 in cc)
      needed w (inr i) =
          let back = served_back servers flat.outputs w i in
          let within = outputs_at flat sound back.0 back.1 back.2 in
          for_output back.0 back.1 w back.2 (subst (λ x. Serves flat x back.1.number) back.3 (server_of back.1.number within))

  needs_behind : (found found' : List ℕ) (w : ℕ) → ((k v : ℕ) → slice_get found k ≡ Some v → slice_get found' k ≡ Some v)
      → NeedsFound flat servers found w → NeedsFound flat servers found' w
  needs_behind found found' w behind needs unknown cell d k r at =
      among_behind found found' (slice_index servers r.number) behind (needs unknown cell d k r at)

  -- it goes on with the next wire that was found
  pub looked_next : (w next more : ℕ) (marks : List Bool) (found : List ℕ) (marks' : List Bool) (found' : List ℕ) → slice_get found next ≡ Some w
      → more ≡ next + 1 → LookedAt flat servers marks found next → LooksAt flat servers w marks found marks' found'
      → LookedAt flat servers marks' found' more
  looked_next w next more marks found marks' found' here e l a = record {
    marked = a.marked;
    count = a.count ∙ l.count;
    live = λ v i. needed v (a.only v i);
    outputs = λ k o at. among_behind found found' (slice_index servers o.number) a.behind (l.outputs k o at);
    needs = λ k v less at. done k v less at (cases_lt k next);
  }
    where
      needed : (v : ℕ) → IsAmong found v ⊎ (IsLive flat w → IsLive flat v) → IsLive flat v
      needed v (inl i) = l.live v i
      needed v (inr to) = to (l.live w (next, here))

      done : (k v : ℕ) → k < more → slice_get found' k ≡ Some v → (k < next) ⊎ (next ≤ k) → NeedsFound flat servers found' v
      done k v less at (inl before) =
          let old : slice_get found k ≡ Some (slice_index found k) =
          slice_get-get_or found k 0 (let there = slice_get_within found next w here in omega (arith, there, before)) in
          let is : slice_index found k ≡ v = same_Some (slice_index found k) v (sym (a.behind k (slice_index found k) old) ∙ at) in
          needs_behind found found' v a.behind (l.needs k v before (old ∙ ap Some is))
      done k v less at (inr after) =
          let place : k ≡ next = omega (arith, less, e, after) in
          let is : w ≡ v = same_Some w v (sym (a.behind next w here) ∙ ap (λ j. slice_get found' j) (sym place) ∙ at) in
          subst (λ x. NeedsFound flat servers found' x) is a.needs

  -- it ends where the wires that were found are done
  pub looked_all : (next : ℕ) (marks : List Bool) (found : List ℕ) → length found ≤ next → LookedAt flat servers marks found next → MarkLive flat marks
  looked_all next marks found end l = record {
    count = l.count;
    live = λ w on. l.live w (l.marked.each_found w on);
    all = λ w live. (let i = found_all w live in l.marked.marked i.0 w i.1);
  }
    where
      found_all : (w : ℕ) → IsLive flat w → IsAmong found w
      found_all _ (for_output k o v e serves) =
          subst (λ x. IsAmong found x) (one_server o.number v (outputs_at flat sound k o e) serves) (l.outputs k o e)
      found_all _ (for_cell w cell k r v live unknown has t e serves) =
          let i = found_all w live in
          let d : Drives flat w cell = record { has = has; wire = t } in
          let within = all_at (IsWire flat.widths) (read_by cell) k r (reads_exist flat w cell sound d) e in
          let before = slice_get_within found i.0 w i.1 in
          let needs = l.needs i.0 w (omega (arith, before, end)) i.1 in
          subst (λ x. IsAmong found x) (one_server r.number v within serves) (needs unknown cell d k r e)

  -- it ends after as many steps as there are wires
  pub next_fits : (next : ℕ) (marks : List Bool) (found : List ℕ) → LookedAt flat servers marks found next → next < length found → next < length flat.widths
  next_fits next marks found l less = let few = few_found marks found l.marked in omega (arith, few, l.count, less)
