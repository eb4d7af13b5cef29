-- The variables in an alternative have bits.
use Rattle.std.specs.Prelude.{take, option_map, unwrap_or, ◌-◌}
use Rattle.std.proofs.Common.{◌≡◌, ◌≤◌, ℕ, zero, suc, ◌+◌, Bool, List, [], ◌∷◌, ◌++◌, length, reverse, Some, slice_get, refl, sym, ap, ◌∙◌, subst, arith, append_assoc, length-drop, take-append-drop}
use Rattle.chw_base.specs.declared.index.WireId.{WireId}
use Rattle.chw_clock.specs.declared.event.Event.{Event}
use Rattle.chw_types.specs.declared.declarations.Data.{Data}
use Rattle.chw_types.specs.TypeTree.{TypeTree}
use Rattle.chw_terms.specs.declared.program.Program.{Program}
use Rattle.chw_terms.specs.declared.term.Pattern.{Pattern}
use Rattle.chw_typing.specs.HeadTypes.{fields_at, PatternOf, of_con, of_lit, of_any}
use Rattle.chw_layout.specs.Measured.{tag_width}
use Rattle.chw_meaning.specs.Values.{Thunks, thunk_at, count_of, joined}
use Rattle.carrying.specs.DataLaws.{Parts, no_parts, part_and, CarryParts, carry_no_part, carry_part, behind_tag, behind_con, behind}
use Rattle.netlist.specs.declared.net.Net.{Net}
use Rattle.net_built.specs.Data.{HaveWidths, tested_of, constructor_count, field_cuts, variables_from}
use Rattle.net_built.specs.Terms.{Variable, variable}
use Rattle.net_built.specs.Wires.{new_wires, wire_count}
use Rattle.cell_bits.specs.Bearing.{HasCells, Bears}
use Rattle.cell_bits.specs.DataLaws.{joined as in_order, BearAll, all_none, all_and, lengths, wires_of_each}
use Rattle.net_grounds.specs.Facts.{Facts}
use Rattle.net_means.proofs.Lists.{turned_onto}
use Rattle.net_means.specs.SideBits.Sides.{VariableHas, HasBits}
use Rattle.net_means.specs.SideBits.Cases.{FieldsGiven}

-- parts in order are the first of the bits from which they were cut
cut_joined : {datas : List Data} {ts : List TypeTree} {b : List Bool} {parts : List (List Bool)} → Parts datas ts b parts → (rest : List Bool) × (in_order parts ++ rest ≡ b)
cut_joined (no_parts {b = b}) = (b, refl)
cut_joined (part_and {w = w} {b = b} {parts = parts} has ps) =
    let more = cut_joined ps in
    (more.0, append_assoc (take w b) (in_order parts) more.0 ∙ ap (λ x. take w b ++ x) more.1 ∙ take-append-drop w b)

-- parts that are carried are as wide as their types
part_lengths : Facts → {p : Program} {ts : List TypeTree} {ths : Thunks} {parts : List (List Bool)} (ws : List ℕ) → CarryParts p ts ths parts → HaveWidths p.datas ts ws → (ws ≡ lengths parts) × (length ts ≡ length parts)
part_lengths facts [] carry_no_part have = (refl, refl)
part_lengths facts (w ∷ ws) carry_no_part have = absurd have
part_lengths facts [] (carry_part at c more) have = absurd have
part_lengths facts (w ∷ ws) (carry_part at c more) have =
    let rest = part_lengths facts ws more have.1 in
    (λ i. sym (facts.shows.shown_length (c []) have.0) i ∷ rest.0 i, ap suc rest.1)

module _ (facts : Facts) (p : Program) (net : Net) (path : List ℕ) (h : List Event) where
  -- the wires of the fields' variables have the parts
  parts_bear : {u : TypeTree} {q : Pattern} {fields : List TypeTree} {ths : Thunks} {parts : List (List Bool)} (whole n m : ℕ) (wires : List WireId) (widths : List ℕ) (x : List Bool) → PatternOf p.datas u q fields → CarryParts p fields ths parts → HaveWidths p.datas fields widths → length x ≡ whole → Bears net path h wires x
      → HasCells net path (field_cuts (whole - (tested_of p.datas u whole n wires).bits) wires widths m).cells → Parts p.datas fields (behind p.datas q x) parts
      → BearAll net path h (wires_of_each (variables_from m fields widths)) parts
  parts_bear {parts = parts} whole n m wires widths x (of_con {d = d} {c = c} {ts = ts} it at of count) carry have size bears cells cut =
      let place = facts.constructors.is_constructor p.datas c.number it at in
      let here : slice_get p.datas d ≡ Some it.it = subst (λ d. slice_get p.datas d ≡ Some it.it) of place.data_type in
      let many : constructor_count p.datas d ≡ length it.it.cons = ap (λ o. unwrap_or (option_map (λ (it : Data). length it.cons) o) 0) here in
      let tag : ℕ = tag_width (length it.it.cons) in
      let tags : tag_width (constructor_count p.datas d) ≡ tag = ap tag_width many in
      let behind_it : Parts p.datas (fields_at it ts) (behind_tag it x) parts = subst (λ o. Parts p.datas (fields_at it ts) (behind_con o x) parts) at cut in
      let all = cut_joined behind_it in
      let apart : take tag x ++ (in_order parts ++ all.0) ≡ x = ap (λ y. take tag x ++ y) all.1 ∙ take-append-drop tag x in
      let left = length-drop tag x in
      let rest = ap (λ (y : List Bool). length y) all.1 in
      let long = part_lengths facts widths carry have in
      facts.data_cells.fields_bear net path h m (fields_at it ts) widths parts
      (record {
        a = wires;
        front = take tag x;
        behind = all.0;
        below = whole - tag_width (constructor_count p.datas d);
        bears = subst (λ y. Bears net path h wires y) (sym apart) bears;
        reach = omega (arith, left, rest, size, tags);
        wide = long.0;
        typed = long.1;
        cells = cells;
      })
  parts_bear whole n m wires widths x (of_lit l e) carry_no_part have size bears cells cut = all_none
  parts_bear whole n m wires widths x of_any carry_no_part have size bears cells cut = all_none

  module _ (γ ths : Thunks) where
    fields_onto : {ts : List TypeTree} {parts : List (List Bool)} (m : ℕ) (ws : List ℕ) → CarryParts p ts ths parts → BearAll net path h (wires_of_each (variables_from m ts ws)) parts → HaveWidths p.datas ts ws → length ts ≤ count_of ths → (before : List Variable) (y : ℕ) (v : Variable)
        → ((j : ℕ) → y ≡ length ts + j → slice_get before j ≡ Some v → HasBits p net path h (joined ths γ) y v)
        → slice_get (reverse (variables_from m ts ws) ++ before) y ≡ Some v → HasBits p net path h (joined ths γ) y v
    fields_onto m [] carry_no_part bear have fits before y v outer at = let same : y ≡ 0 + y = omega arith in outer y same at
    fields_onto m (w ∷ ws) carry_no_part bear have fits before y v outer at = absurd have
    fields_onto m [] (carry_part place c more) bear have fits before y v outer at = absurd have
    fields_onto m (w ∷ ws) (carry_part {t = t} {ts = ts} {th = th} {b = b} place c more) (all_and one rest) have fits before y v outer at =
        let first : Variable = variable t (new_wires m (w ∷ [])) in
        let others : List Variable = variables_from (m + wire_count (w ∷ [])) ts ws in
        fields_onto (m + wire_count (w ∷ [])) ws more rest have.1 (omega (arith, fits)) (first ∷ before) y v next
        (subst (λ (l : List Variable). slice_get l y ≡ Some v) (turned_onto first others before) at)
      where
        next : (j : ℕ) → y ≡ length ts + j → slice_get (variable t (new_wires m (w ∷ [])) ∷ before) j ≡ Some v → HasBits p net path h (joined ths γ) y v
        next zero e f =
            let is : variable t (new_wires m (w ∷ [])) ≡ v = cc in
            let here : y ≡ length ts = omega (arith, e) in
            let there : thunk_at (joined ths γ) y ≡ Some th = ap (thunk_at (joined ths γ)) here ∙ facts.environments.bound_variables ths γ (length ts) (omega (arith, fits)) ∙ place in
            (b, subst (λ (v : Variable). VariableHas p net path h (joined ths γ) y v b) is (record { thunk = th; there = there; carries = c; bears = one }))
        next (suc j) e f = outer j (omega (arith, e)) f

pub fields_have : Facts → (p : Program) (γ : Thunks) (net : Net) (path : List ℕ) (h : List Event) (x n m : ℕ) (q : Pattern) (fields : List TypeTree) (widths : List ℕ) (ths : Thunks) (scope : List Variable) (y : ℕ) (v : Variable)
    → FieldsGiven p γ net path h x n m q fields widths ths → slice_get (reverse (variables_from m fields widths) ++ scope) y ≡ Some v
    → ((z : ℕ) → y ≡ length fields + z → slice_get scope z ≡ Some v → HasBits p net path h γ z v) → HasBits p net path h (joined ths γ) y v
fields_have facts p γ net path h x n m q fields widths ths scope y v g at outside =
    let size : length g.bits ≡ g.whole = facts.shows.shown_length (g.has.carries []) g.wide in
    let bear = parts_bear facts p net path h g.whole n m g.it.wires widths g.bits g.pattern g.carry g.sizes size g.has.bears g.cells g.cut in
    let many = g.many in
    fields_onto facts p net path h γ ths m widths g.carry bear g.sizes (omega (arith, many)) scope y v
    (λ z e f.
    let all = outside z e f in
    let its : VariableHas p net path h γ z v all.0 = all.1 in
    let place : y ≡ count_of ths + z = omega (arith, many, e) in
    (all.0, record { thunk = its.thunk; there = ap (thunk_at (joined ths γ)) place ∙ facts.environments.outside_alternative ths γ z ∙ its.there; carries = its.carries; bears = its.bears }))
    at
