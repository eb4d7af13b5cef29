-- Cases as right sides.
use Rattle.std.specs.Prelude.{take, drop}
use Rattle.std.proofs.Common.{◌≡◌, ◌≤◌, ℕ, Bool, List, [], ◌++◌, length, sym, ap, ◌∙◌, subst, arith, length-take-le, take-append-drop}
use Rattle.chw_base.specs.declared.index.WireId.{WireId}
use Rattle.chw_clock.specs.declared.event.Event.{Event}
use Rattle.chw_types.specs.declared.declarations.Data.{Data}
use Rattle.chw_types.specs.SamePromises.{SameValues}
use Rattle.chw_types.specs.TypeTree.{TypeTree, TypeTrees}
use Rattle.chw_terms.specs.declared.program.Program.{Program}
use Rattle.chw_terms.specs.TermTree.{var, case_of, Alts}
use Rattle.chw_meaning.specs.Values.{Thunks}
use Rattle.carrying.specs.DataLaws.{Taken}
use Rattle.netlist.specs.declared.net.Net.{Net}
use Rattle.net_built.specs.Data.{Tested, tested_of, words_of, case_wires}
use Rattle.net_built.specs.Terms.{Variable}
use Rattle.net_built.specs.Wires.{Piece}
use Rattle.cell_bits.specs.Bearing.{Bears}
use Rattle.cell_bits.specs.ChoiceLaws.{AreWide, IsTaken}
use Rattle.net_grounds.specs.Facts.{Facts}
use Rattle.net_means.specs.SideBits.Sides.{SideHas}
use Rattle.net_means.specs.SideBits.Cases.{alts_count, IsFirst, AreTested, CaseGiven}
use Rattle.net_means.proofs.SideBits.Choices.{first_taken, words_wide, first_chosen, tested_within, looks_wide, first_some}

-- what the cells of a case do with the alternative that is the first for the bits
pub chosen_first : Facts → (values : SameValues) (datas : List Data) (u : TypeTree) (whole n : ℕ) (wires : List WireId) (on : Tested) (alts : Alts) (x : List Bool) (k : ℕ) (a : Taken) → AreTested datas u whole alts → length x ≡ whole → on ≡ tested_of datas u whole n wires → IsFirst datas x alts k a
    → AreWide on.bits (words_of on.bits on.first alts) × IsTaken (take on.bits x) (words_of on.bits on.first alts) (alts_count alts) k
chosen_first facts values datas u whole n wires on alts x k a are size is first =
    subst (λ (on : Tested). AreWide on.bits (words_of on.bits on.first alts) × IsTaken (take on.bits x) (words_of on.bits on.first alts) (alts_count alts) k) (sym is)
    (words_wide facts values datas whole n wires x alts are.for_type are.shown are.wide size, first_chosen facts values datas whole n wires x alts are.for_type are.shown are.wide size first)

pub case_bears : Facts → (values : SameValues) → (p : Program) (scope : List Variable) (γ : Thunks) (δ : TypeTrees) (net : Net) (path : List ℕ) (h : List Event) (n w : ℕ) (t : TypeTree) (x : ℕ) (alts : Alts) (on : Tested) (piece : Piece) (results : List (List WireId))
    → CaseGiven p scope γ δ net path h n w t x alts on piece results → SideHas p γ δ net path h t (case_of (var x) alts) (case_wires on alts w n piece results)
case_bears facts values p scope γ δ net path h n w t x alts on piece results g =
    let u : TypeTree = g.it.ty in
    let size : length g.bits ≡ g.whole = facts.shows.shown_length (g.has.carries []) g.tested.wide in
    let chosen = chosen_first facts values p.datas u g.whole n g.it.wires on alts g.bits g.place g.first g.tested size g.is g.is_first in
    let within : on.bits ≤ g.whole = subst (λ (on : Tested). on.bits ≤ g.whole) (sym g.is) (tested_within facts p.datas u g.whole n g.it.wires g.tested.wide) in
    let apart : take on.bits g.bits ++ drop on.bits g.bits ≡ g.bits = take-append-drop on.bits g.bits in
    let reach : g.whole ≡ length (take on.bits g.bits ++ drop on.bits g.bits) = sym (ap length apart ∙ size) in
    let front : length (take on.bits g.bits) ≡ on.bits = length-take-le on.bits g.bits (omega (arith, within, size)) in
    record {
      bits = g.given;
      carries = facts.cases.case_carries p u t (var x) alts g.first g.fields γ δ g.bits g.given g.parts
          (looks_wide facts values p.datas g.whole alts g.tested.for_type g.tested.shown g.tested.wide (first_some g.is_first)) g.tested.for_type
          (λ k. facts.shows.variable_shows g.has.there (g.has.carries k)) (first_taken g.is_first) g.pattern g.cut g.body;
      bears = facts.data_cells.case_of_bears net path h p.datas u g.whole g.it.wires on alts w n g.place piece results g.values (take on.bits g.bits) (drop on.bits g.bits) g.given g.is
          (subst (λ b. Bears net path h g.it.wires b) (sym apart) g.has.bears) reach front chosen.0 g.bear g.sizes g.at
          (subst (λ c. IsTaken (take on.bits g.bits) (words_of on.bits on.first alts) c g.place) (sym g.as_many) chosen.1) g.cells;
    }
