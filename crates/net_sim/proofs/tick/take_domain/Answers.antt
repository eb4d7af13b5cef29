use Rattle.std.proofs.Common.{◌≡◌, ℕ, List, [], Bool, length, map, inl, sym, ap, subst, ◌∙◌, arith}
use Rattle.std.proofs.lemmas.List.{length-map}
use Rattle.netlist.specs.declared.net.Cell.{Cell}
use Rattle.net_sim.specs.Ticking.{IsKeeperOf, ListsKeepers, moved_bits}
use Rattle.net_sim.proofs.Domains.{keeper_there, keeper_writes}
use Rattle.net_sim.proofs.Writing.{behind_within, fits_table, listed_all, listed_more}
use Rattle.net_sim.proofs.tick.take_domain.Goals as goal

pub take-requires-clause-fits : goal.take-requires-clause-fits
take-requires-clause-fits c =
    fits_table c.args.flat.now c.args.words.now c.cell_at.result.now c.requires.sound c.requires.table (_, c.cell_at.ensures)

pub loop-place-preserved : goal.loop-place-preserved
loop-place-preserved c =
    let flat = c.args.flat.now in
    let l = c.loop-place in
    let cell = c.cell_at.result.now in
    let number = c.args.number in
    let made : ℕ → Cell → List Bool → List Bool = λ w cell old. moved_bits c.args.event.now c.args.words.now c.args.memories.now cell in
    let lists = subst (λ ps. ListsKeepers flat number ps (length flat.cells)) (sym c.places_of-place-items.ensures)
    (c.requires.keepers.lists number c.requires.within) in
    let fits = fits_table flat c.args.words.now cell c.requires.sound c.requires.table (_, c.cell_at.ensures) in
    let size : length (map length c.args.words.now) ≡ length l.next = ap length (sym l.invariant.widths) ∙ length-map l.next length in
    let own = lists.own l.place-index cell c.loop-place-test.true c.cell_at.ensures in
    record {
      written =
          listed_more (List Bool) [] (IsKeeperOf number) made flat number _ c.args.next.now l.next c.take.new.next l.place-index cell
          c.requires.sound lists (λ cell is. is) c.loop-place-test.true (inl own)
          (keeper_there fits.0 (length l.next) number (map length c.args.words.now) cell fits.1 size) c.cell_at.ensures
          l.invariant.written (keeper_writes (List Bool) [] made number cell l.next c.take.new.next own c.take.ensures.taken);
      widths = c.take.ensures.widths ∙ l.invariant.widths;
    }

pub returns-clause-taken : goal.returns-clause-taken
returns-clause-taken c =
    let flat = c.args.flat.now in
    let l = c.loop-place in
    let number = c.args.number in
    let lists = subst (λ ps. ListsKeepers flat number ps (length flat.cells)) (sym c.places_of-place-items.ensures)
    (c.requires.keepers.lists number c.requires.within) in
    listed_all (List Bool) [] (IsKeeperOf number) (λ w cell old. moved_bits c.args.event.now c.args.words.now c.args.memories.now cell) flat number _
    c.args.next.now l.next l.place-index lists (λ cell is. is) (omega arith)
    (behind_within flat number _ (length flat.cells) l.place-index lists (omega arith)) l.invariant.written
