use Rattle.std.proofs.Common.{◌≡◌, List, [], Bool, length, map, inl, sym, subst, ◌∙◌, arith}
use Rattle.std.proofs.lemmas.List.{length-map}
use Rattle.net_sim.specs.Tables.{value_in}
use Rattle.net_sim.specs.Ticking.{IsKeeperOf, ListsKeepers}
use Rattle.net_sim.proofs.Domains.{keeper_there, keeper_writes}
use Rattle.net_sim.proofs.Writing.{behind_within, fits_table, listed_all, listed_more}
use Rattle.net_sim.proofs.tick.put_domain.Goals as goal

pub put-requires-clause-fits : goal.put-requires-clause-fits
put-requires-clause-fits c =
    fits_table c.args.flat.now c.loop-place.words c.cell_at.result.now c.requires.sound (c.loop-place.invariant.widths ∙ c.requires.table) (_, c.cell_at.ensures)

pub loop-place-preserved : goal.loop-place-preserved
loop-place-preserved c =
    let flat = c.args.flat.now in
    let l = c.loop-place in
    let cell = c.cell_at.result.now in
    let number = c.args.number in
    let lists = subst (λ ps. ListsKeepers flat number ps (length flat.cells)) (sym c.places_of-place-items.ensures)
    (c.requires.keepers.lists number c.requires.within) in
    let fits = fits_table flat l.words cell c.requires.sound (l.invariant.widths ∙ c.requires.table) (_, c.cell_at.ensures) in
    let size : length (map length l.words) ≡ length l.words = length-map l.words length in
    let own = lists.own l.place-index cell c.loop-place-test.true c.cell_at.ensures in
    record {
      written =
          listed_more (List Bool) [] (IsKeeperOf number) (λ w cell old. value_in c.args.next.now w) flat number _ c.args.words.now l.words c.put.new.words
          l.place-index cell c.requires.sound lists (λ cell is. is) c.loop-place-test.true (inl own)
          (keeper_there fits.0 (length l.words) number (map length l.words) cell fits.1 size) c.cell_at.ensures
          l.invariant.written
          (keeper_writes (List Bool) [] (λ w cell old. value_in c.args.next.now w) number cell l.words c.put.new.words own c.put.ensures.put);
      widths = c.put.ensures.widths ∙ l.invariant.widths;
    }

pub returns-clause-put : goal.returns-clause-put
returns-clause-put c =
    let flat = c.args.flat.now in
    let l = c.loop-place in
    let number = c.args.number in
    let lists = subst (λ ps. ListsKeepers flat number ps (length flat.cells)) (sym c.places_of-place-items.ensures)
    (c.requires.keepers.lists number c.requires.within) in
    listed_all (List Bool) [] (IsKeeperOf number) (λ w cell old. value_in c.args.next.now w) flat number _
    c.args.words.now l.words l.place-index lists (λ cell is. is) (omega arith)
    (behind_within flat number _ (length flat.cells) l.place-index lists (omega arith)) l.invariant.written
