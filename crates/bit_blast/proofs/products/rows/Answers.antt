use Rattle.std.proofs.Common.{◌≡◌, ◌≤◌, ◌<◌, ◌+◌, ◌-◌, ◌*◌, ◌^◌, ℕ, ◌∙◌, ap, sym, refl, arith, subst}
use Rattle.bit_laws.specs.BitNames.{wire_name}
use Rattle.bit_laws.specs.Blast.{product_nodes}
use Rattle.bit_blast.specs.Adding.{Adds}
use Rattle.bit_blast.specs.Names.{lowest}
use Rattle.bit_blast.specs.Numbering.{nth, spaced}
use Rattle.bit_blast.specs.declared.numbers.Numbers.TheVariants.{EachThird}
use Rattle.bit_blast.proofs.Adding.{added_as, both_added}
use Rattle.bit_blast.proofs.ByPlaces.{nth_below}
use Rattle.bit_blast.proofs.Counted.{length-word_names}
use Rattle.bit_blast.proofs.ProductRows.{count_is, first_carry_more, first_names, first_row_is, next_names, rows_more}
use Rattle.bit_blast.proofs.products.rows.Goals as goal

pub loop-row-init : goal.loop-row-init
loop-row-init c =
    let k = c.args.w.number in
    let n = c.args.width in
    record {
      made = λ flat.
          added_as flat c.args.nodes.now.items c.first_row.new.nodes.items _ _
          (first_row_is k (wire_name flat.ports c.args.a.number) (wire_name flat.ports c.args.b.number) n) (c.in_ok-first_row.ensures flat);
      carry = refl;
      small = omega arith;
      numbers = omega arith;
      names = λ flat left e.
          first_names k (lowest flat c.args.a.number n) (wire_name flat.ports c.args.b.number) left
          (length-word_names (wire_name flat.ports c.args.a.number) n ∙ e);
    }

pub next_row-requires-clause-carries : goal.next_row-requires-clause-carries
next_row-requires-clause-carries c =
    let within = c.requires.within in
    let below = c.loop-row-test.true in
    let small = c.loop-row.invariant.small in
    omega arith

pub next_row-requires-clause-sums : goal.next_row-requires-clause-sums
next_row-requires-clause-sums c =
    let within = c.requires.within in
    let below = c.loop-row-test.true in
    let numbers = c.loop-row.invariant.numbers in
    let le : c.args.width - c.loop-row.row ≤ 128 = omega arith in
    let fits : nth c.loop-row.sums 128 < 2 ^ 32 = omega arith in
    nth_below c.loop-row.sums (c.args.width - c.loop-row.row) 128 le fits

pub loop-row-preserved : goal.loop-row-preserved
loop-row-preserved c =
    let k = c.args.w.number in
    let n = c.args.width in
    let i = c.loop-row.row in
    let left = n - i in
    let carry = c.loop-row.carry in
    let within = c.requires.within in
    let below = c.loop-row-test.true in
    let some : 1 ≤ i = omega arith in
    let whole : n ≡ i + left = omega arith in
    let small = c.loop-row.invariant.small in
    record {
      made = λ flat.
          let an = wire_name flat.ports c.args.a.number in
          let bn = wire_name flat.ports c.args.b.number in
          added_as flat c.args.nodes.now.items c.next_row.new.nodes.items _ _
          (sym (rows_more k an bn n i left carry c.loop-row.sums some whole c.loop-row.invariant.carry (c.loop-row.invariant.names flat left whole)))
          (both_added flat c.args.nodes.now.items c.loop-row.nodes.items c.next_row.new.nodes.items _ _ (c.loop-row.invariant.made flat)
          (c.in_ok-next_row.ensures flat));
      carry = ap (λ (m : ℕ). m + (1 + 3 * left)) c.loop-row.invariant.carry ∙ sym (first_carry_more n i some);
      small = omega arith;
      numbers = omega arith;
      names = λ flat more e.
          let xs = lowest flat c.args.a.number n in
          let bn = wire_name flat.ports c.args.b.number in
          let long = length-word_names (wire_name flat.ports c.args.a.number) n in
          next_names k xs bn i more some (long ∙ e)
          ∙ ap (λ (m : ℕ). spaced k (EachThird (m + 5)) more) (count_is xs bn n i long ∙ sym c.loop-row.invariant.carry);
    }

pub returns : goal.returns
returns c = λ flat.
    let some = c.requires.some in
    let over = c.loop-row-test.false in
    let within = c.loop-row.auto.row-end in
    let same : c.loop-row.row ≡ c.args.width = omega arith in
    subst (λ (n : ℕ). Adds flat c.args.nodes.now.items c.loop-row.nodes.items
    (product_nodes c.args.w.number (lowest flat c.args.a.number c.args.width) (lowest flat c.args.b.number n))) same
    (c.loop-row.invariant.made flat)
