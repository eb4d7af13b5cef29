use Rattle.std.proofs.Common.{◌≡◌, ◌≤◌, ◌+◌, ◌-◌, ◌*◌, ℕ, ◌∙◌, ap, sym, refl, arith, subst}
use Rattle.bit_laws.specs.BitNames.{further}
use Rattle.bit_laws.specs.Blast.{on_each}
use Rattle.bit_laws.specs.Gates.Gate.{buffer}
use Rattle.bit_blast.specs.Adding.{Adds}
use Rattle.bit_blast.specs.Names.{by_places, lowest}
use Rattle.bit_blast.specs.Products.{end_number}
use Rattle.bit_blast.proofs.Adding.{pushed}
use Rattle.bit_blast.proofs.ProductRows.{end_number_is, ends_more, first_carry_more}
use Rattle.bit_blast.proofs.products.ends.Goals as goal

pub loop-place-init : goal.loop-place-init
loop-place-init c = record {
  made = λ flat. pushed flat c.args.nodes.now.items c.push.new.self.items _ c.in_ok-push.ensures.items;
  carry = refl;
  small = omega arith;
}

pub loop-place-preserved : goal.loop-place-preserved
loop-place-preserved c =
    let n = c.args.width in
    let j = c.loop-place.place in
    let carry = c.loop-place.carry in
    let within = c.requires.within in
    let below = c.loop-place-test.true in
    let some : 1 ≤ j = omega arith in
    let small = c.loop-place.invariant.small in
    let number : carry + 2 ≡ end_number n j = ap (λ (m : ℕ). m + 2) c.loop-place.invariant.carry ∙ sym (end_number_is n j some) in
    record {
      made = λ flat.
          ends_more flat c.args.nodes.now.items c.loop-place.nodes.items c.put_end.new.nodes.items c.args.w n j (carry + 2)
          (c.loop-place.invariant.made flat) c.in_ok-put_end.ensures number;
      carry = ap (λ (m : ℕ). m + (1 + 3 * (n - j))) c.loop-place.invariant.carry ∙ sym (first_carry_more n j some);
      small = omega arith;
    }

pub returns : goal.returns
returns c = λ flat.
    let some = c.requires.some in
    let over = c.loop-place-test.false in
    let within = c.loop-place.auto.place-end in
    let same : c.loop-place.place ≡ c.args.width = omega arith in
    subst (λ (n : ℕ). Adds flat c.args.nodes.now.items c.loop-place.nodes.items
    (on_each buffer (lowest flat c.args.w.number n) (by_places (λ j. further c.args.w.number (end_number c.args.width j)) n))) same
    (c.loop-place.invariant.made flat)
