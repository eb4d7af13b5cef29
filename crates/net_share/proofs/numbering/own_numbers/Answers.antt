use Rattle.std.proofs.Common.{◌≡◌, ◌+◌, ◌<◌, ℕ, List, length, get_or, None, Some, slice_get, refl, sym, ap, ◌∙◌, arith}
use Rattle.std.proofs.lemmas.List.{length_push}
use Rattle.std.proofs.lemmas.Option.{slice_get-get_or}
use Rattle.net_share.proofs.Pushed.{each_pushed}
use Rattle.net_share.proofs.numbering.own_numbers.Goals as goal

pub loop-w-init : goal.loop-w-init
loop-w-init c = record {
  count = ap length c.new-numbers.ensures.items;
  own = λ k x e. absurd (let none : None ≡ Some x = ap (λ (xs : List ℕ). slice_get xs k) (sym c.new-numbers.ensures.items) ∙ e in cc);
}

pub loop-w-preserved : goal.loop-w-preserved
loop-w-preserved c =
    let old = c.loop-w.numbers.items in
    let w = c.loop-w.w in
    record {
      count = ap length c.in_ok-push.ensures.items ∙ length_push old w ∙ ap (λ (n : ℕ). n + 1) c.loop-w.invariant.count;
      own = λ k x e.
          each_pushed (λ j y. j ≡ y) old w w (sym c.loop-w.invariant.count) c.loop-w.invariant.own refl k x
          (ap (λ (xs : List ℕ). slice_get xs k) (sym c.in_ok-push.ensures.items) ∙ e);
    }

pub returns-clause-count : goal.returns-clause-count
returns-clause-count c = let count = c.loop-w.invariant.count in omega (arith, count, c.loop-w-test.false, c.loop-w.auto.w-end)

pub returns-clause-own : goal.returns-clause-own
returns-clause-own c = λ w l.
    let numbers = c.loop-w.numbers.items in
    let within : w < length numbers = (let count = c.loop-w.invariant.count in omega (arith, count, c.loop-w-test.false, l)) in
    let at = slice_get-get_or numbers w 0 within in
    at ∙ ap Some (sym (c.loop-w.invariant.own w (get_or numbers w 0) at))
