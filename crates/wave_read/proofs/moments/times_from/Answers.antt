use Rattle.std.proofs.Common.{◌≡◌, ◌+◌, ◌-◌, [], ◌∷◌, length, Option, refl, sym, ap, ◌∙◌, subst, arith}
use Rattle.std.proofs.lemmas.List.{length-append}
use Rattle.std.proofs.lemmas.Result.{err_from_is_err_and}
use Rattle.wave_read.specs.Reading.{end_of, words_in}
use Rattle.wave_read.specs.Shown.{count_of, times_of}
use Rattle.wave_text.specs.VcdText.{AreChanges, IsTime}
use Rattle.wave_text.specs.Words.{Word}
use Rattle.wave_read.specs.declared.items.Stamp.{Stamp}
use Rattle.wave_read.proofs.Momenting.{Reached, fails_from, reached_end, reached_none, reached_push}
use Rattle.wave_read.proofs.Timing.{whole_more}
use Rattle.wave_read.proofs.moments.times_from.Goals as goal

pub loop-next-init : goal.loop-next-init
loop-next-init c = record {
  reached = λ w is same.
      reached_none w c.args.first (end_of c.args.left) (words_in c.args.left) c.new-moments.result.items c.new-changes.result.items c.new-moments.ensures.items is same;
  count = ap count_of c.new-moments.ensures.items ∙ sym (ap length c.new-changes.ensures.items);
  end = refl;
}

pub returns-in_err-read-clause-fault : goal.returns-in_err-read-clause-fault
returns-in_err-read-clause-fault c =
    let p = err_from_is_err_and c.from_residual.result c.from_residual.ensures.1 in
    let l = c.loop-next in
    let left = c.args.left in
    let reached =
    subst (λ (next : Option Stamp). (w : Word) → IsTime w.bytes c.args.first.time → w.at ≡ c.args.first.at
    → Reached (end_of left) (w ∷ words_in left) (times_of l.moments.items l.changes.items) next (words_in l.rest)) c.in-Some.is l.invariant.reached in
    rw (p.1, p.2) (fails_from (end_of left) (end_of l.rest) c.args.first (words_in l.rest) (words_in left) (times_of l.moments.items l.changes.items) c.in-Some.stamp c.in_err-read.field-0.0 reached
    l.invariant.end c.in_err-read.ensures.fault)

pub loop-next-preserved : goal.loop-next-preserved
loop-next-preserved c =
    let l = c.loop-next in
    let left = c.args.left in
    let read = c.in_ok-read.ensures in
    let next = c.in_ok-read.read.next in
    let behind = c.in_ok-read.read.left in
    let old = l.changes.items in
    let after = c.changes_in.new.changes.items in
    let more = length-append old read.puts.0 in
    let all = ap length read.puts.1 ∙ more in
    let counted : (c.len.result - c.len-before.result) + length old ≡ length after =
    omega (arith, all, c.len.ensures, c.len-before.ensures, l.changes.ok.0, c.changes_in.new.changes.ok.0) in
    let reached =
    subst (λ (next : Option Stamp). (w : Word) → IsTime w.bytes c.args.first.time → w.at ≡ c.args.first.at
    → Reached (end_of left) (w ∷ words_in left) (times_of l.moments.items l.changes.items) next (words_in l.rest)) c.in-Some.is l.invariant.reached in
    record {
      reached = λ w is same.
          reached_push (end_of left) (end_of l.rest) (w ∷ words_in left) (words_in l.rest) (words_in behind) l.moments.items c.push.new.self.items _ old after c.in-Some.stamp next
          c.in_ok-push.ensures.items refl refl counted l.invariant.count l.invariant.end (reached w is same) read.puts;
      count = whole_more l.moments.items c.push.new.self.items _ old after c.in_ok-push.ensures.items counted l.invariant.count;
      end = read.end ∙ l.invariant.end;
    }

pub returns-clause-forms : goal.returns-clause-forms
returns-clause-forms c = λ w is same.
    let l = c.loop-next in
    let left = c.args.left in
    subst (AreChanges (w ∷ words_in left) []) (sym c.of.ensures)
    (reached_end (end_of left) (w ∷ words_in left) (times_of l.moments.items l.changes.items) l.next (words_in l.rest) c.in_default.not-Some (l.invariant.reached w is same))
