use Rattle.std.proofs.Common.{ℕ, List, [], sym, ◌∙◌}
use Rattle.std.specs.Borrow.{Bor}
use Rattle.std.proofs.lemmas.Bool.{false≢true}
use Rattle.stimulus.specs.Stimulus.{AreNamed}
use Rattle.stimulus.proofs.Places.{front, back}
use Rattle.stimulus.proofs.names.are_named.Goals as goal

pub returns-then-not-is_named : goal.returns-then-not-is_named
returns-then-not-is_named c =
    let ports = c.args.inputs.now in
    let l = c.loop-place in (
      λ e. absurd (false≢true e),
      λ all. sym c.if-not-is_named.true
          ∙ c.is_named.ensures.1 (front AreNamed ports c.args.parts.now l.place c.index-inputs-place.result _ c.loop-place-test.true c.requires c.index-inputs-place.is (l.invariant.0 all)).0,
    )

pub loop-place-preserved : goal.loop-place-preserved
loop-place-preserved c =
    let ports = c.args.inputs.now in
    let l = c.loop-place in
    let none : Bor (List ℕ) = record { ref_ptr = (0, 0); now = [] } in (
      λ all. (front AreNamed ports c.args.parts.now l.place c.index-inputs-place.result none c.loop-place-test.true c.requires c.index-inputs-place.is (l.invariant.0 all)).1,
      λ rest. l.invariant.1 (back AreNamed ports c.args.parts.now l.place c.index-inputs-place.result none c.loop-place-test.true c.requires c.index-inputs-place.is
          (c.is_named.ensures.0 c.if-not-is_named.false, rest)),
    )
