use Rattle.std.proofs.Common.{◌≡◌, ℕ, List, [], ◌++◌, refl, sym, ap, ◌∙◌, subst, arith}
use Rattle.std.specs.Borrow.{Bor}
use Rattle.std.proofs.lemmas.Bool.{false≢true}
use Rattle.std.proofs.lemmas.List.{append-nil, take_all}
use Rattle.name_tables.specs.Names.{AreDistinct}
use Rattle.stimulus.specs.Texts.{texts}
use Rattle.blif_read.proofs.Tables.{AreDeclared, declared_again, declared_next, declared_none}
use Rattle.blif_read.proofs.names.declare_all.Goals as goal

pub loop-name-init : goal.loop-name-init
loop-name-init c = declared_none c.args.driven.now c.requires c.args.driven.now (sym (append-nil c.args.driven.now))

pub loop-name-preserved : goal.loop-name-preserved
loop-name-preserved c =
    let l = c.loop-name in
    declared_next c.args.driven.now l.driven c.declare.new.self c.args.names.now l.name-index _ _ c.in_ok-declare.field-0 c.loop-name-test.true refl l.invariant
    c.in_ok-declare.ensures.is_new c.if-not-branch.false c.in_ok-declare.ensures.names

pub returns-then-not-branch-clause-once : goal.returns-then-not-branch-clause-once
returns-then-not-branch-clause-once c = (
  λ e. absurd (false≢true e),
  λ distinct.
      let l = c.loop-name in
      absurd (declared_again c.args.driven.now l.driven c.args.names.now l.name-index _ _ c.in_ok-declare.field-0 c.loop-name-test.true refl l.invariant
      c.in_ok-declare.ensures.is_new c.if-not-branch.true distinct),
)

pub returns-clause-names : goal.returns-clause-names
returns-clause-names c = λ _.
    let l = c.loop-name in
    l.invariant.names_are ∙ ap (λ (ns : List (Bor (List ℕ))). c.args.driven.now ++ texts ns) (take_all l.name-index c.args.names.now (omega (arith, c.loop-name-test.false)))

pub returns-clause-once : goal.returns-clause-once
returns-clause-once c =
    let l = c.loop-name in
    let all = l.invariant.names_are ∙ ap (λ (ns : List (Bor (List ℕ))). c.args.driven.now ++ texts ns) (take_all l.name-index c.args.names.now (omega (arith, c.loop-name-test.false))) in
    (λ _. subst AreDistinct all l.invariant.distinct, λ _. refl)
