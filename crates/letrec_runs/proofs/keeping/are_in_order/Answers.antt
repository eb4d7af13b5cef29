use Rattle.std.proofs.Common.{◌≤◌, ℕ, length, take, sym, subst, arith, Contains}
use Rattle.std.proofs.lemmas.Bool.{eqb-true}
use Rattle.free_variables.specs.Gathered.{numbers_of}
use Rattle.letrec_runs.proofs.Occurring.{found_all, found_more, found_none}
use Rattle.letrec_runs.proofs.Reached.{contains_number}
use Rattle.letrec_runs.proofs.keeping.are_in_order.Goals as goal
use Rattle.letrec_runs.proofs.keeping.are_in_order.Goals.{then-found-next, else-found-next}

pub loop-variable-init : goal.loop-variable-init
loop-variable-init c = record { within = omega arith; there = found_none c.args.found.now (numbers_of c.args.those.now) }

pub loop-variable-preserved : goal.loop-variable-preserved
loop-variable-preserved c =
    let found = c.args.found.now in
    let those = c.args.those.now in
    let h = c.loop-variable.invariant in
    let some = c.if-next-found.false in
    let within : c.if-found-next.next ≤ length found =
    elim c.if-found-next.branch [
      | then-found-next w ↦ omega (arith, w.next-is, h.within, some)
      | else-found-next w ↦ omega (arith, w.next-is, h.within)
    ] in
    let there : (x : ℕ) → Contains (numbers_of (take c.if-found-next.next found)) x → Contains (numbers_of those) x =
    elim c.if-found-next.branch [
      | then-found-next w ↦ subst (λ n. (x : ℕ) → Contains (numbers_of (take n found)) x → Contains (numbers_of those) x) (sym w.next-is)
          (found_more found those c.loop-variable.next _ _ (omega (arith, h.within, some)) w.if-found-next.true (contains_number those c.loop-variable.variable-index _ c.loop-variable-test.true) h.there)
      | else-found-next w ↦ subst (λ n. (x : ℕ) → Contains (numbers_of (take n found)) x → Contains (numbers_of those) x) (sym w.next-is) h.there
    ] in
    record { within = within; there = there }

pub returns : goal.returns
returns c = λ t.
    let found = c.args.found.now in
    found_all found c.loop-variable.next (numbers_of c.args.those.now) (eqb-true c.loop-variable.next (length found) t) c.loop-variable.invariant.there
