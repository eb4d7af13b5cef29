use Rattle.std.proofs.Common.{◌≡◌, ◌-◌, ℕ, subst, arith}
use Rattle.std.proofs.lemmas.Result.{err_from_is_err_and}
use Rattle.step_search.specs.Finding.{StandsAt}
use Rattle.chw_norm.specs.Underway.{IsUnderway}
use Rattle.chw_norm.proofs.Ends.{begins, ends_at_once, ends_done, ends_refused, ends_spent}
use Rattle.chw_norm.proofs.Ends.{ends_unready, first_found, none_found}
use Rattle.chw_norm.proofs.Further.{StateLaws}
use Rattle.chw_norm.proofs.Goes.{looked_at_end, looks_from_room, room_exact, wanting_further}
use Rattle.chw_norm.proofs.Goes.{way_further, way_with_step}
use Rattle.chw_norm.proofs.LookedRuns.{looked_at_opening, looked_refused, moved_there}
use Rattle.chw_norm.proofs.LookedRuns.{never_looked, suits_on}
use Rattle.chw_norm.proofs.running.run.Goals as goal

pub begin-requires-clause-tidy : goal.begin-requires-clause-tidy
begin-requires-clause-tidy g c = c.requires.tidy

pub begin-requires-clause-typed : goal.begin-requires-clause-typed
begin-requires-clause-typed g c = c.requires.typed

pub returns-in_err-run : goal.returns-in_err-run
returns-in_err-run g c =
    let p = err_from_is_err_and c.from_residual.result c.from_residual.ensures.1 in
    record {
      runs = rw (p.1, p.2) (ends_at_once c.args.program.now c.args.budget c.args.trace.now.items
          c.requires.typed);
      looks = never_looked c.args.program.now c.args.trace.now.items (g.R.Looks.looks c.args.rules.now) c.requires.typed;
    }

pub loop-left-init : goal.loop-left-init
loop-left-init g c = record {
  count = 0;
  sum = omega arith;
  underway = begins c.args.program.now c.args.trace.now.items c.in_ok-run.run'
      c.in_ok-run.ensures.program c.in_ok-run.ensures.opens c.in_ok-run.ensures.between;
  suits = c.open-finder.ensures.suits c.in_ok-run.run'.program.now c.in_ok-run.run'.made;
  room = room_exact (looked_at_opening c.args.program.now c.args.trace.now.items c.in_ok-run.run'.made
      c.open-finder.result (g.R.Looks.looks c.args.rules.now) c.in_ok-run.ensures.opens c.open-finder.ensures.first
      c.open-finder.ensures.root);
}

pub next-requires : goal.next-requires
next-requires g c = record {
  between = c.loop-left.invariant.underway.between;
  suits = c.loop-left.invariant.suits;
}

pub returns-in_err-found : goal.returns-in_err-found
returns-in_err-found g c =
    let p = err_from_is_err_and c.from_residual-in_err-found.result
    c.from_residual-in_err-found.ensures.1 in
    let h = c.loop-left.invariant in
    record {
      runs = rw (p.1, p.2)
          (ends_unready c.args.program.now c.args.budget c.args.trace.now.items c.loop-left.trace.items
          h.count c.loop-left.run h.underway (omega (arith, h.sum)));
      looks = looked_at_end c.args.program.now c.args.budget c.args.trace.now.items
          c.loop-left.trace.items c.loop-left.left c.loop-left.run c.loop-left.finder
          (g.R.Looks.looks c.args.rules.now) (g.R.Looks.looks c.loop-left.rules)
          (g.R.Looks.looks c.next.new.rules) h c.next.ensures.looks;
    }

pub returns-in_default : goal.returns-in_default
returns-in_default g c =
    let r = c.loop-left.run in
    let h = c.loop-left.invariant in
    record {
      runs = ends_done c.args.program.now c.args.budget c.args.trace.now.items c.loop-left.trace.items
          h.count r h.underway (omega (arith, h.sum))
          (none_found r.program.now r.made c.in_ok-found.field-0 c.in_ok-found.ensures.first
          c.in_default.is);
      looks = looked_at_end c.args.program.now c.args.budget c.args.trace.now.items
          c.loop-left.trace.items c.loop-left.left r c.loop-left.finder
          (g.R.Looks.looks c.args.rules.now) (g.R.Looks.looks c.loop-left.rules)
          (g.R.Looks.looks c.next.new.rules) h c.next.ensures.looks;
    }

pub advance-requires-clause-between : goal.advance-requires-clause-between
advance-requires-clause-between g c = c.loop-left.invariant.underway.between

pub advance-requires-clause-next : goal.advance-requires-clause-next
advance-requires-clause-next g c =
    first_found c.loop-left.run.program.now c.loop-left.run.made c.in_ok-found.field-0 c.in-Some.found
    c.in_ok-found.ensures.first c.in-Some.is

pub returns-in_err-advance : goal.returns-in_err-advance
returns-in_err-advance g c =
    let p = err_from_is_err_and c.from_residual-in_err-advance.result
    c.from_residual-in_err-advance.ensures.1 in
    let h = c.loop-left.invariant in
    let r = c.loop-left.run in
    let f = c.loop-left.finder in
    record {
      runs = rw (p.1, p.2)
          (ends_refused c.args.program.now c.args.budget c.args.trace.now.items c.loop-left.trace.items
          c.advance.new.trace.items h.count r c.advance.new.self c.in-Some.found
          h.underway (omega (arith, h.sum, c.loop-left-test.true)) c.in_err-advance.field-0.0
          c.in_err-advance.ensures);
      looks = looked_refused c.args.program.now c.args.trace.now.items c.loop-left.trace.items
          c.advance.new.trace.items r c.advance.new.self c.in-Some.found f
          c.next.new.finder (g.R.Looks.looks c.args.rules.now) h.room.sum
          (g.R.Looks.looks c.next.new.rules) c.in_err-advance.field-0.0 h.underway.program h.room.looked
          (looks_from_room r.program.now r.made f.made.number f.path.items
          (g.R.Looks.looks c.loop-left.rules) h.room.sum (g.R.Looks.looks c.next.new.rules)
          h.room.enough c.next.ensures.looks)
          (moved_there c.in_ok-found.field-0 c.in-Some.found f c.next.new.finder
          c.in_ok-found.ensures.moves c.in-Some.is) c.in_err-advance.ensures;
    }

pub go_on-requires : goal.go_on-requires
go_on-requires g c =
    let e = c.in_ok-advance.ensures in
    let stands : StandsAt c.next.new.finder c.in-Some.found.at = moved_there c.in_ok-found.field-0
    c.in-Some.found c.loop-left.finder c.next.new.finder c.in_ok-found.ensures.moves c.in-Some.is in
    record {
      between = e.2;
      within = e.1;
      suits = suits_on c.search_suits_next_state.ensures c.loop-left.trace.items
          c.advance.new.trace.items c.loop-left.run c.advance.new.self c.in-Some.found
          c.next.new.finder c.loop-left.invariant.underway.between e.0 stands;
    }

pub returns-in_err-left : goal.returns-in_err-left
returns-in_err-left g c =
    let p = err_from_is_err_and c.from_residual-in_err-left.result
    c.from_residual-in_err-left.ensures.1 in
    let e = c.in_ok-advance.ensures in
    let laws : StateLaws = record {
      keep = c.states_stay_typed.ensures.steps;
      sought = c.any_step_stays_behind.ensures.sought;
    } in
    let stands : StandsAt c.next.new.finder c.in-Some.found.at = moved_there c.in_ok-found.field-0
    c.in-Some.found c.loop-left.finder c.next.new.finder c.in_ok-found.ensures.moves c.in-Some.is in
    let old = c.args.trace.now.items in
    let mid = c.advance.new.trace.items in
    let before : ℕ = g.R.Looks.looks c.args.rules.now in
    let next : ℕ = g.R.Looks.looks c.next.new.rules in
    let way = way_with_step laws c.args.program.now c.args.budget old c.loop-left.trace.items mid
    c.loop-left.left c.loop-left.run c.advance.new.self c.in-Some.found c.loop-left.finder
    c.next.new.finder before (g.R.Looks.looks c.loop-left.rules) next c.loop-left.invariant
    (omega (arith, c.loop-left-test.true)) c.next.ensures.looks e.0 e.1 e.2 stands in
    let ends = wanting_further laws c.args.program.now c.args.budget old mid
    c.go_on.new.trace.items (c.loop-left.left - 1) c.advance.new.self c.next.new.finder before next
    (g.R.Looks.looks c.go_on.new.rules) way c.in_err-left.ensures in
    record { runs = rw (p.1, p.2) ends.0; looks = ends.1 }

pub loop-left-preserved : goal.loop-left-preserved
loop-left-preserved g c =
    let e = c.in_ok-advance.ensures in
    let laws : StateLaws = record {
      keep = c.states_stay_typed.ensures.steps;
      sought = c.any_step_stays_behind.ensures.sought;
    } in
    let stands : StandsAt c.next.new.finder c.in-Some.found.at = moved_there c.in_ok-found.field-0
    c.in-Some.found c.loop-left.finder c.next.new.finder c.in_ok-found.ensures.moves c.in-Some.is in
    let old = c.args.trace.now.items in
    let mid = c.advance.new.trace.items in
    let before : ℕ = g.R.Looks.looks c.args.rules.now in
    let next : ℕ = g.R.Looks.looks c.next.new.rules in
    let way = way_with_step laws c.args.program.now c.args.budget old c.loop-left.trace.items mid
    c.loop-left.left c.loop-left.run c.advance.new.self c.in-Some.found c.loop-left.finder
    c.next.new.finder before (g.R.Looks.looks c.loop-left.rules) next c.loop-left.invariant
    (omega (arith, c.loop-left-test.true)) c.next.ensures.looks e.0 e.1 e.2 stands in
    way_further laws c.args.program.now c.args.budget old mid c.go_on.new.trace.items
    (c.loop-left.left - 1) _ c.advance.new.self c.go_on.new.run
    c.next.new.finder c.go_on.new.finder before next (g.R.Looks.looks c.go_on.new.rules) way
    c.in_ok-left.ensures

pub next-requires-2 : goal.next-requires-2
next-requires-2 g c = record {
  between = c.loop-left.invariant.underway.between;
  suits = c.loop-left.invariant.suits;
}

pub returns-in_err-next : goal.returns-in_err-next
returns-in_err-next g c =
    let p = err_from_is_err_and c.from_residual-in_err-next.result
    c.from_residual-in_err-next.ensures.1 in
    let h = c.loop-left.invariant in
    record {
      runs = rw (p.1, p.2)
          (ends_unready c.args.program.now c.args.budget c.args.trace.now.items c.loop-left.trace.items
          h.count c.loop-left.run h.underway (omega (arith, h.sum)));
      looks = looked_at_end c.args.program.now c.args.budget c.args.trace.now.items
          c.loop-left.trace.items c.loop-left.left c.loop-left.run c.loop-left.finder
          (g.R.Looks.looks c.args.rules.now) (g.R.Looks.looks c.loop-left.rules)
          (g.R.Looks.looks c.next-2.new.rules) h c.next-2.ensures.looks;
    }

pub returns-in-None : goal.returns-in-None
returns-in-None g c =
    let r = c.loop-left.run in
    let h = c.loop-left.invariant in
    record {
      runs = ends_done c.args.program.now c.args.budget c.args.trace.now.items c.loop-left.trace.items
          h.count r h.underway (omega (arith, h.sum))
          (none_found r.program.now r.made c.in_ok-next.field-0 c.in_ok-next.ensures.first
          c.in-None.is);
      looks = looked_at_end c.args.program.now c.args.budget c.args.trace.now.items
          c.loop-left.trace.items c.loop-left.left r c.loop-left.finder
          (g.R.Looks.looks c.args.rules.now) (g.R.Looks.looks c.loop-left.rules)
          (g.R.Looks.looks c.next-2.new.rules) h c.next-2.ensures.looks;
    }

pub returns-in-Some-2 : goal.returns-in-Some-2
returns-in-Some-2 g c =
    let old = c.args.trace.now.items in
    let r = c.loop-left.run in
    let h = c.loop-left.invariant in
    let all : h.count ≡ c.args.budget = omega (arith, h.sum, c.loop-left-test.false) in
    let under = subst (λ n. IsUnderway c.args.program.now old c.loop-left.trace.items n r) all
    h.underway in
    let f = c.in-Some-2.field-0 in
    record {
      runs = ends_spent c.args.program.now c.args.budget old c.loop-left.trace.items r _ _ under
          (first_found r.program.now r.made c.in_ok-next.field-0 f c.in_ok-next.ensures.first
          c.in-Some-2.is).is_first;
      looks = looked_at_end c.args.program.now c.args.budget old c.loop-left.trace.items
          c.loop-left.left r c.loop-left.finder (g.R.Looks.looks c.args.rules.now)
          (g.R.Looks.looks c.loop-left.rules) (g.R.Looks.looks c.next-2.new.rules) h
          c.next-2.ensures.looks;
    }
