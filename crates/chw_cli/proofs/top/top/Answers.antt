use Rattle.std.proofs.Common.{refl, subst, sym, ap}
use Rattle.chw_cli.specs.Delivery.{StopsAt, WritesAll}
use Rattle.chw_cli.specs.Outcome.{Told, stopped}
use Rattle.chw_cli.specs.Outcome.Outcome.{answered, refused, unwritten}
use Rattle.chw_cli.proofs.Commands.{laws_of, no_answer, not_refused}
use Rattle.chw_cli.proofs.Exactly.{cause, exact_by, reason, told_ends}
use Rattle.chw_cli.proofs.top.top.Goals as goal

pub returns-in-Ok-deliver-clause-outcome : goal.returns-in-Ok-deliver-clause-outcome
returns-in-Ok-deliver-clause-outcome g c =
    answered c.in-Ok.bytes.items c.in-Ok.ensures.answers
    (subst (λ b. WritesAll g.K.Sink.put_gives g.K.Sink.written g.K.Sink.faults b c.args.out.now c.deliver.new.out) c.as_slice.ensures.value c.in-Ok-deliver.ensures.all)
    refl

pub returns-in-Err-Fault-clause-outcome : goal.returns-in-Err-Fault-clause-outcome
returns-in-Err-Fault-clause-outcome g c =
    unwritten c.in-Ok.bytes.items c.in-Err-Fault.field-0 c.tell.result c.in-Ok.ensures.answers
    (subst (λ b. StopsAt g.K.Sink.put_gives g.K.Sink.written c.in-Err-Fault.field-0 b c.args.out.now c.deliver.new.out) c.as_slice.ensures.value c.in-Err-Fault.ensures.stops)
    c.in-Err-Fault.ensures.fault
    (subst (λ r. Told g.E.Sink.put_gives g.E.Sink.written g.E.Sink.faults r c.args.err.now c.tell.new.err c.tell.result) (ap stopped (sym c.in-Err-Fault.field-0-is)) c.tell.ensures)

pub returns-in-Ok-clause-outcome : goal.returns-in-Ok-clause-outcome
returns-in-Ok-clause-outcome g c =
    unwritten c.in-Ok.bytes.items c.in-Err-Memory.field-0 c.tell-in-Err-Memory.result c.in-Ok.ensures.answers
    (subst (λ b. StopsAt g.K.Sink.put_gives g.K.Sink.written c.in-Err-Memory.field-0 b c.args.out.now c.deliver.new.out) c.as_slice.ensures.value c.in-Err-Memory.ensures.stops)
    c.in-Err-Memory.ensures.fault
    (subst (λ r. Told g.E.Sink.put_gives g.E.Sink.written g.E.Sink.faults r c.args.err.now c.tell-in-Err-Memory.new.err c.tell-in-Err-Memory.result)
    (ap stopped (sym c.in-Err-Memory.field-0-is)) c.tell-in-Err-Memory.ensures)

pub returns-clause-outcome : goal.returns-clause-outcome
returns-clause-outcome g c = refused c.in-Err.refusal c.tell-in-Err.result c.in-Err.ensures.refuses refl c.tell-in-Err.ensures

pub returns-in-Ok-deliver-clause-exact : goal.returns-in-Ok-deliver-clause-exact
returns-in-Ok-deliver-clause-exact g c =
    let laws =
    laws_of c.one_splitting.ensures c.no_fault.ensures c.one_tree.ensures c.well_named_has_no_fault.ensures c.one_program.ensures c.typed_has_no_fault.ensures
    c.nothing_refuses_a_normal_run.ensures c.one_last_state.ensures c.nothing_refuses_a_compile.ensures.refused
    c.nothing_refuses_a_compile.ensures.compiled c.nothing_refuses_a_run.ensures.text
    c.nothing_refuses_a_run.ensures.stimulus c.refusals.ensures.stimulus in
    exact_by _ _ _ _ c.words_are_one_command.ensures (not_refused laws) (no_answer laws) _
    (reason _ _ _ _ _ _ _ _ _ _
    (cause g.F.Shelf.fetch_gives g.F.Shelf.told g.F.Shelf.faults c.args.words.now c.args.shelf.now c.answer.new.shelf c.words_are_one_command.ensures)
    (told_ends g.E.Sink.put_gives g.E.Sink.written g.E.Sink.faults c.args.err.now c.args.err.now) _ (returns-in-Ok-deliver-clause-outcome g c))

pub returns-in-Err-Fault-clause-exact : goal.returns-in-Err-Fault-clause-exact
returns-in-Err-Fault-clause-exact g c =
    let laws =
    laws_of c.one_splitting.ensures c.no_fault.ensures c.one_tree.ensures c.well_named_has_no_fault.ensures c.one_program.ensures c.typed_has_no_fault.ensures
    c.nothing_refuses_a_normal_run.ensures c.one_last_state.ensures c.nothing_refuses_a_compile.ensures.refused
    c.nothing_refuses_a_compile.ensures.compiled c.nothing_refuses_a_run.ensures.text
    c.nothing_refuses_a_run.ensures.stimulus c.refusals.ensures.stimulus in
    exact_by _ _ _ _ c.words_are_one_command.ensures (not_refused laws) (no_answer laws) _
    (reason _ _ _ _ _ _ _ _ _ _
    (cause g.F.Shelf.fetch_gives g.F.Shelf.told g.F.Shelf.faults c.args.words.now c.args.shelf.now c.answer.new.shelf c.words_are_one_command.ensures)
    (told_ends g.E.Sink.put_gives g.E.Sink.written g.E.Sink.faults c.args.err.now c.tell.new.err) _ (returns-in-Err-Fault-clause-outcome g c))

pub returns-in-Ok-clause-exact : goal.returns-in-Ok-clause-exact
returns-in-Ok-clause-exact g c =
    let laws =
    laws_of c.one_splitting.ensures c.no_fault.ensures c.one_tree.ensures c.well_named_has_no_fault.ensures c.one_program.ensures c.typed_has_no_fault.ensures
    c.nothing_refuses_a_normal_run.ensures c.one_last_state.ensures c.nothing_refuses_a_compile.ensures.refused
    c.nothing_refuses_a_compile.ensures.compiled c.nothing_refuses_a_run.ensures.text
    c.nothing_refuses_a_run.ensures.stimulus c.refusals.ensures.stimulus in
    exact_by _ _ _ _ c.words_are_one_command.ensures (not_refused laws) (no_answer laws) _
    (reason _ _ _ _ _ _ _ _ _ _
    (cause g.F.Shelf.fetch_gives g.F.Shelf.told g.F.Shelf.faults c.args.words.now c.args.shelf.now c.answer.new.shelf c.words_are_one_command.ensures)
    (told_ends g.E.Sink.put_gives g.E.Sink.written g.E.Sink.faults c.args.err.now c.tell-in-Err-Memory.new.err) _ (returns-in-Ok-clause-outcome g c))

pub returns-clause-exact : goal.returns-clause-exact
returns-clause-exact g c =
    let laws =
    laws_of c.one_splitting.ensures c.no_fault.ensures c.one_tree.ensures c.well_named_has_no_fault.ensures c.one_program.ensures c.typed_has_no_fault.ensures
    c.nothing_refuses_a_normal_run.ensures c.one_last_state.ensures c.nothing_refuses_a_compile.ensures.refused
    c.nothing_refuses_a_compile.ensures.compiled c.nothing_refuses_a_run.ensures.text
    c.nothing_refuses_a_run.ensures.stimulus c.refusals.ensures.stimulus in
    exact_by _ _ _ _ c.words_are_one_command.ensures (not_refused laws) (no_answer laws) _
    (reason _ _ _ _ _ _ _ _ _ _
    (cause g.F.Shelf.fetch_gives g.F.Shelf.told g.F.Shelf.faults c.args.words.now c.args.shelf.now c.answer.new.shelf c.words_are_one_command.ensures)
    (told_ends g.E.Sink.put_gives g.E.Sink.written g.E.Sink.faults c.args.err.now c.tell-in-Err.new.err) _ (returns-clause-outcome g c))
