use Rattle.std.proofs.Common.{Ok, Err, refl, ap, inl, inr}
use Rattle.chw_base.specs.declared.outcome.Or.TheVariants.{Fault}
use Rattle.chw_base.specs.declared.shelf.Fetched.TheVariants.{Whole, TooLong, Absent}
use Rattle.chw_cli.proofs.Asking.{gets}
use Rattle.chw_cli.proofs.Reasons.{nothing_told, nothing_wanting}
use Rattle.chw_cli.proofs.fetch.text_of.Goals as goal

pub returns-in-Ok-Whole-clause-text : goal.returns-in-Ok-Whole-clause-text
returns-in-Ok-Whole-clause-text g c =
    gets g.F.Shelf.fetch_gives g.F.Shelf.told g.F.Shelf.faults c.args.limit _ _ (Ok c.in-Ok-Whole.field-0) (Ok Whole) c.fetch.new.into.items c.args.shelf.now c.fetch.new.self
    c.as_text.ensures (ap Ok c.in-Ok-Whole.field-0-is) c.in-Ok-Whole.ensures.gives c.in-Ok-Whole.ensures.files c.in-Ok-Whole.ensures.fetches

pub returns-in-Ok-TooLong-clause-text : goal.returns-in-Ok-TooLong-clause-text
returns-in-Ok-TooLong-clause-text g c = (
  c.fetch.new.into.items,
  gets g.F.Shelf.fetch_gives g.F.Shelf.told g.F.Shelf.faults c.args.limit _ _ (Ok c.in-Ok-TooLong.field-0) (Ok TooLong) c.fetch.new.into.items c.args.shelf.now c.fetch.new.self
      c.as_text.ensures (ap Ok c.in-Ok-TooLong.field-0-is) c.in-Ok-TooLong.ensures.gives c.in-Ok-TooLong.ensures.files c.in-Ok-TooLong.ensures.fetches,
)

pub returns-in-Ok-Absent-clause-nothing : goal.returns-in-Ok-Absent-clause-nothing
returns-in-Ok-Absent-clause-nothing g c =
    nothing_told g.F.Shelf.fetch_gives g.F.Shelf.told g.F.Shelf.faults c.args.file.now c.args.limit c.args.shelf.now c.fetch.new.self (Ok Absent) c.fetch.new.into.items c.unread.result (inl refl)
    (gets g.F.Shelf.fetch_gives g.F.Shelf.told g.F.Shelf.faults c.args.limit _ _ (Ok c.in-Ok-Absent.field-0) (Ok Absent) c.fetch.new.into.items c.args.shelf.now c.fetch.new.self
    c.as_text.ensures (ap Ok c.in-Ok-Absent.field-0-is) c.in-Ok-Absent.ensures.gives c.in-Ok-Absent.ensures.files c.in-Ok-Absent.ensures.fetches) c.unread.ensures

pub returns-in-Err-Fault-clause-nothing : goal.returns-in-Err-Fault-clause-nothing
returns-in-Err-Fault-clause-nothing g c =
    nothing_told g.F.Shelf.fetch_gives g.F.Shelf.told g.F.Shelf.faults c.args.file.now c.args.limit c.args.shelf.now c.fetch.new.self (Err (Fault c.in-Err-Fault.field-0-0)) c.fetch.new.into.items
    c.unread-in-Err-Fault.result (inr (c.in-Err-Fault.field-0-0, refl))
    (gets g.F.Shelf.fetch_gives g.F.Shelf.told g.F.Shelf.faults c.args.limit _ _ (Err c.in-Err-Fault.field-0) (Err (Fault c.in-Err-Fault.field-0-0)) c.fetch.new.into.items c.args.shelf.now c.fetch.new.self
    c.as_text.ensures (ap Err c.in-Err-Fault.field-0-is) c.in-Err-Fault.ensures.gives c.in-Err-Fault.ensures.files c.in-Err-Fault.ensures.fetches)
    c.unread-in-Err-Fault.ensures

pub returns-clause-nothing : goal.returns-clause-nothing
returns-clause-nothing g c =
    nothing_wanting g.F.Shelf.fetch_gives g.F.Shelf.told g.F.Shelf.faults c.args.file.now c.args.limit c.args.shelf.now c.fetch.new.self (Err c.in-Err-Memory.field-0) c.fetch.new.into.items
    (gets g.F.Shelf.fetch_gives g.F.Shelf.told g.F.Shelf.faults c.args.limit _ _ (Err c.in-Err-Memory.field-0) (Err c.in-Err-Memory.field-0) c.fetch.new.into.items c.args.shelf.now c.fetch.new.self
    c.as_text.ensures refl c.in-Err-Memory.ensures.gives c.in-Err-Memory.ensures.files c.in-Err-Memory.ensures.fetches)
