use Rattle.std.proofs.Common.{false, length, replicate, sym, ap, subst, ◌∙◌}
use Rattle.std.proofs.lemmas.List.{with_items_is}
use Rattle.wire_classes.specs.Closed.{ShowsKnown}
use Rattle.wire_classes.specs.Partition.{AreOwn}
use Rattle.wire_classes.proofs.Beginning.{first_found}
use Rattle.wire_classes.proofs.Exact.{are_classes}
use Rattle.wire_classes.proofs.partition.classes_of.Goals as goal

pub find_all-requires : goal.find_all-requires
find_all-requires c =
    let flat = c.args.flat.now in
    let shown = subst (ShowsKnown flat) (sym c.deref.ensures.value) c.in_ok-values.ensures in
    let own = subst (AreOwn (length flat.widths)) (sym c.deref_mut.ensures.value) (subst (λ n. AreOwn n c.in_ok-of.of.items) c.len.ensures c.in_ok-of.ensures) in
    first_found flat c.deref_mut.result.now c.deref_mut-2.result.now c.deref.result.now c.requires.sound shown own
    (c.deref_mut-2.ensures.value ∙ c.in_ok-known.ensures ∙ ap (λ n. replicate n false) c.len-2.ensures)

pub returns : goal.returns
returns c =
    let of = with_items_is c.in_ok-of.of c.find_all.new.of (c.find_all.auto.of ∙ c.deref_mut.ensures.len) in
    let known = with_items_is c.in_ok-known.known c.find_all.new.known (c.find_all.auto.known ∙ c.deref_mut-2.ensures.len) in
    are_classes c.args.flat.now c.find_all.new.of c.find_all.new.known c.deref.result.now c.in_ok-find_all.ensures.found c.in_ok-find_all.ensures.closed
    (record { of = c.from.result; known = c.from-2.result; bits = c.from-3.result }) (c.from.ensures ∙ of) (c.from-2.ensures ∙ known)
    (c.from-3.ensures ∙ sym c.deref.ensures.value)
