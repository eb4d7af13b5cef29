use Rattle.std.proofs.Common.{sym, ◌∙◌, arith}
use Rattle.std.proofs.lemmas.Result.{on_ok_weaker}
use Rattle.net_share.proofs.Copies.{open_of}
use Rattle.net_share.proofs.Looking.{listed, looks_at_cell, looks_at_input, looks_at_known, reads_exist, server_within}
use Rattle.net_share.proofs.needed.look_at.Goals as goal

pub is_known-requires : goal.is_known-requires
is_known-requires c = omega (arith, c.requires.classes.known_of_each, c.requires.wire)

pub mark_reads-requires-clause-servers : goal.mark_reads-requires-clause-servers
mark_reads-requires-clause-servers c = λ w v e.
    let within = server_within c.args.flat.now c.args.servers.now c.requires.sound c.requires.servers w v e in
    omega (arith, within, c.requires.count)

pub mark_reads-requires-clause-wires : goal.mark_reads-requires-clause-wires
mark_reads-requires-clause-wires c =
    let flat = c.args.flat.now in
    let cell = c.in-Some.cell.now in
    listed c.args.servers.now flat.widths _ c.requires.servers.count (reads_exist flat c.args.w cell c.requires.sound c.in-Some.ensures.driven)

pub returns-then-is_known : goal.returns-then-is_known
returns-then-is_known c =
    let flat = c.args.flat.now in
    looks_at_known flat c.args.servers.now c.requires.sound c.requires.servers c.args.classes.now c.args.w c.args.needed.now.marks.items
    c.args.needed.now.found.items c.requires.classes c.requires.marked (sym c.is_known.ensures ∙ c.if-is_known.true)

pub returns-in_default : goal.returns-in_default
returns-in_default c =
    looks_at_input c.args.flat.now c.args.servers.now c.requires.sound c.requires.servers c.args.w c.args.needed.now.marks.items
    c.args.needed.now.found.items c.requires.marked c.in_default.ensures.input

pub returns : goal.returns
returns c =
    let flat = c.args.flat.now in
    let old = c.args.needed.now in
    let new = c.mark_reads.new.needed in
    let unknown = open_of flat c.args.classes.now c.requires.classes c.args.w (sym c.is_known.ensures ∙ c.if-is_known.false) in
    on_ok_weaker c.mark_reads.result
    (λ m. looks_at_cell flat c.args.servers.now c.requires.sound c.requires.servers c.args.w c.in-Some.cell.now old.marks.items old.found.items
    new.marks.items new.found.items unknown c.in-Some.ensures.driven m)
    c.mark_reads.ensures
