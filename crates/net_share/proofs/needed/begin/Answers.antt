use Rattle.std.proofs.Common.{◌≡◌, List, length, false, sym, ap, subst, ◌∙◌, arith}
use Rattle.std.specs.List.{AllByRecursion}
use Rattle.std.proofs.lemmas.List.{length-replicate}
use Rattle.chw_base.specs.declared.index.WireId.{WireId}
use Rattle.net_share.specs.Marking.{IsListed, Marks, served}
use Rattle.net_share.proofs.Looking.{listed, looked_first, outputs_exist, server_within}
use Rattle.net_share.proofs.Marks.{marked_none}
use Rattle.net_share.proofs.needed.begin.Goals as goal

pub mark_all-requires-clause-marked : goal.mark_all-requires-clause-marked
mark_all-requires-clause-marked c =
    marked_none c.len.result c.in_ok-needed.needed.marks.items c.in_ok-needed.needed.found.items c.in_ok-needed.ensures.marks c.in_ok-needed.ensures.found

pub mark_all-requires-clause-servers : goal.mark_all-requires-clause-servers
mark_all-requires-clause-servers c = λ w v e.
    let within = server_within c.args.flat.now c.args.servers.now c.requires.sound c.requires.servers w v e in
    let long : length c.in_ok-needed.needed.marks.items ≡ c.len.result = ap length c.in_ok-needed.ensures.marks ∙ length-replicate c.len.result false in
    omega (arith, within, long, c.len.ensures)

pub mark_all-requires-clause-wires : goal.mark_all-requires-clause-wires
mark_all-requires-clause-wires c =
    let flat = c.args.flat.now in
    subst (λ (ws : List WireId). AllByRecursion (IsListed c.args.servers.now) ws) (sym c.as_slice.ensures)
    (listed c.args.servers.now flat.widths flat.outputs c.requires.servers.count (outputs_exist flat c.requires.sound))

pub returns : goal.returns
returns c =
    let flat = c.args.flat.now in
    let first = c.in_ok-needed.needed in
    let last = c.mark_all.new.needed in
    let long : length first.marks.items ≡ length flat.widths =
    ap length c.in_ok-needed.ensures.marks ∙ length-replicate c.len.result false ∙ c.len.ensures in
    let marks : Marks first.marks.items first.found.items last.marks.items last.found.items (served c.args.servers.now flat.outputs) =
    subst (λ (ws : List WireId). Marks first.marks.items first.found.items last.marks.items last.found.items (served c.args.servers.now ws)) c.as_slice.ensures
    c.in_ok-mark_all.ensures in
    looked_first flat c.args.servers.now c.requires.sound c.requires.servers first.marks.items first.found.items last.marks.items last.found.items long
    c.in_ok-needed.ensures.found marks
