use Rattle.std.proofs.Common.{get_or}
use Rattle.std.proofs.lemmas.Option.{slice_get-get_or}
use Rattle.net_share.proofs.numbering.new_names.Goals as goal

pub bounds-numbers-server : goal.bounds-numbers-server
bounds-numbers-server c =
    let servers = c.args.servers.now in
    let i = c.loop-server.server-index in
    c.requires i (get_or servers i 0) (slice_get-get_or servers i 0 c.loop-server-test.true)
