use Rattle.std.proofs.Common.{arith}
use Rattle.chw_text.proofs.TypeForms.{named_closed}
use Rattle.chw_text.proofs.types.closes_named.Goals as goal

pub returns-in-Simple : goal.returns-in-Simple
returns-in-Simple c = named_closed c.args.stand c.args.arguments.now (omega (arith, c.in-len1-up.len_at_least)) c.in-Simple.is
