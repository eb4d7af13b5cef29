use Rattle.std.proofs.Common.{◌≡◌, ◌-◌, length, arith}
use Rattle.open_letrec.specs.Places.{index_of}
use Rattle.open_letrec.proofs.Stored.{stored_for, last_side}
use Rattle.open_letrec.proofs.opened.OpenLetrec.stored.Goals as goal

pub returns : goal.returns
returns c =
    let o = c.self.inside in
    let f = stored_for o c.args.self.now c.self.invariant c.self.view_is in
    let at : c.len-last.result - 1 ≡ length o.waiting.items - 1 = omega (arith, c.len-last.ensures, o.waiting.ok.0) in
    (index_of o.places, last_side o c.args.self.now c.index-binding.result.now (c.len-last.result - 1) f c.requires at c.index-binding.ensures)
