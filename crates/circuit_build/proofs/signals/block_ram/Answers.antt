use Rattle.std.proofs.Common.{refl}
use Rattle.std.proofs.lemmas.Result.{on_ok_weaker}
use Rattle.value_build.specs.InScope.{in_scope}
use Rattle.circuit_build.specs.Arguments.{memory_args}
use Rattle.circuit_build.proofs.Readiness.{block_ram_known}
use Rattle.circuit_build.proofs.SignalCells.{block_ram_made}
use Rattle.circuit_build.proofs.signals.block_ram.Goals as goal

pub domain_of-domain-requires : goal.domain_of-domain-requires
domain_of-domain-requires c =
    let p = c.args.p in
    (block_ram_known c.args.base.now.datas c.args.widths.now p.domain.now p.last.now p.bits.now p.payload.now p.words.now p.read.now p.write.now c.requires.ready).0

pub one_width-w-requires : goal.one_width-w-requires
one_width-w-requires c =
    let p = c.args.p in
    (block_ram_known c.args.base.now.datas c.args.widths.now p.domain.now p.last.now p.bits.now p.payload.now p.words.now p.read.now p.write.now c.requires.ready).1

pub constant_words-requires : goal.constant_words-requires
constant_words-requires c = let p = c.args.p in
    record { words = (block_ram_known c.args.base.now.datas c.args.widths.now p.domain.now p.last.now p.bits.now p.payload.now p.words.now p.read.now p.write.now c.requires.ready).2 }

pub returns-clause-cells : goal.returns-clause-cells
returns-clause-cells c =
    let p = c.args.p in
    on_ok_weaker c.memory.result
    (λ is. block_ram_made c.args.base.now (in_scope c.args.scope.now) c.domain_of-domain.result p.domain.now p.last.now p.bits.now p.payload.now
    p.words.now p.read.now p.write.now c.one_width-w.result c.closed_number-k.result c.in_ok-words.words c.wires_of-read.result.now c.wires_of-write.result.now
    (memory_args p) c.args.widths.now c.args.into.now c.memory.new.into
    refl c.domain_of-domain.ensures c.one_width-w.ensures c.in_ok-words.ensures.words c.closed_number-k.ensures c.wires_of-read.ensures c.wires_of-write.ensures is)
    c.memory.ensures
