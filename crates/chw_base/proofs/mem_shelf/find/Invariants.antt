use Rattle.std.proofs.Common.{◌≡◌, drop}
use Rattle.chw_base.specs.Files.{file_of}
use Rattle.chw_base.specs.InMemory.{plain}
use Rattle.chw_base.proofs.mem_shelf.find.Given as goal

abbrev pub invariant-loop-held : goal.invariant-loop-held
invariant-loop-held l = file_of (plain (drop l.held-index l.files)) l.name ≡ file_of (plain l.files) l.name
