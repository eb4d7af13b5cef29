use Rattle.std.proofs.Common.{refl}
use Rattle.chw_base.proofs.Untold.{found_untold}
use Rattle.chw_base.proofs.file_shelf.FileShelfShelf.fetch.Goals as goal

pub returns-in-Ok : goal.returns-in-Ok
returns-in-Ok g c = record {
  gives = c.in-Ok.ensures;
  files = refl;
  fetches = found_untold _ _ _ _ c.in-Ok.found _ c.in-Ok.ensures.1;
}
