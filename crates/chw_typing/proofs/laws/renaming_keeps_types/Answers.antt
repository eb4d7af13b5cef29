use Rattle.std.proofs.Common.{◌++◌, length}
use Rattle.chw_types.specs.TypeMoves.{raised}
use Rattle.chw_typing.proofs.Renamed.{type_renamed, renames_shift}
use Rattle.chw_typing.proofs.laws.renaming_keeps_types.Goals as goal

pub returns : goal.returns
returns c = record {
  renaming = λ s kinds vars vars' e t ρ d h. type_renamed d ρ vars' h;
  shift = λ s kinds inner new outer e t d. type_renamed d (raised (length inner) (length new)) (inner ++ new ++ outer) (renames_shift inner new outer);
}
