use Rattle.chw_typing.proofs.TypesPut.{type_put}
use Rattle.chw_typing.proofs.TypesRenamed.{types_renamed, closed_type_put}
use Rattle.chw_typing.proofs.laws.putting_types_keeps_types.Goals as goal

pub returns : goal.returns
returns c = record {
  renaming = λ s kinds kinds' vars e t ρ h g d p. types_renamed d h g ρ kinds' p;
  putting = λ s kinds kinds' vars e t σ h g d p. type_put d h g σ kinds' p;
  closed = λ s inner outer vars e t a j h g d k. closed_type_put inner outer a j d h g k;
}
