use Rattle.chw_meaning.proofs.MeantSound.{gives_sound, ports_sound, fits_sound, means_sound}
use Rattle.chw_meaning.proofs.laws.computed_meaning_is_so.Goals as goal

pub returns : goal.returns
returns c =
    let represents = c.measured_types.ensures.back in
    let is_value = c.encodings.ensures.value in
    record {
      given = λ d p e t ins h k v x. (gives_sound represents is_value d p e t ins h k).of v x;
      ports = λ d p ports x. (ports_sound represents is_value d p).of ports x;
      fit = λ d p h ins x. (fits_sound represents is_value d p h).of ins x;
      meaning = λ d p h k v x. (means_sound represents is_value d p h k).of v x;
    }
