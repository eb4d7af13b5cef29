use Rattle.std.proofs.Common.{length, map}
use Rattle.chw_typing.proofs.MoreMade.{typed_with_made, term_types_with_made, sound_with_made}
use Rattle.chw_typing.proofs.typed_part_laws.more_made.Goals as goal

pub returns : goal.returns
returns c =
    record {
      has_type = λ s more kinds vars e t d. typed_with_made d more;
      term_types = term_types_with_made;
      sound = sound_with_made;
      bodies = λ scene scene' p m i.
          record { datas = (p i).datas; domains = length (p i).domains; defs = map (λ d. d.ty) (p i).defs; made = m i };
    }
