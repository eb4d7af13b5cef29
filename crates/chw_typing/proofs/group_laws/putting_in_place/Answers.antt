use Rattle.chw_typing.proofs.Exchanged.{put_in_place, in_place_absent}
use Rattle.chw_typing.proofs.group_laws.putting_in_place.Goals as goal

pub returns : goal.returns
returns c = record { put = put_in_place; absent = in_place_absent }
