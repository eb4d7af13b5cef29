use Rattle.chw_bits.proofs.Numbers.{length-bits_of}
use Rattle.data_bits.proofs.Encoded.{added_small}
use Rattle.data_bits.proofs.encoding.encode.Goals as goal

pub of_list-requires : goal.of_list-requires
of_list-requires c = added_small c.args.datas.now c.args.t.now c.args.v.now _ _ length-bits_of c.new-bits.ensures.items c.requires.fits c.in_ok-encode_into.ensures
