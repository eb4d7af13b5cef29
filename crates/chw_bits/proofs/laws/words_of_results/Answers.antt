use Rattle.chw_bits.proofs.WordResults.{word_of_sum, word_of_difference, word_of_product, word_of_multiple}
use Rattle.chw_bits.proofs.laws.words_of_results.Goals as goal

pub returns : goal.returns
returns c = record { sum = word_of_sum; difference = word_of_difference; product = word_of_product; multiple = word_of_multiple }
