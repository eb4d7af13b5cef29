use Rattle.answers.proofs.MakeAnswer.Stimuli.{made_stimuli}
use Rattle.answers.proofs.MakeAnswer.StimulusValues.{of_values}
use Rattle.answers.proofs.make_answer.laws.made_stimuli.Goals as goal

pub returns-clause-read : goal.returns-clause-read
returns-clause-read c =
    let read = c.digits_read_back.ensures in
    made_stimuli c.length_of_made_bits.ensures (record { digits = read.digits; width = read.width; same = read.same })

pub returns-clause-values : goal.returns-clause-values
returns-clause-values c =
    let read = c.digits_read_back.ensures in
    of_values c.length_of_made_bits.ensures (record { digits = read.digits; width = read.width; same = read.same })
