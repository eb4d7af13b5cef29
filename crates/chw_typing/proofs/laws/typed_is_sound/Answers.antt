use Rattle.chw_typing.proofs.laws.typed_is_sound.Goals as goal

pub returns : goal.returns
returns c p tidy typed = record { begins = tidy.begins; kinds = tidy.kinds; fields = typed.fields; defs = typed.types; made = λ x t e. absurd (cc) }
