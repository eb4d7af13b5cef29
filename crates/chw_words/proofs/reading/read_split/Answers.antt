use Rattle.std.proofs.Common.{◌≡◌, ◌∙◌, sym, ap, map, Some, None, subst}
use Rattle.chw_words.specs.Form.{AreTexts}
use Rattle.chw_words.specs.Splitting.{IsUnflagged, asked_of}
use Rattle.chw_words.proofs.reading.read_split.Goals as goal

pub returns-in_default-clause-fault : goal.returns-in_default-clause-fault
returns-in_default-clause-fault c =
    let found = map (λ s. s.now) c.args.split.now.found.items in
    let nothing : asked_of found ≡ None = ap (λ it. asked_of (map (λ s. s.now) it)) (sym c.as_slice.ensures.value) ∙ sym c.in_default.ensures in
    λ command is. let bad : None ≡ Some is.it = sym nothing ∙ is.is_asked in absurd cc

pub read_unflagged-requires : goal.read_unflagged-requires
read_unflagged-requires c = subst AreTexts (sym (ap (map (λ s. s.now)) c.as_slice-2.ensures.value)) c.requires

pub returns-clause-command : goal.returns-clause-command
returns-clause-command c = record {
  it = c.in-Some.asked;
  is_asked = ap (λ it. asked_of (map (λ s. s.now) it)) (sym c.as_slice.ensures.value) ∙ sym c.in-Some.ensures;
  plain = c.in_ok-command.command;
  is_plain = subst (λ it. IsUnflagged it c.in_ok-command.command) (ap (map (λ s. s.now)) c.as_slice-2.ensures.value) c.in_ok-command.ensures.command;
  command_is = c.in_form.ensures;
}
