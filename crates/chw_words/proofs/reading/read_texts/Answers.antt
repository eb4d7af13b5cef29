use Rattle.std.proofs.Common.{◌≡◌, sym, ap, map, false, [], ◌∷◌, subst}
use Rattle.std.proofs.lemmas.List.{nil_from_length}
use Rattle.std.proofs.lemmas.List.Elements.{All-cons, All-head, All-tail}
use Rattle.std.proofs.lemmas.Result.{IfOk-weaker}
use Rattle.std.specs.List.{All}
use Rattle.std.specs.Str.{IsUtf8}
use Rattle.chw_words.specs.Commands.{AreNoCommand, IsCommand}
use Rattle.chw_words.specs.Splitting.{IsFormed, flags_of, rest_from}
use Rattle.chw_words.proofs.Lifting.{lifted, lowered, none_is_no_command}
use Rattle.chw_words.proofs.Outcomes.{IfFault-weaker}
use Rattle.chw_words.proofs.Splitting.{rest_texts}
use Rattle.chw_words.proofs.reading.read_texts.Goals as goal

pub returns-in_default-clause-fault : goal.returns-in_default-clause-fault
returns-in_default-clause-fault c =
    let no_words : map (λ s. s.now) c.args.words.now ≡ [] = ap (map (λ s. s.now)) (nil_from_length c.args.words.now c.in_default.ensures.cases) in
    subst AreNoCommand (sym no_words) none_is_no_command

pub read_split-outcome-requires : goal.read_split-outcome-requires
read_split-outcome-requires c =
    let command = c.in-Some.command.now.now in
    let others = map (λ s. s.now) c.in-Some.others.now in
    let words : map (λ s. s.now) c.args.words.now ≡ command ∷ others = ap (map (λ s. s.now)) c.in-Some.ensures.cases.0 in
    let texts : All IsUtf8 (command ∷ others) = subst (All IsUtf8) words c.requires in
    subst (All IsUtf8) (sym c.in_ok-split.ensures.rest)
    (All-cons IsUtf8 command (rest_from (flags_of command) false others) (All-head IsUtf8 command others texts)
    (rest_texts (flags_of command) false others (All-tail IsUtf8 command others texts)))

pub returns-clause-command : goal.returns-clause-command
returns-clause-command c =
    let command = c.in-Some.command.now.now in
    let others = map (λ s. s.now) c.in-Some.others.now in
    let words : map (λ s. s.now) c.args.words.now ≡ command ∷ others = ap (map (λ s. s.now)) c.in-Some.ensures.cases.0 in
    let rest = c.in_ok-split.ensures.rest in
    let found = c.in_ok-split.ensures.found in
    IfOk-weaker c.read_split-outcome.result _ _
    (λ it is. subst (λ ws. IsCommand ws it) (sym words)
    (lifted command others it (subst (λ f. IsFormed (command ∷ rest_from (flags_of command) false others) f it) found (subst (λ r. IsFormed r (map (λ s. s.now) c.in_ok-split.split.found.items) it) rest is))))
    c.read_split-outcome.ensures.command

pub returns-clause-fault : goal.returns-clause-fault
returns-clause-fault c =
    let command = c.in-Some.command.now.now in
    let others = map (λ s. s.now) c.in-Some.others.now in
    let words : map (λ s. s.now) c.args.words.now ≡ command ∷ others = ap (map (λ s. s.now)) c.in-Some.ensures.cases.0 in
    let rest = c.in_ok-split.ensures.rest in
    let found = c.in_ok-split.ensures.found in
    IfFault-weaker c.read_split-outcome.result _ _
    (λ f none it is.
    let formed = lowered command others it (subst (λ ws. IsCommand ws it) words is) in
    none it (subst (λ r. IsFormed r (map (λ s. s.now) c.in_ok-split.split.found.items) it) (sym rest)
    (subst (λ f. IsFormed (command ∷ rest_from (flags_of command) false others) f it) (sym found) formed)))
    c.read_split-outcome.ensures.fault
