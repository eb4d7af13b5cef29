use Rattle.std.proofs.Common.{◌≡◌, ◌∙◌, sym, ap, map, subst}
use Rattle.std.proofs.lemmas.Result.{IfOk-weaker}
use Rattle.std.specs.Prelude.{MatchOption}
use Rattle.chw_words.specs.Commands.{AreNoCommand, IsCommand}
use Rattle.chw_words.specs.Form.{AreTexts}
use Rattle.chw_words.proofs.Lifting.{are_texts}
use Rattle.chw_words.proofs.Outcomes.{IfFault-weaker}
use Rattle.chw_words.proofs.reading.read_words.Goals as goal

pub returns-in_default-clause-fault : goal.returns-in_default-clause-fault
returns-in_default-clause-fault c =
    let no_texts : AreTexts c.args.words.now → ⊥ =
    subst (λ o. MatchOption o (AreTexts c.args.words.now → ⊥) (λ v. AreTexts c.args.words.now × (map (λ s. s.now) v.items ≡ c.args.words.now))) c.in_default.is c.in_ok-texts.ensures in
    λ command is. no_texts (are_texts c.args.words.now command is)

pub read_texts-requires : goal.read_texts-requires
read_texts-requires c =
    let words = c.args.words.now in
    let facts : AreTexts words × (map (λ s. s.now) c.in-Some.texts.items ≡ words) =
    subst (λ o. MatchOption o (AreTexts words → ⊥) (λ v. AreTexts words × (map (λ s. s.now) v.items ≡ words))) c.in-Some.is c.in_ok-texts.ensures in
    let read : map (λ s. s.now) c.as_slice.result.now ≡ words = ap (map (λ s. s.now)) c.as_slice.ensures.value ∙ facts.1 in
    subst AreTexts (sym read) facts.0

pub returns-clause-command : goal.returns-clause-command
returns-clause-command c =
    let words = c.args.words.now in
    let facts : AreTexts words × (map (λ s. s.now) c.in-Some.texts.items ≡ words) =
    subst (λ o. MatchOption o (AreTexts words → ⊥) (λ v. AreTexts words × (map (λ s. s.now) v.items ≡ words))) c.in-Some.is c.in_ok-texts.ensures in
    let read : map (λ s. s.now) c.as_slice.result.now ≡ words = ap (map (λ s. s.now)) c.as_slice.ensures.value ∙ facts.1 in
    IfOk-weaker c.read_texts.result _ _ (λ command is. subst (λ ws. IsCommand ws command) read is) c.read_texts.ensures.command

pub returns-clause-fault : goal.returns-clause-fault
returns-clause-fault c =
    let words = c.args.words.now in
    let facts : AreTexts words × (map (λ s. s.now) c.in-Some.texts.items ≡ words) =
    subst (λ o. MatchOption o (AreTexts words → ⊥) (λ v. AreTexts words × (map (λ s. s.now) v.items ≡ words))) c.in-Some.is c.in_ok-texts.ensures in
    let read : map (λ s. s.now) c.as_slice.result.now ≡ words = ap (map (λ s. s.now)) c.as_slice.ensures.value ∙ facts.1 in
    IfFault-weaker c.read_texts.result _ _ (λ f none. subst AreNoCommand read none) c.read_texts.ensures.fault
