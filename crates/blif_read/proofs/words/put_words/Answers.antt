use Rattle.std.proofs.Common.{◌≡◌, ◌∷◌, ◌++◌, sym, ap, ◌∙◌}
use Rattle.std.proofs.lemmas.List.{append-nil}
use Rattle.blif_text.specs.Lines.{words_in}
use Rattle.stimulus.specs.Texts.{texts}
use Rattle.stimulus.proofs.Splits.{texts_more}
use Rattle.blif_read.proofs.words.put_words.Goals as goal

pub loop-word-preserved : goal.loop-word-preserved
loop-word-preserved c =
    let l = c.loop-word in
    let whole : texts l.words.items ++ c.in-Some.word.now ∷ words_in c.in-Some.left.now ≡ texts c.args.words.now.items ++ words_in c.args.text.now =
    ap (λ ws. texts l.words.items ++ ws) (sym c.in-Some.ensures.some) ∙ l.invariant in
    ap (λ ps. texts ps ++ words_in c.in-Some.left.now) c.in_ok-push.ensures.items ∙ texts_more l.words.items c.in-Some.word _ _ whole

pub returns : goal.returns
returns c =
    let l = c.loop-word in
    sym (append-nil _) ∙ ap (λ ws. texts l.words.items ++ ws) (sym c.in_default.ensures.none) ∙ l.invariant
