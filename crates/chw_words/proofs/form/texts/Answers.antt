use Rattle.std.proofs.Common.{◌≡◌, ◌∙◌, ◌+◌, ◌++◌, [], ◌∷◌, sym, ap, ap₂, subst, map, take, arith}
use Rattle.std.specs.List.{All}
use Rattle.std.specs.Str.{IsUtf8}
use Rattle.std.proofs.lemmas.List.{map-append, take_all, take_more}
use Rattle.std.proofs.lemmas.List.Elements.{All-append, All-cons, All-nil}
use Rattle.chw_words.proofs.form.texts.Goals as goal

pub returns-in-Err : goal.returns-in-Err
returns-in-Err c =
    let word : c.as_slice.result.now ≡ c.word-item.result = c.as_slice.ensures in
    λ texts.
    let at : IsUtf8 c.word-item.result = subst (λ w. IsUtf8 w) (sym c.word-item.is) (texts c.loop-word.word-index c.word-item.result c.loop-word-test.true) in
    c.in-Err.ensures.cases.0 (subst (λ w. IsUtf8 w) (sym word) at)

pub loop-word-preserved : goal.loop-word-preserved
loop-word-preserved c =
    let words = c.args.words.now in
    let i = c.loop-word.word-index in
    let word = c.word-item.result in
    let more : take (i + 1) words ≡ take i words ++ word ∷ [] =
    take_more words i word c.loop-word-test.true ∙ ap (λ w. take i words ++ w ∷ []) (sym c.word-item.is) in
    let same : c.as_slice.result.now ≡ word = c.as_slice.ensures in
    let text : IsUtf8 word = subst (λ w. IsUtf8 w) same c.in-Ok.ensures.cases.1 in
    let all : All IsUtf8 (take i words ++ word ∷ []) = All-append IsUtf8 (take i words) (word ∷ []) c.loop-word.invariant.0 (All-cons IsUtf8 word [] text (All-nil IsUtf8)) in
    let now : c.in-Ok.text.now ≡ word = c.in-Ok.ensures.cases.0 ∙ same in (
      subst (λ ws. All IsUtf8 ws) (sym more) all,
      ap (map (λ s. s.now)) c.in_ok-push-in-Ok.ensures.items ∙ map-append (λ s. s.now) c.loop-word.texts.items (c.in-Ok.text ∷ [])
          ∙ ap₂ (λ ws w. ws ++ w ∷ []) c.loop-word.invariant.1 now ∙ sym more,
    )

pub returns : goal.returns
returns c =
    let words = c.args.words.now in
    let whole : take c.loop-word.word-index words ≡ words = take_all c.loop-word.word-index words (omega (arith, c.loop-word-test.false)) in
    (subst (λ ws. All IsUtf8 ws) whole c.loop-word.invariant.0, c.loop-word.invariant.1 ∙ whole)
