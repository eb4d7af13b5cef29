use Rattle.std.proofs.Common.{◌≡◌, [], ◌∷◌, ◌++◌, length, sym, ap, ◌∙◌, arith}
use Rattle.std.proofs.lemmas.List.{append-nil}
use Rattle.stimulus.specs.Texts.{before, split_at, texts}
use Rattle.stimulus.proofs.Splits.{behind_shorter, split_first, split_last, texts_more}
use Rattle.stimulus.proofs.cut.split_at.Goals as goal

pub loop-part-smaller : goal.loop-part-smaller
loop-part-smaller c =
    let shorter = behind_shorter c.args.byte c.loop-part.left.text.now c.in-Some.ensures.has in
    omega (arith, ap length c.in-Some.ensures.behind)

pub loop-part-preserved : goal.loop-part-preserved
loop-part-preserved c =
    let left = c.loop-part.left.text.now in
    let first = split_first c.args.byte left c.in-Some.ensures.has in
    let parts : texts c.loop-part.parts.items ++ c.in-Some.part.now ∷ split_at c.args.byte c.in-Some.rest.now ≡ split_at c.args.byte c.args.text.now =
    ap (λ p. texts c.loop-part.parts.items ++ p ∷ split_at c.args.byte c.in-Some.rest.now) c.in-Some.ensures.before
    ∙ ap (λ r. texts c.loop-part.parts.items ++ before c.args.byte left ∷ split_at c.args.byte r) c.in-Some.ensures.behind
    ∙ ap (λ ps. texts c.loop-part.parts.items ++ ps) (sym first) ∙ c.loop-part.invariant in
    ap (λ ps. texts ps ++ split_at c.args.byte c.in-Some.rest.now) c.in_ok-push.ensures.items ∙ texts_more c.loop-part.parts.items c.in-Some.part _ _ parts

pub returns : goal.returns
returns c =
    let left = c.loop-part.left.text.now in
    let last = split_last c.args.byte left c.in_default.ensures.none in
    let parts : texts c.loop-part.parts.items ++ left ∷ [] ≡ split_at c.args.byte c.args.text.now =
    ap (λ ps. texts c.loop-part.parts.items ++ ps) (sym last) ∙ c.loop-part.invariant in
    ap texts c.in_ok-push-2.ensures.items ∙ sym (append-nil _) ∙ texts_more c.loop-part.parts.items c.loop-part.left.text [] _ parts
