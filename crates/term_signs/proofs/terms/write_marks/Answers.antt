use Rattle.std.proofs.Common.{◌≡◌, sym, ap, ◌∙◌, [], ◌∷◌, ◌++◌, map, append_assoc, append-nil}
use Rattle.std.proofs.lemmas.List.{map-append}
use Rattle.std.proofs.lemmas.Simd.{map-map}
use Rattle.std.proofs.lemmas.Iterator.Adapters.{YieldsList-from_rev_slice}
use Rattle.std.proofs.lemmas.Iterator.Consumers.{YieldsList-end}
use Rattle.term_signs.specs.Written.{mark}
use Rattle.term_signs.proofs.terms.write_marks.Goals as goal

pub loop-arg-init : goal.loop-arg-init
loop-arg-init c = sym (append-nil c.args.out.now.items)

pub loop-arg-preserved : goal.loop-arg-preserved
loop-arg-preserved c =
    let start = c.args.out.now.items in
    let seen = c.loop-arg.yielded in
    let x = c.in-Some.arg in
    c.in_ok-push.ensures.items
    ∙ (λ i. c.loop-arg.invariant i ++ c.mark.ensures i ∷ [])
    ∙ append_assoc start (map (λ a. mark a.now) seen) (mark x.now ∷ [])
    ∙ ap (λ us. start ++ us) (sym (map-append (λ a. mark a.now) seen (x ∷ [])))

pub returns : goal.returns
returns c =
    let all = YieldsList-end (YieldsList-from_rev_slice c.args.args.now cc) c.loop-arg.yielded _ c.loop-arg.yielded_by _ _ c.in-None.is c.next.ensures.steps in
    c.loop-arg.invariant
    ∙ ap (λ us. c.args.out.now.items ++ us) (sym (map-map mark (λ a. a.now) c.loop-arg.yielded) ∙ ap (map mark) all.0)
