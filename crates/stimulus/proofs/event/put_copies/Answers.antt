use Rattle.std.proofs.Common.{◌≡◌, ℕ, List, [], ◌∷◌, ◌+◌, ◌-◌, ◌++◌, replicate, refl, ap, ◌∙◌, arith, append_assoc}
use Rattle.std.proofs.lemmas.List.{replicate_more}
use Rattle.chw_clock.specs.declared.event.Event.{Event}
use Rattle.stimulus.proofs.event.put_copies.Goals as goal

-- one event more behind equal ones
one_more : (old before after : List Event) (event copy : Event) (n m : ℕ) → before ≡ old ++ replicate n event → after ≡ before ++ copy ∷ [] → copy ≡ event → n + 1 ≡ m
    → after ≡ old ++ replicate m event
one_more old before after event copy n m so_far put same next =
    put ∙ ap (λ es. es ++ copy ∷ []) so_far ∙ ap (λ e. (old ++ replicate n event) ++ e ∷ []) same ∙ append_assoc old (replicate n event) (event ∷ [])
    ∙ ap (λ es. old ++ es) (replicate_more n event) ∙ ap (λ k. old ++ replicate k event) next

pub loop-copy-preserved : goal.loop-copy-preserved
loop-copy-preserved c =
    one_more c.args.into.now.items c.loop-copy.into.items c.push.new.self.items c.args.event c.in_ok-copied.field-0 (c.loop-copy._copy - 1) (c.loop-copy._copy + 1 - 1) c.loop-copy.invariant
    c.in_ok-push.ensures.items c.in_ok-copied.ensures (omega arith)

pub returns : goal.returns
returns c =
    one_more c.args.into.now.items c.loop-copy.into.items c.push-2.new.self.items c.args.event c.args.event (c.loop-copy._copy - 1) c.args.count c.loop-copy.invariant
    c.in_ok-push-2.ensures.items refl (omega arith)
