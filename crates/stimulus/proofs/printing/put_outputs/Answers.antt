use Rattle.std.proofs.Common.{◌≡◌, ℕ, zero, suc, ◌≤◌, ◌++◌, List, Bool, [], ◌∷◌, drop, length, refl, sym, ap, ◌∙◌, arith}
use Rattle.std.specs.Prelude.{min}
use Rattle.std.proofs.lemmas.List.{append-nil}
use Rattle.chw_clock.specs.declared.event.Event.{Event}
use Rattle.chw_clock.specs.declared.event.Port.{Port}
use Rattle.stimulus.specs.Output.{outputs_text}
use Rattle.stimulus.proofs.printing.put_outputs.Goals as goal

no_bits : (event : Event) (ports : List Port) → outputs_text event ports [] ≡ []
no_bits event [] = refl
no_bits event (port ∷ ports) = refl

-- nothing is left where the ports or the outputs end
nothing_left : (event : Event) (n : ℕ) (ports : List Port) (outputs : List (List Bool)) → min (length ports) (length outputs) ≤ n → outputs_text event (drop n ports) (drop n outputs) ≡ []
nothing_left event zero [] outputs within = refl
nothing_left event zero (port ∷ ports) [] within = refl
nothing_left event zero (port ∷ ports) (bits ∷ outputs) within = absurd (omega arith)
nothing_left event (suc n) [] outputs within = refl
nothing_left event (suc n) (port ∷ ports) [] within = no_bits event (drop n ports)
nothing_left event (suc n) (port ∷ ports) (bits ∷ outputs) within = nothing_left event n ports outputs (omega arith)

pub returns : goal.returns
returns c =
    let l = c.loop-place in
    let none = nothing_left c.args.event.now l.place c.args.ports.now c.args.outputs.now (omega (arith, c.min-count.ensures)) in
    sym (append-nil l.into.items) ∙ ap (λ t. l.into.items ++ t) (sym none) ∙ l.invariant
