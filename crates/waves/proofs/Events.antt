-- One event more.
use Rattle.std.proofs.Common.{◌≡◌, ℕ, ◌+◌, Bool, true, List, [], ◌∷◌, ◌++◌, length, refl, sym, ap, ◌∙◌, arith, append_assoc, cond, map, inl, inr, false, ◌*◌}
use Rattle.std.proofs.lemmas.List.{append-nil, length-append}
use Rattle.std.proofs.lemmas.Bool.Decides.{eqb_tells}
use Rattle.chw_bits.specs.Bitwise.{one_bit}
use Rattle.chw_clock.specs.declared.event.Event.{Event}
use Rattle.chw_clock.specs.declared.event.Ports.{Ports}
use Rattle.waves.specs.Holding.{HoldsVcd, Printed, last_values, listed, shown, with_event}
use Rattle.waves.specs.declared.values.Values.{Values}
use Rattle.waves.proofs.Changing.{levels_alone}
use Rattle.waves.proofs.Tables.{level_count}
use Rattle.waves.specs.Vcd.{changes, event_text, events_text, header_text, levels, time_line, values_at}

last_more : (ports : Ports) (last : List (List Bool)) (events : List Event) (outputs : List (List (List Bool))) (event : Event) (shown : List (List Bool))
    → length outputs ≡ length events → last_values ports last (events ++ event ∷ []) (outputs ++ shown ∷ []) ≡ values_at ports true event shown
last_more ports last [] [] event shown same = refl
last_more ports last [] (o ∷ outputs) event shown same = absurd (omega arith)
last_more ports last (e ∷ events) [] event shown same = absurd (omega arith)
last_more ports last (e ∷ events) (o ∷ outputs) event shown same = last_more ports (values_at ports true e o) events outputs event shown (omega arith)

text_more : (number : ℕ) (ports : Ports) (last : List (List Bool)) (events : List Event) (outputs : List (List (List Bool))) (event : Event)
    (shown : List (List Bool)) → length outputs ≡ length events
    → events_text number ports last (events ++ event ∷ []) (outputs ++ shown ∷ [])
    ≡ events_text number ports last events outputs ++ event_text (number + length events) ports (last_values ports last events outputs) event shown
text_more number ports last [] [] event shown same =
    let place : number ≡ number + 0 = omega arith in
    append-nil (event_text number ports last event shown) ∙ ap (λ n. event_text n ports last event shown) place
text_more number ports last [] (o ∷ outputs) event shown same = absurd (omega arith)
text_more number ports last (e ∷ events) [] event shown same = absurd (omega arith)
text_more number ports last (e ∷ events) (o ∷ outputs) event shown same =
    let place : number + 1 + length events ≡ number + length (e ∷ events) = omega arith in
    let next = values_at ports true e o in
    let now = event_text number ports last e o in
    let rest = events_text (number + 1) ports next events outputs in
    ap (λ t. now ++ t)
    (text_more (number + 1) ports next events outputs event shown (omega arith)
    ∙ ap (λ n. rest ++ event_text n ports (last_values ports next events outputs) event shown) place)
    ∙ sym (append_assoc now rest (event_text (number + length (e ∷ events)) ports (last_values ports next events outputs) event shown))

-- what is held with one event more
pub holds_more : (events : List Event) (outputs : List (List (List Bool))) (it : Printed) (event : Event) (shown : List (List Bool))
    → HoldsVcd events outputs it → HoldsVcd (events ++ event ∷ []) (outputs ++ shown ∷ []) (with_event event shown it)
holds_more events outputs it event shown held =
    let each = held.each in
    let count : it.events ≡ 0 + length events = omega (arith, held.count) in
    let so_far = events_text 0 it.ports [] events outputs in
    let last = last_values it.ports [] events outputs in
    record {
      each = omega (arith, each, length-append events (event ∷ []), length-append outputs (shown ∷ []));
      count = omega (arith, held.count, length-append events (event ∷ []));
      last = sym (last_more it.ports [] events outputs event shown each);
      text =
          ap (λ t. t ++ event_text it.events it.ports it.last event shown) held.text
          ∙ ap (λ n. (header_text it.ports ++ so_far) ++ event_text n it.ports it.last event shown) count
          ∙ ap (λ l. (header_text it.ports ++ so_far) ++ event_text (0 + length events) it.ports l event shown) held.last
          ∙ append_assoc (header_text it.ports) so_far (event_text (0 + length events) it.ports last event shown)
          ∙ ap (λ t. header_text it.ports ++ t) (sym (text_more 0 it.ports [] events outputs event shown each));
    }

-- the values of a table behind an event
shown_some : (n : ℕ) (values : Values) → shown (n + 1) values ≡ listed values
shown_some n values = elim (eqb_tells (n + 1) 0) [ inl same ↦ absurd (omega (arith, same.1)) | inr apart ↦ ap (λ b. cond b [] (listed values)) apart.0 ]

-- what a printer's fields say with one event more
pub view_more : (ports : Ports) (n : ℕ) (last new : Values) (text line : List ℕ) (it : Printed) (event : Event) (outputs : List (List Bool))
    → record { ports = ports; events = n; last = shown n last; text = text } ≡ it → line ≡ text ++ event_text n ports (shown n last) event outputs
    → listed new ≡ values_at ports true event outputs
    → record { ports = ports; events = n + 1; last = shown (n + 1) new; text = line } ≡ with_event event outputs it
view_more ports n last new text line it event outputs view written values =
    let old : Printed = record { ports = ports; events = n; last = shown n last; text = text } in
    let here : record { ports = ports; events = n + 1; last = shown (n + 1) new; text = line } ≡ with_event event outputs old =
    λ i. record { ports = ports; events = n + 1; last = (shown_some n new ∙ values) i; text = written i } in
    here ∙ ap (with_event event outputs) view

-- the lines of an event, as they are written
pub made_text : (ports : Ports) (number : ℕ) (last : List (List Bool)) (event : Event) (outputs : List (List Bool)) (low again high : List Bool) (inputs : List (List Bool))
    (a b c d e : List ℕ) → a ≡ [] → b ≡ a ++ time_line (2 * number) → low ≡ levels ports false event → inputs ≡ event.inputs
    → c ≡ b ++ changes 0 last (map one_bit low ++ (inputs ++ outputs)) → d ≡ c ++ time_line (2 * number + 1)
    → again ≡ levels ports false event → high ≡ levels ports true event → e ≡ d ++ changes 0 (map one_bit again) (map one_bit high)
    → e ≡ event_text number ports last event outputs
made_text ports number last event outputs low again high inputs a b c d e ea eb el ei ec ed eg eh ee =
    let even = time_line (2 * number) in
    let odd = time_line (2 * number + 1) in
    let rest = event.inputs ++ outputs in
    let first = changes 0 last (values_at ports false event outputs) in
    let same = level_count ports false event 0 ports.domains ∙ sym (level_count ports true event 0 ports.domains) in
    ee ∙ ap (λ t. t ++ changes 0 (map one_bit again) (map one_bit high)) (ed ∙ ap (λ t. t ++ odd) (ec ∙ ap (λ t. t ++ changes 0 last (map one_bit low ++ (inputs ++ outputs))) (eb ∙ ap (λ t. t ++ even) ea)))
    ∙ ap (λ l. ((even ++ changes 0 last (map one_bit l ++ (inputs ++ outputs))) ++ odd) ++ changes 0 (map one_bit again) (map one_bit high)) el
    ∙ ap (λ l. ((even ++ changes 0 last (map one_bit (levels ports false event) ++ (l ++ outputs))) ++ odd) ++ changes 0 (map one_bit again) (map one_bit high)) ei
    ∙ ap (λ l. ((even ++ first) ++ odd) ++ changes 0 (map one_bit l) (map one_bit high)) eg
    ∙ ap (λ l. ((even ++ first) ++ odd) ++ changes 0 (map one_bit (levels ports false event)) (map one_bit l)) eh
    ∙ ap (λ t. ((even ++ first) ++ odd) ++ t) (sym (levels_alone (levels ports false event) (levels ports true event) rest same))
