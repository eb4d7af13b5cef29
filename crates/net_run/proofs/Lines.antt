-- One line more.
use Rattle.std.proofs.Common.{◌≡◌, ℕ, suc, ◌+◌, ◌≤◌, Bool, List, [], ◌∷◌, ◌++◌, length, take, refl, sym, ap, subst, ◌∙◌, arith, append_assoc}
use Rattle.std.proofs.lemmas.List.{append-nil, length-take}
use Rattle.chw_clock.specs.declared.event.Event.{Event}
use Rattle.chw_clock.specs.declared.event.Ports.{Ports}
use Rattle.netlist.specs.NetValue.{ReadValues}
use Rattle.netlist.specs.declared.net.Flat.{Flat}
use Rattle.stimulus.specs.Output.{line_text, lines_from}
use Rattle.net_run.specs.Runs.{IsRun, OutputsAt}
use Rattle.net_run.specs.Runs.OutputsAt.{none, more}

-- the past behind these events
abbrev pub past_after : List Event → List Event → List Event
past_after past [] = past
past_after past (event ∷ events) = past_after (event ∷ past) events

pub past_more : (past events : List Event) (event : Event) → past_after past (events ++ event ∷ []) ≡ event ∷ past_after past events
past_more past [] event = refl
past_more past (e ∷ events) event = past_more (e ∷ past) events event

pub outputs_more : (flat : Flat) (past events : List Event) (event : Event) (outputs : List (List Bool)) (others : List (List (List Bool)))
    → OutputsAt flat past events others → ReadValues flat (event ∷ past_after past events) flat.outputs outputs
    → OutputsAt flat past (events ++ event ∷ []) (others ++ outputs ∷ [])
outputs_more flat past _ event outputs _ (none _) read = more past [] event outputs [] read (none (event ∷ past))
outputs_more flat past _ event outputs _ (more _ events e first others its rest) read =
    more past (events ++ event ∷ []) e first (others ++ outputs ∷ []) its (outputs_more flat (e ∷ past) events event outputs others rest read)

pub lines_more : (flat : Flat) (ports : Ports) (number : ℕ) (past events : List Event) (event : Event) (outputs : List (List Bool))
    (others : List (List (List Bool))) → OutputsAt flat past events others
    → lines_from number ports (events ++ event ∷ []) (others ++ outputs ∷ [])
    ≡ lines_from number ports events others ++ line_text (number + length events) ports event outputs
lines_more flat ports number past _ event outputs _ (none _) =
    let place : number ≡ number + 0 = omega arith in
    append-nil (line_text number ports event outputs) ∙ ap (λ n. line_text n ports event outputs) place
lines_more flat ports number past _ event outputs _ (more _ events e first others its rest) =
    let place : suc number + length events ≡ number + length (e ∷ events) = omega arith in
    ap (λ l. line_text number ports e first ++ l)
    (lines_more flat ports (suc number) (e ∷ past) events event outputs others rest
    ∙ ap (λ n. lines_from (suc number) ports events others ++ line_text n ports event outputs) place)
    ∙ sym (append_assoc (line_text number ports e first) (lines_from (suc number) ports events others)
    (line_text (number + length (e ∷ events)) ports event outputs))

-- the run with one event more
pub run_more : (flat : Flat) (events : List Event) (number : ℕ) (event : Event) (outputs : List (List Bool)) (text line : List ℕ)
    → number ≤ length events → take (number + 1) events ≡ take number events ++ event ∷ [] → IsRun flat (take number events) text
    → ReadValues flat (event ∷ past_after [] (take number events)) flat.outputs outputs
    → line ≡ text ++ line_text number flat.ports event outputs → IsRun flat (take (number + 1) events) line
run_more flat events number event outputs text line le one run read is =
    let so_far = take number events in
    let place : number ≡ 0 + length so_far = omega (arith, le, length-take number events) in
    let lines : line ≡ lines_from 0 flat.ports (so_far ++ event ∷ []) (run.outputs ++ outputs ∷ []) =
    is ∙ ap (λ t. t ++ line_text number flat.ports event outputs) run.text_is
    ∙ ap (λ n. lines_from 0 flat.ports so_far run.outputs ++ line_text n flat.ports event outputs) place
    ∙ sym (lines_more flat flat.ports 0 [] so_far event outputs run.outputs run.shown) in
    subst (λ es. IsRun flat es line) (sym one)
    (record { outputs = run.outputs ++ outputs ∷ []; shown = outputs_more flat [] so_far event outputs run.outputs run.shown read; text_is = lines })
