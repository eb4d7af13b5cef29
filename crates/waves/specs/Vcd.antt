-- The text of waves: a value change dump, IEEE 1364-2005, clause 18. Its variables are the clocks,
-- resets, inputs and outputs of ports, and each event has two times: just before its edges, and at
-- them.
use Rattle.std.specs.Prelude.{ℕ, ◌+◌, ◌*◌, ◌==◌, Bool, true, false, ◌&&◌, if◌then◌else◌}
use Rattle.std.specs.Prelude.{List, [], ◌∷◌, ◌++◌, map, drop, codes, decimal}
use Rattle.std.specs.Bool.{beq}
use Rattle.std.specs.Cmp.Lexicographic.{pointwise}
use Rattle.std.specs.Int.Digits.{digits_of}
use Rattle.chw_bits.specs.Bitwise.{one_bit}
use Rattle.chw_clock.specs.Histories.{has_reset, resets, ticks}
use Rattle.chw_clock.specs.declared.event.Event.{Event}
use Rattle.chw_clock.specs.declared.event.Port.{Port}
use Rattle.chw_clock.specs.declared.event.Ports.{Ports}
use Rattle.verilog_text.specs.Names.{input_name, output_name}
use Rattle.verilog_text.specs.Text.{clock_names}
use Rattle.waves.specs.declared.wave.WaveVar.{WaveVar}

-- a variable of this name and width
abbrev pub variable : List ℕ → ℕ → WaveVar
variable word width = record { name = word; width = width }

-- that of a clock or a reset
abbrev pub signal : List ℕ → WaveVar
signal word = variable word 1

-- that of an input
abbrev pub input_variable : List (List ℕ) → Port → WaveVar
input_variable domains port = variable (input_name domains port) port.width

-- that of an output
abbrev pub output_variable : List (List ℕ) → Port → WaveVar
output_variable domains port = variable (output_name domains port) port.width

-- the clocks, each with its reset behind it where its domain has one; the inputs; the outputs
abbrev pub variables : Ports → List WaveVar
variables ports =
    map signal (clock_names ports.resets 0 ports.domains)
    ++ (map (input_variable ports.domains) ports.inputs
    ++ map (output_variable ports.domains) ports.outputs)

-- the code of the variable of this number: its digits in base 94, each as a character from `!` on
abbrev pub code_of : ℕ → List ℕ
code_of k = if k == 0 then 33 ∷ [] else map (λ digit. 33 + digit) (digits_of 94 k)

-- the line that declares the variable of this number
abbrev pub variable_line : ℕ → WaveVar → List ℕ
variable_line k it =
    codes "$var wire " ++ decimal it.width ++ codes " " ++ code_of k ++ codes " " ++ it.name
    ++ codes " $end\n"

-- those of the variables from this number on
abbrev pub variable_lines : ℕ → List WaveVar → List ℕ
variable_lines k [] = []
variable_lines k (it ∷ others) = variable_line k it ++ variable_lines (k + 1) others

-- what stands before the first time
abbrev pub header_text : Ports → List ℕ
header_text ports =
    codes "$timescale 1 ns $end\n$scope module chw_top $end\n" ++ variable_lines 0 (variables ports)
    ++ codes "$upscope $end\n$enddefinitions $end\n"

-- the clock of the domain of this number, which is up where the edges are shown and it ticks, and
-- its reset where it has one
abbrev pub domain_levels : Ports → (risen : Bool) → Event → ℕ → List Bool
domain_levels ports risen event k =
    (risen && ticks event (record { number = k }))
    ∷ (if has_reset ports (record { number = k }) then resets event (record { number = k }) ∷ []
    else [])

-- those of the domains from this number on, which have these names
abbrev pub levels_from : Ports → (risen : Bool) → Event → ℕ → List (List ℕ) → List Bool
levels_from ports risen event k [] = []
levels_from ports risen event k (domain ∷ domains) =
    domain_levels ports risen event k ++ levels_from ports risen event (k + 1) domains

-- those of all domains
abbrev pub levels : Ports → (risen : Bool) → Event → List Bool
levels ports risen event = levels_from ports risen event 0 ports.domains

-- the values of all variables
abbrev pub values_at : Ports → (risen : Bool) → Event → List (List Bool) → List (List Bool)
values_at ports risen event outputs =
    map one_bit (levels ports risen event) ++ (event.inputs ++ outputs)

-- a bit as its digit
abbrev pub digit_of : Bool → ℕ
digit_of bit = if bit then 49 else 48

-- a value before its code: one bit as its digit, more as `b`, all bits and a space
abbrev pub value_text : List Bool → List ℕ
value_text (bit ∷ []) = digit_of bit ∷ []
value_text bits = codes "b" ++ map digit_of bits ++ codes " "

-- the line of a value of the variable of this number
abbrev pub value_line : ℕ → List Bool → List ℕ
value_line k bits = value_text bits ++ code_of k ++ codes "\n"

-- the first of the old values, if there is one, has these bits
abbrev pub is_shown : List (List Bool) → List Bool → Bool
is_shown [] bits = false
is_shown (was ∷ old) bits = pointwise beq was bits

-- the lines of the new values from variable k on, but for those that are as the old ones. Where
-- there are no old values, all are new.
abbrev pub changes : ℕ → (old new : List (List Bool)) → List ℕ
changes k old [] = []
changes k old (bits ∷ new) =
    (if is_shown old bits then [] else value_line k bits) ++ changes (k + 1) (drop 1 old) new

-- the line of a time
abbrev pub time_line : ℕ → List ℕ
time_line time = codes "#" ++ decimal time ++ codes "\n"

-- both times of the event of this number, behind a time at which the variables had these values
abbrev pub event_text : ℕ → Ports → List (List Bool) → Event → List (List Bool) → List ℕ
event_text number ports last event outputs =
    time_line (2 * number) ++ changes 0 last (values_at ports false event outputs)
    ++ time_line (2 * number + 1)
    ++ changes 0 (values_at ports false event outputs) (values_at ports true event outputs)

-- those of the events from this number on, each with its outputs
abbrev pub events_text : ℕ → Ports → List (List Bool) → List Event → List (List (List Bool))
    → List ℕ
events_text number ports last (event ∷ events) (outputs ∷ others) =
    event_text number ports last event outputs
    ++ events_text (number + 1) ports (values_at ports true event outputs) events others
events_text number ports last _ _ = []

-- the text of waves of these events, each with the values of all outputs
abbrev pub Vcd : Ports → List Event → List (List (List Bool)) → List ℕ
Vcd ports events outputs = header_text ports ++ events_text 0 ports [] events outputs
