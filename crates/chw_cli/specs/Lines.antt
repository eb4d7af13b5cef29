-- The statuses with their codes, and the refusals with their statuses and lines.
use Rattle.std.specs.Prelude.{ℕ, List, ◌++◌, codes, decimal}
use Rattle.std.specs.List.{flat_map}
use Rattle.bit_blast.specs.declared.limit.TheConstants.{BIT_NODES}
use Rattle.chw_base.specs.declared.limits.TheConstants.{DESCRIPTION_BYTES, FLAT_WIRES, MADE_DEFINITIONS, MADE_DEPTH, NESTING}
use Rattle.chw_base.specs.declared.index.WireId.{WireId}
use Rattle.chw_cli.specs.declared.refusal.Refusal.{Refusal}
use Rattle.chw_cli.specs.declared.refusal.Refusal.TheVariants.{Words, Read, LongText, Lex, Syntax, Depth, Names, Types, DeepBody, FullTable, Spent, State, Verilog, Stimulus, Value, TooLarge, Loop, Bits, Write, Memory}
use Rattle.chw_cli.specs.declared.status.Status.{Status}
use Rattle.chw_check.specs.declared.fault.TypeFault.{TypeFault}
use Rattle.chw_check.specs.declared.fault.TypeFault.TheVariants.{Kind, Typing, Missing, NoDefault, NotPorts}
use Rattle.chw_limits.specs.Limits.{word_of}
use Rattle.chw_resolve.specs.declared.fault.NameFault.{NameFault}
use Rattle.chw_resolve.specs.declared.fault.NameFault.TheVariants.{Limit, Twice, Unknown, DataCycle, DefCycle}
use Rattle.chw_cli.specs.declared.status.Status.TheVariants as status
use Rattle.stimulus.specs.declared.fault.StimCode.{StimCode}
use Rattle.stimulus.specs.declared.fault.StimCode.TheVariants.{S01, S02, S03, S05}
use Rattle.verilog_rules.specs.declared.fault.VCode.{VCode}
use Rattle.verilog_rules.specs.declared.fault.VCode.TheVariants.{V01, V02, V03, V04, V05, V06}

abbrev pub code_of : Status → ℕ
code_of status.Ok = 0
code_of status.Refused = 1
code_of status.Words = 2
code_of status.Read = 3
code_of status.Write = 4
code_of status.Spent = 5
code_of status.Memory = 6
code_of status.Stimulus = 7
code_of status.Verilog = 8

abbrev pub status_of : Refusal → Status
status_of Words = status.Words
status_of (Read name) = status.Read
status_of LongText = status.Refused
status_of (Lex at) = status.Refused
status_of (Syntax at) = status.Refused
status_of Depth = status.Refused
status_of (Names fault) = status.Refused
status_of (Types fault) = status.Refused
status_of DeepBody = status.Refused
status_of FullTable = status.Refused
status_of (Spent steps) = status.Spent
status_of (State line) = status.Refused
status_of (Verilog fault) = status.Verilog
status_of (Stimulus fault) = status.Stimulus
status_of (Value line) = status.Stimulus
status_of TooLarge = status.Refused
status_of (Loop cycle) = status.Refused
status_of Bits = status.Refused
status_of Write = status.Write
status_of Memory = status.Memory

-- the numbers of wires, each after a space
abbrev pub wire_texts : List WireId → List ℕ
wire_texts wires = flat_map (λ (w : WireId). codes " " ++ decimal w.number) wires

-- names, each after a space
abbrev pub name_texts : List (List ℕ) → List ℕ
name_texts names = flat_map (λ (name : List ℕ). codes " " ++ name) names

-- words, a name, the place of its word, and a line feed
abbrev pub name_line : List ℕ → List ℕ → ℕ → List ℕ
name_line words name at = words ++ name ++ codes " at " ++ decimal at ++ codes "\n"

-- words, and all names of a circle
abbrev pub circle_line : List ℕ → List (List ℕ) → List ℕ
circle_line words names = words ++ name_texts names ++ codes "\n"

-- the line of a fault of names
abbrev pub fault_line : NameFault → List ℕ
fault_line (Limit l) = codes "chw: E03 limit " ++ word_of l.which ++ codes " " ++ decimal l.number ++ codes "\n"
fault_line (Twice name at) = name_line (codes "chw: E04 duplicate ") name at
fault_line (Unknown name at) = name_line (codes "chw: E05 unknown ") name at
fault_line (DataCycle names) = circle_line (codes "chw: E07 data cycle") names
fault_line (DefCycle names) = circle_line (codes "chw: E10 cycle") names

-- words, a name or a type, and a line feed
abbrev pub words_line : List ℕ → List ℕ → List ℕ
words_line words shown = words ++ shown ++ codes "\n"

-- the line of a fault of types
abbrev pub type_line : TypeFault → List ℕ
type_line (Kind name) = words_line (codes "chw: E06 kind in ") name
type_line (Typing name) = words_line (codes "chw: E08 type in ") name
type_line (Missing name con) = codes "chw: E09 missing " ++ con ++ codes " in " ++ name ++ codes "\n"
type_line (NoDefault name) = words_line (codes "chw: E09 default in ") name
type_line (NotPorts ty) = words_line (codes "chw: E11 top ") ty

-- the words before the place at which a Verilog text breaks a rule
abbrev pub rule_words : VCode → List ℕ
rule_words V01 = codes "chw: V01 at "
rule_words V02 = codes "chw: V02 at "
rule_words V03 = codes "chw: V03 at "
rule_words V04 = codes "chw: V04 at "
rule_words V05 = codes "chw: V05 at "
rule_words V06 = codes "chw: V06 at "

-- the words before the number of a line that a stimulus may not have
abbrev pub stim_words : StimCode → List ℕ
stim_words S01 = codes "chw: S01 line "
stim_words S02 = codes "chw: S02 line "
stim_words S03 = codes "chw: S03 line "
stim_words S05 = codes "chw: S05 line "

-- the one line that a refusal is told by
abbrev pub line_of : Refusal → List ℕ
line_of Words = codes "chw: words\n"
line_of (Read name) = codes "chw: read " ++ name ++ codes "\n"
line_of LongText = codes "chw: E03 limit text " ++ decimal DESCRIPTION_BYTES ++ codes "\n"
line_of (Lex at) = codes "chw: E01 lex at " ++ decimal at ++ codes "\n"
line_of (Syntax at) = codes "chw: E02 syntax at " ++ decimal at ++ codes "\n"
line_of Depth = codes "chw: E03 limit depth " ++ decimal NESTING ++ codes "\n"
line_of (Names fault) = fault_line fault
line_of (Types fault) = type_line fault
line_of DeepBody = codes "chw: E12 depth " ++ decimal MADE_DEPTH ++ codes "\n"
line_of FullTable = codes "chw: E17 size made " ++ decimal MADE_DEFINITIONS ++ codes "\n"
line_of (Spent steps) = codes "chw: E18 spent " ++ decimal steps ++ codes "\n"
line_of (State line) = line
line_of (Verilog fault) = rule_words fault.code ++ decimal fault.at ++ codes "\n"
line_of (Stimulus fault) = stim_words fault.code ++ decimal fault.line ++ codes "\n"
line_of (Value line) = codes "chw: S04 line " ++ decimal line ++ codes "\n"
line_of TooLarge = codes "chw: E17 size wires " ++ decimal FLAT_WIRES ++ codes "\n"
line_of (Loop cycle) = codes "chw: E16 loop" ++ wire_texts cycle ++ codes "\n"
line_of Bits = codes "chw: E21 bits " ++ decimal BIT_NODES ++ codes "\n"
line_of Write = codes "chw: write\n"
line_of Memory = codes "chw: memory\n"

-- the line of a refusal takes memory to make, if it shows a place, a number of steps, a file's
-- name, names, a type or wires
abbrev pub TakesMemory : Refusal → Type 0
TakesMemory (Read name) = Unit {0}
TakesMemory (Lex at) = Unit {0}
TakesMemory (Syntax at) = Unit {0}
TakesMemory (Names fault) = Unit {0}
TakesMemory (Types fault) = Unit {0}
TakesMemory (Spent steps) = Unit {0}
TakesMemory (Verilog fault) = Unit {0}
TakesMemory (Stimulus fault) = Unit {0}
TakesMemory (Value line) = Unit {0}
TakesMemory (Loop cycle) = Unit {0}
TakesMemory _ = ⊥
