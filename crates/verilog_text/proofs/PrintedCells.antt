-- The printed line of a cell splits into the tokens of its item.
use Rattle.std.proofs.Common.{◌≡◌, ℕ, ◌+◌, ◌-◌, ◌<◌, ◌≤◌, ◌^◌, Bool, true, false, cond, ltb, List, [], ◌∷◌, ◌++◌, length, map, Some, None, sym, refl, ap, arith}
use Rattle.std.specs.Prelude.{codes, decimal}
use Rattle.std.specs.List.{flat_map, AllByRecursion}
use Rattle.std.proofs.lemmas.Bool.{ltb-true}
use Rattle.std.proofs.lemmas.List.{append-nil, length-map, length-append}
use Rattle.chw_base.specs.Names.{IsUpper}
use Rattle.chw_base.specs.declared.limits.TheConstants.{ADDRESS_BITS, RAM_WORDS}
use Rattle.chw_base.specs.declared.index.DomId.{DomId}
use Rattle.chw_base.specs.declared.index.WireId.{WireId}
use Rattle.chw_bits.specs.Bits.{bits_of}
use Rattle.chw_clock.specs.Histories.{is_one_of}
use Rattle.netlist.specs.declared.net.Cell.{Cell}
use Rattle.netlist.specs.declared.net.Cell.TheVariants.{Const, Copy, Join, Cut, Un, Bin, Mux, Reg, Ram, Use}
use Rattle.netlist.specs.declared.net.Op1.{Op1}
use Rattle.netlist.specs.declared.net.Op1.TheVariants.{Not, RedAnd, RedOr, RedXor}
use Rattle.netlist.specs.declared.net.Op2.{Op2}
use Rattle.netlist.specs.declared.net.Op2.TheVariants.{Add, Sub, Mul, And, Or, Xor, Eq, LtU, LtS, Shl, Shr, Sar}
use Rattle.netlist.specs.declared.net.RamIn.{RamIn}
use Rattle.verilog_text.specs.Grammar.{commas as comma_tokens, clock_tokens, connection_tokens, initial_tokens, inside_tokens, item_tokens, keyword, literal, name, number, range_tokens, right_tokens, show_tokens, sign, signed_tokens, taken_tokens, word_tokens, write_tokens}
use Rattle.verilog_text.specs.Names.{clock_name, domain_name, input_text, memory_text, module_name, output_text, reset_name, use_text, wire_text}
use Rattle.verilog_text.specs.Source.{Connection, FirstWord, all_of}
use Rattle.verilog_text.specs.Source.Right.{binary, cut, join, unary}
use Rattle.verilog_text.specs.Text.{commas, Scope, always_line, assign_line, cell_line, choice_text, clock_names, initial_line, initial_text, left_text, line, literal_text, name_in, numbered, port_text, ram_text, range_text, right_text, sign1, sign2, signed_text, taken_text, taking_text, use_ports, within_text, word_text, zero_word}
use Rattle.verilog_text.specs.VForms.{HasForm, Token}
use Rattle.verilog_text.specs.VForms.Sort.{keyword as a_keyword, literal as a_literal, name as a_name, number as a_number}
use Rattle.verilog_text.proofs.Chunks.{are_pieces, Chunk, behind_free, blank, fixed, free, joined, mark, nought, plain_chunk, signed_word, with_tokens, word}
use Rattle.verilog_text.proofs.Longest.{is_token_byte}
use Rattle.verilog_text.proofs.OnePorts.{upper_at}
use Rattle.verilog_text.proofs.Pointwise.{Each, commas_chunk, concat_chunk, each_append, each_map, each_numbered}
use Rattle.verilog_text.proofs.PrintedNames.{BitLaws, HasBits, clock_form, literal_form, number_form, numbered_form, reset_form}
use Rattle.verilog_text.proofs.PrintedSource.{access_of, cell_item, connection, connections_of, no_word, numbered_as, reset_of, several, word_of}

-- the names of a scope are names
pub record NamesFit (scope : Scope) (outputs : ℕ) : Type 0 where
  pub domains : AllByRecursion IsUpper scope.domains
  pub some : 1 ≤ length scope.domains
  pub input : (k : ℕ) → k < scope.inputs → HasForm a_name (scope.input k)
  pub output : (k : ℕ) → k < outputs → HasForm a_name (scope.output k)

-- the number of the wire is one that a machine counts
abbrev pub IsSmall : WireId → Type 0
IsSmall w = w.number < 2 ^ 64

pub name_form : (scope : Scope) (n : ℕ) → NamesFit scope n → (w : WireId) → IsSmall w → HasForm a_name (name_in scope w)
name_form scope n fit w small = by_case (ltb w.number scope.inputs) refl
  where
    by_case : (b : Bool) → ltb w.number scope.inputs ≡ b → HasForm a_name (cond b (scope.input w.number) (wire_text w.number))
    by_case true is = fit.input w.number (ltb-true _ _ is)
    by_case false is = numbered_form 119 w.number refl small

pub clock_names_form : (resets : List DomId) (k : ℕ) (domains : List (List ℕ)) → AllByRecursion IsUpper domains → AllByRecursion (HasForm a_name) (clock_names resets k domains)
clock_names_form resets k [] forms = tt
clock_names_form resets k (d ∷ domains) forms =
    (clock_form d forms.0, with_reset (is_one_of resets (record { number = k })) (clock_names resets (k + 1) domains) (clock_names_form resets (k + 1) domains forms.1))
  where
    with_reset : (b : Bool) (rest : List (List ℕ)) → AllByRecursion (HasForm a_name) rest
        → AllByRecursion (HasForm a_name) ((cond b (reset_name d ∷ []) []) ++ rest)
    with_reset true rest all = (reset_form d forms.0, all)
    with_reset false rest all = all

pub clock_names_some : (resets : List DomId) (k : ℕ) (domains : List (List ℕ)) → 1 ≤ length domains → 1 ≤ length (clock_names resets k domains)
clock_names_some resets k [] some = absurd (omega arith)
clock_names_some resets k (d ∷ domains) some = omega arith

pub all_several : {A : Type 0} (none : A) (xs : List A) → 1 ≤ length xs → all_of (several none xs) ≡ xs
all_several none [] some = absurd (omega arith)
all_several none (x ∷ xs) some = refl

pub name_chunk : (n : List ℕ) → HasForm a_name n → Chunk n (name n ∷ []) is_token_byte
name_chunk n form = plain_chunk a_name n refl form

pub number_chunk : (n : ℕ) → n < 2 ^ 64 → Chunk (decimal n) (number (decimal n) ∷ []) is_token_byte
number_chunk n small = plain_chunk a_number (decimal n) refl (number_form n small)

pub literal_chunk : (bits : List Bool) → HasBits bits → Chunk (literal_text bits) (literal (literal_text bits) ∷ []) is_token_byte
literal_chunk bits has = plain_chunk a_literal (literal_text bits) refl (literal_form bits has)

abbrev pub before_semicolon : (ℕ → Bool) → Type 0
before_semicolon test = test 59 ≡ false

semicolon : Chunk (codes ";") (sign (codes ";") ∷ []) free
semicolon = fixed (mark (codes ";") ∷ []) refl

pub line_chunk : {text : List ℕ} {tokens : List Token} {test : ℕ → Bool} → Chunk text tokens test → test 10 ≡ false → Chunk (line text) tokens free
line_chunk {tokens = tokens} chunk ends =
    with_tokens (append-nil tokens) (joined (behind_free (fixed (blank 32 ∷ blank 32 ∷ []) refl) chunk) (λ rest ok. ends) (fixed (blank 10 ∷ []) refl))

pub range_chunk : (width : ℕ) → width < 2 ^ 64 → Chunk (range_text width) (range_tokens (record { from = decimal (width - 1); to = codes "0" })) free
range_chunk width small =
    joined (behind_free (fixed (mark (codes "[") ∷ []) refl) (number_chunk (width - 1) (omega arith))) (λ rest ok. refl)
    (fixed (mark (codes ":") ∷ nought ∷ mark (codes "]") ∷ []) refl)

-- assign W = ..;
pub assign_chunk : (n : List ℕ) {value : List ℕ} {tokens : List Token} {test : ℕ → Bool} → HasForm a_name n → Chunk value tokens test → before_semicolon test
    → Chunk (assign_line n value) (keyword (codes "assign") ∷ name n ∷ sign (codes "=") ∷ (tokens ++ sign (codes ";") ∷ [])) free
assign_chunk n form value ends =
    line_chunk (joined (behind_free
    (joined (behind_free (fixed (word (codes "assign") ∷ blank 32 ∷ []) refl) (name_chunk n form)) (λ rest ok. refl)
    (fixed (blank 32 ∷ mark (codes "=") ∷ blank 32 ∷ []) refl)) value) (λ rest ok. ends) semicolon) refl

-- always @(posedge clk_D) ..
always_chunk : (scope : Scope) (domain : DomId) {action : List ℕ} {tokens : List Token} {test : ℕ → Bool} → IsUpper (domain_name scope.domains domain) → Chunk action tokens test → test 10 ≡ false
    → Chunk (always_line scope domain action) (clock_tokens (clock_name (domain_name scope.domains domain)) ++ tokens) free
always_chunk scope domain upper action ends =
    line_chunk (behind_free (joined
    (behind_free (fixed (word (codes "always") ∷ blank 32 ∷ mark (codes "@") ∷ mark (codes "(") ∷ word (codes "posedge") ∷ blank 32 ∷ []) refl)
    (name_chunk (clock_name (domain_name scope.domains domain)) (clock_form (domain_name scope.domains domain) upper))) (λ rest ok. refl)
    (fixed (mark (codes ")") ∷ blank 32 ∷ []) refl)) action) ends

-- W <= ..;
taking_chunk : {left value : List ℕ} {first tokens : List Token} {before test : ℕ → Bool} → Chunk left first before → before 32 ≡ false → Chunk value tokens test → before_semicolon test
    → Chunk (taking_text left value) (((first ++ sign (codes "<=") ∷ []) ++ tokens) ++ sign (codes ";") ∷ []) free
taking_chunk left blank_ends value ends =
    joined (behind_free (joined left (λ rest ok. blank_ends) (fixed (blank 32 ∷ mark (codes "<=") ∷ blank 32 ∷ []) refl)) value) (λ rest ok. ends) semicolon

-- C ? A : B
choice_chunk : {condition a b : List ℕ} {first second third : List Token} {one two three : ℕ → Bool} → Chunk condition first one → one 32 ≡ false → Chunk a second two → two 32 ≡ false → Chunk b third three
    → Chunk (choice_text condition a b) ((((first ++ sign (codes "?") ∷ []) ++ second) ++ sign (codes ":") ∷ []) ++ third) three
choice_chunk condition condition_ends a a_ends b =
    behind_free (joined (behind_free (joined condition (λ rest ok. condition_ends) (fixed (blank 32 ∷ mark (codes "?") ∷ blank 32 ∷ []) refl)) a)
    (λ rest ok. a_ends) (fixed (blank 32 ∷ mark (codes ":") ∷ blank 32 ∷ []) refl)) b

-- {A, B}
join_chunk : (scope : Scope) (n : ℕ) → NamesFit scope n → (parts : List WireId) → 1 ≤ length parts → AllByRecursion IsSmall parts
    → Chunk (codes "{" ++ commas (map (name_in scope) parts) ++ codes "}") (right_tokens (join (several [] (map (name_in scope) parts)))) free
join_chunk scope n fit parts some small =
    let names = commas_chunk (λ (a : List ℕ). name a ∷ []) is_token_byte refl [] (map (name_in scope) parts) (map (name_in scope) parts)
    (let count = length-map parts (name_in scope) in omega arith)
    (each_map (λ (a : List ℕ). name a ∷ []) is_token_byte IsSmall (name_in scope) (name_in scope) (λ w is. name_chunk (name_in scope w) (name_form scope n fit w is)) parts small) in
    joined (behind_free (fixed (mark (codes "{") ∷ []) refl) names) (λ rest ok. refl) (fixed (mark (codes "}") ∷ []) refl)

-- A[7:0]
cut_chunk : (a : List ℕ) (high low : ℕ) → HasForm a_name a → high < 2 ^ 64 → low < 2 ^ 64
    → Chunk (a ++ codes "[" ++ decimal high ++ codes ":" ++ decimal low ++ codes "]") (right_tokens (cut a (record { from = decimal high; to = decimal low }))) free
cut_chunk a high low form high_small low_small =
    joined (behind_free (joined (behind_free (joined (name_chunk a form) (λ rest ok. refl) (fixed (mark (codes "[") ∷ []) refl)) (number_chunk high high_small)) (λ rest ok. refl)
    (fixed (mark (codes ":") ∷ []) refl)) (number_chunk low low_small)) (λ rest ok. refl) (fixed (mark (codes "]") ∷ []) refl)

unary_chunk : (op : Op1) (a : List ℕ) → HasForm a_name a → Chunk (sign1 op ++ a) (right_tokens (unary op a)) is_token_byte
unary_chunk Not a form = behind_free (fixed (mark (codes "~") ∷ []) refl) (name_chunk a form)
unary_chunk RedAnd a form = behind_free (fixed (mark (codes "&") ∷ []) refl) (name_chunk a form)
unary_chunk RedOr a form = behind_free (fixed (mark (codes "|") ∷ []) refl) (name_chunk a form)
unary_chunk RedXor a form = behind_free (fixed (mark (codes "^") ∷ []) refl) (name_chunk a form)

signed_chunk : (a : List ℕ) → HasForm a_name a → Chunk (signed_text a) (signed_tokens a) free
signed_chunk a form =
    joined (behind_free (fixed (signed_word ∷ mark (codes "(") ∷ []) refl) (name_chunk a form)) (λ rest ok. refl) (fixed (mark (codes ")") ∷ []) refl)

-- two names with a sign between
between_chunk : (bytes a b : List ℕ) → are_pieces (blank 32 ∷ mark bytes ∷ blank 32 ∷ []) ≡ true → HasForm a_name a → HasForm a_name b
    → Chunk (a ++ (32 ∷ (bytes ++ 32 ∷ [])) ++ b) (name a ∷ sign bytes ∷ name b ∷ []) is_token_byte
between_chunk bytes a b are a_form b_form =
    behind_free (joined (name_chunk a a_form) (λ rest ok. refl) (fixed (blank 32 ∷ mark bytes ∷ blank 32 ∷ []) are)) (name_chunk b b_form)

binary_chunk : (op : Op2) (a b : List ℕ) → HasForm a_name a → HasForm a_name b
    → (test : ℕ → Bool) × before_semicolon test × Chunk (left_text op a ++ sign2 op ++ right_text op b) (right_tokens (binary op a b)) test
binary_chunk Add a b a_form b_form = (is_token_byte, refl, between_chunk (codes "+") a b refl a_form b_form)
binary_chunk Sub a b a_form b_form = (is_token_byte, refl, between_chunk (codes "-") a b refl a_form b_form)
binary_chunk Mul a b a_form b_form = (is_token_byte, refl, between_chunk (codes "*") a b refl a_form b_form)
binary_chunk And a b a_form b_form = (is_token_byte, refl, between_chunk (codes "&") a b refl a_form b_form)
binary_chunk Or a b a_form b_form = (is_token_byte, refl, between_chunk (codes "|") a b refl a_form b_form)
binary_chunk Xor a b a_form b_form = (is_token_byte, refl, between_chunk (codes "^") a b refl a_form b_form)
binary_chunk Eq a b a_form b_form = (is_token_byte, refl, between_chunk (codes "==") a b refl a_form b_form)
binary_chunk LtU a b a_form b_form = (is_token_byte, refl, between_chunk (codes "<") a b refl a_form b_form)
binary_chunk Shl a b a_form b_form = (is_token_byte, refl, between_chunk (codes "<<") a b refl a_form b_form)
binary_chunk Shr a b a_form b_form = (is_token_byte, refl, between_chunk (codes ">>") a b refl a_form b_form)
binary_chunk LtS a b a_form b_form =
    (free, refl, behind_free (behind_free (signed_chunk a a_form) (fixed (blank 32 ∷ mark (codes "<") ∷ blank 32 ∷ []) refl)) (signed_chunk b b_form))
binary_chunk Sar a b a_form b_form =
    (is_token_byte, refl, behind_free (behind_free (signed_chunk a a_form) (fixed (blank 32 ∷ mark (codes ">>>") ∷ blank 32 ∷ []) refl)) (name_chunk b b_form))

-- what a register takes
taken_chunk : (scope : Scope) (n : ℕ) → NamesFit scope n → (domain : DomId) (initial : List Bool) (a : WireId) → IsUpper (domain_name scope.domains domain) → HasBits initial → IsSmall a
    → Chunk (taken_text scope domain initial a) (taken_tokens (reset_of scope domain initial) (name_in scope a)) is_token_byte
taken_chunk scope n fit domain initial a upper has small = by_case (is_one_of scope.resets domain)
  where
    input : Chunk (name_in scope a) (name (name_in scope a) ∷ []) is_token_byte
    input = name_chunk (name_in scope a) (name_form scope n fit a small)

    reset : List ℕ
    reset = reset_name (domain_name scope.domains domain)

    by_case : (b : Bool) → Chunk (cond b (choice_text (reset_name (domain_name scope.domains domain)) (literal_text initial) (name_in scope a)) (name_in scope a))
        (taken_tokens (cond b (Some (record { name = reset_name (domain_name scope.domains domain); literal = literal_text initial })) None) (name_in scope a)) is_token_byte
    by_case true =
        choice_chunk (name_chunk (reset_name (domain_name scope.domains domain)) (reset_form (domain_name scope.domains domain) upper)) refl (literal_chunk initial has) refl input
    by_case false = input

-- what a machine counts and a RAM may have
abbrev pub AreWordsFit : List (List Bool) → Type 0
AreWordsFit words = (1 ≤ length words) × (length words ≤ RAM_WORDS) × AllByRecursion HasBits words

memory_chunk : (wire : ℕ) → wire < 2 ^ 64 → Chunk (memory_text wire) (name (memory_text wire) ∷ []) is_token_byte
memory_chunk wire small = name_chunk (memory_text wire) (numbered_form 114 wire refl small)

-- r[..]
place_chunk : (wire : ℕ) {place : List ℕ} {tokens : List Token} → wire < 2 ^ 64 → Chunk place tokens is_token_byte
    → Chunk (word_text wire place) (((name (memory_text wire) ∷ sign (codes "[") ∷ []) ++ tokens) ++ sign (codes "]") ∷ []) free
place_chunk wire small place =
    joined (behind_free (joined (memory_chunk wire small) (λ rest ok. refl) (fixed (mark (codes "[") ∷ []) refl)) place) (λ rest ok. refl) (fixed (mark (codes "]") ∷ []) refl)

-- r[0] = 8'h00;
word_chunk : (wire : ℕ) → wire < 2 ^ 64 → (k : ℕ) (bits : List Bool) → k < 2 ^ 64 → HasBits bits → Chunk (initial_text wire k bits) (word_tokens (word_of wire k bits)) free
word_chunk wire small k bits k_small has =
    joined (behind_free (behind_free (place_chunk wire small (number_chunk k k_small)) (fixed (blank 32 ∷ mark (codes "=") ∷ blank 32 ∷ []) refl)) (literal_chunk bits has))
    (λ rest ok. refl) (fixed (mark (codes ";") ∷ blank 32 ∷ []) refl)

numbered_length : {A B : Type 0} (make : ℕ → A → B) (k : ℕ) (xs : List A) → length (numbered_as make k xs) ≡ length xs
numbered_length make k [] = refl
numbered_length make k (x ∷ xs) = let more = numbered_length make (k + 1) xs in omega arith

end_chunk : Chunk (codes "end") (keyword (codes "end") ∷ []) is_token_byte
end_chunk = plain_chunk a_keyword (codes "end") refl refl

initial_chunk : (wire : ℕ) (words : List (List Bool)) → wire < 2 ^ 64 → AreWordsFit words
    → Chunk (initial_line wire words) (initial_tokens (several no_word (numbered_as (word_of wire) 0 words))) free
initial_chunk wire words small fit =
    let count = numbered_length (word_of wire) 0 words in
    let some : 1 ≤ length (numbered_as (word_of wire) 0 words) = let at_least = fit.0 in omega arith in
    let at_most = fit.1 in
    let each = concat_chunk word_tokens (numbered (initial_text wire) 0 words) (numbered_as (word_of wire) 0 words)
    (each_numbered word_tokens free HasBits (2 ^ 64) (initial_text wire) (word_of wire) (λ k bits k_small has. word_chunk wire small k bits k_small has) 0 words (omega arith) fit.2) in
    with_tokens (ap (λ (l : List FirstWord). keyword (codes "initial") ∷ keyword (codes "begin") ∷ (flat_map word_tokens l ++ keyword (codes "end") ∷ []))
    (sym (all_several no_word (numbered_as (word_of wire) 0 words) some)))
    (line_chunk (behind_free (behind_free (fixed (word (codes "initial") ∷ blank 32 ∷ word (codes "begin") ∷ blank 32 ∷ []) refl) each) end_chunk) refl)

module _ (laws : BitLaws) (scope : Scope) (n : ℕ) (fit : NamesFit scope n) where
  wire_chunk : (w : WireId) → IsSmall w → Chunk (name_in scope w) (name (name_in scope w) ∷ []) is_token_byte
  wire_chunk w small = name_chunk (name_in scope w) (name_form scope n fit w small)

  count_bits : (count : ℕ) → HasBits (bits_of ADDRESS_BITS count)
  count_bits count = let long = laws.long 12 count in (omega arith, omega arith)

  -- (A < 12'h005)
  inside_chunk : (a : WireId) (wire count : ℕ) → IsSmall a → Chunk (within_text scope a count) (inside_tokens (access_of scope wire count a)) free
  inside_chunk a wire count small =
      joined (behind_free (joined (behind_free (fixed (mark (codes "(") ∷ []) refl) (wire_chunk a small)) (λ rest ok. refl) (fixed (blank 32 ∷ mark (codes "<") ∷ blank 32 ∷ []) refl))
      (literal_chunk (bits_of ADDRESS_BITS count) (count_bits count))) (λ rest ok. refl) (fixed (mark (codes ")") ∷ []) refl)

  ram_chunk : (w : WireId) (domain : DomId) (words : List (List Bool)) (inputs : RamIn) → IsSmall w → IsSmall inputs.read → IsSmall inputs.enable → IsSmall inputs.place → IsSmall inputs.value
      → HasBits (zero_word words)
      → Chunk (ram_text scope w words inputs)
      (keyword (codes "begin") ∷ (write_tokens (name_in scope inputs.enable) (access_of scope w.number (length words) inputs.place) (name_in scope inputs.value)
      ++ (show_tokens (name_in scope w) (access_of scope w.number (length words) inputs.read) (literal_text (zero_word words)) ++ keyword (codes "end") ∷ []))) is_token_byte
  ram_chunk w domain words inputs w_small read enable place value has =
      let count : ℕ = length words in
      let writes = joined (behind_free
      (behind_free (joined (behind_free (fixed (word (codes "if") ∷ blank 32 ∷ mark (codes "(") ∷ []) refl) (wire_chunk inputs.enable enable)) (λ rest ok. refl)
      (fixed (blank 32 ∷ mark (codes "&") ∷ blank 32 ∷ []) refl)) (inside_chunk inputs.place w.number count place)) (fixed (mark (codes ")") ∷ blank 32 ∷ []) refl)) (λ rest ok. refl)
      (taking_chunk (place_chunk w.number w_small (wire_chunk inputs.place place)) refl (wire_chunk inputs.value value) refl) in
      let shows = taking_chunk (wire_chunk w w_small) refl
      (choice_chunk (inside_chunk inputs.read w.number count read) refl (place_chunk w.number w_small (wire_chunk inputs.read read)) refl (literal_chunk (zero_word words) has)) refl in
      behind_free (behind_free (behind_free (behind_free (fixed (word (codes "begin") ∷ blank 32 ∷ []) refl) writes) (fixed (blank 32 ∷ []) refl)) shows)
      (behind_free (fixed (blank 32 ∷ []) refl) end_chunk)

  -- .p(a)
  port_chunk : (port wire : List ℕ) → HasForm a_name port → HasForm a_name wire → Chunk (port_text port wire) (connection_tokens (connection port wire)) free
  port_chunk port wire port_form wire_form =
      joined (behind_free (joined (behind_free (fixed (mark (codes ".") ∷ []) refl) (name_chunk port port_form)) (λ rest ok. refl) (fixed (mark (codes "(") ∷ []) refl)) (name_chunk wire wire_form))
      (λ rest ok. refl) (fixed (mark (codes ")") ∷ []) refl)

  ports_each : (reads drives : List WireId) → length reads ≤ 2 ^ 64 → length drives ≤ 2 ^ 64 → AllByRecursion IsSmall reads → AllByRecursion IsSmall drives
      → Each connection_tokens free (use_ports scope reads drives) (connections_of scope reads drives)
  ports_each reads drives reads_count drives_count read driven =
      let clocks : List (List ℕ) = clock_names scope.resets 0 scope.domains in
      each_append connection_tokens free (map (λ (n : List ℕ). port_text n n) clocks) _ (map (λ (n : List ℕ). connection n n) clocks) _
      (each_map connection_tokens free (HasForm a_name) (λ (n : List ℕ). port_text n n) (λ (n : List ℕ). connection n n) (λ m form. port_chunk m m form form) clocks
      (clock_names_form scope.resets 0 scope.domains fit.domains))
      (each_append connection_tokens free (numbered (λ k w. port_text (input_text k) (name_in scope w)) 0 reads) _ (numbered_as (λ k (w : WireId). connection (input_text k) (name_in scope w)) 0 reads) _
      (each_numbered connection_tokens free IsSmall (2 ^ 64) (λ k w. port_text (input_text k) (name_in scope w)) (λ k (w : WireId). connection (input_text k) (name_in scope w))
      (λ k w small is. port_chunk (input_text k) (name_in scope w) (numbered_form 105 k refl small) (name_form scope n fit w is)) 0 reads (omega arith) read)
      (each_numbered connection_tokens free IsSmall (2 ^ 64) (λ k w. port_text (output_text k) (name_in scope w)) (λ k (w : WireId). connection (output_text k) (name_in scope w))
      (λ k w small is. port_chunk (output_text k) (name_in scope w) (numbered_form 121 k refl small) (name_form scope n fit w is)) 0 drives (omega arith) driven))

  use_chunk : (k m : ℕ) (reads drives : List WireId) → k < 2 ^ 64 → m < 2 ^ 64 → length reads ≤ 2 ^ 64 → length drives ≤ 2 ^ 64 → AllByRecursion IsSmall reads → AllByRecursion IsSmall drives
      → Chunk (line (module_name m ++ codes " " ++ use_text k ++ codes " (" ++ commas (use_ports scope reads drives) ++ codes ");"))
      (name (module_name m) ∷ name (use_text k) ∷ sign (codes "(")
      ∷ (comma_tokens connection_tokens (several (connection [] []) (connections_of scope reads drives)).first (several (connection [] []) (connections_of scope reads drives)).others
      ++ sign (codes ")") ∷ sign (codes ";") ∷ [])) free
  use_chunk k m reads drives k_small m_small reads_count drives_count read driven =
      let clocks : List (List ℕ) = clock_names scope.resets 0 scope.domains in
      let signals : List Connection = map (λ (n : List ℕ). connection n n) clocks in
      let some : 1 ≤ length (connections_of scope reads drives) =
      omega (
        arith,
        clock_names_some scope.resets 0 scope.domains fit.some,
        length-map clocks (λ (n : List ℕ). connection n n),
        length-append signals
            (numbered_as (λ k (w : WireId). connection (input_text k) (name_in scope w)) 0 reads ++ numbered_as (λ k (w : WireId). connection (output_text k) (name_in scope w)) 0 drives),
      ) in
      let ports = commas_chunk connection_tokens free refl (connection [] []) (use_ports scope reads drives) (connections_of scope reads drives) some (ports_each reads drives reads_count drives_count read driven) in
      line_chunk (behind_free (behind_free
      (joined (behind_free (joined (name_chunk (module_name m) (numbered_form 109 m refl m_small)) (λ rest ok. refl) (fixed (blank 32 ∷ []) refl)) (name_chunk (use_text k) (numbered_form 117 k refl k_small)))
      (λ rest ok. refl) (fixed (blank 32 ∷ mark (codes "(") ∷ []) refl)) ports) (fixed (mark (codes ")") ∷ mark (codes ";") ∷ []) refl)) refl

  -- what a cell prints is what a machine counts
  abbrev pub Prints : Cell → Type 0
  Prints (Const w bits) = IsSmall w × HasBits bits
  Prints (Copy w a) = IsSmall w × IsSmall a
  Prints (Join w parts) = IsSmall w × (1 ≤ length parts) × AllByRecursion IsSmall parts
  Prints (Cut w a high low) = IsSmall w × IsSmall a × (high < 2 ^ 64) × (low < 2 ^ 64)
  Prints (Un w op a) = IsSmall w × IsSmall a
  Prints (Bin w op a b) = IsSmall w × IsSmall a × IsSmall b
  Prints (Mux w c a b) = IsSmall w × IsSmall c × IsSmall a × IsSmall b
  Prints (Reg w domain initial a) = IsSmall w × (domain.number < length scope.domains) × HasBits initial × IsSmall a
  Prints (Ram w domain words inputs) =
      IsSmall w × (domain.number < length scope.domains) × AreWordsFit words × HasBits (zero_word words)
      × IsSmall inputs.read × IsSmall inputs.enable × IsSmall inputs.place × IsSmall inputs.value
  Prints (Use m reads drives) =
      (m.number < 2 ^ 64) × (length reads ≤ 2 ^ 64) × (length drives ≤ 2 ^ 64) × AllByRecursion IsSmall reads × AllByRecursion IsSmall drives

  pub cell_chunk : (k : ℕ) (cell : Cell) → k < 2 ^ 64 → Prints cell → Chunk (cell_line scope k cell) (item_tokens (cell_item scope k cell)) free
  cell_chunk k (Const w bits) small is = assign_chunk (name_in scope w) (name_form scope n fit w is.0) (literal_chunk bits is.1) refl
  cell_chunk k (Copy w a) small is = assign_chunk (name_in scope w) (name_form scope n fit w is.0) (wire_chunk a is.1) refl
  cell_chunk k (Join w parts) small is = assign_chunk (name_in scope w) (name_form scope n fit w is.0) (join_chunk scope n fit parts is.1 is.2) refl
  cell_chunk k (Cut w a high low) small is =
      assign_chunk (name_in scope w) (name_form scope n fit w is.0) (cut_chunk (name_in scope a) high low (name_form scope n fit a is.1) is.2 is.3) refl
  cell_chunk k (Un w op a) small is = assign_chunk (name_in scope w) (name_form scope n fit w is.0) (unary_chunk op (name_in scope a) (name_form scope n fit a is.1)) refl
  cell_chunk k (Bin w op a b) small is =
      let right = binary_chunk op (name_in scope a) (name_in scope b) (name_form scope n fit a is.1) (name_form scope n fit b is.2) in
      assign_chunk (name_in scope w) (name_form scope n fit w is.0) right.2 right.1
  cell_chunk k (Mux w c a b) small is =
      assign_chunk (name_in scope w) (name_form scope n fit w is.0) (choice_chunk (wire_chunk c is.1) refl (wire_chunk a is.2) refl (wire_chunk b is.3)) refl
  cell_chunk k (Reg w domain initial a) small is =
      let upper = upper_at scope.domains domain.number fit.domains is.1 in
      always_chunk scope domain upper (taking_chunk (wire_chunk w is.0) refl (taken_chunk scope n fit domain initial a upper is.2 is.3) refl) refl
  cell_chunk k (Ram w domain words inputs) small is =
      let upper = upper_at scope.domains domain.number fit.domains is.1 in
      behind_free (initial_chunk w.number words is.0 is.2) (always_chunk scope domain upper (ram_chunk w domain words inputs is.0 is.4 is.5 is.6 is.7 is.3) refl)
  cell_chunk k (Use m reads drives) small is = use_chunk k m.number reads drives small is.0 is.1 is.2 is.3 is.4
