-- The wires of a module, behind which an item stands with the first of them.
use Rattle.std.proofs.Common.{◌≡◌, ℕ, zero, suc, ◌<◌, ◌≤◌, true, List, [], ◌∷◌, map, Option, Some, None, refl, sym, ap, ◌∙◌, subst}
use Rattle.std.specs.Prelude.{slice_get, option_map}
use Rattle.std.specs.List.{AllByRecursion}
use Rattle.std.proofs.lemmas.Option.{get_or_from_slice_get, same_Some}
use Rattle.chw_base.specs.declared.limits.TheConstants.{RAM_WORDS, WIRE_BITS}
use Rattle.verilog_text.specs.Declared.{IsAsWide, IsOfKind}
use Rattle.verilog_text.specs.Declared.{Declared, Kind as SourceKind}
use Rattle.verilog_text.specs.Declared.Kind.{a_register, a_wire}
use Rattle.verilog_text.specs.Source.{Memory as MemoryItem}
use Rattle.verilog_text.specs.VForms.{IsLiteral}
use Rattle.verilog_tree.specs.Sources.{bytes_of, memory_if}
use Rattle.verilog_tree.specs.declared.item.Memory.{Memory}
use Rattle.verilog_tree.specs.declared.word.Word.{Word}
use Rattle.verilog_rules.specs.NameRules.{is_plain_register, may_be_driven, shows}
use Rattle.verilog_rules.specs.Resolving.{operand}
use Rattle.verilog_rules.specs.Texts.{number, width}
use Rattle.verilog_rules.specs.WidthRules.{kind_at, wide, wire_checks}
use Rattle.verilog_rules.specs.declared.resolved.Kind.{Kind}
use Rattle.verilog_rules.specs.declared.resolved.Kind.TheVariants as kind
use Rattle.verilog_rules.specs.declared.resolved.Wire.{Wire}
use Rattle.verilog_rules.proofs.Holding.{AllTrue}
use Rattle.verilog_rules.proofs.Operands.{Fit, Known, got_said, kind_said, said}

-- the widths of wires
abbrev pub widths_in : List Wire → List ℕ
widths_in full = map (λ (w : Wire). width w.line.range) full

-- the wires begin with these
abbrev pub Extends : List Wire → List Wire → Type 0
Extends ws full = (n : ℕ) (w : Wire) → slice_get ws n ≡ Some w → slice_get full n ≡ Some w

got_mapped : {A B : Type 0} (f : A → B) (xs : List A) (n : ℕ) (x : A) → slice_get xs n ≡ Some x → slice_get (map f xs) n ≡ Some (f x)
got_mapped f [] n x found = absurd (cc)
got_mapped f (y ∷ xs) zero x found = ap (option_map f) found
got_mapped f (y ∷ xs) (suc n) x found = got_mapped f xs n x found

pub fit : (ws full : List Wire) → Extends ws full → Fit ws (widths_in full)
fit ws full extends n w found = got_mapped (λ (w : Wire). width w.line.range) full n w (extends n w found)

pub each_at : {A : Type 0} (P : A → Type 0) (xs : List A) (n : ℕ) (x : A) → AllByRecursion P xs → slice_get xs n ≡ Some x → P x
each_at P [] n x all found = absurd (cc)
each_at P (y ∷ xs) zero x all found = subst P (same_Some y x found) all.0
each_at P (y ∷ xs) (suc n) x all found = each_at P xs n x all.1 found

pub kind_there : (ws full : List Wire) (a : Word) → Extends ws full → (k : Known ws a) → kind_at full (operand ws a) ≡ Some k.kind
kind_there ws full a extends k = rw (extends (operand ws a).wire.number k.wire k.found) (ap Some k.of_kind)

pub wide_there : (ws full : List Wire) (a : Word) → Extends ws full → (k : Known ws a) → wide (widths_in full) (operand ws a) ≡ width k.wire.line.range
wide_there ws full a extends k =
    get_or_from_slice_get (widths_in full) (operand ws a).wire.number (width k.wire.line.range) 0 (fit ws full extends (operand ws a).wire.number k.wire k.found)

pub as_wide : (ws : List Wire) (a : Word) → (k : Known ws a) → IsAsWide (map said ws) (operand ws a).wire (width k.wire.line.range)
as_wide ws a k = rw (got_said, k.found) refl

-- KINDS

pub plain_register : (o : Option Kind) → is_plain_register o ≡ true → (literal : Word) × (o ≡ Some (kind.Register literal None))
plain_register None is = absurd (cc)
plain_register (Some kind.Input) is = absurd (cc)
plain_register (Some kind.Plain) is = absurd (cc)
plain_register (Some (kind.Register literal None)) is = (literal, refl)
plain_register (Some (kind.Register literal (Some memory))) is = absurd (cc)

pub showing : (name : List ℕ) (o : Option Kind) → shows name o ≡ true
    → (literal : Word) × (memory : Memory) × (o ≡ Some (kind.Register literal (Some memory))) × (shows name (Some (kind.Register literal (Some memory))) ≡ true)
showing name None is = absurd (cc)
showing name (Some kind.Input) is = absurd (cc)
showing name (Some kind.Plain) is = absurd (cc)
showing name (Some (kind.Register literal None)) is = absurd (cc)
showing name (Some (kind.Register literal (Some memory))) is = (literal, memory, refl, is)

pub driven_kind : (o : Option Kind) → may_be_driven o ≡ true → (k : Kind) × (o ≡ Some k) × (may_be_driven (Some k) ≡ true)
driven_kind None is = absurd (cc)
driven_kind (Some k) is = (k, refl, is)

abbrev register_text : SourceKind → List ℕ
register_text (a_register text memory) = text
register_text _ = []

abbrev register_memory : SourceKind → Option MemoryItem
register_memory (a_register text memory) = memory
register_memory _ = None

pub register_said : (k : Kind) (text : List ℕ) (memory : Option MemoryItem) → kind_said k ≡ a_register text memory
    → (literal : Word) × (has : Option Memory) × (k ≡ kind.Register literal has) × (bytes_of literal ≡ text) × (memory_if has ≡ memory)
register_said kind.Input text memory said_is = absurd (cc)
register_said kind.Plain text memory said_is = absurd (cc)
register_said (kind.Register literal has) text memory said_is = (literal, has, refl, ap register_text said_is, ap register_memory said_is)

pub plain_said : (k : Kind) → kind_said k ≡ a_wire → k ≡ kind.Plain
plain_said kind.Input said_is = absurd (cc)
plain_said kind.Plain said_is = refl
plain_said (kind.Register literal has) said_is = absurd (cc)

-- the kind of a wire that is named
pub said_kind : (ws : List Wire) (a : Word) (k : Known ws a) (s : SourceKind) → IsOfKind (map said ws) (operand ws a).wire s → kind_said k.kind ≡ s
said_kind ws a k s is =
    let got : option_map (λ (d : Declared). d.kind) (slice_get (map said ws) (operand ws a).wire.number) ≡ Some (kind_said k.wire.kind) = rw (got_said, k.found) refl in
    ap kind_said (sym k.of_kind) ∙ same_Some (kind_said k.wire.kind) s (sym got ∙ is)

-- a declared wire has literals of the form
abbrev pub KindFormed : Kind → Type 0
KindFormed (kind.Register literal memory) = IsLiteral (bytes_of literal)
KindFormed _ = Unit {0}

-- the memory of a declared wire has no more words than it may have
abbrev pub HasFewPlaces : Kind → Type 0
HasFewPlaces (kind.Register literal (Some memory)) = number memory.places.to < RAM_WORDS
HasFewPlaces _ = Unit {0}

-- what is required of each wire of a module
pub record WireHolds (w : Wire) : Type 0 where
  pub formed : KindFormed w.kind
  pub checks : AllTrue (wire_checks w)
  pub narrow : width w.line.range ≤ WIRE_BITS
  pub few : HasFewPlaces w.kind

pub said_wide : (ws : List Wire) (a : Word) (k : Known ws a) (n : ℕ) → IsAsWide (map said ws) (operand ws a).wire n → width k.wire.line.range ≡ n
said_wide ws a k n is = same_Some (width k.wire.line.range) n (sym (as_wide ws a k) ∙ is)
