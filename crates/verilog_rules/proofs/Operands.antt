-- Names of wires: what is known behind declarations is the wire of a number, with its kind and width.
use Rattle.std.proofs.Common.{◌≡◌, ℕ, zero, suc, ◌+◌, Bool, true, false, cond, List, [], ◌∷◌, map, Option, Some, None, refl, sym, ap, ◌∙◌, arith}
use Rattle.std.specs.Prelude.{slice_get, option_map, is_some}
use Rattle.std.specs.Option.{unwrap_or}
use Rattle.std.specs.Str.{bytes_eq}
use Rattle.std.proofs.lemmas.Bool.{false≢true}
use Rattle.std.proofs.lemmas.Option.{get_or_from_slice_get, same_Some}
use Rattle.chw_base.specs.declared.index.WireId.{WireId}
use Rattle.name_tables.specs.Names.{place_of}
use Rattle.netlist.specs.Sound.{HasWidth}
use Rattle.verilog_text.specs.Declared.{Declared, IsNameOf, IsOfKind, name_of}
use Rattle.verilog_text.specs.Declared.Kind.{a_register, a_wire, an_input}
use Rattle.verilog_text.specs.Declared.{Kind as SourceKind}
use Rattle.verilog_tree.specs.Sources.{bytes_of, line_of, memory_if}
use Rattle.verilog_tree.specs.declared.word.Word.{Word}
use Rattle.verilog_rules.specs.Declarations.{wire_name}
use Rattle.verilog_rules.specs.NameRules.{kind_of, operand_check}
use Rattle.verilog_rules.specs.Resolving.{operand}
use Rattle.verilog_rules.specs.Texts.{width}
use Rattle.verilog_rules.specs.WidthRules.{wide}
use Rattle.verilog_rules.specs.declared.resolved.Kind.{Kind}
use Rattle.verilog_rules.specs.declared.resolved.Kind.TheVariants as kind
use Rattle.verilog_rules.specs.declared.resolved.Wire.{Wire}

-- the kind, without places
abbrev pub kind_said : Kind → SourceKind
kind_said kind.Input = an_input
kind_said kind.Plain = a_wire
kind_said (kind.Register literal memory) = a_register (bytes_of literal) (memory_if memory)

-- the wire, without places
abbrev pub said : Wire → Declared
said w = record { line = line_of w.line; kind = kind_said w.kind }

pub names_said : (ws : List Wire) → map name_of (map said ws) ≡ map wire_name ws
names_said [] = refl
names_said (w ∷ ws) = ap (λ (rest : List (List ℕ)). wire_name w ∷ rest) (names_said ws)

-- of a name that is known, the kind is that at its place
pub known_kind : (ws : List Wire) (name : List ℕ) (k : Kind) → kind_of ws name ≡ Some k
    → (n : ℕ) × (place_of (map wire_name ws) name ≡ Some n) × (option_map (λ (w : Wire). w.kind) (slice_get ws n) ≡ Some k)
known_kind [] name k known = absurd (cc)
known_kind (w ∷ ws) name k known = by_case (bytes_eq name (wire_name w)) refl known (known_kind ws name k)
  where
    by_case : (b : Bool) → bytes_eq name (wire_name w) ≡ b → cond b (Some w.kind) (kind_of ws name) ≡ Some k
        → (kind_of ws name ≡ Some k → (n : ℕ) × (place_of (map wire_name ws) name ≡ Some n) × (option_map (λ (w : Wire). w.kind) (slice_get ws n) ≡ Some k))
        → (n : ℕ) × (place_of (map wire_name (w ∷ ws)) name ≡ Some n) × (option_map (λ (w : Wire). w.kind) (slice_get (w ∷ ws) n) ≡ Some k)
    by_case true is at later = (0, rw is refl, at)
    by_case false is at later =
        let more = later at in
        (suc more.0, rw is (rw more.1 (ap Some (omega arith))), more.2)

-- a name at a place has the kind there
pub placed_kind : (ws : List Wire) (name : List ℕ) (n : ℕ) → place_of (map wire_name ws) name ≡ Some n
    → kind_of ws name ≡ option_map (λ (w : Wire). w.kind) (slice_get ws n)
placed_kind [] name n placed = absurd (cc)
placed_kind (w ∷ ws) name n placed = by_case (bytes_eq name (wire_name w)) refl (place_of (map wire_name ws) name) refl placed (placed_kind ws name)
  where
    by_case : (b : Bool) → bytes_eq name (wire_name w) ≡ b → (o : Option ℕ) → place_of (map wire_name ws) name ≡ o
        → cond b (Some 0) (option_map (λ (p : ℕ). p + 1) o) ≡ Some n
        → ((p : ℕ) → place_of (map wire_name ws) name ≡ Some p → kind_of ws name ≡ option_map (λ (w : Wire). w.kind) (slice_get ws p))
        → cond b (Some w.kind) (kind_of ws name) ≡ option_map (λ (w : Wire). w.kind) (slice_get (w ∷ ws) n)
    by_case true is o o_is at later =
        let first : n ≡ 0 = sym (same_Some 0 n at) in
        rw first refl
    by_case false is None o_is at later = absurd (cc)
    by_case false is (Some p) o_is at later =
        let next : n ≡ suc p = sym (same_Some (p + 1) n at) ∙ omega arith in
        rw next (later p o_is)

pub among_known : (ws : List Wire) (name : List ℕ) (n : ℕ) → place_of (map wire_name ws) name ≡ Some n → is_some (kind_of ws name) ≡ true
among_known [] name n placed = absurd (cc)
among_known (w ∷ ws) name n placed = by_case (bytes_eq name (wire_name w)) refl (place_of (map wire_name ws) name) refl placed (among_known ws name)
  where
    by_case : (b : Bool) → bytes_eq name (wire_name w) ≡ b → (o : Option ℕ) → place_of (map wire_name ws) name ≡ o
        → cond b (Some 0) (option_map (λ (p : ℕ). p + 1) o) ≡ Some n
        → ((p : ℕ) → place_of (map wire_name ws) name ≡ Some p → is_some (kind_of ws name) ≡ true)
        → is_some (cond b (Some w.kind) (kind_of ws name)) ≡ true
    by_case true is o o_is at later = refl
    by_case false is None o_is at later = absurd (cc)
    by_case false is (Some p) o_is at later = later p o_is

pub within : (ws : List Wire) (n : ℕ) (k : Kind) → option_map (λ (w : Wire). w.kind) (slice_get ws n) ≡ Some k
    → (w : Wire) × (slice_get ws n ≡ Some w) × (w.kind ≡ k)
within ws n k has = by_case (slice_get ws n) refl has
  where
    by_case : (o : Option Wire) → slice_get ws n ≡ o → option_map (λ (w : Wire). w.kind) o ≡ Some k → (w : Wire) × (slice_get ws n ≡ Some w) × (w.kind ≡ k)
    by_case None is at = absurd (cc)
    by_case (Some w) is at = (w, is, same_Some w.kind k at)

pub got_said : (ws : List Wire) (n : ℕ) → slice_get (map said ws) n ≡ option_map said (slice_get ws n)
got_said [] n = refl
got_said (w ∷ ws) zero = refl
got_said (w ∷ ws) (suc n) = got_said ws n

-- the widths are those of the wires, and maybe of more
abbrev pub Fit : List Wire → List ℕ → Type 0
Fit ws widths = (n : ℕ) (w : Wire) → slice_get ws n ≡ Some w → slice_get widths n ≡ Some (width w.line.range)

-- a wire that a name is known as
pub record Known (ws : List Wire) (a : Word) : Type 0 where
  pub kind : Kind
  pub has_kind : kind_of ws (bytes_of a) ≡ Some kind
  pub wire : Wire
  pub placed : place_of (map wire_name ws) (bytes_of a) ≡ Some (operand ws a).wire.number
  pub found : slice_get ws (operand ws a).wire.number ≡ Some wire
  pub of_kind : wire.kind ≡ kind

pub known_as : (ws : List Wire) (a : Word) (k : Kind) → kind_of ws (bytes_of a) ≡ Some k → Known ws a
known_as ws a k has =
    let at = known_kind ws (bytes_of a) k has in
    let number : (operand ws a).wire.number ≡ at.0 = ap (λ (o : Option ℕ). unwrap_or o 0) at.1 in
    let inside = within ws at.0 k at.2 in
    record {
      kind = k;
      has_kind = has;
      wire = inside.0;
      placed = at.1 ∙ ap Some (sym number);
      found = rw number inside.1;
      of_kind = inside.2;
    }

pub known : (ws : List Wire) (a : Word) → is_some (kind_of ws (bytes_of a)) ≡ true → Known ws a
known ws a is = by_case (kind_of ws (bytes_of a)) refl is
  where
    by_case : (o : Option Kind) → kind_of ws (bytes_of a) ≡ o → is_some o ≡ true → Known ws a
    by_case None o_is at = absurd (false≢true at)
    by_case (Some k) o_is at = known_as ws a k o_is

pub named : (ws : List Wire) (a : Word) → Known ws a → IsNameOf (map said ws) (bytes_of a) (operand ws a).wire
named ws a k = rw names_said k.placed

wire_at : ℕ → WireId
wire_at n = record { number = n }

pub same_wire : (v w : WireId) → v.number ≡ w.number → v ≡ w
same_wire v w same = grind (arith)

pub named_back : (ws : List Wire) (a : Word) (w : WireId) → IsNameOf (map said ws) (bytes_of a) w → Known ws a × ((operand ws a).wire ≡ w)
named_back ws a w is =
    let placed : place_of (map wire_name ws) (bytes_of a) ≡ Some w.number = rw names_said at is in
    let number : (operand ws a).wire.number ≡ w.number = ap (λ (o : Option ℕ). unwrap_or o 0) placed in
    (known ws a (among_known ws (bytes_of a) w.number placed), same_wire (operand ws a).wire w number)

pub is_known : (ws : List Wire) (a : Word) → Known ws a → (operand_check ws a).holds ≡ true
is_known ws a k = rw k.has_kind refl

pub has_width : (ws : List Wire) (widths : List ℕ) (a : Word) → Fit ws widths → Known ws a → HasWidth widths (operand ws a).wire (wide widths (operand ws a))
has_width ws widths a fit k =
    let got : slice_get widths (operand ws a).wire.number ≡ Some (width k.wire.line.range) = fit (operand ws a).wire.number k.wire k.found in
    got ∙ ap Some (sym (get_or_from_slice_get widths (operand ws a).wire.number (width k.wire.line.range) 0 got))

pub has_kind : (ws : List Wire) (a : Word) → (k : Known ws a) → IsOfKind (map said ws) (operand ws a).wire (kind_said k.kind)
has_kind ws a k = rw (got_said, k.found) (ap Some (ap kind_said k.of_kind))

pub kind_is : (ws : List Wire) (a : Word) (k : Known ws a) (given : Kind) → kind_of ws (bytes_of a) ≡ Some given → k.kind ≡ given
kind_is ws a k given is = same_Some k.kind given (sym k.has_kind ∙ is)
