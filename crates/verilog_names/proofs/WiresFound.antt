-- Wires and memories, found in tables.
use Rattle.std.proofs.Common.{◌≡◌, ℕ, ◌+◌, Bool, true, false, cond, List, [], ◌∷◌, ◌++◌, map, Option, Some, None, refl, sym, ap, ◌∙◌, add-one}
use Rattle.std.specs.Prelude.{◌||◌}
use Rattle.std.specs.List.{flat_map}
use Rattle.std.specs.Prelude.{slice_get}
use Rattle.std.specs.Option.{is_some, option_map, unwrap_or}
use Rattle.std.specs.Str.{bytes_eq}
use Rattle.std.proofs.lemmas.Grind.{flat_map-append}
use Rattle.std.proofs.lemmas.List.{append-nil, map-append}
use Rattle.std.proofs.lemmas.Option.{none-some, same_Some}
use Rattle.name_tables.specs.Names.{is_among, place_of}
use Rattle.verilog_names.specs.Found.{AreTables, kind_at, memory_with}
use Rattle.verilog_rules.specs.Declarations.{wire_name}
use Rattle.verilog_rules.specs.NameRules.{is_memory, kind_of, shows}
use Rattle.verilog_rules.specs.declared.resolved.Kind.{Kind}
use Rattle.verilog_rules.specs.declared.resolved.Kind.TheVariants as kind
use Rattle.verilog_rules.specs.Resolving.{operand}
use Rattle.verilog_rules.specs.declared.resolved.Operand.{Operand}
use Rattle.verilog_rules.specs.declared.resolved.Wire.{Wire}
use Rattle.verilog_tree.specs.declared.word.Word.{Word}
use Rattle.verilog_tree.specs.Sources.{bytes_of}

abbrev pub operand_at : (number at : ℕ) → Operand
operand_at number at = record { wire = record { number = number }; at = at }

-- the kind of a name's wire is that of the wire at its place
pub kind_at_place : (wires : List Wire) (name : List ℕ) (k : ℕ) → place_of (map wire_name wires) name ≡ Some k → option_map (λ (w : Wire). w.kind) (slice_get wires k) ≡ kind_of wires name
kind_at_place [] name k e = absurd (none-some k e)
kind_at_place (w ∷ wires) name k e = by (bytes_eq name (wire_name w)) (place_of (map wire_name wires) name) k (kind_at_place wires name) e
  where
    by : (b : Bool) (o : Option ℕ) (j : ℕ) → ((p : ℕ) → o ≡ Some p → option_map (λ (v : Wire). v.kind) (slice_get wires p) ≡ kind_of wires name)
        → cond b (Some 0) (option_map (λ (p : ℕ). p + 1) o) ≡ Some j
        → option_map (λ (v : Wire). v.kind) (slice_get (w ∷ wires) j) ≡ cond b (Some w.kind) (kind_of wires name)
    by true o j rest h = ap (λ n. option_map (λ (v : Wire). v.kind) (slice_get (w ∷ wires) n)) (sym (same_Some 0 j h))
    by false None j rest h = absurd (none-some j h)
    by false (Some p) j rest h =
        ap (λ n. option_map (λ (v : Wire). v.kind) (slice_get (w ∷ wires) n)) (sym (same_Some (p + 1) j h)) ∙ (rw add-one (rest p refl))

-- a name without a place has no kind
pub no_kind : (wires : List Wire) (name : List ℕ) → place_of (map wire_name wires) name ≡ None → kind_of wires name ≡ None
no_kind [] name e = refl
no_kind (w ∷ wires) name e = by (bytes_eq name (wire_name w)) (place_of (map wire_name wires) name) (no_kind wires name) e
  where
    by : (b : Bool) (o : Option ℕ) → (o ≡ None → kind_of wires name ≡ None) → cond b (Some 0) (option_map (λ (p : ℕ). p + 1) o) ≡ None → cond b (Some w.kind) (kind_of wires name) ≡ None
    by true o rest h = absurd (none-some 0 (sym h))
    by false (Some p) rest h = absurd (none-some (p + 1) (sym h))
    by false None rest h = rest refl

-- the kind of a name's wire, by its place
pub kind_by_place : (wires : List Wire) (name : List ℕ) (place : Option ℕ) → place_of (map wire_name wires) name ≡ place → kind_at wires place ≡ kind_of wires name
kind_by_place wires name None e = sym (no_kind wires name e)
kind_by_place wires name (Some k) e = kind_at_place wires name k e

-- the name of a memory is among those that are declared with wires
pub memories_found : (wires : List Wire) (memory : List ℕ) → is_among (flat_map (λ (w : Wire). memory_with w.kind) wires) memory ≡ is_memory wires memory
memories_found [] memory = refl
memories_found (w ∷ wires) memory = by w.kind (memories_found wires memory)
  where
    more : (b : Bool) (o : Option ℕ) → is_some (cond b (Some 0) (option_map (λ (p : ℕ). p + 1) o)) ≡ (b || is_some o)
    more true o = refl
    more false None = refl
    more false (Some p) = refl

    by : (k : Kind) → is_among (flat_map (λ (v : Wire). memory_with v.kind) wires) memory ≡ is_memory wires memory
        → is_among (memory_with k ++ flat_map (λ (v : Wire). memory_with v.kind) wires) memory ≡ (shows memory (Some k) || is_memory wires memory)
    by kind.Input rest = rest
    by kind.Plain rest = rest
    by (kind.Register literal None) rest = rest
    by (kind.Register literal (Some m)) rest = more (bytes_eq memory (bytes_of m.name)) (place_of (flat_map (λ (v : Wire). memory_with v.kind) wires) memory) ∙ ap (λ b. bytes_eq memory (bytes_of m.name) || b) rest

-- the tables with one wire more
pub tables_more : (wires wires' : List Wire) (names memories names' memories' : List (List ℕ)) (w : Wire) → AreTables wires names memories
    → wires' ≡ wires ++ w ∷ [] → names' ≡ names ++ wire_name w ∷ [] → memories' ≡ memories ++ memory_with w.kind → AreTables wires' names' memories'
tables_more wires wires' names memories names' memories' w tables e f g = record {
  names_are = f ∙ ap (λ ns. ns ++ wire_name w ∷ []) tables.names_are ∙ sym (map-append wire_name wires (w ∷ [])) ∙ ap (map wire_name) (sym e);
  memories_are =
      g ∙ ap (λ ms. ms ++ memory_with w.kind) tables.memories_are
      ∙ ap (λ ms. flat_map (λ (v : Wire). memory_with v.kind) wires ++ ms) (sym (append-nil (memory_with w.kind)))
      ∙ sym (flat_map-append (λ (v : Wire). memory_with v.kind) wires (w ∷ [])) ∙ ap (flat_map (λ (v : Wire). memory_with v.kind)) (sym e);
}

-- what is found of a name is its wire
pub operand_found : (wires : List Wire) (name : Word) (place : Option ℕ) (number : ℕ) → place_of (map wire_name wires) (bytes_of name) ≡ place → number ≡ unwrap_or place 0
    → operand_at number name.at ≡ operand wires name
operand_found wires name place number e f = ap (λ n. operand_at n name.at) (f ∙ ap (λ o. unwrap_or o 0) (sym e))
