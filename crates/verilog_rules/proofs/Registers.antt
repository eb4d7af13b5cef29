-- Registers.
use Rattle.std.proofs.Common.{◌≡◌, ℕ, ◌<◌, ◌^◌, Bool, true, List, length, map, Option, Some, None, refl, sym, ap, ◌∙◌, subst}
use Rattle.std.specs.Prelude.{option_map, is_some}
use Rattle.std.specs.Option.{unwrap_or}
use Rattle.std.specs.List.{AllByRecursion}
use Rattle.std.specs.Str.{bytes_eq}
use Rattle.std.proofs.lemmas.Bool.{and_from, and_parts, false≢true, not-true}
use Rattle.std.proofs.lemmas.Slice.Eq.{bytes_eq-Decides}
use Rattle.std.proofs.Math.Nat.{mod-eq_of_lt}
use Rattle.chw_base.specs.declared.index.DomId.{DomId}
use Rattle.chw_base.specs.declared.index.WireId.{WireId}
use Rattle.chw_bits.specs.Bits.{number_of}
use Rattle.chw_bits.proofs.RoundTrips.{number_of-bits_of}
use Rattle.chw_clock.specs.Histories.{has_reset}
use Rattle.chw_clock.specs.declared.event.Ports.{Ports}
use Rattle.netlist.specs.Sound.{HasWidth}
use Rattle.verilog_text.specs.Declared.{IsOfKind, MeansBits}
use Rattle.verilog_text.specs.Declared.Kind.{a_register}
use Rattle.verilog_text.specs.Denotes.{IsClockOf, IsRegister, IsReset, Scene}
use Rattle.verilog_text.specs.Names.{domain_name, reset_name}
use Rattle.verilog_text.specs.VForms.{IsLiteral}
use Rattle.verilog_tree.specs.Sources.{bytes_of, edge_of, memory_if, reset_if}
use Rattle.verilog_tree.specs.declared.item.Edge.{Edge}
use Rattle.verilog_tree.specs.declared.item.Memory.{Memory}
use Rattle.verilog_tree.specs.declared.item.Reset.{Reset}
use Rattle.verilog_tree.specs.declared.word.Word.{Word}
use Rattle.verilog_rules.specs.NameRules.{clock_check, domain_of, edge_checks, kind_of, reset_checks}
use Rattle.verilog_rules.specs.NetOf.{bits, first_bits}
use Rattle.verilog_rules.specs.Resolving.{clocked, operand}
use Rattle.verilog_rules.specs.Texts.{amount, is_word_of, size, width}
use Rattle.verilog_rules.specs.WidthRules.{kind_at, kind_checks, literal_of, register_checks, reset_literal_checks, wide}
use Rattle.verilog_rules.specs.declared.resolved.Kind.TheVariants as kind
use Rattle.verilog_rules.specs.declared.resolved.Wire.{Wire}
use Rattle.verilog_rules.proofs.Holding.{AllTrue, both_parts, first_part, second_part}
use Rattle.verilog_rules.proofs.Literals.{bits_back, bits_length, bits_meant, is_literal, literal_back, literal_meant, literal_parts, word_parts}
use Rattle.verilog_rules.proofs.Operands.{Known, has_kind, has_width, is_known, kind_is, known, known_as, named, named_back, said}
use Rattle.verilog_rules.proofs.Values.{is_wide, one_width, wide_holds}
use Rattle.verilog_rules.proofs.Wires.{Extends, WireHolds, each_at, fit, kind_there, plain_register, register_said, said_kind, wide_there, widths_in}

-- the literal of a reset has its form
abbrev pub ResetFormed : Option Reset → Type 0
ResetFormed None = Unit {0}
ResetFormed (Some reset) = IsLiteral (bytes_of reset.literal)

-- a clock that passes its check is that of a domain
pub clock_is : (ports : Ports) (clock : Word) → (clock_check ports clock).holds ≡ true → domain_of ports clock ≡ Some (clocked ports clock).number
clock_is ports clock holds = by_case (domain_of ports clock) refl holds
  where
    by_case : (o : Option ℕ) → domain_of ports clock ≡ o → is_some o ≡ true → domain_of ports clock ≡ Some (unwrap_or (domain_of ports clock) 0)
    by_case None is some = absurd (false≢true some)
    by_case (Some d) is some = rw is refl

pub clock_back : (ports : Ports) (clock : Word) (domain : DomId) → IsClockOf ports (bytes_of clock) domain
    → ((clock_check ports clock).holds ≡ true) × (domain ≡ clocked ports clock)
clock_back ports clock domain is =
    (ap is_some is, ap (λ (n : ℕ). dom_at n) (sym (ap (λ (o : Option ℕ). unwrap_or o 0) is)))
  where
    dom_at : ℕ → DomId
    dom_at n = record { number = n }

same_bits : (n : ℕ) (first reset : Word) → IsLiteral (bytes_of reset) → is_word_of n first ≡ true → size reset ≡ n → amount reset ≡ amount first
    → MeansBits (bytes_of reset) (bits first)
same_bits n first reset form fits size_is amount_is =
    let parts = word_parts n first fits in
    let long : length (bits first) ≡ n = bits_length n first fits in
    let below : amount first < 2 ^ size first = rw parts.0 parts.1 in
    let means : number_of (bits first) ≡ amount first = number_of-bits_of (size first) (amount first) ∙ mod-eq_of_lt below in
    literal_meant (length (bits first)) (number_of (bits first)) reset form (size_is ∙ sym long) (amount_is ∙ sym means) (rw (long, means) parts.1)

reset_is : (ports : Ports) (clock : Word) (n : ℕ) (first : Word) (reset : Option Reset) (a : Word) → ResetFormed reset → is_word_of n first ≡ true
    → (clock_check ports clock).holds ≡ true → AllTrue (reset_checks ports (domain_of ports clock) reset a)
    → AllTrue (reset_literal_checks n (Some first) (option_map (λ (r : Reset). r.literal) reset))
    → IsReset ports (clocked ports clock) (bits first) (reset_if reset)
reset_is ports clock n first None a form fits is_clock names literals =
    let named_so = rw (clock_is ports clock is_clock) at names in
    not-true (has_reset ports (clocked ports clock)) named_so.0
reset_is ports clock n first (Some reset) a form fits is_clock names literals =
    let named_so = rw (clock_is ports clock is_clock) at names in
    let parts = and_parts (has_reset ports (clocked ports clock)) (bytes_eq (bytes_of reset.name) (reset_name (domain_name ports.domains (clocked ports clock)))) named_so.0 in
    let literal = literal_parts n (amount first) reset.literal literals.0 in (
      parts.0,
      (bytes_eq-Decides (bytes_of reset.name) (reset_name (domain_name ports.domains (clocked ports clock)))).0 parts.1,
      same_bits n first reset.literal form fits literal.0 literal.1,
    )

-- what holds of a register that passes its checks
pub record RegisterIs (scene : Scene) (ws full : List Wire) (edge : Edge) : Type 0 where
  pub is : IsRegister scene (map said ws) (edge_of edge) (operand ws edge.register).wire (clocked scene.ports edge.clock)
      (first_bits (literal_of (kind_at full (operand ws edge.register)))) (operand ws edge.a).wire
  pub agrees : HasWidth (widths_in full) (operand ws edge.register).wire (length (first_bits (literal_of (kind_at full (operand ws edge.register)))))
      × HasWidth (widths_in full) (operand ws edge.a).wire (length (first_bits (literal_of (kind_at full (operand ws edge.register)))))

pub register_is : (scene : Scene) (ws full : List Wire) (edge : Edge) → Extends ws full → AllByRecursion WireHolds full → ResetFormed edge.reset
    → AllTrue (edge_checks scene.ports ws edge)
    → AllTrue (register_checks (widths_in full) (wide (widths_in full) (operand ws edge.register)) (kind_at full (operand ws edge.register))
    (option_map (λ (r : Reset). r.literal) edge.reset) (operand ws edge.a))
    → RegisterIs scene ws full edge
register_is scene ws full edge extends holds form names widths =
    let plain = plain_register (kind_of ws (bytes_of edge.register)) names.1.0 in
    let k : Known ws edge.register = known_as ws edge.register (kind.Register plain.0 None) plain.1 in
    let first : Word = plain.0 in
    let k_is : k.kind ≡ kind.Register first None = kind_is ws edge.register k (kind.Register first None) plain.1 in
    let there : kind_at full (operand ws edge.register) ≡ Some (kind.Register first None) = kind_there ws full edge.register extends k ∙ ap Some k_is in
    let wire_kind : k.wire.kind ≡ kind.Register first None = k.of_kind ∙ k_is in
    let n : ℕ = width k.wire.line.range in
    let wide_is : wide (widths_in full) (operand ws edge.register) ≡ n = wide_there ws full edge.register extends k in
    let wire_holds : WireHolds k.wire = each_at WireHolds full (operand ws edge.register).wire.number k.wire holds (extends (operand ws edge.register).wire.number k.wire k.found) in
    let formed : IsLiteral (bytes_of first) = rw wire_kind at wire_holds.formed in
    let kind_holds : AllTrue (kind_checks n (kind.Register first None)) = rw wire_kind at wire_holds.checks.1 in
    let fits : is_word_of n first ≡ true = kind_holds.0 in
    let widths_so = rw (wide_is, there) at widths in
    let resets = first_part (reset_checks scene.ports (domain_of scene.ports edge.clock) edge.reset edge.a) _ names.1.1 in
    let a_named = second_part (reset_checks scene.ports (domain_of scene.ports edge.clock) edge.reset edge.a) _ names.1.1 in
    let literals = first_part (reset_literal_checks n (Some first) (option_map (λ (r : Reset). r.literal) edge.reset)) _ widths_so in
    let a_wide = second_part (reset_literal_checks n (Some first) (option_map (λ (r : Reset). r.literal) edge.reset)) _ widths_so in
    let a_known : Known ws edge.a = known ws edge.a a_named.0 in
    record {
      is = record {
        register = named ws edge.register k;
        literal = bytes_of first;
        declared = rw k_is at (has_kind ws edge.register k);
        initial_bits = rw there (bits_meant n first formed fits);
        clock = clock_is scene.ports edge.clock names.0;
        reset = rw there (reset_is scene.ports edge.clock n first edge.reset edge.a form fits names.0 resets literals);
        taken = named ws edge.a a_known;
      };
      agrees = rw (there, bits_length n first fits) (
        rw (sym wide_is) (has_width ws (widths_in full) edge.register (fit ws full extends) k),
        is_wide ws (widths_in full) edge.a n (fit ws full extends) a_known a_wide.0,
      );
    }

no_memory_said : (m : Option Memory) → memory_if m ≡ None → m ≡ None
no_memory_said None is = refl
no_memory_said (Some m) is = absurd (cc)

-- what a register was made of that stands in a text
pub record RegisterWas (ports : Ports) (ws full : List Wire) (edge : Edge) (w : WireId) (domain : DomId) (initial : List Bool) (a : WireId) : Type 0 where
  pub names : AllTrue (edge_checks ports ws edge)
  pub register : (operand ws edge.register).wire ≡ w
  pub known : Known ws edge.register
  pub taken : (operand ws edge.a).wire ≡ a
  pub domain_is : domain ≡ clocked ports edge.clock
  pub first : Word
  pub there : kind_at full (operand ws edge.register) ≡ Some (kind.Register first None)
  pub initial_is : initial ≡ bits first
  pub fits : is_word_of (length initial) first ≡ true
  pub resets : (n : ℕ) → n ≡ length initial → AllTrue (reset_literal_checks n (Some first) (option_map (λ (r : Reset). r.literal) edge.reset))

resets_were : (ports : Ports) (domain : DomId) (clock : Word) (initial : List Bool) (first : Word) (reset : Option Reset) (a : Word)
    → domain_of ports clock ≡ Some domain.number → amount first ≡ number_of initial → IsReset ports domain initial (reset_if reset)
    → AllTrue (reset_checks ports (domain_of ports clock) reset a)
    × ((n : ℕ) → n ≡ length initial → AllTrue (reset_literal_checks n (Some first) (option_map (λ (r : Reset). r.literal) reset)))
resets_were ports domain clock initial first None a at means is =
    (rw at ((rw is refl), tt), λ n long. tt)
resets_were ports domain clock initial first (Some reset) a at means is =
    let literal = literal_back (length initial) (number_of initial) reset.literal is.2 in (
      rw at (
        and_from (has_reset ports domain) (bytes_eq (bytes_of reset.name) (reset_name (domain_name ports.domains domain))) is.0
            ((bytes_eq-Decides (bytes_of reset.name) (reset_name (domain_name ports.domains domain))).1 is.1),
        tt,
      ),
      λ n long. (is_literal n (amount first) reset.literal (literal.0 ∙ sym long) (literal.1 ∙ sym means) (rw (long, means) literal.2), tt),
    )

pub register_was : (scene : Scene) (ws full : List Wire) (edge : Edge) (w : WireId) (domain : DomId) (initial : List Bool) (a : WireId) → Extends ws full
    → IsRegister scene (map said ws) (edge_of edge) w domain initial a → RegisterWas scene.ports ws full edge w domain initial a
register_was scene ws full edge w domain initial a extends is =
    let back = named_back ws edge.register w is.register in
    let k : Known ws edge.register = back.0 in
    let declared : IsOfKind (map said ws) (operand ws edge.register).wire (a_register is.literal None) = subst (λ (v : WireId). IsOfKind (map said ws) v (a_register is.literal None)) (sym back.1) is.declared in
    let register = register_said k.kind is.literal None (said_kind ws edge.register k (a_register is.literal None) declared) in
    let no_memory : register.1 ≡ None = no_memory_said register.1 register.4 in
    let k_is : k.kind ≡ kind.Register register.0 None = register.2 ∙ ap (λ (m : Option Memory). kind.Register register.0 m) no_memory in
    let there : kind_at full (operand ws edge.register) ≡ Some (kind.Register register.0 None) = kind_there ws full edge.register extends k ∙ ap Some k_is in
    let clock = clock_back scene.ports edge.clock domain is.clock in
    let taken = named_back ws edge.a a is.taken in
    let initial_bits : MeansBits (bytes_of register.0) initial = rw register.3 is.initial_bits in
    let first = bits_back register.0 initial initial_bits in
    let amount_is = (literal_back (length initial) (number_of initial) register.0 initial_bits).1 in
    let resets = resets_were scene.ports domain edge.clock initial register.0 edge.reset edge.a is.clock amount_is is.reset in
    record {
      names = (
        clock.0,
        (
          rw (k.has_kind, k_is) refl,
          both_parts (reset_checks scene.ports (domain_of scene.ports edge.clock) edge.reset edge.a) _ resets.0 (is_known ws edge.a taken.0, tt),
        ),
      );
      register = back.1;
      known = k;
      taken = taken.1;
      domain_is = clock.1;
      first = register.0;
      there = there;
      initial_is = first.0;
      fits = first.1;
      resets = resets.1;
    }

-- the widths of a register that stands in a text
pub register_checked : (ports : Ports) (ws full : List Wire) (edge : Edge) (w : WireId) (domain : DomId) (initial : List Bool) (a : WireId) → Extends ws full
    → (was : RegisterWas ports ws full edge w domain initial a) → HasWidth (widths_in full) w (length initial) → HasWidth (widths_in full) a (length initial)
    → AllTrue (register_checks (widths_in full) (wide (widths_in full) (operand ws edge.register)) (kind_at full (operand ws edge.register))
    (option_map (λ (r : Reset). r.literal) edge.reset) (operand ws edge.a))
    × AllTrue (kind_checks (wide (widths_in full) (operand ws edge.register)) (kind.Register was.first None))
register_checked ports ws full edge w domain initial a extends was has also =
    let n_is : wide (widths_in full) (operand ws edge.register) ≡ length initial =
    one_width (widths_in full) w (wide (widths_in full) (operand ws edge.register)) (length initial)
    (subst (λ (v : WireId). HasWidth (widths_in full) v (wide (widths_in full) (operand ws edge.register))) was.register (has_width ws (widths_in full) edge.register (fit ws full extends) was.known)) has in
    let a_has : HasWidth (widths_in full) (operand ws edge.a).wire (length initial) = subst (λ (v : WireId). HasWidth (widths_in full) v (length initial)) (sym was.taken) also in (
      rw was.there (both_parts (reset_literal_checks (wide (widths_in full) (operand ws edge.register)) (Some was.first) (option_map (λ (r : Reset). r.literal) edge.reset)) _
          (was.resets (wide (widths_in full) (operand ws edge.register)) n_is) (rw n_is (wide_holds (widths_in full) (operand ws edge.a) (length initial) a_has), tt)),
      (rw n_is was.fits, tt),
    )
