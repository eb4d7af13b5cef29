-- The wires of outputs, written from the last driver to the first.
use Rattle.std.proofs.Common.{◌≡◌, ℕ, suc, ◌+◌, ◌<◌, inl, inr, List, [], ◌∷◌, length, get_or, get_or-set_same, get_or-set_other, set, drop, refl, sym, ap, ◌∙◌, arith}
use Rattle.std.specs.Prelude.{if◌then◌else◌}
use Rattle.std.proofs.lemmas.Bool.{cases_eq, ne_eqb}
use Rattle.std.proofs.lemmas.Bool.Decides.{Decides-eqb}
use Rattle.std.proofs.lemmas.List.{at_drop_more}
use Rattle.chw_base.specs.declared.index.WireId.{WireId}
use Rattle.verilog_judge.specs.Shown.{no_wire, shown_by}
use Rattle.verilog_rules.specs.NetOf.{shown_wire, shown_wires}
use Rattle.verilog_rules.specs.declared.resolved.Driver.{Driver}
use Rattle.verilog_rules.specs.declared.resolved.Driver.TheVariants.{Assign, Output, Ram, Register, Use}
use Rattle.verilog_tree.specs.declared.word.Line.{Line}

-- one driver before others
shown_first : (driver : Driver) (drivers : List Driver) (k : ℕ) (ws : List WireId) → k < length ws → get_or ws k no_wire ≡ shown_wire drivers k
    → get_or (shown_by ws driver) k no_wire ≡ shown_wire (driver ∷ drivers) k
shown_first (Assign w value) drivers k ws lt is = is
shown_first (Register w domain reset a) drivers k ws lt is = is
shown_first (Ram ram) drivers k ws lt is = is
shown_first (Use used reads drives) drivers k ws lt is = is
shown_first (Output j at a) drivers k ws lt is = elim (cases_eq k j) [
  | inl e ↦
      ap (λ i. get_or (set ws j a.wire) i no_wire) e ∙ get_or-set_same ws j a.wire no_wire (rw e at lt)
      ∙ ap (λ b. if b then a.wire else shown_wire drivers k) (sym ((Decides-eqb j k).1 (sym e)))
  | inr other ↦
      get_or-set_other ws j k a.wire no_wire other ∙ is
      ∙ ap (λ b. if b then a.wire else shown_wire drivers k) (sym (ne_eqb j k (λ e. other (sym e))))
]

-- one driver more
pub shown_more : (drivers : List Driver) (i k : ℕ) (driver d : Driver) (ws after : List WireId) → i < length drivers → driver ≡ get_or drivers i d
    → after ≡ shown_by ws driver → k < length ws → get_or ws k no_wire ≡ shown_wire (drop (i + 1) drivers) k
    → get_or after k no_wire ≡ shown_wire (drop i drivers) k
shown_more drivers i k driver d ws after lt is written within known =
    ap (λ l. get_or l k no_wire) (written ∙ ap (shown_by ws) is) ∙ shown_first (get_or drivers i d) (drop (i + 1) drivers) k ws within known
    ∙ sym (at_drop_more (λ ds. shown_wire ds k) drivers i d lt)

-- the wires of all outputs from this number on
shown_from : (drivers : List Driver) (k : ℕ) (outputs : List Line) (ws : List WireId) → length ws ≡ length outputs
    → ((i : ℕ) → i < length outputs → get_or ws i no_wire ≡ shown_wire drivers (k + i)) → ws ≡ shown_wires drivers k outputs
shown_from drivers k [] [] size are = refl
shown_from drivers k [] (w ∷ ws) size are = absurd (omega (arith, size))
shown_from drivers k (l ∷ outputs) [] size are = absurd (omega (arith, size))
shown_from drivers k (l ∷ outputs) (w ∷ ws) size are =
    let here : k + 0 ≡ k = omega arith in
    ap (λ x. x ∷ ws) (are 0 (omega arith) ∙ ap (shown_wire drivers) here)
    ∙ ap (λ xs. shown_wire drivers k ∷ xs) (shown_from drivers (k + 1) outputs ws (omega (arith, size))
    (λ i below. let next : k + suc i ≡ k + 1 + i = omega arith in are (suc i) (omega (arith, below)) ∙ ap (shown_wire drivers) next))

pub shown_all : (drivers : List Driver) (outputs : List Line) (ws : List WireId) (count : ℕ) → count ≡ length outputs → length ws ≡ count
    → ((i : ℕ) → i < count → get_or ws i no_wire ≡ shown_wire drivers i) → ws ≡ shown_wires drivers 0 outputs
shown_all drivers outputs ws count size long are = shown_from drivers 0 outputs ws (long ∙ size) (λ i below. let here : i ≡ 0 + i = omega arith in are i (omega (arith, size, below)) ∙ ap (shown_wire drivers) here)
