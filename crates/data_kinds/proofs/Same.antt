-- Data types with the kinds that their fields give them: where two of them differ in their kinds, so do two in their fields.
use Rattle.std.proofs.Common.{◌≡◌, ℕ, ◌<◌, ◌≤◌, inl, inr, List, length, map, slice_get, sym, ap, ◌∙◌, subst, arith}
use Rattle.std.proofs.lemmas.Bool.{cases_lt}
use Rattle.std.proofs.lemmas.List.{length-map}
use Rattle.std.proofs.lemmas.Option.{slice_get_past}
use Rattle.chw_types.specs.declared.kind.Kind.TheVariants.{Val}
use Rattle.chw_types.specs.declared.declarations.Data.{Data}
use Rattle.chw_types.specs.TypeTree.{TypeTree}
use Rattle.chw_terms.specs.declared.program.Program.{Program}
use Rattle.chw_terms.specs.References.{DataRefers, IsField, names_data}
use Rattle.graph_order.specs.References.{HasNoCycle}
use Rattle.chw_terms.specs.Tidy.{HasCircuit, HasItsKind, IsTidy}
use Rattle.data_kinds.specs.Kinds.{HaveTheirKinds, of_kind, SameButKinds}
use Rattle.data_kinds.proofs.Agreeing.{Agree, field_stays, circuit_stays}
use Rattle.data_kinds.proofs.Endless.{HandedOn, nowhere}
use Rattle.data_kinds.proofs.Items.{alike_at, same_item, same_list}

-- the data types of this number differ
abbrev Differ : List Data → List Data → ℕ → Type 0
Differ ds es d = slice_get es d ≡ slice_get ds d → ⊥

-- two data types with the same constructors and parameters have one kind, where those in their fields agree
one_kind : (domains : ℕ) (ds es : List Data) (it it' : Data) → it'.cons ≡ it.cons → it'.params ≡ it.params → ((t : TypeTree) → IsField it t → Agree ds es (names_data t))
    → HasItsKind ds domains it → HasItsKind es domains it' → (it'.kind ≡ it.kind → ⊥) → ⊥
one_kind domains ds es it it' cons params agree has has' differ =
    let there : HasCircuit ds domains it → HasCircuit es domains it' = circuit_stays domains ds es it it' cons params agree in
    let back : HasCircuit es domains it' → HasCircuit ds domains it =
    circuit_stays domains es ds it' it (sym cons) (sym params) (λ t f d n. sym (agree t (field_stays it' it t (sym cons) f) d n)) in
    let none : HasCircuit ds domains it → ⊥ = λ c. differ (has'.circuit (there c) ∙ sym (has.circuit c)) in
    differ (has'.values (λ c. none (back c)) ∙ sym (has.values none))

module _ (domains : ℕ) (ds es : List Data) (same : SameButKinds ds es) where
  -- what can't differ is the same
  settled : (d : ℕ) → (Differ ds es d → ⊥) → slice_get es d ≡ slice_get ds d
  settled d h = same_item (slice_get ds d) (slice_get es d) (alike_at ds es same d) (λ it it' is is' differ. h (λ e. let item : it' ≡ it = cc in differ (ap (λ (x : Data). x.kind) item)))

  within : (d : ℕ) → Differ ds es d → d < length ds
  within d differ = elim (cases_lt d (length ds)) [
    | inl l ↦ l
    | inr le ↦
        let size : length (map (of_kind Val) es) ≡ length (map (of_kind Val) ds) = ap length same in
        let size_d = length-map ds (of_kind Val) in
        let size_e = length-map es (of_kind Val) in
        let le' : length es ≤ d = omega (arith, le, size, size_d, size_e) in
        absurd (differ (slice_get_past es d le' ∙ sym (slice_get_past ds d le)))
  ]

  module _ (has : HaveTheirKinds ds domains) (has' : HaveTheirKinds es domains) where
    handed_on : HandedOn (DataRefers ds) (Differ ds es)
    handed_on d differ to =
        differ (same_item (slice_get ds d) (slice_get es d) (alike_at ds es same d) (λ it it' is is'.
        let alike : of_kind Val it' ≡ of_kind Val it = let a = alike_at ds es same d in cc in
        one_kind domains ds es it it' (ap (λ (x : Data). x.cons) alike) (ap (λ (x : Data). x.params) alike)
        (λ t f e n. settled e (to e (it, t, is, f, n))) (has d it is) (has' d it' is')))

    pub one_way : HasNoCycle (DataRefers ds) → ds ≡ es
    one_way none = same_list ds es (λ d. settled d (nowhere (length ds) (DataRefers ds) (Differ ds es) none within handed_on d))

pub one_program : (p q : Program) → p.domains ≡ q.domains → p.resets ≡ q.resets → SameButKinds p.datas q.datas → p.defs ≡ q.defs → p.top ≡ q.top → IsTidy p → IsTidy q → p ≡ q
one_program p q domains resets same defs top tidy tidy' =
    let kinds : HaveTheirKinds q.datas (length p.domains) = subst (HaveTheirKinds q.datas) (ap length (sym domains)) tidy'.kinds in
    let datas : p.datas ≡ q.datas = one_way (length p.domains) p.datas q.datas same tidy.kinds kinds tidy.data_acyclic in
    λ i. record { domains = domains i; resets = resets i; datas = datas i; defs = defs i; top = top i }
