-- Marks of wires that are driven.
use Rattle.std.proofs.Common.{◌≡◌, ◌≢◌, ℕ, ◌+◌, ◌<◌, ◌≤◌, ◌⊎◌, Bool, true, false, inl, inr, List, length, get_or, get_or-set_same, get_or-set_other, set, Some, None, sym, ap, ◌∙◌, subst, arith}
use Rattle.std.specs.Prelude.{option_map}
use Rattle.std.proofs.lemmas.Bool.{cases_eq, cases_lt, false≢true}
use Rattle.std.proofs.lemmas.Option.{slice_get_past, slice_get-get_or}
use Rattle.chw_base.specs.declared.index.WireId.{WireId}
use Rattle.net_rules.specs.Marks.{IsUnmarked, Marks}
use Rattle.netlist.specs.Sound.{EachOnce}
use Rattle.net_rules.specs.WellFormed.{wire_driven_at}

-- an element after a write: the one that was written, or another
write_split : {X : Type 0} (xs : List X) (p : ℕ) (y : X) (q : ℕ) (d : X) → p < length xs
    → ((q ≡ p) × (get_or (set xs p y) q d ≡ y)) ⊎ ((q ≢ p) × (get_or (set xs p y) q d ≡ get_or xs q d))
write_split xs p y q d l = elim (cases_eq q p) [
  | inl e ↦ inl (e, ap (λ k. get_or (set xs p y) k d) e ∙ get_or-set_same xs p y d l)
  | inr n ↦ inr (n, get_or-set_other xs p q y d n)
]

-- the wire at a place of the list
pub at_place : (driven : List WireId) (i : ℕ) (d : WireId) → i < length driven → wire_driven_at driven i ≡ Some (get_or driven i d).number
at_place driven i d l = ap (λ o. option_map (λ (w : WireId). w.number) o) (slice_get-get_or driven i d l)

-- a place with a wire is in the list
pub place_within : (driven : List WireId) (p w : ℕ) → wire_driven_at driven p ≡ Some w → p < length driven
place_within driven p w e = elim (cases_lt p (length driven)) [
  | inl h ↦ h
  | inr h ↦ let none : wire_driven_at driven p ≡ None = ap (λ o. option_map (λ (w : WireId). w.number) o) (slice_get_past driven p h) in absurd (cc)
]

-- nothing is marked at first
pub marks_none : (inputs : ℕ) (driven : List WireId) (marks : List Bool) → IsUnmarked marks → Marks inputs driven marks 0
marks_none inputs driven marks none = record {
  marked = λ p w l e. absurd (omega (arith, l));
  from = λ w e. absurd (false≢true (sym (none w) ∙ e));
  apart = λ p q w l m e f. absurd (omega (arith, l));
}

-- one more is marked
pub marks_more : (inputs : ℕ) (driven : List WireId) (marks : List Bool) (i w : ℕ) → w < length marks → wire_driven_at driven i ≡ Some w → inputs ≤ w
    → get_or marks w false ≡ false → Marks inputs driven marks i → Marks inputs driven (set marks w true) (i + 1)
marks_more inputs driven marks i w fits here above unmarked m = record { marked = marked; from = from; apart = apart }
  where
    not_before : (p : ℕ) → p < i → wire_driven_at driven p ≡ Some w → ⊥
    not_before p l e = false≢true (sym unmarked ∙ (m.marked p w l e).1)

    marked : (p v : ℕ) → p < i + 1 → wire_driven_at driven p ≡ Some v → (inputs ≤ v) × (get_or (set marks w true) v false ≡ true)
    marked p v l e = elim (cases_lt p i) [
      | inl h ↦ ((m.marked p v h e).0, elim (write_split marks w true v false fits) [ inl s ↦ s.1 | inr s ↦ s.1 ∙ (m.marked p v h e).1 ])
      | inr h ↦
          let place : p ≡ i = omega (arith, l, h) in
          let there : wire_driven_at driven i ≡ Some v = subst (λ j. wire_driven_at driven j ≡ Some v) place e in
          let same : v ≡ w = cc in
          (omega (arith, same, above), elim (write_split marks w true v false fits) [ inl s ↦ s.1 | inr s ↦ absurd (s.0 same) ])
    ]

    from : (v : ℕ) → get_or (set marks w true) v false ≡ true → (p : ℕ) × (p < i + 1) × (wire_driven_at driven p ≡ Some v)
    from v e = elim (write_split marks w true v false fits) [
      | inl s ↦ (i, omega arith, subst (λ x. wire_driven_at driven i ≡ Some x) (sym s.0) here)
      | inr s ↦ let old = m.from v (sym s.1 ∙ e) in (old.0, omega (arith, old.1), old.2)
    ]

    one : (p q v : ℕ) → p < i → wire_driven_at driven p ≡ Some v → i ≤ q → q < i + 1 → wire_driven_at driven q ≡ Some v → ⊥
    one p q v l e h k f =
        let place : q ≡ i = omega (arith, h, k) in
        let there : wire_driven_at driven i ≡ Some v = subst (λ j. wire_driven_at driven j ≡ Some v) place f in
        let same : v ≡ w = cc in
        not_before p l (subst (λ x. wire_driven_at driven p ≡ Some x) same e)

    apart : (p q v : ℕ) → p < i + 1 → q < i + 1 → wire_driven_at driven p ≡ Some v → wire_driven_at driven q ≡ Some v → p ≡ q
    apart p q v l k e f = elim (cases_lt p i) [
      | inl h ↦ elim (cases_lt q i) [ inl g ↦ m.apart p q v h g e f | inr g ↦ absurd (one p q v h e g k f) ]
      | inr h ↦ elim (cases_lt q i) [ inl g ↦ absurd (one q p v g f h l e) | inr g ↦ omega (arith, h, g, l, k) ]
    ]

-- an input is driven
pub input_driven : (inputs wires : ℕ) (driven : List WireId) (i w : ℕ) → wire_driven_at driven i ≡ Some w → w < inputs → EachOnce inputs wires (wire_driven_at driven) → ⊥
input_driven inputs wires driven i w here l each = let h : inputs ≤ w = each.free i w here in omega (arith, h, l)

-- a wire is driven twice
pub driven_twice : (inputs wires : ℕ) (driven : List WireId) (marks : List Bool) (i w : ℕ) → wire_driven_at driven i ≡ Some w → get_or marks w false ≡ true
    → Marks inputs driven marks i → EachOnce inputs wires (wire_driven_at driven) → ⊥
driven_twice inputs wires driven marks i w here marked m each =
    let old = m.from w marked in
    let same : old.0 ≡ i = each.once old.0 i w old.2 here in
    omega (arith, same, old.1)

-- all are marked that are no inputs
pub once_from_marks : (inputs : ℕ) (driven : List WireId) (marks : List Bool) → Marks inputs driven marks (length driven)
    → ((w : ℕ) → inputs ≤ w → w < length marks → get_or marks w false ≡ true) → EachOnce inputs (length marks) (wire_driven_at driven)
once_from_marks inputs driven marks m all = record {
  free = λ p w e. (m.marked p w (place_within driven p w e) e).0;
  driven = λ w l k. let old = m.from w (all w l k) in (old.0, old.2);
  once = λ p q w e f. m.apart p q w (place_within driven p w e) (place_within driven q w f) e f;
}

-- what is driven once is marked
pub marks_from_once : (inputs : ℕ) (driven : List WireId) (marks : List Bool) → Marks inputs driven marks (length driven)
    → EachOnce inputs (length marks) (wire_driven_at driven) → (w : ℕ) → inputs ≤ w → w < length marks → get_or marks w false ≡ true
marks_from_once inputs driven marks m each w l k =
    let p = each.driven w l k in
    (m.marked p.0 w (place_within driven p.0 w p.1) p.1).1
