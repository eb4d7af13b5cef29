-- Labels and marks from which nothing more follows are those of all equal wires and of all known ones.
use Rattle.std.proofs.Common.{◌≡◌, ℕ, suc, ◌+◌, ◌<◌, ◌==◌, inl, inr, Bool, true, false, ◌&&◌, List, [], ◌∷◌, length, Some, None, slice_get, get_or, refl, sym, ap, subst, ◌∙◌, arith, if◌then◌else◌}
use Rattle.std.proofs.lemmas.Bool.{and_from, and_parts, cases_eq, cond-false, cond-true, eq-eqb, ne_eqb}
use Rattle.std.proofs.lemmas.List.{length-map}
use Rattle.std.proofs.lemmas.Option.{get_or_from_slice_get, slice_get-get_or, slice_get_within}
use Rattle.chw_base.specs.declared.index.WireId.{WireId}
use Rattle.chw_bits.specs.Bits.{number_of}
use Rattle.netlist.specs.Feeds.{target}
use Rattle.netlist.specs.NetValue.{HasCell}
use Rattle.netlist.specs.Wires.{read_by}
use Rattle.netlist.specs.declared.net.Cell.{Cell}
use Rattle.netlist.specs.declared.net.Cell.TheVariants.{Const, Copy, Join, Cut, Un, Bin, Mux, Reg, Ram, Use}
use Rattle.netlist.specs.declared.net.Flat.{Flat}
use Rattle.share_laws.specs.Same.{AllKnown, AllSame, Copies, IsFolded, IsKnown, Same}
use Rattle.share_laws.specs.Same.AllKnown.{known_and, known_none}
use Rattle.share_laws.specs.Same.AllSame.{same_and, same_none}
use Rattle.share_laws.specs.Same.Copies.{chosen, copy, either, single, whole}
use Rattle.share_laws.specs.Same.IsKnown.{carried, constant, folded}
use Rattle.share_laws.specs.Same.Same.{chained, copied, equal_bits, equal_cells, itself, turned}
use Rattle.wire_classes.proofs.Exist.{known_exists, same_exists, shown_bits}
use Rattle.wire_classes.specs.Classes.{AreClasses}
use Rattle.wire_classes.specs.Closed.{AreClosed, AreFound, all_marked, bits_in, choice_of, gives_known, label_of, labels_of, mark_of, whole_of}
use Rattle.wire_classes.specs.declared.classes.Classes.{Classes}

-- what a choice takes
pub choice_same : (of : List ℕ) (known : List Bool) (values : List (List Bool)) (c a b : WireId)
    → label_of of a.number ≡ label_of of b.number → choice_of of known values c a b ≡ Some a
choice_same of known values c a b e =
    cond-true (label_of of a.number == label_of of b.number) (Some a)
    (if mark_of known c.number then Some (if number_of (bits_in values c.number) == 1 then a else b) else None)
    (eq-eqb (label_of of a.number) (label_of of b.number) e)

pub choice_known : (of : List ℕ) (known : List Bool) (values : List (List Bool)) (c a b : WireId)
    → (label_of of a.number ≡ label_of of b.number → ⊥) → mark_of known c.number ≡ true
    → choice_of of known values c a b ≡ Some (if number_of (bits_in values c.number) == 1 then a else b)
choice_known of known values c a b ne k =
    cond-false (label_of of a.number == label_of of b.number) (Some a)
    (if mark_of known c.number then Some (if number_of (bits_in values c.number) == 1 then a else b) else None)
    (ne_eqb (label_of of a.number) (label_of of b.number) ne)
    ∙ cond-true (mark_of known c.number) (Some (if number_of (bits_in values c.number) == 1 then a else b)) None k

pub number_if : (t : Bool) (a b : WireId) → (if t then a else b).number ≡ (if t then a.number else b.number)
number_if true a b = refl
number_if false a b = refl

label_if : (of : List ℕ) (t : Bool) (a b : ℕ) → label_of of a ≡ label_of of b → label_of of a ≡ label_of of (if t then a else b)
label_if of true a b e = refl
label_if of false a b e = e

pub whole_cut : (widths : List ℕ) (a : WireId) (high : ℕ) → slice_get widths a.number ≡ Some (suc high) → whole_of widths a high 0 ≡ Some a
whole_cut widths a high e =
    let wide : get_or widths a.number 0 ≡ suc high = get_or_from_slice_get widths a.number (suc high) 0 e in
    let one : suc high ≡ high + 1 = omega arith in
    cond-true (get_or widths a.number 0 == high + 1) (Some a) None (eq-eqb (get_or widths a.number 0) (high + 1) (wide ∙ one))

-- a folded cell over marked wires gives a constant
pub folded_gives : (known : List Bool) (cell : Cell) → IsFolded cell → all_marked known (read_by cell) ≡ true → gives_known known cell ≡ true
folded_gives known (Join w parts) f all = all
folded_gives known (Cut w a high low) f all = (and_parts (mark_of known a.number) true all).0
folded_gives known (Un w op a) f all = (and_parts (mark_of known a.number) true all).0
folded_gives known (Bin w op a b) f all =
    let first = and_parts (mark_of known a.number) (mark_of known b.number && true) all in
    let second = and_parts (mark_of known b.number) true first.1 in
    and_from (mark_of known a.number) (mark_of known b.number) first.0 second.0
folded_gives known (Const w bits) f all = absurd f
folded_gives known (Copy w a) f all = absurd f
folded_gives known (Mux w c a b) f all = absurd f
folded_gives known (Reg w domain initial a) f all = absurd f
folded_gives known (Ram w domain words inputs) f all = absurd f
folded_gives known (Use m reads drives) f all = absurd f

module _ (flat : Flat) (of : List ℕ) (known : List Bool) (values : List (List Bool)) (found : AreFound flat of known values)
    (closed : AreClosed flat of known values) where
  by_either : (w : ℕ) (v c a b : WireId) → HasCell flat (Mux v c a b) → target (Mux v c a b) ≡ Some w
      → label_of of a.number ≡ label_of of b.number → label_of of w ≡ label_of of a.number
  by_either w v c a b has t e = closed.copies (Mux v c a b) w a has t (choice_same of known values c a b e)

  by_chosen : (w : ℕ) (v c a b : WireId) (on : List Bool) → HasCell flat (Mux v c a b) → target (Mux v c a b) ≡ Some w
      → mark_of known c.number ≡ true → bits_in values c.number ≡ on
      → label_of of w ≡ label_of of (if number_of on == 1 then a.number else b.number)
  by_chosen w v c a b on has t k e = elim (cases_eq (label_of of a.number) (label_of of b.number)) [
    | inl same ↦ by_either w v c a b has t same ∙ label_if of (number_of on == 1) a.number b.number same
    | inr apart ↦ closed.copies (Mux v c a b) w (if number_of (bits_in values c.number) == 1 then a else b) has t
        (choice_known of known values c a b apart k)
        ∙ ap (label_of of) (number_if (number_of (bits_in values c.number) == 1) a b)
        ∙ ap (λ x. label_of of (if number_of x == 1 then a.number else b.number)) e
  ]

  mutual
    pub same_label : (v w : ℕ) → Same flat v w → label_of of v ≡ label_of of w
    same_label _ _ (itself w l) = refl
    same_label _ _ (turned v w s) = sym (same_label v w s)
    same_label _ _ (chained u v w s t) = same_label u v s ∙ same_label v w t
    same_label _ _ (copied cell w a has t c) = copied_label cell a c w has t
    same_label _ _ (equal_cells c d v w has there t u e all) =
        closed.cells c d v w has there t u e (all_labels (read_by c) (read_by d) all)
    same_label _ _ (equal_bits v w bits k l) =
        closed.bits v w (known_mark v bits k) (known_mark w bits l) (shown_bits flat values found.shown v bits k ∙ sym (shown_bits flat values found.shown w bits l))

    all_labels : (vs ws : List WireId) → AllSame flat vs ws → labels_of of vs ≡ labels_of of ws
    all_labels _ _ same_none = refl
    all_labels _ _ (same_and v w vs ws s all) =
        ap (λ n. n ∷ labels_of of vs) (same_label v.number w.number s) ∙ ap (λ ns. label_of of w.number ∷ ns) (all_labels vs ws all)

    copied_label : (cell : Cell) (a : ℕ) → Copies flat cell a → (w : ℕ) → HasCell flat cell → target cell ≡ Some w
        → label_of of w ≡ label_of of a
    copied_label _ _ (copy v a) w has t = closed.copies (Copy v a) w a has t refl
    copied_label _ _ (whole v a high e) w has t = closed.copies (Cut v a high 0) w a has t (whole_cut flat.widths a high e)
    copied_label _ _ (single v a) w has t = closed.copies (Join v (a ∷ [])) w a has t refl
    copied_label _ _ (either v c a b s) w has t = by_either w v c a b has t (same_label a.number b.number s)
    copied_label _ _ (chosen v c a b on k) w has t =
        by_chosen w v c a b on has t (known_mark c.number on k) (shown_bits flat values found.shown c.number on k)

    pub known_mark : (w : ℕ) (bits : List Bool) → IsKnown flat w bits → mark_of known w ≡ true
    known_mark _ _ (constant w bits has) = closed.marks (Const w bits) w.number has refl refl
    known_mark _ _ (folded cell w values has f t all) =
        closed.marks cell w has t (folded_gives known cell f (all_marks (read_by cell) values all))
    known_mark _ _ (carried v w bits s k) =
        let both = same_exists flat found.labels.sound values found.shown v w s in
        let one : v < length of = omega (arith, both.0, found.labels.count) in
        let other : w < length of = omega (arith, both.1, found.labels.count) in
        sym (closed.labels v w one other (same_label v w s)) ∙ known_mark v bits k

    all_marks : (wires : List WireId) (values : List (List Bool)) → AllKnown flat wires values → all_marked known wires ≡ true
    all_marks _ _ known_none = refl
    all_marks _ _ (known_and w wires bits values k all) =
        and_from (mark_of known w.number) (all_marked known wires) (known_mark w.number bits k) (all_marks wires values all)

  -- so they are the classes
  pub are_classes : (c : Classes) → c.of ≡ of → c.known ≡ known → c.bits ≡ values → AreClasses flat c
  are_classes c is_of is_known is_bits = record {
    of_each = ap length is_of ∙ found.labels.count;
    known_of_each = ap length is_known ∙ found.count;
    bits_of_each = ap length is_bits ∙ count;
    same = λ v w a e f.
        chained v a w (to_label v a (ap (λ l. slice_get l v) (sym is_of) ∙ e)) (turned w a (to_label w a (ap (λ l. slice_get l w) (sym is_of) ∙ f)));
    one = λ v w a b s e f.
        sym (label_is v a (ap (λ l. slice_get l v) (sym is_of) ∙ e)) ∙ same_label v w s ∙ label_is w b (ap (λ l. slice_get l w) (sym is_of) ∙ f);
    are_known = λ w e.
        (bits_in values w, found.bits w (get_or_from_slice_get known w true false (ap (λ l. slice_get l w) (sym is_known) ∙ e)));
    each_known = λ w bits k.
        let l = known_exists flat values found.shown w bits k in
        let m : w < length known = omega (arith, l, found.count) in
        ap (λ l. slice_get l w) is_known ∙ slice_get-get_or known w false m ∙ ap Some (known_mark w bits k);
    known_bits = λ w bits k. ap (λ l. slice_get l w) is_bits ∙ found.shown.known w bits k;
    within = λ w a e.
        (same_exists flat found.labels.sound values found.shown w a (to_label w a (ap (λ l. slice_get l w) (sym is_of) ∙ e))).1;
  }
    where
      count : length values ≡ length flat.widths
      count = sym (length-map values length) ∙ ap length found.shown.widths

      label_is : (v a : ℕ) → slice_get of v ≡ Some a → label_of of v ≡ a
      label_is v a e = get_or_from_slice_get of v a 0 e

      to_label : (v a : ℕ) → slice_get of v ≡ Some a → Same flat v a
      to_label v a e =
          let l = slice_get_within of v a e in
          let m : v < length flat.widths = omega (arith, l, found.labels.count) in
          subst (λ n. Same flat v n) (label_is v a e) (found.labels.same v m)
