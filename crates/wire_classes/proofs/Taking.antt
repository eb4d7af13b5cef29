-- What a step leaves.
use Rattle.std.proofs.Common.{◌≡◌, ℕ, zero, suc, ◌<◌, ◌≤◌, ◌==◌, inl, inr, Bool, true, false, List, [], ◌∷◌, length, map, set, Some, slice_get, sym, ap, subst, ◌∙◌, arith}
use Rattle.std.proofs.lemmas.Bool.{cases_eq, cases_lt, cond-false, cond-true, eq-eqb, ne_eqb, true≢false}
use Rattle.std.proofs.lemmas.List.{get_or-map, get_or-set_other, get_or-set_same, length-map, length-set}
use Rattle.std.proofs.lemmas.Option.{none-some, same_Some, slice_get-get_or}
use Rattle.netlist.specs.declared.net.Flat.{Flat}
use Rattle.share_laws.specs.Same.{IsKnown, Same}
use Rattle.share_laws.specs.Same.IsKnown.{carried}
use Rattle.share_laws.specs.Same.Same.{chained, turned}
use Rattle.wire_classes.specs.Closed.{AreFound, bits_in, label_of, mark_of}
use Rattle.wire_classes.specs.Steps.{left_of, relabelled, total, unmarked}
use Rattle.wire_classes.proofs.Exist.{known_exists, same_exists, shown_bits}

-- the label that is replaced, and another one
relabelled_same : (from to n : ℕ) → n ≡ from → relabelled from to n ≡ to
relabelled_same from to n e = cond-true (n == from) to n (eq-eqb n from e)

relabelled_other : (from to n : ℕ) → (n ≡ from → ⊥) → relabelled from to n ≡ n
relabelled_other from to n ne = cond-false (n == from) to n (ne_eqb n from ne)

relabelled_less : (from to n : ℕ) → to ≤ from → relabelled from to n ≤ n
relabelled_less from to n l = elim (cases_eq n from) [
  | inl e ↦ let is = relabelled_same from to n e in omega (arith, is, e, l)
  | inr ne ↦ let is = relabelled_other from to n ne in omega (arith, is)
]

total_no_more : (from to : ℕ) (ns : List ℕ) → to ≤ from → total (map (relabelled from to) ns) ≤ total ns
total_no_more from to [] l = omega arith
total_no_more from to (n ∷ ns) l =
    let one = relabelled_less from to n l in
    let rest = total_no_more from to ns l in
    omega (arith, one, rest)

-- a lesser label makes less
pub total_less : (from to : ℕ) (ns : List ℕ) (k : ℕ) → to < from → slice_get ns k ≡ Some from → total (map (relabelled from to) ns) < total ns
total_less from to [] k l e = absurd (none-some from e)
total_less from to (n ∷ ns) zero l e =
    let is : n ≡ from = same_Some n from e in
    let one = relabelled_same from to n is in
    let rest = total_no_more from to ns (omega (arith, l)) in
    omega (arith, is, one, rest, l)
total_less from to (n ∷ ns) (suc k) l e =
    let one = relabelled_less from to n (omega (arith, l)) in
    let rest = total_less from to ns k l e in
    omega (arith, one, rest)

-- a mark more leaves one less
pub unmarked_less : (marks : List Bool) (w : ℕ) → w < length marks → mark_of marks w ≡ false → unmarked (set marks w true) < unmarked marks
unmarked_less [] w l e = absurd (omega (arith, l))
unmarked_less (true ∷ marks) zero l e = absurd (true≢false e)
unmarked_less (false ∷ marks) zero l e = omega arith
unmarked_less (true ∷ marks) (suc w) l e = unmarked_less marks w (omega (arith, l)) e
unmarked_less (false ∷ marks) (suc w) l e = let rest = unmarked_less marks w (omega (arith, l)) e in omega (arith, rest)

module _ (flat : Flat) (of : List ℕ) (known : List Bool) (values : List (List Bool)) (found : AreFound flat of known values) where
  relabelled_equal : (from to w n : ℕ) → Same flat from to → Same flat w n → Same flat w (relabelled from to n)
  relabelled_equal from to w n s t = elim (cases_eq n from) [
    | inl e ↦ subst (λ x. Same flat w x) (sym (relabelled_same from to n e)) (chained w n to t (subst (λ x. Same flat x to) (sym e) s))
    | inr ne ↦ subst (λ x. Same flat w x) (sym (relabelled_other from to n ne)) t
  ]

  -- labels of equal wires are put in place of each other
  pub found_relabelled : (from to : ℕ) → Same flat from to → AreFound flat (map (relabelled from to) of) known values
  found_relabelled from to s = record {
    labels = record {
      sound = found.labels.sound;
      count = length-map of (relabelled from to) ∙ found.labels.count;
      same = λ w l.
          let n = found.labels.count in
          let m : w < length of = omega (arith, l, n) in
          subst (λ x. Same flat w x) (sym (get_or-map (relabelled from to) of w 0 0 m))
          (relabelled_equal from to w (label_of of w) s (found.labels.same w l));
    };
    count = found.count;
    shown = found.shown;
    bits = found.bits;
  }

  -- labels of two equal wires are equal wires
  pub labels_equal : (v w : ℕ) → Same flat v w → Same flat (label_of of v) (label_of of w)
  labels_equal v w s =
      let both = same_exists flat found.labels.sound values found.shown v w s in
      chained (label_of of v) v (label_of of w) (turned v (label_of of v) (found.labels.same v both.0))
      (chained v w (label_of of w) s (found.labels.same w both.1))

  -- the label of a wire that exists stands among the labels
  pub label_stands : (w : ℕ) → w < length flat.widths → slice_get of w ≡ Some (label_of of w)
  label_stands w l =
      let n = found.labels.count in
      slice_get-get_or of w 0 (omega (arith, l, n))

  -- one label goes to the lesser one
  pub merged_less : (v w : ℕ) → Same flat v w → label_of of w < label_of of v
      → left_of (map (relabelled (label_of of v) (label_of of w)) of) known < left_of of known
  merged_less v w s l =
      let both = same_exists flat found.labels.sound values found.shown v w s in
      let less = total_less (label_of of v) (label_of of w) of v l (label_stands v both.0) in
      omega (arith, less)

  -- a mark more
  pub mark_within : (w : ℕ) (bits : List Bool) → IsKnown flat w bits → w < length known
  mark_within w bits k =
      let l = known_exists flat values found.shown w bits k in
      let n = found.count in
      omega (arith, l, n)

  pub found_marked : (w : ℕ) (bits : List Bool) → IsKnown flat w bits → AreFound flat of (set known w true) values
  found_marked w bits k = record {
    labels = found.labels;
    count = length-set known w true ∙ found.count;
    shown = found.shown;
    bits = λ x m. elim (cases_eq x w) [
      | inl e ↦ subst (λ n. IsKnown flat n (bits_in values n)) (sym e)
          (subst (λ b. IsKnown flat w b) (sym (shown_bits flat values found.shown w bits k)) k)
      | inr ne ↦ found.bits x (sym (get_or-set_other known w x true false ne) ∙ m)
    ];
  }

  pub marked_less : (w : ℕ) (bits : List Bool) → IsKnown flat w bits → mark_of known w ≡ false → left_of of (set known w true) < left_of of known
  marked_less w bits k none =
      let less = unmarked_less known w (mark_within w bits k) none in omega (arith, less)

  -- the labels after one of two equal wires went to the lesser one
  pub record AreMerged (new : List ℕ) : Type 0 where
    pub still : AreFound flat new known values
    pub less : left_of new known < left_of of known

  pub merged : (v w one other : ℕ) (new : List ℕ) → one ≡ label_of of v → other ≡ label_of of w → Same flat v w → one < other
      → new ≡ map (relabelled other one) of → AreMerged new
  merged v w one other new e f s l n =
      let is : new ≡ map (relabelled (label_of of w) (label_of of v)) of =
      n ∙ ap (λ x. map (relabelled x one) of) f ∙ ap (λ x. map (relabelled (label_of of w) x) of) e in
      let lesser : label_of of v < label_of of w = omega (arith, l, e, f) in
      record {
        still = subst (λ x. AreFound flat x known values) (sym is)
            (found_relabelled (label_of of w) (label_of of v) (labels_equal w v (turned v w s)));
        less = subst (λ x. left_of x known < left_of of known) (sym is) (merged_less w v (turned v w s) lesser);
      }

  -- the other way round
  pub merged_back : (v w one other : ℕ) (new : List ℕ) → one ≡ label_of of v → other ≡ label_of of w → Same flat v w → other ≤ one
      → (label_of of v ≡ label_of of w → ⊥) → new ≡ map (relabelled one other) of → AreMerged new
  merged_back v w one other new e f s l apart n = merged w v other one new f e (turned v w s) lesser n
    where
      lesser : other < one
      lesser = elim (cases_lt other one) [
        | inl less ↦ less
        | inr more ↦ absurd (apart (let same : one ≡ other = omega (arith, l, more) in sym e ∙ same ∙ f))
      ]

  -- the marks with one more
  pub record AreMarked (new : List Bool) : Type 0 where
    pub still : AreFound flat of new values
    pub less : left_of of new < left_of of known

  pub marked : (w : ℕ) (bits : List Bool) → IsKnown flat w bits → mark_of known w ≡ false → AreMarked (set known w true)
  marked w bits k none = record { still = found_marked w bits k; less = marked_less w bits k none }

  -- a wire gets the label of an equal one
  pub found_set : (w n : ℕ) → Same flat w n → AreFound flat (set of w n) known values
  found_set w n s = record {
    labels = record {
      sound = found.labels.sound;
      count = length-set of w n ∙ found.labels.count;
      same = λ x l. elim (cases_eq x w) [
        | inl e ↦ subst (λ y. Same flat y (label_of (set of w n) y)) (sym e)
            (subst (λ y. Same flat w y) (sym (get_or-set_same of w n 0 (label_within w s))) s)
        | inr ne ↦ subst (λ y. Same flat x y) (sym (get_or-set_other of w x n 0 ne)) (found.labels.same x l)
      ];
    };
    count = found.count;
    shown = found.shown;
    bits = found.bits;
  }
    where
      label_within : (w : ℕ) → Same flat w n → w < length of
      label_within w s =
          let both = same_exists flat found.labels.sound values found.shown w n s in
          let l = both.0 in
          let count = found.labels.count in
          omega (arith, l, count)

  -- a wire that is equal to a marked one gets a mark
  pub found_carried : (w n : ℕ) → Same flat w n → mark_of known w ≡ true → AreFound flat of (set known n true) values
  found_carried w n s m = found_marked n (bits_in values w) (carried w n (bits_in values w) s (found.bits w m))

  -- a label leads on to an equal wire
  pub find_more : (w root up : ℕ) → Same flat w root → up ≡ label_of of root → Same flat w up
  find_more w root up s e =
      let both = same_exists flat found.labels.sound values found.shown w root s in
      chained w root up s (subst (λ n. Same flat root n) (sym e) (found.labels.same root both.1))

  -- equal wires stand among the labels and the marks
  pub stand_within : (v w : ℕ) → Same flat v w → (v < length of) × (w < length known)
  stand_within v w s =
      let both = same_exists flat found.labels.sound values found.shown v w s in
      let one = both.0 in
      let other = both.1 in
      let labels = found.labels.count in
      let marks = found.count in
      (omega (arith, one, labels), omega (arith, other, marks))
