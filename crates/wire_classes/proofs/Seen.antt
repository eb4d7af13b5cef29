-- What is known of keys after so many, by their numbers.
use Rattle.std.proofs.Common.{◌≡◌, ℕ, ◌+◌, ◌<◌, ◌≤◌, inl, inr, List, cond, length, map, Some, None, slice_get, refl, sym, ap, subst, ◌∙◌, arith}
use Rattle.std.specs.Option.{option_map}
use Rattle.std.specs.Prelude.{nat_eq}
use Rattle.std.proofs.lemmas.Bool.{cases_eq, cases_lt, cond-false, cond-true, eq-eqb, ne_eqb}
use Rattle.std.proofs.lemmas.List.{length-map}
use Rattle.std.proofs.lemmas.Option.{none-some, same_Some, slice_get-map, slice_get_within}
use Rattle.indexmap.specs.IndexMap.{get}
use Rattle.netlist.specs.declared.net.Cell.{Cell}
use Rattle.wire_classes.specs.Closed.{label_of}
use Rattle.wire_classes.specs.Keys.{KeysAgree, KeysClash, cell_key, hash_of}
use Rattle.wire_classes.specs.Seen.{AreSeen, Firsts}

-- the key of the cell at a place
pub key_at : (of : List ℕ) (cells : List Cell) (p : ℕ) (cell : Cell) → slice_get cells p ≡ Some cell
    → slice_get (map (cell_key of) cells) p ≡ Some (cell_key of cell)
key_at of cells p cell at = slice_get-map (cell_key of) cells p ∙ ap (option_map (cell_key of)) at

-- the same, where it was written and read
pub key_here : (of : List ℕ) (cells : List Cell) (p : ℕ) (cell : Cell) (written read : List ℕ) → slice_get cells p ≡ Some cell
    → written ≡ cell_key of cell → read ≡ written → slice_get (map (cell_key of) cells) p ≡ Some read
key_here of cells p cell written read at is same = key_at of cells p cell at ∙ ap Some (sym is ∙ sym same)

module _ (keys : List (List ℕ)) (labels : List ℕ) (i : ℕ) (firsts : Firsts) (seen : AreSeen keys labels i firsts)
    (key : List ℕ) (here : slice_get keys i ≡ Some key) where
  same_key : (j : ℕ) (name : List ℕ) → i ≡ j → slice_get keys j ≡ Some name → key ≡ name
  same_key j name is at = same_Some key name (sym here ∙ ap (slice_get keys) is ∙ at)

  old_seen : (f : ℕ) → get nat_eq firsts (hash_of key) ≡ Some f → slice_get keys f ≡ Some key → label_of labels f ≡ label_of labels i
      → AreSeen keys labels (i + 1) firsts
  old_seen f e at same = record {
    each = λ j name l there. elim (cases_lt j i) [
      | inl less ↦ seen.each j name less there
      | inr more ↦ let is : i ≡ j = omega (arith, l, more) in
          let one : key ≡ name = same_key j name is there in
          (f, subst (λ x. get nat_eq firsts (hash_of x) ≡ Some f) one e, at ∙ ap Some one, same ∙ ap (label_of labels) is)
    ];
    there = seen.there;
  }

  -- a key that is equal to the first one with its number, and has the label of that
  pub seen_old : (more : Firsts) → more ≡ firsts → (f hash : ℕ) → hash ≡ hash_of key → get nat_eq firsts hash ≡ Some f
      → slice_get keys f ≡ Some key → label_of labels f ≡ label_of labels i → AreSeen keys labels (i + 1) more
  seen_old more stays f hash is e at same =
      subst (AreSeen keys labels (i + 1)) (sym stays) (old_seen f (ap (get nat_eq firsts) (sym is) ∙ e) at same)

  new_seen : (more : Firsts) → get nat_eq firsts (hash_of key) ≡ None
      → ((hash : ℕ) → get nat_eq more hash ≡ cond (nat_eq (hash_of key) hash) (Some i) (get nat_eq firsts hash)) → AreSeen keys labels (i + 1) more
  new_seen more none with_it = record {
    each = λ j name l there. elim (cases_lt j i) [
      | inl less ↦ let old = seen.each j name less there in (old.0, kept (hash_of name) old.0 old.1, old.2, old.3)
      | inr later ↦ let is : i ≡ j = omega (arith, l, later) in
          let one : key ≡ name = same_key j name is there in
          (i, subst (λ x. get nat_eq more (hash_of x) ≡ Some i) one own, here ∙ ap Some one, ap (label_of labels) is)
    ];
    there = λ hash f e. elim (cases_eq (hash_of key) hash) [
      | inl same ↦
          let is : i ≡ f = same_Some i f (sym (with_it hash ∙ cond-true (nat_eq (hash_of key) hash) (Some i) (get nat_eq firsts hash) (eq-eqb (hash_of key) hash same)) ∙ e) in
          let l = slice_get_within keys i key here in
          omega (arith, is, l)
      | inr apart ↦
          seen.there hash f
          (sym (with_it hash ∙ cond-false (nat_eq (hash_of key) hash) (Some i) (get nat_eq firsts hash) (ne_eqb (hash_of key) hash apart)) ∙ e)
    ];
  }
    where
      own : get nat_eq more (hash_of key) ≡ Some i
      own = with_it (hash_of key)
          ∙ cond-true (nat_eq (hash_of key) (hash_of key)) (Some i) (get nat_eq firsts (hash_of key)) (eq-eqb (hash_of key) (hash_of key) refl)

      kept : (hash f : ℕ) → get nat_eq firsts hash ≡ Some f → get nat_eq more hash ≡ Some f
      kept hash f e = elim (cases_eq (hash_of key) hash) [
        | inl same ↦ absurd (none-some f (sym none ∙ ap (get nat_eq firsts) same ∙ e))
        | inr apart ↦
            with_it hash ∙ cond-false (nat_eq (hash_of key) hash) (Some i) (get nat_eq firsts hash) (ne_eqb (hash_of key) hash apart) ∙ e
      ]

  -- a key whose number is new
  pub seen_new : (more : Firsts) (hash : ℕ) → hash ≡ hash_of key → get nat_eq firsts hash ≡ None
      → ((other : ℕ) → get nat_eq more other ≡ cond (nat_eq hash other) (Some i) (get nat_eq firsts other)) → AreSeen keys labels (i + 1) more
  seen_new more hash is none with_it =
      new_seen more (ap (get nat_eq firsts) (sym is) ∙ none)
      (λ other. with_it other ∙ ap (λ h. cond (nat_eq h other) (Some i) (get nat_eq firsts other)) is)

module _ (keys : List (List ℕ)) (labels : List ℕ) (i : ℕ) (key : List ℕ) (here : slice_get keys i ≡ Some key) where
  -- a key that is equal to the first one with its number, and has another label
  pub seen_clash : (f : ℕ) → slice_get keys f ≡ Some key → (label_of labels f ≡ label_of labels i → ⊥) → KeysClash keys labels f i
  seen_clash f at apart = record { key = key; one = at; other = here; apart = apart }

-- after all keys, equal ones have one label
pub seen_agree : (keys : List (List ℕ)) (labels : List ℕ) (n : ℕ) (firsts : Firsts) → AreSeen keys labels n firsts → length keys ≤ n → KeysAgree keys labels
seen_agree keys labels n firsts seen whole = λ i j key a b.
    let first : i < n = let l = slice_get_within keys i key a in omega (arith, l, whole) in
    let second : j < n = let l = slice_get_within keys j key b in omega (arith, l, whole) in
    let one = seen.each i key first a in
    let other = seen.each j key second b in
    sym one.3 ∙ ap (label_of labels) (same_Some one.0 other.0 (sym one.1 ∙ other.1)) ∙ other.3

-- the keys of all cells
pub keys_whole : (of : List ℕ) (cells : List Cell) (n : ℕ) → length cells ≤ n → length (map (cell_key of) cells) ≤ n
keys_whole of cells n l = let m = length-map cells (cell_key of) in omega (arith, l, m)
