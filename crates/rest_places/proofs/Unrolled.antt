-- At rest a primitive on vectors that is unrolled, with all its arguments, can be.
use Rattle.std.proofs.Common.{◌≡◌, ◌∙◌, refl, sym, ap, subst, append_assoc, ℕ, List, [], ◌∷◌, ◌++◌, map}
use Rattle.std.specs.Prelude.{IsSome}
use Rattle.chw_types.specs.TypeTree.{TypeTree, nat_lit}
use Rattle.chw_prims.specs.declared.prim.Primitive.{Primitive as Prim}
use Rattle.chw_prims.specs.declared.row.Row.{Row}
use Rattle.chw_prims.specs.declared.row.Row.TheVariants.{Binary, WideSum, WideProduct, Unary, Shift, Compare, Extend, Truncate, Cut, Joined, Reduce, Packed, Unpacked, ElementAt, Replaced, Mapped, Zipped, FoldedLeft, FoldedRight, Generated, Replicated, Appended, Concatenated, Taken, Dropped, Reversed, Rotated}
use Rattle.chw_prims.specs.Schemas.{row_of, row_type}
use Rattle.chw_terms.specs.declared.term.Arg.{Arg}
use Rattle.chw_terms.specs.declared.term.Arg.TheVariants.{OfTerm, OfType}
use Rattle.chw_terms.specs.Evaluated.{evaluated}
use Rattle.chw_terms.specs.TermTree.{TermTree, prim}
use Rattle.chw_terms.specs.TermView.{applied}
use Rattle.chw_terms.specs.Unrolled.{body_of, CanUnroll}
use Rattle.chw_terms.proofs.Spines.{applied_more}
use Rattle.chw_typing.specs.Given.{types_then}
use Rattle.chw_typing.specs.Programs.{IsSound}
use Rattle.chw_typing.specs.Scopes.{Setting}
use Rattle.normal_forms.specs.Blocked.{IsRowOnSignals}
use Rattle.rewriting.specs.Origins.{Origins, setting_at}
use Rattle.rewriting.specs.Spots.{Spot, IsRowOnWords}
use Rattle.rest_places.specs.PrimLaws.{IsRowUnrolled}
use Rattle.rest_places.specs.Rest.{IsRestPlace}
use Rattle.rest_places.specs.Spines.{param_kinds, PrimGiven}
use Rattle.rest_places.proofs.Numbers.{IsSomeNumber, closed_is_number, Listed, listed, listed_none, listed_and}
use Rattle.rest_places.proofs.Sizes.{sizes_within}

-- what holds at each numeral
at_numeral : (P : TypeTree → Type 0) (t : TypeTree) → IsSomeNumber t → ((n : ℕ) → P (nat_lit n)) → P (evaluated t)
at_numeral P t number h = subst P (sym number.1) (h number.0)

module _ (s : Setting) (sound : IsSound s) where
  abbrev Unrolls : Row → List TypeTree → Type 0
  Unrolls row types = IsSome (body_of row types)

  one_number : (row : Row) (n : TypeTree) (rest : List TypeTree) → IsSomeNumber n → ((m : ℕ) → Unrolls row (nat_lit m ∷ rest)) → Unrolls row (evaluated n ∷ rest)
  one_number row n rest number h = at_numeral (λ t. Unrolls row (t ∷ rest)) n number h

  two_numbers : (row : Row) (n k a : TypeTree) → IsSomeNumber n → IsSomeNumber k → ((i j : ℕ) → Unrolls row (nat_lit i ∷ nat_lit j ∷ evaluated a ∷ [])) → Unrolls row (evaluated n ∷ evaluated k ∷ evaluated a ∷ [])
  two_numbers row n k a first second h =
      at_numeral (λ t. Unrolls row (t ∷ evaluated k ∷ evaluated a ∷ [])) n first (λ i. at_numeral (λ t. Unrolls row (nat_lit i ∷ t ∷ evaluated a ∷ [])) k second (h i))

  row_unrolls : (row : Row) → IsRowUnrolled row → {types : List TypeTree} → Listed s types (param_kinds (row_type row)) → Unrolls row (map evaluated types)
  row_unrolls (Mapped k) on (listed_and {t = n} d (listed_and {t = a} e (listed_and {t = b} f listed_none))) =
      one_number (Mapped k) n (evaluated a ∷ evaluated b ∷ []) (closed_is_number s n sound d) (λ m. refl)
  row_unrolls (Zipped k) on (listed_and {t = n} d (listed_and {t = a} e (listed_and {t = b} f (listed_and {t = c} g listed_none)))) =
      one_number (Zipped k) n (evaluated a ∷ evaluated b ∷ evaluated c ∷ []) (closed_is_number s n sound d) (λ m. refl)
  row_unrolls (FoldedLeft k) on (listed_and {t = n} d (listed_and {t = a} e (listed_and {t = b} f listed_none))) =
      one_number (FoldedLeft k) n (evaluated a ∷ evaluated b ∷ []) (closed_is_number s n sound d) (λ m. refl)
  row_unrolls (FoldedRight k) on (listed_and {t = n} d (listed_and {t = a} e (listed_and {t = b} f listed_none))) =
      one_number (FoldedRight k) n (evaluated a ∷ evaluated b ∷ []) (closed_is_number s n sound d) (λ m. refl)
  row_unrolls (Replicated k) on (listed_and {t = n} d (listed_and {t = a} e listed_none)) = one_number (Replicated k) n (evaluated a ∷ []) (closed_is_number s n sound d) (λ m. refl)
  row_unrolls (Reversed k) on (listed_and {t = n} d (listed_and {t = a} e listed_none)) = one_number (Reversed k) n (evaluated a ∷ []) (closed_is_number s n sound d) (λ m. refl)
  row_unrolls (Generated k) on (listed_and {t = n} d (listed_and {t = m} e (listed_and {t = a} f listed_none))) =
      two_numbers (Generated k) n m a (closed_is_number s n sound d) (closed_is_number s m sound e) (λ i j. refl)
  row_unrolls (Appended k) on (listed_and {t = n} d (listed_and {t = m} e (listed_and {t = a} f listed_none))) =
      two_numbers (Appended k) n m a (closed_is_number s n sound d) (closed_is_number s m sound e) (λ i j. refl)
  row_unrolls (Concatenated k) on (listed_and {t = n} d (listed_and {t = m} e (listed_and {t = a} f listed_none))) =
      two_numbers (Concatenated k) n m a (closed_is_number s n sound d) (closed_is_number s m sound e) (λ i j. refl)
  row_unrolls (Taken k) on (listed_and {t = n} d (listed_and {t = m} e (listed_and {t = a} f listed_none))) =
      two_numbers (Taken k) n m a (closed_is_number s n sound d) (closed_is_number s m sound e) (λ i j. refl)
  row_unrolls (Dropped k) on (listed_and {t = n} d (listed_and {t = m} e (listed_and {t = a} f listed_none))) =
      two_numbers (Dropped k) n m a (closed_is_number s n sound d) (closed_is_number s m sound e) (λ i j. refl)
  row_unrolls (Rotated k) on (listed_and {t = n} d (listed_and {t = m} e (listed_and {t = a} f listed_none))) =
      two_numbers (Rotated k) n m a (closed_is_number s n sound d) (closed_is_number s m sound e) (λ i j. refl)
  row_unrolls Replaced on (listed_and {t = n} d (listed_and {t = m} e (listed_and {t = a} f listed_none))) =
      two_numbers Replaced n m a (closed_is_number s n sound d) (closed_is_number s m sound e) (λ i j. refl)
  row_unrolls ElementAt on (listed_and {t = n} d (listed_and {t = m} e (listed_and {t = a} f listed_none))) =
      two_numbers ElementAt n m a (closed_is_number s n sound d) (closed_is_number s m sound e) (λ i j. refl)
  row_unrolls _ on types = absurd on

-- an unrolled primitive is not on signals, and not on words
unrolled_no_signals : (row : Row) → IsRowUnrolled row → IsRowOnSignals row → ⊥
unrolled_no_signals ElementAt on h = h
unrolled_no_signals Replaced on h = h
unrolled_no_signals (Mapped k) on h = h
unrolled_no_signals (Zipped k) on h = h
unrolled_no_signals (FoldedLeft k) on h = h
unrolled_no_signals (FoldedRight k) on h = h
unrolled_no_signals (Generated k) on h = h
unrolled_no_signals (Replicated k) on h = h
unrolled_no_signals (Appended k) on h = h
unrolled_no_signals (Concatenated k) on h = h
unrolled_no_signals (Taken k) on h = h
unrolled_no_signals (Dropped k) on h = h
unrolled_no_signals (Reversed k) on h = h
unrolled_no_signals (Rotated k) on h = h
unrolled_no_signals _ on h = on

unrolled_no_words : (row : Row) → IsRowUnrolled row → IsRowOnWords row → ⊥
unrolled_no_words (Binary x) on h = on
unrolled_no_words (WideSum x) on h = on
unrolled_no_words (WideProduct x) on h = on
unrolled_no_words (Unary x) on h = on
unrolled_no_words (Shift x) on h = on
unrolled_no_words (Compare x) on h = on
unrolled_no_words (Extend x) on h = on
unrolled_no_words (Truncate x) on h = on
unrolled_no_words Cut on h = on
unrolled_no_words Joined on h = on
unrolled_no_words Reduce on h = on
unrolled_no_words (Packed x) on h = on
unrolled_no_words (Unpacked x) on h = on
unrolled_no_words _ on h = h

-- the types of a primitive, and all arguments after them
pub types_in_front : (e : TermTree) (types : List TypeTree) (es : List TermTree) (more : List Arg) → applied (applied e (types_then types es)) more ≡ applied e (map (λ t. OfType t) types ++ (map (λ e. OfTerm e) es ++ more))
types_in_front e types es more = sym (applied_more e (types_then types es) more) ∙ ap (applied e) (append_assoc (map (λ t. OfType t) types) (map (λ e. OfTerm e) es) more)

pub can_unroll : (o : Origins) (at : Spot) (p : Prim) (types : List TypeTree) (es : List TermTree) (more : List Arg) (t : TypeTree) → IsRowUnrolled (row_of p) → PrimGiven (setting_at o) at.vars p types es more t → IsRestPlace o at (applied (applied (prim p) (types_then types es)) more) t → CanUnroll p types es
can_unroll o at p types es more t on given rest =
    let within = sizes_within o at p types (map (λ e. OfTerm e) es ++ more) t (unrolled_no_signals (row_of p) on, (λ w. absurd (unrolled_no_words (row_of p) on w))) given.saturated.have (subst (λ e. IsRestPlace o at e t) (types_in_front (prim p) types es more) rest) in
    record {
      on_types = row_unrolls (setting_at o) rest.place.sound (row_of p) on (listed types given.saturated.have);
      on_terms = given.on_terms;
      short = within.short;
      narrow = within.narrow;
    }
