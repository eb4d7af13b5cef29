-- The words of a constant vector.
use Rattle.std.specs.Prelude.{slice_get}
use Rattle.std.proofs.Common.{◌≡◌, ◌<◌, ◌≤◌, ℕ, zero, suc, Bool, List, [], ◌∷◌, length, Some, refl, sym, ap, ◌∙◌, subst, arith}
use Rattle.chw_base.specs.declared.limits.TheConstants.{VECTOR_LENGTH}
use Rattle.chw_types.specs.Polynomials.{ended}
use Rattle.chw_types.specs.SamePromises.{SameValues, natural_value}
use Rattle.chw_types.specs.SameTypes.{SameTypes}
use Rattle.chw_types.specs.TypeTree.{TypeTree, TypeTrees, nat_lit, vector}
use Rattle.type_laws.specs.SameKept.{FieldsKeepSame}
use Rattle.chw_terms.specs.TermTree.{TermTree, con}
use Rattle.chw_terms.specs.TermView.{terms_of}
use Rattle.chw_typing.specs.Programs.{IsSound}
use Rattle.chw_typing.specs.Scopes.{AreTermTypes}
use Rattle.chw_typing.specs.Typing.{HasTypeUpTo, AllHave, none_have, have_and, count}
use Rattle.rewriting.specs.Origins.{Origins, setting_at}
use Rattle.normal_forms.specs.Circuits.{IsConstant, constant_literal, constant_constructor, constant_vector, AreConstants, no_constants, constant_and}
use Rattle.chw_layout.specs.Datum.{elements, Datums}
use Rattle.chw_layout.specs.Measured.{closed_value, HasWidth}
use Rattle.chw_meaning.specs.Values.{History, Thunk, closed, element, Thunks, thunk_at, closed_all}
use Rattle.chw_meaning.specs.Eval.{plus, f_closed, f_element, e_vec}
use Rattle.carrying.specs.Carrying.{Shows}
use Rattle.net_built.specs.Memories.{DenoteEach, denote_none, denote_and, EncodeEach, HasWords}
use Rattle.net_grounds.specs.Facts.{Facts}
use Rattle.net_means.proofs.CircuitBits.Constants.{word_denoted, built_denoted, vector_denoted, listed, vector_typed, constant_shows}
use Rattle.net_means.proofs.CircuitBits.Heads.{head_then}

-- the number of a literal
literal_value : (n : ℕ) → closed_value (nat_lit n) ≡ ended n
unfolding natural_value
literal_value n = refl

module _ (facts : Facts) (o : Origins) (vars : List TypeTree) (γ : Thunks) (δ : TypeTrees) (values : SameValues) (keep : FieldsKeepSame) (sound : IsSound (setting_at o)) (scoped : AreTermTypes (setting_at o) [] vars) where
  -- the term of this number shows the word of this number
  record WordAt (es : List TermTree) (a : TypeTree) (words : List (List Bool)) (i : ℕ) : Type 0 where
    thunk : Thunk
    at : thunk_at (closed_all (terms_of es) γ δ) i ≡ Some thunk
    bits : List Bool
    word : slice_get words i ≡ Some bits
    shows : (h : History) → Shows o.program a thunk h bits

  word_here : {es : List TermTree} {words : List (List Bool)} (e : TermTree) (a : TypeTree) (b : List Bool) → ((h : History) → Shows o.program a (closed e γ δ) h b)
      → ((i : ℕ) → i < length words → WordAt es a words i) → (i : ℕ) → i < length (b ∷ words) → WordAt (e ∷ es) a (b ∷ words) i
  word_here e a b shows rest zero l = record { thunk = closed e γ δ; at = refl; bits = b; word = refl; shows = shows }
  word_here e a b shows rest (suc i) l =
      let w = rest i (omega (arith, l)) in
      record { thunk = w.thunk; at = w.at; bits = w.bits; word = w.word; shows = w.shows }

  words_shown : {es : List TermTree} → AreConstants o.program.datas es → (u v : TypeTree) (w : ℕ) (ds : Datums) (words : List (List Bool)) → SameTypes u v → AllHave (setting_at o) [] vars u (terms_of es) → DenoteEach es ds → EncodeEach o.program.datas v ds words → HasWidth o.program.datas v w
      → (length words ≡ count (terms_of es)) × ((i : ℕ) → i < length words → WordAt es v words i)
  words_shown no_constants u v w ds [] same none_have denote_none encode wide = (refl, λ i l. absurd (omega (arith, l)))
  words_shown no_constants u v w ds (b ∷ words) same none_have denote_none encode wide = absurd encode
  words_shown (constant_and one all) u v w ds [] same (have_and typed equal more) (denote_and denotes each) encode wide = absurd encode
  words_shown (constant_and {e = e} one all) u v w ds (b ∷ words) same (have_and {u = c} typed equal more) (denote_and {d = d} denotes each) encode wide =
      let rest = words_shown all u v w _ words same more each encode.1 wide in
      let first : (h : History) → Shows o.program v (closed e γ δ) h b =
      λ h. constant_shows facts o vars γ δ values keep sound scoped one v w d b denotes encode.0 wide (record { type = c; has = typed; same = facts.same.same_through (facts.same.same_turned same) equal }) h in
      (ap suc rest.0, word_here e v b first rest.1)

  -- each word is shown by the element there
  pub record ContentWord (c : TermTree) (a : TypeTree) (words : List (List Bool)) (i : ℕ) : Type 0 where
    pub bits : List Bool
    pub word : slice_get words i ≡ Some bits
    pub shows : (h : History) → Shows o.program a (element i (closed c γ δ)) h bits

  -- a constant that is such a vector has as many words, and its elements show them
  pub content_shows : {c : TermTree} → IsConstant o.program.datas c → (n a : TypeTree) (w : ℕ) (words : List (List Bool)) → HasWords o.program.datas a c words → HasWidth o.program.datas a w → HasTypeUpTo (setting_at o) [] vars c (vector n a) → closed_value n ≤ VECTOR_LENGTH
      → (length words ≡ closed_value n) × ((i : ℕ) → i < length words → ContentWord c a words i)
  content_shows constant_literal n a w words has wide typed small = let bad = word_denoted has.denotes in absurd cc
  content_shows (constant_constructor k types es at many all) n a w words has wide typed small =
      let bad = (built_denoted has.denotes (head_then (con k) types es)).1 in absurd cc
  content_shows (constant_vector t es all) n a w words has wide typed small =
      let of = vector_typed es typed.has in
      let at = facts.same.as_vector (facts.same.same_turned (subst (SameTypes (vector n a)) of.0 typed.same)) in
      let is : vector n a ≡ vector at.0 at.1 = at.2 in
      let count_is : n ≡ at.0 = cc in
      let value_is : a ≡ at.1 = cc in
      let number : ended (count (terms_of es)) ≡ closed_value n = sym (literal_value (count (terms_of es))) ∙ facts.same_layout.same_number values at.3 ∙ ap closed_value (sym count_is) in
      let meant = vector_denoted es has.denotes in
      let same_values_of : elements has.values ≡ elements meant.0 = meant.1 in
      let values_are : has.values ≡ meant.0 = cc in
      let each : DenoteEach es meant.0 = subst (λ es. DenoteEach es meant.0) (listed es) meant.2 in
      let encode : EncodeEach o.program.datas a meant.0 words = subst (λ ds. EncodeEach o.program.datas a ds words) values_are has.encode in
      let all_words = words_shown all t a w meant.0 words (subst (λ u. SameTypes t u) (sym value_is) at.4) of.1 each encode wide in (
        omega (arith, all_words.0, number, small),
        λ i l.
            let one = all_words.1 i l in
            record {
              bits = one.bits;
              word = one.word;
              shows = λ h. facts.shows.shows_through (λ m v f. (suc (plus (suc zero) m), f_element (f_closed e_vec) one.at f)) (one.shows h);
            },
      )
