-- The data types of a program stand in an order in which each refers only to earlier ones.
use Rattle.std.proofs.Common.{◌≡◌, ℕ, suc, zero, Bool, true, false, ◌||◌, ◌==◌, ◌⊎◌, inl, inr, refl, ap, ◌∙◌, List, [], ◌∷◌, ◌++◌, length, Option, Some, None, eq-eqb, ◌<◌, subst, arith}
use Rattle.std.specs.List.{slice_get}
use Rattle.chw_types.specs.declared.declarations.ConDecl.{ConDecl}
use Rattle.chw_types.specs.declared.declarations.Data.{Data}
use Rattle.chw_types.specs.TypeTree.{TypeTree, ty_var, nat_lit, nat_sum, nat_product, domain, scalar, vector, data_of, fun, signal, for_all, TypeTrees, no_types, type_and}
use Rattle.chw_types.specs.Arguments.{all_fields}
use Rattle.chw_types.specs.References.{Mentions, MentionsAny, MentionedIn, Refers, HasNoCycle as HasOrder}
use Rattle.chw_terms.specs.References.{names_data, any_names_data, DataRefers}
use Rattle.graph_order.specs.References.{Leads, step, step_and, HasNoCycle}
use Rattle.std.proofs.lemmas.Bool.{eqb-true, or_cases, or_left, or_right}
use Rattle.std.proofs.lemmas.Option.{slice_get_within}
use Rattle.chw_typing.proofs.Reaching.{place_of, place_within, place_earlier}

-- either of two is named
either : {A B : Type 0} (a b : Bool) → (A → a ≡ true) → (B → b ≡ true) → A ⊎ B → (a || b) ≡ true
either a b f g (inl x) = or_left a b (f x)
either a b f g (inr y) = or_right a b (g y)

-- one of two is mentioned
one_mentioned : {A B : Type 0} (a b : Bool) → (a ≡ true → A) → (b ≡ true → B) → (a || b) ≡ true → A ⊎ B
one_mentioned a b f g h = elim (or_cases a b h) [ inl x ↦ inl (f x) | inr y ↦ inr (g y) ]

mutual
  mentioned_named : (t : TypeTree) (e : ℕ) → Mentions t e → names_data t e ≡ true
  mentioned_named (ty_var x) e m = absurd m
  mentioned_named (nat_lit n) e m = absurd m
  mentioned_named (nat_sum a b) e m = either (names_data a e) (names_data b e) (mentioned_named a e) (mentioned_named b e) m
  mentioned_named (nat_product a b) e m = either (names_data a e) (names_data b e) (mentioned_named a e) (mentioned_named b e) m
  mentioned_named (domain d) e m = absurd m
  mentioned_named (scalar s w) e m = mentioned_named w e m
  mentioned_named (vector n t) e m = either (names_data n e) (names_data t e) (mentioned_named n e) (mentioned_named t e) m
  mentioned_named (data_of d ts) e m = either (d == e) (any_names_data ts e) (eq-eqb d e) (any_mentioned_named ts e) m
  mentioned_named (fun a b) e m = either (names_data a e) (names_data b e) (mentioned_named a e) (mentioned_named b e) m
  mentioned_named (signal d t) e m = either (names_data d e) (names_data t e) (mentioned_named d e) (mentioned_named t e) m
  mentioned_named (for_all k t) e m = mentioned_named t e m

  any_mentioned_named : (ts : TypeTrees) (e : ℕ) → MentionsAny ts e → any_names_data ts e ≡ true
  any_mentioned_named no_types e m = absurd m
  any_mentioned_named (type_and t ts) e m = either (names_data t e) (any_names_data ts e) (mentioned_named t e) (any_mentioned_named ts e) m

-- whether a data type stands in one of these types, or in a field of one of these constructors
fields_name : List TypeTree → ℕ → Bool
fields_name [] e = false
fields_name (t ∷ ts) e = names_data t e || fields_name ts e

cons_name : List ConDecl → ℕ → Bool
cons_name [] e = false
cons_name (c ∷ cs) e = fields_name c.fields e || cons_name cs e

data_names : Option Data → ℕ → Bool
data_names None e = false
data_names (Some it) e = cons_name it.cons e

fields_named : (ts us : List TypeTree) (e : ℕ) → MentionedIn (ts ++ us) e → (fields_name ts e ≡ true) ⊎ MentionedIn us e
unfolding fields_name
fields_named [] us e m = inr m
fields_named (t ∷ ts) us e (inl m) = inl (or_left (names_data t e) (fields_name ts e) (mentioned_named t e m))
fields_named (t ∷ ts) us e (inr m) = elim (fields_named ts us e m) [ inl h ↦ inl (or_right (names_data t e) (fields_name ts e) h) | inr h ↦ inr h ]

cons_named : (cs : List ConDecl) (e : ℕ) → MentionedIn (all_fields cs) e → cons_name cs e ≡ true
unfolding cons_name
cons_named [] e m = absurd m
cons_named (c ∷ cs) e m =
    elim (fields_named c.fields (all_fields cs) e m) [
      | inl h ↦ or_left (fields_name c.fields e) (cons_name cs e) h
      | inr h ↦ or_right (fields_name c.fields e) (cons_name cs e) (cons_named cs e h)
    ]

-- a type among others that names a data type
record Naming (ts : List TypeTree) (e : ℕ) : Type 0 where
  pub at : ℕ
  pub type : TypeTree
  pub is : slice_get ts at ≡ Some type
  pub names : names_data type e ≡ true

field_naming : (ts : List TypeTree) (e : ℕ) → fields_name ts e ≡ true → Naming ts e
unfolding fields_name
field_naming [] e h = absurd (cc)
field_naming (t ∷ ts) e h =
    elim (or_cases (names_data t e) (fields_name ts e) h) [
      | inl n ↦ record { at = zero; type = t; is = refl; names = n }
      | inr n ↦ let w = field_naming ts e n in record { at = suc w.at; type = w.type; is = w.is; names = w.names }
    ]

record ConNaming (cs : List ConDecl) (e : ℕ) : Type 0 where
  pub con : ℕ
  pub of : ConDecl
  pub is_con : slice_get cs con ≡ Some of
  pub field : Naming of.fields e

con_naming : (cs : List ConDecl) (e : ℕ) → cons_name cs e ≡ true → ConNaming cs e
unfolding cons_name
con_naming [] e h = absurd (cc)
con_naming (c ∷ cs) e h =
    elim (or_cases (fields_name c.fields e) (cons_name cs e) h) [
      | inl n ↦ record { con = zero; of = c; is_con = refl; field = field_naming c.fields e n }
      | inr n ↦ let w = con_naming cs e n in record { con = suc w.con; of = w.of; is_con = w.is_con; field = w.field }
    ]

module _ (datas : List Data) where
  goes : ℕ → ℕ → Bool
  goes a b = data_names (slice_get datas a) b

  to_step : (a b : ℕ) → goes a b ≡ true → DataRefers datas a b
  unfolding goes data_names
  to_step a b h = from (slice_get datas a) refl h
    where
      from : (o : Option Data) → slice_get datas a ≡ o → data_names o b ≡ true → DataRefers datas a b
      from None e n = absurd (cc)
      from (Some it) e n =
          let w = con_naming it.cons b n in
          (it, w.field.type, e, record { con = w.con; of = w.of; is_con = w.is_con; at = w.field.at; is_field = w.field.is }, w.field.names)

  from_step : (a b : ℕ) → Refers datas a b → goes a b ≡ true
  unfolding goes data_names
  from_step a b r = ap (λ o. data_names o b) r.1 ∙ cons_named r.0.cons b r.2

  -- data types without cycles of references have such an order
  pub has_order : HasNoCycle (DataRefers datas) → HasOrder datas
  has_order none = record {
    place = place_of goes (DataRefers datas) to_step none (length datas);
    within = place_within goes (DataRefers datas) to_step none (length datas);
    earlier = λ a b l r. place_earlier goes (DataRefers datas) to_step none (length datas) a b l (from_step a b r);
  }

mutual
  named_mentioned : (t : TypeTree) (e : ℕ) → names_data t e ≡ true → Mentions t e
  named_mentioned (ty_var x) e h = absurd (cc)
  named_mentioned (nat_lit n) e h = absurd (cc)
  named_mentioned (nat_sum a b) e h = one_mentioned (names_data a e) (names_data b e) (named_mentioned a e) (named_mentioned b e) h
  named_mentioned (nat_product a b) e h = one_mentioned (names_data a e) (names_data b e) (named_mentioned a e) (named_mentioned b e) h
  named_mentioned (domain d) e h = absurd (cc)
  named_mentioned (scalar s w) e h = named_mentioned w e h
  named_mentioned (vector n t) e h = one_mentioned (names_data n e) (names_data t e) (named_mentioned n e) (named_mentioned t e) h
  named_mentioned (data_of d ts) e h = one_mentioned (d == e) (any_names_data ts e) (eqb-true d e) (any_named_mentioned ts e) h
  named_mentioned (fun a b) e h = one_mentioned (names_data a e) (names_data b e) (named_mentioned a e) (named_mentioned b e) h
  named_mentioned (signal d t) e h = one_mentioned (names_data d e) (names_data t e) (named_mentioned d e) (named_mentioned t e) h
  named_mentioned (for_all k t) e h = named_mentioned t e h

  any_named_mentioned : (ts : TypeTrees) (e : ℕ) → any_names_data ts e ≡ true → MentionsAny ts e
  any_named_mentioned no_types e h = absurd (cc)
  any_named_mentioned (type_and t ts) e h = one_mentioned (names_data t e) (any_names_data ts e) (named_mentioned t e) (any_named_mentioned ts e) h

mentioned_before : (ts us : List TypeTree) (e : ℕ) → MentionedIn ts e → MentionedIn (ts ++ us) e
mentioned_before [] us e m = absurd m
mentioned_before (t ∷ ts) us e (inl m) = inl m
mentioned_before (t ∷ ts) us e (inr m) = inr (mentioned_before ts us e m)

mentioned_behind : (ts us : List TypeTree) (e : ℕ) → MentionedIn us e → MentionedIn (ts ++ us) e
mentioned_behind [] us e m = m
mentioned_behind (t ∷ ts) us e m = inr (mentioned_behind ts us e m)

mentioned_at : (ts : List TypeTree) (i : ℕ) (t : TypeTree) (e : ℕ) → slice_get ts i ≡ Some t → Mentions t e → MentionedIn ts e
mentioned_at [] i t e h m = absurd (cc)
mentioned_at (u ∷ ts) zero t e h m = let same : t ≡ u = cc in inl (subst (λ v. Mentions v e) same m)
mentioned_at (u ∷ ts) (suc i) t e h m = inr (mentioned_at ts i t e h m)

mentioned_in_con : (cs : List ConDecl) (i : ℕ) (c : ConDecl) (e : ℕ) → slice_get cs i ≡ Some c → MentionedIn c.fields e → MentionedIn (all_fields cs) e
mentioned_in_con [] i c e h m = absurd (cc)
mentioned_in_con (x ∷ cs) zero c e h m = let same : c ≡ x = cc in mentioned_before x.fields (all_fields cs) e (subst (λ (y : ConDecl). MentionedIn y.fields e) same m)
mentioned_in_con (x ∷ cs) (suc i) c e h m = mentioned_behind x.fields (all_fields cs) e (mentioned_in_con cs i c e h m)

refers_by_fields : (datas : List Data) (a b : ℕ) → DataRefers datas a b → Refers datas a b
refers_by_fields datas a b r =
    let field = r.3 in
    (r.0, r.2, mentioned_in_con r.0.cons field.con field.of b field.is_con (mentioned_at field.of.fields field.at r.1 b field.is_field (named_mentioned r.1 b r.4)))

module _ (datas : List Data) (order : HasOrder datas) where
  -- what steps lead from is a data type
  begins : {a b : ℕ} → Leads (DataRefers datas) a b → a < length datas
  begins {a} (step r) = slice_get_within datas a r.0 r.2
  begins {a} (step_and r more) = slice_get_within datas a r.0 r.2

  places_fall : {a b : ℕ} → Leads (DataRefers datas) a b → b < length datas → order.place b < order.place a
  places_fall {a} {b} (step r) l = order.earlier a b l (refers_by_fields datas a b r)
  places_fall {a} (step_and {b = b} r more) l =
      let first = order.earlier a b (begins more) (refers_by_fields datas a b r) in omega (arith, places_fall more l)

  -- and data types that have such an order have no cycles of references
  pub has_no_cycle : HasNoCycle (DataRefers datas)
  has_no_cycle a l = absurd (let less = places_fall l (begins l) in omega arith)
