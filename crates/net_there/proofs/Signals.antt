-- Right sides of typed circuits that keep a constant are ready.
use Rattle.std.proofs.Common.{◌≡◌, ℕ, List, [], ◌∷◌, refl, sym, subst}
use Rattle.chw_types.specs.declared.declarations.Data.{Data}
use Rattle.chw_types.specs.declared.kind.Kind.{Kind}
use Rattle.chw_types.specs.declared.kind.Kind.TheVariants.{Dom, Nat, Val}
use Rattle.chw_types.specs.declared.kind.Scalar.TheVariants.{U}
use Rattle.chw_types.specs.Kinds.{IsOfTerms, KindOf, kind_var, kind_nat, kind_sum, kind_product, kind_domain, kind_scalar, kind_vector, kind_data, kind_fun, kind_signal, kind_for_all, KindsOf, kind_and}
use Rattle.chw_types.specs.SamePromises.{SameValues}
use Rattle.chw_types.specs.SameTypes.{SameTypes}
use Rattle.chw_types.specs.TypeMoves.{sub}
use Rattle.chw_types.specs.TypeTree.{TypeTree, TypeTrees, type_and, ty_var, nat_lit, nat_sum, domain, scalar, vector, signal}
use Rattle.type_laws.specs.SameKept.{FieldsKeepSame}
use Rattle.chw_prims.specs.declared.prim.Primitive.TheVariants.{Pure, Register, BlockRam}
use Rattle.chw_prims.specs.Schemas.{maybe, pair}
use Rattle.chw_terms.specs.declared.scene.Sort.TheVariants.{Circuit}
use Rattle.chw_terms.specs.declared.term.Arg.TheVariants.{OfTerm, OfType}
use Rattle.chw_terms.specs.TermTree.{TermTree, var, prim}
use Rattle.chw_terms.specs.TermView.{applied}
use Rattle.chw_typing.specs.Given.{types_then}
use Rattle.chw_typing.specs.Programs.{IsSound}
use Rattle.chw_typing.specs.Scopes.{Setting, HasKind, AreTermTypes}
use Rattle.chw_typing.specs.Typing.{HasType, HasTypeUpTo}
use Rattle.chw_layout.specs.EncodingPromises.{ValueIsEncoded}
use Rattle.chw_layout.specs.Measured.{HasWidth}
use Rattle.layout_laws.specs.SameLayout.{SameKeepsMeasure}
use Rattle.rewriting.specs.Origins.{Origins, setting_at}
use Rattle.normal_forms.specs.Circuits.{IsConstant, content_type}
use Rattle.net_built.specs.Data.{HasParts}
use Rattle.net_ready.specs.Ready.{IsOne, HasSomeBits, HasSomeWords, PureReady, RegisterReady, BlockRamReady}
use Rattle.net_grounds.specs.Facts.{Facts}
use Rattle.net_means.proofs.NetFits.Ports.{parts_kept, signal_part}
use Rattle.net_there.proofs.Constants.{constant_bits, constant_words}

not_dom : {k : Kind} → IsOfTerms k → k ≡ Dom → ⊥
not_dom h e = subst IsOfTerms e h

-- a closed type of the kind of domains is a domain
domain_type : Facts → (s : Setting) → IsSound s → {d : TypeTree} {k : Kind} → KindOf s.datas s.domains [] d k → k ≡ Dom → (n : ℕ) × (d ≡ domain n)
domain_type facts s sound (kind_var e) h = absurd cc
domain_type facts s sound kind_nat h = absurd cc
domain_type facts s sound (kind_sum a b l) h = absurd cc
domain_type facts s sound (kind_product a b l) h = absurd cc
domain_type facts s sound (kind_domain {d = d} l) h = (d, refl)
domain_type facts s sound (kind_scalar w) h = absurd cc
domain_type facts s sound (kind_vector n t of) h = absurd (not_dom of h)
domain_type facts s sound (kind_data {d = d} {it = it} known kinds) h = absurd (not_dom (facts.kinds.of_terms_kind s.datas s.domains it (sound.kinds d it known)) h)
domain_type facts s sound (kind_fun {j = j} {k = k} a b functions) h = absurd (not_dom (facts.kinds.functions_of_terms j k functions).1 h)
domain_type facts s sound (kind_signal d t) h = absurd cc
domain_type facts s sound (kind_for_all t of) h = absurd (not_dom of h)

first_kind : {datas : List Data} {domains : ℕ} {t : TypeTree} {ts : TypeTrees} {k : Kind} {ks : List Kind} → KindsOf datas domains [] (type_and t ts) (k ∷ ks) → KindOf datas domains [] t k
first_kind (kind_and k more) = k

-- what is known of what circuits are typed over
module _ (facts : Facts) (values : SameValues) (keep : FieldsKeepSame) (law : SameKeepsMeasure) (encoded : ValueIsEncoded) (o : Origins) (sound : IsSound (setting_at o)) where
  -- a right side, its declared type with the type's parts, and the type that it has in a scope
  pub record Typed (vars : List TypeTree) (t : TypeTree) (e : TermTree) (widths : List ℕ) : Type 0 where
    pub scoped : AreTermTypes (setting_at o) [] vars
    pub type : TypeTree
    pub has : HasType (setting_at o) [] vars e type
    pub kind : Kind
    pub of_kind : HasKind (setting_at o) [] t kind
    pub same : SameTypes t type
    pub parts : HasParts o.program.datas Circuit t widths

  -- a signal has one part, and its values the width of that
  one_part : {vars : List TypeTree} {t : TypeTree} {e : TermTree} {widths : List ℕ} (d a : TypeTree) (typed : Typed vars t e widths) → SameTypes (signal d a) typed.type → IsOne widths × ((w : ℕ) × HasWidth o.program.datas a w)
  one_part d a typed gives =
      let part = signal_part (parts_kept facts keep law (setting_at o) sound _ (signal d a) _ (record { kind = typed.kind; has = typed.of_kind; same = facts.same.same_through typed.same (facts.same.same_turned gives) }) typed.parts) in
      (subst IsOne (sym part.2) tt, (part.0, part.1))

  pub pure_ready : {vars : List TypeTree} {t : TypeTree} {widths : List ℕ} (d a : TypeTree) (c : TermTree) → IsConstant o.program.datas c → Typed vars t (applied (prim Pure) (types_then (d ∷ a ∷ []) (c ∷ []))) widths → PureReady o.program.datas widths (OfType d ∷ OfType a ∷ OfTerm c ∷ [])
  unfolding sub
  pure_ready {vars} d a c constant typed =
      let args = facts.terms.prim_at_arguments (setting_at o) [] vars Pure (Dom ∷ Val ∷ []) (ty_var 0 ∷ []) (signal (ty_var 1) (ty_var 0)) (d ∷ a ∷ []) (c ∷ []) typed.type sound typed.scoped refl refl refl typed.has in
      let gives : SameTypes (signal d a) typed.type = args.gives in
      let content : HasTypeUpTo (setting_at o) [] vars c a = args.args_given.0 in
      let part = one_part d a typed gives in
      (part.0, constant_bits facts values keep encoded o sound vars typed.scoped constant a part.1.0 part.1.1 content)

  pub register_ready : {vars : List TypeTree} {t : TypeTree} {widths : List ℕ} (d a : TypeTree) (c : TermTree) (x : ℕ) → IsConstant o.program.datas c → Typed vars t (applied (prim Register) (types_then (d ∷ a ∷ []) (c ∷ var x ∷ []))) widths → RegisterReady o.program.datas widths (OfType d ∷ OfType a ∷ OfTerm c ∷ OfTerm (var x) ∷ [])
  unfolding sub
  register_ready {vars} {widths = widths} d a c x constant typed =
      let args = facts.terms.prim_at_arguments (setting_at o) [] vars Register (Dom ∷ Val ∷ []) (ty_var 0 ∷ signal (ty_var 1) (ty_var 0) ∷ []) (signal (ty_var 1) (ty_var 0)) (d ∷ a ∷ []) (c ∷ var x ∷ []) typed.type sound typed.scoped refl refl refl typed.has in
      let gives : SameTypes (signal d a) typed.type = args.gives in
      let content : HasTypeUpTo (setting_at o) [] vars c a = args.args_given.0 in
      let part = one_part d a typed gives in
      let dom = domain_type facts (setting_at o) sound (first_kind args.have) refl in
      let bits : HasSomeBits o.program.datas a c = constant_bits facts values keep encoded o sound vars typed.scoped constant a part.1.0 part.1.1 content in
      subst (λ (d : TypeTree). RegisterReady o.program.datas widths (OfType d ∷ OfType a ∷ OfTerm c ∷ OfTerm (var x) ∷ [])) (sym dom.1) (part.0, bits)

  pub block_ram_ready : {vars : List TypeTree} {t : TypeTree} {widths : List ℕ} (d n k a : TypeTree) (c : TermTree) (x y w : ℕ) → IsConstant o.program.datas c → HasWidth o.program.datas (content_type n a) w → Typed vars t (applied (prim BlockRam) (types_then (d ∷ n ∷ k ∷ a ∷ []) (c ∷ var x ∷ var y ∷ []))) widths
      → BlockRamReady o.program.datas widths (OfType d ∷ OfType n ∷ OfType k ∷ OfType a ∷ OfTerm c ∷ OfTerm (var x) ∷ OfTerm (var y) ∷ [])
  unfolding sub
  block_ram_ready {vars} {widths = widths} d n k a c x y w constant wide typed =
      let args = facts.terms.prim_at_arguments (setting_at o) [] vars BlockRam (Dom ∷ Nat ∷ Nat ∷ Val ∷ []) (vector (nat_sum (ty_var 2) (nat_lit 1)) (ty_var 0) ∷ signal (ty_var 3) (scalar U (ty_var 1)) ∷ signal (ty_var 3) (maybe (pair (scalar U (ty_var 1)) (ty_var 0))) ∷ []) (signal (ty_var 3) (ty_var 0)) (d ∷ n ∷ k ∷ a ∷ []) (c ∷ var x ∷ var y ∷ []) typed.type sound typed.scoped refl refl refl typed.has in
      let gives : SameTypes (signal d a) typed.type = args.gives in
      let content : HasTypeUpTo (setting_at o) [] vars c (content_type n a) = args.args_given.0 in
      let part = one_part d a typed gives in
      let dom = domain_type facts (setting_at o) sound (first_kind args.have) refl in
      let words : HasSomeWords o.program.datas a c = constant_words facts values keep encoded o sound vars typed.scoped constant n a w wide content in
      subst (λ (d : TypeTree). BlockRamReady o.program.datas widths (OfType d ∷ OfType n ∷ OfType k ∷ OfType a ∷ OfTerm c ∷ OfTerm (var x) ∷ OfTerm (var y) ∷ [])) (sym dom.1) (part.0, words)
