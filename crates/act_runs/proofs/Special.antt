-- A part of a body that becomes a made definition, on variables.
use Rattle.std.specs.Prelude.{slice_get}
use Rattle.std.proofs.Common.{◌==◌, ◌≡◌, ◌<◌, ◌⊎◌, inl, inr, ℕ, suc, zero, Bool, true, false, List, [], ◌∷◌, ◌++◌, length, map, Some, refl, sym, ap, ◌∙◌, subst, arith}
use Rattle.std.proofs.lemmas.Bool.{eq-eqb, eqb-true}
use Rattle.chw_types.specs.declared.kind.Kind.{Kind}
use Rattle.chw_types.specs.SameTypes.{SameTypes}
use Rattle.chw_types.specs.TypeTree.{TypeTree}
use Rattle.chw_types.proofs.SameLaws.{same_self, same_through, same_turned}
use Rattle.chw_terms.specs.declared.term.Pattern.{Pattern}
use Rattle.chw_terms.specs.Evaluated.{evaluated_in}
use Rattle.chw_terms.specs.TermTree.{TermTree, var, made, app}
use Rattle.chw_terms.specs.TermView.{applied}
use Rattle.chw_typing.specs.Programs.{AreClosed, IsSound, setting_of}
use Rattle.chw_typing.specs.Scopes.{Setting, IsTermType, AreTermTypes}
use Rattle.chw_typing.specs.HeadTypes.{from_each}
use Rattle.chw_typing.specs.Typing.{Binds, HasType, HasTypeUpTo, h_var, h_app}
use Rattle.chw_typing.proofs.Kinded.{type_kinded}
use Rattle.chw_typing.specs.TypedPartLaws.{with_made}
use Rattle.chw_typing.proofs.MoreMade.{typed_with_made, term_types_with_made, sound_with_made}
use Rattle.chw_typing.specs.Paths.{with_part}
use Rattle.chw_typing.specs.Around.{Around, here, in_lam, in_ty_lam, in_function, in_argument, in_ty_app, in_letrec, in_vector, in_scrutinee, in_branch}
use Rattle.chw_typing.proofs.ContextPlaces.{around_is_part}
use Rattle.chw_typing.proofs.Plugged.{plugged}
use Rattle.chw_typing.proofs.Typed.{part_typed}
use Rattle.rewriting.specs.Origins.{Origins, origin_at, setting_at, with_origins}
use Rattle.rewriting.proofs.PutMade.{made_put}
use Rattle.acts.specs.Terms.{ActsAs, ActsUnder, OriginsAct, OriginsTyped}
use Rattle.act_rules.specs.RuleLaws.{HasOrigins, KeepsMeaning}
use Rattle.act_rules.proofs.RuleMoves.{origins_act}
use Rattle.act_rules.specs.ContextLaws.{PlugActs}
use Rattle.act_runs.specs.States.{TypedChain, typed_end, typed_and}
use Rattle.act_runs.proofs.Abstracted.{variables, origins_on_variables, made_on_variables}
use Rattle.act_runs.proofs.Agree.{origins_agree}
use Rattle.act_runs.proofs.Evaluated.{evaluation, evaluated_same}
use Rattle.act_runs.proofs.Parts.{with_part_put}
use Rattle.act_runs.proofs.States.{over_program, acts_at, made_acts}

-- a place with more made definitions
binds_with_made : (s : Setting) (more : List TypeTree) (kinds : List Kind) (u : TypeTree) (q : Pattern) (bound : List TypeTree) → Binds s kinds u q bound → Binds (with_made s more) kinds u q bound
binds_with_made s more kinds u q bound b = record { fields = b.fields; pattern = b.pattern; same = b.same; typed = term_types_with_made s more kinds bound b.typed }

around_with_made : {s : Setting} {kinds ks : List Kind} {vars vs : List TypeTree} {e x : TermTree} {path : List ℕ} → Around s kinds vars e path ks vs x → (more : List TypeTree) → Around (with_made s more) kinds vars e path ks vs x
around_with_made here more = here
around_with_made (in_lam r) more = in_lam (around_with_made r more)
around_with_made (in_ty_lam r) more = in_ty_lam (around_with_made r more)
around_with_made (in_function r) more = in_function (around_with_made r more)
around_with_made (in_argument r) more = in_argument (around_with_made r more)
around_with_made (in_ty_app r) more = in_ty_app (around_with_made r more)
around_with_made (in_letrec e r) more = in_letrec e (around_with_made r more)
around_with_made (in_vector e r) more = in_vector e (around_with_made r more)
around_with_made (in_scrutinee r) more = in_scrutinee (around_with_made r more)
around_with_made {s} {kinds} (in_branch {bound = bound} {u = u} {a = a} e d b r) more =
    in_branch e (typed_with_made d more) (binds_with_made s more kinds u a.pattern bound b) (around_with_made r more)

-- a function on variables of its parameters' types
pub variables_typed : (s : Setting) (kinds : List Kind) (vars : List TypeTree) (xs : List ℕ) (ts : List TypeTree) (t : TypeTree) (f : TermTree) → map (slice_get vars) xs ≡ map (λ t. Some t) ts → HasType s kinds vars f (from_each ts t) → HasType s kinds vars (applied f (variables xs)) t
variables_typed s kinds vars [] [] t f e d = d
variables_typed s kinds vars (x ∷ xs) (u ∷ us) t f e d =
    let at : slice_get vars x ≡ Some u = cc in
    variables_typed s kinds vars xs us t (app f (var x)) (cc) (h_app d (h_var at) (same_self u))
variables_typed s kinds vars [] (u ∷ us) t f e d = absurd cc
variables_typed s kinds vars (x ∷ xs) [] t f e d = absurd cc

-- a list with one more item
differ : (x y : ℕ) → (x ≡ y → ⊥) → (x == y) ≡ false
differ x y n = by (x == y) refl
  where
    by : (b : Bool) → (x == y) ≡ b → b ≡ false
    by true same = absurd (n (eqb-true x y same))
    by false other = refl

within : (xs : List TypeTree) (k : ℕ) (t : TypeTree) → slice_get xs k ≡ Some t → k < length xs
within [] k t e = absurd cc
within (x ∷ xs) zero t e = omega arith
within (x ∷ xs) (suc k) t e = let l = within xs k t e in omega (arith, l)

before_last : (xs : List TypeTree) (k : ℕ) (t : TypeTree) → slice_get xs k ≡ Some t → (k == length xs) ≡ false
before_last xs k t e = let l = within xs k t e in differ k (length xs) (λ same. omega (arith, l, same))

pub last_there : (xs : List TypeTree) (u : TypeTree) → slice_get (xs ++ u ∷ []) (length xs) ≡ Some u
last_there [] u = refl
last_there (x ∷ xs) u = last_there xs u

record IsLast (xs : List TypeTree) (u : TypeTree) (k : ℕ) (t : TypeTree) : Type 0 where
  is : k ≡ length xs
  type : u ≡ t

last_or_before : (xs : List TypeTree) (u : TypeTree) (k : ℕ) (t : TypeTree) → slice_get (xs ++ u ∷ []) k ≡ Some t → (slice_get xs k ≡ Some t) ⊎ IsLast xs u k t
last_or_before [] u zero t e = inr (record { is = refl; type = cc })
last_or_before [] u (suc k) t e = absurd cc
last_or_before (x ∷ xs) u zero t e = inl e
last_or_before (x ∷ xs) u (suc k) t e = by (last_or_before xs u k t e)
  where
    by : (slice_get xs k ≡ Some t) ⊎ IsLast xs u k t → (slice_get (x ∷ xs) (suc k) ≡ Some t) ⊎ IsLast (x ∷ xs) u (suc k) t
    by (inl f) = inl f
    by (inr l) = inr (record { is = ap suc l.is; type = l.type })

-- a term for one more number
abbrev chosen : Bool → TermTree → TermTree → TermTree
chosen true a e = a
chosen false a e = e

-- one more made definition
pub wider_sound : (o : Origins) → IsSound (setting_at o) → (u : TypeTree) → IsTermType (setting_of o.program) [] u → IsSound (with_made (setting_at o) (u ∷ []))
wider_sound o full u closed = sound_with_made (setting_at o) (u ∷ []) full one_closed
  where
    one_closed : AreClosed (setting_at o) (u ∷ [])
    one_closed zero t e = let is : u ≡ t = cc in subst (IsTermType (setting_at o) []) is (record { kind = closed.kind; has = closed.has; of_terms = closed.of_terms })
    one_closed (suc k) t e = absurd cc

module _ (plug : PlugActs) (o : Origins) (sound : IsSound (setting_of o.program)) (h : HasOrigins o.program (setting_at o).made (origin_at o)) (full : IsSound (setting_at o)) (u : TypeTree) (closed : IsTermType (setting_of o.program) [] u) where
  abbrev types : List TypeTree
  types = (setting_at o).made

  abbrev hole : ℕ
  hole = length (setting_at o).made

  -- with one more made definition, of the type
  abbrev wider : Setting
  wider = with_made (setting_at o) (u ∷ [])

  wider_closed : AreClosed (setting_of o.program) wider.made
  wider_closed k t e = by (last_or_before types u k t e)
    where
      by : (slice_get types k ≡ Some t) ⊎ IsLast types u k t → IsTermType (setting_of o.program) [] t
      by (inl f) = h.closed k t f
      by (inr l) = subst (IsTermType (setting_of o.program) []) l.type closed

  wider_full : IsSound wider
  wider_full = wider_sound o full u closed

  -- this term for it
  abbrev filling : TermTree → ℕ → TermTree
  filling a k = chosen (k == hole) a (origin_at o k)

  filling_before : (a : TermTree) (k : ℕ) (t : TypeTree) → slice_get types k ≡ Some t → filling a k ≡ origin_at o k
  filling_before a k t e = ap (λ b. chosen b a (origin_at o k)) (before_last types k t e)

  filling_last : (a : TermTree) (k : ℕ) → k ≡ hole → filling a k ≡ a
  filling_last a k same = ap (λ b. chosen b a (origin_at o k)) (eq-eqb k hole same)

  filling_there : (a : TermTree) → filling a hole ≡ a
  filling_there a = filling_last a hole refl

  fillings_typed : (a : TermTree) → HasTypeUpTo (setting_of o.program) [] [] a u → OriginsTyped o.program wider.made (filling a)
  fillings_typed a typed k t e = by (last_or_before types u k t e)
    where
      by : (slice_get types k ≡ Some t) ⊎ IsLast types u k t → HasTypeUpTo (setting_of o.program) [] [] (filling a k) t
      by (inl f) = subst (λ e. HasTypeUpTo (setting_of o.program) [] [] e t) (sym (filling_before a k t f)) (h.have_types k t f)
      by (inr l) =
          subst (λ e. HasTypeUpTo (setting_of o.program) [] [] e t) (sym (filling_last a k l.is))
          (subst (HasTypeUpTo (setting_of o.program) [] [] a) l.type typed)

  fillings_act : (a b : TermTree) → ActsAs o.program u a b → OriginsAct o.program wider.made (filling a) (filling b)
  fillings_act a b acts k t e = by (last_or_before types u k t e)
    where
      by : (slice_get types k ≡ Some t) ⊎ IsLast types u k t → ActsAs o.program t (filling a k) (filling b k)
      by (inl f) =
          subst (λ e. ActsAs o.program t e (filling b k)) (sym (filling_before a k t f))
          (subst (λ e. ActsAs o.program t (origin_at o k) e) (sym (filling_before b k t f)) (origins_act o.program sound h.typed types (origin_at o) h.closed h.have_types k t f))
      by (inr l) =
          subst (λ e. ActsAs o.program t e (filling b k)) (sym (filling_last a k l.is))
          (subst (λ e. ActsAs o.program t a e) (sym (filling_last b k l.is)) (subst (λ t. ActsAs o.program t a b) l.type acts))

  filled_origins : (a : TermTree) → HasTypeUpTo (setting_of o.program) [] [] a u → HasOrigins o.program wider.made (filling a)
  filled_origins a typed = record { tidy = h.tidy; typed = h.typed; closed = wider_closed; have_types = fillings_typed a typed }

  module _ (body : TermTree) (ty : TypeTree) (body_typed : HasTypeUpTo (setting_at o) [] [] body ty) (declared : IsTermType (setting_of o.program) [] ty) (path : List ℕ) (vs : List TypeTree) (x : TermTree) (around : Around (setting_at o) [] [] body path [] vs x) (xs : List ℕ) (fits : (w : TypeTree) → HasType wider [] vs x w → HasTypeUpTo wider [] vs (applied (made hole) (variables xs)) w) where
    -- the body with the new made definition in the part's place
    abbrev opened : TermTree
    opened = with_part body path (applied (made hole) (variables xs))

    opened_typed : HasTypeUpTo wider [] [] opened body_typed.type
    opened_typed = plugged (around_with_made around (u ∷ [])) wider_full (applied (made hole) (variables xs)) fits tt body_typed.type (typed_with_made body_typed.has (u ∷ []))

    opened_same : SameTypes ty opened_typed.type
    opened_same = same_through body_typed.same opened_typed.same

    opened_type : IsTermType (setting_of o.program) [] opened_typed.type
    opened_type = let k = type_kinded opened_typed.has wider_full tt in record { kind = k.kind; has = k.has; of_terms = k.of_terms }

    filled_typed : (a : TermTree) → HasTypeUpTo (setting_of o.program) [] [] a u → HasTypeUpTo (setting_of o.program) [] [] (with_origins (filling a) opened) ty
    filled_typed a typed =
        let put = made_put opened_typed.has wider_full [] sound (filling a) (fillings_typed a typed) tt in
        record { type = put.type; has = put.has; same = same_through opened_same put.same }

    -- one term for the made definition and another
    link : (a b : TermTree) → ActsAs o.program u a b → ActsAs o.program ty (with_origins (filling a) opened) (with_origins (filling b) opened)
    link a b acts =
        acts_at o.program sound opened_type declared (same_turned opened_same) (with_origins (filling a) opened) (with_origins (filling b) opened)
        (made_acts o.program sound h.typed wider.made (filling a) (filling b) wider_closed (fillings_act a b acts) opened opened_typed.type opened_typed.has)

    -- a closed term, with the origins of made definitions, which on the variables keeps the part's meaning
    module _ (c0 : TermTree) (w : TypeTree) (c_typed : HasType (setting_at o) [] [] c0 w) (same_type : SameTypes u w) (keeps : KeepsMeaning (applied c0 (variables xs)) x) where
      abbrev origin : TermTree
      origin = with_origins (origin_at o) c0

      origin_typed : HasTypeUpTo (setting_of o.program) [] [] origin u
      origin_typed =
          let put = made_put c_typed full [] sound (origin_at o) h.have_types tt in
          record { type = put.type; has = put.has; same = same_through same_type put.same }

      by_origins : (e : TermTree) {kinds : List Kind} {vars : List TypeTree} {t : TypeTree} → HasType (setting_at o) kinds vars e t → (a : TermTree) → with_origins (filling a) e ≡ with_origins (origin_at o) e
      by_origins e d a = origins_agree d (filling a) (origin_at o) (λ k t f. filling_before a k t f)

      on_variables : with_origins (filling origin) (applied c0 (variables xs)) ≡ with_origins (filling origin) (applied (made hole) (variables xs))
      on_variables =
          origins_on_variables (filling origin) c0 xs
          ∙ ap (λ f. applied f (variables xs)) (by_origins c0 c_typed origin ∙ sym (filling_there origin))
          ∙ sym (made_on_variables (filling origin) hole xs)

      in_scope : AreTermTypes wider [] vs
      in_scope = (part_typed (around_with_made around (u ∷ [])) wider_full tt body_typed.type (typed_with_made body_typed.has (u ∷ []))).0

      part_acts : (t : TypeTree) → HasType wider [] vs x t → ActsUnder o.program [] vs (with_origins (filling origin) (applied (made hole) (variables xs))) (with_origins (filling origin) x) t
      part_acts t d =
          subst (λ a. ActsUnder o.program [] vs a (with_origins (filling origin) x) t) on_variables
          (keeps o.program wider.made (filling origin) [] vs t (filled_origins origin origin_typed) in_scope d)

      body_kind : IsTermType (setting_of o.program) [] body_typed.type
      body_kind = over_program o (type_kinded body_typed.has full tt)

      last_link : ActsAs o.program ty (with_origins (filling origin) opened) (with_origins (origin_at o) body)
      last_link =
          let whole = plug o.program wider.made (filling origin) [] [] [] vs body (applied (made hole) (variables xs)) x body_typed.type path h.tidy h.typed wider_closed (fillings_typed origin origin_typed) tt (typed_with_made body_typed.has (u ∷ [])) (around_with_made around (u ∷ [])) part_acts in
          subst (ActsAs o.program ty (with_origins (filling origin) opened)) (by_origins body body_typed.has origin)
          (acts_at o.program sound body_kind declared (same_turned body_typed.same) (with_origins (filling origin) opened) (with_origins (filling origin) body) whole)

      body_origins_typed : HasTypeUpTo (setting_of o.program) [] [] (with_origins (origin_at o) body) ty
      body_origins_typed =
          let put = made_put body_typed.has full [] sound (origin_at o) h.have_types tt in
          record { type = put.type; has = put.has; same = same_through body_typed.same put.same }

      -- a closed term with the same evaluated form in its place
      special_chain : (q : TermTree) (v : TypeTree) → HasTypeUpTo (setting_of o.program) [] [] q v → evaluated_in q ≡ evaluated_in origin → TypedChain o.program ty (with_origins (filling q) opened) (with_origins (origin_at o) body)
      special_chain q v q_typed same =
          let own = evaluated_same o.program sound h.typed q origin v u q_typed origin_typed same in
          let first = evaluation o.program sound h.typed q u closed own in
          let second = evaluation o.program sound h.typed origin u closed origin_typed in
          let back : ActsAs o.program u (evaluated_in q) origin = subst (λ e. ActsAs o.program u e origin) (sym same) second.from in
          typed_and (filled_typed q own) (link q (evaluated_in q) first.to)
          (typed_and (filled_typed (evaluated_in q) first.has) (link (evaluated_in q) origin back)
          (typed_and (filled_typed origin origin_typed) last_link (typed_end body_origins_typed)))

      -- where the made definition has a number, and the others their origins
      pub special_body : (n : ℕ → TermTree) (m : ℕ) (v : TypeTree) → HasTypeUpTo (setting_of o.program) [] [] (n m) v → evaluated_in (n m) ≡ evaluated_in origin → ((k : ℕ) (t : TypeTree) → slice_get types k ≡ Some t → n k ≡ origin_at o k) → TypedChain o.program ty (with_origins n (with_part body path (applied (made m) (variables xs)))) (with_origins (origin_at o) body)
      special_body n m v q_typed same agree =
          subst (λ e. TypedChain o.program ty e (with_origins (origin_at o) body)) (sym filled_in) (special_chain (n m) v q_typed same)
        where
          siblings : with_origins n body ≡ with_origins (filling (n m)) body
          siblings = origins_agree body_typed.has n (filling (n m)) (λ k t f. agree k t f ∙ sym (filling_before (n m) k t f))

          parts : with_origins n (applied (made m) (variables xs)) ≡ with_origins (filling (n m)) (applied (made hole) (variables xs))
          parts =
              made_on_variables n m xs
              ∙ ap (λ f. applied f (variables xs)) (sym (filling_there (n m)))
              ∙ sym (made_on_variables (filling (n m)) hole xs)

          filled_in : with_origins n (with_part body path (applied (made m) (variables xs))) ≡ with_origins (filling (n m)) opened
          filled_in =
              with_part_put path n body x (applied (made m) (variables xs)) (around_is_part around)
              ∙ (λ i. with_part (siblings i) path (parts i))
              ∙ sym (with_part_put path (filling (n m)) body x (applied (made hole) (variables xs)) (around_is_part around))
