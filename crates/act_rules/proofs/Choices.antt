-- What a case goes on with, where its alternatives' bodies are changed.
use Rattle.std.specs.Prelude.{if◌then◌else◌}
use Rattle.std.proofs.Common.{◌≡◌, ℕ, suc, zero, Bool, true, false, List, [], ◌∷◌, length, reverse, Some, refl, sym, ap, ◌∙◌, subst}
use Rattle.std.proofs.lemmas.Bool.{eqb-true}
use Rattle.std.proofs.lemmas.List.{length-map, length-reverse}
use Rattle.chw_types.specs.declared.declarations.Data.{Data}
use Rattle.chw_types.specs.declared.kind.Kind.{Kind}
use Rattle.chw_types.specs.TypeTree.{TypeTree}
use Rattle.chw_types.specs.TypeMoves.{sub, Substitution as TypeSubstitution}
use Rattle.chw_types.specs.Arguments.{arguments}
use Rattle.chw_terms.specs.declared.program.Program.{Program}
use Rattle.chw_terms.specs.declared.term.Pattern.{Pattern}
use Rattle.chw_terms.specs.declared.term.Pattern.TheVariants.{OfCon, OfLit, Default}
use Rattle.chw_terms.specs.Constructors.{Constructor, con_at}
use Rattle.chw_terms.specs.TermMoves.{Substitution, up_by}
use Rattle.chw_terms.specs.TermTree.{TermTree, Alts, no_alts, alt, binders}
use Rattle.chw_typing.specs.HeadTypes.{PatternOf, of_con, of_lit, of_any, fields_at}
use Rattle.chw_typing.specs.Typing.{AllGive, none_give, give_and}
use Rattle.chw_typing.specs.Groups.{each_body}
use Rattle.chw_meaning.specs.Values.{Value, Thunk, Thunks, none, thunk_and, count_of, fields_from}
use Rattle.chw_meaning.specs.Eval.{Choice, goes_on, takes, looks, choice, is_only, by_fields, Arm, matches, bound, arm_of}
use Rattle.chw_meaning.proofs.Once.{same_some}
use Rattle.acts.specs.Levels.{Levels}
use Rattle.acts.specs.Acts.{AllAct}
use Rattle.acts.specs.Terms.{setting_with}
use Rattle.acts.proofs.Arms.{Seen, seen_bits, seen_con}
use Rattle.acts.proofs.Filled.{filled, filled_alts}

-- the choice among changed alternatives is that among the others, with the body changed
pub data Chose (datas : List Data) (F : ℕ → TermTree → TermTree) (alts : Alts) : Choice → Type 0 where
  chose_on : {e : TermTree} → choice datas alts ≡ goes_on e → Chose datas F alts (goes_on (F 0 e))
  chose_fields : {k : ℕ} {e : TermTree} → choice datas alts ≡ takes k e → Chose datas F alts (takes k (F k e))
  chose_looks : choice datas alts ≡ looks → Chose datas F alts looks

pub chose : (datas : List Data) (F : ℕ → TermTree → TermTree) (alts : Alts) → Chose datas F alts (choice datas (each_body F alts))
chose datas F no_alts = chose_looks refl
chose datas F (alt (OfCon c n) e more) = split (is_only (con_at datas c.number)) refl
  where
    split : (b : Bool) → is_only (con_at datas c.number) ≡ b → Chose datas F (alt (OfCon c n) e more) (by_fields (is_only (con_at datas c.number)) n (F n e))
    split true only = subst (λ b. Chose datas F (alt (OfCon c n) e more) (by_fields b n (F n e))) (sym only) (chose_fields (ap (λ b. by_fields b n e) only))
    split false several = subst (λ b. Chose datas F (alt (OfCon c n) e more) (by_fields b n (F n e))) (sym several) (chose_looks (ap (λ b. by_fields b n e) several))
chose datas F (alt (OfLit s []) e more) = chose_on refl
chose datas F (alt (OfLit s (b ∷ bs)) e more) = chose_looks refl
chose datas F (alt Default e no_alts) = chose_on refl
chose datas F (alt Default e (alt q f more)) = chose_looks refl

-- it goes by the patterns
pub looks_alike : (datas : List Data) (o : ℕ → TermTree) (alts : Alts) (σ' σ : Substitution) (τ : TypeSubstitution) → choice datas (filled_alts o (λ t. t) alts σ' τ) ≡ looks → choice datas (filled_alts o (λ t. t) alts σ τ) ≡ looks
unfolding filled
looks_alike datas o no_alts σ' σ τ e = refl
looks_alike datas o (alt (OfCon c n) f more) σ' σ τ e = split (is_only (con_at datas c.number)) refl
  where
    a' : TermTree
    a' = filled o (λ t. t) f (up_by n σ') τ

    a : TermTree
    a = filled o (λ t. t) f (up_by n σ) τ

    split : (b : Bool) → is_only (con_at datas c.number) ≡ b → by_fields (is_only (con_at datas c.number)) n a ≡ looks
    split true only = let bad : takes n a' ≡ looks = sym (ap (λ b. by_fields b n a') only) ∙ e in cc
    split false several = ap (λ b. by_fields b n a) several
looks_alike datas o (alt (OfLit s []) f more) σ' σ τ e = cc
looks_alike datas o (alt (OfLit s (b ∷ bs)) f more) σ' σ τ e = refl
looks_alike datas o (alt Default f no_alts) σ' σ τ e = cc
looks_alike datas o (alt Default f (alt q g more)) σ' σ τ e = refl

pub count_fields : (i k : ℕ) (x : Thunk) → count_of (fields_from i k x none) ≡ k
count_fields i zero x = refl
count_fields i (suc k) x = ap suc (count_fields (suc i) k x)

count_all : (p : Program) (r : Levels) (ts : List TypeTree) (xs' xs : Thunks) → AllAct p r ts xs' xs → count_of xs' ≡ length ts
count_all p r [] none none h = refl
count_all p r (t ∷ ts) (thunk_and x' xs') (thunk_and x xs) h = ap suc (count_all p r ts xs' xs h.1)
count_all p r [] none (thunk_and x xs) h = absurd h
count_all p r [] (thunk_and x' xs') xs h = absurd h
count_all p r (t ∷ ts) none xs h = absurd h
count_all p r (t ∷ ts) (thunk_and x' xs') none h = absurd h

-- as many thunks are bound as the pattern has names
pub count_bound : {p : Program} {r : Levels} {u t : TypeTree} {v w : Value} {q : Pattern} {fields : List TypeTree} → PatternOf p.datas u q fields → Seen p r t v w → matches v q ≡ true → count_of (bound v q) ≡ binders q
count_bound {p} {r} (of_con {n = n} {c = c} it e o size) (seen_con {tag = tag} {ts = us} {it = other} {first = first} {second = second} held of parts) hit =
    let number : tag ≡ c.number = eqb-true tag c.number hit in
    let is : other ≡ it = same_some held (ap (λ i. con_at p.datas i) number ∙ e) in
    count_all p r (reverse (fields_at other us)) first second parts
    ∙ length-reverse (fields_at other us)
    ∙ length-map other.decl.fields (λ f. sub f (arguments us))
    ∙ ap (λ (it : Constructor). length it.decl.fields) is
    ∙ size
count_bound (of_con it e o size) seen_bits hit = cc
count_bound (of_lit i e) seen_bits hit = refl
count_bound (of_lit i e) (seen_con held of parts) hit = refl
count_bound of_any seen_bits hit = refl
count_bound of_any (seen_con held of parts) hit = refl

arm_first : (v : Value) (q : Pattern) (e : TermTree) (more : Alts) → matches v q ≡ true → arm_of v (alt q e more) ≡ Some (record { fields = bound v q; body = e })
arm_first v q e more h = ap (λ b. if b then Some (record { fields = bound v q; body = e }) else arm_of v more) h

arm_rest : (v : Value) (q : Pattern) (e : TermTree) (more : Alts) → matches v q ≡ false → arm_of v (alt q e more) ≡ arm_of v more
arm_rest v q e more h = ap (λ b. if b then Some (record { fields = bound v q; body = e }) else arm_of v more) h

-- the arm of changed alternatives is that of the others, with the body changed
pub record FramedArm (F : ℕ → TermTree → TermTree) (v : Value) (alts : Alts) (a : Arm) : Type 0 where
  pub binds : ℕ
  pub body : TermTree
  pub is_body : a.body ≡ F binds body
  pub counts : count_of a.fields ≡ binds
  pub found : arm_of v alts ≡ Some (record { fields = a.fields; body = body })

pub framed_arm : {p : Program} {r : Levels} {types : List TypeTree} {kinds : List Kind} {vars : List TypeTree} {u t : TypeTree} {alts : Alts} → AllGive (setting_with p types) kinds vars u t alts → {c : TypeTree} {v w : Value} → Seen p r c v w → (F : ℕ → TermTree → TermTree) (o : ℕ → TermTree) (σ : Substitution) (τ : TypeSubstitution) (a : Arm) → arm_of v (each_body F (filled_alts o (λ t. t) alts σ τ)) ≡ Some a → FramedArm F v (filled_alts o (λ t. t) alts σ τ) a
unfolding filled
framed_arm none_give see F o σ τ a found = cc
framed_arm (give_and {q = q} {e = e} {more = more} bs d x rest) {v = v} see F o σ τ a found =
    split (matches v q) refl (λ later. framed_arm rest see F o σ τ a later)
  where
    e' : TermTree
    e' = filled o (λ t. t) e (up_by (binders q) σ) τ

    more' : Alts
    more' = filled_alts o (λ t. t) more σ τ

    split : (b : Bool) → matches v q ≡ b → (arm_of v (each_body F more') ≡ Some a → FramedArm F v more' a) → FramedArm F v (alt q e' more') a
    split true hit others =
        let same = same_some (arm_first v q (F (binders q) e') (each_body F more') hit) found in
        subst (λ a. FramedArm F v (alt q e' more') a) same
        (record { binds = binders q; body = e'; is_body = refl; counts = count_bound bs.pattern see hit; found = arm_first v q e' more' hit })
    split false miss others =
        let one = others (sym (arm_rest v q (F (binders q) e') (each_body F more') miss) ∙ found) in
        record { binds = one.binds; body = one.body; is_body = one.is_body; counts = one.counts; found = arm_rest v q e' more' miss ∙ one.found }
