-- A case at rest looks at nothing that is known, and has more than a default.
use Rattle.std.proofs.Common.{◌≡◌, ◌∙◌, ◌⊎◌, inl, inr, refl, sym, ap, subst, ℕ, Bool, List, [], length, Some}
use Rattle.chw_types.specs.declared.kind.Kind.{Kind}
use Rattle.chw_types.specs.declared.kind.Scalar.{Scalar}
use Rattle.chw_types.specs.declared.declarations.Data.{Data}
use Rattle.chw_types.specs.SameTypes.{SameAll}
use Rattle.chw_types.specs.TypeTree.{TypeTree, TypeTrees, scalar, data_of}
use Rattle.chw_types.specs.TypeView.{trees_of}
use Rattle.type_laws.proofs.SameForms.{as_data}
use Rattle.chw_base.specs.declared.index.ConId.{ConId}
use Rattle.chw_terms.specs.Constructors.{Constructor, con_at}
use Rattle.chw_terms.specs.declared.rule.Rule.TheVariants.{CaseCon, CaseLet, CaseCase}
use Rattle.chw_terms.specs.declared.term.Pattern.{Pattern}
use Rattle.chw_terms.specs.declared.term.Pattern.TheVariants.{OfCon, OfLit, Default}
use Rattle.chw_terms.specs.TermTree.{TermTree, letrec, con, lit, case_of, Alts, no_alts, alt}
use Rattle.chw_terms.specs.TermView.{applied}
use Rattle.chw_typing.specs.Alternatives.{Hides, HasDefault, IsFor, IsCovered}
use Rattle.chw_typing.specs.Given.{types_then}
use Rattle.chw_typing.specs.HeadTypes.{PatternOf, of_con, of_lit, of_any}
use Rattle.chw_typing.specs.Paths.{Branch}
use Rattle.chw_typing.specs.Scopes.{Setting}
use Rattle.chw_typing.specs.Typing.{HasType, h_lit, AllGive, give_and}
use Rattle.chw_typing.proofs.Saturated.{con_at_arguments}
use Rattle.rewriting.specs.Cases.{case_con, case_lit, case_any, case_let, case_case}
use Rattle.rewriting.specs.Named.{IsNamed}
use Rattle.rewriting.specs.Origins.{Origins, setting_at}
use Rattle.rewriting.specs.Shapes.{IsLet, IsTakenBy, by_first, by_later}
use Rattle.rewriting.specs.Spots.{Spot}
use Rattle.rule_types.proofs.Scrutinees.{CaseTyped, case_typed}
use Rattle.rest_places.specs.Laws.{LooksAtUnknown}
use Rattle.rest_places.specs.Rest.{IsRestPlace}
use Rattle.rest_places.proofs.Steps.{no_core}

-- one of the alternatives leaves nothing for this pattern
abbrev HasHider : Pattern → Alts → Type 0
HasHider p no_alts = ⊥
HasHider p (alt q e more) = Hides q p ⊎ HasHider p more

-- so one is taken, the first of them
one_taken : (p : Pattern) (alts : Alts) → HasHider p alts → ((b : Branch) → IsTakenBy p alts b → ⊥) → ⊥
one_taken p no_alts h none = h
one_taken p (alt q e more) (inl h) none = none (record { pattern = q; body = e }) (by_first h)
one_taken p (alt q e more) (inr h) none = one_taken p more h (λ b taken. none b (by_later (λ k. none (record { pattern = q; body = e }) (by_first k)) taken))

default_hides : (p : Pattern) (alts : Alts) → HasDefault alts → HasHider p alts
default_hides p no_alts h = h
default_hides p (alt Default e more) h = inl tt
default_hides p (alt (OfCon c n) e more) h = inr (default_hides p more h)
default_hides p (alt (OfLit r bits) e more) h = inr (default_hides p more h)

for_hides : (c n : ℕ) (alts : Alts) → IsFor c alts → HasHider (OfCon (record { number = c }) n) alts
for_hides c n no_alts h = h
for_hides c n (alt (OfCon d m) e more) (inl q) = inl (sym q)
for_hides c n (alt (OfCon d m) e more) (inr h) = inr (for_hides c n more h)
for_hides c n (alt (OfLit r bits) e more) h = inr (for_hides c n more h)
for_hides c n (alt Default e more) h = inr (for_hides c n more h)

-- the data type that a constructor's pattern is for
record IsForData (datas : List Data) (c : ℕ) (u : TypeTree) : Type 0 where
  pub data_type : ℕ
  pub types : TypeTrees
  pub is : u ≡ data_of data_type types
  pub of : (it : Constructor) → con_at datas c ≡ Some it → it.of ≡ data_type

pattern_data : {datas : List Data} {u : TypeTree} {q : Pattern} {fields : List TypeTree} → PatternOf datas u q fields → (c : ConId) (n : ℕ) → q ≡ OfCon c n → IsForData datas c.number u
pattern_data {datas} (of_con {d = d} {c = b} {ts = ts} it is of l) c n q =
    let same : b ≡ c = cc in
    record {
      data_type = d;
      types = ts;
      is = refl;
      of = λ other there.
          let both : Some it ≡ Some other = sym is ∙ ap (λ (c : ConId). con_at datas c.number) same ∙ there in
          let one : it ≡ other = cc in
          ap (λ (i : Constructor). i.of) (sym one) ∙ of;
    }
pattern_data (of_lit l s) c n q = absurd cc
pattern_data of_any c n q = absurd cc

for_data : {s : Setting} {kinds : List Kind} {vars : List TypeTree} {u t : TypeTree} (alts : Alts) → AllGive s kinds vars u t alts → (c : ℕ) → IsFor c alts → IsForData s.datas c u
for_data no_alts d c h = absurd h
for_data {s} {u = u} (alt (OfCon b n) e more) (give_and p d x rest) c (inl q) = subst (λ c. IsForData s.datas c u) (sym q) (pattern_data p.pattern b n refl)
for_data (alt (OfCon b n) e more) (give_and p d x rest) c (inr h) = for_data more rest c h
for_data (alt (OfLit r bits) e more) (give_and p d x rest) c h = for_data more rest c h
for_data (alt Default e more) (give_and p d x rest) c h = for_data more rest c h

literal_scalar : {s : Setting} {vars : List TypeTree} {r : Scalar} {bits : List Bool} {u : TypeTree} → HasType s [] vars (lit r bits) u → (w : TypeTree) × (u ≡ scalar r w)
literal_scalar (h_lit l) = (_, refl)

module _ (o : Origins) (at : Spot) (alts : Alts) (t : TypeTree) where
  looks_no_letrec : (e : TermTree) → IsRestPlace o at (case_of e alts) t → IsLet e → ⊥
  looks_no_letrec (letrec g x) p l = no_core CaseLet (case_of (letrec g x) alts) _ [] case_let p
  looks_no_letrec _ p l = l

  looks_no_constructor : (c : ℕ) (it : Constructor) (types : List TypeTree) (es : List TermTree) → con_at o.program.datas c ≡ Some it → length types ≡ length it.it.params → length es ≡ length it.decl.fields → IsRestPlace o at (case_of (applied (con c) (types_then types es)) alts) t → ⊥
  looks_no_constructor c it types es is l m p =
      one_taken (OfCon (record { number = c }) (length es)) alts (covered p.complete.0)
      (λ b taken. no_core CaseCon (case_of (applied (con c) (types_then types es)) alts) _ [] (case_con c types es is l m taken) p)
    where
      of : CaseTyped (setting_at o) [] at.vars (applied (con c) (types_then types es)) alts t
      of = case_typed p.has

      own : (us : TypeTrees) × (of.type ≡ data_of it.of us) × SameAll (trees_of types) us
      own = as_data (con_at_arguments (setting_at o) [] at.vars c it types es of.type p.place.sound p.place.vars is l m of.has).2

      covered : IsCovered o.program.datas alts → HasHider (OfCon (record { number = c }) (length es)) alts
      covered (inl d) = default_hides _ alts d
      covered (inr all) =
          let for = for_data alts of.given_all all.con all.has in
          let one : data_of it.of own.0 ≡ data_of for.data_type for.types = sym own.1 ∙ for.is in
          let same : it.of ≡ for.data_type = cc in
          for_hides c (length es) alts (all.each c it is (same ∙ sym (for.of all.it all.is)))

  looks_no_literal : (r : Scalar) (bits : List Bool) → IsRestPlace o at (case_of (lit r bits) alts) t → ⊥
  looks_no_literal r bits p =
      one_taken (OfLit r bits) alts (covered p.complete.0) (λ b taken. no_core CaseCon (case_of (lit r bits) alts) _ [] (case_lit taken) p)
    where
      of : CaseTyped (setting_at o) [] at.vars (lit r bits) alts t
      of = case_typed p.has

      covered : IsCovered o.program.datas alts → HasHider (OfLit r bits) alts
      covered (inl d) = default_hides _ alts d
      covered (inr all) =
          let for = for_data alts of.given_all all.con all.has in
          let word = literal_scalar of.has in
          let wrong : scalar r word.0 ≡ data_of for.data_type for.types = sym word.1 ∙ for.is in
          absurd cc

  looks_no_case : (f : TermTree) (inner : Alts) (u : TypeTree) → IsRestPlace o at (case_of (case_of f inner) alts) t → HasType (setting_at o) [] at.vars (case_of f inner) u → (IsNamed o.program.datas at.mode u → ⊥) → ⊥
  looks_no_case f inner u p d n = no_core CaseCase (case_of (case_of f inner) alts) _ [] (case_case d n) p

pub case_on_known : (o : Origins) (at : Spot) (e : TermTree) (alts : Alts) (t : TypeTree) → IsRestPlace o at (case_of e alts) t → LooksAtUnknown o at e alts
case_on_known o at e alts t p =
    record {
      no_constructor = λ c it types es is l m q. looks_no_constructor o at alts t c it types es is l m (subst (λ e. IsRestPlace o at (case_of e alts) t) q p);
      no_literal = λ r bits q. looks_no_literal o at alts t r bits (subst (λ e. IsRestPlace o at (case_of e alts) t) q p);
      no_letrec = looks_no_letrec o at alts t e p;
      no_case = λ f inner u q d n. looks_no_case o at alts t f inner u (subst (λ e. IsRestPlace o at (case_of e alts) t) q p) (subst (λ e. HasType (setting_at o) [] at.vars e u) q d) n;
      no_lone_default = λ f q. no_core CaseCon (case_of e (alt Default f no_alts)) f [] case_any (subst (λ a. IsRestPlace o at (case_of e a) t) q p);
    }
