-- Groups, vectors and alternatives of which one part acts as the one in its place.
use Rattle.std.proofs.Common.{◌≡◌, ℕ, suc, zero, List, Some, refl, sym, subst}
use Rattle.chw_types.specs.declared.kind.Kind.{Kind}
use Rattle.chw_types.specs.TypeTree.{TypeTree}
use Rattle.chw_terms.specs.declared.program.Program.{Program}
use Rattle.chw_terms.specs.declared.term.Pattern.{Pattern}
use Rattle.chw_terms.specs.TermTree.{TermTree, Terms, no_terms, term_and, Group, no_bindings, bind, Alts, no_alts, alt}
use Rattle.chw_typing.specs.Scopes.{AreTermTypes, with_more}
use Rattle.chw_typing.specs.Programs.{AreClosed, IsSound, IsTyped, setting_of}
use Rattle.chw_typing.specs.Typing.{Binds}
use Rattle.chw_typing.proofs.Kinded.{typed_more}
use Rattle.chw_meaning.proofs.Once.{same_some}
use Rattle.acts.specs.Acts.{acts_from}
use Rattle.acts.specs.Terms.{OriginsTyped, setting_with}
use Rattle.acts.proofs.Levels.{from_turns}
use Rattle.act_rules.proofs.RuleMoves.{same_term_acts}
use Rattle.chw_typing.specs.Paths.{element_at, with_element, part_of_group, with_side, with_body, Branch, branch_at, with_branch}
use Rattle.act_rules.specs.ContextLaws.{ActsAtTypes}

-- two groups of the same declared types, of which each right side acts as the other's
pub data SidesAt (p : Program) (types : List TypeTree) (o : ℕ → TermTree) (kinds : List Kind) (vars : List TypeTree) : Group → Group → Type 0 where
  no_sides : SidesAt p types o kinds vars no_bindings no_bindings
  sides_and : {t : TypeTree} {e' e : TermTree} {g' g : Group} → ActsAtTypes p types o kinds vars e' e → SidesAt p types o kinds vars g' g → SidesAt p types o kinds vars (bind t e' g') (bind t e g)

-- so with elements
pub data ElementsAt (p : Program) (types : List TypeTree) (o : ℕ → TermTree) (kinds : List Kind) (vars : List TypeTree) : Terms → Terms → Type 0 where
  no_elements : ElementsAt p types o kinds vars no_terms no_terms
  elements_and : {e' e : TermTree} {es' es : Terms} → ActsAtTypes p types o kinds vars e' e → ElementsAt p types o kinds vars es' es → ElementsAt p types o kinds vars (term_and e' es') (term_and e es)

-- the first body acts as the second, whatever the pattern binds of a value of the type
abbrev pub BodyAt : Program → List TypeTree → (ℕ → TermTree) → List Kind → List TypeTree → TypeTree → Pattern → TermTree → TermTree → Type 0
BodyAt p types o kinds vars u q e' e = (bound : List TypeTree) → Binds (setting_with p types) kinds u q bound → ActsAtTypes p types o kinds (with_more bound vars) e' e

-- so with alternatives of the same patterns
pub data AltsAt (p : Program) (types : List TypeTree) (o : ℕ → TermTree) (kinds : List Kind) (vars : List TypeTree) (u : TypeTree) : Alts → Alts → Type 0 where
  no_alts_at : AltsAt p types o kinds vars u no_alts no_alts
  alts_and : {q : Pattern} {e' e : TermTree} {more' more : Alts} → BodyAt p types o kinds vars u q e' e → AltsAt p types o kinds vars u more' more → AltsAt p types o kinds vars u (alt q e' more') (alt q e more)

module _ (p : Program) (sound : IsSound (setting_of p)) (typed : IsTyped p) (types : List TypeTree) (o : ℕ → TermTree) (are_closed : AreClosed (setting_of p) types) (have : OriginsTyped p types o) where
  -- a typed term acts as itself
  pub itself_acts : {kinds : List Kind} {vars : List TypeTree} (e : TermTree) → AreTermTypes (setting_with p types) kinds vars → ActsAtTypes p types o kinds vars e e
  itself_acts e h u d n δ γ' γ known names = same_term_acts p sound typed types o are_closed have h d (acts_from p n) (from_turns p n) δ γ' γ known names

  sides_itself : {kinds : List Kind} {vars : List TypeTree} (g : Group) → AreTermTypes (setting_with p types) kinds vars → SidesAt p types o kinds vars g g
  sides_itself no_bindings h = no_sides
  sides_itself (bind t e g) h = sides_and (itself_acts e h) (sides_itself g h)

  -- the right sides, of which the one at this place may change
  pub one_side : {kinds : List Kind} {vars : List TypeTree} (g : Group) (e b y : TermTree) (i : ℕ) → AreTermTypes (setting_with p types) kinds vars → part_of_group g e i ≡ Some b → ActsAtTypes p types o kinds vars y b → SidesAt p types o kinds vars (with_side g i y) g
  one_side no_bindings e b y i h at f = no_sides
  one_side {kinds} {vars} (bind t r g) e b y zero h at f =
      let is : r ≡ b = same_some refl at in
      sides_and (subst (ActsAtTypes p types o kinds vars y) (sym is) f) (sides_itself g h)
  one_side (bind t r g) e b y (suc i) h at f = sides_and (itself_acts r h) (one_side g e b y i h at f)

  -- the body, if this is its place
  pub one_body : {kinds : List Kind} {vars : List TypeTree} (g : Group) (e b y : TermTree) (i : ℕ) → AreTermTypes (setting_with p types) kinds vars → part_of_group g e i ≡ Some b → ActsAtTypes p types o kinds vars y b → ActsAtTypes p types o kinds vars (with_body g e i y) e
  one_body {kinds} {vars} no_bindings e b y zero h at f =
      let is : e ≡ b = same_some refl at in
      subst (ActsAtTypes p types o kinds vars y) (sym is) f
  one_body no_bindings e b y (suc i) h at f = itself_acts e h
  one_body (bind t r g) e b y zero h at f = itself_acts e h
  one_body (bind t r g) e b y (suc i) h at f = one_body g e b y i h at f

  elements_itself : {kinds : List Kind} {vars : List TypeTree} (es : Terms) → AreTermTypes (setting_with p types) kinds vars → ElementsAt p types o kinds vars es es
  elements_itself no_terms h = no_elements
  elements_itself (term_and e es) h = elements_and (itself_acts e h) (elements_itself es h)

  -- the elements
  pub one_element : {kinds : List Kind} {vars : List TypeTree} (es : Terms) (b y : TermTree) (i : ℕ) → AreTermTypes (setting_with p types) kinds vars → element_at es i ≡ Some b → ActsAtTypes p types o kinds vars y b → ElementsAt p types o kinds vars (with_element es i y) es
  one_element no_terms b y i h at f = no_elements
  one_element {kinds} {vars} (term_and e es) b y zero h at f =
      let is : e ≡ b = same_some refl at in
      elements_and (subst (ActsAtTypes p types o kinds vars y) (sym is) f) (elements_itself es h)
  one_element (term_and e es) b y (suc i) h at f = elements_and (itself_acts e h) (one_element es b y i h at f)

  pub alts_itself : {kinds : List Kind} {vars : List TypeTree} (u : TypeTree) (alts : Alts) → AreTermTypes (setting_with p types) kinds vars → AltsAt p types o kinds vars u alts alts
  alts_itself u no_alts h = no_alts_at
  alts_itself {kinds} {vars} u (alt q e more) h = alts_and (λ bound b. itself_acts e (typed_more (setting_with p types) kinds bound vars b.typed h)) (alts_itself u more h)

  -- the alternatives
  pub one_alt : {kinds : List Kind} {vars : List TypeTree} (u : TypeTree) (alts : Alts) (a : Branch) (y : TermTree) (i : ℕ) → AreTermTypes (setting_with p types) kinds vars → branch_at alts i ≡ Some a → BodyAt p types o kinds vars u a.pattern y a.body → AltsAt p types o kinds vars u (with_branch alts i y) alts
  one_alt u no_alts a y i h at f = no_alts_at
  one_alt {kinds} {vars} u (alt q e more) a y zero h at f =
      let c : Branch = record { pattern = q; body = e } in
      let is : c ≡ a = same_some refl at in
      alts_and (subst (λ (z : Branch). BodyAt p types o kinds vars u z.pattern y z.body) (sym is) f) (alts_itself u more h)
  one_alt {kinds} {vars} u (alt q e more) a y (suc i) h at f =
      alts_and (λ bound b. itself_acts e (typed_more (setting_with p types) kinds bound vars b.typed h)) (one_alt u more a y i h at f)
