-- From a place at rest to those below it.
use Rattle.std.proofs.Common.{◌≡◌, refl, sym, subst, ℕ, suc, Bool, true, false, List, [], ◌∷◌, ◌++◌, Some, map, reverse, if◌then◌else◌}
use Rattle.std.specs.List.{slice_get, AllByRecursion}
use Rattle.chw_types.specs.declared.declarations.Data.{Data}
use Rattle.chw_types.specs.Arguments.{arguments}
use Rattle.chw_types.specs.TypeMoves.{sub}
use Rattle.chw_types.specs.TypeTree.{TypeTree, data_of}
use Rattle.type_ports.specs.Representable.{Representable}
use Rattle.chw_terms.specs.declared.scene.Mode.{Mode}
use Rattle.chw_terms.specs.declared.scene.Mode.TheVariants.{V, C, HV, HC, K}
use Rattle.chw_terms.specs.declared.term.Pattern.{Pattern}
use Rattle.chw_terms.specs.TermTree.{TermTree, Group, Alts, letrec}
use Rattle.chw_typing.specs.HeadTypes.{PatternOf, of_con, of_lit, of_any}
use Rattle.chw_typing.specs.Scopes.{with_more, declared}
use Rattle.chw_typing.proofs.Complete.{part_complete}
use Rattle.chw_typing.proofs.Heads.{is_constructor}
use Rattle.chw_typing.proofs.Lists.{reverse_cons}
use Rattle.chw_typing.proofs.NamedParts.{fields_representable}
use Rattle.rewriting.specs.Active.{Below, right_side, let_body, constant_body, scrutinee, branch, of_constructor, of_words, of_element, of_vector, demanded, begins, at_it, below}
use Rattle.rewriting.specs.Named.{IsNamed}
use Rattle.rewriting.specs.Origins.{Origins}
use Rattle.rewriting.specs.SceneLaws.{NamedIsDecided}
use Rattle.rewriting.specs.Spots.{Spot, HasLets, head_mode, scrutinee_mode, is_of_values}
use Rattle.rewriting.proofs.Around.{active_typed}
use Rattle.rewriting.proofs.Parts.{below_is_part}
use Rattle.rest_places.specs.Rest.{IsAtRest, IsRestPlace, ground}
use Rattle.rest_places.proofs.Lets.{bindings_named, no_constant_letrec}

-- what holds of each in two lists, and in a list that is turned
all_append : {X : Type 0} (P : X → Type 0) (xs ys : List X) → AllByRecursion P xs → AllByRecursion P ys → AllByRecursion P (xs ++ ys)
all_append P [] ys h g = g
all_append P (x ∷ xs) ys h g = (h.0, all_append P xs ys h.1 g)

all_reverse : {X : Type 0} (P : X → Type 0) (xs : List X) → AllByRecursion P xs → AllByRecursion P (reverse xs)
all_reverse P [] h = tt
all_reverse P (x ∷ xs) h = subst (AllByRecursion P) (sym (reverse_cons x xs)) (all_append P (reverse xs) (x ∷ []) (all_reverse P xs h.1) (h.0, tt))

pub all_with_more : (P : TypeTree → Type 0) (new vars : List TypeTree) → AllByRecursion P new → AllByRecursion P vars → AllByRecursion P (with_more new vars)
all_with_more P new vars h g = all_append P (reverse new) vars (all_reverse P new h) g

-- the mode of the bodies stays
pub ground_of_lets : (m : Mode) → HasLets m → ground m ≡ m
ground_of_lets V l = refl
ground_of_lets C l = refl
ground_of_lets HV l = absurd l
ground_of_lets HC l = absurd l
ground_of_lets K l = absurd l

pub ground_of_head : (m : Mode) → ground m ≡ ground (head_mode m)
ground_of_head V = refl
ground_of_head C = refl
ground_of_head HV = refl
ground_of_head HC = refl
ground_of_head K = refl

in_circuit : (b : Bool) → C ≡ ground (if b then K else HC)
in_circuit true = refl
in_circuit false = refl

pub ground_of_scrutinee : (datas : List Data) (m : Mode) (alts : Alts) → ground m ≡ ground (scrutinee_mode datas m alts)
ground_of_scrutinee datas V alts = refl
ground_of_scrutinee datas C alts = in_circuit (is_of_values datas alts)
ground_of_scrutinee datas HV alts = refl
ground_of_scrutinee datas HC alts = in_circuit (is_of_values datas alts)
ground_of_scrutinee datas K alts = refl

-- the fields of a representable type are representable
all_mapped : {X Y : Type 0} (P : Y → Type 0) (f : X → Y) (xs : List X) → ((i : ℕ) (x : X) → slice_get xs i ≡ Some x → P (f x)) → AllByRecursion P (map f xs)
all_mapped P f [] h = tt
all_mapped P f (x ∷ xs) h = (h 0 x refl, all_mapped P f xs (λ i y q. h (suc i) y q))

pub fields_named : {datas : List Data} {u : TypeTree} {q : Pattern} {fields : List TypeTree} → PatternOf datas u q fields → Representable datas u → AllByRecursion (Representable datas) fields
fields_named {datas} (of_con {d = d} {c = c} {ts = ts} it is of n) r =
    let at = is_constructor datas c.number it is in
    let whole : Representable datas (data_of it.of ts) = subst (λ d. Representable datas (data_of d ts)) (sym of) r in
    all_mapped (Representable datas) (λ f. sub f (arguments ts)) it.decl.fields
    (λ i f g. fields_representable it.it f at.data_type (record { con = at.place; of = it.decl; is_con = at.decl; at = i; is_field = g }) whole)
fields_named (of_lit l s) r = tt
fields_named of_any r = tt

module _ (decided : NamedIsDecided) {o : Origins} where
  -- in a letrec
  in_letrec : {at : Spot} {t : TypeTree} (g : Group) (e : TermTree) → HasLets at.mode → IsRestPlace o at (letrec g e) t → AllByRecursion (IsNamed o.program.datas (ground at.mode)) (with_more (declared g) at.vars)
  in_letrec {at} {t} g e l p =
      all_with_more (IsNamed o.program.datas (ground at.mode)) (declared g) at.vars
      (subst (λ m. AllByRecursion (IsNamed o.program.datas m) (declared g)) (sym (ground_of_lets at.mode l)) (bindings_named decided o at g e t l p))
      p.named

  -- in constants
  in_constant : {at : Spot} {e : TermTree} {t : TypeTree} → at.mode ≡ K → IsRestPlace o at e t → AllByRecursion (IsNamed o.program.datas (ground K)) at.vars
  in_constant {at} k p = subst (λ m. AllByRecursion (IsNamed o.program.datas (ground m)) at.vars) k p.named

  -- the variables in scope
  scope_named : {at at' : Spot} {e x : TermTree} {t : TypeTree} {path : List ℕ} → Below o at e path at' x → IsRestPlace o at e t → AllByRecursion (IsNamed o.program.datas (ground at'.mode)) at'.vars
  scope_named (right_side {g = g} {e = e} l h n) p = in_letrec g e l p
  scope_named (let_body {g = g} {e = e} l) p = in_letrec g e l p
  scope_named {at = at} {t = t} (constant_body {g = g} {e = e} k) p = absurd (no_constant_letrec o at g e t k p)
  scope_named {at = at} (scrutinee {alts = alts} d n) p = subst (λ m. AllByRecursion (IsNamed o.program.datas m) at.vars) (ground_of_scrutinee o.program.datas at.mode alts) p.named
  scope_named {at = at} (branch {fields = fields} m h n s q) p =
      all_with_more (Representable o.program.datas) fields at.vars (fields_named q n) (subst (λ m. AllByRecursion (IsNamed o.program.datas (ground m)) at.vars) m p.named)
  scope_named (of_constructor c i args k h l s) p = in_constant k p
  scope_named (of_words q i args k w l m s) p = in_constant k p
  scope_named (of_element q i args k w m s) p = in_constant k p
  scope_named (of_vector k s) p = in_constant k p
  scope_named {at = at} (demanded d) p = subst (λ m. AllByRecursion (IsNamed o.program.datas m) at.vars) (ground_of_head at.mode) p.named
  scope_named {at = at} (begins q i j args m b r s h) p = subst (λ m. AllByRecursion (IsNamed o.program.datas (ground m)) at.vars) m p.named

-- below a place at rest there are places at rest
pub rest_of_below : {o : Origins} {at at' : Spot} {e x : TermTree} {path : List ℕ} → Below o at e path at' x → IsAtRest o at e → IsAtRest o at' x
rest_of_below {path = path} b r =
    record {
      still = λ q to y new rule act has. r.still (path ++ q) to y new rule (below b act) has;
      free = λ q to y block act has. r.free (path ++ q) to y block (below b act) has;
    }

pub rest_below : NamedIsDecided → (o : Origins) (at at' : Spot) (e x : TermTree) (t : TypeTree) (path : List ℕ) → IsRestPlace o at e t → Below o at e path at' x → (u : TypeTree) × IsRestPlace o at' x u
rest_below decided o at at' e x t path p b =
    let there = active_typed (below b at_it) p.place.sound p.place.vars t p.has in (
      there.1.0,
      record {
        place = record { sound = p.place.sound; vars = there.0 };
        acyclic = p.acyclic;
        has = there.1.1;
        complete = part_complete path o.program.datas e x p.complete (below_is_part b);
        named = scope_named decided b p;
        rest = rest_of_below b p.rest;
      },
    )
