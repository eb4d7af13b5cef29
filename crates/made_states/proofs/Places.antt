-- Places hang on the made definitions that a term names, and on no others.
use Rattle.std.proofs.Common.{ℕ, List, [], map}
use Rattle.chw_types.specs.TypeTree.{TypeTree}
use Rattle.chw_prims.specs.declared.prim.Primitive.{Primitive as Prim}
use Rattle.chw_terms.specs.TermTree.{TermTree, prim}
use Rattle.chw_terms.specs.declared.program.Program.{Program}
use Rattle.chw_terms.specs.declared.term.Arg.{Arg}
use Rattle.chw_typing.specs.Typing.{HasType}
use Rattle.chw_typing.specs.Finding.{Finds}
use Rattle.rewriting.specs.Named.{UnderLambdas, under_none, under_one}
use Rattle.rewriting.specs.Origins.{MadeOf, Origins, setting_at}
use Rattle.rewriting.proofs.Parts.{active_is_part, below_is_part}
use Rattle.rewriting.specs.Active.{Below, Demands, IsActive, IsPlaceOf, at_it, begins, below, branch, constant_body, demanded, let_body, of_constructor, of_element, of_vector, of_words, right_side, scrutinee}
use Rattle.rewriting.specs.Spots.{Spot}
use Rattle.made_states.proofs.Names.{Alike, NamesOnly, argument_names, found_there, mapped_alike, part_names, typed_there}

-- what rules see of the program with these made definitions
abbrev pub seen : Program → List MadeOf → Origins
seen p made = record { program = p; made = made }

-- below leading lambdas no others are named
pub under_names : (P : ℕ → Type 0) {vars vs : List TypeTree} {e x : TermTree} {t : TypeTree} {path : List ℕ} → UnderLambdas vars e t path vs x → NamesOnly P e → NamesOnly P x
under_names P (under_none a) h = h
under_names P (under_one s r) h = under_names P r h

module _ (p : Program) (xs ys : List MadeOf) (P : ℕ → Type 0) (alike : Alike P xs ys) where
  pub typed_seen : {vars : List TypeTree} {e : TermTree} {t : TypeTree} → NamesOnly P e → HasType (setting_at (seen p xs)) [] vars e t → HasType (setting_at (seen p ys)) [] vars e t
  typed_seen h d = typed_there d (map (λ (m : MadeOf). m.ty) ys) P (mapped_alike (λ (m : MadeOf). m.ty) P xs ys alike) h

  pub found_seen : {vars : List TypeTree} {e : TermTree} {t : TypeTree} → NamesOnly P e → Finds (setting_at (seen p xs)) [] vars e t → Finds (setting_at (seen p ys)) [] vars e t
  found_seen h d = found_there d (map (λ (m : MadeOf). m.ty) ys) P (mapped_alike (λ (m : MadeOf). m.ty) P xs ys alike) h

  pub demands_seen : {at : Spot} {q : Prim} {args : List Arg} {i : ℕ} {a : TermTree} → NamesOnly P a → Demands (seen p xs) at q args i a → Demands (seen p ys) at q args i a
  demands_seen h d = record { no_constant = d.no_constant; looks = d.looks; is = d.is; type = d.type; has = typed_seen h d.has; unnamed = d.unnamed }

  below_seen : {at at' : Spot} {e x : TermTree} {path : List ℕ} → Below (seen p xs) at e path at' x → NamesOnly P e → Below (seen p ys) at e path at' x
  below_seen (right_side l b n) h = right_side l b n
  below_seen (let_body l) h = let_body l
  below_seen (constant_body k) h = constant_body k
  below_seen (scrutinee d n) h = scrutinee (typed_seen h.0 d) n
  below_seen (branch v s n b q) h = branch v s n b q
  below_seen (of_constructor c i args k s l r) h = of_constructor c i args k s l r
  below_seen (of_words q i args k w l m r) h = of_words q i args k w l m r
  below_seen (of_element q i args k w m r) h = of_element q i args k w m r
  below_seen (of_vector k s) h = of_vector k s
  below_seen (demanded {p = q} {i = i} {args = args} {a = a} d) h = demanded (demands_seen (argument_names P args (prim q) a i h d.is) d)
  below_seen (begins q i j args m b t v r) h = begins q i j args m b t v r

  active_seen : {at at' : Spot} {e x : TermTree} {path : List ℕ} → IsActive (seen p xs) at e path at' x → NamesOnly P e → IsActive (seen p ys) at e path at' x
  active_seen at_it h = at_it
  active_seen (below {e = e} {x = x} {p = path} b r) h = below (below_seen b h) (active_seen r (part_names path P e x h (below_is_part b)))

  -- a place of a body that names these alone
  pub place_seen : (it : MadeOf) (body x : TermTree) (path : List ℕ) (at : Spot) → NamesOnly P body → IsPlaceOf (seen p xs) it body path at x → IsPlaceOf (seen p ys) it body path at x
  place_seen it body x path at h place =
      record { root = place.root; vars = place.vars; term = place.term; under = place.under; rest = place.rest; active = active_seen place.active (under_names P place.under h); is = place.is }

  pub place_names : (it : MadeOf) (body x : TermTree) (path : List ℕ) (at : Spot) → NamesOnly P body → IsPlaceOf (seen p xs) it body path at x → NamesOnly P x
  place_names it body x path at h place = part_names place.rest P place.term x (under_names P place.under h) (active_is_part place.active)
