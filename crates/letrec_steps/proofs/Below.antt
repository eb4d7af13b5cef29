-- Steps at a letrec and below it.
use Rattle.std.proofs.Common.{◌≡◌, ◌⊎◌, inl, inr, ℕ, ◌<◌, subst, List, [], ◌∷◌, Some, Contains}
use Rattle.chw_types.specs.TypeTree.{TypeTree}
use Rattle.chw_terms.specs.declared.rule.Rule.{Rule}
use Rattle.chw_terms.specs.TermTree.{TermTree, var, letrec, Group, size_of}
use Rattle.chw_typing.specs.Groups.{binding_at}
use Rattle.chw_typing.specs.Paths.{IsEarlier}
use Rattle.rewriting.proofs.OneStep.{leads, one_below}
use Rattle.rewriting.proofs.OneWay.{one_active}
use Rattle.rewriting.specs.Active.{Below, right_side, let_body, IsActive, at_it, below}
use Rattle.rewriting.specs.Instances.{HasInstance}
use Rattle.rewriting.specs.Origins.{Origins}
use Rattle.rewriting.specs.Shapes.{IsVariable}
use Rattle.rewriting.specs.Spots.{Spot, HasLets}
use Rattle.rewriting.specs.Steps.{number_of}
use Rattle.quiet_sides.proofs.Passed.{quiet_sides_are_passed}
use Rattle.quiet_sides.proofs.Still.{no_variable_instance}
use Rattle.step_order.proofs.Moves.{InLet, in_let, below_head}
use Rattle.letrec_steps.specs.Local.{side_spot, body_spot, IsTypedHere, AreQuietBefore}
use Rattle.letrec_steps.specs.Local.{HasNoInstance, IsFirstOn, IsStepBelow, HasNoneBelow}
use Rattle.letrec_steps.specs.LetrecLaws.{FirstOnIsFirst, SideIsFirstBelow}
use Rattle.letrec_steps.specs.LetrecLaws.{QuietLetrecHasNone, VariableHasNone}
use Rattle.letrec_steps.proofs.Paths.{nothing_before_root, IsBeforeChild, itself, in_child}
use Rattle.letrec_steps.proofs.Paths.{before_child}
use Rattle.letrec_steps.proofs.Sides.{binding_before, binding_in, IsPart, a_side, the_body, part_is}

-- by the path, then by the rule
abbrev IsBefore : List ℕ → Rule → List ℕ → Rule → Type 0
IsBefore q s path r = IsEarlier q path ⊎ ((q ≡ path) × (number_of s < number_of r))

-- a path leads to one term, so to one instance
instance_there : (rules : List Rule) (o : Origins) (at to : Spot) (e y new : TermTree)
    (q path : List ℕ) (r : Rule)
    → IsActive o at e path to y → q ≡ path → IsStepBelow rules o at e q r new
    → HasInstance o to r y new
instance_there rules o at to e y new q path r a is s =
    let there : IsActive o at e path s.to s.term =
    subst (λ w. IsActive o at e w s.to s.term) is s.active
    in
    let same = one_active there a in
    subst (λ f. HasInstance o to r f new) same.1
    (subst (λ t. HasInstance o t r s.term new) same.0 s.made_new)

instance_here : (rules : List Rule) (o : Origins) (at : Spot) (e new : TermTree) (q : List ℕ)
    (r : Rule)
    → q ≡ [] → IsStepBelow rules o at e q r new → HasInstance o at r e new
instance_here rules o at e new q r is s =
    let here : IsActive o at e [] at e = at_it in
    instance_there rules o at at e e new q [] r here is s

-- at the term itself
none_before_term : (rules : List Rule) (o : Origins) (at : Spot) (e new : TermTree) (r : Rule)
    → IsFirstOn rules o at e r new
    → (q : List ℕ) (s : Rule) (other : TermTree)
    → IsStepBelow rules o at e q s other → IsBefore q s [] r → ⊥
none_before_term rules o at e new r here q s other step (inl l) = nothing_before_root q l
none_before_term rules o at e new r here q s other step (inr b) =
    here.first s other step.is_rule b.1 (instance_here rules o at e other q s b.0 step)

pub first_on_is_first : FirstOnIsFirst
first_on_is_first rules o at e new r here =
    record {
      step =
          record {
            is_rule = here.is_rule;
            to = at;
            term = e;
            active = at_it;
            made_new = here.made_new;
          };
      first = none_before_term rules o at e new r here;
    }

-- below a right side that is quiet
quiet_passed : (rules : List Rule) (o : Origins) (at : Spot) (g : Group) (e : TermTree) (k : ℕ)
    → IsTypedHere o at (letrec g e) → AreQuietBefore g k
    → (j : ℕ) (c : TypeTree × TermTree) (rest : List ℕ) (s : Rule) (other : TermTree)
    → j < k → binding_at g j ≡ Some c
    → IsStepBelow rules o at (letrec g e) (j ∷ rest) s other → ⊥
quiet_passed rules o at g e k typed quiet j c rest s other l is step =
    quiet_sides_are_passed o at (letrec g e) typed.type j typed.sound typed.vars typed.has
    (c, (is, quiet j c l is)) rest step.to step.term s other step.active step.made_new

-- before a right side
module _ (rules : List Rule) (o : Origins) (at : Spot) (g : Group) (e new : TermTree) (k : ℕ)
    (b : TypeTree × TermTree) (r : Rule) (typed : IsTypedHere o at (letrec g e))
    (idle : HasNoInstance rules o at (letrec g e)) (quiet : AreQuietBefore g k)
    (is : binding_at g k ≡ Some b) where
  none_earlier : (q : List ℕ) (s : Rule) (other : TermTree)
      → IsStepBelow rules o at (letrec g e) q s other → IsBeforeChild k q → ⊥
  none_earlier q s other step (itself root) =
      idle s other step.is_rule (instance_here rules o at (letrec g e) other q s root step)
  none_earlier q s other step (in_child j rest l path) =
      let c = binding_before g k j b is l in
      quiet_passed rules o at g e k typed quiet j c.0 rest s other l c.1
      (subst (λ w. IsStepBelow rules o at (letrec g e) w s other) path step)

  none_before_side : IsActive o at (letrec g e) (k ∷ []) (side_spot at g) b.1
      → IsFirstOn rules o (side_spot at g) b.1 r new
      → (q : List ℕ) (s : Rule) (other : TermTree)
      → IsStepBelow rules o at (letrec g e) q s other → IsBefore q s (k ∷ []) r → ⊥
  none_before_side side here q s other step (inl l) =
      none_earlier q s other step (before_child q k l)
  none_before_side side here q s other step (inr h) =
      here.first s other step.is_rule h.1
      (instance_there rules o at (side_spot at g) (letrec g e) b.1 other q (k ∷ []) s side h.0
      step)

pub side_is_first_below : SideIsFirstBelow
side_is_first_below rules o at g e new k b r lets typed idle quiet is named here =
    let side : IsActive o at (letrec g e) (k ∷ []) (side_spot at g) b.1 =
    below (right_side lets is named) at_it
    in record {
      step =
          record {
            is_rule = here.is_rule;
            to = side_spot at g;
            term = b.1;
            active = side;
            made_new = here.made_new;
          };
      first = none_before_side rules o at g e new k b r typed idle quiet is side here;
    }

-- a letrec with quiet right sides
module _ (rules : List Rule) (o : Origins) (at : Spot) (g : Group) (e : TermTree)
    (lets : HasLets at.mode) (typed : IsTypedHere o at (letrec g e))
    (idle : HasNoInstance rules o at (letrec g e)) (quiet : AreQuietBefore g (size_of g))
    (body : HasNoneBelow rules o (body_spot at g) e) where
  none_in_part : {mid to : Spot} {y x : TermTree} {rest : List ℕ}
      (i : ℕ) (s : Rule) (other : TermTree)
      → Contains rules s → Below o at (letrec g e) (i ∷ []) mid y → IsActive o mid y rest to x
      → HasInstance o to s x other → IsPart g i → ⊥
  none_in_part {mid} {to} {y} {x} {rest} i s other c d a h (a_side b is) =
      let whole : IsActive o at (letrec g e) (i ∷ rest) to x = below d a in
      quiet_passed rules o at g e (size_of g) typed quiet i b rest s other (binding_in g i b is) is
      (record { is_rule = c; to = to; term = x; active = whole; made_new = h })
  none_in_part {mid} {to} {y} {x} {rest} i s other c d a h (the_body is) =
      let last : Below o at (letrec g e) (size_of g ∷ []) mid y =
      subst (λ n. Below o at (letrec g e) (n ∷ []) mid y) is d
      in
      let same =
      one_below o at mid (body_spot at g) (letrec g e) y e (size_of g ∷ []) last (let_body lets)
      in
      let there : IsActive o (body_spot at g) e rest to x =
      subst (λ f. IsActive o (body_spot at g) f rest to x) same.1
      (subst (λ t. IsActive o t y rest to x) same.0 a)
      in
      body rest s other
      (record { is_rule = c; to = to; term = x; active = there; made_new = h })

  none_below : {mid to : Spot} {y x : TermTree} {p rest : List ℕ} (s : Rule) (other : TermTree)
      → Contains rules s → Below o at (letrec g e) p mid y → IsActive o mid y rest to x
      → HasInstance o to s x other → InLet o at g e p mid y → ⊥
  none_below {y = y} s other c d a h (in_let {i = i} part moves) =
      none_in_part i s other c d a h (part_is g e y i part)

  none_at : {to : Spot} {x : TermTree} {path : List ℕ} (s : Rule) (other : TermTree)
      → Contains rules s → IsActive o at (letrec g e) path to x → HasInstance o to s x other → ⊥
  none_at s other c at_it h = idle s other c h
  none_at s other c (below d a) h = none_below s other c d a h (below_head d)

pub quiet_letrec_has_none : QuietLetrecHasNone
quiet_letrec_has_none rules o at g e lets typed idle quiet body path s other step =
    none_at rules o at g e lets typed idle quiet body s other step.is_rule step.active
    step.made_new

-- a variable
none_at_variable : {o : Origins} {at to : Spot} {x : TermTree} {path : List ℕ} (n : ℕ) (s : Rule)
    (other : TermTree)
    → IsActive o at (var n) path to x → HasInstance o to s x other → ⊥
none_at_variable n s other at_it h =
    let v : IsVariable (var n) = tt in no_variable_instance v h
none_at_variable n s other (below d a) h = leads d

none_at_name : (rules : List Rule) (o : Origins) (at : Spot) (e : TermTree) → IsVariable e
    → HasNoneBelow rules o at e
none_at_name rules o at (var n) v path s other step =
    none_at_variable n s other step.active step.made_new
none_at_name rules o at _ v path s other step = absurd v

pub variable_has_none : VariableHasNone
variable_has_none = none_at_name
